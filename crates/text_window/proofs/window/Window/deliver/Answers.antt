use Rattle.std.proofs.Common.{◌≡◌, ℕ, ◌+◌, ◌-◌, ◌<◌, sym, ap, ◌∙◌, subst, arith}
use Rattle.text_window.specs.Texts.{is_output}
use Rattle.text_window.proofs.Streams.{takes_in, goes_on, breaks, not_stopped}
use Rattle.text_window.proofs.window.Window.deliver.Goals as goal
use Rattle.text_window.proofs.window.Window.deliver.Goals.{in-Ok, in-Err}

pub put_waiting-requires-clause-stream : goal.put_waiting-requires-clause-stream
put_waiting-requires-clause-stream g c =
    let w = c.self.inside in
    let free = c.put_in.ensures.answer.0 c.if-not-put_in.false in
    let put = c.put_in.ensures.put c.if-not-put_in.false in
    let on = ap is_output (not_stopped w.stop (sym c.is_some.ensures ∙ c.if-is_some.false)) in
    let at : c.args.chunk ≡ w.next + (c.args.chunk - w.next) = omega (arith, c.if-chunk-self.false) in
    (takes_in g.N.Naming.texts g.N.Naming.job w.stop w.largest c.max-self-inside.result w.next (c.args.chunk - w.next) c.args.chunk c.args.place w.waiting c.put_in.new.self c.args.text.now.items (g.O.Sink.bytes w.sink) (g.O.Sink.faults w.sink) w.delivered.total w.above.total
    c.self.invariant.1 on at c.requires.chunk c.requires.text free.0 free.1 put c.max-self-inside.ensures).0

pub invariant_of-self-2 : goal.invariant_of-self-2
invariant_of-self-2 g c =
    let w = c.self.inside in
    let free = c.put_in.ensures.answer.0 c.if-not-put_in.false in
    let put = c.put_in.ensures.put c.if-not-put_in.false in
    let on = ap is_output (not_stopped w.stop (sym c.is_some.ensures ∙ c.if-is_some.false)) in
    let at : c.args.chunk ≡ w.next + (c.args.chunk - w.next) = omega (arith, c.if-chunk-self.false) in
    let base = c.self.invariant.0 in
    let t = takes_in g.N.Naming.texts g.N.Naming.job w.stop w.largest c.max-self-inside.result w.next (c.args.chunk - w.next) c.args.chunk c.args.place w.waiting c.put_in.new.self c.args.text.now.items (g.O.Sink.bytes w.sink) (g.O.Sink.faults w.sink) w.delivered.total w.above.total
    c.self.invariant.1 on at c.requires.chunk c.requires.text free.0 free.1 put c.max-self-inside.ensures in
    let n = c.put_waiting.new in
    let a = c.count_above.ensures in
    let past : g.N.Naming.job.base < c.args.place → 0 < c.count_above.new.book.total = (λ h. let more = (a.past (subst (λ (b : ℕ). b < c.args.place) (sym base) h)).0 in omega (arith, more)) in
    elim c.match-put_waiting.branch [
      | in-Ok b ↦ rw b.self-inside-is (
        base,
        goes_on g.N.Naming.texts g.N.Naming.job w.stop w.largest c.max-self-inside.result w.next n.next c.args.place w.waiting c.put_in.new.self n.waiting (g.O.Sink.bytes w.sink) (g.O.Sink.bytes n.sink) (g.O.Sink.faults w.sink) (g.O.Sink.faults n.sink) w.delivered.total c.add.new.self.total w.above.total c.count_above.new.book.total
            c.self.invariant.1 on c.max-self-inside.ensures t.1 b.in-Ok.ensures.goes_on b.in-Ok.ensures.quiet b.in-Ok.ensures.counted b.in-Ok.ensures.first c.add.ensures.total past a.later,
      )
      | in-Err b ↦ rw b.self-inside-is (
        base,
        breaks g.N.Naming.texts g.N.Naming.job w.stop w.largest c.max-self-inside.result w.next n.next c.args.place w.waiting n.waiting (g.O.Sink.bytes w.sink) (g.O.Sink.bytes n.sink) (g.O.Sink.faults w.sink) (g.O.Sink.faults n.sink) w.delivered.total c.add.new.self.total w.above.total c.count_above.new.book.total
            c.self.invariant.1 on c.max-self-inside.ensures b.in-Err.ensures.broken b.in-Err.ensures.rose b.in-Err.ensures.first past a.later,
      )
    ]
