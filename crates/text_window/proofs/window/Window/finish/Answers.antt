use Rattle.std.proofs.Common.{ℕ, sym, subst}
use Rattle.text_window.specs.Texts.{IsFinished, is_output}
use Rattle.text_window.proofs.Streams.{is_finished}
use Rattle.text_window.proofs.window.Window.finish.Goals as goal

pub returns-clause-put : goal.returns-clause-put
returns-clause-put g c =
    let w = c.self.inside in
    let T = g.N.Naming.texts in
    let job = g.N.Naming.job in
    let bytes = g.O.Sink.bytes w.sink in
    let counted = sym (c.audit.ensures.whole c.requires.parts.0) in
    let past = sym (c.audit-2.ensures.whole c.requires.parts.1) in
    subst (λ (n : ℕ). IsFinished T job n c.args.all.now.above.amount (is_output w.stop) bytes) counted
    (subst (λ (n : ℕ). IsFinished T job w.delivered.total n (is_output w.stop) bytes) past
    (is_finished T job w.stop w.largest w.next w.waiting bytes (g.O.Sink.faults w.sink) w.delivered.total w.above.total c.self.invariant.1))
