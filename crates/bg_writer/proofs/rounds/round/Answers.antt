use Rattle.std.proofs.Common.{◌∙◌, ◌+◌, ◌%◌, ℕ, sym, ap, subst, arith}
use Rattle.pin_core.specs.State.{link}
use Rattle.buffer_frames.proofs.Notes.{notes_on}
use Rattle.backend_pass.proofs.Seated.{same_on}
use Rattle.backend_pass.proofs.Keeping.{callers_on}
use Rattle.bg_writer.proofs.Going.{Going, Goes, going_begun, going_on, nothing_fails, notes_held, pages_few, refuses_going, stops_going}
use Rattle.bg_writer.proofs.rounds.round.Goals as goal

pub loop-looked-init : goal.loop-looked-init
loop-looked-init g c = let h = c.hand-hand.ensures in record { few = omega arith; going = going_begun {L = g.row.L.Denot} {G = g.row.G.Denot} g.L.BlockLane.contents c.args.manager.now c.args.pass.now c.hand-hand.new.self c.hand-hand.result h.belongs h.callers h.new h.did }

pub returns-in-Err-clause-same : goal.returns-in-Err-clause-same
returns-in-Err-clause-same g c = same_on c.args.pass.now c.loop-looked.pass c.sync_one.new.self c.loop-looked.invariant.going.same c.sync_one.ensures.same

pub returns-in-Err-clause-callers : goal.returns-in-Err-clause-callers
returns-in-Err-clause-callers g c = callers_on c.args.pass.now c.loop-looked.pass c.sync_one.new.self c.loop-looked.invariant.going.callers c.sync_one.ensures.callers

pub returns-in-Err-clause-pins : goal.returns-in-Err-clause-pins
returns-in-Err-clause-pins g c h = c.sync_one.ensures.pins h ∙ c.loop-looked.invariant.going.pins h

pub returns-in-Err-clause-notes : goal.returns-in-Err-clause-notes
returns-in-Err-clause-notes g c h = notes_on (link c.args.pass.now.view h) (link c.loop-looked.pass.view h) (link c.sync_one.new.self.view h) (c.loop-looked.invariant.going.notes h) (notes_held {L = g.row.L.Denot} {G = g.row.G.Denot} g.L.BlockLane.contents c.args.manager.now c.loop-looked.pass c.sync_one.new.self c.frame_past-frame.result c.sync_one.ensures.others c.sync_one.ensures.notes h)

pub returns-in-Err-clause-rounds : goal.returns-in-Err-clause-rounds
returns-in-Err-clause-rounds g c =
    stops_going {L = g.row.L.Denot} {G = g.row.G.Denot} g.L.BlockLane.contents c.args.manager.now c.args.pass.now c.loop-looked.pass c.sync_one.new.self c.hand-hand.result c.loop-looked.looked c.loop-looked.written c.frame_past-frame.result c.in-Err.why c.loop-looked.invariant.going (c.frame_past-frame.ensures ∙ ap (λ (n : ℕ). (c.hand-hand.result + c.loop-looked.looked) % n) c.frames-frames.ensures)
    (let a = c.loop-looked-test.true in let b = c.frames-frames.ensures in omega arith) (let a = c.loop-looked.invariant.few in let b = c.if-written-eq-MOST_WRITES.false in omega arith) c.in-Err.ensures.syncs c.in-Err.ensures.ended

pub returns-in-Err-clause-cause : goal.returns-in-Err-clause-cause
returns-in-Err-clause-cause g c = refuses_going {L = g.row.L.Denot} {G = g.row.G.Denot} g.L.BlockLane.contents c.args.manager.now c.args.pass.now c.loop-looked.pass c.sync_one.new.self c.hand-hand.result c.loop-looked.looked c.loop-looked.written c.frame_past-frame.result c.in-Err.why c.loop-looked.invariant.going c.in-Err.ensures.syncs c.in-Err.ensures.ended c.in-Err.ensures.met

pub returns-in-Err-clause-short : goal.returns-in-Err-clause-short
returns-in-Err-clause-short g c n = c.in-Err.ensures.short record { up = n.up; met = n.met ∙ sym c.loop-looked.invariant.going.met }

pub returns-in-Err-clause-complete : goal.returns-in-Err-clause-complete
returns-in-Err-clause-complete g c n = c.in-Err.ensures.complete (nothing_fails {L = g.row.L.Denot} {G = g.row.G.Denot} g.L.BlockLane.contents c.args.manager.now c.args.pass.now c.loop-looked.pass c.sync_one.new.self c.hand-hand.result c.loop-looked.looked c.loop-looked.written c.loop-looked.invariant.going n)

pub overflow_add-written : goal.overflow_add-written
overflow_add-written g c = let a = c.loop-looked.invariant.few in let b = pages_few c.in-Ok.synced in let e = c.pages-written.ensures in omega arith

pub loop-looked-preserved : goal.loop-looked-preserved
loop-looked-preserved g c =
    let s = c.in-Ok.ensures in
    let goes : Goes {L = g.row.L.Denot} {G = g.row.G.Denot} g.L.BlockLane.contents c.args.manager.now c.loop-looked.pass c.sync_one.new.self c.frame_past-frame.result c.in-Ok.synced = record { belongs = s.belongs; same = s.same; callers = s.callers; mark = s.mark; others = s.others; pins = s.pins; notes = s.notes; syncs = s.syncs; met = s.met } in
    record {
      few = (let a = c.loop-looked.invariant.few in let d = c.if-written-eq-MOST_WRITES.false in let b = pages_few c.in-Ok.synced in let e = c.pages-written.ensures in omega arith);
      going = subst (λ (n : ℕ). Going {L = g.row.L.Denot} {G = g.row.G.Denot} g.L.BlockLane.contents c.args.manager.now c.args.pass.now c.sync_one.new.self c.hand-hand.result (c.loop-looked.looked + 1) (c.loop-looked.written + n)) (sym c.pages-written.ensures)
          (going_on {L = g.row.L.Denot} {G = g.row.G.Denot} g.L.BlockLane.contents c.args.manager.now c.args.pass.now c.loop-looked.pass c.sync_one.new.self c.hand-hand.result c.loop-looked.looked c.loop-looked.written c.frame_past-frame.result c.in-Ok.synced c.loop-looked.invariant.going (c.frame_past-frame.ensures ∙ ap (λ (n : ℕ). (c.hand-hand.result + c.loop-looked.looked) % n) c.frames-frames.ensures) goes);
    }
