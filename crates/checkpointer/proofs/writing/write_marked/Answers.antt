use Rattle.std.proofs.Common.{List, length, ap, ◌∙◌, refl, subst, arith}
use Rattle.std.proofs.lemmas.List.{take_all}
use Rattle.backend_pass.specs.declared.marked.MarkedFrame.{MarkedFrame}
use Rattle.checkpointer.specs.Writes.{WritesInOrder, nothing}
use Rattle.checkpointer.proofs.Keeping.{writes_none, writes_on}
use Rattle.checkpointer.proofs.MarkedFrames.{notes_none, notes_on, one_written}
use Rattle.checkpointer.proofs.Ordered.{order_more, order_up_to}
use Rattle.checkpointer.proofs.Stopping.{fails_later, stops_on}
use Rattle.checkpointer.proofs.writing.write_marked.Goals as goal

pub returns-in-Err-clause-stops : goal.returns-in-Err-clause-stops
returns-in-Err-clause-stops g c =
    let i = c.loop-place.invariant in (
      _,
      stops_on {L = g.row.L.Denot} {G = g.row.G.Denot} g.L.BlockLane.contents c.args.manager.now c.loop-place.written _ _ _ c.args.pass.now c.loop-place.pass c.write_frame.new.pass c.in-Err.why i.writes
          (λ x needed. order_up_to {L = g.row.L.Denot} {G = g.row.G.Denot} g.L.BlockLane.contents c.args.manager.now.table c.loop-place.place c.args.pass.now.marked c.marked.result.now _ (c.marked.ensures ∙ i.marked) (let long = ap length c.marked-place-end.ensures in omega arith) c.args.pass.now.view c.loop-place.pass.view x i.order needed)
          c.in-Err.ensures.stops,
    )

pub returns-clause-in_order : goal.returns-clause-in_order
returns-clause-in_order g c =
    let i = c.loop-place.invariant in
    subst (λ (l : List MarkedFrame). WritesInOrder {L = g.row.L.Denot} {G = g.row.G.Denot} g.L.BlockLane.contents c.args.manager.now.table c.args.pass.now.view l c.loop-place.pass.view)
    (take_all c.loop-place.place c.args.pass.now.marked (let long = ap length c.marked-place-end.ensures in omega arith)) i.order

pub returns-in-Err-clause-complete : goal.returns-in-Err-clause-complete
returns-in-Err-clause-complete g c n =
    let w = c.loop-place.invariant.writes in
    c.in-Err.ensures.complete (fails_later {L = g.row.L.Denot} {G = g.row.G.Denot} g.L.BlockLane.contents c.args.manager.now.table c.args.pass.now c.loop-place.pass c.write_frame.new.pass w.keeps.same.keeps.advances w.met n)

pub loop-place-init : goal.loop-place-init
loop-place-init g c = record {
  writes = writes_none {L = g.row.L.Denot} {G = g.row.G.Denot} g.L.BlockLane.contents c.args.manager.now c.args.pass.now c.requires.belongs;
  notes = notes_none c.args.pass.now.view;
  marked = refl;
  order = nothing;
  done = λ k d low. absurd (omega arith);
}

pub loop-place-preserved : goal.loop-place-preserved
loop-place-preserved g c =
    let i = c.loop-place.invariant in
    let e = c.write_frame.ensures in
    let ok = c.in-Ok.ensures in
    record {
      writes = writes_on {L = g.row.L.Denot} {G = g.row.G.Denot} g.L.BlockLane.contents c.args.manager.now c.loop-place.written c.in-Ok.more _ c.args.pass.now c.loop-place.pass c.write_frame.new.pass (let sum = c.saturating_add-written.ensures in omega arith) i.writes ok.writes;
      notes = notes_on c.args.pass.now.view c.loop-place.pass.view c.write_frame.new.pass.view i.notes ok.notes;
      marked = e.marked ∙ i.marked;
      order = order_more {L = g.row.L.Denot} {G = g.row.G.Denot} g.L.BlockLane.contents c.args.manager.now.table c.loop-place.place c.args.pass.now.marked c.marked.result.now _ (c.marked.ensures ∙ i.marked) (let long = ap length c.marked-place-end.ensures in omega arith) c.args.pass.now.view c.loop-place.pass.view c.write_frame.new.pass.view i.order ok.passed;
      done = one_written c.loop-place.place c.args.pass.now.marked c.marked.result.now _ c.loop-place.pass.view c.write_frame.new.pass.view (c.marked.ensures ∙ i.marked) (let long = ap length c.marked-place-end.ensures in omega arith) ok.notes ok.not_left_to_write i.done;
    }
