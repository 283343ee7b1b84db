use Rattle.std.proofs.Common.{refl, ap, ◌∙◌}
use Rattle.pin_core.specs.declared.view.View.{View}
use Rattle.frame_table.proofs.Told.{touches_none, touches_on, looked_on}
use Rattle.content_locks.proofs.InOut.{headless_still, quiet_still, can_still, begun_on, begins_on, nothing_on, looked_none}
use Rattle.content_locks.specs.Io.{still, again, is_input}
use Rattle.std.specs.Prelude.{not, ◌||◌}
use Rattle.frame_table.specs.Seats.{ViewMarks}
use Rattle.content_locks.proofs.io.start_io.Goals as goal

pub loop-init : goal.loop-init
loop-init g c = record { seat = record { table = refl; id = refl; hand = refl }; touches = touches_none _ _; marks = refl; waits = still; looked = looked_none _ }

pub try_io-requires-clause-seat : goal.try_io-requires-clause-seat
try_io-requires-clause-seat g c = let a = c.requires.seat in let i = c.loop.invariant in record { fits = i.seat.table ∙ a.fits; live = ap (λ (x : View). x.emptied) i.touches.self ∙ a.live; inside = a.inside }

pub try_io-requires-clause-headless : goal.try_io-requires-clause-headless
try_io-requires-clause-headless g c = let i = c.loop.invariant in headless_still _ _ _ i.touches i.looked c.requires.headless

pub try_io-requires-clause-quiet : goal.try_io-requires-clause-quiet
try_io-requires-clause-quiet g c = let i = c.loop.invariant in quiet_still _ _ _ i.touches i.looked c.requires.quiet

pub try_io-requires-clause-view : goal.try_io-requires-clause-view
try_io-requires-clause-view g c = let i = c.loop.invariant in can_still _ _ _ i.touches i.looked _ c.requires.view

pub returns-in-Begun-clause-touches : goal.returns-in-Begun-clause-touches
returns-in-Begun-clause-touches g c = touches_on _ _ _ _ c.loop.invariant.touches c.try_io.ensures.touches

pub returns-in-Begun-clause-begun : goal.returns-in-Begun-clause-begun
returns-in-Begun-clause-begun g c = begun_on _ _ _ _ c.loop.invariant.looked c.in-Begun.ensures.tried.2

pub returns-in-Begun-clause-did : goal.returns-in-Begun-clause-did
returns-in-Begun-clause-did g c = begins_on _ _ _ _ _ c.loop.invariant.waits c.in-Begun.ensures.tried.3

pub returns-in-Nothing-clause-cause : goal.returns-in-Nothing-clause-cause
returns-in-Nothing-clause-cause g c = nothing_on _ _ _ _ _ c.loop.invariant.waits c.in-Nothing.ensures.tried.2

pub returns-in-Nothing-clause-touches : goal.returns-in-Nothing-clause-touches
returns-in-Nothing-clause-touches g c = touches_on _ _ _ _ c.loop.invariant.touches c.try_io.ensures.touches

pub returns-in-Nothing-clause-left : goal.returns-in-Nothing-clause-left
returns-in-Nothing-clause-left g c = looked_on _ _ _ c.loop.invariant.looked c.in-Nothing.ensures.tried.0

pub loop-preserved : goal.loop-preserved
loop-preserved g c = let i = c.loop.invariant in let b = c.try_io.ensures in let t = c.in-InProgress.ensures.tried in record {
  seat = record { table = b.seat.table ∙ i.seat.table; id = b.seat.id ∙ i.seat.id; hand = b.seat.hand ∙ i.seat.hand };
  touches = touches_on _ _ _ _ i.touches b.touches;
  marks = t.2 ∙ i.marks;
  waits = again i.waits t.1;
  looked = looked_on _ _ _ i.looked t.0;
}

pub returns-in-Begun-clause-marks : goal.returns-in-Begun-clause-marks
returns-in-Begun-clause-marks g c = c.in-Begun.ensures.tried.4 ∙ ap (λ (m : ViewMarks). record m { had_output = m.had_output || not (is_input c.args.direction) }) c.loop.invariant.marks

pub returns-in-Nothing-clause-marks : goal.returns-in-Nothing-clause-marks
returns-in-Nothing-clause-marks g c = c.in-Nothing.ensures.tried.3 ∙ c.loop.invariant.marks
