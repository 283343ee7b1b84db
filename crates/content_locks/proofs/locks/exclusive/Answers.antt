use Rattle.std.proofs.Common.{refl, sym, ap, subst, ◌∙◌}
use Rattle.pin_core.specs.declared.view.View.{View}
use Rattle.page_core.specs.Kinds.{exclude}
use Rattle.frame_table.proofs.Told.{touches_on}
use Rattle.frame_table.specs.Content.{CanLock, exclusive_link}
use Rattle.content_locks.specs.Locks.{still}
use Rattle.content_locks.proofs.Locking.{looks_marks, looks_touch, looks_link, looks_on, refused_looks, locks_on, locks_waiting}
use Rattle.content_locks.proofs.locks.exclusive.Goals as goal

pub loop-init : goal.loop-init
loop-init g c = record { seat = record { table = refl; id = refl; hand = refl }; looked = still }

pub try_exclusive-requires-clause-seat : goal.try_exclusive-requires-clause-seat
try_exclusive-requires-clause-seat g c = let a = c.requires.seat in record { fits = c.loop.invariant.seat.table ∙ a.fits; live = ap (λ (x : View). x.emptied) (looks_touch _ _ _ c.loop.invariant.looked).self ∙ a.live; inside = a.inside }

pub try_exclusive-requires-clause-view : goal.try_exclusive-requires-clause-view
try_exclusive-requires-clause-view g c = subst CanLock (sym (looks_link _ _ _ c.loop.invariant.looked)) c.requires.view

pub returns-in-Ok-clause-touches : goal.returns-in-Ok-clause-touches
returns-in-Ok-clause-touches g c = touches_on _ _ _ _ (looks_touch _ _ _ c.loop.invariant.looked) c.try_exclusive.ensures.touches

pub returns-in-Ok-clause-exclusive : goal.returns-in-Ok-clause-exclusive
returns-in-Ok-clause-exclusive g c = c.in-Ok.ensures.exclusive ∙ ap exclusive_link (looks_link _ _ _ c.loop.invariant.looked)

pub returns-in-Ok-clause-did : goal.returns-in-Ok-clause-did
returns-in-Ok-clause-did g c = locks_on exclude _ _ _ _ c.loop.invariant.looked (locks_waiting _ _ _ _ c.in-Ok.ensures.did)

pub loop-preserved : goal.loop-preserved
loop-preserved g c = let a = c.loop.invariant.seat in let b = c.try_exclusive.ensures.seat in record {
  seat = record { table = b.table ∙ a.table; id = b.id ∙ a.id; hand = b.hand ∙ a.hand };
  looked = looks_on _ _ _ _ c.loop.invariant.looked (refused_looks _ _ _ _ _ c.in-Err.ensures.cause);
}

pub returns-in-Ok-clause-marks : goal.returns-in-Ok-clause-marks
returns-in-Ok-clause-marks g c = c.try_exclusive.ensures.marks ∙ (looks_marks _ _ _ c.loop.invariant.looked)
