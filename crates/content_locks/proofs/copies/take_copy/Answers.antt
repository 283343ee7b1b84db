use Rattle.std.proofs.Common.{refl, ap, subst, ◌∙◌}
use Rattle.pin_core.specs.declared.view.View.{View}
use Rattle.pin_core.specs.declared.view.Link.{Link}
use Rattle.page_core.specs.Kinds as kinds
use Rattle.frame_table.proofs.Told.{touches_on}
use Rattle.content_locks.specs.Locks.{TriedCopy, still}
use Rattle.content_locks.proofs.Locking.{looks_marks, looks_touch, looks_link, looks_on, locks_on, latched_on}
use Rattle.content_locks.proofs.copies.take_copy.Goals as goal

pub loop-init : goal.loop-init
loop-init g c = record { seat = record { table = refl; id = refl; hand = refl }; looked = still }

pub try_copy-requires-clause-seat : goal.try_copy-requires-clause-seat
try_copy-requires-clause-seat g c = let a = c.requires.seat in let i = c.loop.invariant in record { fits = i.seat.table ∙ a.fits; live = ap (λ (x : View). x.emptied) (looks_touch _ _ _ i.looked).self ∙ a.live; inside = a.inside }

pub try_copy-requires-clause-view : goal.try_copy-requires-clause-view
try_copy-requires-clause-view g c = ap (λ (l : Link). l.content) (looks_link _ _ _ c.loop.invariant.looked) ∙ c.requires.view

pub returns-then-try_copy-clause-touches : goal.returns-then-try_copy-clause-touches
returns-then-try_copy-clause-touches g c = touches_on _ _ _ _ (looks_touch _ _ _ c.loop.invariant.looked) c.try_copy.ensures.touches

pub returns-then-try_copy-clause-taken : goal.returns-then-try_copy-clause-taken
returns-then-try_copy-clause-taken g c = latched_on _ _ _ _ c.try_copy.ensures.link c.if-try_copy.true (looks_link _ _ _ c.loop.invariant.looked)

pub returns-then-try_copy-clause-did : goal.returns-then-try_copy-clause-did
returns-then-try_copy-clause-did g c = locks_on kinds.take_copy _ _ _ _ c.loop.invariant.looked (subst (TriedCopy _ _ _) c.if-try_copy.true c.try_copy.ensures.did)

pub loop-preserved : goal.loop-preserved
loop-preserved g c = let a = c.loop.invariant.seat in let b = c.try_copy.ensures in record {
  seat = record { table = b.seat.table ∙ a.table; id = b.seat.id ∙ a.id; hand = b.seat.hand ∙ a.hand };
  looked = looks_on _ _ _ _ c.loop.invariant.looked (subst (TriedCopy _ _ _) c.if-try_copy.false b.did);
}

pub returns-then-try_copy-clause-marks : goal.returns-then-try_copy-clause-marks
returns-then-try_copy-clause-marks g c = c.try_copy.ensures.marks ∙ (looks_marks _ _ _ c.loop.invariant.looked)
