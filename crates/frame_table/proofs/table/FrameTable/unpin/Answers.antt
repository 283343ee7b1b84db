use Rattle.std.proofs.Common.{refl, ◌∙◌, ap, true}
use Rattle.pin_core.specs.Kinds.{unpin}
use Rattle.frame_table.specs.Kinds.{pins}
use Rattle.frame_table.specs.FrameSteps.{Tried, still}
use Rattle.frame_table.proofs.Told.{looks_on, looks_touch, looks_unpin, tried_touches, unpinned_after, unpinned_on}
use Rattle.frame_table.proofs.Marks.{tried_marks}
use Rattle.pin_core.specs.declared.view.View.{View}
use Rattle.frame_table.proofs.table.FrameTable.unpin.Goals as goal

pub loop-init : goal.loop-init
loop-init g c = record { seat = record { table = refl; id = refl; hand = refl }; looked = still }

pub try_unpin-requires-clause-seat : goal.try_unpin-requires-clause-seat
try_unpin-requires-clause-seat g c = let a = c.requires.seat in record { fits = c.loop.invariant.seat.table ∙ a.fits; live = ap (λ (x : View). x.emptied) (looks_touch _ _ _ c.loop.invariant.looked).self ∙ a.live; inside = a.inside }

pub try_unpin-requires-clause-pinned : goal.try_unpin-requires-clause-pinned
try_unpin-requires-clause-pinned g c = looks_unpin _ _ _ c.loop.invariant.looked c.requires.pinned

pub loop-preserved : goal.loop-preserved
loop-preserved g c = let a = c.loop.invariant.seat in let b = c.try_unpin.ensures.seat in record {
  seat = record { table = b.table ∙ a.table; id = b.id ∙ a.id; hand = b.hand ∙ a.hand };
  looked = looks_on _ _ _ _ c.loop.invariant.looked c.in_default.ensures.did;
}

pub returns-in-Some-try_unpin : goal.returns-in-Some-try_unpin
returns-in-Some-try_unpin g c = let t = unpinned_on _ _ _ _ _ c.loop.invariant.looked c.in-Some-try_unpin.ensures.did in let u : Tried (pins unpin) c.args.pin.frame c.args.seat.now.me.0 _ true = (t.0, t.1, t.2, t.3) in let a = c.loop.invariant.seat in let b = c.in-Some-try_unpin.ensures.seat in record {
  seat = record { table = b.table ∙ a.table; id = b.id ∙ a.id; hand = b.hand ∙ a.hand };
  touches = tried_touches (pins unpin) (λ s f v. refl) _ _ _ u;
  marks = tried_marks (pins unpin) tt _ _ _ u;
  unpinned = unpinned_after _ _ _ u;
  did = t;
}
