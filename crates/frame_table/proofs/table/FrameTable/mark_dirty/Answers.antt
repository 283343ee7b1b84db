use Rattle.std.proofs.Common.{refl, ◌∙◌, ap}
use Rattle.page_core.specs.Kinds.{mark_dirty}
use Rattle.frame_table.specs.Kinds.{pages}
use Rattle.frame_table.specs.FrameSteps.{still}
use Rattle.frame_table.proofs.Told.{looks_touch, looks_link, not_yet, at_last, tried_touches}
use Rattle.frame_table.proofs.HeldWords.{dirtied_after}
use Rattle.frame_table.proofs.Marks.{dirtied_marks}
use Rattle.pin_core.specs.declared.view.View.{View}
use Rattle.frame_table.proofs.table.FrameTable.mark_dirty.Goals as goal

pub loop-init : goal.loop-init
loop-init g c = record { seat = record { table = refl; id = refl; hand = refl }; looked = still }

pub try_mark_dirty-requires-clause-seat : goal.try_mark_dirty-requires-clause-seat
try_mark_dirty-requires-clause-seat g c = let a = c.requires.seat in record { fits = c.loop.invariant.seat.table ∙ a.fits; live = ap (λ (x : View). x.emptied) (looks_touch _ _ _ c.loop.invariant.looked).self ∙ a.live; inside = a.inside }

pub try_mark_dirty-requires-clause-right : goal.try_mark_dirty-requires-clause-right
try_mark_dirty-requires-clause-right g c = (looks_link _ _ _ c.loop.invariant.looked).content ∙ c.requires.right

pub loop-preserved : goal.loop-preserved
loop-preserved g c = let a = c.loop.invariant.seat in let b = c.try_mark_dirty.ensures.seat in record {
  seat = record { table = b.table ∙ a.table; id = b.id ∙ a.id; hand = b.hand ∙ a.hand };
  looked = not_yet (pages mark_dirty) _ _ _ _ _ c.if-try_mark_dirty.false c.loop.invariant.looked c.try_mark_dirty.ensures.did;
}

pub returns-then-try_mark_dirty : goal.returns-then-try_mark_dirty
returns-then-try_mark_dirty g c = let t = at_last (pages mark_dirty) _ _ _ _ _ c.if-try_mark_dirty.true c.loop.invariant.looked c.try_mark_dirty.ensures.did in let a = c.loop.invariant.seat in let b = c.try_mark_dirty.ensures.seat in record {
  seat = record { table = b.table ∙ a.table; id = b.id ∙ a.id; hand = b.hand ∙ a.hand };
  touches = tried_touches (pages mark_dirty) (λ s f v. refl) _ _ _ t;
  marks = dirtied_marks _ _ _ t;
  dirtied = dirtied_after _ _ _ t;
  did = t;
}
