use Rattle.std.proofs.Common.{rules, refl, sym, ◌∙◌, ap}
use Rattle.pin_core.specs.Kinds.{lock_header}
use Rattle.frame_table.specs.Kinds.{pins}
use Rattle.frame_table.specs.FrameSteps.{still, again}
use Rattle.frame_table.proofs.Told.{touches, touches_on, looks_touch, looks_headless, on_locked, on_unlocked, locked_after}
use Rattle.frame_table.proofs.Seeing.{word_locked}
use Rattle.frame_table.proofs.Marks.{did_marks, looks_marks}
use Rattle.pin_core.specs.declared.view.View.{View}
use Rattle.frame_table.proofs.table.FrameTable.lock_header.Goals as goal

pub loop-init : goal.loop-init
loop-init g c = record { seat = record { table = refl; id = refl; hand = refl }; looked = still }

pub or_lock-found-requires-clause-seat : goal.or_lock-found-requires-clause-seat
or_lock-found-requires-clause-seat g c = let a = c.requires.seat in record { fits = c.loop.invariant.seat.table ∙ a.fits; live = ap (λ (x : View). x.emptied) (looks_touch _ _ _ c.loop.invariant.looked).self ∙ a.live; inside = a.inside }

pub or_lock-found-requires-clause-headless : goal.or_lock-found-requires-clause-headless
or_lock-found-requires-clause-headless g c = looks_headless _ _ _ c.loop.invariant.looked c.requires.headless

pub loop-preserved : goal.loop-preserved
loop-preserved g c = let a = c.loop.invariant.seat in let b = c.or_lock-found.ensures.seat in record {
  seat = record { table = b.table ∙ a.table; id = b.id ∙ a.id; hand = b.hand ∙ a.hand };
  looked = again _ c.loop.invariant.looked (on_locked (pins lock_header) _ 4194304 _ _ _ c.or_lock-found.ensures.did (sym c.has.ensures ∙ search rules));
}

pub returns-then-not-has-clause-touches : goal.returns-then-not-has-clause-touches
returns-then-not-has-clause-touches g c = touches_on _ _ _ _ (looks_touch _ _ _ c.loop.invariant.looked) (touches (pins lock_header) (λ s f v. refl) _ _ _ _ (on_unlocked (pins lock_header) _ 4194304 _ _ _ c.or_lock-found.ensures.did (sym c.has.ensures ∙ search rules)))

pub returns-then-not-has-clause-locked : goal.returns-then-not-has-clause-locked
returns-then-not-has-clause-locked g c = locked_after _ _ _ _ _ _ c.loop.invariant.looked (on_unlocked (pins lock_header) _ 4194304 _ _ _ c.or_lock-found.ensures.did (sym c.has.ensures ∙ search rules)) c.locked.ensures

pub returns-then-not-has-clause-marks : goal.returns-then-not-has-clause-marks
returns-then-not-has-clause-marks g c = (did_marks (pins lock_header) tt _ _ _ _ (on_unlocked (pins lock_header) _ 4194304 _ _ _ c.or_lock-found.ensures.did (sym c.has.ensures ∙ search rules))) ∙ (looks_marks _ _ _ c.loop.invariant.looked)

pub returns-then-not-has-clause-word : goal.returns-then-not-has-clause-word
returns-then-not-has-clause-word g c = word_locked _ _ _ _ _ _ c.loop.invariant.looked (on_unlocked (pins lock_header) _ 4194304 _ _ _ c.or_lock-found.ensures.did (sym c.has.ensures ∙ search rules)) c.locked.ensures
