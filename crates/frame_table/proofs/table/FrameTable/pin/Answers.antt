use Rattle.std.proofs.Common.{refl, sym, ◌∙◌, true, ℕ, subst}
use Rattle.pin_core.specs.Kinds.{pin_mapped}
use Rattle.frame_table.specs.Kinds.{pins}
use Rattle.frame_table.specs.Seats.{Finds}
use Rattle.frame_table.specs.FrameSteps.{Tried, still}
use Rattle.frame_table.proofs.Told.{looks_touch, looks_link, not_yet, at_last, tried_touches}
use Rattle.frame_table.proofs.Holding.{finds_on, mapped_after}
use Rattle.frame_table.proofs.Marks.{tried_marks}
use Rattle.frame_table.proofs.table.FrameTable.pin.Goals as goal

pub loop-init : goal.loop-init
loop-init g c = record { seat = record { table = refl; id = refl; hand = refl }; looked = still }

pub try_mapped-requires-clause-absent : goal.try_mapped-requires-clause-absent
try_mapped-requires-clause-absent g c = (looks_link _ _ _ c.loop.invariant.looked).role ∙ c.requires.absent

pub try_mapped-requires-clause-finds : goal.try_mapped-requires-clause-finds
try_mapped-requires-clause-finds g c = finds_on _ _ _ _ _ (looks_touch _ _ _ c.loop.invariant.looked) (subst (λ (n : ℕ). Finds c.args.seat.now.me.0 n c.args.frame) (sym (c.pack-packed.ensures.exact c.requires.tag)) c.requires.finds)

pub loop-preserved : goal.loop-preserved
loop-preserved g c = let a = c.loop.invariant.seat in let b = c.try_mapped.ensures.seat in record {
  seat = record { table = b.table ∙ a.table; id = b.id ∙ a.id; hand = b.hand ∙ a.hand };
  looked = not_yet (pins (pin_mapped c.pack-packed.result c.args.ring)) _ _ _ _ _ c.if-try_mapped.false c.loop.invariant.looked c.try_mapped.ensures.did;
}

pub returns-then-try_mapped-clause-did : goal.returns-then-try_mapped-clause-did
returns-then-try_mapped-clause-did g c = subst (λ (n : ℕ). Tried (pins (pin_mapped n c.args.ring)) c.args.frame c.args.seat.now.me.0 c.try_mapped.new.seat.me.0 true) (c.pack-packed.ensures.exact c.requires.tag)
    (at_last (pins (pin_mapped c.pack-packed.result c.args.ring)) _ _ _ _ _ c.if-try_mapped.true c.loop.invariant.looked c.try_mapped.ensures.did)

pub returns-then-try_mapped-clause-touches : goal.returns-then-try_mapped-clause-touches
returns-then-try_mapped-clause-touches g c = tried_touches (pins (pin_mapped c.pack-packed.result c.args.ring)) (λ s f v. refl) _ _ _ (at_last (pins (pin_mapped c.pack-packed.result c.args.ring)) _ _ _ _ _ c.if-try_mapped.true c.loop.invariant.looked c.try_mapped.ensures.did)

pub returns-then-try_mapped-clause-pinned : goal.returns-then-try_mapped-clause-pinned
returns-then-try_mapped-clause-pinned g c = mapped_after _ _ _ _ _ (returns-then-try_mapped-clause-did g c)

pub returns-then-try_mapped-clause-marks : goal.returns-then-try_mapped-clause-marks
returns-then-try_mapped-clause-marks g c = tried_marks (pins (pin_mapped c.pack-packed.result c.args.ring)) tt _ _ _ (at_last (pins (pin_mapped c.pack-packed.result c.args.ring)) _ _ _ _ _ c.if-try_mapped.true c.loop.invariant.looked c.try_mapped.ensures.did)
