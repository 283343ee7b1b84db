use Rattle.std.proofs.Common.{ℕ, None, Some, Option, subst, sym, ◌≡◌}
use Rattle.block_tag.specs.declared.tag.Tag.{Tag}
use Rattle.block_tag.specs.Names.{packed_tag}
use Rattle.pin_core.specs.declared.view.MapChange.TheVariants.{Entering}
use Rattle.frame_table.specs.Seats.{cleared_stored, CanStoreAs, MayStoreTag, NamesIn, NamesStored, partitions_stored}
use Rattle.frame_table.specs.FrameSteps.{Did, storing}
use Rattle.frame_table.proofs.Holding.{stored_after, stored_self, stored_cleared, stored_partitions, names_entered, names_erased}
use Rattle.frame_table.proofs.TagLoads.{packed_partition}
use Rattle.frame_table.proofs.Marks.{did_marks}
use Rattle.frame_table.proofs.table.FrameTable.store_tag.Goals as goal

pub returns-in-Some-clause-did : goal.returns-in-Some-clause-did
returns-in-Some-clause-did g c = let d = c.store_packed.ensures.did in (d.0, subst (λ (t : Option Tag). Did (storing t) c.args.frame c.args.seat.now.me.0 c.store_packed.new.seat.me.0 d.0) (sym c.in-Some.is) d.1)

-- what the view has of the latches after it took the tag away
erased : (g : _) (c : goal.After-store_none g) → c.store_none.new.seat.me.0.partitions ≡ partitions_stored None c.args.frame c.args.seat.now.me.0
erased g c = stored_partitions c.args.self.now.table.shared.key.catalog.value None _ _ _ _ c.store_none.ensures.did.1 (subst (λ (t : Option Tag). CanStoreAs c.args.self.now.table.shared.key.catalog.value t c.args.seat.now.me.0 c.args.frame) c.in-None.is c.requires.tag)

pub returns-in-None-clause-named : goal.returns-in-None-clause-named
returns-in-None-clause-named g c = subst (λ (t : Option Tag). c.store_none.new.seat.me.0.partitions ≡ partitions_stored t c.args.frame c.args.seat.now.me.0) (sym c.in-None.is) (erased g c)

pub returns-in-None-clause-names : goal.returns-in-None-clause-names
returns-in-None-clause-names g c = subst (λ (t : Option Tag). NamesStored t c.args.frame c.args.seat.now.me.0 c.store_none.new.seat.me.0) (sym c.in-None.is) (names_erased _ _ _ _ c.store_none.ensures.did.1 (erased g c))

pub returns-in-Some-clause-marks : goal.returns-in-Some-clause-marks
returns-in-Some-clause-marks g c = did_marks (storing (Some c.in-Some.tag)) tt _ _ _ _ c.store_packed.ensures.did.1

pub returns-in-None-clause-marks : goal.returns-in-None-clause-marks
returns-in-None-clause-marks g c = did_marks (storing None) tt _ _ _ _ c.store_none.ensures.did.1

pub returns-in-Some-clause-names : goal.returns-in-Some-clause-names
returns-in-Some-clause-names g c = let tag = c.in-Some.tag in let v = c.args.seat.now.me.0 in let w = c.store_packed.new.seat.me.0 in let may : MayStoreTag c.args.self.now.table.shared.key.catalog.value tag v c.args.frame = subst (λ (t : Option Tag). CanStoreAs c.args.self.now.table.shared.key.catalog.value t v c.args.frame) c.in-Some.is c.requires.tag in
    subst (λ (t : Option Tag). NamesStored t c.args.frame v w) (sym c.in-Some.is) (subst (λ (p : ℕ). NamesIn p (Entering (packed_tag tag) c.args.frame) v w) (packed_partition tag may.named) (names_entered tag _ _ _ _ c.store_packed.ensures.did.1 (stored_partitions c.args.self.now.table.shared.key.catalog.value (Some tag) _ _ _ _ c.store_packed.ensures.did.1 may)))

pub returns-in-None-clause-did : goal.returns-in-None-clause-did
returns-in-None-clause-did g c = let d = c.store_none.ensures.did in (d.0, subst (λ (t : Option Tag). Did (storing t) c.args.frame c.args.seat.now.me.0 c.store_none.new.seat.me.0 d.0) (sym c.in-None.is) d.1)

pub returns-in-Some-clause-cleared : goal.returns-in-Some-clause-cleared
returns-in-Some-clause-cleared g c = subst (λ (t : Option Tag). c.store_packed.new.seat.me.0.cleared ≡ cleared_stored t c.args.seat.now.me.0.cleared) (sym c.in-Some.is) (stored_cleared (Some c.in-Some.tag) _ _ _ _ c.store_packed.ensures.did.1)

pub returns-in-None-clause-cleared : goal.returns-in-None-clause-cleared
returns-in-None-clause-cleared g c = subst (λ (t : Option Tag). c.store_none.new.seat.me.0.cleared ≡ cleared_stored t c.args.seat.now.me.0.cleared) (sym c.in-None.is) (stored_cleared None _ _ _ _ c.store_none.ensures.did.1)

pub returns-in-Some-clause-stores : goal.returns-in-Some-clause-stores
returns-in-Some-clause-stores g c = stored_self (Some c.in-Some.tag) _ _ _ _ c.store_packed.ensures.did.1

pub returns-in-None-clause-stores : goal.returns-in-None-clause-stores
returns-in-None-clause-stores g c = stored_self None _ _ _ _ c.store_none.ensures.did.1

pub returns-in-None-clause-stored : goal.returns-in-None-clause-stored
returns-in-None-clause-stored g c = stored_after None _ _ _ _ c.store_none.ensures.did.1
