use Rattle.std.proofs.Common.{◌≡◌, ℕ, Some, List, map, sym, ap, ◌∙◌, refl, subst}
use Rattle.pin_core.specs.declared.view.View.{View}
use Rattle.pin_core.specs.declared.view.MapChange.TheVariants.{Stable}
use Rattle.pin_core.specs.State.{hold}
use Rattle.table_rule.specs.declared.value.Mapped.{Mapped}
use Rattle.table_rule.specs.Shows.{entry_of}
use Rattle.pin_core.specs.Turns.{found}
use Rattle.map_partitions.specs.Partition.{HoldsLatch, entries_seen}
use Rattle.map_partitions.proofs.Seen.{found_remembers, seen_after}
use Rattle.map_partitions.proofs.FiniteMaps.{gives_below}
use Rattle.map_partitions.proofs.Growing.{went_grows}
use Rattle.map_partitions.proofs.lookup.find.Goals as goal

pub returns-clause-inside : goal.returns-clause-inside
returns-clause-inside g c = gives_below _ _ c.map_out-entries.ensures.inside _ _ (c.frame_of-frame.ensures ∙ ap (λ (l : List Mapped). found (map entry_of l) c.pack.result) c.deref.ensures.value)

pub returns-clause-before : goal.returns-clause-before
returns-clause-before g c entries = subst (λ (p : ℕ). (hold c.args.seat.now.me.0 p).seen ≡ Some entries → found (entries_seen c.map_back.new.seat.me.0 p) ≡ found entries) c.partition-partition.ensures.value
    (seen_after _ _ entries _ _ _ _ (λ m. m) c.map_out-entries.ensures.did c.map_back.ensures.back refl)

pub returns-clause-remembers : goal.returns-clause-remembers
returns-clause-remembers g c = found_remembers _ _ c.partition-partition.result _ c.args.seat.now.me.0 c.map_out-entries.new.seat.me.0 c.map_back.new.seat.me.0 c.map_out-entries.ensures.did (subst (HoldsLatch Stable c.args.seat.now.me.0) (sym c.partition-partition.ensures.value) c.requires.holds)
    (c.frame_of-frame.ensures ∙ ap (λ (l : List Mapped). found (map entry_of l) c.pack.result) c.deref.ensures.value ∙ ap (found (map entry_of c.map_out-entries.result.items)) (c.pack.ensures.exact c.requires.tag))
    (ap (λ (x : View). x.links) (c.map_back.ensures.work ∙ c.map_out-entries.ensures.work))

pub returns-clause-grows : goal.returns-clause-grows
returns-clause-grows g c = went_grows _ _ _ _ _ _ _ c.map_out-entries.ensures.did c.map_back.ensures.did
