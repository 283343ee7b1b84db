use Rattle.std.proofs.Common.{◌≡◌, ℕ, map, Some, ap, ◌∙◌, subst}
use Rattle.block_tag.specs.Names.{packed_tag}
use Rattle.pin_core.specs.State.{hold}
use Rattle.pin_core.specs.Turns.{found}
use Rattle.grid.specs.Shape.{put}
use Rattle.table_rule.specs.Shows.{entry_of}
use Rattle.map_partitions.specs.Partition.{entries_seen}
use Rattle.map_partitions.proofs.Seen.{seen_after}
use Rattle.map_partitions.proofs.Growing.{went_grows}
use Rattle.map_partitions.proofs.changes.enter.Goals as goal

pub returns-clause-entered : goal.returns-clause-entered
returns-clause-entered g c entries = subst (λ (p : ℕ). (hold c.args.seat.now.me.0 p).seen ≡ Some entries → found (entries_seen c.map_back.new.seat.me.0 p) ≡ put (found entries) (packed_tag c.args.tag) (Some c.args.frame)) c.partition-partition.ensures.value
    (seen_after _ _ entries _ _ _ _ (λ m. put m (packed_tag c.args.tag) (Some c.args.frame)) c.map_out-entries.ensures.did c.map_back.ensures.back (c.add.ensures.found ∙ ap (λ (t : ℕ). put (found (map entry_of c.map_out-entries.result.items)) t (Some c.args.frame)) (c.pack.ensures.exact c.requires.tag)))

pub returns-clause-grows : goal.returns-clause-grows
returns-clause-grows g c = went_grows _ _ _ _ _ _ _ c.map_out-entries.ensures.did c.map_back.ensures.did
