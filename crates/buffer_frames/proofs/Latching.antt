-- Latches of partitions are taken and left.
use Rattle.std.proofs.Common.{◌≡◌, ◌≢◌, ℕ, List, Some, None, true, false, sym, ap, ◌∙◌, subst}
use mathlib.Core.Logic.{dite}
use native.Mathlib.Decide.{ℕ_discrete}
use Rattle.block_tag.specs.declared.tag.Tag.{Tag}
use Rattle.block_tag.specs.Names.{partition_number}
use Rattle.pin_core.specs.declared.view.PartitionHold.{PartitionHold}
use Rattle.pin_core.specs.declared.view.MapEntry.{MapEntry}
use Rattle.pin_core.specs.declared.view.MapChange.{MapChange}
use Rattle.pin_core.specs.declared.view.MapChange.TheVariants.{Stable}
use Rattle.pin_core.specs.declared.view.Link.{Link}
use Rattle.pin_core.specs.declared.view.LogHold.{LogHold}
use Rattle.pin_core.specs.declared.view.View.{View}
use Rattle.pin_core.specs.State.{hold, link, no_partition}
use Rattle.pin_core.proofs.Views.{hold_same}
use Rattle.table_rule.specs.declared.turn.Turn.TheVariants.{Lane, Partition}
use Rattle.table_rule.specs.Layout.{tag_partition}
use Rattle.frame_table.specs.Seats.{Finds, Lacks, Looked, MayChange, NamesIn, RemembersNoOther, unpinned_link}
use Rattle.frame_table.specs.Latches.{DidTurn, IsTurned, MapStep, MayTake, back_hold, held_part}
use Rattle.map_partitions.specs.Partition.{HoldsLatch}
use Rattle.buffer_frames.specs.Rests.{HasNoDevice, HasNoLatch, HasOneLatch}
use Rattle.buffer_frames.specs.Lookups.{UnderPartition}

-- Work under a latch: it is taken, the work done, and it is left
pub under_partition : (tag : Tag) (p : ℕ) (Work : View → View → Type 0) (v u x w : View) → p ≡ partition_number tag → DidTurn true (Partition p) v u → Work u x → DidTurn false (Partition p) x w → UnderPartition tag Work v w
under_partition tag p Work v u x w e takes work leaves = record { took = u; done = x; takes = subst (λ (q : ℕ). DidTurn true (Partition q) v u) e takes; work = work; leaves = subst (λ (q : ℕ). DidTurn false (Partition q) x w) e leaves }

-- a backend without the latch of a device may take one of a lane, and one without any latch one of a
-- partition; which one is the same
pub may_take_lane : (v : View) → HasNoDevice v → MayTake (Lane 0) v
may_take_lane v quiet = (quiet.free, ap (λ (h : LogHold). h.held) quiet.log)

pub may_take_part : (v : View) → HasNoLatch v → HasNoDevice v → MayTake (Partition 0) v
may_take_part v none quiet = (λ q. ap (λ (h : PartitionHold). h.held) (none q), quiet.free, ap (λ (h : LogHold). h.held) quiet.log)

latch_left : (p : ℕ) (v w : View) → HasOneLatch p v → IsTurned false (Partition p) v w → HasNoLatch w
latch_left p v w l turned q = dite (ℕ_discrete q p)
    (λ e. subst (λ (x : ℕ). hold w x ≡ no_partition) (sym e) (turned.0 ∙ left (hold v p) l.home l.no_change))
    (λ n. turned.1 q n ∙ l.others q n)
  where
    left : (h : PartitionHold) → h.out ≡ None → h.change ≡ Stable → held_part false h ≡ no_partition
    left h home no_change = cc

pub latch_left_as : (p q : ℕ) (v w : View) → p ≡ q → HasOneLatch q v → IsTurned false (Partition p) v w → HasNoLatch w
latch_left_as p q v w e l turned = latch_left p v w (subst (λ (x : ℕ). HasOneLatch x v) (sym e) l) turned

-- A pair was named in the partition p, and entered or left out: the latch is held still
pub latch_changed : (p : ℕ) (change : MapChange) (entries : List MapEntry) (v u x y w : View) → u.partitions ≡ v.partitions → NamesIn p change u x → y.partitions ≡ x.partitions → MapStep p (back_hold entries (hold y p)) y w → HasOneLatch p v → HasOneLatch p w
latch_changed p change entries v u x y w locked names after step l = record {
  held = ap (λ (h : PartitionHold). h.held) (step.here ∙ ap (back_hold entries) (hold_same x y after p ∙ names.here)) ∙ ap (λ (h : PartitionHold). h.held) (hold_same v u locked p) ∙ l.held;
  home = ap (λ (h : PartitionHold). h.out) step.here;
  no_change = ap (λ (h : PartitionHold). h.change) step.here;
  others = λ q n. step.others q n ∙ hold_same x y after q ∙ names.others q n ∙ hold_same v u locked q ∙ l.others q n;
}

-- what the holder of the latch may name
pub may_change : (p : ℕ) (v w : View) → w.partitions ≡ v.partitions → HasOneLatch p v → HoldsLatch Stable v p → MayChange w p
may_change p v w e l h = record {
  held = ap (λ (x : PartitionHold). x.held) (hold_same v w e p) ∙ l.held;
  unchanged = ap (λ (x : PartitionHold). x.changed) (hold_same v w e p) ∙ h.unchanged;
  no_change = λ q. dite (ℕ_discrete q p)
      (λ same. subst (λ (x : ℕ). (hold w x).change ≡ Stable) (sym same) (ap (λ (x : PartitionHold). x.change) (hold_same v w e p) ∙ l.no_change))
      (λ n. ap (λ (x : PartitionHold). x.change) (hold_same v w e q ∙ l.others q n));
}

pub holds_same : (c : MapChange) (p : ℕ) (v w : View) → w.partitions ≡ v.partitions → HoldsLatch c v p → HoldsLatch c w p
holds_same c p v w e h = let at = hold_same v w e p in record { held = ap (λ (x : PartitionHold). x.held) at ∙ h.held; home = ap (λ (x : PartitionHold). x.out) at ∙ h.home; unchanged = ap (λ (x : PartitionHold). x.changed) at ∙ h.unchanged; named = ap (λ (x : PartitionHold). x.change) at ∙ h.named }

-- the pair that was named is named still
pub holds_named : (p : ℕ) (change : MapChange) (v u x y : View) → u.partitions ≡ v.partitions → NamesIn p change u x → y.partitions ≡ x.partitions → HoldsLatch Stable v p → HoldsLatch change y p
holds_named p change v u x y locked names after h = let was = holds_same Stable p v u locked h in holds_same change p x y after record {
  held = ap (λ (x : PartitionHold). x.held) names.here ∙ was.held;
  home = ap (λ (x : PartitionHold). x.out) names.here ∙ was.home;
  unchanged = ap (λ (x : PartitionHold). x.changed) names.here ∙ was.unchanged;
  named = ap (λ (x : PartitionHold). x.change) names.here;
}

pub lacks_same : (tag : ℕ) (v w : View) → w.partitions ≡ v.partitions → Lacks v tag → Lacks w tag
lacks_same tag v w e l = let at = hold_same v w e (tag_partition tag) in record {
  home = ap (λ (x : PartitionHold). x.out) at ∙ l.home;
  seen = λ none. l.seen (sym (ap (λ (x : PartitionHold). x.seen) at) ∙ none);
  lacks = λ entries is. l.lacks entries (sym (ap (λ (x : PartitionHold). x.seen) at) ∙ is);
}

-- what a search found stands while the latch is held
pub finds_same : (tag f : ℕ) (v w : View) → w.partitions ≡ v.partitions → Finds v tag f → Finds w tag f
finds_same tag f v w e l = let at = hold_same v w e (tag_partition tag) in record {
  held = ap (λ (x : PartitionHold). x.held) at ∙ l.held;
  no_change = ap (λ (x : PartitionHold). x.change) at ∙ l.no_change;
  home = ap (λ (x : PartitionHold). x.out) at ∙ l.home;
  seen = λ none. l.seen (sym (ap (λ (x : PartitionHold). x.seen) at) ∙ none);
  finds = λ entries is. l.finds entries (sym (ap (λ (x : PartitionHold). x.seen) at) ∙ is);
}

-- also where another frame is given up, or this one
pub remembers_unpinned : (tag f h : ℕ) (v w : View) → ((g : ℕ) → g ≢ h → link w g ≡ link v g) → Looked (unpinned_link (link v h)) (link w h) → RemembersNoOther tag (link v f) → RemembersNoOther tag (link w f)
remembers_unpinned tag f h v w others looked r other e = dite (ℕ_discrete f h)
    (λ same. let none : None ≡ Some other = sym looked.tag ∙ subst (λ (x : ℕ). (link w x).tag ≡ Some other) same e in absurd (cc))
    (λ n. r other (subst (λ (l : Link). l.tag ≡ Some other) (others f n) e))
