-- What the one call of a lane that is out did to the lane, and what the lane was as it went out.
use Rattle.std.specs.Prelude.{◌≡◌, ℕ, ◌+◌, true, false, List, Option, Some, None, IsSomeAnd}
use Rattle.byte_devices.specs.Faults.{Rose}
use Rattle.block_tag.specs.declared.tag.Tag.{Tag}
use Rattle.segment_store.specs.declared.device.BlockLane as lane_trait
use Rattle.segment_store.specs.Contents.{Pages, Marks, no_marks, with_page, with_mark, IsTorn}
use Rattle.table_rule.specs.declared.noted_lane.LaneCall.{LaneCall}
use Rattle.table_rule.specs.declared.noted_lane.LaneCall.TheVariants.{Untouched, Read, ReadFailed, Written, WriteFailed, Synced, SyncFailed}

-- Lanes, as their trait tells them
pub record LaneDevices (L : Type 0) : Type 0 where
  -- the pages of a lane, and the blocks whose last write failed, if they are known
  pub contents : L → Option Pages
  pub failed_writes : L → Marks
  -- the blocks that were written since the last sync that succeeded
  pub unsynced : L → Marks
  -- how many reads, and how many writes and syncs, have failed
  pub read_faults : L → ℕ
  pub write_faults : L → ℕ
  -- how many calls were made
  pub calls : L → ℕ

abbrev pub lane_devices : {L : Type 0} → lane_trait.Ghosts L → LaneDevices L
lane_devices l = record {
  contents = l.contents;
  failed_writes = l.failed_writes;
  unsynced = l.unsynced;
  read_faults = l.read_faults;
  write_faults = l.write_faults;
  calls = l.calls;
}

-- the call was the read of this page for a frame, the write of this page of a frame, or such a
-- write that failed
abbrev pub NotesRead : ℕ → Tag → List ℕ → LaneCall → Type 0
NotesRead f tag page (Read g t p) = (g ≡ f) × (t ≡ tag) × (p.value ≡ page)
NotesRead f tag page _ = ⊥

abbrev pub NotesWritten : ℕ → Tag → List ℕ → LaneCall → Type 0
NotesWritten f tag page (Written g t p) = (g ≡ f) × (t ≡ tag) × (p.value ≡ page)
NotesWritten f tag page _ = ⊥

abbrev pub NotesWriteFailed : ℕ → Tag → List ℕ → LaneCall → Type 0
NotesWriteFailed f tag page (WriteFailed g t p) = (g ≡ f) × (t ≡ tag) × (p.value ≡ page)
NotesWriteFailed f tag page _ = ⊥

module _ {L : Type 0} (d : LaneDevices L) where
  -- The lane holds what it held, and counts as many reads and writes that failed
  pub record HoldsTheSame (before after : L) : Type 0 where
    pub contents : d.contents after ≡ d.contents before
    pub failed : d.failed_writes after ≡ d.failed_writes before

  pub record CountsTheSame (before after : L) : Type 0 where
    pub reads : d.read_faults after ≡ d.read_faults before
    pub writes : d.write_faults after ≡ d.write_faults before

  -- one more read, or one more write or sync, has failed
  pub record ReadRose (before after : L) : Type 0 where
    pub reads : Rose (d.read_faults before) (d.read_faults after)
    pub writes : d.write_faults after ≡ d.write_faults before

  pub record WriteRose (before after : L) : Type 0 where
    pub reads : d.read_faults after ≡ d.read_faults before
    pub writes : Rose (d.write_faults before) (d.write_faults after)

  -- if the contents are known they have this page for the tag
  abbrev pub Gave : Tag → List ℕ → L → Type 0
  Gave tag page l = (known : Pages) → d.contents l ≡ Some known → known tag ≡ Some page

  -- The block of the tag has this page now, and its last write didn't fail
  pub record TookPage (tag : Tag) (page : List ℕ) (before after : L) : Type 0 where
    pub unknown : d.contents before ≡ None → d.contents after ≡ None
    pub pages : (known : Pages) → d.contents before ≡ Some known
        → d.contents after ≡ Some (with_page tag page known)
    pub failed : (known : Pages) → d.contents before ≡ Some known
        → d.failed_writes after ≡ with_mark tag false (d.failed_writes before)

  -- The page of the tag's block is unspecified now, and its last write failed
  pub record TorePage (tag : Tag) (before after : L) : Type 0 where
    pub unknown : d.contents before ≡ None → d.contents after ≡ None
    pub pages : (known : Pages) → d.contents before ≡ Some known
        → IsSomeAnd (d.contents after) (IsTorn tag known)
    pub failed : (known : Pages) → d.contents before ≡ Some known
        → d.failed_writes after ≡ with_mark tag true (d.failed_writes before)

  -- One call more was made
  abbrev pub CountsCall : L → L → Type 0
  CountsCall before after = d.calls after ≡ d.calls before + 1

  -- The blocks that are to be synced are those that were, the block that was written too, or none
  abbrev pub KeepsUnsynced : L → L → Type 0
  KeepsUnsynced before after = d.unsynced after ≡ d.unsynced before

  abbrev pub AddsUnsynced : Tag → L → L → Type 0
  AddsUnsynced tag before after = d.unsynced after ≡ with_mark tag true (d.unsynced before)

  abbrev pub HasSyncedAll : L → Type 0
  HasSyncedAll after = d.unsynced after ≡ no_marks

  -- What the call made of the lane
  abbrev pub LaneDid : L → L → LaneCall → Type 0
  LaneDid before after Untouched = after ≡ before
  LaneDid before after (Read f tag page) = HoldsTheSame before after × CountsTheSame before after
      × Gave tag page.value before × KeepsUnsynced before after × CountsCall before after
  LaneDid before after (ReadFailed tag) = HoldsTheSame before after × ReadRose before after
      × KeepsUnsynced before after × CountsCall before after
  LaneDid before after (Written f tag page) = TookPage tag page.value before after
      × CountsTheSame before after × AddsUnsynced tag before after × CountsCall before after
  LaneDid before after (WriteFailed f tag page) = TorePage tag before after × WriteRose before after
      × AddsUnsynced tag before after × CountsCall before after
  LaneDid before after Synced = HoldsTheSame before after × CountsTheSame before after
      × HasSyncedAll after × CountsCall before after
  LaneDid before after SyncFailed = HoldsTheSame before after × WriteRose before after
      × KeepsUnsynced before after × CountsCall before after
