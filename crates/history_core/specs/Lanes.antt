-- The latches of the lanes: the kinds of step at one, and what holds of it.
use Rattle.std.specs.Prelude.{◌≡◌, ◌≢◌, ℕ, ◌<◌, ◌≤◌, Bool, true, false, List, [], ◌∷◌, ◌++◌, max}
use Rattle.std.specs.Prelude.{Some, None, slice_set, ◌||◌, ◌&&◌, not, if◌then◌else◌}
use mathlib.Core.Option.{some}
use lib.ListN.{get_elem?}
use Rattle.page_layout.specs.Fields.{lsn_of}
use Rattle.pin_core.specs.declared.view.LaneChange.{LaneChange}
use Rattle.pin_core.specs.declared.view.LaneChange.TheVariants.{Untouched, Read, ReadFailed}
use Rattle.pin_core.specs.declared.view.LaneChange.TheVariants.{Written, WriteFailed, Synced}
use Rattle.pin_core.specs.declared.view.LaneChange.TheVariants.{SyncFailed}
use Rattle.pin_core.specs.declared.view.BlockPage.{BlockPage}
use Rattle.pin_core.specs.declared.view.BlockMark.{BlockMark}
use Rattle.pin_core.specs.declared.view.TakenLane.{TakenLane}
use Rattle.pin_core.specs.declared.view.LaneHold.{LaneHold}
use Rattle.pin_core.specs.declared.view.DeviceCall.{DeviceCall}
use Rattle.pin_core.specs.declared.view.DeviceCall.TheVariants as device
use Rattle.pin_core.specs.declared.view.Link.{Link}
use Rattle.pin_core.specs.declared.view.FailedCalls.{FailedCalls}
use Rattle.pin_core.specs.declared.view.View.{View}
use Rattle.pin_core.specs.State.{Page, lane_hold, sum_of_met}
use Rattle.pin_core.specs.Tallies.{flag_weight}
use Rattle.history_core.specs.State.{Lane, last_count, raised}
use Rattle.grid.specs.Shape.{Shape, Part, put}

-- The kinds of step at a lane's latch. A call that fails makes a count of faults rise to the number
-- that is its last field
pub data LaneKind : Type 0 where
  -- the latch is taken
  take_lane : LaneKind
  -- the latch is left
  leave_lane : LaneKind
  -- the lane goes out to the holder, and this is what it is then
  lane_out : TakenLane → LaneKind
  -- the holder reads the page of the block of a tag (`smgrread`)
  read_block : ℕ → Page → LaneKind
  -- the holder fails to read the block of a tag
  fail_read : ℕ → ℕ → LaneKind
  -- the holder writes the page of a frame to the block of the frame's tag (`smgrwrite`)
  write_block : ℕ → ℕ → Page → LaneKind
  -- the holder fails to write such a page; the lane's page of the block is unspecified then
  fail_write : ℕ → ℕ → Page → ℕ → LaneKind
  -- the holder makes the lane's writes durable (`smgrimmedsync`)
  sync_lane : LaneKind
  -- the holder fails to make the lane's writes durable
  fail_sync : ℕ → LaneKind
  -- the lane comes back; the backend counts a fault, or none
  lane_back : Bool → LaneKind

-- whether the call of a lane was a read that failed
abbrev pub is_failed_read : LaneChange → Bool
is_failed_read (ReadFailed tag) = true
is_failed_read _ = false

-- whether the call of a lane was a write or sync that failed
abbrev pub is_failed_write : LaneChange → Bool
is_failed_write (WriteFailed f tag) = true
is_failed_write SyncFailed = true
is_failed_write _ = false

-- The lane holds the block as it is noted: its page, and whether its last write failed
pub record IsBlockPage (ln : Lane) (b : BlockPage) : Type 0 where
  -- the lane holds the page
  pub stored : ln.stored b.tag ≡ Some b.page
  -- the block's last write failed if and only if that is noted
  pub failed : ln.failed b.tag ≡ b.failed

-- A backend may take the latch of a lane
pub record CanTakeLane (ln : Lane) (h : LaneHold) : Type 0 where
  -- the lane's latch is free
  pub free : ln.taken ≡ false

-- The holder may leave the latch of a lane
pub record CanLeaveLane (ln : Lane) (h : LaneHold) : Type 0 where
  -- the backend holds the latch
  pub held : h.held ≡ true
  -- the lane isn't out
  pub home : h.out ≡ None

-- The holder of the latch may take the lane out; what is noted of it is what it is: its counts, its
-- blocks, if they are noted, and which of them were written since the last sync
pub record CanTakeOut (taken : TakenLane) (ln : Lane) (h : LaneHold) : Type 0 where
  -- the backend holds the latch
  pub held : h.held ≡ true
  -- the lane isn't out
  pub home : h.out ≡ None
  -- the count of failed reads that is noted is the lane's
  pub reads : taken.read_faults ≡ ln.read_faults
  -- the count of failed writes and syncs that is noted is the lane's
  pub writes : taken.write_faults ≡ ln.write_faults
  -- if blocks are noted, the lane holds each as noted
  pub pages : (blocks : List BlockPage) (k : ℕ) (b : BlockPage) → taken.pages ≡ Some blocks
      → get_elem? blocks k ≡ some b → IsBlockPage ln b
  -- a block's mark is set if and only if the block was written since the lane's last sync
  pub marks : (k : ℕ) (m : BlockMark) → get_elem? taken.marks k ≡ some m
      → ln.unsynced m.tag ≡ m.unsynced

-- The holder may call the lane, once each time that it is out
pub record CanCall (ln : Lane) (h : LaneHold) : Type 0 where
  -- the lane is out
  pub out : h.out ≢ None
  -- the lane wasn't called since it went out
  pub once : h.change ≡ Untouched

-- A call that failed made a count rise, or the count stands at its last value
pub record Rises (before now : ℕ) : Type 0 where
  -- the count is greater than it was, unless that is its last value
  pub least : raised before ≤ now
  -- the count is at most its last value
  pub within : now ≤ last_count

-- A call of a lane may fail
pub record CanFail (before now : ℕ) (ln : Lane) (h : LaneHold) : Type 0 where
  -- the lane is out, and wasn't called since it went out
  pub call : CanCall ln h
  -- the count of faults rises, or stays at its last value
  pub rises : Rises before now

-- The holder may read a block; if the lane's contents are known, the page that is read is the one
-- that the lane holds
pub record CanReadBlock (tag : ℕ) (page : Page) (ln : Lane) (h : LaneHold) : Type 0 where
  -- the lane is out, and wasn't called since it went out
  pub call : CanCall ln h
  -- if the lane's contents are known, the page is the one that the lane holds
  pub given : ln.known ≡ true → ln.stored tag ≡ Some page

-- A fault is counted only for a call that failed. It is counted for each write or sync that failed,
-- even if the count stands at its last value, and whenever a count rose.
-- A read that failed at the count's last value may be counted or not, since the backend can't see
-- the count rise. Contracts don't say by how much a count rises.
pub record CountsFault (noted : Bool) (taken : TakenLane) (ln : Lane)
    (change : LaneChange) : Type 0 where
  -- if a fault is counted, the call failed
  pub failed : noted ≡ true → (is_failed_read change || is_failed_write change) ≡ true
  -- if the call was a write or sync that failed, a fault is counted
  pub all : is_failed_write change ≡ true → noted ≡ true
  -- if the count of failed reads rose, a fault is counted
  pub read_rose : taken.read_faults < ln.read_faults → noted ≡ true
  -- if the count of failed writes and syncs rose, a fault is counted
  pub write_rose : taken.write_faults < ln.write_faults → noted ≡ true

-- The holder of the latch may return the lane
pub record CanReturnLane (noted : Bool) (ln : Lane) (h : LaneHold) : Type 0 where
  -- the lane is out
  pub out : h.out ≢ None
  -- a fault is counted only if the call failed, and always if a write or sync failed or a count
  -- rose
  pub counts : (taken : TakenLane) → h.out ≡ Some taken → CountsFault noted taken ln h.change

-- What each kind asks of the lane, and of what the view has of the latch
abbrev pub LaneAllowed : LaneKind → Lane → LaneHold → Type 0
LaneAllowed take_lane ln h = CanTakeLane ln h
LaneAllowed leave_lane ln h = CanLeaveLane ln h
LaneAllowed (lane_out taken) ln h = CanTakeOut taken ln h
LaneAllowed (read_block tag page) ln h = CanReadBlock tag page ln h
LaneAllowed (fail_read tag n) ln h = CanFail ln.read_faults n ln h
LaneAllowed (fail_write f tag p n) ln h = CanFail ln.write_faults n ln h
LaneAllowed (fail_sync n) ln h = CanFail ln.write_faults n ln h
LaneAllowed (lane_back noted) ln h = CanReturnLane noted ln h
LaneAllowed _ ln h = CanCall ln h

-- What a kind makes of the lane
abbrev pub lane_after : LaneKind → Lane → Lane
lane_after take_lane ln = record ln { taken = true }
lane_after leave_lane ln = record ln { taken = false }
lane_after (fail_read tag n) ln = record ln { read_faults = n }
lane_after (write_block f tag p) ln = record ln {
  stored = put ln.stored tag (Some p);
  stored_upto = put ln.stored_upto tag (max (ln.stored_upto tag) (lsn_of p));
  failed = put ln.failed tag false;
  unsynced = put ln.unsynced tag true;
}
lane_after (fail_write f tag p n) ln = record ln {
  stored = put ln.stored tag (Some p);
  failed = put ln.failed tag true;
  unsynced = put ln.unsynced tag true;
  write_faults = n;
}
lane_after sync_lane ln = record ln { synced_upto = ln.stored_upto; unsynced = λ _. false }
lane_after (fail_sync n) ln = record ln { write_faults = n }
lane_after _ ln = ln

-- whether a checkpoint has visited the frame of each link, and none is left that it has still to
-- write
abbrev pub all_ended : List Link → Bool
all_ended [] = true
all_ended (l ∷ ls) = l.visited && not l.left_to_write && all_ended ls

-- the position where a view's checkpoint began, if it has nothing left to write, else 0
abbrev pub swept_by : View → ℕ
swept_by v = if all_ended v.links then v.upto else 0

-- What a kind makes of what the view has of the latch. The view had loaded the flushed position
-- `flushed`; `swept` is the position where its checkpoint began, if nothing is left to write of it,
-- else 0
abbrev pub lane_hold_after : LaneKind → ℕ → ℕ → LaneHold → LaneHold
lane_hold_after take_lane flushed swept h = record h { held = true }
lane_hold_after leave_lane flushed swept h = record h { held = false }
lane_hold_after (lane_out taken) flushed swept h = record h { out = Some taken; flushed = flushed }
lane_hold_after (read_block tag page) flushed swept h = record h { change = Read tag page }
lane_hold_after (fail_read tag n) flushed swept h = record h { change = ReadFailed tag }
lane_hold_after (write_block f tag p) flushed swept h = record h { change = Written f tag p }
lane_hold_after (fail_write f tag p n) flushed swept h = record h { change = WriteFailed f tag }
lane_hold_after sync_lane flushed swept h = record h { change = Synced; swept = max h.swept swept }
lane_hold_after (fail_sync n) flushed swept h = record h { change = SyncFailed }
lane_hold_after (lane_back noted) flushed swept h = record h { out = None; change = Untouched }

-- the device call that a kind is, at the lane n
abbrev pub lane_calls_by : LaneKind → ℕ → List DeviceCall
lane_calls_by (read_block tag page) n = device.LaneRead n tag true ∷ []
lane_calls_by (fail_read tag m) n = device.LaneRead n tag false ∷ []
lane_calls_by (write_block f tag p) n = device.LaneWrite n tag p true ∷ []
lane_calls_by (fail_write f tag p m) n = device.LaneWrite n tag p false ∷ []
lane_calls_by sync_lane n = device.LaneSync n true ∷ []
lane_calls_by (fail_sync m) n = device.LaneSync n false ∷ []
lane_calls_by _ n = []

-- the fault that a backend counts as the lane comes back
abbrev pub fault_of : Bool → LaneChange → FailedCalls
fault_of true (ReadFailed tag) = record { reads = 1; writes = 0; logs = 0 }
fault_of true (WriteFailed f tag) = record { reads = 0; writes = 1; logs = 0 }
fault_of true SyncFailed = record { reads = 0; writes = 1; logs = 0 }
fault_of _ _ = record { reads = 0; writes = 0; logs = 0 }

-- the fault that a kind counts
abbrev pub lane_met_by : LaneKind → LaneHold → FailedCalls
lane_met_by (lane_back noted) h = fault_of noted h.change
lane_met_by _ h = record { reads = 0; writes = 0; logs = 0 }

-- whether a kind is a call of the lane's sync
abbrev pub syncs : LaneKind → Bool
syncs sync_lane = true
syncs (fail_sync n) = true
syncs _ = false

-- What a kind at the lane n makes of the view, beside the number of its steps
abbrev pub lane_changed : LaneKind → ℕ → ℕ → LaneHold → View → View
lane_changed k n swept h v = record v {
  lanes = slice_set v.lanes n (lane_hold_after k v.flushed swept h);
  device_calls = v.device_calls ++ lane_calls_by k n;
  met = sum_of_met v.met (lane_met_by k h);
  dirtied_or_synced = v.dirtied_or_synced || syncs k;
}

-- what is summed over the views of a latch: those that hold it
pub data LaneTally : Type 0 where
  -- the views that hold the latch
  holders : LaneTally

-- the grid of views and lanes; what is known of every lane is the flushed position
abbrev pub lane_shape : Shape
lane_shape = record {
  Column = Lane;
  Link = LaneHold;
  View = View;
  Tally = LaneTally;
  Block = ℕ;
  Own = Unit {0};
  weigh = λ _ h. flag_weight h.held;
  link = lane_hold;
  own = λ _. tt;
  spot = λ _. 0;
}

-- What holds of a lane and of how many views hold its latch
pub record LaneColumn (ln : Lane) (t : LaneTally → ℕ) : Type 0 where
  -- one view holds the latch if it is taken, and none if it isn't
  pub taken : flag_weight ln.taken ≡ t holders

-- What holds of a lane that is out, after a write
pub record WrittenLane (ln : Lane) (tag : ℕ) (page : Page) : Type 0 where
  -- the lane holds the page
  pub stored : ln.stored tag ≡ Some page
  -- the lane has the block's entries up to the page's position
  pub upto : lsn_of page ≤ ln.stored_upto tag
  -- the block's last write didn't fail
  pub done : ln.failed tag ≡ false

-- What holds of the counts of a lane that is out
pub record CountsOut (taken : TakenLane) (ln : Lane) (change : LaneChange) : Type 0 where
  -- unless the holder's call is a read that failed, the count of failed reads is as it was when the
  -- lane went out
  pub reads : is_failed_read change ≡ false → ln.read_faults ≡ taken.read_faults
  -- if the holder's read failed, the count of failed reads rose, or stands at its last value
  pub read_failed : is_failed_read change ≡ true → Rises taken.read_faults ln.read_faults
  -- unless the holder's call is a write or sync that failed, the count of failed writes and syncs
  -- is as it was when the lane went out
  pub writes : is_failed_write change ≡ false → ln.write_faults ≡ taken.write_faults
  -- if the holder's write or sync failed, the count of failed writes and syncs rose, or stands at
  -- its last value
  pub write_failed : is_failed_write change ≡ true → Rises taken.write_faults ln.write_faults

-- What holds of a lane's pages and of what a view has of its latch; the log is flushed up to
-- `flushed`
pub record LaneHoldLaw (flushed : ℕ) (ln : Lane) (h : LaneHold) : Type 0 where
  -- a view without the latch doesn't have the lane
  pub resting : h.held ≡ false → h.out ≡ None
  -- a call is noted only while the lane is out
  pub home : h.out ≡ None → h.change ≡ Untouched
  -- the page that was read is the one that the lane holds, if the lane's contents are known
  pub read : (tag : ℕ) (page : Page) → h.change ≡ Read tag page → ln.known ≡ true
      → ln.stored tag ≡ Some page
  -- after a write the lane holds the page, and the block's last write didn't fail
  pub written : (f tag : ℕ) (page : Page) → h.change ≡ Written f tag page → WrittenLane ln tag page
  -- after a write that failed the block is among those whose last write failed
  pub write_failed : (f tag : ℕ) → h.change ≡ WriteFailed f tag → ln.failed tag ≡ true
  -- while the lane is out, the flushed position that the holder keeps with it is at most the
  -- flushed position
  pub flushed_by : h.out ≢ None → h.flushed ≤ flushed

-- What holds of a lane's pages and counts, and of what a view has of its latch
pub record LaneLink (flushed : ℕ) (ln : Lane) (h : LaneHold) : Type 0 where
  -- the law of the lane's pages, and of what the view has of its latch
  pub hold : LaneHoldLaw flushed ln h
  -- while the lane is out, its counts are as they were, but for the holder's call that failed
  pub counts : (taken : TakenLane) → h.out ≡ Some taken → CountsOut taken ln h.change
  -- until the holder's call the lane's blocks are as they were noted when it went out
  pub blocks : (taken : TakenLane) (blocks : List BlockPage) (k : ℕ) (b : BlockPage)
      → h.out ≡ Some taken → h.change ≡ Untouched → taken.pages ≡ Some blocks
      → get_elem? blocks k ≡ some b → IsBlockPage ln b
  -- until the holder's call the marks of the lane's unsynced blocks are as they were noted when it
  -- went out
  pub marks : (taken : TakenLane) (k : ℕ) (m : BlockMark) → h.out ≡ Some taken
      → h.change ≡ Untouched → get_elem? taken.marks k ≡ some m → ln.unsynced m.tag ≡ m.unsynced

-- the law of lanes, in this grid
abbrev pub lane_part : Part lane_shape
lane_part = record {
  column = λ _ ln t. LaneColumn ln t;
  cell = λ flushed ln _ h. LaneLink flushed ln h;
}
