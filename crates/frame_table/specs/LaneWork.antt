-- A lane goes out with the holder of its latch, and comes back with the call that was made of it.
use Rattle.std.specs.Prelude.{◌≡◌, ◌≢◌, ℕ, ◌+◌, ◌≤◌, Bool, true, false, List, [], ◌∷◌, ◌++◌, length, max, slice_set, Option, Some, None, is_some, ◌||◌}
use mathlib.Core.Option.{some}
use lib.ListN.{get_elem?}
use Rattle.atomic_table.specs.Table.{Me, rest}
use Rattle.atomic_table.specs.Table as table
use Rattle.block_tag.specs.declared.tag.Tag.{Tag}
use Rattle.block_tag.specs.declared.catalogue.RelEntry.{RelEntry}
use Rattle.block_tag.specs.Names.{packed_tag}
use Rattle.page_layout.specs.Fields.{lsn_of}
use Rattle.segment_store.specs.Contents.{Pages}
use Rattle.pin_core.specs.declared.view.Io.TheVariants.{Input, Output}
use Rattle.pin_core.specs.declared.view.LastWrite.TheVariants.{Done, Failed}
use Rattle.pin_core.specs.declared.view.LaneChange.TheVariants as lane_change
use Rattle.pin_core.specs.declared.view.DeviceCall.{DeviceCall}
use Rattle.pin_core.specs.declared.view.DeviceCall.TheVariants as device
use Rattle.pin_core.specs.declared.view.FailedCalls.{FailedCalls}
use Rattle.pin_core.specs.declared.view.TakenLane.{TakenLane}
use Rattle.pin_core.specs.declared.view.LaneHold.{LaneHold}
use Rattle.pin_core.specs.declared.view.Link.{Link}
use Rattle.pin_core.specs.declared.view.View.{View}
use Rattle.pin_core.specs.State.{Page, link, lane_hold, sum_of_met}
use Rattle.page_core.specs.Kinds.{note_read, note_write}
use Rattle.history_core.specs.State.{State}
use Rattle.history_core.specs.Lanes.{lane_out, read_block, fail_read, write_block, fail_write, sync_lane, fail_sync, lane_back, swept_by}
use Rattle.history_core.specs.Steps.{Event, Run}
use Rattle.history_core.specs.Steps as steps
use Rattle.history_core.specs.Laws.{Laws}
use Rattle.table_rule.specs.declared.noted_lane.NotedLane.{NotedLane}
use Rattle.table_rule.specs.declared.noted_lane.LaneCall.{LaneCall}
use Rattle.table_rule.specs.declared.noted_lane.LaneCall.TheVariants.{Untouched, Read, ReadFailed, Written, WriteFailed, Synced, SyncFailed}
use Rattle.table_rule.specs.declared.value.Value.{Value}
use Rattle.table_rule.specs.declared.value.Value.TheVariants as value
use Rattle.table_rule.specs.Shows.{KeepsOthers, contents_at}
use Rattle.table_rule.specs.LaneCalls.{LaneDevices, LaneDid}
use Rattle.frame_table.specs.declared.table.FrameTable.{FrameTable}
use Rattle.frame_table.specs.Seats.{frames_of, relations_of, lanes_in, opened_of}
use Rattle.table_rule.specs.TakenLanes.{IsBlockOf, HoldsBlocks, taken_lane, page_held}

-- The view v became w by these steps of its backend, one right after the other
pub record DidSteps (events : ℕ → List Event) (v w : View) : Type 0 where
  -- the state before them, which has the law, and the one after
  pub state : State
  pub laws : Laws state
  pub next : State
  -- the view's place there
  pub seat : ℕ
  pub there : get_elem? state.pool.core.views seat ≡ some v
  pub live : v.emptied ≡ false
  pub run : Run (events seat) state next
  pub after : get_elem? next.pool.core.views seat ≡ some w

-- The view has at the lane q what is said, and at all other latches what it had
pub record LaneStep (q : ℕ) (h : LaneHold) (v w : View) : Type 0 where
  pub here : lane_hold w q ≡ h
  pub others : (r : ℕ) → r ≢ q → lane_hold w r ≡ lane_hold v r
  pub partitions : w.partitions ≡ v.partitions
  pub log : w.log ≡ v.log

-- the view has so many links, one for each frame, and so many of lanes
abbrev pub IsWide : ℕ → ℕ → View → Type 0
IsWide frames lanes v = (length v.links ≡ frames) × (length v.lanes ≡ lanes)

-- The lane goes out
abbrev pub out_events : ℕ → TakenLane → ℕ → List Event
out_events q taken i = steps.lane i q (lane_out taken) ∷ []

-- what the view has of the latch while the lane is out, and once it is back
abbrev pub out_lane : TakenLane → ℕ → LaneHold → LaneHold
out_lane taken flushed h = record h {
  held = true;
  out = Some taken;
  change = lane_change.Untouched;
  flushed = flushed;
}

abbrev pub back_lane : LaneHold → LaneHold
back_lane h = record h { out = None; change = lane_change.Untouched }

-- what is made of the view
abbrev pub out_view : ℕ → TakenLane → View → View
out_view q taken v = record v {
  lanes = slice_set v.lanes q (out_lane taken v.flushed (lane_hold v q));
  steps = v.steps + 1;
}

-- The call, and what is noted of it at a frame
module _ {L : Type 0} (d : LaneDevices L) (q : ℕ) (after : L) where
  -- The call's step, if one was made, and the lane's return. A fault is counted if the call failed;
  -- a read is noted at its frame, and a write
  abbrev pub back_events : LaneCall → ℕ → List Event
  back_events Untouched i = steps.lane i q (lane_back false) ∷ []
  back_events (Read f tag page) i = steps.lane i q (read_block (packed_tag tag) page.value)
      ∷ steps.note i q f (lane_back false) (note_read page.value) ∷ []
  back_events (ReadFailed tag) i = steps.lane i q (fail_read (packed_tag tag) (d.read_faults after))
      ∷ steps.lane i q (lane_back true) ∷ []
  back_events (Written f tag page) i = steps.write i q f (write_block f (packed_tag tag) page.value)
      ∷ steps.note i q f (lane_back false) (note_write true) ∷ []
  back_events (WriteFailed f tag page) i = steps.write i q f
      (fail_write f (packed_tag tag) (page_held (d.contents after) tag page.value)
      (d.write_faults after)) ∷ steps.note i q f (lane_back true) (note_write false) ∷ []
  back_events Synced i = steps.lane i q sync_lane ∷ steps.lane i q (lane_back false) ∷ []
  back_events SyncFailed i = steps.lane i q (fail_sync (d.write_faults after))
      ∷ steps.lane i q (lane_back true) ∷ []

  -- the device call that it was; after a write that failed the lane's page of the block is
  -- unspecified
  abbrev pub lane_device_calls : LaneCall → List DeviceCall
  lane_device_calls Untouched = []
  lane_device_calls (Read f tag page) = device.LaneRead q (packed_tag tag) true ∷ []
  lane_device_calls (ReadFailed tag) = device.LaneRead q (packed_tag tag) false ∷ []
  lane_device_calls (Written f tag page) = device.LaneWrite q (packed_tag tag) page.value true ∷ []
  lane_device_calls (WriteFailed f tag page) =
      device.LaneWrite q (packed_tag tag) (page_held (d.contents after) tag page.value) false ∷ []
  lane_device_calls Synced = device.LaneSync q true ∷ []
  lane_device_calls SyncFailed = device.LaneSync q false ∷ []

-- what the view has at the frame of the call
abbrev pub lane_read_link : Page → Link → Link
lane_read_link page l = record l { read = Some page; read_is_home = false }

abbrev pub written_link : Link → Link
written_link l = record l { last_write = Done }

abbrev pub unwritten_link : Link → Link
unwritten_link l = record l { last_write = Failed }

abbrev pub links_of : LaneCall → View → List Link
links_of (Read f tag page) v = slice_set v.links f (lane_read_link page.value (link v f))
links_of (Written f tag page) v = slice_set v.links f (written_link (link v f))
links_of (WriteFailed f tag page) v = slice_set v.links f (unwritten_link (link v f))
links_of _ v = v.links

-- the fault that is counted
abbrev pub met_of : LaneCall → FailedCalls
met_of (ReadFailed tag) = record { reads = 1; writes = 0; logs = 0 }
met_of (WriteFailed f tag page) = record { reads = 0; writes = 1; logs = 0 }
met_of SyncFailed = record { reads = 0; writes = 1; logs = 0 }
met_of _ = record { reads = 0; writes = 0; logs = 0 }

-- how many steps it is, and whether it is a sync
abbrev pub call_steps : LaneCall → ℕ
call_steps Untouched = 1
call_steps _ = 2

abbrev pub is_sync : LaneCall → Bool
is_sync Synced = true
is_sync SyncFailed = true
is_sync _ = false

-- what the view has of the latch after the call: a sync sweeps the lane
abbrev pub swept_lane : LaneCall → View → LaneHold → LaneHold
swept_lane Synced v h = record h { swept = max h.swept (swept_by v) }
swept_lane _ v h = h

-- What the return makes of the view
abbrev pub back_view : {L : Type 0} → LaneDevices L → ℕ → L → LaneCall → View → View
back_view d q after call v = record v {
  links = links_of call v;
  lanes = slice_set v.lanes q (back_lane (swept_lane call v (lane_hold v q)));
  steps = v.steps + call_steps call;
  device_calls = v.device_calls ++ lane_device_calls d q after call;
  met = sum_of_met v.met (met_of call);
  dirtied_or_synced = v.dirtied_or_synced || is_sync call;
}

-- The view has at the call's frame what was noted, and at all others what it had
pub record NotesAt (f : ℕ) (l : Link) (v w : View) : Type 0 where
  pub here : link w f ≡ l
  pub others : (g : ℕ) → g ≢ f → link w g ≡ link v g

abbrev pub IsNoted : LaneCall → View → View → Type 0
IsNoted (Read f tag page) v w = NotesAt f (lane_read_link page.value (link v f)) v w
IsNoted (Written f tag page) v w = NotesAt f (written_link (link v f)) v w
IsNoted (WriteFailed f tag page) v w = NotesAt f (unwritten_link (link v f)) v w
IsNoted _ v w = w.links ≡ v.links

-- A read may be noted: the view has the input right, isn't just putting an earlier read into the
-- frame, and its pin remembers the tag
pub record MayNoteRead (tag : Tag) (l : Link) : Type 0 where
  pub right : l.io ≡ Input
  pub fresh : l.overwritten ≡ None
  pub remembered : l.tag ≡ Some (packed_tag tag)

-- A write may be noted: the view has the output right, the page is the one that it copied there, up
-- to whose position the log is flushed, and its pin remembers the tag
pub record MayNoteWrite (tag : Tag) (page : Page) (flushed : ℕ) (l : Link) : Type 0 where
  pub right : l.io ≡ Output
  pub copied : l.copied ≡ Some page
  pub remembered : l.tag ≡ Some (packed_tag tag)
  pub log_first : lsn_of page ≤ flushed

-- What a call asks of the view; its block is one of the lane
abbrev pub MayNote : List RelEntry → ℕ → ℕ → LaneCall → View → Type 0
MayNote relations lanes q (Read f tag page) v = IsBlockOf relations lanes q tag
    × MayNoteRead tag (link v f)
MayNote relations lanes q (ReadFailed tag) v = IsBlockOf relations lanes q tag
MayNote relations lanes q (Written f tag page) v = IsBlockOf relations lanes q tag
    × MayNoteWrite tag page.value (lane_hold v q).flushed (link v f)
MayNote relations lanes q (WriteFailed f tag page) v = IsBlockOf relations lanes q tag
    × MayNoteWrite tag page.value (lane_hold v q).flushed (link v f)
MayNote relations lanes q Untouched v = Unit {0}
MayNote relations lanes q Synced v = Unit {0}
MayNote relations lanes q SyncFailed v = Unit {0}

module _ {L : Type 0} (d : LaneDevices L) where
  -- What holds of a lane as it goes out: if its contents are known it holds each block of the
  -- relations that lies there, and they are known if they were when the table was opened
  pub record IsTakenLane (opened : Option Pages) (relations : List RelEntry) (lanes q : ℕ) (l : L)
      : Type 0 where
    pub holds : HoldsBlocks d relations lanes q l
    pub known_still : is_some (d.contents l) ≡ is_some opened
    -- what it holds besides the relations' blocks is what it held as the table was opened
    pub others : KeepsOthers relations lanes q opened (d.contents l)

  -- A lane may come back as l, with its number and its call: it went out as `before`, and the call
  -- made this of it
  pub record MayReturn (opened : Option Pages) (relations : List RelEntry) (lanes q : ℕ) (v : View)
      (l : NotedLane L) : Type 0 where
    pub number : l.number ≡ q
    pub before : L
    pub out : (lane_hold v q).out ≡ Some (taken_lane d relations lanes q before)
    pub once : (lane_hold v q).change ≡ lane_change.Untouched
    pub taken : IsTakenLane opened relations lanes q before
    pub did : LaneDid d before l.device l.call
    pub may : MayNote relations lanes q l.call v

module _ {L G : Type 0} where
  -- the lane went out with the seat, from this slot
  abbrev pub lane_went : LaneDevices L → Option Pages → List RelEntry → ℕ → ℕ → ℕ → ℕ
      → table.Step (Value L G) → Me (Value L G) View → ℕ → Me (Value L G) View → Type 0
  lane_went d opened relations lanes frames q place st m found m' =
      (l : NotedLane L) × (m'.1 ≡ (place, value.Lane l) ∷ m.1) × (l.call ≡ Untouched)
      × (l.number ≡ q) × IsTakenLane d opened relations lanes q l.device
      × (m'.0 ≡ out_view q (taken_lane d relations lanes q l.device) m.0)
      × DidSteps (out_events q (taken_lane d relations lanes q l.device)) m.0 m'.0
      × IsWide frames lanes m.0

  -- what a lane of a table is as it goes out, when it may go out, and when it may come back
  abbrev pub taken_at : LaneDevices L → FrameTable L G → ℕ → L → TakenLane
  taken_at d t q l = taken_lane d (relations_of t) (lanes_in t) q l

  abbrev pub IsTakenFrom : LaneDevices L → FrameTable L G → ℕ → L → Type 0
  IsTakenFrom d t q l =
      IsTakenLane d (contents_at d.contents (opened_of t) q) (relations_of t) (lanes_in t) q l

  abbrev pub MayReturnTo : LaneDevices L → FrameTable L G → ℕ → View → NotedLane L → Type 0
  MayReturnTo d t q v l =
      MayReturn d (contents_at d.contents (opened_of t) q) (relations_of t) (lanes_in t) q v l

  -- the value is a lane that went out
  pub record WentOut (d : LaneDevices L) (t : FrameTable L G) (q : ℕ) (y : Value L G) (v w : View) :
      Type 0 where
    pub lane : NotedLane L
    pub is : y ≡ value.Lane lane
    pub untouched : lane.call ≡ Untouched
    pub number : lane.number ≡ q
    pub taken : IsTakenFrom d t q lane.device
    pub view : w ≡ out_view q (taken_at d t q lane.device) v
    pub did : DidSteps (out_events q (taken_at d t q lane.device)) v w
    pub wide : IsWide (frames_of t) (lanes_in t) v

  -- a value came back by these steps, which make this of the view
  abbrev pub came_by : (ℕ → List Event) → (View → View) → table.Step (Value L G)
      → Me (Value L G) View → ℕ → Me (Value L G) View → Type 0
  came_by events after st m found m' = (m'.1 ≡ rest m.1) × (m'.0 ≡ after m.0)
      × DidSteps events m.0 m'.0
