-- What a manager gives as it is closed.
use Rattle.std.specs.Prelude.{◌≡◌, ◌≢◌, ◌<◌, ◌≤◌, ℕ, ◌+◌, true, false, List, [], ◌∷◌, ◌++◌, length, map}
use Rattle.std.specs.Prelude.{Option, None}
use Rattle.std.specs.List.{All}
use mathlib.Core.Option.{some}
use lib.ListN.{get_elem?}
use Rattle.pin_core.specs.declared.view.Call.{Call}
use Rattle.pin_core.specs.declared.view.FailedCalls.{FailedCalls}
use Rattle.pin_core.specs.declared.view.TornRecord.{TornRecord}
use Rattle.pin_core.specs.declared.view.View.{View}
use Rattle.pin_core.specs.State.{emptied_view, joined_view, lane_hold, sum_of_met}
use Rattle.pin_core.specs.Steps.{HoldsNothing}
use Rattle.history_core.specs.Log.{Change, IsFront, log_bytes, writes_in}
use Rattle.history_core.specs.State.{State, stored_upto, synced_upto, failed}
use Rattle.history_core.specs.Device.{HasRisen}
use Rattle.history_core.specs.History.{IsHistory}
use Rattle.history_core.specs.Laws.{Laws}
use Rattle.history_core.specs.TornRecords.{IsOfPage}
use Rattle.history_core.specs.Unentered.{IsUnentered}
use Rattle.history_core.specs.Balances.{added_to}
use Rattle.history_core.specs.Promises.{AreDurable, AreStored, AreSynced}
use Rattle.block_tag.specs.declared.tag.Tag.{Tag}
use Rattle.segment_store.specs.Lanes.{HoldTheirs}
use Rattle.table_rule.specs.declared.opening.Opening.{Opening}
use Rattle.table_rule.specs.Shows.{Devices, IsPlaced, IsLane, IsLog, KeepsOpening, lane_opened}
use Rattle.grid.specs.Shape.{total}
use Rattle.io_counts.specs.Additions.{io_counters}
use Rattle.backend_pass.specs.Counts.{io_in_all}
use Rattle.backend_pass.specs.Passes.{HasPublished, PassState}
use Rattle.clock_sweep.specs.FreeFrames.{QueueState, joined_parts, times}
use Rattle.backend_pass.specs.Managers.{first_in, others_in}

-- the calls of the first pass, then those of the others, one pass after the other in the order of
-- the list
abbrev pub calls_of_passes : List PassState → List Call
calls_of_passes [] = []
calls_of_passes (p ∷ ps) = p.view.calls ++ calls_of_passes ps

abbrev pub calls_in_order : List PassState → List Call
calls_in_order ps = (first_in ps).calls ++ calls_of_passes (others_in ps)

-- the records that passes failed to append, one pass after the other
abbrev pub torn_of_passes : List PassState → List TornRecord
torn_of_passes [] = []
torn_of_passes (p ∷ ps) = p.view.torn ++ torn_of_passes ps

-- One of the passes failed to append the record of the change
abbrev pub PassTore : List PassState → Change → Type 0
PassTore ps c =
    (i k : ℕ) × (p : PassState) × (x : TornRecord) × (get_elem? ps i ≡ some p)
    × (get_elem? p.view.torn k ≡ some x) × IsOfPage c x.tag x.page

-- the blocks that passes noted as unentered, one pass after the other
abbrev pub unentered_of_passes : List PassState → List ℕ
unentered_of_passes [] = []
unentered_of_passes (p ∷ ps) = p.view.unentered ++ unentered_of_passes ps

-- One of the passes noted the block as unentered
abbrev pub PassNotes : List PassState → ℕ → Type 0
PassNotes ps tag =
    (i k : ℕ) × (p : PassState) × (get_elem? ps i ≡ some p)
    × (get_elem? p.view.unentered k ≡ some tag)

-- the faults that passes met, in all
abbrev pub met_by_passes : List PassState → FailedCalls
met_by_passes [] = record { reads = 0; writes = 0; logs = 0 }
met_by_passes (p ∷ ps) = sum_of_met p.view.met (met_by_passes ps)

-- a view that takes in those of passes, one after the other
abbrev pub joined_views : View → List PassState → View
joined_views v [] = v
joined_views v (p ∷ ps) = joined_views (joined_view v p.view) ps

-- all of a view but what it published, and the steps by which it did
abbrev pub but_published : View → View
but_published v = record v { steps = 0; published = [] }

-- a pass of the free list that takes in those of passes, one after the other
abbrev pub joined_queues : QueueState → List PassState → QueueState
joined_queues q [] = q
joined_queues q (p ∷ ps) =
    joined_queues (record q { known = joined_parts q.known p.queue.known }) ps

-- how often the passes took a frame from the free list, and how often they pushed it there
abbrev pub takes : ℕ → List PassState → ℕ
takes f ps = total (λ (p : PassState). times f p.queue.known.taken) ps

abbrev pub pushes : ℕ → List PassState → ℕ
pushes f ps = total (λ (p : PassState). times f p.queue.known.pushed) ps

-- The passes of a pool of n frames took each frame once, and once more for each time that it was
-- pushed, but for those that were left
pub record TookEach (n : ℕ) (ps : List PassState) : Type 0 where
  pub left : List ℕ
  pub inside : All (λ f. f < n) left
  pub each : (f : ℕ) → f < n → takes f ps + times f left ≡ 1 + pushes f ps

-- The view has swept each of n lanes up to a position
abbrev pub HasSwept : ℕ → ℕ → View → Type 0
HasSwept n upto v = (q : ℕ) → q < n → upto ≤ (lane_hold v q).swept

-- What holds of the devices for a pass, in the state s that they were given back in
pub record ClosesPass (s : State) (p : PassState) : Type 0 where
  -- its front is the largest place of its reads and writes, or where the log begins, and isn't past
  -- the log's end
  pub front : IsFront s.log.base p.view.calls p.view.front
  pub within : p.view.front ≤ s.end
  -- no log end that it saw is past the log's end
  pub seen : p.view.end_seen ≤ s.end
  -- what it saw flushed is flushed, and is durable in the log
  pub flushed : p.view.flushed ≤ s.flushed
  pub durable : AreDurable s p.view.flushed
  -- if it saw the log down, the log's count of faults rose since the start
  pub down : p.view.saw_down ≡ true → HasRisen s.log_faults s.device.faults
  -- what it swept is still stored, and synced
  pub swept : (upto : ℕ) → HasSwept s.lanes upto p.view → AreSynced s upto × AreStored s upto

-- each pass has this
abbrev pub EachPass : (PassState → Type 0) → List PassState → Type 0
EachPass P ps = (i : ℕ) (p : PassState) → get_elem? ps i ≡ some p → P p

-- the pass never marked a frame dirty or synced a lane
abbrev pub HasNoMark : PassState → Type 0
HasNoMark p = p.view.dirtied_or_synced ≡ false

-- the pass put no page and changed no fork's size
abbrev pub PutNothing : PassState → Type 0
PutNothing p = writes_in p.view.calls ≡ 0

-- Nothing was written: no frame is dirty, no block's last write failed, no pass met a fault of
-- writing, and none ever had an output right
pub record NothingWritten (s : State) (ps : List PassState) : Type 0 where
  pub clean : (f : ℕ) → f < s.pool.core.frames → (s.pool.core.frame f).word.dirty ≡ false
  pub unfailed : (tag : ℕ) → failed s tag ≡ false
  pub met : (met_by_passes ps).writes ≡ 0
  pub output : EachPass (λ p. p.view.had_output ≡ false) ps

-- Nothing was put: the log has no entry, and ends where it begins, which is the front of each pass
pub record NothingPut (s : State) (ps : List PassState) : Type 0 where
  pub entries : s.log.entries ≡ []
  pub end : s.end ≡ s.log.base
  pub fronts : EachPass (λ p. p.view.front ≡ s.log.base) ps

module _ {L G : Type 0} where
  -- The lanes and the log are given back in a state that has the law, and the passes' calls are one
  -- history of the log
  pub record ClosesAll (d : Devices L G) (o : Opening L G) (ps : List PassState) (lanes : List L)
      (log : G) : Type 0 where
    pub state : State
    pub laws : Laws state
    pub opened : KeepsOpening d o state
    -- the first view is those of the passes joined, but for what they may have published since, and
    -- holds nothing; all others are emptied
    pub view : View
    pub first : get_elem? state.pool.core.views 0 ≡ some view
    pub joined : but_published view ≡ but_published (joined_views (first_in ps) (others_in ps))
    pub free : HoldsNothing view
    pub others : (i : ℕ) (u : View) → i ≢ 0 → get_elem? state.pool.core.views i ≡ some u
        → u ≡ emptied_view
    pub counted : length lanes ≡ o.config.lanes
    pub lane : (q : ℕ) (l : L) → get_elem? lanes q ≡ some l
        → IsLane d o.catalog.value state.lanes q (lane_opened d o q) l (state.lane q)
    -- if each lane whose contents were known as it was opened held blocks of its own alone, so does
    -- each whose contents are known now
    pub theirs : HoldTheirs (map d.contents o.lanes.value.items)
        → HoldTheirs (map d.contents lanes)
    -- if a block isn't in a lane's list of unsynced blocks, the lane was synced after the last of
    -- the block's entries that it has
    pub covered : (q word : ℕ) (l : L) (tag : Tag) → get_elem? lanes q ≡ some l
        → IsPlaced o.catalog.value state.lanes q word tag → d.unsynced l tag ≡ false
        → synced_upto state word ≡ stored_upto state word
    -- the end of the log at the failure, if the log is down
    pub mark : Option ℕ
    pub device : IsLog d log mark state.device
    -- if the log isn't down, its device holds the log's bytes and nothing else
    pub bytes : mark ≡ None → state.device.bytes ≡ log_bytes state.names state.log
    -- if the log is down, what follows its bytes begins a record that one of the passes failed to
    -- append
    pub torn : (some : laws.rest.behind.rest ≢ []) → mark ≢ None
        → PassTore ps (laws.rest.behind.begins some).entry.change
    -- a block that a backend noted as unentered is one that one of the passes noted
    pub noted : (tag : ℕ) → IsUnentered state tag → PassNotes ps tag
    pub history : IsHistory state.known state.origin state.opened_sizes state.log
        (calls_in_order ps)
    pub each : EachPass (ClosesPass state) ps
    -- faults were met exactly when a device's count of them rose
    pub reads_rose : 0 < (met_by_passes ps).reads
        → (q : ℕ) × (q < state.lanes)
        × HasRisen (state.lane q).read_faults_at_start (state.lane q).read_faults
    pub writes_rose : 0 < (met_by_passes ps).writes
        → (q : ℕ) × (q < state.lanes)
        × HasRisen (state.lane q).write_faults_at_start (state.lane q).write_faults
    pub logs_rose : 0 < (met_by_passes ps).logs → HasRisen state.log_faults state.device.faults
    pub reads_met : (q : ℕ) → q < state.lanes
        → (state.lane q).read_faults_at_start < (state.lane q).read_faults
        → 0 < (met_by_passes ps).reads
    pub writes_met : (q : ℕ) → q < state.lanes
        → (state.lane q).write_faults_at_start < (state.lane q).write_faults
        → 0 < (met_by_passes ps).writes
    pub logs_met : state.log_faults < state.device.faults → 0 < (met_by_passes ps).logs
    -- if a block's last write failed, a fault of writing was met
    pub failed_met : (tag : ℕ) → failed state tag ≡ true → 0 < (met_by_passes ps).writes
    pub no_mark : EachPass HasNoMark ps → NothingWritten state ps
    pub without_puts : EachPass PutNothing ps → NothingPut state ps
    -- the passes took each frame from the free list once, and once more for each push, but for
    -- those that it still had
    pub frames : TookEach o.config.frames ps
    -- if each pass has published what it counted, the counters have the sums of that
    pub counters : EachPass HasPublished ps → io_counters state.counter ≡ io_in_all ps
    -- each counter has at least what the passes had added to it before the close
    pub least : (number : ℕ)
        → total (λ (p : PassState). added_to number p.view) ps ≤ state.counter number
