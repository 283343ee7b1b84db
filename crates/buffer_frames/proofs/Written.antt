-- A page is written once the log is flushed, or isn't.
use Rattle.std.proofs.Common.{◌≡◌, ℕ, ◌<◌, ◌≤◌, Bool, true, false, Option, Some, sym, ap, ◌∙◌, subst, arith, ⊎_elim}
use Rattle.atomic_table.specs.declared.shared.Seat.{Seat}
use Rattle.block_tag.specs.declared.tag.Tag.{Tag}
use Rattle.block_tag.specs.Names.{packed_tag}
use Rattle.page_layout.specs.Fields.{lsn_of}
use Rattle.segment_store.specs.Contents.{Pages}
use Rattle.pin_core.specs.declared.view.View.{View}
use Rattle.pin_core.specs.State.{Page, link}
use Rattle.table_rule.specs.declared.value.Value.{Value}
use Rattle.frame_table.specs.declared.table.FrameTable.{FrameTable}
use Rattle.frame_table.specs.WordSteps.{DidWord, load_flushed}
use Rattle.frame_table.specs.Seats.{ListsOnly, OnlyRises, SameMarks, SameSeat, Touches, frames_of, view_marks}
use Rattle.wal_flush.specs.declared.flushes.FlushedBy.{FlushedBy}
use Rattle.wal_flush.specs.declared.flushes.FlushedBy.TheVariants.{NoSync, OneSync}
use Rattle.wal_flush.specs.declared.flushes.FlushLog.{FlushLog}
use Rattle.wal_flush.specs.declared.flushes.FlushLog.TheVariants.{LogShort, LogDown, LogFault}
use Rattle.wal_flush.specs.Flushes.{FlushRefused, FlushSeesEnd, ShortOf, as_looked, flushed_view, unflushed_view}
use Rattle.wal_flush.specs.Latched.{KeepsWork}
use Rattle.wal_flush.specs.Latched.{kept_of as log_kept}
use Rattle.wal_flush.proofs.Rising.{flushed_rises}
use Rattle.buffer_frames.specs.Rests.{Stands, kept_by_calls}
use Rattle.buffer_frames.proofs.Keeping.{devices_same, stands_on}
use Rattle.buffer_frames.specs.Flushing.{CallsLane, LogRefuses, LogShows, WentToLane, met_refused, log_syncs, syncs_refused}
use Rattle.buffer_frames.specs.declared.flushing.FrameFlushError.TheVariants.{Log}
use Rattle.buffer_frames.specs.Working.{Made, Within, WorksAt}
use Rattle.frame_table.proofs.Rising.{rises_none, rises_touched}
use Rattle.content_locks.specs.Locks.{Copies}
use Rattle.buffer_frames.proofs.WorkSteps.{made_none, within_all, within_on}

-- what a flush of the log leaves
pub works_flushed : (f : ℕ) (v w : View) → KeepsWork v w → OnlyRises v w → ListsOnly f v w → WorksAt f v w
works_flushed f v w e rises lists = record {
  kept = ap kept_by_calls e;
  advances = rises;
  lists = lists;
  partitions = ap (λ (x : View). x.partitions) e;
  others = λ h n. ap (λ (x : View). link x h) e;
}

pub stands_flushed : {L G : Type 0} (t : FrameTable L G) (s s' : Seat (Value L G) View) → SameSeat s s' → KeepsWork s.me.0 s'.me.0 → Stands t s → Stands t s'
stands_flushed t s s' same e k = stands_on t s s' same (devices_same s.me.0 s'.me.0 (ap (λ (x : View). x.emptied) e) (ap (λ (x : View). x.lanes) e) (ap (λ (x : View). x.sizes) e) (ap (λ (x : View). x.log) e) k.quiet) k

pub marks_flushed : (v w : View) → KeepsWork v w → SameMarks v w
marks_flushed v w e = ap view_marks e

-- its calls, and the faults that it met
flushed_made : (by : FlushedBy) (v w : View) → w ≡ as_looked (flushed_view by v) w → (synced : Bool) × Made (log_syncs synced) v w
flushed_made NoSync v w e = (false, made_none v w (ap (λ (x : View). x.device_calls) e))
flushed_made OneSync v w e = (true, ap (λ (x : View). x.device_calls) e)

pub flushed_met : (by : FlushedBy) (v w : View) → w ≡ as_looked (flushed_view by v) w → w.met ≡ v.met
flushed_met NoSync v w e = ap (λ (x : View). x.met) e
flushed_met OneSync v w e = ap (λ (x : View). x.met) e

refused_made : (why : FlushLog) (v w : View) → w ≡ as_looked (unflushed_view why v) w → Made (syncs_refused why) v w
refused_made (LogShort lsn end) v w e = made_none v w (ap (λ (x : View). x.device_calls) e)
refused_made (LogDown at) v w e = made_none v w (ap (λ (x : View). x.device_calls) e)
refused_made LogFault v w e = ap (λ (x : View). x.device_calls) e

pub refused_met : (why : FlushLog) (v w : View) → w ≡ as_looked (unflushed_view why v) w → w.met ≡ met_refused (Log why) v.met
refused_met (LogShort lsn end) v w e = ap (λ (x : View). x.met) e
refused_met (LogDown at) v w e = ap (λ (x : View). x.met) e
refused_met LogFault v w e = ap (λ (x : View). x.met) e

-- A page went to its lane, or failed to, after a flush of the log
pub wrote_flushed : (done took : Bool) (q tag : ℕ) (page : Page) (lsn : ℕ) (v u w : View) → took ≡ done → lsn ≡ lsn_of page → (by : FlushedBy) → u ≡ as_looked (flushed_view by v) u → lsn ≤ u.flushed → OnlyRises v u → CallsLane took q tag page u w → OnlyRises u w → WentToLane done q tag page v w
wrote_flushed done took q tag page lsn v u w is at by view first since calls until = let synced = flushed_made by v u view in let c = subst (λ (b : Bool). CallsLane b q tag page u w) is calls in record {
  ready = u;
  since = since;
  synced = synced.0;
  log_calls = synced.1;
  log_first = omega arith;
  left = c.left;
  whole = c.whole;
  lane_call = c.calls;
  until = until;
}

-- A refusal of the log, at the page's position
module _ {L G : Type 0} (contents : L → Option Pages) (t : FrameTable L G) where
  shows_at : (why : FlushLog) (tag : Tag) (page : Page) (f lsn : ℕ) (v w : View) → lsn ≡ lsn_of page → FlushRefused lsn v w why → w ≡ as_looked (unflushed_view why v) w → FlushSeesEnd why v w → ShortOf contents t v why → f < frames_of t → (link v f).tag ≡ Some (packed_tag tag) → (link v f).copied ≡ Some page → LogShows contents t why tag page v w
  shows_at (LogShort l e) tag page f lsn v w at (end, tries) left seen short inside remembered copied = let r = tries.work.work in (
    r.0 ∙ at,
    subst (λ (n : ℕ). n < l) (sym r.1) (subst (λ (n : ℕ). end < n) (sym r.0) r.2),
    seen.0,
    seen.1,
    λ q known pages block there are. ⊎_elim
        (λ (low : lsn_of page ≤ e). (let a = r.1 in let b = r.2 in absurd (omega arith)))
        (λ (x : pages tag ≡ Some page). x)
        (short f tag page inside remembered copied q known pages block there are),
  )
  shows_at (LogDown at) tag page f lsn v w is cause left seen short inside remembered copied = (seen.0, seen.1, ap (λ (x : View). x.saw_down) left)
  shows_at LogFault tag page f lsn v w is cause left seen short inside remembered copied = ap (λ (x : View). x.saw_down) left

  pub refuses_at : (why : FlushLog) (tag : Tag) (page : Page) (f lsn : ℕ) (v w : View) → lsn ≡ lsn_of page → FlushRefused lsn v w why → w ≡ as_looked (unflushed_view why v) w → FlushSeesEnd why v w → ShortOf contents t v why → f < frames_of t → (link v f).tag ≡ Some (packed_tag tag) → (link v f).copied ≡ Some page → LogRefuses contents t why tag page v w
  refuses_at why tag page f lsn v w at cause left seen short inside remembered copied = record {
    cause = within_all (λ a b. FlushRefused (lsn_of page) a b why) v w (subst (λ (n : ℕ). FlushRefused n v w why) at cause);
    calls = refused_made why v w left;
    shows = shows_at why tag page f lsn v w at cause left seen short inside remembered copied;
  }

-- the flushed position is loaded
pub loaded_work : (found : ℕ) (v w : View) → DidWord load_flushed v w found → KeepsWork v w
loaded_work found v w d = ap log_kept d.after

-- after a page was copied
pub copied_then_loaded : (f : ℕ) (page : Page) (found : ℕ) (v u w : View) → Touches f v u → Copies f page v u → DidWord load_flushed u w found → Within (Copies f page) v w × Within (λ a b. DidWord load_flushed a b found) v w
copied_then_loaded f page found v u w touches copies loads = (
  within_on (Copies f page) v v u w (rises_none v) (within_all (Copies f page) v u copies) (flushed_rises found u w loads),
  within_on (λ a b. DidWord load_flushed a b found) v u w w (rises_touched f v u touches) (within_all (λ a b. DidWord load_flushed a b found) u w loads) (rises_none w),
)
