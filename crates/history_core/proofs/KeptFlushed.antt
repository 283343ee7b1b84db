-- Only a lane that goes out changes the flushed position that a backend keeps with it, and a join away.
use Rattle.std.proofs.Common.{◌≡◌, ℕ, zero, suc, ◌+◌, List, [], ◌∷◌, length, set, slice_index_or, sym, refl, ap, ◌∙◌, get_or-set_other}
use mathlib.Core.Logic.{dite}
use mathlib.Core.Option.{some, some-injective}
use native.Mathlib.Decide.{ℕ_discrete}
use lib.ListN.{get_elem?}
use Rattle.pin_core.specs.declared.view.LoadedWord.TheVariants as seen
use Rattle.pin_core.specs.declared.view.LaneHold.{LaneHold}
use Rattle.pin_core.specs.declared.view.View.{View}
use Rattle.pin_core.specs.State.{link, hold, lane_hold, no_lane, new_view, emptied_view, joined_view, size_hold}
use Rattle.pin_core.specs.State as pins
use Rattle.pin_core.specs.Sizes.{view_sized}
use Rattle.pin_core.specs.Steps as pin_steps
use Rattle.pin_core.specs.Turns.{view_turned}
use Rattle.pin_core.proofs.Stepping as pin_stepping
use Rattle.page_core.specs.State as page
use Rattle.page_core.specs.Steps as page_steps
use Rattle.page_core.specs.Kinds.{begin_write, make_entry}
use Rattle.history_core.specs.Log.{change_size}
use Rattle.history_core.specs.State.{State}
use Rattle.history_core.specs.Lanes as lane_kinds
use Rattle.history_core.specs.Lanes.{swept_by, LaneKind, lane_back, lane_hold_after}
use Rattle.history_core.specs.Device.{view_logged}
use Rattle.history_core.specs.Steps.{Event, pool, lane, stepped, looked, pool_noting, paged, laned, has_read, has_written, MayWriteLane, Step, pools, lanes, writes, notes, enters, reads, logs, words, after_word, reads_size, has_seen_size}
use Rattle.history_core.specs.Histories.{LeavesHold, HasKeptFlushed, HoldsKeepFlushed}
use Rattle.grid.proofs.Lists.{set_here, set_else, at_longer}

-- what a list of holds keeps with the lane n
abbrev kept : List LaneHold → ℕ → ℕ
kept l n = (slice_index_or l n no_lane).flushed

-- the hold of one lane changes, and not what it keeps
set_keeps : (l : List LaneHold) (m n : ℕ) (h : LaneHold) → h.flushed ≡ kept l m → kept (set l m h) n ≡ kept l n
set_keeps [] m n h e = refl
set_keeps (x ∷ l) zero zero h e = e
set_keeps (x ∷ l) zero (suc n) h e = refl
set_keeps (x ∷ l) (suc m) zero h e = refl
set_keeps (x ∷ l) (suc m) (suc n) h e = set_keeps l m n h e

-- a view changes, and what it keeps doesn't
set_stays : (views : List View) (i j n : ℕ) (a b v : View) → get_elem? views i ≡ some a → (j ≡ i → kept b.lanes n ≡ kept a.lanes n) → get_elem? views j ≡ some v → HasKeptFlushed (set views i b) j n v
set_stays views i j n a b v there same at = dite (ℕ_discrete j i)
    (λ e. let is : a ≡ v = some-injective a v (sym there ∙ ap (get_elem? views) (sym e) ∙ at) in record {
      view = b;
      there = ap (get_elem? (set views i b)) e ∙ set_here views i a b there;
      flushed = same e ∙ ap (λ (x : View). kept x.lanes n) is;
    })
    (λ o. record { view = v; there = set_else views i j b o ∙ at; flushed = refl })

pins_keep : {e : pin_steps.Event} {s t : pins.State} → pin_steps.Step e s t → (j n : ℕ) (v : View) → get_elem? s.views j ≡ some v → LeavesHold (pool (page_steps.pins_and_maps e)) j n → HasKeptFlushed t.views j n v
pins_keep (pin_steps.touches {s = s} i f k u there live inside a around) j n v at leaves = set_stays s.views i j n u (pin_stepping.after k s f u) v there (λ e. refl) at
pins_keep (pin_steps.turns {s = s} i p k u there live below a) j n v at leaves = set_stays s.views i j n u (view_turned k p (hold u p) u) v there (λ e. refl) at
pins_keep (pin_steps.sized {s = s} i fork k u there live a) j n v at leaves = set_stays s.views i j n u (view_sized k fork s u) v there (λ e. refl) at
pins_keep (pin_steps.splits {s = s} u there room) j n v at leaves = let w : View = record u { next = u.next + 1 } in let x = set_stays s.views 0 j n u w v there (λ e. refl) at in
    record { view = x.view; there = at_longer (set s.views 0 w) (new_view u.next s.base (length u.links) (length u.partitions) (length u.lanes) ∷ []) j x.view x.there; flushed = x.flushed }
pins_keep (pin_steps.joins {s = s} k a b there other here live free) j n v at leaves = let x = set_stays s.views 0 j n a (joined_view a b) v there (λ e. refl) at in record { view = x.view; there = set_else (set s.views 0 (joined_view a b)) k j emptied_view leaves ∙ x.there; flushed = x.flushed }

pages_keep : {e : page_steps.Event} {s t : page.State} → page_steps.Step e s t → (j n : ℕ) (v : View) → get_elem? s.core.views j ≡ some v → LeavesHold (pool e) j n → HasKeptFlushed t.core.views j n v
pages_keep (page_steps.cores x) j n v at leaves = pins_keep x j n v at leaves
pages_keep (page_steps.touches {s = s} i f k u there live inside a around) j n v at leaves = set_stays s.core.views i j n u (paged k s f u) v there (λ e. refl) at

-- a kind at the lane m leaves what the view keeps with the lane n
lane_keeps : (k : LaneKind) (i m j n : ℕ) (u : View) → LeavesHold (lane i m k) j n → j ≡ i → kept (set u.lanes m (lane_hold_after k u.flushed (swept_by u) (lane_hold u m))) n ≡ kept u.lanes n
lane_keeps (lane_kinds.lane_out taken) i m j n u leaves e = ap (λ (x : LaneHold). x.flushed) (get_or-set_other u.lanes m n (lane_hold_after (lane_kinds.lane_out taken) u.flushed (swept_by u) (lane_hold u m)) no_lane (λ same. leaves (e, same)))
lane_keeps lane_kinds.take_lane i m j n u leaves e = set_keeps u.lanes m n (lane_hold_after lane_kinds.take_lane u.flushed (swept_by u) (lane_hold u m)) refl
lane_keeps lane_kinds.leave_lane i m j n u leaves e = set_keeps u.lanes m n (lane_hold_after lane_kinds.leave_lane u.flushed (swept_by u) (lane_hold u m)) refl
lane_keeps (lane_kinds.read_block tag p) i m j n u leaves e = set_keeps u.lanes m n (lane_hold_after (lane_kinds.read_block tag p) u.flushed (swept_by u) (lane_hold u m)) refl
lane_keeps (lane_kinds.fail_read tag faults) i m j n u leaves e = set_keeps u.lanes m n (lane_hold_after (lane_kinds.fail_read tag faults) u.flushed (swept_by u) (lane_hold u m)) refl
lane_keeps (lane_kinds.write_block f tag p) i m j n u leaves e = set_keeps u.lanes m n (lane_hold_after (lane_kinds.write_block f tag p) u.flushed (swept_by u) (lane_hold u m)) refl
lane_keeps (lane_kinds.fail_write f tag p faults) i m j n u leaves e = set_keeps u.lanes m n (lane_hold_after (lane_kinds.fail_write f tag p faults) u.flushed (swept_by u) (lane_hold u m)) refl
lane_keeps lane_kinds.sync_lane i m j n u leaves e = set_keeps u.lanes m n (lane_hold_after lane_kinds.sync_lane u.flushed (swept_by u) (lane_hold u m)) refl
lane_keeps (lane_kinds.fail_sync faults) i m j n u leaves e = set_keeps u.lanes m n (lane_hold_after (lane_kinds.fail_sync faults) u.flushed (swept_by u) (lane_hold u m)) refl
lane_keeps (lane_kinds.lane_back noted) i m j n u leaves e = set_keeps u.lanes m n (lane_hold_after (lane_kinds.lane_back noted) u.flushed (swept_by u) (lane_hold u m)) refl

-- a write of a frame's page takes no lane out
write_leaves : (k : LaneKind) (s : State) (i m f j n : ℕ) (h : LaneHold) (l : _) → MayWriteLane k s m f h l → LeavesHold (lane i m k) j n
write_leaves (lane_kinds.lane_out taken) s i m f j n h l x = absurd x
write_leaves lane_kinds.take_lane s i m f j n h l x = tt
write_leaves lane_kinds.leave_lane s i m f j n h l x = tt
write_leaves (lane_kinds.read_block tag p) s i m f j n h l x = tt
write_leaves (lane_kinds.fail_read tag faults) s i m f j n h l x = tt
write_leaves (lane_kinds.write_block g tag p) s i m f j n h l x = tt
write_leaves (lane_kinds.fail_write g tag p faults) s i m f j n h l x = tt
write_leaves lane_kinds.sync_lane s i m f j n h l x = tt
write_leaves (lane_kinds.fail_sync faults) s i m f j n h l x = tt
write_leaves (lane_kinds.lane_back noted) s i m f j n h l x = tt

step_keeps : {e : Event} {s t : State} → Step e s t → (j n : ℕ) (v : View) → get_elem? s.pool.core.views j ≡ some v → LeavesHold e j n → HasKeptFlushed t.pool.core.views j n v
step_keeps (pools x a) j n v at leaves = pages_keep x j n v at leaves
step_keeps (lanes {s = s} i m k u there live low a alone) j n v at leaves = set_stays s.pool.core.views i j n u (stepped (laned k m u u)) v there (λ e. lane_keeps k i m j n u leaves e) at
step_keeps (writes {s = s} i m f k u there live low inside a x) j n v at leaves = set_stays s.pool.core.views i j n u (laned k m u (paged begin_write s.pool f u)) v there (λ e. lane_keeps k i m j n u (write_leaves k s i m f j n (lane_hold u m) (link u f) x) e) at
step_keeps (notes {s = s} i m f noted k u there live low inside a x) j n v at leaves = set_stays s.pool.core.views i j n u (laned (lane_back noted) m u (paged k (pool_noting k s f) f u)) v there (λ e. lane_keeps (lane_back noted) i m j n u tt e) at
step_keeps (logs {s = s} i k u there live a record_is) j n v at leaves = set_stays s.pool.core.views i j n u (view_logged k u) v there (λ e. refl) at
step_keeps (enters {s = s} i f p ch u there live inside x) j n v at leaves = set_stays s.pool.core.views i j n u (has_written ch (link u f).copied (s.end + change_size ch) (s.pool.core.frame f).tag p (paged (make_entry p) s.pool f u)) v there (λ e. refl) at
step_keeps (reads {s = s} i f tag p u there live inside a) j n v at leaves = set_stays s.pool.core.views i j n u (looked (seen.LogEnd s.end) (has_read s.end tag p u)) v there (λ e. refl) at
step_keeps (reads_size {s = s} i fork u there live a) j n v at leaves = set_stays s.pool.core.views i j n u (looked (seen.LogEnd s.end) (has_seen_size s.end fork (size_hold u fork).blocks u)) v there (λ e. refl) at
step_keeps (words {s = s} i k u there live a) j n v at leaves = set_stays s.pool.core.views i j n u (after_word k s u) v there (λ e. refl) at

pub holds_keep : (s : State) → HoldsKeepFlushed s
holds_keep s e t x i n v at leaves = step_keeps x i n v at leaves
