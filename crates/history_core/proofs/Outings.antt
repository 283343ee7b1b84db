-- Each step keeps what is known of the log's device while it is out.
use Rattle.std.proofs.Common.{◌≡◌, ℕ, ◌+◌, true, List, length, set, Some, sym, refl, ap, ◌∙◌, subst, ⊎_elim}
use Rattle.std.proofs.lemmas.Option.{same_Some}
use mathlib.Core.Option.{some}
use lib.ListN.{get_elem?}
use Rattle.pin_core.specs.declared.view.LogChange.TheVariants as change
use Rattle.pin_core.specs.declared.view.TakenLog.{TakenLog}
use Rattle.pin_core.specs.declared.view.View.{View}
use Rattle.pin_core.specs.declared.view.LoadedWord.TheVariants as seen
use Rattle.pin_core.specs.State.{Config, Page, link, hold, first_view, new_view, emptied_view, joined_view, size_hold}
use Rattle.pin_core.specs.State as pins
use Rattle.pin_core.specs.Kinds as pin_kinds
use Rattle.pin_core.specs.Turns.{view_turned}
use Rattle.pin_core.specs.Sizes.{view_sized}
use Rattle.pin_core.specs.Steps as pin_steps
use Rattle.page_core.specs.Steps as page_steps
use Rattle.page_core.specs.Kinds.{begin_write, make_entry}
use Rattle.history_core.specs.Log.{change_size}
use Rattle.history_core.specs.State.{Device, State, Store, opening}
use Rattle.history_core.specs.Lanes.{lane_back}
use Rattle.history_core.specs.Device as log
use Rattle.history_core.specs.Device.{LogKind, LogAllowed, device_after, view_logged}
use Rattle.history_core.specs.Invariant.{HistoryInvariant}
use Rattle.history_core.specs.Outings.{IsAsTaken, OutingsLaw}
use Rattle.history_core.specs.Steps.{Event, stepped, looked, pool_noting, paged, laned, has_read, has_written, Step, pools, lanes, writes, notes, logs, enters, reads, words, after_word, reads_size, has_seen_size}
use Rattle.history_core.proofs.LogCounting.{by_view, none_out, others_home, is_held}
use Rattle.grid.proofs.Lists.{at_end, at_only, set_else}

abbrev Law : Device → List View → Type 0
Law d views = (i : ℕ) (v : View) (taken : TakenLog) → get_elem? views i ≡ some v → v.log.out ≡ Some taken → v.log.change ≡ change.Untouched → IsAsTaken taken d

-- a view changes elsewhere
aside : (d : Device) (views : List View) → Law d views → (i : ℕ) (v w : View) → get_elem? views i ≡ some v → w.log.out ≡ v.log.out → w.log.change ≡ v.log.change → Law d (set views i w)
aside d views m i v w there out same j u taken at = by_view views i v w there (λ (x : View). (taken : TakenLog) → x.log.out ≡ Some taken → x.log.change ≡ change.Untouched → IsAsTaken taken d) (λ t a b. m i v t there (sym out ∙ a) (sym same ∙ b)) (λ k x o at t a b. m k x t at a b) j u at taken

pools_out : (s : State) (h : HistoryInvariant s) → OutingsLaw s → {e : pin_steps.Event} {core' : pins.State} → pin_steps.Step e s.pool.core core' → Law s.device core'.views
pools_out s h m (pin_steps.touches i f k v there live inside a around) = aside s.device s.pool.core.views m i v (pin_kinds.view_after k s.pool.core.partition_of f (s.pool.core.frame f) (link v f) v) there refl refl
pools_out s h m (pin_steps.turns i p k v there live below a) = aside s.device s.pool.core.views m i v (view_turned k p (hold v p) v) there refl refl
pools_out s h m (pin_steps.sized i fork k v there live a) = aside s.device s.pool.core.views m i v (view_sized k fork s.pool.core v) there refl refl
pools_out s h m (pin_steps.splits v there room) = let w : View = record v { next = v.next + 1 } in let b : View = new_view v.next s.pool.core.base (length v.links) (length v.partitions) (length v.lanes) in let x = aside s.device s.pool.core.views m 0 v w there refl refl in
    λ j u taken at out same. ⊎_elim (λ (t : get_elem? (set s.pool.core.views 0 w) j ≡ some u). x j u taken t out same) (λ (t : (b ≡ u) × (j ≡ length (set s.pool.core.views 0 w))). absurd (none_out (ap (λ (y : View). y.log.out) (sym t.0)) out)) (at_end (set s.pool.core.views 0 w) b u j at)
pools_out s h m (pin_steps.joins j v u there other here live free) = let w : View = joined_view v u in let x = aside s.device s.pool.core.views m 0 v w there refl refl in
    λ k y taken at. by_view (set s.pool.core.views 0 w) j u emptied_view (set_else s.pool.core.views 0 j w other ∙ here) (λ (z : View). (taken : TakenLog) → z.log.out ≡ Some taken → z.log.change ≡ change.Untouched → IsAsTaken taken s.device) (λ t a b. absurd (cc)) (λ n z o at t a b. x n z t at a b) k y at taken

-- a step at the log
module _ (s : State) (h : HistoryInvariant s) (m : OutingsLaw s) (i : ℕ) (v : View) (there : get_elem? s.pool.core.views i ≡ some v) where
  -- the device stays, and the view has it out as before
  same_device : (w : View) (d : Device) → d.bytes ≡ s.device.bytes → d.synced ≡ s.device.synced → d.down ≡ s.device.down → w.log.out ≡ v.log.out → w.log.change ≡ v.log.change → Law d (set s.pool.core.views i w)
  same_device w d bytes synced down out same j u taken at a b = let x = aside s.device s.pool.core.views m i v w there out same j u taken at a b in record { bytes = λ l e. x.bytes l e ∙ sym bytes; synced = synced ∙ x.synced; down = down ∙ x.down }

  -- the view has made a call, or has the device out no more, and no other has it out
  alone : (w : View) (d : Device) → v.log.held ≡ true → ((taken : TakenLog) → w.log.out ≡ Some taken → w.log.change ≡ change.Untouched → IsAsTaken taken d) → Law d (set s.pool.core.views i w)
  alone w d held own j u taken at = by_view s.pool.core.views i v w there (λ (x : View). (taken : TakenLog) → x.log.out ≡ Some taken → x.log.change ≡ change.Untouched → IsAsTaken taken d) own (λ k x o at t a b. absurd (none_out (others_home s h i v there held k x o at) a)) j u at taken

  logged : (k : LogKind) → LogAllowed k s.device v.log → Law (device_after k s.end s.device) (set s.pool.core.views i (view_logged k v))
  logged log.take_log a = same_device (view_logged log.take_log v) (device_after log.take_log s.end s.device) refl refl refl refl refl
  logged log.leave_log a = same_device (view_logged log.leave_log v) (device_after log.leave_log s.end s.device) refl refl refl refl refl
  logged log.see_down a = same_device (view_logged log.see_down v) s.device refl refl refl refl refl
  logged (log.log_out taken) a = alone (view_logged (log.log_out taken) v) s.device a.held (λ t out same. subst (λ (x : TakenLog). IsAsTaken x s.device) (same_Some taken t out) (record { bytes = a.bytes; synced = sym a.synced; down = sym a.down }))
  logged (log.append f tag p bytes) a = alone (view_logged (log.append f tag p bytes) v) (device_after (log.append f tag p bytes) s.end s.device) (is_held s h i v there a.call.out) (λ t out same. absurd (cc))
  logged (log.fail_append f tag p bytes faults) a = alone (view_logged (log.fail_append f tag p bytes faults) v) (device_after (log.fail_append f tag p bytes faults) s.end s.device) (is_held s h i v there a.call.out) (λ t out same. absurd (cc))
  logged log.sync_log a = alone (view_logged log.sync_log v) (device_after log.sync_log s.end s.device) (is_held s h i v there a.out) (λ t out same. absurd (cc))
  logged (log.fail_sync synced faults) a = alone (view_logged (log.fail_sync synced faults) v) (device_after (log.fail_sync synced faults) s.end s.device) (is_held s h i v there a.call.out) (λ t out same. absurd (cc))
  logged (log.log_back noted) a = alone (view_logged (log.log_back noted) v) s.device (is_held s h i v there a.out) (λ t out same. absurd (cc))

pub outings_kept : {e : Event} {s t : State} → Step e s t → HistoryInvariant s → OutingsLaw s → OutingsLaw t
outings_kept (pools {s = s} (page_steps.cores x) a) h m = pools_out s h m x
outings_kept (pools {s = s} (page_steps.touches i f k v there live inside a around) plain) h m = aside s.device s.pool.core.views m i v (paged k s.pool f v) there refl refl
outings_kept (lanes {s = s} i q k v there live low a alone) h m = aside s.device s.pool.core.views m i v (stepped (laned k q v v)) there refl refl
outings_kept (writes {s = s} i q f k v there live low inside a x) h m = aside s.device s.pool.core.views m i v (laned k q v (paged begin_write s.pool f v)) there refl refl
outings_kept (notes {s = s} i q f noted k v there live low inside a x) h m = aside s.device s.pool.core.views m i v (laned (lane_back noted) q v (paged k (pool_noting k s f) f v)) there refl refl
outings_kept (logs {s = s} i k v there live a record_is) h m = logged s h m i v there k a
outings_kept (enters {s = s} i f p ch v there live inside x) h m = aside s.device s.pool.core.views m i v (has_written ch (link v f).copied (s.end + change_size ch) (s.pool.core.frame f).tag p (paged (make_entry p) s.pool f v)) there refl refl
outings_kept (reads {s = s} i f tag p v there live inside a) h m = aside s.device s.pool.core.views m i v (looked (seen.LogEnd s.end) (has_read s.end tag p v)) there refl refl
outings_kept (reads_size {s = s} i fork v there live a) h m = aside s.device s.pool.core.views m i v (looked (seen.LogEnd s.end) (has_seen_size s.end fork (size_hold v fork).blocks v)) there refl refl
outings_kept (words {s = s} i k v there live a) h m = aside s.device s.pool.core.views m i v (after_word k s v) there refl refl

pub outings_open : (c : Config) (store : Store) (page : Page) → OutingsLaw (opening c store page)
outings_open c store page i v taken there out = absurd (none_out (ap (λ (x : View). x.log.out) (sym (at_only (first_view c.base c.frames c.partitions c.lanes) v i there).0)) out)
