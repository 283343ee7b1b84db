-- Each step keeps what is left of the backends that were joined into the first.
use Rattle.std.proofs.Common.{◌≡◌, ◌≢◌, ℕ, ◌+◌, true, false, List, length, set, sym, refl, ap, subst, ⊎_elim}
use Rattle.std.proofs.lemmas.Bool.{both_ways}
use mathlib.Core.Option.{some}
use lib.ListN.{get_elem?}
use Rattle.pin_core.specs.declared.view.LoadedWord.TheVariants as seen
use Rattle.pin_core.specs.declared.view.View.{View}
use Rattle.pin_core.specs.State.{Config, Page, link, hold, first_view, new_view, emptied_view, joined_view, size_hold}
use Rattle.pin_core.specs.State as pins
use Rattle.pin_core.specs.Kinds as pin_kinds
use Rattle.pin_core.specs.Turns.{view_turned}
use Rattle.pin_core.specs.Sizes.{view_sized}
use Rattle.pin_core.specs.Steps as pin_steps
use Rattle.page_core.specs.Steps as page_steps
use Rattle.page_core.specs.Kinds.{begin_write, make_entry}
use Rattle.history_core.specs.Log.{change_size}
use Rattle.history_core.specs.Lanes.{lane_back}
use Rattle.history_core.specs.Device.{view_logged}
use Rattle.history_core.specs.State.{State, Store, opening}
use Rattle.history_core.specs.Invariant.{HistoryInvariant}
use Rattle.history_core.specs.Spent.{SpentLaw}
use Rattle.history_core.specs.Steps.{Event, stepped, looked, pool_noting, paged, laned, has_read, has_written, Step, pools, lanes, writes, notes, logs, enters, reads, Run, rests, goes, words, after_word, reads_size, has_seen_size}
use Rattle.history_core.proofs.Stepping.{step_keeps}
use Rattle.grid.proofs.Lists.{at_set, at_end, at_only}

abbrev AllSpent : List View → Type 0
AllSpent views = (i : ℕ) (v : View) → get_elem? views i ≡ some v → v.emptied ≡ true → v ≡ emptied_view

-- a view that is there changes
spent_set : (views : List View) → AllSpent views → (i : ℕ) (w : View) → (w.emptied ≡ true → w ≡ emptied_view) → AllSpent (set views i w)
spent_set views h i w x j u at gone = ⊎_elim (λ (y : (j ≡ i) × (w ≡ u)). subst (λ (z : View). z.emptied ≡ true → z ≡ emptied_view) y.1 x gone) (λ (y : (j ≢ i) × (get_elem? views j ≡ some u)). h j u y.1 gone) (at_set views i j w u at)

spent_live : (views : List View) → AllSpent views → (i : ℕ) (w : View) → w.emptied ≡ false → AllSpent (set views i w)
spent_live views h i w live = spent_set views h i w (λ gone. absurd (both_ways _ live gone))

pools_spent : (s : State) (h : HistoryInvariant s) → SpentLaw s → {e : pin_steps.Event} {core' : pins.State} → pin_steps.Step e s.pool.core core' → AllSpent core'.views
pools_spent s h m (pin_steps.touches i f k v there live inside a around) = spent_live s.pool.core.views m i (pin_kinds.view_after k s.pool.core.partition_of f (s.pool.core.frame f) (link v f) v) live
pools_spent s h m (pin_steps.turns i p k v there live below a) = spent_live s.pool.core.views m i (view_turned k p (hold v p) v) live
pools_spent s h m (pin_steps.sized i fork k v there live a) = spent_live s.pool.core.views m i (view_sized k fork s.pool.core v) live
pools_spent s h m (pin_steps.splits v there room) = let w : View = record v { next = v.next + 1 } in let b : View = new_view v.next s.pool.core.base (length v.links) (length v.partitions) (length v.lanes) in let x = spent_live s.pool.core.views m 0 w (h.pool.core.views.first v there).0 in
    λ j u at gone. ⊎_elim (λ (y : get_elem? (set s.pool.core.views 0 w) j ≡ some u). x j u y gone) (λ (y : (b ≡ u) × (j ≡ length (set s.pool.core.views 0 w))). absurd (both_ways _ (ap (λ (z : View). z.emptied) (sym y.0)) gone)) (at_end (set s.pool.core.views 0 w) b u j at)
pools_spent s h m (pin_steps.joins j v u there other here live free) = spent_set (set s.pool.core.views 0 (joined_view v u)) (spent_live s.pool.core.views m 0 (joined_view v u) (h.pool.core.views.first v there).0) j emptied_view (λ gone. refl)

pub spent_kept : {e : Event} {s t : State} → Step e s t → HistoryInvariant s → SpentLaw s → SpentLaw t
spent_kept (pools {s = s} (page_steps.cores x) a) h m = pools_spent s h m x
spent_kept (pools {s = s} (page_steps.touches i f k v there live inside a around) plain) h m = spent_live s.pool.core.views m i (paged k s.pool f v) live
spent_kept (lanes {s = s} i q k v there live low a alone) h m = spent_live s.pool.core.views m i (stepped (laned k q v v)) live
spent_kept (writes {s = s} i q f k v there live low inside a x) h m = spent_live s.pool.core.views m i (laned k q v (paged begin_write s.pool f v)) live
spent_kept (notes {s = s} i q f noted k v there live low inside a x) h m = spent_live s.pool.core.views m i (laned (lane_back noted) q v (paged k (pool_noting k s f) f v)) live
spent_kept (logs {s = s} i k v there live a record_is) h m = spent_live s.pool.core.views m i (view_logged k v) live
spent_kept (enters {s = s} i f p ch v there live inside x) h m = spent_live s.pool.core.views m i (has_written ch (link v f).copied (s.end + change_size ch) (s.pool.core.frame f).tag p (paged (make_entry p) s.pool f v)) live
spent_kept (reads {s = s} i f tag p v there live inside a) h m = spent_live s.pool.core.views m i (looked (seen.LogEnd s.end) (has_read s.end tag p v)) live
spent_kept (reads_size {s = s} i fork v there live a) h m = spent_live s.pool.core.views m i (looked (seen.LogEnd s.end) (has_seen_size s.end fork (size_hold v fork).blocks v)) live
spent_kept (words {s = s} i k v there live a) h m = spent_live s.pool.core.views m i (after_word k s v) live

pub spent_after : {es : List Event} {s t : State} → Run es s t → HistoryInvariant s → SpentLaw s → SpentLaw t
spent_after rests h m = m
spent_after (goes x r) h m = spent_after r (step_keeps x h) (spent_kept x h m)

pub spent_open : (c : Config) (store : Store) (page : Page) → SpentLaw (opening c store page)
spent_open c store page i v there gone = absurd (both_ways _ (ap (λ (z : View). z.emptied) (sym (at_only (first_view c.base c.frames c.partitions c.lanes) v i there).0)) gone)
