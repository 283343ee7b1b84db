-- Each step keeps the log ends that backends have seen within the log's end.
use Rattle.std.proofs.Common.{◌≡◌, ◌≢◌, ℕ, ◌+◌, ◌≤◌, List, length, set, refl, ap, ⊎_elim, arith}
use Rattle.std.specs.Prelude.{max}
use mathlib.Core.Option.{some}
use lib.ListN.{get_elem?}
use Rattle.pin_core.specs.declared.view.LoadedWord.TheVariants as seen
use Rattle.pin_core.specs.declared.view.View.{View}
use Rattle.pin_core.specs.State.{Config, Page, link, hold, first_view, new_view, emptied_view, joined_view, size_hold}
use Rattle.pin_core.specs.State as pins
use Rattle.pin_core.specs.Kinds as pin_kinds
use Rattle.pin_core.specs.Turns.{view_turned}
use Rattle.pin_core.specs.Sizes.{view_sized}
use Rattle.pin_core.specs.Steps as pin_steps
use Rattle.page_core.specs.Steps as page_steps
use Rattle.page_core.specs.Kinds.{begin_write, make_entry}
use Rattle.history_core.specs.Log.{change_size}
use Rattle.history_core.specs.Lanes.{lane_back}
use Rattle.history_core.specs.Device.{view_logged}
use Rattle.history_core.specs.State.{State, Store, opening}
use Rattle.history_core.specs.Invariant.{HistoryInvariant}
use Rattle.history_core.specs.Ends.{EndsLaw}
use Rattle.history_core.specs.Steps.{Event, stepped, looked, pool_noting, paged, laned, has_read, has_written, Step, pools, lanes, writes, notes, logs, enters, reads, words, after_word, reads_size, has_seen_size}
use Rattle.history_core.specs.Words.{WordKind, load_end}
use Rattle.grid.proofs.Lists.{at_set, at_end, at_only}

abbrev AllWithin : ℕ → List View → Type 0
AllWithin end views = (i : ℕ) (v : View) → get_elem? views i ≡ some v → v.end_seen ≤ end

-- a view changes, and the end may move on
ends_set : (end : ℕ) (views : List View) → AllWithin end views → (end' i : ℕ) (w : View) → end ≤ end' → w.end_seen ≤ end' → AllWithin end' (set views i w)
ends_set end views m end' i w more low j u at = ⊎_elim (λ (y : (j ≡ i) × (w ≡ u)). let e = ap (λ (x : View). x.end_seen) y.1 in omega arith) (λ (y : (j ≢ i) × (get_elem? views j ≡ some u)). let x = m j u y.1 in omega arith) (at_set views i j w u at)

-- a view that has seen no further end
ends_same : (end : ℕ) (views : List View) → AllWithin end views → (i : ℕ) (v w : View) → get_elem? views i ≡ some v → w.end_seen ≡ v.end_seen → AllWithin end (set views i w)
ends_same end views m i v w there same = ends_set end views m end i w (omega arith) (let x = m i v there in omega arith)

-- a view that has seen the end
ends_seen : (end : ℕ) (views : List View) → AllWithin end views → (i : ℕ) (v w : View) → get_elem? views i ≡ some v → w.end_seen ≤ max v.end_seen end → AllWithin end (set views i w)
ends_seen end views m i v w there is = ends_set end views m end i w (omega arith) (let x = m i v there in omega arith)

pools_ends : (s : State) → s.pool.core.base ≤ s.end → EndsLaw s → {e : pin_steps.Event} {core' : pins.State} → pin_steps.Step e s.pool.core core' → AllWithin s.end core'.views
pools_ends s from m (pin_steps.touches i f k v there live inside a around) = ends_same s.end s.pool.core.views m i v (pin_kinds.view_after k s.pool.core.partition_of f (s.pool.core.frame f) (link v f) v) there refl
pools_ends s from m (pin_steps.turns i p k v there live below a) = ends_same s.end s.pool.core.views m i v (view_turned k p (hold v p) v) there refl
pools_ends s from m (pin_steps.sized i fork k v there live a) = ends_same s.end s.pool.core.views m i v (view_sized k fork s.pool.core v) there refl
pools_ends s from m (pin_steps.splits v there room) = let w : View = record v { next = v.next + 1 } in let b : View = new_view v.next s.pool.core.base (length v.links) (length v.partitions) (length v.lanes) in let x = ends_same s.end s.pool.core.views m 0 v w there refl in
    λ j u at. ⊎_elim (λ (y : get_elem? (set s.pool.core.views 0 w) j ≡ some u). x j u y) (λ (y : (b ≡ u) × (j ≡ length (set s.pool.core.views 0 w))). let e : s.pool.core.base ≡ u.end_seen = ap (λ (z : View). z.end_seen) y.0 in omega arith) (at_end (set s.pool.core.views 0 w) b u j at)
pools_ends s from m (pin_steps.joins j v u there other here live free) = let w : View = joined_view v u in let p = m 0 v there in let q = m j u here in
    ends_set s.end (set s.pool.core.views 0 w) (ends_set s.end s.pool.core.views m s.end 0 w (omega arith) (omega arith)) s.end j emptied_view (omega arith) (omega arith)

-- a kind at a word shows the view the log's end at most
seen_more : (k : WordKind) (s : State) (v : View) → (after_word k s v).end_seen ≤ max v.end_seen s.end
seen_more load_end s v = omega arith
seen_more _ s v = omega arith

pub ends_kept : {e : Event} {s t : State} → Step e s t → HistoryInvariant s → EndsLaw s → EndsLaw t
ends_kept (pools {s = s} (page_steps.cores x) a) h m = pools_ends s (let p = h.based in let q = h.flushed_from in let r = h.flushed_to in omega arith) m x
ends_kept (pools {s = s} (page_steps.touches i f k v there live inside a around) plain) h m = ends_same s.end s.pool.core.views m i v (paged k s.pool f v) there refl
ends_kept (lanes {s = s} i q k v there live low a alone) h m = ends_same s.end s.pool.core.views m i v (stepped (laned k q v v)) there refl
ends_kept (writes {s = s} i q f k v there live low inside a x) h m = ends_same s.end s.pool.core.views m i v (laned k q v (paged begin_write s.pool f v)) there refl
ends_kept (notes {s = s} i q f noted k v there live low inside a x) h m = ends_same s.end s.pool.core.views m i v (laned (lane_back noted) q v (paged k (pool_noting k s f) f v)) there refl
ends_kept (logs {s = s} i k v there live a record_is) h m = ends_same s.end s.pool.core.views m i v (view_logged k v) there refl
ends_kept (enters {s = s} i f p ch v there live inside x) h m = let low = m i v there in ends_set s.end s.pool.core.views m (s.end + change_size ch) i (has_written ch (link v f).copied (s.end + change_size ch) (s.pool.core.frame f).tag p (paged (make_entry p) s.pool f v)) (omega arith) (omega arith)
ends_kept (reads {s = s} i f tag p v there live inside a) h m = ends_seen s.end s.pool.core.views m i v (looked (seen.LogEnd s.end) (has_read s.end tag p v)) there (omega arith)
ends_kept (reads_size {s = s} i fork v there live a) h m = ends_seen s.end s.pool.core.views m i v (looked (seen.LogEnd s.end) (has_seen_size s.end fork (size_hold v fork).blocks v)) there (omega arith)
ends_kept (words {s = s} i k v there live a) h m = ends_seen s.end s.pool.core.views m i v (after_word k s v) there (seen_more k s v)

pub ends_open : (c : Config) (store : Store) (page : Page) → EndsLaw (opening c store page)
ends_open c store page i v there = let e : c.base ≡ v.end_seen = ap (λ (x : View). x.end_seen) (at_only (first_view c.base c.frames c.partitions c.lanes) v i there).0 in omega arith
