-- Only a backend's own reads and entries, and joins, change its calls and its front.
use Rattle.std.proofs.Common.{◌≡◌, ◌≢◌, ℕ, ◌+◌, List, [], ◌∷◌, length, set, sym, refl, ap, ◌∙◌}
use mathlib.Core.Logic.{dite}
use mathlib.Core.Option.{some, some-injective}
use native.Mathlib.Decide.{ℕ_discrete}
use lib.ListN.{get_elem?}
use Rattle.pin_core.specs.declared.view.LoadedWord.TheVariants as seen
use Rattle.pin_core.specs.declared.view.View.{View}
use Rattle.pin_core.specs.State.{hold, link, new_view, emptied_view, joined_view, size_hold}
use Rattle.pin_core.specs.State as pins
use Rattle.pin_core.specs.Sizes.{view_sized}
use Rattle.pin_core.specs.Steps as pin_steps
use Rattle.pin_core.specs.Turns.{view_turned}
use Rattle.pin_core.proofs.Stepping as pin_stepping
use Rattle.page_core.specs.State as page
use Rattle.page_core.specs.Steps as page_steps
use Rattle.page_core.specs.Kinds.{begin_write, make_entry}
use Rattle.history_core.specs.Log.{change_size}
use Rattle.history_core.specs.State.{State}
use Rattle.history_core.specs.Lanes.{lane_back}
use Rattle.history_core.specs.Device.{view_logged}
use Rattle.history_core.specs.Steps.{Event, pool, stepped, looked, pool_noting, paged, laned, has_read, has_written, Step, pools, lanes, writes, notes, enters, reads, logs, words, after_word, reads_size, has_seen_size}
use Rattle.history_core.specs.Histories.{LeavesCalls, HasCallsOf, CallsStay}
use Rattle.grid.proofs.Lists.{set_here, set_else, at_longer}

-- a view changes, and its calls and front don't
set_stays : (views : List View) (i j : ℕ) (a b v : View) → get_elem? views i ≡ some a → b.calls ≡ a.calls → b.front ≡ a.front → get_elem? views j ≡ some v → HasCallsOf (set views i b) j v
set_stays views i j a b v there calls front at = dite (ℕ_discrete j i)
    (λ e. let same : a ≡ v = some-injective a v (sym there ∙ ap (get_elem? views) (sym e) ∙ at) in record {
      view = b;
      there = ap (get_elem? (set views i b)) e ∙ set_here views i a b there;
      calls = calls ∙ ap (λ (x : View). x.calls) same;
      front = front ∙ ap (λ (x : View). x.front) same;
    })
    (λ o. record { view = v; there = set_else views i j b o ∙ at; calls = refl; front = refl })

-- another view changes
other_stays : (views : List View) (i j : ℕ) (b v : View) → j ≢ i → get_elem? views j ≡ some v → HasCallsOf (set views i b) j v
other_stays views i j b v o at = record { view = v; there = set_else views i j b o ∙ at; calls = refl; front = refl }

pins_stay : {e : pin_steps.Event} {s t : pins.State} → pin_steps.Step e s t → (j : ℕ) (v : View) → get_elem? s.views j ≡ some v → LeavesCalls (pool (page_steps.pins_and_maps e)) j → HasCallsOf t.views j v
pins_stay (pin_steps.touches {s = s} i f k u there live inside a around) j v at leaves = set_stays s.views i j u (pin_stepping.after k s f u) v there refl refl at
pins_stay (pin_steps.turns {s = s} i p k u there live below a) j v at leaves = set_stays s.views i j u (view_turned k p (hold u p) u) v there refl refl at
pins_stay (pin_steps.sized {s = s} i fork k u there live a) j v at leaves = set_stays s.views i j u (view_sized k fork s u) v there refl refl at
pins_stay (pin_steps.splits {s = s} u there room) j v at leaves = let w : View = record u { next = u.next + 1 } in let x = set_stays s.views 0 j u w v there refl refl at in
    record { view = x.view; there = at_longer (set s.views 0 w) (new_view u.next s.base (length u.links) (length u.partitions) (length u.lanes) ∷ []) j x.view x.there; calls = x.calls; front = x.front }
pins_stay (pin_steps.joins {s = s} k a b there other here live free) j v at leaves = record { view = v; there = set_else (set s.views 0 (joined_view a b)) k j emptied_view leaves.1 ∙ set_else s.views 0 j (joined_view a b) leaves.0 ∙ at; calls = refl; front = refl }

pages_stay : {e : page_steps.Event} {s t : page.State} → page_steps.Step e s t → (j : ℕ) (v : View) → get_elem? s.core.views j ≡ some v → LeavesCalls (pool e) j → HasCallsOf t.core.views j v
pages_stay (page_steps.cores x) j v at leaves = pins_stay x j v at leaves
pages_stay (page_steps.touches {s = s} i f k u there live inside a around) j v at leaves = set_stays s.core.views i j u (paged k s f u) v there refl refl at

step_stays : {e : Event} {s t : State} → Step e s t → (j : ℕ) (v : View) → get_elem? s.pool.core.views j ≡ some v → LeavesCalls e j → HasCallsOf t.pool.core.views j v
step_stays (pools x a) j v at leaves = pages_stay x j v at leaves
step_stays (lanes {s = s} i n k u there live low a alone) j v at leaves = set_stays s.pool.core.views i j u (stepped (laned k n u u)) v there refl refl at
step_stays (writes {s = s} i n f k u there live low inside a x) j v at leaves = set_stays s.pool.core.views i j u (laned k n u (paged begin_write s.pool f u)) v there refl refl at
step_stays (notes {s = s} i n f noted k u there live low inside a x) j v at leaves = set_stays s.pool.core.views i j u (laned (lane_back noted) n u (paged k (pool_noting k s f) f u)) v there refl refl at
step_stays (logs {s = s} i k u there live a record_is) j v at leaves = set_stays s.pool.core.views i j u (view_logged k u) v there refl refl at
step_stays (enters {s = s} i f p ch u there live inside x) j v at leaves = other_stays s.pool.core.views i j (has_written ch (link u f).copied (s.end + change_size ch) (s.pool.core.frame f).tag p (paged (make_entry p) s.pool f u)) v leaves at
step_stays (reads {s = s} i f tag p u there live inside a) j v at leaves = other_stays s.pool.core.views i j (looked (seen.LogEnd s.end) (has_read s.end tag p u)) v leaves at
step_stays (reads_size {s = s} i fork u there live a) j v at leaves = other_stays s.pool.core.views i j (looked (seen.LogEnd s.end) (has_seen_size s.end fork (size_hold u fork).blocks u)) v leaves at
step_stays (words {s = s} i k u there live a) j v at leaves = set_stays s.pool.core.views i j u (after_word k s u) v there refl refl at

pub calls_stay : (s : State) → CallsStay s
calls_stay s e t x i v at leaves = step_stays x i v at leaves
