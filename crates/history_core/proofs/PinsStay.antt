-- While a handed-out pin of it is held a frame keeps its tag.
use Rattle.std.proofs.Common.{◌≡◌, ◌≢◌, ℕ, ◌+◌, ◌<◌, false, List, set, sym, refl, ap, ◌∙◌, subst}
use mathlib.Core.Logic.{dite}
use mathlib.Core.Option.{some}
use native.Mathlib.Decide.{ℕ_discrete}
use lib.ListN.{get_elem?}
use Rattle.pin_core.specs.declared.view.Link.{Link}
use Rattle.pin_core.specs.declared.view.Role.TheVariants.{HandedOut}
use Rattle.pin_core.specs.declared.view.LoadedWord.TheVariants as seen
use Rattle.pin_core.specs.declared.view.View.{View}
use Rattle.pin_core.specs.State.{link, size_hold}
use Rattle.pin_core.specs.Kinds.{unpin}
use Rattle.pin_core.specs.Steps as pin_steps
use Rattle.pin_core.specs.Schedules.{IsHandedOut}
use Rattle.pin_core.proofs.Stepping.{tags_stay}
use Rattle.pin_core.proofs.Schedules.{PinStays, view_stays, tag_there}
use Rattle.page_core.specs.State.{Block, block_of}
use Rattle.page_core.specs.Kinds.{Kind, begin_write, make_entry, frame_after, link_after}
use Rattle.page_core.specs.Steps as page_steps
use Rattle.page_core.proofs.Cases.{tag_kept, role_kept}
use Rattle.page_core.proofs.Histories as pages
use Rattle.history_core.specs.Log.{change_size}
use Rattle.history_core.specs.Lanes.{lane_back}
use Rattle.history_core.specs.Device.{view_logged}
use Rattle.history_core.specs.State.{State}
use Rattle.history_core.specs.Invariant.{HistoryInvariant}
use Rattle.history_core.specs.Promises.{HasNoUnpin, PinnedTagsStay}
use Rattle.history_core.specs.Steps.{Event, pool, stepped, looked, logged_noting, pool_noting, paged, laned, has_read, has_written, Step, pools, lanes, writes, notes, logs, enters, reads, Run, rests, goes, words, after_word, reads_size, has_seen_size}
use Rattle.history_core.specs.Words.{word_of, word_at}
use Rattle.grid.specs.Shape.{put}
use Rattle.history_core.proofs.Words.{link_left}
use Rattle.history_core.proofs.Stepping.{relinks, step_keeps, run_keeps}

module _ (s : State) (h : HistoryInvariant s) (i f : ℕ) (out : IsHandedOut s.pool.core i f) where
  -- a view whose role at the frame f stays
  beside : (j : ℕ) (u w : View) → get_elem? s.pool.core.views j ≡ some u → (link w f).role ≡ (link u f).role → (x : View) × (get_elem? (set s.pool.core.views j w) i ≡ some x) × (f < s.pool.core.frames) × ((link x f).role ≡ HandedOut)
  beside j u w here role = let x = view_stays s.pool.core.views i j f out.0 u w out.1 out.3 here role in (x.0, x.1, out.2, x.2)

  -- a kind of `page_core` leaves each role
  role_same : (j g : ℕ) (k : Kind) (b : Block) (u w : View) → get_elem? s.pool.core.views j ≡ some u → u.emptied ≡ false → g < s.pool.core.frames → w.links ≡ set u.links g (link_after k b (s.pool.core.frame g) (link u g)) → (link w f).role ≡ (link u f).role
  role_same j g k b u w here live inside links = let r = relinks s h j g u w (link_after k b (s.pool.core.frame g) (link u g)) here live inside links in dite (ℕ_discrete f g)
      (λ e. subst (λ (z : ℕ). (link w z).role ≡ (link u z).role) (sym e) (ap (λ (x : Link). x.role) r.here ∙ role_kept k b (s.pool.core.frame g) (link u g)))
      (λ o. ap (λ (x : Link). x.role) (r.else f o))

  tag_same : (g : ℕ) (k : Kind) (b : Block) → (put s.pool.core.frame g (frame_after k b (s.pool.core.frame g)) f).tag ≡ (s.pool.core.frame f).tag
  tag_same g k b = tags_stay s.pool.core.frame g (frame_after k b (s.pool.core.frame g)) (tag_kept k b (s.pool.core.frame g)) f

step_stays : {e : Event} {s t : State} (i f : ℕ) → Step e s t → HistoryInvariant s → IsHandedOut s.pool.core i f → e ≢ pool (page_steps.pins_and_maps (pin_steps.at i f unpin)) → PinStays s.pool.core t.pool.core i f
step_stays i f (pools x a) h out other = pages.step_stays i f x h.pool out (λ q. other (ap pool q))
step_stays i f (lanes {s = s} j n k u here live low a alone) h out other = (beside s h i f out j u (stepped (laned k n u u)) here refl, refl)
step_stays i f (writes {s = s} j n g k u here live low inside a x) h out other = let b : Block = block_of s.pool.logged (s.pool.core.frame g).tag in let w : View = laned k n u (paged begin_write s.pool g u) in
    (beside s h i f out j u w here (role_same s h i f out j g begin_write b u w here live inside refl), tag_same s h i f out g begin_write b)
step_stays i f (notes {s = s} j n g noted k u here live low inside a x) h out other = let b : Block = block_of (logged_noting k s g) (s.pool.core.frame g).tag in let w : View = laned (lane_back noted) n u (paged k (pool_noting k s g) g u) in
    (beside s h i f out j u w here (role_same s h i f out j g k b u w here live inside refl), tag_same s h i f out g k b)
step_stays i f (logs {s = s} j k u here live a record_is) h out other = (beside s h i f out j u (view_logged k u) here refl, refl)
step_stays i f (enters {s = s} j g p ch u here live inside x) h out other = let b : Block = block_of s.pool.logged (s.pool.core.frame g).tag in let w : View = has_written ch (link u g).copied (s.end + change_size ch) (s.pool.core.frame g).tag p (paged (make_entry p) s.pool g u) in
    (beside s h i f out j u w here (role_same s h i f out j g (make_entry p) b u w here live inside refl), tag_same s h i f out g (make_entry p) b)
step_stays i f (reads {s = s} j g tag p u here live inside a) h out other = (beside s h i f out j u (looked (seen.LogEnd s.end) (has_read s.end tag p u)) here refl, refl)
step_stays i f (reads_size {s = s} j fork u here live a) h out other = (beside s h i f out j u (looked (seen.LogEnd s.end) (has_seen_size s.end fork (size_hold u fork).blocks u)) here refl, refl)
step_stays i f (words {s = s} j k u here live a) h out other = (beside s h i f out j u (after_word k s u) here (ap (λ (x : Link). x.role) (link_left k (word_of (word_at k) s) s.end u f)), refl)

run_stays : {es : List Event} {s t : State} (i f : ℕ) → Run es s t → HistoryInvariant s → IsHandedOut s.pool.core i f → HasNoUnpin i f es → PinStays s.pool.core t.pool.core i f
run_stays i f rests h out none = (out, refl)
run_stays i f (goes x r) h out none = let a = step_stays i f x h out none.0 in let b = run_stays i f r (step_keeps x h) a.0 none.1 in (b.0, b.1 ∙ a.1)

pub pinned_stay : (s : State) → HistoryInvariant s → PinnedTagsStay s
pinned_stay s h i f es t out none r = let x = run_stays i f r h out none in (record { had = tag_there s.pool.core i f h.pool.core out; has = tag_there t.pool.core i f (run_keeps r h).pool.core x.0; same = x.1 }, x.0)
