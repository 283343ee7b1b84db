-- The records that backends failed to append: each step keeps what is noted of them.
use Rattle.std.proofs.Common.{◌≡◌, ◌≢◌, ℕ, ◌+◌, List, [], ◌∷◌, set, sym, ◌∙◌, subst}
use mathlib.Core.Logic.{dite}
use mathlib.Core.Option.{some, some-injective}
use native.Mathlib.Decide.{ℕ_discrete}
use lib.ListN.{get_elem?}
use Rattle.pin_core.specs.declared.view.Link.{Link}
use Rattle.pin_core.specs.declared.view.LoadedWord.TheVariants as seen
use Rattle.pin_core.specs.declared.view.TornRecord.{TornRecord}
use Rattle.pin_core.specs.declared.view.View.{View}
use Rattle.pin_core.specs.State.{Page, link, hold, emptied_view, joined_view, size_hold}
use Rattle.pin_core.specs.State as pins
use Rattle.pin_core.specs.Kinds as pin_kinds
use Rattle.pin_core.specs.Turns.{view_turned}
use Rattle.pin_core.specs.Sizes.{view_sized}
use Rattle.pin_core.specs.Steps as pin_steps
use Rattle.page_core.specs.Kinds.{begin_write, make_entry}
use Rattle.page_core.specs.Steps as page_steps
use Rattle.history_core.specs.Log.{Change, image, ranges, resize, change_size}
use Rattle.history_core.specs.Lanes as lane_kinds
use Rattle.history_core.specs.Device.{LogKind, fail_append, torn_by, view_logged}
use Rattle.history_core.specs.State.{State}
use Rattle.history_core.specs.Steps.{Event, MakesPage, stepped, looked, pool_noting, paged, laned, has_read, has_written, Step, pools, lanes, writes, notes, logs, enters, reads, words, after_word, reads_size, has_seen_size}
use Rattle.history_core.specs.TornRecords.{IsOfPage, NotesTorn}
use Rattle.history_core.proofs.Unentered.{at_right}
use Rattle.grid.proofs.Lists.{at_longer, set_here, set_else}

-- the record of a page that a change makes is of that page
pub of_page : (c : Change) (end tag : ℕ) (p : Page) (l : Link) → MakesPage c end tag p l → IsOfPage c tag p
of_page (image t q) end tag p l m = m
of_page (ranges t spans) end tag p l m = m.0
of_page (resize fork old new) end tag p l m = absurd m

-- what a view had noted is noted still
abbrev KeepsTorn : List TornRecord → List TornRecord → Type 0
KeepsTorn xs ys = (k : ℕ) (x : TornRecord) → get_elem? xs k ≡ some x → (j : ℕ) × (get_elem? ys j ≡ some x)

all_torn : (xs : List TornRecord) → KeepsTorn xs xs
all_torn xs k x at = (k, at)

-- and so it is among all views
torn_set : (views : List View) (i : ℕ) (v w : View) → get_elem? views i ≡ some v → KeepsTorn v.torn w.torn → (c : Change) → NotesTorn views c → NotesTorn (set views i w) c
torn_set views i v w there keeps c (j, k, u, x, at, is, of) = dite (ℕ_discrete j i)
    (λ (e : j ≡ i). let same : v ≡ u = some-injective v u (sym there ∙ subst (λ (z : ℕ). get_elem? views z ≡ some u) e at) in let y = keeps k x (subst (λ (z : View). get_elem? z.torn k ≡ some x) (sym same) is) in (i, y.0, w, x, set_here views i v w there, y.1, of))
    (λ (o : j ≢ i). (j, k, u, x, set_else views i j w o ∙ at, is, of))

-- the first view takes in what another one has noted
torn_joined : (views : List View) (j : ℕ) (v u : View) → get_elem? views 0 ≡ some v → j ≢ 0 → get_elem? views j ≡ some u → (c : Change) → NotesTorn views c → NotesTorn (set (set views 0 (joined_view v u)) j emptied_view) c
torn_joined views j v u there other here c (m, k, y, x, at, is, of) = dite (ℕ_discrete m j)
    (λ (e : m ≡ j). let same : u ≡ y = some-injective u y (sym here ∙ subst (λ (z : ℕ). get_elem? views z ≡ some y) e at) in taken k (subst (λ (z : View). get_elem? z.torn k ≡ some x) (sym same) is))
    (λ (o : m ≢ j). dite (ℕ_discrete m 0)
    (λ (e : m ≡ 0). let same : v ≡ y = some-injective v y (sym there ∙ subst (λ (z : ℕ). get_elem? views z ≡ some y) e at) in (0, k, joined_view v u, x, first, at_longer v.torn u.torn k x (subst (λ (z : View). get_elem? z.torn k ≡ some x) (sym same) is), of))
    (λ (z : m ≢ 0). (m, k, y, x, set_else (set views 0 (joined_view v u)) j m emptied_view o ∙ (set_else views 0 m (joined_view v u) z ∙ at), is, of)))
  where
    first : get_elem? (set (set views 0 (joined_view v u)) j emptied_view) 0 ≡ some (joined_view v u)
    first = set_else (set views 0 (joined_view v u)) j 0 emptied_view (λ e. other (sym e)) ∙ set_here views 0 v (joined_view v u) there

    taken : (n : ℕ) → get_elem? u.torn n ≡ some x → NotesTorn (set (set views 0 (joined_view v u)) j emptied_view) c
    taken n e = let q = at_right v.torn u.torn n x e in (0, q.0, joined_view v u, x, first, q.1, of)

-- Each step keeps what is noted
torn_pins : (s : pins.State) {e : pin_steps.Event} {t : pins.State} → pin_steps.Step e s t → (c : Change) → NotesTorn s.views c → NotesTorn t.views c
torn_pins s (pin_steps.touches i f k v there live inside a around) = torn_set s.views i v (pin_kinds.view_after k s.partition_of f (s.frame f) (link v f) v) there (all_torn v.torn)
torn_pins s (pin_steps.turns i p k v there live below a) = torn_set s.views i v (view_turned k p (hold v p) v) there (all_torn v.torn)
torn_pins s (pin_steps.sized i fork k v there live a) = torn_set s.views i v (view_sized k fork s v) there (all_torn v.torn)
torn_pins s (pin_steps.splits v there room) = λ c x. let y = torn_set s.views 0 v (record v { next = v.next + 1 }) there (all_torn v.torn) c x in (y.0, y.1, y.2, y.3, at_longer (set s.views 0 (record v { next = v.next + 1 })) _ y.0 y.2 y.4, y.5, y.6)
torn_pins s (pin_steps.joins j v u there other here live free) = torn_joined s.views j v u there other here

-- a step at the log notes one more, or none
torn_more : (k : LogKind) (xs : List TornRecord) → KeepsTorn xs (torn_by k xs)
torn_more (fail_append f tag p bytes n) xs = λ k x at. (k, at_longer xs (record { tag = tag; page = p } ∷ []) k x at)
torn_more _ xs = all_torn xs

pub torn_logged : (s : State) (i : ℕ) (k : LogKind) (v : View) → get_elem? s.pool.core.views i ≡ some v → (c : Change) → NotesTorn s.pool.core.views c → NotesTorn (set s.pool.core.views i (view_logged k v)) c
torn_logged s i k v there = torn_set s.pool.core.views i v (view_logged k v) there (torn_more k v.torn)

pub torn_kept : {e : Event} {s t : State} → Step e s t → (c : Change) → NotesTorn s.pool.core.views c → NotesTorn t.pool.core.views c
torn_kept (pools {s = s} (page_steps.cores x) a) = torn_pins s.pool.core x
torn_kept (pools {s = s} (page_steps.touches i f k v there live inside a around) is) = torn_set s.pool.core.views i v (paged k s.pool f v) there (all_torn v.torn)
torn_kept (lanes {s = s} i q k v there live low a alone) = torn_set s.pool.core.views i v (stepped (laned k q v v)) there (all_torn v.torn)
torn_kept (writes {s = s} i q f k v there live low inside a x) = torn_set s.pool.core.views i v (laned k q v (paged begin_write s.pool f v)) there (all_torn v.torn)
torn_kept (notes {s = s} i q f noted k v there live low inside a x) = torn_set s.pool.core.views i v (laned (lane_kinds.lane_back noted) q v (paged k (pool_noting k s f) f v)) there (all_torn v.torn)
torn_kept (logs {s = s} i k v there live a record_is) = torn_logged s i k v there
torn_kept (enters {s = s} i f p c v there live inside x) = torn_set s.pool.core.views i v (has_written c (link v f).copied (s.end + change_size c) (s.pool.core.frame f).tag p (paged (make_entry p) s.pool f v)) there (all_torn v.torn)
torn_kept (reads {s = s} i f tag p v there live inside a) = torn_set s.pool.core.views i v (looked (seen.LogEnd s.end) (has_read s.end tag p v)) there (all_torn v.torn)
torn_kept (reads_size {s = s} i fork v there live a) = torn_set s.pool.core.views i v (looked (seen.LogEnd s.end) (has_seen_size s.end fork (size_hold v fork).blocks v)) there (all_torn v.torn)
torn_kept (words {s = s} i k v there live a) = torn_set s.pool.core.views i v (after_word k s v) there (all_torn v.torn)
