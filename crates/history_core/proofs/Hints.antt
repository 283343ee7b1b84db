-- Each step keeps the law of the hint words.
use Rattle.std.proofs.Common.{◌≡◌, ◌≢◌, ℕ, ◌+◌, ◌≤◌, List, [], ◌∷◌, ◌++◌, length, set, sym, refl, ap, ◌∙◌, arith}
use mathlib.Core.Logic.{dite}
use mathlib.Core.Option.{some}
use native.Mathlib.Decide.{ℕ_discrete}
use lib.ListN.{get_elem?}
use Rattle.pin_core.specs.declared.view.HintStore.{HintStore}
use Rattle.pin_core.specs.declared.view.LoadedWord.TheVariants as seen
use Rattle.pin_core.specs.declared.view.View.{View}
use Rattle.pin_core.specs.State.{Config, Page, link, hold, new_view, size_hold}
use Rattle.pin_core.specs.State as pins
use Rattle.pin_core.specs.Kinds as pin_kinds
use Rattle.pin_core.specs.Turns.{view_turned}
use Rattle.pin_core.specs.Sizes.{view_sized}
use Rattle.pin_core.specs.Steps as pin_steps
use Rattle.page_core.specs.Steps as page_steps
use Rattle.page_core.specs.Kinds.{begin_write, make_entry}
use Rattle.history_core.specs.Log.{change_size}
use Rattle.history_core.specs.Lanes.{lane_back}
use Rattle.history_core.specs.Device.{view_logged}
use Rattle.history_core.specs.State.{State, Store, opening}
use Rattle.history_core.proofs.Balances.{balances_aside, balances_listed, balances_split, balances_joined, balances_fixed}
use Rattle.history_core.specs.Hints.{FollowsHints, HintsLaw}
use Rattle.history_core.specs.Steps.{Event, stepped, looked, pool_noting, paged, laned, has_read, has_written, Step, pools, lanes, writes, notes, logs, enters, reads, words, after_word, reads_size, has_seen_size}
use Rattle.history_core.specs.Words.{WordKind, load_hint, store_hint, WordAllowed, hint_word, word_at, number_after, word_set}
use Rattle.grid.specs.Shape.{put, total}
use Rattle.grid.proofs.Lists.{put_at, put_else}

-- where one view lists one store more, of a word that it found as it was, the views fix the word as it was left, and each other word as it was
pub follows_stored : (hint : ℕ → ℕ) (views : List View) → FollowsHints hint views → (i : ℕ) (v w : View) (c : HintStore) → get_elem? views i ≡ some v → w.hints ≡ v.hints ++ c ∷ [] → c.found ≡ hint c.number → FollowsHints (put hint c.number c.left) (set views i w)
follows_stored hint views m i v w c there listed was n = balances_listed (m n) i v w c (put hint c.number c.left n) there listed (λ is. let a : c.found ≡ hint n = was ∙ ap hint (sym is) in let b = put_at hint c.number c.left n is in omega arith) (put_else hint c.number c.left n)

pools_hints : (s : State) → HintsLaw s → {e : pin_steps.Event} {core' : pins.State} → pin_steps.Step e s.pool.core core' → HintsLaw (record s { pool = record { core = core'; logged = page_steps.logged_by e s.pool } })
pools_hints s m (pin_steps.touches i f k v there live inside around a) = record { named = m.named; fixed = λ n. balances_aside (m.fixed n) i v (pin_kinds.view_after k s.pool.core.partition_of f (s.pool.core.frame f) (link v f) v) there refl }
pools_hints s m (pin_steps.turns i p k v there live below a) = record { named = m.named; fixed = λ n. balances_aside (m.fixed n) i v (view_turned k p (hold v p) v) there refl }
pools_hints s m (pin_steps.sized i fork k v there live a) = record { named = m.named; fixed = λ n. balances_aside (m.fixed n) i v (view_sized k fork s.pool.core v) there refl }
pools_hints s m (pin_steps.splits v there room) = let w : View = record v { next = v.next + 1 } in let b = new_view v.next s.pool.core.base (length v.links) (length v.partitions) (length v.lanes) in record { named = m.named; fixed = λ n. balances_split (balances_aside (m.fixed n) 0 v w there refl) b refl }
pools_hints s m (pin_steps.joins j v u there other here live free) = record { named = m.named; fixed = λ n. balances_joined (m.fixed n) j v u there here other refl refl }

-- a word that is given the number that it has is as it was
same_set : (hint : ℕ → ℕ) (number k : ℕ) → put hint number (hint number) k ≡ hint k
same_set hint number k = dite (ℕ_discrete k number)
    (λ (is : k ≡ number). put_at hint number (hint number) k is ∙ ap hint (sym is))
    (λ (o : k ≢ number). put_else hint number (hint number) k o)

-- a hint word that gets a value names no frame, or one that is there
named_stored : (n : ℕ) (hint : ℕ → ℕ) → ((k : ℕ) → hint k ≤ n) → (number value : ℕ) → value ≤ n → (k : ℕ) → put hint number value k ≤ n
named_stored n hint m number value few k = dite (ℕ_discrete k number)
    (λ (is : k ≡ number). let e = put_at hint number value k is in omega arith)
    (λ (o : k ≢ number). let e = put_else hint number value k o in let x = m k in omega arith)

named_after_word : (k : WordKind) (s : State) (v : View) → ((j : ℕ) → s.hint j ≤ s.pool.core.frames) → WordAllowed k s v → (j : ℕ) → word_set (word_at k) (number_after k s) s (hint_word j) ≤ s.pool.core.frames
named_after_word (store_hint number value) s v m a j = named_stored s.pool.core.frames s.hint m number value a.1 j
named_after_word (load_hint number) s v m a j = let e = same_set s.hint number j in let x = m j in omega arith
named_after_word _ s v m a j = m j

fixed_after_word : (k : WordKind) (s : State) (i : ℕ) (v : View) → get_elem? s.pool.core.views i ≡ some v → FollowsHints s.hint s.pool.core.views → FollowsHints (λ j. word_set (word_at k) (number_after k s) s (hint_word j)) (set s.pool.core.views i (after_word k s v))
fixed_after_word (store_hint number value) s i v there m = follows_stored s.hint s.pool.core.views m i v (after_word (store_hint number value) s v) (record { number = number; found = s.hint number; left = value }) there refl refl
fixed_after_word (load_hint number) s i v there m = λ n. let x = balances_aside (m n) i v (after_word (load_hint number) s v) there refl in record { sums = omega (arith, x.sums, same_set s.hint number n) }
fixed_after_word k s i v there m = λ n. balances_aside (m n) i v (after_word k s v) there refl

pub hints_kept : {e : Event} {s t : State} → Step e s t → HintsLaw s → HintsLaw t
hints_kept (pools {s = s} (page_steps.cores x) a) m = pools_hints s m x
hints_kept (pools {s = s} (page_steps.touches i f k v there live inside a around) plain) m = record { named = m.named; fixed = λ n. balances_aside (m.fixed n) i v (paged k s.pool f v) there refl }
hints_kept (lanes {s = s} i q k v there live low a alone) m = record { named = m.named; fixed = λ n. balances_aside (m.fixed n) i v (stepped (laned k q v v)) there refl }
hints_kept (writes {s = s} i q f k v there live low inside a x) m = record { named = m.named; fixed = λ n. balances_aside (m.fixed n) i v (laned k q v (paged begin_write s.pool f v)) there refl }
hints_kept (notes {s = s} i q f noted k v there live low inside a x) m = record { named = m.named; fixed = λ n. balances_aside (m.fixed n) i v (laned (lane_back noted) q v (paged k (pool_noting k s f) f v)) there refl }
hints_kept (logs {s = s} i k v there live a record_is) m = record { named = m.named; fixed = λ n. balances_aside (m.fixed n) i v (view_logged k v) there refl }
hints_kept (enters {s = s} i f p ch v there live inside x) m = record { named = m.named; fixed = λ n. balances_aside (m.fixed n) i v (has_written ch (link v f).copied (s.end + change_size ch) (s.pool.core.frame f).tag p (paged (make_entry p) s.pool f v)) there refl }
hints_kept (reads {s = s} i f tag p v there live inside a) m = record { named = m.named; fixed = λ n. balances_aside (m.fixed n) i v (looked (seen.LogEnd s.end) (has_read s.end tag p v)) there refl }
hints_kept (reads_size {s = s} i fork v there live a) m = record { named = m.named; fixed = λ n. balances_aside (m.fixed n) i v (looked (seen.LogEnd s.end) (has_seen_size s.end fork (size_hold v fork).blocks v)) there refl }
hints_kept (words {s = s} i k v there live a) m = record { named = named_after_word k s v m.named a; fixed = fixed_after_word k s i v there m.fixed }

pub hints_open : (c : Config) (store : Store) (page : Page) → HintsLaw (opening c store page)
unfolding total
hints_open c store page = record { named = λ n. omega arith; fixed = λ n. record { sums = omega arith } }

-- what follows of two states
pub hints_same : (hint hint' : ℕ → ℕ) (views : List View) → FollowsHints hint views → FollowsHints hint' views → (number : ℕ) → hint number ≡ hint' number
hints_same hint hint' views a b n = balances_fixed (a n) (b n)

pub hints_unstored : (hint hint' : ℕ → ℕ) (views : List View) → FollowsHints hint views → (i : ℕ) (v w : View) → get_elem? views i ≡ some v → FollowsHints hint' (set views i w) → w.hints ≡ v.hints → (number : ℕ) → hint' number ≡ hint number
hints_unstored hint hint' views a i v w there b same n = balances_fixed (b n) (balances_aside (a n) i v w there same)

pub hints_stored : (hint hint' : ℕ → ℕ) (views : List View) → FollowsHints hint views → (i : ℕ) (v w : View) (c : HintStore) → get_elem? views i ≡ some v → FollowsHints hint' (set views i w) → w.hints ≡ v.hints ++ c ∷ [] → c.found ≡ hint c.number → (number : ℕ) → hint' number ≡ put hint c.number c.left number
hints_stored hint hint' views a i v w c there b listed was n = hints_same hint' (put hint c.number c.left) (set views i w) b (follows_stored hint views a i v w c there listed was) n
