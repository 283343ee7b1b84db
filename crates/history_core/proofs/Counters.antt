-- Each step keeps the law of the counters, and what follows from it.
use Rattle.std.proofs.Common.{◌≡◌, ◌≢◌, ℕ, suc, ◌+◌, ◌*◌, ◌≤◌, Bool, true, false, cond, List, [], ◌∷◌, ◌++◌, length, set, sym, refl, ap, ◌∙◌, subst, ⊎_elim, arith}
use mathlib.Core.Logic.{dite}
use mathlib.Core.Option.{some}
use native.Mathlib.Decide.{ℕ_discrete}
use lib.ListN.{get_elem?}
use Rattle.std.specs.Prelude.{nat_eq}
use Rattle.pin_core.specs.declared.view.Published.{Published}
use Rattle.pin_core.specs.declared.view.LoadedWord.TheVariants as seen
use Rattle.pin_core.specs.declared.view.View.{View}
use Rattle.pin_core.specs.State.{Config, Page, link, hold, size_hold, first_view, new_view, emptied_view, joined_view}
use Rattle.pin_core.specs.State as pins
use Rattle.pin_core.specs.Invariant.{live_weight, AllAccounted}
use Rattle.pin_core.specs.Kinds as pin_kinds
use Rattle.pin_core.specs.Sizes.{view_sized}
use Rattle.pin_core.specs.Turns.{view_turned}
use Rattle.pin_core.specs.Steps as pin_steps
use Rattle.page_core.specs.Steps as page_steps
use Rattle.page_core.specs.Kinds.{begin_write, make_entry}
use Rattle.history_core.specs.Log.{change_size}
use Rattle.history_core.specs.Lanes.{lane_back}
use Rattle.history_core.specs.Device.{view_logged}
use Rattle.history_core.specs.State.{State, Store, opening}
use Rattle.history_core.specs.Balances.{added_to}
use Rattle.history_core.specs.Counters.{FollowsCounters, IsBounded, CountersLaw, CountersAreSums}
use Rattle.history_core.specs.Laws.{Laws}
use Rattle.history_core.specs.Steps.{Event, stepped, looked, pool_noting, paged, laned, has_read, has_seen_size, has_written, Step, pools, lanes, writes, notes, logs, enters, reads, reads_size, words, after_word}
use Rattle.history_core.specs.Words.{WordKind, load_counter, add_counter, WordAllowed, counter_word, word_at, number_after, word_set, most_published}
use Rattle.history_core.proofs.Balances.{balances_aside, balances_listed, balances_split, balances_joined}
use Rattle.grid.specs.Shape.{put, total, at_key, sum_at}
use Rattle.grid.proofs.Lists.{at_set, at_end, at_only, put_at, put_else, put_same}
use Rattle.grid.proofs.Sums.{total-both, total-none, total-snoc}

-- where one view lists one addition more, the views fix the counter as it has risen, and each other as it was
pub follows_added : (counter : ℕ → ℕ) (views : List View) → FollowsCounters counter views → (i : ℕ) (v w : View) (p : Published) → get_elem? views i ≡ some v → w.published ≡ v.published ++ p ∷ [] → FollowsCounters (put counter p.count (counter p.count + p.more)) (set views i w)
follows_added counter views m i v w p there listed n = let risen = counter p.count + p.more in balances_listed (m n) i v w p (put counter p.count risen n) there listed
    (λ is. let a = put_at counter p.count risen n is in let b = ap counter is in omega arith) (put_else counter p.count risen n)

-- a view that changes otherwise
same_bound : (i : ℕ) (v w : View) → w.published ≡ v.published → w.joined ≡ v.joined → IsBounded i v → IsBounded i w
same_bound i v w published joined x = record {
  within = λ n. let a = x.within n in let b : added_to n w ≡ added_to n v = ap (λ (l : List Published). sum_at (λ (p : Published). p.count) (λ (p : Published). p.more) n l) published in omega arith;
  alone = λ other. joined ∙ x.alone other;
}

abbrev AreBounded : List View → Type 0
AreBounded views = (i : ℕ) (v : View) → get_elem? views i ≡ some v → IsBounded i v

bounded_set : (views : List View) → AreBounded views → (i : ℕ) (w : View) → IsBounded i w → AreBounded (set views i w)
bounded_set views m i w x j u at = ⊎_elim
    (λ (y : (j ≡ i) × (w ≡ u)). subst (λ (n : ℕ). IsBounded n u) (sym y.0) (subst (IsBounded i) y.1 x))
    (λ (y : (j ≢ i) × (get_elem? views j ≡ some u)). m j u y.1)
    (at_set views i j w u at)

beside : (counter : ℕ → ℕ) (views : List View) → CountersLaw counter views → (i : ℕ) (v w : View) → get_elem? views i ≡ some v → w.published ≡ v.published → w.joined ≡ v.joined → CountersLaw counter (set views i w)
beside counter views m i v w there published joined = record {
  fixed = λ n. balances_aside (m.fixed n) i v w there published;
  bounded = bounded_set views m.bounded i w (same_bound i v w published joined (m.bounded i v there));
}

-- a view that lists nothing
bounded_none : (i : ℕ) (v : View) → v.published ≡ [] → v.joined ≡ 0 → IsBounded i v
unfolding total
bounded_none i v none zero = record {
  within = λ n. let a : added_to n v ≡ 0 = ap (λ (l : List Published). sum_at (λ (p : Published). p.count) (λ (p : Published). p.more) n l) none in omega arith;
  alone = λ other. zero;
}

bounded_joined : (v u : View) → IsBounded 0 v → ((number : ℕ) → added_to number u ≤ most_published) → IsBounded 0 (joined_view v u)
bounded_joined v u x few = record {
  within = λ n. let a = x.within n in let b = few n in let c : added_to n (joined_view v u) ≡ added_to n v + added_to n u = total-both (at_key (λ (p : Published). p.count) (λ (p : Published). p.more) n) v.published u.published in omega arith;
  alone = λ other. absurd (other refl);
}

-- what a view but the first has added
few_of : (j : ℕ) (u : View) → j ≢ 0 → IsBounded j u → (number : ℕ) → added_to number u ≤ most_published
few_of j u other x n = let a = x.within n in let b = x.alone other in omega arith

pools_counters : (s : State) → CountersLaw s.counter s.pool.core.views → {e : pin_steps.Event} {core' : pins.State} → pin_steps.Step e s.pool.core core' → CountersLaw s.counter core'.views
pools_counters s m (pin_steps.touches i f k v there live inside around a) = beside s.counter s.pool.core.views m i v (pin_kinds.view_after k s.pool.core.partition_of f (s.pool.core.frame f) (link v f) v) there refl refl
pools_counters s m (pin_steps.turns i p k v there live below a) = beside s.counter s.pool.core.views m i v (view_turned k p (hold v p) v) there refl refl
pools_counters s m (pin_steps.sized i fork k v there live a) = beside s.counter s.pool.core.views m i v (view_sized k fork s.pool.core v) there refl refl
pools_counters s m (pin_steps.splits v there room) = let w : View = record v { next = v.next + 1 } in let b : View = new_view v.next s.pool.core.base (length v.links) (length v.partitions) (length v.lanes) in let x = beside s.counter s.pool.core.views m 0 v w there refl refl in record {
  fixed = λ n. balances_split (x.fixed n) b refl;
  bounded = λ j u at. ⊎_elim (x.bounded j u)
      (λ (y : (b ≡ u) × (j ≡ length (set s.pool.core.views 0 w))). subst (IsBounded j) y.0 (bounded_none j b refl refl))
      (at_end (set s.pool.core.views 0 w) b u j at);
}
pools_counters s m (pin_steps.joins j v u there other here live free) = record {
  fixed = λ n. balances_joined (m.fixed n) j v u there here other refl refl;
  bounded = bounded_set (set s.pool.core.views 0 (joined_view v u)) (bounded_set s.pool.core.views m.bounded 0 (joined_view v u) (bounded_joined v u (m.bounded 0 v there) (few_of j u other (m.bounded j u here)))) j emptied_view (bounded_none j emptied_view refl refl);
}

-- a backend that adds to a counter has added no more than its own bound
bounded_added : (number more i : ℕ) (v w : View) → w.published ≡ v.published ++ record { count = number; more = more } ∷ [] → w.joined ≡ v.joined → added_to number v + more ≤ most_published → IsBounded i v → IsBounded i w
bounded_added number more i v w listed joined room x = record {
  within = λ n. let a = x.within n in let p : Published = record { count = number; more = more } in let b : added_to n w ≡ added_to n v + at_key (λ (q : Published). q.count) (λ (q : Published). q.more) n p = ap (λ (l : List Published). sum_at (λ (q : Published). q.count) (λ (q : Published). q.more) n l) listed ∙ total-snoc (at_key (λ (q : Published). q.count) (λ (q : Published). q.more) n) v.published p in dite (ℕ_discrete n number)
      (λ (e : n ≡ number). let c = put_at (λ (k : ℕ). 0) number more n e in let d : added_to n v ≡ added_to number v = ap (λ (k : ℕ). added_to k v) e in omega arith)
      (λ (o : n ≢ number). let c = put_else (λ (k : ℕ). 0) number more n o in omega arith);
  alone = λ other. joined ∙ x.alone other;
}

-- a counter that is given the number that it has is as it was
fixed_set : (counter : ℕ → ℕ) (views : List View) (number : ℕ) → FollowsCounters counter views → FollowsCounters (put counter number (counter number)) views
fixed_set counter views number m n = record { sums = omega (arith, (m n).sums, put_same counter number (counter number) n refl) }

after_word_counters : (k : WordKind) (s : State) (i : ℕ) (v : View) → get_elem? s.pool.core.views i ≡ some v → WordAllowed k s v → CountersLaw s.counter s.pool.core.views → CountersLaw (λ j. word_set (word_at k) (number_after k s) s (counter_word j)) (set s.pool.core.views i (after_word k s v))
after_word_counters (add_counter number more) s i v there a m = let w : View = after_word (add_counter number more) s v in record {
  fixed = follows_added s.counter s.pool.core.views m.fixed i v w (record { count = number; more = more }) there refl;
  bounded = bounded_set s.pool.core.views m.bounded i w (bounded_added number more i v w refl refl a.1 (m.bounded i v there));
}
after_word_counters (load_counter number) s i v there a m = let x = beside s.counter s.pool.core.views m i v (after_word (load_counter number) s v) there refl refl in record { fixed = fixed_set s.counter (set s.pool.core.views i (after_word (load_counter number) s v)) number x.fixed; bounded = x.bounded }
after_word_counters k s i v there a m = beside s.counter s.pool.core.views m i v (after_word k s v) there refl refl

pub counters_kept : {e : Event} {s t : State} → Step e s t → CountersLaw s.counter s.pool.core.views → CountersLaw t.counter t.pool.core.views
counters_kept (pools {s = s} (page_steps.cores x) a) m = pools_counters s m x
counters_kept (pools {s = s} (page_steps.touches i f k v there live inside a around) plain) m = beside s.counter s.pool.core.views m i v (paged k s.pool f v) there refl refl
counters_kept (lanes {s = s} i q k v there live low a alone) m = beside s.counter s.pool.core.views m i v (stepped (laned k q v v)) there refl refl
counters_kept (writes {s = s} i q f k v there live low inside a x) m = beside s.counter s.pool.core.views m i v (laned k q v (paged begin_write s.pool f v)) there refl refl
counters_kept (notes {s = s} i q f noted k v there live low inside a x) m = beside s.counter s.pool.core.views m i v (laned (lane_back noted) q v (paged k (pool_noting k s f) f v)) there refl refl
counters_kept (logs {s = s} i k v there live a record_is) m = beside s.counter s.pool.core.views m i v (view_logged k v) there refl refl
counters_kept (enters {s = s} i f p ch v there live inside x) m = beside s.counter s.pool.core.views m i v (has_written ch (link v f).copied (s.end + change_size ch) (s.pool.core.frame f).tag p (paged (make_entry p) s.pool f v)) there refl refl
counters_kept (reads {s = s} i f tag p v there live inside a) m = beside s.counter s.pool.core.views m i v (looked (seen.LogEnd s.end) (has_read s.end tag p v)) there refl refl
counters_kept (reads_size {s = s} i fork v there live shared) m = beside s.counter s.pool.core.views m i v (looked (seen.LogEnd s.end) (has_seen_size s.end fork (size_hold v fork).blocks v)) there refl refl
counters_kept (words {s = s} i k v there live a) m = after_word_counters k s i v there a m

pub counters_open : (c : Config) (store : Store) (page : Page) → CountersLaw (opening c store page).counter (opening c store page).pool.core.views
unfolding total
counters_open c store page = let w : View = first_view c.base c.frames c.partitions c.lanes in record {
  fixed = λ n. record { sums = omega arith };
  bounded = λ i v at. subst (IsBounded i) (at_only w v i at).0 (bounded_none i w refl refl);
}

-- each counter is the sum of what the views have added
both_none : (b : Bool) → ◌≡◌ {A = ℕ} (cond b 0 0) 0
both_none true = refl
both_none false = refl

pub counters_sums : (s : State) → Laws s → CountersAreSums s
counters_sums s h n = let x = (h.counters.fixed n).sums in
    let none = total-none (λ (v : View). sum_at (λ (p : Published). p.count) (λ (p : Published). 0) n v.published) s.pool.core.views (λ i v at. total-none (at_key (λ (p : Published). p.count) (λ (p : Published). 0) n) v.published (λ j p here. both_none (nat_eq n p.count))) in omega arith

-- a sum is bounded by so many times another
sum_within : {A : Type 0} (g h : A → ℕ) (l : List A) → ((j : ℕ) (a : A) → get_elem? l j ≡ some a → g a ≤ h a * most_published) → total g l ≤ total h l * most_published
unfolding total
sum_within g h [] each = omega arith
sum_within g h (x ∷ xs) each = let a = each 0 x refl in let b = sum_within g h xs (λ j y at. each (suc j) y at) in omega arith

-- what a view but the first has added, if it is there
live_within : (number j : ℕ) (u : View) (b : Bool) → u.emptied ≡ b → j ≢ 0 → IsBounded j u → (u.emptied ≡ true → u ≡ emptied_view) → added_to number u ≤ live_weight u.emptied * most_published
unfolding total
live_within number j u true e other x spent = let z : added_to number u ≡ 0 = ap (added_to number) (spent e) in omega arith
live_within number j u false e other x spent = let y : live_weight u.emptied ≡ 1 = ap live_weight e in let z = few_of j u other x number in omega arith

all_within : (number : ℕ) (views : List View) → AreBounded views → ((i : ℕ) (v : View) → get_elem? views i ≡ some v → v.emptied ≡ true → v ≡ emptied_view) → ((v : View) → get_elem? views 0 ≡ some v → v.emptied ≡ false) → AllAccounted views → length views ≤ 64 → total (λ (v : View). added_to number v) views ≤ 64 * most_published
unfolding total
all_within number [] m spent first counted few = omega arith
all_within number (v ∷ rest) m spent first counted few = let a = (m 0 v refl).within number in let b = counted v refl in let live : live_weight v.emptied ≡ 1 = ap live_weight (first v refl) in
    let c = sum_within (λ (u : View). added_to number u) (λ (u : View). live_weight u.emptied) rest (λ j u at. live_within number (suc j) u u.emptied refl (λ z. omega arith) (m (suc j) u at) (spent (suc j) u at)) in omega arith

-- so no counter is above what all backends together may add
pub counters_fit : (s : State) → Laws s → s.pool.core.backends ≤ 64 → (number : ℕ) → s.counter number ≤ 64 * most_published
counters_fit s h few n = let sum = counters_sums s h n in let small = h.invariant.pool.core.views.few in
    let x = all_within n s.pool.core.views h.counters.bounded h.spent (λ v at. (h.invariant.pool.core.views.first v at).0) h.invariant.pool.core.accounted (omega arith) in omega arith
