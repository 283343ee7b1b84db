-- Each step of the free list keeps its rule, and what the rule tells.
use Rattle.std.proofs.Common.{◌≡◌, ◌≢◌, ℕ, ◌+◌, ◌<◌, ◌≤◌, zero, suc, nat_eq, cond, List, [], ◌∷◌, ◌++◌, length, set, sym, refl, ap, ◌∙◌, subst, ⊎_elim, arith, add-one, eq-eqb, ne_eqb}
use Rattle.std.specs.List.{All}
use Rattle.std.proofs.lemmas.List.Elements.{All-nil, All-push, All-tail}
use mathlib.Core.Logic.{dite}
use mathlib.Core.Option.{some, some-injective, some-ne-none}
use native.Mathlib.Decide.{ℕ_discrete}
use lib.ListN.{get_elem?}
use Rattle.grid.specs.Shape.{total}
use Rattle.grid.proofs.Lists.{at_set, at_end}
use Rattle.grid.proofs.Sums.{total-set, total-snoc, total-both, terms_le, total-alone}
use Rattle.crossbeam_queue.specs.Fifo.{Pushes, Pops, Forks, Merges, Learns}
use Rattle.clock_sweep.specs.declared.free_list.QueueView.{QueueView}
use Rattle.clock_sweep.specs.FreeFrames.{Accounts, IsAmong, KnowsList, Settles, all_parts, frames_below, joined_parts, kept_part, new_part, no_part, queue_view, times, with_pushed, with_taken}

-- what each view knows, after a change of one, and with one more
abbrev EachKnows : ℕ → List QueueView → Type 0
EachKnows many views = (i : ℕ) (v : QueueView) → get_elem? views i ≡ some v → KnowsList many v

knows_set : (many : ℕ) (views : List QueueView) (i : ℕ) (w : QueueView) → KnowsList many w → EachKnows many views → EachKnows many (set views i w)
knows_set many views i w mine each j u e = ⊎_elim (λ (x : (j ≡ i) × (w ≡ u)). subst (KnowsList many) x.1 mine) (λ (x : (j ≢ i) × (get_elem? views j ≡ some u)). each j u x.1) (at_set views i j w u e)

knows_more : (many : ℕ) (views : List QueueView) (w : QueueView) → KnowsList many w → EachKnows many views → EachKnows many (views ++ w ∷ [])
knows_more many views w mine each j u e = ⊎_elim (λ (x : get_elem? views j ≡ some u). each j u x) (λ (x : (w ≡ u) × (j ≡ length views)). subst (KnowsList many) x.0 mine) (at_end views w u j e)

-- a view with a part
with_part : (many : ℕ) (w : QueueView) → 0 < w.parts → w.frames ≡ many → KnowsList many w
with_part many w some_part e = record { frames = λ _. e; pushed = λ none. absurd (omega arith); taken = λ none. absurd (omega arith) }

knows_nothing : (many : ℕ) → KnowsList many no_part
knows_nothing many = record { frames = λ some_part. absurd (omega arith); pushed = λ _. refl; taken = λ _. refl }

-- at the start
pub begins : Accounts [] (queue_view all_parts 0 [] [] ∷ [])
unfolding total
begins = record {
  many = 0;
  parts = refl;
  known = only;
  even = λ h. refl;
  inside = All-nil (λ f. f < 0);
}
  where
    only : EachKnows 0 (queue_view all_parts 0 [] [] ∷ [])
    only zero v e = subst (KnowsList 0) (some-injective (queue_view all_parts 0 [] []) v e) (with_part 0 (queue_view all_parts 0 [] []) (omega arith) refl)
    only (suc i) v e = absurd (some-ne-none v (sym e))

-- a frame is pushed
pub push_keeps : (n i : ℕ) (v : QueueView) (f : ℕ) → 0 < v.parts → f < v.frames → Pushes Accounts n i v f (λ w. w ≡ with_pushed f v)
push_keeps n i v f some_part low frames views room a at =
    let w : QueueView = with_pushed f v in
    let many : v.frames ≡ a.many = (a.known i v at).frames some_part in (
      w,
      record {
        many = a.many;
        parts = (let s = total-set (λ (u : QueueView). u.parts) views i v w at in let p = a.parts in omega arith);
        known = knows_set a.many views i w (with_part a.many w some_part many) a.known;
        even = λ h.
            let s = total-set (λ (u : QueueView). total h u.pushed) views i v w at in
            let t = total-set (λ (u : QueueView). total h u.taken) views i v w at in
            let p = total-snoc h v.pushed f in
            let q = total-snoc h frames f in
            let e = a.even h in
            omega arith;
        inside = All-push (λ g. g < a.many) frames f a.inside (omega arith);
      },
      refl,
    )

-- one is taken
pub pop_keeps : (i : ℕ) (v : QueueView) → 0 < v.parts → Pops Accounts i v (λ f w. (f < v.frames) × (w ≡ with_taken f v))
unfolding total
pop_keeps i v some_part f frames views a at =
    let w : QueueView = with_taken f v in
    let many : v.frames ≡ a.many = (a.known i v at).frames some_part in
    let low : f < a.many = a.inside 0 f (omega arith) in (
      w,
      record {
        many = a.many;
        parts = (let s = total-set (λ (u : QueueView). u.parts) views i v w at in let p = a.parts in omega arith);
        known = knows_set a.many views i w (with_part a.many w some_part many) a.known;
        even = λ h.
            let s = total-set (λ (u : QueueView). total h u.pushed) views i v w at in
            let t = total-set (λ (u : QueueView). total h u.taken) views i v w at in
            let p = total-snoc h v.taken f in
            let e = a.even h in
            omega arith;
        inside = All-tail (λ g. g < a.many) f frames a.inside;
      },
      (omega arith, refl),
    )

pub learns : (i : ℕ) (v : QueueView) → Learns Accounts i v (IsAmong v)
learns i v frames views a at = record { views = views; place = i; accounts = a; there = at }

-- who has all parts
others_idle : (views : List QueueView) (i : ℕ) (v : QueueView) → total (λ (u : QueueView). u.parts) views ≡ all_parts → v.parts ≡ all_parts → get_elem? views i ≡ some v → (j : ℕ) (u : QueueView) → j ≢ i → get_elem? views j ≡ some u → u.parts ≡ 0
others_idle views i v parts whole at j u other there = let two = terms_le (λ (x : QueueView). x.parts) views i j v u other at there in omega arith

pub whole_even : (v : QueueView) (frames : List ℕ) → v.parts ≡ all_parts → IsAmong v frames → (h : ℕ → ℕ) → total h (frames_below v.frames) + total h v.pushed ≡ total h v.taken + total h frames
unfolding total
whole_even v frames whole among h =
    let a = among.accounts in
    let k = a.known among.place v among.there in
    let idle = others_idle among.views among.place v a.parts whole among.there in
    let p = total-alone (λ (u : QueueView). total h u.pushed) among.views among.place v among.there (λ j u other at. ap (total h) ((a.known j u at).pushed (idle j u other at))) in
    let t = total-alone (λ (u : QueueView). total h u.taken) among.views among.place v among.there (λ j u other at. ap (total h) ((a.known j u at).taken (idle j u other at))) in
    let n = ap (λ m. total h (frames_below m)) (k.frames (omega arith)) in
    let e = a.even h in
    omega arith

-- the frames of a pool with one more
weigh_more : (h : ℕ → ℕ) (n : ℕ) → total h (frames_below (n + 1)) ≡ total h (frames_below n) + h n
weigh_more h n = ap (λ (k : ℕ). total h (frames_below k)) (add-one n) ∙ total-snoc h (frames_below n) n

-- the list is made: the next frame of the pool is pushed
pub list_keeps_rule : (n i : ℕ) (v : QueueView) (f : ℕ) → v.parts ≡ all_parts → v.frames ≡ f → Pushes Accounts n i v f (λ w. w ≡ queue_view v.parts (v.frames + 1) v.pushed v.taken)
list_keeps_rule n i v f whole next frames views room a at =
    let w : QueueView = queue_view v.parts (v.frames + 1) v.pushed v.taken in
    let idle = others_idle views i v a.parts whole at in
    let many : v.frames ≡ a.many = (a.known i v at).frames (omega arith) in
    let Old : ℕ → QueueView → Type 0 = λ j u. KnowsList (v.frames + 1) u in (
      w,
      record {
        many = v.frames + 1;
        parts = (let s = total-set (λ (u : QueueView). u.parts) views i v w at in let p = a.parts in omega arith);
        known = λ j u e. ⊎_elim (λ (x : (j ≡ i) × (w ≡ u)). subst (KnowsList (v.frames + 1)) x.1 (with_part (v.frames + 1) w (omega arith) refl))
            (λ (x : (j ≢ i) × (get_elem? views j ≡ some u)). let none = idle j u x.0 x.1 in record { frames = λ some_part. absurd (omega arith); pushed = (a.known j u x.1).pushed; taken = (a.known j u x.1).taken })
            (at_set views i j w u e);
        even = λ h.
            let s = total-set (λ (u : QueueView). total h u.pushed) views i v w at in
            let t = total-set (λ (u : QueueView). total h u.taken) views i v w at in
            let p = weigh_more h v.frames in
            let q = total-snoc h frames f in
            let g = ap h next in
            let k = ap (λ m. total h (frames_below m)) many in
            let e = a.even h in
            omega arith;
        inside = All-push (λ g. g < v.frames + 1) frames f (λ k d low. let was = a.inside k d low in omega arith) (omega arith);
      },
      refl,
    )

-- a part is cut off
pub forks : (i : ℕ) (v : QueueView) → 1 < v.parts → Forks Accounts i v (kept_part v) (new_part v)
unfolding total
forks i v some_parts frames views a at =
    let l : QueueView = kept_part v in
    let r : QueueView = new_part v in
    let many : v.frames ≡ a.many = (a.known i v at).frames (omega arith) in
    let vs : List QueueView = set views i l in record {
      many = a.many;
      parts = (let s = total-set (λ (u : QueueView). u.parts) views i v l at in let t = total-snoc (λ (u : QueueView). u.parts) vs r in let p = a.parts in omega arith);
      known = knows_more a.many vs r (with_part a.many r (omega arith) many) (knows_set a.many views i l (with_part a.many l (omega arith) many) a.known);
      even = λ h.
          let s = total-set (λ (u : QueueView). total h u.pushed) views i v l at in
          let s' = total-snoc (λ (u : QueueView). total h u.pushed) vs r in
          let t = total-set (λ (u : QueueView). total h u.taken) views i v l at in
          let t' = total-snoc (λ (u : QueueView). total h u.taken) vs r in
          let e = a.even h in
          omega arith;
      inside = a.inside;
    }

-- and comes back
pub merges : (i : ℕ) (v : QueueView) (j : ℕ) (u : QueueView) → 0 < v.parts → Merges Accounts i v j u (joined_parts v u) no_part
unfolding total
merges i v j u some_part frames views a at apart there =
    let b : QueueView = joined_parts v u in
    let many : v.frames ≡ a.many = (a.known i v at).frames some_part in
    let vs : List QueueView = set views i b in record {
      many = a.many;
      parts = (let s = total-set (λ (x : QueueView). x.parts) views i v b at in let t = total-set (λ (x : QueueView). x.parts) vs j u no_part there in let p = a.parts in omega arith);
      known = knows_set a.many vs j no_part (knows_nothing a.many) (knows_set a.many views i b (with_part a.many b (omega arith) many) a.known);
      even = λ h.
          let s = total-set (λ (x : QueueView). total h x.pushed) views i v b at in
          let s' = total-set (λ (x : QueueView). total h x.pushed) vs j u no_part there in
          let t = total-set (λ (x : QueueView). total h x.taken) views i v b at in
          let t' = total-set (λ (x : QueueView). total h x.taken) vs j u no_part there in
          let p = total-both h v.pushed u.pushed in
          let q = total-both h v.taken u.taken in
          let e = a.even h in
          omega arith;
      inside = a.inside;
    }

-- how often a frame of the pool stands among all
one_more : (f n : ℕ) → times f (frames_below (suc n)) ≡ times f (frames_below n) + cond (nat_eq f n) 1 0
one_more f n = total-snoc (λ g. cond (nat_eq f g) 1 0) (frames_below n) n

is_here : (f n : ℕ) → f ≡ n → cond {A = ℕ} (nat_eq f n) 1 0 ≡ 1
is_here f n same = ap (λ b. cond {A = ℕ} b 1 0) (eq-eqb f n same)

is_elsewhere : (f n : ℕ) → f ≢ n → cond {A = ℕ} (nat_eq f n) 1 0 ≡ 0
is_elsewhere f n other = ap (λ b. cond {A = ℕ} b 1 0) (ne_eqb f n other)

beyond_none : (f n : ℕ) → n ≤ f → times f (frames_below n) ≡ 0
unfolding total
beyond_none f zero beyond = refl
beyond_none f (suc n) beyond =
    let more = one_more f n in
    let here = is_elsewhere f n (λ same. omega arith) in
    let rest = beyond_none f n (omega arith) in
    omega arith

pub once_below : (f n : ℕ) → f < n → times f (frames_below n) ≡ 1
once_below f zero low = absurd (omega arith)
once_below f (suc n) low = let more = one_more f n in dite (ℕ_discrete f n)
    (λ (same : f ≡ n). let here = is_here f n same in let rest = beyond_none f n (omega arith) in omega arith)
    (λ (other : f ≢ n). let here = is_elsewhere f n other in let rest = once_below f n (omega arith) in omega arith)

-- all frames are accounted for
pub settles : (v : QueueView) (left : List ℕ) → v.parts ≡ all_parts → IsAmong v left → Settles v
settles v left whole among = record {
  left = left;
  inside = (let a = among.accounts in let many = (a.known among.place v among.there).frames (omega arith) in subst (λ (n : ℕ). All (λ f. f < n) left) (sym many) a.inside);
  each = λ f low. let all = whole_even v left whole among (λ x. cond (nat_eq f x) 1 0) in let once = once_below f v.frames low in omega arith;
}
