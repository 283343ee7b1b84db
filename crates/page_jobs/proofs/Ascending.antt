-- A seat draws numbers in order.
use Rattle.std.proofs.Common.{◌≡◌, ℕ, zero, suc, ◌+◌, ◌<◌, ◌≤◌, List, [], ◌∷◌, ◌++◌, All, refl, sym, ap, subst, ⊎_elim, add-one, arith}
use Rattle.std.proofs.lemmas.Bool.{cases_lt}
use mathlib.Core.Option.{some, some-ne-none}
use lib.ListN.{get_elem?}
use Rattle.grid.specs.Shape.{total}
use Rattle.grid.proofs.Lists.{at_end, at_longer}
use Rattle.grid.proofs.Sums.{term_le, total-snoc}
use Rattle.chunk_claims.specs.Claims.{past_weight, sum_below}
use Rattle.page_jobs.specs.Chunks.{Ascend}
use Rattle.chunk_claims.proofs.Weights.{weighs_one}
use Rattle.page_jobs.proofs.ClaimedChunks.{past_low}
use Rattle.backend_pass.proofs.Standing.{all_at}

-- none, and the first of several
pub ascend_none : (cs : List ℕ) → cs ≡ [] → Ascend cs
ascend_none cs none = subst Ascend (sym none) tt

pub ascend_front : (cs ds : List ℕ) → Ascend (cs ++ ds) → Ascend cs
ascend_front [] ds up = tt
ascend_front (c ∷ cs) ds up = (λ i d at. up.0 i d (at_longer cs ds i d at), ascend_front cs ds up.1)

-- one more, which is above them
pub ascend_more : (cs : List ℕ) (x : ℕ) → Ascend cs → ((i d : ℕ) → get_elem? cs i ≡ some d → d < x) → Ascend (cs ++ x ∷ [])
ascend_more [] x up below = (λ i d at. absurd (some-ne-none d (sym at)), tt)
ascend_more (c ∷ cs) x up below = (
  λ i d at. ⊎_elim (λ h. up.0 i d h) (λ h. subst (λ (y : ℕ). c < y) h.0 (below zero c refl)) (at_end cs x d i at),
  ascend_more cs x up.1 (λ i d at. below (suc i) d at),
)

-- a number past those below it
pub ascend_past : (m past : ℕ) (cs : List ℕ) → Ascend cs → All (λ c. c < m) cs → m ≤ past → Ascend (cs ++ past ∷ [])
ascend_past m past cs up below high = ascend_more cs past up (λ i d at. let low = all_at (λ (c : ℕ). c < m) cs i d below at in omega (arith, low, high))

-- the numbers up to x weigh 1 from x on
one_up : (x : ℕ) → sum_below (x + 1) (past_weight x) ≡ 1
unfolding sum_below
one_up x =
    let more : sum_below (x + 1) (past_weight x) ≡ sum_below x (past_weight x) + past_weight x x = ap (λ (k : ℕ). sum_below k (past_weight x)) (add-one x) in
    omega (arith, more, past_low x x (omega arith), weighs_one x x (omega arith))

-- a number that was drawn, where what was drawn is at most what there is up to it
pub ascend_drawn : (x : ℕ) (cs : List ℕ) → Ascend cs → ((g : ℕ → ℕ) → total g (cs ++ x ∷ []) ≤ sum_below (x + 1) g) → Ascend (cs ++ x ∷ [])
ascend_drawn x cs up within = ascend_more cs x up (λ i d at. ⊎_elim
    (λ (t : d < x). t)
    (λ (t : x ≤ d). absurd (omega (arith, within (past_weight x), total-snoc (past_weight x) cs x, weighs_one x x (omega arith), weighs_one x d t, term_le (past_weight x) cs i d at, one_up x)))
    (cases_lt d x))
