-- Each step keeps the rule.
use Rattle.std.proofs.Common.{◌≡◌, ℕ, zero, suc, ◌+◌, ◌<◌, ◌≤◌, ◌%◌, ◌^◌, ◌⊎◌, List, [], ◌∷◌, ◌++◌, set, get_or, sym, refl, ap, ◌∙◌, subst, inl, inr, ⊎_elim, arith}
use Rattle.std.proofs.Math.Nat.{mod-eq_of_lt}
use Rattle.std.proofs.lemmas.Bool.{cases_lt}
use mathlib.Core.Option.{none, some}
use lib.ListN.{get_elem?}
use Rattle.grid.specs.Shape.{total}
use Rattle.grid.proofs.Sums.{total-set, total-snoc, total-both, total-alone, terms_le, term_le}
use Rattle.grid.proofs.Lists.{at_set, at_end, at_only, set_else, set_here}
use Rattle.atomic_table.proofs.Lists.{set_again}
use Rattle.atomic_table.specs.Table.{Allows, Joins, Me, Splits, keeps, opening, step}
use Rattle.chunk_claims.specs.declared.claimant.Claimant.{Claimant}
use Rattle.chunk_claims.specs.declared.claims.Work.{Work}
use Rattle.chunk_claims.proofs.Weights.{sum_below_more, total_nothing, weighs_none, weighs_one}
use Rattle.chunk_claims.specs.Claims.{AreClaimed, ClaimsHold, Draws, IsClaimant, Counts, first_claimant, joined_claimants, less_a_part, with_one_part, with_draw, past_weight, spent_claimant, sum_below}

-- no sum is above one whose terms aren't below
total-le : {A : Type 0} (f g : A → ℕ) (l : List A) → ((j : ℕ) (a : A) → get_elem? l j ≡ some a → f a ≤ g a) → total f l ≤ total g l
unfolding total
total-le f g [] h = omega arith
total-le f g (x ∷ xs) h = omega (arith, h zero x refl, total-le f g xs (λ j a at. h (suc j) a at))

weight_cases : (n x : ℕ) → ((x < n) × (past_weight n x ≡ 0)) ⊎ ((n ≤ x) × (past_weight n x ≡ 1))
weight_cases n x = ⊎_elim (λ (h : x < n). inl (h, weighs_none n x h)) (λ (h : n ≤ x). inr (h, weighs_one n x h)) (cases_lt x n)

-- the word is at most the chunks and the workers together
word_bound : (w : Work) (word : ℕ) (claimants : List Claimant) → AreClaimed w word claimants → word ≤ w.chunks + w.workers
word_bound w word claimants are =
    let past : total (λ (c : Claimant). c.past) claimants ≤ total (λ (c : Claimant). c.parts) claimants = total-le (λ (c : Claimant). c.past) (λ (c : Claimant). c.parts) claimants (λ j c at. (are.each j c at).past) in
    omega (arith, are.bound, are.parts, past)

-- so it fits, and may be one more
word_fits : (w : Work) (word : ℕ) (claimants : List Claimant) → w.chunks + w.workers < 2 ^ 63 → AreClaimed w word claimants → word + 1 < 2 ^ 64
word_fits w word claimants few are = omega (arith, few, word_bound w word claimants are)

drawn : (w : Work) (word id : ℕ) (claimants : List Claimant) (v : Claimant) → AreClaimed w word claimants → get_elem? claimants id ≡ some v → v.past < v.parts → AreClaimed w (word + 1) (set claimants id (with_draw word v))
drawn w word id claimants v are at part =
    let u : Claimant = with_draw word v in
    let is = are.each id v at in
    let chunks : v.chunks ≡ w.chunks = (is.some (omega arith)).0 in
    let pasts = total-set (λ (h : Claimant). h.past) claimants id v u at in
    let cases = weight_cases v.chunks word in record {
      parts = omega (arith, total-set (λ (h : Claimant). h.parts) claimants id v u at, are.parts);
      drawn = λ g. omega (arith, total-set (λ (h : Claimant). total g h.drawn) claimants id v u at, total-snoc g v.drawn word, sum_below_more word g, are.drawn g);
      bound = ⊎_elim (λ c. omega (arith, c.0, c.1, chunks, pasts, term_le (λ (h : Claimant). h.past) claimants id v at)) (λ c. omega (arith, c.0, c.1, chunks, pasts, are.bound)) cases;
      each = λ j h there. ⊎_elim
          (λ e. subst (IsClaimant w) e.1 record { past = ⊎_elim (λ c. omega (arith, c.1)) (λ c. omega (arith, c.1)) cases; none = λ z. absurd (omega arith); some = is.some })
          (λ e. are.each j h e.1)
          (at_set claimants id j u h there);
    }

-- what one seat drew is at most what all drew
drawn_within : (w : Work) (word id : ℕ) (claimants : List Claimant) (u : Claimant) → get_elem? claimants id ≡ some u → AreClaimed w word claimants → (g : ℕ → ℕ) → total g u.drawn ≤ sum_below word g
drawn_within w word id claimants u at are g = omega (arith, term_le (λ (c : Claimant). total g c.drawn) claimants id u at, are.drawn g)

pub draws_there : (w : Work) (slots id : ℕ) (me : Me (Unit {0}) Claimant) → me.0.past < me.0.parts → Allows (ClaimsHold w) slots id me 0 (λ n. (n + 1) % 2 ^ 64) (Draws (step slots 0 1 0 none) me)
draws_there w slots id me part s h counted at low =
    let v : Claimant = me.0 in
    let word : ℕ = get_or s.words 0 0 in
    let is : word ≡ h.word = ap (λ (ws : List ℕ). get_or ws 0 0) h.words in
    let fits = word_fits w h.word s.views h.few h.are in
    let next : (word + 1) % 2 ^ 64 ≡ h.word + 1 = ap (λ (k : ℕ). (k + 1) % 2 ^ 64) is ∙ mod-eq_of_lt fits in
    let more : AreClaimed w (h.word + 1) (set s.views id (with_draw word v)) = subst (λ (k : ℕ). AreClaimed w (h.word + 1) (set s.views id (with_draw k v))) (sym is) (drawn w h.word id s.views v h.are at part) in (
      with_draw word v,
      keeps,
      tt,
      record {
        word = h.word + 1;
        words = ap (λ (ws : List ℕ). set ws 0 ((word + 1) % 2 ^ 64)) h.words ∙ ap (λ (k : ℕ). k ∷ []) next;
        few = h.few;
        are = more;
      },
      (refl, λ g. subst (λ (k : ℕ). total g (v.drawn ++ word ∷ []) ≤ sum_below (k + 1) g) (sym is) (drawn_within w (h.word + 1) id (set s.views id (with_draw word v)) (with_draw word v) (set_here s.views id v (with_draw word v) at) more g)),
    )

pub counts_there : (w : Work) (slots id : ℕ) (me : Me (Unit {0}) Claimant) → Allows (ClaimsHold w) slots id me 0 (λ n. n) (Counts (step slots 0 0 0 none) me)
counts_there w slots id me s h counted at low =
    let v : Claimant = me.0 in
    let word : ℕ = get_or s.words 0 0 in
    let is : word ≡ h.word = ap (λ (ws : List ℕ). get_or ws 0 0) h.words in
    let are = h.are in (
      v,
      keeps,
      tt,
      record {
        word = h.word;
        words = ap (λ (ws : List ℕ). set ws 0 (get_or ws 0 0)) h.words;
        few = h.few;
        are = subst (λ (l : List Claimant). AreClaimed w h.word l) (sym (set_again s.views id v at)) are;
      },
      (
        refl,
        (λ g. subst (λ (k : ℕ). total g v.drawn ≤ sum_below k g) (sym is) (drawn_within w h.word id s.views v at are g)),
        (λ some.
            let known = (are.each id v at).some some in
            let chunks : v.chunks ≡ w.chunks = known.0 in
            let workers : v.workers ≡ w.workers = known.1 in (
              omega (arith, word_bound w h.word s.views are, chunks, workers, is),
              (λ all g.
                  sym (total-alone (λ (u : Claimant). total g u.drawn) s.views id v at (λ j u apart there. total_nothing g u.drawn ((are.each j u there).none (omega (arith, terms_le (λ (u : Claimant). u.parts) s.views id j v u apart at there, are.parts, workers, all)))))
                  ∙ are.drawn g ∙ ap (λ (k : ℕ). sum_below k g) (sym is)),
            )),
      ),
    )

pub splits_there : (w : Work) (id : ℕ) (v : Claimant) → 0 < v.parts → v.past ≡ 0 → v.drawn ≡ [] → Splits (ClaimsHold w) id v (less_a_part v) (with_one_part v)
splits_there w id v part past nothing s h at =
    let are = h.are in
    let is = are.each id v at in
    let left : List Claimant = set s.views id (less_a_part v) in record {
      word = h.word;
      words = h.words;
      few = h.few;
      are = record {
        parts = omega (arith, total-set (λ (u : Claimant). u.parts) s.views id v (less_a_part v) at, total-snoc (λ (u : Claimant). u.parts) left (with_one_part v), are.parts);
        drawn = λ g. omega (arith, total-set (λ (u : Claimant). total g u.drawn) s.views id v (less_a_part v) at, total-snoc (λ (u : Claimant). total g u.drawn) left (with_one_part v), total_nothing g [] refl, are.drawn g);
        bound = omega (arith, total-set (λ (u : Claimant). u.past) s.views id v (less_a_part v) at, total-snoc (λ (u : Claimant). u.past) left (with_one_part v), are.bound);
        each = λ j u there. ⊎_elim
            (λ in_left. ⊎_elim
            (λ e. subst (IsClaimant w) e.1 record { past = omega (arith, past); none = (λ z. nothing); some = (λ z. is.some part) })
            (λ e. are.each j u e.1)
            (at_set s.views id j (less_a_part v) u in_left))
            (λ e. subst (IsClaimant w) e.0 record { past = omega arith; none = (λ z. absurd (omega arith)); some = (λ z. is.some part) })
            (at_end left (with_one_part v) u j there);
      };
    }

pub joins_there : (w : Work) (id other : ℕ) (v u : Claimant) → 0 < u.parts → Joins (ClaimsHold w) id v other u (joined_claimants v u) spent_claimant
joins_there w id other v u part s h at apart there =
    let are = h.are in
    let both : Claimant = joined_claimants v u in
    let first : List Claimant = set s.views id both in
    let beside : get_elem? s.views other ≡ some u = sym (set_else s.views id other both apart) ∙ there in
    let is = are.each id v at in
    let other_is = are.each other u beside in record {
      word = h.word;
      words = h.words;
      few = h.few;
      are = record {
        parts = omega (arith, total-set (λ (x : Claimant). x.parts) s.views id v both at, total-set (λ (x : Claimant). x.parts) first other u spent_claimant there, are.parts);
        drawn = λ g. omega (arith, total-set (λ (x : Claimant). total g x.drawn) s.views id v both at, total-set (λ (x : Claimant). total g x.drawn) first other u spent_claimant there, total-both g v.drawn u.drawn, total_nothing g [] refl, are.drawn g);
        bound = omega (arith, total-set (λ (x : Claimant). x.past) s.views id v both at, total-set (λ (x : Claimant). x.past) first other u spent_claimant there, are.bound);
        each = λ j x here. ⊎_elim
            (λ e. subst (IsClaimant w) e.1 record { past = omega arith; none = (λ z. refl); some = (λ z. absurd (omega arith)) })
            (λ e. ⊎_elim
            (λ f. subst (IsClaimant w) f.1 record { past = omega (arith, is.past, other_is.past); none = (λ z. absurd (omega arith)); some = (λ z. other_is.some part) })
            (λ f. are.each j x f.1)
            (at_set s.views id j both x e.1))
            (at_set first other j spent_claimant x here);
      };
    }

-- sums below a number grow with it
pub sum_below_le : (n m : ℕ) (g : ℕ → ℕ) → n ≤ m → sum_below n g ≤ sum_below m g
unfolding sum_below
sum_below_le n zero g le = let z : n ≡ 0 = omega arith in subst (λ (k : ℕ). sum_below k g ≤ 0) (sym z) (omega arith)
sum_below_le n (suc m) g le = ⊎_elim
    (λ (h : n < suc m). omega (arith, sum_below_le n m g (omega (arith, h))))
    (λ (h : suc m ≤ n). let e : n ≡ suc m = omega (arith, h, le) in subst (λ (k : ℕ). sum_below k g ≤ sum_below m g + g m) (sym e) (omega arith))
    (cases_lt n (suc m))

pub opens : (w : Work) → w.chunks + w.workers < 2 ^ 63 → ClaimsHold w (opening (0 ∷ []) [] (first_claimant w))
unfolding total sum_below
opens w few = record {
  word = 0;
  words = refl;
  few = few;
  are = record {
    parts = omega arith;
    drawn = (λ g. refl);
    bound = omega arith;
    each = λ j h there. subst (IsClaimant w) (at_only (first_claimant w) h j there).0 record { past = omega arith; none = (λ z. refl); some = (λ z. (refl, refl)) };
  };
}
