-- The passes publish one after the other, and what they counted is summed up.
use Rattle.std.proofs.Common.{◌≡◌, ◌≢◌, ℕ, zero, suc, ◌+◌, ◌<◌, ◌≤◌, List, [], ◌∷◌, length, map, get_or, set, take, take_all, ⊎_elim, refl, sym, ap, ◌∙◌, subst, add-one, arith}
use mathlib.Core.Option.{some, some-injective, some-ne-none}
use lib.ListN.{get_elem?}
use Rattle.atomic_table.specs.Seated.{TableId}
use Rattle.grid.proofs.Lists.{at_set}
use Rattle.grid.proofs.Sums.{total-set}
use Rattle.pin_core.specs.declared.view.Published.{Published}
use Rattle.pin_core.specs.declared.view.View.{View}
use Rattle.history_core.specs.Balances.{added_to}
use Rattle.table_rule.proofs.Opens.{length_low}
use Rattle.io_counts.specs.declared.contexts.ByContext.{ByContext}
use Rattle.io_counts.specs.Additions.{view_adding}
use Rattle.io_counts.specs.Counts.{no_io}
use Rattle.io_counts.specs.Sums.{AreAllSmall, io_sum}
use Rattle.io_counts.specs.Tallies.{AreAllAtMost, last_io}
use Rattle.io_counts.proofs.Small.{io_lasts, io_sum_assoc, io_sum_none, lasts_more, lasts_none, none_io_sum, small_lasts}
use Rattle.backend_pass.specs.Closing.{EachPass}
use Rattle.backend_pass.specs.Counts.{io_in_all}
use Rattle.backend_pass.specs.Managers.{AreSpent}
use Rattle.backend_pass.specs.Passes.{HasPublished, PassState, taken_in}
use Rattle.backend_pass.proofs.AddedUp.{added_by_all, added_more}
use Rattle.backend_pass.proofs.Told.{as_long, but_told, set_told, twin}

-- if no eviction and no reuse is counted of the pass, it took no tag from a frame
abbrev pub CountsTags : PassState → Type 0
CountsTags p = taken_in p.io ≡ 0 → p.view.cleared ≡ 0

tags_told : (p q : PassState) → but_told q ≡ but_told p → CountsTags p → CountsTags q
tags_told p q same tags none = ap (λ (x : PassState). x.view.cleared) same ∙ tags (ap (λ (x : PassState). taken_in x.io) (sym same) ∙ none)

-- The first n of the passes ps have published, and are qs then with the others; io is what these n
-- counted
pub record SumsUp (n : ℕ) (ps qs : List PassState) (io : ByContext) : Type 0 where
  pub same : map but_told qs ≡ map but_told ps
  pub told : (i : ℕ) (q : PassState) → i < n → get_elem? qs i ≡ some q → HasPublished q
  pub tags : (i : ℕ) (q : PassState) → i < n → get_elem? qs i ≡ some q → CountsTags q
  pub least : (number : ℕ) → added_by_all ps number ≤ added_by_all qs number
  pub sums : io ≡ io_in_all (take n ps)
  pub most : AreAllAtMost io (io_lasts n)

-- one more
in_all_more : (n : ℕ) (ps : List PassState) (p : PassState) → get_elem? ps n ≡ some p → io_in_all (take (suc n) ps) ≡ io_sum (io_in_all (take n ps)) p.io
in_all_more n [] p e = absurd (some-ne-none p (sym e))
in_all_more zero (x ∷ xs) p e = io_sum_none x.io ∙ ap (λ (y : PassState). y.io) (some-injective x p e) ∙ sym (none_io_sum p.io)
in_all_more (suc n) (x ∷ xs) p e = ap (io_sum x.io) (in_all_more n xs p e) ∙ sym (io_sum_assoc x.io (io_in_all (take n xs)) p.io)

read_at : (qs : List PassState) (n : ℕ) (d : PassState) → n < length qs → get_elem? qs n ≡ some (get_or qs n d)
read_at [] n d inside = absurd (omega arith)
read_at (x ∷ xs) zero d inside = refl
read_at (x ∷ xs) (suc n) d inside = read_at xs n d (omega arith)

pub sums_none : (ps : List PassState) → SumsUp 0 ps ps no_io
sums_none ps = record {
  same = refl;
  told = λ i q below. absurd (omega arith);
  tags = λ i q below. absurd (omega arith);
  least = λ number. omega arith;
  sums = refl;
  most = lasts_none;
}

pub sums_more : (n : ℕ) (ps qs : List PassState) (d new : PassState) (io io' : ByContext) (more : List Published) → n < length qs → but_told new ≡ but_told (get_or qs n d) → new.view ≡ view_adding more (get_or qs n d).view → HasPublished new → io' ≡ io_sum io (get_or qs n d).io → AreAllAtMost (get_or qs n d).io last_io → CountsTags (get_or qs n d) → SumsUp n ps qs io → SumsUp (n + 1) ps (set qs n new) io'
sums_more n ps qs d new io io' more inside kept adds published sum low tags s =
    let old : PassState = get_or qs n d in
    let t = twin ps qs s.same n old (read_at qs n d inside) in record {
      same = set_told qs n d new kept ∙ s.same;
      told = λ i q below at. ⊎_elim
          (λ (x : (i ≡ n) × (new ≡ q)). subst HasPublished x.1 published)
          (λ (x : (i ≢ n) × (get_elem? qs i ≡ some q)). s.told i q (let other = x.0 in omega arith) x.1)
          (at_set qs n i new q at);
      tags = λ i q below at. ⊎_elim
          (λ (x : (i ≡ n) × (new ≡ q)). subst CountsTags x.1 (tags_told old new kept tags))
          (λ (x : (i ≢ n) × (get_elem? qs i ≡ some q)). s.tags i q (let other = x.0 in omega arith) x.1)
          (at_set qs n i new q at);
      least = λ number.
          let before = s.least number in
          let rises : added_to number old.view ≤ added_to number new.view = subst (λ (w : View). added_to number old.view ≤ added_to number w) (sym adds) (added_more number more old.view) in
          let one : added_by_all (set qs n new) number + added_to number old.view ≡ added_by_all qs number + added_to number new.view = total-set (λ (p : PassState). added_to number p.view) qs n old new (read_at qs n d inside) in
          omega arith;
      sums = sum ∙ ap (λ (x : ByContext). io_sum x old.io) s.sums
          ∙ ap (io_sum (io_in_all (take n ps))) (ap (λ (p : PassState). p.io) (sym t.2))
          ∙ sym (in_all_more n ps t.0 t.1)
          ∙ ap (λ (k : ℕ). io_in_all (take k ps)) (sym (add-one n));
      most = subst (λ (x : ByContext). AreAllAtMost x (io_lasts (n + 1))) (sym sum) (lasts_more n io old.io s.most low);
    }

-- the next one is of the same table
spent_there : (t : TableId) (ps : List PassState) (i : ℕ) (p : PassState) → AreSpent t ps → get_elem? ps i ≡ some p → p.table ≡ t
spent_there t [] i p s e = absurd (some-ne-none p (sym e))
spent_there t (x ∷ xs) zero p s e = ap (λ (y : PassState). y.table) (sym (some-injective x p e)) ∙ s.0
spent_there t (x ∷ xs) (suc i) p s e = spent_there t xs i p s.2 e

pub table_of_next : (t : TableId) (n : ℕ) (ps qs : List PassState) (d : PassState) (io : ByContext) → n < length qs → AreSpent t ps → SumsUp n ps qs io → (get_or qs n d).table ≡ t
table_of_next t n ps qs d io inside spent s =
    let w = twin ps qs s.same n (get_or qs n d) (read_at qs n d inside) in
    ap (λ (p : PassState). p.table) (sym w.2) ∙ spent_there t ps n w.0 spent w.1

-- there are few passes, so the sums are small
pub small_so_far : (n : ℕ) (ps qs : List PassState) (io : ByContext) → n ≤ length qs → length ps ≤ 64 → SumsUp n ps qs io → AreAllSmall io
small_so_far n ps qs io inside few s = small_lasts n io (let long = as_long ps qs s.same in omega arith) s.most

-- no eviction and no reuse is counted of each, if none is of all
taken_in_both : (a b : ByContext) → taken_in (io_sum a b) ≡ 0 → (taken_in a ≡ 0) × (taken_in b ≡ 0)
taken_in_both a b none = (omega arith, omega arith)

taken_each : (ps : List PassState) (i : ℕ) (p : PassState) → get_elem? ps i ≡ some p → taken_in (io_in_all ps) ≡ 0 → taken_in p.io ≡ 0
taken_each [] i p e none = absurd (some-ne-none p (sym e))
taken_each (x ∷ xs) zero p e none = ap (λ (y : PassState). taken_in y.io) (sym (some-injective x p e)) ∙ (taken_in_both x.io (io_in_all xs) none).0
taken_each (x ∷ xs) (suc i) p e none = taken_each xs i p e (taken_in_both x.io (io_in_all xs) none).1

-- all have published
module _ (n : ℕ) (ps qs : List PassState) (io : ByContext) (all : length qs ≤ n) (s : SumsUp n ps qs io) where
  pub all_published : EachPass HasPublished qs
  all_published i q at = s.told i q (let below = length_low qs i q at in omega arith) at

  pub all_summed : io ≡ io_in_all ps
  all_summed = s.sums ∙ ap io_in_all (take_all n ps (let long = as_long ps qs s.same in omega arith))

  pub none_took : taken_in (io_in_all ps) ≡ 0 → EachPass (λ (p : PassState). p.view.cleared ≡ 0) ps
  none_took none i p at =
      let t = twin qs ps (sym s.same) i p at in
      tags_told t.0 p (sym t.2) (s.tags i t.0 (let below = length_low qs i t.0 t.1 in omega arith) t.1) (taken_each ps i p at none)
