-- Counts of faults to which those of lanes and of a log are added.
use Rattle.std.proofs.Common.{◌≡◌, ◌≢◌, ℕ, zero, suc, ◌%◌, ◌^◌, ◌<◌, ◌≤◌, List, [], ◌∷◌, get_or, length, map, set, refl, sym, ◌∙◌, ap, subst, arith}
use Rattle.std.specs.Prelude.{sum_by}
use Rattle.std.proofs.lemmas.List.{length-map}
use Rattle.std.proofs.lemmas.List.Sums.{get_or-le-sum_by, sum_by-cons}
use mathlib.Core.Logic.{dite}
use native.Mathlib.Decide.{ℕ_discrete}
use Rattle.block_tag.specs.declared.tag.Tag.{Tag}
use Rattle.block_tag.specs.Names.{lane_number}
use Rattle.byte_devices.specs.Faults.{Added, Rose}
use Rattle.history_core.specs.Device.{HasRisen}
use Rattle.history_core.specs.State.{last_count}
use Rattle.lane_survey.specs.Survey.{RoseAt}

module _ (old more new : ℕ) (added : Added old more new) where
  pub added_none : old < 2 ^ 64 → more ≡ 0 → new ≡ old
  added_none fits none = omega arith

  pub added_some : 0 < more → Rose old new
  added_some some = omega arith

  pub added_later : old < 2 ^ 64 → old ≤ new
  added_later fits = omega arith

pub rose_after : (a b c : ℕ) → a ≤ b → Rose b c → Rose a c
rose_after a b c later rose = omega arith

pub rose_from_none : (n : ℕ) → Rose 0 n → 0 < n
rose_from_none n rose = omega arith

-- a count that rose shows it, as far as its type goes
pub risen_rose : (before now : ℕ) → HasRisen before now → Rose before now
risen_rose before now risen = dite (ℕ_discrete now last_count)
    (λ (last : now ≡ last_count). omega arith)
    (λ (other : now ≢ last_count). let more = risen other in omega arith)

-- a count that is the same is no smaller
pub least_same : (before now : ℕ) → now ≡ before → before ≤ now
least_same before now same = omega arith

module _ {L : Type 0} (faults : L → ℕ) where
  pub sum_of_map : (ls : List L) → sum_by (λ (n : ℕ). n) (map faults ls) ≡ sum_by faults ls
  sum_of_map [] = refl
  sum_of_map (l ∷ ls) =
      let a = sum_by-cons (λ (n : ℕ). n) (faults l) (map faults ls) in
      let b = sum_by-cons faults l ls in
      let c = sum_of_map ls in
      omega (arith, a, b, c)

  -- lanes with the same counts have the same sum
  pub sum_same : (ls ms : List L) → map faults ms ≡ map faults ls → sum_by faults ms ≡ sum_by faults ls
  sum_same ls ms same = sym (sum_of_map ms) ∙ ap (λ (ns : List ℕ). sum_by (λ (n : ℕ). n) ns) same ∙ sum_of_map ls

  get_or_set : (ns : List ℕ) (q n : ℕ) → q < length ns → get_or (set ns q n) q 0 ≡ n
  get_or_set [] q n below = absurd (omega arith)
  get_or_set (m ∷ ns) zero n below = refl
  get_or_set (m ∷ ns) (suc q) n below = get_or_set ns q n (omega arith)

  length_set : (ns : List ℕ) (q n : ℕ) → length (set ns q n) ≡ length ns
  length_set [] q n = refl
  length_set (m ∷ ns) zero n = refl
  length_set (m ∷ ns) (suc q) n = ap suc (length_set ns q n)

  remainder_below : (h n : ℕ) → 0 < n → h % n < n
  remainder_below h n some = omega arith

  -- where the count of one lane rose the sum isn't 0
  pub some_in_sum : (tag : Tag) (ls ms : List L) → 0 < length ls → RoseAt tag (length ls) (map faults ls) (map faults ms) → 0 < sum_by faults ms
  some_in_sum tag ls ms some rose =
      let q = lane_number tag (length ls) in
      let below : q < length ls = remainder_below _ (length ls) some in
      let within : q < length (map faults ls) = subst (λ (n : ℕ). q < n) (sym (length-map ls faults)) below in
      let inside : q < length (set (map faults ls) q rose.count) = subst (λ (n : ℕ). q < n) (sym (length_set (map faults ls) q rose.count)) within in
      let there = get_or-le-sum_by (λ (n : ℕ). n) (set (map faults ls) q rose.count) q 0 inside in
      let here = get_or_set (map faults ls) q rose.count within in
      let all = ap (λ (ns : List ℕ). sum_by (λ (n : ℕ). n) ns) rose.others in
      let sum = sum_of_map ms in
      let up = rose.rose in
      omega (arith, there, here, all, sum, up)
