-- The pages that a rewrite leaves are those that it makes, but for their log positions.
use Rattle.std.proofs.Common.{◌≡◌, ◌≤◌, ℕ, zero, suc, Bool, true, false, ◌||◌, List, [], ◌∷◌, drop, length, map, if◌then◌else◌, Some, refl, sym, ap, ◌∙◌, subst, inl, inr, arith}
use Rattle.std.specs.Prelude.{slice_get}
use Rattle.std.specs.List.{range_with_len}
use Rattle.std.proofs.lemmas.List.{length-drop, length-map}
use Rattle.std.proofs.lemmas.List.FromFn.{length-range_with_len}
use Rattle.std.proofs.Math.Bool.{or-true}
use mathlib.Core.Option.{some}
use lib.ListN.{get_elem?}
use Rattle.page_layout.specs.declared.outcomes.PageRewrite.TheVariants.{Invalid, New, Used}
use Rattle.page_layout.specs.declared.rewrite.Rewrite.{Rewrite}
use Rattle.page_layout.specs.declared.rewrite.Rewrite.TheVariants.{Skipped}
use Rattle.page_layout.specs.Fields.{header_of, with_lsn}
use Rattle.page_layout.specs.Outcomes.{is_changed_outcome, page_rewrite_of}
use Rattle.page_layout.specs.Positions.{DifferInPositions, DiffersInPosition}
use Rattle.page_layout.specs.Rewritten.{is_skipped, new_byte, rewrite_of, rewritten_page}
use Rattle.page_layout.specs.Soundness.{IsUsedPage, is_new_page, is_sound_header, is_sound_page}
use Rattle.page_layout.proofs.Positions.{header_used, same_header, sound_used}
use Rattle.pin_core.specs.State.{Page}
use Rattle.backend_pass.proofs.Standing.{all_at}
use Rattle.relation_commands.specs.RewriteResults.{AreFull, after_rewrite}

-- a page that is used with one position is used with its own
used_without : (lsn : ℕ) (page : Page) → IsUsedPage (with_lsn lsn page) → length page ≡ 8192 → IsUsedPage page
unfolding is_sound_page
used_without lsn page is size =
    let long : 8 ≤ length page = omega arith in
    let header = sym (same_header lsn page long) ∙ sound_used (is_new_page (with_lsn lsn page)) (is_sound_header (header_of (with_lsn lsn page))) is.sound is.used in
    record {
      size = size;
      sound = ap (λ (b : Bool). is_new_page page || b) header ∙ or-true (is_new_page page);
      used = header_used page header;
    }

length_rewritten : (page : Page) → length (rewritten_page page) ≡ length page
unfolding rewritten_page
length_rewritten page = length-map (range_with_len 0 (length page)) (new_byte page) ∙ length-range_with_len 0 (length page)

-- a page that is 8192 bytes long with a position is so without
length_without : (lsn : ℕ) (page : Page) → length (with_lsn lsn page) ≡ 8192 → length page ≡ 8192
unfolding with_lsn
length_without lsn page long =
    let rest = length-drop 8 page in
    let all : suc (suc (suc (suc (suc (suc (suc (suc (length (drop 8 page))))))))) ≡ 8192 = long in
    omega (arith, rest, all)

-- a page that is changed is sound and not new, and isn't skipped
pub record IsChangeable (page : Page) : Type 0 where
  pub sound : is_sound_page page ≡ true
  pub used : is_new_page page ≡ false
  pub kept : is_skipped page ≡ false

by_tests : (sound new skipped : Bool) (rest : Rewrite) → is_changed_outcome (if sound then (if new then New else Used (if skipped then Skipped else rest)) else Invalid) ≡ true
    → (sound ≡ true) × (new ≡ false) × (skipped ≡ false)
by_tests true false false rest changed = (refl, refl, refl)
by_tests true false true rest changed = absurd (let no : false ≡ true = changed in cc)
by_tests true true skipped rest changed = absurd (let no : false ≡ true = changed in cc)
by_tests false new skipped rest changed = absurd (let no : false ≡ true = changed in cc)

pub changeable : (page : Page) → is_changed_outcome (page_rewrite_of page) ≡ true → IsChangeable page
unfolding page_rewrite_of rewrite_of
changeable page changed =
    let tests = by_tests (is_sound_page page) (is_new_page page) (is_skipped page) _ changed in
    record { sound = tests.0; used = tests.1; kept = tests.2 }

-- a rewritten page, with any position, is sound and not new
abbrev pub StaysUsed : Type 0
StaysUsed = (page : Page) (lsn : ℕ) → IsUsedPage page → is_skipped page ≡ false → IsUsedPage (with_lsn lsn (rewritten_page page))

module _ (rewritten : StaysUsed) where
  -- a page that was changed has the rewritten page, at a position
  of_changed : (old new : Page) (lsn : ℕ) → length new ≡ 8192 → is_changed_outcome (page_rewrite_of old) ≡ true → new ≡ with_lsn lsn (rewritten_page old)
      → DiffersInPosition (rewritten_page old) new
  of_changed old new lsn long changed is =
      let so = changeable old changed in
      let whole = length_without lsn (rewritten_page old) (sym (ap length is) ∙ long) in
      let used = rewritten old lsn (record { size = sym (length_rewritten old) ∙ whole; sound = so.sound; used = so.used }) so.kept in
      inr (used_without lsn (rewritten_page old) used whole, (lsn, is))

  by_change : (old new : Page) (changes : Bool) → is_changed_outcome (page_rewrite_of old) ≡ changes → length new ≡ 8192
      → (is_changed_outcome (page_rewrite_of old) ≡ true → (lsn : ℕ) × (new ≡ with_lsn lsn (rewritten_page old)))
      → (is_changed_outcome (page_rewrite_of old) ≡ false → new ≡ old)
      → DiffersInPosition (if changes then rewritten_page old else old) new
  by_change old new true is long changed same = let at = changed is in of_changed old new at.0 long is at.1
  by_change old new false is long changed same = inl (same is)

  -- block by block
  each : (before after : List Page) → ((block : ℕ) (old new : Page) → get_elem? before block ≡ some old → get_elem? after block ≡ some new → DiffersInPosition (after_rewrite old) new)
      → (block : ℕ) (page other : Page) → slice_get (map after_rewrite before) block ≡ Some page → slice_get after block ≡ Some other → DiffersInPosition page other
  each [] qs so block page other at at' = absurd (cc)
  each (p ∷ ps) [] so block page other at at' = absurd (cc)
  each (p ∷ ps) (q ∷ qs) so zero page other at at' =
      let page_is : after_rewrite p ≡ page = cc in
      let other_is : q ≡ other = cc in
      subst (λ (x : Page). DiffersInPosition x other) page_is (subst (λ (y : Page). DiffersInPosition (after_rewrite p) y) other_is (so 0 p q refl refl))
  each (p ∷ ps) (q ∷ qs) so (suc block) page other at at' = each ps qs (λ b. so (suc b)) block page other at at'

  -- the pages that a rewrite leaves are those that it makes, but for their positions
  pub differ : (before after : List Page) → length after ≡ length before → AreFull after
      → ((block : ℕ) (old new : Page) → get_elem? before block ≡ some old → get_elem? after block ≡ some new → is_changed_outcome (page_rewrite_of old) ≡ true
      → (lsn : ℕ) × (new ≡ with_lsn lsn (rewritten_page old)))
      → ((block : ℕ) (old new : Page) → get_elem? before block ≡ some old → get_elem? after block ≡ some new → is_changed_outcome (page_rewrite_of old) ≡ false → new ≡ old)
      → DifferInPositions (map after_rewrite before) after
  differ before after counted full changed same = record {
    count = counted ∙ sym (length-map before after_rewrite);
    each = each before after (λ block old new was at. by_change old new (is_changed_outcome (page_rewrite_of old)) refl
        (all_at (λ (page : Page). length page ≡ 8192) after block new full at) (changed block old new was at) (same block old new was at));
  }
