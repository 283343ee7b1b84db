-- If lanes keep what they hold besides their blocks, and held only what is theirs, then they still do.
use Rattle.std.proofs.Common.{◌≡◌, ℕ, zero, suc, true, Option, Some, None, List, [], ◌∷◌, map, length, get_or, sym, ap, ◌∙◌, refl, subst, arith}
use Rattle.std.specs.Prelude.{is_some, IfSome, IsSomeAnd}
use Rattle.std.proofs.lemmas.List.{length-map}
use mathlib.Core.Logic.{dite}
use mathlib.Core.Option.{some}
use native.Mathlib.Decide.{ℕ_discrete}
use lib.ListN.{get_elem?}
use Rattle.block_tag.specs.declared.tag.Tag.{Tag}
use Rattle.block_tag.specs.declared.catalogue.RelEntry.{RelEntry}
use Rattle.block_tag.specs.Names.{lane_number}
use Rattle.segment_store.specs.Contents.{Pages}
use Rattle.segment_store.specs.Lanes.{HoldTheirs}
use Rattle.pin_core.specs.State.{Page}
use Rattle.table_rule.specs.Shows.{KeepsOthers, contents_in, contents_at}
use Rattle.table_rule.proofs.Opens.{there_at}

-- if the lane q of n is known and has the tag, the tag is its own
abbrev IsTheirs : ℕ → ℕ → Tag → Option Pages → Type 0
IsTheirs n q tag held =
    IfSome held (λ pages. is_some (pages tag) ≡ true → lane_number tag n ≡ q)

kept_theirs : (relations : List RelEntry) (n q : ℕ) (tag : Tag) (opened now : Option Pages)
    → KeepsOthers relations n q opened now → IsTheirs n q tag opened → IsTheirs n q tag now
kept_theirs relations n q tag opened None kept was = tt
kept_theirs relations n q tag opened (Some known) kept was = λ is.
    dite (ℕ_discrete (lane_number tag n) q) (λ e. e)
    (λ other. of_opened opened (kept known tag refl (λ word placed. other placed.placed)) was is)
  where
    of_opened : (held : Option Pages) → IsSomeAnd held (λ (pages : Pages). known tag ≡ pages tag)
        → IsTheirs n q tag held → is_some (known tag) ≡ true → lane_number tag n ≡ q
    of_opened None same was is = absurd same
    of_opened (Some pages) same was is =
        was (sym (ap (λ (p : Option Page). is_some p) same) ∙ is)

module _ {L : Type 0} (contents : L → Option Pages) where
  held_at : (lanes : List L) (q : ℕ)
      → get_or (map contents lanes) q None ≡ contents_at contents lanes q
  held_at [] q = refl
  held_at (l ∷ lanes) zero = refl
  held_at (l ∷ lanes) (suc q) = held_at lanes q

  pub still_theirs : (relations : List RelEntry) (opened lanes : List L)
      → length lanes ≡ length opened
      → ((q : ℕ) (l : L) → get_elem? lanes q ≡ some l
      → KeepsOthers relations (length lanes) q (contents_at contents opened q) (contents l))
      → HoldTheirs (map contents opened) → HoldTheirs (map contents lanes)
  still_theirs relations opened lanes count kept theirs q tag within =
      let long : length (map contents lanes) ≡ length lanes = length-map lanes contents in
      let opened_long : length (map contents opened) ≡ length opened = length-map opened contents in
      let there = there_at lanes q (omega arith) in
      let was : IsTheirs (length lanes) q tag (contents_at contents opened q) =
      subst (λ (n : ℕ). IsTheirs n q tag (contents_at contents opened q)) (opened_long ∙ sym count)
      (subst (IsTheirs (length (map contents opened)) q tag) (held_at opened q)
      (theirs q tag (omega arith))) in
      subst (λ (n : ℕ). IsTheirs n q tag (get_or (map contents lanes) q None)) (sym long)
      (subst (IsTheirs (length lanes) q tag)
      (sym (held_at lanes q ∙ ap (contents_in contents) there.1))
      (kept_theirs relations (length lanes) q tag (contents_at contents opened q)
      (contents there.0) (kept q there.0 there.1) was))
