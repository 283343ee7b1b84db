-- Lanes whose contents are not known.
use Rattle.std.proofs.Common.{◌≡◌, ℕ, zero, suc, List, [], ◌∷◌, get_or, map, Option, Some, None, refl, sym, ◌∙◌, subst, true}
use Rattle.std.specs.Prelude.{IfSome, is_some, length}
use Rattle.block_tag.specs.Names.{lane_number}
use Rattle.block_tag.specs.declared.tag.Fork.{Fork}
use Rattle.segment_store.specs.Contents.{Pages}
use Rattle.segment_store.specs.Lanes.{HasBlocks, HoldTheirs}

none_at : {L : Type 0} (lanes : List L) (place : ℕ)
    → get_or (map (λ (l : L). let none : Option Pages = None in none) lanes) place None ≡ None
none_at [] place = refl
none_at (lane ∷ lanes) zero = refl
none_at (lane ∷ lanes) (suc place) = none_at lanes place

-- nothing is owed of blocks in lanes whose contents are not known
pub unknown : {L : Type 0} (lanes : List L) (fork : Fork) (blocks : ℕ)
    → HasBlocks fork blocks (map (λ (l : L). let none : Option Pages = None in none) lanes)
unknown lanes fork blocks block below pages is =
    let bad : None ≡ Some pages = sym (none_at lanes _) ∙ is in cc bad

-- nor that what they hold is their own
pub unknown_theirs : {L : Type 0} (lanes : List L)
    → HoldTheirs (map (λ (l : L). let none : Option Pages = None in none) lanes)
unknown_theirs lanes q tag within =
    let held = map (λ l. let none : Option Pages = None in none) lanes in
    subst (λ (lane : Option Pages). IfSome lane (λ pages. is_some (pages tag) ≡ true → lane_number tag (length held) ≡ q)) (sym (none_at lanes q)) tt
