-- Lanes of which nothing is known, and a lane that is alone.
use Rattle.std.proofs.Common.{◌≡◌, ℕ, zero, suc, List, [], ◌∷◌, get_or, length, map, Option, Some, None, IfSome, is_some, true, refl, sym, subst, arith}
use Rattle.std.proofs.Math.Nat.{mod-one}
use Rattle.block_tag.specs.Names.{lane_number, hash_of}
use Rattle.segment_store.specs.Contents.{Pages}
use Rattle.segment_store.specs.Lanes.{HoldTheirs}

none_at : {L : Type 0} (lanes : List L) (place : ℕ) → get_or (map (λ (l : L). let none : Option Pages = None in none) lanes) place None ≡ None
none_at [] place = refl
none_at (lane ∷ lanes) zero = refl
none_at (lane ∷ lanes) (suc place) = none_at lanes place

-- what isn't known is nowhere else than it is to be
pub unknown_hold : {L : Type 0} (lanes : List L) → HoldTheirs (map (λ (l : L). let none : Option Pages = None in none) lanes)
unknown_hold {L} lanes q tag below =
    let known = map (λ (l : L). let none : Option Pages = None in none) lanes in
    subst (λ (held : Option Pages). IfSome held (λ pages. is_some (pages tag) ≡ true → lane_number tag (length known) ≡ q)) (sym (none_at lanes q)) tt

alone : (lane : Option Pages) → HoldTheirs (lane ∷ [])
alone None zero tag below = tt
alone (Some pages) zero tag below = λ there. mod-one (hash_of tag)
alone lane (suc q) tag below = absurd (omega arith)

-- one lane has all blocks
pub one_holds : {L : Type 0} (contents : L → Option Pages) (lanes : List L) → length lanes ≡ 1 → HoldTheirs (map contents lanes)
one_holds contents [] one = absurd (omega arith)
one_holds contents (lane ∷ []) one = alone (contents lane)
one_holds contents (lane ∷ next ∷ lanes) one = absurd (omega arith)
