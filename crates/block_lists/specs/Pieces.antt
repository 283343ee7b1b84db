-- What stands at the beginning of a text.
use Rattle.std.specs.Prelude.{◌≡◌, ℕ, ◌^◌, ◌<◌, ◌≢◌, List, ◌∷◌, ◌++◌, decimal, get_or, length}
use Rattle.block_lists.specs.Lists.{AreBlockNumbers, block_line}

-- no number spells these bytes
abbrev pub IsNoNumber : List ℕ → Type 0
IsNoNumber digits = (number : ℕ) → number < 2 ^ 32 → digits ≡ decimal number → ⊥

-- the text doesn't have the byte
abbrev pub Lacks : ℕ → List ℕ → Type 0
Lacks byte text = (k : ℕ) → k < length text → get_or text k 0 ≢ byte

-- the text has the byte at this place, and at none before it
pub record IsFirstPlace (byte : ℕ) (text : List ℕ) (place : ℕ) : Type 0 where
  pub within : place < length text
  pub here : get_or text place 0 ≡ byte
  pub before : (k : ℕ) → k < place → get_or text k 0 ≢ byte

-- the text is a number, the byte that ends it, and a rest
pub record IsNumberAndRest (end : ℕ) (text : List ℕ) (number : ℕ) (rest : List ℕ) : Type 0 where
  pub small : number < 2 ^ 32
  pub spelled : text ≡ decimal number ++ (end ∷ rest)

abbrev pub BeginsWithNoNumber : ℕ → List ℕ → Type 0
BeginsWithNoNumber end text =
    (number : ℕ) (rest : List ℕ) → number < 2 ^ 32 → text ≡ decimal number ++ (end ∷ rest) → ⊥

-- the text is the line of a block, and a rest
pub record IsBlockAndRest (text block rest : List ℕ) : Type 0 where
  pub good : AreBlockNumbers block
  pub spelled : text ≡ block_line block ++ rest

abbrev pub BeginsWithNoBlock : List ℕ → Type 0
BeginsWithNoBlock text =
    (block rest : List ℕ) → AreBlockNumbers block → text ≡ block_line block ++ rest → ⊥
