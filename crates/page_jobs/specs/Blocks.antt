-- Blocks in order.
use Rattle.std.specs.Prelude.{ℕ, zero, suc, ◌+◌, List, [], ◌∷◌}

-- n blocks, from this one on
abbrev pub blocks_from : ℕ → ℕ → List ℕ
blocks_from block zero = []
blocks_from block (suc n) = block ∷ blocks_from (block + 1) n
