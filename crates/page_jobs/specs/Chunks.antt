-- The blocks of a fork in chunks of eight.
use Rattle.std.specs.Prelude.{◌≡◌, ℕ, ◌+◌, ◌*◌, ◌-◌, ◌/◌, ◌<◌, ◌≤◌, List, [], ◌∷◌, ◌++◌, length}
use Rattle.std.specs.Prelude.{min}
use mathlib.Core.Option.{some}
use lib.ListN.{get_elem?}
use Rattle.grid.specs.Shape.{total}
use Rattle.chunk_claims.specs.Claims.{sum_below}
use Rattle.page_jobs.specs.Blocks.{blocks_from}

-- where the chunk begins, and ends, of n blocks; how many chunks there are, and how many blocks a
-- chunk has
abbrev pub chunk_start : ℕ → ℕ
chunk_start c = 8 * c

abbrev pub chunk_end : ℕ → ℕ → ℕ
chunk_end n c = min (8 * c + 8) n

abbrev pub chunk_count : ℕ → ℕ
chunk_count n = (n + 7) / 8

abbrev pub chunk_size : ℕ → ℕ → ℕ
chunk_size n c = chunk_end n c - chunk_start c

-- the blocks of a chunk, and of several, one after the other
abbrev pub blocks_of : ℕ → ℕ → List ℕ
blocks_of n c = blocks_from (chunk_start c) (chunk_size n c)

abbrev pub blocks_in_all : ℕ → List ℕ → List ℕ
blocks_in_all n [] = []
blocks_in_all n (c ∷ cs) = blocks_of n c ++ blocks_in_all n cs

-- each number is below those after it
abbrev pub Ascend : List ℕ → Type 0
Ascend [] = Unit {0}
Ascend (c ∷ cs) = ((i d : ℕ) → get_elem? cs i ≡ some d → c < d) × Ascend cs

-- The chunks that a pass claimed, and the results for their blocks, one after the other.
-- So calls, places and outcomes are told by one list of block numbers, and no clause speaks of
-- ranges. After a fault the items are those of the first blocks.
pub record Claimed (A : Type 0) : Type 0 where
  pub chunks : List ℕ
  pub items : List A

-- the results for the blocks of several passes, one pass after the other
abbrev pub items_in_all : {A : Type 0} → List (Claimed A) → List A
items_in_all [] = []
items_in_all (c ∷ cs) = c.items ++ items_in_all cs

-- The chunks of a fork of n blocks were dealt with one after the other, in order: all blocks of
-- each, but of the last one maybe only the first
pub record CoversChunks {A : Type 0} (n : ℕ) (c : Claimed A) : Type 0 where
  pub whole : List ℕ
  pub last : List ℕ
  pub ascend : Ascend c.chunks
  pub split : c.chunks ≡ whole ++ last
  pub at_most_one : length last ≤ 1
  pub covered : length (blocks_in_all n whole) ≤ length c.items
  pub within : length c.items ≤ length (blocks_in_all n c.chunks)

-- all blocks of each were dealt with
abbrev pub CoversAll : {A : Type 0} → ℕ → Claimed A → Type 0
CoversAll n c = length c.items ≡ length (blocks_in_all n c.chunks)

-- the passes claimed the first chunks of a fork of n blocks, `many` of them, each once: whatever
-- the weights, those of the claimed chunks sum to those of these
abbrev pub AreFirstClaimed : {A : Type 0} → ℕ → List (Claimed A) → Type 0
AreFirstClaimed n cs =
    (many : ℕ) × (many ≤ chunk_count n)
    × ((g : ℕ → ℕ) → total (λ c. total g c.chunks) cs ≡ sum_below many g)

-- they claimed all chunks, each once
abbrev pub AreAllClaimed : {A : Type 0} → ℕ → List (Claimed A) → Type 0
AreAllClaimed n cs = (g : ℕ → ℕ) → total (λ c. total g c.chunks) cs ≡ sum_below (chunk_count n) g
