-- Relations that are made from a seed.
use Rattle.std.specs.Prelude.{ℕ, List, map}
use Rattle.std.specs.List.{range_with_len}
use Rattle.sample_relation.specs.Samples.{sample_page}

-- the pages of the first blocks of the relation with a seed
abbrev pub sample_relation : ℕ → ℕ → List (List ℕ)
sample_relation seed blocks = map (sample_page seed) (range_with_len 0 blocks)
