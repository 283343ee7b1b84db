-- A census by what it shows.
use Rattle.std.specs.Prelude.{ℕ, List, []}

-- Words of frames, from frame 0 on, with room for so many frames.
pub record CensusList : Type 0 where
  pub frames : ℕ
  pub words : List ℕ

abbrev pub census_list : ℕ → List ℕ → CensusList
census_list frames words = record { frames = frames; words = words }

-- an empty one
abbrev pub new_census : ℕ → CensusList
new_census frames = census_list frames []
