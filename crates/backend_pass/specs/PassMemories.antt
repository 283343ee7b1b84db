-- The memory of passes.
use Rattle.std.specs.Prelude.{◌≡◌, ℕ, List, [], ◌∷◌}
use Rattle.clock_sweep.specs.CensusList.{new_census}
use Rattle.backend_pass.specs.declared.pass_memory.PassMemory.{PassMemory}

-- each memory has an empty census with room for this many frames
abbrev pub AreForFrames : ℕ → List PassMemory → Type 0
AreForFrames frames [] = Unit {0}
AreForFrames frames (k ∷ ks) = (k.census ≡ new_census frames) × AreForFrames frames ks
