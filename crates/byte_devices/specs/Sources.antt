-- What a read takes of a source's bytes, if they are known: None if they aren't.
use Rattle.std.specs.Prelude.{◌≡◌, ℕ, ◌≤◌, List, drop, length, take, Option, None, Some}

-- n bytes are there, the piece begins with them, and they are gone; what isn't known stays so
abbrev pub Takes : ℕ → List ℕ → Option (List ℕ) → Option (List ℕ) → Type 0
Takes n piece None new = new ≡ None
Takes n piece (Some bytes) new =
    (n ≤ length bytes) × (take n piece ≡ take n bytes) × (new ≡ Some (drop n bytes))
