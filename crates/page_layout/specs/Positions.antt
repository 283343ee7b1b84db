-- Pages that differ in nothing but their log positions, and the totals that are the same then.
use Rattle.std.specs.Prelude.{◌≡◌, ◌⊎◌, ℕ, List, length, slice_get, Some}
use Rattle.page_layout.specs.Fields.{with_lsn}
use Rattle.page_layout.specs.Soundness.{IsUsedPage}

-- the other page is the same, or was sound and not new and has another log position
abbrev pub DiffersInPosition : List ℕ → List ℕ → Type 0
DiffersInPosition page other =
    (other ≡ page) ⊎ (IsUsedPage page × ((lsn : ℕ) × (other ≡ with_lsn lsn page)))

-- two lists of pages that differ at most in their log positions, block by block
pub record DifferInPositions (pages others : List (List ℕ)) : Type 0 where
  pub count : length others ≡ length pages
  pub each : (block : ℕ) (page other : List ℕ) → slice_get pages block ≡ Some page
      → slice_get others block ≡ Some other → DiffersInPosition page other
