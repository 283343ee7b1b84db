-- How many blocks each fork has after entries, and which blocks are there by that.
use Rattle.std.specs.Prelude.{◌≡◌, ◌⊎◌, ℕ, ◌+◌, ◌<◌, List, [], ◌∷◌, Option, is_some, nat_lt}
use Rattle.pin_core.specs.State.{Page}
use Rattle.history_core.specs.Log.{resized_fork, sizes_after, Change, image, ranges, resize, Entry}
use Rattle.history_core.specs.Log.{Log, LogLaw, cell, cut}
use Rattle.pin_core.specs.State.{tag_fork, tag_block}

-- A change is of a block that is there; or it adds one block to a fork, or cuts some away
abbrev pub FitsSizes : Change → (ℕ → ℕ) → Type 0
FitsSizes (image tag page) sizes = tag_block tag < sizes (tag_fork tag)
FitsSizes (ranges tag spans) sizes = tag_block tag < sizes (tag_fork tag)
FitsSizes (resize fork old new) sizes = (old ≡ sizes fork) × ((new ≡ old + 1) ⊎ (new < old))

-- each entry's change fits the sizes that the entries before it leave
unfoldable pub AreSized : List Entry → (ℕ → ℕ) → Type 0
AreSized [] sizes = Unit {0}
AreSized (e ∷ es) sizes = FitsSizes e.change sizes × AreSized es (resized_fork e.change sizes)

-- A block is there exactly below its fork's size
abbrev pub AreThere : (ℕ → Option Page) → (ℕ → ℕ) → Type 0
AreThere pages sizes = (tag : ℕ)
    → is_some (pages tag) ≡ nat_lt (tag_block tag) (sizes (tag_fork tag))

-- After entries that fit the sizes, a block is there exactly below its fork's size, if it was so
-- before; and so it is after the entries up to any position of a log
abbrev pub BlocksThere : Type 0
BlocksThere = (opened : ℕ → Option Page) (sizes : ℕ → ℕ) → AreThere opened sizes
    → ((es : List Entry) → AreSized es sizes → AreThere (cell opened es) (sizes_after es sizes))
    × ((log : Log) → LogLaw log → AreSized log.entries sizes → (place : ℕ)
    → AreThere (cell opened (cut place log.entries))
    (sizes_after (cut place log.entries) sizes))
