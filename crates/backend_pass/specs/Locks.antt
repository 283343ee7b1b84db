-- The content locks that a pass has.
use Rattle.std.specs.Prelude.{◌≡◌, ◌≢◌, ℕ, Some}
use Rattle.block_tag.specs.declared.tag.Tag.{Tag}
use Rattle.block_tag.specs.Names.{packed_tag}
use Rattle.pin_core.specs.declared.view.Content.{Content}
use Rattle.pin_core.specs.State.{link}
use Rattle.backend_pass.specs.Passes.{PassState}

-- the pass's content lock of the frame f is this one
abbrev pub HasLock : Content → ℕ → PassState → Type 0
HasLock lock f p = (link p.view f).content ≡ lock

-- the frame f has the block's tag, as the pass remembers it, whose pin keeps it there
abbrev pub IsTagged : Tag → ℕ → PassState → Type 0
IsTagged tag f p = (link p.view f).tag ≡ Some (packed_tag tag)

-- the pass's content lock of the frame f is this one now, and what it has at other frames is
-- untouched
pub record ChangesLock (lock : Content) (f : ℕ) (p q : PassState) : Type 0 where
  pub here : HasLock lock f q
  pub others : (g : ℕ) → g ≢ f → link q.view g ≡ link p.view g
