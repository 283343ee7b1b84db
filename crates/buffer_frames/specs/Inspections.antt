-- How a frame is looked at under its header.
use Rattle.std.specs.Prelude.{ℕ}
use Rattle.pin_core.specs.declared.view.View.{View}
use Rattle.pin_core.specs.Kinds.{load_tag, unlock_header}
use Rattle.frame_table.specs.FrameSteps.{Did, looking}
use Rattle.frame_table.specs.Kinds.{pins}
use Rattle.frame_table.specs.Seats.{tag_word}
use Rattle.content_locks.specs.Io.{LocksHeader}
use Rattle.buffer_frames.specs.declared.inspecting.Seen.{Seen}

-- The header of the frame f was locked; under it the state word was loaded, and then the tag word,
-- and these were what was answered; and the header was unlocked
pub record Inspects (f : ℕ) (seen : Seen) (v w : View) : Type 0 where
  pub under : View
  pub looked : View
  pub loaded : View
  pub was : ℕ
  pub last : ℕ
  pub locks : LocksHeader f v under was
  pub looks : Did looking f under looked seen.word
  pub loads : Did (pins load_tag) f looked loaded (tag_word seen.tag)
  pub unlocks : Did (pins unlock_header) f loaded w last
