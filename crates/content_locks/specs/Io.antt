-- The rights to read a page and to write it: when they are given, and why not.
use Rattle.std.specs.Prelude.{◌≡◌, ◌≢◌, ℕ, Bool, not, true, false, None}
use Rattle.state_word.specs.declared.word.IoEnd.{IoEnd}
use Rattle.state_word.specs.declared.word.StateWord.{StateWord}
use Rattle.state_word.specs.Fields.{fields, io_ended_fields, unlocked_fields}
use Rattle.pin_core.specs.declared.view.Content.TheVariants.{Shared}
use Rattle.pin_core.specs.declared.view.Role.TheVariants.{HandedOut, Absent}
use Rattle.pin_core.specs.declared.view.Io.TheVariants as io
use Rattle.pin_core.specs.declared.view.Link.{Link}
use Rattle.pin_core.specs.declared.view.View.{View}
use Rattle.pin_core.specs.State.{link}
use Rattle.pin_core.specs.Kinds.{lock_header, unlock_header}
use Rattle.page_core.specs.Kinds as paged
use Rattle.page_core.specs.Kinds.{EndsAs}
use Rattle.frame_table.specs.Kinds.{pages, pins}
use Rattle.frame_table.specs.Seats.{IsWordOf, Looked, MarksBegun, MarksEnded, SameMarks}
use Rattle.frame_table.specs.FrameSteps.{Did, Looks, looking}
use Rattle.frame_table.specs.Content.{begun_link, start_of}
use Rattle.content_locks.specs.declared.io.Direction.{Direction}
use Rattle.content_locks.specs.declared.io.Direction.TheVariants.{Input, Output}
use Rattle.content_locks.specs.declared.io.TryIo.{TryIo}
use Rattle.content_locks.specs.declared.io.TryIo.TheVariants.{InProgress, Nothing, Begun}

-- whether a page is read, and not written
abbrev pub is_input : Direction → Bool
is_input Input = true
is_input Output = false

-- whether a word shows nothing to do: for a read the page is valid, and for a write it isn't dirty
abbrev pub is_nothing : Bool → StateWord → Bool
is_nothing true w = w.valid
is_nothing false w = not w.dirty

-- A read, or a write, may begin: for a read the pin is handed out, and for a write the content lock
-- is shared
pub record CanStartIo (input : Bool) (l : Link) : Type 0 where
  pub pinned : l.role ≢ Absent
  pub settled : l.pending ≡ false
  pub to_read : input ≡ true → l.role ≡ HandedOut
  pub to_write : input ≡ false → l.content ≡ Shared

-- a read or a write may end so: for a read the page is home
pub record MayEndIo (end : IoEnd) (l : Link) : Type 0 where
  pub home : l.io ≡ io.Input → l.out ≡ None
  pub ends : EndsAs end l

-- Loads of the state word of f, and then its header was locked, in the word `was` (`TakesHeader` of
-- `clock_sweep` names the word that is held then, too)
pub record LocksHeader (f : ℕ) (v w : View) (was : ℕ) : Type 0 where
  pub before : View
  pub looks : Looks f v before
  pub did : Did (pins lock_header) f before w was

-- The header was locked at a word that shows another backend's read or write, and unlocked
pub record FindsWork (f : ℕ) (v w : View) : Type 0 where
  pub under : View
  pub was : ℕ
  pub word : ℕ
  pub locks : LocksHeader f v under was
  pub busy : (fields was).in_progress ≡ true
  pub unlocks : Did (pins unlock_header) f under w word

-- the view v became w as it found such work, any number of times
pub data Waits (f : ℕ) : View → View → Type 0 where
  still : {v : View} → Waits f v v
  again : {v u w : View} → Waits f v u → FindsWork f u w → Waits f v w

-- After that the read, or the write, began
pub record BeginsIo (input : Bool) (f : ℕ) (v w : View) : Type 0 where
  pub tried : View
  pub under : View
  pub was : ℕ
  pub word : ℕ
  pub waits : Waits f v tried
  pub locks : LocksHeader f tried under was
  pub did : Did (pages (start_of input)) f under w word

-- After that the header was locked at a word that shows nothing to do, and unlocked
pub record FindsNothing (input : Bool) (f : ℕ) (v w : View) : Type 0 where
  pub tried : View
  pub under : View
  pub looked : View
  pub was : ℕ
  pub seen : ℕ
  pub word : ℕ
  pub waits : Waits f v tried
  pub locks : LocksHeader f tried under was
  pub nothing : is_nothing input (fields was) ≡ true
  pub looks : Did looking f under looked seen
  pub unlocks : Did (pins unlock_header) f looked w word

-- The header was locked, and the read, or the write, ended; what is marked of it is made of the
-- word that was held
pub record EndsIo (end : IoEnd) (f : ℕ) (v w : View) : Type 0 where
  pub under : View
  pub was : ℕ
  pub word : ℕ
  pub locks : LocksHeader f v under was
  pub did : Did (pages (paged.end_io end)) f under w word
  pub shows : IsWordOf (link v f) (fields word)
  pub marks : MarksEnded (unlocked_fields (io_ended_fields end (fields word))) v w

-- what one try leaves, and why
abbrev pub TriedIo : Bool → ℕ → View → View → TryIo → Type 0
TriedIo input f v w InProgress = Looked (link v f) (link w f) × FindsWork f v w × SameMarks v w
TriedIo input f v w Nothing = Looked (link v f) (link w f)
    × (input ≡ true → (link w f).seen_valid ≡ true) × FindsNothing input f v w × SameMarks v w
TriedIo input f v w (Begun right) = (right.frame ≡ f) × (right.input ≡ input)
    × Looked (begun_link input (link v f)) (link w f) × BeginsIo input f v w × MarksBegun input v w
