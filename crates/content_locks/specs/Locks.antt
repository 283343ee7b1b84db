-- What the calls of this crate do, and why they refuse.
use Rattle.std.specs.Prelude.{◌≡◌, ◌≢◌, ℕ, ◌<◌, ◌%◌, ◌^◌, Bool, true, false, Some, None}
use mathlib.Core.Logic.{◌⊎◌}
use Rattle.pin_core.specs.declared.view.Content.TheVariants.{Unlocked, Shared}
use Rattle.pin_core.specs.declared.view.Link.{Link}
use Rattle.pin_core.specs.declared.view.View.{View}
use Rattle.pin_core.specs.State.{Page, link}
use Rattle.page_core.specs.Kinds as paged
use Rattle.frame_table.specs.Kinds.{pages}
use Rattle.frame_table.specs.PageWork.{ReturnsBy, overwriting}
use Rattle.frame_table.specs.FrameSteps.{Did}
use Rattle.frame_table.specs.Content.{copying_link, has_exclusive, looking_content}
use Rattle.content_locks.specs.declared.locks.TryLock.{TryLock}
use Rattle.content_locks.specs.declared.locks.TryLock.TheVariants.{Busy, Changed}

-- the view v became w by loads of the content word of f (`Looks` of `frame_table` is by loads of
-- its state word)
pub data LooksAtContent (f : ℕ) : View → View → Type 0 where
  still : {v : View} → LooksAtContent f v v
  again : {v u w : View} (found : ℕ) → LooksAtContent f v u → Did looking_content f u w found
      → LooksAtContent f v w

-- after such loads a step of the kind k was made at the content word
abbrev pub LocksContent : paged.Kind → ℕ → View → View → Type 0
LocksContent k f v w = (u : View) × (was : ℕ) × LooksAtContent f v u × Did (pages k) f u w was

-- after one such load a step of the kind k was made at it, at the word that was loaded
abbrev pub LocksAtOnce : paged.Kind → ℕ → View → View → Type 0
LocksAtOnce k f v w = (u : View) × (was : ℕ) × Did looking_content f v u was
    × Did (pages k) f u w was

-- a content word that shows an exclusive lock, and one that shows any
abbrev pub ShowsExclusive : ℕ → Type 0
ShowsExclusive word = has_exclusive word ≡ true

abbrev pub ShowsLock : ℕ → Type 0
ShowsLock word = (has_exclusive word ≡ true) ⊎ (0 < word % 2 ^ 18)

-- Why a content lock is not taken: a word that this call loaded shows a holder in conflict, or this
-- call loaded two different words
abbrev pub RefusesLock : (ℕ → Type 0) → ℕ → View → View → TryLock → Type 0
RefusesLock Conflicts f v w (Busy word) = Did looking_content f v w word × Conflicts word
RefusesLock Conflicts f v w (Changed was now) = (was ≢ now)
    × ((u : View) × Did looking_content f v u was × Did looking_content f u w now)

-- the link of a sharer that has taken the copy latch, or hasn't
abbrev pub copying_link_if : Bool → Link → Link
copying_link_if true l = copying_link true l
copying_link_if false l = l

-- The view may copy the page under its content lock: no entry is unapplied, and neither the page
-- nor the copy latch is taken
pub record CanCopy (l : Link) : Type 0 where
  pub right : l.content ≢ Unlocked
  pub applied : l.unapplied ≡ false
  pub home : l.out ≡ None
  pub no_copy : l.copying ≡ false

-- the view may copy the page of a frame: it has what the page needs to go out
pub record MayCopy (l : Link) : Type 0 where
  pub right : l.content ≢ Unlocked
  pub applied : l.unapplied ≡ false
  pub home : l.out ≡ None
  pub shared : l.content ≡ Shared → l.copying ≡ true

-- the link with the copy noted
abbrev pub copied_link : Page → Link → Link
copied_link page l = record l { copied = Some page }

-- The page of f went out as this page, and came back
pub record CopiesPage (f : ℕ) (page : Page) (v w : View) : Type 0 where
  pub between : View
  pub went : ℕ
  pub came : ℕ
  pub out : Did (pages paged.page_out) f v between went
  pub found : (link between f).out ≡ Some page
  pub back : ReturnsBy (overwriting (link between f)) f between w came

-- The page was copied after loads of the content word, or under the copy latch, which was taken and
-- left
pub data Copies (f : ℕ) (page : Page) : View → View → Type 0 where
  alone : {v u w : View} → LooksAtContent f v u → CopiesPage f page u w → Copies f page v w
  latched : {v u x w : View} (left : ℕ) → LocksContent paged.take_copy f v u → CopiesPage f page u x
      → Did (pages paged.leave_copy) f x w left → Copies f page v w

-- one try to take the copy latch: it is taken, or the word was loaded
abbrev pub TriedCopy : ℕ → View → View → Bool → Type 0
TriedCopy f v w true = LocksContent paged.take_copy f v w
TriedCopy f v w false = LooksAtContent f v w
