-- What holds of content locks, pages, input and output, and of waits, in every state that steps
-- lead to.
use Rattle.std.specs.Prelude.{◌≡◌, ◌≢◌, ℕ, ◌+◌, ◌<◌, ◌≤◌, true, false, List, Some, None}
use mathlib.Core.Option.{some}
use lib.ListN.{get_elem?}
use Rattle.pin_core.specs.declared.view.Role.TheVariants.{Absent}
use Rattle.pin_core.specs.declared.view.Content.TheVariants.{Unlocked, Shared, Exclusive}
use Rattle.pin_core.specs.declared.view.Io.TheVariants.{Quiet, Input, Output}
use Rattle.pin_core.specs.declared.view.LastWrite.TheVariants.{Unwritten}
use Rattle.pin_core.specs.declared.view.Link.{Link}
use Rattle.pin_core.specs.declared.view.View.{View}
use Rattle.pin_core.specs.State.{Frame, Page, no_tag, link, is_block}
use Rattle.pin_core.specs.Sizes.{SizesLaw}
use Rattle.pin_core.specs.Tallies.{flag_weight}
use Rattle.pin_core.specs.Invariant.{HasTag, FrameLaw, LinkLaw}
use Rattle.pin_core.specs.Invariant as pins
use Rattle.page_layout.specs.Soundness.{is_sound_page}
use Rattle.page_core.specs.State.{Block, State, block_of, zero_page}
use Rattle.page_core.specs.Tallies.{Tally, pin, sharers, applied_locks, unapplied_locks, copies}
use Rattle.page_core.specs.Tallies.{works, outs, waits_as, page_shape}
use Rattle.grid.specs.Shape.{Part, Grid}

-- What holds of a frame with its page and of the sums over the views there
pub record PageFrame (b : Block) (fr : Frame) (t : Tally → ℕ) : Type 0 where
  -- the content word counts the views that share the content lock
  pub shared : fr.sharers ≡ t sharers
  -- the exclusive bit is set if and only if one view has the content lock exclusively, its entry
  -- applied or not
  pub exclusive : flag_weight fr.exclusive ≡ t applied_locks + t unapplied_locks
  -- while the exclusive bit is set, nobody shares the content lock
  pub excludes : fr.exclusive ≡ true → fr.sharers ≡ 0
  -- the copy bit is set if and only if one view has the copy latch
  pub copying : flag_weight fr.copying ≡ t copies
  -- BM_IO_IN_PROGRESS is set if and only if one view has the input or output right
  pub working : flag_weight fr.word.in_progress ≡ t works
  -- the page is out with one view at most
  pub one_out : t outs ≤ 1
  -- the page of a valid frame is sound
  pub sound : fr.word.valid ≡ true → is_sound_page fr.page ≡ true
  -- the page of a valid frame is the block's page after the log, if that is known, unless a view
  -- has an entry to apply there
  pub page : (p : Page) → fr.word.valid ≡ true → fr.tag ≢ no_tag → t unapplied_locks ≡ 0
      → b.logged ≡ Some p → p ≡ fr.page
  -- if BM_PIN_COUNT_WAITER is set, a view waits there under the waiter's number
  pub waited : fr.word.awaited ≡ true → 0 < t (waits_as fr.word.waiter)
  -- if BM_PIN_COUNT_WAITER is clear, the word's waiter number is 0
  pub unwaited : fr.word.awaited ≡ false → fr.word.waiter ≡ 0

-- What a view that marked a frame dirty under its exclusive lock has there
pub record DirtiedLink (fr : Frame) (l : Link) : Type 0 where
  -- the view still has the content lock exclusively
  pub right : l.content ≡ Exclusive
  -- BM_DIRTY is set
  pub dirty : fr.word.dirty ≡ true
  -- BM_JUST_DIRTIED is set
  pub just : fr.word.just_dirtied ≡ true

-- What a view has whose entry is in the log, and not yet applied to the page
pub record UnappliedLink (b : Block) (l : Link) : Type 0 where
  -- the view has the content lock exclusively
  pub right : l.content ≡ Exclusive
  -- the view marked the frame dirty under its lock
  pub dirtied : l.dirtied ≡ true
  -- the block's page after the log is known
  pub is_known : b.logged ≢ None
  -- the block's page after the log is sound
  pub is_sound : (p : Page) → b.logged ≡ Some p → is_sound_page p ≡ true
  -- the view notes an image
  pub noted : l.image ≢ None
  -- the image that the view notes is the block's page after the log
  pub image : (p : Page) → l.image ≡ Some p → b.logged ≡ Some p
  -- the view notes no copy
  pub uncopied : l.copied ≡ None

-- What holds if a view has copied the page p under its content lock
pub record CopiedLink (b : Block) (fr : Frame) (l : Link) (p : Page) : Type 0 where
  -- the view still has the content lock
  pub right : l.content ≢ Unlocked
  -- the copy is the frame's page
  pub home : fr.page ≡ p
  -- the copy is the block's page after the log, if that is known
  pub is_logged : (q : Page) → b.logged ≡ Some q → q ≡ p

-- What holds if the lane gave the page p to a view with the input right
pub record ReadLink (b : Block) (fr : Frame) (l : Link) (p : Page) : Type 0 where
  -- the view still has the input right
  pub right : l.io ≡ Input
  -- the page that was read is the block's page after the log, if that is known
  pub is_logged : (q : Page) → b.logged ≡ Some q → q ≡ p
  -- once the page that was read is noted as in its place, it is the frame's page
  pub home : l.read_is_home ≡ true → fr.page ≡ p

-- What holds if a view has taken the page out and overwritten it with q
pub record OverwrittenLink (fr : Frame) (l : Link) (q : Page) : Type 0 where
  -- the view has the page out
  pub out : l.out ≢ None
  -- the frame's page is what it was overwritten with
  pub page : fr.page ≡ q
  -- under an input right the page that it was overwritten with is the one that the lane gave
  pub read : l.io ≡ Input → l.read ≡ Some q

-- What holds of a frame and of what a view has there
pub record PageLink (b : Block) (fr : Frame) (l : Link) : Type 0 where
  -- a content lock needs a pin and a valid frame that has a tag
  pub content : l.content ≢ Unlocked → (l.role ≢ Absent) × (fr.word.valid ≡ true) × HasTag fr
  -- a view with the copy latch shares the content lock
  pub copying : l.copying ≡ true → l.content ≡ Shared
  -- an input or output right needs a pin
  pub io : l.io ≢ Quiet → l.role ≢ Absent
  -- under an input right the frame has a tag and isn't valid
  pub input : l.io ≡ Input → HasTag fr × (fr.word.valid ≡ false)
  -- under an output right the frame is dirty, and the view shares the content lock
  pub output : l.io ≡ Output → (fr.word.dirty ≡ true) × (l.content ≡ Shared)
  -- a write is noted only under an output right
  pub written : l.last_write ≢ Unwritten → l.io ≡ Output
  -- until it assigns or clears the frame, a view that has stored the tag word has no content lock
  -- and no input or output right there
  pub pending : l.pending ≡ true → (l.content ≡ Unlocked) × (l.io ≡ Quiet)
  -- a view that marked the frame dirty under its exclusive lock still has that lock, and BM_DIRTY
  -- and BM_JUST_DIRTIED are set
  pub dirtied : l.dirtied ≡ true → DirtiedLink fr l
  -- a view with an entry to apply to the page has the exclusive lock, marked the frame dirty, and
  -- notes no copy; the block's page after the log is the entry's image, which the view notes, and
  -- sound
  pub unapplied : l.unapplied ≡ true → UnappliedLink b l
  -- an image is noted only for an entry that isn't applied yet
  pub imaged : l.unapplied ≡ false → l.image ≡ None
  -- a page noted as copied is the frame's page, and the block's page after the log, if that is
  -- known; and the content lock is still held
  pub copied : (p : Page) → l.copied ≡ Some p → CopiedLink b fr l p
  -- a page noted as read is the block's page after the log, if that is known, and the frame's once
  -- it is in its place; and the input right is still held
  pub read : (p : Page) → l.read ≡ Some p → ReadLink b fr l p
  -- if a view that shares the content lock has the page out, it has the copy latch
  pub out_shared : l.out ≢ None → l.content ≡ Shared → l.copying ≡ true
  -- if a view without a content lock has the page out, it has the input right
  pub out_unlocked : l.out ≢ None → l.content ≡ Unlocked → l.io ≡ Input
  -- a page that is out, and not overwritten, is as it was taken
  pub taken : (p : Page) → l.out ≡ Some p → l.overwritten ≡ None → fr.page ≡ p
  -- a page that was overwritten is out, and is what it was overwritten with; under an input right
  -- that is the page noted as read
  pub overwritten : (q : Page) → l.overwritten ≡ Some q → OverwrittenLink fr l q
  -- a waiter has a pin
  pub waits : l.waits ≢ None → l.role ≢ Absent

-- what holds of each frame with its page, and of what each view has there
abbrev pub page_part : Part page_shape
page_part = record { column = PageFrame; cell = λ b fr _ l. PageLink b fr l }

-- what holds of pins, headers and tags, in the grid of this crate
abbrev pub pin_part : Part page_shape
pin_part = record {
  column = λ _ fr t. FrameLaw fr (λ k. t (pin k));
  cell = λ _ fr _ l. LinkLaw fr l;
}

-- What holds of the waits of a view
pub record WaitsOnce (v : View) : Type 0 where
  -- a view waits under its own number
  pub own : (f number : ℕ) → (link v f).waits ≡ Some number → number ≡ v.number
  -- a view waits at one frame at most
  pub one : (f g : ℕ) → (link v f).waits ≢ None → (link v g).waits ≢ None → f ≡ g

-- what holds of the waits of all views
abbrev pub WaitsLaw : List View → Type 0
WaitsLaw views = (i : ℕ) (v : View) → get_elem? views i ≡ some v → WaitsOnce v

-- What holds of a frame with a new block, and of what the view that notes it has there
pub record NotedPage (fr : Frame) (l : Link) : Type 0 where
  -- the frame's page is all zero, once it is valid
  pub valid : fr.word.valid ≡ true → fr.page ≡ zero_page
  -- a page that the view notes as read there is all zero
  pub read : (p : Page) → l.read ≡ Some p → p ≡ zero_page

-- What holds of a frame with a new block, which the view v of backend i notes
pub record NotedLaw (s : State) (i f : ℕ) (v : View) : Type 0 where
  -- the frame's page, once it is valid, and a page that the view notes as read there are all zero
  pub page : NotedPage (s.core.frame f) (link v f)
  -- no other view has an input right there
  pub alone : (j : ℕ) (u : View) → j ≢ i → get_elem? s.core.views j ≡ some u → (link u f).io ≢ Input

-- what holds of each frame with a new block
abbrev pub NotedPages : State → Type 0
NotedPages s = (i f : ℕ) (v : View) → get_elem? s.core.views i ≡ some v → f < s.core.frames
    → (link v f).noted ≡ true → NotedLaw s i f v

-- a block that isn't there has no page after the log
abbrev pub OthersHaveNoPage : State → Type 0
OthersHaveNoPage s = (tag : ℕ) → is_block s.core tag ≡ false → s.logged tag ≡ None

-- What holds of pins, headers, tags and maps, of the sizes of forks,
-- and of content locks, pages, input and output, and waits
pub record PageInvariant (s : State) : Type 0 where
  -- what holds of pins, headers, tags and maps
  pub core : pins.PinInvariant s.core
  -- what holds of the sizes of forks
  pub sizes : SizesLaw s.core
  -- what holds of each frame with its page, and of what each view has there
  pub pages : Grid page_shape page_part s.core.frames s.core.frame (block_of s.logged) s.core.views
  -- a view waits under its own number, and at one frame at most
  pub waits : WaitsLaw s.core.views
  -- the page of a frame with a new block is all zero, once it is valid, and only the view that
  -- notes the block reads it in
  pub noted : NotedPages s
  -- a block that isn't there has no page after the log
  pub gone : OthersHaveNoPage s
