-- What every list of events keeps of content locks, pages, input and output, and of waits, in the
-- field's words.
use Rattle.std.specs.Prelude.{◌≡◌, ◌≢◌, ℕ, ◌<◌, ◌≤◌, Bool, true, false, List, [], ◌∷◌, Option, Some}
use Rattle.std.specs.Prelude.{None, count_by, if◌then◌else◌}
use mathlib.Core.Option.{some}
use lib.ListN.{get_elem?}
use Rattle.pin_core.specs.declared.view.Content.{Content}
use Rattle.pin_core.specs.declared.view.Content.TheVariants.{Unlocked, Shared, Exclusive}
use Rattle.pin_core.specs.declared.view.Io.{Io}
use Rattle.pin_core.specs.declared.view.Io.TheVariants.{Quiet, Input, Output}
use Rattle.pin_core.specs.declared.view.Role.TheVariants.{Absent}
use Rattle.pin_core.specs.declared.view.View.{View}
use Rattle.pin_core.specs.State.{Page, Config, CanOpen, link, is_block}
use Rattle.pin_core.specs.Invariant.{HasTag}
use Rattle.pin_core.specs.Kinds.{unpin}
use Rattle.pin_core.specs.Steps as pin_steps
use Rattle.pin_core.specs.Schedules.{IsHandedOut, KeepsTag}
use Rattle.page_layout.specs.Soundness.{is_sound_page}
use Rattle.page_core.specs.State.{State, zero_page, opening}
use Rattle.page_core.specs.Steps.{Event, pins_and_maps, Run}

-- none of the events is the unpin of the frame f by backend i
abbrev pub HasNoUnpin : ℕ → ℕ → List Event → Type 0
HasNoUnpin i f [] = Unit {0}
HasNoUnpin i f (e ∷ es) = (e ≢ pins_and_maps (pin_steps.at i f unpin)) × HasNoUnpin i f es

-- while a handed-out pin of a frame is held the frame keeps its tag, whatever the backends do
abbrev pub PinnedTagsStay : State → Type 0
PinnedTagsStay s = (i f : ℕ) (es : List Event) (t : State) → IsHandedOut s.core i f
    → HasNoUnpin i f es → Run es s t → KeepsTag s.core t.core f × IsHandedOut t.core i f

-- A list of events leads to the state, from the start of a buffer pool whose lanes hold `origin`,
-- as far as their contents are known
pub record IsReached (s : State) : Type 0 where
  -- what the pool is made of
  pub config : Config
  -- a pool can be made of that configuration
  pub opens : CanOpen config
  -- the pages that the lanes held at the start, as far as their contents are known
  pub origin : ℕ → Option Page
  -- the page that each frame has at the start
  pub page : Page
  -- the events since the start
  pub events : List Event
  -- the events lead from the start of that pool to the state
  pub run : Run events (opening config origin page) s

-- whether a content lock is shared
abbrev pub is_shared : Content → Bool
is_shared Unlocked = false
is_shared Shared = true
is_shared Exclusive = false

-- whether a content lock is exclusive
abbrev pub is_exclusive : Content → Bool
is_exclusive Unlocked = false
is_exclusive Shared = false
is_exclusive Exclusive = true

-- whether there is an input or output right
abbrev pub is_working : Io → Bool
is_working Quiet = false
is_working Input = true
is_working Output = true

-- whether the view shares the content lock of the frame f
abbrev pub shares : ℕ → View → Bool
shares f v = is_shared (link v f).content

-- whether the view has the content lock of the frame f exclusively
abbrev pub excludes : ℕ → View → Bool
excludes f v = is_exclusive (link v f).content

-- whether the view has an input or output right at the frame f
abbrev pub works_on : ℕ → View → Bool
works_on f v = is_working (link v f).io

-- The content word is what the views have, and one exclusive lock excludes every other
pub record ContentLocks (s : State) (f : ℕ) : Type 0 where
  -- the content word counts the views that share the lock
  pub sharers : (s.core.frame f).sharers ≡ count_by (shares f) s.core.views
  -- if the exclusive bit is set, one view has the lock exclusively; if it isn't, none does
  pub exclusive : count_by (excludes f) s.core.views ≡ (if (s.core.frame f).exclusive then 1 else 0)
  -- if the exclusive bit is set, no view shares the lock
  pub apart : (s.core.frame f).exclusive ≡ true → count_by (shares f) s.core.views ≡ 0

-- A content lock that a view shares is counted, and each backend is counted once at most
pub record SharersAreFew (s : State) : Type 0 where
  -- if a view shares the lock of a frame, the count of sharers isn't 0
  pub counted : (i f : ℕ) (v : View) → get_elem? s.core.views i ≡ some v → f < s.core.frames
      → (link v f).content ≡ Shared → 0 < (s.core.frame f).sharers
  -- the count of sharers of a frame is at most the number of backends that there may be
  pub few : (f : ℕ) → f < s.core.frames → (s.core.frame f).sharers ≤ s.core.backends

-- if BM_IO_IN_PROGRESS is set, one view has the input or output right; if it isn't, none does
abbrev pub OneIo : State → ℕ → Type 0
OneIo s f
    = count_by (works_on f) s.core.views ≡ (if (s.core.frame f).word.in_progress then 1 else 0)

-- whether the view has the copy latch of the frame f
abbrev pub copies_at : ℕ → View → Bool
copies_at f v = (link v f).copying

-- The copy latch is one sharer's if the content word's copy bit is set, and nobody's if it isn't
pub record CopyLatches (s : State) (f : ℕ) : Type 0 where
  -- if the copy bit is set, one view has the copy latch; if it isn't, none does
  pub one : count_by (copies_at f) s.core.views ≡ (if (s.core.frame f).copying then 1 else 0)
  -- a view that has the copy latch shares the content lock
  pub sharer : (i : ℕ) (v : View) → get_elem? s.core.views i ≡ some v → (link v f).copying ≡ true
      → (link v f).content ≡ Shared

-- if a view has marked a frame dirty under its exclusive lock, it still has the lock, and BM_DIRTY
-- and BM_JUST_DIRTIED are set
abbrev pub DirtiedFramesAreDirty : State → Type 0
DirtiedFramesAreDirty s = (i f : ℕ) (v : View) → get_elem? s.core.views i ≡ some v
    → f < s.core.frames → (link v f).dirtied ≡ true
    → ((s.core.frame f).word.dirty ≡ true) × ((s.core.frame f).word.just_dirtied ≡ true)
    × ((link v f).content ≡ Exclusive)

-- What a lock or right of a view says of its pin and its frame
pub record RightsNeedPins (s : State) : Type 0 where
  -- a content lock needs a pin and a valid frame
  pub content : (i f : ℕ) (v : View) → get_elem? s.core.views i ≡ some v → f < s.core.frames
      → (link v f).content ≢ Unlocked
      → ((link v f).role ≢ Absent) × ((s.core.frame f).word.valid ≡ true)
  -- an input right needs a pin and a frame that isn't valid
  pub input : (i f : ℕ) (v : View) → get_elem? s.core.views i ≡ some v → f < s.core.frames
      → (link v f).io ≡ Input → ((link v f).role ≢ Absent) × ((s.core.frame f).word.valid ≡ false)
  -- an output right needs a pin, the content lock shared, and a dirty frame
  pub output : (i f : ℕ) (v : View) → get_elem? s.core.views i ≡ some v → f < s.core.frames
      → (link v f).io ≡ Output
      → ((link v f).role ≢ Absent) × ((link v f).content ≡ Shared)
      × ((s.core.frame f).word.dirty ≡ true)

-- the page of a frame is out with one view at most
abbrev pub OnePageOut : State → Type 0
OnePageOut s = (i j f : ℕ) (v u : View) → get_elem? s.core.views i ≡ some v
    → get_elem? s.core.views j ≡ some u → f < s.core.frames → (link v f).out ≢ None
    → (link u f).out ≢ None → i ≡ j

-- If a view may take the page of a frame out, and hasn't, no view has it out
pub record PagesAreHome (s : State) : Type 0 where
  -- if a view has the content lock exclusively, and doesn't have the page out, no view has the page
  -- out
  pub exclusive : (i j f : ℕ) (v u : View) → get_elem? s.core.views i ≡ some v
      → get_elem? s.core.views j ≡ some u → f < s.core.frames → (link v f).out ≡ None
      → (link v f).content ≡ Exclusive → (link u f).out ≡ None
  -- if a view has the copy latch, and doesn't have the page out, no view has the page out
  pub copying : (i j f : ℕ) (v u : View) → get_elem? s.core.views i ≡ some v
      → get_elem? s.core.views j ≡ some u → f < s.core.frames → (link v f).out ≡ None
      → (link v f).copying ≡ true → (link u f).out ≡ None
  -- if a view has the input right, and doesn't have the page out, no view has the page out
  pub input : (i j f : ℕ) (v u : View) → get_elem? s.core.views i ≡ some v
      → get_elem? s.core.views j ≡ some u → f < s.core.frames → (link v f).out ≡ None
      → (link v f).io ≡ Input → (link u f).out ≡ None

-- a view with an entry to apply notes the entry's image, which is the block's page after the log
abbrev pub ImagesAreLogged : State → Type 0
ImagesAreLogged s = (i f : ℕ) (v : View) → get_elem? s.core.views i ≡ some v → f < s.core.frames
    → (link v f).unapplied ≡ true
    → (p : Page) × ((link v f).image ≡ Some p) × (s.logged (s.core.frame f).tag ≡ Some p)

-- no view has an entry to apply to the frame's page
abbrev pub NoneUnapplied : State → ℕ → Type 0
NoneUnapplied s f = (i : ℕ) (v : View) → get_elem? s.core.views i ≡ some v
    → (link v f).unapplied ≡ false

-- the page of a valid frame is its block's page after the log, if that is known, unless a view has
-- an entry to apply there
abbrev pub FramesHoldPages : State → Type 0
FramesHoldPages s = (f : ℕ) (p : Page) → f < s.core.frames → HasTag (s.core.frame f)
    → (s.core.frame f).word.valid ≡ true → NoneUnapplied s f
    → s.logged (s.core.frame f).tag ≡ Some p → (s.core.frame f).page ≡ p

-- the page of a valid frame is sound
abbrev pub ValidPagesAreSound : State → Type 0
ValidPagesAreSound s = (f : ℕ) → f < s.core.frames → (s.core.frame f).word.valid ≡ true
    → is_sound_page (s.core.frame f).page ≡ true

-- A new block isn't there yet. The frame's page, once it is valid, and a page noted as read there
-- are all zero. Only the view that notes the block has an input right there
pub record NewBlocksAreZero (s : State) : Type 0 where
  -- a new block isn't there: it isn't below its fork's size by the log
  pub outside : (i f : ℕ) (v : View) → get_elem? s.core.views i ≡ some v → f < s.core.frames
      → (link v f).noted ≡ true → is_block s.core (s.core.frame f).tag ≡ false
  -- once a frame with a new block is valid, its page is all zero
  pub page : (i f : ℕ) (v : View) → get_elem? s.core.views i ≡ some v → f < s.core.frames
      → (link v f).noted ≡ true → (s.core.frame f).word.valid ≡ true
      → (s.core.frame f).page ≡ zero_page
  -- a page that the view which notes a new block notes as read there is all zero
  pub read : (i f : ℕ) (v : View) (p : Page) → get_elem? s.core.views i ≡ some v → f < s.core.frames
      → (link v f).noted ≡ true → (link v f).read ≡ Some p → p ≡ zero_page
  -- only the view that notes a new block has an input right there
  pub alone : (i j f : ℕ) (v u : View) → get_elem? s.core.views i ≡ some v
      → get_elem? s.core.views j ≡ some u → f < s.core.frames → (link v f).noted ≡ true
      → (link u f).io ≡ Input → j ≡ i

-- A page that a view has copied under its content lock, or that the lane gave under its input
-- right, is the block's page after the log, if that is known
pub record CopiesArePages (s : State) : Type 0 where
  -- a page that a view has copied under its content lock is still the frame's page
  pub home : (i f : ℕ) (v : View) (p : Page) → get_elem? s.core.views i ≡ some v → f < s.core.frames
      → (link v f).copied ≡ Some p → (s.core.frame f).page ≡ p
  -- a page that a view has copied under its content lock is the block's page after the log, if that
  -- is known
  pub copied : (i f : ℕ) (v : View) (p q : Page) → get_elem? s.core.views i ≡ some v
      → f < s.core.frames → (link v f).copied ≡ Some p → s.logged (s.core.frame f).tag ≡ Some q
      → q ≡ p
  -- a page that the lane gave under an input right is the block's page after the log, if that is
  -- known
  pub read : (i f : ℕ) (v : View) (p q : Page) → get_elem? s.core.views i ≡ some v
      → f < s.core.frames → (link v f).read ≡ Some p → s.logged (s.core.frame f).tag ≡ Some q
      → q ≡ p

-- A backend of this number pins the frame f, and waits there under its number
pub record IsAwaitedBy (s : State) (f number : ℕ) : Type 0 where
  -- the backend, by its place among the views
  pub backend : ℕ
  -- the backend's view
  pub view : View
  -- the view is the one at that place
  pub there : get_elem? s.core.views backend ≡ some view
  -- the view has the number
  pub named : view.number ≡ number
  -- the backend pins the frame
  pub pinned : (link view f).role ≢ Absent
  -- the backend waits there under the number
  pub waiting : (link view f).waits ≡ Some number

-- If BM_PIN_COUNT_WAITER is set, the waiter's number is that of a backend that pins the frame and
-- waits there; if it isn't, that number is 0
pub record WaitersAreNamed (s : State) (f : ℕ) : Type 0 where
  -- if BM_PIN_COUNT_WAITER is set, a backend with the waiter's number pins the frame and waits
  -- there
  pub awaited : (s.core.frame f).word.awaited ≡ true → IsAwaitedBy s f (s.core.frame f).word.waiter
  -- if BM_PIN_COUNT_WAITER is clear, the waiter's number is 0
  pub unawaited : (s.core.frame f).word.awaited ≡ false → (s.core.frame f).word.waiter ≡ 0

-- A backend waits under its own number, and at one frame at most
pub record BackendsWaitOnce (s : State) : Type 0 where
  -- a backend waits under its own number
  pub own : (i f number : ℕ) (v : View) → get_elem? s.core.views i ≡ some v
      → (link v f).waits ≡ Some number → number ≡ v.number
  -- a backend waits at one frame at most
  pub one : (i f g : ℕ) (v : View) → get_elem? s.core.views i ≡ some v → (link v f).waits ≢ None
      → (link v g).waits ≢ None → f ≡ g

-- What a backend that asks for a cleanup lock may conclude (`LockBufferForCleanup`)
pub record CleanupIsAlone (s : State) (f : ℕ) : Type 0 where
  -- if the reference count is 1, and a backend pins the frame, no other one does
  pub pins : (i j : ℕ) (v u : View) → get_elem? s.core.views i ≡ some v
      → get_elem? s.core.views j ≡ some u → i ≢ j → (s.core.frame f).word.pins ≡ 1
      → (link v f).role ≢ Absent → (link u f).role ≡ Absent
  -- if a backend has the content lock exclusively, no other one has it, exclusively or shared
  pub locks : (i j : ℕ) (v u : View) → get_elem? s.core.views i ≡ some v
      → get_elem? s.core.views j ≡ some u → i ≢ j → (link v f).content ≡ Exclusive
      → (link u f).content ≡ Unlocked
