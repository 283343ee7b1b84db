-- The redo position (`RedoRecPtr`): where it stood, and why redo finds a whole page of each block
-- that has entries of ranges.
use Rattle.std.specs.Prelude.{◌≡◌, ◌⊎◌, ℕ, ◌+◌, ◌<◌, ◌≤◌, true, List, Some}
use mathlib.Core.Option.{some}
use lib.ListN.{get_elem?}
use Rattle.page_layout.specs.Fields.{lsn_of}
use Rattle.page_layout.specs.Soundness.{is_sound_page}
use Rattle.pin_core.specs.declared.view.Call.{Call}
use Rattle.pin_core.specs.declared.view.Call.TheVariants.{Read, Write, Size, Sized}
use Rattle.pin_core.specs.declared.view.ImageTest.{ImageTest}
use Rattle.pin_core.specs.declared.view.View.{View}
use Rattle.pin_core.specs.State.{Page}
use Rattle.history_core.specs.Log.{Entry, Change, Span, image, ranges, resize, end_of}
use Rattle.history_core.specs.State.{State}

-- some view raised the redo position to this one
abbrev pub IsRaised : List View → ℕ → Type 0
IsRaised views r = (i k : ℕ) × (v : View) × (get_elem? views i ≡ some v)
    × (get_elem? v.redo_raised k ≡ some r)

-- the redo position stood there: where the log begins, or where a view raised it to
abbrev pub HasBeenRedo : State → ℕ → Type 0
HasBeenRedo s r = (r ≡ s.log.base) ⊎ IsRaised s.pool.core.views r

-- at the start no sound page had a position past the log's base, as far as the lanes' contents
-- are known
abbrev pub StartsAtBase : State → Type 0
StartsAtBase s = (tag : ℕ) (p : Page) → s.known tag ≡ true → s.origin tag ≡ Some p
    → is_sound_page p ≡ true
    → lsn_of p ≤ s.log.base

-- one of the entries has the whole page of the block
abbrev pub HasWholePage : List Entry → ℕ → Type 0
HasWholePage es tag = (k : ℕ) × (e : Entry) × (p : Page) × (get_elem? es k ≡ some e)
    × (e.change ≡ image tag p)

-- Before the entry k there is an entry of the block's whole page that starts at r or after it
pub record FollowsImage (es : List Entry) (tag r k : ℕ) : Type 0 where
  -- the number of the whole page's entry
  pub index : ℕ
  -- the whole page's entry
  pub entry : Entry
  -- the whole page
  pub page : Page
  -- the log has the entry at this number
  pub there : get_elem? es index ≡ some entry
  -- the entry is the block's whole page
  pub is : entry.change ≡ image tag page
  -- the entry starts at r or after it
  pub from : r ≤ entry.start
  -- the entry comes before the entry k
  pub before : index < k

-- What redo needs of the next entry: before ranges the log has a whole page of their block, if at
-- the start no sound page was past the log's base and the contents of the block's lane are known.
-- No entry resizes a fork yet
abbrev pub CanFollow : State → Change → Type 0
CanFollow s (image t q) = Unit {0}
CanFollow s (ranges t spans) = StartsAtBase s → s.known t ≡ true → HasWholePage s.log.entries t
CanFollow s (resize fork old new) = ⊥

-- The redo position is the log's base, or the largest to which a view raised it
pub record IsHighestRaised (base redo : ℕ) (views : List View) : Type 0 where
  -- the redo position is the log's base or after it
  pub from : base ≤ redo
  -- no view raised the redo position beyond where it stands
  pub above : (r : ℕ) → IsRaised views r → r ≤ redo
  -- the redo position is the log's base, or a view raised it there
  pub reached : (redo ≡ base) ⊎ IsRaised views redo

-- if a write's record was tested, the redo position of the test had stood, and is at the record's
-- start or before it
abbrev pub ChosenBy : State → Call → Type 0
ChosenBy s (Read backend tag page place) = Unit {0}
ChosenBy s (Size backend fork blocks place) = Unit {0}
ChosenBy s (Sized backend fork blocks place) = Unit {0}
ChosenBy s (Write backend tag page place logged) = (t : ImageTest) → logged.test ≡ Some t
    → HasBeenRedo s t.redo × (t.redo + logged.size ≤ place)

-- full page writes: if at the start no sound page had a position past the log's base, each entry
-- of ranges that starts at a redo position or after it follows an entry of its block's whole page
-- that does too, if the contents of the block's lane are known
abbrev pub RangesFollowImages : State → Type 0
RangesFollowImages s = StartsAtBase s → (tag r k : ℕ) (e : Entry) (spans : List Span)
    → HasBeenRedo s r → get_elem? s.log.entries k ≡ some e → e.change ≡ ranges tag spans
    → s.known tag ≡ true → r ≤ e.start
    → FollowsImage s.log.entries tag r k

-- if a write's record was tested, the redo position of the test had stood before the record was
-- made
abbrev pub TestsStood : State → Type 0
TestsStood s = (i k : ℕ) (v : View) (c : Call) → get_elem? s.pool.core.views i ≡ some v
    → get_elem? v.calls k ≡ some c
    → ChosenBy s c

-- The law of the redo position
pub record RedoLaw (s : State) : Type 0 where
  -- a redo position that a backend has loaded under the log's latch, and not raised since, is the
  -- one that stands
  pub loaded : (i : ℕ) (v : View) (r : ℕ) → get_elem? s.pool.core.views i ≡ some v
      → v.log.redo ≡ Some r
      → r ≡ s.redo
  -- the redo position is the log's end or before it
  pub within : s.redo ≤ s.end
  -- the redo position is the log's base, or the largest to which a view raised it
  pub highest : IsHighestRaised s.log.base s.redo s.pool.core.views
  -- no entry lies across a position where the redo position has stood
  pub between : (r : ℕ) → HasBeenRedo s r → (k : ℕ) (e : Entry) → get_elem? s.log.entries k ≡ some e
      → (end_of e ≤ r) ⊎ (r ≤ e.start)
  -- an entry of ranges that starts where the redo position has stood, or after it, follows a whole
  -- page of its block that does too, if at the start no sound page was past the log's base and the
  -- contents of the block's lane are known
  pub follows : RangesFollowImages s
  -- if a write's record was tested, the redo position of the test had stood before the record was
  -- made
  pub chosen : TestsStood s
