-- Blocks whose pages were sound at the start: no other block is read or written.
use Rattle.std.specs.Prelude.{◌≡◌, ◌≢◌, ◌⊎◌, ℕ, ◌<◌, true, false, Some, None}
use mathlib.Core.Option.{some}
use lib.ListN.{get_elem?}
use Rattle.page_layout.specs.Soundness.{is_sound_page}
use Rattle.pin_core.specs.declared.view.Call.{Call}
use Rattle.pin_core.specs.declared.view.View.{View}
use Rattle.pin_core.specs.State.{Page, no_tag, link}
use Rattle.history_core.specs.Log.{Entry, IsEntryOf, cell, cut, read_or_written}
use Rattle.history_core.specs.State.{State, stored, failed}

-- the page that the block's lane held at the start is sound, if the lane's contents are known
abbrev pub WasSound : State → ℕ → Type 0
WasSound s tag = (p : Page) → s.known tag ≡ true → s.origin tag ≡ Some p → is_sound_page p ≡ true

-- Entries and calls are of blocks whose pages were sound at the start, if the contents of their
-- lanes are known
pub record SoundLaw (s : State) : Type 0 where
  -- a block that has an entry was sound at the start, if the contents of its lane are known
  pub entries : (k tag : ℕ) (e : Entry) → IsEntryOf s.log.entries tag k e → WasSound s tag
  -- a block that was read or put was sound at the start, if the contents of its lane are known
  pub calls : (i k tag : ℕ) (v : View) (c : Call) → get_elem? s.pool.core.views i ≡ some v
      → get_elem? v.calls k ≡ some c → read_or_written c ≡ Some tag
      → WasSound s tag

-- What shows that a block's page was sound at the start, if the contents of its lane are known
pub record ShowsSound (s : State) : Type 0 where
  -- a block was sound at the start if a pin remembers it and has seen BM_VALID
  pub seen : (i f tag : ℕ) (v : View) → get_elem? s.pool.core.views i ≡ some v
      → f < s.pool.core.frames → (link v f).tag ≡ Some tag → (link v f).seen_valid ≡ true
      → WasSound s tag
  -- a block was sound at the start if a backend has copied its page under a content lock, and the
  -- pin remembers the block
  pub copied : (i f tag : ℕ) (v : View) → get_elem? s.pool.core.views i ≡ some v
      → f < s.pool.core.frames → (link v f).tag ≡ Some tag → (link v f).copied ≢ None
      → WasSound s tag
  -- a block that was read or put was sound at the start
  pub called : (i k tag : ℕ) (v : View) (c : Call) → get_elem? s.pool.core.views i ≡ some v
      → get_elem? v.calls k ≡ some c → read_or_written c ≡ Some tag
      → WasSound s tag

-- A block that is as it was at the start
pub record IsUntouched (s : State) (tag : ℕ) : Type 0 where
  -- the block has no entry
  pub unentered : (k : ℕ) (e : Entry) → IsEntryOf s.log.entries tag k e → ⊥
  -- the block's page after all entries is the one that its lane held at the start
  pub is_cell : cell s.origin s.log.entries tag ≡ s.origin tag
  -- no valid frame has the block
  pub invalid : (f : ℕ) → f < s.pool.core.frames → (s.pool.core.frame f).tag ≡ tag
      → (s.pool.core.frame f).word.valid ≡ false
  -- the block's last write didn't fail
  pub done : failed s tag ≡ false
  -- the block's lane holds the page that it held at the start
  pub stored_is : stored s tag ≡ s.origin tag

-- a block whose page wasn't sound at the start is as it was, if the contents of its lane are known
abbrev pub UnsoundStay : State → Type 0
UnsoundStay s = (tag : ℕ) (p : Page) → tag ≢ no_tag → s.known tag ≡ true → s.origin tag ≡ Some p
    → is_sound_page p ≡ false
    → IsUntouched s tag

-- A page that isn't sound is the one that the block's lane held at the start
pub record UnsoundAreFirst (s : State) : Type 0 where
  -- an unsound page of a block after the entries up to a place is that of the start, if the
  -- contents of the block's lane are known or no entry may be made of ranges
  pub cells : (tag place : ℕ) (p : Page) → (s.known tag ≡ true) ⊎ (s.ranges ≡ false)
      → cell s.origin (cut place s.log.entries) tag ≡ Some p → is_sound_page p ≡ false
      → s.origin tag ≡ Some p
  -- an unsound page of a block after all entries is that of the start, if the contents of the
  -- block's lane are known or no entry may be made of ranges
  pub last_cells : (tag : ℕ) (p : Page) → (s.known tag ≡ true) ⊎ (s.ranges ≡ false)
      → cell s.origin s.log.entries tag ≡ Some p → is_sound_page p ≡ false
      → s.origin tag ≡ Some p
  -- an unsound page that the lane gave under an input right that a backend has still is that of the
  -- start, if the lane's contents are known
  pub reads : (i f : ℕ) (v : View) (p : Page) → get_elem? s.pool.core.views i ≡ some v
      → f < s.pool.core.frames → (link v f).read ≡ Some p → is_sound_page p ≡ false
      → s.known (s.pool.core.frame f).tag ≡ true
      → s.origin (s.pool.core.frame f).tag ≡ Some p
