-- Frames that were marked dirty with no entry made, and what else a dirty frame or a written block
-- implies.
use Rattle.std.specs.Prelude.{◌≡◌, ◌⊎◌, ℕ, ◌<◌, ◌≤◌, true, false, List}
use mathlib.Core.Option.{some}
use lib.ListN.{get_elem?}
use Rattle.pin_core.specs.declared.view.Content.TheVariants.{Exclusive}
use Rattle.pin_core.specs.declared.view.Link.{Link}
use Rattle.pin_core.specs.declared.view.View.{View}
use Rattle.pin_core.specs.State.{link}
use Rattle.history_core.specs.Log.{Entry, IsEntryOf, end_of}
use Rattle.history_core.specs.State.{State, failed, unsynced}

-- one of the entries is of the block of a tag
abbrev pub IsEntered : List Entry → ℕ → Type 0
IsEntered es tag = (k : ℕ) × (e : Entry) × IsEntryOf es tag k e

-- one of the entries is of the block of a tag, and ends at the flushed position or before it
abbrev pub IsFlushedEntered : List Entry → ℕ → ℕ → Type 0
IsFlushedEntered es flushed tag = (k : ℕ) × (e : Entry) × IsEntryOf es tag k e
    × (end_of e ≤ flushed)

-- a view notes the block among those whose frame it had marked dirty under an exclusive lock that
-- it gave up with no entry made
abbrev pub NotesUnentered : List View → ℕ → Type 0
NotesUnentered views tag = (i k : ℕ) × (v : View) × (get_elem? views i ≡ some v)
    × (get_elem? v.unentered k ≡ some tag)

-- some backend gave up an exclusive lock of the block's frame, which it had marked dirty, and made
-- no entry under it (as after a put that was refused).
-- A refused put leaves its frame dirty: the page is written, and no entry brings it back if a crash
-- tears it. The note is made as the lock is given up, so `crashes` excepts no other block.
abbrev pub IsUnentered : State → ℕ → Type 0
IsUnentered s tag = NotesUnentered s.pool.core.views tag

-- A view has the exclusive lock, has marked the frame dirty under it, and made no entry yet
pub record HoldsUnentered (l : Link) : Type 0 where
  -- the backend has the content lock exclusively
  pub right : l.content ≡ Exclusive
  -- the backend marked the frame dirty under this lock
  pub dirtied : l.dirtied ≡ true
  -- the backend has made no entry under this lock yet
  pub unentered : l.entered ≡ false

-- some view has the exclusive lock of the frame f, has marked the frame dirty under it, and made no
-- entry yet
abbrev pub IsHeldUnentered : List View → ℕ → Type 0
IsHeldUnentered views f = (i : ℕ) × (v : View) × (get_elem? views i ≡ some v)
    × HoldsUnentered (link v f)

-- A dirty frame's block has an entry in the log, or a backend marked its frame dirty and made none,
-- or has the frame's exclusive lock still
abbrev pub DirtyHaveEntries : State → Type 0
DirtyHaveEntries s = (f : ℕ) → f < s.pool.core.frames → (s.pool.core.frame f).word.dirty ≡ true
    → IsEntered s.log.entries (s.pool.core.frame f).tag
    ⊎ (IsUnentered s (s.pool.core.frame f).tag ⊎ IsHeldUnentered s.pool.core.views f)

-- What holds of blocks that were written
pub record WrittenHaveEntries (s : State) : Type 0 where
  -- a block that was written since its lane's last sync has an entry that is flushed, or a backend
  -- marked its frame dirty and made none, or it was unsynced at the start already
  pub of_unsynced : (tag : ℕ) → unsynced s tag ≡ true
      → IsFlushedEntered s.log.entries s.flushed tag
      ⊎ (IsUnentered s tag ⊎ (s.unsynced_at_start tag ≡ true))
  -- a block whose last write failed has an entry that is flushed, or a backend marked its frame
  -- dirty and made none
  pub of_failed : (tag : ℕ) → failed s tag ≡ true
      → IsFlushedEntered s.log.entries s.flushed tag ⊎ IsUnentered s tag
