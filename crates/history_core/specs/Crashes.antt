-- What a crash leaves of the lanes and of the log, and what redo makes of it.
-- A crash is no step: `Crashed` says what one may leave of a state. Which blocks it may tear
-- follows from the lanes' own lists of unsynced blocks, which are kept whether or not contents are
-- known.
use Rattle.std.specs.Prelude.{◌≡◌, ℕ, ◌<◌, ◌⊎◌, true, false, List, [], ◌∷◌, ◌++◌, length, Option}
use mathlib.Core.Option.{some}
use lib.ListN.{get_elem?}
use Rattle.pin_core.specs.State.{Page, is_block}
use Rattle.history_core.specs.Log.{Entry, ranges, Span, IsChange, IsEntryOf, end_of, cell}
use Rattle.history_core.specs.Log.{change_size, log_bytes}
use Rattle.history_core.specs.State.{State, stored, failed, unsynced}
use Rattle.history_core.specs.Redo.{CanFollow, HasWholePage, StartsAtBase}
use Rattle.history_core.specs.Unentered.{IsUnentered}

-- The entries that survive a crash: the first ones of the log, with all that end at the flushed
-- position or before it; or all of them and one more, as long as what the device has after the
-- log's bytes, which redo can do after them
pub data Survives (s : State) : List Entry → Type 0 where
  first : (es rest : List Entry) → s.log.entries ≡ es ++ rest
      → ((k : ℕ) (e : Entry) → get_elem? rest k ≡ some e → s.flushed < end_of e) → Survives s es
  one_more : (e : Entry) (rest : List ℕ) → s.device.bytes ≡ log_bytes s.names s.log ++ rest
      → length rest ≡ change_size e.change → e.start ≡ s.end → IsChange (end_of e) e.change
      → CanFollow s e.change → Survives s (s.log.entries ++ e ∷ [])

-- What a crash may leave: the pages that the lanes hold, by their tags, and the entries
pub record Crashed (s : State) (pages : ℕ → Option Page) (es : List Entry) : Type 0 where
  -- a block that was not written since its lane's last sync is as it was; any other may hold any
  -- bytes, or be gone
  pub stays : (tag : ℕ) → unsynced s tag ≡ false → pages tag ≡ stored s tag
  -- the entries are the first ones of the log, with all that are flushed; or all of them and one
  -- more, as long as what the device has after the log's bytes
  pub log : Survives s es

-- No entry of the block survives, and it was written since its lane's last sync, or its last write
-- failed
pub record IsExcepted (s : State) (es : List Entry) (tag : ℕ) : Type 0 where
  -- no entry that survives is of the block
  pub none : (k : ℕ) (e : Entry) → IsEntryOf es tag k e → ⊥
  -- the block was written since its lane's last sync, or its last write failed
  pub lost : (unsynced s tag ≡ true) ⊎ (failed s tag ≡ true)

-- if an entry changes bytes of the block's page, no sound page had a position past the log's base
-- at the start. It says nothing of a block with whole pages alone, or with no entry
abbrev pub RangesStartAtBase : State → List Entry → ℕ → Type 0
RangesStartAtBase s es tag = (k : ℕ) (e : Entry) (spans : List Span) → get_elem? es k ≡ some e
    → e.change ≡ ranges tag spans → StartsAtBase s

-- the block had been synced when the table was opened over its lane
abbrev pub StartsSynced : State → ℕ → Type 0
StartsSynced s tag = s.unsynced_at_start tag ≡ false

-- What redo needs of a block: one of the entries has its whole page; or the block is there, the
-- contents of its lane are known, it had been synced when the table was opened over the lane, and
-- if an entry changes bytes of it, no sound page had a position past the log's base at the start
abbrev pub CanRedo : State → List Entry → ℕ → Type 0
CanRedo s es tag = HasWholePage es tag
    ⊎ ((is_block s.pool.core tag ≡ true) × (s.known tag ≡ true) × StartsSynced s tag
    × RangesStartAtBase s es tag)

-- What redo makes of a block: the page that the surviving entries make of the one at the start.
-- Excepted are only blocks whose frame a backend marked dirty with no entry made
abbrev pub RedoGives : State → (ℕ → Option Page) → List Entry → ℕ → Type 0
RedoGives s pages es tag = (cell pages es tag ≡ cell s.origin es tag)
    ⊎ (IsExcepted s es tag × IsUnentered s tag)

-- Redo makes each surviving entry's change, in order, on the pages that a crash left, whatever
-- these pages' own positions are
abbrev pub CrashesRedo : State → Type 0
CrashesRedo s = (pages : ℕ → Option Page) (es : List Entry) → Crashed s pages es → (tag : ℕ)
    → CanRedo s es tag → RedoGives s pages es tag
