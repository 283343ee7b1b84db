-- What follows the log's bytes on its device: the first bytes of a record that isn't part of the
-- log, or nothing.
use Rattle.std.specs.Prelude.{◌≡◌, ◌≢◌, ℕ, ◌≤◌, Bool, List, [], ◌++◌, length, None}
use mathlib.Core.Option.{some}
use lib.ListN.{get_elem?}
use Rattle.pin_core.specs.declared.view.View.{View}
use Rattle.history_core.specs.Log.{Entry, IsChange, MayMake, end_of, record_size, record_bytes}
use Rattle.history_core.specs.Log.{log_bytes}
use Rattle.history_core.specs.State.{State}
use Rattle.history_core.specs.Redo.{CanFollow}
use Rattle.history_core.specs.TornRecords.{NotesTorn}

-- no view has appended a record that isn't part of the log yet
abbrev pub NoneAppended : State → Type 0
NoneAppended s = (i : ℕ) (v : View) → get_elem? s.pool.core.views i ≡ some v → v.log.appended ≡ None

-- The bytes are the first of the record of an entry that starts at the position `end`: none, some
-- or all of them. `ranges` says whether the entry may be of ranges, and `names` is how the log
-- names a block
pub record BeginsRecord (ranges : Bool) (names : ℕ → List ℕ) (end : ℕ)
    (bytes : List ℕ) : Type 0 where
  -- the entry whose record the bytes begin
  pub entry : Entry
  -- the entry starts at the position `end`
  pub starts : entry.start ≡ end
  -- the entry's change is one that an entry may have there
  pub valid : IsChange (end_of entry) entry.change
  -- an entry of this kind may be made
  pub allowed : MayMake ranges entry.change
  -- the bytes of the record that are missing
  pub more : List ℕ
  -- with the missing bytes the bytes are the record
  pub begins : bytes ++ more ≡ record_bytes names entry

-- After the log's bytes the device has nothing, or the first bytes of a record that would be the
-- next. So a crash finds no more than that, and if the record is whole it could have been entered
pub record HasRest (s : State) : Type 0 where
  -- what follows the log's bytes
  pub rest : List ℕ
  -- the device has the log's bytes, and then the rest
  pub is_bytes : s.device.bytes ≡ log_bytes s.names s.log ++ rest
  -- if there is a rest, it begins a record that would be the next
  pub begins : rest ≢ [] → BeginsRecord s.ranges s.names s.end rest
  -- redo can do the entry that the rest begins, after those of the log: if it is of ranges, no
  -- sound page was past the base at the start and the lane's contents are known, the log has a
  -- whole page of the block
  pub follows : (some : rest ≢ []) → CanFollow s (begins some).entry.change
  -- once the log is down, a rest begins a record that a backend failed to append
  pub torn : (some : rest ≢ []) → s.device.down ≢ None
      → NotesTorn s.pool.core.views (begins some).entry.change
  -- the rest is no longer than the record of a page
  pub short : length rest ≤ record_size

-- The law of the device's bytes
pub record RestLaw (s : State) : Type 0 where
  -- after the log's bytes the device has nothing, or the first bytes of a record that would be the
  -- next
  pub behind : HasRest s
  -- unless a record is appended that isn't part of the log, or the log is down, nothing follows the
  -- log's bytes
  pub none : NoneAppended s → s.device.down ≡ None → behind.rest ≡ []
