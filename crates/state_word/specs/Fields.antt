-- A state word by its fields, and what each change of the word makes of them.
use Rattle.std.specs.Prelude.{ℕ, ◌+◌, ◌-◌, ◌/◌, ◌%◌, ◌^◌, Bool, true, false, ◌==◌, ◌&&◌}
use Rattle.std.specs.Prelude.{if◌then◌else◌, nat_lt}
use Rattle.state_word.specs.declared.word.StateWord.{StateWord}
use Rattle.state_word.specs.declared.word.Flag.{Flag}
use Rattle.state_word.specs.declared.word.Flag.TheVariants.{Locked, Dirty, Valid, TagValid}
use Rattle.state_word.specs.declared.word.Flag.TheVariants.{IoInProgress, IoError, JustDirtied}
use Rattle.state_word.specs.declared.word.Flag.TheVariants.{PinCountWaiter, CheckpointNeeded}
use Rattle.state_word.specs.declared.word.Flag.TheVariants.{Permanent}
use Rattle.state_word.specs.declared.word.IoEnd.{IoEnd}
use Rattle.state_word.specs.declared.word.IoEnd.TheVariants.{ReadOk, WriteOk, Bad}

-- whether the bit at a place of the word is set, the lowest bit being at place 0
abbrev pub bit : ℕ → ℕ → Bool
bit place w = (w / 2 ^ place % 2) == 1

-- The fields of a word. Bits 0 to 31 are those of `buf_internals.h`: 18 bits of reference count, 4
-- bits of usage count and 10 flags. The high half, the number of the backend that waits, is this
-- project's.
unfoldable pub fields : ℕ → StateWord
fields w = record {
  pins = w % 2 ^ 18;
  usage = w / 2 ^ 18 % 2 ^ 4;
  locked = bit 22 w;
  dirty = bit 23 w;
  valid = bit 24 w;
  tag_valid = bit 25 w;
  in_progress = bit 26 w;
  failed = bit 27 w;
  just_dirtied = bit 28 w;
  awaited = bit 29 w;
  checkpoint_needed = bit 30 w;
  permanent = bit 31 w;
  waiter = w / 2 ^ 32;
}

-- the field that a flag names
abbrev pub flag_of : Flag → StateWord → Bool
flag_of Locked s = s.locked
flag_of Dirty s = s.dirty
flag_of Valid s = s.valid
flag_of TagValid s = s.tag_valid
flag_of IoInProgress s = s.in_progress
flag_of IoError s = s.failed
flag_of JustDirtied s = s.just_dirtied
flag_of PinCountWaiter s = s.awaited
flag_of CheckpointNeeded s = s.checkpoint_needed
flag_of Permanent s = s.permanent

-- the usage count below which a pin raises it: a pin for a ring raises it from 0 alone, another one
-- up to 5
abbrev pub usage_limit : Bool → ℕ
usage_limit ring = if ring then 1 else 5

-- the usage count after a pin
abbrev pub raised_usage : Bool → ℕ → ℕ
raised_usage ring usage = if nat_lt usage (usage_limit ring) then usage + 1 else usage

-- one more pin (`PinBuffer`)
abbrev pub pinned_fields : Bool → StateWord → StateWord
pinned_fields ring s = record s { pins = s.pins + 1; usage = raised_usage ring s.usage }

-- one pin less (`UnpinBuffer`)
abbrev pub unpinned_fields : StateWord → StateWord
unpinned_fields s = record s { pins = s.pins - 1 }

-- the header locked (`LockBufHdr`)
abbrev pub locked_fields : StateWord → StateWord
locked_fields s = record s { locked = true }

-- the header not locked (`UnlockBufHdr`)
abbrev pub unlocked_fields : StateWord → StateWord
unlocked_fields s = record s { locked = false }

-- a read or a write of the page begins (`StartBufferIO`)
abbrev pub io_started_fields : StateWord → StateWord
io_started_fields s = record s { in_progress = true }

-- after a good write the page is dirty, and the checkpoint has still to write it, only if it was
-- dirtied again since the write began
abbrev pub written_fields : StateWord → StateWord
written_fields s =
    record s {
      dirty = s.just_dirtied && s.dirty;
      checkpoint_needed = s.just_dirtied && s.checkpoint_needed;
    }

-- the read or write of the page ends (`TerminateBufferIO`)
abbrev pub io_ended_fields : IoEnd → StateWord → StateWord
io_ended_fields ReadOk s = record s { in_progress = false; failed = false; valid = true }
io_ended_fields WriteOk s = record (written_fields s) { in_progress = false; failed = false }
io_ended_fields Bad s = record s { in_progress = false; failed = true }

-- the page is changed (`MarkBufferDirty`)
abbrev pub dirtied_fields : StateWord → StateWord
dirtied_fields s = record s { dirty = true; just_dirtied = true }

-- the frame is given a block of a permanent relation (`BufferAlloc`)
abbrev pub assigned_fields : StateWord → StateWord
assigned_fields s = record s { tag_valid = true; permanent = true; usage = 1 }

-- the frame has no block any more (`InvalidateVictimBuffer`): what is left is its pins, its header
-- lock and its waiter
abbrev pub cleared_fields : StateWord → StateWord
cleared_fields s = record {
  pins = s.pins;
  usage = 0;
  locked = s.locked;
  dirty = false;
  valid = false;
  tag_valid = false;
  in_progress = false;
  failed = false;
  just_dirtied = false;
  awaited = s.awaited;
  checkpoint_needed = false;
  permanent = false;
  waiter = s.waiter;
}

-- the backend of this number waits until its pin is the only one (`LockBufferForCleanup`)
abbrev pub waiter_set_fields : ℕ → StateWord → StateWord
waiter_set_fields number s = record s { awaited = true; waiter = number }

-- no backend waits (`UnpinBuffer`, if it wakes the waiter)
abbrev pub waiter_cleared_fields : StateWord → StateWord
waiter_cleared_fields s = record s { awaited = false; waiter = 0 }

-- the clock sweep passes the frame (`StrategyGetBuffer`)
abbrev pub usage_down_fields : StateWord → StateWord
usage_down_fields s = record s { usage = s.usage - 1 }

-- the write of the page begins, and no change of it came since (`FlushBuffer`)
abbrev pub just_dirtied_cleared_fields : StateWord → StateWord
just_dirtied_cleared_fields s = record s { just_dirtied = false }

-- the checkpoint that begins has to write the page (`BufferSync`)
abbrev pub checkpoint_needed_fields : StateWord → StateWord
checkpoint_needed_fields s = record s { checkpoint_needed = true }
