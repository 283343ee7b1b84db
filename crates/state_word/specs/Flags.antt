-- The flags of a state word one at a time.
use Rattle.std.specs.Prelude.{ℕ, Bool}
use Rattle.state_word.specs.declared.word.StateWord.{StateWord}
use Rattle.state_word.specs.declared.word.Flag.{Flag}
use Rattle.state_word.specs.declared.word.Flag.TheVariants.{Locked, Dirty, Valid, TagValid}
use Rattle.state_word.specs.declared.word.Flag.TheVariants.{IoInProgress, IoError, JustDirtied}
use Rattle.state_word.specs.declared.word.Flag.TheVariants.{PinCountWaiter, CheckpointNeeded}
use Rattle.state_word.specs.declared.word.Flag.TheVariants.{Permanent}

-- the place of a flag's bit in the word
abbrev pub bit_place : Flag → ℕ
bit_place Locked = 22
bit_place Dirty = 23
bit_place Valid = 24
bit_place TagValid = 25
bit_place IoInProgress = 26
bit_place IoError = 27
bit_place JustDirtied = 28
bit_place PinCountWaiter = 29
bit_place CheckpointNeeded = 30
bit_place Permanent = 31

-- the word with this flag set or cleared
abbrev pub with_flag : Flag → Bool → StateWord → StateWord
with_flag Locked b s = record s { locked = b }
with_flag Dirty b s = record s { dirty = b }
with_flag Valid b s = record s { valid = b }
with_flag TagValid b s = record s { tag_valid = b }
with_flag IoInProgress b s = record s { in_progress = b }
with_flag IoError b s = record s { failed = b }
with_flag JustDirtied b s = record s { just_dirtied = b }
with_flag PinCountWaiter b s = record s { awaited = b }
with_flag CheckpointNeeded b s = record s { checkpoint_needed = b }
with_flag Permanent b s = record s { permanent = b }
