-- What the calls at content words, and the calls that give a header up with a new word, ask of a
-- view, and what they leave of it.
use Rattle.std.specs.Prelude.{◌≡◌, ◌≢◌, ℕ, Bool, true, false, None, Some}
use Rattle.state_word.specs.declared.word.IoEnd.{IoEnd}
use Rattle.state_word.specs.Fields.{fields, bit}
use Rattle.pin_core.specs.declared.view.Link.{Link}
use Rattle.pin_core.specs.declared.view.Role.TheVariants.{Absent}
use Rattle.pin_core.specs.declared.view.Content.TheVariants.{Unlocked, Shared, Exclusive}
use Rattle.pin_core.specs.declared.view.Io.TheVariants.{Quiet, Input, Output}
use Rattle.pin_core.specs.declared.view.LastWrite.TheVariants.{Unwritten}
use Rattle.page_core.specs.Kinds.{EndsAs}
use Rattle.page_core.specs.Kinds as paged
use Rattle.page_core.specs.Kinds.{saw_valid}
use Rattle.history_core.specs.Unentered.{HoldsUnentered}
use Rattle.frame_table.specs.Kinds.{FrameKind, pages}

-- the load of the content word
abbrev pub looking_content : FrameKind
looking_content = pages paged.load_content

-- whether a content word shows an exclusive lock, and whether its copy latch is taken
abbrev pub has_exclusive : ℕ → Bool
has_exclusive w = bit 18 w

abbrev pub has_copying : ℕ → Bool
has_copying w = bit 19 w

-- What a view has at a frame whose content lock it takes
pub record CanLock (l : Link) : Type 0 where
  pub pinned : l.role ≢ Absent
  pub seen : l.seen_valid ≡ true
  pub none : l.content ≡ Unlocked

-- whose shared lock it gives up
pub record CanDropShare (l : Link) : Type 0 where
  pub right : l.content ≡ Shared
  pub no_copy : l.copying ≡ false
  pub no_output : l.io ≢ Output
  pub page_home : l.out ≡ None

-- whose exclusive lock it gives up
pub record CanDropExclusive (l : Link) : Type 0 where
  pub right : l.content ≡ Exclusive
  pub applied : l.unapplied ≡ false
  pub page_home : l.out ≡ None

-- a frame that the view hasn't marked dirty under the exclusive lock, or for which it made an entry
-- under it: its block isn't noted as unentered if the lock is given up
abbrev pub HoldsNoUnentered : Link → Type 0
HoldsNoUnentered l = HoldsUnentered l → ⊥

-- a frame whose copy latch the view gives up
pub record CanDropCopy (l : Link) : Type 0 where
  pub right : l.copying ≡ true
  pub page_home : l.out ≡ None

-- the link with the content lock, shared
abbrev pub shared_link : Link → Link
shared_link l = record l { content = Shared }

-- the link with an exclusive content lock
abbrev pub exclusive_link : Link → Link
exclusive_link l = record l { content = Exclusive }

-- the link without the shared lock, and so without what was copied under it
abbrev pub unshared_link : Link → Link
unshared_link l = record l { content = Unlocked; copied = None }

-- the link without the exclusive lock, and so without what was copied, marked or entered under it
abbrev pub unexclusive_link : Link → Link
unexclusive_link l = record l {
  content = Unlocked;
  copied = None;
  dirtied = false;
  entered = false;
}

-- the link with the copy latch, and without it
abbrev pub copying_link : Bool → Link → Link
copying_link taken l = record l { copying = taken }

-- the link of a view that marked the frame dirty
abbrev pub dirtied_link : Link → Link
dirtied_link l = record l { dirtied = true }

-- What a view has at a frame as it begins input or output under the header, whose word is the
-- number
pub record CanBeginIo (input : Bool) (word : ℕ) (l : Link) : Type 0 where
  pub held : l.header ≡ Some (fields word)
  pub settled : l.pending ≡ false
  pub pinned : l.role ≢ Absent
  pub clear : (fields word).in_progress ≡ false
  -- for input the frame has a tag and isn't valid
  pub to_read : input ≡ true → ((fields word).tag_valid ≡ true) × ((fields word).valid ≡ false)
  -- for output it is dirty, and the view shares the content lock
  pub to_write : input ≡ false → ((fields word).dirty ≡ true) × (l.content ≡ Shared)

-- what a view has at a frame as it ends its input or output under the header
pub record CanFinishIo (end : IoEnd) (word : ℕ) (l : Link) : Type 0 where
  pub held : l.header ≡ Some (fields word)
  pub page_home : l.io ≡ Input → l.out ≡ None
  pub ends : EndsAs end l

-- what a view has at a frame as it clears BM_JUST_DIRTIED under its output right
pub record CanClearJust (word : ℕ) (l : Link) : Type 0 where
  pub held : l.header ≡ Some (fields word)
  pub right : l.io ≡ Output

-- what a view has at a frame that its checkpoint has to write
pub record CanNeed (word : ℕ) (l : Link) : Type 0 where
  pub held : l.header ≡ Some (fields word)
  pub settled : l.pending ≡ false
  pub dirty : (fields word).dirty ≡ true

-- what a view has at a frame as it begins to wait until its pin is the only one
pub record CanAwait (word : ℕ) (l : Link) : Type 0 where
  pub held : l.header ≡ Some (fields word)
  pub settled : l.pending ≡ false
  pub pinned : l.role ≢ Absent
  pub right : l.content ≡ Exclusive
  pub free : (fields word).awaited ≡ false

-- what a view has at a frame as it wakes the waiter
pub record CanWake (word : ℕ) (l : Link) : Type 0 where
  pub held : l.header ≡ Some (fields word)
  pub settled : l.pending ≡ false
  pub awaited : (fields word).awaited ≡ true
  pub single : (fields word).pins ≡ 1

-- the kind with which input begins, or output
abbrev pub start_of : Bool → paged.Kind
start_of true = paged.start_input
start_of false = paged.start_output

-- the link with the input right, and with the output right, the header given up
abbrev pub begun_link : Bool → Link → Link
begun_link true l = record l { header = None; io = Input; read = None; read_is_home = false }
begun_link false l = record l { header = None; io = Output }

-- the link without the right, after this end: a good read has seen BM_VALID
abbrev pub finished_link : IoEnd → Link → Link
finished_link end l = record l {
  seen_valid = saw_valid end l.seen_valid;
  header = None;
  io = Quiet;
  read = None;
  read_is_home = false;
  last_write = Unwritten;
}

-- the link at a frame that the checkpoint has visited and that is left for it to write
abbrev pub left_to_write_link : Link → Link
left_to_write_link l = record l { header = None; visited = true; left_to_write = true }

-- the link with a wait under the number
abbrev pub waiting_link : ℕ → Link → Link
waiting_link number l = record l { header = None; waits = Some number }
