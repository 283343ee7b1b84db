-- The kinds of step that content locks, pages, input and output, waits and checkpoints add: when
-- each is allowed, and what it makes of the frame, of its block, and of what the stepping view has
-- there.
use Rattle.std.specs.Prelude.{◌≡◌, ◌≢◌, ℕ, ◌+◌, ◌-◌, Bool, true, false, List, [], ◌∷◌, ◌++◌, map}
use Rattle.std.specs.Prelude.{slice_set, Option, Some, None, ◌||◌, ◌&&◌, not, if◌then◌else◌}
use Rattle.state_word.specs.declared.word.StateWord.{StateWord}
use Rattle.state_word.specs.declared.word.IoEnd.{IoEnd}
use Rattle.state_word.specs.declared.word.IoEnd.TheVariants.{ReadOk, WriteOk, Bad}
use Rattle.state_word.specs.Fields.{unlocked_fields, dirtied_fields, io_started_fields}
use Rattle.state_word.specs.Fields.{io_ended_fields, just_dirtied_cleared_fields, waiter_set_fields}
use Rattle.state_word.specs.Fields.{waiter_cleared_fields, checkpoint_needed_fields}
use Rattle.pin_core.specs.declared.view.Role.TheVariants.{Absent}
use Rattle.pin_core.specs.declared.view.Content.{Content}
use Rattle.pin_core.specs.declared.view.Content.TheVariants.{Unlocked, Shared, Exclusive}
use Rattle.pin_core.specs.declared.view.Io.{Io}
use Rattle.pin_core.specs.declared.view.Io.TheVariants.{Quiet, Input, Output}
use Rattle.pin_core.specs.declared.view.LastWrite.{LastWrite}
use Rattle.pin_core.specs.declared.view.LastWrite.TheVariants.{Unwritten, Done, Failed}
use Rattle.pin_core.specs.declared.view.LoadedWord.{LoadedWord}
use Rattle.pin_core.specs.declared.view.LoadedWord.TheVariants as seen
use Rattle.pin_core.specs.declared.view.Link.{Link}
use Rattle.pin_core.specs.declared.view.View.{View}
use Rattle.pin_core.specs.State.{Frame, Page}
use Rattle.pin_core.specs.Kinds.{released, load_of, changed, sighted}
use Rattle.pin_core.specs.declared.view.WordChange.{WordChange}
use Rattle.pin_core.specs.declared.view.Resident.{Resident}
use Rattle.page_layout.specs.Soundness.{is_new_page, is_sound_page}
use Rattle.page_core.specs.State.{Block, zero_page}

-- The kinds of step at a frame, besides those of `pin_core`
pub data Kind : Type 0 where
  -- a load of the content word
  load_content : Kind
  -- the frame is marked dirty, before its page is changed (`MarkBufferDirty`)
  mark_dirty : Kind
  -- the content lock is taken, shared (`LockBuffer`)
  share : Kind
  -- the content lock is taken exclusively (`LockBuffer`)
  exclude : Kind
  -- a shared content lock is given up
  unshare : Kind
  -- an exclusive content lock is given up
  unexclude : Kind
  -- a sharer takes the copy latch: it becomes the one that may take the page out to copy it
  take_copy : Kind
  -- the copy latch is left
  leave_copy : Kind
  -- the page goes out to the backend
  page_out : Kind
  -- the backend's entry is applied: the page that is out is overwritten by its image
  overwrite_logged : Kind
  -- the page that is out is overwritten by the page that the lane gave
  overwrite_read : Page → Kind
  -- the page comes back
  page_back : Kind
  -- the lane gave this page of the block (`smgrread`)
  note_read : Page → Kind
  -- a new block's page is noted as if the lane had given it: it is all zero (`smgrzeroextend`)
  note_zero : Kind
  -- a write of the frame's page to its lane begins: what was noted of an earlier one goes
  -- (`smgrwrite`)
  begin_write : Kind
  -- the lane took the frame's page, or failed to
  note_write : Bool → Kind
  -- the entry of a new page of the frame's block is in the log (`XLogInsert`)
  make_entry : Page → Kind
  -- input of the frame begins (`StartBufferIO`)
  start_input : Kind
  -- output of the frame begins (`StartBufferIO`)
  start_output : Kind
  -- output has begun, and changes from here on are to be seen (`FlushBuffer`)
  clear_just_dirtied : Kind
  -- input or output ends (`TerminateBufferIO`)
  end_io : IoEnd → Kind
  -- the backend of this number, which has the exclusive lock, begins to wait until its pin is the
  -- only one (`LockBufferForCleanup`)
  set_waiter : ℕ → Kind
  -- the waiter is woken: the pin that is left is the only one (`UnpinBuffer`).
  -- Only the word changes, so a backend may still wait after its bit was cleared. The backend that
  -- wakes it has just given its own pin up, and needs none.
  clear_waiter : Kind
  -- the backend's checkpoint passes the frame, which it has still to write (`BufferSync`)
  need_checkpoint : Kind

-- A backend may mark a frame dirty (`MarkBufferDirty`)
pub record CanMarkDirty (fr : Frame) (l : Link) : Type 0 where
  -- no backend holds the buffer header (BM_LOCKED is clear)
  pub unlocked : fr.word.locked ≡ false
  -- the backend has the content lock exclusively
  pub right : l.content ≡ Exclusive

-- A backend may take the content lock, shared (`LockBuffer`)
pub record CanShare (fr : Frame) (l : Link) : Type 0 where
  -- the backend pins the frame
  pub pinned : l.role ≢ Absent
  -- the backend's pin has seen BM_VALID
  pub seen : l.seen_valid ≡ true
  -- the backend has no content lock there
  pub none : l.content ≡ Unlocked
  -- nobody has the content lock exclusively
  pub free : fr.exclusive ≡ false

-- A backend may take the content lock exclusively (`LockBuffer`): the content word is 0
pub record CanExclude (fr : Frame) (l : Link) : Type 0 where
  -- the backend pins the frame
  pub pinned : l.role ≢ Absent
  -- the backend's pin has seen BM_VALID
  pub seen : l.seen_valid ≡ true
  -- the backend has no content lock there
  pub none : l.content ≡ Unlocked
  -- nobody has the content lock exclusively
  pub free : fr.exclusive ≡ false
  -- nobody shares the content lock
  pub alone : fr.sharers ≡ 0
  -- nobody has the copy latch
  pub no_copy : fr.copying ≡ false

-- A backend may give up the content lock that it shares
pub record CanUnshare (fr : Frame) (l : Link) : Type 0 where
  -- the backend shares the content lock
  pub right : l.content ≡ Shared
  -- the backend doesn't have the copy latch
  pub no_copy : l.copying ≡ false
  -- the backend has no output right
  pub no_output : l.io ≢ Output
  -- the backend doesn't have the page out
  pub page_home : l.out ≡ None

-- A backend may give up the content lock that it has exclusively
pub record CanUnexclude (fr : Frame) (l : Link) : Type 0 where
  -- the backend has the content lock exclusively
  pub right : l.content ≡ Exclusive
  -- the backend has no entry to apply to the page
  pub applied : l.unapplied ≡ false
  -- the backend doesn't have the page out
  pub page_home : l.out ≡ None

-- A sharer may take the copy latch
pub record CanTakeCopy (fr : Frame) (l : Link) : Type 0 where
  -- the backend shares the content lock
  pub right : l.content ≡ Shared
  -- nobody has the copy latch
  pub free : fr.copying ≡ false

-- The holder of the copy latch may leave it
pub record CanLeaveCopy (fr : Frame) (l : Link) : Type 0 where
  -- the backend has the copy latch
  pub right : l.copying ≡ true
  -- the backend doesn't have the page out
  pub page_home : l.out ≡ None

-- The page may go out to a backend with the exclusive lock, the copy latch or the input right. A
-- shared lock isn't given up while the page is out: the copy may not be finished. An entry is
-- applied when the page that is out is overwritten, not when it comes back.
pub record CanTakePage (fr : Frame) (l : Link) : Type 0 where
  -- the backend doesn't have the page out
  pub page_home : l.out ≡ None
  -- if the backend shares the content lock, it has the copy latch
  pub shared : l.content ≡ Shared → l.copying ≡ true
  -- if the backend has no content lock, it has the input right
  pub unlocked : l.content ≡ Unlocked → l.io ≡ Input

-- The page that is out may be overwritten by the image of the backend's entry, once each time that
-- it is out
pub record CanOverwriteLogged (fr : Frame) (l : Link) : Type 0 where
  -- the backend has the page out
  pub out : l.out ≢ None
  -- the page wasn't overwritten since it went out
  pub once : l.overwritten ≡ None
  -- the backend's entry is in the log, and not yet applied to the page
  pub unapplied : l.unapplied ≡ true

-- The page that is out may be overwritten by the page that the lane gave, once each time that it is
-- out
pub record CanOverwriteRead (p : Page) (fr : Frame) (l : Link) : Type 0 where
  -- the backend has the page out
  pub out : l.out ≢ None
  -- the page wasn't overwritten since it went out
  pub once : l.overwritten ≡ None
  -- the backend has the input right
  pub right : l.io ≡ Input
  -- the page is the one that the lane gave
  pub read : l.read ≡ Some p

-- The page that is out may come back
pub record CanReturnPage (fr : Frame) (l : Link) : Type 0 where
  -- the backend has the page out
  pub out : l.out ≢ None

-- A page may be noted as the one that the lane gave, if the block isn't new. A read is noted once
-- under an input right: if contents aren't known a second could give another page, and the first
-- would come home. From a lane whose contents aren't known any page may be noted: what was known of
-- the block's page is forgotten first, and the block's entries are all in the lane.
pub record CanNoteRead (p : Page) (b : Block) (fr : Frame) (l : Link) : Type 0 where
  -- the backend has the input right
  pub right : l.io ≡ Input
  -- no earlier read is being put into the frame
  pub fresh : l.overwritten ≡ None
  -- the page is the block's page after the log, if that is known
  pub given : (q : Page) → b.logged ≡ Some q → q ≡ p
  -- the backend doesn't note the block as new
  pub unnoted : l.noted ≡ false

-- A page that is all zero may be noted as the one of a new block
pub record CanNoteZero (b : Block) (fr : Frame) (l : Link) : Type 0 where
  -- the backend has the input right
  pub right : l.io ≡ Input
  -- no earlier read is being put into the frame
  pub fresh : l.overwritten ≡ None
  -- the backend notes the block as new
  pub noted : l.noted ≡ true
  -- the block's page after the log, if there is one, is all zero
  pub given : (q : Page) → b.logged ≡ Some q → q ≡ zero_page

-- A backend may note that a lane write begins, or how it went
pub record CanNoteWrite (fr : Frame) (l : Link) : Type 0 where
  -- the backend has the output right
  pub right : l.io ≡ Output

-- A backend may make an entry with this page (`XLogInsert`). That the block is there, and no entry
-- of the view is unapplied at any frame, is asked by `AllowedAround`
pub record CanMakeEntry (p : Page) (fr : Frame) (l : Link) : Type 0 where
  -- the backend has the content lock exclusively
  pub right : l.content ≡ Exclusive
  -- the backend marked the frame dirty under this lock
  pub dirtied : l.dirtied ≡ true
  -- the backend has no entry to apply to the page
  pub applied : l.unapplied ≡ false
  -- the page is sound (`PageIsVerifiedExtended`)
  pub sound : is_sound_page p ≡ true
  -- the page isn't new (`PageIsNew`)
  pub used : is_new_page p ≡ false

-- A backend may begin to read the page (`StartBufferIO`). That it has no input or output right,
-- here or elsewhere, and that the block is there, unless the backend notes it as new, is asked by
-- `AllowedAround`
pub record CanStartInput (fr : Frame) (l : Link) : Type 0 where
  -- the backend holds the buffer header, and knows the state word
  pub held : l.header ≡ Some fr.word
  -- no tag word that the backend stored there is still to be assigned or cleared
  pub settled : l.pending ≡ false
  -- the backend pins the frame
  pub pinned : l.role ≢ Absent
  -- nobody reads or writes the page (BM_IO_IN_PROGRESS is clear)
  pub clear : fr.word.in_progress ≡ false
  -- the frame has a tag (BM_TAG_VALID is set)
  pub tagged : fr.word.tag_valid ≡ true
  -- the frame isn't valid (BM_VALID is clear)
  pub invalid : fr.word.valid ≡ false

-- A backend may begin to write the page (`StartBufferIO`). That it has no input or output right,
-- here or elsewhere, is asked by `AllowedAround`
pub record CanStartOutput (fr : Frame) (l : Link) : Type 0 where
  -- the backend holds the buffer header, and knows the state word
  pub held : l.header ≡ Some fr.word
  -- no tag word that the backend stored there is still to be assigned or cleared
  pub settled : l.pending ≡ false
  -- the backend pins the frame
  pub pinned : l.role ≢ Absent
  -- nobody reads or writes the page (BM_IO_IN_PROGRESS is clear)
  pub clear : fr.word.in_progress ≡ false
  -- the frame is dirty (BM_DIRTY is set)
  pub dirty : fr.word.dirty ≡ true
  -- the backend shares the content lock
  pub right : l.content ≡ Shared

-- A backend that writes the page may clear BM_JUST_DIRTIED (`FlushBuffer`)
pub record CanClearJustDirtied (fr : Frame) (l : Link) : Type 0 where
  -- the backend holds the buffer header, and knows the state word
  pub held : l.header ≡ Some fr.word
  -- the backend has the output right
  pub right : l.io ≡ Output

-- A read ends well if the page that the lane gave is sound, and is the frame's, in its place
pub record CanEndRead (l : Link) : Type 0 where
  -- the backend has the input right
  pub right : l.io ≡ Input
  -- the lane gave a page
  pub read : l.read ≢ None
  -- the page that the lane gave is sound
  pub sound : (p : Page) → l.read ≡ Some p → is_sound_page p ≡ true
  -- the page that the lane gave is the frame's, in its place
  pub home : l.read_is_home ≡ true

-- A write ends well if its last lane write was done
pub record CanEndWrite (l : Link) : Type 0 where
  -- the backend has the output right
  pub right : l.io ≡ Output
  -- the last lane write was done
  pub written : l.last_write ≡ Done

-- a read or a write may end like this: well, or with an error, which it always may
abbrev pub EndsAs : IoEnd → Link → Type 0
EndsAs ReadOk l = CanEndRead l
EndsAs WriteOk l = CanEndWrite l
EndsAs Bad l = l.io ≢ Quiet

-- A backend may end its input or output (`TerminateBufferIO`). That no lane is out with a write of
-- the frame is asked by `AllowedAround`
pub record CanEndIo (end : IoEnd) (fr : Frame) (l : Link) : Type 0 where
  -- the backend holds the buffer header, and knows the state word
  pub held : l.header ≡ Some fr.word
  -- if the backend reads the page, it doesn't have it out
  pub page_home : l.io ≡ Input → l.out ≡ None
  -- the read or write may end like this: well if it went well, or with an error
  pub ends : EndsAs end l

-- A backend may begin to wait for its pin to be the only one (`LockBufferForCleanup`). That the
-- number is its own, and that it waits nowhere, is asked by `AllowedAround`
pub record CanSetWaiter (fr : Frame) (l : Link) : Type 0 where
  -- the backend holds the buffer header, and knows the state word
  pub held : l.header ≡ Some fr.word
  -- no tag word that the backend stored there is still to be assigned or cleared
  pub settled : l.pending ≡ false
  -- the backend pins the frame
  pub pinned : l.role ≢ Absent
  -- the backend has the content lock exclusively
  pub right : l.content ≡ Exclusive
  -- nobody is named as waiter there (BM_PIN_COUNT_WAITER is clear)
  pub free : fr.word.awaited ≡ false

-- BM_PIN_COUNT_WAITER may be cleared, if one pin is left (`UnpinBuffer`)
pub record CanClearWaiter (fr : Frame) (l : Link) : Type 0 where
  -- the backend holds the buffer header, and knows the state word
  pub held : l.header ≡ Some fr.word
  -- no tag word that the backend stored there is still to be assigned or cleared
  pub settled : l.pending ≡ false
  -- a waiter is named there (BM_PIN_COUNT_WAITER is set)
  pub awaited : fr.word.awaited ≡ true
  -- the reference count is 1
  pub single : fr.word.pins ≡ 1

-- A backend's checkpoint may mark a dirty frame, whether it has visited the frame or not: a load
-- while the backend waited for the header may have. A load without a checkpoint may too: the view's
-- position is 0 then, and every entry ends past that, so its marks say nothing.
pub record CanNeedCheckpoint (fr : Frame) (l : Link) : Type 0 where
  -- the backend holds the buffer header, and knows the state word
  pub held : l.header ≡ Some fr.word
  -- no tag word that the backend stored there is still to be assigned or cleared
  pub settled : l.pending ≡ false
  -- the frame is dirty (BM_DIRTY is set)
  pub dirty : fr.word.dirty ≡ true

-- What a kind asks of the frame, of its block, and of what the view has there
abbrev pub Allowed : Kind → Block → Frame → Link → Type 0
Allowed load_content b fr l = Unit {0}
Allowed mark_dirty b fr l = CanMarkDirty fr l
Allowed share b fr l = CanShare fr l
Allowed exclude b fr l = CanExclude fr l
Allowed unshare b fr l = CanUnshare fr l
Allowed unexclude b fr l = CanUnexclude fr l
Allowed take_copy b fr l = CanTakeCopy fr l
Allowed leave_copy b fr l = CanLeaveCopy fr l
Allowed page_out b fr l = CanTakePage fr l
Allowed overwrite_logged b fr l = CanOverwriteLogged fr l
Allowed (overwrite_read p) b fr l = CanOverwriteRead p fr l
Allowed page_back b fr l = CanReturnPage fr l
Allowed (note_read p) b fr l = CanNoteRead p b fr l
Allowed note_zero b fr l = CanNoteZero b fr l
Allowed begin_write b fr l = CanNoteWrite fr l
Allowed (note_write done) b fr l = CanNoteWrite fr l
Allowed (make_entry p) b fr l = CanMakeEntry p fr l
Allowed start_input b fr l = CanStartInput fr l
Allowed start_output b fr l = CanStartOutput fr l
Allowed clear_just_dirtied b fr l = CanClearJustDirtied fr l
Allowed (end_io end) b fr l = CanEndIo end fr l
Allowed (set_waiter number) b fr l = CanSetWaiter fr l
Allowed clear_waiter b fr l = CanClearWaiter fr l
Allowed need_checkpoint b fr l = CanNeedCheckpoint fr l

-- the block's page after the log, or the page p if that isn't known
abbrev pub image_over : Option Page → Page → Page
image_over None p = p
image_over (Some q) p = q

-- What a kind makes of the frame
abbrev pub frame_after : Kind → Block → Frame → Frame
frame_after mark_dirty b fr = record fr { word = dirtied_fields fr.word }
frame_after share b fr = record fr { sharers = fr.sharers + 1 }
frame_after exclude b fr = record fr { exclusive = true }
frame_after unshare b fr = record fr { sharers = fr.sharers - 1 }
frame_after unexclude b fr = record fr { exclusive = false }
frame_after take_copy b fr = record fr { copying = true }
frame_after leave_copy b fr = record fr { copying = false }
frame_after overwrite_logged b fr = record fr { page = image_over b.logged fr.page }
frame_after (overwrite_read p) b fr = record fr { page = p }
frame_after start_input b fr = released (io_started_fields fr.word) fr
frame_after start_output b fr = released (io_started_fields fr.word) fr
frame_after clear_just_dirtied b fr = released (just_dirtied_cleared_fields fr.word) fr
frame_after (end_io end) b fr = released (io_ended_fields end fr.word) fr
frame_after (set_waiter number) b fr = released (waiter_set_fields number fr.word) fr
frame_after clear_waiter b fr = released (waiter_cleared_fields fr.word) fr
frame_after need_checkpoint b fr = released (checkpoint_needed_fields fr.word) fr
frame_after _ b fr = fr

-- What a kind makes of the block of the frame's tag
abbrev pub block_after : Kind → Block → Block
block_after (make_entry p) b = record b { logged = Some p }
block_after _ b = b

-- the page noted as copied once a page comes back: that page, under a content lock and with no
-- entry to apply
abbrev pub copied_after : Content → Bool → Page → Option Page → Option Page
copied_after Unlocked unapplied p copied = copied
copied_after Shared unapplied p copied = if unapplied then copied else Some p
copied_after Exclusive unapplied p copied = if unapplied then copied else Some p

-- whether the page that was read is in its place once a page comes back: it is, if it comes back
-- overwritten under an input right
abbrev pub home_after : Io → Option Page → Bool → Bool
home_after Quiet overwritten home = home
home_after Output overwritten home = home
home_after Input None home = home
home_after Input (Some q) home = true

-- how a lane write went
abbrev pub write_noted : Bool → LastWrite
write_noted true = Done
write_noted false = Failed

-- whether a pin has seen BM_VALID after an end of input or output: a backend that ends a good read
-- has set it
abbrev pub saw_valid : IoEnd → Bool → Bool
saw_valid ReadOk saw = true
saw_valid WriteOk saw = saw
saw_valid Bad saw = saw

-- What a kind makes of what the view has there
abbrev pub link_after : Kind → Block → Frame → Link → Link
link_after load_content b fr l = l
link_after mark_dirty b fr l = record l { dirtied = true }
link_after share b fr l = record l { content = Shared }
link_after exclude b fr l = record l { content = Exclusive }
link_after unshare b fr l = record l { content = Unlocked; copied = None }
link_after unexclude b fr l = record l {
  content = Unlocked;
  copied = None;
  dirtied = false;
  entered = false;
}
link_after take_copy b fr l = record l { copying = true }
link_after leave_copy b fr l = record l { copying = false }
link_after page_out b fr l = record l { out = Some fr.page }
link_after overwrite_logged b fr l = record l {
  overwritten = Some (image_over b.logged fr.page);
  unapplied = false;
  image = None;
}
link_after (overwrite_read p) b fr l = record l { overwritten = Some p }
link_after page_back b fr l = record l {
  out = None;
  overwritten = None;
  copied = copied_after l.content l.unapplied fr.page l.copied;
  read_is_home = home_after l.io l.overwritten l.read_is_home;
}
link_after (note_read p) b fr l = record l { read = Some p; read_is_home = false }
link_after note_zero b fr l = record l { read = Some zero_page; read_is_home = false }
link_after begin_write b fr l = record l { last_write = Unwritten }
link_after (note_write done) b fr l = record l { last_write = write_noted done }
link_after (make_entry p) b fr l = record l {
  entered = true;
  unapplied = true;
  image = Some p;
  copied = None;
}
link_after start_input b fr l = record l {
  header = None;
  io = Input;
  read = None;
  read_is_home = false;
}
link_after start_output b fr l = record l { header = None; io = Output }
link_after clear_just_dirtied b fr l = record l { header = None }
link_after (end_io end) b fr l = record l {
  seen_valid = saw_valid end l.seen_valid;
  header = None;
  io = Quiet;
  read = None;
  read_is_home = false;
  last_write = Unwritten;
}
link_after (set_waiter number) b fr l = record l { header = None; waits = Some number }
link_after clear_waiter b fr l = record l { header = None }
link_after need_checkpoint b fr l = record l { header = None; visited = true; left_to_write = true }

-- the blocks of frames that were marked dirty, and whose lock was given up with no entry made,
-- after a kind
abbrev pub unentered_after : Kind → Frame → Link → List ℕ → List ℕ
unentered_after unexclude fr l tags
    = if l.dirtied && not l.entered then tags ++ fr.tag ∷ [] else tags
unentered_after _ fr l tags = tags

-- whether a kind marks the frame dirty: a page may have to be written
abbrev pub dirties : Kind → Bool
dirties mark_dirty = true
dirties _ = false

-- whether a kind gives an output right
abbrev pub starts_output : Kind → Bool
starts_output start_output = true
starts_output _ = false

-- the word that the end of the view's last input or output stored, after a kind
abbrev pub ended_after : Kind → Frame → Option StateWord → Option StateWord
ended_after (end_io end) fr ended = Some (unlocked_fields (io_ended_fields end fr.word))
ended_after _ fr ended = ended

-- the block that the end of input or output shows: the end of a good read sets BM_VALID, so it is
-- the one that the pin knows
abbrev pub sighted_by : IoEnd → Option ℕ → ℕ → List Resident
sighted_by ReadOk known f = sighted true known f
sighted_by WriteOk known f = []
sighted_by Bad known f = []

-- the listed blocks after a kind
abbrev pub residents_after : Kind → ℕ → Link → List Resident → List Resident
residents_after (end_io end) f l rs = rs ++ sighted_by end l.tag f
residents_after _ f l rs = rs

-- the word that a kind loads, as it sees it
abbrev pub seen_by : Kind → ℕ → Frame → List LoadedWord
seen_by load_content f fr = seen.Content f fr.sharers fr.exclusive fr.copying ∷ []
seen_by _ f fr = []

-- the changes of state words after a kind at the frame f
abbrev pub changes_after : Kind → ℕ → Block → Frame → List WordChange → List WordChange
changes_after mark_dirty f b fr changes = changed f fr (frame_after mark_dirty b fr).word changes
changes_after start_input f b fr changes = changed f fr (frame_after start_input b fr).word changes
changes_after start_output f b fr changes
    = changed f fr (frame_after start_output b fr).word changes
changes_after clear_just_dirtied f b fr changes
    = changed f fr (frame_after clear_just_dirtied b fr).word changes
changes_after (end_io end) f b fr changes
    = changed f fr (frame_after (end_io end) b fr).word changes
changes_after (set_waiter number) f b fr changes
    = changed f fr (frame_after (set_waiter number) b fr).word changes
changes_after clear_waiter f b fr changes
    = changed f fr (frame_after clear_waiter b fr).word changes
changes_after need_checkpoint f b fr changes
    = changed f fr (frame_after need_checkpoint b fr).word changes
changes_after _ f b fr changes = changes

-- how many steps other than loads a kind is
abbrev pub steps_of : Kind → ℕ
steps_of load_content = 0
steps_of _ = 1

-- What a kind at the frame f makes of the view
abbrev pub view_after : Kind → ℕ → Block → Frame → Link → View → View
view_after k f b fr l v = record v {
  links = slice_set v.links f (link_after k b fr l);
  loads = v.loads ++ map (load_of v) (seen_by k f fr);
  changes = changes_after k f b fr v.changes;
  unentered = unentered_after k fr l v.unentered;
  steps = v.steps + steps_of k;
  dirtied_or_synced = v.dirtied_or_synced || dirties k;
  had_output = v.had_output || starts_output k;
  last_ended = ended_after k fr v.last_ended;
  residents = residents_after k f l v.residents;
}
