-- One step, and lists of steps.
use Rattle.std.specs.Prelude.{◌≡◌, ◌≢◌, ℕ, ◌+◌, ◌<◌, ◌≤◌, true, false, List, [], ◌∷◌, ◌++◌, length}
use Rattle.std.specs.Prelude.{map, max, Bool, Option, Some, slice_set, None, if◌then◌else◌}
use mathlib.Core.Option.{some}
use lib.ListN.{get_elem?}
use Rattle.page_layout.specs.Fields.{lsn_of, with_lsn}
use Rattle.pin_core.specs.declared.view.Content.TheVariants.{Unlocked}
use Rattle.pin_core.specs.declared.view.Io.TheVariants.{Input}
use Rattle.pin_core.specs.declared.view.LaneChange.{LaneChange}
use Rattle.pin_core.specs.declared.view.LaneChange.TheVariants as lane_change
use Rattle.pin_core.specs.declared.view.LaneHold.{LaneHold}
use Rattle.pin_core.specs.declared.view.LogHold.{LogHold}
use Rattle.pin_core.specs.declared.view.HintStore.{HintStore}
use Rattle.pin_core.specs.declared.view.Published.{Published}
use Rattle.pin_core.specs.declared.view.Load.{Load}
use Rattle.pin_core.specs.declared.view.LoadedWord.{LoadedWord}
use Rattle.pin_core.specs.declared.view.LoadedWord.TheVariants as seen
use Rattle.pin_core.specs.declared.view.Link.{Link}
use Rattle.pin_core.specs.declared.view.View.{View}
use Rattle.pin_core.specs.declared.view.Call.TheVariants.{Read, Write, Sized}
use Rattle.pin_core.specs.declared.view.SizeRight.TheVariants as size_right
use Rattle.pin_core.specs.declared.view.ImageTest.{ImageTest}
use Rattle.pin_core.specs.declared.view.WriteRecord.{WriteRecord}
use Rattle.pin_core.specs.State.{Page, link, lane_hold, size_hold, local}
use Rattle.pin_core.specs.Kinds.{load_of}
use Rattle.page_core.specs.State as page
use Rattle.page_core.specs.State.{block_of}
use Rattle.page_core.specs.Kinds as pages
use Rattle.page_core.specs.Kinds.{Kind, note_read, begin_write, note_write, make_entry}
use Rattle.page_core.specs.Steps as page_steps
use Rattle.page_core.specs.Steps.{logged_after}
use Rattle.history_core.specs.Log.{Entry, Span, Change, image, ranges, resize, AreRanges, MayMake}
use Rattle.history_core.specs.Log.{change_size, record_bytes, with_spans}
use Rattle.history_core.specs.State.{State, last_position}
use Rattle.history_core.specs.Words.{Word, flushed_word, redo_word, hand_word, counter_word}
use Rattle.history_core.specs.Words.{hint_word, word_of, WordKind, load_end, begin_checkpoint}
use Rattle.history_core.specs.Words.{load_flushed, raise_flushed, load_redo, raise_redo, load_hand}
use Rattle.history_core.specs.Words.{add_hand, load_counter, add_counter, load_hint, store_hint}
use Rattle.history_core.specs.Words.{word_at, WordAllowed, number_after, word_set}
use Rattle.history_core.specs.Lanes.{LaneKind, read_block, fail_read, write_block, fail_write}
use Rattle.history_core.specs.Lanes.{lane_back, LaneAllowed, lane_after, lane_changed, swept_by}
use Rattle.history_core.specs.Device.{LogKind, append, fail_append, LogAllowed, device_after}
use Rattle.history_core.specs.Device.{view_logged}
use Rattle.grid.specs.Shape.{put}

-- What happens: a step at pins, maps, content locks and pages, or a backend's step at a lane, at
-- the log or at another word
pub data Event : Type 0 where
  -- a step of `page_core`
  pool : page_steps.Event → Event
  -- a step of a backend at a lane that touches no frame
  lane : ℕ → ℕ → LaneKind → Event
  -- a backend's write of a frame's page to a lane, done or failed
  write : ℕ → ℕ → ℕ → LaneKind → Event
  -- a lane comes back from a backend, and what was read or written is noted at a frame
  note : ℕ → ℕ → ℕ → LaneKind → Kind → Event
  -- a step of a backend at the log
  log : ℕ → LogKind → Event
  -- a backend's entry of a changed page of a frame becomes part of the log: the log's end is stored
  enter : ℕ → ℕ → Page → Change → Event
  -- the log's end is loaded as the place of a read of the page that was copied from a frame
  read : ℕ → ℕ → Event
  -- the log's end is loaded as the place of a fork's size, which the backend keeps as it is
  read_size : ℕ → ℕ → Event
  -- a step of a backend at one of the table's other words
  word : ℕ → WordKind → Event

-- whether a kind of `page_core` is a step by itself. Those for what a lane gives and takes, and for
-- a new entry, are each a part of a step of this crate
abbrev pub IsPlain : Kind → Type 0
IsPlain (note_read p) = ⊥
IsPlain begin_write = ⊥
IsPlain (note_write done) = ⊥
IsPlain (make_entry p) = ⊥
IsPlain _ = Unit {0}

-- what this crate asks of a step of `page_core` besides
abbrev pub PoolAllowed : page_steps.Event → Type 0
PoolAllowed (page_steps.pins_and_maps e) = Unit {0}
PoolAllowed (page_steps.at i f k) = IsPlain k

-- a view after one more step that isn't a load
abbrev pub stepped : View → View
stepped v = record v { steps = v.steps + 1 }

-- a view after a load
abbrev pub looked : LoadedWord → View → View
looked seen v = record v { loads = v.loads ++ load_of v seen ∷ [] }

-- the view of backend i changes, and nothing else of the buffer pool
abbrev pub aside : page.State → ℕ → View → page.State
aside s i w = record s { core = record s.core { views = slice_set s.core.views i w } }

-- the frame f, its block and the view of backend i change as by the kind k of `page_core`; the view
-- becomes w
abbrev pub pool_after : Kind → page.State → ℕ → ℕ → View → page.State
pool_after k s i f w = let fr = s.core.frame f in let b = block_of s.logged fr.tag in record {
  core = local s.core i f (pages.frame_after k b fr) w;
  logged = logged_after k s.logged fr.tag;
}

-- what the kind k of `page_core` at the frame f makes of the view
abbrev pub paged : Kind → page.State → ℕ → View → View
paged k s f v = let fr = s.core.frame f in
    pages.view_after k f (block_of s.logged fr.tag) fr (link v f) v

-- what a step of the kind k at the lane n makes of the view w, which was v before
abbrev pub laned : LaneKind → ℕ → View → View → View
laned k n v w = lane_changed k n (swept_by v) (lane_hold v n) w

-- the call that a backend made of a lane was no write
abbrev pub NoWrite : LaneChange → Type 0
NoWrite (lane_change.Written f tag page) = ⊥
NoWrite (lane_change.WriteFailed f tag) = ⊥
NoWrite _ = Unit {0}

-- What a step at a lane that touches no frame asks besides: it is no write and no return after one,
-- and a read is of a block of the lane
abbrev pub LaneAlone : LaneKind → State → ℕ → LaneHold → Type 0
LaneAlone (read_block tag p) s n h = s.lane_of tag ≡ n
LaneAlone (fail_read tag m) s n h = s.lane_of tag ≡ n
LaneAlone (write_block f tag p) s n h = ⊥
LaneAlone (fail_write f tag p m) s n h = ⊥
LaneAlone (lane_back noted) s n h = NoWrite h.change
LaneAlone _ s n h = Unit {0}

-- A lane write carries the page of the frame f, under the output right, to the lane of the frame's
-- block; the page's position in the log is at most the flushed position that the backend had loaded
-- when the lane went out
pub record CanWrite (s : State) (n f tag : ℕ) (p : Page) (h : LaneHold) (l : Link) : Type 0 where
  -- the tag is the frame's
  pub tagged : (s.pool.core.frame f).tag ≡ tag
  -- the lane is that of the tag
  pub lane : s.lane_of tag ≡ n
  -- the page is the frame's
  pub page : (s.pool.core.frame f).page ≡ p
  -- the backend has the output right, and may write
  pub right : pages.Allowed begin_write (block_of s.pool.logged tag) (s.pool.core.frame f) l
  -- the page's position in the log is at most the flushed position that the backend had loaded when
  -- the lane went out
  pub log_first : lsn_of p ≤ h.flushed

-- what a write to a lane asks besides, done or failed; after one that failed the lane's page is
-- unspecified
abbrev pub MayWriteLane : LaneKind → State → ℕ → ℕ → LaneHold → Link → Type 0
MayWriteLane (write_block g tag p) s n f h l = (g ≡ f) × CanWrite s n f tag p h l
MayWriteLane (fail_write g tag p m) s n f h l = (g ≡ f)
    × CanWrite s n f tag (s.pool.core.frame f).page h l
MayWriteLane _ s n f h l = ⊥

-- The page that was read is of the frame's block, which isn't new. The backend has the input right
-- there, and isn't just putting an earlier read into the frame
pub record CanNoteLaneRead (s : State) (n f : ℕ) (p : Page) (h : LaneHold) (l : Link) : Type 0 where
  -- the lane was read, and gave this page of the frame's block
  pub was_read : h.change ≡ lane_change.Read (s.pool.core.frame f).tag p
  -- the lane is that of the frame's block
  pub lane : s.lane_of (s.pool.core.frame f).tag ≡ n
  -- the backend has the input right at the frame
  pub right : l.io ≡ Input
  -- no earlier read is being put into the frame
  pub fresh : l.overwritten ≡ None
  -- the backend doesn't note the frame's block as new
  pub unnoted : l.noted ≡ false

-- The page that was written is the frame's, and the backend has the output right still
pub record CanNoteLaneWrite (s : State) (n f : ℕ) (p : Page) (h : LaneHold)
    (l : Link) : Type 0 where
  -- the page was written to the lane as that of the frame's block
  pub was_written : h.change ≡ lane_change.Written f (s.pool.core.frame f).tag p
  -- the lane is that of the frame's block
  pub lane : s.lane_of (s.pool.core.frame f).tag ≡ n
  -- the page is the frame's
  pub page : (s.pool.core.frame f).page ≡ p
  -- the backend has the output right still
  pub right : pages.Allowed (note_write true) (block_of s.pool.logged (s.pool.core.frame f).tag)
      (s.pool.core.frame f) l

-- The write that failed was of the frame's block, to this lane, and the backend has the output
-- right still
pub record CanNoteFailedWrite (s : State) (n f : ℕ) (h : LaneHold) (l : Link) : Type 0 where
  -- a write of the frame's block failed
  pub failed : h.change ≡ lane_change.WriteFailed f (s.pool.core.frame f).tag
  -- the lane is that of the frame's block
  pub lane : s.lane_of (s.pool.core.frame f).tag ≡ n
  -- the backend has the output right still
  pub right : pages.Allowed (note_write false) (block_of s.pool.logged (s.pool.core.frame f).tag)
      (s.pool.core.frame f) l

-- what is noted at the frame f as the lane n comes back
abbrev pub Notes : Kind → State → ℕ → ℕ → LaneHold → Link → Type 0
Notes (note_read p) s n f h l = CanNoteLaneRead s n f p h l
Notes (note_write true) s n f h l = (p : Page) × CanNoteLaneWrite s n f p h l
Notes (note_write false) s n f h l = CanNoteFailedWrite s n f h l
Notes _ s n f h l = ⊥

-- each block's page after the log, as far as it is known. A read from a lane whose contents aren't
-- known may give any page: then what was known of the block's page is forgotten
abbrev pub logged_noting : Kind → State → ℕ → ℕ → Option Page
logged_noting (note_read p) s f = let tag = (s.pool.core.frame f).tag in
    if s.known tag then s.pool.logged else put s.pool.logged tag None
logged_noting _ s f = s.pool.logged

-- the buffer pool, with what is known of the blocks' pages as a lane comes back
abbrev pub pool_noting : Kind → State → ℕ → page.State
pool_noting k s f = record s.pool { logged = logged_noting k s f }

-- the entry that a backend makes of a change
abbrev pub new_entry : State → ℕ → Change → Entry
new_entry s number c = record { start = s.end; backend = number; change = c }

-- The page p is the page that was copied under the content lock, with the bytes of spans replaced,
-- and this position in the log
pub record Replaces (end : ℕ) (spans : List Span) (p : Page) (l : Link) : Type 0 where
  -- the page before the change
  pub before : Page
  -- the page before the change is the one that the backend copied under the content lock
  pub copied : l.copied ≡ Some before
  -- the spans are such as an entry may have
  pub valid : AreRanges spans
  -- p is the page before the change with the spans replaced, and with this position
  pub made : with_lsn end (with_spans spans before) ≡ p

-- The change, whose entry ends at the position `end`, makes the page p of the block of the tag
abbrev pub MakesPage : Change → ℕ → ℕ → Page → Link → Type 0
MakesPage (image t q) end tag p l = (t ≡ tag) × (q ≡ p)
MakesPage (ranges t spans) end tag p l = (t ≡ tag) × Replaces end spans p l
MakesPage (resize fork old new) end tag p l = ⊥

-- Ranges may be logged if the page's position, as it was copied, is past the redo position that the
-- backend has loaded under the log's latch
pub record IsPastRedo (h : LogHold) (l : Link) : Type 0 where
  -- the redo position
  pub redo : ℕ
  -- the backend has loaded the redo position under the log's latch
  pub loaded : h.redo ≡ Some redo
  -- the page before the change
  pub before : Page
  -- the page before the change is the one that the backend copied under the content lock
  pub copied : l.copied ≡ Some before
  -- the position of the page before the change is past the redo position
  pub past : redo < lsn_of before

-- What the redo position must be for a change to be logged. Ranges don't have the whole page, so
-- the page's position before has to be past it; a whole page needs nothing
abbrev pub MaySkipImage : Change → LogHold → Link → Type 0
MaySkipImage (image t q) h l = Unit {0}
MaySkipImage (ranges t spans) h l = IsPastRedo h l
MaySkipImage (resize fork old new) h l = ⊥

-- What a backend needs to append the record of a change that makes the page p of the block of the
-- frame f, whose tag is this
pub record CanLog (s : State) (f tag : ℕ) (p : Page) (c : Change) (v : View) : Type 0 where
  -- the frame is one of the pool
  pub inside : f < s.pool.core.frames
  -- the tag is the frame's
  pub tagged : (s.pool.core.frame f).tag ≡ tag
  -- the backend may make an entry of the page at the frame
  pub right : pages.Allowed (make_entry p) (block_of s.pool.logged (s.pool.core.frame f).tag)
      (s.pool.core.frame f) (link v f)
  -- nothing that the backend has elsewhere forbids the entry
  pub around : page_steps.AllowedAround (make_entry p) s.pool v f
  -- the page has 8192 bytes
  pub full : length p ≡ 8192
  -- the page's position in the log (`pd_lsn`) is where the entry will end
  pub ends : lsn_of p ≡ s.end + change_size c
  -- the entry's end is at most the last position
  pub room : s.end + change_size c ≤ last_position
  -- the change makes this page of the frame's block
  pub makes : MakesPage c (s.end + change_size c) tag p (link v f)
  -- if the change is of ranges, the page's position before it is past the redo position that the
  -- backend has loaded under the log's latch
  pub past : MaySkipImage c v.log (link v f)
  -- an entry of this kind may be made
  pub allowed : MayMake s.ranges c

-- The bytes are the first of the record of the entry that the backend would make of the page now
pub record AppendsFirst (s : State) (c : Change) (v : View) (bytes : List ℕ) : Type 0 where
  -- the bytes of the record that are missing
  pub rest : List ℕ
  -- with the missing bytes the bytes are the record
  pub begins : bytes ++ rest ≡ record_bytes s.names (new_entry s v.number c)

-- what is appended is the record of the entry that the backend would make of the page now; an
-- append that fails leaves the first bytes of it
abbrev pub AppendsRecord : LogKind → State → View → Type 0
AppendsRecord (append f tag p bytes) s v = (c : Change) × CanLog s f tag p c v
    × (bytes ≡ record_bytes s.names (new_entry s v.number c))
AppendsRecord (fail_append f tag p bytes n) s v = (c : Change) × CanLog s f tag p c v
    × AppendsFirst s c v bytes
AppendsRecord _ s v = Unit {0}

-- The page is a whole page that the content lock lets the backend enter, and has the position of
-- the entry's end, which is at most the last one; under the log's latch the entry's record is
-- appended
pub record CanEnter (s : State) (f : ℕ) (p : Page) (c : Change) (v : View) : Type 0 where
  -- the backend may make an entry of the page at the frame
  pub right : pages.Allowed (make_entry p) (block_of s.pool.logged (s.pool.core.frame f).tag)
      (s.pool.core.frame f) (link v f)
  -- nothing that the backend has elsewhere forbids the entry
  pub around : page_steps.AllowedAround (make_entry p) s.pool v f
  -- the page has 8192 bytes
  pub full : length p ≡ 8192
  -- the page's position in the log (`pd_lsn`) is where the entry will end
  pub ends : lsn_of p ≡ s.end + change_size c
  -- the entry's end is at most the last position
  pub room : s.end + change_size c ≤ last_position
  -- the change makes this page of the frame's block
  pub makes : MakesPage c (s.end + change_size c) (s.pool.core.frame f).tag p (link v f)
  -- if the change is of ranges, the page's position before it is past the redo position that the
  -- backend has loaded under the log's latch
  pub past : MaySkipImage c v.log (link v f)
  -- an entry of this kind may be made
  pub allowed : MayMake s.ranges c
  -- the record that the backend appended under the log's latch, and that isn't entered yet, is the
  -- entry's
  pub appended : v.log.appended ≡ Some (record_bytes s.names (new_entry s v.number c))

-- The page was copied under a content lock that the backend has still, no entry of its own is
-- unapplied, and its pin remembers the tag
pub record CanRead (tag : ℕ) (p : Page) (l : Link) : Type 0 where
  -- the backend has the content lock, shared or exclusively
  pub right : l.content ≢ Unlocked
  -- the page is the one that the backend copied under the content lock
  pub copied : l.copied ≡ Some p
  -- the backend has no entry that it has still to apply to the page
  pub applied : l.unapplied ≡ false
  -- the backend's pin remembers the tag
  pub remembered : l.tag ≡ Some tag

-- the hold of the log's latch once the log's end was loaded, which it keeps
abbrev pub end_loaded : ℕ → LogHold → LogHold
end_loaded end h = record h { end = if h.held then Some end else h.end }

-- the redo position and the page's position before, as the backend had them when the record was
-- made, if it had both
abbrev pub test_of : Option ℕ → Option Page → Option ImageTest
test_of (Some redo) (Some before) = Some (record { redo = redo; before = lsn_of before })
test_of _ _ = None

-- what a write says of its record in the log
abbrev pub logged_as : Change → Option ℕ → Option Page → WriteRecord
logged_as c redo before = record { size = change_size c; test = test_of redo before }

-- a view that has written the page p of the block of a tag, and had copied the page `before`, if
-- any; its record is part of the log now
abbrev pub has_written : Change → Option Page → ℕ → ℕ → Page → View → View
has_written c before end tag p v = record v {
  calls = v.calls ++ Write v.number tag p end (logged_as c v.log.redo before) ∷ [];
  front = end;
  end_seen = max v.end_seen end;
  log = record v.log { appended = None; end = Some end };
}

-- a checkpoint that begins has visited no frame, and none is left for it to write
abbrev pub unmarked : Link → Link
unmarked l = record l { visited = false; left_to_write = false }

-- a view that has read the page p of the block of a tag: the place of the read is `end`
abbrev pub has_read : ℕ → ℕ → Page → View → View
has_read end tag p v = record v {
  calls = v.calls ++ Read v.number tag p end ∷ [];
  front = end;
  end_seen = max v.end_seen end;
  place_loads = v.place_loads + 1;
}

-- a view that has seen how many blocks a fork has: the place of that is `end`
abbrev pub has_seen_size : ℕ → ℕ → ℕ → View → View
has_seen_size end fork blocks v = record v {
  calls = v.calls ++ Sized v.number fork blocks end ∷ [];
  front = end;
  end_seen = max v.end_seen end;
  place_loads = v.place_loads + 1;
}

-- what a kind sees that loads its word, if it finds the number `found` there; none for the other
-- kinds
abbrev pub seen_by : WordKind → ℕ → Option LoadedWord
seen_by load_end found = Some (seen.LogEnd found)
seen_by begin_checkpoint found = Some (seen.LogEnd found)
seen_by load_flushed found = Some (seen.Flushed found)
seen_by load_redo found = Some (seen.Redo found)
seen_by load_hand found = Some (seen.Hand found)
seen_by (load_counter number) found = Some (seen.Count number found)
seen_by (load_hint number) found = Some (seen.Hint number found)
seen_by _ found = None

-- a view's loads, and one more if something was seen
abbrev pub loads_with : Option LoadedWord → View → List Load
loads_with (Some seen) v = v.loads ++ load_of v seen ∷ []
loads_with None v = v.loads

-- the number of steps other than loads: one more, if nothing was seen
abbrev pub steps_with : Option LoadedWord → ℕ → ℕ
steps_with (Some seen) n = n
steps_with None n = n + 1

-- what a kind makes of what the view has at frames: as a checkpoint begins, none is visited or left
-- to write
abbrev pub links_by : WordKind → List Link → List Link
links_by begin_checkpoint l = map unmarked l
links_by _ l = l

-- what a kind makes of the log end at which the view's checkpoint began
abbrev pub upto_by : WordKind → ℕ → ℕ → ℕ
upto_by begin_checkpoint found n = found
upto_by _ found n = n

-- what a kind makes of the log's end that the view keeps with the log's latch
abbrev pub log_end_by : WordKind → ℕ → LogHold → Option ℕ
log_end_by load_end found h = if h.held then Some found else h.end
log_end_by _ found h = h.end

-- what a kind makes of the redo position that the view keeps with the log's latch: it is forgotten
-- once it is raised
abbrev pub redo_by : WordKind → ℕ → LogHold → Option ℕ
redo_by load_redo found h = Some found
redo_by raise_redo found h = None
redo_by _ found h = h.redo

-- what a kind makes of the largest log end that the view has seen
abbrev pub end_seen_by : WordKind → ℕ → ℕ → ℕ
end_seen_by load_end found n = max n found
end_seen_by begin_checkpoint found n = max n found
end_seen_by _ found n = n

-- what a kind makes of the flushed position that the view has loaded
abbrev pub flushed_by : WordKind → ℕ → ℕ → ℕ
flushed_by load_flushed found n = found
flushed_by _ found n = n

-- what a kind makes of the largest position to which the view raised the flushed position: it is
-- raised to the log's end
abbrev pub raised_by : WordKind → ℕ → ℕ → ℕ
raised_by raise_flushed end n = max n end
raised_by _ end n = n

-- what a kind makes of the list of positions to which the view raised the redo position
abbrev pub redo_raised_by : WordKind → ℕ → List ℕ → List ℕ
redo_raised_by raise_redo end raised = raised ++ end ∷ []
redo_raised_by _ end raised = raised

-- what a kind makes of the number of times that the view moved the clock's hand on
abbrev pub ticks_by : WordKind → ℕ → ℕ
ticks_by add_hand n = n + 1
ticks_by _ n = n

-- what a kind makes of the view's list of stores of hint words: what was found in the word, and
-- what was left there
abbrev pub hints_by : WordKind → ℕ → List HintStore → List HintStore
hints_by (store_hint number value) found hs = hs
    ++ record { number = number; found = found; left = value } ∷ []
hints_by _ found hs = hs

-- what a kind makes of the view's list of additions to counters
abbrev pub published_by : WordKind → List Published → List Published
published_by (add_counter number more) ps = ps ++ record { count = number; more = more } ∷ []
published_by _ ps = ps

-- What a kind makes of the view v that finds the number `found` in its word, if the log ends at
-- `end`
abbrev pub view_after_word : WordKind → ℕ → ℕ → View → View
view_after_word k found end v = record v {
  links = links_by k v.links;
  log = record v.log { end = log_end_by k found v.log; redo = redo_by k found v.log };
  flushed = flushed_by k found v.flushed;
  raised_to = raised_by k end v.raised_to;
  redo_raised = redo_raised_by k end v.redo_raised;
  end_seen = end_seen_by k found v.end_seen;
  steps = steps_with (seen_by k found) v.steps;
  ticks = ticks_by k v.ticks;
  loads = loads_with (seen_by k found) v;
  hints = hints_by k found v.hints;
  published = published_by k v.published;
  upto = upto_by k found v.upto;
}

-- what a kind makes of the view v in the state s
abbrev pub after_word : WordKind → State → View → View
after_word k s v = view_after_word k (word_of (word_at k) s) s.end v

-- a view that has loaded the log's end
abbrev pub has_loaded : ℕ → View → View
has_loaded end v = view_after_word load_end end end v

-- a view that has raised the flushed position to the log's end
abbrev pub has_raised : ℕ → View → View
has_raised end v = view_after_word raise_flushed end end v

-- The state in which backend i has the view w, and the word has the number, unless it is the log's
-- end, which no kind changes
abbrev pub state_set : Word → ℕ → State → ℕ → View → State
state_set at number s i w = record s {
  pool = aside s.pool i w;
  flushed = word_set at number s flushed_word;
  redo = word_set at number s redo_word;
  hand = word_set at number s hand_word;
  counter = λ j. word_set at number s (counter_word j);
  hint = λ j. word_set at number s (hint_word j);
}

-- the state after a step of the kind k at its word by backend i, whose view is v
abbrev pub state_after_word : WordKind → State → ℕ → View → State
state_after_word k s i v = state_set (word_at k) (number_after k s) s i (after_word k s v)

-- An event leads from one state to another
pub data Step : Event → State → State → Type 0 where
  -- a step of `page_core`
  pools : {s : State} {e : page_steps.Event} {pool' : page.State} → page_steps.Step e s.pool pool'
      → PoolAllowed e
      → Step (pool e) s (record s { pool = pool' })
  -- a step at the lane n by backend i, whose view is v
  lanes : {s : State} (i n : ℕ) (k : LaneKind) (v : View) → get_elem? s.pool.core.views i ≡ some v
      → v.emptied ≡ false → n < s.lanes → LaneAllowed k (s.lane n) (lane_hold v n)
      → LaneAlone k s n (lane_hold v n)
      → Step (lane i n k) s (record s {
        pool = aside s.pool i (stepped (laned k n v v));
        lane = put s.lane n (lane_after k (s.lane n));
      })
  -- a write of the page of the frame f to the lane n by backend i, whose view is v
  writes : {s : State} (i n f : ℕ) (k : LaneKind) (v : View)
      → get_elem? s.pool.core.views i ≡ some v → v.emptied ≡ false → n < s.lanes
      → f < s.pool.core.frames → LaneAllowed k (s.lane n) (lane_hold v n)
      → MayWriteLane k s n f (lane_hold v n) (link v f)
      → Step (write i n f k) s (record s {
        pool = pool_after begin_write s.pool i f (laned k n v (paged begin_write s.pool f v));
        lane = put s.lane n (lane_after k (s.lane n));
      })
  -- the lane n comes back from backend i, whose view is v, and what was read or written is noted at
  -- the frame f
  notes : {s : State} (i n f : ℕ) (noted : Bool) (k : Kind) (v : View)
      → get_elem? s.pool.core.views i ≡ some v → v.emptied ≡ false → n < s.lanes
      → f < s.pool.core.frames → LaneAllowed (lane_back noted) (s.lane n) (lane_hold v n)
      → Notes k s n f (lane_hold v n) (link v f)
      → Step (note i n f (lane_back noted) k) s (record s {
        pool = pool_after k (pool_noting k s f) i f
            (laned (lane_back noted) n v (paged k (pool_noting k s f) f v));
        lane = put s.lane n (lane_after (lane_back noted) (s.lane n));
      })
  -- a step at the log by backend i, whose view is v
  logs : {s : State} (i : ℕ) (k : LogKind) (v : View) → get_elem? s.pool.core.views i ≡ some v
      → v.emptied ≡ false → LogAllowed k s.device v.log → AppendsRecord k s v
      → Step (log i k) s (record s {
        pool = aside s.pool i (view_logged k v);
        device = device_after k s.end s.device;
      })
  -- backend i, whose view is v, makes an entry of the page p of the frame f
  enters : {s : State} (i f : ℕ) (p : Page) (c : Change) (v : View)
      → get_elem? s.pool.core.views i ≡ some v → v.emptied ≡ false → f < s.pool.core.frames
      → CanEnter s f p c v
      → Step (enter i f p c) s (let tag = (s.pool.core.frame f).tag in
      let end = s.end + change_size c in record s {
        pool = pool_after (make_entry p) s.pool i f
            (has_written c (link v f).copied end tag p (paged (make_entry p) s.pool f v));
        log = record s.log { entries = s.log.entries ++ new_entry s v.number c ∷ [] };
        end = end;
      })
  -- backend i, whose view is v, gives the read of the page p its place
  reads : {s : State} (i f tag : ℕ) (p : Page) (v : View) → get_elem? s.pool.core.views i ≡ some v
      → v.emptied ≡ false → f < s.pool.core.frames → CanRead tag p (link v f)
      → Step (read i f) s (record s {
        pool = aside s.pool i (looked (seen.LogEnd s.end) (has_read s.end tag p v));
      })
  -- backend i, whose view is v, gives the size at which it keeps the fork its place
  reads_size : {s : State} (i fork : ℕ) (v : View) → get_elem? s.pool.core.views i ≡ some v
      → v.emptied ≡ false → (size_hold v fork).right ≡ size_right.Shared
      → Step (read_size i fork) s (record s {
        pool = aside s.pool i
            (looked (seen.LogEnd s.end) (has_seen_size s.end fork (size_hold v fork).blocks v));
      })
  -- a step at one of the other words by backend i, whose view is v
  words : {s : State} (i : ℕ) (k : WordKind) (v : View) → get_elem? s.pool.core.views i ≡ some v
      → v.emptied ≡ false → WordAllowed k s v
      → Step (word i k) s (state_after_word k s i v)

-- The events lead from one state to the other
pub data Run : List Event → State → State → Type 0 where
  -- the empty list leads from a state to itself
  rests : {s : State} → Run [] s s
  -- the first event leads to a state from which the others lead on
  goes : {e : Event} {es : List Event} {s t u : State} → Step e s t → Run es t u → Run (e ∷ es) s u
