-- How a worker reads a block.
use Rattle.std.specs.Prelude.{◌≡◌, ℕ, ◌≤◌, Bool, true, false, List, [], ◌∷◌, ◌++◌, Option, Some}
use Rattle.std.specs.Prelude.{None, Result, Ok, Err}
use Rattle.block_tag.specs.declared.tag.Fork.{Fork}
use Rattle.block_tag.specs.declared.tag.Tag.{Tag}
use Rattle.block_tag.specs.Names.{lane_number, packed_tag, tag_of_parts}
use Rattle.page_layout.specs.Soundness.{is_sound_page}
use Rattle.segment_store.specs.Contents.{Pages}
use Rattle.pin_core.specs.declared.view.Call.{Call}
use Rattle.pin_core.specs.declared.view.Call.TheVariants.{Read}
use Rattle.pin_core.specs.declared.view.DeviceCall.{DeviceCall}
use Rattle.pin_core.specs.declared.view.DeviceCall.TheVariants.{LaneRead}
use Rattle.pin_core.specs.declared.view.Content.TheVariants.{Unlocked}
use Rattle.pin_core.specs.State.{Page}
use Rattle.frame_table.specs.Opened.{WasAtOpening}
use Rattle.frame_table.specs.Seats.{OnlyRises, base_of, lanes_in}
use Rattle.buffer_frames.specs.Tokens.{IsPinnedFor, no_tokens, tokens_less}
use Rattle.buffer_frames.specs.Fetching.{WasUnsoundAtOpening}
use Rattle.backend_pass.specs.declared.errors.ReadError.{ReadError}
use Rattle.backend_pass.specs.declared.errors.ReadError.TheVariants as read
use Rattle.backend_pass.specs.declared.manager.Manager.{Manager}
use Rattle.backend_pass.specs.declared.pinned.Pinned.{Pinned}
use Rattle.backend_pass.specs.Locks.{HasLock}
use Rattle.backend_pass.specs.Managers.{Belongs}
use Rattle.buffer_frames.specs.PageReads.{ReadsPage}
use Rattle.backend_pass.specs.Passes.{KeepsCalls, KeepsLocks, KeepsMark, PassState, SamePass}
use Rattle.backend_pass.specs.Reading.{ReadingRefused, met_read_refused}
use Rattle.page_jobs.specs.declared.ending.JobError.{JobError}
use Rattle.page_jobs.specs.declared.ending.JobError.TheVariants.{ReadFault, WriteFault, LogFault}
use Rattle.page_jobs.specs.declared.ending.JobError.TheVariants.{LogDown, LogShort}
use Rattle.page_jobs.specs.declared.reading.PageRead.{PageRead}
use Rattle.page_jobs.specs.declared.reading.PageRead.TheVariants.{Sound, Unsound}
use Rattle.page_jobs.specs.Printed.{BlockRead, copied, unsound}

-- whether each frame was pinned
abbrev pub is_crowding : ReadError → Bool
is_crowding (read.NoUnpinned frames) = true
is_crowding _ = false

-- whether a read is given up for this reason, by a worker that has no token and reads a block of
-- the relation
abbrev pub is_tried_once : ReadError → Bool
is_tried_once (read.PastEnd block blocks) = false
is_tried_once read.PinsFull = false
is_tried_once (read.NoUnpinned frames) = false
is_tried_once _ = true

-- what ends a job, by the refusal of a read: a page that isn't sound ends none
abbrev pub fault_of_refusal : ReadError → Option JobError
fault_of_refusal (read.PastEnd block blocks) = None
fault_of_refusal read.PinsFull = None
fault_of_refusal (read.NoUnpinned frames) = None
fault_of_refusal (read.ReadFault tag) = Some (ReadFault tag)
fault_of_refusal (read.WriteFault tag) = Some (WriteFault tag)
fault_of_refusal read.LogFault = Some LogFault
fault_of_refusal (read.LogDown at) = Some (LogDown at)
fault_of_refusal (read.LogShort lsn end) = Some (LogShort lsn end)
fault_of_refusal (read.Unsound tag) = None

-- how many blocks a read finds, by the refusal, and by the answer: one, if the page was in the pool
-- or came from its lane, sound or not
abbrev pub found_refused : ReadError → ℕ
found_refused (read.Unsound tag) = 1
found_refused _ = 0

abbrev pub found_by : {A : Type 0} → Result A ReadError → ℕ
found_by (Ok done) = 1
found_by (Err why) = found_refused why

-- the calls of a backend that reads these blocks of a fork one after the other, and finds this: one
-- for each sound page
abbrev pub calls_of_reads : ℕ → ℕ → Fork → List ℕ → List BlockRead → List Call
calls_of_reads backend rel fork blocks [] = []
calls_of_reads backend rel fork [] (r ∷ rs) = []
calls_of_reads backend rel fork (b ∷ blocks) (copied page place ∷ rs) =
    Read backend (packed_tag (tag_of_parts rel fork b)) page place
    ∷ calls_of_reads backend rel fork blocks rs
calls_of_reads backend rel fork (b ∷ blocks) (unsound ∷ rs) =
    calls_of_reads backend rel fork blocks rs

module _ {L G : Type 0} (contents : L → Option Pages) (m : Manager L G) where
  -- What reads leave of a pass: it is the same one, its mark and its content locks are as they
  -- were, and its front isn't before the old one
  pub record Stays (p q : PassState) : Type 0 where
    pub belongs : Belongs contents m q
    pub same : SamePass p q
    pub mark : KeepsMark p q
    pub locks : KeepsLocks p q
    pub front : p.view.front ≤ q.view.front

  -- The block is pinned, with the only token that the pass has
  pub record PinsOne (tag : Tag) (p q : PassState) (pinned : Pinned) : Type 0 where
    pub stays : Stays p q
    pub calls : KeepsCalls p q
    pub met : q.view.met ≡ p.view.met
    pub tag_is : pinned.tag ≡ tag
    pub token : IsPinnedFor tag pinned.frame q.tokens
    pub last : tokens_less pinned.frame q.tokens ≡ no_tokens
    pub unlocked : HasLock Unlocked pinned.frame q

  -- if a lane failed to read the block, no device was called after that
  abbrev pub EndsAtRead : Tag → PassState → ReadError → Type 0
  EndsAtRead tag q (read.ReadFault failed) =
      (calls : List DeviceCall)
      × (q.view.device_calls
      ≡ calls ++ LaneRead (lane_number tag (lanes_in m.table)) (packed_tag tag) false ∷ [])
  EndsAtRead tag q why = Unit {0}

  -- The block wasn't read, for this reason, and the pass has no token
  pub record RefusesBlock (tag : Tag) (p q : PassState) (why : ReadError) : Type 0 where
    pub stays : Stays p q
    pub spent : q.tokens ≡ no_tokens
    pub calls : q.view.calls ≡ p.view.calls
    pub once : is_tried_once why ≡ true
    -- what the last try found, and what it found before it
    pub before : PassState
    pub since : OnlyRises p.view before.view
    pub refused : ReadingRefused contents m.table tag before q why
    pub last : EndsAtRead tag q why
    pub met : q.view.met ≡ met_read_refused why p.view.met

  -- The block's page was copied, by one read, and the pass has no token
  pub record CopiesBlock (tag : Tag) (page : Page) (p q : PassState) : Type 0 where
    pub stays : Stays p q
    pub spent : q.tokens ≡ no_tokens
    pub met : q.view.met ≡ p.view.met
    pub reads : ReadsPage contents m.table tag page q.view.front p.view q.view

  -- The page that the lane gave isn't sound, and wasn't as the table was opened, if that is known
  pub record FindsUnsound (tag : Tag) (p q : PassState) : Type 0 where
    pub stays : Stays p q
    pub spent : q.tokens ≡ no_tokens
    pub calls : q.view.calls ≡ p.view.calls
    pub met : q.view.met ≡ p.view.met
    pub unsound : WasUnsoundAtOpening contents m.table tag

  -- The block was read, with no fault: its page was copied, or isn't sound
  abbrev pub CopiesOrFindsUnsound : Tag → Page → PassState → PassState → PageRead → Type 0
  CopiesOrFindsUnsound tag page p q Sound = CopiesBlock tag page p q
  CopiesOrFindsUnsound tag page p q Unsound = FindsUnsound tag p q

  -- The read of a block was refused, which is why the job ends
  pub record StopsAt (tag : Tag) (p q : PassState) (e : JobError) : Type 0 where
    pub why : ReadError
    pub fault : fault_of_refusal why ≡ Some e
    pub refuses : RefusesBlock tag p q why

  -- What is known of what was read of a block: a copy is sound, its place isn't before the log's
  -- base, and at the base it is the page that the lane held as the table was opened, if that is
  -- known; a page that isn't sound wasn't then
  abbrev pub IsKnown : Tag → BlockRead → Type 0
  IsKnown tag (copied page place) =
      (is_sound_page page ≡ true) × (base_of m.table ≤ place)
      × (place ≡ base_of m.table → WasAtOpening contents m.table tag page)
  IsKnown tag unsound = WasUnsoundAtOpening contents m.table tag

-- a copy's place isn't past this front
abbrev pub IsWithinFront : ℕ → BlockRead → Type 0
IsWithinFront front (copied page place) = place ≤ front
IsWithinFront front unsound = Unit {0}
