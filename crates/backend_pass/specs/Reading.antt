-- How a pass reads a block, and what it is refused for.
use Rattle.std.specs.Prelude.{◌≡◌, ℕ, ◌+◌, ◌<◌, nat_lt, nat_eq, Bool, true, false, List, [], ◌∷◌}
use Rattle.std.specs.Prelude.{Option, Some, None, Result, Ok, Err, if◌then◌else◌, is_some}
use Rattle.block_tag.specs.declared.catalogue.RelEntry.{RelEntry}
use Rattle.block_tag.specs.declared.tag.Tag.{Tag}
use Rattle.block_tag.specs.Catalogue.{blocks_at}
use Rattle.block_tag.specs.Names.{lane_number, names_block, packed_tag}
use Rattle.segment_store.specs.Contents.{Pages}
use Rattle.pin_core.specs.declared.view.Content.TheVariants.{Unlocked}
use Rattle.pin_core.specs.declared.view.DeviceCall.TheVariants.{LaneRead}
use Rattle.pin_core.specs.declared.view.FailedCalls.{FailedCalls}
use Rattle.pin_core.specs.declared.view.View.{View}
use Rattle.pin_core.specs.State.{link}
use Rattle.table_rule.specs.Blocks.{has_block}
use Rattle.clock_sweep.specs.CensusList.{CensusList, new_census}
use Rattle.frame_table.specs.declared.table.FrameTable.{FrameTable}
use Rattle.frame_table.specs.Opened.{WasSoundAtOpening}
use Rattle.frame_table.specs.Seats.{frames_of, lanes_in, relations_of}
use Rattle.wal_flush.specs.declared.flushes.FlushLog.TheVariants as log
use Rattle.buffer_frames.specs.Tokens.{Tokens, count_of, held_at, tokens_with}
use Rattle.buffer_frames.specs.declared.flushing.FrameFlushError.TheVariants as flush
use Rattle.buffer_frames.specs.declared.hinting.HintSeen.{HintSeen}
use Rattle.buffer_frames.specs.declared.victims.VictimError.{VictimError}
use Rattle.buffer_frames.specs.declared.victims.VictimError.TheVariants as victim
use Rattle.buffer_frames.specs.declared.reading.BlockError.{BlockError}
use Rattle.buffer_frames.specs.declared.reading.BlockError.TheVariants as block
use Rattle.buffer_frames.specs.declared.fetching.FetchError.TheVariants as fetch
use Rattle.buffer_frames.specs.Fetching.{WasUnsoundAtOpening, fetched_by, fetch_calls}
use Rattle.access_rings.specs.RingState.{RingState}
use Rattle.io_counts.specs.declared.contexts.ContextCounts.{ContextCounts}
use Rattle.io_counts.specs.Counts.{context_of, counts_sum, no_counts}
use Rattle.buffer_frames.specs.Counting.{CountsIo}
use Rattle.buffer_frames.specs.Reads.{GetsNoVictim, KeptOrEmptied, Locates, LocatesUnread}
use Rattle.buffer_frames.specs.Reads.{hit_of, located_by, missed_by}
use Rattle.buffer_frames.specs.VictimChoices.{ChoiceState, choice_state}
use Rattle.buffer_frames.specs.Victims.{VictimRefused}
use Rattle.buffer_frames.specs.Working.{met_log, met_read, met_write}
use Rattle.backend_pass.specs.declared.errors.ReadError.{ReadError}
use Rattle.backend_pass.specs.declared.errors.ReadError.TheVariants.{PastEnd, PinsFull, NoUnpinned}
use Rattle.backend_pass.specs.declared.errors.ReadError.TheVariants.{ReadFault, WriteFault}
use Rattle.backend_pass.specs.declared.errors.ReadError.TheVariants.{LogFault, LogDown, LogShort}
use Rattle.backend_pass.specs.declared.errors.ReadError.TheVariants.{Unsound}
use Rattle.backend_pass.specs.declared.met.Met as shown
use Rattle.backend_pass.specs.declared.met.Shown.{Shown}
use Rattle.backend_pass.specs.declared.pinned.Pinned.{Pinned}
use Rattle.backend_pass.specs.FrameFlushes.{WasWithin}
use Rattle.buffer_frames.specs.Outside.{shown_count}
use Rattle.backend_pass.specs.Passes.{NoDeviceFails, PassState}

-- a hit is counted if the block is answered as one
abbrev pub reading_hits : Result Pinned ReadError → ContextCounts
reading_hits (Ok pinned) = hit_of (fetched_by pinned.hit)
reading_hits (Err why) = no_counts

-- what is refused before anything is looked at: a block past the end of its fork, and then one
-- token too many
abbrev pub refused_at_once : List RelEntry → Tokens → Tag → Option ReadError
refused_at_once relations tokens tag =
    if nat_lt tag.block (blocks_at relations tag.rel.0 tag.fork)
    then (if nat_eq (count_of tokens) 8 then Some PinsFull else None)
    else Some (PastEnd tag.block (blocks_at relations tag.rel.0 tag.fork))

-- what an answer refuses at once
abbrev pub at_once_of : Result Pinned ReadError → Option ReadError
at_once_of (Err (PastEnd block blocks)) = Some (PastEnd block blocks)
at_once_of (Err PinsFull) = Some PinsFull
at_once_of _ = None

-- what a pass is refused for that reads the tag's block, by the refusal of its frames
abbrev pub read_refusal : Tag → BlockError → ReadError
read_refusal tag (block.NoFrame (victim.NoUnpinned frames)) = NoUnpinned frames
read_refusal tag (block.NoFrame (victim.Flush (flush.WriteFault written))) = WriteFault written
read_refusal tag (block.NoFrame (victim.Flush (flush.Log log.LogFault))) = LogFault
read_refusal tag (block.NoFrame (victim.Flush (flush.Log (log.LogDown at)))) = LogDown at
read_refusal tag (block.NoFrame (victim.Flush (flush.Log (log.LogShort lsn end)))) =
    LogShort lsn end
read_refusal tag (block.Unread fetch.ReadFault) = ReadFault tag
read_refusal tag (block.Unread fetch.Unsound) = Unsound tag

-- the faults that were met, by the refusal, and by the answer
abbrev pub met_read_refused : ReadError → FailedCalls → FailedCalls
met_read_refused (PastEnd block blocks) m = m
met_read_refused PinsFull m = m
met_read_refused (NoUnpinned frames) m = m
met_read_refused (ReadFault tag) m = met_read m
met_read_refused (WriteFault tag) m = met_write m
met_read_refused LogFault m = met_log m
met_read_refused (LogDown at) m = m
met_read_refused (LogShort lsn end) m = m
met_read_refused (Unsound tag) m = m

abbrev pub met_reading : Result Pinned ReadError → FailedCalls → FailedCalls
met_reading (Ok pinned) m = m
met_reading (Err why) m = met_read_refused why m

-- what is shown after a refusal
abbrev pub met_shown : ReadError → shown.Met → shown.Met
met_shown (PastEnd block blocks) m = m
met_shown PinsFull m = m
met_shown (NoUnpinned frames) m = m
met_shown (ReadFault tag) m = record m { reads = shown_count (m.reads + 1) }
met_shown (WriteFault tag) m = record m { writes = shown_count (m.writes + 1) }
met_shown LogFault m = record m { logs = shown_count (m.logs + 1) }
met_shown (LogDown at) m = m
met_shown (LogShort lsn end) m = m
met_shown (Unsound tag) m = m

abbrev pub shown_after : ReadError → Shown → Shown
shown_after why s = record s { met = met_shown why s.met }

-- What a read leaves of the census, which has room for the words of n frames. A read that chooses a
-- victim empties it, and leaves it empty if the victim's flush is refused; one that chooses none
-- leaves it as it was. If all frames are pinned the refusal tells the words
abbrev pub ReadingCensus : ℕ → CensusList → CensusList → Result Pinned ReadError → Type 0
ReadingCensus n c d (Ok pinned) = KeptOrEmptied n c d
ReadingCensus n c d (Err (PastEnd block blocks)) = d ≡ c
ReadingCensus n c d (Err PinsFull) = d ≡ c
ReadingCensus n c d (Err (NoUnpinned frames)) = Unit {0}
ReadingCensus n c d (Err (ReadFault failed)) = KeptOrEmptied n c d
ReadingCensus n c d (Err (WriteFault failed)) = d ≡ new_census n
ReadingCensus n c d (Err LogFault) = d ≡ new_census n
ReadingCensus n c d (Err (LogDown at)) = d ≡ new_census n
ReadingCensus n c d (Err (LogShort lsn end)) = d ≡ new_census n
ReadingCensus n c d (Err (Unsound failed)) = KeptOrEmptied n c d

-- The block is pinned, or its page isn't sound, or all frames are pinned
abbrev pub IsReadUnsoundOrAllPinned : Result Pinned ReadError → Type 0
IsReadUnsoundOrAllPinned (Ok pinned) = Unit {0}
IsReadUnsoundOrAllPinned (Err (Unsound failed)) = Unit {0}
IsReadUnsoundOrAllPinned (Err (NoUnpinned frames)) = Unit {0}
IsReadUnsoundOrAllPinned _ = ⊥

-- The block is pinned, or its page isn't sound, or all frames are pinned, or a victim's page is
-- past the log's end
abbrev pub IsReadUnsoundAllPinnedOrShort : Result Pinned ReadError → Type 0
IsReadUnsoundAllPinnedOrShort (Err (LogShort lsn end)) = Unit {0}
IsReadUnsoundAllPinnedOrShort r = IsReadUnsoundOrAllPinned r

module _ {L G : Type 0} (contents : L → Option Pages) (t : FrameTable L G) where
  -- No device fails while a block is read, and no page is one that can't be written
  pub record NothingFails (p q : PassState) : Type 0 where
    -- no sound page that a lane can have held as the table was opened had a position past the end
    -- of the log that the pass had seen
    pub within : (other : Tag) → names_block other ≡ true → has_block (relations_of t) other ≡ true
        → WasWithin contents t other p.view.end_seen
    pub devices : NoDeviceFails p q

  -- By a pass that has these tokens, and saw this of the block's hint; the choice's state was c,
  -- and is d. The lane was read for the block if the answer says so, and no other lane. If neither
  -- the hint nor the map gave a frame for it at first, all else was done after that.
  module _ (tag : Tag) (held : Tokens) (ring : Bool) (seen : HintSeen) (c d : ChoiceState) where
    abbrev pub ReadingCalls : ℕ → View → View → Result Pinned ReadError → Type 0
    ReadingCalls lane v w (Ok pinned) = Locates contents t tag held ring seen c d pinned.frame
        (fetch_calls lane (packed_tag tag) (Ok (fetched_by pinned.hit))) v w
    ReadingCalls lane v w (Err (PastEnd block blocks)) = ⊥
    ReadingCalls lane v w (Err PinsFull) = ⊥
    ReadingCalls lane v w (Err (ReadFault failed)) = (f : ℕ)
        × LocatesUnread contents t tag held ring seen c d fetch.ReadFault
        (LaneRead lane (packed_tag tag) false ∷ []) v w f
    ReadingCalls lane v w (Err (Unsound failed)) = (f : ℕ)
        × LocatesUnread contents t tag held ring seen c d fetch.Unsound
        (LaneRead lane (packed_tag tag) true ∷ []) v w f
    ReadingCalls lane v w (Err (NoUnpinned frames)) = GetsNoVictim contents t tag held ring seen c d
        (victim.NoUnpinned frames) v w
    ReadingCalls lane v w (Err (WriteFault failed)) = GetsNoVictim contents t tag held ring seen c d
        (victim.Flush (flush.WriteFault failed)) v w
    ReadingCalls lane v w (Err LogFault) = GetsNoVictim contents t tag held ring seen c d
        (victim.Flush (flush.Log log.LogFault)) v w
    ReadingCalls lane v w (Err (LogDown at)) = GetsNoVictim contents t tag held ring seen c d
        (victim.Flush (flush.Log (log.LogDown at))) v w
    ReadingCalls lane v w (Err (LogShort lsn end)) = GetsNoVictim contents t tag held ring seen c d
        (victim.Flush (flush.Log (log.LogShort lsn end))) v w

    -- what is counted of the tags that victims lost as the block was looked up
    abbrev pub reading_by : (lane : ℕ) (v w : View) (r : Result Pinned ReadError)
        → ReadingCalls lane v w r → ContextCounts
    reading_by lane v w (Ok pinned) x = located_by contents t tag held ring seen c d x
    reading_by lane v w (Err (PastEnd block blocks)) x = no_counts
    reading_by lane v w (Err PinsFull) x = no_counts
    reading_by lane v w (Err (ReadFault failed)) x =
        located_by contents t tag held ring seen c d x.1.0
    reading_by lane v w (Err (Unsound failed)) x =
        located_by contents t tag held ring seen c d x.1.0
    reading_by lane v w (Err (NoUnpinned frames)) x = missed_by contents t tag held ring seen c d
        (victim.NoUnpinned frames) v w x
    reading_by lane v w (Err (WriteFault failed)) x = missed_by contents t tag held ring seen c d
        (victim.Flush (flush.WriteFault failed)) v w x
    reading_by lane v w (Err LogFault) x = missed_by contents t tag held ring seen c d
        (victim.Flush (flush.Log log.LogFault)) v w x
    reading_by lane v w (Err (LogDown at)) x = missed_by contents t tag held ring seen c d
        (victim.Flush (flush.Log (log.LogDown at))) v w x
    reading_by lane v w (Err (LogShort lsn end)) x = missed_by contents t tag held ring seen c d
        (victim.Flush (flush.Log (log.LogShort lsn end))) v w x

  -- No frame was freed for a block, for this reason, once neither its hint nor the map gave one
  pub record LacksFrame (p q : PassState) (why : VictimError) : Type 0 where
    pub missed : View
    pub before : ChoiceState
    pub after : ChoiceState
    pub census : after.census ≡ q.census
    pub refused : VictimRefused contents t p.view missed before q.view after why

  -- why a block was not read that was looked up: all frames were pinned; a victim's page was not
  -- written; or the block's own page was not read, or isn't sound, and wasn't as the table was
  -- opened, if that is known
  abbrev pub ReadingRefused : Tag → PassState → PassState → ReadError → Type 0
  ReadingRefused tag p q (PastEnd block blocks) = ⊥
  ReadingRefused tag p q PinsFull = ⊥
  ReadingRefused tag p q (NoUnpinned frames) = LacksFrame p q (victim.NoUnpinned frames)
  ReadingRefused tag p q (ReadFault failed) = failed ≡ tag
  ReadingRefused tag p q (WriteFault failed) =
      LacksFrame p q (victim.Flush (flush.WriteFault failed))
  ReadingRefused tag p q LogFault = LacksFrame p q (victim.Flush (flush.Log log.LogFault))
  ReadingRefused tag p q (LogDown at) = LacksFrame p q (victim.Flush (flush.Log (log.LogDown at)))
  ReadingRefused tag p q (LogShort lsn end) = LacksFrame p q
      (victim.Flush (flush.Log (log.LogShort lsn end)))
  ReadingRefused tag p q (Unsound failed) = (failed ≡ tag) × WasUnsoundAtOpening contents t tag

  -- The block is pinned with its first token, BM_VALID was seen, no content lock is held there, and
  -- the block was sound as the table was opened, if that is known
  pub record PinsFirst (tag : Tag) (p q : PassState) (pinned : Pinned) : Type 0 where
    pub named : pinned.tag ≡ tag
    pub tokens : q.tokens ≡ tokens_with pinned.frame (packed_tag tag) p.tokens
    pub new : held_at p.tokens pinned.frame ≡ None
    pub inside : pinned.frame < frames_of t
    pub seen : (link q.view pinned.frame).seen_valid ≡ true
    pub unlocked : (link q.view pinned.frame).content ≡ Unlocked
    pub sound : WasSoundAtOpening contents t tag

  -- the answer for a block that was looked up
  abbrev pub ReadingAnswer : Tag → PassState → PassState → Result Pinned ReadError → Type 0
  ReadingAnswer tag p q (Ok pinned) = PinsFirst tag p q pinned
  ReadingAnswer tag p q (Err why) = (q.tokens ≡ p.tokens) × ReadingRefused tag p q why

  -- A block was looked up, with this answer and these calls of devices. The ring, if one was given,
  -- is `after` now. In the context of the ring, or of none, a hit is counted if the block is
  -- answered as one, and each read and write of a lane that was done, and each tag that was taken
  -- from a victim
  pub record ReadsBlock (tag : Tag) (ring after : Option RingState) (p q : PassState)
      (r : Result Pinned ReadError) : Type 0 where
    pub answer : ReadingAnswer tag p q r
    pub calls : ReadingCalls tag p.tokens (is_some ring) q.hint (choice_state p.queue ring p.census)
        (choice_state q.queue after q.census) (lane_number tag (lanes_in t)) p.view q.view r
    pub counts : CountsIo (context_of ring) (counts_sum (reading_by tag p.tokens (is_some ring)
        q.hint (choice_state p.queue ring p.census) (choice_state q.queue after q.census)
        (lane_number tag (lanes_in t)) p.view q.view r calls) (reading_hits r)) p.view q.view p.io
        q.io
