-- How a block is read.
use Rattle.std.specs.Prelude.{◌≡◌, ◌⊎◌, ℕ, ◌<◌, Bool, true, Some, List, [], ◌++◌, Option}
use Rattle.std.specs.Prelude.{Result, Ok, Err}
use Rattle.std.specs.List.{All}
use Rattle.access_rings.specs.declared.ring.RingKind.{RingKind}
use Rattle.block_tag.specs.declared.tag.Tag.{Tag}
use Rattle.block_tag.specs.Names.{packed_tag}
use Rattle.segment_store.specs.Contents.{Pages}
use Rattle.pin_core.specs.declared.view.DeviceCall.{DeviceCall}
use Rattle.pin_core.specs.declared.view.FailedCalls.{FailedCalls}
use Rattle.pin_core.specs.declared.view.HintStore.{HintStore}
use Rattle.pin_core.specs.declared.view.View.{View}
use Rattle.pin_core.specs.State.{link}
use Rattle.io_counts.specs.declared.contexts.ByContext.{ByContext}
use Rattle.io_counts.specs.declared.contexts.ContextCounts.{ContextCounts}
use Rattle.io_counts.specs.declared.contexts.IoEvent.TheVariants as event
use Rattle.io_counts.specs.Counts.{counts_sum, no_counts, one_of}
use Rattle.clock_sweep.specs.CensusList.{CensusList, new_census}
use Rattle.frame_table.specs.declared.pin.Pin.{Pin}
use Rattle.frame_table.specs.declared.table.FrameTable.{FrameTable}
use Rattle.frame_table.specs.Opened.{WasSoundAtOpening}
use Rattle.frame_table.specs.Seats.{OnlyRises, frames_of}
use Rattle.buffer_frames.specs.Rests.{LinksRest}
use Rattle.buffer_frames.specs.Tokens.{Tokens}
use Rattle.buffer_frames.specs.declared.hinting.HintSeen.{HintSeen}
use Rattle.buffer_frames.specs.declared.fetching.FetchError.{FetchError}
use Rattle.buffer_frames.specs.declared.fetching.FetchError.TheVariants as fetch
use Rattle.buffer_frames.specs.declared.fetching.FetchedPage.{FetchedPage}
use Rattle.buffer_frames.specs.declared.fetching.FetchedPage.TheVariants.{Hit, Read}
use Rattle.buffer_frames.specs.declared.reading.BlockError.{BlockError}
use Rattle.buffer_frames.specs.declared.reading.BlockError.TheVariants.{NoFrame, Unread}
use Rattle.buffer_frames.specs.declared.reading.PinnedBlock.{PinnedBlock}
use Rattle.buffer_frames.specs.declared.victims.VictimError.{VictimError}
use Rattle.buffer_frames.specs.Counting.{CountsIo}
use Rattle.buffer_frames.specs.Fetching.{FailsRead, UnreadShows, fetch_calls, met_unread}
use Rattle.buffer_frames.specs.Hinting.{LeavesHint, SeesHint}
use Rattle.buffer_frames.specs.Lookups.{LooksUp, SeesNone, UnderPartition}
use Rattle.buffer_frames.specs.Stages.{Pins}
use Rattle.buffer_frames.specs.Bringing.{PinsAndStores, PushesNone}
use Rattle.buffer_frames.specs.VictimChoices.{ChoiceState}
use Rattle.buffer_frames.specs.Victims.{CensusRefused, VictimRefused, brought_by, met_victim}
use Rattle.buffer_frames.specs.Victims.{refused_by}
use Rattle.buffer_frames.specs.Working.{IsFlushCall, Made, WorksAt}

-- Calls of devices were made that a flush makes, and then these
pub record MadeThen (last : List DeviceCall) (v w : View) : Type 0 where
  pub before : List DeviceCall
  pub calls : w.device_calls ≡ v.device_calls ++ (before ++ last)
  pub each : All IsFlushCall before

-- In a table of n frames, by a backend whose callers have these pins, and which saw this of the
-- block's hint
module _ (n : ℕ) (tag : Tag) (held : Tokens) (ring : Bool) (seen : HintSeen) where
  -- The hint gave no frame for the block, and then the map gave none. All else was done after that,
  -- and these were its last calls of devices, the others those of flushes
  pub record Misses (last : List DeviceCall) (v w : View) : Type 0 where
    pub hinted : View
    pub hint : SeesHint n tag held ring v hinted seen
    pub searched : View
    pub search : UnderPartition tag (SeesNone tag) hinted searched
    pub until : OnlyRises searched w
    pub calls : MadeThen last v w

-- a hit is counted if the page was there already
abbrev pub hit_of : FetchedPage → ContextCounts
hit_of Hit = one_of event.Hit
hit_of Read = no_counts

abbrev pub hits_of : Result PinnedBlock BlockError → ContextCounts
hits_of (Ok block) = hit_of block.fetched
hits_of (Err why) = no_counts

-- and what is counted of a fetch: a hit, or the page that a lane gave
abbrev pub fetch_counts : Result FetchedPage FetchError → ContextCounts
fetch_counts (Ok Hit) = one_of event.Hit
fetch_counts (Ok Read) = one_of event.Read
fetch_counts (Err fetch.Unsound) = one_of event.Read
fetch_counts (Err fetch.ReadFault) = no_counts

module _ {L G : Type 0} (contents : L → Option Pages) (t : FrameTable L G) where
  -- By a backend whose callers have these pins, and which saw this of the block's hint; the
  -- choice's state was c, and is d
  module _ (tag : Tag) (held : Tokens) (ring : Bool) (seen : HintSeen) (c d : ChoiceState) where
    -- At first the hint or the map gave the frame f, which was pinned then, for a ring or not; no
    -- work was done at another one, the hand was not moved, these were the calls of devices, and no
    -- victim was chosen. Or neither gave one, and after that the block was brought into the frame
    pub data Locates (f : ℕ) (last : List DeviceCall) (v w : View) : Type 0 where
      looked_up : (pinned : View) → LooksUp (frames_of t) tag held ring v pinned seen (Some f)
          → WorksAt f pinned w → Made last v w → w.ticks ≡ v.ticks → d ≡ c → Locates f last v w
      missed : (m : Misses (frames_of t) tag held ring seen last v w)
          → PinsAndStores contents t tag held ring f last m.searched c w d → Locates f last v w

    -- no frame was freed, for this reason
    abbrev pub GetsNoVictim : VictimError → View → View → Type 0
    GetsNoVictim why v w = (m : Misses (frames_of t) tag held ring seen [] v w)
        × PushesNone c.queue d.queue × VictimRefused contents t v m.searched c w d why

    -- how a block was pinned, or wasn't
    abbrev pub PinAnswer : View → View → Result Pin VictimError → Type 0
    PinAnswer v w (Ok pin) = Locates pin.frame [] v w
    PinAnswer v w (Err why) = GetsNoVictim why v w

    -- The frame f was located for the block, whose page didn't come, for this reason, with these
    -- calls
    abbrev pub LocatesUnread : FetchError → List DeviceCall → View → View → ℕ → Type 0
    LocatesUnread why last v w f = Locates f last v w × FailsRead why tag f v w

    -- how a block was read, or wasn't: this lane was read if the answer says so, and no other lane
    abbrev pub ReadCalls : ℕ → View → View → Result PinnedBlock BlockError → Type 0
    ReadCalls lane v w (Ok block) = Locates block.pin.frame
        (fetch_calls lane (packed_tag tag) (Ok block.fetched)) v w
    ReadCalls lane v w (Err (NoFrame why)) = GetsNoVictim why v w
    ReadCalls lane v w (Err (Unread why)) = (f : ℕ)
        × LocatesUnread why (fetch_calls lane (packed_tag tag) (Err why)) v w f

    -- what is counted of the tags that victims lost as a block was located
    abbrev pub located_by : {f : ℕ} {last : List DeviceCall} {v w : View} → Locates f last v w
        → ContextCounts
    located_by (looked_up pinned looks works calls ticks same) = no_counts
    located_by (missed m x) = brought_by contents t x

    -- before no frame was freed
    abbrev pub missed_by : (why : VictimError) (v w : View) → GetsNoVictim why v w → ContextCounts
    missed_by why v w x = refused_by contents t v x.0.searched c w d why x.2

    -- as it was pinned, or wasn't
    abbrev pub pinned_by : (v w : View) (r : Result Pin VictimError) → PinAnswer v w r
        → ContextCounts
    pinned_by v w (Ok pin) x = located_by x
    pinned_by v w (Err why) x = missed_by why v w x

    -- as it was read, or wasn't
    abbrev pub read_by : (lane : ℕ) (v w : View) (r : Result PinnedBlock BlockError)
        → ReadCalls lane v w r → ContextCounts
    read_by lane v w (Ok block) x = located_by x
    read_by lane v w (Err (NoFrame why)) x = missed_by why v w x
    read_by lane v w (Err (Unread why)) x = located_by x.1.0

    -- A block was pinned, or wasn't, and what was done for it was counted in this context
    pub record PinsAndCounts (context : Option RingKind) (v w : View) (io io' : ByContext)
        (r : Result Pin VictimError) : Type 0 where
      pub pins : PinAnswer v w r
      pub counts : CountsIo context (pinned_by v w r pins) v w io io'

    -- A block was read, or wasn't, and what was done for it was counted in this context, and
    -- whether that was a hit
    pub record ReadsAndCounts (context : Option RingKind) (lane : ℕ) (v w : View)
        (io io' : ByContext) (r : Result PinnedBlock BlockError) : Type 0 where
      pub reads : ReadCalls lane v w r
      pub counts : CountsIo context (counts_sum (read_by lane v w r reads) (hits_of r)) v w io io'

-- The hints that a call stored that pins a block, by its answer: none if no frame was freed
abbrev pub PinNotes : ℕ → Tag → HintSeen → List HintStore → List HintStore
    → Result Pin VictimError → Type 0
PinNotes n tag seen old new (Ok pin) = LeavesHint n tag pin.frame seen old new
PinNotes n tag seen old new (Err why) = new ≡ old

abbrev pub ReadNotes : ℕ → Tag → HintSeen → List HintStore → List HintStore
    → Result PinnedBlock BlockError → Type 0
ReadNotes n tag seen old new (Ok block) = LeavesHint n tag block.pin.frame seen old new
ReadNotes n tag seen old new (Err (NoFrame why)) = new ≡ old
ReadNotes n tag seen old new (Err (Unread why)) = (f : ℕ) × LeavesHint n tag f seen old new

-- the faults that were met, by the answer
abbrev pub met_read_block : Result PinnedBlock BlockError → FailedCalls → FailedCalls
met_read_block (Ok block) m = m
met_read_block (Err (NoFrame why)) m = met_victim why m
met_read_block (Err (Unread why)) m = met_unread why m

-- the census is as it was, or empty: a read that chooses a victim empties it
abbrev pub KeptOrEmptied : ℕ → CensusList → CensusList → Type 0
KeptOrEmptied n c d = (d ≡ c) ⊎ (d ≡ new_census n)

abbrev pub CensusPinned : ℕ → CensusList → CensusList → Result Pin VictimError → Type 0
CensusPinned n c d (Ok pin) = KeptOrEmptied n c d
CensusPinned n c d (Err why) = CensusRefused n d why

abbrev pub CensusRead : ℕ → CensusList → CensusList → Result PinnedBlock BlockError → Type 0
CensusRead n c d (Ok block) = KeptOrEmptied n c d
CensusRead n c d (Err (NoFrame why)) = CensusRefused n d why
CensusRead n c d (Err (Unread why)) = KeptOrEmptied n c d

module _ {L G : Type 0} (contents : L → Option Pages) (t : FrameTable L G) where
  -- What a read answers: the block's frame is pinned, and BM_VALID was seen; or all pins are as
  -- before, and this is why, but for the causes for which no frame was freed. If the lanes'
  -- contents at the opening are known, a block that was unsound then is never read, and only such a
  -- one is called so
  abbrev pub ReadAnswer : Tag → Tokens → View → View → Result PinnedBlock BlockError → Type 0
  ReadAnswer tag held v w (Ok block) = (block.pin.frame < frames_of t)
      × Pins (packed_tag tag) block.pin.frame held w
      × ((link w block.pin.frame).seen_valid ≡ true) × WasSoundAtOpening contents t tag
  ReadAnswer tag held v w (Err (NoFrame why)) = LinksRest held w
  ReadAnswer tag held v w (Err (Unread why)) = LinksRest held w × UnreadShows contents t tag why
