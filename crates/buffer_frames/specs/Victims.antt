-- How a frame is freed for a block, and why none is.
use Rattle.std.specs.Prelude.{◌≡◌, ℕ, ◌<◌, Bool, List, [], Option, Result, Ok, Err}
use Rattle.access_rings.specs.declared.ring.RingKind.{RingKind}
use Rattle.block_tag.specs.declared.tag.Tag.{Tag}
use Rattle.segment_store.specs.Contents.{Pages}
use Rattle.pin_core.specs.declared.view.DeviceCall.{DeviceCall}
use Rattle.pin_core.specs.declared.view.FailedCalls.{FailedCalls}
use Rattle.pin_core.specs.declared.view.View.{View}
use Rattle.frame_table.specs.declared.pin.Pin.{Pin}
use Rattle.frame_table.specs.declared.table.FrameTable.{FrameTable}
use Rattle.frame_table.specs.Seats.{frames_of}
use Rattle.io_counts.specs.declared.contexts.ByContext.{ByContext}
use Rattle.io_counts.specs.declared.contexts.ContextCounts.{ContextCounts}
use Rattle.io_counts.specs.Counts.{counts_sum}
use Rattle.clock_sweep.specs.CensusList.{CensusList, new_census}
use Rattle.buffer_frames.specs.Rests.{LinksRest}
use Rattle.buffer_frames.specs.Tokens.{Tokens}
use Rattle.buffer_frames.specs.declared.victims.Freed.{Freed}
use Rattle.buffer_frames.specs.declared.victims.Freed.TheVariants.{Again, Ready, Refused}
use Rattle.buffer_frames.specs.declared.victims.VictimError.{VictimError}
use Rattle.buffer_frames.specs.declared.victims.VictimError.TheVariants.{Flush, NoUnpinned}
use Rattle.buffer_frames.specs.Bringing.{PinsAndStores}
use Rattle.buffer_frames.specs.Counting.{CountsIo}
use Rattle.buffer_frames.specs.Flushing.{met_refused}
use Rattle.buffer_frames.specs.Stages.{HasVictim, Pins}
use Rattle.buffer_frames.specs.VictimChoices.{ChoiceState, InvalidatesVictim, FindsAllPinned}
use Rattle.buffer_frames.specs.VictimChoices.{LeavesDirty, GivesVictimUp}
use Rattle.buffer_frames.specs.VictimChoices.{emptied_by, given_up_by, tried_by}

module _ {L G : Type 0} (contents : L → Option Pages) (t : FrameTable L G) where
  -- why no frame was freed
  abbrev pub VictimRefused : View → View → ChoiceState → View → ChoiceState → VictimError → Type 0
  VictimRefused entry v c w d (NoUnpinned frames) = (frames ≡ frames_of t)
      × FindsAllPinned contents t entry v c w d
  VictimRefused entry v c w d (Flush why) = LeavesDirty contents t why entry v c w d

  -- the result of one try to free a frame
  abbrev pub FreedAnswer : Tokens → View → ChoiceState → View → ChoiceState → Freed → Type 0
  FreedAnswer held v c w d (Ready pin) = (pin.frame < frames_of t) × HasVictim pin.frame held w
      × InvalidatesVictim contents t pin.frame v c w d
  FreedAnswer held v c w d Again = LinksRest held w
      × ((f : ℕ) × GivesVictimUp contents t f v c w d)
  FreedAnswer held v c w d (Refused why) = LinksRest held w × VictimRefused v v c w d why

  -- the result of all tries to free a frame and bring the tag's block there
  abbrev pub ClaimAnswer : Tag → Tokens → Bool → View → ChoiceState → View → ChoiceState
      → Result Pin VictimError → Type 0
  ClaimAnswer tag held ring v c w d (Ok pin) =
      PinsAndStores contents t tag held ring pin.frame [] v c w d
  ClaimAnswer tag held ring v c w d (Err why) = VictimRefused v v c w d why

  -- what is counted of the tags that victims lost before no frame was freed
  abbrev pub refused_by : (entry v : View) (c : ChoiceState) (w : View) (d : ChoiceState)
      (why : VictimError) → VictimRefused entry v c w d why → ContextCounts
  refused_by entry v c w d (NoUnpinned frames) x = tried_by contents t x.1.tries
  refused_by entry v c w d (Flush why) x = tried_by contents t x.tries

  -- in one try to free a frame
  abbrev pub freed_by : (held : Tokens) (v : View) (c : ChoiceState) (w : View) (d : ChoiceState)
      (r : Freed) → FreedAnswer held v c w d r → ContextCounts
  freed_by held v c w d (Ready pin) x = emptied_by contents t x.2
  freed_by held v c w d Again x = given_up_by contents t x.1.1
  freed_by held v c w d (Refused why) x = refused_by v v c w d why x.1

  -- and in all tries until the block was brought into a frame, or none was freed
  abbrev pub brought_by : {tag : Tag} {held : Tokens} {ring : Bool} {f : ℕ}
      {last : List DeviceCall} {v : View} {c : ChoiceState} {w : View} {d : ChoiceState}
      → PinsAndStores contents t tag held ring f last v c w d → ContextCounts
  brought_by x = counts_sum (tried_by contents t x.tries) (emptied_by contents t x.empties)

  abbrev pub claimed_by : (tag : Tag) (held : Tokens) (ring : Bool) (v : View) (c : ChoiceState)
      (w : View) (d : ChoiceState) (r : Result Pin VictimError)
      → ClaimAnswer tag held ring v c w d r → ContextCounts
  claimed_by tag held ring v c w d (Ok pin) x = brought_by x
  claimed_by tag held ring v c w d (Err why) x = refused_by v v c w d why x

  -- One try to free a frame had this result, and what was done by it was counted in this context
  pub record FreesAndCounts (context : Option RingKind) (held : Tokens) (v : View) (c : ChoiceState)
      (w : View) (d : ChoiceState) (io io' : ByContext) (r : Freed) : Type 0 where
    pub freed : FreedAnswer held v c w d r
    pub counts : CountsIo context (freed_by held v c w d r freed) v w io io'

  -- All tries to free a frame and to bring the tag's block there had this result, and what was done
  -- by them was counted in this context
  pub record ClaimsAndCounts (context : Option RingKind) (tag : Tag) (held : Tokens) (ring : Bool)
      (v : View) (c : ChoiceState) (w : View) (d : ChoiceState) (io io' : ByContext)
      (r : Result Pin VictimError) : Type 0 where
    pub claimed : ClaimAnswer tag held ring v c w d r
    pub counts : CountsIo context (claimed_by tag held ring v c w d r claimed) v w io io'

-- a frame of n is pinned for the tag, or the callers' pins are as they were
abbrev pub PinsOrRests : ℕ → ℕ → Tokens → View → Result Pin VictimError → Type 0
PinsOrRests n tag held w (Ok pin) = (pin.frame < n) × Pins tag pin.frame held w
PinsOrRests n tag held w (Err why) = LinksRest held w

-- the faults that were met, by the refusal, and by the answers
abbrev pub met_victim : VictimError → FailedCalls → FailedCalls
met_victim (NoUnpinned frames) m = m
met_victim (Flush why) m = met_refused why m

abbrev pub met_freed : Freed → FailedCalls → FailedCalls
met_freed (Ready pin) m = m
met_freed Again m = m
met_freed (Refused why) m = met_victim why m

abbrev pub met_claimed : Result Pin VictimError → FailedCalls → FailedCalls
met_claimed (Ok pin) m = m
met_claimed (Err why) m = met_victim why m

-- What tries to free a frame leave of the census, which has room for the words of n frames. If all
-- were pinned it has their words, as the refusal tells; else it is empty, as a victim was chosen
abbrev pub CensusRefused : ℕ → CensusList → VictimError → Type 0
CensusRefused n c (NoUnpinned frames) = Unit {0}
CensusRefused n c (Flush why) = c ≡ new_census n

abbrev pub CensusFreed : ℕ → CensusList → Freed → Type 0
CensusFreed n c (Ready pin) = c ≡ new_census n
CensusFreed n c Again = c ≡ new_census n
CensusFreed n c (Refused why) = CensusRefused n c why

abbrev pub CensusClaimed : ℕ → CensusList → Result Pin VictimError → Type 0
CensusClaimed n c (Ok pin) = c ≡ new_census n
CensusClaimed n c (Err why) = CensusRefused n c why
