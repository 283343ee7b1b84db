-- How a page comes from its lane into a frame.
use Rattle.std.specs.Prelude.{◌≡◌, ℕ, Bool, true, false, List, [], ◌∷◌, Option, Some, Result, Ok}
use Rattle.std.specs.Prelude.{Err}
use Rattle.block_tag.specs.declared.tag.Tag.{Tag}
use Rattle.block_tag.specs.Names.{packed_tag}
use Rattle.page_layout.specs.Soundness.{is_sound_page}
use Rattle.segment_store.specs.Contents.{Pages}
use Rattle.state_word.specs.declared.word.IoEnd.TheVariants.{Bad}
use Rattle.state_word.specs.declared.word.StateWord.{StateWord}
use Rattle.pin_core.specs.declared.view.DeviceCall.{DeviceCall}
use Rattle.pin_core.specs.declared.view.DeviceCall.TheVariants.{LaneRead}
use Rattle.pin_core.specs.declared.view.FailedCalls.{FailedCalls}
use Rattle.pin_core.specs.declared.view.Io.TheVariants.{Input}
use Rattle.pin_core.specs.declared.view.View.{View}
use Rattle.pin_core.specs.State.{Page, link}
use Rattle.frame_table.specs.declared.table.FrameTable.{FrameTable}
use Rattle.frame_table.specs.Opened.{WasAtOpening, WasSoundAtOpening}
use Rattle.frame_table.specs.Seats.{OnlyRises}
use Rattle.cleanup_lock.specs.Waking.{Woken}
use Rattle.buffer_frames.specs.declared.fetching.FetchError.{FetchError}
use Rattle.buffer_frames.specs.declared.fetching.FetchError.TheVariants.{ReadFault, Unsound}
use Rattle.buffer_frames.specs.declared.fetching.FetchedPage.{FetchedPage}
use Rattle.buffer_frames.specs.declared.fetching.FetchedPage.TheVariants.{Hit, Read}
use Rattle.buffer_frames.specs.Working.{EndsWork, met_read}

-- the faults that were met by a read of a lane that was done, or wasn't
abbrev pub met_lane_read : Bool → FailedCalls → FailedCalls
met_lane_read true m = m
met_lane_read false m = met_read m

-- the calls of a fetch: one read of the lane q for the tag, or none if the page is there already
abbrev pub fetch_calls : ℕ → ℕ → Result FetchedPage FetchError → List DeviceCall
fetch_calls q tag (Ok Hit) = []
fetch_calls q tag (Ok Read) = LaneRead q tag true ∷ []
fetch_calls q tag (Err Unsound) = LaneRead q tag true ∷ []
fetch_calls q tag (Err ReadFault) = LaneRead q tag false ∷ []

-- what a fetch answers of a page that was there already, or wasn't
abbrev pub fetched_by : Bool → FetchedPage
fetched_by true = Hit
fetched_by false = Read

-- the faults that were met, by the reason, and by the answer
abbrev pub met_unread : FetchError → FailedCalls → FailedCalls
met_unread Unsound m = m
met_unread ReadFault m = met_read m

abbrev pub met_fetching : Result FetchedPage FetchError → FailedCalls → FailedCalls
met_fetching (Ok fetched) m = m
met_fetching (Err why) m = met_unread why m

-- In the view the page is noted that a lane gave for the frame f, and isn't sound
pub record NotesUnsound (f : ℕ) (v : View) : Type 0 where
  pub page : Page
  pub read : (link v f).read ≡ Some page
  pub unsound : is_sound_page page ≡ false

-- A read of the tag's block into the frame f ended with an error, for this reason, as the last
-- step. The state word that it stored has BM_TAG_VALID and BM_IO_ERROR, and not BM_VALID
pub record EndsUnread (why : FetchError) (tag : Tag) (f : ℕ) (v w : View) : Type 0 where
  pub begun : View
  pub stored : StateWord
  pub since : OnlyRises v begun
  pub remembered : (link begun f).tag ≡ Some (packed_tag tag)
  pub unsound : why ≡ Unsound → NotesUnsound f begun
  pub ends : EndsWork Input Bad f stored begun w
  pub tagged : stored.tag_valid ≡ true
  pub invalid : stored.valid ≡ false
  pub failed : stored.failed ≡ true

-- A read of the tag's block into the frame f ended with an error, and then the pin was given up,
-- and nothing else was done: the frame keeps the tag
pub record FailsRead (why : FetchError) (tag : Tag) (f : ℕ) (v w : View) : Type 0 where
  pub ended : View
  pub unread : EndsUnread why tag f v ended
  pub gives_up : Woken f ended w
  pub last : w.last_ended ≡ Some unread.stored

module _ {L G : Type 0} (contents : L → Option Pages) (t : FrameTable L G) where
  -- The page of the tag's block was this one as the table was opened, if that is known, and it
  -- isn't sound
  pub record WasUnsoundAtOpening (tag : Tag) : Type 0 where
    pub page : Page
    pub unsound : is_sound_page page ≡ false
    pub was : WasAtOpening contents t tag page

  -- what it shows of the page that the block had then that its page didn't come, for this reason
  abbrev pub UnreadShows : Tag → FetchError → Type 0
  UnreadShows tag Unsound = WasUnsoundAtOpening tag
  UnreadShows tag ReadFault = Unit {0}

  -- and what a fetch shows of it
  abbrev pub FetchShows : Tag → Result FetchedPage FetchError → Type 0
  FetchShows tag (Ok fetched) = WasSoundAtOpening contents t tag
  FetchShows tag (Err why) = UnreadShows tag why
