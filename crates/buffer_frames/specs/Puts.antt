-- How a page is put into a frame, and what a put is refused for.
use Rattle.std.specs.Prelude.{◌≡◌, ◌≢◌, ℕ, ◌+◌, ◌<◌, ◌≤◌, true, false, List, [], ◌∷◌, ◌++◌, Some}
use Rattle.std.specs.Prelude.{Result, Ok, Err}
use Rattle.block_tag.specs.declared.tag.Tag.{Tag}
use Rattle.block_tag.specs.declared.catalogue.RelEntry.{RelEntry}
use Rattle.block_tag.specs.Names.{packed_tag}
use Rattle.page_layout.specs.Fields.{with_lsn}
use Rattle.pin_core.specs.declared.view.Call.TheVariants.{Write}
use Rattle.pin_core.specs.declared.view.DeviceCall.{DeviceCall}
use Rattle.pin_core.specs.declared.view.DeviceCall.TheVariants.{LogAppend}
use Rattle.pin_core.specs.declared.view.FailedCalls.{FailedCalls}
use Rattle.pin_core.specs.declared.view.View.{View}
use Rattle.pin_core.specs.State.{Page, link}
use Rattle.page_core.specs.Kinds as kinds
use Rattle.history_core.specs.Log.{image_record, record_size}
use Rattle.history_core.specs.State.{last_position}
use Rattle.frame_table.specs.FrameSteps.{Did, Tried}
use Rattle.frame_table.specs.Kinds.{pages}
use Rattle.frame_table.specs.PageWork.{ReturnsBy}
use Rattle.wal_flush.specs.declared.inserts.InsertError.{InsertError}
use Rattle.wal_flush.specs.declared.inserts.InsertError.TheVariants.{LogFull, LogDown, LogFault}
use Rattle.wal_flush.specs.Inserts.{InsertRefused, Inserts}
use Rattle.frame_table.specs.Seats.{OnlyRises}
use Rattle.buffer_frames.specs.Rests.{kept_by_calls}
use Rattle.buffer_frames.specs.Working.{met_log}

-- What a put keeps of a view: what calls keep, but its mark, what it read and put, its front, and
-- the records that it failed to append
abbrev pub kept_by_puts : View → View
kept_by_puts v =
    record (kept_by_calls v) { calls = []; front = 0; dirtied_or_synced = false; torn = [] }

-- Such work at the frame f: the view has at other frames, and at the partitions, what it had
pub record PutsAt (f : ℕ) (v w : View) : Type 0 where
  pub kept : kept_by_puts w ≡ kept_by_puts v
  pub advances : OnlyRises v w
  pub partitions : w.partitions ≡ v.partitions
  pub others : (g : ℕ) → g ≢ f → link w g ≡ link v g

-- The frame's page went out, was overwritten by the image of the view's entry, which is this page,
-- and came back
pub record AppliesImage (f : ℕ) (page : Page) (v w : View) : Type 0 where
  pub out : View
  pub taken : ℕ
  pub found : ℕ
  pub unapplied : (link out f).unapplied ≡ true
  pub image : (link out f).image ≡ Some page
  pub went : Did (pages kinds.page_out) f v out taken
  pub came : ReturnsBy (Some kinds.overwrite_logged) f out w found

-- The frame was marked dirty, then the page was inserted, and then it became the frame's page
pub record PutsPage (relations : List RelEntry) (f : ℕ) (tag : Tag) (page : Page) (lsn : ℕ)
    (v w : View) : Type 0 where
  pub marked : View
  pub entered : View
  pub marks : Tried (pages kinds.mark_dirty) f v marked true
  pub inserts : Inserts relations f tag page lsn marked entered
  pub applies : AppliesImage f page entered w

-- The page was put, with its position, which is the view's front from then on: one write more is
-- among its calls
pub record DidPut (relations : List RelEntry) (f : ℕ) (tag : Tag) (page : Page) (lsn : ℕ)
    (v w : View) : Type 0 where
  pub work : PutsPage relations f tag (with_lsn lsn page) lsn v w
  pub calls : w.calls
      ≡ v.calls ++ Write v.number (packed_tag tag) (with_lsn lsn page) lsn image_record ∷ []
  pub front : w.front ≡ lsn
  pub later : v.front < lsn

-- what a refusal shows of the log: a record would pass its last position, or it was seen down
abbrev pub RefusalShows : InsertError → View → Type 0
RefusalShows (LogFull end) w = (last_position < end + record_size) × (end ≤ w.end_seen)
RefusalShows (LogDown at) w = (w.saw_down ≡ true) × (at ≤ w.end_seen)
RefusalShows LogFault w = w.saw_down ≡ true

-- The frame was marked dirty, and then the page was not inserted, for this reason. What was read
-- and put is as it was, and so is what the frame has but for the mark
pub record PutRefused (relations : List RelEntry) (f : ℕ) (tag : Tag) (page : Page)
    (why : InsertError) (v w : View) : Type 0 where
  pub marked : View
  pub marks : Tried (pages kinds.mark_dirty) f v marked true
  pub refused : InsertRefused relations f tag page marked w why
  pub links : w.links ≡ marked.links
  pub calls : w.calls ≡ v.calls
  pub front : w.front ≡ v.front
  pub shows : RefusalShows why w

-- the result of a put
abbrev pub PutAnswer : List RelEntry → ℕ → Tag → Page → View → View → Result ℕ InsertError → Type 0
PutAnswer relations f tag page v w (Ok lsn) = DidPut relations f tag page lsn v w
PutAnswer relations f tag page v w (Err why) = PutRefused relations f tag page why v w

-- the calls of devices, and the faults that were met
abbrev pub put_calls : Result ℕ InsertError → List DeviceCall
put_calls (Ok lsn) = LogAppend true ∷ []
put_calls (Err (LogFull end)) = []
put_calls (Err (LogDown at)) = []
put_calls (Err LogFault) = LogAppend false ∷ []

abbrev pub met_put : Result ℕ InsertError → FailedCalls → FailedCalls
met_put (Ok lsn) m = m
met_put (Err (LogFull end)) m = m
met_put (Err (LogDown at)) m = m
met_put (Err LogFault) m = met_log m

-- a put is done, or refused as the log is full at an end that the view has seen
abbrev pub IsDoneOrFull : View → Result ℕ InsertError → Type 0
IsDoneOrFull w (Ok lsn) = Unit {0}
IsDoneOrFull w (Err (LogFull end)) = (last_position < end + record_size) × (end ≤ w.end_seen)
IsDoneOrFull w (Err (LogDown at)) = ⊥
IsDoneOrFull w (Err LogFault) = ⊥
