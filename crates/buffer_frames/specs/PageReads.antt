-- How a page is read.
use Rattle.std.specs.Prelude.{◌≡◌, ℕ, ◌+◌, ◌≤◌, true, false, [], ◌∷◌, ◌++◌, Option, None}
use Rattle.block_tag.specs.declared.tag.Tag.{Tag}
use Rattle.block_tag.specs.Names.{packed_tag}
use Rattle.page_layout.specs.Soundness.{is_sound_page}
use Rattle.segment_store.specs.Contents.{Pages}
use Rattle.pin_core.specs.declared.view.Call.TheVariants as call
use Rattle.pin_core.specs.declared.view.Content.{Content}
use Rattle.pin_core.specs.declared.view.Content.TheVariants.{Shared}
use Rattle.pin_core.specs.declared.view.View.{View}
use Rattle.pin_core.specs.State.{Page, link}
use Rattle.page_core.specs.Kinds as kinds
use Rattle.frame_table.specs.declared.log_words.EndLoad.TheVariants.{Read}
use Rattle.frame_table.specs.declared.table.FrameTable.{FrameTable}
use Rattle.frame_table.specs.EndLoads.{end_kind}
use Rattle.frame_table.specs.FrameSteps.{Did}
use Rattle.frame_table.specs.Kinds.{pages}
use Rattle.frame_table.specs.Opened.{WasAtOpening}
use Rattle.frame_table.specs.Seats.{OnlyRises, SameMarks, base_of}
use Rattle.frame_table.specs.WordSteps.{DidWord}
use Rattle.content_locks.specs.Locks.{Copies, LocksContent}

-- What a read keeps of a view: all but what it has of frames and partitions, what it lists and
-- counts of steps, loads and changed words, its marks, what it read and put, its front, and the log
-- ends that it has seen
abbrev pub kept_by_reads : View → View
kept_by_reads v = record v {
  links = [];
  partitions = [];
  end_seen = 0;
  calls = [];
  front = 0;
  place_loads = 0;
  steps = 0;
  loads = [];
  changes = [];
  dirtied_or_synced = false;
  had_output = false;
  last_ended = None;
  residents = [];
}

-- But for frames, and for what it read, the view is as it was, or rose
pub record OnlyReads (v w : View) : Type 0 where
  pub kept : kept_by_reads w ≡ kept_by_reads v
  pub partitions : w.partitions ≡ v.partitions
  pub marks : SameMarks v w
  pub rises : OnlyRises v w

-- The page of the frame f was copied, and after that the log's end was loaded as the place of the
-- read. The content lock was this one at the beginning, after the copy, and at the end
pub record ReadsUnder (lock : Content) (f : ℕ) (page : Page) (place : ℕ) (v w : View) : Type 0 where
  pub copied : View
  pub copies : Copies f page v copied
  pub loads : DidWord (end_kind (Read f)) copied w place
  pub first : (link v f).content ≡ lock
  pub between : (link copied f).content ≡ lock
  pub last : (link w f).content ≡ lock

-- The content lock was taken, shared, the page read under it, and the lock given up
pub record SharesToRead (f : ℕ) (page : Page) (place : ℕ) (v w : View) : Type 0 where
  pub shared : View
  pub read : View
  pub was : ℕ
  pub locks : LocksContent kinds.share f v shared
  pub reads : ReadsUnder Shared f page place shared read
  pub unlocks : Did (pages kinds.unshare) f read w was

module _ {L G : Type 0} (contents : L → Option Pages) (t : FrameTable L G) where
  -- The page of a block was read at this place in the log, which is the front now and not before
  -- the old one. It is sound, and at the log's base it is the page that the lane held as the table
  -- was opened, if that is known
  pub record ReadsPage (tag : Tag) (page : Page) (place : ℕ) (v w : View) : Type 0 where
    pub calls : w.calls ≡ v.calls ++ call.Read v.number (packed_tag tag) page place ∷ []
    pub place_loads : w.place_loads ≡ v.place_loads + 1
    pub front : w.front ≡ place
    pub later : v.front ≤ place
    pub sound : is_sound_page page ≡ true
    pub opening : place ≡ base_of t → WasAtOpening contents t tag page
