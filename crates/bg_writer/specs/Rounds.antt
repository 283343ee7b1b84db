-- A round of the background writer.
use Rattle.std.specs.Prelude.{◌≡◌, ◌⊎◌, ℕ, ◌+◌, ◌<◌, ◌≤◌, ◌%◌, List, [], ◌∷◌, ◌++◌, length, Option}
use Rattle.std.specs.Prelude.{Result, Ok, Err}
use Rattle.segment_store.specs.Contents.{Pages}
use Rattle.pin_core.specs.declared.view.View.{View}
use Rattle.frame_table.specs.declared.table.FrameTable.{FrameTable}
use Rattle.frame_table.specs.Seats.{OnlyRises, frames_of}
use Rattle.frame_table.specs.WordSteps.{DidWord, load_hand}
use Rattle.clock_sweep.specs.Keeping.{SamePins}
use Rattle.buffer_frames.specs.Flushing.{EndedInError}
use Rattle.buffer_frames.specs.declared.syncing.SyncOnly.TheVariants.{NotRecentlyUsed}
use Rattle.buffer_frames.specs.declared.syncing.Synced.{Synced}
use Rattle.buffer_frames.specs.declared.syncing.Synced.TheVariants.{Skipped, Clean, Written}
use Rattle.buffer_frames.specs.Syncs.{SyncsFrame}
use Rattle.backend_pass.specs.declared.errors.FlushError.{FlushError}
use Rattle.backend_pass.specs.FrameFlushes.{frame_refusal}
use Rattle.bg_writer.specs.declared.reports.Round.{Round}

-- how many pages were written for a frame, by its result
abbrev pub pages_written_for : Synced → ℕ
pages_written_for Written = 1
pages_written_for Skipped = 0
pages_written_for Clean = 0

abbrev pub pages_written_for_all : List Synced → ℕ
pages_written_for_all [] = 0
pages_written_for_all (synced ∷ came) = pages_written_for synced + pages_written_for_all came

module _ {L G : Type 0} (contents : L → Option Pages) (t : FrameTable L G) where
  -- Beginning with the one at which the hand points, frames were looked at in order, and this came
  -- of them, while the view pinned what it pinned in `start` at each look
  pub data LookedInOrder (hand : ℕ) (start v : View) : List Synced → View → Type 0 where
    none : LookedInOrder hand start v [] v
    next : {u w : View} (came : List Synced) (synced : Synced) → LookedInOrder hand start v came u
        → SamePins start u
        → SyncsFrame contents t NotRecentlyUsed ((hand + length came) % frames_of t) u w (Ok synced)
        → LookedInOrder hand start v (came ++ synced ∷ []) w

  -- The round ended: it had looked at all frames, or had written 100 pages
  pub record EndsRound (hand : ℕ) (start v w : View) (round : Round) : Type 0 where
    pub came : List Synced
    pub looks : LookedInOrder hand start v came w
    pub looked : length came ≡ round.looked
    pub written : pages_written_for_all came ≡ round.written
    pub within : (round.looked ≤ frames_of t) × (round.written ≤ 100)
    pub done : (round.looked ≡ frames_of t) ⊎ (round.written ≡ 100)

  -- The round stopped, as the page of the next frame was not written
  pub record StopsRound (hand : ℕ) (start v w : View) (why : FlushError) : Type 0 where
    pub came : List Synced
    pub before : View
    pub since : OnlyRises start before
    pub looks : LookedInOrder hand start v came before
    pub left : (length came < frames_of t) × (pages_written_for_all came < 100)
    pub pins : SamePins start before
    pub refused : SyncsFrame contents t NotRecentlyUsed ((hand + length came) % frames_of t) before
        w (Err (frame_refusal why))
    pub ended : EndedInError ((hand + length came) % frames_of t) before w

  abbrev pub RoundEnds : ℕ → View → View → View → Result Round FlushError → Type 0
  RoundEnds hand start v w (Ok round) = EndsRound hand start v w round
  RoundEnds hand start v w (Err why) = StopsRound hand start v w why

  -- The clock's hand was loaded, and then frames were looked at
  pub record Rounds (v w : View) (r : Result Round FlushError) : Type 0 where
    pub hand : ℕ
    pub loaded : View
    pub loads : DidWord load_hand v loaded hand
    pub ends : RoundEnds hand v loaded w r
