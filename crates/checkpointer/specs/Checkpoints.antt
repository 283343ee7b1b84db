-- What a checkpoint does.
use Rattle.std.specs.Prelude.{◌≡◌, ℕ, ◌≤◌, Option}
use Rattle.segment_store.specs.Contents.{Pages}
use Rattle.pin_core.specs.declared.view.View.{View}
use Rattle.history_core.specs.Promises.{AreDurable, AreStored, AreSynced}
use Rattle.frame_table.specs.declared.table.FrameTable.{FrameTable}
use Rattle.frame_table.specs.Seats.{OnlyRises, lanes_in}
use Rattle.frame_table.specs.WordSteps.{DidWord, begin_checkpoint, view_of}
use Rattle.wal_flush.specs.Flushes.{Flushed}
use Rattle.buffer_frames.specs.Working.{Made}
use Rattle.buffer_frames.specs.Syncs.{LeavesLane}
use Rattle.backend_pass.specs.Closing.{HasSwept}
use Rattle.checkpointer.specs.declared.ending.Checkpoint.{Checkpoint}
use Rattle.checkpointer.specs.Stages.{syncs_below}
use Rattle.checkpointer.specs.Writes.{MarksAndWrites}

-- A checkpoint of the view began as the first step, where the log ended at `upto`, and is its last
-- one still. The view published nothing
pub record Begins (upto : ℕ) (v w : View) : Type 0 where
  pub began : View
  pub did : DidWord begin_checkpoint v began upto
  pub view : began ≡ view_of begin_checkpoint upto v
  pub until : OnlyRises began w
  pub last : w.upto ≡ upto
  pub published : w.published ≡ v.published

-- The last step to the view left the latch of a lane. In the state of that step each entry of the
-- log up to `upto` is durable, the syncs of the lanes have covered it, and its block's lane holds
-- it or a later one, or that block's last write failed and its frame is valid and dirty
pub record StoresUpTo (lanes upto : ℕ) (w : View) : Type 0 where
  pub lane : ℕ
  pub left : LeavesLane lanes lane w
  pub durable : AreDurable left.did.state upto
  pub synced : AreSynced left.did.state upto
  pub stored : AreStored left.did.state upto

module _ {L G : Type 0} (contents : L → Option Pages) (t : FrameTable L G) where
  -- The checkpoint wrote the frames that it marked, flushed the log, and then synced each lane, and
  -- no call of a device failed. The log is flushed up to where it began, each lane is swept up to
  -- there, and what was logged up to there is stored
  pub record Completes (c : Checkpoint) (v w : View) : Type 0 where
    pub begins : Begins c.upto v w
    -- the view by when the frames were written
    pub before : View
    pub writes : MarksAndWrites contents t c.upto c.written v before
    -- the view by when the log was flushed
    pub logged : View
    pub log : Flushed c.upto before logged
    pub calls : Made (syncs_below (lanes_in t)) logged w
    pub flushed : c.upto ≤ w.flushed
    pub swept : HasSwept (lanes_in t) c.upto w
    pub stored : StoresUpTo (lanes_in t) c.upto w
