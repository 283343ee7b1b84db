-- Passes of a free list.
use Rattle.std.specs.Prelude.{◌≡◌}
use Rattle.crossbeam_queue.specs.Passes.{ruled_capacity}
use Rattle.frame_table.specs.declared.table.FrameTable.{FrameTable}
use Rattle.frame_table.specs.Seats.{frames_of}
use Rattle.clock_sweep.specs.declared.sweep.Sweep.{Sweep}
use Rattle.clock_sweep.specs.FreeFrames.{QueueState}

-- The pass is one of this free list, which has room for as many frames as it was made of
pub record IsOfSweep (s : Sweep) (q : QueueState) : Type 0 where
  pub queue : q.queue ≡ s.queue.table.shared.table_id
  pub room : ruled_capacity s.queue ≡ q.known.frames

-- it is that of the sweep, and the sweep's list is the free list of the table's frames
pub record IsFreeList {L G : Type 0} (t : FrameTable L G) (s : Sweep) (q : QueueState) :
    Type 0 where
  pub pass : IsOfSweep s q
  pub frames : q.known.frames ≡ frames_of t
