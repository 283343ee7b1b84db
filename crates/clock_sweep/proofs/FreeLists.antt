-- A pass of a free list stays one.
use Rattle.std.proofs.Common.{◌∙◌, ap, sym}
use Rattle.frame_table.specs.declared.table.FrameTable.{FrameTable}
use Rattle.clock_sweep.specs.declared.sweep.Sweep.{Sweep}
use Rattle.clock_sweep.specs.FreeFrames.{QueueState, SameQueue}
use Rattle.clock_sweep.specs.FreeLists.{IsFreeList, IsOfSweep}

pub of_same : (s : Sweep) (q r : QueueState) → IsOfSweep s q → SameQueue q r → IsOfSweep s r
of_same s q r a same = record {
  queue = ap (λ (x : QueueState). x.queue) same ∙ a.queue;
  room = a.room ∙ sym (ap (λ (x : QueueState). x.known.frames) same);
}

pub list_same : {L G : Type 0} (t : FrameTable L G) (s : Sweep) (q r : QueueState) → IsFreeList t s q → SameQueue q r → IsFreeList t s r
list_same t s q r a same = record { pass = of_same s q r a.pass same; frames = ap (λ (x : QueueState). x.known.frames) same ∙ a.frames }
