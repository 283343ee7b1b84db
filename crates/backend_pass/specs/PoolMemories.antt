-- The memory of a manager and its passes.
use Rattle.std.specs.Prelude.{◌≡◌, ◌≤◌, ℕ, [], vec_capacity, vec_len}
use Rattle.backend_pass.specs.declared.pool_memory.PoolMemory.{PoolMemory}
use Rattle.clock_sweep.specs.FreeFrames.{all_parts, queue_view}
use Rattle.clock_sweep.specs.FreeLists.{IsOfSweep}
use Rattle.backend_pass.specs.PassMemories.{AreForFrames}

-- The memory is for this many frames and passes
pub record IsMemoryFor (frames passes : ℕ) (m : PoolMemory) : Type 0 where
  pub queue : IsOfSweep m.sweep m.queue
  pub known : m.queue.known ≡ queue_view all_parts frames [] []
  pub counted : vec_len m.memories ≡ passes
  pub fresh : AreForFrames frames m.memories.items
  pub empty : m.passes.items ≡ []
  pub wide : passes ≤ vec_capacity m.passes
