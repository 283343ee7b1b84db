use Rattle.std.proofs.Common.{◌≡◌, []}
use Rattle.crossbeam_queue.specs.Passes.{view, IsPassOf}
use Rattle.clock_sweep.specs.FreeFrames.{all_parts, queue_view}
use Rattle.clock_sweep.proofs.sweep.list_all.Given as goal

abbrev pub invariant-loop-frame : goal.invariant-loop-frame
invariant-loop-frame l = record { pass : IsPassOf l.queue l.pass; known : view l.pass ≡ queue_view all_parts l.frame [] [] }
