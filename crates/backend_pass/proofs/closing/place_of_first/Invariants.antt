use Rattle.std.proofs.Common.{take}
use Rattle.backend_pass.specs.Managers.{AreOthers}
use Rattle.backend_pass.proofs.closing.place_of_first.Given as goal

abbrev pub invariant-loop-place : goal.invariant-loop-place
invariant-loop-place l = AreOthers (take l.place l.passes)
