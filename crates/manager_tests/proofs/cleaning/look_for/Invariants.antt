use Rattle.std.proofs.Common.{◌≡◌}
use Rattle.backend_pass.specs.Between.{KeepsHeld}
use Rattle.manager_tests.proofs.cleaning.look_for.Given as goal

abbrev pub invariant-loop : goal.invariant-loop
invariant-loop g l = record { token : l.pinned ≡ l.fn.pinned; pass : KeepsHeld {L = g.row.L.Denot} {G = g.row.G.Denot} g.L.BlockLane.contents l.fn.manager l.fn.pass l.pass }
