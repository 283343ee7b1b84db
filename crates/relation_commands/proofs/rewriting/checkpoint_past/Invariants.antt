use Rattle.std.proofs.Common.{◌≡◌}
use Rattle.backend_pass.specs.Managers.{Belongs}
use Rattle.backend_pass.specs.Passes.{KeepsCallers}
use Rattle.backend_pass.specs.Between.{HasNoLock}
use Rattle.relation_commands.proofs.rewriting.checkpoint_past.Given as goal

abbrev pub invariant-loop : goal.invariant-loop
invariant-loop g l = record {
  belongs : Belongs {L = g.row.L.Denot} {G = g.row.G.Denot} g.L.BlockLane.contents l.manager l.pass;
  unlocked : HasNoLock l.pass;
  callers : KeepsCallers l.fn.pass l.pass;
  met : l.pass.view.met ≡ l.fn.pass.view.met;
}
