use Rattle.std.proofs.Common.{◌∙◌}
use Rattle.backend_pass.proofs.Between.{held_on}
use Rattle.manager_tests.proofs.cleaning.look_for.Goals as goal

pub returns-then-saw-clause-pass : goal.returns-then-saw-clause-pass
returns-then-saw-clause-pass g c = held_on {L = g.row.L.Denot} {G = g.row.G.Denot} g.L.BlockLane.contents c.args.manager.now c.args.pass.now c.loop.pass c.try_clean-refused.new.pass c.loop.invariant.pass c.try_clean-refused.ensures.pass

pub loop-preserved : goal.loop-preserved
loop-preserved g c = record {
  token = c.try_clean-refused.ensures.token ∙ c.loop.invariant.token;
  pass = held_on {L = g.row.L.Denot} {G = g.row.G.Denot} g.L.BlockLane.contents c.args.manager.now c.args.pass.now c.loop.pass c.try_clean-refused.new.pass c.loop.invariant.pass c.try_clean-refused.ensures.pass;
}
