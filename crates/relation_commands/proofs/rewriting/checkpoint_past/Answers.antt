use Rattle.std.proofs.Common.{◌∙◌, refl}
use Rattle.backend_pass.proofs.Between.{no_lock_kept}
use Rattle.backend_pass.proofs.Keeping.{callers_none, callers_on}
use Rattle.relation_commands.specs.Rewriting.{checkpoint_error}
use Rattle.relation_commands.proofs.RewriteCauses.{meets_since, stop_meets}
use Rattle.relation_commands.proofs.rewriting.checkpoint_past.Goals as goal

pub returns-in-Err-clause-callers : goal.returns-in-Err-clause-callers
returns-in-Err-clause-callers g c = callers_on c.args.pass.now c.loop.pass c.checkpoint.new.pass c.loop.invariant.callers c.checkpoint.ensures.callers

pub returns-in-Err-clause-cause : goal.returns-in-Err-clause-cause
returns-in-Err-clause-cause g c =
    let x = c.in-Err.ensures.stops in
    meets_since {L = g.row.L.Denot} {G = g.row.G.Denot} g.L.BlockLane.contents c.args.manager.now c.args.pass.now.view c.loop.pass.view c.checkpoint.new.pass.view (checkpoint_error c.in-Err.why) c.loop.invariant.callers.keeps.advances.end_seen
    (stop_meets {L = g.row.L.Denot} {G = g.row.G.Denot} g.L.BlockLane.contents c.args.manager.now x.0 c.loop.pass.view c.checkpoint.new.pass.view c.in-Err.why x.2 c.in-Err.ensures.met)

pub returns-then-done-front-clause-callers : goal.returns-then-done-front-clause-callers
returns-then-done-front-clause-callers g c = callers_on c.args.pass.now c.loop.pass c.checkpoint.new.pass c.loop.invariant.callers c.checkpoint.ensures.callers

pub loop-init : goal.loop-init
loop-init g c = record {
  belongs = c.requires.belongs;
  unlocked = c.requires.unlocked;
  callers = callers_none c.args.pass.now;
  met = refl;
}

pub loop-preserved : goal.loop-preserved
loop-preserved g c = record {
  belongs = c.checkpoint.ensures.belongs;
  unlocked = no_lock_kept c.loop.pass c.checkpoint.new.pass c.checkpoint.ensures.callers.locks c.loop.invariant.unlocked;
  callers = callers_on c.args.pass.now c.loop.pass c.checkpoint.new.pass c.loop.invariant.callers c.checkpoint.ensures.callers;
  met = c.in-Ok.ensures.met ∙ c.loop.invariant.met;
}
