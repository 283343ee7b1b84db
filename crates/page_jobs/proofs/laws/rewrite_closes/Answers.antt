use Rattle.table_rule.specs.Shows.{devices}
use Rattle.page_jobs.proofs.RewriteDevices.{closes_either, closes_rewritten}
use Rattle.page_jobs.proofs.RewriteFull.{closes_full}
use Rattle.page_jobs.proofs.laws.rewrite_closes.Goals as goal

pub returns-clause-any : goal.returns-clause-any
returns-clause-any g c = closes_either (devices g.L.BlockLane g.G.LogDevice) c.args._manager.now

pub returns-clause-all : goal.returns-clause-all
returns-clause-all g c = closes_rewritten (devices g.L.BlockLane g.G.LogDevice) c.args._manager.now

pub returns-clause-full : goal.returns-clause-full
returns-clause-full g c = closes_full (devices g.L.BlockLane g.G.LogDevice) c.args._manager.now
