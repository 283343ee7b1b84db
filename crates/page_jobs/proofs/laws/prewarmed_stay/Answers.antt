use Rattle.table_rule.specs.Shows.{devices}
use Rattle.page_jobs.proofs.Prewarmed.{one_alone, prewarmed_stay}
use Rattle.page_jobs.proofs.laws.prewarmed_stay.Goals as goal

pub returns-clause-listed : goal.returns-clause-listed
returns-clause-listed g c = prewarmed_stay (devices g.L.BlockLane g.G.LogDevice) c.args._manager.now

pub returns-clause-alone : goal.returns-clause-alone
returns-clause-alone g c = one_alone (devices g.L.BlockLane g.G.LogDevice) c.args._manager.now
