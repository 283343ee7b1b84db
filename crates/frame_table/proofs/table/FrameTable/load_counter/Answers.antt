use Rattle.frame_table.proofs.LastBackend.{counter_alone}
use Rattle.frame_table.proofs.WordSteps.{counter_least}
use Rattle.frame_table.proofs.table.FrameTable.load_counter.Goals as goal

pub returns-clause-least : goal.returns-clause-least
returns-clause-least g c = counter_least _ _ _ _ c.counter_at.ensures.did

pub returns-clause-exact : goal.returns-clause-exact
returns-clause-exact g c = counter_alone _ _ _ _ c.counter_at.ensures.did
