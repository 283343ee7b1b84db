use Rattle.history_core.proofs.EntryBlocks.{entries_of_blocks}
use Rattle.history_core.proofs.Promises.{sweeps}
use Rattle.history_core.proofs.sweeps_store.Goals as goal

pub returns : goal.returns
returns c = λ s r. sweeps s r.invariant r.debts (entries_of_blocks s r) r.swept
