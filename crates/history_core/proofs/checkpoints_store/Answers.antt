use Rattle.history_core.proofs.EntryBlocks.{entries_of_blocks}
use Rattle.history_core.proofs.Promises.{checkpoints_store}
use Rattle.history_core.proofs.checkpoints_store.Goals as goal

pub returns : goal.returns
returns c = λ s r. checkpoints_store s r.invariant r.debts (entries_of_blocks s r)
