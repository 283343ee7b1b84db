use Rattle.std.proofs.Common.{arith}
use Rattle.block_lists.proofs.Blocks.{are_numbers}
use Rattle.block_lists.proofs.numbers.numbers_of.Goals as goal

pub returns-clause-good : goal.returns-clause-good
returns-clause-good c = λ valid. are_numbers _ _ _ _ _ (omega arith) (omega arith) (omega arith) (omega arith) valid
