use Rattle.std.proofs.Common.{arith}
use Rattle.block_lists.proofs.FirstNumber.{if_none}
use Rattle.block_lists.proofs.Blocks.{block_there, none0, none1, none2, none3, none4, none5}
use Rattle.block_lists.proofs.reading.take_block.Goals as goal
use Rattle.block_lists.proofs.reading.take_block.Goals.{then-fork-gt3-via-then-fork-gt3, then-fork-gt3-via-else-fork-gt3+then-block-gt-LAST_BLOCK}

pub returns-in_err-tablespace-clause-none : goal.returns-in_err-tablespace-clause-none
returns-in_err-tablespace-clause-none c = if_none _ (none0 c.in_err-tablespace.ensures.none)

pub returns-in_err-database-clause-none : goal.returns-in_err-database-clause-none
returns-in_err-database-clause-none c =
    if_none _ (none1 c.in_ok-tablespace.ensures.some c.in_err-database.ensures.none)

pub returns-in_err-relation-clause-none : goal.returns-in_err-relation-clause-none
returns-in_err-relation-clause-none c =
    if_none _ (none2 c.in_ok-tablespace.ensures.some c.in_ok-database.ensures.some c.in_err-relation.ensures.none)

pub returns-in_err-fork-clause-none : goal.returns-in_err-fork-clause-none
returns-in_err-fork-clause-none c =
    if_none _ (none3 c.in_ok-tablespace.ensures.some c.in_ok-database.ensures.some c.in_ok-relation.ensures.some c.in_err-fork.ensures.none)

pub returns-in_err-block-clause-none : goal.returns-in_err-block-clause-none
returns-in_err-block-clause-none c =
    if_none _ (none4 c.in_ok-tablespace.ensures.some c.in_ok-database.ensures.some c.in_ok-relation.ensures.some c.in_ok-fork.ensures.some c.in_err-block.ensures.none)

pub returns-then-fork-gt3-clause-none : goal.returns-then-fork-gt3-clause-none
returns-then-fork-gt3-clause-none c =
    none5 c.in_ok-tablespace.ensures.some c.in_ok-database.ensures.some c.in_ok-relation.ensures.some c.in_ok-fork.ensures.some c.in_ok-block.ensures.some
    (λ fork valid. elim c.then-fork-gt3.branch [
      | then-fork-gt3-via-then-fork-gt3 w ↦ omega arith
      | then-fork-gt3-via-else-fork-gt3+then-block-gt-LAST_BLOCK w ↦ omega arith
    ])

pub returns-clause-some : goal.returns-clause-some
returns-clause-some c =
    block_there c.in_ok-tablespace.ensures.some c.in_ok-database.ensures.some c.in_ok-relation.ensures.some c.in_ok-fork.ensures.some c.in_ok-block.ensures.some (omega arith) (omega arith)
