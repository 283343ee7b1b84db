use Rattle.std.proofs.Common.{ℕ, Err, arith}
use Rattle.block_lists.specs.declared.reading.ListError.TheVariants.{TooMany}
use Rattle.block_lists.proofs.Listed.{not_refused, read_back}
use Rattle.block_lists.proofs.reading.parse_list.Goals as goal

pub returns-then-count_lines-gt-MOST_LINES-clause-right : goal.returns-then-count_lines-gt-MOST_LINES-clause-right
returns-then-count_lines-gt-MOST_LINES-clause-right c = λ blocks list. not_refused list {V = ℕ} (Err TooMany) (omega arith)

pub returns-clause-back : goal.returns-clause-back
returns-clause-back c = λ blocks list. read_back list (λ v. v.items) c.blocks_in.result c.blocks_in.ensures.read

pub returns-clause-right : goal.returns-clause-right
returns-clause-right c = λ blocks list. not_refused list c.blocks_in.result c.blocks_in.ensures.refused
