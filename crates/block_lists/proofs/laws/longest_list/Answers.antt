use Rattle.block_lists.proofs.Listed.{text_short}
use Rattle.block_lists.proofs.laws.longest_list.Goals as goal

pub returns : goal.returns
returns c = text_short
