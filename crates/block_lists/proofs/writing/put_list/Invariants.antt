use Rattle.std.proofs.Common.{◌≡◌, take}
use Rattle.block_lists.specs.Lists.{list_text}
use Rattle.block_lists.proofs.writing.put_list.Given as goal

abbrev pub invariant-loop-block : goal.invariant-loop-block
invariant-loop-block l = l.lines.items ≡ list_text (take l.block-index l.blocks)
