use Rattle.std.proofs.Common.{◌≡◌, ◌++◌, All, length}
use Rattle.block_lists.specs.Lists.{AreBlockNumbers, list_text}
use Rattle.block_lists.proofs.reading.blocks_in.Given as goal

abbrev pub invariant-loop-rest : goal.invariant-loop-rest
invariant-loop-rest l = record {
  good : All AreBlockNumbers l.listed.items;
  read : l.text ≡ list_text l.listed.items ++ l.rest;
}

abbrev pub decreases-loop-rest : goal.decreases-loop-rest
decreases-loop-rest l = length l.rest
