use Rattle.block_tag.specs.declared.tag.Tag.{Tag}
use Rattle.library_example.specs.Files.{HasBlock, HasBlocks, HasOnlyOwn}
use Rattle.library_example.proofs.files.lay_out.Given as goal

abbrev pub invariant-loop-at : goal.invariant-loop-at
invariant-loop-at l = record {
  only : HasOnlyOwn l.number l.lane;
  kept : (tag : Tag) → HasBlock l.fn.lane tag → HasBlock l.lane tag;
  laid : HasBlocks l.lane l.number l.rel.0 l.at;
}
