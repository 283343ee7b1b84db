use Rattle.std.proofs.Common.{◌≡◌, All, map, take}
use Rattle.block_lists.specs.Lists.{AreBlockNumbers, list_text}
use Rattle.block_lists.specs.Tags.{numbers_in}
use Rattle.block_lists.proofs.tags.lines_of_tags.Given as goal

abbrev pub invariant-loop-tag : goal.invariant-loop-tag
invariant-loop-tag l = record {
  lines : l.lines.items ≡ list_text (map (numbers_in l.catalogue) (take l.tag-index l.tags));
  good : All AreBlockNumbers (map (numbers_in l.catalogue) (take l.tag-index l.tags));
}
