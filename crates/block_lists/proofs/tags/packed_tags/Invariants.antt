use Rattle.std.proofs.Common.{◌≡◌, All, map, take}
use Rattle.block_tag.specs.Names.{packed_tag}
use Rattle.block_lists.specs.Tags.{IsRead}
use Rattle.block_lists.proofs.tags.packed_tags.Given as goal

abbrev pub invariant-loop-tag : goal.invariant-loop-tag
invariant-loop-tag l = record {
  numbers : l.packed.items ≡ map packed_tag (take l.tag-index l.tags);
  read : All IsRead (take l.tag-index l.tags);
}
