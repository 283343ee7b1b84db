use Rattle.std.proofs.Common.{◌≡◌, All, map, take}
use Rattle.block_tag.specs.Names.{packed_tag}
use Rattle.block_lists.specs.Tags.{IsRead}
use Rattle.block_lists.proofs.tags.unpacked_tags.Given as goal

abbrev pub invariant-loop-number : goal.invariant-loop-number
invariant-loop-number l = record {
  numbers : map packed_tag l.tags.items ≡ take l.number-index l.packed;
  read : All IsRead l.tags.items;
}
