-- Numbers of tags.
use Rattle.std.proofs.Common.{◌≡◌, ℕ, ◌<◌, ◌^◌, true, Some, arith}
use Rattle.std.proofs.lemmas.Grind.{common_steps}
use Rattle.block_tag.specs.declared.tag.Tag.{Tag}
use Rattle.block_tag.specs.Names.{names_block, packed_tag, unpacked_tag}

pub packed_is : (tag : Tag) → names_block tag ≡ true → unpacked_tag (packed_tag tag) ≡ Some tag
unfolding unpacked_tag
packed_is tag named = grind (arith, common_steps)

pub unpacked_is : (word : ℕ) (tag : Tag) → unpacked_tag word ≡ Some tag → (names_block tag ≡ true) × (packed_tag tag ≡ word)
unfolding unpacked_tag
unpacked_is word tag e = grind (arith, common_steps)

pub unpacked_low : (word : ℕ) (tag : Tag) → unpacked_tag word ≡ Some tag → word < 2 ^ 50
unpacked_low word tag e = let is = unpacked_is word tag e in grind (arith, common_steps)
