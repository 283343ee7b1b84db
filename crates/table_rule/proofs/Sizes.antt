-- The catalogue's blocks are those below the sizes that it says.
use Rattle.std.proofs.Common.{◌≡◌, ℕ, ◌*◌, ◌/◌, ◌%◌, ◌^◌, ◌<◌, Bool, true, nat_lt, Option, Some, None, List, refl, ap, ◌∙◌, arith}
use Rattle.std.specs.Prelude.{option_and_then}
use Rattle.block_tag.specs.declared.tag.Fork.{Fork}
use Rattle.block_tag.specs.declared.tag.Tag.{Tag}
use Rattle.block_tag.specs.declared.catalogue.RelEntry.{RelEntry}
use Rattle.block_tag.specs.Names.{unpacked_tag, fork_of_number, tag_if_named, tag_of_parts}
use Rattle.pin_core.specs.State.{is_below, tag_fork, tag_block}
use Rattle.table_rule.specs.Blocks.{has_block, is_block, has_named, size_named, numbered_blocks, fork_size}

-- the tag of these parts, if there is one
abbrev of_parts : ℕ → ℕ → Option Fork → Option Tag
of_parts rel block fork = option_and_then (λ f. tag_if_named (tag_of_parts rel f block)) fork

below_parts : (relations : List RelEntry) (rel block : ℕ) (fork : Option Fork) → block < 4294967296 → nat_lt block (numbered_blocks (size_named relations (of_parts rel 0 fork))) ≡ has_named relations (of_parts rel block fork)
below_parts relations rel block None low = grind (arith)
below_parts relations rel block (Some fork) low = by_place (nat_lt rel 1024) refl
  where
    by_place : (b : Bool) → nat_lt rel 1024 ≡ b → nat_lt block (numbered_blocks (size_named relations (of_parts rel 0 (Some fork)))) ≡ has_named relations (of_parts rel block (Some fork))
    by_place b e = grind (arith, e, low)

pub below_sizes : (relations : List RelEntry) (word : ℕ) → is_below (fork_size relations) word ≡ is_block relations word
unfolding is_block fork_size tag_fork tag_block unpacked_tag
below_sizes relations word =
    ap (λ (t : Option Tag). nat_lt (word % 4294967296) (numbered_blocks (size_named relations t))) first ∙ below_parts relations (word / 2 ^ 40) (word % 2 ^ 32) (fork_of_number ((word / 2 ^ 32) % 2 ^ 8)) (omega arith)
  where
    start : ℕ
    start = (word / 4294967296) * 2 ^ 32

    first : of_parts (start / 2 ^ 40) (start % 2 ^ 32) (fork_of_number ((start / 2 ^ 32) % 2 ^ 8)) ≡ of_parts (word / 2 ^ 40) 0 (fork_of_number ((word / 2 ^ 32) % 2 ^ 8))
    first = ap (λ (n : ℕ). of_parts n (start % 2 ^ 32) (fork_of_number ((start / 2 ^ 32) % 2 ^ 8))) {x = start / 2 ^ 40} {y = word / 2 ^ 40} (omega arith)
        ∙ ap (λ (n : ℕ). of_parts (word / 2 ^ 40) n (fork_of_number ((start / 2 ^ 32) % 2 ^ 8))) {x = start % 2 ^ 32} {y = 0} (omega arith)
        ∙ ap (λ (n : ℕ). of_parts (word / 2 ^ 40) 0 (fork_of_number (n % 2 ^ 8))) {x = start / 2 ^ 32} {y = word / 2 ^ 32} (omega arith)

-- a block of the relations, by its number and its tag
pub named_below : (relations : List RelEntry) (word : ℕ) (tag : Tag) → unpacked_tag word ≡ Some tag → has_block relations tag ≡ true → is_below (fork_size relations) word ≡ true
unfolding is_block
named_below relations word tag named listed = below_sizes relations word ∙ ap (has_named relations) named ∙ listed
