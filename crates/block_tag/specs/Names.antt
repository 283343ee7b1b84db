-- How blocks are named: the number of a fork, and of a tag.
use Rattle.std.specs.Prelude.{ℕ, ◌+◌, ◌*◌, ◌/◌, ◌%◌, ◌^◌, ◌-◌, Bool, ◌&&◌, ◌==◌, nat_lt, Option}
use Rattle.std.specs.Prelude.{Some, None, if◌then◌else◌, option_and_then}
use Rattle.block_tag.specs.declared.tag.Fork.{Fork}
use Rattle.block_tag.specs.declared.tag.Fork.TheVariants.{Main, Fsm, Vm, Init}
use Rattle.block_tag.specs.declared.tag.Tag.{Tag}

-- a fork's number
abbrev pub fork_number : Fork → ℕ
fork_number Main = 0
fork_number Fsm = 1
fork_number Vm = 2
fork_number Init = 3

-- the fork of a number, if it is one
abbrev pub fork_of_number : ℕ → Option Fork
fork_of_number n =
    if n == 0 then Some Main
    else (if n == 1 then Some Fsm
    else (if n == 2 then Some Vm else (if n == 3 then Some Init else None)))

-- the sum by which tags are spread over partitions and lanes
abbrev pub hash_of : Tag → ℕ
hash_of t = 31 * t.rel.0 + 7 * fork_number t.fork + t.block

-- the lane of a tag, of this many
abbrev pub lane_number : Tag → ℕ → ℕ
lane_number t lanes = hash_of t % lanes

-- the partition of the mapping in which a tag lies
abbrev pub partition_number : Tag → ℕ
partition_number t = hash_of t % 128

-- the segment of a block, for segments of this many blocks, and the block's place there
abbrev pub segment_of : ℕ → ℕ → ℕ
segment_of seg_blocks block = block / seg_blocks

abbrev pub place_in_segment : ℕ → ℕ → ℕ
place_in_segment seg_blocks block = block % seg_blocks

-- whether two tags are one
abbrev pub tag_eq : Tag → Tag → Bool
tag_eq a b = a.rel.0 == b.rel.0 && (fork_number a.fork == fork_number b.fork && a.block == b.block)

-- a tag in one number: the relation from bit 40 on, the fork from bit 32 on, the block below
abbrev pub packed_tag : Tag → ℕ
packed_tag t = t.rel.0 * 2 ^ 40 + fork_number t.fork * 2 ^ 32 + t.block

-- whether a tag names a block: its relation has a place in a catalogue, and its block isn't the
-- invalid one
abbrev pub names_block : Tag → Bool
names_block t = nat_lt t.rel.0 1024 && nat_lt t.block (2 ^ 32 - 1)

-- the tag, if it names a block
abbrev pub tag_if_named : Tag → Option Tag
tag_if_named t = if names_block t then Some t else None

abbrev pub tag_of_parts : ℕ → Fork → ℕ → Tag
tag_of_parts rel fork block = record { rel = record { 0 = rel }; fork = fork; block = block }

-- the tag that a number is, if it is one
unfoldable pub unpacked_tag : ℕ → Option Tag
unpacked_tag packed =
    option_and_then (λ fork. tag_if_named (tag_of_parts (packed / 2 ^ 40) fork (packed % 2 ^ 32)))
    (fork_of_number (packed / 2 ^ 32 % 2 ^ 8))
