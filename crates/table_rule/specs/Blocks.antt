-- What a catalogue says of blocks, by the numbers of their tags.
use Rattle.std.specs.Prelude.{ℕ, ◌-◌, ◌*◌, ◌^◌, Bool, false, nat_lt, if◌then◌else◌}
use Rattle.std.specs.Prelude.{List, ◌++◌, replicate, length, slice_get, Option, Some, None}
use Rattle.byteorder.specs.Endian.{little_bytes}
use Rattle.block_tag.specs.declared.tag.Tag.{Tag}
use Rattle.block_tag.specs.declared.catalogue.RelEntry.{RelEntry}
use Rattle.block_tag.specs.Names.{unpacked_tag, fork_number}
use Rattle.block_tag.specs.Catalogue.{blocks_at}

-- whether the relations have the block of a tag
abbrev pub has_block : List RelEntry → Tag → Bool
has_block relations tag = nat_lt tag.block (blocks_at relations tag.rel.0 tag.fork)

abbrev pub has_named : List RelEntry → Option Tag → Bool
has_named relations None = false
has_named relations (Some tag) = has_block relations tag

-- whether a tag, by its number, is that of a block of the relations; false for a number that is no
-- tag
unfoldable pub is_block : List RelEntry → ℕ → Bool
is_block relations word = has_named relations (unpacked_tag word)

-- how many blocks the fork of a tag has
abbrev pub size_named : List RelEntry → Option Tag → ℕ
size_named relations None = 0
size_named relations (Some tag) = blocks_at relations tag.rel.0 tag.fork

-- whether the tag's relation is one of these
abbrev pub has_relation : List RelEntry → Option Tag → Bool
has_relation relations None = false
has_relation relations (Some tag) = nat_lt tag.rel.0 (length relations)

-- how many of n blocks have numbers: those below the invalid block number, whatever a catalogue
-- says
abbrev pub numbered_blocks : ℕ → ℕ
numbered_blocks n = if nat_lt n (2 ^ 32 - 1) then n else 2 ^ 32 - 1

unfoldable pub fork_size : List RelEntry → ℕ → ℕ
fork_size relations fork = numbered_blocks (size_named relations (unpacked_tag (fork * 2 ^ 32)))

-- whether a fork, numbered by the relation's place and its own number, is one of the relations
unfoldable pub is_fork : List RelEntry → ℕ → Bool
is_fork relations fork = has_relation relations (unpacked_tag (fork * 2 ^ 32))

-- How the log names a block: the relation's three numbers, the fork, and the block, in 4 bytes each
abbrev pub block_name : RelEntry → Tag → List ℕ
block_name e tag = little_bytes 4 e.tablespace
    ++ (little_bytes 4 e.database ++ (little_bytes 4 e.relation
    ++ (little_bytes 4 (fork_number tag.fork) ++ little_bytes 4 tag.block)))

-- a block that the relations lack has no name: zeros stand for it
abbrev pub no_name : List ℕ
no_name = replicate 20 0

abbrev pub name_in : Option RelEntry → Tag → List ℕ
name_in None tag = no_name
name_in (Some e) tag = block_name e tag

abbrev pub name_of : List RelEntry → Option Tag → List ℕ
name_of relations None = no_name
name_of relations (Some tag) = name_in (slice_get relations tag.rel.0) tag

unfoldable pub log_name : List RelEntry → ℕ → List ℕ
log_name relations word = name_of relations (unpacked_tag word)
