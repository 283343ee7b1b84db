-- A relation made from a number, its seed. What the page of a block is goes by the sum of the seed
-- and the block, modulo 8: the page is new, it isn't sound, or it has that many items, every third
-- one's line pointer dead. Items go by their numbers, from 1 on.
use Rattle.std.specs.Prelude.{◌≡◌, ℕ, zero, suc, ◌+◌, ◌-◌, ◌*◌, ◌/◌, ◌%◌, ◌^◌, ◌==◌, Bool, List, []}
use Rattle.std.specs.Prelude.{◌++◌, replicate, if◌then◌else◌}
use Rattle.byteorder.specs.Endian.{little_bytes}

-- a header: the log position, its high half first, no checksum, the flags, the ends of line
-- pointers and of free space, no special space, the size of pages with the layout's version, and no
-- transaction
unfoldable pub header_bytes : ℕ → ℕ → ℕ → ℕ → List ℕ
header_bytes lsn flags lower upper =
    little_bytes 4 (lsn / 2 ^ 32) ++ (little_bytes 4 (lsn % 2 ^ 32)
    ++ (little_bytes 2 0 ++ (little_bytes 2 flags ++ (little_bytes 2 lower
    ++ (little_bytes 2 upper ++ (little_bytes 2 8192 ++ (little_bytes 2 8196
    ++ little_bytes 4 0)))))))

abbrev pub item_length : ℕ → ℕ
item_length item = 8 * item

-- the items stand at the page's end without gaps, each below that of the next smaller number
abbrev pub item_offset : ℕ → ℕ
item_offset item = 8192 - 4 * item * (item + 1)

abbrev pub is_dead : ℕ → ℕ → Bool
is_dead block item = (item + block) % 3 == 0

-- a line pointer: a dead one has no offset and no length, all others are normal
abbrev pub pointer_bits : ℕ → ℕ → ℕ
pointer_bits block item =
    if is_dead block item then 3 * 2 ^ 15 else item_offset item + 2 ^ 15 + item_length item * 2 ^ 17

-- those of the first items
unfoldable pub pointers : ℕ → ℕ → List ℕ
pointers block zero = []
pointers block (suc n) = pointers block n ++ little_bytes 4 (pointer_bits block (suc n))

-- the bytes of the first items: each is the sum of the block and the item, in a byte. Those of dead
-- line pointers stay
unfoldable pub items : ℕ → ℕ → List ℕ
items block zero = []
items block (suc n) = replicate (item_length (suc n)) ((block + suc n) % 256) ++ items block n

abbrev pub lower_end : ℕ → ℕ
lower_end n = 24 + 4 * n

-- a page with n items, at the log position 8 times its block
unfoldable pub used_page : ℕ → ℕ → List ℕ
used_page block n =
    ((header_bytes (8 * block) 0 (lower_end n) (item_offset n) ++ pointers block n)
    ++ replicate (item_offset n - lower_end n) 0) ++ items block n

-- one that isn't sound: it has a flag that no page has
unfoldable pub unsound_page : ℕ → List ℕ
unsound_page block = header_bytes (8 * block) 8 24 8192 ++ replicate (8192 - 24) 0

-- the page of a kind: 0 is a new page, 1 one that isn't sound, and each larger number that of its
-- items
unfoldable pub page_of_kind : ℕ → ℕ → List ℕ
page_of_kind zero block = replicate 8192 0
page_of_kind (suc zero) block = unsound_page block
page_of_kind (suc (suc n)) block = used_page block (suc (suc n))

-- the page of a block
unfoldable pub sample_page : ℕ → ℕ → List ℕ
sample_page seed block = page_of_kind ((seed + block) % 8) block

-- these bytes were put after the old ones
pub record Extends (old new bytes : List ℕ) : Type 0 where
  pub is : new ≡ old ++ bytes
