-- The fields of a page, as PostgreSQL's "Database Page Layout" has them. Numbers have their lowest
-- byte first.
use Rattle.std.specs.Prelude.{ℕ, ◌+◌, ◌-◌, ◌*◌, ◌/◌, ◌%◌, ◌^◌, List, ◌++◌, drop}
use Rattle.byteorder.specs.Endian.{little_bytes, little_number}
use Rattle.page_layout.specs.declared.page.Header.{Header}
use Rattle.page_layout.specs.declared.page.Item.{Item}

-- the number of n bytes at a place
abbrev pub number_at : ℕ → ℕ → List ℕ → ℕ
number_at at n page = little_number n (drop at page)

-- the log position: two numbers of four bytes, the high half first
unfoldable pub lsn_of : List ℕ → ℕ
lsn_of page = number_at 0 4 page * 2 ^ 32 + number_at 4 4 page

-- the page with another log position
unfoldable pub with_lsn : ℕ → List ℕ → List ℕ
with_lsn lsn page = (little_bytes 4 (lsn / 2 ^ 32) ++ little_bytes 4 (lsn % 2 ^ 32)) ++ drop 8 page

unfoldable pub header_of : List ℕ → Header
header_of page = record {
  lsn = lsn_of page;
  checksum = number_at 8 2 page;
  flags = number_at 10 2 page;
  lower = number_at 12 2 page;
  upper = number_at 14 2 page;
  special = number_at 16 2 page;
  pagesize_version = number_at 18 2 page;
  prune_xid = number_at 20 4 page;
}

-- how many line pointers stand between the header and the lower end
unfoldable pub item_count : List ℕ → ℕ
item_count page = (number_at 12 2 page - 24) / 4

-- the line pointer at a place from 0, as a number
unfoldable pub pointer_at : List ℕ → ℕ → ℕ
pointer_at page place = number_at (24 + 4 * place) 4 page

-- a line pointer, from the low bit up: 15 bits of offset, 2 of state, 15 of length
abbrev pub item_of : ℕ → Item
item_of pointer = record {
  offset = pointer % 2 ^ 15;
  state = pointer / 2 ^ 15 % 4;
  length = pointer / 2 ^ 17;
}
