-- What a dump prints of a page: the line of a scan, and for a page that is sound and not new a line
-- for each line pointer.
use Rattle.std.specs.Prelude.{ℕ, ◌+◌, ◌/◌, ◌%◌, ◌==◌, not, ◌&&◌, nat_lt, List, [], ◌∷◌, ◌++◌, codes}
use Rattle.std.specs.Prelude.{take, drop, if◌then◌else◌}
use Rattle.std.specs.List.{flat_map, range_with_len}
use Rattle.std.specs.Fmt.{decimal}
use Rattle.page_layout.specs.declared.page.Item.{Item}
use Rattle.page_layout.specs.Fields.{item_count, item_of, pointer_at}
use Rattle.page_layout.specs.Scan.{totals_of, totals_text}
use Rattle.page_layout.specs.Soundness.{is_new_page, is_sound_page}
use Rattle.page_layout.specs.Text.{joined, scan_line_of}

-- a digit in lower-case hexadecimal
unfoldable pub hex_digit : ℕ → ℕ
hex_digit n = if nat_lt n 10 then 48 + n else 87 + n

-- bytes in lower-case hexadecimal, two digits each
unfoldable pub hex_of : List ℕ → List ℕ
hex_of bytes = flat_map (λ b. hex_digit (b / 16) ∷ hex_digit (b % 16) ∷ []) bytes

-- the bytes of an item: none may stand outside the page, and none is shown as a dash
unfoldable pub item_text : List ℕ → ℕ → ℕ → List ℕ
item_text page offset length =
    if nat_lt 8192 (offset + length) then codes "outside" else (if length == 0 then codes "-" else hex_of (take length (drop offset page)))

-- the line of a line pointer, by its number
unfoldable pub item_line : List ℕ → ℕ → Item → List ℕ
item_line page number i =
    if i.state == 0 then joined (codes "  " ∷ decimal number ∷ codes " unused\n" ∷ [])
    else (if i.state == 2 then joined (codes "  " ∷ decimal number ∷ codes " redirect " ∷ decimal i.offset ∷ codes "\n" ∷ [])
    else (if i.state == 3 then joined (codes "  " ∷ decimal number ∷ codes " dead " ∷ decimal i.offset ∷ codes " " ∷ decimal i.length ∷ codes "\n" ∷ [])
    else joined (codes "  " ∷ decimal number ∷ codes " normal " ∷ decimal i.offset ∷ codes " " ∷ decimal i.length ∷ codes " " ∷ item_text page i.offset i.length ∷ codes "\n" ∷ [])))

-- the line of a line pointer up to an item's bytes: the pointer's number and fields
unfoldable pub pointer_head : ℕ → Item → List ℕ
pointer_head number i =
    if i.state == 0 then joined (codes "  " ∷ decimal number ∷ codes " unused\n" ∷ [])
    else (if i.state == 2 then joined (codes "  " ∷ decimal number ∷ codes " redirect " ∷ decimal i.offset ∷ codes "\n" ∷ [])
    else (if i.state == 3 then joined (codes "  " ∷ decimal number ∷ codes " dead " ∷ decimal i.offset ∷ codes " " ∷ decimal i.length ∷ codes "\n" ∷ [])
    else joined (codes "  " ∷ decimal number ∷ codes " normal " ∷ decimal i.offset ∷ codes " " ∷ decimal i.length ∷ codes " " ∷ [])))

-- the rest of a line pointer's line: of a normal one the item's bytes
unfoldable pub pointer_tail : List ℕ → Item → List ℕ
pointer_tail page i = if i.state == 1 then item_text page i.offset i.length ++ codes "\n" else []

-- the line of the pointer at a place
unfoldable pub pointer_line : List ℕ → ℕ → List ℕ
pointer_line page place = item_line page (place + 1) (item_of (pointer_at page place))

-- the lines of the first n line pointers
unfoldable pub pointer_lines : List ℕ → ℕ → List ℕ
pointer_lines page n = flat_map (pointer_line page) (range_with_len 0 n)

-- the lines of all line pointers of a page that is sound and not new
unfoldable pub used_lines : List ℕ → List ℕ
used_lines page = if is_sound_page page && not (is_new_page page) then pointer_lines page (item_count page) else []

-- the dump of a block, whose page is this
unfoldable pub dump_lines_of : ℕ → List ℕ → List ℕ
dump_lines_of block page = scan_line_of block page ++ used_lines page

-- the lines of pages, the first of which is this block
abbrev pub dump_lines_from : ℕ → List (List ℕ) → List ℕ
dump_lines_from block [] = []
dump_lines_from block (page ∷ pages) = dump_lines_of block page ++ dump_lines_from (block + 1) pages

-- the dump of all blocks from 0 on, then the line of their totals
unfoldable pub dump_text : List (List ℕ) → List ℕ
dump_text pages = dump_lines_from 0 pages ++ (totals_text (totals_of pages) ++ codes "\n")
