-- A page that is rewritten without its dead line pointers, its items put together at its end, as
-- `PageRepairFragmentation` and `compactify_tuples` in PostgreSQL's `bufpage.c` do. Line pointers go by their place,
-- from 0 on.
use Rattle.std.specs.Prelude.{◌≡◌, ◌<◌, true, ℕ, suc, zero, ◌+◌, ◌-◌, ◌*◌, ◌/◌, ◌%◌, ◌^◌, ◌==◌}
use Rattle.std.specs.Prelude.{Bool, not, ◌&&◌, ◌||◌, nat_lt, nat_le, List, map, slice_index, length}
use Rattle.std.specs.Prelude.{if◌then◌else◌, sum_by}
use Rattle.std.specs.List.{list_any, range_with_len}
use Rattle.std.specs.Int.{byte_at}
use Rattle.std.specs.Str.{bytes_eq}
use Rattle.page_layout.specs.declared.rewrite.Rewrite.{Rewrite}
use Rattle.page_layout.specs.declared.rewrite.Rewrite.TheVariants.{Same, Changed, Skipped}
use Rattle.page_layout.specs.Fields.{number_at, item_count, pointer_at}
use Rattle.page_layout.specs.Pointers.{count_of_state, items_of}

abbrev pub lower_of : List ℕ → ℕ
lower_of page = number_at 12 2 page

abbrev pub upper_of : List ℕ → ℕ
upper_of page = number_at 14 2 page

abbrev pub special_of : List ℕ → ℕ
special_of page = number_at 16 2 page

-- the fields of the line pointer at a place
unfoldable pub offset_at : List ℕ → ℕ → ℕ
offset_at page place = pointer_at page place % 2 ^ 15

unfoldable pub state_at : List ℕ → ℕ → ℕ
state_at page place = pointer_at page place / 2 ^ 15 % 4

unfoldable pub length_at : List ℕ → ℕ → ℕ
length_at page place = pointer_at page place / 2 ^ 17

-- whether it points at an item in the page, and whether it stays: an unused or dead one doesn't
abbrev pub is_normal : List ℕ → ℕ → Bool
is_normal page place = state_at page place == 1

abbrev pub is_redirect : List ℕ → ℕ → Bool
is_redirect page place = state_at page place == 2

abbrev pub stays : List ℕ → ℕ → Bool
stays page place = is_normal page place || is_redirect page place

-- the room of its item, if any: the item's length, rounded up to a multiple of 8
unfoldable pub room_at : List ℕ → ℕ → ℕ
room_at page place = if is_normal page place then (length_at page place + 7) / 8 * 8 else 0

abbrev pub places_of : List ℕ → List ℕ
places_of page = range_with_len 0 (item_count page)

-- the room of all items
unfoldable pub room_of_items : List ℕ → ℕ
room_of_items page = sum_by (room_at page) (places_of page)

-- whether another item stands at or above this one: at a higher offset, or at the same one under no
-- larger number
unfoldable pub is_at_or_above : List ℕ → ℕ → ℕ → Bool
is_at_or_above page place other =
    nat_lt (offset_at page place) (offset_at page other) || (offset_at page other == offset_at page place && nat_le other place)

-- where its item is put: below it and the items above it the page ends, or its special space begins
unfoldable pub new_offset : List ℕ → ℕ → ℕ
new_offset page place =
    special_of page - sum_by (λ other. if is_at_or_above page place other then room_at page other else 0) (places_of page)

-- whether an item reaches out of the items' space
abbrev pub is_outside : List ℕ → ℕ → Bool
is_outside page place =
    is_normal page place && (nat_lt (offset_at page place) (upper_of page) || nat_lt (special_of page) (offset_at page place + length_at page place))

-- whether the page is left alone: it has a checksum, a special space or a lower end within the
-- header, an item reaches out of the items' space, or the items have no room after the line
-- pointers
unfoldable pub is_skipped : List ℕ → Bool
is_skipped page =
    not (number_at 8 2 page == 0) || (not (special_of page == 8192) || (nat_lt (lower_of page) 24 || (list_any (is_outside page) (places_of page) || nat_lt (special_of page - lower_of page) (room_of_items page))))

-- how many of the first n line pointers are left once those at their end that don't stay are cut
unfoldable pub left_of_first : List ℕ → ℕ → ℕ
left_of_first page zero = 0
left_of_first page (suc n) = if stays page n then suc n else left_of_first page n

unfoldable pub pointers_left : List ℕ → ℕ
pointers_left page = left_of_first page (item_count page)

-- the line pointer at a place: a normal one has its item's new offset, a redirect is as before, all
-- others are unused
unfoldable pub new_pointer : List ℕ → ℕ → ℕ
new_pointer page place =
    if is_normal page place then new_offset page place + 2 ^ 15 + length_at page place * 2 ^ 17 else (if is_redirect page place then pointer_at page place else 0)

unfoldable pub new_lower : List ℕ → ℕ
new_lower page = 24 + 4 * pointers_left page

unfoldable pub new_upper : List ℕ → ℕ
new_upper page = special_of page - room_of_items page

-- flag 1 says whether an unused line pointer is left
unfoldable pub new_flags : List ℕ → ℕ
new_flags page =
    number_at 10 2 page / 2 * 2 + (if list_any (λ place. not (stays page place)) (range_with_len 0 (pointers_left page)) then 1 else 0)

-- whether a byte is in the room of the item, where it is put
unfoldable pub is_in_room : List ℕ → ℕ → ℕ → Bool
is_in_room page at place =
    is_normal page place && (nat_le (new_offset page place) at && nat_lt at (new_offset page place + room_at page place))

-- the byte there: the item's, or after it 0
unfoldable pub byte_in_room : List ℕ → ℕ → ℕ → ℕ
byte_in_room page at place =
    let k = at - new_offset page place in if nat_lt k (length_at page place) then slice_index page (offset_at page place + k) else 0

-- the byte of the item, among those of the first n line pointers, in whose room it is
unfoldable pub item_byte : List ℕ → ℕ → ℕ → ℕ
item_byte page at zero = 0
item_byte page at (suc n) = if is_in_room page at n then byte_in_room page at n else item_byte page at n

-- each byte of the page
unfoldable pub new_byte : List ℕ → ℕ → ℕ
new_byte page at =
    if nat_lt at 10 then slice_index page at
    else (if nat_lt at 12 then byte_at (at - 10) (new_flags page)
    else (if nat_lt at 14 then byte_at (at - 12) (new_lower page)
    else (if nat_lt at 16 then byte_at (at - 14) (new_upper page)
    else (if nat_lt at 24 then slice_index page at
    else (if nat_lt at (new_lower page) then byte_at ((at - 24) % 4) (new_pointer page ((at - 24) / 4))
    else (if nat_lt at (new_upper page) then 0
    else (if nat_lt at (special_of page) then item_byte page at (item_count page)
    else slice_index page at)))))))

-- the page, rewritten
unfoldable pub rewritten_page : List ℕ → List ℕ
rewritten_page page = map (new_byte page) (range_with_len 0 (length page))

-- how many line pointers are dead
abbrev pub dead_count : List ℕ → ℕ
dead_count page = count_of_state 3 (items_of page)

-- what becomes of a page
unfoldable pub rewrite_of : List ℕ → Rewrite
rewrite_of page =
    if is_skipped page then Skipped else (if bytes_eq (rewritten_page page) page then Same else Changed (dead_count page))

-- the items of a page stand in another at their new offsets
abbrev pub HasItemsOf : List ℕ → List ℕ → Type 0
HasItemsOf page other =
    (place k : ℕ) → place < item_count page → is_normal page place ≡ true → k < length_at page place → slice_index other (new_offset page place + k) ≡ slice_index page (offset_at page place + k)
