-- What a page that isn't skipped has, and the numbers by which its items are sorted.
use Rattle.std.specs.Prelude.{◌≡◌, ℕ, suc, zero, ◌+◌, ◌-◌, ◌*◌, ◌%◌, ◌≤◌, ◌<◌, true, false, sum_by}
use Rattle.std.specs.Prelude.{slice_index, List, [], ◌∷◌, ◌++◌, if◌then◌else◌, length}
use Rattle.page_layout.specs.Fields.{item_count}
use Rattle.page_layout.specs.Rewritten.{is_normal, length_at, lower_of, new_offset, offset_at}
use Rattle.page_layout.specs.Rewritten.{places_of, room_at, room_of_items, special_of, upper_of}

-- a page that isn't skipped: its items stand between the line pointers and the end, and have room
-- there when rounded up
pub record IsCompactable (page : List ℕ) : Type 0 where
  pub size : length page ≡ 8192
  pub special : special_of page ≡ 8192
  pub lower : 24 ≤ lower_of page
  pub order : lower_of page ≤ upper_of page
  pub upper : upper_of page ≤ 8192
  pub inside : (place : ℕ) → place < item_count page → is_normal page place ≡ true
      → (upper_of page ≤ offset_at page place)
      × (offset_at page place + length_at page place ≤ 8192)
  pub room : room_of_items page + lower_of page ≤ 8192

-- a number that is the smaller the higher the item stands, and among items at one offset the
-- smaller the smaller its place
unfoldable pub key_at : List ℕ → ℕ → ℕ
key_at page place = (32767 - offset_at page place) * 65536 + place

-- the keys of the items among the first n line pointers
unfoldable pub keys_of : List ℕ → ℕ → List ℕ
keys_of page zero = []
keys_of page (suc n) =
    if is_normal page n then keys_of page n ++ key_at page n ∷ [] else keys_of page n

-- the room of the item that has the number
unfoldable pub room_of_key : List ℕ → ℕ → ℕ
room_of_key page key = room_at page (key % 65536)

-- a number of this list is an item's
pub record IsKey (page : List ℕ) (key : ℕ) : Type 0 where
  pub is : key ≡ key_at page (key % 65536)
  pub within : key % 65536 < item_count page
  pub normal : is_normal page (key % 65536) ≡ true

-- the sorted numbers of the items of a page
pub record AreSortedKeys (page : List ℕ) (numbers : List ℕ) : Type 0 where
  pub sums : (f : ℕ → ℕ) → ((place : ℕ) → is_normal page place ≡ false → f place ≡ 0)
      → sum_by (λ x. f (x % 65536)) numbers ≡ sum_by f (places_of page)
  pub ascending : (i j : ℕ) → i ≤ j → j < length numbers
      → slice_index numbers i ≤ slice_index numbers j
  pub each : (j : ℕ) → j < length numbers → IsKey page (slice_index numbers j)

-- these are the new offsets of the items of a page, by the places of their line pointers
abbrev pub AreNewOffsets : List ℕ → List ℕ → Type 0
AreNewOffsets page offsets =
    (place : ℕ) → place < item_count page → is_normal page place ≡ true
    → slice_index offsets place ≡ new_offset page place
