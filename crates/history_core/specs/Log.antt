-- The write-ahead log, the pages of blocks that follow from it, and what backends read and wrote.
-- An image is always allowed, ranges only if `ranges` says so; a table's log has images alone.
-- Ranges change the page that was copied under the content lock. No step enters a size yet.
use Rattle.std.specs.Prelude.{◌≡◌, ◌≢◌, ◌⊎◌, ℕ, ◌+◌, ◌-◌, ◌*◌, ◌/◌, ◌<◌, ◌≤◌, Bool, true}
use Rattle.std.specs.Prelude.{false, ◌&&◌, List, [], ◌∷◌, ◌++◌, length, take, drop, replicate}
use Rattle.std.specs.Prelude.{nat_eq, nat_le, nat_lt, Option, Some, None, option_map, if◌then◌else◌}
use mathlib.Core.Option.{some}
use lib.ListN.{get_elem?}
use Rattle.byteorder.specs.Endian.{little_bytes}
use Rattle.page_layout.specs.Fields.{lsn_of, with_lsn}
use Rattle.page_layout.specs.Soundness.{is_new_page, is_sound_page}
use Rattle.pin_core.specs.declared.view.Call.{Call}
use Rattle.pin_core.specs.declared.view.Call.TheVariants.{Read, Write, Size, Sized}
use Rattle.pin_core.specs.declared.view.ImageTest.{ImageTest}
use Rattle.pin_core.specs.declared.view.WriteRecord.{WriteRecord}
use Rattle.pin_core.specs.State.{Page, tag_fork, tag_block, first_block}
use Rattle.page_core.specs.State.{zero_page}
use Rattle.grid.specs.Shape.{total}

-- Bytes of a page that are replaced
pub record Span : Type 0 where
  -- where the bytes stand in the page
  pub place : ℕ
  -- the new bytes
  pub bytes : List ℕ

-- What an entry changes
pub data Change : Type 0 where
  -- the whole page of a block, by the block's tag
  image : ℕ → Page → Change
  -- bytes of a block's page, by the block's tag
  ranges : ℕ → List Span → Change
  -- how many blocks a fork has: the fork, by its number, the blocks that it had, and those that it
  -- has
  resize : ℕ → ℕ → ℕ → Change

-- An entry
pub record Entry : Type 0 where
  -- the position of the entry's first byte
  pub start : ℕ
  -- the backend that made the entry
  pub backend : ℕ
  -- what the entry changes
  pub change : Change

-- how many bytes of the log the entry of a page takes: no entry takes more
abbrev pub record_size : ℕ
record_size = 8224

-- whether a change is a whole page
abbrev pub is_image : Change → Bool
is_image (image tag page) = true
is_image (ranges tag spans) = false
is_image (resize fork old new) = false

-- how many bytes spans take in a record: a place and a length, in 2 bytes each, and their bytes
unfoldable pub spans_size : List Span → ℕ
spans_size [] = 0
spans_size (s ∷ ss) = 4 + length s.bytes + spans_size ss

-- the next multiple of 8
abbrev pub rounded : ℕ → ℕ
rounded n = (n + 7) / 8 * 8

-- how many bytes of the log an entry takes
abbrev pub change_size : Change → ℕ
change_size (image tag page) = record_size
change_size (ranges tag spans) = rounded (36 + spans_size spans)
change_size (resize fork old new) = 40

-- the position where an entry ends
abbrev pub end_of : Entry → ℕ
end_of e = e.start + change_size e.change

-- The log: the position where it begins, and its entries
pub record Log : Type 0 where
  -- the position where the log begins
  pub base : ℕ
  -- the log's entries, in order
  pub entries : List Entry

-- where the last entry ends, or else the position `from`
unfoldable pub end_from : ℕ → List Entry → ℕ
end_from from [] = from
end_from from (e ∷ es) = end_from (end_of e) es

-- the position where the last entry ends, or the base
abbrev pub log_end : Log → ℕ
log_end log = end_from log.base log.entries

-- each entry begins where the one before it ends, the first at the position `from`
unfoldable pub AreChained : ℕ → List Entry → Type 0
AreChained from [] = Unit {0}
AreChained from (e ∷ es) = (e.start ≡ from) × AreChained (end_of e) es

-- A page of 8192 bytes with content, whose position in the log (`pd_lsn`) is this
pub record IsImage (end : ℕ) (page : Page) : Type 0 where
  -- the page is sound (`PageIsVerifiedExtended`)
  pub sound : is_sound_page page ≡ true
  -- the page isn't new (`PageIsNew`)
  pub used : is_new_page page ≡ false
  -- the page has 8192 bytes
  pub full : length page ≡ 8192
  -- the page's position in the log (`pd_lsn`) is this one
  pub ends : lsn_of page ≡ end

-- each span has a byte at least; the first begins at `from` or after it, each later one where the
-- one before it ends or after that, and the last ends within the page
unfoldable pub StandApart : ℕ → List Span → Type 0
StandApart from [] = from ≤ 8192
StandApart from (s ∷ ss) = (from ≤ s.place) × (0 < length s.bytes)
    × StandApart (s.place + length s.bytes) ss

-- From 1 to 16 spans, none of which touches a page's position in the log, its first 8 bytes, in a
-- record that is shorter than that of a page
pub record AreRanges (spans : List Span) : Type 0 where
  -- there is at least one span
  pub some : 0 < length spans
  -- there are at most 16 spans
  pub few : length spans ≤ 16
  -- spans aren't empty, stand in order without overlap, and lie past the page's first 8 bytes
  pub apart : StandApart 8 spans
  -- the record is shorter than that of a page
  pub shorter : rounded (36 + spans_size spans) < record_size

-- A fork gets one block more, or fewer than it had; the numbers are of 32 bits
pub record IsResize (old new : ℕ) : Type 0 where
  -- the old size is a number of 32 bits
  pub old_fits : old ≤ 4294967295
  -- the new size is a number of 32 bits
  pub new_fits : new ≤ 4294967295
  -- the fork gets one block more, or has fewer than before
  pub moves : (new ≡ old + 1) ⊎ (new < old)

-- What a change may be in an entry that ends at the position `end`
abbrev pub IsChange : ℕ → Change → Type 0
IsChange end (image tag page) = IsImage end page
IsChange end (ranges tag spans) = AreRanges spans
IsChange end (resize fork old new) = IsResize old new

-- whether an entry may be made of a change: of ranges only if `may` says so, of a fork's size not
-- yet
abbrev pub MayMake : Bool → Change → Type 0
MayMake may (image tag page) = Unit {0}
MayMake may (ranges tag spans) = may ≡ true
MayMake may (resize fork old new) = ⊥

-- whether a change is of a page, not of a fork's size
abbrev pub is_of_page : Change → Bool
is_of_page (image tag page) = true
is_of_page (ranges tag spans) = true
is_of_page (resize fork old new) = false

-- each entry is of a page
abbrev pub AreOfPages : List Entry → Type 0
AreOfPages es = (k : ℕ) (e : Entry) → get_elem? es k ≡ some e → is_of_page e.change ≡ true

-- each entry is a whole page
abbrev pub AreImages : List Entry → Type 0
AreImages es = (k : ℕ) (e : Entry) → get_elem? es k ≡ some e → is_image e.change ≡ true

-- each entry's change is one that an entry may have there
abbrev pub AreValid : List Entry → Type 0
AreValid es = (k : ℕ) (e : Entry) → get_elem? es k ≡ some e → IsChange (end_of e) e.change

-- The entries follow one another, from the base on
pub record LogLaw (log : Log) : Type 0 where
  -- each entry begins where the one before it ends, the first at the base
  pub chained : AreChained log.base log.entries
  -- each entry's change is one that an entry may have there
  pub valid : (k : ℕ) (e : Entry) → get_elem? log.entries k ≡ some e → IsChange (end_of e) e.change

-- the places and the lengths of spans
unfoldable pub span_places : List Span → List ℕ
span_places [] = []
span_places (s ∷ ss) = little_bytes 2 s.place ++ (little_bytes 2 (length s.bytes) ++ span_places ss)

-- the bytes of spans
unfoldable pub span_bytes : List Span → List ℕ
span_bytes [] = []
span_bytes (s ∷ ss) = s.bytes ++ span_bytes ss

-- how many spans there are, where they stand, and their bytes, with zeros up to the record's end
abbrev pub ranges_bytes : List Span → List ℕ
ranges_bytes spans = little_bytes 4 (length spans)
    ++ (span_places spans
    ++ (span_bytes spans
    ++ replicate (rounded (36 + spans_size spans) - (36 + spans_size spans)) 0))

-- the bytes of an entry's record: its kind, its block, its start, and what it changes. A resize
-- names the fork, as in the names of its blocks, with the new size in place of the block; the old
-- size comes last, padded with zeros. `names` is how the log names a block, in 20 bytes
abbrev pub change_bytes : (ℕ → List ℕ) → ℕ → Change → List ℕ
change_bytes names start (image tag page) = little_bytes 4 1
    ++ (names tag ++ (little_bytes 8 start ++ page))
change_bytes names start (ranges tag spans) = little_bytes 4 3
    ++ (names tag ++ (little_bytes 8 start ++ ranges_bytes spans))
change_bytes names start (resize fork old new) = little_bytes 4 2
    ++ (take 16 (names (first_block fork))
    ++ (little_bytes 4 new
    ++ (little_bytes 8 start ++ (little_bytes 4 old ++ little_bytes 4 0))))

-- the bytes of an entry's record
abbrev pub record_bytes : (ℕ → List ℕ) → Entry → List ℕ
record_bytes names e = change_bytes names e.start e.change

-- how many bytes of a log's device come before the first record
abbrev pub head_size : ℕ
head_size = 16

-- what a log's device begins with: 'PGBUFLOG' and the base
abbrev pub head_bytes : ℕ → List ℕ
head_bytes base = (80 ∷ 71 ∷ 66 ∷ 85 ∷ 70 ∷ 76 ∷ 79 ∷ 71 ∷ []) ++ little_bytes 8 base

-- the bytes of the records of entries, one after the other
unfoldable pub records : (ℕ → List ℕ) → List Entry → List ℕ
records names [] = []
records names (e ∷ es) = record_bytes names e ++ records names es

-- the bytes of the log
abbrev pub log_bytes : (ℕ → List ℕ) → Log → List ℕ
log_bytes names log = head_bytes log.base ++ records names log.entries

-- the entries that end at the position p or before it
unfoldable pub cut : ℕ → List Entry → List Entry
cut p [] = []
cut p (e ∷ es) = if nat_le (end_of e) p then e ∷ cut p es else cut p es

-- the page with the bytes of spans replaced
unfoldable pub with_spans : List Span → Page → Page
with_spans [] p = p
with_spans (s ∷ ss) p =
    with_spans ss (take s.place p ++ (s.bytes ++ drop (s.place + length s.bytes) p))

-- the page of block n of a fork that gets another size: none if the block is cut away, a page of
-- zeros if it is the block that is added, else as it was
abbrev pub resized : ℕ → ℕ → ℕ → Option Page → Option Page
resized old new n p = if nat_lt new old && nat_le new n then None
    else if nat_eq new (old + 1) && nat_eq n old then Some zero_page
    else p

-- the page of a block after a change whose entry ends at `end`, if it was p before; none if the
-- block isn't there
unfoldable pub changed_page : Change → ℕ → ℕ → Option Page → Option Page
changed_page (image t q) end tag p = if nat_eq tag t then Some q else p
changed_page (ranges t spans) end tag p = if nat_eq tag t
    then option_map (λ (q : Page). with_lsn end (with_spans spans q)) p
    else p
changed_page (resize fork old new) end tag p = if nat_eq (tag_fork tag) fork
    then resized old new (tag_block tag) p
    else p

-- the page of a block after entries, which are done one after the other, if it was p before
unfoldable pub page_after : ℕ → List Entry → Option Page → Option Page
page_after tag [] p = p
page_after tag (e ∷ es) p = page_after tag es (changed_page e.change (end_of e) tag p)

-- each block's page after these entries; `origin` has each block's page before them.
-- Redo does the same on what a crash left, so the claim of redo is that two folds agree. A block
-- past its fork's end has no page, and each block of the relations has one.
abbrev pub cell : (ℕ → Option Page) → List Entry → ℕ → Option Page
cell origin es tag = page_after tag es (origin tag)

-- the size of each fork after a change
abbrev pub resized_fork : Change → (ℕ → ℕ) → ℕ → ℕ
resized_fork (image tag page) sizes fork = sizes fork
resized_fork (ranges tag spans) sizes fork = sizes fork
resized_fork (resize g old new) sizes fork = if nat_eq fork g then new else sizes fork

-- the size of each fork after entries
unfoldable pub sizes_after : List Entry → (ℕ → ℕ) → ℕ → ℕ
sizes_after [] sizes fork = sizes fork
sizes_after (e ∷ es) sizes fork = sizes_after es (resized_fork e.change sizes) fork

-- the block whose page a change makes, by its tag; none for a fork's size
abbrev pub tag_in : Change → Option ℕ
tag_in (image tag page) = Some tag
tag_in (ranges tag spans) = Some tag
tag_in (resize fork old new) = None

-- The entry k is e, and it is of the block with a tag
pub record IsEntryOf (es : List Entry) (tag k : ℕ) (e : Entry) : Type 0 where
  -- the entry k of the log is e
  pub there : get_elem? es k ≡ some e
  -- e changes the page of the block with this tag
  pub of : tag_in e.change ≡ Some tag

-- The page is known, and it is one with content, of this position in the log
pub record HasImage (end : ℕ) (page : Option Page) : Type 0 where
  -- the page that is known
  pub shown : Page
  -- the page is known
  pub is : page ≡ Some shown
  -- the page is sound, not new, of 8192 bytes, and has this position in the log
  pub valid : IsImage end shown

-- A read is legal with the log if its place is between the log's base and end, and its page is the
-- block's page after the entries up to there, as far as the contents of the block's lane are known
-- (`known`)
pub record IsLegalRead (known : ℕ → Bool) (origin : ℕ → Option Page) (log : Log) (tag : ℕ)
    (page : Page) (place : ℕ) : Type 0 where
  -- the read's place is the log's base or after it
  pub based : log.base ≤ place
  -- the read's place is the log's end or before it
  pub within : place ≤ log_end log
  -- if the contents of the block's lane are known, the read's page is the block's page after the
  -- entries up to the read's place
  pub reads : known tag ≡ true → cell origin (cut place log.entries) tag ≡ Some page

-- the record of a whole page, which no test chose
abbrev pub image_record : WriteRecord
image_record = record { size = record_size; test = None }

-- A write is legal if it is an entry of its backend that ends at its place; it says how long the
-- entry's record is, and which two positions it was tested by, if any. Its page is the entry's
-- image, if the entry has one, and the block's page after the entries up to there, if the contents
-- of the block's lane are known
pub record IsLegalWrite (known : ℕ → Bool) (origin : ℕ → Option Page) (log : Log) (backend tag : ℕ)
    (page : Page) (place : ℕ) (logged : WriteRecord) : Type 0 where
  -- the number of the write's entry
  pub index : ℕ
  -- the write's entry
  pub entry : Entry
  -- the entry is in the log, and is of the write's block
  pub entered : IsEntryOf log.entries tag index entry
  -- the write's backend made the entry
  pub made : entry.backend ≡ backend
  -- the entry ends at the write's place
  pub ends : end_of entry ≡ place
  -- if the entry is a whole page, the write's page is that page
  pub image_is : (t : ℕ) (q : Page) → entry.change ≡ image t q → q ≡ page
  -- the write says how long the entry's record is
  pub sized : change_size entry.change ≡ logged.size
  -- if the write was tested, and the contents of the block's lane are known, the position that was
  -- tested is that of the block's page before the entry
  pub tested : (t : ImageTest) → logged.test ≡ Some t → known tag ≡ true
      → (q : Page) × (cell origin (cut entry.start log.entries) tag ≡ Some q)
      × (lsn_of q ≡ t.before)
  -- a record shorter than that of a whole page was chosen by a test: the page's position was past
  -- the redo position
  pub past : logged.size < record_size
      → (t : ImageTest) × (logged.test ≡ Some t) × (t.redo < t.before)
  -- if the contents of the block's lane are known, the write's page is the block's page after the
  -- entries up to the write's place
  pub writes : known tag ≡ true → cell origin (cut place log.entries) tag ≡ Some page

-- A change of a fork's size is legal if it is an entry of its backend that ends at its place. No
-- step makes such a call yet
pub record IsLegalSize (log : Log) (backend fork blocks place : ℕ) : Type 0 where
  -- the number of the change's entry
  pub index : ℕ
  -- the change's entry
  pub entry : Entry
  -- how many blocks the fork had before
  pub old : ℕ
  -- the entry is in the log
  pub there : get_elem? log.entries index ≡ some entry
  -- the entry gives the fork the change's number of blocks
  pub change : entry.change ≡ resize fork old blocks
  -- the change's backend made the entry
  pub made : entry.backend ≡ backend
  -- the entry ends at the change's place
  pub ends : end_of entry ≡ place

-- A size that was seen is legal if it is the fork's after the entries up to its place; `sizes` are
-- the forks' sizes at the start
pub record IsLegalSized (sizes : ℕ → ℕ) (log : Log) (fork blocks place : ℕ) : Type 0 where
  -- the place is the log's base or after it
  pub based : log.base ≤ place
  -- the place is the log's end or before it
  pub within : place ≤ log_end log
  -- after the entries up to the place the fork has this number of blocks
  pub sees : sizes_after (cut place log.entries) sizes fork ≡ blocks

-- a call is legal with the log
abbrev pub IsLegal : (ℕ → Bool) → (ℕ → Option Page) → (ℕ → ℕ) → Log → Call → Type 0
IsLegal known origin sizes log (Read backend tag page place) =
    IsLegalRead known origin log tag page place
IsLegal known origin sizes log (Write backend tag page place logged) =
    IsLegalWrite known origin log backend tag page place logged
IsLegal known origin sizes log (Size backend fork blocks place) =
    IsLegalSize log backend fork blocks place
IsLegal known origin sizes log (Sized backend fork blocks place) =
    IsLegalSized sizes log fork blocks place

-- the place of a call in the log
abbrev pub place_of : Call → ℕ
place_of (Read backend tag page place) = place
place_of (Write backend tag page place logged) = place
place_of (Size backend fork blocks place) = place
place_of (Sized backend fork blocks place) = place

-- the block that a call read or wrote, by its tag; none if the call is of a fork's size
abbrev pub read_or_written : Call → Option ℕ
read_or_written (Read backend tag page place) = Some tag
read_or_written (Write backend tag page place logged) = Some tag
read_or_written _ = None

-- the backend that made a call
abbrev pub backend_of : Call → ℕ
backend_of (Read backend tag page place) = backend
backend_of (Write backend tag page place logged) = backend
backend_of (Size backend fork blocks place) = backend
backend_of (Sized backend fork blocks place) = backend

-- 1 for a write of a page or of a size, else 0
abbrev pub write_weight : Call → ℕ
write_weight (Read backend tag page place) = 0
write_weight (Write backend tag page place logged) = 1
write_weight (Size backend fork blocks place) = 1
write_weight (Sized backend fork blocks place) = 0

-- 1 for a write of a page or of a size at the place p, else 0
abbrev pub weight_at : ℕ → Call → ℕ
weight_at p (Read backend tag page place) = 0
weight_at p (Write backend tag page place logged) = if nat_eq place p then 1 else 0
weight_at p (Size backend fork blocks place) = if nat_eq place p then 1 else 0
weight_at p (Sized backend fork blocks place) = 0

-- how many of the calls are writes of pages or of sizes
abbrev pub writes_in : List Call → ℕ
writes_in calls = total write_weight calls

-- how many of the calls are writes of pages or of sizes at the place p
abbrev pub writes_at : ℕ → List Call → ℕ
writes_at p calls = total (weight_at p) calls

-- some call has the place p
abbrev pub HasPlace : List Call → ℕ → Type 0
HasPlace calls p = (k : ℕ) × (c : Call) × (get_elem? calls k ≡ some c) × (place_of c ≡ p)

-- The front: the largest of the log's base and the places of the calls
pub record IsFront (base : ℕ) (calls : List Call) (front : ℕ) : Type 0 where
  -- the front is the base or after it
  pub from_base : base ≤ front
  -- no call has a place above the front
  pub above : (k : ℕ) (c : Call) → get_elem? calls k ≡ some c → place_of c ≤ front
  -- if the front isn't the base, some call has it as its place
  pub reached : front ≢ base → HasPlace calls front

-- the places of each backend's calls never fall
abbrev pub AreInOrder : List Call → Type 0
AreInOrder calls = (j k : ℕ) (c d : Call) → j < k → get_elem? calls j ≡ some c
    → get_elem? calls k ≡ some d → backend_of c ≡ backend_of d
    → place_of c ≤ place_of d
