-- What a scan and a dump print, start with, and leave.
use Rattle.std.specs.Prelude.{◌≡◌, ℕ, ◌+◌, ◌<◌, false, true, List, [], ◌∷◌, ◌++◌, length, map}
use Rattle.std.specs.Prelude.{Option, Result, codes, sum_by}
use Rattle.std.specs.Fmt.{decimal}
use Rattle.std.specs.Str.{bytes_eq}
use Rattle.block_tag.specs.declared.tag.Fork.{Fork}
use Rattle.byte_devices.specs.Bytes.{Puts}
use Rattle.page_layout.specs.Dump.{dump_text}
use Rattle.page_layout.specs.Scan.{scan_text}
use Rattle.page_layout.specs.Text.{joined}
use Rattle.segment_store.specs.Contents.{Marks, Pages}
use Rattle.segment_store.specs.Lanes.{HoldPages, mark_in, tag_at}
use Rattle.segment_store.specs.Paths.{PathMarks, Paths}
use Rattle.segment_store.specs.Relation.{relation_of}
use Rattle.pin_core.specs.State.{Page}
use Rattle.io_counts.specs.declared.shown.IoSums.{IoSums}
use Rattle.command_line.specs.declared.request.Listing.{Listing}
use Rattle.command_line.specs.declared.request.Listing.TheVariants.{Scan, Dump}

-- the text of a relation of these pages
abbrev pub text_of : Listing → List Page → List ℕ
text_of Scan pages = scan_text pages
text_of Dump pages = dump_text pages

-- the line of the I/O counts, of all contexts together
abbrev pub io_line : IoSums → List ℕ
io_line io =
    joined (codes "io hits " ∷ decimal io.hits ∷ codes " reads " ∷ decimal io.reads
    ∷ codes " writes " ∷ decimal io.writes ∷ codes " evictions " ∷ decimal io.evictions
    ∷ codes " reuses " ∷ decimal io.reuses ∷ codes "\n" ∷ [])

-- A text that a line of counts follows, and how many blocks they are of
pub record CountedText : Type 0 where
  pub text : List ℕ
  pub blocks : ℕ

-- that of a relation of these pages
abbrev pub counted_text : Listing → List Page → CountedText
counted_text what pages = record { text = text_of what pages; blocks = length pages }

-- The text was put, and then the line of counts by which each block was one hit or one read; or a
-- prefix of such a text with its line
pub record PutsCounted {E : Type 0} (t : CountedText) (old new : Option (List ℕ))
    (result : Result Unit E) : Type 0 where
  pub io : IoSums
  pub found : io.hits + io.reads ≡ t.blocks
  pub puts : Puts (t.text ++ io_line io) old new result

-- Lanes after a listing of the blocks of a fork: if its pages are known, they are still in the
-- lanes, and none of its blocks is one whose last write failed; no write failed
pub record LeavesLanes {L : Type 0} (contents : L → Option Pages) (failed : L → Marks)
    (write_faults : L → ℕ) (fork : Fork) (blocks : ℕ) (lanes lanes' : List L) : Type 0 where
  pub stay : (pages : List Page) → HoldPages fork pages (map contents lanes) → blocks ≡ length pages
      → HoldPages fork pages (map contents lanes')
  pub unfailed : (pages : List Page) → HoldPages fork pages (map contents lanes)
      → blocks ≡ length pages
      → (block : ℕ) → block < blocks → mark_in (map failed lanes') (tag_at fork block) ≡ false
  pub writes : sum_by write_faults lanes' ≡ 0

-- No block of the relation at a path came to those whose last write failed; at all other paths
-- these are as they were
pub record NoneFails (seg_blocks : ℕ) (paths : Paths) (path : List ℕ)
    (old new : PathMarks) : Type 0 where
  pub others : (other : List ℕ) → bytes_eq other path ≡ false → new other ≡ old other
  pub here : (block : ℕ) → block < length (relation_of seg_blocks (paths path))
      → new path block ≡ true → old path block ≡ true
