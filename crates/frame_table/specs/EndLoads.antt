-- What the log's end is loaded for, and what a load of it shows.
use Rattle.std.specs.Prelude.{◌≡◌, ℕ, ◌<◌, ◌≤◌, List, Option, Some}
use Rattle.atomic_table.specs.Table.{Me, Step}
use Rattle.block_tag.specs.declared.tag.Tag.{Tag}
use Rattle.block_tag.specs.declared.catalogue.RelEntry.{RelEntry}
use Rattle.block_tag.specs.Names.{packed_tag}
use Rattle.segment_store.specs.Contents.{Pages}
use Rattle.pin_core.specs.declared.view.View.{View}
use Rattle.pin_core.specs.State.{Page, link}
use Rattle.table_rule.specs.declared.value.Value.{Value}
use Rattle.frame_table.specs.declared.log_words.EndLoad.{EndLoad}
use Rattle.frame_table.specs.declared.log_words.EndLoad.TheVariants.{Plain, Read, Checkpoint}
use Rattle.frame_table.specs.declared.table.FrameTable.{FrameTable}
use Rattle.frame_table.specs.Opened.{CopiesAreLogged, WasHeld, WasAtOpening}
use Rattle.frame_table.specs.WordSteps.{WordKind, load_end, read_end, begin_checkpoint, IsCopied, tells_word}
use Rattle.frame_table.specs.Seats.{base_of}

abbrev pub end_kind : EndLoad → WordKind
end_kind Plain = load_end
end_kind (Read f) = read_end f
end_kind Checkpoint = begin_checkpoint

-- a read is of a page that was copied from a frame
abbrev pub IsEndAllowed : ℕ → EndLoad → View → Type 0
IsEndAllowed frames (Read f) v = (f < frames) × IsCopied (link v f)
IsEndAllowed frames _ v = Unit {0}

-- the page that was copied, and is read, is the one that its lane held at the start
abbrev pub ReadsHeld : List RelEntry → ℕ → List (Option Pages) → EndLoad → View → Type 0
ReadsHeld relations lanes held (Read f) v = (tag : Tag) (page : Page)
    → (link v f).tag ≡ Some (packed_tag tag) → (link v f).copied ≡ Some page
    → WasHeld relations lanes held tag page
ReadsHeld relations lanes held _ v = Unit {0}

module _ {L G : Type 0} where
  -- the log's end is at its base or past it, and each copied page is logged before it, or is the
  -- one at the start; if it is at the base each page that is read is that one
  abbrev pub tells_end_load : EndLoad → ℕ → ℕ → List RelEntry → ℕ → List (Option Pages)
      → Step (Value L G) → Me (Value L G) View → ℕ → Me (Value L G) View → Type 0
  tells_end_load what frames base relations lanes held st m found m' =
      tells_word (end_kind what) st m found m'
      × ((base ≤ found) × (found ≡ base → ReadsHeld relations lanes held what m.0)
      × CopiesAreLogged relations lanes held frames found m.0)

  -- a read whose place is the log's base is of that page
  abbrev pub ReadsOpening : (L → Option Pages) → FrameTable L G → EndLoad → ℕ → View → Type 0
  ReadsOpening contents t (Read f) place v = place ≡ base_of t → (tag : Tag) (page : Page)
      → (link v f).tag ≡ Some (packed_tag tag) → (link v f).copied ≡ Some page
      → WasAtOpening contents t tag page
  ReadsOpening contents t _ place v = Unit {0}
