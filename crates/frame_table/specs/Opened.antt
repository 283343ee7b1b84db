-- What a backend knows of the pages that the lanes held as the table was opened, if these are
-- known.
use Rattle.std.specs.Prelude.{◌≡◌, ◌⊎◌, ℕ, ◌<◌, ◌≤◌, true, false, List, Option, Some}
use mathlib.Core.Option.{some}
use lib.ListN.{get_elem?}
use Rattle.atomic_table.specs.Table.{Me, Step}
use Rattle.state_word.specs.declared.word.StateWord.{StateWord}
use Rattle.state_word.specs.Fields.{fields}
use Rattle.block_tag.specs.declared.tag.Tag.{Tag}
use Rattle.block_tag.specs.declared.catalogue.RelEntry.{RelEntry}
use Rattle.block_tag.specs.Names.{packed_tag}
use Rattle.page_layout.specs.Fields.{lsn_of}
use Rattle.page_layout.specs.Soundness.{is_sound_page}
use Rattle.segment_store.specs.Contents.{Pages}
use Rattle.pin_core.specs.declared.view.Link.{Link}
use Rattle.pin_core.specs.declared.view.View.{View}
use Rattle.pin_core.specs.State.{Page, link}
use Rattle.table_rule.specs.declared.value.Value.{Value}
use Rattle.table_rule.specs.TakenLanes.{IsBlockOf}
use Rattle.frame_table.specs.declared.table.FrameTable.{FrameTable}
use Rattle.frame_table.specs.Seats.{frames_of, lanes_in, opened_of, relations_of}
use Rattle.frame_table.specs.FrameSteps.{always, looking, tells}

-- The page of a tag's block is the one that its lane, of so many, held at the start, if that is
-- known: `held` has the pages of each lane then
abbrev pub WasHeld : List RelEntry → ℕ → List (Option Pages) → Tag → Page → Type 0
WasHeld relations lanes held tag page = (q : ℕ) (known : Pages) → IsBlockOf relations lanes q tag
    → get_elem? held q ≡ some (Some known) → known tag ≡ Some page

-- the page of a tag's block at the start is sound, if it is known
abbrev pub WasHeldSound : List RelEntry → ℕ → List (Option Pages) → Tag → Type 0
WasHeldSound relations lanes held tag = (q : ℕ) (known : Pages) (page : Page)
    → IsBlockOf relations lanes q tag → get_elem? held q ≡ some (Some known) → known tag ≡ Some page
    → is_sound_page page ≡ true

-- What a backend has at a frame, and a state word that it loads there, show of the page that the
-- frame's block had at the start, if its pin remembers the tag
pub record FitsHeld (relations : List RelEntry) (lanes : ℕ) (held : List (Option Pages)) (l : Link)
    (w : StateWord) : Type 0 where
  -- a page that the lane gave and that isn't sound is the page at the start
  pub unsound : (tag : Tag) (page : Page) → l.tag ≡ Some (packed_tag tag) → l.read ≡ Some page
      → is_sound_page page ≡ false → WasHeld relations lanes held tag page
  -- that of a valid frame was sound
  pub valid : (tag : Tag) → l.tag ≡ Some (packed_tag tag) → w.valid ≡ true
      → WasHeldSound relations lanes held tag

-- each page that a view notes as copied has a position in the log at this end or before it, or is
-- the one at the start
abbrev pub CopiesAreLogged : List RelEntry → ℕ → List (Option Pages) → ℕ → ℕ → View → Type 0
CopiesAreLogged relations lanes held frames end v = (f : ℕ) (tag : Tag) (page : Page) → f < frames
    → (link v f).tag ≡ Some (packed_tag tag) → (link v f).copied ≡ Some page
    → (q : ℕ) (known : Pages) → IsBlockOf relations lanes q tag
    → get_elem? held q ≡ some (Some known) → (lsn_of page ≤ end) ⊎ (known tag ≡ Some page)

-- a load of the state word of the frame f: what it shows fits what was known at the start
abbrev pub tells_look : {L G : Type 0} → ℕ → List RelEntry → ℕ → List (Option Pages)
    → Step (Value L G) → Me (Value L G) View → ℕ → Me (Value L G) View → Type 0
tells_look f relations lanes held st m found m' = tells (always looking) st m found m'
    × FitsHeld relations lanes held (link m.0 f) (fields found)

-- The same by the lanes that a table was opened with, and by what the contents of each were
module _ {L G : Type 0} (contents : L → Option Pages) (t : FrameTable L G) where
  abbrev pub WasAtOpening : Tag → Page → Type 0
  WasAtOpening tag page = (q : ℕ) (l : L) (known : Pages)
      → IsBlockOf (relations_of t) (lanes_in t) q tag → get_elem? (opened_of t) q ≡ some l
      → contents l ≡ Some known → known tag ≡ Some page

  abbrev pub WasSoundAtOpening : Tag → Type 0
  WasSoundAtOpening tag = (page : Page) (q : ℕ) (l : L) (known : Pages)
      → IsBlockOf (relations_of t) (lanes_in t) q tag → get_elem? (opened_of t) q ≡ some l
      → contents l ≡ Some known → known tag ≡ Some page → is_sound_page page ≡ true

  pub record FitsOpening (l : Link) (w : StateWord) : Type 0 where
    pub unsound : (tag : Tag) (page : Page) → l.tag ≡ Some (packed_tag tag) → l.read ≡ Some page
        → is_sound_page page ≡ false → WasAtOpening tag page
    pub valid : (tag : Tag) → l.tag ≡ Some (packed_tag tag) → w.valid ≡ true → WasSoundAtOpening tag

  abbrev pub LoggedOrOpening : ℕ → View → Type 0
  LoggedOrOpening end v = (f : ℕ) (tag : Tag) (page : Page) → f < frames_of t
      → (link v f).tag ≡ Some (packed_tag tag) → (link v f).copied ≡ Some page
      → (q : ℕ) (l : L) (known : Pages) → IsBlockOf (relations_of t) (lanes_in t) q tag
      → get_elem? (opened_of t) q ≡ some l → contents l ≡ Some known
      → (lsn_of page ≤ end) ⊎ (known tag ≡ Some page)
