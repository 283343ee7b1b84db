-- Which blocks a pool holds, as a backend sees its frames one after the other.
use Rattle.std.specs.Prelude.{◌≡◌, ℕ, Bool, true, List, [], ◌∷◌, ◌++◌, All, Contains}
use Rattle.std.specs.Prelude.{flat_map, is_some, length, map, Option, Some}
use Rattle.std.specs.List.Sorted.{IsStrictlyIncreasing}
use Rattle.state_word.specs.Fields.{fields}
use Rattle.block_tag.specs.declared.catalogue.RelEntry.{RelEntry}
use Rattle.block_tag.specs.declared.tag.Tag.{Tag}
use Rattle.block_tag.specs.Names.{names_block, packed_tag}
use Rattle.segment_store.specs.Contents.{Pages}
use Rattle.pin_core.specs.declared.view.View.{View}
use Rattle.table_rule.specs.Blocks.{has_block}
use Rattle.frame_table.specs.declared.table.FrameTable.{FrameTable}
use Rattle.frame_table.specs.Seats.{frames_of, relations_of}
use Rattle.buffer_frames.specs.declared.inspecting.Seen.{Seen}
use Rattle.buffer_frames.specs.Inspections.{Inspects}
use Rattle.backend_pass.specs.declared.manager.Manager.{Manager}
use Rattle.backend_pass.specs.Managers.{Belongs}
use Rattle.backend_pass.specs.Passes.{KeepsCallers, KeepsDevices, KeepsMark, PassState, SamePass}
use Rattle.block_lists.specs.Lists.{IsListOf, list_text}
use Rattle.block_lists.specs.Tags.{numbers_in}

-- the number of a frame's tag, if the frame is valid
abbrev pub tag_if : Bool → Option Tag → List ℕ
tag_if true (Some tag) = packed_tag tag ∷ []
tag_if _ _ = []

abbrev pub valid_tag : Seen → List ℕ
valid_tag seen = tag_if (fields seen.word).valid seen.tag

-- a valid frame has a tag
abbrev pub HasTagIfValid : Seen → Type 0
HasTagIfValid seen = (fields seen.word).valid ≡ true → is_some seen.tag ≡ true

-- The frames were looked at in order from frame 0 on, each once, and this was seen
pub data InspectsEach (v : View) : List Seen → View → Type 0 where
  still : InspectsEach v [] v
  again : {u w : View} (all : List Seen) (seen : Seen) → InspectsEach v all u
      → Inspects (length all) seen u w → InspectsEach v (all ++ seen ∷ []) w

-- The frames below a number were looked at, and these are the tags of the valid ones, as they came
pub record NotesFrames (v : View) (frames : ℕ) (w : View) (tags : List Tag) : Type 0 where
  pub all : List Seen
  pub each : InspectsEach v all w
  pub counted : length all ≡ frames
  pub tagged : All HasTagIfValid all
  pub noted : map packed_tag tags ≡ flat_map valid_tag all

-- the tag is that of a block of the relations
pub record IsBlockIn (relations : List RelEntry) (tag : Tag) : Type 0 where
  pub named : names_block tag ≡ true
  pub listed : has_block relations tag ≡ true

-- These are the numbers of the tags of the blocks that the pool was seen to hold: all frames were
-- looked at, each once, and the numbers are those of the valid ones' tags, in order, each once
pub record SeesResidents (frames : ℕ) (tags : List ℕ) (v w : View) : Type 0 where
  pub all : List Seen
  pub each : InspectsEach v all w
  pub counted : length all ≡ frames
  pub tagged : All HasTagIfValid all
  pub rises : IsStrictlyIncreasing tags
  pub listed : (n : ℕ) → Contains (flat_map valid_tag all) n → Contains tags n
  pub seen : (n : ℕ) → Contains tags n → Contains (flat_map valid_tag all) n

module _ {L G : Type 0} where
  -- The blocks of these tags were seen, and their list was added to a text; it has so many lines
  pub record ListsResidents (t : FrameTable L G) (v w : View) (old new : List ℕ) (count : ℕ)
      : Type 0 where
    pub listed : List Tag
    pub counted : length listed ≡ count
    pub sees : SeesResidents (frames_of t) (map packed_tag listed) v w
    pub blocks : All (IsBlockIn (relations_of t)) listed
    pub text : new ≡ old ++ list_text (map (numbers_in (relations_of t)) listed)
    -- what was added is the list of their numbers, which `parse_list` reads
    pub list : IsListOf (list_text (map (numbers_in (relations_of t)) listed))
        (map (numbers_in (relations_of t)) listed)

module _ {L G : Type 0} (contents : L → Option Pages) (m : Manager L G) where
  -- It is the same pass, callers have of it what they had, its mark and the frames that its
  -- checkpoint has marked are as they were, and no device was called, and nothing counted
  pub record LooksOnly (p q : PassState) : Type 0 where
    pub belongs : Belongs contents m q
    pub same : SamePass p q
    pub callers : KeepsCallers p q
    pub mark : KeepsMark p q
    pub marked : q.marked ≡ p.marked
    pub devices : KeepsDevices p q
