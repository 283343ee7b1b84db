-- The frames that a checkpoint has to write.
use Rattle.std.specs.Prelude.{◌≡◌, ℕ, ◌+◌, ◌<◌, true, false, List, [], ◌∷◌, ◌++◌}
use Rattle.std.specs.List.{All, Contains}
use Rattle.std.specs.List.Sorted.{IsNonDecreasingBy, IsPermutation}
use Rattle.block_tag.specs.declared.tag.Tag.{Tag}
use Rattle.block_tag.specs.Names.{packed_tag}
use Rattle.pin_core.specs.declared.view.View.{View}
use Rattle.pin_core.specs.State.{link}
use Rattle.frame_table.specs.Seats.{ListsOnly}
use Rattle.buffer_frames.specs.Working.{KeepsNotes, Made}
use Rattle.buffer_frames.specs.Syncs.{NotesBlock, SeesNotDirty}
use Rattle.backend_pass.specs.declared.marked.MarkedFrame.{MarkedFrame}

-- no frame is left for the view's checkpoint to write
abbrev pub HasNoneToWrite : View → Type 0
HasNoneToWrite v = (f : ℕ) → (link v f).left_to_write ≡ false

-- the view's checkpoint has visited each of this many frames
abbrev pub HasVisited : ℕ → View → Type 0
HasVisited frames v = (f : ℕ) → f < frames → (link v f).visited ≡ true

-- the view's checkpoint has visited each of this many frames, and has none of them left to write
abbrev pub HasNoneLeft : ℕ → View → Type 0
HasNoneLeft frames v =
    (f : ℕ) → f < frames → ((link v f).visited ≡ true) × ((link v f).left_to_write ≡ false)

-- The frame stands in the list
pub record IsMarked (marked : List MarkedFrame) (f : ℕ) : Type 0 where
  pub entry : MarkedFrame
  pub there : Contains marked entry
  pub same : entry.frame ≡ f

-- each frame that it has to write stands in the list
abbrev pub AreMarked : List MarkedFrame → View → Type 0
AreMarked marked v = (f : ℕ) → (link v f).left_to_write ≡ true → IsMarked marked f

-- the listed frames are of a pool with this many frames
abbrev pub AreInside : ℕ → List MarkedFrame → Type 0
AreInside frames marked = All (λ m. m.frame < frames) marked

-- what it has noted is kept at each frame
abbrev pub KeepsEachNote : View → View → Type 0
KeepsEachNote v w = (f : ℕ) → KeepsNotes (link v f) (link w f)

-- The frames below a number were looked at in order, and each was seen not dirty, with loads and
-- changes of no other frame's words, or noted. The list is of those that were noted, as they came
pub data NotesInOrder (v : View) : ℕ → View → List MarkedFrame → Type 0 where
  nothing : NotesInOrder v 0 v []
  sees_clean : {f : ℕ} {u w : View} {noted : List MarkedFrame} → NotesInOrder v f u noted
      → SeesNotDirty f u w → ListsOnly f u w → NotesInOrder v (f + 1) w noted
  notes_dirty : {u w : View} {noted : List MarkedFrame} (m : MarkedFrame) (tag : Tag)
      → NotesInOrder v m.frame u noted → NotesBlock m.frame tag u w → m.tag ≡ packed_tag tag
      → NotesInOrder v (m.frame + 1) w (noted ++ m ∷ [])

-- The dirty ones of this many frames were noted, and no device was called. The list is of these and
-- no other, by packed tag
pub record ListsDirty (frames : ℕ) (marked : List MarkedFrame) (v w : View) : Type 0 where
  pub noted : List MarkedFrame
  pub notes : NotesInOrder v frames w noted
  pub moved : IsPermutation noted marked
  pub sorted : IsNonDecreasingBy (λ m. m.tag) marked
  pub calls : Made [] v w
