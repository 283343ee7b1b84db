-- The hint of a tag: which frame may have it.
use Rattle.std.specs.Prelude.{ℕ, ◌+◌, ◌%◌, Option, Some, None}
use Rattle.block_tag.specs.declared.tag.Tag.{Tag}
use Rattle.block_tag.specs.Names.{hash_of}
use Rattle.pin_core.specs.declared.view.View.{View}
use Rattle.history_core.specs.Words.{hint_count}
use Rattle.frame_table.specs.WordSteps.{DidWord, load_hint, store_hint}

-- the number of a tag's hint word, in a table of n frames
abbrev pub hint_number : Tag → ℕ → ℕ
hint_number tag n = hash_of tag % hint_count n

-- the word that names a frame, or none
abbrev pub hint_value : Option ℕ → ℕ
hint_value None = 0
hint_value (Some f) = f + 1

-- The view v became w by a load of the tag's hint word, in a table of n frames, which named this
-- frame, or none
abbrev pub LoadsHint : ℕ → Tag → Option ℕ → View → View → Type 0
LoadsHint n tag frame v w = DidWord (load_hint (hint_number tag n)) v w (hint_value frame)

-- The view v became w by a store of the tag's hint word, which names the frame f then
pub record StoresHint (n : ℕ) (tag : Tag) (f : ℕ) (v w : View) : Type 0 where
  pub found : ℕ
  pub did : DidWord (store_hint (hint_number tag n) (f + 1)) v w found
