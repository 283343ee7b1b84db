-- What a step tells the seat that makes it.
use Rattle.std.specs.Prelude.{◌≡◌, ◌≢◌, ℕ, ◌+◌, ◌<◌, ◌≤◌, ◌%◌, ◌^◌, cond, nat_eq, Bool, true, false, List, length, Option, Some, None}
use mathlib.Core.Option.{some}
use lib.ListN.{get_elem?}
use Rattle.atomic_table.specs.Table.{Me, Step}
use Rattle.state_word.specs.Fields.{fields, unpinned_fields, bit}
use Rattle.block_tag.specs.declared.tag.Tag.{Tag}
use Rattle.block_tag.specs.declared.catalogue.RelEntry.{RelEntry}
use Rattle.block_tag.specs.Names.{packed_tag}
use Rattle.pin_core.specs.declared.view.View.{View}
use Rattle.pin_core.specs.State.{Frame, new_view, no_tag}
use Rattle.pin_core.specs.Kinds as pin
use Rattle.history_core.specs.State.{State}
use Rattle.history_core.specs.Laws.{Laws}
use Rattle.table_rule.specs.declared.value.Value.{Value}
use Rattle.frame_table.specs.declared.pin.TryPin.{TryPin}
use Rattle.frame_table.specs.declared.pin.TryPin.TheVariants.{Locked, Untagged, Changed}
use Rattle.table_rule.specs.Blocks.{is_block}
use Rattle.table_rule.specs.Layout.{state_place, tag_place, content_place, tag_partition}
use Rattle.frame_table.specs.Kinds.{FrameWord, state_word, tag_word, content_word, FrameKind, pins, part_of, load_kind, IsAllowed, IsAllowedAround, view_after}

abbrev pub has_locked : ℕ → Bool
has_locked w = (fields w).locked

abbrev pub has_tag : ℕ → Bool
has_tag w = (fields w).tag_valid

-- the place of a word of the frame f
abbrev pub part_place : FrameWord → ℕ → ℕ
part_place state_word f = state_place f
part_place tag_word f = tag_place f
part_place content_word f = content_place f

-- what a number in a word says of its frame
abbrev pub SaysOf : FrameWord → ℕ → Frame → Type 0
SaysOf state_word n fr = fr.word ≡ fields n
SaysOf tag_word n fr = fr.tag ≡ n
SaysOf content_word n fr = (fr.sharers ≡ n % 2 ^ 18) × (fr.exclusive ≡ bit 18 n)
    × (fr.copying ≡ bit 19 n) × (n < 2 ^ 20)

-- The view v became w by a step of the kind k at the frame f, which found the kind's word as
-- `found`
pub record Did (k : FrameKind) (f : ℕ) (v w : View) (found : ℕ) : Type 0 where
  -- the state that it was at, which has the law
  pub state : State
  pub laws : Laws state
  pub few : state.pool.core.backends ≤ 64
  pub spread : state.pool.core.partition_of ≡ tag_partition
  -- the view's place there
  pub seat : ℕ
  pub there : get_elem? state.pool.core.views seat ≡ some v
  pub live : v.emptied ≡ false
  pub inside : f < state.pool.core.frames
  pub says : SaysOf (part_of k) found (state.pool.core.frame f)
  pub allowed : IsAllowed k state f v
  pub around : IsAllowedAround k state f v
  pub after : w ≡ view_after k state f v

-- Which kind a step is, by its first operand and the number found
pub data Choice : Type 0 where
  always : FrameKind → Choice
  -- this kind if the number found is the first operand, and else a load
  if_found : FrameKind → Choice
  -- this kind if the word found isn't locked, and else a load
  if_unlocked : FrameKind → Choice

abbrev pub chosen : Choice → ℕ → ℕ → FrameKind
chosen (always k) first found = k
chosen (if_found k) first found = cond (nat_eq found first) k (load_kind (part_of k))
chosen (if_unlocked k) first found = cond (has_locked found) (load_kind (part_of k)) k

-- the word that it is at
abbrev pub choice_part : Choice → FrameWord
choice_part (always k) = part_of k
choice_part (if_found k) = part_of k
choice_part (if_unlocked k) = part_of k

module _ {L G : Type 0} where
  -- a step at a word of the frame f: the slots in hand stay
  abbrev pub tells : Choice → Step (Value L G) → Me (Value L G) View → ℕ → Me (Value L G) View
      → Type 0
  tells choice st m found m' = (m'.1 ≡ m.1) × ((f : ℕ) → st.word ≡ part_place (choice_part choice) f
      → Did (chosen choice st.first found) f m.0 m'.0 found)

  -- a load of a tag word: a number that is a tag is of a block of the relations
  abbrev pub tells_tag : List RelEntry → Step (Value L G) → Me (Value L G) View → ℕ
      → Me (Value L G) View → Type 0
  tells_tag relations st m found m' = tells (always (pins pin.load_tag)) st m found m'
      × (found ≢ no_tag → is_block relations found ≡ true)

-- the load of the state word
abbrev pub looking : FrameKind
looking = pins pin.load_state

-- the view v became w by loads of the state word of f
pub data Looks (f : ℕ) : View → View → Type 0 where
  still : {v : View} → Looks f v v
  again : {v u w : View} (found : ℕ) → Looks f v u → Did looking f u w found → Looks f v w

-- after loads a step of the kind k was made, or none
abbrev pub Tried : FrameKind → ℕ → View → View → Bool → Type 0
Tried k f v w true = (u : View) × (was : ℕ) × Looks f v u × Did k f u w was
Tried k f v w false = Looks f v w

-- after loads a pin was given up, and this is the word that was left
abbrev pub Unpinned : ℕ → ℕ → View → View → Type 0
Unpinned f word v w = (u : View) × (was : ℕ) × Looks f v u × Did (pins pin.unpin) f u w was
    × (fields word ≡ unpinned_fields (fields was))

-- why a frame is not pinned: its header was locked; or it had no tag; or neither was so, and then
-- the word changed before the pin
abbrev pub Refuses : ℕ → View → View → TryPin → Type 0
Refuses f v w (Locked was) = Did looking f v w was × (has_locked was ≡ true)
Refuses f v w (Untagged was) = Did looking f v w was × (has_locked was ≡ false)
    × (has_tag was ≡ false)
Refuses f v w (Changed was now) = (has_locked was ≡ false) × (has_tag was ≡ true) × (was ≢ now)
    × ((u : View) × Did looking f v u was × Did looking f u w now)

-- the first backend's view after it gave a new backend its number, and the new backend's, if the
-- log begins at `base`
abbrev pub kept_view : View → View
kept_view v = record v { next = v.next + 1 }

abbrev pub split_view : ℕ → View → View
split_view base v = new_view v.next base (length v.links) (length v.partitions) (length v.lanes)

-- the kind that stores a tag word
abbrev pub storing : Option Tag → FrameKind
storing None = pins pin.erase_tag
storing (Some tag) = pins (pin.store_tag (packed_tag tag))
