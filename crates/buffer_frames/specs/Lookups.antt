-- How a block is looked up.
use Rattle.std.specs.Prelude.{◌≡◌, ℕ, Bool, true, false, List, Option, Some, None}
use Rattle.block_tag.specs.declared.tag.Tag.{Tag}
use Rattle.block_tag.specs.Names.{packed_tag, partition_number}
use Rattle.pin_core.specs.declared.view.MapEntry.{MapEntry}
use Rattle.pin_core.specs.declared.view.View.{View}
use Rattle.pin_core.specs.Turns.{found}
use Rattle.pin_core.specs.Kinds as kinds
use Rattle.table_rule.specs.declared.turn.Turn.TheVariants.{Partition}
use Rattle.frame_table.specs.Kinds.{pins}
use Rattle.frame_table.specs.FrameSteps.{Tried}
use Rattle.frame_table.specs.Latches.{DidTurn}
use Rattle.map_partitions.specs.Hints.{StoresHint}
use Rattle.map_partitions.specs.Partition.{WentAndCame}
use Rattle.buffer_frames.specs.Tokens.{Tokens}
use Rattle.buffer_frames.specs.declared.hinting.HintSeen.{HintSeen}
use Rattle.buffer_frames.specs.declared.hinting.HintSeen.TheVariants.{Had}
use Rattle.buffer_frames.specs.Hinting.{HasByHint, SeesHint}

-- The map was searched for the tag, and gave nothing
pub record SeesNone (tag : Tag) (v w : View) : Type 0 where
  pub entries : List MapEntry
  pub did : WentAndCame entries entries (partition_number tag) v w
  pub none : found entries (packed_tag tag) ≡ None

-- The map was searched for the tag, and gave the frame f, which was pinned then, for a ring or not
pub record SeesAndPins (tag : Tag) (f : ℕ) (ring : Bool) (v w : View) : Type 0 where
  pub entries : List MapEntry
  pub searched : View
  pub did : WentAndCame entries entries (partition_number tag) v searched
  pub gives : found entries (packed_tag tag) ≡ Some f
  pub pinned : Tried (pins (kinds.pin_mapped (packed_tag tag) ring)) f searched w true

-- Under the latch of the tag's partition this was done
pub record UnderPartition (tag : Tag) (Work : View → View → Type 0) (v w : View) : Type 0 where
  pub took : View
  pub done : View
  pub takes : DidTurn true (Partition (partition_number tag)) v took
  pub work : Work took done
  pub leaves : DidTurn false (Partition (partition_number tag)) done w

-- In a table of n frames, by a backend whose callers have these pins
module _ (n : ℕ) (tag : Tag) (held : Tokens) (ring : Bool) where
  -- A block is looked up: the hint gives its frame, without a latch; or the hint doesn't and the
  -- map does, and then the hint is stored; or neither gives one
  pub data LooksUp (v w : View) : HintSeen → Option ℕ → Type 0 where
    by_hint : {f : ℕ} → HasByHint n tag f ring v w → LooksUp v w (Had f) (Some f)
    by_map : {seen : HintSeen} {f : ℕ} (hinted mapped : View)
        → SeesHint n tag held ring v hinted seen
        → UnderPartition tag (SeesAndPins tag f ring) hinted mapped
        → StoresHint n tag f mapped w
        → LooksUp v w seen (Some f)
    by_none : {seen : HintSeen} (hinted : View)
        → SeesHint n tag held ring v hinted seen
        → UnderPartition tag (SeesNone tag) hinted w
        → LooksUp v w seen None
