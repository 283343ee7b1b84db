-- How a block is brought into a frame, once its look-up gave none.
use Rattle.std.specs.Prelude.{◌≡◌, ℕ, Bool, true, List, Option, Some}
use Rattle.block_tag.specs.declared.tag.Tag.{Tag}
use Rattle.block_tag.specs.Names.{packed_tag, partition_number}
use Rattle.segment_store.specs.Contents.{Pages}
use Rattle.pin_core.specs.declared.view.DeviceCall.{DeviceCall}
use Rattle.pin_core.specs.declared.view.MapEntry.{MapEntry}
use Rattle.pin_core.specs.declared.view.Role.TheVariants.{Victim}
use Rattle.pin_core.specs.declared.view.View.{View}
use Rattle.pin_core.specs.State.{link}
use Rattle.pin_core.specs.Turns.{found}
use Rattle.pin_core.specs.Kinds as kinds
use Rattle.frame_table.specs.Kinds.{pins}
use Rattle.frame_table.specs.FrameSteps.{Tried}
use Rattle.frame_table.specs.declared.table.FrameTable.{FrameTable}
use Rattle.frame_table.specs.Seats.{OnlyRises, frames_of}
use Rattle.map_partitions.specs.Hints.{StoresHint}
use Rattle.map_partitions.specs.Partition.{WentAndCame}
use Rattle.cleanup_lock.specs.Waking.{Woken}
use Rattle.clock_sweep.specs.FreeFrames.{ListHad, QueueState, pushing}
use Rattle.buffer_frames.specs.Tokens.{Tokens}
use Rattle.buffer_frames.specs.Lookups.{SeesNone, UnderPartition}
use Rattle.buffer_frames.specs.Outside.{searched_of}
use Rattle.buffer_frames.specs.Stages.{Pins}
use Rattle.buffer_frames.specs.VictimChoices.{ChoiceState, InvalidatesVictim, GivesVictimsUp}
use Rattle.buffer_frames.specs.Working.{Made, WorksAt}

-- no frame was pushed onto the free list
abbrev pub PushesNone : QueueState → QueueState → Type 0
PushesNone q r = r.known.pushed ≡ q.known.pushed

-- A frame was pushed onto the free list, or was not, as the list was full
pub data PutsBack (f : ℕ) (q r : QueueState) : Type 0 where
  pushed : r ≡ pushing f q → PutsBack f q r
  full : r ≡ q → ListHad q.known.frames q.known → PutsBack f q r

-- A victim was given up and put back, and another backend's frame f, which the map gave, was pinned
-- then, for a ring or not
pub record PinsOther (tag : Tag) (ring : Bool) (victim f : ℕ) (v : View) (q : QueueState) (w : View)
    (r : QueueState) : Type 0 where
  pub entries : List MapEntry
  pub searched : View
  pub did : WentAndCame entries entries (partition_number tag) v searched
  pub gives : found entries (packed_tag tag) ≡ Some f
  pub given : View
  pub gave_up : Woken victim searched given
  pub put_back : PutsBack victim q r
  pub pinned : Tried (pins (kinds.pin_mapped (packed_tag tag) ring)) f given w true

-- The map was searched once more: it gave none, and then the block was brought into the victim; or
-- it gave another backend's frame
pub data Brings (tag : Tag) (ring : Bool) (victim f : ℕ) (v : View) (q : QueueState) (w : View)
    (r : QueueState) : Type 0 where
  enters : {u : View} → f ≡ victim → SeesNone tag v u → OnlyRises u w → r ≡ q
      → Brings tag ring victim f v q w r
  pins_other : PinsOther tag ring victim f v q w r → Brings tag ring victim f v q w r

-- Under the latch of the tag's partition the block was brought into a frame, f, which is pinned for
-- it. Then the tag's hint was stored, which names the frame. By then the view had what it had but
-- for frames, partitions' latches and the hint, and after that no work was done at another frame,
-- and these were the calls of devices
pub record EntersAndStores (n : ℕ) (tag : Tag) (held : Tokens) (ring : Bool) (victim f : ℕ)
    (last : List DeviceCall) (v : View) (q : QueueState) (w : View) (r : QueueState) : Type 0 where
  pub holds : (link v victim).role ≡ Victim
  pub pinned : View
  pub brings : UnderPartition tag (λ a b. Brings tag ring victim f a q b r) v pinned
  pub since : OnlyRises v pinned
  pub pins : Pins (packed_tag tag) f held pinned
  pub noted : View
  pub stores : StoresHint n tag f pinned noted
  pub same : searched_of noted ≡ searched_of v
  pub works : WorksAt f noted w
  pub calls : Made last noted w

module _ {L G : Type 0} (contents : L → Option Pages) (t : FrameTable L G) where
  -- Victims were chosen and given up, then one was chosen and lost its tag, and the block was
  -- brought into it; or another backend's frame, which has the block, was pinned
  pub record PinsAndStores (tag : Tag) (held : Tokens) (ring : Bool) (f : ℕ)
      (last : List DeviceCall) (v : View) (c : ChoiceState) (w : View)
      (d : ChoiceState) : Type 0 where
    pub start : View
    pub by : ChoiceState
    pub tries : GivesVictimsUp contents t v c start by
    pub victim : ℕ
    pub chosen : View
    pub popped : QueueState
    pub empties : InvalidatesVictim contents t victim start by chosen (record d { queue = popped })
    pub before : OnlyRises v chosen
    pub unpushed : PushesNone c.queue popped
    pub enters : EntersAndStores (frames_of t) tag held ring victim f last chosen popped w d.queue
