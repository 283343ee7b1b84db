-- What a look-up sees of a block's hint, and what it stores there.
use Rattle.std.specs.Prelude.{◌≡◌, ◌≢◌, ℕ, ◌+◌, ◌<◌, ◌++◌, List, [], ◌∷◌, Bool, Some, None}
use Rattle.block_tag.specs.declared.tag.Tag.{Tag}
use Rattle.block_tag.specs.Names.{packed_tag}
use Rattle.pin_core.specs.declared.view.HintStore.{HintStore}
use Rattle.pin_core.specs.declared.view.View.{View}
use Rattle.pin_core.specs.Kinds as kinds
use Rattle.frame_table.specs.declared.pin.TryPin.{TryPin}
use Rattle.frame_table.specs.declared.pin.TryPin.TheVariants as try
use Rattle.frame_table.specs.Kinds.{pins}
use Rattle.frame_table.specs.FrameSteps.{Did, Refuses, looking}
use Rattle.map_partitions.specs.Hints.{LoadsHint, hint_number}
use Rattle.cleanup_lock.specs.Waking.{Woken}
use Rattle.buffer_frames.specs.Tokens.{Tokens, held_at}
use Rattle.buffer_frames.specs.declared.hinting.HintSeen.{HintSeen}
use Rattle.buffer_frames.specs.declared.hinting.HintSeen.TheVariants.{Unused, Nothing, Own, Locked}
use Rattle.buffer_frames.specs.declared.hinting.HintSeen.TheVariants.{Untagged, Changed, Other, Had}

-- what was seen of a hint whose frame a try to pin it refused
abbrev pub refused_hint : TryPin → HintSeen
refused_hint (try.Locked word) = Locked word
refused_hint (try.Untagged word) = Untagged word
refused_hint (try.Changed was now) = Changed was now

-- The frame f was pinned, for a ring or not, without a look at the map, and then this tag was
-- loaded there
pub record PinsHinted (tag : Tag) (f : ℕ) (ring : Bool) (v w : View) : Type 0 where
  pub looked : View
  pub was : ℕ
  pub look : Did looking f v looked was
  pub pinned : View
  pub pin : Did (pins (kinds.pin ring)) f looked pinned was
  pub read : Did (pins kinds.load_tag) f pinned w (packed_tag tag)

-- The frame f was pinned without a look at the map, had this tag, and the pin was given up
pub record GivesBack (other : Tag) (f : ℕ) (ring : Bool) (v w : View) : Type 0 where
  pub between : View
  pub pins : PinsHinted other f ring v between
  pub gives : Woken f between w

-- The frame f, which a hint named, was not pinned, or it had another block
abbrev pub SeesOther : Tag → ℕ → Bool → View → View → HintSeen → Type 0
SeesOther tag f ring v w (Locked word) = Refuses f v w (try.Locked word)
SeesOther tag f ring v w (Untagged word) = Refuses f v w (try.Untagged word)
SeesOther tag f ring v w (Changed was now) = Refuses f v w (try.Changed was now)
SeesOther tag f ring v w (Other other) = (other ≢ tag) × GivesBack other f ring v w
SeesOther tag f ring v w _ = ⊥

-- In a table of n frames, by a backend whose callers have these pins
module _ (n : ℕ) (tag : Tag) (held : Tokens) (ring : Bool) where
  -- The tag's hint named the frame f, which was tried, and this was seen there
  pub record TriesOther (v w : View) (seen : HintSeen) : Type 0 where
    pub frame : ℕ
    pub new : held_at held frame ≡ None
    pub loaded : View
    pub load : LoadsHint n tag (Some frame) v loaded
    pub sees : SeesOther tag frame ring loaded w seen

  -- What was seen of the tag's hint, which didn't give the block's frame: it named none, or one
  -- that callers have pinned, or one that was tried
  abbrev pub SeesHint : View → View → HintSeen → Type 0
  SeesHint v w Unused = ⊥
  SeesHint v w Nothing = LoadsHint n tag None v w
  SeesHint v w (Own f) = LoadsHint n tag (Some f) v w × (held_at held f ≢ None)
  SeesHint v w (Had f) = ⊥
  SeesHint v w seen = TriesOther v w seen

-- The tag's hint named the frame f, which was pinned and has the tag
pub record HasByHint (n : ℕ) (tag : Tag) (f : ℕ) (ring : Bool) (v w : View) : Type 0 where
  pub loaded : View
  pub load : LoadsHint n tag (Some f) v loaded
  pub pins : PinsHinted tag f ring loaded w

-- One store of a hint more is listed: that of the tag's, which names the frame f then
pub record NotesHint (n : ℕ) (tag : Tag) (f : ℕ) (old new : List HintStore) : Type 0 where
  pub found : ℕ
  pub listed : new ≡ old ++ record { number = hint_number tag n; found = found; left = f + 1 } ∷ []

-- The hints that a read stored whose block has the frame f: none if it didn't load the block's
-- hint, or the hint gave the frame, which is f; else the block's, once, and it names f
abbrev pub LeavesHint : ℕ → Tag → ℕ → HintSeen → List HintStore → List HintStore → Type 0
LeavesHint n tag f Unused old new = new ≡ old
LeavesHint n tag f (Had g) old new = (g ≡ f) × (new ≡ old)
LeavesHint n tag f _ old new = NotesHint n tag f old new

-- The hint of a block was used. No latch of a partition was taken only if it gave the frame: here
-- the latches taken are counted before and after
abbrev pub TakesTurns : HintSeen → ℕ → ℕ → Type 0
TakesTurns Unused before after = ⊥
TakesTurns (Had f) before after = after ≡ before
TakesTurns _ before after = before < after
