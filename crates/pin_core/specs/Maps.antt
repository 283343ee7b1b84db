-- The maps of the partitions and the tag words of the frames.
-- Tag words count with or without BM_TAG_VALID: the two agree except on a pending frame. The pair
-- in change is in the state's partition as well as in the holder's view.
use Rattle.std.specs.Prelude.{◌≡◌, ◌≢◌, ℕ, ◌<◌, Option, Some, None}
use Rattle.pin_core.specs.declared.view.MapChange.{MapChange}
use Rattle.pin_core.specs.declared.view.MapChange.TheVariants.{Stable, Entering, Leaving}
use Rattle.pin_core.specs.State.{no_tag}

-- What holds of a tag and a frame, with `gives` what the map gives for the tag, `owed` the pair in
-- change in its partition, and `word` the tag word of the frame
pub record PairLaw (gives : Option ℕ) (owed : MapChange) (word tag f : ℕ) : Type 0 where
  -- the frame that the map gives has the tag, unless the pair is being left out
  pub found : gives ≡ Some f → word ≢ tag → owed ≡ Leaving tag f
  -- the map gives the frame that has the tag, unless the pair is being entered
  pub tagged : word ≡ tag → gives ≢ Some f → owed ≡ Entering tag f
  -- while the pair is being entered the frame has the tag, and the map gives no frame for it
  pub entering : owed ≡ Entering tag f → (word ≡ tag) × (gives ≡ None)
  -- while the pair is being left out the frame no longer has the tag, and the map has the pair
  pub leaving : owed ≡ Leaving tag f → (word ≢ tag) × (gives ≡ Some f)

-- A tag and a frame are a pair of the partition p
pub record IsPair (frames : ℕ) (partition_of : ℕ → ℕ) (p tag f : ℕ) : Type 0 where
  -- the tag is of the partition p
  pub placed : partition_of tag ≡ p
  -- the tag isn't all ones
  pub named : tag ≢ no_tag
  -- the frame is one of the pool
  pub inside : f < frames

-- what holds of the pair in change in the partition p: it is one of that partition
abbrev pub OwedLaw : ℕ → (ℕ → ℕ) → ℕ → MapChange → Type 0
OwedLaw frames partition_of p Stable = Unit {0}
OwedLaw frames partition_of p (Entering tag f) = IsPair frames partition_of p tag f
OwedLaw frames partition_of p (Leaving tag f) = IsPair frames partition_of p tag f

-- Each partition's map has exactly its tags and the frames that have them, but for the pair in
-- change; with `gives` the maps' answers, `owed` the pairs in change and `word` the frames' tag
-- words
pub record MapLaw (frames : ℕ) (partition_of : ℕ → ℕ) (gives : ℕ → ℕ → Option ℕ)
    (owed : ℕ → MapChange) (word : ℕ → ℕ) : Type 0 where
  -- a map gives a frame for a tag if and only if the frame has the tag, but for the pair in change
  pub pairs : (tag f : ℕ) → tag ≢ no_tag → f < frames
      → PairLaw (gives (partition_of tag) tag) (owed (partition_of tag)) (word f) tag f
  -- a map has only pairs of its partition
  pub mapped : (p tag f : ℕ) → gives p tag ≡ Some f → IsPair frames partition_of p tag f
  -- the pair in change is of its partition
  pub changing : (p : ℕ) → OwedLaw frames partition_of p (owed p)
