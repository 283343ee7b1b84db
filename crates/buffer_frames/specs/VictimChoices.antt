-- How a frame is got for a block: the victims that are chosen, one after another.
use Rattle.std.specs.Prelude.{◌≡◌, ◌≢◌, ◌⊎◌, ℕ, ◌+◌, ◌<◌, Bool, true, false, [], length}
use Rattle.std.specs.Prelude.{Option, Some, None, Result, Ok, Err}
use Rattle.std.specs.List.{All}
use Rattle.access_rings.specs.RingState.{RingState}
use Rattle.block_tag.specs.declared.tag.Tag.{Tag}
use Rattle.block_tag.specs.Names.{lane_number, names_block}
use Rattle.segment_store.specs.Contents.{Pages}
use Rattle.state_word.specs.declared.word.StateWord.{StateWord}
use Rattle.state_word.specs.Fields.{fields}
use Rattle.pin_core.specs.declared.view.View.{View}
use Rattle.pin_core.specs.Kinds as kinds
use Rattle.table_rule.specs.Blocks.{has_block}
use Rattle.frame_table.specs.declared.table.FrameTable.{FrameTable}
use Rattle.frame_table.specs.FrameSteps.{Did}
use Rattle.frame_table.specs.Kinds.{pins}
use Rattle.frame_table.specs.Seats.{OnlyRises, frames_of, lanes_in, relations_of, tag_word}
use Rattle.cleanup_lock.specs.Waking.{Woken}
use Rattle.io_counts.specs.declared.contexts.ContextCounts.{ContextCounts}
use Rattle.io_counts.specs.declared.contexts.IoEvent.TheVariants.{Eviction, Reuse}
use Rattle.io_counts.specs.Counts.{counts_sum, no_counts, one_of}
use Rattle.clock_sweep.specs.declared.held.LockedFrame.{LockedFrame}
use Rattle.clock_sweep.specs.CensusList.{CensusList, new_census}
use Rattle.clock_sweep.specs.Choosing.{Chooses, FindsNone, TakesHeader, frame_at_place}
use Rattle.clock_sweep.specs.Choosing.{ring_gone_on, ring_keeping}
use Rattle.clock_sweep.specs.FreeFrames.{QueueState}
use Rattle.clock_sweep.specs.Keeping.{SamePins}
use Rattle.buffer_frames.specs.declared.flushing.FrameFlushError.{FrameFlushError}
use Rattle.buffer_frames.specs.declared.flushing.VictimPage.{VictimPage}
use Rattle.buffer_frames.specs.declared.flushing.VictimPage.TheVariants.{Clean, Spared}
use Rattle.buffer_frames.specs.Flushing.{EndedInError, VictimAnswer}
use Rattle.buffer_frames.specs.Outside.{outside_of, searched_of}
use Rattle.buffer_frames.specs.Working.{Made, Within, WorksAt}

-- What a choice of a victim reads and changes beside the view: the pass of the free list, the ring,
-- if there is one, and the census
pub record ChoiceState : Type 0 where
  pub queue : QueueState
  pub ring : Option RingState
  pub census : CensusList

abbrev pub choice_state : QueueState → Option RingState → CensusList → ChoiceState
choice_state queue ring census = record { queue = queue; ring = ring; census = census }

-- The frame f of n was chosen, from the ring's current place or not, and pinned. The ring went on
-- by a place and keeps it there, and the census is empty
pub record ChoosesVictim (n f : ℕ) (from_ring : Bool)
    (v : View) (c : ChoiceState) (w : View) (d : ChoiceState) : Type 0 where
  pub held : LockedFrame
  pub locked : View
  pub chooses : Chooses n (frame_at_place (ring_gone_on c.ring)) v c.queue locked d.queue held
  pub frame : held.frame ≡ f
  pub source : held.from_ring ≡ from_ring
  pub pinned : Did (pins kinds.pin_victim) f locked w held.word
  pub ring : d.ring ≡ ring_keeping from_ring f (ring_gone_on c.ring)
  pub census : d.census ≡ new_census n
  pub calls : Made [] v w

-- Under its header a victim was seen to be pinned by another backend too, or to have such a state
-- word
pub record FindsInUse (Also : StateWord → Type 0) (f : ℕ) (v w : View) : Type 0 where
  pub word : ℕ
  pub locks : TakesHeader f v w word
  pub used : ((fields word).pins ≢ 1) ⊎ Also (fields word)

abbrev pub IsDirtied : StateWord → Type 0
IsDirtied w = w.dirty ≡ true

abbrev pub IsAssigned : StateWord → Type 0
IsAssigned w = w.tag_valid ≡ true

-- After such work the victim was unpinned, which wakes the backend that waits for its own pin to be
-- the only one. The view has what it had but for frames and partitions' latches
pub record UnpinsVictim (Work : View → View → Type 0) (f : ℕ) (v w : View) : Type 0 where
  pub found : View
  pub given : View
  pub work : Within Work v found
  pub wakes : Woken f found given
  pub until : OnlyRises given w
  pub same : searched_of w ≡ searched_of v

-- what is counted of a frame that lost its tag, and came from the ring's current place or didn't
abbrev pub taken_from : Bool → ContextCounts
taken_from true = one_of Reuse
taken_from false = one_of Eviction

-- BM_TAG_VALID and what goes with it was cleared under the header of f, once its tag was erased
-- (`InvalidateVictimBuffer`)
abbrev pub ClearsTag : ℕ → View → View → Type 0
ClearsTag f v w = (word : ℕ) × Did (pins kinds.clear) f v w word

module _ {L G : Type 0} (contents : L → Option Pages) (t : FrameTable L G) where
  -- A victim was chosen, the frame f, which has this tag, and this came of its page
  pub record ChoosesAndFlushes (f : ℕ) (v : View) (c : ChoiceState) (w : View) (d : ChoiceState)
      (answer : Result VictimPage FrameFlushError) : Type 0 where
    pub from_ring : Bool
    pub kept : Option RingState
    pub chosen : View
    pub chooses : ChoosesVictim (frames_of t) f from_ring v c chosen (record d { ring = kept })
    pub tag : Tag
    pub named : names_block tag ≡ true
    pub listed : has_block (relations_of t) tag ≡ true
    pub loaded : View
    pub since : OnlyRises v loaded
    pub loads : Did (pins kinds.load_tag) f chosen loaded (tag_word (Some tag))
    pub answers : VictimAnswer contents t (lane_number tag (lanes_in t)) tag f from_ring kept d.ring
        loaded w answer
    -- no work was done at another frame meanwhile
    pub works : WorksAt f loaded w

  -- A victim was chosen, the frame f, and is without a tag: it had none; or its page was clean or
  -- was written, and then its tag was erased
  pub data InvalidatesVictim (f : ℕ) (v : View) (c : ChoiceState) (w : View)
      (d : ChoiceState) : Type 0 where
    untagged : {u : View} (from_ring : Bool) → ChoosesVictim (frames_of t) f from_ring v c u d
        → Did (pins kinds.load_tag) f u w (tag_word None) → InvalidatesVictim f v c w d
    emptied : {u : View} (written : Bool) → ChoosesAndFlushes f v c u d (Ok (Clean written))
        → Within (ClearsTag f) u w
        → searched_of w ≡ record (searched_of u) { cleared = u.cleared + 1 }
        → InvalidatesVictim f v c w d

  -- A victim was chosen, the frame f, and was given up: its page was spared; or it was in use as it
  -- was to lose its tag, or to get the block's
  pub data GivesVictimUp (f : ℕ) (v : View) (c : ChoiceState) (w : View)
      (d : ChoiceState) : Type 0 where
    spared : {u : View} → ChoosesAndFlushes f v c u d (Ok Spared) → Woken f u w
        → GivesVictimUp f v c w d
    in_use : {u : View} (written : Bool) → ChoosesAndFlushes f v c u d (Ok (Clean written))
        → UnpinsVictim (FindsInUse IsDirtied f) f u w
        → GivesVictimUp f v c w d
    taken : {u : View} → InvalidatesVictim f v c u d → UnpinsVictim (FindsInUse IsAssigned f) f u w
        → GivesVictimUp f v c w d

  -- the view v and the choice's state c became these as victims were chosen, each of which was
  -- given up
  pub data GivesVictimsUp (v : View) (c : ChoiceState) : View → ChoiceState → Type 0 where
    none_tried : GivesVictimsUp v c v c
    one_more : {u w : View} {b d : ChoiceState} (f : ℕ) → GivesVictimsUp v c u b
        → GivesVictimUp f u b w d
        → GivesVictimsUp v c w d

  -- what is counted of the tag that such a victim lost: a reuse if the frame came from the ring's
  -- current place, and else an eviction
  abbrev pub emptied_by : {f : ℕ} {v : View} {c : ChoiceState} {w : View} {d : ChoiceState}
      → InvalidatesVictim f v c w d → ContextCounts
  emptied_by (untagged from_ring chooses loads) = no_counts
  emptied_by (emptied written x clears same) = taken_from x.from_ring

  -- what is counted of the tags that victims lost which were given up
  abbrev pub given_up_by : {f : ℕ} {v : View} {c : ChoiceState} {w : View} {d : ChoiceState}
      → GivesVictimUp f v c w d → ContextCounts
  given_up_by (spared x wakes) = no_counts
  given_up_by (in_use written x unpins) = no_counts
  given_up_by (taken x unpins) = emptied_by x

  abbrev pub tried_by : {v : View} {c : ChoiceState} {w : View} {d : ChoiceState}
      → GivesVictimsUp v c w d → ContextCounts
  tried_by none_tried = no_counts
  tried_by (one_more f before t) = counts_sum (tried_by before) (given_up_by t)

  -- After victims that were given up no frame was chosen: a census found each of them pinned, and
  -- has a word of each that shows it. The view pinned just what it pinned at `entry`
  pub record FindsAllPinned (entry v : View) (c : ChoiceState) (w : View)
      (d : ChoiceState) : Type 0 where
    pub start : View
    pub by : ChoiceState
    pub tries : GivesVictimsUp v c start by
    pub since : OnlyRises entry start
    pub pins : SamePins entry start
    pub cause : FindsNone (frames_of t) (frame_at_place (ring_gone_on by.ring)) start by.queue
        w d.queue d.census.words
    pub counted : length d.census.words ≡ frames_of t
    pub pinned : All (λ word. 0 < (fields word).pins) d.census.words
    pub ring : d.ring ≡ ring_gone_on by.ring
    pub calls : Made [] start w

  -- After victims that were given up the page of one was not written, for this reason, and it was
  -- given up
  pub record LeavesDirty (why : FrameFlushError) (entry v : View) (c : ChoiceState) (w : View)
      (d : ChoiceState) : Type 0 where
    pub start : View
    pub by : ChoiceState
    pub tries : GivesVictimsUp v c start by
    pub since : OnlyRises entry start
    pub frame : ℕ
    pub after : View
    pub tried : ChoosesAndFlushes frame start by after d (Err why)
    pub ended : EndedInError frame start after
    pub wakes : Woken frame after w
    pub until : outside_of w ≡ outside_of after
