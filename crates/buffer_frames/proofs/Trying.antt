-- Victims that are tried, one after another.
use Rattle.std.proofs.Common.{◌≡◌, ◌≢◌, ℕ, Bool, true, Option, Some, Result, Err, sym, ap, ◌∙◌, subst}
use Rattle.std.specs.Prelude.{◌⊎◌}
use Rattle.access_rings.specs.declared.ring.RingKind.{RingKind}
use Rattle.access_rings.specs.RingState.{RingState}
use Rattle.block_tag.specs.declared.tag.Tag.{Tag}
use Rattle.block_tag.specs.Names.{lane_number, names_block}
use Rattle.segment_store.specs.Contents.{Pages}
use Rattle.state_word.specs.declared.word.StateWord.{StateWord}
use Rattle.state_word.specs.Fields.{fields, locked_fields}
use Rattle.pin_core.specs.declared.view.View.{View}
use Rattle.pin_core.specs.Kinds as kinds
use Rattle.table_rule.specs.Blocks.{has_block}
use Rattle.frame_table.specs.declared.table.FrameTable.{FrameTable}
use Rattle.frame_table.specs.FrameSteps.{Did, Looks}
use Rattle.frame_table.specs.Kinds.{pins}
use Rattle.frame_table.specs.Seats.{OnlyRises, frames_of, lanes_in, relations_of, tag_word}
use Rattle.cleanup_lock.specs.Waking.{Woken}
use Rattle.io_counts.specs.declared.contexts.ByContext.{ByContext}
use Rattle.io_counts.specs.declared.contexts.ContextCounts.{ContextCounts}
use Rattle.io_counts.specs.Counts.{counts_sum}
use Rattle.io_counts.proofs.Counts.{sum_assoc, sum_none}
use Rattle.clock_sweep.specs.CensusList.{CensusList}
use Rattle.clock_sweep.specs.Choosing.{ring_gone_on, ring_keeping}
use Rattle.clock_sweep.specs.FreeFrames.{QueueState}
use Rattle.frame_table.proofs.Rising.{rises_none, rises_on}
use Rattle.buffer_frames.specs.Rests.{LinksRest}
use Rattle.buffer_frames.specs.Tokens.{Tokens}
use Rattle.buffer_frames.specs.declared.flushing.FrameFlushError.{FrameFlushError}
use Rattle.buffer_frames.specs.declared.flushing.VictimPage.{VictimPage}
use Rattle.buffer_frames.specs.declared.victims.VictimError.{VictimError}
use Rattle.buffer_frames.specs.declared.victims.VictimError.TheVariants.{Flush, NoUnpinned}
use Rattle.buffer_frames.specs.declared.victims.Freed.TheVariants.{Again, Refused}
use Rattle.buffer_frames.specs.Counting.{CountsIo}
use Rattle.buffer_frames.specs.Flushing.{VictimAnswer}
use Rattle.buffer_frames.specs.VictimChoices.{ChoiceState, ChoosesVictim, InvalidatesVictim, FindsAllPinned, FindsInUse, UnpinsVictim, IsAssigned, LeavesDirty, GivesVictimsUp, ChoosesAndFlushes, choice_state, emptied_by, given_up_by, none_tried, one_more, taken, tried_by}
use Rattle.buffer_frames.specs.Victims.{ClaimsAndCounts, FreesAndCounts, VictimRefused, refused_by}
use Rattle.buffer_frames.specs.Outside.{searched_of}
use Rattle.buffer_frames.specs.Working.{Within, WorksAt}
use Rattle.buffer_frames.proofs.Counting.{counted_of, counts_after, counts_as, counts_on}

-- what a choice gives, as the pin has it
pub chosen_pin : (f g word own : ℕ) (v w : View) → f ≡ g → word ≡ own → Did (pins kinds.pin_victim) f v w word → Did (pins kinds.pin_victim) g v w own
chosen_pin f g word own v w e same d = subst (λ (x : ℕ). Did (pins kinds.pin_victim) x v w own) e (subst (λ (x : ℕ). Did (pins kinds.pin_victim) f v w x) same d)

pub chosen_ring : (is from : Bool) (f g : ℕ) (before after : Option RingState) → is ≡ from → f ≡ g → after ≡ ring_keeping from g (ring_gone_on before) → after ≡ ring_keeping is f (ring_gone_on before)
chosen_ring is from f g before after e same r = r ∙ ap (λ (x : ℕ). ring_keeping from x (ring_gone_on before)) (sym same) ∙ ap (λ (b : Bool). ring_keeping b f (ring_gone_on before)) (sym e)

-- a header that was locked at a word that shows it in use
pub found_in_use : (Also : StateWord → Type 0) (f word : ℕ) (v u w : View) → ((x : View) × (was : ℕ) × Looks f v x × Did (pins kinds.lock_header) f x u was × (fields word ≡ locked_fields (fields was))) → ((fields word).pins ≢ 1) ⊎ Also (fields word) → OnlyRises u w → Within (FindsInUse Also f) v w
found_in_use Also f word v u w (x, was, looks, did, held) used until = record {
  before = v;
  after = u;
  since = rises_none v;
  work = record { word = word; locks = record { before = x; was = was; looks = looks; did = did; held = held }; used = used };
  until = until;
}

-- a victim that is given up at once after such work
pub gives_up_now : (Work : View → View → Type 0) (f : ℕ) (v u w : View) → Within Work v u → Woken f u w → searched_of w ≡ searched_of v → UnpinsVictim Work f v w
gives_up_now Work f v u w work wakes same = record { found = u; given = w; work = work; wakes = wakes; until = rises_none w; same = same }

module _ {L G : Type 0} (contents : L → Option Pages) (t : FrameTable L G) where
  -- a try, of which parts speak of the frame by another name
  abbrev pub tried : (f g : ℕ) (from_ring : Bool) (tag : Tag) (r : Option Tag) (v u x w : View) (c : ChoiceState) (queue : QueueState) (kept after : Option RingState) (census : CensusList) (answer : Result VictimPage FrameFlushError) → g ≡ f → r ≡ Some tag
      → ChoosesVictim (frames_of t) f from_ring v c u (choice_state queue kept census) → names_block tag ≡ true → has_block (relations_of t) tag ≡ true → OnlyRises v x
      → Did (pins kinds.load_tag) g u x (tag_word r) → VictimAnswer contents t (lane_number tag (lanes_in t)) tag g from_ring kept after x w answer → WorksAt g x w
      → ChoosesAndFlushes contents t f v c w (choice_state queue after census) answer
  tried f g from_ring tag r v u x w c queue kept after census answer same is chooses named listed since loads answers works = record {
    from_ring = from_ring;
    kept = kept;
    chosen = u;
    chooses = chooses;
    tag = tag;
    named = named;
    listed = listed;
    loaded = x;
    since = since;
    loads = subst (λ (y : ℕ). Did (pins kinds.load_tag) y u x (tag_word (Some tag))) same (subst (λ (o : Option Tag). Did (pins kinds.load_tag) g u x (tag_word o)) is loads);
    answers = subst (λ (y : ℕ). VictimAnswer contents t (lane_number tag (lanes_in t)) tag y from_ring kept after x w answer) same answers;
    works = subst (λ (y : ℕ). WorksAt y x w) same works;
  }

  -- tries after tries
  pub tries_on : (v u : View) (c b : ChoiceState) (w : View) (d : ChoiceState) → GivesVictimsUp contents t v c u b → GivesVictimsUp contents t u b w d → GivesVictimsUp contents t v c w d
  tries_on v u c b w d before none_tried = before
  tries_on v u c b w d before (one_more {u = x} {b = e} f after leaves) = one_more f (tries_on v u c b x e before after) leaves

  -- and what is counted of them
  tried_on : (v u : View) (c b : ChoiceState) (w : View) (d : ChoiceState) (x : GivesVictimsUp contents t v c u b) (y : GivesVictimsUp contents t u b w d) → tried_by contents t (tries_on v u c b w d x y) ≡ counts_sum (tried_by contents t x) (tried_by contents t y)
  unfolding tries_on
  tried_on v u c b w d x none_tried = sym (sum_none (tried_by contents t x))
  tried_on v u c b w d x (one_more {u = m} {b = e} f after leaves) = ap (λ (s : ContextCounts). counts_sum s (given_up_by contents t leaves)) (tried_on v u c b m e x after) ∙ sum_assoc (tried_by contents t x) (tried_by contents t after) (given_up_by contents t leaves)

  -- why no frame was freed, after tries and other steps, by a backend that has just its callers' pins
  pinned_after : (held : Tokens) (entry u v : View) (c b : ChoiceState) (w : View) (d : ChoiceState) → LinksRest held entry → LinksRest held u → OnlyRises entry u → GivesVictimsUp contents t v c u b → FindsAllPinned contents t u u b w d → FindsAllPinned contents t entry v c w d
  pinned_after held entry u v c b w d rests still since before x = record {
    start = x.start;
    by = x.by;
    tries = tries_on v u c b x.start x.by before x.tries;
    since = rises_on entry u x.start since x.since;
    pins = λ f. x.pins f ∙ (still f).role ∙ sym (rests f).role;
    cause = x.cause;
    counted = x.counted;
    pinned = x.pinned;
    ring = x.ring;
    calls = x.calls;
  }

  dirty_after : (why : FrameFlushError) (entry u v : View) (c b : ChoiceState) (w : View) (d : ChoiceState) → OnlyRises entry u → GivesVictimsUp contents t v c u b → LeavesDirty contents t why u u b w d → LeavesDirty contents t why entry v c w d
  dirty_after why entry u v c b w d since before x = record {
    start = x.start;
    by = x.by;
    tries = tries_on v u c b x.start x.by before x.tries;
    since = rises_on entry u x.start since x.since;
    frame = x.frame;
    after = x.after;
    tried = x.tried;
    ended = x.ended;
    wakes = x.wakes;
    until = x.until;
  }

  pub refused_after : (held : Tokens) (entry u v w : View) (c b d : ChoiceState) (why : VictimError) → LinksRest held entry → LinksRest held u → OnlyRises entry u → GivesVictimsUp contents t v c u b → VictimRefused contents t u u b w d why → VictimRefused contents t entry v c w d why
  refused_after held entry u v w c b d (NoUnpinned frames) rests still since before x = (x.0, pinned_after held entry u v c b w d rests still since before x.1)
  refused_after held entry u v w c b d (Flush why) rests still since before x = dirty_after why entry u v c b w d since before x

  -- and what is counted of them
  pub refused_on : (held : Tokens) (entry u v w : View) (c b d : ChoiceState) (why : VictimError) (rests : LinksRest held entry) (still : LinksRest held u) (since : OnlyRises entry u) (before : GivesVictimsUp contents t v c u b) (x : VictimRefused contents t u u b w d why) → refused_by contents t entry v c w d why (refused_after held entry u v w c b d why rests still since before x) ≡ counts_sum (tried_by contents t before) (refused_by contents t u u b w d why x)
  unfolding refused_after pinned_after dirty_after
  refused_on held entry u v w c b d (NoUnpinned frames) rests still since before x = tried_on v u c b x.1.start x.1.by before x.1.tries
  refused_on held entry u v w c b d (Flush why) rests still since before x = tried_on v u c b x.start x.by before x.tries

  module _ (context : Option RingKind) where
    -- Victims were given up, and what was done for them was counted
    pub record TriesAndCounts (v : View) (c : ChoiceState) (w : View) (d : ChoiceState) (io io' : ByContext) : Type 0 where
      pub tries : GivesVictimsUp contents t v c w d
      pub counts : CountsIo context (tried_by contents t tries) v w io io'

    -- one more was
    pub tried_again : (held : Tokens) (v u : View) (c b : ChoiceState) (w : View) (d : ChoiceState) (io io1 io2 : ByContext) → TriesAndCounts v c u b io io1 → FreesAndCounts contents t context held u b w d io1 io2 Again → TriesAndCounts v c w d io io2
    tried_again held v u c b w d io io1 io2 a x = record {
      tries = one_more x.freed.1.0 a.tries x.freed.1.1;
      counts = counts_on context (tried_by contents t a.tries) (given_up_by contents t x.freed.1.1) v u w io io1 io2 a.counts x.counts;
    }

    -- a victim that was emptied, and given up as it was to get the block's tag
    pub tried_taken : (f : ℕ) (v u x w : View) (c b : ChoiceState) (queue r : QueueState) (ring : Option RingState) (census : CensusList) (io io1 io2 : ByContext) → r ≡ queue → TriesAndCounts v c u b io io1 → (empties : InvalidatesVictim contents t f u b x (choice_state queue ring census)) → CountsIo context (emptied_by contents t empties) u x io1 io2 → UnpinsVictim (FindsInUse IsAssigned f) f x w → TriesAndCounts v c w (choice_state r ring census) io io2
    tried_taken f v u x w c b queue r ring census io io1 io2 same a empties counts gives = subst (λ (q : QueueState). TriesAndCounts v c w (choice_state q ring census) io io2) (sym same) record {
      tries = one_more f a.tries (taken empties gives);
      counts = counts_on context (tried_by contents t a.tries) (emptied_by contents t empties) v u w io io1 io2 a.counts (counts_after context (emptied_by contents t empties) u x w io1 io2 counts (ap counted_of gives.same));
    }

    -- no frame was freed after that
    pub refused_tried : (tag : Tag) (held : Tokens) (ring : Bool) (v u w : View) (c b d : ChoiceState) (why : VictimError) (io io1 io2 : ByContext) → LinksRest held v → LinksRest held u → OnlyRises v u → TriesAndCounts v c u b io io1 → FreesAndCounts contents t context held u b w d io1 io2 (Refused why) → ClaimsAndCounts contents t context tag held ring v c w d io io2 (Err why)
    refused_tried tag held ring v u w c b d why io io1 io2 rests still since a x = record {
      claimed = refused_after held v u v w c b d why rests still since a.tries x.freed.1;
      counts = counts_as context (counts_sum (tried_by contents t a.tries) (refused_by contents t u u b w d why x.freed.1)) (refused_by contents t v v c w d why (refused_after held v u v w c b d why rests still since a.tries x.freed.1)) v w io io2 (sym (refused_on held v u v w c b d why rests still since a.tries x.freed.1)) (counts_on context (tried_by contents t a.tries) (refused_by contents t u u b w d why x.freed.1) v u w io io1 io2 a.counts x.counts);
    }
