-- How a block came into its frame, over what is done after that.
use Rattle.std.proofs.Common.{◌≡◌, ℕ, ◌+◌, ◌≤◌, Bool, List, [], ◌++◌, Option, Some, None, refl, sym, ap, ◌∙◌, subst, append_assoc, arith}
use Rattle.std.proofs.lemmas.List.{append-nil}
use Rattle.std.specs.Prelude.{Result, Ok, Err, IfErr, MatchResult}
use Rattle.access_rings.specs.declared.ring.RingKind.{RingKind}
use Rattle.block_tag.specs.declared.tag.Tag.{Tag}
use Rattle.block_tag.specs.Names.{packed_tag}
use Rattle.segment_store.specs.Contents.{Pages}
use Rattle.pin_core.specs.declared.view.DeviceCall.{DeviceCall}
use Rattle.pin_core.specs.declared.view.HintStore.{HintStore}
use Rattle.pin_core.specs.declared.view.View.{View}
use Rattle.io_counts.specs.declared.contexts.ByContext.{ByContext}
use Rattle.io_counts.specs.declared.contexts.ContextCounts.{ContextCounts}
use Rattle.io_counts.specs.Counts.{counts_sum, io_with, no_counts}
use Rattle.io_counts.proofs.Counts.{none_sum}
use Rattle.frame_table.specs.declared.pin.Pin.{Pin}
use Rattle.frame_table.specs.declared.table.FrameTable.{FrameTable}
use Rattle.frame_table.specs.Seats.{OnlyRises, Touches, frames_of}
use Rattle.frame_table.proofs.Rising.{rises_none, rises_on}
use Rattle.frame_table.proofs.Told.{lists_none}
use Rattle.buffer_frames.specs.Rests.{LinksRest}
use Rattle.buffer_frames.specs.Tokens.{Tokens}
use Rattle.buffer_frames.specs.declared.hinting.HintSeen.{HintSeen}
use Rattle.buffer_frames.specs.declared.fetching.FetchError.{FetchError}
use Rattle.buffer_frames.specs.declared.fetching.FetchError.TheVariants.{ReadFault, Unsound}
use Rattle.buffer_frames.specs.declared.fetching.FetchedPage.{FetchedPage}
use Rattle.buffer_frames.specs.declared.fetching.FetchedPage.TheVariants.{Hit, Read}
use Rattle.buffer_frames.specs.declared.victims.VictimError.{VictimError}
use Rattle.buffer_frames.specs.Bringing.{PushesNone}
use Rattle.buffer_frames.specs.Counting.{CountsIo, done_by}
use Rattle.buffer_frames.specs.Hinting.{NotesHint, TakesTurns}
use Rattle.buffer_frames.specs.Fetching.{fetch_calls}
use Rattle.buffer_frames.specs.Lookups.{LooksUp, by_none}
use Rattle.buffer_frames.specs.Outside.{outside_of, searched_of}
use Rattle.buffer_frames.specs.Reads.{Locates, MadeThen, Misses, PinNotes, PinsAndCounts, hit_of, fetch_counts, located_by, looked_up, missed}
use Rattle.buffer_frames.specs.VictimChoices.{ChoiceState, none_tried}
use Rattle.buffer_frames.specs.Victims.{ClaimsAndCounts, brought_by, refused_by}
use Rattle.buffer_frames.specs.Working.{Calls, IsFlushCall, Made, WorksAt}
use Rattle.buffer_frames.proofs.Hints.{notes_missed, takes_on}
use Rattle.buffer_frames.proofs.Outside.{calls_outside, calls_searched, grows_outside, kept_outside}
use Rattle.buffer_frames.proofs.Counting.{counted_of, counts_as, counts_before, counts_none, counts_on}
use Rattle.buffer_frames.proofs.Trying.{refused_after, refused_on}
use Rattle.buffer_frames.proofs.WorkSteps.{made_none, made_on, works_on}

pub works_none : (f : ℕ) (v : View) → WorksAt f v v
works_none f v = record { kept = refl; advances = rises_none v; lists = lists_none f v; partitions = refl; others = λ g n. refl }

-- a pin that is given up
works_outside : (f : ℕ) (v w : View) → Touches f v w → outside_of w ≡ outside_of v → WorksAt f v w
works_outside f v w t e = record { kept = kept_outside v w e; advances = grows_outside v w t.grows e; lists = t.lists; partitions = t.partitions; others = t.others }

-- the hint or the map gave the frame
pub pins_found : {L G : Type 0} (contents : L → Option Pages) (t : FrameTable L G) (tag : Tag) (held : Tokens) (ring : Bool) (seen : HintSeen) (c : ChoiceState) (context : Option RingKind) (pin : Pin) (v w : View) (io : ByContext) → LooksUp (frames_of t) tag held ring v w seen (Some pin.frame) → searched_of w ≡ searched_of v → PinsAndCounts contents t tag held ring seen c c context v w io io (Ok pin)
pins_found contents t tag held ring seen c context pin v w io looks e = record {
  pins = looked_up w looks (works_none pin.frame w) (made_none v w (calls_searched v w e)) (ap (λ (x : View). x.ticks) e) refl;
  counts = counts_none context v w io io (ap counted_of e) refl;
}

-- neither gave one
module _ (n : ℕ) (tag : Tag) (held : Tokens) (ring : Bool) (v u w : View) where
  pub misses_then : (seen : HintSeen) → LooksUp n tag held ring v u seen None → searched_of u ≡ searched_of v → OnlyRises u w → Calls IsFlushCall u w → Misses n tag held ring seen [] v w
  misses_then seen (by_none hinted hint under) e until calls = record {
    hinted = hinted;
    hint = hint;
    searched = u;
    search = under;
    until = until;
    calls = record { before = calls.made; calls = calls.calls ∙ ap (λ (l : List DeviceCall). l ++ calls.made) (calls_searched v u e) ∙ ap (λ (l : List DeviceCall). v.device_calls ++ l) (sym (append-nil calls.made)); each = calls.each };
  }

  pub turns_then : (seen : HintSeen) → LooksUp n tag held ring v u seen None → TakesTurns seen v.turns u.turns → u.turns ≤ w.turns → TakesTurns seen v.turns w.turns
  turns_then seen (by_none hinted hint under) takes more = takes_on n tag held ring v hinted seen hint v.turns u.turns w.turns takes more

  pub notes_then : (seen : HintSeen) (r : Result Pin VictimError) → LooksUp n tag held ring v u seen None → u.hints ≡ v.hints → MatchResult r (λ p. NotesHint n tag p.frame u.hints w.hints) (λ _. w.hints ≡ u.hints) → PinNotes n tag seen v.hints w.hints r
  notes_then seen (Ok pin) (by_none hinted hint under) e h = notes_missed n tag held ring v hinted seen hint pin.frame v.hints w.hints (subst (λ (l : List HintStore). NotesHint n tag pin.frame l w.hints) e h)
  notes_then seen (Err why) looks e h = h ∙ e

module _ {L G : Type 0} (contents : L → Option Pages) (t : FrameTable L G) (tag : Tag) (held : Tokens) (ring : Bool) (c d : ChoiceState) (context : Option RingKind) (io io' : ByContext) where
  pub pins_missed : (seen : HintSeen) (v u w : View) (a : Result Pin VictimError) → LinksRest held v → LinksRest held u → LooksUp (frames_of t) tag held ring v u seen None → searched_of u ≡ searched_of v → OnlyRises v u → OnlyRises u w → Calls IsFlushCall u w → ClaimsAndCounts contents t context tag held ring u c w d io io' a → IfErr a (λ _. PushesNone c.queue d.queue) → PinsAndCounts contents t tag held ring seen c d context v w io io' a
  unfolding misses_then
  pins_missed seen v u w (Ok pin) rests still (by_none sought hint under) e since until calls s none = record {
    pins = missed (misses_then (frames_of t) tag held ring v u w seen (by_none sought hint under) e until calls) s.claimed;
    counts = counts_before context (brought_by contents t s.claimed) v u w io io' (ap counted_of e) s.counts;
  }
  pins_missed seen v u w (Err why) rests still (by_none sought hint under) e since until calls s none = let refused = refused_after contents t held v u u w c c d why rests still since none_tried s.claimed in record {
    pins = (misses_then (frames_of t) tag held ring v u w seen (by_none sought hint under) e until calls, none, refused);
    counts = counts_as context (refused_by contents t u u c w d why s.claimed) (refused_by contents t v u c w d why refused) v w io io' (sym (refused_on contents t held v u u w c c d why rests still since none_tried s.claimed ∙ none_sum (refused_by contents t u u c w d why s.claimed))) (counts_before context (refused_by contents t u u c w d why s.claimed) v u w io io' (ap counted_of e) s.counts);
  }

-- then the frame is worked at
then_made : (last : List DeviceCall) (v u w : View) → MadeThen [] v u → Made last u w → MadeThen last v w
then_made last v u w m made = record {
  before = m.before;
  calls = made ∙ ap (λ (l : List DeviceCall). l ++ last) m.calls ∙ append_assoc v.device_calls (m.before ++ []) last ∙ ap (λ (l : List DeviceCall). v.device_calls ++ (l ++ last)) (append-nil m.before);
  each = m.each;
}

module _ {L G : Type 0} (contents : L → Option Pages) (t : FrameTable L G) (tag : Tag) (held : Tokens) (ring : Bool) (seen : HintSeen) (c d : ChoiceState) (f : ℕ) where
  worked : (last : List DeviceCall) (v u w : View) → WorksAt f u w → Made last u w → Locates contents t tag held ring seen c d f [] v u → Locates contents t tag held ring seen c d f last v w
  worked last v u w works made (looked_up pinned looks before calls ticks same) = looked_up pinned looks (works_on f pinned u w before works) (made_on [] last v u w calls made) (ap (λ (x : View). x.ticks) works.kept ∙ ticks) same
  worked last v u w works made (missed m s) = missed
      (record { hinted = m.hinted; hint = m.hint; searched = m.searched; search = m.search; until = rises_on m.searched u w m.until works.advances; calls = then_made last v u w m.calls made })
      (record {
        start = s.start;
        by = s.by;
        tries = s.tries;
        victim = s.victim;
        chosen = s.chosen;
        popped = s.popped;
        empties = s.empties;
        before = s.before;
        unpushed = s.unpushed;
        enters = record { holds = s.enters.holds; pinned = s.enters.pinned; brings = s.enters.brings; since = s.enters.since; pins = s.enters.pins; noted = s.enters.noted; stores = s.enters.stores; same = s.enters.same; works = works_on f s.enters.noted u w s.enters.works works; calls = made_on [] last s.enters.noted u w s.enters.calls made };
      })

  -- what is counted of that is what was counted by then
  worked_by : (last : List DeviceCall) (v u w : View) (works : WorksAt f u w) (made : Made last u w) (l : Locates contents t tag held ring seen c d f [] v u) → located_by contents t tag held ring seen c d (worked last v u w works made l) ≡ located_by contents t tag held ring seen c d l
  unfolding worked
  worked_by last v u w works made (looked_up pinned looks before calls ticks same) = refl
  worked_by last v u w works made (missed m s) = refl

-- what a load counts of its answer and of its calls
abbrev pub fetch_hits : Result FetchedPage FetchError → ContextCounts
fetch_hits (Ok fetched) = hit_of fetched
fetch_hits (Err why) = no_counts

fetch_counted : (lane tag : ℕ) (came : Result FetchedPage FetchError) → fetch_counts came ≡ counts_sum (fetch_hits came) (done_by (fetch_calls lane tag came))
fetch_counted lane tag (Ok Hit) = refl
fetch_counted lane tag (Ok Read) = refl
fetch_counted lane tag (Err Unsound) = refl
fetch_counted lane tag (Err ReadFault) = refl

clears_none : (came : Result FetchedPage FetchError) → (fetch_hits came).evictions + (fetch_hits came).reuses ≡ 0
clears_none (Ok Hit) = refl
clears_none (Ok Read) = refl
clears_none (Err why) = refl

counts_fetched : (context : Option RingKind) (lane tag : ℕ) (came : Result FetchedPage FetchError) (v w : View) (io io' : ByContext) → Made (fetch_calls lane tag came) v w → w.cleared ≡ v.cleared → io' ≡ io_with context (fetch_counts came) io → CountsIo context (fetch_hits came) v w io io'
counts_fetched context lane tag came v w io io' made cleared same = let none = clears_none came in record {
  made = fetch_calls lane tag came;
  calls = made;
  counted = same ∙ ap (λ (s : ContextCounts). io_with context s io) (fetch_counted lane tag came);
  cleared = omega arith;
}

module _ {L G : Type 0} (contents : L → Option Pages) (t : FrameTable L G) (tag : Tag) (held : Tokens) (ring : Bool) (seen : HintSeen) (c d : ChoiceState) (context : Option RingKind) (lane : ℕ) (pin : Pin) (came : Result FetchedPage FetchError) where
  -- The pin's frame was located and loaded, with this answer, and what was done for that was counted
  pub record LocatesAndCounts (v w : View) (io io' : ByContext) : Type 0 where
    pub located : Locates contents t tag held ring seen c d pin.frame (fetch_calls lane (packed_tag tag) came) v w
    pub counts : CountsIo context (counts_sum (located_by contents t tag held ring seen c d located) (fetch_hits came)) v w io io'

  locates_at : (v u w : View) (io io1 io2 : ByContext) → PinsAndCounts contents t tag held ring seen c d context v u io io1 (Ok pin) → WorksAt pin.frame u w → Made (fetch_calls lane (packed_tag tag) came) u w → io2 ≡ io_with context (fetch_counts came) io1 → LocatesAndCounts v w io io2
  locates_at v u w io io1 io2 x works made same =
      let last = fetch_calls lane (packed_tag tag) came in
      let located = worked contents t tag held ring seen c d pin.frame last v u w works made x.pins in record {
        located = located;
        counts = counts_as context (counts_sum (located_by contents t tag held ring seen c d x.pins) (fetch_hits came)) (counts_sum (located_by contents t tag held ring seen c d located) (fetch_hits came)) v w io io2 (ap (λ (s : ContextCounts). counts_sum s (fetch_hits came)) (sym (worked_by contents t tag held ring seen c d pin.frame last v u w works made x.pins)))
            (counts_on context (located_by contents t tag held ring seen c d x.pins) (fetch_hits came) v u w io io1 io2 x.counts (counts_fetched context lane (packed_tag tag) came u w io1 io2 made (ap (λ (y : View). y.cleared) works.kept) same));
      }

  pub locates_worked : (g : ℕ) (v u w : View) (io io1 io2 : ByContext) → g ≡ pin.frame → PinsAndCounts contents t tag held ring seen c d context v u io io1 (Ok pin) → WorksAt g u w → Made (fetch_calls lane (packed_tag tag) came) u w → io2 ≡ io_with context (fetch_counts came) io1 → LocatesAndCounts v w io io2
  locates_worked g v u w io io1 io2 e x works made same = locates_at v u w io io1 io2 x (subst (λ (y : ℕ). WorksAt y u w) e works) made same

  -- and given up
  pub locates_given : (g : ℕ) (v u x w : View) (io io1 io2 : ByContext) → g ≡ pin.frame → PinsAndCounts contents t tag held ring seen c d context v u io io1 (Ok pin) → WorksAt g u x → Made (fetch_calls lane (packed_tag tag) came) u x → Touches pin.frame x w → outside_of w ≡ outside_of x → io2 ≡ io_with context (fetch_counts came) io1 → LocatesAndCounts v w io io2
  locates_given g v u x w io io1 io2 e pins works made touches out same = locates_at v u w io io1 io2 pins (works_on pin.frame u x w (subst (λ (y : ℕ). WorksAt y u x) e works) (works_outside pin.frame x w touches out)) (calls_outside x w out ∙ made) same
