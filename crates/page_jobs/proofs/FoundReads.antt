-- Blocks that reads find, by what was counted of them.
use Rattle.std.proofs.Common.{◌≡◌, ℕ, ◌+◌, Bool, true, false, List, [], ◌∷◌, ◌++◌, Option, None, Result, Ok, Err, refl, sym, ap, ◌∙◌, subst, arith}
use Rattle.std.specs.Prelude.{is_some}
use Rattle.std.proofs.lemmas.List.{append_cancel_left}
use Rattle.access_rings.specs.RingState.{RingState}
use Rattle.block_tag.specs.declared.tag.Tag.{Tag}
use Rattle.block_tag.specs.Names.{lane_number, packed_tag}
use Rattle.segment_store.specs.Contents.{Pages}
use Rattle.pin_core.specs.declared.view.DeviceCall.{DeviceCall}
use Rattle.pin_core.specs.declared.view.DeviceCall.TheVariants.{LaneRead}
use Rattle.pin_core.specs.declared.view.View.{View}
use Rattle.frame_table.specs.declared.table.FrameTable.{FrameTable}
use Rattle.frame_table.specs.Seats.{lanes_in}
use Rattle.io_counts.specs.declared.contexts.ContextCounts.{ContextCounts}
use Rattle.io_counts.specs.Counts.{context_of, counts_sum, no_counts}
use Rattle.io_counts.specs.Found.{FoundMore}
use Rattle.io_counts.proofs.Found.{found_with}
use Rattle.buffer_frames.specs.declared.flushing.FrameFlushError.TheVariants as flush
use Rattle.buffer_frames.specs.declared.hinting.HintSeen.{HintSeen}
use Rattle.buffer_frames.specs.declared.victims.VictimError.{VictimError}
use Rattle.buffer_frames.specs.declared.victims.VictimError.TheVariants.{Flush, NoUnpinned}
use Rattle.buffer_frames.specs.Counting.{done_by, pages_read}
use Rattle.buffer_frames.specs.Fetching.{fetch_calls, fetched_by}
use Rattle.buffer_frames.specs.Reads.{Locates, MadeThen, hit_of, located_by, looked_up, missed}
use Rattle.buffer_frames.specs.Tokens.{Tokens}
use Rattle.buffer_frames.specs.VictimChoices.{ChoiceState, GivesVictimUp, GivesVictimsUp, InvalidatesVictim, choice_state, emptied, emptied_by, given_up_by, in_use, none_tried, one_more, spared, taken, taken_from, tried_by, untagged}
use Rattle.buffer_frames.specs.Victims.{VictimRefused, refused_by}
use Rattle.buffer_frames.specs.Working.{Made}
use Rattle.buffer_frames.proofs.PagesWritten.{flush_reads_none, pages_read-append}
use Rattle.wal_flush.specs.declared.flushes.FlushLog.TheVariants as log
use Rattle.backend_pass.specs.declared.errors.ReadError.{ReadError}
use Rattle.backend_pass.specs.declared.errors.ReadError.TheVariants as read
use Rattle.backend_pass.specs.declared.pinned.Pinned.{Pinned}
use Rattle.backend_pass.specs.Passes.{PassState}
use Rattle.backend_pass.specs.Reading.{ReadingCalls, ReadsBlock, reading_by, reading_hits}
use Rattle.page_jobs.specs.Reads.{fault_of_refusal, found_by, found_refused, is_crowding, is_tried_once}

-- No hit and no read is among these events
record HasNoneFound (c : ContextCounts) : Type 0 where
  pub hits : c.hits ≡ 0
  pub reads : c.reads ≡ 0

none_of_none : HasNoneFound no_counts
none_of_none = record { hits = refl; reads = refl }

none_of_sum : (a b : ContextCounts) → HasNoneFound a → HasNoneFound b → HasNoneFound (counts_sum a b)
none_of_sum a b x y = record { hits = let m = x.hits in let n = y.hits in omega arith; reads = let m = x.reads in let n = y.reads in omega arith }

none_of_tag : (from_ring : Bool) → HasNoneFound (taken_from from_ring)
none_of_tag true = record { hits = refl; reads = refl }
none_of_tag false = record { hits = refl; reads = refl }

module _ {L G : Type 0} (contents : L → Option Pages) (t : FrameTable L G) where
  -- as victims lose their tags
  none_of_emptied : {f : ℕ} {v : View} {c : ChoiceState} {w : View} {d : ChoiceState} (x : InvalidatesVictim contents t f v c w d) → HasNoneFound (emptied_by contents t x)
  none_of_emptied (untagged from_ring chooses loads) = none_of_none
  none_of_emptied (emptied written x clears same) = none_of_tag x.from_ring

  none_of_given_up : {f : ℕ} {v : View} {c : ChoiceState} {w : View} {d : ChoiceState} (x : GivesVictimUp contents t f v c w d) → HasNoneFound (given_up_by contents t x)
  none_of_given_up (spared x wakes) = none_of_none
  none_of_given_up (in_use written x unpins) = none_of_none
  none_of_given_up (taken x unpins) = none_of_emptied x

  none_of_tries : {v : View} {c : ChoiceState} {w : View} {d : ChoiceState} (x : GivesVictimsUp contents t v c w d) → HasNoneFound (tried_by contents t x)
  none_of_tries none_tried = none_of_none
  none_of_tries (one_more f before x) = none_of_sum (tried_by contents t before) (given_up_by contents t x) (none_of_tries before) (none_of_given_up x)

  none_of_refusal : (entry v : View) (c : ChoiceState) (w : View) (d : ChoiceState) (why : VictimError) (x : VictimRefused contents t entry v c w d why) → HasNoneFound (refused_by contents t entry v c w d why x)
  none_of_refusal entry v c w d (NoUnpinned frames) x = none_of_tries x.1.tries
  none_of_refusal entry v c w d (Flush why) x = none_of_tries x.tries

  module _ (tag : Tag) (held : Tokens) (ring : Bool) (seen : HintSeen) (c d : ChoiceState) where
    none_of_located : {f : ℕ} {last : List DeviceCall} {v w : View} (x : Locates contents t tag held ring seen c d f last v w) → HasNoneFound (located_by contents t tag held ring seen c d x)
    none_of_located (looked_up pinned looks works calls ticks same) = none_of_none
    none_of_located (missed m x) = none_of_sum (tried_by contents t x.tries) (emptied_by contents t x.empties) (none_of_tries x.tries) (none_of_emptied x.empties)

    -- as a block is read, or isn't
    none_of_reading : (lane : ℕ) (v w : View) (r : Result Pinned ReadError) (x : ReadingCalls contents t tag held ring seen c d lane v w r) → HasNoneFound (reading_by contents t tag held ring seen c d lane v w r x)
    none_of_reading lane v w (Ok pinned) x = none_of_located x
    none_of_reading lane v w (Err (read.PastEnd block blocks)) x = none_of_none
    none_of_reading lane v w (Err read.PinsFull) x = none_of_none
    none_of_reading lane v w (Err (read.NoUnpinned frames)) x = none_of_refusal v x.0.searched c w d (NoUnpinned frames) x.2
    none_of_reading lane v w (Err (read.ReadFault failed)) x = none_of_located x.1.0
    none_of_reading lane v w (Err (read.WriteFault failed)) x = none_of_refusal v x.0.searched c w d (Flush (flush.WriteFault failed)) x.2
    none_of_reading lane v w (Err read.LogFault) x = none_of_refusal v x.0.searched c w d (Flush (flush.Log log.LogFault)) x.2
    none_of_reading lane v w (Err (read.LogDown at)) x = none_of_refusal v x.0.searched c w d (Flush (flush.Log (log.LogDown at))) x.2
    none_of_reading lane v w (Err (read.LogShort lsn end)) x = none_of_refusal v x.0.searched c w d (Flush (flush.Log (log.LogShort lsn end))) x.2
    none_of_reading lane v w (Err (read.Unsound failed)) x = none_of_located x.1.0

    -- These are the calls of devices, by which so many blocks are found beside some hits
    record MakesFound (hits n : ℕ) (v w : View) : Type 0 where
      pub made : List DeviceCall
      pub calls : Made made v w
      pub found : hits + pages_read made ≡ n

    found_then : (hits n : ℕ) (last : List DeviceCall) (v w : View) → hits + pages_read last ≡ n → MadeThen last v w → MakesFound hits n v w
    found_then hits n last v w is m = record {
      made = m.before ++ last;
      calls = m.calls;
      found = let none = flush_reads_none m.before m.each in omega (arith, is, none, pages_read-append m.before last);
    }

    found_located : (hits n f : ℕ) (last : List DeviceCall) (v w : View) → hits + pages_read last ≡ n → Locates contents t tag held ring seen c d f last v w → MakesFound hits n v w
    found_located hits n f last v w is (looked_up pinned looks works calls ticks same) = record { made = last; calls = calls; found = is }
    found_located hits n f last v w is (missed m x) = found_then hits n last v w is m.calls

    -- a block that is pinned was in the pool, or the lane gave its page
    found_pinned : (hit : Bool) (f lane : ℕ) (v w : View) → Locates contents t tag held ring seen c d f (fetch_calls lane (packed_tag tag) (Ok (fetched_by hit))) v w → MakesFound (hit_of (fetched_by hit)).hits 1 v w
    found_pinned true f lane v w x = found_located 1 1 f [] v w refl x
    found_pinned false f lane v w x = found_located 0 1 f (LaneRead lane (packed_tag tag) true ∷ []) v w refl x

    found_reading : (lane : ℕ) (v w : View) (r : Result Pinned ReadError) → ReadingCalls contents t tag held ring seen c d lane v w r → MakesFound (reading_hits r).hits (found_by r) v w
    found_reading lane v w (Ok pinned) x = found_pinned pinned.hit pinned.frame lane v w x
    found_reading lane v w (Err (read.PastEnd block blocks)) x = absurd x
    found_reading lane v w (Err read.PinsFull) x = absurd x
    found_reading lane v w (Err (read.NoUnpinned frames)) x = found_then 0 0 [] v w refl x.0.calls
    found_reading lane v w (Err (read.ReadFault failed)) x = found_located 0 0 x.0 (LaneRead lane (packed_tag tag) false ∷ []) v w refl x.1.0
    found_reading lane v w (Err (read.WriteFault failed)) x = found_then 0 0 [] v w refl x.0.calls
    found_reading lane v w (Err read.LogFault) x = found_then 0 0 [] v w refl x.0.calls
    found_reading lane v w (Err (read.LogDown at)) x = found_then 0 0 [] v w refl x.0.calls
    found_reading lane v w (Err (read.LogShort lsn end)) x = found_then 0 0 [] v w refl x.0.calls
    found_reading lane v w (Err (read.Unsound failed)) x = found_located 0 1 x.0 (LaneRead lane (packed_tag tag) true ∷ []) v w refl x.1.0

  hits_alone : (r : Result Pinned ReadError) → (reading_hits r).reads ≡ 0
  hits_alone (Ok pinned) = of pinned.hit
    where
      of : (hit : Bool) → (hit_of (fetched_by hit)).reads ≡ 0
      of true = refl
      of false = refl
  hits_alone (Err why) = refl

  -- a block that was looked up is found, if its page was in the pool, or the lane gave it
  pub found_read : (tag : Tag) (ring after : Option RingState) (p q : PassState) (r : Result Pinned ReadError) → ReadsBlock contents t tag ring after p q r → FoundMore (found_by r) p.io q.io
  found_read tag ring after p q r d =
      let c = choice_state p.queue ring p.census in
      let e = choice_state q.queue after q.census in
      let lane = lane_number tag (lanes_in t) in
      let tags = reading_by contents t tag p.tokens (is_some ring) q.hint c e lane p.view q.view r d.calls in
      let hits = reading_hits r in
      let made = d.counts.made in
      let events = counts_sum (counts_sum tags hits) (done_by made) in
      let none = none_of_reading tag p.tokens (is_some ring) q.hint c e lane p.view q.view r d.calls in
      let found = found_reading tag p.tokens (is_some ring) q.hint c e lane p.view q.view r d.calls in
      let same : made ≡ found.made = append_cancel_left p.view.device_calls made found.made (sym d.counts.calls ∙ found.calls) in
      let all : hits.hits + pages_read made ≡ found_by r = ap (λ (l : List DeviceCall). hits.hits + pages_read l) same ∙ found.found in
      subst (λ (n : ℕ). FoundMore n p.io q.io) (summed tags.hits tags.reads hits.hits hits.reads (pages_read made) (found_by r) none.hits none.reads (hits_alone r) all)
      (subst (FoundMore (events.hits + events.reads) p.io) (sym d.counts.counted) (found_with (context_of ring) events p.io))
    where
      summed : (tag_hits tag_reads hits reads pages n : ℕ) → tag_hits ≡ 0 → tag_reads ≡ 0 → reads ≡ 0 → hits + pages ≡ n → (tag_hits + hits + 0) + (tag_reads + reads + pages) ≡ n
      summed tag_hits tag_reads hits reads pages n a b c all = omega arith

-- if each frame was pinned, none is found
pub found_crowded : (why : ReadError) → is_crowding why ≡ true → found_refused why ≡ 0
found_crowded (read.PastEnd block blocks) crowded = refl
found_crowded read.PinsFull crowded = refl
found_crowded (read.NoUnpinned frames) crowded = refl
found_crowded (read.ReadFault tag) crowded = refl
found_crowded (read.WriteFault tag) crowded = refl
found_crowded read.LogFault crowded = refl
found_crowded (read.LogDown at) crowded = refl
found_crowded (read.LogShort lsn end) crowded = refl
found_crowded (read.Unsound tag) crowded = absurd (cc crowded)

-- and a page that isn't sound is
pub found_unsound : (why : ReadError) → is_tried_once why ≡ true → fault_of_refusal why ≡ None → found_refused why ≡ 1
found_unsound (read.PastEnd block blocks) once none = absurd (cc once)
found_unsound read.PinsFull once none = absurd (cc once)
found_unsound (read.NoUnpinned frames) once none = absurd (cc once)
found_unsound (read.ReadFault tag) once none = absurd (cc none)
found_unsound (read.WriteFault tag) once none = absurd (cc none)
found_unsound read.LogFault once none = absurd (cc none)
found_unsound (read.LogDown at) once none = absurd (cc none)
found_unsound (read.LogShort lsn end) once none = absurd (cc none)
found_unsound (read.Unsound tag) once none = refl
