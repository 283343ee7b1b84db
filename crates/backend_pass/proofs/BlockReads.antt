-- A pass reads a block.
use Rattle.std.proofs.Common.{◌≡◌, ◌≢◌, ◌<◌, ◌≤◌, ◌+◌, ℕ, Bool, List, Option, Some, None, Result, Ok, Err, refl, sym, ap, ◌∙◌, subst, true, arith}
use Rattle.std.specs.Prelude.{IfOk, is_some, option_map}
use Rattle.access_rings.specs.RingState.{RingState}
use Rattle.std.proofs.lemmas.Option.{none-some, same_Some}
use mathlib.Core.Logic.{dite}
use native.Mathlib.Decide.{ℕ_discrete}
use Rattle.block_tag.specs.declared.catalogue.RelEntry.{RelEntry}
use Rattle.block_tag.specs.declared.tag.Tag.{Tag}
use Rattle.block_tag.specs.Names.{lane_number, names_block, packed_tag, unpacked_tag}
use Rattle.segment_store.specs.Contents.{Pages}
use Rattle.pin_core.specs.declared.view.FailedCalls.{FailedCalls}
use Rattle.pin_core.specs.declared.view.View.{View}
use Rattle.pin_core.specs.declared.view.Content.TheVariants.{Unlocked}
use Rattle.pin_core.specs.State.{link}
use Rattle.table_rule.specs.Blocks.{has_block, has_named, is_block}
use Rattle.table_rule.proofs.Tags.{packed_is}
use Rattle.io_counts.specs.declared.contexts.ContextCounts.{ContextCounts}
use Rattle.io_counts.specs.Counts.{context_of, counts_sum, no_counts}
use Rattle.clock_sweep.specs.CensusList.{CensusList}
use Rattle.frame_table.specs.declared.table.FrameTable.{FrameTable}
use Rattle.frame_table.specs.Opened.{WasSoundAtOpening}
use Rattle.frame_table.specs.Seats.{OnlyRises, base_of, frames_of, lanes_in, relations_of}
use Rattle.wal_flush.specs.declared.flushes.FlushLog.TheVariants as log
use Rattle.buffer_frames.specs.Tokens.{HeldFrame, IsNew, IsPinnedFor, Tokens, held_at, tokens_more, tokens_of, tokens_with}
use Rattle.buffer_frames.specs.Rests.{HasNoDevice, HasNoLatch, LinksRest, OnlyTokens, kept_by_calls}
use Rattle.buffer_frames.proofs.HeldLists.{more_tags, with_here, with_past}
use Rattle.buffer_frames.proofs.Keeping.{rests_more, rests_more_pinned}
use Rattle.buffer_frames.specs.declared.flushing.FrameFlushError.TheVariants as flush
use Rattle.buffer_frames.specs.declared.hinting.HintSeen.{HintSeen}
use Rattle.buffer_frames.specs.declared.victims.VictimError.TheVariants as victim
use Rattle.buffer_frames.specs.declared.reading.PinnedBlock.{PinnedBlock}
use Rattle.buffer_frames.specs.declared.reading.BlockError.{BlockError}
use Rattle.buffer_frames.specs.declared.reading.BlockError.TheVariants as block
use Rattle.buffer_frames.specs.declared.fetching.FetchedPage.{FetchedPage}
use Rattle.buffer_frames.specs.declared.fetching.FetchError.TheVariants as fetch
use Rattle.buffer_frames.specs.Fetching.{fetched_by}
use Rattle.buffer_frames.specs.Reads.{CensusRead, ReadAnswer, ReadCalls, ReadsAndCounts, met_read_block, read_by}
use Rattle.buffer_frames.proofs.Counting.{counts_as}
use Rattle.buffer_frames.proofs.Locating.{LocatesAndCounts}
use Rattle.buffer_frames.specs.Stages.{Pins}
use Rattle.buffer_frames.specs.VictimChoices.{ChoiceState, choice_state}
use Rattle.clock_sweep.proofs.FreeLists.{list_same}
use Rattle.backend_pass.specs.declared.errors.ReadError.{ReadError}
use Rattle.backend_pass.specs.declared.errors.ReadError.TheVariants.{PastEnd, PinsFull, NoUnpinned, ReadFault, WriteFault, LogFault, LogDown, LogShort, Unsound}
use Rattle.backend_pass.specs.declared.manager.Manager.{Manager}
use Rattle.backend_pass.specs.declared.met.Shown.{Shown}
use Rattle.backend_pass.specs.declared.pinned.Pinned.{Pinned}
use Rattle.backend_pass.specs.Managers.{Belongs}
use Rattle.backend_pass.proofs.Fronts.{front_kept}
use Rattle.buffer_frames.specs.Outside.{shown_count}
use Rattle.backend_pass.specs.Passes.{IsNumbered, IsShown, KeepsCalls, PassState, SamePass, PassOwn, own_of}
use Rattle.buffer_frames.specs.declared.victims.VictimError.{VictimError}
use Rattle.buffer_frames.specs.Victims.{VictimRefused}
use Rattle.backend_pass.specs.Reading.{LacksFrame, ReadingCalls, ReadingCensus, ReadingRefused, ReadsBlock, met_read_refused, read_refusal, reading_by, shown_after}

-- the number, and what is shown
pub numbered_kept : (number id : ℕ) (v w : View) → w.number ≡ v.number → IsNumbered number id v → IsNumbered number id w
numbered_kept number id v w e n = record { number_is = e ∙ n.number_is; first = n.first }

pub shown_met : (v w : View) (s : Shown) → w.front ≡ v.front → w.met ≡ v.met → IsShown v s → IsShown w s
shown_met v w s front met n = record {
  front = n.front ∙ sym front;
  reads = n.reads ∙ ap (λ (m : FailedCalls). shown_count m.reads) (sym met);
  writes = n.writes ∙ ap (λ (m : FailedCalls). shown_count m.writes) (sym met);
  logs = n.logs ∙ ap (λ (m : FailedCalls). shown_count m.logs) (sym met);
}

-- one fault more
pub count_on : (n k : ℕ) → k ≡ shown_count n → shown_count (k + 1) ≡ shown_count (n + 1)
count_on n k e = omega arith

pub shown_refused : (v w : View) (s : Shown) (why : ReadError) → w.front ≡ v.front → w.met ≡ met_read_refused why v.met → IsShown v s → IsShown w (shown_after why s)
shown_refused v w s (PastEnd block blocks) front met n = shown_met v w s front met n
shown_refused v w s PinsFull front met n = shown_met v w s front met n
shown_refused v w s (NoUnpinned frames) front met n = shown_met v w s front met n
shown_refused v w s (ReadFault tag) front met n = record {
  front = n.front ∙ sym front;
  reads = count_on v.met.reads s.met.reads n.reads ∙ ap (λ (m : FailedCalls). shown_count m.reads) (sym met);
  writes = n.writes ∙ ap (λ (m : FailedCalls). shown_count m.writes) (sym met);
  logs = n.logs ∙ ap (λ (m : FailedCalls). shown_count m.logs) (sym met);
}
shown_refused v w s (WriteFault tag) front met n = record {
  front = n.front ∙ sym front;
  reads = n.reads ∙ ap (λ (m : FailedCalls). shown_count m.reads) (sym met);
  writes = count_on v.met.writes s.met.writes n.writes ∙ ap (λ (m : FailedCalls). shown_count m.writes) (sym met);
  logs = n.logs ∙ ap (λ (m : FailedCalls). shown_count m.logs) (sym met);
}
shown_refused v w s LogFault front met n = record {
  front = n.front ∙ sym front;
  reads = n.reads ∙ ap (λ (m : FailedCalls). shown_count m.reads) (sym met);
  writes = n.writes ∙ ap (λ (m : FailedCalls). shown_count m.writes) (sym met);
  logs = count_on v.met.logs s.met.logs n.logs ∙ ap (λ (m : FailedCalls). shown_count m.logs) (sym met);
}
shown_refused v w s (LogDown at) front met n = shown_met v w s front met n
shown_refused v w s (LogShort lsn end) front met n = shown_met v w s front met n
shown_refused v w s (Unsound tag) front met n = shown_met v w s front met n

-- the faults of the frames' refusal are those of the pass's
pub met_of_refusal : (tag : Tag) (why : BlockError) (m : FailedCalls) → met_read_block (Err why) m ≡ met_read_refused (read_refusal tag why) m
met_of_refusal tag (block.NoFrame (victim.NoUnpinned frames)) m = refl
met_of_refusal tag (block.NoFrame (victim.Flush (flush.WriteFault written))) m = refl
met_of_refusal tag (block.NoFrame (victim.Flush (flush.Log log.LogFault))) m = refl
met_of_refusal tag (block.NoFrame (victim.Flush (flush.Log (log.LogDown at)))) m = refl
met_of_refusal tag (block.NoFrame (victim.Flush (flush.Log (log.LogShort lsn end)))) m = refl
met_of_refusal tag (block.Unread fetch.ReadFault) m = refl
met_of_refusal tag (block.Unread fetch.Unsound) m = refl

-- so is what it leaves of the census
pub census_of_refusal : (tag : Tag) (n : ℕ) (c d : CensusList) (why : BlockError) → CensusRead n c d (Err why) → ReadingCensus n c d (Err (read_refusal tag why))
census_of_refusal tag n c d (block.NoFrame (victim.NoUnpinned frames)) e = e
census_of_refusal tag n c d (block.NoFrame (victim.Flush (flush.WriteFault written))) e = e
census_of_refusal tag n c d (block.NoFrame (victim.Flush (flush.Log log.LogFault))) e = e
census_of_refusal tag n c d (block.NoFrame (victim.Flush (flush.Log (log.LogDown at)))) e = e
census_of_refusal tag n c d (block.NoFrame (victim.Flush (flush.Log (log.LogShort lsn end)))) e = e
census_of_refusal tag n c d (block.Unread fetch.ReadFault) e = e
census_of_refusal tag n c d (block.Unread fetch.Unsound) e = e

-- and so are its calls
module _ {L G : Type 0} (contents : L → Option Pages) (t : FrameTable L G) (tag : Tag) (held : Tokens) (ring : Bool) (seen : HintSeen) (c d : ChoiceState) (lane : ℕ) (v w : View) where
  pub calls_of_refusal : (why : BlockError) → ReadCalls contents t tag held ring seen c d lane v w (Err why) → ReadingCalls contents t tag held ring seen c d lane v w (Err (read_refusal tag why))
  calls_of_refusal (block.NoFrame (victim.NoUnpinned frames)) x = x
  calls_of_refusal (block.NoFrame (victim.Flush (flush.WriteFault failed))) x = x
  calls_of_refusal (block.NoFrame (victim.Flush (flush.Log log.LogFault))) x = x
  calls_of_refusal (block.NoFrame (victim.Flush (flush.Log (log.LogDown at)))) x = x
  calls_of_refusal (block.NoFrame (victim.Flush (flush.Log (log.LogShort lsn end)))) x = x
  calls_of_refusal (block.Unread fetch.ReadFault) x = x
  calls_of_refusal (block.Unread fetch.Unsound) x = x

  -- and what is counted of them
  pub counts_of_refusal : (why : BlockError) (x : ReadCalls contents t tag held ring seen c d lane v w (Err why)) → read_by contents t tag held ring seen c d lane v w (Err why) x ≡ reading_by contents t tag held ring seen c d lane v w (Err (read_refusal tag why)) (calls_of_refusal why x)
  unfolding calls_of_refusal
  counts_of_refusal (block.NoFrame (victim.NoUnpinned frames)) x = refl
  counts_of_refusal (block.NoFrame (victim.Flush (flush.WriteFault failed))) x = refl
  counts_of_refusal (block.NoFrame (victim.Flush (flush.Log log.LogFault))) x = refl
  counts_of_refusal (block.NoFrame (victim.Flush (flush.Log (log.LogDown at)))) x = refl
  counts_of_refusal (block.NoFrame (victim.Flush (flush.Log (log.LogShort lsn end)))) x = refl
  counts_of_refusal (block.Unread fetch.ReadFault) x = refl
  counts_of_refusal (block.Unread fetch.Unsound) x = refl

-- what rests after a read
pub rests_pinned : (tag f : ℕ) (t : Tokens) (w : View) → HasNoDevice w → HasNoLatch w → Pins tag f t w → (link w f).seen_valid ≡ true → OnlyTokens (tokens_with f tag t) w
rests_pinned tag f t w quiet latches p seen = record {
  quiet = quiet;
  links = rests_more_pinned f tag t w p.new p.others record {
    calm = p.calm;
    role = p.role;
    tag = p.remembered;
    seen = λ some. seen;
    unlocked = λ none. absurd (none-some (record { frame = f; tag = tag; tokens = 1 }) (sym none));
  };
  latches = latches;
}

pub rests_again : (f : ℕ) (t : Tokens) (v : View) → OnlyTokens t v → OnlyTokens (tokens_more f t) v
rests_again f t v r = record { quiet = r.quiet; links = rests_more f t v r.links; latches = r.latches }

-- it is the same pass
pub same_kept : (p q : PassState) → q.table ≡ p.table → q.id ≡ p.id → own_of q ≡ own_of p → kept_by_calls q.view ≡ kept_by_calls p.view → OnlyRises p.view q.view → SamePass p q
same_kept p q table id census e advances = record {
  keeps = record {
    table = table;
    id = id;
    own = census;
    number = ap (λ (x : View). x.number) e;
    next = ap (λ (x : View). x.next) e;
    joined = ap (λ (x : View). x.joined) e;
    kept = ap (λ (x : View). x.joined_checkpoints) e;
    advances = advances;
  };
  upto = ap (λ (x : View). x.upto) e;
  published = ap (λ (x : View). x.published) e;
  torn = ap (λ (x : View). x.torn) e;
  unentered = ap (λ (x : View). x.unentered) e;
}

pub calls_kept : (p q : PassState) → kept_by_calls q.view ≡ kept_by_calls p.view → KeepsCalls p q
calls_kept p q e = record { calls = ap (λ (x : View). x.calls) e; front = ap (λ (x : View). x.front) e; place_loads = ap (λ (x : View). x.place_loads) e }

-- what a call leaves of a pass is no matter of the hint that it had
module _ (p q : PassState) (seen : HintSeen) where
  pub same_hinted : SamePass (record p { hint = seen }) q → SamePass p q
  same_hinted s = let k = s.keeps in record { keeps = record { table = k.table; id = k.id; own = k.own; number = k.number; next = k.next; joined = k.joined; kept = k.kept; advances = k.advances }; upto = s.upto; published = s.published; torn = s.torn; unentered = s.unentered }

  pub calls_hinted : KeepsCalls (record p { hint = seen }) q → KeepsCalls p q
  calls_hinted k = record { calls = k.calls; front = k.front; place_loads = k.place_loads }

-- the tag of a number
packed_same : (a b : Tag) → packed_tag a ≡ packed_tag b → names_block a ≡ true → names_block b ≡ true → a ≡ b
packed_same a b e named other = same_Some a b (sym (packed_is a named) ∙ ap unpacked_tag e ∙ packed_is b other)

block_of_tag : (relations : List RelEntry) (tag : Tag) → names_block tag ≡ true → has_block relations tag ≡ true → is_block relations (packed_tag tag) ≡ true
unfolding is_block
block_of_tag relations tag named listed = ap (has_named relations) (packed_is tag named) ∙ listed

-- a frame of the tokens with a new one
pub pinned_first : (tag : Tag) (f : ℕ) (t : Tokens) → held_at t f ≡ None → IsPinnedFor tag f (tokens_with f (packed_tag tag) t)
pinned_first tag f t none = let h : HeldFrame = record { frame = f; tag = packed_tag tag; tokens = 1 } in record { held = h; there = with_here t h f refl none; same = refl }

module _ {L G : Type 0} (contents : L → Option Pages) (t : FrameTable L G) where
  freed_none : (ring after : Option RingState) (p q : PassState) (why : VictimError) (missed : View) → VictimRefused contents t p.view missed (choice_state p.queue ring p.census) q.view (choice_state q.queue after q.census) why → LacksFrame contents t p q why
  freed_none ring after p q why missed x = record { missed = missed; before = choice_state p.queue ring p.census; after = choice_state q.queue after q.census; census = refl; refused = x }

  -- why a block was not read
  refused_as : (tag : Tag) (ring after : Option RingState) (p q : PassState) (why : BlockError) → ReadAnswer contents t tag p.tokens p.view q.view (Err why)
      → ReadCalls contents t tag p.tokens (is_some ring) q.hint (choice_state p.queue ring p.census) (choice_state q.queue after q.census) (lane_number tag (lanes_in t)) p.view q.view (Err why) → ReadingRefused contents t tag p q (read_refusal tag why)
  refused_as tag ring after p q (block.NoFrame (victim.NoUnpinned frames)) a x = freed_none ring after p q (victim.NoUnpinned frames) x.0.searched x.2
  refused_as tag ring after p q (block.NoFrame (victim.Flush (flush.WriteFault failed))) a x = freed_none ring after p q (victim.Flush (flush.WriteFault failed)) x.0.searched x.2
  refused_as tag ring after p q (block.NoFrame (victim.Flush (flush.Log log.LogFault))) a x = freed_none ring after p q (victim.Flush (flush.Log log.LogFault)) x.0.searched x.2
  refused_as tag ring after p q (block.NoFrame (victim.Flush (flush.Log (log.LogDown at)))) a x = freed_none ring after p q (victim.Flush (flush.Log (log.LogDown at))) x.0.searched x.2
  refused_as tag ring after p q (block.NoFrame (victim.Flush (flush.Log (log.LogShort lsn end)))) a x = freed_none ring after p q (victim.Flush (flush.Log (log.LogShort lsn end))) x.0.searched x.2
  refused_as tag ring after p q (block.Unread fetch.ReadFault) a x = refl
  refused_as tag ring after p q (block.Unread fetch.Unsound) a x = (refl, a.1)

  pub refused_reads : (tag : Tag) (ring after : Option RingState) (a p q : PassState) (why : BlockError) (answer : ReadError) → a ≡ p → answer ≡ read_refusal tag why → q.tokens ≡ a.tokens → ReadAnswer contents t tag a.tokens a.view q.view (Err why)
      → ReadsAndCounts contents t tag a.tokens (is_some ring) q.hint (choice_state a.queue ring a.census) (choice_state q.queue after q.census) (context_of ring) (lane_number tag (lanes_in t)) a.view q.view a.io q.io (Err why) → ReadsBlock contents t tag ring after p q (Err answer)
  refused_reads tag ring after a p q why answer same is tokens r x =
      let c = choice_state a.queue ring a.census in
      let d = choice_state q.queue after q.census in
      let lane = lane_number tag (lanes_in t) in
      subst (λ (y : PassState). ReadsBlock contents t tag ring after y q (Err answer)) same (subst (λ (y : ReadError). ReadsBlock contents t tag ring after a q (Err y)) (sym is) record {
        answer = (tokens, refused_as tag ring after a q why r x.reads);
        calls = calls_of_refusal contents t tag a.tokens (is_some ring) q.hint c d lane a.view q.view why x.reads;
        counts = counts_as (context_of ring)
            (counts_sum (read_by contents t tag a.tokens (is_some ring) q.hint c d lane a.view q.view (Err why) x.reads) no_counts)
            (counts_sum (reading_by contents t tag a.tokens (is_some ring) q.hint c d lane a.view q.view (Err (read_refusal tag why)) (calls_of_refusal contents t tag a.tokens (is_some ring) q.hint c d lane a.view q.view why x.reads)) no_counts)
            a.view q.view a.io q.io (ap (λ (events : ContextCounts). counts_sum events no_counts) (counts_of_refusal contents t tag a.tokens (is_some ring) q.hint c d lane a.view q.view why x.reads)) x.counts;
      })

  -- and a block that was pinned
  pub first_reads : (tag : Tag) (ring after : Option RingState) (a p q : PassState) (block : PinnedBlock) (frame : ℕ) (hit : Bool) → a ≡ p → fetched_by hit ≡ block.fetched → frame ≡ block.pin.frame → q.tokens ≡ tokens_with block.pin.frame (packed_tag tag) a.tokens → ReadAnswer contents t tag a.tokens a.view q.view (Ok block)
      → ReadsAndCounts contents t tag a.tokens (is_some ring) q.hint (choice_state a.queue ring a.census) (choice_state q.queue after q.census) (context_of ring) (lane_number tag (lanes_in t)) a.view q.view a.io q.io (Ok block) → ReadsBlock contents t tag ring after p q (Ok (record { frame = frame; tag = tag; hit = hit }))
  first_reads tag ring after a p q block frame hit same by is tokens r x =
      let located : LocatesAndCounts contents t tag a.tokens (is_some ring) q.hint (choice_state a.queue ring a.census) (choice_state q.queue after q.census) (context_of ring) (lane_number tag (lanes_in t)) block.pin (Ok (fetched_by hit)) a.view q.view a.io q.io = subst (λ (l : FetchedPage). LocatesAndCounts contents t tag a.tokens (is_some ring) q.hint (choice_state a.queue ring a.census) (choice_state q.queue after q.census) (context_of ring) (lane_number tag (lanes_in t)) block.pin (Ok l) a.view q.view a.io q.io) (sym by) record { located = x.reads; counts = x.counts } in
      subst (λ (y : PassState). ReadsBlock contents t tag ring after y q (Ok (record { frame = frame; tag = tag; hit = hit }))) same (subst (λ (f : ℕ). ReadsBlock contents t tag ring after a q (Ok (record { frame = f; tag = tag; hit = hit }))) (sym is) record {
        answer = record { named = refl; tokens = tokens; new = r.1.new; inside = r.0; seen = r.2; unlocked = r.1.unlocked; sound = r.3 };
        calls = located.located;
        counts = located.counts;
      })

  -- what is told of a read is no matter of the hint that the pass had
  freed_hinted : (p q : PassState) (seen : HintSeen) (why : VictimError) → LacksFrame contents t (record p { hint = seen }) q why → LacksFrame contents t p q why
  freed_hinted p q seen why x = record { missed = x.missed; before = x.before; after = x.after; census = x.census; refused = x.refused }

  refused_hinted : (tag : Tag) (p q : PassState) (seen : HintSeen) (why : ReadError) → ReadingRefused contents t tag (record p { hint = seen }) q why → ReadingRefused contents t tag p q why
  refused_hinted tag p q seen (PastEnd block blocks) r = r
  refused_hinted tag p q seen PinsFull r = r
  refused_hinted tag p q seen (NoUnpinned frames) r = freed_hinted p q seen (victim.NoUnpinned frames) r
  refused_hinted tag p q seen (ReadFault failed) r = r
  refused_hinted tag p q seen (WriteFault failed) r = freed_hinted p q seen (victim.Flush (flush.WriteFault failed)) r
  refused_hinted tag p q seen LogFault r = freed_hinted p q seen (victim.Flush (flush.Log log.LogFault)) r
  refused_hinted tag p q seen (LogDown at) r = freed_hinted p q seen (victim.Flush (flush.Log (log.LogDown at))) r
  refused_hinted tag p q seen (LogShort lsn end) r = freed_hinted p q seen (victim.Flush (flush.Log (log.LogShort lsn end))) r
  refused_hinted tag p q seen (Unsound failed) r = r

  pub reads_hinted : (tag : Tag) (ring after : Option RingState) (p q : PassState) (seen : HintSeen) (r : Result Pinned ReadError) → ReadsBlock contents t tag ring after (record p { hint = seen }) q r → ReadsBlock contents t tag ring after p q r
  reads_hinted tag ring after p q seen (Ok pinned) b = let a = b.answer in record {
    answer = record { named = a.named; tokens = a.tokens; new = a.new; inside = a.inside; seen = a.seen; unlocked = a.unlocked; sound = a.sound };
    calls = b.calls;
    counts = b.counts;
  }
  reads_hinted tag ring after p q seen (Err why) b = record { answer = (b.answer.0, refused_hinted tag p q seen why b.answer.1); calls = b.calls; counts = b.counts }

  pub links_refused : (tag : Tag) (held : Tokens) (v w : View) (why : BlockError) → ReadAnswer contents t tag held v w (Err why) → LinksRest held w
  links_refused tag held v w (block.NoFrame why) a = a
  links_refused tag held v w (block.Unread why) a = a.0

module _ {L G : Type 0} (contents : L → Option Pages) (m : Manager L G) where
  -- one token more, of a block that was sound
  pub belongs_with : (p q : PassState) (tag : Tag) (f : ℕ) → q.table ≡ p.table → own_of q ≡ own_of p → q.view.calls ≡ p.view.calls → q.view.front ≡ p.view.front → p.view.end_seen ≤ q.view.end_seen → q.tokens ≡ tokens_with f (packed_tag tag) p.tokens
      → held_at p.tokens f ≡ None → f < frames_of m.table → names_block tag ≡ true → has_block (relations_of m.table) tag ≡ true → IsNew tag p.tokens → WasSoundAtOpening contents m.table tag → Belongs contents m p → Belongs contents m q
  belongs_with p q tag f table census calls front end tokens none below named listed is_new sound b = record {
    table = table ∙ b.table;
    frames = ap (λ (x : PassOwn). x.frames) census ∙ b.frames;
    queue = list_same m.table m.sweep p.queue q.queue b.queue (ap (λ (x : PassOwn). x.queue) census);
    inside = λ g h e. dite (ℕ_discrete g f)
        (λ d. subst (λ (x : ℕ). x < frames_of m.table) (sym d) below)
        (λ n. b.inside g h (past g h n e));
    blocks = λ g h e. dite (ℕ_discrete g f)
        (λ d. subst (λ (x : ℕ). is_block (relations_of m.table) x ≡ true) (here g h d e) (block_of_tag (relations_of m.table) tag named listed))
        (λ n. b.blocks g h (past g h n e));
    alone = λ g i h k e d same. dite (ℕ_discrete g f)
        (λ (x : g ≡ f). dite (ℕ_discrete i f)
        (λ y. x ∙ sym y)
        (λ n. absurd (is_new i k (past i k n d) (sym same ∙ sym (here g h x e)))))
        (λ n. dite (ℕ_discrete i f)
        (λ y. absurd (is_new g h (past g h n e) (same ∙ sym (here i k y d))))
        (λ o. b.alone g i h k (past g h n e) (past i k o d) same));
    sound = λ g h e other same is. dite (ℕ_discrete g f)
        (λ d. subst (WasSoundAtOpening contents m.table) (packed_same tag other (here g h d e ∙ sym same) named is) sound)
        (λ n. b.sound g h (past g h n e) other same is);
    front = front_kept (base_of m.table) p.view q.view calls front b.front;
    seen = let base = b.seen in omega arith;
  }
    where
      new : HeldFrame
      new = record { frame = f; tag = packed_tag tag; tokens = 1 }

      past : (g : ℕ) (h : HeldFrame) → g ≢ f → held_at q.tokens g ≡ Some h → held_at p.tokens g ≡ Some h
      past g h n e = sym (with_past p.tokens new g n) ∙ ap (λ (t : Tokens). held_at t g) (sym tokens) ∙ e

      here : (g : ℕ) (h : HeldFrame) → g ≡ f → held_at q.tokens g ≡ Some h → packed_tag tag ≡ h.tag
      here g h d e = ap (λ (x : HeldFrame). x.tag) (same_Some new h (sym (with_here p.tokens new f refl none) ∙ ap (λ (t : Tokens). held_at t f) (sym tokens) ∙ ap (held_at q.tokens) (sym d) ∙ e))

  -- a block that a pass has pinned was sound
  pub sound_again : (p : PassState) (tag : Tag) (f : ℕ) → names_block tag ≡ true → IsPinnedFor tag f p.tokens → Belongs contents m p → WasSoundAtOpening contents m.table tag
  sound_again p tag f named i b = b.sound f i.held i.there tag (sym i.same) named

  -- in one frame
  pub frame_again : (p : PassState) (tag : Tag) (f g : ℕ) → IsPinnedFor tag f p.tokens → IsPinnedFor tag g p.tokens → Belongs contents m p → f ≡ g
  frame_again p tag f g x y b = b.alone f g x.held y.held x.there y.there (x.same ∙ sym y.same)

-- a block isn't pinned and new
pub not_both : (tag : Tag) (f : ℕ) (t : Tokens) → IsPinnedFor tag f t → IsNew tag t → ⊥
not_both tag f t pinned new = new f pinned.held pinned.there pinned.same

-- one token more
pub pinned_more : (tag : Tag) (f : ℕ) (t : Tokens) → IsPinnedFor tag f t → IsPinnedFor tag f (tokens_more f t)
pinned_more tag f t pinned = more (held_at t f) (held_at (tokens_more f t) f) refl refl (more_tags t f f)
  where
    more : (o p : Option HeldFrame) → held_at t f ≡ o → held_at (tokens_more f t) f ≡ p → option_map HeldFrame.tag p ≡ option_map HeldFrame.tag o → IsPinnedFor tag f (tokens_more f t)
    more o (Some h) x y same = record { held = h; there = y; same = same_Some h.tag (packed_tag tag) (same ∙ ap (option_map HeldFrame.tag) (sym x ∙ pinned.there) ∙ ap Some pinned.same) }
    more o None x y same = absurd (none-some pinned.held.tag (same ∙ ap (option_map HeldFrame.tag) (sym x ∙ pinned.there)))

pub pinned_read : {L G : Type 0} (contents : L → Option Pages) (t : FrameTable L G) (tag : Tag) (ring after : Option RingState) (p q : PassState) (r : Result Pinned ReadError) → ReadsBlock contents t tag ring after p q r → IfOk r (λ pinned. IsPinnedFor tag pinned.frame q.tokens)
pinned_read contents t tag ring after p q (Ok pinned) b = subst (IsPinnedFor tag pinned.frame) (sym b.answer.tokens) (pinned_first tag pinned.frame p.tokens b.answer.new)
pinned_read contents t tag ring after p q (Err why) b = tt

pub unlocked_read : {L G : Type 0} (contents : L → Option Pages) (t : FrameTable L G) (tag : Tag) (ring after : Option RingState) (p q : PassState) (r : Result Pinned ReadError) → ReadsBlock contents t tag ring after p q r → IfOk r (λ pinned. tokens_of (held_at q.tokens pinned.frame) ≡ 1 → (link q.view pinned.frame).content ≡ Unlocked)
unlocked_read contents t tag ring after p q (Ok pinned) b = λ one. b.answer.unlocked
unlocked_read contents t tag ring after p q (Err why) b = tt
