-- What a call does of the background writer or of a checkpoint, and that the pass rests after it.
use Rattle.std.proofs.Common.{◌≡◌, ℕ, ◌<◌, ◌≤◌, true, false, length, List, [], Option, Result, ap, sym}
use Rattle.std.proofs.Common.{Bool, subst}
use Rattle.std.specs.Prelude.{IfErr, IfNone, IfOk, IfSome, MatchResult}
use Rattle.std.specs.Result.{is_ok}
use Rattle.access_rings.specs.declared.ring.RingKind.{RingKind}
use Rattle.atomic_table.specs.declared.badge.Badge.{Badge}
use Rattle.atomic_table.specs.declared.shared.Seat.{Seat}
use Rattle.block_tag.specs.declared.catalogue.RelEntry.{RelEntry}
use Rattle.block_tag.specs.declared.tag.Tag.{Tag}
use Rattle.block_tag.specs.Names.{lane_number, names_block, packed_tag}
use Rattle.byte_devices.specs.declared.device.Failed.{Failed}
use Rattle.state_word.specs.Fields.{fields}
use Rattle.segment_store.specs.Contents.{Pages}
use Rattle.pin_core.specs.declared.view.Content.TheVariants.{Unlocked, Exclusive}
use Rattle.pin_core.specs.declared.view.View.{View}
use Rattle.pin_core.specs.State.{Page, lane_hold, link}
use Rattle.io_counts.specs.declared.contexts.ByContext.{ByContext}
use Rattle.page_core.specs.Kinds.{need_checkpoint}
use Rattle.history_core.specs.Lanes.{swept_by}
use Rattle.history_core.specs.Steps.{unmarked}
use Rattle.table_rule.specs.declared.value.Value.{Value}
use Rattle.frame_table.specs.FrameSteps.{Did}
use Rattle.frame_table.specs.Kinds.{pages}
use Rattle.frame_table.specs.Latches.{work_of}
use Rattle.frame_table.specs.declared.table.FrameTable.{FrameTable}
use Rattle.frame_table.specs.Seats.{IsWordOf, OnlyRises, SameMarks, SameSeat, Touches, frames_of, lanes_in}
use Rattle.frame_table.specs.WordSteps.{DidWord, begin_checkpoint, load_hand, view_of}
use Rattle.wal_flush.specs.declared.flushes.FlushLog.{FlushLog}
use Rattle.wal_flush.specs.declared.flushes.FlushedBy.{FlushedBy}
use Rattle.wal_flush.specs.Flushes.{FlushRefused, FlushSeesEnd, Flushed, as_looked, flushed_view}
use Rattle.wal_flush.specs.Flushes.{unflushed_view}
use Rattle.wal_flush.specs.Latched.{KeepsWork}
use Rattle.wal_flush.specs.declared.inserts.InsertError.{InsertError}
use Rattle.wal_flush.specs.Inserts.{AddsTorn}
use Rattle.buffer_frames.specs.declared.flushing.FlushedPage.{FlushedPage}
use Rattle.buffer_frames.specs.declared.flushing.FlushedPage.TheVariants.{Written}
use Rattle.buffer_frames.specs.declared.flushing.FrameFlushError.{FrameFlushError}
use Rattle.buffer_frames.specs.Flushing.{EndedInError, EndedWritten, FlushAnswer, met_flushing}
use Rattle.buffer_frames.specs.declared.inspecting.Seen.{Seen}
use Rattle.buffer_frames.specs.Inspections.{Inspects}
use Rattle.buffer_frames.specs.Puts.{PutAnswer, PutsAt, met_put, put_calls}
use Rattle.buffer_frames.specs.declared.hinting.HintSeen.{HintSeen}
use Rattle.buffer_frames.specs.declared.reading.BlockError.{BlockError}
use Rattle.buffer_frames.specs.declared.reading.PinnedBlock.{PinnedBlock}
use Rattle.buffer_frames.specs.Hinting.{TakesTurns}
use Rattle.buffer_frames.specs.Reads.{ReadAnswer, ReadNotes, ReadsAndCounts, met_read_block}
use Rattle.buffer_frames.specs.VictimChoices.{ChoiceState}
use Rattle.buffer_frames.specs.Rests.{HasNoDevice, HasNoLatch, LinkRests, LinksRest, OnlyTokens}
use Rattle.buffer_frames.specs.Tokens.{Tokens, held_at}
use Rattle.buffer_frames.proofs.Keeping.{devices_same, latches_same, links_same}
use Rattle.buffer_frames.specs.Working.{KeepsNotes, Made, Within, WorksAt}
use Rattle.buffer_frames.specs.Syncs.{LeavesLane, NotesBlock, SeesNotDirty, synced_work}
use Rattle.backend_pass.specs.Closing.{but_published}
use Rattle.backend_pass.specs.Passes.{view_in}
use Rattle.backend_pass.specs.Seats.{IsSeatOf}
use Rattle.backend_pass.proofs.Seated.{Worked, worked}

-- The clock's hand was loaded
pub record LoadsHand (v w : View) (hand : ℕ) : Type 0 where
  pub view : w ≡ view_of load_hand hand v
  pub did : DidWord load_hand v w hand

-- A checkpoint began where the log ended at `upto`
pub record BeginsCheckpoint (v w : View) (upto : ℕ) : Type 0 where
  pub view : w ≡ view_of begin_checkpoint upto v
  pub unmarked : (f : ℕ) → link w f ≡ unmarked (link v f)
  pub seen : (v.end_seen ≤ upto) × (upto ≤ w.end_seen)
  pub did : DidWord begin_checkpoint v w upto

-- The checkpoint of the view visited the frame f, which was noted for it where it was dirty
pub record NeedsOne (f : ℕ) (v w : View) (r : Option Tag) : Type 0 where
  pub touches : Touches f v w
  pub marks : SameMarks v w
  pub lock : (link w f).content ≡ (link v f).content
  pub visited : (link w f).visited ≡ true
  pub clean : IfNone r (SeesNotDirty f v w)
  pub not_left_to_write : IfNone r
      ((link v f).left_to_write ≡ false → (link w f).left_to_write ≡ false)
  pub needed : IfSome r (λ _. Within
      (λ a b. (word : ℕ) × Did (pages need_checkpoint) f a b word) v w)
  pub noted : IfSome r (λ tag. NotesBlock f tag v w)
  pub named : IfSome r (λ tag. names_block tag ≡ true)

-- The frame f was looked at under its header
pub record InspectsOne (f : ℕ) (seen : Seen) (v w : View) : Type 0 where
  pub touches : Touches f v w
  pub marks : SameMarks v w
  pub lock : (link w f).content ≡ (link v f).content
  pub inspects : Inspects f seen v w
  pub word : IsWordOf (link v f) (fields seen.word)

-- The log was flushed up to `lsn`, or this is why not
pub record FlushesLog (lsn : ℕ) (v w : View) (r : Result Unit FlushLog) : Type 0 where
  pub work : KeepsWork v w
  pub rises : OnlyRises v w
  pub flushed : MatchResult r (λ _. lsn ≤ w.flushed) (λ _. w.flushed < lsn)
  pub view : IfOk r (λ _. (by : FlushedBy) × (w ≡ as_looked (flushed_view by v) w))
  pub left : IfErr r (λ why. w ≡ as_looked (unflushed_view why v) w)
  pub did : IfOk r (λ _. Flushed lsn v w)
  pub seen : IfErr r (λ why. FlushSeesEnd why v w)
  pub cause : IfErr r (FlushRefused lsn v w)

-- The lane was synced, one of so many, of a pool of so many frames
pub record SyncsLane (frames lanes lane : ℕ) (v w : View) (r : Result Unit Failed) : Type 0 where
  pub rises : OnlyRises v w
  pub view : work_of w ≡ synced_work lane (is_ok r) v
  pub swept : IfOk r (λ _. swept_by v ≤ (lane_hold w lane).swept)
  pub wide : length v.links ≡ frames
  pub left : LeavesLane lanes lane w

-- The page of the frame f, which the tag names, went to its lane, or was clean, or this is why not
pub record FlushesPage {L G : Type 0} (contents : L → Option Pages) (t : FrameTable L G) (tag : Tag)
    (f : ℕ) (v w : View) (r : Result FlushedPage FrameFlushError) : Type 0 where
  pub works : WorksAt f v w
  pub notes : KeepsNotes (link v f) (link w f)
  pub unlocked : (link w f).content ≡ Unlocked
  pub answer : FlushAnswer contents t (lane_number tag (lanes_in t)) tag f v w r
  pub met : w.met ≡ met_flushing r v.met
  pub ended : IfErr r (λ _. EndedInError f v w)
  pub written : IfOk r (λ flushed. flushed ≡ Written → EndedWritten f v w)

-- The page was put into the frame f, which the tag names, or this is why not
pub record PutsOne (relations : List RelEntry) (f : ℕ) (tag : Tag) (page : Page) (v w : View)
    (r : Result ℕ InsertError) : Type 0 where
  pub puts : PutsAt f v w
  pub right : (link w f).content ≡ Exclusive
  pub marked : w.dirtied_or_synced ≡ true
  pub answer : PutAnswer relations f tag page v w r
  pub calls : Made (put_calls r) v w
  pub met : w.met ≡ met_put r v.met
  pub torn : AddsTorn (packed_tag tag) page r v.torn w.torn
  pub entered : IfOk r (λ _. (link w f).entered ≡ true)

-- The block of the tag was looked up, by a backend that has these tokens: this was seen of its hint,
-- the choice's state was c, and is d, and the counts became io' in this context
pub record LooksUp {L G : Type 0} (contents : L → Option Pages) (t : FrameTable L G) (tag : Tag)
    (held : Tokens) (ring : Bool) (seen : HintSeen) (c d : ChoiceState) (context : Option RingKind)
    (io io' : ByContext) (v w : View) (r : Result PinnedBlock BlockError) : Type 0 where
  pub answer : ReadAnswer contents t tag held v w r
  pub met : w.met ≡ met_read_block r v.met
  pub calls : ReadsAndCounts contents t tag held ring seen c d context
      (lane_number tag (lanes_in t)) v w io io' r
  pub turns : TakesTurns seen v.turns w.turns
  pub hints : ReadNotes (frames_of t) tag seen v.hints w.hints r

-- all of a view but what it added to counters, and what it loaded
abbrev pub but_counters : View → View
but_counters v = record (but_published v) { loads = [] }

-- a checkpoint that begins leaves the frames at rest
pub rests_unmarked : (t : Tokens) (v w : View) → ((f : ℕ) → link w f ≡ unmarked (link v f))
    → LinksRest t v → LinksRest t w
rests_unmarked t v w e rests f = let r = rests f in let c = r.calm in
    subst (LinkRests (held_at t f)) (sym (e f)) record {
      calm = record {
        no_header = c.no_header;
        assigned = c.assigned;
        no_copy = c.no_copy;
        applied = c.applied;
        no_io = c.no_io;
        page_home = c.page_home;
        no_wait = c.no_wait;
      };
      role = r.role;
      tag = r.tag;
      seen = r.seen;
      unlocked = r.unlocked;
    }

module _ {L G : Type 0} (held : Tokens) (b d : Badge View) (s t : Seat (Value L G) View)
    (taken : IsSeatOf b s) (same : SameSeat s t) (back : IsSeatOf d t)
    (rests : OnlyTokens held (view_in b.views)) where
  -- the pass rested as it took the seat
  rested : OnlyTokens held s.me.0
  rested = subst (OnlyTokens held) taken.view rests

  latched : t.me.0.partitions ≡ s.me.0.partitions → HasNoLatch t.me.0
  latched e = latches_same s.me.0 t.me.0 e rested.latches

  pub hand_loaded : (hand : ℕ) → LoadsHand s.me.0 t.me.0 hand
      → Worked (λ v w. LoadsHand v w hand) held b d
  hand_loaded hand e = worked b d s t taken same back (λ v w. LoadsHand v w hand) held record {
    quiet = devices_same s.me.0 t.me.0 (ap (λ (x : View). x.emptied) e.view)
        (ap (λ (x : View). x.lanes) e.view) (ap (λ (x : View). x.sizes) e.view)
        (ap (λ (x : View). x.log) e.view) rested.quiet;
    links = links_same held s.me.0 t.me.0 (ap (λ (x : View). x.links) e.view) rested.links;
    latches = latched (ap (λ (x : View). x.partitions) e.view);
  } e

  pub checkpoint_begun : (upto : ℕ) → BeginsCheckpoint s.me.0 t.me.0 upto
      → Worked (λ v w. BeginsCheckpoint v w upto) held b d
  checkpoint_begun upto e = worked b d s t taken same back
      (λ v w. BeginsCheckpoint v w upto) held record {
        quiet = devices_same s.me.0 t.me.0 (ap (λ (x : View). x.emptied) e.view)
            (ap (λ (x : View). x.lanes) e.view) (ap (λ (x : View). x.sizes) e.view)
            (ap (λ (x : View). x.log) e.view) rested.quiet;
        links = rests_unmarked held s.me.0 t.me.0 e.unmarked rested.links;
        latches = latched (ap (λ (x : View). x.partitions) e.view);
      } e

  pub log_flushed : (lsn : ℕ) (r : Result Unit FlushLog) → FlushesLog lsn s.me.0 t.me.0 r
      → Worked (λ v w. FlushesLog lsn v w r) held b d
  log_flushed lsn r e = worked b d s t taken same back (λ v w. FlushesLog lsn v w r) held record {
    quiet = devices_same s.me.0 t.me.0 (ap (λ (x : View). x.emptied) e.work)
        (ap (λ (x : View). x.lanes) e.work) (ap (λ (x : View). x.sizes) e.work)
        (ap (λ (x : View). x.log) e.work) rested.quiet;
    links = links_same held s.me.0 t.me.0 (ap (λ (x : View). x.links) e.work) rested.links;
    latches = latched (ap (λ (x : View). x.partitions) e.work);
  } e

  pub lane_synced : (frames lanes lane : ℕ) (r : Result Unit Failed) → HasNoDevice t.me.0
      → t.me.0.partitions ≡ s.me.0.partitions → SyncsLane frames lanes lane s.me.0 t.me.0 r
      → Worked (λ v w. SyncsLane frames lanes lane v w r) held b d
  lane_synced frames lanes lane r quiet partitions e = worked b d s t taken same back
      (λ v w. SyncsLane frames lanes lane v w r) held record {
        quiet = quiet;
        links = links_same held s.me.0 t.me.0 (ap (λ (x : View). x.links) e.view) rested.links;
        latches = latched partitions;
      } e

  -- a call that adds to counters, or loads words
  pub counters_worked : (D : View → View → Type 0) → but_counters t.me.0 ≡ but_counters s.me.0
      → D s.me.0 t.me.0 → Worked D held b d
  counters_worked D e did = worked b d s t taken same back D held record {
    quiet = devices_same s.me.0 t.me.0 (ap (λ (x : View). x.emptied) e)
        (ap (λ (x : View). x.lanes) e) (ap (λ (x : View). x.sizes) e)
        (ap (λ (x : View). x.log) e) rested.quiet;
    links = links_same held s.me.0 t.me.0 (ap (λ (x : View). x.links) e) rested.links;
    latches = latched (ap (λ (x : View). x.partitions) e);
  } did

  -- a call at one frame, which has the devices and links at rest
  pub frame_worked : (D : View → View → Type 0) → HasNoDevice t.me.0 → LinksRest held t.me.0
      → t.me.0.partitions ≡ s.me.0.partitions → D s.me.0 t.me.0 → Worked D held b d
  frame_worked D quiet links partitions e =
      worked b d s t taken same back D held record {
        quiet = quiet;
        links = links;
        latches = latched partitions;
      } e
