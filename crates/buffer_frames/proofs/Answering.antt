-- What came of a write of a frame's page, with other steps before it and after it.
use Rattle.std.proofs.Common.{◌≡◌, ℕ, ◌≤◌, Bool, true, false, Option, Some, None, [], ◌∷◌, ◌++◌, ◌||◌, ◌&&◌, Result, Ok, Err, sym, refl, ap, ◌∙◌, subst, arith}
use Rattle.std.specs.Prelude.{IfErr, IfOk, ◌≢◌, not}
use Rattle.std.proofs.lemmas.List.Elements.{All-cons, All-nil}
use Rattle.std.specs.List.{All}
use denote.Enum.Bare.{sameb}
use Rattle.atomic_table.specs.declared.shared.Seat.{Seat}
use Rattle.table_rule.specs.declared.value.Value.{Value}
use Rattle.access_rings.specs.contracts.ring.RingKind.{the_type}
use Rattle.access_rings.specs.declared.ring.RingKind.{RingKind}
use Rattle.access_rings.specs.declared.ring.RingKind.TheVariants.{BulkRead}
use Rattle.access_rings.specs.RingState.{RingState}
use Rattle.block_tag.specs.declared.tag.Tag.{Tag}
use Rattle.block_tag.specs.Names.{packed_tag}
use Rattle.page_layout.specs.Fields.{lsn_of}
use Rattle.segment_store.specs.Contents.{Pages}
use Rattle.state_word.specs.declared.word.IoEnd.TheVariants.{Bad, WriteOk}
use Rattle.state_word.specs.declared.word.StateWord.{StateWord}
use Rattle.state_word.specs.Fields.{fields, io_ended_fields, unlocked_fields}
use Rattle.pin_core.specs.declared.view.DeviceCall.TheVariants.{LaneWrite, LogSync}
use Rattle.pin_core.specs.declared.view.Content.TheVariants.{Unlocked}
use Rattle.pin_core.specs.declared.view.Io.TheVariants.{Output}
use Rattle.pin_core.specs.declared.view.Role.{Role}
use Rattle.pin_core.specs.declared.view.Role.TheVariants.{Absent, HandedOut, Victim}
use Rattle.pin_core.specs.Kinds.{seen_valid_after}
use Rattle.pin_core.specs.declared.view.Link.{Link}
use Rattle.pin_core.specs.declared.view.View.{View}
use Rattle.pin_core.specs.State.{Page, link}
use Rattle.frame_table.specs.declared.table.FrameTable.{FrameTable}
use Rattle.frame_table.specs.Seats.{OnlyRises, SameMarks, SameSelf, ViewMarks, loaded_link}
use Rattle.frame_table.specs.WordSteps.{DidWord, load_flushed}
use Rattle.content_locks.specs.Io.{EndsIo, FindsNothing}
use Rattle.content_locks.specs.Locks.{Copies, LocksAtOnce}
use Rattle.frame_table.specs.FrameSteps.{Did, looking}
use Rattle.page_core.specs.Kinds.{share}
use Rattle.wal_flush.specs.declared.flushes.FlushLog.{FlushLog}
use Rattle.wal_flush.specs.declared.flushes.FlushLog.TheVariants.{LogShort, LogDown, LogFault}
use Rattle.wal_flush.specs.Flushes.{FlushRefused}
use Rattle.buffer_frames.specs.Rests.{LinkRests}
use Rattle.buffer_frames.specs.Tokens.{HeldFrame, IsPinnedFor, Tokens, held_at}
use Rattle.frame_table.proofs.Rising.{rises_none, rises_on}
use Rattle.buffer_frames.proofs.Keeping.{beside_kept}
use Rattle.buffer_frames.specs.declared.flushing.FrameFlushError.{FrameFlushError}
use Rattle.buffer_frames.specs.declared.flushing.FrameFlushError.TheVariants.{Log, WriteFault}
use Rattle.buffer_frames.specs.declared.flushing.FlushedPage.{FlushedPage}
use Rattle.buffer_frames.specs.declared.flushing.FlushedPage.TheVariants.{Written, Clean}
use Rattle.buffer_frames.specs.Flushing.{ClearsJust, CopiesAnd, EndedInError, EndedWritten, FlushAnswer, LogRefuses, LogShows, RejectsVictim, SharesDirty, WriteAnswer, WentToLane, log_syncs, syncs_refused}
use Rattle.buffer_frames.specs.Stages.{HasVictimOf, IsPinned, IsPinnedValid}
use Rattle.buffer_frames.specs.Working.{Calls, EndsWork, IsFlushCall, Made, Works}
use Rattle.buffer_frames.proofs.WorkSteps.{made_after, made_before, made_none, made_on, within_all, within_on}

pub had_output_marked : (v w : View) → SameMarks v w → w.had_output ≡ v.had_output
had_output_marked v w m = ap (λ (x : ViewMarks). x.had_output) m

-- a write that failed
pub ended_in_error : (f : ℕ) (v u w : View) → OnlyRises v u → EndsIo Bad f u w → (link u f).io ≡ Output → u.had_output ≡ true → EndedInError f v w
ended_in_error f v u w rises e right had = let dirty = e.shows.output right in let stored = unlocked_fields (io_ended_fields Bad (fields e.word)) in let notes = ap (λ (x : ViewMarks). x.last_ended) e.marks in record {
  stored = stored;
  ends = within_on (EndsWork Output Bad f stored) v u w w rises (within_all (EndsWork Output Bad f stored) u w record { had = right; ends = e; notes = notes }) (rises_none w);
  last = notes;
  valid = e.shows.dirty dirty;
  dirty = dirty;
  failed = refl;
  output = ap (λ (x : ViewMarks). x.had_output) e.marks ∙ had;
}

both_left : (a b : Bool) → a && b ≡ true → a ≡ true
both_left true b e = refl
both_left false b e = e

-- a write that was done
pub ended_written : (f : ℕ) (v u w : View) → OnlyRises v u → EndsIo WriteOk f u w → (link u f).io ≡ Output → u.had_output ≡ true → EndedWritten f v w
ended_written f v u w rises e right had = let stored = unlocked_fields (io_ended_fields WriteOk (fields e.word)) in let notes = ap (λ (x : ViewMarks). x.last_ended) e.marks in record {
  stored = stored;
  ends = within_on (EndsWork Output WriteOk f stored) v u w w rises (within_all (EndsWork Output WriteOk f stored) u w record { had = right; ends = e; notes = notes }) (rises_none w);
  last = notes;
  valid = e.shows.dirty (e.shows.output right);
  done = refl;
  again = λ dirty. both_left (fields e.word).just_dirtied (fields e.word).dirty dirty;
  output = ap (λ (x : ViewMarks). x.had_output) e.marks ∙ had;
}

-- with other steps before it and after it
pub error_between : (f : ℕ) (v u x w : View) → OnlyRises v u → EndedInError f u x → SameMarks x w → OnlyRises x w → EndedInError f v w
error_between f v u x w before e m after = record {
  stored = e.stored;
  ends = within_on (EndsWork Output Bad f e.stored) v u x w before e.ends after;
  last = ap (λ (y : ViewMarks). y.last_ended) m ∙ e.last;
  valid = e.valid;
  dirty = e.dirty;
  failed = e.failed;
  output = had_output_marked x w m ∙ e.output;
}

pub written_between : (f : ℕ) (v u x w : View) → OnlyRises v u → EndedWritten f u x → SameMarks x w → OnlyRises x w → EndedWritten f v w
written_between f v u x w before e m after = record {
  stored = e.stored;
  ends = within_on (EndsWork Output WriteOk f e.stored) v u x w before e.ends after;
  last = ap (λ (y : ViewMarks). y.last_ended) m ∙ e.last;
  valid = e.valid;
  done = e.done;
  again = e.again;
  output = had_output_marked x w m ∙ e.output;
}

-- so it is with an answer
pub error_after : (f : ℕ) (v u w : View) (r : Result FlushedPage FrameFlushError) → OnlyRises v u → IfErr r (λ _. EndedInError f u w) → IfErr r (λ _. EndedInError f v w)
error_after f v u w (Ok flushed) before e = tt
error_after f v u w (Err why) before e = error_between f v u w w before e refl (rises_none w)

pub written_after : (f : ℕ) (v u w : View) (r : Result FlushedPage FrameFlushError) → OnlyRises v u → IfOk r (λ flushed. flushed ≡ Written → EndedWritten f u w) → IfOk r (λ flushed. flushed ≡ Written → EndedWritten f v w)
written_after f v u w (Ok flushed) before e = λ same. written_between f v u w w before (e same) refl (rises_none w)
written_after f v u w (Err why) before e = tt

-- a write, where no device is called before or after it
wrote_between : (done : Bool) (q tag : ℕ) (page : Page) (v u x w : View) → u.device_calls ≡ v.device_calls → OnlyRises v u → WentToLane done q tag page u x → w.device_calls ≡ x.device_calls → OnlyRises x w → WentToLane done q tag page v w
wrote_between done q tag page v u x w before a e after b = record {
  ready = e.ready;
  since = rises_on v u e.ready a e.since;
  synced = e.synced;
  log_calls = made_before (log_syncs e.synced) v u e.ready before e.log_calls;
  log_first = e.log_first;
  left = e.left;
  whole = e.whole;
  lane_call = made_after (LaneWrite q tag e.left done ∷ []) e.ready x w e.lane_call after;
  until = rises_on e.ready x w e.until b;
}

module _ {L G : Type 0} (contents : L → Option Pages) (t : FrameTable L G) where
  shows_between : (why : FlushLog) (tag : Tag) (page : Page) (v u x w : View) → v.end_seen ≤ u.end_seen → x.end_seen ≤ w.end_seen → w.saw_down ≡ x.saw_down → LogShows contents t why tag page u x → LogShows contents t why tag page v w
  shows_between (LogShort lsn end) tag page v u x w rose up same s = (s.0, s.1, (let a = s.2 in omega arith), (let a = s.3 in omega arith), s.4)
  shows_between (LogDown at) tag page v u x w rose up same s = ((let a = s.0 in omega arith), (let a = s.1 in omega arith), same ∙ s.2)
  shows_between LogFault tag page v u x w rose up same s = same ∙ s

  refuses_between : (why : FlushLog) (tag : Tag) (page : Page) (v u x w : View) → u.device_calls ≡ v.device_calls → OnlyRises v u → LogRefuses contents t why tag page u x → SameSelf x w → OnlyRises x w → LogRefuses contents t why tag page v w
  refuses_between why tag page v u x w before a r self b = record {
    cause = within_on (λ y z. FlushRefused (lsn_of page) y z why) v u x w a r.cause b;
    calls = made_after (syncs_refused why) v x w (made_before (syncs_refused why) v u x before r.calls) (ap (λ (y : View). y.device_calls) self);
    shows = shows_between why tag page v u x w a.end_seen b.end_seen (ap (λ (y : View). y.saw_down) self) r.shows;
  }

  pub write_between : (q : ℕ) (tag : Tag) (page : Page) (v u x w : View) (r : Result Unit FrameFlushError) → u.device_calls ≡ v.device_calls → OnlyRises v u → WriteAnswer contents t q tag page u x r → SameSelf x w → OnlyRises x w → WriteAnswer contents t q tag page v w r
  write_between q tag page v u x w (Ok done) before a e self b = wrote_between true q (packed_tag tag) page v u x w before a e (ap (λ (y : View). y.device_calls) self) b
  write_between q tag page v u x w (Err (Log why)) before a e self b = refuses_between why tag page v u x w before a e self b
  write_between q tag page v u x w (Err (WriteFault failed)) before a e self b = (e.0, wrote_between false q (packed_tag tag) page v u x w before a e.1 (ap (λ (y : View). y.device_calls) self) b)

  pub copies_between : (q : ℕ) (tag : Tag) (f : ℕ) (v u x w : View) (r : Result Unit FrameFlushError) → u.device_calls ≡ v.device_calls → OnlyRises v u → CopiesAnd (λ p a b. WriteAnswer contents t q tag p a b r) f u x → SameSelf x w → OnlyRises x w → CopiesAnd (λ p a b. WriteAnswer contents t q tag p a b r) f v w
  copies_between q tag f v u x w r before a c self b = record {
    page = c.page;
    sound = c.sound;
    cleared = c.cleared;
    clears = within_on (ClearsJust f) v u c.cleared c.cleared a c.clears (rises_none c.cleared);
    copies = within_on (Copies f c.page) c.cleared c.cleared x w (rises_none c.cleared) c.copies b;
    work = write_between q tag c.page v u x w r before a c.work self b;
  }

  -- and of a flush
  pub flush_between : (q : ℕ) (tag : Tag) (f : ℕ) (v u x w : View) (r : Result FlushedPage FrameFlushError) → u.device_calls ≡ v.device_calls → OnlyRises v u → FlushAnswer contents t q tag f u x r → SameSelf x w → OnlyRises x w → FlushAnswer contents t q tag f v w r
  flush_between q tag f v u x w (Ok Written) before a c self b = copies_between q tag f v u x w (Ok tt) before a c self b
  flush_between q tag f v u x w (Ok Clean) before a c self b = record { finds = within_on (FindsNothing false f) v u x w a c.finds b; calls = ap (λ (y : View). y.device_calls) self ∙ c.calls ∙ before }
  flush_between q tag f v u x w (Err why) before a c self b = copies_between q tag f v u x w (Err why) before a c self b

-- A frame of which callers have tokens, and whose content is unlocked
pub pinned_of_rests : (tag : Tag) (f : ℕ) (t : Tokens) (l : Link) → IsPinnedFor tag f t → LinkRests (held_at t f) l → l.content ≡ Unlocked → IsPinnedValid (packed_tag tag) l
pinned_of_rests tag f t l p r unlocked = let there = p.there in let s = subst (λ (o : Option HeldFrame). LinkRests o l) there r in record {
  pinned = record {
    calm = r.calm;
    unlocked = unlocked;
    pinned = λ none. (let no : HandedOut ≡ Absent = sym s.role ∙ none in absurd (cc));
    remembered = s.tag ∙ ap Some p.same;
  };
  seen = s.seen (λ none. (let no : Some p.held ≡ None = none in absurd (cc)));
}

pub rests_of_pinned : (tag : Tag) (f : ℕ) (t : Tokens) (l m : Link) → LinkRests (held_at t f) l → l.tag ≡ Some (packed_tag tag) → IsPinned (packed_tag tag) m → m.role ≡ l.role → m.seen_valid ≡ true → LinkRests (held_at t f) m
rests_of_pinned tag f t l m r tagged p role seen = record { calm = p.calm; role = role ∙ r.role; tag = p.remembered ∙ sym tagged ∙ r.tag; seen = λ some. seen; unlocked = λ none. p.unlocked }

-- the calls of a flush
written_is_flush_call : (q tag : ℕ) (left : Page) (done : Bool) → All IsFlushCall (LaneWrite q tag left done ∷ [])
written_is_flush_call q tag left done = All-cons IsFlushCall (LaneWrite q tag left done) [] tt (All-nil IsFlushCall)

wrote_by_flush_calls : (synced : Bool) (q tag : ℕ) (left : Page) (done : Bool) → All IsFlushCall (log_syncs synced ++ LaneWrite q tag left done ∷ [])
wrote_by_flush_calls true q tag left done = All-cons IsFlushCall (LogSync true) (LaneWrite q tag left done ∷ []) tt (written_is_flush_call q tag left done)
wrote_by_flush_calls false q tag left done = written_is_flush_call q tag left done

refused_by_flush_calls : (why : FlushLog) → All IsFlushCall (syncs_refused why)
refused_by_flush_calls (LogShort lsn end) = All-nil IsFlushCall
refused_by_flush_calls (LogDown at) = All-nil IsFlushCall
refused_by_flush_calls LogFault = All-cons IsFlushCall (LogSync false) [] tt (All-nil IsFlushCall)

pub none_made : (v w : View) → Made [] v w → Calls IsFlushCall v w
none_made v w m = record { made = []; calls = m; each = All-nil IsFlushCall }

wrote_makes_flush_calls : (done : Bool) (q tag : ℕ) (page : Page) (v w : View) → WentToLane done q tag page v w → Calls IsFlushCall v w
wrote_makes_flush_calls done q tag page v w e = record { made = log_syncs e.synced ++ LaneWrite q tag e.left done ∷ []; calls = made_on (log_syncs e.synced) (LaneWrite q tag e.left done ∷ []) v e.ready w e.log_calls e.lane_call; each = wrote_by_flush_calls e.synced q tag e.left done }

module _ {L G : Type 0} (contents : L → Option Pages) (t : FrameTable L G) where
  write_makes_flush_calls : (q : ℕ) (tag : Tag) (page : Page) (v w : View) (r : Result Unit FrameFlushError) → WriteAnswer contents t q tag page v w r → Calls IsFlushCall v w
  write_makes_flush_calls q tag page v w (Ok done) e = wrote_makes_flush_calls true q (packed_tag tag) page v w e
  write_makes_flush_calls q tag page v w (Err (Log why)) e = record { made = syncs_refused why; calls = e.calls; each = refused_by_flush_calls why }
  write_makes_flush_calls q tag page v w (Err (WriteFault failed)) e = wrote_makes_flush_calls false q (packed_tag tag) page v w e.1

  pub flush_makes_flush_calls : (q : ℕ) (tag : Tag) (f : ℕ) (v w : View) (r : Result FlushedPage FrameFlushError) → FlushAnswer contents t q tag f v w r → Calls IsFlushCall v w
  flush_makes_flush_calls q tag f v w (Ok Written) c = write_makes_flush_calls q tag c.page v w (Ok tt) c.work
  flush_makes_flush_calls q tag f v w (Ok Clean) c = none_made v w (made_none v w c.calls)
  flush_makes_flush_calls q tag f v w (Err why) c = write_makes_flush_calls q tag c.page v w (Err why) c.work

-- A victim
pub victim_pinned : (tag f : ℕ) (t : Tokens) (v : View) → HasVictimOf tag f t v → IsPinned tag (link v f)
victim_pinned tag f t v p = let h = p.victim in record { calm = h.calm; unlocked = h.unlocked; pinned = λ none. (let no : Victim ≡ Absent = sym h.role ∙ none in absurd (cc)); remembered = p.remembered }

pub victim_worked : {L G : Type 0} {t : FrameTable L G} {s w : Seat (Value L G) View} (tag f : ℕ) (held : Tokens) → HasVictimOf tag f held s.me.0 → Works f t s w → IsPinned tag (link w.me.0 f) → HasVictimOf tag f held w.me.0
victim_worked {L} {G} {t} {s} {w} tag f held p k r = let h = p.victim in record {
  victim = record { others = beside_kept f held s.me.0 w.me.0 k.work.others h.others; new = h.new; calm = r.calm; unlocked = r.unlocked; role = k.role ∙ h.role };
  remembered = r.remembered;
}

-- it has seen BM_VALID once a load shows it
pub victim_sees : (w : StateWord) (l m : Link) → m ≡ loaded_link w l → l.pending ≡ false → l.role ≡ Victim → w.valid ≡ true → m.seen_valid ≡ true
victim_sees w l m e settled victim valid = ap (λ (x : Link). x.seen_valid) e
    ∙ ap (λ (b : Bool). seen_valid_after b l.role w.valid l.seen_valid) settled
    ∙ ap (λ (r : Role). seen_valid_after false r w.valid l.seen_valid) victim
    ∙ ap (λ (b : Bool). b || l.seen_valid) valid

-- The ring gave it up, with other steps before and after
pub rejects_between : (f : ℕ) (from_ring : Bool) (before after : Option RingState) (v u x w : View) → OnlyRises v u → RejectsVictim f from_ring before after u x → OnlyRises x w → RejectsVictim f from_ring before after v w
rejects_between f from_ring before after v u x w a r b = record {
  came = r.came;
  ring = r.ring;
  was = r.was;
  rejects = r.rejects;
  empty = r.empty;
  page = r.page;
  copies = within_on (Copies f r.page) v u x w a r.copies b;
  flushed = r.flushed;
  loads = within_on (λ y z. DidWord load_flushed y z r.flushed) v u x w a r.loads b;
  unflushed = r.unflushed;
}

-- a ring that was seen to be of another kind
pub not_bulk_read : (kind : RingKind) (ne : Bool) → ne ≡ not (sameb the_type kind BulkRead) → ne ≡ true → kind ≢ BulkRead
not_bulk_read kind ne is other e = let no : true ≡ false = sym other ∙ is ∙ ap (λ (k : RingKind). not (sameb the_type k BulkRead)) e in absurd (cc)

-- its content lock was shared at once
pub shares_dirty : (f word : ℕ) (v u w : View) → Did looking f v u word → (fields word).dirty ≡ true → LocksAtOnce share f u w → SharesDirty f v w
shares_dirty f word v u w looks dirty shares = record { seen = u; sees = record { word = word; looks = looks; dirty = dirty }; shares = shares }

pub same_page : (r : Result FlushedPage FrameFlushError) (p q : FlushedPage) → r ≡ Ok p → r ≡ Ok q → p ≡ q
same_page r p q a b = cc

pub flush_calls_after : (v u w : View) → u.device_calls ≡ v.device_calls → Calls IsFlushCall u w → Calls IsFlushCall v w
flush_calls_after v u w e c = record { made = c.made; calls = made_before c.made v u w e c.calls; each = c.each }
