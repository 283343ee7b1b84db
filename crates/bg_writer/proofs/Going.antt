-- A round goes on.
use Rattle.std.proofs.Common.{◌≡◌, ◌≢◌, ◌⊎◌, ℕ, ◌+◌, ◌<◌, ◌≤◌, ◌%◌, Bool, true, false, List, [], ◌∷◌, ◌++◌, length, Option, Ok, Err, refl, sym, ap, ◌∙◌, subst, length-append, arith}
use Rattle.std.specs.List.{All}
use mathlib.Core.Logic.{dite}
use native.Mathlib.Decide.{ℕ_discrete}
use Rattle.std.proofs.lemmas.List.Elements.{All-cons, All-head, All-nil, All-tail}
use Rattle.segment_store.specs.Contents.{Pages}
use Rattle.pin_core.specs.declared.view.DeviceCall.{DeviceCall}
use Rattle.pin_core.specs.declared.view.DeviceCall.TheVariants.{LaneWrite, LogSync}
use Rattle.pin_core.specs.declared.view.View.{View}
use Rattle.pin_core.specs.State.{Page, link}
use Rattle.frame_table.specs.declared.table.FrameTable.{FrameTable}
use Rattle.frame_table.specs.Seats.{frames_of}
use Rattle.frame_table.specs.WordSteps.{DidWord, load_hand, view_of}
use Rattle.clock_sweep.specs.Keeping.{SamePins}
use Rattle.buffer_frames.specs.Flushing.{WentToLane, log_syncs, met_flushing}
use Rattle.buffer_frames.specs.Working.{IsFlushCall, KeepsNotes, Made}
use Rattle.buffer_frames.proofs.Notes.{notes_on, notes_same}
use Rattle.buffer_frames.proofs.WorkSteps.{made_none, made_on}
use Rattle.buffer_frames.specs.declared.syncing.SyncOnly.TheVariants.{NotRecentlyUsed}
use Rattle.buffer_frames.specs.declared.syncing.Synced.{Synced}
use Rattle.buffer_frames.specs.declared.syncing.Synced.TheVariants.{Skipped, Clean, Written}
use Rattle.buffer_frames.specs.Syncs.{EndsSync, SyncsFrame, WritesPages, pages_written}
use Rattle.buffer_frames.proofs.PagesWritten.{pages_written-append}
use Rattle.backend_pass.specs.declared.errors.FlushError.{FlushError}
use Rattle.backend_pass.specs.declared.manager.Manager.{Manager}
use Rattle.backend_pass.specs.FrameFlushes.{RefusesFrame, frame_answer, frame_refusal}
use Rattle.backend_pass.specs.Managers.{Belongs}
use Rattle.backend_pass.specs.Passes.{KeepsCallers, KeepsMark, PassState, SamePass}
use Rattle.backend_pass.specs.Reading.{NothingFails}
use Rattle.backend_pass.proofs.Seated.{same_on}
use Rattle.backend_pass.proofs.Keeping.{callers_on}
use Rattle.bg_writer.specs.Rounds.{LookedInOrder, Rounds, next, none, pages_written_for, pages_written_for_all}

all_append : (P : DeviceCall → Type 0) (a b : List DeviceCall) → All P a → All P b → All P (a ++ b)
all_append P [] b x y = y
all_append P (c ∷ a) b x y = All-cons P c (a ++ b) (All-head P c a x) (all_append P a b (All-tail P c a x) y)

writes_none : (v w : View) → Made [] v w → WritesPages 0 v w
writes_none v w m = record { made = []; calls = m; each = All-nil IsFlushCall; counted = refl }

pub writes_on : (m n : ℕ) (v u w : View) → WritesPages m v u → WritesPages n u w → WritesPages (m + n) v w
writes_on m n v u w a b = record {
  made = a.made ++ b.made;
  calls = made_on a.made b.made v u w a.calls b.calls;
  each = all_append IsFlushCall a.made b.made a.each b.each;
  counted = (let e = pages_written-append a.made b.made in let x = a.counted in let y = b.counted in omega arith);
}

-- a page went to its lane
went_calls : (synced : Bool) (q tag : ℕ) (left : Page) → All IsFlushCall (log_syncs synced ++ LaneWrite q tag left true ∷ [])
went_calls true q tag left = All-cons IsFlushCall (LogSync true) (LaneWrite q tag left true ∷ []) tt (All-cons IsFlushCall (LaneWrite q tag left true) [] tt (All-nil IsFlushCall))
went_calls false q tag left = All-cons IsFlushCall (LaneWrite q tag left true) [] tt (All-nil IsFlushCall)

went_pages : (synced : Bool) (q tag : ℕ) (left : Page) → pages_written (log_syncs synced ++ LaneWrite q tag left true ∷ []) ≡ 1
went_pages true q tag left = refl
went_pages false q tag left = refl

went_writes : (q tag : ℕ) (page : Page) (v w : View) → WentToLane true q tag page v w → WritesPages 1 v w
went_writes q tag page v w e = record {
  made = log_syncs e.synced ++ LaneWrite q tag e.left true ∷ [];
  calls = made_on (log_syncs e.synced) (LaneWrite q tag e.left true ∷ []) v e.ready w e.log_calls e.lane_call;
  each = went_calls e.synced q tag e.left;
  counted = went_pages e.synced q tag e.left;
}

module _ {L G : Type 0} (contents : L → Option Pages) (t : FrameTable L G) where
  pub sync_writes : (f : ℕ) (v w : View) (synced : Synced) → SyncsFrame contents t NotRecentlyUsed f v w (Ok synced) → WritesPages (pages_written_for synced) v w
  sync_writes f v w Skipped s = writes_none v w s.came.1
  sync_writes f v w Clean s = writes_none v w s.came.2
  sync_writes f v w Written s = let b = s.came.2 in went_writes _ _ b.answer.page v w b.answer.work

pages_snoc : (came : List Synced) (synced : Synced) → pages_written_for_all (came ++ synced ∷ []) ≡ pages_written_for_all came + pages_written_for synced
pages_snoc [] synced = omega arith
pages_snoc (x ∷ came) synced = let e = pages_snoc came synced in omega arith

module _ {L G : Type 0} (contents : L → Option Pages) (m : Manager L G) where
  -- So many frames were looked at, and so many pages written
  pub record Going (p q : PassState) (hand places written : ℕ) : Type 0 where
    pub belongs : Belongs contents m q
    pub same : SamePass p q
    pub callers : KeepsCallers p q
    pub mark : KeepsMark p q
    pub pins : SamePins p.view q.view
    pub notes : (f : ℕ) → KeepsNotes (link p.view f) (link q.view f)
    pub loaded : View
    pub loads : DidWord load_hand p.view loaded hand
    pub came : List Synced
    pub looks : LookedInOrder contents m.table hand p.view loaded came q.view
    pub counted : length came ≡ places
    pub pages : pages_written_for_all came ≡ written
    pub writes : WritesPages written p.view q.view
    pub met : q.view.met ≡ p.view.met

  -- one frame more
  pub record Goes (p q : PassState) (f : ℕ) (synced : Synced) : Type 0 where
    pub belongs : Belongs contents m q
    pub same : SamePass p q
    pub callers : KeepsCallers p q
    pub mark : KeepsMark p q
    pub others : (g : ℕ) → g ≢ f → link q.view g ≡ link p.view g
    pub pins : SamePins p.view q.view
    pub notes : KeepsNotes (link p.view f) (link q.view f)
    pub syncs : SyncsFrame contents m.table NotRecentlyUsed f p.view q.view (Ok synced)
    pub met : q.view.met ≡ p.view.met

  pub notes_held : (p q : PassState) (f : ℕ) → ((g : ℕ) → g ≢ f → link q.view g ≡ link p.view g) → KeepsNotes (link p.view f) (link q.view f) → (g : ℕ) → KeepsNotes (link p.view g) (link q.view g)
  notes_held p q f others here g = dite (ℕ_discrete g f) (λ e. subst (λ (x : ℕ). KeepsNotes (link p.view x) (link q.view x)) (sym e) here) (λ n. notes_same (link p.view g) (link q.view g) (others g n))

  pub going_on : (p q r : PassState) (hand places written f : ℕ) (synced : Synced) → Going p q hand places written → f ≡ (hand + places) % frames_of m.table → Goes q r f synced → Going p r hand (places + 1) (written + pages_written_for synced)
  going_on p q r hand places written f synced a at s = record {
    belongs = s.belongs;
    same = same_on p q r a.same s.same;
    callers = callers_on p q r a.callers s.callers;
    mark = s.mark ∙ a.mark;
    pins = λ g. s.pins g ∙ a.pins g;
    notes = λ g. notes_on (link p.view g) (link q.view g) (link r.view g) (a.notes g) (notes_held q r f s.others s.notes g);
    loaded = a.loaded;
    loads = a.loads;
    came = a.came ++ synced ∷ [];
    looks = next a.came synced a.looks a.pins (subst (λ (x : ℕ). SyncsFrame contents m.table NotRecentlyUsed x q.view r.view (Ok synced)) (at ∙ ap (λ (n : ℕ). (hand + n) % frames_of m.table) (sym a.counted)) s.syncs);
    counted = (let e = length-append a.came (synced ∷ []) in let n = a.counted in omega arith);
    pages = (let e = pages_snoc a.came synced in let n = a.pages in omega arith);
    writes = writes_on written (pages_written_for synced) p.view q.view r.view a.writes (sync_writes contents m.table f q.view r.view synced s.syncs);
    met = s.met ∙ a.met;
  }

  pub ends_going : (p q : PassState) (hand places written : ℕ) → Going p q hand places written → places ≤ frames_of m.table → written ≤ 100 → (places ≡ frames_of m.table) ⊎ (written ≡ 100) → Rounds contents m.table p.view q.view (Ok record { looked = places; written = written })
  ends_going p q hand places written a inside few done = record {
    hand = hand;
    loaded = a.loaded;
    loads = a.loads;
    ends = record { came = a.came; looks = a.looks; looked = a.counted; written = a.pages; within = (inside, few); done = done };
  }

  -- a frame was refused
  pub stops_going : (p q r : PassState) (hand places written f : ℕ) (why : FlushError) → Going p q hand places written → f ≡ (hand + places) % frames_of m.table → places < frames_of m.table → written < 100 → SyncsFrame contents m.table NotRecentlyUsed f q.view r.view (frame_answer (Err why)) → EndsSync f q.view r.view (frame_answer (Err why)) → Rounds contents m.table p.view r.view (Err why)
  stops_going p q r hand places written f why a at inside few s ended = let is = at ∙ ap (λ (n : ℕ). (hand + n) % frames_of m.table) (sym a.counted) in record {
    hand = hand;
    loaded = a.loaded;
    loads = a.loads;
    ends = record {
      came = a.came;
      before = q.view;
      since = a.same.keeps.advances;
      looks = a.looks;
      left = ((let n = a.counted in omega arith), (let n = a.pages in omega arith));
      pins = a.pins;
      refused = subst (λ (x : ℕ). SyncsFrame contents m.table NotRecentlyUsed x q.view r.view (Err (frame_refusal why))) is s;
      ended = subst (λ (x : ℕ). EndsSync x q.view r.view (Err (frame_refusal why))) is ended;
    };
  }

  pub refuses_going : (p q r : PassState) (hand places written f : ℕ) (why : FlushError) → Going p q hand places written → SyncsFrame contents m.table NotRecentlyUsed f q.view r.view (frame_answer (Err why)) → EndsSync f q.view r.view (frame_answer (Err why)) → r.view.met ≡ met_flushing {A = Synced} (frame_answer (Err why)) q.view.met → RefusesFrame contents m.table p r why
  refuses_going p q r hand places written f why a s ended met = record {
    before = q.view;
    since = a.same.keeps.advances;
    frame = f;
    refused = s.came.2;
    ended = ended;
    met = met ∙ ap (λ x. met_flushing {A = Synced} (Err (frame_refusal why)) x) a.met;
  }

  -- where nothing fails from the start of the round, nothing fails at a frame
  pub nothing_fails : (p q r : PassState) (hand places written : ℕ) → Going p q hand places written → NothingFails contents m.table p r → NothingFails contents m.table q r
  nothing_fails p q r hand places written a n = record {
    within = λ other named listed page sound at. (let low = n.within other named listed page sound at in let more = a.same.keeps.advances.end_seen in omega arith);
    devices = record { up = n.devices.up; met = n.devices.met ∙ sym a.met };
  }

  -- the round begins
  pub going_begun : (p q : PassState) (hand : ℕ) → Belongs contents m q → KeepsCallers p q → q ≡ record p { view = view_of load_hand hand p.view } → DidWord load_hand p.view q.view hand → Going p q hand 0 0
  going_begun p q hand belongs callers new did = record {
    belongs = belongs;
    same = record { keeps = callers.keeps; upto = ap (λ (x : PassState). x.view.upto) new; published = ap (λ (x : PassState). x.view.published) new; torn = ap (λ (x : PassState). x.view.torn) new; unentered = ap (λ (x : PassState). x.view.unentered) new };
    callers = callers;
    mark = ap (λ (x : PassState). x.view.dirtied_or_synced) new;
    pins = λ g. ap (λ (x : PassState). (link x.view g).role) new;
    notes = λ g. notes_same (link p.view g) (link q.view g) (ap (λ (x : PassState). link x.view g) new);
    loaded = q.view;
    loads = did;
    came = [];
    looks = none;
    counted = refl;
    pages = refl;
    writes = writes_none p.view q.view (made_none p.view q.view (ap (λ (x : PassState). x.view.device_calls) new));
    met = ap (λ (x : PassState). x.view.met) new;
  }

pub pages_few : (synced : Synced) → pages_written_for synced ≤ 1
pages_few Skipped = omega arith
pages_few Clean = omega arith
pages_few Written = omega arith
