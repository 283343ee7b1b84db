-- A worker rewrites a block.
use Rattle.std.proofs.Common.{◌≡◌, ◌<◌, ◌≤◌, ℕ, Bool, true, false, List, [], ◌∷◌, ◌++◌, Option, Some, Result, Ok, Err, refl, sym, ap, ◌∙◌, subst, arith, append_assoc, inl, inr}
use Rattle.std.specs.Prelude.{IfOk}
use Rattle.std.proofs.lemmas.List.{append-nil}
use Rattle.std.proofs.lemmas.Result.{IfErr-weaker}
use mathlib.Core.Logic.{dite}
use native.Mathlib.Decide.{ℕ_discrete}
use Rattle.block_tag.specs.declared.tag.Tag.{Tag}
use Rattle.block_tag.specs.Names.{packed_tag, tag_of_parts}
use Rattle.page_layout.specs.declared.outcomes.PageRewrite.{PageRewrite}
use Rattle.page_layout.specs.declared.outcomes.PageRewrite.TheVariants.{Invalid, New, Used}
use Rattle.page_layout.specs.declared.rewrite.Rewrite.{Rewrite}
use Rattle.page_layout.specs.declared.rewrite.Rewrite.TheVariants.{Same, Changed, Skipped}
use Rattle.page_layout.specs.Fields.{with_lsn}
use Rattle.page_layout.specs.Outcomes.{is_changed_outcome, page_rewrite_of}
use Rattle.page_layout.specs.Rewritten.{rewrite_of, rewritten_page}
use Rattle.page_layout.specs.Soundness.{is_new_page, is_sound_page}
use Rattle.segment_store.specs.Contents.{Pages}
use Rattle.pin_core.specs.declared.view.Call.{Call}
use Rattle.pin_core.specs.declared.view.Call.TheVariants.{Read, Write}
use Rattle.pin_core.specs.declared.view.Content.TheVariants as content
use Rattle.pin_core.specs.declared.view.FailedCalls.{FailedCalls}
use Rattle.pin_core.specs.declared.view.Link.{Link}
use Rattle.pin_core.specs.declared.view.View.{View}
use Rattle.pin_core.specs.State.{Page, link}
use Rattle.history_core.specs.Log.{image_record}
use Rattle.frame_table.specs.Seats.{relations_of}
use Rattle.frame_table.proofs.Rising.{rises_on}
use Rattle.buffer_frames.specs.Tokens.{IsPinnedFor, Tokens, no_tokens, tokens_less}
use Rattle.wal_flush.specs.declared.inserts.InsertError.{InsertError}
use Rattle.wal_flush.specs.declared.inserts.InsertError.TheVariants.{LogFull, LogDown, LogFault}
use Rattle.wal_flush.specs.Inserts.{AddsTorn}
use Rattle.cleanup_lock.specs.Cleanup.{GrantsCleanup}
use Rattle.buffer_frames.specs.PageReads.{ReadsPage}
use Rattle.buffer_frames.specs.Puts.{DidPut, PutRefused, RefusalShows, met_put}
use Rattle.backend_pass.specs.declared.errors.ReadError.{ReadError}
use Rattle.backend_pass.specs.declared.manager.Manager.{Manager}
use Rattle.backend_pass.specs.declared.pinned.Pinned.{Pinned}
use Rattle.backend_pass.specs.declared.tokens.Exclusive.{Exclusive}
use Rattle.backend_pass.specs.Locks.{ChangesLock, HasLock, IsTagged}
use Rattle.backend_pass.specs.Managers.{Belongs}
use Rattle.backend_pass.specs.Passes.{KeepsCalls, KeepsLocks, KeepsMark, PassState, SameButTorn, SameButUnentered, SamePass}
use Rattle.backend_pass.specs.Reading.{met_read_refused}
use Rattle.backend_pass.proofs.Seated.{but_torn, but_torn_unentered, same_on, torn_on}
use Rattle.backend_pass.proofs.Keeping.{calls_on}
use Rattle.page_jobs.specs.declared.ending.JobError.{JobError}
use Rattle.page_jobs.specs.Parts.{blocks_in}
use Rattle.page_jobs.specs.Reads.{FindsUnsound, PinsOne, RefusesBlock, Stays, fault_of_refusal}
use Rattle.page_jobs.specs.Rewrites.{IfRead, IsEnded, Outcome, unsound, kept, refused, changed, outcome_block, outcome_calls, calls_for, rule_of, result_of}
use Rattle.page_jobs.specs.Rewriting.{FollowsRule, GoesOn, HoldsUntil, KeepsOtherLocks, LastReads, LocksOne, PutFails, RewritesBlock, RewritesBlocks, RewritesHeld, RewritesLocked, UnderCleanup, fault_of_put}
use Rattle.page_jobs.proofs.Staying.{stays_on}
use Rattle.page_jobs.proofs.TornBlocks.{torn_from, torn_none, torn_refused, torn_until}

pub told_new : (page : Page) → is_sound_page page ≡ true → is_new_page page ≡ true → page_rewrite_of page ≡ New
unfolding page_rewrite_of
told_new page sound new = rw (sound, new) refl

pub told_used : (page : Page) → is_sound_page page ≡ true → is_new_page page ≡ false → page_rewrite_of page ≡ Used (rewrite_of page)
unfolding page_rewrite_of
told_used page sound used = rw (sound, used) refl

pub unchanged : (what : Rewrite) → ((dead : ℕ) → what ≡ Changed dead → ⊥) → is_changed_outcome (Used what) ≡ false
unchanged Same other = refl
unchanged Skipped other = refl
unchanged (Changed dead) other = absurd (other dead refl)

pub not_skipped : (b : Bool) (what : Rewrite) (dead : ℕ) → (b ≡ true → what ≡ Skipped) → what ≡ Changed dead → b ≡ false
not_skipped true what dead f e = let x = f refl in absurd (cc)
not_skipped false what dead f e = refl

pub on_ok_value : {A E : Type 0} (P Q : A → Type 0) (r : Result A E) → ((a : A) → P a → Q a) → IfOk r P → IfOk r Q
on_ok_value P Q (Ok a) f p = f a p
on_ok_value P Q (Err e) f p = tt

-- what a refusal shows of the log is seen later too
shows_later : (why : InsertError) (v w : View) → w.saw_down ≡ v.saw_down → v.end_seen ≤ w.end_seen → RefusalShows why v → RefusalShows why w
shows_later (LogFull end) v w down later s = (s.0, (let x = s.1 in omega arith))
shows_later (LogDown at) v w down later s = (down ∙ s.0, (let x = s.1 in omega arith))
shows_later LogFault v w down later s = down ∙ s

-- the last of calls is the last of these and calls before them
pub reads_since : (number n : ℕ) (tag : Tag) (page : Page) (before made here after : List Call) → n ≡ number → here ≡ before ++ made → LastReads n tag page here after → LastReads number tag page before after
reads_since number n tag page before made here after same more r =
    let last : ℕ → List Call = λ k. r.others ++ Read k (packed_tag tag) page r.place ∷ [] in
    record {
      others = made ++ r.others;
      place = r.place;
      calls = r.calls
          ∙ ap (λ (k : ℕ). here ++ last k) same
          ∙ ap (λ (l : List Call). l ++ last number) more
          ∙ append_assoc before made (last number)
          ∙ ap (λ (l : List Call). before ++ l) (sym (append_assoc made r.others (Read number (packed_tag tag) page r.place ∷ [])));
    }

for_read : {P : Type 0} (o : Outcome) → P → IfRead o P
for_read (unsound b) x = tt
for_read (kept b i p n) x = x
for_read (refused b i p n) x = x
for_read (changed b i p n m) x = x

module _ {L G : Type 0} (contents : L → Option Pages) (m : Manager L G) where
  -- The pass read and put nothing, and met no fault
  pub record Quiet (p q : PassState) : Type 0 where
    pub belongs : Belongs contents m q
    pub same : SamePass p q
    pub calls : KeepsCalls p q
    pub met : q.view.met ≡ p.view.met

  -- The pass gave up a lock and a pin: it read and put nothing, met no fault, and may have noted
  -- the block as unentered
  pub record LeavesBlock (p q : PassState) : Type 0 where
    pub belongs : Belongs contents m q
    pub same : SameButUnentered p q
    pub calls : KeepsCalls p q
    pub met : q.view.met ≡ p.view.met

  pub quiet_on : (p q r : PassState) → Quiet p q → Quiet q r → Quiet p r
  quiet_on p q r a b = record { belongs = b.belongs; same = same_on p q r a.same b.same; calls = calls_on p q r a.calls b.calls; met = b.met ∙ a.met }

  pub quiet_pins : (tag : Tag) (p q : PassState) (pinned : Pinned) → PinsOne contents m tag p q pinned → Quiet p q
  quiet_pins tag p q pinned one = record { belongs = one.stays.belongs; same = one.stays.same; calls = one.calls; met = one.met }

  -- a try that was refused the cleanup lock: the pin is given up
  pub tried : (tag : Tag) (pinned back : Pinned) (p q r s : PassState) → Stays contents m p q → PinsOne contents m tag q r pinned → Quiet r s → KeepsMark r s → KeepsLocks r s → s.tokens ≡ r.tokens → back ≡ pinned
      → (t : PassState) → Quiet s t → KeepsMark s t → KeepsLocks s t → t.tokens ≡ tokens_less back.frame s.tokens → Stays contents m p t × (t.tokens ≡ no_tokens)
  tried tag pinned back p q r s st one rs mark locks stayed same t st' mark' locks' less =
      let rt = quiet_on r s t rs st' in (
        stays_on contents m p q t st (stays_on contents m q r t one.stays record {
          belongs = st'.belongs;
          same = rt.same;
          mark = mark' ∙ mark;
          locks = λ f. locks' f ∙ locks f;
          front = let e = rt.calls.front in omega arith;
        }),
        less ∙ ap (tokens_less back.frame) stayed ∙ ap (λ (b : Pinned). tokens_less b.frame r.tokens) same ∙ one.last,
      )

  -- what was tried before a refusal
  pub refuses_after : (tag : Tag) (p q r : PassState) (why : ReadError) → Stays contents m p q → KeepsCalls p q → q.view.met ≡ p.view.met → RefusesBlock contents m tag q r why → RefusesBlock contents m tag p r why
  refuses_after tag p q r why s k met x = record {
    stays = stays_on contents m p q r s x.stays;
    spent = x.spent;
    calls = x.calls ∙ k.calls;
    once = x.once;
    before = x.before;
    since = rises_on p.view q.view x.before.view s.same.keeps.advances x.since;
    refused = x.refused;
    last = x.last;
    met = x.met ∙ ap (λ (n : FailedCalls). met_read_refused why n) met;
  }

  pub locks_one : (tag : Tag) (pinned : Pinned) (e : Exclusive) (p q r s : PassState) → Stays contents m p q → KeepsCalls p q → q.view.met ≡ p.view.met → PinsOne contents m tag q r pinned → Quiet r s → KeepsMark r s → s.tokens ≡ r.tokens → e.pinned ≡ pinned
      → ChangesLock content.Exclusive pinned.frame r s → GrantsCleanup r.view.number pinned.frame r.view s.view → IsTagged pinned.tag pinned.frame s → LocksOne contents m tag p s e
  locks_one tag pinned e p q r s st k met one rs mark stayed same lock granted tagged =
      let pr = same_on p q r st.same one.stays.same in
      let qs = quiet_on q r s (quiet_pins tag q r pinned one) rs in
      let frame : e.pinned.frame ≡ pinned.frame = ap (λ (x : Pinned). x.frame) same in
      record {
        goes = record { belongs = rs.belongs; same = but_torn p s (same_on p q s st.same qs.same); front = let a = k.front in let b = qs.calls.front in omega arith };
        mark = mark ∙ one.stays.mark ∙ st.mark;
        torn = (same_on p q s st.same qs.same).torn;
        calls = calls_on p q s k qs.calls;
        met = qs.met ∙ met;
        tag_is = ap (λ (x : Pinned). x.tag) same ∙ one.tag_is;
        token = subst (λ (t : Tokens). IsPinnedFor tag e.pinned.frame t) (sym stayed) (subst (λ (x : Pinned). IsPinnedFor tag x.frame r.tokens) (sym same) one.token);
        last = ap (tokens_less e.pinned.frame) stayed ∙ ap (λ (x : Pinned). tokens_less x.frame r.tokens) same ∙ one.last;
        locked = subst (λ (x : Pinned). HasLock content.Exclusive x.frame s) (sym same) lock.here;
        tagged = subst (λ (f : ℕ). IsTagged tag f s) (sym frame) (subst (λ (t : Tag). IsTagged t pinned.frame s) one.tag_is tagged);
        asked = r.view;
        since = pr.keeps.advances;
        granted = subst (λ (n : ℕ). GrantsCleanup n e.pinned.frame r.view s.view) pr.keeps.number (subst (λ (f : ℕ). GrantsCleanup r.view.number f r.view s.view) (sym frame) granted);
        unlocked = subst (λ (f : ℕ). HasLock content.Unlocked f p) (sym frame) (sym (one.stays.locks pinned.frame ∙ st.locks pinned.frame) ∙ one.unlocked);
        others = λ g other. ap (λ (l : Link). l.content) (lock.others g (λ is. other (is ∙ sym frame))) ∙ one.stays.locks g ∙ st.locks g;
      }

  goes_read : (tag : Tag) (page : Page) (place : ℕ) (p q : PassState) → Belongs contents m q → SamePass p q → ReadsPage contents m.table tag page place p.view q.view → GoesOn contents m p q
  goes_read tag page place p q b same reads = record { belongs = b; same = but_torn p q same; front = let x = reads.front in let y = reads.later in omega arith }

  -- a page that the rule doesn't change
  pub kept_page : (tag : Tag) (page : Page) (place : ℕ) (what : PageRewrite) (p q : PassState) → Belongs contents m q → SamePass p q → KeepsMark p q → KeepsLocks p q → q.tokens ≡ p.tokens → q.view.met ≡ p.view.met → ReadsPage contents m.table tag page place p.view q.view
      → page_rewrite_of page ≡ what → is_changed_outcome what ≡ false → RewritesLocked contents m tag p q (Ok what)
  kept_page tag page place what p q b same mark locks tokens met reads told unchanged = record {
    goes = goes_read tag page place p q b same reads;
    tokens = tokens;
    locks = locks;
    page = record {
      outcome = kept tag.block p.view.number page place;
      block = refl;
      calls = reads.calls;
      follows = (refl, reads.sound, ap is_changed_outcome told ∙ unchanged);
      mark = λ unput. mark;
      torn = torn_none (rule_of tag.rel.0 tag.fork) (kept tag.block p.view.number page place ∷ []) p.view.torn q.view.torn same.torn;
      done = (sym told, refl, met);
      cause = tt;
    };
  }

  -- one that it changes, and that was put
  pub changed_page : (tag : Tag) (frame : ℕ) (page after : Page) (place lsn : ℕ) (what : PageRewrite) (p q r : PassState) → Belongs contents m r → SamePass p q → SameButTorn q r → KeepsLocks p q → KeepsLocks q r → q.tokens ≡ p.tokens → r.tokens ≡ q.tokens
      → q.view.met ≡ p.view.met → r.view.met ≡ q.view.met → ReadsPage contents m.table tag page place p.view q.view → DidPut (relations_of m.table) frame tag after lsn q.view r.view → AddsTorn (packed_tag tag) after (Ok lsn) q.view.torn r.view.torn → after ≡ rewritten_page page
      → page_rewrite_of page ≡ what → is_changed_outcome what ≡ true → RewritesLocked contents m tag p r (Ok what)
  changed_page tag frame page after place lsn what p q r b same same' locks locks' tokens tokens' met met' reads did torn image told is_changed = record {
    goes = record { belongs = b; same = torn_on p q r (but_torn p q same) same'; front = let x = reads.front in let y = reads.later in let z = did.front in let w = did.later in omega arith };
    tokens = tokens' ∙ tokens;
    locks = λ f. locks' f ∙ locks f;
    page = record {
      outcome = changed tag.block p.view.number page place lsn;
      block = refl;
      calls = did.calls
          ∙ ap (λ (n : ℕ). q.view.calls ++ Write n (packed_tag tag) (with_lsn lsn after) lsn image_record ∷ []) same.keeps.number
          ∙ ap (λ (x : Page). q.view.calls ++ Write p.view.number (packed_tag tag) (with_lsn lsn x) lsn image_record ∷ []) image
          ∙ ap (λ (l : List Call). l ++ Write p.view.number (packed_tag tag) (with_lsn lsn (rewritten_page page)) lsn image_record ∷ []) reads.calls
          ∙ append_assoc p.view.calls (Read p.view.number (packed_tag tag) page place ∷ []) (Write p.view.number (packed_tag tag) (with_lsn lsn (rewritten_page page)) lsn image_record ∷ []);
      follows = (refl, reads.sound, ap is_changed_outcome told ∙ is_changed, (let x = reads.front in let w = did.later in omega arith));
      torn = torn_none (rule_of tag.rel.0 tag.fork) (changed tag.block p.view.number page place lsn ∷ []) p.view.torn r.view.torn (torn ∙ same.torn);
      mark = λ unput. absurd (let no : false ≡ true = unput in cc);
      done = (sym told, refl, met' ∙ met);
      cause = tt;
    };
  }

  -- one that it changes, whose put was refused
  pub refused_page : (tag : Tag) (frame : ℕ) (page after : Page) (place : ℕ) (what : PageRewrite) (why : InsertError) (p q r : PassState) → Belongs contents m r → SamePass p q → SameButTorn q r → KeepsLocks p q → KeepsLocks q r → q.tokens ≡ p.tokens → r.tokens ≡ q.tokens
      → q.view.met ≡ p.view.met → r.view.met ≡ met_put (Err why) q.view.met → ReadsPage contents m.table tag page place p.view q.view → KeepsCalls q r → PutRefused (relations_of m.table) frame tag after why q.view r.view → AddsTorn (packed_tag tag) after (Err why) q.view.torn r.view.torn → after ≡ rewritten_page page
      → page_rewrite_of page ≡ what → is_changed_outcome what ≡ true → RewritesLocked contents m tag p r (Err why)
  refused_page tag frame page after place what why p q r b same same' locks locks' tokens tokens' met met' reads keeps unput torn image told is_changed = record {
    goes = record { belongs = b; same = torn_on p q r (but_torn p q same) same'; front = let x = reads.front in let y = reads.later in let z = keeps.front in omega arith };
    tokens = tokens' ∙ tokens;
    locks = λ f. locks' f ∙ locks f;
    page = record {
      outcome = refused tag.block p.view.number page place;
      block = refl;
      calls = keeps.calls ∙ reads.calls;
      follows = (refl, reads.sound, ap is_changed_outcome told ∙ is_changed);
      torn = torn_from (rule_of tag.rel.0 tag.fork) (refused tag.block p.view.number page place ∷ []) p.view.torn q.view.torn r.view.torn same.torn (torn_refused tag p.view.number place page after why q.view.torn r.view.torn image torn);
      mark = λ unput. absurd (let no : false ≡ true = unput in cc);
      done = tt;
      cause = record {
        frame = frame;
        page = after;
        before = q;
        after = r;
        since = same.keeps.advances;
        refuses = unput;
        until = refl;
        met = met' ∙ ap (λ (n : FailedCalls). met_put (Err why) n) met;
        shows = unput.shows;
        was = page;
        changes = ap is_changed_outcome told ∙ is_changed;
        reads = record { others = []; place = place; calls = keeps.calls ∙ reads.calls };
      };
    };
  }

  fails_later : (tag : Tag) (p q r : PassState) (why : InsertError) → LeavesBlock q r → r.view.saw_down ≡ q.view.saw_down → r.view.device_calls ≡ q.view.device_calls → PutFails contents m tag p q why → PutFails contents m tag p r why
  fails_later tag p q r why k down devices f = record {
    frame = f.frame;
    page = f.page;
    before = f.before;
    after = f.after;
    since = f.since;
    refuses = f.refuses;
    until = devices ∙ f.until;
    met = k.met ∙ f.met;
    shows = shows_later why q.view r.view down k.same.keeps.advances.end_seen f.shows;
    was = f.was;
    changes = f.changes;
    reads = record { others = f.reads.others; place = f.reads.place; calls = k.calls.calls ∙ f.reads.calls };
  }

  -- and then the lock of this frame and the pin were given up
  pub held : (tag : Tag) (frame : ℕ) (p q r : PassState) (answer : Result PageRewrite InsertError) → RewritesLocked contents m tag p q answer → HasLock content.Exclusive frame p → LeavesBlock q r → KeepsMark q r → HasLock content.Unlocked frame r → KeepsOtherLocks frame q r → r.tokens ≡ no_tokens → r.view.saw_down ≡ q.view.saw_down → r.view.device_calls ≡ q.view.device_calls → RewritesHeld contents m tag frame p r answer
  held tag frame p q r answer x locked k mark unlocked others spent down devices = record {
    goes = record { belongs = k.belongs; same = torn_on p q r x.goes.same (but_torn_unentered q r k.same); front = let a = x.goes.front in let b = k.calls.front in omega arith };
    tokens = spent;
    unlocked = unlocked;
    others = λ g other. others g other ∙ x.locks g;
    until = record { done = q.view; since = x.goes.same.keeps.advances; calls_are = x.page.calls; held = x.locks frame ∙ locked; until = k.same.keeps.advances };
    page = record {
      outcome = x.page.outcome;
      block = x.page.block;
      calls = k.calls.calls ∙ x.page.calls;
      follows = x.page.follows;
      mark = λ unput. mark ∙ x.page.mark unput;
      torn = torn_until (rule_of tag.rel.0 tag.fork) (x.page.outcome ∷ []) p.view.torn q.view.torn r.view.torn k.same.torn x.page.torn;
      done = on_ok_value (λ what. (what ≡ result_of x.page.outcome) × IsEnded x.page.outcome × (q.view.met ≡ p.view.met)) (λ what. (what ≡ result_of x.page.outcome) × IsEnded x.page.outcome × (r.view.met ≡ p.view.met)) answer (λ what d. (d.0, d.1, k.met ∙ d.2)) x.page.done;
      cause = IfErr-weaker answer (PutFails contents m tag p q) (PutFails contents m tag p r) (λ why f. fails_later tag p q r why k down devices f) x.page.cause;
    };
  }

  -- the block was locked first
  module _ (tag : Tag) (p q r : PassState) (e : Exclusive) (one : LocksOne contents m tag p q e) where
    calls_after : (o : Outcome) → r.view.calls ≡ q.view.calls ++ outcome_calls (rule_of tag.rel.0 tag.fork) o → r.view.calls ≡ p.view.calls ++ calls_for (rule_of tag.rel.0 tag.fork) (o ∷ [])
    calls_after o calls = calls ∙ ap (λ (l : List Call). l ++ outcome_calls (rule_of tag.rel.0 tag.fork) o) one.calls.calls ∙ ap (λ (l : List Call). p.view.calls ++ l) (sym (append-nil (outcome_calls (rule_of tag.rel.0 tag.fork) o)))

    locks_after : HasLock content.Unlocked e.pinned.frame r → KeepsOtherLocks e.pinned.frame q r → KeepsLocks p r
    locks_after unlocked others g = dite (ℕ_discrete g e.pinned.frame)
        (λ is. ap (λ (f : ℕ). (link r.view f).content) is ∙ unlocked ∙ sym one.unlocked ∙ ap (λ (f : ℕ). (link p.view f).content) (sym is))
        (λ other. others g other ∙ one.others g other)

    under : (answer : Result PageRewrite InsertError) (x : RewritesHeld contents m tag e.pinned.frame q r answer)
        → UnderCleanup p.view.number ((rule_of tag.rel.0 tag.fork).tag (outcome_block x.page.outcome)) p.view.calls (p.view.calls ++ outcome_calls (rule_of tag.rel.0 tag.fork) x.page.outcome) p.view r.view
    under answer x = record {
      frame = e.pinned.frame;
      asked = one.asked;
      granted = q.view;
      since = one.since;
      grants = one.granted;
      tagged = one.tagged ∙ ap (λ (b : ℕ). Some (packed_tag (tag_of_parts tag.rel.0 tag.fork b))) (sym x.page.block);
      calls_are = one.calls.calls;
      until = subst (λ (l : List Call). HoldsUntil e.pinned.frame (l ++ outcome_calls (rule_of tag.rel.0 tag.fork) x.page.outcome) q.view r.view) one.calls.calls x.until;
    }

    blocks_after : (answer : Result PageRewrite InsertError) (x : RewritesHeld contents m tag e.pinned.frame q r answer) → RewritesBlocks contents m tag.rel.0 tag.fork (tag.block ∷ []) (x.page.outcome ∷ []) p r
    blocks_after answer x = record {
      goes = record { belongs = x.goes.belongs; same = torn_on p q r one.goes.same x.goes.same; front = let a = one.goes.front in let b = x.goes.front in omega arith };
      spent = x.tokens;
      locks = locks_after x.unlocked x.others;
      mark = λ unput. x.page.mark unput.0 ∙ one.mark;
      torn = torn_from (rule_of tag.rel.0 tag.fork) (x.page.outcome ∷ []) p.view.torn q.view.torn r.view.torn one.torn x.page.torn;
      calls = calls_after x.page.outcome x.page.calls;
      order = (x.page.block, tt);
      follow = (subst (λ (n : ℕ). FollowsRule contents m tag.rel.0 tag.fork n x.page.outcome) one.goes.same.keeps.number x.page.follows, tt);
      stopped = (inr refl, tt);
      locked = (for_read x.page.outcome (under answer x), tt);
    }

    pub block_rewritten : (what : PageRewrite) → RewritesHeld contents m tag e.pinned.frame q r (Ok what) → RewritesBlock contents m tag.rel.0 tag.fork tag.block p r (Ok what)
    block_rewritten what x = record {
      outcomes = x.page.outcome ∷ [];
      course = blocks_after (Ok what) x;
      done = (refl, ((x.page.done.0, x.page.done.1), tt), x.page.done.2 ∙ one.met);
      cause = tt;
    }

    pub block_unput : (why : InsertError) → tag.block < blocks_in m tag.rel.0 tag.fork → RewritesHeld contents m tag e.pinned.frame q r (Err why) → RewritesBlock contents m tag.rel.0 tag.fork tag.block p r (Err (fault_of_put why))
    block_unput why inside x = record {
      outcomes = x.page.outcome ∷ [];
      course = blocks_after (Err why) x;
      done = tt;
      cause = let f = x.page.cause in inr (inr record {
        block = tag.block;
        inside = inside;
        why = why;
        fault = refl;
        fails = record {
          frame = f.frame;
          page = f.page;
          before = f.before;
          after = f.after;
          since = rises_on p.view q.view f.before.view one.goes.same.keeps.advances f.since;
          refuses = f.refuses;
          until = f.until;
          met = f.met ∙ ap (λ (n : FailedCalls). met_put (Err why) n) one.met;
          shows = f.shows;
          was = f.was;
          changes = f.changes;
          reads = reads_since p.view.number q.view.number tag f.was p.view.calls [] q.view.calls r.view.calls one.goes.same.keeps.number (one.calls.calls ∙ sym (append-nil p.view.calls)) f.reads;
        };
      });
    }

  -- the read was refused
  pub block_unread : (tag : Tag) (p q : PassState) (why : ReadError) (e : JobError) → tag.block < blocks_in m tag.rel.0 tag.fork → RefusesBlock contents m tag p q why → fault_of_refusal why ≡ Some e → RewritesBlock contents m tag.rel.0 tag.fork tag.block p q (Err e)
  block_unread tag p q why e inside x fault = record {
    outcomes = [];
    course = record {
      goes = record { belongs = x.stays.belongs; same = but_torn p q x.stays.same; front = x.stays.front };
      spent = x.spent;
      locks = x.stays.locks;
      mark = λ unput. x.stays.mark;
      torn = torn_none (rule_of tag.rel.0 tag.fork) [] p.view.torn q.view.torn x.stays.same.torn;
      calls = x.calls ∙ sym (append-nil p.view.calls);
      order = tt;
      follow = tt;
      stopped = tt;
      locked = tt;
    };
    done = tt;
    cause = inr (inl record { block = tag.block; inside = inside; why = why; fault = fault; before = x.before; since = x.since; refused = x.refused; last = x.last; met = x.met });
  }

  -- the page isn't sound
  pub block_unsound : (tag : Tag) (p q : PassState) → FindsUnsound contents m tag p q → RewritesBlock contents m tag.rel.0 tag.fork tag.block p q (Ok Invalid)
  block_unsound tag p q x = record {
    outcomes = unsound tag.block ∷ [];
    course = record {
      goes = record { belongs = x.stays.belongs; same = but_torn p q x.stays.same; front = x.stays.front };
      spent = x.spent;
      locks = x.stays.locks;
      mark = λ unput. x.stays.mark;
      torn = torn_none (rule_of tag.rel.0 tag.fork) (unsound tag.block ∷ []) p.view.torn q.view.torn x.stays.same.torn;
      calls = x.calls ∙ sym (append-nil p.view.calls);
      order = (refl, tt);
      follow = (x.unsound, tt);
      stopped = (inr refl, tt);
      locked = (tt, tt);
    };
    done = (refl, ((refl, refl), tt), x.met);
    cause = tt;
  }
