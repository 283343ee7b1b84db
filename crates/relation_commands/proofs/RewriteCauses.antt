-- Why a rewrite ended before its end, by what its passes met, and what the devices show of that as the manager is closed.
use Rattle.std.proofs.Common.{◌≡◌, ◌≢◌, ℕ, zero, suc, ◌+◌, ◌-◌, ◌<◌, ◌≤◌, ◌^◌, ◌⊎◌, true, List, [], ◌∷◌, length, nat_lt, Option, Some, Ok, Err, refl, sym, ap, ◌∙◌, subst, inl, inr, ⊎_elim, arith}
use Rattle.std.specs.Prelude.{sum_by}
use Rattle.std.proofs.lemmas.Option.{same_Some}
use Rattle.std.proofs.lemmas.Bool.{ltb-true}
use mathlib.Core.Logic.{dite}
use mathlib.Core.Option.{some, some-injective, some-ne-none}
use native.Mathlib.Decide.{ℕ_discrete}
use lib.ListN.{get_elem?}
use Rattle.block_tag.specs.declared.tag.Fork.{Fork}
use Rattle.block_tag.specs.declared.tag.Tag.{Tag}
use Rattle.block_tag.specs.Catalogue.{blocks_at}
use Rattle.block_tag.specs.Names.{lane_number, names_block, tag_of_parts}
use Rattle.page_layout.specs.declared.outcomes.RewriteTotals.{RewriteTotals}
use Rattle.page_layout.specs.Fields.{lsn_of}
use Rattle.page_layout.specs.Soundness.{is_sound_page}
use Rattle.segment_store.specs.Contents.{Pages}
use Rattle.pin_core.specs.declared.view.FailedCalls.{FailedCalls}
use Rattle.pin_core.specs.declared.view.View.{View}
use Rattle.pin_core.specs.State.{Page, sum_of_met}
use Rattle.history_core.specs.Device.{HasRisen}
use Rattle.table_rule.specs.Blocks.{has_block}
use Rattle.table_rule.specs.Shows.{Devices}
use Rattle.frame_table.specs.Seats.{OnlyRises, base_of, lanes_in, opened_of, relations_of}
use Rattle.wal_flush.specs.declared.flushes.FlushLog.{FlushLog}
use Rattle.wal_flush.specs.declared.flushes.FlushLog.TheVariants as log
use Rattle.wal_flush.specs.declared.inserts.InsertError.{InsertError}
use Rattle.wal_flush.specs.declared.inserts.InsertError.TheVariants as put
use Rattle.buffer_frames.specs.declared.flushing.FrameFlushError.TheVariants as frames
use Rattle.buffer_frames.specs.Flushing.{FlushAnswer}
use Rattle.buffer_frames.specs.Puts.{RefusalShows}
use Rattle.backend_pass.specs.declared.errors.FlushError.{FlushError}
use Rattle.backend_pass.specs.declared.errors.FlushError.TheVariants as flush
use Rattle.backend_pass.specs.declared.errors.ReadError.{ReadError}
use Rattle.backend_pass.specs.declared.errors.ReadError.TheVariants as read
use Rattle.backend_pass.specs.declared.manager.Manager.{Manager}
use Rattle.backend_pass.specs.Closing.{ClosesAll, met_by_passes}
use Rattle.backend_pass.specs.FrameFlushes.{RefusesFrame}
use Rattle.backend_pass.specs.Passes.{PassState}
use Rattle.backend_pass.specs.Reading.{ReadingRefused, met_read_refused}
use Rattle.checkpointer.specs.declared.ending.CheckpointError.{CheckpointError}
use Rattle.checkpointer.specs.Refusals.{Stops, StopsAtFrame, StopsAtLog, at_frame, at_lane, at_log, met_stopping, refusal_of_flush, refusal_of_log}
use Rattle.page_jobs.specs.declared.ending.JobError.{JobError}
use Rattle.page_jobs.specs.declared.ending.JobError.TheVariants as job
use Rattle.page_jobs.specs.Beside.{fault_of_flush}
use Rattle.page_jobs.specs.Jobs.{workers_in}
use Rattle.page_jobs.specs.Reads.{fault_of_refusal}
use Rattle.page_jobs.specs.RewriteJobs.{EndsRewrite, FailsFirst}
use Rattle.page_jobs.specs.Rewriting.{fault_of_put}
use Rattle.page_jobs.proofs.Counted.{no_read_failed, no_write_counted, some_read_failed, some_write_failed}
use Rattle.table_rule.proofs.Opens.{there_at}
use Rattle.backend_pass.proofs.Standing.{taken_from}
use Rattle.relation_commands.specs.declared.limits.PositionLimit.TheVariants.{OfPages, OfPage, OfLog}
use Rattle.relation_commands.specs.declared.rewriting.RewriteError.{RewriteError}
use Rattle.relation_commands.specs.declared.rewriting.RewriteError.TheVariants.{ReadFault, WriteFault, LogFault, OutFault, Memory, OverLimit}
use Rattle.relation_commands.specs.declared.starting.RelationFork.{RelationFork}
use Rattle.relation_commands.specs.Checkpointing.{EndsEarly, IsPastEnd, LastMeets, PassMeets}
use Rattle.relation_commands.specs.Rewriting.{ArePages, HasPositionsLeft, HasRewriteCause, IsRewriteCause, checkpoint_error, rewrite_error}
use Rattle.relation_commands.specs.Starting.{IsStarted, log_of}
use Rattle.relation_commands.proofs.Counting.{risen_rose}
use Rattle.relation_commands.proofs.RewriteLeaves.{page_within, was_there}

module _ {L G : Type 0} (contents : L → Option Pages) (m : Manager L G) where
  -- a page of a frame was not written since the log ended before its position
  past_end : (q f : ℕ) (tag : Tag) (u v w : View) (lsn end : ℕ) → names_block tag ≡ true → has_block (relations_of m.table) tag ≡ true → u.end_seen ≤ v.end_seen
      → FlushAnswer contents m.table q tag f v w (Err (frames.Log (log.LogShort lsn end))) → IsPastEnd contents m.table u lsn end
  past_end q f tag u v w lsn end named listed since x = record {
    tag = tag;
    named = named;
    listed = listed;
    page = x.page;
    sound = x.sound;
    was = x.work.shows.4;
    position = x.work.shows.0;
    past = x.work.shows.1;
    seen = let seen = x.work.shows.2 in omega arith;
  }

  -- the read of a block was refused
  read_meets : (tag : Tag) (p b q : PassState) (why : ReadError) (e : JobError) → OnlyRises p.view b.view → fault_of_refusal why ≡ Some e → ReadingRefused contents m.table tag b q why → q.view.met ≡ met_read_refused why p.view.met
      → PassMeets contents m.table p.view q.view (rewrite_error e)
  read_meets tag p b q (read.PastEnd block blocks) e since is x met = absurd (cc)
  read_meets tag p b q read.PinsFull e since is x met = absurd (cc)
  read_meets tag p b q (read.NoUnpinned count) e since is x met = absurd (cc)
  read_meets tag p b q (read.ReadFault failed) e since is x met = subst (λ (y : JobError). PassMeets contents m.table p.view q.view (rewrite_error y)) (same_Some (job.ReadFault failed) e is) (let n = ap (λ (k : FailedCalls). k.reads) met in omega arith)
  read_meets tag p b q (read.WriteFault failed) e since is x met = subst (λ (y : JobError). PassMeets contents m.table p.view q.view (rewrite_error y)) (same_Some (job.WriteFault failed) e is) (let n = ap (λ (k : FailedCalls). k.writes) met in omega arith)
  read_meets tag p b q read.LogFault e since is x met = subst (λ (y : JobError). PassMeets contents m.table p.view q.view (rewrite_error y)) (same_Some job.LogFault e is) (ap (λ (v : View). v.saw_down) x.refused.until ∙ x.refused.tried.answers.1.flush.work.shows)
  read_meets tag p b q (read.LogDown at) e since is x met = subst (λ (y : JobError). PassMeets contents m.table p.view q.view (rewrite_error y)) (same_Some (job.LogDown at) e is) (ap (λ (v : View). v.saw_down) x.refused.until ∙ x.refused.tried.answers.1.flush.work.shows.2)
  read_meets tag p b q (read.LogShort lsn end) e since is x met = subst (λ (y : JobError). PassMeets contents m.table p.view q.view (rewrite_error y)) (same_Some (job.LogShort lsn end) e is)
      (let tried = x.refused.tried in
      let flushes = tried.answers.1 in
      past_end (lane_number tried.tag (lanes_in m.table)) x.refused.frame tried.tag p.view flushes.kept x.refused.after lsn end tried.named tried.listed
      (let a = since.end_seen in let b = x.refused.since.end_seen in let c = tried.since.end_seen in let d = flushes.since.end_seen in omega arith)
      flushes.flush)
  read_meets tag p b q (read.Unsound failed) e since is x met = absurd (cc)

  -- a put was refused
  put_meets : (why : InsertError) (e : JobError) (v w : View) → fault_of_put why ≡ e → RefusalShows why w → PassMeets contents m.table v w (rewrite_error e)
  put_meets (put.LogFull end) e v w is shows = subst (λ (y : JobError). PassMeets contents m.table v w (rewrite_error y)) is shows
  put_meets (put.LogDown at) e v w is shows = subst (λ (y : JobError). PassMeets contents m.table v w (rewrite_error y)) is shows.0
  put_meets put.LogFault e v w is shows = subst (λ (y : JobError). PassMeets contents m.table v w (rewrite_error y)) is shows

  -- the work of the last pass was
  frame_meets : (p q : PassState) (why : FlushError) (e : JobError) → fault_of_flush why ≡ e → RefusesFrame contents m.table p q why → PassMeets contents m.table p.view q.view (rewrite_error e)
  frame_meets p q (flush.WriteFault tag) e is x = subst (λ (y : JobError). PassMeets contents m.table p.view q.view (rewrite_error y)) is (let n = ap (λ (k : FailedCalls). k.writes) x.met in omega arith)
  frame_meets p q flush.LogFault e is x = subst (λ (y : JobError). PassMeets contents m.table p.view q.view (rewrite_error y)) is x.refused.answer.work.shows
  frame_meets p q (flush.LogDown at) e is x = subst (λ (y : JobError). PassMeets contents m.table p.view q.view (rewrite_error y)) is x.refused.answer.work.shows.2
  frame_meets p q (flush.LogShort lsn end) e is x = subst (λ (y : JobError). PassMeets contents m.table p.view q.view (rewrite_error y)) is
      (past_end (lane_number x.refused.tag (lanes_in m.table)) x.frame x.refused.tag p.view x.before q.view lsn end x.refused.named x.refused.listed x.since.end_seen x.refused.answer)

  -- and a checkpoint stopped
  stop_at_frame : (upto : ℕ) (v w : View) (cause : FlushError) (why : CheckpointError) → why ≡ refusal_of_flush cause → StopsAtFrame contents m upto v w cause → w.met ≡ met_stopping why v.met → PassMeets contents m.table v w (checkpoint_error why)
  stop_at_frame upto v w (flush.WriteFault tag) why is x met = subst (λ (y : CheckpointError). PassMeets contents m.table v w (checkpoint_error y)) (sym is) (let n = ap (λ (k : FailedCalls). k.writes) (met ∙ ap (λ (y : CheckpointError). met_stopping y v.met) is) in omega arith)
  stop_at_frame upto v w flush.LogFault why is x met = subst (λ (y : CheckpointError). PassMeets contents m.table v w (checkpoint_error y)) (sym is) x.refused.came.2.answer.work.shows
  stop_at_frame upto v w (flush.LogDown at) why is x met = subst (λ (y : CheckpointError). PassMeets contents m.table v w (checkpoint_error y)) (sym is) x.refused.came.2.answer.work.shows.2
  stop_at_frame upto v w (flush.LogShort lsn end) why is x met = subst (λ (y : CheckpointError). PassMeets contents m.table v w (checkpoint_error y)) (sym is)
      (past_end (lane_number x.refused.came.2.tag (lanes_in m.table)) x.frame x.refused.came.2.tag v x.before w lsn end x.refused.came.2.named x.refused.came.2.listed x.since.end_seen x.refused.came.2.answer)

  stop_at_log : (upto : ℕ) (v w : View) (cause : FlushLog) (why : CheckpointError) → why ≡ refusal_of_log cause → StopsAtLog contents m upto v w cause → PassMeets contents m.table v w (checkpoint_error why)
  stop_at_log upto v w log.LogFault why is x = subst (λ (y : CheckpointError). PassMeets contents m.table v w (checkpoint_error y)) (sym is) x.shows
  stop_at_log upto v w (log.LogDown at) why is x = subst (λ (y : CheckpointError). PassMeets contents m.table v w (checkpoint_error y)) (sym is) x.shows
  stop_at_log upto v w (log.LogShort lsn end) why is x = absurd x.cause

  pub stop_meets : (upto : ℕ) (v w : View) (why : CheckpointError) → Stops contents m upto v w why → w.met ≡ met_stopping why v.met → PassMeets contents m.table v w (checkpoint_error why)
  stop_meets upto v w why (at_frame cause is x) met = stop_at_frame upto v w cause why is x met
  stop_meets upto v w why (at_log cause is x) met = stop_at_log upto v w cause why is x
  stop_meets upto v w why (at_lane lane is low x) met = subst (λ (y : CheckpointError). PassMeets contents m.table v w (checkpoint_error y)) (sym is) (let n = ap (λ (k : FailedCalls). k.writes) (met ∙ ap (λ (y : CheckpointError). met_stopping y v.met) is) in omega arith)

  -- so it is since an earlier view
  pub meets_since : (u v w : View) (e : RewriteError) → u.end_seen ≤ v.end_seen → PassMeets contents m.table v w e → PassMeets contents m.table u w e
  meets_since u v w ReadFault since x = x
  meets_since u v w WriteFault since x = x
  meets_since u v w LogFault since x = x
  meets_since u v w OutFault since x = x
  meets_since u v w Memory since x = x
  meets_since u v w (OverLimit (OfPages largest blocks)) since x = x
  meets_since u v w (OverLimit (OfPage lsn end)) since x = record { tag = x.tag; named = x.named; listed = x.listed; page = x.page; sound = x.sound; was = x.was; position = x.position; past = x.past; seen = let seen = x.seen in omega arith }
  meets_since u v w (OverLimit (OfLog end)) since x = x

  -- One of the passes ended the rewrite, as it met this; it had seen the log's beginning
  pub record SomePassMeets (zs : List PassState) (e : RewriteError) : Type 0 where
    pub place : ℕ
    pub before : View
    pub pass : PassState
    pub at : get_elem? zs place ≡ some pass
    pub meets : PassMeets contents m.table before pass.view e
    pub seen : base_of m.table ≤ before.end_seen

  abbrev AllSeen : List PassState → Type 0
  AllSeen ps = (i : ℕ) (p : PassState) → get_elem? ps i ≡ some p → base_of m.table ≤ p.view.end_seen

  module _ (fork : Fork) where
    first_meets : (ps qs : List PassState) (e : JobError) → AllSeen ps → FailsFirst contents m 0 fork ps qs e → SomePassMeets qs (rewrite_error e)
    first_meets [] [] e seen fails = absurd fails
    first_meets [] (q ∷ qs) e seen fails = absurd fails
    first_meets (p ∷ ps) [] e seen fails = absurd fails
    first_meets (p ∷ ps) (q ∷ qs) e seen (inl (inl x)) = record { place = zero; before = p.view; pass = q; at = refl; meets = read_meets (tag_of_parts 0 fork x.block) p x.before q x.why e x.since x.fault x.refused x.met; seen = seen 0 p refl }
    first_meets (p ∷ ps) (q ∷ qs) e seen (inl (inr x)) = record { place = zero; before = p.view; pass = q; at = refl; meets = put_meets x.why e p.view q.view x.fault x.fails.shows; seen = seen 0 p refl }
    first_meets (p ∷ ps) (q ∷ qs) e seen (inr later) = let x = first_meets ps qs e (λ i. seen (suc i)) later.1 in
        record { place = suc x.place; before = x.before; pass = x.pass; at = x.at; meets = x.meets; seen = x.seen }

    job_meets : (ps qs : List PassState) (e : JobError) → AllSeen ps → EndsRewrite contents m 0 fork ps qs e → (e ≡ job.Memory) ⊎ SomePassMeets qs (rewrite_error e)
    job_meets ps qs e seen (inl short) = inl short
    job_meets ps qs e seen (inr (inl fails)) =
        let x = first_meets (workers_in ps) (workers_in qs) e (λ i p at. seen i p (taken_from (length ps - 1) i ps p at)) fails in
        inr record { place = x.place; before = x.before; pass = x.pass; at = taken_from (length qs - 1) x.place qs x.pass x.at; meets = x.meets; seen = x.seen }
    job_meets ps qs e seen (inr (inr (whole, x))) =
        inr record { place = length ps - 1; before = x.before.view; pass = x.after; at = x.is; meets = frame_meets x.before x.after x.refused.why e x.refused.fault x.refused.refuses; seen = seen (length ps - 1) x.before x.was }

    last_meets : (qs zs : List PassState) (e : RewriteError) → 0 < length qs → length zs ≡ length qs → AllSeen qs → LastMeets contents m.table qs zs e → SomePassMeets zs e
    last_meets qs zs e some_ long seen meets =
        let q = there_at qs (length qs - 1) (omega arith) in
        let z = there_at zs (length qs - 1) (omega arith) in
        record { place = length qs - 1; before = q.0.view; pass = z.0; at = z.1; meets = meets q.0 z.0 q.1 z.1; seen = seen (length qs - 1) q.0 q.1 }

    pub any_meets : (ps qs zs : List PassState) (e : RewriteError) → 0 < length qs → length zs ≡ length qs → AllSeen ps → AllSeen qs → EndsEarly contents m fork ps qs zs e → (e ≡ Memory) ⊎ SomePassMeets zs e
    any_meets ps qs zs e some_ long seen_ps seen_qs (inl (why, is, same, ends)) = ⊎_elim
        (λ (short : why ≡ job.Memory). inl (is ∙ ap rewrite_error short))
        (λ (x : SomePassMeets qs (rewrite_error why)). inr (subst (λ (l : List PassState). SomePassMeets l e) (sym same) (subst (λ (y : RewriteError). SomePassMeets qs y) (sym is) x)))
        (job_meets ps qs why seen_ps ends)
    any_meets ps qs zs e some_ long seen_ps seen_qs (inr (why, is, meets, whole)) = inr (subst (λ (y : RewriteError). SomePassMeets zs y) (sym is) (last_meets qs zs (checkpoint_error why) some_ long seen_qs meets))

-- what one pass met is met by all in all, and where none met anything nothing is
met_by_one : (f : FailedCalls → ℕ) → ((a b : FailedCalls) → f (sum_of_met a b) ≡ f a + f b) → (ps : List PassState) (i : ℕ) (p : PassState) → get_elem? ps i ≡ some p → 0 < f p.view.met → 0 < f (met_by_passes ps)
met_by_one f adds [] i p at more = absurd (some-ne-none p (sym at))
met_by_one f adds (q ∷ ps) zero p at more = let same = ap (λ (x : PassState). f x.view.met) (some-injective q p at) in let both = adds q.view.met (met_by_passes ps) in omega arith
met_by_one f adds (q ∷ ps) (suc i) p at more = let later = met_by_one f adds ps i p at more in let both = adds q.view.met (met_by_passes ps) in omega arith

abbrev nothing_met : FailedCalls
nothing_met = record { reads = 0; writes = 0; logs = 0 }

pub met_by_none : (ps : List PassState) → ((i : ℕ) (p : PassState) → get_elem? ps i ≡ some p → p.view.met ≡ nothing_met) → met_by_passes ps ≡ nothing_met
met_by_none [] each = refl
met_by_none (p ∷ ps) each = ap (λ (k : FailedCalls). sum_of_met k (met_by_passes ps)) (each 0 p refl) ∙ ap (sum_of_met nothing_met) (met_by_none ps (λ i. each (suc i)))

module _ {L G : Type 0} (d : Devices L G) (m : Manager L G) (r : RelationFork) (base : ℕ) (ps zs : List PassState) (started : IsStarted d.contents r base m ps) (few : r.blocks < 2 ^ 32)
    (lanes : List L) (log : G) (c : ClosesAll d m.table.table.shared.key zs lanes log) where
  -- a sound page of a block has its position at the log's beginning or before it, where the pages are known
  none_past : (v : View) (lsn end : ℕ) → base_of m.table ≤ v.end_seen → IsPastEnd d.contents m.table v lsn end → (pages : List Page) → ArePages d.contents r base (opened_of m.table) pages → ⊥
  none_past v lsn end seen x pages are =
      let tag_is = started.catalog.alone x.tag x.listed in
      let low : x.tag.block < r.blocks = below x.tag.block (blocks_at (relations_of m.table) x.tag.rel.0 x.tag.fork) x.listed (ap (λ (t : Tag). blocks_at (relations_of m.table) t.rel.0 t.fork) tag_is ∙ started.catalog.counted) in
      let p = there_at pages x.tag.block (let e = are.have.counted in omega arith) in
      let l = was_there d m r base ps zs started few lanes log c pages are x.tag.block p.0 p.1 in
      let is : l.2.0 x.tag ≡ Some x.page = x.was (lane_number x.tag (lanes_in m.table)) l.0 l.2.0 record { named = x.named; listed = x.listed; placed = refl }
      (subst (λ (t : Tag). get_elem? (opened_of m.table) (lane_number t (lanes_in m.table)) ≡ some l.0) (sym tag_is) l.1) l.2.1 in
      let same : x.page ≡ p.0 = same_Some x.page p.0 (sym is ∙ ap l.2.0 tag_is ∙ l.2.2) in
      let within = page_within pages x.tag.block p.0 p.1 (ap is_sound_page (sym same) ∙ x.sound) in
      let position = x.position ∙ ap lsn_of same in
      let largest = are.within in
      let past = x.past in
      let end_seen = x.seen in
      let begins = started.based in
      omega arith
    where
      below : (block count : ℕ) → nat_lt block count ≡ true → count ≡ r.blocks → block < r.blocks
      below block count listed is =
          let low : block < count = ltb-true block count listed in
          omega arith

  pub no_position : (e : RewriteError) → SomePassMeets d.contents m zs e → ((end : ℕ) → e ≡ OverLimit (OfLog end) → ⊥) → (pages : List Page) → ArePages d.contents r base (opened_of m.table) pages → HasPositionsLeft e
  no_position ReadFault x not_full pages are = tt
  no_position WriteFault x not_full pages are = tt
  no_position LogFault x not_full pages are = tt
  no_position OutFault x not_full pages are = tt
  no_position Memory x not_full pages are = tt
  no_position (OverLimit (OfPages largest blocks)) x not_full pages are = x.meets
  no_position (OverLimit (OfPage lsn end)) x not_full pages are = none_past x.before lsn end x.seen x.meets pages are
  no_position (OverLimit (OfLog end)) x not_full pages are = not_full end refl

  module _ (reads : sum_by d.read_faults (opened_of m.table) ≡ 0) (writes : sum_by d.write_faults (opened_of m.table) ≡ 0) where
    logs_later : d.log_faults (log_of m) ≤ d.log_faults log
    logs_later =
        let least = (c.laws.invariant.device.columns 0 (omega arith)).least in
        let first = c.opened.log_faults in
        let last = c.device.faults in
        omega arith

    cause_at : (e : RewriteError) → SomePassMeets d.contents m zs e → IsRewriteCause (sum_by d.read_faults lanes) (sum_by d.write_faults lanes) (d.log_faults (log_of m)) (d.log_faults log) e
    cause_at ReadFault x = some_read_failed d m.table.table.shared.key zs lanes log c started.counted reads (met_by_one (λ (k : FailedCalls). k.reads) (λ a b. refl) zs x.place x.pass x.at x.meets)
    cause_at WriteFault x = some_write_failed d m.table.table.shared.key zs lanes log c started.counted writes (met_by_one (λ (k : FailedCalls). k.writes) (λ a b. refl) zs x.place x.pass x.at x.meets)
    cause_at LogFault x = risen_rose (d.log_faults (log_of m)) (d.log_faults log)
        (subst (λ (n : ℕ). HasRisen (d.log_faults (log_of m)) n) c.device.faults
        (subst (λ (n : ℕ). HasRisen n c.state.device.faults) c.opened.log_faults ((c.each x.place x.pass x.at).down x.meets)))
    cause_at OutFault x = x.meets
    cause_at Memory x = tt
    cause_at (OverLimit (OfPages largest blocks)) x = x.meets
    cause_at (OverLimit (OfPage lsn end)) x = x.meets.past
    cause_at (OverLimit (OfLog end)) x = x.meets.0

    memory_cause : (e : RewriteError) → e ≡ Memory → IsRewriteCause (sum_by d.read_faults lanes) (sum_by d.write_faults lanes) (d.log_faults (log_of m)) (d.log_faults log) e
    memory_cause e is = subst (λ (y : RewriteError). IsRewriteCause (sum_by d.read_faults lanes) (sum_by d.write_faults lanes) (d.log_faults (log_of m)) (d.log_faults log) y) (sym is) tt

    pub ok_cause : (totals : RewriteTotals) → met_by_passes zs ≡ nothing_met
        → HasRewriteCause (sum_by d.read_faults lanes) (sum_by d.write_faults lanes) (d.log_faults (log_of m)) (d.log_faults log) (Ok totals)
    ok_cause totals none = record {
      logs_later = logs_later;
      cause = (
        no_read_failed d m.table.table.shared.key zs lanes log c started.counted reads (ap (λ (k : FailedCalls). k.reads) none),
        no_write_counted d m.table.table.shared.key zs lanes log c started.counted writes (ap (λ (k : FailedCalls). k.writes) none),
        dite (ℕ_discrete (d.log_faults log) (d.log_faults (log_of m)))
            (λ (same : d.log_faults log ≡ d.log_faults (log_of m)). same)
            (λ (other : d.log_faults log ≢ d.log_faults (log_of m)). absurd (
            let later = logs_later in
            let first = c.opened.log_faults in
            let last = c.device.faults in
            let less : d.log_faults (log_of m) < d.log_faults log = omega (arith, other) in
            let more = c.logs_met (omega arith) in
            let zero_ = ap (λ (k : FailedCalls). k.logs) none in
            omega arith
            )),
      );
    }

    pub err_cause : (e : RewriteError) → (e ≡ Memory) ⊎ SomePassMeets d.contents m zs e
        → HasRewriteCause (sum_by d.read_faults lanes) (sum_by d.write_faults lanes) (d.log_faults (log_of m)) (d.log_faults log) (Err e)
    err_cause e why = record { logs_later = logs_later; cause = ⊎_elim (memory_cause e) (cause_at e) why }
