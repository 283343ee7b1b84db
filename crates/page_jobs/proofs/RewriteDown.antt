-- Where a rewrite ended as the log failed, or was down, a pass has seen that, and the log's count of faults shows it at the close.
use Rattle.std.proofs.Common.{◌≡◌, ℕ, zero, suc, ◌-◌, ◌<◌, Bool, true, false, List, [], ◌∷◌, length, Option, Some, None, refl, sym, ap, ◌∙◌, subst, inl, inr, arith}
use mathlib.Core.Logic.{dite}
use native.Mathlib.Decide.{ℕ_discrete}
use mathlib.Core.Option.{some}
use lib.ListN.{get_elem?}
use Rattle.block_tag.specs.declared.tag.Fork.{Fork}
use Rattle.block_tag.specs.declared.tag.Tag.{Tag}
use Rattle.block_tag.specs.Names.{tag_of_parts}
use Rattle.segment_store.specs.Contents.{Pages}
use Rattle.pin_core.specs.declared.view.View.{View}
use Rattle.history_core.specs.Device.{HasRisen}
use Rattle.history_core.specs.State.{last_count}
use Rattle.table_rule.specs.declared.opening.Opening.{Opening}
use Rattle.table_rule.specs.Shows.{Devices}
use Rattle.wal_flush.specs.declared.inserts.InsertError.{InsertError}
use Rattle.wal_flush.specs.declared.inserts.InsertError.TheVariants as put
use Rattle.buffer_frames.specs.Puts.{RefusalShows}
use Rattle.backend_pass.specs.declared.errors.FlushError.{FlushError}
use Rattle.backend_pass.specs.declared.errors.FlushError.TheVariants as flush
use Rattle.backend_pass.specs.declared.errors.ReadError.{ReadError}
use Rattle.backend_pass.specs.declared.errors.ReadError.TheVariants as read
use Rattle.backend_pass.specs.declared.manager.Manager.{Manager}
use Rattle.backend_pass.specs.Closing.{ClosesAll}
use Rattle.backend_pass.specs.FrameFlushes.{RefusesFrame}
use Rattle.backend_pass.specs.Passes.{PassState}
use Rattle.backend_pass.specs.Reading.{ReadingRefused}
use Rattle.page_jobs.specs.declared.ending.JobError.{JobError}
use Rattle.page_jobs.specs.declared.ending.JobError.TheVariants.{LogDown, LogFault}
use Rattle.page_jobs.specs.Beside.{fault_of_flush}
use Rattle.page_jobs.specs.Jobs.{workers_in}
use Rattle.page_jobs.specs.Reads.{fault_of_refusal}
use Rattle.page_jobs.specs.RewriteJobs.{EndsRewrite, FailsFirst}
use Rattle.page_jobs.specs.Rewriting.{fault_of_put}
use Rattle.backend_pass.proofs.Standing.{taken_from}

-- whether the log failed, in the job or before
abbrev pub is_of_log : JobError → Bool
is_of_log LogFault = true
is_of_log (LogDown at) = true
is_of_log _ = false

abbrev may_be_of_log : Option JobError → Bool
may_be_of_log None = false
may_be_of_log (Some e) = is_of_log e

put_down : (why : InsertError) (e : JobError) (v : View) → fault_of_put why ≡ e → is_of_log e ≡ true → RefusalShows why v → v.saw_down ≡ true
put_down (put.LogFull end) e v is of_log shows = absurd (let no : false ≡ true = ap is_of_log is ∙ of_log in cc)
put_down (put.LogDown at) e v is of_log shows = shows.0
put_down put.LogFault e v is of_log shows = shows

-- a count that rose isn't 0
pub risen_some : (before now : ℕ) → HasRisen before now → 0 < now
risen_some before now risen = dite (ℕ_discrete now last_count) (λ e. omega (arith, e)) (λ other. let less = risen other in omega (arith, less))

-- The pass at this place has seen the log down
pub record SawDown (qs : List PassState) : Type 0 where
  pub place : ℕ
  pub pass : PassState
  pub is : get_elem? qs place ≡ some pass
  pub down : pass.view.saw_down ≡ true

module _ {L G : Type 0} (contents : L → Option Pages) (m : Manager L G) where
  read_down : (tag : Tag) (p q : PassState) (why : ReadError) (e : JobError) → fault_of_refusal why ≡ Some e → is_of_log e ≡ true → ReadingRefused contents m.table tag p q why → q.view.saw_down ≡ true
  read_down tag p q (read.PastEnd block blocks) e is of_log x = absurd (let no : false ≡ true = ap may_be_of_log is ∙ of_log in cc)
  read_down tag p q read.PinsFull e is of_log x = absurd (let no : false ≡ true = ap may_be_of_log is ∙ of_log in cc)
  read_down tag p q (read.NoUnpinned frames) e is of_log x = absurd (let no : false ≡ true = ap may_be_of_log is ∙ of_log in cc)
  read_down tag p q (read.ReadFault failed) e is of_log x = absurd (let no : false ≡ true = ap may_be_of_log is ∙ of_log in cc)
  read_down tag p q (read.WriteFault failed) e is of_log x = absurd (let no : false ≡ true = ap may_be_of_log is ∙ of_log in cc)
  read_down tag p q read.LogFault e is of_log x = ap (λ (v : View). v.saw_down) x.refused.until ∙ x.refused.tried.answers.1.flush.work.shows
  read_down tag p q (read.LogDown at) e is of_log x = ap (λ (v : View). v.saw_down) x.refused.until ∙ x.refused.tried.answers.1.flush.work.shows.2
  read_down tag p q (read.LogShort lsn end) e is of_log x = absurd (let no : false ≡ true = ap may_be_of_log is ∙ of_log in cc)
  read_down tag p q (read.Unsound failed) e is of_log x = absurd (let no : false ≡ true = ap may_be_of_log is ∙ of_log in cc)

  write_down : (p q : PassState) (why : FlushError) (e : JobError) → fault_of_flush why ≡ e → is_of_log e ≡ true → RefusesFrame contents m.table p q why → q.view.saw_down ≡ true
  write_down p q (flush.WriteFault tag) e is of_log x = absurd (let no : false ≡ true = ap is_of_log is ∙ of_log in cc)
  write_down p q flush.LogFault e is of_log x = x.refused.answer.work.shows
  write_down p q (flush.LogDown at) e is of_log x = x.refused.answer.work.shows.2
  write_down p q (flush.LogShort lsn end) e is of_log x = absurd (let no : false ≡ true = ap is_of_log is ∙ of_log in cc)

  module _ (rel : ℕ) (fork : Fork) where
    saw_first : (ps qs : List PassState) (e : JobError) → is_of_log e ≡ true → FailsFirst contents m rel fork ps qs e → SawDown qs
    saw_first [] [] e of_log fails = absurd fails
    saw_first [] (q ∷ qs) e of_log fails = absurd fails
    saw_first (p ∷ ps) [] e of_log fails = absurd fails
    saw_first (p ∷ ps) (q ∷ qs) e of_log (inl (inl meets)) = record { place = zero; pass = q; is = refl; down = read_down (tag_of_parts rel fork meets.block) meets.before q meets.why e meets.fault of_log meets.refused }
    saw_first (p ∷ ps) (q ∷ qs) e of_log (inl (inr unput)) = record { place = zero; pass = q; is = refl; down = put_down unput.why e q.view unput.fault of_log unput.fails.shows }
    saw_first (p ∷ ps) (q ∷ qs) e of_log (inr later) = let x = saw_first ps qs e of_log later.1 in record { place = suc x.place; pass = x.pass; is = x.is; down = x.down }

    pub saw_down : (ps qs : List PassState) (e : JobError) → is_of_log e ≡ true → EndsRewrite contents m rel fork ps qs e → SawDown qs
    saw_down ps qs e of_log (inl memory) = absurd (let no : false ≡ true = sym (ap is_of_log memory) ∙ of_log in cc)
    saw_down ps qs e of_log (inr (inl fails)) =
        let x = saw_first (workers_in ps) (workers_in qs) e of_log fails in
        record { place = x.place; pass = x.pass; is = taken_from (length qs - 1) x.place qs x.pass x.is; down = x.down }
    saw_down ps qs e of_log (inr (inr last)) = let x = last.1 in record { place = length ps - 1; pass = x.after; is = x.is; down = write_down x.before x.after x.refused.why e x.refused.fault of_log x.refused.refuses }

-- the passes of a rewrite are given back as it ended: the log has failed since it was opened
pub risen_at_close : {L G : Type 0} (d : Devices L G) (o : Opening L G) (qs : List PassState) (lanes : List L) (log : G) → SawDown qs → ClosesAll d o qs lanes log → HasRisen (d.log_faults o.log.value) (d.log_faults log)
risen_at_close d o qs lanes log x c =
    let risen = (c.each x.place x.pass x.is).down x.down in
    subst (λ (n : ℕ). HasRisen (d.log_faults o.log.value) n) c.device.faults (subst (λ (n : ℕ). HasRisen n c.state.device.faults) c.opened.log_faults risen)
