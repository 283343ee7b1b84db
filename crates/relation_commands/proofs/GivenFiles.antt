-- What the steps of a rewrite leave of a host's files.
use Rattle.std.proofs.Common.{◌≡◌, ◌≢◌, ℕ, ◌<◌, ◌≤◌, Bool, true, false, List, [], ◌++◌, inl, inr, length, map, Option, Some, None, Result, Ok, Err, refl, sym, ap, ◌∙◌, subst, arith}
use Rattle.std.specs.Prelude.{All, IfErr, IfOk, IfSome, IsSome, IsSomeAnd, OnOk, option_map, sum_by}
use Rattle.std.specs.Option.{option_map_or}
use Rattle.block_tag.specs.declared.tag.Fork.{Fork}
use Rattle.block_tag.specs.declared.tag.Fork.TheVariants.{Main}
use Rattle.byte_devices.specs.Bytes.{Puts}
use Rattle.byte_devices.specs.Faults.{Added, Rose}
use Rattle.byte_devices.specs.MemoryLog.{StoredLog}
use Rattle.page_layout.specs.declared.outcomes.RewriteTotals.{RewriteTotals}
use Rattle.segment_store.specs.declared.host.Host as host
use Rattle.segment_store.specs.Contents.{Marks, Pages, no_marks}
use Rattle.segment_store.specs.Lanes.{HoldPages, mark_in, tag_at}
use Rattle.segment_store.specs.Logs.{Logs, empty_log, given_log, logs_after, with_log}
use Rattle.segment_store.specs.Paths.{OpenAt, PathMarks, Paths, fork_of}
use Rattle.segment_store.specs.Restored.{marks_after, pages_in, paths_after}
use Rattle.segment_store.proofs.GivenBack.{paths_same}
use Rattle.pin_core.specs.State.{Page}
use Rattle.history_core.specs.Log.{head_bytes}
use Rattle.history_core.specs.State.{last_position}
use Rattle.page_jobs.specs.Rewrites.{Rule, rule_of}
use Rattle.relation_commands.specs.declared.rewriting.RewriteError.{RewriteError}
use Rattle.relation_commands.specs.declared.rewriting.RewriteError.TheVariants.{ReadFault, WriteFault, LogFault, OutFault, Memory, OverLimit}
use Rattle.relation_commands.specs.declared.starting.RelationFork.{RelationFork}
use Rattle.relation_commands.specs.Limits.{log_base}
use Rattle.command_line.specs.Request.{LoggedAsked}
use Rattle.relation_commands.specs.RewriteCommand.{AreSurveyed, IsLogRefusal, IsPutRefusal, IsSurveyRefusal, LeavesByEnd, OpensLog}
use Rattle.relation_commands.specs.RewriteFiles.{BecomesOf, BeginsHead, BeginsLog, Changes, HostFiles, IsHeadBegun, IsRewrittenAt, KeepsFiles, KeepsPaths, RewritesFiles, files_of, fork_at, log_opened, main_rule, pages_at, relation_at, rewrote, untouched, with_blocks}
use Rattle.relation_commands.specs.RewriteResults.{IsRewrittenFile, LeavesEither}
use Rattle.relation_commands.specs.Rewriting.{ArePages, HasPositionsLeft, HasRewriteCause, IsRewriteCause, LeavesRewritten, failed_after, pages_after}
use Rattle.relation_commands.specs.Starting.{names_of}
use Rattle.relation_commands.specs.Status.{rewrite_tool_error, status_of_error}
use Rattle.relation_commands.proofs.Counting.{added_some, rose_after}
use Rattle.relation_commands.proofs.GivingBack.{given_known, log_stands, marks_elsewhere, marks_here, none_fails, with_lanes}

pub at_some : {A : Type 0} (o : Option A) (P : A → Type 0) (x : A) → o ≡ Some x → IfSome o P → P x
at_some {A = A} o P x is all = subst (λ (p : Option A). IfSome p P) is all

pub of_none : {A : Type 0} (o : Option A) (P : A → Type 0) → ((x : A) → P x) → IfSome o P
of_none None P all = tt
of_none (Some x) P all = all x

-- What a host tells of its files, and what it opened last
pub record Told : Type 0 where
  pub contents : Option Paths
  pub failed : PathMarks
  pub open_at : OpenAt
  pub logs : Option Logs
  pub log_at : List ℕ
  pub writes : ℕ
  pub faults : ℕ

abbrev pub told : {S A B C : Type 0} → host.Ghosts S A B C → S → Told
told g s = record { contents = g.contents s; failed = g.failed_writes s; open_at = g.open_at s; logs = g.logs s; log_at = g.log_at s; writes = g.write_faults s; faults = g.log_faults s }

abbrev pub told_files : Told → Option HostFiles
told_files a = files_of a.contents a.failed a.logs a.writes a.faults

-- its files, where these are its paths and its logs
abbrev pub files_with : Told → Paths → Logs → HostFiles
files_with a paths logs = record { paths = paths; failed = a.failed; logs = logs; write_faults = a.writes; log_faults = a.faults }

-- Neither the paths nor what is open changed, no write failed, and the count of the log's faults didn't fall
pub record SamePaths (a b : Told) : Type 0 where
  pub contents : b.contents ≡ a.contents
  pub failed : IfSome a.contents (λ _. b.failed ≡ a.failed)
  pub open_at : IfSome a.contents (λ _. b.open_at ≡ a.open_at)
  pub writes : b.writes ≡ a.writes
  pub faults : a.faults ≤ b.faults

pub same_paths : (a : Told) → SamePaths a a
same_paths a = record {
  contents = refl;
  failed = of_none a.contents (λ _. a.failed ≡ a.failed) (λ _. refl);
  open_at = of_none a.contents (λ _. a.open_at ≡ a.open_at) (λ _. refl);
  writes = refl;
  faults = omega arith;
}

some_known : {X : Type 0} (o : Option X) → IsSome o → (x : X) × (o ≡ Some x)
some_known None is = absurd (let no : false ≡ true = is in cc)
some_known (Some x) is = (x, refl)

-- what became of files that are known
pub record Became (c : Told) (Leaves : HostFiles → Type 0) : Type 0 where
  pub paths : Paths
  pub logs : Logs
  pub paths_are : c.contents ≡ Some paths
  pub logs_are : c.logs ≡ Some logs
  pub leaves : Leaves (files_with c paths logs)

pub becomes_by : (a c : Told) (Leaves : HostFiles → HostFiles → Type 0)
    → ((paths : Paths) (logs : Logs) → a.contents ≡ Some paths → a.logs ≡ Some logs → Became c (Leaves (files_with a paths logs)))
    → BecomesOf (told_files a) (told_files c) Leaves
becomes_by a c Leaves all = by_known a.contents a.logs refl refl
  where
    by_known : (known : Option Paths) (logs : Option Logs) → a.contents ≡ known → a.logs ≡ logs → BecomesOf (files_of known a.failed logs a.writes a.faults) (told_files c) Leaves
    by_known None logs paths_are logs_are = tt
    by_known (Some paths) None paths_are logs_are = tt
    by_known (Some paths) (Some logs) paths_are logs_are =
        let became = all paths logs paths_are logs_are in
        let old = files_with a paths logs in
        subst (λ (o : Option Paths). IsSomeAnd (files_of o c.failed c.logs c.writes c.faults) (Leaves old)) (sym became.paths_are)
        (subst (λ (o : Option Logs). IsSomeAnd (files_of (Some became.paths) c.failed o c.writes c.faults) (Leaves old)) (sym became.logs_are) became.leaves)

status_some : (e : RewriteError) → status_of_error (rewrite_tool_error e) ≡ 0 → ⊥
status_some ReadFault zero = omega arith
status_some WriteFault zero = omega arith
status_some LogFault zero = omega arith
status_some OutFault zero = omega arith
status_some Memory zero = omega arith
status_some (OverLimit limit) zero = omega arith

-- neither a survey nor the opening of a log writes a page
log_no_write : (logs logs_now faults : ℕ) (e : RewriteError) → IsLogRefusal logs logs_now faults e → status_of_error (rewrite_tool_error e) ≡ 5 → ⊥
log_no_write logs logs_now faults ReadFault why five = why
log_no_write logs logs_now faults WriteFault why five = why
log_no_write logs logs_now faults LogFault why five = omega arith
log_no_write logs logs_now faults OutFault why five = why
log_no_write logs logs_now faults Memory why five = omega arith
log_no_write logs logs_now faults (OverLimit limit) why five = why

survey_no_write : {L : Type 0} (contents : L → Option Pages) (relation : RelationFork) (lanes : List L) (faults : ℕ) (e : RewriteError) → IsSurveyRefusal contents relation lanes faults e
    → status_of_error (rewrite_tool_error e) ≡ 5 → ⊥
survey_no_write contents relation lanes faults ReadFault why five = omega arith
survey_no_write contents relation lanes faults WriteFault why five = why
survey_no_write contents relation lanes faults LogFault why five = why
survey_no_write contents relation lanes faults OutFault why five = why
survey_no_write contents relation lanes faults Memory why five = omega arith
survey_no_write contents relation lanes faults (OverLimit limit) why five = omega arith

-- what an empty log has once a put of its head failed
pub head_begun : {E : Type 0} (base : ℕ) (known known_now : Option (List ℕ)) (why : E) → IfSome known (λ b. b ≡ []) → (known ≡ None → known_now ≡ None)
    → Puts (head_bytes base) known known_now (Err why) → IfSome known_now (IsHeadBegun base)
head_begun base None known_now why empty unknown puts = subst (λ (o : Option (List ℕ)). IfSome o (IsHeadBegun base)) (sym (unknown refl)) tt
head_begun base (Some old) None why empty unknown puts = tt
head_begun base (Some old) (Some new) why empty unknown puts =
    let gains = puts.failed in
    record { more = gains.rest; whole = ap (λ (b : List ℕ). b ++ gains.rest) (gains.is ∙ ap (λ (b : List ℕ). b ++ gains.prefix) empty) ∙ sym gains.whole }

-- the refusals that don't come of a put
abbrev IsNoOutFault : RewriteError → Type 0
IsNoOutFault OutFault = ⊥
IsNoOutFault ReadFault = Unit {0}
IsNoOutFault WriteFault = Unit {0}
IsNoOutFault LogFault = Unit {0}
IsNoOutFault Memory = Unit {0}
IsNoOutFault (OverLimit limit) = Unit {0}

status_seven : (e : RewriteError) → IsNoOutFault e → status_of_error (rewrite_tool_error e) ≡ 7 → ⊥
status_seven ReadFault out seven = omega arith
status_seven WriteFault out seven = omega arith
status_seven LogFault out seven = omega arith
status_seven OutFault out seven = out
status_seven Memory out seven = omega arith
status_seven (OverLimit limit) out seven = omega arith

log_puts_nothing : (logs logs_now faults : ℕ) (e : RewriteError) → IsLogRefusal logs logs_now faults e → IsNoOutFault e
log_puts_nothing logs logs_now faults ReadFault why = tt
log_puts_nothing logs logs_now faults WriteFault why = tt
log_puts_nothing logs logs_now faults LogFault why = tt
log_puts_nothing logs logs_now faults OutFault why = why
log_puts_nothing logs logs_now faults Memory why = tt
log_puts_nothing logs logs_now faults (OverLimit limit) why = tt

survey_puts_nothing : {L : Type 0} (contents : L → Option Pages) (relation : RelationFork) (lanes : List L) (faults : ℕ) (e : RewriteError) → IsSurveyRefusal contents relation lanes faults e → IsNoOutFault e
survey_puts_nothing contents relation lanes faults ReadFault why = tt
survey_puts_nothing contents relation lanes faults WriteFault why = tt
survey_puts_nothing contents relation lanes faults LogFault why = tt
survey_puts_nothing contents relation lanes faults OutFault why = why
survey_puts_nothing contents relation lanes faults Memory why = tt
survey_puts_nothing contents relation lanes faults (OverLimit limit) why = tt

rewrite_cause : (reads writes logs logs_now : ℕ) (e : RewriteError) → IsRewriteCause reads writes logs logs_now e → IsNoOutFault e
rewrite_cause reads writes logs logs_now ReadFault why = tt
rewrite_cause reads writes logs logs_now WriteFault why = tt
rewrite_cause reads writes logs logs_now LogFault why = tt
rewrite_cause reads writes logs logs_now OutFault why = why
rewrite_cause reads writes logs logs_now Memory why = tt
rewrite_cause reads writes logs logs_now (OverLimit limit) why = tt

rewrite_puts_nothing : (reads writes logs logs_now : ℕ) (end : Result RewriteTotals RewriteError) → HasRewriteCause reads writes logs logs_now end → IfErr end IsNoOutFault
rewrite_puts_nothing reads writes logs logs_now (Ok totals) has = tt
rewrite_puts_nothing reads writes logs logs_now (Err e) has = rewrite_cause reads writes logs logs_now e has.cause

module _ (r : LoggedAsked) (old new : HostFiles) where
  -- nothing was written
  pub keeps_all : (status : ℕ) → (status ≡ 0 → ⊥) → (status ≡ 5 → ⊥) → (status ≡ 7 → ⊥) → KeepsFiles r old new → RewritesFiles r status old new
  keeps_all status some unwritten unput keeps = record {
    any = untouched keeps;
    done = λ zero. absurd (some zero);
    refused = λ least most. keeps;
    read_fault = λ four. inl keeps;
    write_fault = λ five. absurd (unwritten five);
    over_limit = λ nine. keeps;
    out_fault = λ seven. absurd (unput seven);
  }

  -- the log's head wasn't put whole
  begun_head : (logs logs_now faults : ℕ) (e : RewriteError) → IsLogRefusal logs logs_now faults e → BeginsHead r old new → LeavesByEnd {T = RewriteTotals} r (Err e) old new
  begun_head logs logs_now faults LogFault why begins = record { any = log_opened begins; done = λ zero. absurd (omega arith); refused = λ least most. absurd (omega arith); read_fault = λ four. absurd (omega arith); write_fault = λ five. absurd (omega arith); over_limit = λ nine. absurd (omega arith); out_fault = λ seven. absurd (omega arith) }
  begun_head logs logs_now faults Memory why begins = record { any = log_opened begins; done = λ zero. absurd (omega arith); refused = λ least most. absurd (omega arith); read_fault = λ four. absurd (omega arith); write_fault = λ five. absurd (omega arith); over_limit = λ nine. absurd (omega arith); out_fault = λ seven. absurd (omega arith) }
  begun_head logs logs_now faults ReadFault why begins = absurd why
  begun_head logs logs_now faults WriteFault why begins = absurd why
  begun_head logs logs_now faults OutFault why begins = absurd why
  begun_head logs logs_now faults (OverLimit limit) why begins = absurd why

  -- the log was begun: by how it ended
  by_end : (end : Result RewriteTotals RewriteError) → BeginsLog r old new → OnOk end (IsRewrittenAt r old new) → IfErr end HasPositionsLeft → IfErr end IsNoOutFault → LeavesByEnd r end old new
  by_end (Ok totals) begins done left unput = record { any = rewrote begins; done = λ zero. done; refused = λ least most. absurd (omega arith); read_fault = λ four. absurd (omega arith); write_fault = λ five. absurd (omega arith); over_limit = λ nine. absurd (omega arith); out_fault = λ seven. absurd (omega arith) }
  by_end (Err ReadFault) begins done left unput = record { any = rewrote begins; done = λ zero. absurd (omega arith); refused = λ least most. absurd (omega arith); read_fault = λ four. inr begins; write_fault = λ five. absurd (omega arith); over_limit = λ nine. absurd (omega arith); out_fault = λ seven. absurd (omega arith) }
  by_end (Err WriteFault) begins done left unput = record { any = rewrote begins; done = λ zero. absurd (omega arith); refused = λ least most. absurd (omega arith); read_fault = λ four. absurd (omega arith); write_fault = λ five. begins; over_limit = λ nine. absurd (omega arith); out_fault = λ seven. absurd (omega arith) }
  by_end (Err LogFault) begins done left unput = record { any = rewrote begins; done = λ zero. absurd (omega arith); refused = λ least most. absurd (omega arith); read_fault = λ four. absurd (omega arith); write_fault = λ five. absurd (omega arith); over_limit = λ nine. absurd (omega arith); out_fault = λ seven. absurd (omega arith) }
  by_end (Err OutFault) begins done left unput = absurd unput
  by_end (Err Memory) begins done left unput = record { any = rewrote begins; done = λ zero. absurd (omega arith); refused = λ least most. absurd (omega arith); read_fault = λ four. absurd (omega arith); write_fault = λ five. absurd (omega arith); over_limit = λ nine. absurd (omega arith); out_fault = λ seven. absurd (omega arith) }
  by_end (Err (OverLimit limit)) begins done left unput = absurd left

  -- what is printed changes no file
  pub after_put : (totals : RewriteTotals) (faults faults_now : ℕ) (result : Result Unit RewriteError) → IfErr result (IsPutRefusal faults faults_now)
      → LeavesByEnd {T = RewriteTotals} r (Ok totals) old new → LeavesByEnd r result old new
  after_put totals faults faults_now (Ok done) why leaves = leaves
  after_put totals faults faults_now (Err OutFault) why leaves = record { any = leaves.any; done = λ zero. absurd (omega arith); refused = λ least most. absurd (omega arith); read_fault = λ four. absurd (omega arith); write_fault = λ five. absurd (omega arith); over_limit = λ nine. absurd (omega arith); out_fault = λ seven. leaves.done refl }
  after_put totals faults faults_now (Err Memory) why leaves = record { any = leaves.any; done = λ zero. absurd (omega arith); refused = λ least most. absurd (omega arith); read_fault = λ four. absurd (omega arith); write_fault = λ five. absurd (omega arith); over_limit = λ nine. absurd (omega arith); out_fault = λ seven. absurd (omega arith) }
  after_put totals faults faults_now (Err ReadFault) why leaves = absurd why
  after_put totals faults faults_now (Err WriteFault) why leaves = absurd why
  after_put totals faults faults_now (Err LogFault) why leaves = absurd why
  after_put totals faults faults_now (Err (OverLimit limit)) why leaves = absurd why

module _ {L G : Type 0} (contents : L → Option Pages) (failed : L → Marks) (bytes : G → Option (List ℕ)) (synced : G → ℕ) (write_faults : L → ℕ) (log_faults : G → ℕ) (r : LoggedAsked) where
  -- the relation that is asked for is open
  abbrev pub IsOpen : Told → Type 0
  IsOpen a = IfSome a.contents (λ _. a.open_at ≡ relation_at r)

  -- Lanes, and a log if one was opened, were given back, with their faults
  pub record GivesBack (b c : Told) (lanes : List L) (log : Option G) : Type 0 where
    pub paths : c.contents ≡ option_map (paths_after b.open_at (map contents lanes)) b.contents
    pub marks : IfSome b.contents (λ paths. paths b.open_at.path ≢ [] → c.failed ≡ marks_after b.open_at (map failed lanes) b.failed)
    pub logs : c.logs ≡ option_map (logs_after b.log_at (given_log bytes synced log)) b.logs
    pub writes : Added b.writes (sum_by write_faults lanes) c.writes
    pub faults : Added b.faults (option_map_or log_faults log 0) c.faults

  module _ (a b c : Told) (lanes : List L) (log : Option G) (open_so : IsOpen a) (same : SamePaths a b) (gives : GivesBack b c lanes log)
      (paths : Paths) (known : a.contents ≡ Some paths) (there : paths r.path ≢ []) where
    opened_so : b.open_at ≡ relation_at r
    opened_so = at_some a.contents (λ _. b.open_at ≡ a.open_at) paths known same.open_at ∙ at_some a.contents (λ _. a.open_at ≡ relation_at r) paths known open_so

    given_paths : c.contents ≡ Some (paths_after (relation_at r) (map contents lanes) paths)
    given_paths = gives.paths ∙ ap (λ (o : Option Paths). option_map (paths_after b.open_at (map contents lanes)) o) (same.contents ∙ known)
        ∙ ap (λ (at : OpenAt). Some (paths_after at (map contents lanes) paths)) opened_so

    given_marks : c.failed ≡ marks_after (relation_at r) (map failed lanes) a.failed
    given_marks =
        let marks = at_some b.contents (λ (ps : Paths). ps b.open_at.path ≢ [] → c.failed ≡ marks_after b.open_at (map failed lanes) b.failed) paths (same.contents ∙ known) gives.marks in
        subst (λ (at : OpenAt). paths at.path ≢ [] → c.failed ≡ marks_after at (map failed lanes) b.failed) opened_so marks there
        ∙ ap (λ (m : PathMarks). marks_after (relation_at r) (map failed lanes) m) (at_some a.contents (λ _. b.failed ≡ a.failed) paths known same.failed)

  module _ (a b c : Told) (lanes : List L) (logs : Logs) (known : a.logs ≡ Some logs) where
    given_none : b.logs ≡ a.logs → GivesBack b c lanes None → c.logs ≡ Some logs
    given_none same gives = gives.logs ∙ ap (λ (o : Option Logs). option_map (λ (l : Logs). l) o) (same ∙ known)

    module _ (log log' : G) (opens : OpensLog (Some log) r.log a.logs b.logs b.log_at) (told : IfSome b.logs (λ _. IsSome (bytes log'))) (gives : GivesBack b c lanes (Some log')) where
      opened_logs : b.logs ≡ Some (with_log r.log empty_log logs)
      opened_logs = opens.0 ∙ ap (λ (o : Option Logs). option_map (with_log r.log empty_log) o) known

      known_bytes : (x : List ℕ) × (bytes log' ≡ Some x)
      known_bytes = some_known (bytes log') (at_some b.logs (λ _. IsSome (bytes log')) (with_log r.log empty_log logs) opened_logs told)

      given_file : c.logs ≡ Some (with_log r.log (record { bytes = known_bytes.0; synced = synced log' }) logs)
      given_file = gives.logs
          ∙ ap (λ (o : Option Logs). option_map (logs_after b.log_at (given_log bytes synced (Some log'))) o) opened_logs
          ∙ ap (λ (at : List ℕ). Some (logs_after at (given_log bytes synced (Some log')) (with_log r.log empty_log logs))) (at_some a.logs (λ _. b.log_at ≡ r.log) logs known opens.1)
          ∙ ap (λ (o : Option StoredLog). Some (logs_after r.log o (with_log r.log empty_log logs))) (given_known bytes synced log' known_bytes.0 known_bytes.1)
          ∙ ap (λ (l : Logs). Some l) (log_stands r.log (record { bytes = known_bytes.0; synced = synced log' }) logs)

  -- where a lane counts a fault of writing, or the log one of its own, so does the host
  module _ (a b c : Told) (lanes : List L) (same : SamePaths a b) where
    write_rose : (log : Option G) → GivesBack b c lanes log → 0 < sum_by write_faults lanes → Rose a.writes c.writes
    write_rose log gives some = subst (λ (n : ℕ). Rose n c.writes) same.writes (added_some b.writes (sum_by write_faults lanes) c.writes gives.writes some)

    log_rose : (log : G) → GivesBack b c lanes (Some log) → 0 < log_faults log → Rose a.faults c.faults
    log_rose log gives some = rose_after a.faults b.faults c.faults same.faults (added_some b.faults (log_faults log) c.faults gives.faults some)

  -- lanes that were not written leave the paths as they were
  module _ (a c : Told) (lanes : List L) (paths : Paths) (logs new_logs : Logs) (unmarked : All (λ lane. failed lane ≡ no_marks) lanes)
      (held : HoldPages (fork_of r.path) (pages_at r paths) (map contents lanes)) (marks_are : c.failed ≡ marks_after (relation_at r) (map failed lanes) a.failed) where
    kept_paths : KeepsPaths r (files_with a paths logs) (files_with c (paths_after (relation_at r) (map contents lanes) paths) new_logs)
    kept_paths = record {
      paths = paths_same (relation_at r) (map contents lanes) paths held;
      failed = none_fails failed (relation_at r) lanes paths a.failed c.failed unmarked marks_are;
    }

  -- nothing but the lanes was given back, which were not written
  pub unlogged : (a c : Told) (relation : RelationFork) (surveyed lanes : List L) (faults : ℕ) (e : RewriteError) → IsSurveyRefusal contents relation surveyed faults e → IsOpen a → All (λ lane. failed lane ≡ no_marks) lanes
      → IfSome a.contents (λ paths. paths r.path ≢ []) → IfSome a.contents (λ paths. HoldPages (fork_of r.path) (pages_at r paths) (map contents lanes)) → GivesBack a c lanes None
      → BecomesOf (told_files a) (told_files c) (LeavesByEnd {T = Unit} r (Err e))
  unlogged a c relation surveyed lanes faults e why open_so unmarked there held gives = becomes_by a c (LeavesByEnd {T = Unit} r (Err e)) (λ paths logs known told.
      let same = same_paths a in
      let there_so = at_some a.contents (λ ps. ps r.path ≢ []) paths known there in
      let held_so = at_some a.contents (λ ps. HoldPages (fork_of r.path) (pages_at r ps) (map contents lanes)) paths known held in
      record {
        paths = paths_after (relation_at r) (map contents lanes) paths;
        logs = logs;
        paths_are = given_paths a a c lanes None open_so same gives paths known there_so;
        logs_are = given_none a a c lanes logs told refl gives;
        leaves = keeps_all r _ _ (status_of_error (rewrite_tool_error e)) (λ zero. status_some e zero) (λ five. survey_no_write contents relation surveyed faults e why five)
            (λ seven. status_seven e (survey_puts_nothing contents relation surveyed faults e why) seven) (record {
              pages = kept_paths a c lanes paths logs logs unmarked held_so (given_marks a a c lanes None open_so same gives paths known there_so);
              logs = refl;
            });
      })

  -- the lanes that were surveyed hold the pages of the fork that the path names
  pub held_by : (known : Option Paths) (relation : RelationFork) (base : ℕ) (lanes : List L) → fork_of r.path ≡ Main → IfSome known (λ paths. relation ≡ fork_at r paths)
      → IfSome known (λ paths. ArePages contents relation base lanes (pages_at r paths)) → IfSome known (λ paths. HoldPages (fork_of r.path) (pages_at r paths) (map contents lanes))
  held_by None relation base lanes main relation_is pages = tt
  held_by (Some paths) relation base lanes main relation_is pages =
      subst (λ (f : Fork). HoldPages f (pages_at r paths) (map contents lanes)) (sym main)
      (subst (λ (rel : RelationFork). HoldPages rel.fork (pages_at r paths) (map contents lanes)) relation_is pages.have.held)

  -- A log that couldn't be begun was given back, if it was opened, with lanes that were not written
  pub refused : (a b c : Told) (lanes : List L) (base : ℕ) (log : Option G) (logs_before logs_now faults : ℕ) (e : RewriteError) → IsOpen a → All (λ lane. failed lane ≡ no_marks) lanes
      → IfSome a.contents (λ paths. paths r.path ≢ []) → IfSome a.contents (λ paths. HoldPages (fork_of r.path) (pages_at r paths) (map contents lanes))
      → base ≤ last_position → IfSome a.contents (λ paths. base ≡ log_base (pages_at r paths)) → IfSome log (λ l. (0 < log_faults l) × IfSome (bytes l) (IsHeadBegun base))
      → SamePaths a b → OpensLog log r.log a.logs b.logs b.log_at → ((l : G) → IfSome b.logs (λ _. IsSome (bytes l))) → IsLogRefusal logs_before logs_now faults e → GivesBack b c lanes log
      → BecomesOf (told_files a) (told_files c) (LeavesByEnd {T = RewriteTotals} r (Err e))
  refused a b c lanes base None logs_before logs_now faults e open_so unmarked there held low base_is begun same opens told why gives =
      becomes_by a c (LeavesByEnd {T = RewriteTotals} r (Err e)) (λ paths logs known logs_known.
      let there_so = at_some a.contents (λ ps. ps r.path ≢ []) paths known there in
      let held_so = at_some a.contents (λ ps. HoldPages (fork_of r.path) (pages_at r ps) (map contents lanes)) paths known held in
      record {
        paths = paths_after (relation_at r) (map contents lanes) paths;
        logs = logs;
        paths_are = given_paths a b c lanes None open_so same gives paths known there_so;
        logs_are = given_none a b c lanes logs logs_known opens gives;
        leaves = keeps_all r _ _ (status_of_error (rewrite_tool_error e)) (λ zero. status_some e zero) (λ five. log_no_write logs_before logs_now faults e why five)
            (λ seven. status_seven e (log_puts_nothing logs_before logs_now faults e why) seven) (record {
              pages = kept_paths a c lanes paths logs logs unmarked held_so (given_marks a b c lanes None open_so same gives paths known there_so);
              logs = refl;
            });
      })
  refused a b c lanes base (Some log) logs_before logs_now faults e open_so unmarked there held low base_is begun same opens told why gives =
      becomes_by a c (LeavesByEnd {T = RewriteTotals} r (Err e)) (λ paths logs known logs_known.
      let there_so = at_some a.contents (λ ps. ps r.path ≢ []) paths known there in
      let held_so = at_some a.contents (λ ps. HoldPages (fork_of r.path) (pages_at r ps) (map contents lanes)) paths known held in
      let file = known_bytes a b c lanes logs logs_known log log opens (told log) gives in
      record {
        paths = paths_after (relation_at r) (map contents lanes) paths;
        logs = with_log r.log (record { bytes = file.0; synced = synced log }) logs;
        paths_are = given_paths a b c lanes (Some log) open_so same gives paths known there_so;
        logs_are = given_file a b c lanes logs logs_known log log opens (told log) gives;
        leaves = begun_head r _ _ logs_before logs_now faults e why (record {
          file = record { bytes = file.0; synced = synced log };
          low = subst (λ (n : ℕ). n ≤ last_position) (at_some a.contents (λ ps. base ≡ log_base (pages_at r ps)) paths known base_is) low;
          begun = subst (λ (n : ℕ). IsHeadBegun n file.0) (at_some a.contents (λ ps. base ≡ log_base (pages_at r ps)) paths known base_is) (at_some (bytes log) (IsHeadBegun base) file.0 file.1 begun.1);
          pages = kept_paths a c lanes paths logs _ unmarked held_so (given_marks a b c lanes (Some log) open_so same gives paths known there_so);
          logs = refl;
          fault = log_rose a b c lanes same log gives begun.0;
        });
      })

  module _ (a b c : Told) (relation : RelationFork) (base : ℕ) (lanes lanes' : List L) (log' : G) (end : Result RewriteTotals RewriteError)
      (leaves : LeavesRewritten contents failed bytes synced write_faults log_faults relation base lanes lanes' log' end)
      (same : SamePaths a b) (gives : GivesBack b c lanes' (Some log')) (main : fork_of r.path ≡ Main) (paths : Paths) (logs : Logs) (x : List ℕ) (bytes_are : bytes log' ≡ Some x)
      (relation_is : relation ≡ fork_at r paths) (base_is : base ≡ log_base (pages_at r paths)) (pages_so : ArePages contents relation base lanes (pages_at r paths))
      (marks_are : c.failed ≡ marks_after (relation_at r) (map failed lanes') a.failed) where
    abbrev before : List Page
    before = pages_at r paths

    abbrev after : List Page
    after = pages_in Main (map contents lanes') 0 (pages_at r paths)

    abbrev file : StoredLog
    file = record { bytes = x; synced = synced log' }

    abbrev old : HostFiles
    old = files_with a paths logs

    abbrev new : HostFiles
    new = files_with c (paths_after (relation_at r) (map contents lanes') paths) (with_log r.log file logs)

    marks_so : c.failed r.path ≡ failed_after failed (fork_at r paths) lanes'
    marks_so = ap (λ (m : PathMarks). m r.path) marks_are ∙ marks_here (relation_at r) (map failed lanes') a.failed
        ∙ ap {B = ℕ → Bool} (λ (f : Fork). λ (block : ℕ). mark_in (map failed lanes') (tag_at f block)) main

    changes : Changes r old new after file
    changes = record {
      paths = with_lanes (relation_at r) (map contents lanes') paths ∙ ap (λ (f : Fork). with_blocks (relation_at r) (pages_in f (map contents lanes') 0 (pages_at r paths)) paths) main;
      logs = refl;
      failed = λ other not. ap (λ (m : PathMarks). m other) marks_are ∙ marks_elsewhere (relation_at r) (map failed lanes') a.failed other not;
    }

    -- what it leaves of pages and of the log, and that only a fault of the log leaves something after the log's bytes
    abbrev EitherCounted : Rule → (ℕ → List ℕ) → ℕ → List Page → (ℕ → Bool) → Type 0
    EitherCounted rule names from pages marks = (e : LeavesEither rule names from before pages marks file) × (e.begins.rest ≢ [] → 0 < log_faults log')

    either : EitherCounted main_rule (names_of (fork_at r paths)) (log_base before) after (c.failed r.path)
    either =
        let of_fork = subst (λ (rel : RelationFork). EitherCounted (rule_of 0 rel.fork) (names_of rel) base (pages_after contents rel lanes' before) (failed_after failed rel lanes')) relation_is (leaves.either before x pages_so bytes_are) in
        let of_base = subst (λ (n : ℕ). EitherCounted main_rule (names_of (fork_at r paths)) n after (failed_after failed (fork_at r paths) lanes')) base_is of_fork in
        subst (λ (f : ℕ → Bool). EitherCounted main_rule (names_of (fork_at r paths)) (log_base before) after f) (sym marks_so) of_base

    failed_write : (block : ℕ) → block < length before → c.failed r.path block ≡ true → 0 < sum_by write_faults lanes'
    failed_write block below bad =
        leaves.marked before pages_so block (let counted = pages_so.have.counted in omega (arith, counted, below))
        (ap (λ (rel : RelationFork). failed_after failed rel lanes' block) relation_is ∙ sym (ap (λ (f : ℕ → Bool). f block) marks_so) ∙ bad)

    begins_log : BeginsLog r old new
    begins_log = record {
      after = after;
      file = file;
      changes = changes;
      leaves = either.0;
      failed = λ block below bad. write_rose a b c lanes' same (Some log') gives (failed_write block below bad);
      rest = λ some. log_rose a b c lanes' same log' gives (either.1 some);
    }

    rewritten_at : IsRewrittenFile (rule_of 0 relation.fork) (names_of relation) base before (pages_after contents relation lanes' before) file
        → ((block : ℕ) → block < relation.blocks → failed_after failed relation lanes' block ≡ false) → IsRewrittenAt r old new
    rewritten_at found unfailed = record {
      after = after;
      file = file;
      changes = changes;
      rewritten =
          (let of_fork = subst (λ (rel : RelationFork). IsRewrittenFile (rule_of 0 rel.fork) (names_of rel) base before (pages_after contents rel lanes' before) file) relation_is found in
          subst (λ (n : ℕ). IsRewrittenFile main_rule (names_of (fork_at r paths)) n before after file) base_is of_fork);
      unfailed = λ block below. ap (λ (f : ℕ → Bool). f block) marks_so
          ∙ subst (λ (rel : RelationFork). (b : ℕ) → b < rel.blocks → failed_after failed rel lanes' b ≡ false) relation_is unfailed block below;
    }

    done_by : (e : Result RewriteTotals RewriteError) → IfOk e (λ totals. (pages : List Page) (known : List ℕ) → ArePages contents relation base lanes pages → bytes log' ≡ Some known
        → IsRewrittenFile (rule_of 0 relation.fork) (names_of relation) base pages (pages_after contents relation lanes' pages) (record { bytes = known; synced = synced log' }))
        → OnOk e ((pages : List Page) → ArePages contents relation base lanes pages → (block : ℕ) → block < relation.blocks → failed_after failed relation lanes' block ≡ false)
        → OnOk e (IsRewrittenAt r old new)
    done_by (Ok totals) whole unfailed = rewritten_at (whole before x pages_so bytes_are) (unfailed before pages_so)
    done_by (Err why) whole unfailed = tt

    left_by : (e : Result RewriteTotals RewriteError) → IfErr e (λ why. (pages : List Page) → ArePages contents relation base lanes pages → HasPositionsLeft why) → IfErr e HasPositionsLeft
    left_by (Ok totals) left = tt
    left_by (Err why) left = left before pages_so

    files_leave : IfErr end IsNoOutFault → LeavesByEnd r end old new
    files_leave unput = by_end r old new end begins_log (done_by end leaves.whole leaves.unfailed) (left_by end leaves.positions) unput

  -- The relation was rewritten, and its lanes and its log were given back
  pub rewritten : (reads : L → ℕ) (relation : RelationFork) (base : ℕ) (lanes lanes' : List L) (log log' : G) (end : Result RewriteTotals RewriteError) (a b c : Told) → IsOpen a → fork_of r.path ≡ Main
      → AreSurveyed contents failed reads write_faults a.contents r relation base lanes → SamePaths a b → OpensLog (Some log) r.log a.logs b.logs b.log_at → IfSome b.logs (λ _. IsSome (bytes log'))
      → GivesBack b c lanes' (Some log') → LeavesRewritten contents failed bytes synced write_faults log_faults relation base lanes lanes' log' end
      → (reads_now writes_now faults faults_now : ℕ) → HasRewriteCause reads_now writes_now faults faults_now end
      → BecomesOf (told_files a) (told_files c) (LeavesByEnd r end)
  rewritten reads relation base lanes lanes' log log' end a b c open_so main surveyed same opens told gives leaves reads_now writes_now faults faults_now cause =
      becomes_by a c (LeavesByEnd r end) (λ paths logs known logs_known.
      let there_so = at_some a.contents (λ ps. ps r.path ≢ []) paths known surveyed.there in
      let relation_is = at_some a.contents (λ ps. relation ≡ fork_at r ps) paths known surveyed.relation_is in
      let base_is = at_some a.contents (λ ps. base ≡ log_base (pages_at r ps)) paths known surveyed.base_is in
      let pages_so = at_some a.contents (λ ps. ArePages contents relation base lanes (pages_at r ps)) paths known surveyed.pages in
      let x = known_bytes a b c lanes' logs logs_known log log' opens told gives in
      record {
        paths = paths_after (relation_at r) (map contents lanes') paths;
        logs = with_log r.log (record { bytes = x.0; synced = synced log' }) logs;
        paths_are = given_paths a b c lanes' (Some log') open_so same gives paths known there_so;
        logs_are = given_file a b c lanes' logs logs_known log log' opens told gives;
        leaves = files_leave a b c relation base lanes lanes' log' end leaves same gives main paths logs x.0 x.1 relation_is base_is pages_so
            (given_marks a b c lanes' (Some log') open_so same gives paths known there_so) (rewrite_puts_nothing reads_now writes_now faults faults_now end cause);
      })
