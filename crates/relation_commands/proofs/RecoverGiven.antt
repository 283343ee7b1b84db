-- What the steps of a recovery leave of a host's files.
use Rattle.std.proofs.Common.{◌≡◌, ◌≢◌, ⊎_elim, ℕ, ◌+◌, ◌-◌, ◌^◌, ◌<◌, ◌≤◌, Bool, true, false, List, [], ◌∷◌, ◌++◌, append-nil, length, length-append, map, max, Option, Some, None, Result, Ok, Err, refl, sym, ap, ◌∙◌, subst, inl, inr, is_some, arith}
use Rattle.std.specs.Borrow.{Bor}
use Rattle.std.specs.Prelude.{All, IfErr, IfOk, IfSome, IsErrAnd, IsErrOf, IsSomeAnd, MatchResult, option_map}
use Rattle.std.specs.Cmp.Lexicographic.{same_text}
use Rattle.std.specs.Str.{bytes_eq}
use Rattle.std.proofs.lemmas.Bool.{both_ways, cases_Bool, cases_lt}
use Rattle.std.proofs.lemmas.Option.{slice_get_past}
use mathlib.Core.Option.{some}
use lib.ListN.{get_elem?}
use Rattle.block_tag.specs.declared.catalogue.RelEntry.{RelEntry}
use Rattle.block_tag.specs.declared.tag.Fork.{Fork}
use Rattle.block_tag.specs.declared.tag.Fork.TheVariants.{Main}
use Rattle.block_tag.specs.declared.tag.Tag.{Tag}
use Rattle.block_tag.specs.Names.{lane_number, packed_tag}
use Rattle.byte_devices.specs.Faults.{Rose}
use Rattle.byte_devices.specs.MemoryLog.{StoredLog}
use Rattle.segment_store.specs.declared.host.HostError.{HostError}
use Rattle.segment_store.specs.declared.host.HostError.TheVariants as host
use Rattle.segment_store.specs.declared.host.Opened.{Opened}
use Rattle.segment_store.specs.Contents.{AreFullPages, HasRoom, Marks, Pages}
use Rattle.segment_store.specs.Growth.{extended, last_held, paths_given, paths_grown}
use Rattle.segment_store.specs.Lanes.{dealt, lane_at, mark_in, page_in, tag_at}
use Rattle.segment_store.specs.Logs.{IsOpenedSource, Logs, logs_after}
use Rattle.segment_store.specs.Opening.{IsOpened}
use Rattle.segment_store.specs.Paths.{OpenAt, PathMarks, Paths, fork_of}
use Rattle.segment_store.specs.Relation.{relation_of}
use Rattle.segment_store.specs.Restored.{cleared, given_back, marks_after, pages_in, paths_after}
use Rattle.segment_store.proofs.Dealing.{page_dealt}
use Rattle.segment_store.proofs.GivenBack.{paths_same}
use Rattle.segment_store.proofs.GivenPages.{has_given_pages}
use Rattle.segment_store.proofs.Growing.{extended_none, length-relation}
use Rattle.pin_core.specs.State.{Page}
use Rattle.grid.proofs.Lists.{at_last, at_longer}
use Rattle.history_core.specs.Log.{AreImages, AreValid, Entry, Log, page_after, tag_in}
use Rattle.history_core.specs.Unentered.{IsEntered}
use Rattle.log_recovery.specs.declared.error.RecoverError.{RecoverError}
use Rattle.log_recovery.specs.declared.error.RecoverError.TheVariants as recovery
use Rattle.log_recovery.specs.declared.recovering.Redone.{Redone}
use Rattle.log_recovery.specs.Records.{HasBadHead, IsLogOf, from_head, too_short}
use Rattle.log_recovery.specs.Redo.{AreFirstOf, AreRedone, AreRedoneBut, FailsAt, IsRecovered, LeavesPart, MarksNone, Redoes, Tells}
use Rattle.log_recovery.proofs.Decided.{read_somehow}
use Rattle.log_recovery.proofs.ReadLogs.{is_log, one_log}
use Rattle.relation_commands.specs.RecoverCommand.{EndsRedo, TellsLogOf}
use Rattle.relation_commands.specs.RecoverFiles.{AreFirstIn, ForLogOf, IsEnteredIn, IsRecoveredAt, RecoverLeaves, RecoversFiles, RecoversTo, catalog_of, left_alone, longer_pages, redone_upto, with_more, word_at}
use Rattle.command_line.specs.Request.{LoggedAsked}
use Rattle.relation_commands.specs.declared.error.ToolError.{ToolError}
use Rattle.relation_commands.specs.declared.rewriting.RewriteError.{RewriteError}
use Rattle.relation_commands.specs.declared.rewriting.RewriteError.TheVariants.{ReadFault, WriteFault, LogFault, OutFault, Memory, OverLimit}
use Rattle.relation_commands.specs.RewriteCommand.{IsPutRefusal, rewrite_status}
use Rattle.relation_commands.specs.RewriteFiles.{BecomesOf, HostFiles, KeepsFiles, files_of, pages_at, relation_at, with_blocks}
use Rattle.relation_commands.specs.RewriteResults.{AreFull}
use Rattle.relation_commands.specs.Status.{host_error, recover_tool_error, rewrite_tool_error, status_of, status_of_error}
use Rattle.relation_commands.proofs.GivenFiles.{SamePaths, Told, at_some, becomes_by, files_with, same_paths, told_files}
use Rattle.relation_commands.proofs.GivingBack.{marks_elsewhere, marks_here, none_fails, same_bytes, unmarked_at, with_lanes}
use Rattle.relation_commands.proofs.RecoverNames.{one_catalogue}
use Rattle.relation_commands.proofs.Redone.{HoldsRedone, all_whole, each, fits, grows_by, held_last, held_within, hold_part, hold_redone, lanes_known, longer_of, marked_torn, needed, none_marked, reaches}
use Rattle.relation_commands.proofs.RewriteLeaves.{pages_long}
use Rattle.relation_commands.proofs.Stepping.{becomes_also, cleared_elsewhere, first_files, keeps_since, opened_before, opened_files}
use Rattle.relation_commands.proofs.WholePages.{relation_whole}

-- ---- paths of a relation that grew

more_path : (at : OpenAt) (room : ℕ) (lanes : List (Option Pages)) (paths : Paths) (path : List ℕ)
    → paths_grown at (Some room) lanes paths path ≡ with_more at (last_held (fork_of at.path) lanes room - length (relation_of at.seg_blocks (paths at.path))) paths path
more_path at room lanes paths path = elim (cases_Bool (bytes_eq path at.path)) [
  | inl same ↦ rw same (let is : path ≡ at.path = same_text path at.path (sym same) in
      ap (λ (p : List ℕ). extended at.seg_blocks (length (relation_of at.seg_blocks (paths path))) (last_held (fork_of at.path) lanes room - length (relation_of at.seg_blocks (paths p))) (paths path)) is)
  | inr other ↦ rw other
]

paths_more : (at : OpenAt) (room : ℕ) (lanes : List (Option Pages)) (paths : Paths)
    → paths_grown at (Some room) lanes paths ≡ with_more at (last_held (fork_of at.path) lanes room - length (relation_of at.seg_blocks (paths at.path))) paths
paths_more at room lanes paths = λ i path. more_path at room lanes paths path i

more_here : (at : OpenAt) (n : ℕ) (paths : Paths) → with_more at n paths at.path ≡ extended at.seg_blocks (length (relation_of at.seg_blocks (paths at.path))) n (paths at.path)
more_here at n paths = rw (same_bytes at.path)

none_path : (at : OpenAt) (paths : Paths) (path : List ℕ) → with_more at 0 paths path ≡ paths path
none_path at paths path = elim (cases_Bool (bytes_eq path at.path)) [
  | inl same ↦ rw same (extended_none at.seg_blocks (length (relation_of at.seg_blocks (paths path))) (paths path))
  | inr other ↦ rw other
]

none_more : (at : OpenAt) (paths : Paths) → with_more at 0 paths ≡ paths
none_more at paths = λ i path. none_path at paths path i

-- ---- the relation after entries

module _ (r : LoggedAsked) (main : fork_of r.path ≡ Main) (some_blocks : 1 ≤ r.options.seg_blocks) (es : List Entry) (valid : AreValid es) (images : AreImages es)
    (room : ℕ) (lanes : List (Option Pages)) (marks : List Marks) (whole : All (λ lane. IfSome lane AreFullPages) lanes) (old new : HostFiles)
    (h : HoldsRedone es (pages_at r old.paths) room lanes marks)
    (paths_are : new.paths ≡ paths_after (relation_at r) lanes (paths_grown (relation_at r) (Some room) lanes old.paths))
    (marks_are : new.failed ≡ marks_after (relation_at r) marks old.failed) (logs_are : new.logs ≡ old.logs) where
  abbrev segments : List (List ℕ)
  segments = old.paths r.path

  abbrev n : ℕ
  n = grows_by r.options.seg_blocks room lanes (old.paths r.path)

  longer_is : longer_of r.options.seg_blocks n segments ≡ longer_pages r n old.paths
  longer_is = ap (λ (l : List (List ℕ)). relation_of r.options.seg_blocks l) (sym (more_here (relation_at r) n old.paths))

  grown_is : paths_grown (relation_at r) (Some room) lanes old.paths ≡ with_more (relation_at r) n old.paths
  grown_is = paths_more (relation_at r) room lanes old.paths
      ∙ ap (λ (f : Fork). with_more (relation_at r) (last_held f lanes room - length (pages_at r old.paths)) old.paths) main

  blocks_are : new.paths ≡ with_blocks (relation_at r) (pages_in Main lanes 0 (longer_pages r n old.paths)) (with_more (relation_at r) n old.paths)
  blocks_are = paths_are
      ∙ ap (λ (ps : Paths). paths_after (relation_at r) lanes ps) grown_is
      ∙ with_lanes (relation_at r) lanes (with_more (relation_at r) n old.paths)
      ∙ ap (λ (f : Fork). with_blocks (relation_at r) (pages_in f lanes 0 (longer_pages r n old.paths)) (with_more (relation_at r) n old.paths)) main

  failed_are : new.failed r.path ≡ (λ block. mark_in marks (tag_at Main block))
  failed_are = ap (λ (m : PathMarks). m r.path) marks_are ∙ marks_here (relation_at r) marks old.failed
      ∙ ap {B = ℕ → Bool} (λ (f : Fork). λ (block : ℕ). mark_in marks (tag_at f block)) main

  marked : (block : ℕ) (b : Bool) → new.failed r.path block ≡ b → mark_in marks (tag_at Main block) ≡ b
  marked block b is = sym (ap (λ (f : ℕ → Bool). f block) failed_are) ∙ is

  all_full : AreFull (pages_in Main lanes 0 (longer_pages r n old.paths))
  all_full = subst AreFull (has_given_pages Main r.options.seg_blocks lanes (with_more (relation_at r) n old.paths r.path) whole)
      (relation_whole r.options.seg_blocks (given_back Main r.options.seg_blocks lanes (with_more (relation_at r) n old.paths r.path)))

  page_each : (block : ℕ) (was page : Page) → get_elem? (longer_pages r n old.paths) block ≡ some was → get_elem? (pages_in Main lanes 0 (longer_pages r n old.paths)) block ≡ some page
      → mark_in marks (tag_at Main block) ≡ false → Some page ≡ page_after (word_at block) es (Some was)
  page_each block was page at now unmarked = each r.options.seg_blocks segments some_blocks es valid images room lanes marks h block was page
      (ap (λ (l : List Page). get_elem? l block) longer_is ∙ at) (ap (λ (l : List Page). get_elem? (pages_in Main lanes 0 l) block) longer_is ∙ now) unmarked

  pub recovers_to : RecoversTo r es old new
  recovers_to = record {
    more = n;
    after = pages_in Main lanes 0 (longer_pages r n old.paths);
    paths = blocks_are;
    counted = pages_long Main lanes 0 (longer_pages r n old.paths);
    full = all_full;
    each = λ block was page at now unfailed. page_each block was page at now (marked block false unfailed);
    reaches = λ block low entered unfailed. reaches r.options.seg_blocks segments some_blocks es valid images room lanes marks h block low entered (marked block false unfailed);
    needed = λ grows. ⊎_elim
        (λ (entered : IsEntered es (word_at (length (pages_at r old.paths) + n - 1))). inl entered)
        (λ (is : mark_in marks (tag_at Main (length (pages_at r old.paths) + n - 1)) ≡ true). inr (ap (λ (f : ℕ → Bool). f (length (pages_at r old.paths) + n - 1)) failed_are ∙ is))
        (needed r.options.seg_blocks segments some_blocks es valid images room lanes marks h grows);
    fits = fits r.options.seg_blocks segments some_blocks es valid images room lanes marks h;
    one = λ a b is also. h.one a b (marked a true is) (marked b true also);
    others = λ other not. ap (λ (m : PathMarks). m other) marks_are ∙ marks_elsewhere (relation_at r) marks old.failed other not;
    logs = logs_are;
  }

-- ---- what ends leave

-- a log has no bad head
no_bad : (relations : List RelEntry) (bytes : List ℕ) (log : Log) → IsLogOf relations bytes log → HasBadHead bytes → ⊥
no_bad relations bytes _ (too_short few) bad = let many = bad.0 in omega (arith, few, many)
no_bad relations bytes _ (from_head base es head reads) bad = bad.1 base head

some_file : (o : Option StoredLog) (P : StoredLog → Type 0) → IsSomeAnd o P → (file : StoredLog) × (o ≡ Some file) × P file
some_file None P is = absurd is
some_file (Some file) P is = (file, refl, is)

module _ (r : LoggedAsked) (old : HostFiles) (file : StoredLog) (there : old.logs r.log ≡ Some file) where
  entered_in : (block : ℕ) → (log : Log) × IsLogOf (catalog_of r.path) file.bytes log
      → ((log : Log) → IsLogOf (catalog_of r.path) file.bytes log → IsEntered log.entries (word_at block)) → IsEnteredIn r old.logs block
  entered_in block read all = subst (λ (o : Option StoredLog). IsSomeAnd o (λ f. (log : Log) × (IsLogOf (catalog_of r.path) f.bytes log × IsEntered log.entries (word_at block))))
      (sym there) (read.0, (read.1, all read.0 read.1))

  first_of : (es : List Entry) → AreFirstOf (catalog_of r.path) file.bytes es → AreFirstIn r old.logs es
  first_of es first = subst (λ (o : Option StoredLog). IsSomeAnd o (λ f. (HasBadHead f.bytes → es ≡ []) × ((log : Log) → IsLogOf (catalog_of r.path) f.bytes log → (rest : List Entry) × (log.entries ≡ es ++ rest)))) (sym there)
      (first.0, λ log is. first.1 (one_catalogue _) log is)

  -- a log is its own first entries
  all_first : (log : Log) → IsLogOf (catalog_of r.path) file.bytes log → AreFirstOf (catalog_of r.path) file.bytes log.entries
  all_first log is = (
    λ bad. absurd (no_bad (catalog_of r.path) file.bytes log is bad),
    λ catalogue other also. ([], ap (λ (l : Log). l.entries) (one_log (catalog_of r.path) catalogue file.bytes other log also is) ∙ sym (append-nil log.entries)),
  )

-- a host's refusal is no success, and none of the output
host_fails : (e : HostError) (path : Bor (List ℕ)) → status_of_error (host_error e path) ≡ 0 → ⊥
host_fails host.Missing path zero = omega arith
host_fails host.Failed path zero = omega arith
host_fails host.Memory path zero = omega arith

host_unput : (e : HostError) (path : Bor (List ℕ)) → status_of_error (host_error e path) ≡ 7 → ⊥
host_unput host.Missing path seven = omega arith
host_unput host.Failed path seven = omega arith
host_unput host.Memory path seven = omega arith

same_error : (d e : RecoverError) → d ≡ e → IsErrOf {T = Redone} (Err d) e
same_error d e same = ap (λ (x : RecoverError). Err x) same

module _ (r : LoggedAsked) (old new : HostFiles) where
  -- what is done is a redo of some first entries
  any_done : IsRecoveredAt r old new → RecoverLeaves r old new
  any_done d = let law = is_log (catalog_of r.path) d.file.bytes d.log d.is in redone_upto d.log.entries
      (first_of r old d.file d.there d.log.entries (all_first r old d.file d.there d.log d.is)) (law.0.valid, law.1) d.redone
      (λ block failed. absurd (both_ways (new.failed r.path block) (d.unfailed block) failed))

  pub files_done : IsRecoveredAt r old new → RecoversFiles r 0 old new
  files_done d = record { any = any_done d; done = λ zero. d; refused = λ least most. absurd (omega arith); bad_log = λ ten. absurd (omega arith); out_fault = λ seven. absurd (omega arith) }

  -- nothing was written
  pub files_kept : (status : ℕ) → (status ≡ 0 → ⊥) → (status ≡ 7 → ⊥) → KeepsFiles r old new → RecoversFiles r status old new
  files_kept status fails unput keeps = record { any = left_alone keeps; done = λ zero. absurd (fails zero); refused = λ least most. keeps; bad_log = λ ten. keeps; out_fault = λ seven. absurd (unput seven) }

  -- a recovery was broken off
  pub files_part : (e : RecoverError) (path : Bor (List ℕ)) → RecoverLeaves r old new → (e ≡ recovery.BadLog → KeepsFiles r old new) → RecoversFiles r (status_of_error (recover_tool_error e path)) old new
  files_part recovery.BadLog path any keeps = record { any = any; done = λ zero. absurd (omega arith); refused = λ least most. absurd (omega arith); bad_log = λ ten. keeps refl; out_fault = λ seven. absurd (omega arith) }
  files_part recovery.ReadFault path any keeps = record { any = any; done = λ zero. absurd (omega arith); refused = λ least most. absurd (omega arith); bad_log = λ ten. absurd (omega arith); out_fault = λ seven. absurd (omega arith) }
  files_part recovery.WriteFault path any keeps = record { any = any; done = λ zero. absurd (omega arith); refused = λ least most. absurd (omega arith); bad_log = λ ten. absurd (omega arith); out_fault = λ seven. absurd (omega arith) }
  files_part recovery.Memory path any keeps = record { any = any; done = λ zero. absurd (omega arith); refused = λ least most. absurd (omega arith); bad_log = λ ten. absurd (omega arith); out_fault = λ seven. absurd (omega arith) }

  -- the text of a recovery that was done isn't out
  pub files_put : (faults faults_now : ℕ) (result : Result Unit RewriteError) → IfErr result (IsPutRefusal faults faults_now) → RecoversFiles r 0 old new → RecoversFiles r (rewrite_status result) old new
  files_put faults faults_now (Ok done) why leaves = leaves
  files_put faults faults_now (Err OutFault) why leaves = record { any = leaves.any; done = λ zero. absurd (omega arith); refused = λ least most. absurd (omega arith); bad_log = λ ten. absurd (omega arith); out_fault = λ seven. leaves.done refl }
  files_put faults faults_now (Err Memory) why leaves = record { any = leaves.any; done = λ zero. absurd (omega arith); refused = λ least most. absurd (omega arith); bad_log = λ ten. absurd (omega arith); out_fault = λ seven. absurd (omega arith) }
  files_put faults faults_now (Err ReadFault) why leaves = absurd why
  files_put faults faults_now (Err WriteFault) why leaves = absurd why
  files_put faults faults_now (Err LogFault) why leaves = absurd why
  files_put faults faults_now (Err (OverLimit limit)) why leaves = absurd why

-- an entry that follows some first ones is of the log
entered_next : (es rest all : List Entry) (e : Entry) (word : ℕ) → all ≡ (es ++ e ∷ []) ++ rest → tag_in e.change ≡ Some word → IsEntered all word
entered_next es rest all e word is of = subst (λ (l : List Entry). IsEntered l word) (sym is) (length es, e, record { there = at_longer (es ++ e ∷ []) rest (length es) e (at_last es e); of = of })

-- ---- lanes that were opened, and redone over

module _ {L : Type 0} (contents : L → Option Pages) (failed unsynced rooms : L → Marks) (reads writes : L → ℕ)
    (whole : (lane : L) → IfSome (contents lane) AreFullPages) (has_room : (lane : L) → IfSome (contents lane) (HasRoom (rooms lane)))
    (r : LoggedAsked) (main : fork_of r.path ≡ Main) (some_lanes : 1 ≤ r.options.lanes) (some_blocks : 1 ≤ r.options.seg_blocks)
    (old new : HostFiles) (room : ℕ) (opened : Opened L)
    (is : IsOpened contents failed unsynced rooms reads writes (Some old.paths) room r.path (fork_of r.path) r.options.seg_blocks r.options.lanes opened)
    (lanes : List L) (rooms_same : map rooms lanes ≡ map rooms opened.lanes.items)
    (paths_are : new.paths ≡ paths_after (relation_at r) (map contents lanes) (paths_grown (relation_at r) (Some room) (map contents lanes) old.paths))
    (marks_are : new.failed ≡ marks_after (relation_at r) (map failed lanes) old.failed) (logs_are : new.logs ≡ old.logs) where
  abbrev first : List L
  first = opened.lanes.items

  few : length (pages_at r old.paths) ≤ 2 ^ 32 - 1
  few = let counted = length-relation r.options.seg_blocks (old.paths r.path) in omega arith

  dealt_so : map contents first ≡ dealt Main (pages_at r old.paths) r.options.lanes
  dealt_so = is.only ∙ ap (λ (f : Fork). dealt f (pages_at r old.paths) r.options.lanes) main

  within : (block : ℕ) → is_some (page_in (map contents lanes) (tag_at Main block)) ≡ true → block < max room (length (pages_at r old.paths))
  within block held = subst (λ (n : ℕ). block < max room n) is.blocks
      (held_within contents rooms has_room first lanes (max room opened.blocks) (tag_at Main block) rooms_same is.rooms held)

  unmarked : (tag : Tag) → mark_in (map failed first) tag ≡ false
  unmarked tag = ap (λ (marks : Marks). marks tag) (unmarked_at failed first (lane_number tag (length (map failed first))) is.unmarked)

  redone_so : (es : List Entry) → Redoes contents failed es first lanes → AreRedone es (dealt Main (pages_at r old.paths) r.options.lanes) (map contents lanes) (map failed first) (map failed lanes)
  redone_so es redoes = subst (λ (l : List (Option Pages)). AreRedone es l (map contents lanes) (map failed first) (map failed lanes)) dealt_so redoes

  torn_so : (es : List Entry) (torn : Tag) → AreRedoneBut es (map contents first) (map contents lanes) (map failed first) (map failed lanes) torn
      → AreRedoneBut es (dealt Main (pages_at r old.paths) r.options.lanes) (map contents lanes) (map failed first) (map failed lanes) torn
  torn_so es torn but = subst (λ (l : List (Option Pages)). AreRedoneBut es l (map contents lanes) (map failed first) (map failed lanes) torn) dealt_so but

  to_files : (es : List Entry) → AreValid es → AreImages es → HoldsRedone es (pages_at r old.paths) room (map contents lanes) (map failed lanes) → RecoversTo r es old new
  to_files es valid images h = recovers_to r main some_blocks es valid images room (map contents lanes) (map failed lanes) (all_whole contents whole lanes) old new h paths_are marks_are logs_are

  failed_at : (block : ℕ) → new.failed r.path block ≡ mark_in (map failed lanes) (tag_at Main block)
  failed_at block = ap (λ (f : ℕ → Bool). f block) (ap (λ (m : PathMarks). m r.path) marks_are ∙ marks_here (relation_at r) (map failed lanes) old.failed)
      ∙ ap (λ (f : Fork). mark_in (map failed lanes) (tag_at f block)) main

  -- redo of all of some entries
  all_redone : (es : List Entry) → AreValid es → AreImages es → Redoes contents failed es first lanes → RecoversTo r es old new
  all_redone es valid images redoes = to_files es valid images
      (hold_redone es (pages_at r old.paths) few r.options.lanes some_lanes (map contents lanes) (map failed first) (map failed lanes) unmarked room (redone_so es redoes) within)

  none_failed : (es : List Entry) → Redoes contents failed es first lanes → (block : ℕ) → new.failed r.path block ≡ false
  none_failed es redoes block = failed_at block
      ∙ none_marked es (pages_at r old.paths) few r.options.lanes some_lanes (map contents lanes) (map failed first) (map failed lanes) unmarked (redone_so es redoes) (tag_at Main block)

  -- nothing was redone
  pub kept : lanes ≡ opened.lanes.items → KeepsFiles r old new
  kept same = record {
    pages = record {
      paths = paths_are ∙ ap (λ (ls : List L). paths_after (relation_at r) (map contents ls) (paths_grown (relation_at r) (Some room) (map contents ls) old.paths)) same
          ∙ ap (λ (ps : Paths). paths_after (relation_at r) (map contents first) ps) not_longer ∙ paths_same (relation_at r) (map contents first) old.paths is.holds;
      failed = none_fails failed (relation_at r) first old.paths old.failed new.failed is.unmarked (marks_are ∙ ap (λ (ls : List L). marks_after (relation_at r) (map failed ls) old.failed) same);
    };
    logs = logs_are;
  }
    where
      none_past : (block : ℕ) → length (pages_at r old.paths) ≤ block → page_in (map contents first) (tag_at Main block) ≡ None
      none_past block past = ap (λ (l : List (Option Pages)). page_in l (tag_at Main block)) dealt_so ∙ page_dealt Main (pages_at r old.paths) r.options.lanes block some_lanes
          ∙ slice_get_past (pages_at r old.paths) block past

      last_first : last_held Main (map contents first) room ≤ length (pages_at r old.paths)
      last_first = ⊎_elim
          (λ (past : length (pages_at r old.paths) < last_held Main (map contents first) room).
          let held = held_last Main (map contents first) room (omega arith) in
          let gone = none_past (last_held Main (map contents first) room - 1) (omega arith) in
          absurd (both_ways (is_some (page_in (map contents first) (tag_at Main (last_held Main (map contents first) room - 1)))) (ap (λ (o : Option Page). is_some o) gone) held))
          (λ (low : last_held Main (map contents first) room ≤ length (pages_at r old.paths)). low)
          (cases_lt (length (pages_at r old.paths)) (last_held Main (map contents first) room))

      not_longer : paths_grown (relation_at r) (Some room) (map contents first) old.paths ≡ old.paths
      not_longer = paths_more (relation_at r) room (map contents first) old.paths
          ∙ ap (λ (f : Fork). with_more (relation_at r) (last_held f (map contents first) room - length (pages_at r old.paths)) old.paths) main
          ∙ ap (λ (n : ℕ). with_more (relation_at r) n old.paths) (let low = last_first in let none : last_held Main (map contents first) room - length (pages_at r old.paths) ≡ 0 = omega arith in none)
          ∙ none_more (relation_at r) old.paths

  module _ (file : StoredLog) (there : old.logs r.log ≡ Some file) (source : Option (List ℕ)) (left : source ≡ Some file.bytes) where
    -- all was redone
    pub done : (told : Redone) → IsRecovered contents failed (catalog_of r.path) source opened.lanes.items lanes told → IsRecoveredAt r old new
    done told recovered = record {
      file = file;
      there = there;
      log = recovered.log;
      is = subst (λ (o : Option (List ℕ)). IfSome o (λ bytes. IsLogOf (catalog_of r.path) bytes recovered.log)) left recovered.is;
      redone = all_redone recovered.log.entries recovered.law.0.valid recovered.law.1 recovered.lanes;
      unfailed = none_failed recovered.log.entries recovered.lanes;
    }

    first_so : (es : List Entry) → IfSome source (λ bytes. AreFirstOf (catalog_of r.path) bytes es) → AreFirstOf (catalog_of r.path) file.bytes es
    first_so es first = subst (λ (o : Option (List ℕ)). IfSome o (λ bytes. AreFirstOf (catalog_of r.path) bytes es)) left first

    -- no block is marked where none was marked since
    none_marked_since : MarksNone contents failed first lanes → (block : ℕ) → new.failed r.path block ≡ true → ⊥
    none_marked_since none block fails =
        let tag = tag_at Main block in
        let known = ap (λ (l : List (Option Pages)). is_some (lane_at l tag)) dealt_so ∙ lanes_known (pages_at r old.paths) r.options.lanes some_lanes tag in
        both_ways (mark_in (map failed first) tag) (unmarked tag) (none tag known (sym (failed_at block) ∙ fails))

    -- so the count of such faults rose
    rose_by : (e : RecoverError) → (e ≢ recovery.WriteFault → MarksNone contents failed first lanes) → (e ≡ recovery.WriteFault → Rose old.write_faults new.write_faults)
        → (block : ℕ) → new.failed r.path block ≡ true → Rose old.write_faults new.write_faults
    rose_by recovery.BadLog marked rose block fails = absurd (none_marked_since (marked (λ is. absurd (cc))) block fails)
    rose_by recovery.ReadFault marked rose block fails = absurd (none_marked_since (marked (λ is. absurd (cc))) block fails)
    rose_by recovery.WriteFault marked rose block fails = rose refl
    rose_by recovery.Memory marked rose block fails = absurd (none_marked_since (marked (λ is. absurd (cc))) block fails)

    -- some first entries were redone, and maybe the write of the next one failed
    pub part : (e : RecoverError) → (e ≢ recovery.WriteFault → MarksNone contents failed first lanes) → (e ≡ recovery.WriteFault → Rose old.write_faults new.write_faults)
        → LeavesPart contents failed (catalog_of r.path) source opened.lanes.items lanes → RecoverLeaves r old new
    part e marked rose p = ⊎_elim
        (λ (redoes : Redoes contents failed p.entries first lanes). redone_upto p.entries upto p.valid (all_redone p.entries p.valid.0 p.valid.1 redoes)
        (λ block fails. absurd (both_ways (new.failed r.path block) (none_failed p.entries redoes block) fails)))
        (λ (f : FailsAt contents failed (λ es. IfSome source (λ bytes. AreFirstOf (catalog_of r.path) bytes es)) p.entries first lanes).
        redone_upto p.entries upto p.valid
        (to_files p.entries p.valid.0 p.valid.1 (hold_part p.entries (pages_at r old.paths) few r.options.lanes some_lanes (map contents lanes) (map failed first) (map failed lanes) unmarked f.tag f.named (torn_so p.entries f.tag f.lanes) room within))
        (λ block fails. (entered_in r old file there block (read_so f) (λ log is_log. torn_entered f block fails log is_log), rose_by e marked rose block fails)))
        p.lanes
      where
        upto : AreFirstIn r old.logs p.entries
        upto = first_of r old file there p.entries (first_so p.entries p.first)

        -- the file's head isn't bad, as the next entry is read after it
        read_so : FailsAt contents failed (λ es. IfSome source (λ bytes. AreFirstOf (catalog_of r.path) bytes es)) p.entries first lanes → (log : Log) × IsLogOf (catalog_of r.path) file.bytes log
        read_so f = read_somehow (catalog_of r.path) file.bytes (λ bad.
            let none : length (p.entries ++ f.entry ∷ []) ≡ 0 = ap (λ (es : List Entry). length es) ((first_so (p.entries ++ f.entry ∷ []) f.next).0 bad) in
            let long = length-append p.entries (f.entry ∷ []) in
            absurd (omega arith))

        torn_entered : (f : FailsAt contents failed (λ es. IfSome source (λ bytes. AreFirstOf (catalog_of r.path) bytes es)) p.entries first lanes) (block : ℕ) → new.failed r.path block ≡ true
            → (log : Log) → IsLogOf (catalog_of r.path) file.bytes log → IsEntered log.entries (word_at block)
        torn_entered f block fails log of_file =
            let next = (first_so (p.entries ++ f.entry ∷ []) f.next).1 (one_catalogue _) log of_file in
            let torn = marked_torn p.entries (pages_at r old.paths) few r.options.lanes some_lanes (map contents lanes) (map failed first) (map failed lanes) unmarked f.tag f.named (torn_so p.entries f.tag f.lanes)
            block (sym (failed_at block) ∙ fails) in
            entered_next p.entries next.0 log.entries f.entry (word_at block) next.1 (f.of ∙ ap (λ (t : Tag). Some (packed_tag t)) (sym torn))

-- the status of a put as the tool has it
pub put_status_is : (Post : RewriteError → ToolError → Type 0) (put : Result Unit RewriteError) (result : Result Unit ToolError) → ((e : RewriteError) (d : ToolError) → Post e d → d ≡ rewrite_tool_error e)
    → MatchResult put (λ x. result ≡ Ok x) (λ e. IsErrAnd result (Post e)) → status_of result ≡ rewrite_status put
put_status_is Post (Ok x) result is cases = ap (λ (s : Result Unit ToolError). status_of s) cases
put_status_is Post (Err e) (Ok x) is cases = absurd cases
put_status_is Post (Err e) (Err d) is cases = ap (λ (x : ToolError). status_of_error x) (is e d cases)

pub put_files : (r : LoggedAsked) (old new : Option HostFiles) (faults faults_now : ℕ) (put : Result Unit RewriteError) → IfErr put (IsPutRefusal faults faults_now)
    → BecomesOf old new (RecoversFiles r 0) → BecomesOf old new (RecoversFiles r (rewrite_status put))
put_files r old new faults faults_now put why becomes = becomes_also old new (RecoversFiles r 0) (RecoversFiles r (rewrite_status put)) (λ o n leaves. files_put r o n faults faults_now put why leaves) becomes

-- an end as the tool has it
abbrev pub recover_result : {T : Type 0} → Bor (List ℕ) → Result T RecoverError → Result T ToolError
recover_result path (Ok x) = Ok x
recover_result path (Err e) = Err (recover_tool_error e path)

pub mapped_error : {T : Type 0} (path : Bor (List ℕ)) (Post : RecoverError → ToolError → Type 0) (end : Result T RecoverError) (result : Result T ToolError)
    → ((e : RecoverError) (d : ToolError) → Post e d → d ≡ recover_tool_error e path)
    → MatchResult end (λ x. result ≡ Ok x) (λ e. IsErrAnd result (Post e)) → result ≡ recover_result path end
mapped_error path Post (Ok x) result is cases = cases
mapped_error path Post (Err e) (Ok x) is cases = absurd cases
mapped_error path Post (Err e) (Err d) is cases = ap (λ (x : ToolError). Err x) (is e d cases)

-- ---- a host

-- Lanes were given back, and maybe the source of a log: the relation may have grown then
pub record GivesGrown {L S : Type 0} (contents : L → Option Pages) (failed : L → Marks) (room : List ℕ → ℕ → ℕ) (b c : Told) (lanes : List L) (source : Option S) : Type 0 where
  pub paths : c.contents ≡ option_map (paths_given room b.open_at source (map contents lanes)) b.contents
  pub marks : IfSome b.contents (λ paths. paths b.open_at.path ≢ [] → c.failed ≡ marks_after b.open_at (map failed lanes) b.failed)
  pub logs : c.logs ≡ option_map (logs_after b.log_at None) b.logs

-- no log is given back
logs_stay : (at : List ℕ) (logs : Option Logs) → option_map (logs_after at None) logs ≡ logs
logs_stay at None = refl
logs_stay at (Some logs) = refl

-- the relation that is asked for is open
abbrev pub OpensPath : LoggedAsked → Told → Type 0
OpensPath r a = IfSome a.contents (λ _. a.open_at ≡ relation_at r)

module _ {L S : Type 0} (contents : L → Option Pages) (failed : L → Marks) (room : List ℕ → ℕ → ℕ) (r : LoggedAsked) (a b c : Told) (lanes : List L) (source : Option S)
    (open_so : OpensPath r a) (same : SamePaths a b) (gives : GivesGrown contents failed room b c lanes source) (paths : Paths) (known : a.contents ≡ Some paths) where
  opened_so : b.open_at ≡ relation_at r
  opened_so = at_some a.contents (λ _. b.open_at ≡ a.open_at) paths known same.open_at ∙ at_some a.contents (λ _. a.open_at ≡ relation_at r) paths known open_so

  grown_paths : c.contents ≡ Some (paths_given room (relation_at r) source (map contents lanes) paths)
  grown_paths = gives.paths ∙ ap (λ (o : Option Paths). option_map (paths_given room b.open_at source (map contents lanes)) o) (same.contents ∙ known)
      ∙ ap (λ (at : OpenAt). Some (paths_given room at source (map contents lanes) paths)) opened_so

  grown_marks : paths r.path ≢ [] → c.failed ≡ marks_after (relation_at r) (map failed lanes) a.failed
  grown_marks there =
      let marks = at_some b.contents (λ (ps : Paths). ps b.open_at.path ≢ [] → c.failed ≡ marks_after b.open_at (map failed lanes) b.failed) paths (same.contents ∙ known) gives.marks in
      subst (λ (at : OpenAt). paths at.path ≢ [] → c.failed ≡ marks_after at (map failed lanes) b.failed) opened_so marks there
      ∙ ap (λ (m : PathMarks). marks_after (relation_at r) (map failed lanes) m) (at_some a.contents (λ _. b.failed ≡ a.failed) paths known same.failed)

module _ {L S : Type 0} (contents : L → Option Pages) (failed unsynced rooms : L → Marks) (reads writes : L → ℕ) (left : S → Option (List ℕ)) (faults : S → ℕ)
    (whole : (lane : L) → IfSome (contents lane) AreFullPages) (has_room : (lane : L) → IfSome (contents lane) (HasRoom (rooms lane)))
    (r : LoggedAsked) (main : fork_of r.path ≡ Main) (some_lanes : 1 ≤ r.options.lanes) (some_blocks : 1 ≤ r.options.seg_blocks)
    (a : Told) (room : List ℕ → ℕ → ℕ) (opened : Opened L)
    (is : IsOpened contents failed unsynced rooms reads writes a.contents (room r.path r.options.seg_blocks) r.path (fork_of r.path) r.options.seg_blocks r.options.lanes opened)
    (open_so : OpensPath r a) where
  is_known : (paths : Paths) → a.contents ≡ Some paths
      → IsOpened contents failed unsynced rooms reads writes (Some paths) (room r.path r.options.seg_blocks) r.path (fork_of r.path) r.options.seg_blocks r.options.lanes opened
  is_known paths known = subst (λ (k : Option Paths). IsOpened contents failed unsynced rooms reads writes k (room r.path r.options.seg_blocks) r.path (fork_of r.path) r.options.seg_blocks r.options.lanes opened) known is

  -- after a redo lanes and source are given back
  module _ (c : Told) (lanes : List L) (source source_now : S) (gives : GivesGrown contents failed room a c lanes (Some source_now))
      (opens : IsOpenedSource left faults a.logs r.log source) where
    -- what is known of it, where the paths and the logs are
    record Known (paths : Paths) (logs : Logs) : Type 0 where
      file : StoredLog
      there : logs r.log ≡ Some file
      left_is : left source ≡ Some file.bytes
      opened_is : IsOpened contents failed unsynced rooms reads writes (Some paths) (room r.path r.options.seg_blocks) r.path (fork_of r.path) r.options.seg_blocks r.options.lanes opened
      marks_are : c.failed ≡ marks_after (relation_at r) (map failed lanes) a.failed

    known_by : (paths : Paths) (logs : Logs) → a.contents ≡ Some paths → a.logs ≡ Some logs → Known paths logs
    known_by paths logs known logs_known =
        let f = some_file (logs r.log) (λ file. left source ≡ Some file.bytes) (at_some a.logs (λ ls. IsSomeAnd (ls r.log) (λ file. left source ≡ Some file.bytes)) logs logs_known opens.there) in
        let opened_is = is_known paths known in
        record {
          file = f.0;
          there = f.1;
          left_is = f.2;
          opened_is = opened_is;
          marks_are = grown_marks contents failed room r a a c lanes (Some source_now) open_so (same_paths a) gives paths known opened_is.there;
        }

    abbrev old_files : Paths → Logs → HostFiles
    old_files paths logs = files_with a paths logs

    abbrev new_files : Paths → Logs → HostFiles
    new_files paths logs = files_with c (paths_given room (relation_at r) (Some source_now) (map contents lanes) paths) logs

    becomes : (Leaves : HostFiles → HostFiles → Type 0)
        → ((paths : Paths) (logs : Logs) → Known paths logs → Leaves (old_files paths logs) (new_files paths logs))
        → BecomesOf (told_files a) (told_files c) Leaves
    becomes Leaves all = becomes_by a c Leaves (λ paths logs known logs_known. record {
      paths = paths_given room (relation_at r) (Some source_now) (map contents lanes) paths;
      logs = logs;
      paths_are = grown_paths contents failed room r a a c lanes (Some source_now) open_so (same_paths a) gives paths known;
      logs_are = gives.logs ∙ logs_stay a.log_at a.logs ∙ logs_known;
      leaves = all paths logs (known_by paths logs known logs_known);
    })

    pub recovered_files : (told : Redone) → EndsRedo contents failed rooms reads writes left faults (catalog_of r.path) opened.lanes.items lanes source source_now (Ok told)
        → BecomesOf (told_files a) (told_files c) (RecoversFiles r 0)
    recovered_files told ends = becomes (RecoversFiles r 0) (λ paths logs k. files_done r (old_files paths logs) (new_files paths logs)
        (done contents failed unsynced rooms reads writes whole has_room r main some_lanes some_blocks (old_files paths logs) (new_files paths logs) (room r.path r.options.seg_blocks) opened
        k.opened_is lanes ends.rooms refl k.marks_are refl k.file k.there (left source) k.left_is told ends.redone))

    pub part_files : (e : RecoverError) (path : Bor (List ℕ))
        → EndsRedo contents failed rooms reads writes left faults (catalog_of r.path) opened.lanes.items lanes source source_now (Err e)
        → (IsErrOf {T = Redone} (Err e) recovery.WriteFault → Rose a.writes c.writes)
        → BecomesOf (told_files a) (told_files c) (RecoversFiles r (status_of_error (recover_tool_error e path)))
    part_files e path ends rose = becomes (RecoversFiles r (status_of_error (recover_tool_error e path))) (λ paths logs k. files_part r (old_files paths logs) (new_files paths logs) e path
        (part contents failed unsynced rooms reads writes whole has_room r main some_lanes some_blocks (old_files paths logs) (new_files paths logs) (room r.path r.options.seg_blocks) opened
        k.opened_is lanes ends.rooms refl k.marks_are refl k.file k.there (left source) k.left_is e ends.marked (λ is. rose (same_error e recovery.WriteFault is)) ends.part)
        (λ bad. kept contents failed unsynced rooms reads writes whole has_room r main some_lanes some_blocks (old_files paths logs) (new_files paths logs) (room r.path r.options.seg_blocks) opened
        k.opened_is lanes ends.rooms refl k.marks_are refl (ends.bad (same_error e recovery.BadLog bad)).0))

    pub files_by : (path : Bor (List ℕ)) (end : Result Redone RecoverError)
        → EndsRedo contents failed rooms reads writes left faults (catalog_of r.path) opened.lanes.items lanes source source_now end
        → (IsErrOf end recovery.WriteFault → Rose a.writes c.writes)
        → BecomesOf (told_files a) (told_files c) (RecoversFiles r (status_of (recover_result path end)))
    files_by path (Ok told) ends rose = recovered_files told ends
    files_by path (Err e) ends rose = part_files e path ends rose

  -- the log wasn't opened: the lanes are given back as they were
  pub unopened_files : (b c : Told) → SamePaths a b → b.logs ≡ a.logs → GivesGrown {S = S} contents failed room b c opened.lanes.items None
      → (e : HostError) (path : Bor (List ℕ)) → BecomesOf (told_files a) (told_files c) (RecoversFiles r (status_of_error (host_error e path)))
  unopened_files b c same logs_same gives e path = becomes_by a c (RecoversFiles r (status_of_error (host_error e path))) (λ paths logs known logs_known.
      let opened_is = is_known paths known in
      let marks_are = grown_marks contents failed room r a b c opened.lanes.items None open_so same gives paths known opened_is.there in
      record {
        paths = paths_after (relation_at r) (map contents opened.lanes.items) paths;
        logs = logs;
        paths_are = grown_paths contents failed room r a b c opened.lanes.items None open_so same gives paths known;
        logs_are = gives.logs ∙ logs_stay b.log_at b.logs ∙ logs_same ∙ logs_known;
        leaves = files_kept r _ _ (status_of_error (host_error e path)) (host_fails e path) (host_unput e path) (record {
          pages = record {
            paths = paths_same (relation_at r) (map contents opened.lanes.items) paths opened_is.holds;
            failed = none_fails failed (relation_at r) opened.lanes.items paths a.failed c.failed opened_is.unmarked marks_are;
          };
          logs = refl;
        });
      })

-- ---- what is told

module _ {L S : Type 0} (contents : L → Option Pages) (failed rooms : L → Marks) (reads writes : L → ℕ) (left : S → Option (List ℕ)) (faults : S → ℕ)
    (r : LoggedAsked) (known : Option Logs) (first lanes : List L) (source source_now : S) (opens : IsOpenedSource left faults known r.log source) where
  -- what is told is told of the log that the file is
  pub tells_so : (told : Redone) → EndsRedo contents failed rooms reads writes left faults (catalog_of r.path) first lanes source source_now (Ok told) → TellsLogOf r known told
  tells_so told ends = by_logs known opens.there
    where
      by_file : (logs : Logs) (file : StoredLog) → logs r.log ≡ Some file → left source ≡ Some file.bytes → ForLogOf r logs (λ log. Tells log told)
      by_file logs file there left_is = subst (λ (o : Option StoredLog). IfSome o (λ f. (log : Log) → IsLogOf (catalog_of r.path) f.bytes log → Tells log told)) (sym there)
          (λ log of_file. subst (λ (l : Log). Tells l told)
          (one_log (catalog_of r.path) (one_catalogue _) file.bytes ends.redone.log log
          (subst (λ (o : Option (List ℕ)). IfSome o (λ bytes. IsLogOf (catalog_of r.path) bytes ends.redone.log)) left_is ends.redone.is) of_file)
          ends.redone.told)

      by_logs : (logs : Option Logs) → IfSome logs (λ logs. IsSomeAnd (logs r.log) (λ file. left source ≡ Some file.bytes)) → TellsLogOf r logs told
      by_logs None there = tt
      by_logs (Some logs) there = let f = some_file (logs r.log) (λ file. left source ≡ Some file.bytes) there in by_file logs f.0 f.1 f.2

  pub tells_by : (path : Bor (List ℕ)) (end : Result Redone RecoverError)
      → EndsRedo contents failed rooms reads writes left faults (catalog_of r.path) first lanes source source_now end
      → IfOk (recover_result path end) (TellsLogOf r known)
  tells_by path (Ok told) ends = tells_so told ends
  tells_by path (Err e) ends = tt

-- ---- since the relation was opened

module _ (r : LoggedAsked) (paths : Paths) (marks : PathMarks) (logs : Logs) (writes faults : ℕ) (new : HostFiles) where
  abbrev files_opened : HostFiles
  files_opened = opened_files r paths marks logs writes faults new

  abbrev files_before : HostFiles
  files_before = first_files r paths marks logs writes faults new

  recovers_since : (es : List Entry) → RecoversTo r es files_opened new → RecoversTo r es files_before new
  recovers_since es t = record {
    more = t.more;
    after = t.after;
    paths = t.paths;
    counted = t.counted;
    full = t.full;
    each = t.each;
    reaches = t.reaches;
    needed = t.needed;
    fits = t.fits;
    one = t.one;
    others = λ other not. t.others other not ∙ cleared_elsewhere r.path marks other not;
    logs = t.logs;
  }

  kept_since : KeepsFiles r files_opened new → KeepsFiles r files_before new
  kept_since keeps = record { pages = keeps_since r paths marks logs writes faults new keeps.pages; logs = keeps.logs }

  left_since : RecoverLeaves r files_opened new → RecoverLeaves r files_before new
  left_since (left_alone keeps) = left_alone (kept_since keeps)
  left_since (redone_upto es first valid redone torn) = redone_upto es first valid (recovers_since es redone) torn

  done_since : IsRecoveredAt r files_opened new → IsRecoveredAt r files_before new
  done_since d = record { file = d.file; there = d.there; log = d.log; is = d.is; redone = recovers_since d.log.entries d.redone; unfailed = d.unfailed }

  recovered_since : (status : ℕ) → RecoversFiles r status files_opened new → RecoversFiles r status files_before new
  recovered_since status leaves = record {
    any = left_since leaves.any;
    done = λ zero. done_since (leaves.done zero);
    refused = λ least most. kept_since (leaves.refused least most);
    bad_log = λ ten. kept_since (leaves.bad_log ten);
    out_fault = λ seven. done_since (leaves.out_fault seven);
  }

-- what is left of the files since the relation was opened
pub recovered_opened : (r : LoggedAsked) (status : ℕ) (known known_now : Option Paths) (marks marks_now : PathMarks) (logs logs_now : Option Logs) (writes writes_now faults faults_now : ℕ) (new : Option HostFiles)
    → known_now ≡ known → IfSome known (λ _. marks_now ≡ cleared r.path marks) → logs_now ≡ logs → writes_now ≡ writes → faults_now ≡ faults
    → BecomesOf (files_of known_now marks_now logs_now writes_now faults_now) new (RecoversFiles r status) → BecomesOf (files_of known marks logs writes faults) new (RecoversFiles r status)
recovered_opened r status known known_now marks marks_now logs logs_now writes writes_now faults faults_now new same marks_are logs_same writes_same faults_same becomes =
    opened_before r (RecoversFiles r status) known known_now marks marks_now logs logs_now writes writes_now faults faults_now new same marks_are logs_same writes_same faults_same
    (λ paths ls n leaves. recovered_since r paths marks ls writes faults n status leaves) becomes
