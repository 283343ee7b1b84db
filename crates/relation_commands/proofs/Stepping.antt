-- From one step of a rewrite to the next.
use Rattle.std.proofs.Common.{◌≡◌, ℕ, zero, suc, ◌+◌, ◌*◌, ◌%◌, ◌^◌, ◌<◌, ◌≤◌, true, false, List, [], ◌∷◌, get_or, length, map, Option, Some, None, Result, Ok, Err, refl, sym, ap, ◌∙◌, subst, is_some, inl, inr, ⊎_elim, unwrap_or, arith}
use Rattle.std.specs.Prelude.{All, IfErr, IfSome, IsSomeAnd, option_map, sum_by}
use Rattle.std.specs.List.{range_with_len}
use Rattle.std.specs.Str.{bytes_eq}
use Rattle.std.proofs.Math.ListN.{get_or-map}
use Rattle.std.proofs.lemmas.List.{length-map}
use Rattle.std.proofs.lemmas.List.Sums.{count_by-le-length}
use Rattle.block_tag.specs.declared.tag.Fork.{Fork}
use Rattle.block_tag.specs.declared.tag.Fork.TheVariants.{Main}
use Rattle.command_line.specs.RelationPath.{relation_number}
use Rattle.byte_devices.specs.Bytes.{Puts}
use Rattle.byte_devices.specs.MemoryLog.{StoredLog}
use Rattle.page_layout.specs.declared.outcomes.RewriteTotals.{RewriteTotals}
use Rattle.page_layout.specs.Outcomes.{is_changed_outcome, page_rewrite_of, rewrite_totals_of}
use Rattle.segment_store.specs.declared.host.Opened.{Opened}
use Rattle.segment_store.specs.Contents.{Marks, Pages, no_marks}
use Rattle.segment_store.specs.Lanes.{HasBlocks, HoldPages, dealt, own_pages}
use Rattle.segment_store.specs.Opening.{IsOpened}
use Rattle.segment_store.specs.Paths.{PathMarks, Paths, fork_of}
use Rattle.segment_store.specs.Logs.{Logs}
use Rattle.segment_store.specs.Relation.{relation_of}
use Rattle.segment_store.specs.Restored.{cleared}
use Rattle.pin_core.specs.State.{Page}
use Rattle.lane_survey.specs.Survey.{AreOnlyRead}
use Rattle.relation_commands.specs.declared.rewriting.RewriteError.{RewriteError}
use Rattle.relation_commands.specs.declared.rewriting.RewriteError.TheVariants.{ReadFault, WriteFault, LogFault, OutFault, Memory, OverLimit}
use Rattle.relation_commands.specs.declared.starting.RelationFork.{RelationFork}
use Rattle.relation_commands.specs.Answers.{ArePastLimit}
use Rattle.relation_commands.specs.Limits.{largest_lsn, log_base, rounded_up}
use Rattle.relation_commands.specs.Listings.{NoneFails}
use Rattle.command_line.specs.Request.{LoggedAsked}
use Rattle.relation_commands.specs.RewriteCommand.{AreSurveyed, IsPutRefusal, MeetsLimit, StaysBelowLimit}
use Rattle.relation_commands.specs.RewriteFiles.{BecomesOf, BeginsHead, BeginsLog, Changes, HostFiles, IsRewrittenAt, KeepsFiles, KeepsPaths, RewriteLeaves, RewritesFiles, files_of, fork_at, log_opened, pages_at, rewrote, untouched}
use Rattle.relation_commands.specs.RewriteTexts.{rewrite_lines, rewrite_text}
use Rattle.relation_commands.specs.Rewriting.{ArePages, HavePages}
use Rattle.relation_commands.proofs.GivingBack.{same_bytes}
use Rattle.relation_commands.proofs.Putting.{puts_nothing}

module _ {L : Type 0} (contents : L → Option Pages) (failed unsynced : L → Marks) (read_faults write_faults : L → ℕ) where
  same_marks : (ls ms : List L) → map failed ms ≡ map failed ls → length ms ≡ length ls → All (λ lane. failed lane ≡ no_marks) ls → All (λ lane. failed lane ≡ no_marks) ms
  same_marks ls ms same long all k d below =
      sym (get_or-map failed ms k d) ∙ ap (λ (l : List Marks). get_or l k (failed d)) same ∙ get_or-map failed ls k d ∙ all k d (omega (arith, long, below))

  some_among : (g : ℕ → Pages) (ns : List ℕ) (k : ℕ) (d : Option Pages) → k < length ns → is_some (get_or (map (λ (n : ℕ). Some (g n)) ns) k d) ≡ true
  some_among g [] k d below = absurd (omega arith)
  some_among g (n ∷ ns) zero d below = refl
  some_among g (n ∷ ns) (suc k) d below = some_among g ns k d (omega arith)

  all_known : (g : ℕ → Pages) (ns : List ℕ) (ls : List L) → map contents ls ≡ map (λ (n : ℕ). Some (g n)) ns → All (λ lane. is_some (contents lane) ≡ true) ls
  all_known g ns ls same k d below =
      let long : k < length ns = (let a = ap (λ (l : List (Option Pages)). length l) same in let b = length-map ls contents in let e = length-map ns (λ (n : ℕ). Some (g n)) in omega (arith, a, b, e, below)) in
      ap (λ (o : Option Pages). is_some o) (sym (get_or-map contents ls k d) ∙ ap (λ (l : List (Option Pages)). get_or l k (contents d)) same) ∙ some_among g ns k (contents d) long

  round_up : (n : ℕ) → n ≤ rounded_up n
  round_up n = omega arith

  past_base : (pages : List Page) (base : ℕ) → base ≡ log_base pages → largest_lsn pages ≤ base
  unfolding log_base
  past_base pages base is = let up = round_up (largest_lsn pages) in omega (arith, is, up)

  module _ (r : LoggedAsked) (opened : Opened L) (lanes : List L) (same : AreOnlyRead contents failed unsynced write_faults opened.lanes.items lanes) where
    long : length lanes ≡ length opened.lanes.items
    long = sym (length-map lanes contents) ∙ ap (λ (l : List (Option Pages)). length l) same.contents_same ∙ length-map opened.lanes.items contents

    pub still_unmarked : All (λ lane. failed lane ≡ no_marks) opened.lanes.items → All (λ lane. failed lane ≡ no_marks) lanes
    still_unmarked unmarked = same_marks opened.lanes.items lanes same.failed_same long unmarked

    -- where the paths are known the lanes still hold the pages
    still_hold : (paths : Paths) → HoldPages (fork_of r.path) (pages_at r paths) (map contents opened.lanes.items) → HoldPages (fork_of r.path) (pages_at r paths) (map contents lanes)
    still_hold paths held = subst (λ (ls : List (Option Pages)). HoldPages (fork_of r.path) (pages_at r paths) ls) (sym same.contents_same) held

    pub hold_so : (known : Option Paths) → IfSome known (λ paths. HoldPages (fork_of r.path) (relation_of r.options.seg_blocks (paths r.path)) (map contents opened.lanes.items))
        → IfSome known (λ paths. HoldPages (fork_of r.path) (pages_at r paths) (map contents lanes))
    hold_so None held = tt
    hold_so (Some paths) held = still_hold paths held

  module _ (r : LoggedAsked) (main : fork_of r.path ≡ Main) (opened : Opened L) (lanes : List L) (number base : ℕ) (number_is : number ≡ unwrap_or (relation_number r.path) 0)
      (same : AreOnlyRead contents failed unsynced write_faults opened.lanes.items lanes) where
    abbrev relation : RelationFork
    relation = record { number = number; fork = Main; blocks = opened.blocks }

    relation_so : (known : Option Paths) → IfSome known (λ paths. opened.blocks ≡ length (pages_at r paths)) → IfSome known (λ paths. relation ≡ fork_at r paths)
    relation_so None blocks = tt
    relation_so (Some paths) blocks =
        let named : fork_at r paths ≡ record { number = number; fork = Main; blocks = length (pages_at r paths) } =
        ap (λ (n : ℕ). let f : RelationFork = record { number = n; fork = Main; blocks = length (pages_at r paths) } in f) (sym number_is) in
        ap (λ (n : ℕ). let f : RelationFork = record { number = number; fork = Main; blocks = n } in f) blocks ∙ sym named

    have_so : (paths : Paths) → opened.blocks ≡ length (pages_at r paths) → HoldPages (fork_of r.path) (pages_at r paths) (map contents opened.lanes.items)
        → HavePages contents relation opened.lanes.items (pages_at r paths)
    have_so paths blocks held = record { held = subst (λ (f : Fork). HoldPages f (pages_at r paths) (map contents opened.lanes.items)) main held; counted = blocks }

    module _ (base_so : (pages : List Page) → HavePages contents relation opened.lanes.items pages → base ≡ log_base pages) where
      begins_so : (known : Option Paths) → IfSome known (λ paths. opened.blocks ≡ length (pages_at r paths)) → IfSome known (λ paths. HoldPages (fork_of r.path) (pages_at r paths) (map contents opened.lanes.items))
          → IfSome known (λ paths. base ≡ log_base (pages_at r paths))
      begins_so None blocks held = tt
      begins_so (Some paths) blocks held = base_so (pages_at r paths) (have_so paths blocks held)

      pages_so : (known : Option Paths) → IfSome known (λ paths. opened.blocks ≡ length (pages_at r paths)) → IfSome known (λ paths. HoldPages (fork_of r.path) (pages_at r paths) (map contents opened.lanes.items))
          → IfSome known (λ paths. map contents opened.lanes.items ≡ dealt (fork_of r.path) (pages_at r paths) r.options.lanes)
          → IfSome known (λ paths. ArePages contents relation base lanes (pages_at r paths))
      pages_so None blocks held only = tt
      pages_so (Some paths) blocks held only = record {
        have = record {
          held = subst (λ (f : Fork). HoldPages f (pages_at r paths) (map contents lanes)) main (still_hold r opened lanes same paths held);
          counted = blocks;
        };
        known = all_known (own_pages (fork_of r.path) (pages_at r paths) r.options.lanes) (range_with_len 0 r.options.lanes) lanes (same.contents_same ∙ only);
        within = past_base (pages_at r paths) base (base_so (pages_at r paths) (have_so paths blocks held));
      }

      -- lanes that were opened and surveyed
      pub surveyed : (known : Option Paths) (lane_room : L → Marks) (room : ℕ) → IsOpened contents failed unsynced lane_room read_faults write_faults known room r.path (fork_of r.path) r.options.seg_blocks r.options.lanes opened
          → sum_by read_faults lanes ≡ 0 → sum_by write_faults lanes ≡ 0 → (base % 8 ≡ 0) × (base + 8224 * opened.blocks ≤ 2 ^ 62)
          → AreSurveyed contents failed read_faults write_faults known r relation base lanes
      surveyed known lane_room room is reads writes within = record {
        count = long r opened lanes same ∙ is.count;
        reads = reads;
        writes = writes;
        unmarked = still_unmarked r opened lanes same is.unmarked;
        has = subst (λ (f : Fork). HasBlocks f opened.blocks (map contents lanes)) main (subst (λ (ls : List (Option Pages)). HasBlocks (fork_of r.path) opened.blocks ls) (sym same.contents_same) is.has);
        begins = within;
        there = is.there;
        relation_is = relation_so known is.blocks;
        base_is = begins_so known is.blocks is.holds;
        pages = pages_so known is.blocks is.holds is.only;
      }

module _ {L : Type 0} (contents : L → Option Pages) (failed : L → Marks) (reads writes : L → ℕ) (known : Option Paths) (r : LoggedAsked) (relation : RelationFork) (base : ℕ) (lanes : List L)
    (so : AreSurveyed contents failed reads writes known r relation base lanes) where
  not_past : (pages : List Page) → base ≡ log_base pages → relation.blocks ≡ length pages → ¬ ArePastLimit pages
  unfolding log_base
  not_past pages is counted past = let within = so.begins.1 in omega (arith, is, counted, past, within)

  below_by : (k : Option Paths) → IfSome k (λ paths. base ≡ log_base (pages_at r paths)) → IfSome k (λ paths. ArePages contents relation base lanes (pages_at r paths))
      → IfSome (option_map (pages_at r) k) (λ pages. ¬ ArePastLimit pages)
  below_by None is pages = tt
  below_by (Some paths) is pages = not_past (pages_at r paths) is pages.have.counted

  below : IfSome (option_map (pages_at r) known) (λ pages. ¬ ArePastLimit pages)
  below = below_by known so.base_is so.pages

  -- past the survey
  pub below_put : (faults faults_now : ℕ) (result : Result Unit RewriteError) → IfErr result (IsPutRefusal faults faults_now) → StaysBelowLimit (option_map (pages_at r) known) result
  below_put faults faults_now (Ok done) why = below
  below_put faults faults_now (Err OutFault) why = below
  below_put faults faults_now (Err Memory) why = tt
  below_put faults faults_now (Err ReadFault) why = absurd why
  below_put faults faults_now (Err WriteFault) why = absurd why
  below_put faults faults_now (Err LogFault) why = absurd why
  below_put faults faults_now (Err (OverLimit limit)) why = absurd why

  pub below_rewrite : (e : RewriteError) → MeetsLimit (option_map (pages_at r) known) e → StaysBelowLimit {T = Unit} (option_map (pages_at r) known) (Err e)
  below_rewrite ReadFault meets = tt
  below_rewrite WriteFault meets = below
  below_rewrite LogFault meets = below
  below_rewrite OutFault meets = below
  below_rewrite Memory meets = tt
  below_rewrite (OverLimit limit) meets = meets

  few_changed : (pages : List Page) → (rewrite_totals_of pages).changed ≤ length pages
  few_changed pages = let few = count_by-le-length is_changed_outcome (map page_rewrite_of pages) in let same = length-map pages page_rewrite_of in omega (arith, few, same)

  module _ (totals : RewriteTotals) (old new : Option (List ℕ)) (result : Result Unit RewriteError)
      (puts : base + 8224 * totals.changed < 2 ^ 64 → Puts (rewrite_lines totals base (base + 8224 * totals.changed)) old new result) where
    text_of_pages : (pages : List Page) → base ≡ log_base pages → relation.blocks ≡ length pages → totals ≡ rewrite_totals_of pages → Puts (rewrite_text pages) old new result
    text_of_pages pages is counted totals_are =
        let few = few_changed pages in
        let same = ap (λ (t : RewriteTotals). t.changed) totals_are in
        let within = so.begins.1 in
        let fits : base + 8224 * totals.changed < 2 ^ 64 = omega (arith, few, same, within, counted) in
        subst (λ (n : ℕ). Puts (rewrite_lines (rewrite_totals_of pages) n (n + 8224 * (rewrite_totals_of pages).changed)) old new result) is
        (subst (λ (t : RewriteTotals). Puts (rewrite_lines t base (base + 8224 * t.changed)) old new result) totals_are (puts fits))

    text_by : (k : Option Paths) → IfSome k (λ paths. base ≡ log_base (pages_at r paths)) → IfSome k (λ paths. ArePages contents relation base lanes (pages_at r paths))
        → IfSome k (λ paths. totals ≡ rewrite_totals_of (pages_at r paths)) → IfSome k (λ paths. Puts (rewrite_text (pages_at r paths)) old new result)
    text_by None is pages totals_are = tt
    text_by (Some paths) is pages totals_are = text_of_pages (pages_at r paths) is pages.have.counted totals_are

    pub text_so : IfSome known (λ paths. totals ≡ rewrite_totals_of (pages_at r paths)) → IfSome known (λ paths. Puts (rewrite_text (pages_at r paths)) old new result)
    text_so totals_are = text_by known so.base_is so.pages totals_are

-- what holds of all files that became of the old ones
pub becomes_some : (new : Option HostFiles) (P Q : HostFiles → Type 0) → ((n : HostFiles) → P n → Q n) → IsSomeAnd new P → IsSomeAnd new Q
becomes_some None P Q to is = absurd is
becomes_some (Some files) P Q to is = to files is

pub becomes_also : (old new : Option HostFiles) (P Q : HostFiles → HostFiles → Type 0) → ((o n : HostFiles) → P o n → Q o n) → BecomesOf old new P → BecomesOf old new Q
becomes_also None new P Q to is = tt
becomes_also (Some files) new P Q to is = becomes_some new (P files) (Q files) (to files) is

-- nothing is put where a rewrite is refused
pub refused_text : (r : LoggedAsked) (known : Option Paths) (old : Option (List ℕ)) (e : RewriteError) → IfSome known (λ paths. Puts {E = RewriteError} (rewrite_text (pages_at r paths)) old old (Err e))
refused_text r None old e = tt
refused_text r (Some paths) old e = puts_nothing (rewrite_text (pages_at r paths)) old e

-- the marks at a path are cleared as its relation is opened
cleared_here : (path : List ℕ) (marks : PathMarks) (block : ℕ) → bytes_eq path path ≡ true → cleared path marks path block ≡ false
cleared_here path marks block same = rw same

pub cleared_elsewhere : (path : List ℕ) (marks : PathMarks) (other : List ℕ) → bytes_eq other path ≡ false → cleared path marks other ≡ marks other
cleared_elsewhere path marks other not = rw not

module _ (r : LoggedAsked) (paths : Paths) (marks : PathMarks) (logs : Logs) (writes faults : ℕ) (new : HostFiles) where
  abbrev pub opened_files : HostFiles
  opened_files = record { paths = paths; failed = cleared r.path marks; logs = logs; write_faults = writes; log_faults = faults }

  abbrev pub first_files : HostFiles
  first_files = record { paths = paths; failed = marks; logs = logs; write_faults = writes; log_faults = faults }

  paths_since : (n : PathMarks) → NoneFails r.options.seg_blocks paths r.path (cleared r.path marks) n → NoneFails r.options.seg_blocks paths r.path marks n
  paths_since n none = record {
    others = λ other not. none.others other not ∙ cleared_elsewhere r.path marks other not;
    here = λ block below marked. absurd (let was = none.here block below marked in let not = cleared_here r.path marks block (same_bytes r.path) in let no : true ≡ false = sym was ∙ not in cc);
  }

  pub keeps_since : KeepsPaths r opened_files new → KeepsPaths r first_files new
  keeps_since keeps = record { paths = keeps.paths; failed = paths_since new.failed keeps.failed }

  changes_since : (after : List Page) (file : StoredLog) → Changes r opened_files new after file → Changes r first_files new after file
  changes_since after file changes = record { paths = changes.paths; logs = changes.logs; failed = λ other not. changes.failed other not ∙ cleared_elsewhere r.path marks other not }

  head_since : BeginsHead r opened_files new → BeginsHead r first_files new
  head_since begins = record { file = begins.file; low = begins.low; begun = begins.begun; pages = keeps_since begins.pages; logs = begins.logs; fault = begins.fault }

  log_since : BeginsLog r opened_files new → BeginsLog r first_files new
  log_since begins = record {
    after = begins.after;
    file = begins.file;
    changes = changes_since begins.after begins.file begins.changes;
    leaves = begins.leaves;
    failed = begins.failed;
    rest = begins.rest;
  }

  leaves_since : RewriteLeaves r opened_files new → RewriteLeaves r first_files new
  leaves_since (untouched keeps) = untouched (record { pages = keeps_since keeps.pages; logs = keeps.logs })
  leaves_since (log_opened begins) = log_opened (head_since begins)
  leaves_since (rewrote begins) = rewrote (log_since begins)

  rewritten_since : IsRewrittenAt r opened_files new → IsRewrittenAt r first_files new
  rewritten_since done = record { after = done.after; file = done.file; changes = changes_since done.after done.file done.changes; rewritten = done.rewritten; unfailed = done.unfailed }

  all_kept : KeepsFiles r opened_files new → KeepsFiles r first_files new
  all_kept keeps = record { pages = keeps_since keeps.pages; logs = keeps.logs }

  pub files_since : (status : ℕ) → RewritesFiles r status opened_files new → RewritesFiles r status first_files new
  files_since status leaves = record {
    any = leaves_since leaves.any;
    done = λ zero. rewritten_since (leaves.done zero);
    refused = λ least most. all_kept (leaves.refused least most);
    read_fault = λ four. ⊎_elim
        (λ (keeps : KeepsFiles r opened_files new). inl (all_kept keeps))
        (λ (begins : BeginsLog r opened_files new). inr (log_since begins))
        (leaves.read_fault four);
    write_fault = λ five. log_since (leaves.write_fault five);
    over_limit = λ nine. all_kept (leaves.over_limit nine);
    out_fault = λ seven. rewritten_since (leaves.out_fault seven);
  }

-- what is left of the files since the relation was opened, which cleared the marks at its path
pub opened_before : (r : LoggedAsked) (Leaves : HostFiles → HostFiles → Type 0) (known known_now : Option Paths) (marks marks_now : PathMarks) (told told_now : Option Logs) (writes writes_now faults faults_now : ℕ)
    (new : Option HostFiles) → known_now ≡ known → IfSome known (λ _. marks_now ≡ cleared r.path marks) → told_now ≡ told → writes_now ≡ writes → faults_now ≡ faults
    → ((paths : Paths) (logs : Logs) (n : HostFiles) → Leaves (opened_files r paths marks logs writes faults n) n → Leaves (first_files r paths marks logs writes faults n) n)
    → BecomesOf (files_of known_now marks_now told_now writes_now faults_now) new Leaves → BecomesOf (files_of known marks told writes faults) new Leaves
opened_before r Leaves None known_now marks marks_now told told_now writes writes_now faults faults_now new known_same marks_are told_same writes_same faults_same since becomes = tt
opened_before r Leaves (Some paths) known_now marks marks_now None told_now writes writes_now faults faults_now new known_same marks_are told_same writes_same faults_same since becomes = tt
opened_before r Leaves (Some paths) known_now marks marks_now (Some logs) told_now writes writes_now faults faults_now new known_same marks_are told_same writes_same faults_same since becomes =
    let same = subst (λ (m : PathMarks). BecomesOf (files_of (Some paths) m (Some logs) writes faults) new Leaves) marks_are
    (subst (λ (t : Option Logs). BecomesOf (files_of (Some paths) marks_now t writes faults) new Leaves) told_same
    (subst (λ (k : Option Paths). BecomesOf (files_of k marks_now told_now writes faults) new Leaves) known_same
    (subst (λ (n : ℕ). BecomesOf (files_of known_now marks_now told_now n faults) new Leaves) writes_same
    (subst (λ (n : ℕ). BecomesOf (files_of known_now marks_now told_now writes_now n) new Leaves) faults_same becomes)))) in
    becomes_some new (Leaves (record { paths = paths; failed = cleared r.path marks; logs = logs; write_faults = writes; log_faults = faults }))
    (Leaves (record { paths = paths; failed = marks; logs = logs; write_faults = writes; log_faults = faults })) (since paths logs) same

pub since_opened : (r : LoggedAsked) (status : ℕ) (known known_now : Option Paths) (marks marks_now : PathMarks) (told told_now : Option Logs) (writes writes_now faults faults_now : ℕ) (new : Option HostFiles)
    → known_now ≡ known → IfSome known (λ _. marks_now ≡ cleared r.path marks) → told_now ≡ told → writes_now ≡ writes → faults_now ≡ faults
    → BecomesOf (files_of known_now marks_now told_now writes_now faults_now) new (RewritesFiles r status) → BecomesOf (files_of known marks told writes faults) new (RewritesFiles r status)
since_opened r status known known_now marks marks_now told told_now writes writes_now faults faults_now new known_same marks_are told_same writes_same faults_same becomes =
    opened_before r (RewritesFiles r status) known known_now marks marks_now told told_now writes writes_now faults faults_now new known_same marks_are told_same writes_same faults_same
    (λ paths logs n leaves. files_since r paths marks logs writes faults n status leaves) becomes
