-- What a recovery leaves of the pages, and that it changes nothing where they are so already.
use Rattle.std.proofs.Common.{◌≡◌, ℕ, suc, ◌+◌, ◌%◌, ◌<◌, ◌≤◌, ◌^◌, ◌-◌, true, false, List, [], ◌∷◌, ◌++◌, append-nil, length, length-append, take, drop, Option, Some, sym, refl, ap, ap₂, ◌∙◌, subst, inl, inr, ⊎_elim, arith}
use Rattle.std.specs.Prelude.{IsSomeAnd, replicate}
use Rattle.std.specs.Str.{bytes_eq}
use Rattle.std.specs.Cmp.Lexicographic.{same_text}
use Rattle.std.proofs.lemmas.Bool.{cases_Bool, cases_lt}
use Rattle.std.proofs.lemmas.List.{drop_all, length-take, take_all}
use Rattle.std.proofs.lemmas.Option.{same_Some}
use mathlib.Core.Option.{some, some-ne-none}
use lib.ListN.{get_elem?, length-replicate}
use Rattle.byte_devices.specs.MemoryLog.{StoredLog}
use Rattle.segment_store.specs.Growth.{extended}
use Rattle.segment_store.specs.Paths.{Paths}
use Rattle.segment_store.specs.Relation.{relation_of, segment_pages}
use Rattle.segment_store.specs.Restored.{restored}
use Rattle.segment_store.proofs.Extended.{has_new_pages}
use Rattle.segment_store.proofs.Growing.{extended_none}
use Rattle.segment_store.proofs.PutBlocks.{take_prefix}
use Rattle.segment_store.proofs.ReadBack.{reads_back}
use Rattle.segment_store.proofs.Segments.{restored_same}
use Rattle.pin_core.specs.State.{Page}
use Rattle.history_core.specs.Log.{AreImages, Entry, Log, page_after}
use Rattle.history_core.specs.Unentered.{IsEntered}
use Rattle.history_core.proofs.Logs.{after_absent, images_of_pages}
use Rattle.grid.proofs.Lists.{at_longer}
use Rattle.log_recovery.specs.Records.{HasBadHead, IsLogOf}
use Rattle.log_recovery.proofs.ReadLogs.{is_log, one_log}
use Rattle.log_recovery.proofs.Twice.{after_agree, after_twice, either_way}
use Rattle.table_rule.proofs.Opens.{length_low, there_at}
use Rattle.backend_pass.proofs.Standing.{taken}
use Rattle.relation_commands.specs.Limits.{log_base}
use Rattle.command_line.specs.Request.{LoggedAsked}
use Rattle.relation_commands.specs.RecoverFiles.{AreFirstIn, IsEnteredIn, IsRecoveredAt, RecoverLeaves, RecoversTo, left_alone, redone_upto, catalog_of, longer_pages, with_more, word_at}
use Rattle.relation_commands.specs.RecoverRewrite.{CompletesRecovery, IsRecoveredBlock, KeepsFilesLeft, LosesEntered, RecoversAgain, RecoversFilesLeft, recovery_of}
use Rattle.relation_commands.specs.RewriteFiles.{HostFiles, pages_at, relation_at, with_blocks}
use Rattle.relation_commands.specs.RewriteResults.{AreFull}
use Rattle.relation_commands.proofs.GivingBack.{same_bytes}
use Rattle.relation_commands.proofs.PagesAfter.{StaysUsed}
use Rattle.relation_commands.proofs.RecoverRewrite.{begun_empty, recovers_rewrite}
use Rattle.relation_commands.proofs.RecoverNames.{one_catalogue}

-- lists that have the same at each place
same_lists : {A : Type 0} (xs ys : List A) → length xs ≡ length ys → ((i : ℕ) (x y : A) → get_elem? xs i ≡ some x → get_elem? ys i ≡ some y → x ≡ y) → xs ≡ ys
same_lists [] [] long each = refl
same_lists [] (y ∷ ys) long each = absurd (omega arith)
same_lists (x ∷ xs) [] long each = absurd (omega arith)
same_lists {A} (x ∷ xs) (y ∷ ys) long each = ap₂ (λ (a : A) (l : List A). a ∷ l) (each 0 x y refl refl) (same_lists xs ys (omega arith) (λ i a b at also. each (suc i) a b at also))

-- a relation has the pages that were put in the place of its own
pages_restored : (seg_blocks : ℕ) (segments pages : List (List ℕ)) → AreFull pages → length pages ≡ length (relation_of seg_blocks segments) → relation_of seg_blocks (restored seg_blocks segments pages) ≡ pages
unfolding relation_of
pages_restored seg_blocks segments pages full counted =
    let most : ℕ = 2 ^ 32 - 1 in
    let all = segment_pages seg_blocks segments in
    let few = length-take most all in
    ap (λ (l : List (List ℕ)). take most l) (reads_back seg_blocks segments pages full (omega arith))
    ∙ elim (cases_lt most (length all)) [
      | inl many ↦ take_prefix pages (drop (length pages) all) most (omega arith)
      | inr fits ↦ ap (λ (l : List (List ℕ)). take most (pages ++ l)) (drop_all (length pages) all (omega arith)) ∙ ap (λ (l : List (List ℕ)). take most l) (append-nil pages) ∙ take_all most pages (omega arith)
    ]

own_restored : (seg_blocks : ℕ) (segments : List (List ℕ)) → restored seg_blocks segments (relation_of seg_blocks segments) ≡ segments
unfolding relation_of
own_restored seg_blocks segments = restored_same seg_blocks segments (2 ^ 32 - 1)

few_pages : (seg_blocks : ℕ) (segments : List (List ℕ)) → length (relation_of seg_blocks segments) ≤ 2 ^ 32 - 1
unfolding relation_of
few_pages seg_blocks segments = let few = length-take (2 ^ 32 - 1) (segment_pages seg_blocks segments) in omega arith

module _ (r : LoggedAsked) where
  blocks_here : (pages : List Page) (paths : Paths) → pages_at r (with_blocks (relation_at r) pages paths) ≡ relation_of r.options.seg_blocks (restored r.options.seg_blocks (paths r.path) pages)
  blocks_here pages paths = rw (same_bytes r.path)

  more_here : (n : ℕ) (paths : Paths) → longer_pages r n paths ≡ relation_of r.options.seg_blocks (extended r.options.seg_blocks (length (pages_at r paths)) n (paths r.path))
  more_here n paths = rw (same_bytes r.path)

  own_path : (paths : Paths) (path : List ℕ) → with_blocks (relation_at r) (pages_at r paths) paths path ≡ paths path
  own_path paths path = elim (cases_Bool (bytes_eq path r.path)) [
    | inl same ↦ rw same (let is : path ≡ r.path = same_text path r.path (sym same) in
        ap (λ (p : List ℕ). restored r.options.seg_blocks (paths path) (relation_of r.options.seg_blocks (paths p))) (sym is) ∙ own_restored r.options.seg_blocks (paths path))
    | inr other ↦ rw other
  ]

  -- its own pages put back, and no block more, leave all paths as they are
  own_blocks : (paths : Paths) → with_blocks (relation_at r) (pages_at r paths) paths ≡ paths
  own_blocks paths = λ i path. own_path paths path i

  no_more_path : (paths : Paths) (path : List ℕ) → with_more (relation_at r) 0 paths path ≡ paths path
  no_more_path paths path = elim (cases_Bool (bytes_eq path r.path)) [
    | inl same ↦ rw same (extended_none r.options.seg_blocks (length (relation_of r.options.seg_blocks (paths path))) (paths path))
    | inr other ↦ rw other
  ]

  no_more : (paths : Paths) → with_more (relation_at r) 0 paths ≡ paths
  no_more paths = λ i path. no_more_path paths path i

  module _ (some_blocks : 1 ≤ r.options.seg_blocks) (n : ℕ) (paths : Paths) (fits : length (pages_at r paths) + n ≤ 2 ^ 32 - 1) where
    -- a relation that is longer begins with its pages
    begins_with : take (length (pages_at r paths) + n) (longer_pages r n paths) ≡ pages_at r paths ++ replicate n (replicate 8192 0)
    begins_with = ap (λ (l : List Page). take (length (pages_at r paths) + n) l) (more_here n paths) ∙ has_new_pages r.options.seg_blocks n (paths r.path) some_blocks fits

    longer : length (pages_at r paths) + n ≤ length (longer_pages r n paths)
    longer =
        let all = ap (λ (l : List Page). length l) begins_with in
        let first = length-take (length (pages_at r paths) + n) (longer_pages r n paths) in
        let sum = length-append (pages_at r paths) (replicate n (replicate 8192 0)) in
        let new = length-replicate {A = Page} n (replicate 8192 0) in
        omega arith

    first_kept : (block : ℕ) (page : Page) → get_elem? (pages_at r paths) block ≡ some page → get_elem? (longer_pages r n paths) block ≡ some page
    first_kept block page at =
        let below = length_low (pages_at r paths) block page at in
        sym (taken (length (pages_at r paths) + n) block (longer_pages r n paths) (omega arith))
        ∙ ap (λ (l : List Page). get_elem? l block) begins_with
        ∙ at_longer (pages_at r paths) (replicate n (replicate 8192 0)) block page at

  module _ (es : List Entry) (some_blocks : 1 ≤ r.options.seg_blocks) (old new : HostFiles) (to : RecoversTo r es old new) where
    -- the relation's pages are those that it was given
    pages_now : pages_at r new.paths ≡ to.after
    pages_now = ap (λ (p : Paths). pages_at r p) to.paths ∙ blocks_here to.after (with_more (relation_at r) to.more old.paths)
        ∙ pages_restored r.options.seg_blocks (with_more (relation_at r) to.more old.paths r.path) to.after to.full to.counted

    grown_to : length (pages_at r old.paths) + to.more ≤ length (pages_at r new.paths)
    grown_to = let long = longer some_blocks to.more old.paths to.fits in let counted = to.counted in let now = ap (λ (l : List Page). length l) pages_now in omega arith

    -- each block that was there has its page after the entries
    page_redone : (block : ℕ) (was now : Page) → get_elem? (pages_at r old.paths) block ≡ some was → get_elem? (pages_at r new.paths) block ≡ some now → new.failed r.path block ≡ false
        → Some now ≡ page_after (word_at block) es (Some was)
    page_redone block was now at there_now unfailed = to.each block was now (first_kept some_blocks to.more old.paths to.fits block was at) (sym (ap (λ (l : List Page). get_elem? l block) pages_now) ∙ there_now) unfailed

    -- Where each entry is of one of its blocks, and each block has its page already, nothing changes
    module _ (unfailed : (block : ℕ) → new.failed r.path block ≡ false) (within : (block : ℕ) → block < 2 ^ 32 - 1 → IsEntered es (word_at block) → block < length (pages_at r old.paths))
        (same : (block : ℕ) (was : Page) → get_elem? (pages_at r old.paths) block ≡ some was → page_after (word_at block) es (Some was) ≡ Some was) where
      none_more : to.more ≡ 0
      none_more = elim (cases_lt 0 to.more) [
        | inl some_more ↦ absurd (⊎_elim
            (λ (entered : IsEntered es (word_at (length (pages_at r old.paths) + to.more - 1))).
            let fits = to.fits in let below = within (length (pages_at r old.paths) + to.more - 1) (omega arith) entered in omega arith)
            (λ (marked : new.failed r.path (length (pages_at r old.paths) + to.more - 1) ≡ true). let not = unfailed (length (pages_at r old.paths) + to.more - 1) in let no : true ≡ false = sym marked ∙ not in cc)
            (to.needed some_more))
        | inr none ↦ omega arith
      ]

      longer_same : longer_pages r to.more old.paths ≡ pages_at r old.paths
      longer_same = ap (λ (n : ℕ). longer_pages r n old.paths) none_more ∙ ap (λ (p : Paths). pages_at r p) (no_more old.paths)

      after_same : to.after ≡ pages_at r old.paths
      after_same = same_lists to.after (pages_at r old.paths) (to.counted ∙ ap (λ (l : List Page). length l) longer_same) (λ block page was at there_was.
          same_Some page was (to.each block was page (ap (λ (l : List Page). get_elem? l block) longer_same ∙ there_was) at (unfailed block) ∙ same block was there_was))

      paths_same : new.paths ≡ old.paths
      paths_same = to.paths
          ∙ ap₂ (λ (pages : List Page) (paths : Paths). with_blocks (relation_at r) pages paths) after_same
          (ap (λ (n : ℕ). with_more (relation_at r) n old.paths) none_more ∙ no_more old.paths)
          ∙ own_blocks old.paths

module _ (r : LoggedAsked) (lanes : ℕ) (some_blocks : 1 ≤ r.options.seg_blocks) (old done next new : HostFiles) (first : IsRecoveredAt r old done)
    (paths_are : next.paths ≡ done.paths) (logs_are : next.logs ≡ done.logs) (second : IsRecoveredAt (recovery_of r lanes) next new) where
  -- it is the same log
  same_log : second.log ≡ first.log
  same_log =
      let same : second.file ≡ first.file = same_Some second.file first.file (sym second.there ∙ ap (λ (logs : List ℕ → Option StoredLog). logs r.log) (logs_are ∙ first.redone.logs) ∙ first.there) in
      one_log (catalog_of r.path) (one_catalogue _) first.file.bytes second.log first.log (subst (λ (file : StoredLog). IsLogOf (catalog_of r.path) file.bytes second.log) same second.is) first.is

  to_again : RecoversTo (recovery_of r lanes) first.log.entries next new
  to_again = subst (λ (log : Log). RecoversTo (recovery_of r lanes) log.entries next new) same_log second.redone

  -- the relation reaches as far as the entries
  reached : (block : ℕ) → block < 2 ^ 32 - 1 → IsEntered first.log.entries (word_at block) → block < length (pages_at r next.paths)
  reached block low entered =
      let far = first.redone.reaches block low entered (first.unfailed block) in
      let grown = grown_to r first.log.entries some_blocks old done first.redone in
      let now = ap (λ (p : Paths). length (pages_at r p)) paths_are in
      omega arith

  -- its pages are as redo leaves them
  redone_once : (block : ℕ) (was : Page) → get_elem? (pages_at r next.paths) block ≡ some was → page_after (word_at block) first.log.entries (Some was) ≡ Some was
  redone_once block was at =
      let to = first.redone in
      let law = is_log (catalog_of r.path) first.file.bytes first.log first.is in
      let at_after : get_elem? to.after block ≡ some was = sym (ap (λ (l : List Page). get_elem? l block) (pages_now r first.log.entries some_blocks old done to)) ∙ sym (ap (λ (p : Paths). get_elem? (pages_at r p) block) paths_are) ∙ at in
      let below = length_low to.after block was at_after in
      let counted = to.counted in
      let first_page = there_at (longer_pages r to.more old.paths) block (omega arith) in
      let is = to.each block first_page.0 was first_page.1 at_after (first.unfailed block) in
      ap (page_after (word_at block) first.log.entries) is ∙ after_twice first.log.entries (word_at block) (Some first_page.0) law.1 ∙ sym is

  again_same : new.paths ≡ done.paths
  again_same = paths_same (recovery_of r lanes) first.log.entries some_blocks next new to_again second.unfailed reached redone_once ∙ paths_are

pub recovers_again : RecoversAgain
recovers_again r lanes some_blocks old done next new first paths_are logs_are second = again_same r lanes some_blocks old done next new first paths_are logs_are second

module _ (r : LoggedAsked) (lanes : ℕ) (some_blocks : 1 ≤ r.options.seg_blocks) (old done left new : HostFiles) (second : IsRecoveredAt (recovery_of r lanes) left new) (loses : LosesEntered r second.log done left) where
  -- a block without an entry is as it was before the first recovery
  abbrev IsAsOld : ℕ → Type 0
  IsAsOld block = (was page : Page) → get_elem? (pages_at r old.paths) block ≡ some was → get_elem? (pages_at r left.paths) block ≡ some page → page ≡ was

  module _ (es : List Entry) (images : AreImages es) (to : RecoversTo r es old done) (first : AreFirstIn r old.logs es)
      (marked : (block : ℕ) → done.failed r.path block ≡ true → IsEnteredIn r old.logs block) where
    file_was : old.logs r.log ≡ Some second.file
    file_was = sym (ap (λ (logs : List ℕ → Option StoredLog). logs r.log) (loses.logs ∙ to.logs)) ∙ second.there

    first_of : (rest : List Entry) × (second.log.entries ≡ es ++ rest)
    first_of = (subst (λ (o : Option StoredLog). IsSomeAnd o (λ file. (HasBadHead file.bytes → es ≡ []) × ((log : Log) → IsLogOf (catalog_of r.path) file.bytes log → (rest : List Entry) × (log.entries ≡ es ++ rest)))) file_was first).1 second.log second.is

    marked_entered : (block : ℕ) → done.failed r.path block ≡ true → IsEntered second.log.entries (word_at block)
    marked_entered block failed =
        let in_log = subst (λ (o : Option StoredLog). IsSomeAnd o (λ file. (log : Log) × (IsLogOf (catalog_of r.path) file.bytes log × IsEntered log.entries (word_at block)))) file_was (marked block failed) in
        subst (λ (log : Log). IsEntered log.entries (word_at block)) (one_log (catalog_of r.path) (one_catalogue _) second.file.bytes in_log.0 second.log in_log.1.0 second.is) in_log.1.1

    redone_elsewhere : (block : ℕ) → (IsEntered second.log.entries (word_at block) → ⊥) → IsAsOld block
    redone_elsewhere block none was page at left_at =
        let below = length_low (pages_at r old.paths) block was at in
        let grown = grown_to r es some_blocks old done to in
        let new = there_at (pages_at r done.paths) block (omega arith) in
        let unfailed : done.failed r.path block ≡ false = either_way (done.failed r.path block) (λ failed. absurd (none (marked_entered block failed))) (λ is. is) in
        let kept = page_redone r es some_blocks old done to block was new.0 at new.1 unfailed
        ∙ after_absent (word_at block) es (Some was) (images_of_pages es images) (λ k e of. none (k, e, record { there = subst (λ (l : List Entry). get_elem? l k ≡ some e) (sym first_of.1) (at_longer es first_of.0 k e of.there); of = of.of })) in
        loses.stays block new.0 page new.1 left_at none ∙ same_Some new.0 was kept

  as_old : RecoverLeaves r old done → (block : ℕ) → (IsEntered second.log.entries (word_at block) → ⊥) → IsAsOld block
  as_old (left_alone keeps) block none was page at left_at = loses.stays block was page (ap (λ (p : Paths). get_elem? (pages_at r p) block) keeps.pages.paths ∙ at) left_at none
  as_old (redone_upto es first whole to marked) block none was page at left_at = redone_elsewhere es whole.1 to first (λ b failed. (marked b failed).0) block none was page at left_at

  completed_at : RecoverLeaves r old done → (block : ℕ) (was now : Page) → get_elem? (pages_at r old.paths) block ≡ some was → block < length (pages_at r left.paths) → get_elem? (pages_at r new.paths) block ≡ some now
      → Some now ≡ page_after (word_at block) second.log.entries (Some was)
  completed_at leaves block was now at below now_at =
      let page = there_at (pages_at r left.paths) block below in
      page_redone (recovery_of r lanes) second.log.entries some_blocks left new second.redone block page.0 now page.1 now_at (second.unfailed block)
      ∙ after_agree second.log.entries (word_at block) (Some page.0) (Some was) (is_log (catalog_of r.path) second.file.bytes second.log second.is).1
      (λ none. ap (λ (p : Page). Some p) (as_old leaves block none was page.0 at page.1))

pub completes : CompletesRecovery
completes r lanes some_blocks old done left new leaves second loses = completed_at r lanes some_blocks old done left new second loses leaves

base_aligned : (pages : List Page) → log_base pages % 8 ≡ 0
unfolding log_base
base_aligned pages = omega arith

pub files_recovered : StaysUsed → RecoversFilesLeft
files_recovered rewritten r lanes some_blocks old done left new after file leaves loses recovered block was now at below now_at =
    let before = pages_at r old.paths in
    let page = there_at (pages_at r left.paths) block below in
    let found = recovers_rewrite rewritten r.path (length before) (log_base before) before after (pages_at r left.paths) (done.failed r.path) file (base_aligned before) (few_pages r.options.seg_blocks (old.paths r.path)) leaves loses.kept.bytes loses.loss in
    let same : recovered.file ≡ loses.kept = same_Some recovered.file loses.kept (sym recovered.there ∙ loses.there) in
    let is = subst (λ (f : StoredLog). IsLogOf (catalog_of r.path) f.bytes recovered.log) same recovered.is in
    subst (λ (p : Option Page). IsRecoveredBlock leaves.log leaves.begins.rest recovered.log.entries block was (done.failed r.path block) p)
    (sym (page_redone (recovery_of r lanes) recovered.log.entries some_blocks left new recovered.redone block page.0 now page.1 now_at (recovered.unfailed block)))
    (found.each recovered.log is block was page.0 at page.1)

after_none : (word : ℕ) (es : List Entry) (x : Option Page) → es ≡ [] → page_after word es x ≡ x
unfolding page_after
after_none word es x is = ap (λ (l : List Entry). page_after word l x) is

none_entered : (es : List Entry) (word : ℕ) → es ≡ [] → IsEntered es word → ⊥
none_entered es word is (k, e, of) = some-ne-none e (sym (ap (λ (l : List Entry). get_elem? l k) (sym is) ∙ of.there))

pub files_kept : KeepsFilesLeft
files_kept r lanes some_blocks old left new file kept lost low begun there_kept prefix recovered =
    let same : recovered.file ≡ kept = same_Some recovered.file kept (sym recovered.there ∙ there_kept) in
    let is = subst (λ (f : StoredLog). IsLogOf (catalog_of r.path) f.bytes recovered.log) same recovered.is in
    let none = (begun_empty (log_base (pages_at r old.paths)) (base_aligned (pages_at r old.paths)) low file.bytes lost kept.bytes begun prefix).1 (catalog_of r.path) recovered.log is in
    paths_same (recovery_of r lanes) recovered.log.entries some_blocks left new recovered.redone recovered.unfailed
    (λ block below entered. absurd (none_entered recovered.log.entries (word_at block) none entered))
    (λ block was at. after_none (word_at block) recovered.log.entries (Some was) none)
