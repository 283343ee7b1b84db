-- What the steps of a sample need of the lanes that they are given, and what they leave.
use Rattle.std.proofs.Common.{◌≡◌, ℕ, ◌+◌, ◌*◌, ◌≤◌, true, List, [], ◌∷◌, ◌++◌, drop, length, map, take, Option, Some, Result, Ok, Err, refl, sym, ap, ◌∙◌, subst, arith}
use Rattle.std.specs.Prelude.{All, IfOk, is_some, sum, sum_by}
use Rattle.std.proofs.lemmas.List.{length-map}
use Rattle.std.proofs.lemmas.List.Sums.{count_by-le-length, sum-map, sum_by-cons, sum_by-le}
use Rattle.page_layout.specs.declared.outcomes.RewriteTotals.{RewriteTotals}
use Rattle.page_layout.specs.Outcomes.{is_changed_outcome, page_rewrite_of, rewrite_totals_of}
use Rattle.page_layout.specs.Positions.{DifferInPositions}
use Rattle.page_layout.specs.Scan.{totals_of}
use Rattle.segment_store.specs.Contents.{Marks, Pages, no_marks}
use Rattle.segment_store.specs.Lanes.{HasBlocks, HoldPages}
use Rattle.segment_store.proofs.Dealing.{held_there}
use Rattle.segment_store.proofs.PutBlocks.{take_prefix}
use Rattle.pin_core.specs.State.{Page}
use Rattle.lane_survey.specs.Survey.{AreOnlyRead}
use Rattle.relation_commands.specs.declared.rewriting.RewriteError.{RewriteError}
use Rattle.relation_commands.specs.declared.sampling.Rewritten.{Rewritten}
use Rattle.relation_commands.specs.declared.sampling.SampleTotals.{SampleTotals}
use Rattle.relation_commands.specs.declared.starting.RelationFork.{RelationFork}
use Rattle.relation_commands.specs.Limits.{largest_lsn, log_base, rounded_up}
use Rattle.relation_commands.specs.Rewriting.{ArePages, HasRewriteCause, HavePages, LeavesRewritten, pages_after}
use Rattle.relation_commands.specs.RewriteResults.{after_rewrite}
use Rattle.relation_commands.specs.SampleSteps.{AreTold, HaveAll, IsSampleRewritten, log_span_of, sample_totals_of}

module _ {L : Type 0} (contents : L → Option Pages) (failed : L → Marks) (reads : L → ℕ) (so : AreTold contents failed reads) where
  sum_none : (faults : L → ℕ) → ((lane : L) → faults lane ≡ 0) → (lanes : List L) → sum_by faults lanes ≡ 0
  sum_none faults none [] = refl
  sum_none faults none (lane ∷ lanes) =
      let first = sum_by-cons faults lane lanes in
      let here = none lane in
      let rest = sum_none faults none lanes in
      omega (arith, first, here, rest)

  pub no_reads : (lanes : List L) → sum_by reads lanes ≡ 0
  no_reads lanes = sum_none reads so.reads lanes

  pub all_unmarked : (lanes : List L) → All (λ lane. failed lane ≡ no_marks) lanes
  all_unmarked lanes k d below = so.unmarked _

  pub all_known : (lanes : List L) → All (λ lane. is_some (contents lane) ≡ true) lanes
  all_known lanes k d below = so.known _

module _ {L : Type 0} (contents : L → Option Pages) (r : RelationFork) where
  pub has_blocks : (lanes : List L) (pages : List Page) → HavePages contents r lanes pages → HasBlocks r.fork r.blocks (map contents lanes)
  has_blocks lanes pages have = subst (λ (n : ℕ). HasBlocks r.fork n (map contents lanes)) (sym have.counted) (held_there r.fork pages (map contents lanes) have.held)

  -- pages that stay in their lanes
  pub have_still : (lanes lanes' : List L) (pages : List Page) → map contents lanes' ≡ map contents lanes → HavePages contents r lanes pages → HavePages contents r lanes' pages
  have_still lanes lanes' pages same have = record { held = subst (λ (ls : List (Option Pages)). HoldPages r.fork pages ls) (sym same) have.held; counted = have.counted }

  round_up : (lsn : ℕ) → lsn ≤ rounded_up lsn
  round_up lsn = omega arith

  -- the pages of known lanes, whose log begins past them
  pub are_pages : (lanes : List L) (base : ℕ) (pages : List Page) → All (λ lane. is_some (contents lane) ≡ true) lanes → base ≡ log_base pages → HavePages contents r lanes pages
      → ArePages contents r base lanes pages
  unfolding log_base
  are_pages lanes base pages known base_is have = record {
    have = have;
    known = known;
    within = let up = round_up (largest_lsn pages) in omega (arith, base_is, up);
  }

  pub have_all : (lanes : List L) (pages : List Page) → HavePages contents r lanes pages → HaveAll contents r lanes
  have_all lanes pages have = record { pages = pages; have = have }

-- counts that are all 0 have the sum 0
pub none_summed : {L : Type 0} (f : L → ℕ) (lanes : List L) → All (λ lane. f lane ≡ 0) lanes → sum_by f lanes ≡ 0
none_summed f lanes none =
    let most = sum_by-le f 0 lanes (λ k d below. let is = none k d below in omega (arith, is)) in
    omega (arith, most)

-- counts that are the same one by one have the same sum
same_sums : {L : Type 0} (f : L → ℕ) (xs ys : List L) → map f xs ≡ map f ys → sum_by f xs ≡ sum_by f ys
same_sums f xs ys same = sym (sum-map f xs) ∙ ap sum same ∙ sum-map f ys

-- Lanes that were surveyed in place: they are what the slice of them reads now
module _ {L : Type 0} (contents : L → Option Pages) (failed unsynced : L → Marks) (reads writes : L → ℕ) (so : AreTold contents failed reads) (r : RelationFork) (base n : ℕ) (lanes was read : List L)
    (is : was ≡ lanes) (same : AreOnlyRead contents failed unsynced writes was read) (counted : length read ≡ n) (base_is : (pages : List Page) → HavePages contents r was pages → base ≡ log_base pages) where
  pub based : (pages : List Page) → HavePages contents r lanes pages → base ≡ log_base pages
  based pages have = base_is pages (subst (λ (ls : List L). HavePages contents r ls pages) (sym is) have)

  pub have_surveyed : (pages : List Page) → HavePages contents r lanes pages → HavePages contents r (take n (read ++ drop (length read) lanes)) pages
  have_surveyed pages have =
      subst (λ (ls : List L). HavePages contents r ls pages) (sym (take_prefix read (drop (length read) lanes) n counted)) (have_still contents r lanes read pages (same.contents_same ∙ ap (map contents) is) have)

  -- no write had failed, and none has
  pub unwritten : sum_by writes lanes ≡ 0 → sum_by writes (take n (read ++ drop (length read) lanes)) ≡ 0
  unwritten none =
      ap (λ (ls : List L). sum_by writes ls) (take_prefix read (drop (length read) lanes) n counted)
      ∙ same_sums writes read lanes (same.writes_same ∙ ap (map writes) is) ∙ none

  pub are_surveyed : (pages : List Page) → HavePages contents r lanes pages → ArePages contents r base (take n (read ++ drop (length read) lanes)) pages
  are_surveyed pages have =
      are_pages contents r (take n (read ++ drop (length read) lanes)) base pages (all_known contents failed reads so (take n (read ++ drop (length read) lanes))) (based pages have) (have_surveyed pages have)

module _ {L G : Type 0} (contents : L → Option Pages) (failed : L → Marks) (bytes : G → Option (List ℕ)) (synced : G → ℕ) (write_faults : L → ℕ) (log_faults : G → ℕ) (r : RelationFork) (base : ℕ) (lanes : List L)
    (same_totals : (pages others : List Page) → DifferInPositions pages others → totals_of others ≡ totals_of pages) where
  -- what a rewrite leaves of a sample
  pub rewritten : (v : Rewritten L) (log : G) (known : List ℕ) → bytes log ≡ Some known → (end : Result RewriteTotals RewriteError) → end ≡ Ok v.totals
      → LeavesRewritten contents failed bytes synced write_faults log_faults r base lanes v.lanes.items log end
      → v.log ≡ record { base = base; end = base + 8224 * v.totals.changed } → (pages : List Page) → ArePages contents r base lanes pages → base ≡ log_base pages
      → IsSampleRewritten contents r pages v
  rewritten v log known told end ends left span pages are based =
      let leaves = subst (λ (e : Result RewriteTotals RewriteError). LeavesRewritten contents failed bytes synced write_faults log_faults r base lanes v.lanes.items log e) ends left in
      let totals = leaves.totals pages are in
      let whole = leaves.whole pages known are told in
      let after = pages_after contents r v.lanes.items pages in
      record {
        after = after;
        have = record { held = leaves.held pages are; counted = are.have.counted ∙ sym whole.counted };
        alike = same_totals (map after_rewrite pages) after whole.alike;
        totals = totals;
        log = span ∙ λ i. record { base = based i; end = based i + 8224 * (totals i).changed };
      }

-- a rewrite that is done has met no write fault
pub no_write_failed : (reads writes logs logs_now : ℕ) (end : Result RewriteTotals RewriteError) (totals : RewriteTotals) → end ≡ Ok totals → HasRewriteCause reads writes logs logs_now end → writes ≡ 0
no_write_failed reads writes logs logs_now (Ok done) totals is has = has.cause.1
no_write_failed reads writes logs logs_now (Err why) totals is has = absurd (cc is)

-- no more pages are changed than the relation has blocks
pub changed_within : {L : Type 0} (contents : L → Option Pages) (r : RelationFork) (base : ℕ) (lanes : List L) (end : Result RewriteTotals RewriteError) (totals : RewriteTotals) → end ≡ Ok totals
    → IfOk end (λ totals. (pages : List Page) → ArePages contents r base lanes pages → totals ≡ rewrite_totals_of pages) → (pages : List Page) → ArePages contents r base lanes pages → totals.changed ≤ r.blocks
changed_within contents r base lanes end totals ends is pages are =
    let all = subst (λ (e : Result RewriteTotals RewriteError). IfOk e (λ totals. (pages : List Page) → ArePages contents r base lanes pages → totals ≡ rewrite_totals_of pages)) ends is pages are in
    let changed = ap (λ (t : RewriteTotals). t.changed) all in
    let most = count_by-le-length is_changed_outcome (map page_rewrite_of pages) in
    let long = length-map pages page_rewrite_of in
    let counted = are.have.counted in
    omega (arith, changed, most, long, counted)

-- what is known of any pages of the lanes, of these
pub of_pages : {L E : Type 0} (contents : L → Option Pages) (r : RelationFork) (lanes : List L) (pages : List Page) (result : Result SampleTotals E)
    → IfOk result (λ totals. (pages : List Page) → HavePages contents r lanes pages → totals ≡ sample_totals_of pages) → HavePages contents r lanes pages → IfOk result (λ totals. totals ≡ sample_totals_of pages)
of_pages contents r lanes pages (Ok totals) is have = is pages have
of_pages contents r lanes pages (Err why) is have = tt

-- what is printed in the end
pub totals_are : (pages : List Page) (t : SampleTotals) → t.before ≡ totals_of pages → t.rewrite ≡ rewrite_totals_of pages → t.log ≡ log_span_of pages → t.after ≡ totals_of (map after_rewrite pages)
    → t ≡ sample_totals_of pages
totals_are pages t before rewrite log after = λ i. record { before = before i; rewrite = rewrite i; log = log i; after = after i }
