-- The steps of a sample over its lanes, and what is printed.
use Rattle.std.specs.Prelude.{◌≡◌, ℕ, ◌++◌, true, List, map, Option, is_some}
use Rattle.page_layout.specs.Outcomes.{rewrite_totals_of}
use Rattle.page_layout.specs.Scan.{totals_of}
use Rattle.segment_store.specs.Contents.{Marks, Pages, no_marks}
use Rattle.pin_core.specs.State.{Page}
use Rattle.page_jobs.specs.Printed.{totals_line}
use Rattle.relation_commands.specs.declared.sampling.LogSpan.{LogSpan}
use Rattle.relation_commands.specs.declared.sampling.Rewritten.{Rewritten}
use Rattle.relation_commands.specs.declared.sampling.SampleTotals.{SampleTotals}
use Rattle.relation_commands.specs.declared.starting.RelationFork.{RelationFork}
use Rattle.relation_commands.specs.Limits.{log_base}
use Rattle.relation_commands.specs.Rewriting.{HavePages}
use Rattle.relation_commands.specs.RewriteTexts.{log_end_of, rewrite_lines}
use Rattle.relation_commands.specs.RewriteResults.{after_rewrite}

module _ {L : Type 0} (contents : L → Option Pages) (failed : L → Marks) (read_faults : L → ℕ) where
  -- Lanes whose contents are known, of which no read fails, and no failed write leaves a block
  -- marked
  pub record AreTold : Type 0 where
    pub known : (lane : L) → is_some (contents lane) ≡ true
    pub unmarked : (lane : L) → failed lane ≡ no_marks
    pub reads : (lane : L) → read_faults lane ≡ 0

-- the positions of the log of a rewrite of these pages
abbrev pub log_span_of : List Page → LogSpan
log_span_of pages = record { base = log_base pages; end = log_end_of pages }

module _ {L : Type 0} (contents : L → Option Pages) where
  -- The lanes have each block of the relation
  pub record HaveAll (relation : RelationFork) (lanes : List L) : Type 0 where
    pub pages : List Page
    pub have : HavePages contents relation lanes pages

  -- The relation of these pages was rewritten over its lanes: the scan totals of those that the
  -- lanes have now don't depend on their log positions
  pub record IsSampleRewritten (relation : RelationFork) (pages : List Page)
      (rewritten : Rewritten L) : Type 0 where
    pub after : List Page
    pub have : HavePages contents relation rewritten.lanes.items after
    pub alike : totals_of after ≡ totals_of (map after_rewrite pages)
    pub totals : rewritten.totals ≡ rewrite_totals_of pages
    pub log : rewritten.log ≡ log_span_of pages

-- what a sample of a relation of these pages prints
abbrev pub sample_totals_of : List Page → SampleTotals
sample_totals_of pages = record {
  before = totals_of pages;
  rewrite = rewrite_totals_of pages;
  log = log_span_of pages;
  after = totals_of (map after_rewrite pages);
}

-- the lines of a sample
abbrev pub sample_lines : SampleTotals → List ℕ
sample_lines t =
    totals_line t.before ++ (rewrite_lines t.rewrite t.log.base t.log.end ++ totals_line t.after)
