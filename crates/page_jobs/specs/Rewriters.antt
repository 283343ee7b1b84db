-- What the workers of a rewrite have to show.
use Rattle.std.specs.Prelude.{List, [], ◌∷◌}
use Rattle.page_layout.specs.declared.outcomes.RewriteTotals.{RewriteTotals}
use Rattle.page_layout.specs.Outcomes.{IsRewriteWithin, no_rewrite_totals, sum_of_rewrite_totals}
use Rattle.page_jobs.specs.declared.rewriting.Rewriter.{Rewriter}
use Rattle.page_jobs.specs.declared.working.Worker.{Worker}

-- what they counted, in all
abbrev pub rewritten_totals : List (Worker Rewriter) → RewriteTotals
rewritten_totals [] = no_rewrite_totals
rewritten_totals (w ∷ ws) = sum_of_rewrite_totals w.task.totals (rewritten_totals ws)

-- no number of theirs is above what their blocks can give
abbrev pub AreRewritesCounted : List (Worker Rewriter) → Type 0
AreRewritesCounted [] = Unit {0}
AreRewritesCounted (w ∷ ws) =
    IsRewriteWithin w.task.totals w.task.totals.blocks × AreRewritesCounted ws
