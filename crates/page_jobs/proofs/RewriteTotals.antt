-- What the workers of a rewrite counted.
use Rattle.std.proofs.Common.{◌≡◌, ℕ, zero, suc, List, [], ◌∷◌, sym, subst}
use mathlib.Core.Option.{some, some-injective, some-ne-none}
use lib.ListN.{get_elem?}
use Rattle.page_layout.specs.Outcomes.{IsRewriteWithin}
use Rattle.page_jobs.specs.declared.rewriting.Rewriter.{Rewriter}
use Rattle.page_jobs.specs.declared.working.Worker.{Worker}
use Rattle.page_jobs.specs.Rewriters.{AreRewritesCounted}

pub rewrite_counted_at : (ws : List (Worker Rewriter)) (i : ℕ) (w : Worker Rewriter) → AreRewritesCounted ws → get_elem? ws i ≡ some w → IsRewriteWithin w.task.totals w.task.totals.blocks
rewrite_counted_at [] i w c at = absurd (some-ne-none w (sym at))
rewrite_counted_at (x ∷ ws) zero w c at = subst (λ (y : Worker Rewriter). IsRewriteWithin y.task.totals y.task.totals.blocks) (some-injective x w at) c.0
rewrite_counted_at (x ∷ ws) (suc i) w c at = rewrite_counted_at ws i w c.1 at
