use Rattle.std.proofs.Common.{ℕ, sym, subst}
use Rattle.page_layout.specs.Outcomes.{IsRewriteWithin}
use Rattle.page_jobs.proofs.RewrittenBlocks.{block_counts}
use Rattle.page_jobs.proofs.rewriting.RewriterBlockTaskUnit.work_block.Goals as goal

pub returns-clause-does : goal.returns-clause-does
returns-clause-does g c =
    let within : IsRewriteWithin c.count.new.self c.count.new.self.blocks = subst (λ (n : ℕ). IsRewriteWithin c.count.new.self n) (sym c.count.ensures.within.blocks_are) c.count.ensures.within in
    block_counts {L = g.row.L.Denot} {G = g.row.G.Denot} g.L.BlockLane.contents c.args.manager.now c.args.tag.rel.0 c.args.tag.fork c.args.tag.block c.args.pass.now c.rewrite_block.new.pass c.args.self.now.totals c.count.new.self c.in_ok-what.what c.in_ok-what.ensures.rewrites c.count.ensures.counted within
