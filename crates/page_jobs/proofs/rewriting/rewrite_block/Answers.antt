use Rattle.std.proofs.Common.{Ok, Err, Result, sym, ◌∙◌, subst}
use Rattle.block_tag.specs.declared.tag.Tag.{Tag}
use Rattle.page_layout.specs.declared.outcomes.PageRewrite.{PageRewrite}
use Rattle.page_jobs.specs.declared.ending.JobError.{JobError}
use Rattle.page_jobs.specs.Rewriting.{RewritesBlock, RewritesHeld}
use Rattle.page_jobs.proofs.Blocks.{finds_unsound}
use Rattle.page_jobs.proofs.BlockRewrites.{block_rewritten, block_unput, block_unread, block_unsound}
use Rattle.page_jobs.proofs.rewriting.rewrite_block.Goals as goal

pub returns-in-Ok-rewrite_held : goal.returns-in-Ok-rewrite_held
returns-in-Ok-rewrite_held g c =
    let one = c.in-Ok.ensures.locked in
    record {
      rewrites = block_rewritten {L = g.row.L.Denot} {G = g.row.G.Denot} g.L.BlockLane.contents c.args.manager.now c.args.tag c.args.pass.now c.lock_block.new.pass c.rewrite_held.new.pass c.in-Ok.exclusive one c.in-Ok-rewrite_held.what
          (subst (λ (t : Tag). RewritesHeld {L = g.row.L.Denot} {G = g.row.G.Denot} g.L.BlockLane.contents c.args.manager.now t c.in-Ok.exclusive.pinned.frame c.lock_block.new.pass c.rewrite_held.new.pass (Ok c.in-Ok-rewrite_held.what)) one.tag_is
          (subst (λ (r : Result PageRewrite _). RewritesHeld {L = g.row.L.Denot} {G = g.row.G.Denot} g.L.BlockLane.contents c.args.manager.now c.in-Ok.exclusive.pinned.tag c.in-Ok.exclusive.pinned.frame c.lock_block.new.pass c.rewrite_held.new.pass r) c.in-Ok-rewrite_held.is c.rewrite_held.ensures.rewrites));
    }

pub returns-in-Err-rewrite_held : goal.returns-in-Err-rewrite_held
returns-in-Err-rewrite_held g c =
    let one = c.in-Ok.ensures.locked in
    record {
      rewrites = subst (λ (e : JobError). RewritesBlock {L = g.row.L.Denot} {G = g.row.G.Denot} g.L.BlockLane.contents c.args.manager.now c.args.tag.rel.0 c.args.tag.fork c.args.tag.block c.args.pass.now c.rewrite_held.new.pass (Err e)) (sym c.fault_of_put.ensures)
          (block_unput {L = g.row.L.Denot} {G = g.row.G.Denot} g.L.BlockLane.contents c.args.manager.now c.args.tag c.args.pass.now c.lock_block.new.pass c.rewrite_held.new.pass c.in-Ok.exclusive one c.in-Err-rewrite_held.why c.requires.block
          (subst (λ (t : Tag). RewritesHeld {L = g.row.L.Denot} {G = g.row.G.Denot} g.L.BlockLane.contents c.args.manager.now t c.in-Ok.exclusive.pinned.frame c.lock_block.new.pass c.rewrite_held.new.pass (Err c.in-Err-rewrite_held.why)) one.tag_is
          (subst (λ (r : Result PageRewrite _). RewritesHeld {L = g.row.L.Denot} {G = g.row.G.Denot} g.L.BlockLane.contents c.args.manager.now c.in-Ok.exclusive.pinned.tag c.in-Ok.exclusive.pinned.frame c.lock_block.new.pass c.rewrite_held.new.pass r) c.in-Err-rewrite_held.is c.rewrite_held.ensures.rewrites)));
    }

pub returns-in-Some : goal.returns-in-Some
returns-in-Some g c = record {
  rewrites = block_unread {L = g.row.L.Denot} {G = g.row.G.Denot} g.L.BlockLane.contents c.args.manager.now c.args.tag c.args.pass.now c.lock_block.new.pass c.in-Err.why c.in-Some.error c.requires.block c.in-Err.ensures.refused (sym c.fault_of.ensures ∙ c.in-Some.is);
}

pub returns-in-None : goal.returns-in-None
returns-in-None g c = record {
  rewrites = block_unsound {L = g.row.L.Denot} {G = g.row.G.Denot} g.L.BlockLane.contents c.args.manager.now c.args.tag c.args.pass.now c.lock_block.new.pass
      (finds_unsound {L = g.row.L.Denot} {G = g.row.G.Denot} g.L.BlockLane.contents c.args.manager.now c.args.tag c.args.pass.now c.lock_block.new.pass c.in-Err.why c.in-Err.ensures.refused (sym c.fault_of.ensures ∙ c.in-None.is));
}
