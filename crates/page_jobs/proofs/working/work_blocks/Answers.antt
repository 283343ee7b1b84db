use Rattle.std.proofs.Common.{rules, ◌≡◌, ℕ, suc, ◌+◌, ◌*◌, ◌-◌, ◌<◌, Ok, sym, subst, arith}
use Rattle.block_tag.specs.declared.tag.Tag.{Tag}
use Rattle.page_jobs.specs.JobBlocks.{DoesAt, IsInside}
use Rattle.page_jobs.proofs.JobPlaces.{has_place, inside_at}
use Rattle.page_jobs.specs.Blocks.{blocks_from}
use Rattle.page_jobs.specs.Working.{DoesBlocks}
use Rattle.page_jobs.proofs.WorkerBlocks.{does_more}
use Rattle.page_jobs.proofs.working.work_blocks.Goals as goal

pub tag-tag-requires : goal.tag-tag-requires
tag-tag-requires g c =
    let low : c.loop-place.place < c.args.count = search rules in
    record { place = has_place c.args.manager.now c.args.blocks.now c.loop-place.place (subst (λ (n : ℕ). c.loop-place.place < n) c.requires.count low) }

pub work_block-requires-clause-block : goal.work_block-requires-clause-block
work_block-requires-clause-block g c =
    let low : c.loop-place.place < c.args.count = search rules in
    subst (λ (t : Tag). IsInside c.args.manager.now t) (sym c.tag-tag.ensures) (inside_at c.args.manager.now c.args.blocks.now c.loop-place.place c.requires.there (subst (λ (n : ℕ). c.loop-place.place < n) c.requires.count low))

pub loop-place-preserved : goal.loop-place-preserved
loop-place-preserved g c =
    let i = c.loop-place.invariant in
    let D = DoesAt (g.K.BlockTask.does c.args.manager.now) c.args.blocks.now in
    let from : ℕ = 8 * c.args.chunk in
    let n : ℕ = c.loop-place.place - from in
    let low = i.ordered in
    let at : c.loop-place.place ≡ from + n = omega (arith, low) in
    let next : suc n ≡ c.loop-place.place + 1 - from = omega (arith, low) in
    let w = c.in_ok-work_block.ensures in
    record {
      number = i.number;
      seat = i.seat;
      ordered = omega (arith, low);
      did = subst (λ (j : ℕ). DoesBlocks D (blocks_from from j) c.args.worker.now.pass c.work_block.new.pass c.args.worker.now.task c.work_block.new.self) next
          (does_more D from n c.args.worker.now.pass c.loop-place.worker.pass c.work_block.new.pass c.args.worker.now.task c.loop-place.worker.task c.work_block.new.self i.did (subst (λ (b : ℕ). D b c.loop-place.worker.pass c.work_block.new.pass c.loop-place.worker.task c.work_block.new.self (Ok tt)) at (subst (λ (t : Tag). g.K.BlockTask.does c.args.manager.now t c.loop-place.worker.pass c.work_block.new.pass c.loop-place.worker.task c.work_block.new.self (Ok tt)) c.tag-tag.ensures w.does)));
      free = w.free;
      fits = λ m can j le. w.fits j (i.fits (m + 1) (λ k few. can k (omega (arith, few, next))) (j + 1) (omega (arith, le)));
    }
