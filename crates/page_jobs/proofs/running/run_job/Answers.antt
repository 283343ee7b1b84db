use Rattle.std.proofs.Common.{◌≡◌, ℕ, ◌-◌, ◌<◌, List, [], ◌∷◌, length, ap, ◌∙◌, subst, rules}
use Rattle.std.specs.Prelude.{vec_len}
use Rattle.backend_pass.specs.Passes.{PassState}
use Rattle.page_jobs.specs.JobBlocks.{DoesAt, count_in}
use Rattle.page_jobs.specs.declared.working.Worker.{Worker}
use Rattle.page_jobs.specs.Chunks.{chunk_count}
use Rattle.page_jobs.specs.Jobs.{HaveNoTokens}
use Rattle.page_jobs.proofs.Deals.{all_ready, free_back, free_front}
use Rattle.page_jobs.proofs.WorkerBlocks.{have_done}
use Rattle.page_jobs.proofs.running.run_job.Goals as goal

pub deal_out-requires-clause-deals : goal.deal_out-requires-clause-deals
deal_out-requires-clause-deals g c =
    let less : vec_len c.args.passes - 1 ≡ vec_len c.take_last-last.new.self = search rules in
    subst (λ (n : ℕ). g.K.JobTask.deals n c.args.task.now) less c.requires.deals

pub work_beside-beside_end-requires-clause-chunks : goal.work_beside-beside_end-requires-clause-chunks
work_beside-beside_end-requires-clause-chunks g c κs within = c.in-Ok.ensures.dealt.0.chunks ∙ ap chunk_count c.count-count.ensures.count

pub work_beside-beside_end-requires-clause-ready : goal.work_beside-beside_end-requires-clause-ready
work_beside-beside_end-requires-clause-ready g c κs within =
    all_ready {L = g.row.L.Denot} {G = g.row.G.Denot} g.L.BlockLane.contents c.args.manager.now (g.K.JobTask.begins c.args.task.now) c.in-Ok.dealt.claims g.K.BlockTask.fits
    (g.K.BlockTask.opens c.args.manager.now c.args.blocks.now) c.requires.starts 0 c.take_last-last.new.self.items c.in-Ok.dealt.workers.items
    c.in-Ok.ensures.dealt.0.dealt
    (free_front {L = g.row.L.Denot} {G = g.row.G.Denot} g.L.BlockLane.contents c.args.manager.now c.take_last-last.new.self.items (c.take_last-last.result ∷ [])
    (subst (HaveNoTokens {L = g.row.L.Denot} {G = g.row.G.Denot} g.L.BlockLane.contents c.args.manager.now) c.take_last-last.ensures.items c.requires.free))

pub work_beside-beside_end-requires-clause-free : goal.work_beside-beside_end-requires-clause-free
work_beside-beside_end-requires-clause-free g c κs within =
    (free_back {L = g.row.L.Denot} {G = g.row.G.Denot} g.L.BlockLane.contents c.args.manager.now c.take_last-last.new.self.items (c.take_last-last.result ∷ [])
    (subst (HaveNoTokens {L = g.row.L.Denot} {G = g.row.G.Denot} g.L.BlockLane.contents c.args.manager.now) c.take_last-last.ensures.items c.requires.free)).0

pub returns-in-Ok-clause-ran : goal.returns-in-Ok-clause-ran
returns-in-Ok-clause-ran g c =
    let D = DoesAt (g.K.BlockTask.does c.args.manager.now) c.args.blocks.now in
    let n = count_in c.args.manager.now c.args.blocks.now in
    let ps : List PassState = c.take_last-last.new.self.items in
    let xs : List (Worker g.row.K.Denot) = c.work_beside-beside_end.new.workers.items in
    let out = c.in-Ok.ensures.dealt.0 in
    let w = c.work_beside-beside_end.ensures in
    let long : length xs ≡ length c.in-Ok.dealt.workers.items = search rules in
    record {
      before = ps;
      last = c.take_last-last.result;
      split = c.take_last-last.ensures.items;
      done = have_done D g.K.BlockTask.closes n (g.K.JobTask.begins c.args.task.now) c.in-Ok.dealt.claims 0 ps c.in-Ok.dealt.workers.items xs out.dealt long w.worked;
      beside = w.beside;
      did_beside = w.works;
      none = c.in-Ok.ensures.dealt.1;
      room = search rules;
      chunks = out.chunks ∙ ap chunk_count c.count-count.ensures.count;
      seats = w.seats;
      many = search rules;
      sits = out.sits;
      seat = out.seat;
      few = subst (λ (m : ℕ). m < 4294967296) c.count-count.ensures.count c.count-count.type_inv;
    }
