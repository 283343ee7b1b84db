use Rattle.std.proofs.Common.{rules, ◌≡◌, ℕ, ◌+◌, ◌-◌, ◌<◌, ◌≤◌, List, Ok, refl, sym, ap, ◌∙◌, subst, arith}
use Rattle.grid.specs.Shape.{total}
use Rattle.grid.proofs.Sums.{total-snoc}
use Rattle.atomic_table.specs.declared.shared.Seat.{Seat}
use Rattle.chunk_claims.specs.declared.claimant.Claimant.{Claimant}
use Rattle.chunk_claims.specs.Claims.{SitsAt, sum_below}
use Rattle.page_jobs.specs.JobBlocks.{DoesAt, count_in}
use Rattle.page_jobs.specs.Chunks.{Ascend, chunk_count, chunk_size}
use Rattle.page_jobs.specs.Working.{DoesChunk, DoesChunks}
use Rattle.page_jobs.proofs.Ascending.{ascend_drawn, ascend_none, ascend_past}
use Rattle.chunk_claims.proofs.Weights.{total_nothing}
use Rattle.page_jobs.proofs.ChunkSums.{can_take, draws_chunk, size_few, size_last, sizes_all, still_takes}
use Rattle.page_jobs.proofs.ClaimedChunks.{chunks_below}
use Rattle.page_jobs.proofs.WorkerBlocks.{chunks_more, works_failed, works_none}
use Rattle.page_jobs.proofs.working.work_chunks.Goals as goal

pub loop-init : goal.loop-init
loop-init g c =
    let r = c.requires in
    let n = count_in c.args.manager.now c.args.blocks.now in
    let D = DoesAt (g.K.BlockTask.does c.args.manager.now) c.args.blocks.now in
    record {
      can = tt;
      finite = tt;
      number = refl;
      sits = r.seat;
      part = r.claims.part;
      known = (r.claims.chunks_are, r.claims.workers_are);
      did = subst (λ (l : List ℕ). DoesChunks D g.K.BlockTask.closes n l c.args.worker.now.pass c.args.worker.now.pass c.args.worker.now.task c.args.worker.now.task) (sym r.claims.drawn) (refl, refl);
      ascend = ascend_none c.args.worker.now.seat.me.0.drawn r.claims.drawn;
      few = let none = total_nothing (chunk_size n) c.args.worker.now.seat.me.0.drawn r.claims.drawn in omega (arith, none);
      free = r.free;
      opens = r.opens;
      fits = λ k few. r.fits k (omega (arith, few));
    }

pub work_chunk-requires-clause-fits : goal.work_chunk-requires-clause-fits
work_chunk-requires-clause-fits g c =
    let i = c.loop.invariant in
    let n = count_in c.args.manager.now c.args.blocks.now in
    let chunk = c.in-Some-claim.chunk in
    let s = c.in-Some-claim.ensures.some in
    let more : total (chunk_size n) c.claim.new.seat.me.0.drawn ≡ total (chunk_size n) c.loop.worker.seat.me.0.drawn + chunk_size n chunk = ap (λ (x : Claimant). total (chunk_size n) x.drawn) s.1 ∙ total-snoc (chunk_size n) c.loop.worker.seat.me.0.drawn chunk in
    let within : total (chunk_size n) c.claim.new.seat.me.0.drawn ≤ sum_below (chunk + 1) (chunk_size n) = c.in-Some-claim.ensures.within (chunk_size n) in
    let all : sum_below (chunk + 1) (chunk_size n) ≤ n = sizes_all n (chunk + 1) in
    let count = c.count-count.ensures.count in
    let size : chunk_size c.count-count.result chunk ≡ chunk_size n chunk = ap (λ (m : ℕ). chunk_size m chunk) count in
    let low = c.count-count.type_inv in
    λ k few. i.fits k (can_take k (chunk_size c.count-count.result chunk) (chunk_size n chunk) (total (chunk_size n) c.loop.worker.seat.me.0.drawn) (total (chunk_size n) c.claim.new.seat.me.0.drawn) (sum_below (chunk + 1) (chunk_size n)) n c.count-count.result few size more within all count low)

pub loop-preserved : goal.loop-preserved
loop-preserved g c =
    let i = c.loop.invariant in
    let n = count_in c.args.manager.now c.args.blocks.now in
    let D = DoesAt (g.K.BlockTask.does c.args.manager.now) c.args.blocks.now in
    let s = c.in-Some-claim.ensures.some in
    let w = c.in_ok-work_chunk.ensures in
    let chunk = c.in-Some-claim.chunk in
    let old = c.loop.worker.seat.me.0 in
    let new : Seat (Unit {0}) Claimant = c.work_chunk.new.worker.seat in
    let same : new ≡ c.claim.new.seat = w.same.1 in
    let d = draws_chunk n chunk c.args.claims.now.chunks old new.me.0 s.0 (ap (λ (x : Seat (Unit {0}) Claimant). x.me.0) same ∙ s.1) i.known.0 i.part in
    let few : total (chunk_size n) new.me.0.drawn ≤ n = size_few n (chunk + 1) new.me.0.drawn
    (subst (λ (x : Seat (Unit {0}) Claimant). total (chunk_size n) x.me.0.drawn ≤ sum_below (chunk + 1) (chunk_size n)) (sym same) (c.in-Some-claim.ensures.within (chunk_size n))) in
    let fewest : total (chunk_size n) new.me.0.drawn ≤ 4294967296 = let count = c.count-count.ensures.count in let low = c.count-count.type_inv in omega (arith, few, count, low) in
    record {
      can = tt;
      finite = tt;
      number = w.same.0 ∙ i.number;
      sits = subst (SitsAt c.args.claims.now.table.shared.table_id) (sym same) c.in-Some-claim.ensures.seat;
      part = d.part;
      known = (d.chunks_are, d.workers_are ∙ i.known.1);
      did = subst (λ (l : List ℕ). DoesChunks D g.K.BlockTask.closes n l c.args.worker.now.pass c.work_chunk.new.worker.pass c.args.worker.now.task c.work_chunk.new.worker.task) (sym d.drawn)
          (chunks_more D g.K.BlockTask.closes n old.drawn chunk c.args.worker.now.pass c.loop.worker.pass c.work_chunk.new.worker.pass c.args.worker.now.task c.loop.worker.task c.work_chunk.new.worker.task i.did
          (subst (λ (m : ℕ). chunk < m) (c.requires.chunks) c.in-Some-claim.ensures.some.0)
          (subst (λ (m : ℕ). DoesChunk D g.K.BlockTask.closes m chunk c.loop.worker.pass c.work_chunk.new.worker.pass c.loop.worker.task c.work_chunk.new.worker.task (Ok tt)) c.count-count.ensures.count w.works));
      ascend = subst Ascend (sym d.drawn) (ascend_drawn chunk old.drawn i.ascend (λ h. subst (λ (l : List ℕ). total h l ≤ sum_below (chunk + 1) h) (ap (λ (x : Claimant). x.drawn) s.1) (c.in-Some-claim.ensures.within h)));
      few = few;
      free = w.free;
      opens = w.opens;
      fits = w.fits (4294967296 - total (chunk_size n) new.me.0.drawn) (λ k few. i.fits k (still_takes k (chunk_size c.count-count.result chunk) (chunk_size n chunk) (total (chunk_size n) old.drawn) (total (chunk_size n) new.me.0.drawn) few (ap (λ (m : ℕ). chunk_size m chunk) c.count-count.ensures.count) d.sizes fewest));
    }

pub returns-in_err-zeroed-clause-works : goal.returns-in_err-zeroed-clause-works
returns-in_err-zeroed-clause-works g c =
    works_none (DoesAt (g.K.BlockTask.does c.args.manager.now) c.args.blocks.now) g.K.BlockTask.closes (count_in c.args.manager.now c.args.blocks.now) _ _ _ _ (search rules) c.requires.claims.drawn

pub returns-in_err-zeroed-2-clause-works : goal.returns-in_err-zeroed-2-clause-works
returns-in_err-zeroed-2-clause-works g c =
    works_none (DoesAt (g.K.BlockTask.does c.args.manager.now) c.args.blocks.now) g.K.BlockTask.closes (count_in c.args.manager.now c.args.blocks.now) _ _ _ _ (search rules) c.requires.claims.drawn

pub returns-in_err-ring-clause-works : goal.returns-in_err-ring-clause-works
returns-in_err-ring-clause-works g c =
    works_none (DoesAt (g.K.BlockTask.does c.args.manager.now) c.args.blocks.now) g.K.BlockTask.closes (count_in c.args.manager.now c.args.blocks.now) _ _ _ _ (search rules) c.requires.claims.drawn

pub returns-in_default-clause-works : goal.returns-in_default-clause-works
returns-in_default-clause-works g c =
    let i = c.loop.invariant in
    let n = count_in c.args.manager.now c.args.blocks.now in
    let none = c.in_default.ensures.none in
    let low : chunk_count n ≤ none.0 = let chunks = c.requires.chunks in let past = none.1 in omega (arith, chunks, past) in
    record {
      whole = c.loop.worker.seat.me.0.drawn;
      pass = c.loop.worker.pass;
      task = c.loop.worker.task;
      does_them = i.did;
      ends = ((none.0, low, ap (λ (x : Claimant). x.drawn) none.2), refl, refl);
      ascend = subst Ascend (sym (ap (λ (x : Claimant). x.drawn) none.2)) (ascend_past (chunk_count n) none.0 c.loop.worker.seat.me.0.drawn i.ascend
          (chunks_below (DoesAt (g.K.BlockTask.does c.args.manager.now) c.args.blocks.now) g.K.BlockTask.closes n c.loop.worker.seat.me.0.drawn c.args.worker.now.pass c.loop.worker.pass c.args.worker.now.task c.loop.worker.task i.did) low);
      few = size_last n none.0 c.loop.worker.seat.me.0 _ low none.2 i.few;
    }

pub returns-in_err-work_chunk-clause-works : goal.returns-in_err-work_chunk-clause-works
returns-in_err-work_chunk-clause-works g c =
    let i = c.loop.invariant in
    let n = count_in c.args.manager.now c.args.blocks.now in
    let D = DoesAt (g.K.BlockTask.does c.args.manager.now) c.args.blocks.now in
    let chunk = c.in-Some-claim.chunk in
    let s = c.in-Some-claim.ensures.some in
    let w = c.in_err-work_chunk.ensures in
    let new : Seat (Unit {0}) Claimant = c.work_chunk.new.worker.seat in
    let same : new ≡ c.claim.new.seat = w.same.1 in
    works_failed D g.K.BlockTask.closes n c.count-count.result c.loop.worker.seat.me.0.drawn new.me.0.drawn chunk c.args.worker.now.pass c.loop.worker.pass c.work_chunk.new.worker.pass c.args.worker.now.task c.loop.worker.task c.work_chunk.new.worker.task _ _
    c.count-count.ensures.count i.did
    (subst (λ (m : ℕ). chunk < m) c.requires.chunks s.0)
    (ap (λ (x : Seat (Unit {0}) Claimant). x.me.0.drawn) same ∙ ap (λ (x : Claimant). x.drawn) s.1)
    w.works
    (subst (λ (x : Seat (Unit {0}) Claimant). Ascend x.me.0.drawn) (sym same) (subst (λ (x : Claimant). Ascend x.drawn) (sym s.1)
    (ascend_drawn chunk c.loop.worker.seat.me.0.drawn i.ascend (λ h. subst (λ (l : List ℕ). total h l ≤ sum_below (chunk + 1) h) (ap (λ (x : Claimant). x.drawn) s.1) (c.in-Some-claim.ensures.within h)))))
    (size_few n (chunk + 1) new.me.0.drawn
    (subst (λ (x : Seat (Unit {0}) Claimant). total (chunk_size n) x.me.0.drawn ≤ sum_below (chunk + 1) (chunk_size n)) (sym same) (c.in-Some-claim.ensures.within (chunk_size n))))
    (search rules)
