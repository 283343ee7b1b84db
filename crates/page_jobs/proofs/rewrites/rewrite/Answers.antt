use Rattle.std.proofs.Common.{ℕ, ◌-◌, ◌<◌, ◌≤◌, List, length, Ok, refl, sym, subst, rules}
use Rattle.backend_pass.specs.Passes.{PassState}
use Rattle.page_jobs.specs.Beside.{StaysBeside}
use Rattle.page_jobs.specs.Jobs.{workers_in}
use Rattle.page_jobs.specs.RewriteJobs.{RewriteParts}
use Rattle.page_jobs.proofs.BesideWork.{stays_none}
use Rattle.page_jobs.proofs.Completing.{rewrite_complete, rewrite_short}
use Rattle.page_jobs.proofs.Deals.{free_taken}
use Rattle.page_jobs.proofs.RewrittenForks.{comes_to, fewest, in_range, rewriter_fits, some_work}
use Rattle.page_jobs.proofs.RewriteWorkers.{undone_parts}
use Rattle.page_jobs.proofs.rewrites.rewrite.Goals as goal

pub run_job-requires-clause-starts : goal.run_job-requires-clause-starts
run_job-requires-clause-starts g c κs within = λ k begun. (rewriter_fits k begun, tt)

pub end_rewrite-end-requires : goal.end_rewrite-end-requires
end_rewrite-end-requires g c =
    let did : PassState → PassState → Type 0 = (λ p q. g.B.Beside.works c.args.manager.now c.args.beside.now c.run_job.new.beside p q (Ok tt)) in
    let several : 2 ≤ length c.args.passes.items = search rules in
    let limit : length c.args.passes.items ≤ 64 = search rules in
    record {
      counts = in_range {L = g.row.L.Denot} {G = g.row.G.Denot} g.L.BlockLane.contents c.args.manager.now c.args.rel.0 c.args.fork did c.args.passes.items c.in-Ok.ran several c.requires.free (λ block below. c.blocks-count.ensures.named block (subst (λ (n : ℕ). block < n) (sym c.blocks-count.ensures.count) below)) c.in-Ok.ensures.ran c.deref.result.now c.deref.ensures.value;
      few = fewest {L = g.row.L.Denot} {G = g.row.G.Denot} g.L.BlockLane.contents c.args.manager.now c.args.rel.0 c.args.fork did c.args.passes.items c.in-Ok.ran several c.requires.free (λ block below. c.blocks-count.ensures.named block (subst (λ (n : ℕ). block < n) (sym c.blocks-count.ensures.count) below)) c.in-Ok.ensures.ran c.deref.result.now c.deref.ensures.value limit;
    }

pub give_back-passes-requires-clause-seats : goal.give_back-passes-requires-clause-seats
give_back-passes-requires-clause-seats g c =
    let ran = c.in-Ok.ran in
    let h = c.in-Ok.ensures.ran in
    let did : PassState → PassState → Type 0 = (λ p q. g.B.Beside.works c.args.manager.now c.args.beside.now c.run_job.new.beside p q (Ok tt)) in
    let several : 2 ≤ length c.args.passes.items = search rules in
    let worked : 0 < length ran.workers.items = some_work {L = g.row.L.Denot} {G = g.row.G.Denot} g.L.BlockLane.contents c.args.manager.now c.args.rel.0 c.args.fork did c.args.passes.items ran several c.requires.free (λ block below. c.blocks-count.ensures.named block (subst (λ (n : ℕ). block < n) (sym c.blocks-count.ensures.count) below)) h ran.workers.items refl in
    (h.seats, h.many, search rules)

pub returns-in-Ok : goal.returns-in-Ok
returns-in-Ok g c =
    let ps = c.args.passes.items in
    let end = c.end_rewrite-end.result in
    let qs : List PassState = c.give_back-passes.result.items in
    let did : PassState → PassState → Type 0 = (λ p q. g.B.Beside.works c.args.manager.now c.args.beside.now c.run_job.new.beside p q (Ok tt)) in
    let several : 2 ≤ length ps = search rules in
    let e = c.end_rewrite-end.ensures in
    let x = comes_to {L = g.row.L.Denot} {G = g.row.G.Denot} g.L.BlockLane.contents c.args.manager.now c.args.rel.0 c.args.fork did ps c.in-Ok.ran several c.requires.free (λ block below. c.blocks-count.ensures.named block (subst (λ (n : ℕ). block < n) (sym c.blocks-count.ensures.count) below)) c.in-Ok.ensures.ran
    c.deref.result.now c.deref.ensures.value qs c.give_back-passes.ensures.passes c.give_back-passes.ensures.once end e.done e.beside e.cause in
    record {
      passes = x.passes;
      last = x.last;
      met = x.met;
      beside = x.beside;
      done = x.done;
      cause = x.cause;
      short = rewrite_short {L = g.row.L.Denot} {G = g.row.G.Denot} g.L.BlockLane.contents c.args.manager.now c.args.rel.0 c.args.fork ps qs end x.cause;
      complete = rewrite_complete {L = g.row.L.Denot} {G = g.row.G.Denot} g.L.BlockLane.contents c.args.manager.now c.args.rel.0 c.args.fork ps qs end x.cause;
    }

pub returns-in-Err-clause-passes : goal.returns-in-Err-clause-passes
returns-in-Err-clause-passes g c =
    subst (λ (l : List PassState). RewriteParts {L = g.row.L.Denot} {G = g.row.G.Denot} g.L.BlockLane.contents c.args.manager.now c.args.rel.0 c.args.fork (workers_in c.args.passes.items) (workers_in l)) (sym c.in-Err.ensures.refused.0)
    (undone_parts {L = g.row.L.Denot} {G = g.row.G.Denot} g.L.BlockLane.contents c.args.manager.now c.args.rel.0 c.args.fork (workers_in c.args.passes.items) (λ block below. c.blocks-count.ensures.named block (subst (λ (n : ℕ). block < n) (sym c.blocks-count.ensures.count) below))
    (free_taken {L = g.row.L.Denot} {G = g.row.G.Denot} g.L.BlockLane.contents c.args.manager.now (length c.args.passes.items - 1) c.args.passes.items c.requires.free))

pub returns-in-Err-clause-last : goal.returns-in-Err-clause-last
returns-in-Err-clause-last g c =
    subst (StaysBeside {L = g.row.L.Denot} {G = g.row.G.Denot} g.L.BlockLane.contents c.args.manager.now c.args.passes.items) (sym c.in-Err.ensures.refused.0) (stays_none {L = g.row.L.Denot} {G = g.row.G.Denot} g.L.BlockLane.contents c.args.manager.now c.args.passes.items c.requires.free)
