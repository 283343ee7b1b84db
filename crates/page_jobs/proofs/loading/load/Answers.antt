use Rattle.std.proofs.Common.{◌-◌, ◌<◌, ◌≤◌, List, length, Ok, sym, subst, rules}
use Rattle.backend_pass.specs.Passes.{PassState}
use Rattle.page_jobs.specs.Beside.{StaysBeside}
use Rattle.page_jobs.specs.Jobs.{workers_in}
use Rattle.page_jobs.specs.Loads.{LoadsParts, MarksStay}
use Rattle.page_jobs.proofs.BesideWork.{stays_none}
use Rattle.page_jobs.proofs.Deals.{free_taken}
use Rattle.page_jobs.proofs.LoadedLists.{load_comes_to, marks_none, some_work}
use Rattle.page_jobs.proofs.LoadWorkers.{unloaded_parts}
use Rattle.page_jobs.proofs.loading.load.Goals as goal

pub run_job-requires-clause-there : goal.run_job-requires-clause-there
run_job-requires-clause-there g c κs within = (c.requires.short, c.requires.inside)

pub run_job-requires-clause-starts : goal.run_job-requires-clause-starts
run_job-requires-clause-starts g c κs within = λ k begun. ((λ n few. tt), tt)

pub give_back-passes-requires-clause-seats : goal.give_back-passes-requires-clause-seats
give_back-passes-requires-clause-seats g c =
    let ran = c.in-Ok.ran in
    let h = c.in-Ok.ensures.ran in
    let did : PassState → PassState → Type 0 = (λ p q. g.B.Beside.works c.args.manager.now c.args.beside.now c.run_job.new.beside p q (Ok tt)) in
    let several : 2 ≤ length c.args.passes.items = search rules in
    let worked : 0 < length ran.workers.items = some_work {L = g.row.L.Denot} {G = g.row.G.Denot} g.L.BlockLane.contents c.args.manager.now c.args.tags.now did c.args.passes.items ran several c.requires.free h in
    (h.seats, h.many, search rules)

pub returns-in-Ok : goal.returns-in-Ok
returns-in-Ok g c =
    let ps = c.args.passes.items in
    let qs : List PassState = c.give_back-passes.result.items in
    let did : PassState → PassState → Type 0 = (λ p q. g.B.Beside.works c.args.manager.now c.args.beside.now c.run_job.new.beside p q (Ok tt)) in
    let several : 2 ≤ length ps = search rules in
    let e = c.end_load-end.ensures in
    let x = load_comes_to {L = g.row.L.Denot} {G = g.row.G.Denot} g.L.BlockLane.contents c.args.manager.now c.args.tags.now did ps c.in-Ok.ran several c.requires.free c.in-Ok.ensures.ran
    qs c.give_back-passes.ensures.passes c.give_back-passes.ensures.once c.end_load-end.result c.deref.result.now c.deref.ensures.value e.done e.beside e.cause in
    record {
      passes = x.passes;
      last = x.last;
      marks = x.marks;
      met = x.met;
      beside = x.beside;
      done = x.done;
      found = x.found;
      totals = e.totals;
      cause = x.cause;
      short = x.short;
      complete = x.complete;
    }

pub returns-in-Err-clause-passes : goal.returns-in-Err-clause-passes
returns-in-Err-clause-passes g c =
    subst (λ (l : List PassState). LoadsParts {L = g.row.L.Denot} {G = g.row.G.Denot} g.L.BlockLane.contents c.args.manager.now c.args.tags.now (workers_in c.args.passes.items) (workers_in l)) (sym c.in-Err.ensures.refused.0)
    (unloaded_parts {L = g.row.L.Denot} {G = g.row.G.Denot} g.L.BlockLane.contents c.args.manager.now c.args.tags.now (workers_in c.args.passes.items)
    (free_taken {L = g.row.L.Denot} {G = g.row.G.Denot} g.L.BlockLane.contents c.args.manager.now (length c.args.passes.items - 1) c.args.passes.items c.requires.free))

pub returns-in-Err-clause-last : goal.returns-in-Err-clause-last
returns-in-Err-clause-last g c =
    subst (StaysBeside {L = g.row.L.Denot} {G = g.row.G.Denot} g.L.BlockLane.contents c.args.manager.now c.args.passes.items) (sym c.in-Err.ensures.refused.0) (stays_none {L = g.row.L.Denot} {G = g.row.G.Denot} g.L.BlockLane.contents c.args.manager.now c.args.passes.items c.requires.free)

pub returns-in-Err-clause-marks : goal.returns-in-Err-clause-marks
returns-in-Err-clause-marks g c = subst (λ (l : List PassState). MarksStay c.args.passes.items l) (sym c.in-Err.ensures.refused.0) (marks_none c.args.passes.items)
