use Rattle.std.proofs.Common.{ℕ, Result, Ok, length, subst}
use Rattle.std.specs.Prelude.{IfErr, IfOk, OnOk}
use Rattle.frame_table.specs.Seats.{base_of}
use Rattle.page_jobs.specs.declared.ending.JobError.{JobError}
use Rattle.page_jobs.specs.declared.ending.Totals.{Totals}
use Rattle.page_jobs.specs.Beside.{LastDid}
use Rattle.page_jobs.specs.Jobs.{workers_in}
use Rattle.page_jobs.specs.Relations.{MeetNothing}
use Rattle.page_jobs.specs.RewriteJobs.{EndsRewrite, RewritesFork}
use Rattle.page_jobs.proofs.Backends.{new_are_free}
use Rattle.relation_commands.specs.Rounds.{MakesRounds}
use Rattle.relation_commands.proofs.RewritePasses.{are_free, last_unlocked}
use Rattle.relation_commands.proofs.RewriteStores.{stores_early, stores_refused, stores_whole}
use Rattle.relation_commands.proofs.rewriting.rewrite_and_store.Goals as goal

pub rewrite-job-requires-clause-free : goal.rewrite-job-requires-clause-free
rewrite-job-requires-clause-free g c κs within =
    new_are_free {L = g.row.L.Denot} {G = g.row.G.Denot} g.L.BlockLane.contents c.args.manager.now c.args.relation.fork (length c.args.passes.items) c.args.passes.items c.requires.started.passes

pub returns-in-Err : goal.returns-in-Err
returns-in-Err g c =
    let job = c.rewrite-job in
    let r = c.args.relation in
    record {
      stores = stores_early {L = g.row.L.Denot} {G = g.row.G.Denot} g.L.BlockLane.contents c.args.manager.now r c.args.rounds (base_of c.args.manager.now.table) c.args.passes.items job.result.passes.items c.requires.started job.ensures.passes job.ensures.last
          c.in-Err.error c.from.result c.from.ensures
          (subst (λ (e : Result Totals JobError). IfErr e (EndsRewrite {L = g.row.L.Denot} {G = g.row.G.Denot} g.L.BlockLane.contents c.args.manager.now 0 r.fork c.args.passes.items job.result.passes.items)) c.in-Err.is job.ensures.cause);
    }

pub checkpoint_all-requires-clause-free : goal.checkpoint_all-requires-clause-free
checkpoint_all-requires-clause-free g c =
    let job = c.rewrite-job in
    let started = c.requires.started in
    are_free {L = g.row.L.Denot} {G = g.row.G.Denot} g.L.BlockLane.contents c.args.manager.now c.args.relation.fork c.args.passes.items job.result.passes.items started.passes started.several.0 job.ensures.passes job.ensures.last

pub checkpoint_all-requires-clause-unlocked : goal.checkpoint_all-requires-clause-unlocked
checkpoint_all-requires-clause-unlocked g c =
    let job = c.rewrite-job in
    let started = c.requires.started in
    last_unlocked {L = g.row.L.Denot} {G = g.row.G.Denot} g.L.BlockLane.contents c.args.manager.now c.args.relation.fork c.args.passes.items job.result.passes.items started.passes started.several.0 job.ensures.passes job.ensures.last

pub returns-in-Ok-checkpoint_all : goal.returns-in-Ok-checkpoint_all
returns-in-Ok-checkpoint_all g c =
    let job = c.rewrite-job in
    let r = c.args.relation in
    let ok = c.in-Ok-checkpoint_all.ensures in
    record {
      stores = stores_whole {L = g.row.L.Denot} {G = g.row.G.Denot} g.L.BlockLane.contents c.args.manager.now r c.args.rounds (base_of c.args.manager.now.table) c.args.passes.items job.result.passes.items c.requires.started job.ensures.passes job.ensures.last
          c.checkpoint_all.new.passes.items ok.passes c.in-Ok.totals c.rewrite_totals-totals.result c.rewrite_totals-totals.ensures
          (subst (λ (e : Result Totals JobError). IfOk e (RewritesFork {L = g.row.L.Denot} {G = g.row.G.Denot} g.L.BlockLane.contents c.args.manager.now 0 r.fork (workers_in c.args.passes.items) (workers_in job.result.passes.items))) c.in-Ok.is job.ensures.done)
          (subst (λ (e : Result Totals JobError). OnOk e (MeetNothing c.args.passes.items job.result.passes.items)) c.in-Ok.is job.ensures.met)
          (subst (λ (n : ℕ). LastDid (λ p q. MakesRounds {L = g.row.L.Denot} {G = g.row.G.Denot} g.L.BlockLane.contents c.args.manager.now n p q (Ok tt)) c.args.passes.items job.result.passes.items) c.new-beside.ensures
          (subst (λ (e : Result Totals JobError). OnOk e (LastDid (λ p q. MakesRounds {L = g.row.L.Denot} {G = g.row.G.Denot} g.L.BlockLane.contents c.args.manager.now c.new-beside.result.count p q (Ok tt)) c.args.passes.items job.result.passes.items)) c.in-Ok.is job.ensures.beside))
          ok.swept;
    }

pub returns-in-Err-checkpoint_all : goal.returns-in-Err-checkpoint_all
returns-in-Err-checkpoint_all g c =
    let job = c.rewrite-job in
    let r = c.args.relation in
    let err = c.in-Err-checkpoint_all.ensures in
    record {
      stores = stores_refused {L = g.row.L.Denot} {G = g.row.G.Denot} g.L.BlockLane.contents c.args.manager.now r c.args.rounds (base_of c.args.manager.now.table) c.args.passes.items job.result.passes.items c.requires.started job.ensures.passes job.ensures.last
          c.checkpoint_all.new.passes.items err.passes c.in-Err-checkpoint_all.error c.from-in-Err-checkpoint_all.result c.from-in-Err-checkpoint_all.ensures err.cause c.in-Ok.totals
          (subst (λ (e : Result Totals JobError). IfOk e (RewritesFork {L = g.row.L.Denot} {G = g.row.G.Denot} g.L.BlockLane.contents c.args.manager.now 0 r.fork (workers_in c.args.passes.items) (workers_in job.result.passes.items))) c.in-Ok.is job.ensures.done);
    }
