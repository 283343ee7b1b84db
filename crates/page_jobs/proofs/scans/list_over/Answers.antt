use Rattle.std.proofs.Common.{◌≡◌, ℕ, ◌<◌, ◌≤◌, List, MatchBool, length, Ok, Err, OnOk, sym, ap, ◌∙◌, subst, rules, arith, refl}
use Rattle.std.specs.Prelude.{IfErr}
use Rattle.byte_devices.specs.Faults.{Rose}
use Rattle.text_window.specs.Texts.{IsFinished, Job, is_output}
use Rattle.text_window.proofs.Streams.{finished_by}
use Rattle.backend_pass.specs.Passes.{PassState}
use Rattle.page_jobs.specs.declared.ending.JobError.TheVariants.{Memory}
use Rattle.page_jobs.specs.declared.listing.Lister.{Lister}
use Rattle.page_jobs.specs.declared.working.Worker.{Worker}
use Rattle.page_jobs.specs.Chunks.{chunk_count}
use Rattle.page_jobs.specs.ChunkTexts.{IsChunkText}
use Rattle.page_jobs.specs.Dealt.{AllDone, AnyEnds, TotalsAreInRange, job_totals}
use Rattle.page_jobs.specs.Listings.{IsListed}
use Rattle.page_jobs.specs.Parts.{blocks_in}
use Rattle.page_jobs.proofs.ListedForks.{all_parts, fewest, in_range, is_listed, not_begun, not_run, ran_of, some_ran}
use Rattle.page_jobs.proofs.scans.list_over.Goals as goal

pub build-requires-clause-few : goal.build-requires-clause-few
build-requires-clause-few g c =
    let chunks : g.N.Naming.job.chunks ≡ chunk_count (blocks_in c.args.manager.now c.args.blocks.rel.0 c.args.blocks.fork) = ap (λ (j : Job). j.chunks) c.requires.job in
    let few : blocks_in c.args.manager.now c.args.blocks.rel.0 c.args.blocks.fork < 4294967296 = subst (λ (n : ℕ). n < 4294967296) c.blocks-count.ensures.count c.blocks-count.type_inv in
    omega (arith, chunks, few)

pub returns-in-Err : goal.returns-in-Err
returns-in-Err g c =
    let did : PassState → PassState → Type 0 = (λ p q. g.B.Beside.works c.args.manager.now c.args.beside.now c.args.beside.now p q (Ok tt)) in
    record {
      lists = subst (λ (s : g.row.O.Denot). IsListed {L = g.row.L.Denot} {G = g.row.G.Denot} g.L.BlockLane.contents c.args.manager.now c.args.blocks.rel.0 c.args.blocks.fork c.args.lines did c.args.passes.items c.args.passes.items (g.O.Sink.bytes c.args.sink) (g.O.Sink.bytes s) (g.O.Sink.faults c.args.sink) (g.O.Sink.faults s) (Err Memory)) (sym c.in-Err.ensures.refused)
          (not_begun {L = g.row.L.Denot} {G = g.row.G.Denot} g.L.BlockLane.contents c.args.manager.now c.args.blocks.rel.0 c.args.blocks.fork c.args.lines did c.args.passes.items (g.O.Sink.bytes c.args.sink) (g.O.Sink.faults c.args.sink) c.requires.free);
    }

pub sum_totals-totals-requires-clause-counts : goal.sum_totals-totals-requires-clause-counts
sum_totals-totals-requires-clause-counts g c =
    let several : 2 ≤ length c.args.passes.items = search rules in
    let few : length c.args.passes.items ≤ 64 = search rules in
    let did : PassState → PassState → Type 0 = (λ p q. g.B.Beside.works c.args.manager.now c.args.beside.now c.run_job-run.new.beside p q (Ok tt)) in
    let ran = ran_of {L = g.row.L.Denot} {G = g.row.G.Denot} g.L.BlockLane.contents c.args.manager.now c.args.blocks.rel.0 c.args.blocks.fork g.N.Naming.job.base c.args.lines did c.args.passes.items c.in-Ok-run.ran c.of-task.result c.of-task.ensures.lines c.in-Ok-run.ensures.ran in
    subst (λ (ws : List (Worker (Lister g.row.N.Denot g.row.A.Denot))). TotalsAreInRange ws) (sym c.deref-in-Ok-run.ensures.value) (in_range {L = g.row.L.Denot} {G = g.row.G.Denot} g.L.BlockLane.contents c.args.manager.now c.args.blocks.rel.0 c.args.blocks.fork c.args.lines did c.args.passes.items g.N.Naming.job.base c.in-Ok-run.ran several few c.requires.free (λ block below. c.blocks-count.ensures.named block (subst (λ (n : ℕ). block < n) (sym c.blocks-count.ensures.count) below)) ran)

pub sum_totals-totals-requires-clause-few : goal.sum_totals-totals-requires-clause-few
sum_totals-totals-requires-clause-few g c =
    let several : 2 ≤ length c.args.passes.items = search rules in
    let few : length c.args.passes.items ≤ 64 = search rules in
    let did : PassState → PassState → Type 0 = (λ p q. g.B.Beside.works c.args.manager.now c.args.beside.now c.run_job-run.new.beside p q (Ok tt)) in
    let ran = ran_of {L = g.row.L.Denot} {G = g.row.G.Denot} g.L.BlockLane.contents c.args.manager.now c.args.blocks.rel.0 c.args.blocks.fork g.N.Naming.job.base c.args.lines did c.args.passes.items c.in-Ok-run.ran c.of-task.result c.of-task.ensures.lines c.in-Ok-run.ensures.ran in
    subst (λ (ws : List (Worker (Lister g.row.N.Denot g.row.A.Denot))). (job_totals ws).blocks ≤ 1099511627776) (sym c.deref-in-Ok-run.ensures.value) (fewest {L = g.row.L.Denot} {G = g.row.G.Denot} g.L.BlockLane.contents c.args.manager.now c.args.blocks.rel.0 c.args.blocks.fork c.args.lines did c.args.passes.items g.N.Naming.job.base c.in-Ok-run.ran several few c.requires.free (λ block below. c.blocks-count.ensures.named block (subst (λ (n : ℕ). block < n) (sym c.blocks-count.ensures.count) below)) ran)

pub give_back-passes-requires-clause-seats : goal.give_back-passes-requires-clause-seats
give_back-passes-requires-clause-seats g c =
    let several : 2 ≤ length c.args.passes.items = search rules in
    let few : length c.args.passes.items ≤ 64 = search rules in
    let did : PassState → PassState → Type 0 = (λ p q. g.B.Beside.works c.args.manager.now c.args.beside.now c.run_job-run.new.beside p q (Ok tt)) in
    let ran = ran_of {L = g.row.L.Denot} {G = g.row.G.Denot} g.L.BlockLane.contents c.args.manager.now c.args.blocks.rel.0 c.args.blocks.fork g.N.Naming.job.base c.args.lines did c.args.passes.items c.in-Ok-run.ran c.of-task.result c.of-task.ensures.lines c.in-Ok-run.ensures.ran in
    let some = some_ran {L = g.row.L.Denot} {G = g.row.G.Denot} g.L.BlockLane.contents c.args.manager.now c.args.blocks.rel.0 c.args.blocks.fork c.args.lines did c.args.passes.items g.N.Naming.job.base c.in-Ok-run.ran several few c.requires.free (λ block below. c.blocks-count.ensures.named block (subst (λ (n : ℕ). block < n) (sym c.blocks-count.ensures.count) below)) ran in
    (ran.seats, ran.many, omega (arith, some, c.in-Ok-run.ran.workers.ok.0))

pub finish-sink-requires : goal.finish-sink-requires
finish-sink-requires g c =
    let several : 2 ≤ length c.args.passes.items = search rules in
    let few : length c.args.passes.items ≤ 64 = search rules in
    let did : PassState → PassState → Type 0 = (λ p q. g.B.Beside.works c.args.manager.now c.args.beside.now c.run_job-run.new.beside p q (Ok tt)) in
    let ran = ran_of {L = g.row.L.Denot} {G = g.row.G.Denot} g.L.BlockLane.contents c.args.manager.now c.args.blocks.rel.0 c.args.blocks.fork g.N.Naming.job.base c.args.lines did c.args.passes.items c.in-Ok-run.ran c.of-task.result c.of-task.ensures.lines c.in-Ok-run.ensures.ran in
    let back = all_parts {L = g.row.L.Denot} {G = g.row.G.Denot} g.L.BlockLane.contents c.args.manager.now c.args.blocks.rel.0 c.args.blocks.fork c.args.lines did c.args.passes.items g.N.Naming.job.base c.in-Ok-run.ran several few c.requires.free (λ block below. c.blocks-count.ensures.named block (subst (λ (n : ℕ). block < n) (sym c.blocks-count.ensures.count) below)) ran c.run_job-run.new.task c.give_back-passes.new.task c.in-Ok-run.ensures.deals c.give_back-passes.ensures.joined in
    let long : c.args.passes.len ≡ length c.args.passes.items = search rules in
    let w = c.requires.workers in
    let delivered = back.0 in
    let above = back.1 in
    let n = w.0 in
    let a = w.1 in
    record { parts = (omega (arith, delivered, n, long), omega (arith, above, a, long)) }

pub returns-in-Ok-run : goal.returns-in-Ok-run
returns-in-Ok-run g c =
    let several : 2 ≤ length c.args.passes.items = search rules in
    let few : length c.args.passes.items ≤ 64 = search rules in
    let did : PassState → PassState → Type 0 = (λ p q. g.B.Beside.works c.args.manager.now c.args.beside.now c.run_job-run.new.beside p q (Ok tt)) in
    let ran = ran_of {L = g.row.L.Denot} {G = g.row.G.Denot} g.L.BlockLane.contents c.args.manager.now c.args.blocks.rel.0 c.args.blocks.fork g.N.Naming.job.base c.args.lines did c.args.passes.items c.in-Ok-run.ran c.of-task.result c.of-task.ensures.lines c.in-Ok-run.ensures.ran in
    let T = IsChunkText {L = g.row.L.Denot} {G = g.row.G.Denot} g.L.BlockLane.contents c.args.manager.now c.args.blocks.rel.0 c.args.blocks.fork c.args.lines in
    let job = g.N.Naming.job in
    let is = c.requires.job in
    let W = Worker (Lister g.row.N.Denot g.row.A.Denot) in
    let l = c.give_back-passes.new.task in
    let end = c.put_end-end.ensures in
    let fits : g.O.Sink.faults c.args.sink < 18446744073709551616 = (g.met.O.Sink g.world.𝓛 g.world.𝓜 g.world.𝓡 ((λ s x. x), (λ x. x), (λ x. x), λ x. x)).faults_fit c.args.sink in
    let output = is_output c.finish-sink.result.1 in
    let mid = c.finish-sink.result.0 in
    let worked = c.end_of_workers-worked.result in
    let finished : IsFinished T job l.shares.delivered.amount l.shares.above.amount output (g.O.Sink.bytes mid) = finished_by g.N.Naming.texts job T l.shares.delivered.amount l.shares.above.amount output (g.O.Sink.bytes mid) c.requires.only c.finish-sink.ensures.put in
    let faults : MatchBool output (Rose (g.O.Sink.faults c.args.sink) (g.O.Sink.faults mid)) (g.O.Sink.faults mid ≡ g.O.Sink.faults c.args.sink) =
    subst (λ (n : ℕ). MatchBool output (Rose n (g.O.Sink.faults mid)) (g.O.Sink.faults mid ≡ n)) (ap (λ (j : Job). j.faults) is) c.finish-sink.ensures.faults in
    record {
      lists = is_listed {L = g.row.L.Denot} {G = g.row.G.Denot} g.L.BlockLane.contents c.args.manager.now c.args.blocks.rel.0 c.args.blocks.fork c.args.lines did c.args.passes.items g.N.Naming.job.base c.in-Ok-run.ran several few c.requires.free (λ block below. c.blocks-count.ensures.named block (subst (λ (n : ℕ). block < n) (sym c.blocks-count.ensures.count) below)) ran
          c.run_job-run.new.task l c.in-Ok-run.ensures.deals c.give_back-passes.ensures.joined c.give_back-passes.ensures.once c.give_back-passes.result.items c.give_back-passes.ensures.passes
          job refl (ap (λ (j : Job). j.chunks) is) (λ p at. ap (λ (j : Job). j.base) is ∙ c.requires.base p at) output (g.O.Sink.bytes c.args.sink) (g.O.Sink.bytes mid) (g.O.Sink.bytes c.put_end-end.new.out)
          (g.O.Sink.faults c.args.sink) (g.O.Sink.faults mid) (g.O.Sink.faults c.put_end-end.new.out) worked c.sum_totals-totals.result c.put_end-end.result
          finished (ap (λ (j : Job). j.before) is)
          (subst (λ (ws : List W). OnOk worked (AllDone ws)) c.deref.ensures.value c.end_of_workers-worked.ensures.done)
          (subst (λ (ws : List W). IfErr worked (λ e. AnyEnds e ws)) c.deref.ensures.value c.end_of_workers-worked.ensures.cause)
          (c.sum_totals-totals.ensures ∙ ap (λ (ws : List W). job_totals ws) c.deref-in-Ok-run.ensures.value)
          fits faults end.text end.done end.totals end.later end.cause;
    }

pub returns : goal.returns
returns g c =
    let several : 2 ≤ length c.args.passes.items = search rules in
    let did : PassState → PassState → Type 0 = (λ p q. g.B.Beside.works c.args.manager.now c.args.beside.now c.run_job-run.new.beside p q (Ok tt)) in
    let T = IsChunkText {L = g.row.L.Denot} {G = g.row.G.Denot} g.L.BlockLane.contents c.args.manager.now c.args.blocks.rel.0 c.args.blocks.fork c.args.lines in
    let job = g.N.Naming.job in
    let is = c.requires.job in
    let l = c.run_job-run.new.task in
    let end = c.put_end-end-in-Err-run.ensures in
    let fits : g.O.Sink.faults c.args.sink < 18446744073709551616 = (g.met.O.Sink g.world.𝓛 g.world.𝓜 g.world.𝓡 ((λ s x. x), (λ x. x), (λ x. x), λ x. x)).faults_fit c.args.sink in
    let output = is_output c.finish-sink-in-Err-run.result.1 in
    let mid = c.finish-sink-in-Err-run.result.0 in
    let finished : IsFinished T job l.shares.delivered.amount l.shares.above.amount output (g.O.Sink.bytes mid) = finished_by g.N.Naming.texts job T l.shares.delivered.amount l.shares.above.amount output (g.O.Sink.bytes mid) c.requires.only c.finish-sink-in-Err-run.ensures.put in
    let none : l.shares.above.amount ≡ 0 = search rules in
    let faults : MatchBool output (Rose (g.O.Sink.faults c.args.sink) (g.O.Sink.faults mid)) (g.O.Sink.faults mid ≡ g.O.Sink.faults c.args.sink) =
    subst (λ (n : ℕ). MatchBool output (Rose n (g.O.Sink.faults mid)) (g.O.Sink.faults mid ≡ n)) (ap (λ (j : Job). j.faults) is) c.finish-sink-in-Err-run.ensures.faults in
    record {
      lists = subst (λ (qs : List PassState). IsListed {L = g.row.L.Denot} {G = g.row.G.Denot} g.L.BlockLane.contents c.args.manager.now c.args.blocks.rel.0 c.args.blocks.fork c.args.lines did c.args.passes.items qs (g.O.Sink.bytes c.args.sink) (g.O.Sink.bytes c.put_end-end-in-Err-run.new.out) (g.O.Sink.faults c.args.sink) (g.O.Sink.faults c.put_end-end-in-Err-run.new.out) c.put_end-end-in-Err-run.result) (sym c.in-Err-run.ensures.refused.0)
          (not_run {L = g.row.L.Denot} {G = g.row.G.Denot} g.L.BlockLane.contents c.args.manager.now c.args.blocks.rel.0 c.args.blocks.fork c.args.lines did c.args.passes.items (λ block below. c.blocks-count.ensures.named block (subst (λ (n : ℕ). block < n) (sym c.blocks-count.ensures.count) below)) several c.requires.free job (ap (λ (j : Job). j.chunks) is) (λ p at. ap (λ (j : Job). j.base) is ∙ c.requires.base p at)
          output (g.O.Sink.bytes c.args.sink) (g.O.Sink.bytes mid) (g.O.Sink.bytes c.put_end-end-in-Err-run.new.out) (g.O.Sink.faults c.args.sink) (g.O.Sink.faults mid) (g.O.Sink.faults c.put_end-end-in-Err-run.new.out) c.none.result
          l.shares.delivered.amount l.shares.above.amount finished none (ap (λ (j : Job). j.before) is) fits faults end.later (Err Memory) (Ok tt) c.put_end-end-in-Err-run.result refl refl end.text end.done end.cause);
    }
