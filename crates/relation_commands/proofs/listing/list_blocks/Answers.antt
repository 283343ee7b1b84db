use Rattle.std.proofs.Common.{ℕ, Ok, subst}
use Rattle.std.specs.Prelude.{OnOk}
use Rattle.page_layout.specs.Scan.{totals_of}
use Rattle.page_jobs.specs.Beside.{LastDid}
use Rattle.page_jobs.specs.Jobs.{FoundMoreIn, workers_in}
use Rattle.relation_commands.specs.Rounds.{MakesRounds}
use Rattle.relation_commands.proofs.Listed.{totals_listed}
use Rattle.relation_commands.proofs.listing.list_blocks.Goals as goal

pub returns-in-Scan-clause-totals : goal.returns-in-Scan-clause-totals
returns-in-Scan-clause-totals g c pages origin at = totals_listed (totals_of pages) c.scan.result.end (c.scan.ensures.totals pages origin at)

pub returns-in-Dump-clause-totals : goal.returns-in-Dump-clause-totals
returns-in-Dump-clause-totals g c pages origin at = totals_listed (totals_of pages) c.dump.result.end (c.dump.ensures.totals pages origin at)

pub returns-in-Scan-clause-beside : goal.returns-in-Scan-clause-beside
returns-in-Scan-clause-beside g c =
    subst (λ (n : ℕ). OnOk c.scan.result.end (LastDid (λ p q. MakesRounds {L = g.row.L.Denot} g.L.BlockLane.contents c.args.manager.now n p q (Ok tt)) c.args.passes.items c.scan.result.passes.items))
    c.new-work.ensures c.scan.ensures.beside

pub returns-in-Dump-clause-beside : goal.returns-in-Dump-clause-beside
returns-in-Dump-clause-beside g c =
    subst (λ (n : ℕ). OnOk c.dump.result.end (LastDid (λ p q. MakesRounds {L = g.row.L.Denot} g.L.BlockLane.contents c.args.manager.now n p q (Ok tt)) c.args.passes.items c.dump.result.passes.items))
    c.new-work.ensures c.dump.ensures.beside

pub returns-in-Scan-clause-found : goal.returns-in-Scan-clause-found
returns-in-Scan-clause-found g c =
    subst (λ (n : ℕ). OnOk c.scan.result.end (FoundMoreIn n (workers_in c.args.passes.items) (workers_in c.scan.result.passes.items)))
    c.requires.catalog.counted c.scan.ensures.found

pub returns-in-Dump-clause-found : goal.returns-in-Dump-clause-found
returns-in-Dump-clause-found g c =
    subst (λ (n : ℕ). OnOk c.dump.result.end (FoundMoreIn n (workers_in c.args.passes.items) (workers_in c.dump.result.passes.items)))
    c.requires.catalog.counted c.dump.ensures.found
