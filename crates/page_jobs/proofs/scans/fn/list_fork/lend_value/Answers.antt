use Rattle.std.proofs.Common.{List, Ok, ap, ◌∙◌, subst}
use Rattle.backend_pass.specs.Passes.{PassState}
use Rattle.page_jobs.specs.Listings.{IsListed}
use Rattle.page_jobs.proofs.scans.fn.list_fork.lend_value.Goals as goal

pub returns : goal.returns
returns g c =
    let did : PassState → PassState → Type 0 = (λ p q. g.B.Beside.works c.captures.manager.now c.captures.beside.now c.list_sink.new.beside p q (Ok tt)) in (
      subst (λ (ps : List PassState). IsListed {L = g.row.L.Denot} {G = g.row.G.Denot} g.L.BlockLane.contents c.captures.manager.now c.captures.blocks.rel.0 c.captures.blocks.fork c.captures.lines did ps c.list_sink.result.1.passes.items
          (g.O.Sink.bytes c.args.sink) (g.O.Sink.bytes c.list_sink.result.0) (g.O.Sink.faults c.args.sink) (g.O.Sink.faults c.list_sink.result.0) c.list_sink.result.1.end) (ap (λ v. v.items) c.replace-mine.ensures.value) c.list_sink.ensures.lists,
      ap (λ v. v.items) c.replace-mine.ensures.after ∙ c.new.ensures.items,
    )
