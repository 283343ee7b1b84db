use Rattle.std.proofs.Common.{sym, ap, ◌∙◌, subst}
use Rattle.std.specs.Prelude.{OnOk}
use Rattle.byte_devices.specs.Bytes.{Puts}
use Rattle.io_counts.specs.declared.shown.IoSums.{IoSums}
use Rattle.io_counts.specs.Sums.{HaveSums, sums_of}
use Rattle.io_counts.proofs.Sums.{small_shown}
use Rattle.backend_pass.specs.Counts.{io_in_all}
use Rattle.page_jobs.specs.Ending.{as_done}
use Rattle.relation_commands.specs.Listings.{io_line}
use Rattle.relation_commands.proofs.listing.close_and_end.Goals as goal

pub sums-sums-requires : goal.sums-sums-requires
sums-sums-requires g c =
    let closed = c.close_counted-lanes.ensures in
    subst HaveSums (sym closed.counts) (small_shown (io_in_all c.args.passes.items) closed.small)

pub returns-clause-closes : goal.returns-clause-closes
returns-clause-closes g c = c.close_counted-lanes.ensures.closes

pub returns-clause-line : goal.returns-clause-line
returns-clause-line g c asked =
    subst (λ (sums : IoSums). OnOk c.args.end (Puts (io_line sums) (g.O.Sink.bytes c.args.out.now) (g.O.Sink.bytes c.end_with_io-end.new.out) (as_done c.end_with_io-end.result)))
    (c.sums-sums.ensures ∙ ap sums_of c.close_counted-lanes.ensures.counts) (c.end_with_io-end.ensures.line asked)
