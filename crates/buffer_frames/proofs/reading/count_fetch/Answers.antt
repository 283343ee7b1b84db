use Rattle.std.proofs.Common.{◌≡◌, ◌∙◌, Result, Err, ap, sym, subst}
use Rattle.io_counts.specs.declared.contexts.ByContext.{ByContext}
use Rattle.io_counts.specs.Counts.{io_with}
use Rattle.io_counts.specs.Tallies.{TallyState}
use Rattle.io_counts.proofs.Counts.{io_none}
use Rattle.buffer_frames.specs.declared.fetching.FetchError.{FetchError}
use Rattle.buffer_frames.specs.declared.fetching.FetchError.TheVariants.{ReadFault}
use Rattle.buffer_frames.specs.declared.fetching.FetchedPage.{FetchedPage}
use Rattle.buffer_frames.specs.Reads.{fetch_counts}
use Rattle.buffer_frames.proofs.reading.count_fetch.Goals as goal

pub returns-in-Err-ReadFault : goal.returns-in-Err-ReadFault
returns-in-Err-ReadFault c =
    let io : TallyState = c.args.io.now in
    let why : c.in-Err-ReadFault.field-0 ≡ ReadFault = rw c.in-Err-ReadFault.is at c.in-Err-ReadFault.field-0-is in
    let is : c.args.came ≡ Err ReadFault = c.in-Err-ReadFault.is ∙ ap Err why in
    subst (λ (came : Result FetchedPage FetchError). io ≡ record io { counted = io_with c.args.context (fetch_counts came) io.counted })
    (sym is) (ap (λ (x : ByContext). record io { counted = x }) (sym (io_none c.args.context io.counted)))
