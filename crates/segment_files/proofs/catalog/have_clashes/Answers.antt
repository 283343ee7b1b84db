use Rattle.std.proofs.Common.{◌∙◌, sym, below_more}
use Rattle.segment_files.proofs.Clashes.{clashes_before-within}
use Rattle.segment_files.proofs.catalog.have_clashes.Goals as goal

pub loop-place-preserved : goal.loop-place-preserved
loop-place-preserved c =
    let within = clashes_before-within c.args.entries.now c.loop-place.place _ c.loop-place-test.true in
    below_more _ _ c.loop-place.invariant (within ∙ (sym c.clashes_with.ensures ∙ c.if-clashes_with.false))
