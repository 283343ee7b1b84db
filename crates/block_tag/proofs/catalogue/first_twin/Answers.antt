use Rattle.std.proofs.Common.{◌∙◌, sym, below_more}
use Rattle.block_tag.proofs.Twins.{earlier_twin-within}
use Rattle.block_tag.proofs.catalogue.first_twin.Goals as goal

pub returns-in-Some-clause-some : goal.returns-in-Some-clause-some
returns-in-Some-clause-some c =
    let within = earlier_twin-within c.args.entries.now c.loop-place.place _ c.loop-place-test.true in
    record { twin = within ∙ sym c.in-Some.ensures; earliest = c.loop-place.invariant }

pub loop-place-preserved : goal.loop-place-preserved
loop-place-preserved c =
    let within = earlier_twin-within c.args.entries.now c.loop-place.place _ c.loop-place-test.true in
    below_more _ _ c.loop-place.invariant (within ∙ sym c.in_default.ensures)
