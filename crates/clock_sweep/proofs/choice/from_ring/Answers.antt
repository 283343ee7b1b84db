use Rattle.clock_sweep.specs.Choosing.{tried}
use Rattle.clock_sweep.proofs.Keeping.{none_to}
use Rattle.clock_sweep.proofs.choice.from_ring.Goals as goal

pub returns-clause-leaves : goal.returns-clause-leaves
returns-clause-leaves g c = none_to _ (λ s. tried c.in_ok-place.field-0 c.in_ok-place.was s) c.try_frame.ensures.skips
