use Rattle.std.proofs.Common.{subst, sym}
use Rattle.io_counts.specs.declared.contexts.ByContext.{ByContext}
use Rattle.io_counts.specs.Counts.{one_of}
use Rattle.io_counts.specs.Tallies.{IsTally, tally_state}
use Rattle.io_counts.proofs.Counts.{tally_counts}
use Rattle.io_counts.proofs.tally.Tally.count.Goals as goal

pub invariant_of-self : goal.invariant_of-self
invariant_of-self c = subst (λ (x : ByContext). IsTally (tally_state x c.self.inside.published)) (sym c.count.ensures) (tally_counts c.args.context (one_of c.args.event) c.self.inside.counted c.self.inside.published c.self.invariant)
