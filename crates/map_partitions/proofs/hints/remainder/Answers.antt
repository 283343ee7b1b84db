use Rattle.map_partitions.proofs.Remainders.{by_mask}
use Rattle.map_partitions.proofs.hints.remainder.Goals as goal

pub returns-then-bits-count : goal.returns-then-bits-count
returns-then-bits-count c = by_mask c.args.number c.args.count _ c.if-bits-lt64.true c.if-bits-count.true
