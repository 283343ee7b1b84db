use Rattle.std.proofs.Common.{rules, arith}
use Rattle.chunk_claims.proofs.Drawing.{counts_there}
use Rattle.chunk_claims.proofs.claims.Claims.claimed.Goals as goal

pub load-requires : goal.load-requires
load-requires c = (search rules, omega (arith, c.args.self.now.one), counts_there c.args.self.now.table.shared.key _ _ _)
