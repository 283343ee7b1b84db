-- Workers that claim.
use Rattle.std.specs.Prelude.{◌≡◌}
use Rattle.atomic_table.specs.declared.shared.Seat.{Seat}
use Rattle.chunk_claims.specs.declared.claimant.Claimant.{Claimant}
use Rattle.chunk_claims.specs.declared.claims.Claims.{Claims}
use Rattle.chunk_claims.specs.Claims.{SitsAt}

-- The seat of a worker that may claim: its part is its own, and it found a chunk whenever it
-- claimed
pub record MayClaim (c : Claims) (seat : Seat (Unit {0}) Claimant) : Type 0 where
  pub sits : SitsAt c.table.shared.table_id seat
  pub part : (seat.me.0.parts ≡ 1) × (seat.me.0.past ≡ 0)
  pub known : seat.me.0.chunks ≡ c.chunks
