-- Sinks in memory.
use Rattle.std.specs.Prelude.{ℕ, ◌+◌, ◌-◌, ◌/◌, Bool, ◌&&◌, not, nat_le, List, length, take, min}
use Rattle.byte_devices.specs.declared.count.FaultCount.{FaultCount}
use Rattle.byte_devices.specs.Plan.{Plan, fails_next}

-- the bytes of a sink, how many it has room for in all, which puts are to fail, and its count of
-- faults
pub record SinkState : Type 0 where
  pub bytes : List ℕ
  pub room : ℕ
  pub puts : Plan
  pub faults : FaultCount

-- whether the next put of this piece is Ok
abbrev pub takes_piece : SinkState → List ℕ → Bool
takes_piece sink piece =
    not (fails_next sink.puts) && nat_le (length sink.bytes + length piece) sink.room

-- what a failed put adds of its piece: the first half, rounded up, as far as there is room
abbrev pub prefix_of : SinkState → List ℕ → List ℕ
prefix_of sink piece = take (min (sink.room - length sink.bytes) ((length piece + 1) / 2)) piece
