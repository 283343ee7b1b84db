-- What threads share: a manager over the test devices, and plain values.
use mathlib.Core.List.{[], ◌∷◌}
use mir.Syntax.{Sym}
use denote.RattleType.{RattleType}
use denote.Struct.Tuple.{TupleAt}
use denote.Param.Send.{IsSend, IsSync, sendable}
use Rattle.std.proofs.Crossing.{crosses}
use Rattle.std.proofs.CrossingOver as over
use Rattle.byte_devices.specs.declared.device.LogDevice as log_device
use Rattle.backend_pass.specs.contracts.manager.Manager as manager
use Rattle.backend_pass.proofs.Crossing as passes
use Rattle.test_devices.specs.contracts.lane.TestLane as lane
use Rattle.test_devices.specs.contracts.lane.TestLaneBlockLane.TheImpl as test_lane
use Rattle.test_devices.specs.contracts.log.TestLog as log

lanes_cross : IsSend lane.the_row
lanes_cross = search (sendable, crosses, over.crosses) depth 30

logs_cross : IsSend log.the_row
logs_cross = search (sendable, crosses, over.crosses) depth 30

pub managers_shared : (b : log_device.Ghosts log.the_row.Denot) → IsSync (manager.the_row lane.the_row log.the_row test_lane.ghosts b)
managers_shared b = passes.managers_shared lane.the_row log.the_row test_lane.ghosts b lanes_cross logs_cross

-- what captures five values may cross threads if they may
pub five_sent : (ν : Sym) (A B C D E : RattleType) → IsSend A → IsSend B → IsSend C → IsSend D → IsSend E → IsSend (TupleAt ν (A ∷ B ∷ C ∷ D ∷ E ∷ []))
five_sent ν A B C D E a b c d e = search (sendable, crosses) depth 20

pub three_sent : (ν : Sym) (A B C : RattleType) → IsSend A → IsSend B → IsSend C → IsSend (TupleAt ν (A ∷ B ∷ C ∷ []))
three_sent ν A B C a b c = search (sendable, crosses) depth 20
