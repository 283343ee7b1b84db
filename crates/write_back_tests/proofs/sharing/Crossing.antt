-- What threads share: a manager over the devices of these tests, and plain values.
use mathlib.Core.List.{[], ◌∷◌}
use mir.Syntax.{Sym}
use denote.RattleType.{RattleType}
use denote.Struct.Tuple.{TupleAt}
use denote.Param.Send.{IsSend, IsSync, sendable}
use Rattle.std.proofs.Crossing.{crosses}
use Rattle.std.proofs.CrossingOver as over
use Rattle.byte_devices.specs.declared.device.LogDevice as log_device
use Rattle.backend_pass.specs.contracts.manager.Manager as manager
use Rattle.backend_pass.proofs.Crossing as passes
use Rattle.write_back_tests.specs.contracts.devices.PageLane as lane
use Rattle.write_back_tests.specs.contracts.devices.PageLaneBlockLane.TheImpl as page_lane
use Rattle.write_back_tests.specs.contracts.devices.ByteLog as log
use Rattle.write_back_tests.specs.contracts.sharing.Use as uses
use Rattle.write_back_tests.specs.contracts.sharing.TestJob as jobs

lanes_cross : IsSend lane.the_row
lanes_cross = search (sendable, crosses, over.crosses) depth 30 fits 20000

logs_cross : IsSend log.the_row
logs_cross = search (sendable, crosses, over.crosses) depth 30

pub managers_shared : (b : log_device.Ghosts log.the_row.Denot) → IsSync (manager.the_row lane.the_row log.the_row page_lane.ghosts b)
managers_shared b = passes.managers_shared lane.the_row log.the_row page_lane.ghosts b lanes_cross logs_cross

pub uses_shared : IsSync uses.the_row
uses_shared = search (sendable, crosses, over.crosses) depth 20

pub jobs_shared : IsSync jobs.the_row
jobs_shared = search (sendable, crosses, over.crosses) depth 20

-- what captures four values may cross threads if they may
pub four_sent : (ν : Sym) (A B C D : RattleType) → IsSend A → IsSend B → IsSend C → IsSend D → IsSend (TupleAt ν (A ∷ B ∷ C ∷ D ∷ []))
four_sent ν A B C D a b c d = search (sendable, crosses) depth 20
