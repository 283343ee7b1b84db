-- What the backends' threads share.
use mathlib.Core.List.{[], ◌∷◌}
use mir.Syntax.{Sym}
use denote.RattleType.{RattleType}
use denote.Struct.Tuple.{TupleAt}
use denote.Param.Send.{IsSend, IsSync, sendable}
use Rattle.std.proofs.Crossing.{crosses}
use Rattle.std.proofs.CrossingOver as over
use Rattle.std.specs.contracts.sync.Mutex as mutex
use Rattle.std.specs.contracts.option.Option as option
use Rattle.library_example.specs.contracts.backends.BackendError as error

errors_cross : IsSend error.the_row
errors_cross = search (sendable, crosses, over.crosses) depth 40 fits 20000

pub errors_shared : IsSync (mutex.the_row (option.the_row error.the_row))
errors_shared = search (sendable, crosses, over.crosses, errors_cross) depth 30

-- what captures four values may be shared if they may
pub four_shared : (ν : Sym) (A B C D : RattleType) → IsSync A → IsSync B → IsSync C → IsSync D → IsSync (TupleAt ν (A ∷ B ∷ C ∷ D ∷ []))
four_shared ν A B C D a b c d = search (sendable, crosses) depth 20
