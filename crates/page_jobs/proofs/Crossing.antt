-- What the threads of a job share, and what is handed over to them.
use mathlib.Core.List.{[], ◌∷◌}
use mir.Syntax.{Sym}
use denote.RattleType.{RattleType}
use denote.Ref.{NamedLft}
use denote.Struct.Tuple.{TupleAt}
use denote.Param.Send.{IsSend, IsSync, sendable}
use Rattle.std.proofs.Crossing.{crosses, frees}
use Rattle.std.proofs.CrossingOver as over
use Rattle.chunk_claims.specs.contracts.claims.Claims as claims
use Rattle.backend_pass.proofs.Crossing.{lease_sync, passes_sent, seat_send, shared_sync}
use Rattle.page_jobs.specs.contracts.working.Worker as worker
use Rattle.page_jobs.specs.contracts.job_blocks.JobBlocks as blocks

pub claims_shared : IsSync claims.the_row
claims_shared = search (sendable, crosses, over.crosses, shared_sync, lease_sync, frees) depth 50 fits 40000

-- what captures seven values may be shared where they may, and what captures eight may be handed over
pub seven_shared : (ν : Sym) (A B C D E F G : RattleType) → IsSync A → IsSync B → IsSync C → IsSync D → IsSync E → IsSync F → IsSync G → IsSync (TupleAt ν (A ∷ B ∷ C ∷ D ∷ E ∷ F ∷ G ∷ []))
seven_shared ν A B C D E F G a b c d e f g = search (sendable, crosses) depth 20

pub eight_sent : (ν : Sym) (A B C D E F G H : RattleType) → IsSend A → IsSend B → IsSend C → IsSend D → IsSend E → IsSend F → IsSend G → IsSend H → IsSend (TupleAt ν (A ∷ B ∷ C ∷ D ∷ E ∷ F ∷ G ∷ H ∷ []))
eight_sent ν A B C D E F G H a b c d e f g h = search (sendable, crosses) depth 20

pub workers_sent : (K : RattleType) → IsSend K → IsSend (worker.the_row K)
workers_sent K k = search (sendable, crosses, over.crosses, passes_sent, seat_send, frees) depth 40 fits 20000

pub blocks_shared : (κ : NamedLft) → IsSync (blocks.the_row κ)
blocks_shared κ = search (sendable, crosses, over.crosses) depth 20

-- what captures five values may be shared where they may
pub captures_shared : (ν : Sym) (A B C D E : RattleType) → IsSync A → IsSync B → IsSync C → IsSync D → IsSync E → IsSync (TupleAt ν (A ∷ B ∷ C ∷ D ∷ E ∷ []))
captures_shared ν A B C D E a b c d e = search (sendable, crosses) depth 20
