-- What threads share, and hand over: a manager, passes and plain values.
use mathlib.Core.List.{[], ◌∷◌}
use mir.Syntax.{Sym}
use denote.RattleType.{RattleType}
use denote.Struct.Owning.{shape}
use denote.Struct.Struct.{Struct}
use denote.Struct.Tuple.{TupleAt}
use denote.Param.Send.{IsSend, IsSync, Frees, part_keyless, sendable}
use Rattle.std.proofs.Crossing.{crosses, frees}
use Rattle.std.proofs.CrossingOver as over
use Rattle.std.specs.declared.alloc.Allocator as allocator
use Rattle.std.specs.contracts.alloc.Global as global
use Rattle.atomic_table.specs.contracts.badge.Badge as badge
use Rattle.atomic_table.specs.declared.shared.TableRule as rule
use Rattle.atomic_table.specs.contracts.send_lease.SendLease as lease
use Rattle.atomic_table.specs.contracts.shared.Seat as seat
use Rattle.atomic_table.specs.contracts.shared.Shared as shared
use Rattle.atomic_table.proofs.Rights.{right_send}
use Rattle.atomic_table.proofs.Sent.{badge_keyless, seat_keyless, shares_keyless}
use Rattle.segment_store.specs.declared.device.BlockLane as block_lane
use Rattle.byte_devices.specs.declared.device.LogDevice as log_device
use Rattle.table_rule.specs.contracts.value.Value as value
use Rattle.backend_pass.specs.contracts.manager.Manager as manager
use Rattle.backend_pass.specs.contracts.pass.Pass as pass

pub shared_sync : (S V K P : RattleType) (g : rule.Ghosts P.Denot S.Denot V.Denot K.Denot) → IsSend S → IsSync (shared.the_row S V K P g)
shared_sync S V K P g s = let fields : IsSync (Struct (shape (shared.the_type S V K P g))) = search sendable depth 20 in
    record { shared = λ d b o ν. (fields.shared (d.words, (d.slots, (tt, tt))) b o ν, shares_keyless S s V.coded.code d.table_id (g.holds d.key) d.words d.slots ν) }

pub lease_sync : (T A : RattleType) (g : allocator.Ghosts A.Denot) → IsSend A → Frees g g.dealloc_token → IsSync (lease.the_row T A g)
lease_sync T A g s f = record { shared = λ d b o ν q. part_keyless (lease.the_row T A g) (right_send T A g f) q d b o }

values_cross : (L G : RattleType) → IsSend L → IsSend G → IsSend (value.the_row L G)
values_cross L G l g = search (sendable, crosses, over.crosses) depth 30 fits 20000

-- a manager may be shared, if its lanes and its log may go to another thread
pub managers_shared : (L G : RattleType) (a : block_lane.Ghosts L.Denot) (b : log_device.Ghosts G.Denot) → IsSend L → IsSend G → IsSync (manager.the_row L G a b)
managers_shared L G a b l g = search (sendable, crosses, over.crosses, values_cross, shared_sync, lease_sync, frees) depth 50 fits 40000

-- a badge may go to another thread
badge_send : (V : RattleType) → IsSend (badge.the_row V)
badge_send V = record { owned = λ d vs. ((λ vss. (tt, ((λ uss. (tt, tt)), tt))), badge_keyless V.coded.code d.table_id d.id d.views); leaving = λ k f vs. tt }

-- and so may a seat, where what its slots hold may
pub seat_send : (S V : RattleType) → IsSend S → IsSend (seat.the_row S V)
seat_send S V s = record { owned = λ d vs. ((λ vss. (tt, ((λ uss. (tt, tt)), tt))), seat_keyless S s V.coded.code d.table_id d.id d.me); leaving = λ k f vs. tt }

pub passes_sent : IsSend pass.the_row
passes_sent = search (sendable, crosses, over.crosses, badge_send, seat_send, frees) depth 40 fits 20000

pub globals_shared : IsSync global.the_row
globals_shared = search (sendable, crosses, over.crosses) depth 20

-- what captures six values may be handed over where they may
pub six_sent : (ν : Sym) (A B C D E F : RattleType) → IsSend A → IsSend B → IsSend C → IsSend D → IsSend E → IsSend F → IsSend (TupleAt ν (A ∷ B ∷ C ∷ D ∷ E ∷ F ∷ []))
six_sent ν A B C D E F a b c d e f = search (sendable, crosses) depth 20
