use Rattle.std.proofs.Common.{ℕ, sym, subst}
use Rattle.pin_core.specs.State.{link}
use Rattle.frame_table.specs.Seats.{MayUnpin}
use Rattle.frame_table.proofs.Resting.{can_unpin}
use Rattle.table_tests.proofs.Seats.{rests_unpinned}
use Rattle.table_tests.proofs.pinning.refusal.Goals as goal

pub unpin-requires-clause-pinned : goal.unpin-requires-clause-pinned
unpin-requires-clause-pinned g c = let p = c.in-Ok.ensures in subst (λ (f : ℕ). MayUnpin (link c.try_pin.new.seat.me.0 f)) (sym p.pin) (can_unpin _ _ _ p.pinned (c.requires.rests.free.frames c.args.frame))

pub returns-in-Ok-clause-rests : goal.returns-in-Ok-clause-rests
returns-in-Ok-clause-rests g c = let p = c.in-Ok.ensures in let a = c.try_pin.ensures in let b = c.unpin.ensures in rests_unpinned _ _ _ _ _ _ _ p.pin c.requires.rests a.seat a.touches p.pinned b.seat b.touches b.unpinned
