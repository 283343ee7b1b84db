use Rattle.std.proofs.Common.{ℕ, subst}
use Rattle.pin_core.specs.State.{link}
use Rattle.frame_table.specs.Seats.{Looked, Touches, unpinned_link}
use Rattle.frame_table.proofs.Told.{looked_on, touches_on}
use Rattle.cleanup_lock.proofs.waking.unpin_and_wake.Goals as goal

pub returns-then-shows_lone_waiter-clause-touches : goal.returns-then-shows_lone_waiter-clause-touches
returns-then-shows_lone_waiter-clause-touches g c = touches_on _ _ _ _ c.unpin-left.ensures.touches (subst (λ (f : ℕ). Touches f c.unpin-left.new.seat.me.0 c.wake.new.seat.me.0) c.frame-frame.ensures c.wake.ensures.touches)

pub returns-then-shows_lone_waiter-clause-unpinned : goal.returns-then-shows_lone_waiter-clause-unpinned
returns-then-shows_lone_waiter-clause-unpinned g c = let f = c.args.pin.frame in
    looked_on (unpinned_link (link c.args.seat.now.me.0 f)) (link c.unpin-left.new.seat.me.0 f) (link c.wake.new.seat.me.0 f) c.unpin-left.ensures.unpinned
    (subst (λ (h : ℕ). Looked (link c.unpin-left.new.seat.me.0 h) (link c.wake.new.seat.me.0 h)) c.frame-frame.ensures c.wake.ensures.left)
