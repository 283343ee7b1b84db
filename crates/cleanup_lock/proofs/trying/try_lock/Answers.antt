use Rattle.std.proofs.Common.{◌≡◌, false, sym, ap, subst, ◌∙◌}
use Rattle.pin_core.specs.declared.view.Link.{Link}
use Rattle.pin_core.specs.State.{link}
use Rattle.frame_table.specs.Seats.{Looked}
use Rattle.frame_table.proofs.Told.{looked_same, touches_on}
use Rattle.frame_table.proofs.Unentered.{touches_unmarked}
use Rattle.content_locks.proofs.Locking.{locks_waiting}
use Rattle.cleanup_lock.proofs.Cleaning.{alone_at, bare, relocked}
use Rattle.cleanup_lock.proofs.trying.try_lock.Goals as goal

pub returns-then-pins-eq1-clause-touches : goal.returns-then-pins-eq1-clause-touches
returns-then-pins-eq1-clause-touches g c = touches_on _ _ _ _ c.in-Ok.ensures.touches c.look-word.ensures.touches

pub returns-then-pins-eq1-clause-granted : goal.returns-then-pins-eq1-clause-granted
returns-then-pins-eq1-clause-granted g c = let e = c.in-Ok.ensures.exclusive in record {
  locked = c.try_exclusive.new.seat.me.0;
  locks = c.in-Ok.ensures.did;
  alone = alone_at c.args.frame c.look-word.result c.try_exclusive.new.seat.me.0 c.look-word.new.seat.me.0 c.look-word.ensures.did (ap (λ (l : Link). l.content) e) (λ r. c.requires.view.lock.pinned (sym (ap (λ (l : Link). l.role) e) ∙ r)) (sym c.pins.ensures ∙ c.if-pins-eq1.true);
}

pub returns-else-pins-eq1-clause-touches : goal.returns-else-pins-eq1-clause-touches
returns-else-pins-eq1-clause-touches g c =
    let f = c.args.frame in
    let v = c.args.seat.now.me.0 in
    let locked = c.try_exclusive.new.seat.me.0 in
    let looked = c.look-word.new.seat.me.0 in
    let clean : (link looked f).dirtied ≡ false = c.look-word.ensures.link.dirtied
    ∙ ap (λ (l : Link). l.dirtied) c.in-Ok.ensures.exclusive
    ∙ (bare f v locked (locks_waiting _ _ _ _ c.in-Ok.ensures.did) c.requires.view.lock.none).1
    in
    touches_on _ _ _ _ (touches_on _ _ _ _ c.in-Ok.ensures.touches c.look-word.ensures.touches)
    (touches_unmarked f looked c.unexclusive.new.seat.me.0 clean c.unexclusive.ensures.touches
    c.unexclusive.ensures.unnoted)

pub returns-else-pins-eq1-clause-left : goal.returns-else-pins-eq1-clause-left
returns-else-pins-eq1-clause-left g c =
    let v = c.args.seat.now.me.0 in
    let f = c.args.frame in
    let none = c.requires.view.lock.none in
    relocked (link v f) (link c.look-word.new.seat.me.0 f) (link c.unexclusive.new.seat.me.0 f) none (bare f v c.try_exclusive.new.seat.me.0 (locks_waiting _ _ _ _ c.in-Ok.ensures.did) none)
    (subst (λ (l : Link). Looked l (link c.look-word.new.seat.me.0 f)) c.in-Ok.ensures.exclusive c.look-word.ensures.link) c.unexclusive.ensures.unexclusive

pub returns-in-Err-Changed-clause-left : goal.returns-in-Err-Changed-clause-left
returns-in-Err-Changed-clause-left g c = looked_same _ _ c.in-Err-Changed.ensures.left
