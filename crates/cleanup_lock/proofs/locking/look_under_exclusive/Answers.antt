use Rattle.std.proofs.Common.{subst}
use Rattle.pin_core.specs.declared.view.Link.{Link}
use Rattle.pin_core.specs.State.{link}
use Rattle.frame_table.specs.Content.{exclusive_link}
use Rattle.frame_table.specs.Seats.{Looked, locked_link}
use Rattle.frame_table.proofs.Told.{touches_on}
use Rattle.cleanup_lock.proofs.Cleaning.{looked_held, under_both}
use Rattle.cleanup_lock.proofs.locking.look_under_exclusive.Goals as goal

pub returns-clause-touches : goal.returns-clause-touches
returns-clause-touches g c = touches_on _ _ _ _ (touches_on _ _ _ _ c.exclusive.ensures.touches c.lock_header.ensures.touches) c.look.ensures.touches

pub returns-clause-held : goal.returns-clause-held
returns-clause-held g c =
    let f = c.args.frame in
    let under = link c.lock_header.new.seat.me.0 f in
    looked_held c.lock_header.result c.look.result (exclusive_link (link c.args.seat.now.me.0 f)) under (link c.look.new.seat.me.0 f)
    (subst (λ (l : Link). Looked (locked_link c.lock_header.result l) under) c.exclusive.ensures.exclusive c.lock_header.ensures.locked) c.look.ensures.link c.look.ensures.word

pub returns-clause-did : goal.returns-clause-did
returns-clause-did g c = record {
  held = c.lock_header.new.seat.me.0;
  under = under_both c.args.frame c.lock_header.result c.args.seat.now.me.0 c.exclusive.new.seat.me.0 c.lock_header.new.seat.me.0 c.requires.view.lock.pinned c.requires.no_wait c.exclusive.ensures.did c.exclusive.ensures.exclusive c.lock_header.ensures.locked c.lock_header.ensures.did;
  loads = c.look.ensures.did;
}
