use Rattle.std.proofs.Common.{refl, ◌∙◌}
use Rattle.pin_core.specs.State.{link}
use Rattle.frame_table.specs.Content.{exclusive_link}
use Rattle.frame_table.proofs.Told.{looked_on, looked_same, touches_none, touches_on}
use Rattle.cleanup_lock.specs.Cleanup.{again, still}
use Rattle.cleanup_lock.proofs.Cleaning.{exclusive_looked}
use Rattle.cleanup_lock.proofs.locking.lock.Goals as goal

pub loop-init : goal.loop-init
loop-init g c = let f = c.args.frame in let v = c.args.seat.now.me.0 in record {
  seat = record { table = refl; id = refl; hand = refl };
  touches = touches_none f v;
  marks = refl;
  looked = looked_same (link v f) (link v f) refl;
  turns = still;
}

pub returns-in-Granted-clause-touches : goal.returns-in-Granted-clause-touches
returns-in-Granted-clause-touches g c = touches_on _ _ _ _ c.loop.invariant.touches c.in-Granted.ensures.touches

pub returns-in-Granted-clause-locked : goal.returns-in-Granted-clause-locked
returns-in-Granted-clause-locked g c = let f = c.args.frame in let v = c.args.seat.now.me.0 in let u = c.loop.seat.me.0 in
    looked_on (exclusive_link (link v f)) (exclusive_link (link u f)) (link c.attempt_lock.new.seat.me.0 f) (exclusive_looked (link v f) (link u f) c.loop.invariant.looked) c.in-Granted.ensures.leaves

pub returns-in-OtherWaiter-clause-touches : goal.returns-in-OtherWaiter-clause-touches
returns-in-OtherWaiter-clause-touches g c = touches_on _ _ _ _ c.loop.invariant.touches c.in-OtherWaiter.ensures.touches

pub returns-in-OtherWaiter-clause-left : goal.returns-in-OtherWaiter-clause-left
returns-in-OtherWaiter-clause-left g c = let f = c.args.frame in
    looked_on (link c.args.seat.now.me.0 f) (link c.loop.seat.me.0 f) (link c.attempt_lock.new.seat.me.0 f) c.loop.invariant.looked c.in-OtherWaiter.ensures.leaves

pub loop-preserved : goal.loop-preserved
loop-preserved g c =
    let f = c.args.frame in
    let i = c.loop.invariant in
    let e = c.in-Waited.ensures in record {
      seat = record { table = e.seat.table ∙ i.seat.table; id = e.seat.id ∙ i.seat.id; hand = e.seat.hand ∙ i.seat.hand };
      touches = touches_on _ _ _ _ i.touches e.touches;
      marks = e.marks ∙ i.marks;
      looked = looked_on (link c.args.seat.now.me.0 f) (link c.loop.seat.me.0 f) (link c.attempt_lock.new.seat.me.0 f) i.looked e.leaves;
      turns = again i.turns e.did;
    }
