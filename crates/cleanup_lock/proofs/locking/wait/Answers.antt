use Rattle.std.proofs.Common.{refl, sym, ◌∙◌}
use Rattle.pin_core.specs.State.{link}
use Rattle.frame_table.specs.FrameSteps.{again, still}
use Rattle.frame_table.proofs.Marks.{looks_marks}
use Rattle.frame_table.proofs.Told.{looked_on, looks_link, looks_touch, touches_on}
use Rattle.cleanup_lock.proofs.Cleaning.{looked_over, wait_over, wait_same}
use Rattle.cleanup_lock.proofs.locking.wait.Goals as goal

pub loop-init : goal.loop-init
loop-init g c = record { seat = record { table = refl; id = refl; hand = refl }; looked = still }

pub loop-preserved : goal.loop-preserved
loop-preserved g c = let a = c.loop.invariant.seat in let b = c.look-word.ensures.seat in record {
  seat = record { table = b.table ∙ a.table; id = b.id ∙ a.id; hand = b.hand ∙ a.hand };
  looked = again c.look-word.result c.loop.invariant.looked c.look-word.ensures.did;
}

pub returns-then-not-shows_waiter-clause-touches : goal.returns-then-not-shows_waiter-clause-touches
returns-then-not-shows_waiter-clause-touches g c = touches_on _ _ _ _ (looks_touch _ _ _ c.loop.invariant.looked) c.look-word.ensures.touches

pub returns-then-not-shows_waiter-clause-marks : goal.returns-then-not-shows_waiter-clause-marks
returns-then-not-shows_waiter-clause-marks g c = c.look-word.ensures.marks ∙ looks_marks _ _ _ c.loop.invariant.looked

pub returns-then-not-shows_waiter-clause-over : goal.returns-then-not-shows_waiter-clause-over
returns-then-not-shows_waiter-clause-over g c =
    let v = c.args.seat.now.me.0 in
    let u = c.loop.seat.me.0 in
    let w = c.look-word.new.seat.me.0 in
    let f = c.args.frame in
    let looked = c.loop.invariant.looked in
    looked_over (link v f) (link w f) (looked_on (link v f) (link u f) (link w f) (looks_link f v u looked) c.look-word.ensures.link)
    (wait_over c.args.number f c.look-word.result u w c.look-word.ensures.did (wait_same c.args.number f v u looked c.requires.waits) (sym c.shows_waiter.ensures ∙ c.if-not-shows_waiter.true))
