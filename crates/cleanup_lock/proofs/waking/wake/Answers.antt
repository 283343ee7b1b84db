use Rattle.std.proofs.Common.{sym, ◌∙◌, true, false}
use Rattle.pin_core.specs.State.{link}
use Rattle.frame_table.proofs.Told.{touches_on}
use Rattle.cleanup_lock.proofs.Unpins.{holds, may_wake, unlocked_looked, wakes_by}
use Rattle.cleanup_lock.proofs.waking.wake.Goals as goal

pub clear_waiter-requires-clause-view : goal.clear_waiter-requires-clause-view
clear_waiter-requires-clause-view g c = may_wake c.lock_header-word.result (link c.args.seat.now.me.0 c.args.frame) _ c.requires.settled c.lock_header-word.ensures.locked (sym c.shows_lone_waiter.ensures ∙ c.if-shows_lone_waiter.true)

pub unlock_header-requires-clause-held : goal.unlock_header-requires-clause-held
unlock_header-requires-clause-held g c = holds c.lock_header-word.result (link c.args.seat.now.me.0 c.args.frame) _ c.requires.settled c.lock_header-word.ensures.locked

pub returns-then-shows_lone_waiter-clause-touches : goal.returns-then-shows_lone_waiter-clause-touches
returns-then-shows_lone_waiter-clause-touches g c = touches_on _ _ _ _ c.lock_header-word.ensures.touches c.clear_waiter.ensures.touches

pub returns-clause-touches : goal.returns-clause-touches
returns-clause-touches g c = touches_on _ _ _ _ c.lock_header-word.ensures.touches c.unlock_header.ensures.touches

pub returns-then-shows_lone_waiter-clause-marks : goal.returns-then-shows_lone_waiter-clause-marks
returns-then-shows_lone_waiter-clause-marks g c = c.clear_waiter.ensures.marks ∙ c.lock_header-word.ensures.marks

pub returns-clause-marks : goal.returns-clause-marks
returns-clause-marks g c = c.unlock_header.ensures.marks ∙ c.lock_header-word.ensures.marks

pub returns-then-shows_lone_waiter-clause-left : goal.returns-then-shows_lone_waiter-clause-left
returns-then-shows_lone_waiter-clause-left g c = unlocked_looked c.lock_header-word.result (link c.args.seat.now.me.0 c.args.frame) _ _ (c.requires.headless c.args.frame) c.lock_header-word.ensures.locked c.clear_waiter.ensures.unlocked

pub returns-clause-left : goal.returns-clause-left
returns-clause-left g c = unlocked_looked c.lock_header-word.result (link c.args.seat.now.me.0 c.args.frame) _ _ (c.requires.headless c.args.frame) c.lock_header-word.ensures.locked c.unlock_header.ensures.unlocked

pub returns-then-shows_lone_waiter-clause-did : goal.returns-then-shows_lone_waiter-clause-did
returns-then-shows_lone_waiter-clause-did g c = wakes_by true _ c.lock_header-word.result _ _ _ _ c.lock_header-word.ensures.did (sym c.shows_lone_waiter.ensures ∙ c.if-shows_lone_waiter.true) c.clear_waiter.ensures.did

pub returns-clause-did : goal.returns-clause-did
returns-clause-did g c = let d = c.unlock_header.ensures.did in wakes_by false _ c.lock_header-word.result d.0 _ _ _ c.lock_header-word.ensures.did (sym c.shows_lone_waiter.ensures ∙ c.if-shows_lone_waiter.false) d.1
