use Rattle.std.proofs.Common.{◌≡◌, ℕ, true, false, refl, sym, ap, subst, ◌∙◌}
use Rattle.state_word.specs.Fields.{fields}
use Rattle.pin_core.specs.declared.view.Link.{Link}
use Rattle.pin_core.specs.declared.view.View.{View}
use Rattle.pin_core.specs.State.{link}
use Rattle.frame_table.specs.Content.{exclusive_link}
use Rattle.frame_table.specs.FrameSteps.{looking}
use Rattle.frame_table.proofs.Told.{touches, touches_on}
use Rattle.frame_table.proofs.Unentered.{touches_unmarked}
use Rattle.cleanup_lock.specs.Cleanup.{HasWaiter}
use Rattle.cleanup_lock.proofs.Cleaning.{alone_at, another, bare, may_await, relocked, rewaited, several, shows_own, waits_on}
use Rattle.cleanup_lock.proofs.Unpins.{holds, unlocked_looked}
use Rattle.cleanup_lock.proofs.locking.attempt_lock.Goals as goal

pub returns-then-pins-eq1-clause-touches : goal.returns-then-pins-eq1-clause-touches
returns-then-pins-eq1-clause-touches g c = touches_on _ _ _ _ c.look_under_exclusive-word.ensures.touches c.unlock_header.ensures.touches

pub returns-then-pins-eq1-clause-leaves : goal.returns-then-pins-eq1-clause-leaves
returns-then-pins-eq1-clause-leaves g c = let f = c.args.frame in
    unlocked_looked c.look_under_exclusive-word.result (exclusive_link (link c.args.seat.now.me.0 f)) (link c.look_under_exclusive-word.new.seat.me.0 f) (link c.unlock_header.new.seat.me.0 f) (c.requires.headless f) c.look_under_exclusive-word.ensures.held c.unlock_header.ensures.unlocked

pub returns-then-pins-eq1-clause-did : goal.returns-then-pins-eq1-clause-did
returns-then-pins-eq1-clause-did g c =
    let d = c.look_under_exclusive-word.ensures.did in
    let left = c.unlock_header.ensures.did in record {
      held = d.held;
      looked = c.look_under_exclusive-word.new.seat.me.0;
      left = left.0;
      under = d.under;
      alone = alone_at c.args.frame c.look_under_exclusive-word.result d.held c.look_under_exclusive-word.new.seat.me.0 d.loads d.under.right d.under.pinned (sym c.pins.ensures ∙ c.if-pins-eq1.true);
      unlocks = left.1;
    }

pub unlock_header-requires-then-has-clause-held : goal.unlock_header-requires-then-has-clause-held
unlock_header-requires-then-has-clause-held g c = holds c.look_under_exclusive-word.result (exclusive_link (link c.args.seat.now.me.0 c.args.frame)) (link c.look_under_exclusive-word.new.seat.me.0 c.args.frame) c.requires.view.settled c.look_under_exclusive-word.ensures.held

pub returns-then-has-clause-touches : goal.returns-then-has-clause-touches
returns-then-has-clause-touches g c =
    let f = c.args.frame in
    let v = c.args.seat.now.me.0 in
    let looked = c.look_under_exclusive-word in
    let under = looked.ensures.did.under in
    let headless = c.unlock_header-then-has.new.seat.me.0 in
    let clean : (link headless f).dirtied ≡ false =
    (unlocked_looked looked.result (exclusive_link (link v f)) (link looked.new.seat.me.0 f)
    (link headless f) (c.requires.headless f) looked.ensures.held
    c.unlock_header-then-has.ensures.unlocked).dirtied
    ∙ (bare f v under.locked under.locks c.requires.view.lock.none).1
    in
    touches_on _ _ _ _
    (touches_on _ _ _ _ looked.ensures.touches c.unlock_header-then-has.ensures.touches)
    (touches_unmarked f headless c.unexclusive.new.seat.me.0 clean c.unexclusive.ensures.touches
    c.unexclusive.ensures.unnoted)

pub returns-then-has-clause-leaves : goal.returns-then-has-clause-leaves
returns-then-has-clause-leaves g c =
    let f = c.args.frame in
    let v = c.args.seat.now.me.0 in
    let looked = c.look_under_exclusive-word in
    let none = c.requires.view.lock.none in
    relocked (link v f) (link c.unlock_header-then-has.new.seat.me.0 f) (link c.unexclusive.new.seat.me.0 f) none (bare f v looked.ensures.did.under.locked looked.ensures.did.under.locks none)
    (unlocked_looked looked.result (exclusive_link (link v f)) (link looked.new.seat.me.0 f) (link c.unlock_header-then-has.new.seat.me.0 f) (c.requires.headless f) looked.ensures.held c.unlock_header-then-has.ensures.unlocked)
    c.unexclusive.ensures.unexclusive

pub returns-then-has-clause-did : goal.returns-then-has-clause-did
returns-then-has-clause-did g c =
    let f = c.args.frame in
    let looked = c.look_under_exclusive-word in
    let d = looked.ensures.did in
    let on : (fields looked.result).awaited ≡ true = sym c.has.ensures ∙ c.if-has.true in
    let number = sym (ap (λ (x : View). x.number) looked.ensures.touches.self) ∙ ap (λ (x : View). x.number) (touches looking (λ s h x. refl) f looked.result d.held looked.new.seat.me.0 d.loads).self in
    let left = c.unlock_header-then-has.ensures.did in
    let found = c.unexclusive.ensures.did in record {
      looked = looked.new.seat.me.0;
      headless = c.unlock_header-then-has.new.seat.me.0;
      word = looked.result;
      left = left.0;
      found = found.0;
      looks = d;
      others = several (fields looked.result).pins looked.ensures.some (λ e. c.if-pins-eq1.false (c.pins.ensures ∙ e));
      waiter = subst (λ (n : ℕ). HasWaiter n looked.result) (sym c.waiter.ensures) (shows_own (fields looked.result) on);
      other = λ e. another f looked.result d.held looked.new.seat.me.0 d.loads d.under.no_wait on (sym c.waiter.ensures ∙ e ∙ number);
      unlocks = left.1;
      gives_up = found.1;
    }

pub set_waiter-requires-clause-view : goal.set_waiter-requires-clause-view
set_waiter-requires-clause-view g c = may_await c.look_under_exclusive-word.result (link c.args.seat.now.me.0 c.args.frame) (link c.look_under_exclusive-word.new.seat.me.0 c.args.frame) c.requires.view c.look_under_exclusive-word.ensures.held (sym c.has.ensures ∙ c.if-has.false)

pub set_waiter-requires-clause-may : goal.set_waiter-requires-clause-may
set_waiter-requires-clause-may g c = waits_on c.args.frame c.args.seat.now.me.0 c.look_under_exclusive-word.new.seat.me.0 c.look_under_exclusive-word.ensures.touches c.look_under_exclusive-word.ensures.held.waits c.args.number c.requires.may

pub returns-clause-touches : goal.returns-clause-touches
returns-clause-touches g c =
    let f = c.args.frame in
    let v = c.args.seat.now.me.0 in
    let looked = c.look_under_exclusive-word in
    let under = looked.ensures.did.under in
    let noted = c.set_waiter.new.seat.me.0 in
    let clean : (link noted f).dirtied ≡ false =
    ap (λ (l : Link). l.dirtied) c.set_waiter.ensures.waits
    ∙ looked.ensures.held.dirtied
    ∙ (bare f v under.locked under.locks c.requires.view.lock.none).1
    in
    touches_on _ _ _ _
    (touches_on _ _ _ _
    (touches_on _ _ _ _ looked.ensures.touches c.set_waiter.ensures.touches)
    (touches_unmarked f noted c.unexclusive-2.new.seat.me.0 clean
    c.unexclusive-2.ensures.touches c.unexclusive-2.ensures.unnoted))
    c.wait.ensures.touches

pub returns-clause-leaves : goal.returns-clause-leaves
returns-clause-leaves g c =
    let f = c.args.frame in
    let v = c.args.seat.now.me.0 in
    let looked = c.look_under_exclusive-word in
    let none = c.requires.view.lock.none in
    rewaited c.args.number looked.result (link v f) (link looked.new.seat.me.0 f) (link c.set_waiter.new.seat.me.0 f) (link c.unexclusive-2.new.seat.me.0 f) (link c.wait.new.seat.me.0 f) none (c.requires.headless f)
    (bare f v looked.ensures.did.under.locked looked.ensures.did.under.locks none) looked.ensures.held c.set_waiter.ensures.waits c.unexclusive-2.ensures.unexclusive c.wait.ensures.over

pub returns-clause-did : goal.returns-clause-did
returns-clause-did g c =
    let looked = c.look_under_exclusive-word in
    let found = c.unexclusive-2.ensures.did in record {
      looked = looked.new.seat.me.0;
      noted = c.set_waiter.new.seat.me.0;
      unlocked = c.unexclusive-2.new.seat.me.0;
      word = looked.result;
      found = found.0;
      looks = looked.ensures.did;
      others = several (fields looked.result).pins looked.ensures.some (λ e. c.if-pins-eq1.false (c.pins.ensures ∙ e));
      free = sym c.has.ensures ∙ c.if-has.false;
      sets = c.set_waiter.ensures.did;
      gives_up = found.1;
      waits = c.wait.ensures.did;
    }
