use Rattle.std.proofs.Common.{ℕ, ap, ◌∙◌, sym, subst}
use Rattle.state_word.specs.declared.word.StateWord.{StateWord}
use Rattle.state_word.specs.Fields.{fields}
use Rattle.pin_core.specs.declared.view.Link.{Link}
use Rattle.pin_core.specs.State.{link}
use Rattle.page_core.specs.Kinds as kinds
use Rattle.frame_table.specs.FrameSteps.{Did}
use Rattle.frame_table.specs.Kinds.{pages}
use Rattle.frame_table.proofs.Rising.{rises_none, rises_touched}
use Rattle.frame_table.proofs.Told.{looked_on, touches_on}
use Rattle.buffer_frames.specs.Rests.{LinkRests}
use Rattle.buffer_frames.specs.Tokens.{held_at}
use Rattle.buffer_frames.proofs.Keeping.{rests_touched, stands_self}
use Rattle.buffer_frames.proofs.WorkSteps.{within_all, within_on}
use Rattle.buffer_frames.proofs.Passing.{rests_left_to_write, rests_read, rests_under}
use Rattle.buffer_frames.proofs.marking.need_checkpoint.Goals as goal

pub returns-then-not-has-clause-stands : goal.returns-then-not-has-clause-stands
returns-then-not-has-clause-stands g c =
    let a = c.lock_header-word.ensures in
    let b = c.look.ensures in
    let e = c.unlock_header.ensures in
    stands_self _ c.look.new.seat c.unlock_header.new.seat e.seat e.touches.self (stands_self _ c.lock_header-word.new.seat c.look.new.seat b.seat b.touches.self (stands_self _ c.args.seat.now c.lock_header-word.new.seat a.seat a.touches.self c.requires.stands))

pub returns-then-not-has-clause-touches : goal.returns-then-not-has-clause-touches
returns-then-not-has-clause-touches g c =
    let f = c.args.frame in
    let v = c.args.seat.now.me.0 in
    let u = c.lock_header-word.new.seat.me.0 in
    let x = c.look.new.seat.me.0 in
    touches_on f v x c.unlock_header.new.seat.me.0 (touches_on f v u x c.lock_header-word.ensures.touches c.look.ensures.touches) c.unlock_header.ensures.touches

pub returns-then-not-has-clause-rests : goal.returns-then-not-has-clause-rests
returns-then-not-has-clause-rests g c =
    let f = c.args.frame in
    let t = c.args._held.now in
    let v = c.args.seat.now.me.0 in
    let u = c.lock_header-word.new.seat.me.0 in
    let x = c.look.new.seat.me.0 in
    rests_touched f t v c.unlock_header.new.seat.me.0 (returns-then-not-has-clause-touches g c)
    (subst (LinkRests (held_at t f)) (sym c.unlock_header.ensures.unlocked) (rests_under (held_at t f) c.lock_header-word.result (link v f) (link x f) (looked_on _ (link u f) (link x f) c.lock_header-word.ensures.locked c.look.ensures.link) (c.requires.rests f)))
    c.requires.rests

pub returns-clause-touches : goal.returns-clause-touches
returns-clause-touches g c =
    let f = c.args.frame in
    let v = c.args.seat.now.me.0 in
    let u = c.lock_header-word.new.seat.me.0 in
    let x = c.tag_shown-tag.new.seat.me.0 in
    touches_on f v x c.need_checkpoint.new.seat.me.0 (touches_on f v u x c.lock_header-word.ensures.touches c.tag_shown-tag.ensures.touches) c.need_checkpoint.ensures.touches

pub returns-clause-rests : goal.returns-clause-rests
returns-clause-rests g c =
    let f = c.args.frame in
    let t = c.args._held.now in
    let v = c.args.seat.now.me.0 in
    let u = c.lock_header-word.new.seat.me.0 in
    let x = c.tag_shown-tag.new.seat.me.0 in
    let e = c.tag_shown-tag.ensures in
    rests_touched f t v c.need_checkpoint.new.seat.me.0 (returns-clause-touches g c)
    (rests_left_to_write (held_at t f) (link x f) (link c.need_checkpoint.new.seat.me.0 f) c.need_checkpoint.ensures.left_to_write (rests_read (held_at t f) c.tag_shown-tag.result (link u f) (link x f) e.read e.same e.remembered (rests_under (held_at t f) c.lock_header-word.result (link v f) (link u f) c.lock_header-word.ensures.locked (c.requires.rests f))))
    c.requires.rests

pub returns-clause-needed : goal.returns-clause-needed
returns-clause-needed g c =
    let f = c.args.frame in
    let v = c.args.seat.now.me.0 in
    let u = c.lock_header-word.new.seat.me.0 in
    let x = c.tag_shown-tag.new.seat.me.0 in
    let w = c.need_checkpoint.new.seat.me.0 in
    within_on (λ a b. (word : ℕ) × Did (pages kinds.need_checkpoint) f a b word) v x w w (rises_touched f v x (touches_on f v u x c.lock_header-word.ensures.touches c.tag_shown-tag.ensures.touches)) (within_all (λ a b. (word : ℕ) × Did (pages kinds.need_checkpoint) f a b word) x w (c.lock_header-word.result, c.need_checkpoint.ensures.did)) (rises_none w)

pub returns-clause-noted : goal.returns-clause-noted
returns-clause-noted g c = let d = c.lock_header-word.ensures.did in record {
  under = c.lock_header-word.new.seat.me.0;
  loaded = c.tag_shown-tag.new.seat.me.0;
  was = d.1;
  word = c.lock_header-word.result;
  locks = record { before = d.0; looks = d.2; did = d.3 };
  loads = c.tag_shown-tag.ensures.did;
  notes = c.need_checkpoint.ensures.did;
}

pub returns-clause-stands : goal.returns-clause-stands
returns-clause-stands g c =
    let a = c.lock_header-word.ensures in
    let b = c.tag_shown-tag.ensures in
    let e = c.need_checkpoint.ensures in
    stands_self _ c.tag_shown-tag.new.seat c.need_checkpoint.new.seat e.seat e.touches.self (stands_self _ c.lock_header-word.new.seat c.tag_shown-tag.new.seat b.seat b.touches.self (stands_self _ c.args.seat.now c.lock_header-word.new.seat a.seat a.touches.self c.requires.stands))

pub returns-then-not-has-clause-clean : goal.returns-then-not-has-clause-clean
returns-then-not-has-clause-clean g c = record {
  word = c.look.result;
  looks = record {
    before = c.lock_header-word.new.seat.me.0;
    after = c.look.new.seat.me.0;
    since = rises_touched c.args.frame _ _ c.lock_header-word.ensures.touches;
    work = c.look.ensures.did;
    until = rises_touched c.args.frame _ _ c.unlock_header.ensures.touches;
  };
  clean = ap (λ (w : StateWord). w.dirty) (c.look.ensures.word.held (fields c.lock_header-word.result) c.lock_header-word.ensures.locked.header) ∙ sym c.has.ensures ∙ c.if-not-has.true;
}

pub returns-then-not-has-clause-visited : goal.returns-then-not-has-clause-visited
returns-then-not-has-clause-visited g c = ap (λ (l : Link). l.visited) c.unlock_header.ensures.unlocked ∙ c.look.ensures.visited (ap (λ (w : StateWord). w.dirty) (c.look.ensures.word.held (fields c.lock_header-word.result) c.lock_header-word.ensures.locked.header) ∙ sym c.has.ensures ∙ c.if-not-has.true)
