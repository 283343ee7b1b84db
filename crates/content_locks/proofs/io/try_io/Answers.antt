use Rattle.std.proofs.Common.{◌≡◌, true, sym, ap, subst, ◌∙◌, Bool}
use Rattle.state_word.specs.Fields.{fields}
use Rattle.pin_core.specs.declared.view.Link.{Link}
use Rattle.pin_core.specs.State.{link}
use Rattle.frame_table.specs.Kinds.{pages}
use Rattle.content_locks.specs.Io.{is_input, is_nothing}
use Rattle.content_locks.proofs.InOut.{unlocked_back, begun_back, can_begin, tag_there, begins, finds, finds_work, looked_none, quiet_locked, sees}
use Rattle.std.specs.Prelude.{not, ◌||◌}
use Rattle.frame_table.specs.Seats.{MarksBegun, ViewMarks}
use Rattle.frame_table.specs.FrameSteps.{Did}
use Rattle.frame_table.specs.Content.{CanBeginIo, begun_link, start_of}
use Rattle.frame_table.proofs.Told.{touches_on}
use Rattle.content_locks.proofs.io.try_io.Goals as goal

pub returns-then-shows_nothing-clause-tried : goal.returns-then-shows_nothing-clause-tried
returns-then-shows_nothing-clause-tried g c = let k = c.lock_header-word.ensures in let n = sym c.shows_nothing.ensures ∙ c.if-shows_nothing.true in let e = c.unlock_header-then-shows_nothing.ensures.unlocked in (
  unlocked_back _ _ _ k.locked _ _ c.look.ensures.link e (c.requires.headless c.args.frame),
  λ reads. ap (λ (l : Link). l.seen_valid) e ∙ sees _ _ _ _ k.did _ _ k.locked c.look.ensures.did c.requires.view.settled c.requires.view.pinned (subst (λ (b : Bool). is_nothing b (fields c.lock_header-word.result) ≡ true) reads n),
  finds _ _ _ _ k.did _ _ _ _ _ n c.look.ensures.did c.unlock_header-then-shows_nothing.ensures.did.1,
  c.unlock_header-then-shows_nothing.ensures.marks ∙ (c.look.ensures.marks ∙ k.marks),
)

pub begin_io-requires-clause-view : goal.begin_io-requires-clause-view
begin_io-requires-clause-view g c = let k = c.lock_header-word.ensures in
    subst (λ (input : Bool). CanBeginIo input c.lock_header-word.result (link c.lock_header-word.new.seat.me.0 c.args.frame)) (sym c.is_input.ensures)
    (can_begin _ _ _ k.locked _ c.requires.view (sym c.has.ensures ∙ c.if-has.false) (sym c.shows_nothing.ensures ∙ c.if-shows_nothing.false) (tag_there _ _ _ _ k.did k.locked))

pub returns-clause-tried : goal.returns-clause-tried
returns-clause-tried g c = let k = c.lock_header-word.ensures in let b = c.begin_io.ensures in let e = c.is_input.ensures in (
  b.right.0,
  b.right.1 ∙ e,
  begun_back _ _ _ k.locked _ _ (b.begun ∙ ap (λ (input : Bool). begun_link input (link c.lock_header-word.new.seat.me.0 c.args.frame)) e),
  begins _ _ _ _ k.did _ _ (subst (λ (input : Bool). Did (pages (start_of input)) c.args.frame c.lock_header-word.new.seat.me.0 c.begin_io.new.seat.me.0 c.lock_header-word.result) e b.did),
  subst (λ (input : Bool). MarksBegun input c.lock_header-word.new.seat.me.0 c.begin_io.new.seat.me.0) e b.marks ∙ ap (λ (m : ViewMarks). record m { had_output = m.had_output || not (is_input c.args.direction) }) k.marks,
)

pub begin_io-requires-clause-quiet : goal.begin_io-requires-clause-quiet
begin_io-requires-clause-quiet g c = let k = c.lock_header-word.ensures in quiet_locked _ _ _ _ k.touches k.locked c.requires.quiet

pub returns-clause-touches : goal.returns-clause-touches
returns-clause-touches g c = touches_on _ _ _ _ c.lock_header-word.ensures.touches c.begin_io.ensures.touches

pub returns-then-has-clause-touches : goal.returns-then-has-clause-touches
returns-then-has-clause-touches g c = touches_on _ _ _ _ c.lock_header-word.ensures.touches c.unlock_header.ensures.touches

pub returns-then-shows_nothing-clause-touches : goal.returns-then-shows_nothing-clause-touches
returns-then-shows_nothing-clause-touches g c = touches_on _ _ _ _ (touches_on _ _ _ _ c.lock_header-word.ensures.touches c.look.ensures.touches) c.unlock_header-then-shows_nothing.ensures.touches

pub returns-then-has-clause-tried : goal.returns-then-has-clause-tried
returns-then-has-clause-tried g c = let k = c.lock_header-word.ensures in let u = c.unlock_header.ensures in (
  unlocked_back _ _ _ k.locked _ _ (looked_none _) u.unlocked (c.requires.headless c.args.frame),
  finds_work _ _ _ _ k.did _ _ (sym c.has.ensures ∙ c.if-has.true) u.did.1,
  u.marks ∙ k.marks,
)
