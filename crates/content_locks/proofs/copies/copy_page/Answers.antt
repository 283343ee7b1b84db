use Rattle.std.proofs.Common.{ap, ◌∙◌}
use Rattle.pin_core.specs.declared.view.Link.{Link}
use Rattle.frame_table.proofs.Told.{touches_on}
use Rattle.content_locks.proofs.Locking.{may_return, copied_back, copy_sound}
use Rattle.content_locks.proofs.copies.copy_page.Goals as goal

pub page_back-requires-clause-can : goal.page_back-requires-clause-can
page_back-requires-clause-can g c = let o = c.page_out-out.ensures in may_return _ o.did.0 c.args.seat.now.me.0 c.page_out-out.new.seat.me.0 _ o.did.1 c.requires.view o.out o.fresh

pub returns-clause-copied : goal.returns-clause-copied
returns-clause-copied g c = let o = c.page_out-out.ensures in rw c.copy_from.ensures (copied_back _ o.did.0 c.args.seat.now.me.0 c.page_out-out.new.seat.me.0 _ o.did.1 c.requires.view c.page_back.new.seat.me.0 o.out c.page_back.ensures.back)

pub returns-clause-marks : goal.returns-clause-marks
returns-clause-marks g c = c.page_back.ensures.marks ∙ c.page_out-out.ensures.marks

pub returns-clause-sound : goal.returns-clause-sound
returns-clause-sound g c = let o = c.page_out-out.ensures in rw c.copy_from.ensures (copy_sound _ o.did.0 _ _ _ o.did.1 c.requires.view.right (ap (λ (l : Link). l.out) o.out))

pub returns-clause-touches : goal.returns-clause-touches
returns-clause-touches g c = touches_on _ _ _ _ c.page_out-out.ensures.touches c.page_back.ensures.touches
