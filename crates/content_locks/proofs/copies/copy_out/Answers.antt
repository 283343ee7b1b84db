use Rattle.std.proofs.Common.{sym, ap, subst, ◌∙◌}
use Rattle.pin_core.specs.declared.view.Link.{Link}
use Rattle.frame_table.proofs.Told.{touches_on}
use Rattle.page_core.specs.Kinds as kinds
use Rattle.content_locks.specs.Locks.{MayCopy, alone, latched, still, again}
use Rattle.content_locks.proofs.Locking.{is_shared, is_exclusive_lock, locks_on}
use Rattle.content_locks.proofs.copies.copy_out.Goals as goal

pub copy_page-requires-clause-view : goal.copy_page-requires-clause-view
copy_page-requires-clause-view g c = let v = c.requires.view in let l = c.look_content.ensures in subst MayCopy (sym l.link) record {
  right = v.right;
  applied = v.applied;
  home = v.home;
  shared = λ e. absurd (is_exclusive_lock _ _ _ _ l.did (sym c.is_exclusive.ensures ∙ c.if-is_exclusive.true) e);
}

pub take_copy-requires-clause-view : goal.take_copy-requires-clause-view
take_copy-requires-clause-view g c = let l = c.look_content.ensures in ap (λ (x : Link). x.content) l.link ∙ is_shared _ _ _ _ l.did (sym c.is_exclusive.ensures ∙ c.if-is_exclusive.false) c.requires.view.right

pub returns-clause-touches : goal.returns-clause-touches
returns-clause-touches g c = touches_on _ _ _ _ (touches_on _ _ _ _ c.look_content.ensures.touches c.take_copy.ensures.touches) (touches_on _ _ _ _ c.copy_page-2.ensures.touches c.leave_copy.ensures.touches)

pub returns-then-is_exclusive-clause-did : goal.returns-then-is_exclusive-clause-did
returns-then-is_exclusive-clause-did g c = alone (again _ still c.look_content.ensures.did) c.copy_page.ensures.did

pub returns-clause-did : goal.returns-clause-did
returns-clause-did g c = let left = c.leave_copy.ensures.did in latched left.0 (locks_on kinds.take_copy _ _ _ _ (again _ still c.look_content.ensures.did) c.take_copy.ensures.did) c.copy_page-2.ensures.did left.1

pub returns-clause-marks : goal.returns-clause-marks
returns-clause-marks g c = (c.leave_copy.ensures.marks ∙ c.copy_page-2.ensures.marks) ∙ (c.take_copy.ensures.marks ∙ c.look_content.ensures.marks)

pub returns-then-is_exclusive-clause-marks : goal.returns-then-is_exclusive-clause-marks
returns-then-is_exclusive-clause-marks g c = c.copy_page.ensures.marks ∙ c.look_content.ensures.marks

pub returns-then-is_exclusive-clause-touches : goal.returns-then-is_exclusive-clause-touches
returns-then-is_exclusive-clause-touches g c = touches_on _ _ _ _ c.look_content.ensures.touches c.copy_page.ensures.touches
