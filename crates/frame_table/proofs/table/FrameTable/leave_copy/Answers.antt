use Rattle.std.proofs.Common.{rules, arith, refl}
use Rattle.page_core.specs.Kinds.{leave_copy}
use Rattle.frame_table.specs.Kinds.{pages}
use Rattle.frame_table.proofs.Contents.{leaves_copy_there}
use Rattle.frame_table.proofs.Told.{touches, link_is}
use Rattle.frame_table.proofs.Marks.{did_marks}
use Rattle.frame_table.proofs.table.FrameTable.leave_copy.Goals as goal

pub fetch_sub-requires : goal.fetch_sub-requires
fetch_sub-requires g c = (search rules, (let e = c.content_place.ensures in omega arith), rw c.content_place.ensures (leaves_copy_there _ c.args.self.now.table.shared.key _ _ _ _ c.requires.seat.inside c.requires.seat.live c.requires.view))

pub returns-clause-touches : goal.returns-clause-touches
returns-clause-touches g c = touches (pages leave_copy) (λ s f v. refl) _ _ _ _ (c.fetch_sub.ensures.2.1 c.args.frame c.content_place.ensures)

pub returns-clause-left : goal.returns-clause-left
returns-clause-left g c = link_is (pages leave_copy) _ _ _ _ (c.fetch_sub.ensures.2.1 c.args.frame c.content_place.ensures)

pub returns-clause-did : goal.returns-clause-did
returns-clause-did g c = (_, c.fetch_sub.ensures.2.1 c.args.frame c.content_place.ensures)

pub returns-clause-marks : goal.returns-clause-marks
returns-clause-marks g c = did_marks (pages leave_copy) (record { clean = refl; quiet = refl; open_ended = λ fr e. refl }) _ _ _ _ (c.fetch_sub.ensures.2.1 c.args.frame c.content_place.ensures)
