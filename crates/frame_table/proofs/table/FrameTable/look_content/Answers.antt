use Rattle.std.proofs.Common.{rules, arith, refl}
use Rattle.frame_table.specs.Content.{looking_content}
use Rattle.frame_table.proofs.Contents.{looks_content, same_link}
use Rattle.frame_table.proofs.Told.{touches}
use Rattle.frame_table.proofs.Marks.{did_marks}
use Rattle.frame_table.proofs.table.FrameTable.look_content.Goals as goal

pub load-requires : goal.load-requires
load-requires g c = (search rules, (let e = c.content_place.ensures in omega arith), rw c.content_place.ensures (looks_content _ c.args.self.now.table.shared.key _ _ _ _ c.requires.inside c.requires.live))

pub returns-clause-small : goal.returns-clause-small
returns-clause-small g c = (c.load.ensures.2.1 c.args.frame c.content_place.ensures).says.3

pub returns-clause-touches : goal.returns-clause-touches
returns-clause-touches g c = touches looking_content (λ s f v. refl) _ _ _ _ (c.load.ensures.2.1 c.args.frame c.content_place.ensures)

pub returns-clause-link : goal.returns-clause-link
returns-clause-link g c = same_link _ _ _ _ (c.load.ensures.2.1 c.args.frame c.content_place.ensures)

pub returns-clause-marks : goal.returns-clause-marks
returns-clause-marks g c = did_marks looking_content (record { clean = refl; quiet = refl; open_ended = λ fr e. refl }) _ _ _ _ (c.load.ensures.2.1 c.args.frame c.content_place.ensures)
