use Rattle.std.proofs.Common.{rules, arith, refl}
use Rattle.page_core.specs.Kinds.{unshare}
use Rattle.frame_table.specs.Kinds.{pages}
use Rattle.frame_table.proofs.Contents.{unshares_there}
use Rattle.frame_table.proofs.Told.{touches, link_is}
use Rattle.frame_table.proofs.Marks.{did_marks}
use Rattle.frame_table.proofs.table.FrameTable.drop_share.Goals as goal

pub fetch_sub-requires : goal.fetch_sub-requires
fetch_sub-requires g c = (search rules, (let e = c.content_place.ensures in omega arith), rw c.content_place.ensures (unshares_there _ c.args.self.now.table.shared.key _ _ _ _ c.requires.seat.inside c.requires.seat.live c.requires.view))

pub returns-clause-touches : goal.returns-clause-touches
returns-clause-touches g c = touches (pages unshare) (λ s f v. refl) _ _ _ _ (c.fetch_sub.ensures.2.1 c.args.frame c.content_place.ensures)

pub returns-clause-unshared : goal.returns-clause-unshared
returns-clause-unshared g c = link_is (pages unshare) _ _ _ _ (c.fetch_sub.ensures.2.1 c.args.frame c.content_place.ensures)

pub returns-clause-did : goal.returns-clause-did
returns-clause-did g c = (_, c.fetch_sub.ensures.2.1 c.args.frame c.content_place.ensures)

pub returns-clause-marks : goal.returns-clause-marks
returns-clause-marks g c = did_marks (pages unshare) (record { clean = refl; quiet = refl; open_ended = λ fr e. refl }) _ _ _ _ (c.fetch_sub.ensures.2.1 c.args.frame c.content_place.ensures)
