use Rattle.std.proofs.Common.{rules, arith, refl}
use Rattle.page_core.specs.Kinds.{unexclude}
use Rattle.frame_table.specs.Kinds.{pages}
use Rattle.frame_table.proofs.Contents.{unexcludes_there}
use Rattle.frame_table.proofs.Told.{touches_or_notes, link_is}
use Rattle.frame_table.proofs.Unentered.{unnoted}
use Rattle.frame_table.proofs.Marks.{did_marks}
use Rattle.frame_table.proofs.table.FrameTable.drop_exclusive.Goals as goal

pub fetch_sub-requires : goal.fetch_sub-requires
fetch_sub-requires g c = (search rules, (let e = c.content_place.ensures in omega arith), rw c.content_place.ensures (unexcludes_there _ c.args.self.now.table.shared.key _ _ _ _ c.requires.seat.inside c.requires.seat.live c.requires.view))

pub returns-clause-touches : goal.returns-clause-touches
returns-clause-touches g c = touches_or_notes (pages unexclude) (λ s f v. refl) _ _ _ _ (c.fetch_sub.ensures.2.1 c.args.frame c.content_place.ensures)

pub returns-clause-unnoted : goal.returns-clause-unnoted
returns-clause-unnoted g c = unnoted _ _ _ _ (c.fetch_sub.ensures.2.1 c.args.frame c.content_place.ensures)

pub returns-clause-unexclusive : goal.returns-clause-unexclusive
returns-clause-unexclusive g c = link_is (pages unexclude) _ _ _ _ (c.fetch_sub.ensures.2.1 c.args.frame c.content_place.ensures)

pub returns-clause-did : goal.returns-clause-did
returns-clause-did g c = (_, c.fetch_sub.ensures.2.1 c.args.frame c.content_place.ensures)

pub returns-clause-marks : goal.returns-clause-marks
returns-clause-marks g c = did_marks (pages unexclude) (record { clean = refl; quiet = refl; open_ended = λ fr e. refl }) _ _ _ _ (c.fetch_sub.ensures.2.1 c.args.frame c.content_place.ensures)
