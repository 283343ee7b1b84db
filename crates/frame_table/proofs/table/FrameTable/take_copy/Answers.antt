use Rattle.std.proofs.Common.{rules, arith, refl}
use Rattle.page_core.specs.Kinds.{take_copy}
use Rattle.frame_table.specs.Kinds.{pages}
use Rattle.frame_table.specs.Content.{looking_content}
use Rattle.frame_table.proofs.Contents.{copies_there, same_link}
use Rattle.frame_table.proofs.Told.{touches, link_is, on_hit, on_miss}
use Rattle.frame_table.proofs.Marks.{did_marks}
use Rattle.frame_table.proofs.table.FrameTable.take_copy.Goals as goal

pub compare_exchange-found-requires : goal.compare_exchange-found-requires
compare_exchange-found-requires g c = (search rules, (let e = c.content_place.ensures in omega arith), rw c.content_place.ensures (copies_there _ c.args.self.now.table.shared.key _ _ _ _ _ c.requires.seat.inside c.requires.seat.live c.requires.view c.requires.was))

pub returns-then-found-was-clause-touches : goal.returns-then-found-was-clause-touches
returns-then-found-was-clause-touches g c = touches (pages take_copy) (λ s f v. refl) _ _ _ _ (on_hit (pages take_copy) _ _ _ _ _ (c.compare_exchange-found.ensures.2.1 c.args.frame c.content_place.ensures) c.if-found-was.true)

pub returns-then-found-was-clause-taken : goal.returns-then-found-was-clause-taken
returns-then-found-was-clause-taken g c = link_is (pages take_copy) _ _ _ _ (on_hit (pages take_copy) _ _ _ _ _ (c.compare_exchange-found.ensures.2.1 c.args.frame c.content_place.ensures) c.if-found-was.true)

pub returns-then-found-was-clause-did : goal.returns-then-found-was-clause-did
returns-then-found-was-clause-did g c = on_hit (pages take_copy) _ _ _ _ _ (c.compare_exchange-found.ensures.2.1 c.args.frame c.content_place.ensures) c.if-found-was.true

pub returns-else-found-was-clause-touches : goal.returns-else-found-was-clause-touches
returns-else-found-was-clause-touches g c = touches looking_content (λ s f v. refl) _ _ _ _ (on_miss (pages take_copy) _ _ _ _ _ (c.compare_exchange-found.ensures.2.1 c.args.frame c.content_place.ensures) c.if-found-was.false)

pub returns-else-found-was-clause-left : goal.returns-else-found-was-clause-left
returns-else-found-was-clause-left g c = same_link _ _ _ _ (on_miss (pages take_copy) _ _ _ _ _ (c.compare_exchange-found.ensures.2.1 c.args.frame c.content_place.ensures) c.if-found-was.false)

pub returns-else-found-was-clause-did : goal.returns-else-found-was-clause-did
returns-else-found-was-clause-did g c = let d = on_miss (pages take_copy) _ _ _ _ _ (c.compare_exchange-found.ensures.2.1 c.args.frame c.content_place.ensures) c.if-found-was.false in (c.if-found-was.false, d.says.3, d)

pub returns-then-found-was-clause-marks : goal.returns-then-found-was-clause-marks
returns-then-found-was-clause-marks g c = did_marks (pages take_copy) (record { clean = refl; quiet = refl; open_ended = λ fr e. refl }) _ _ _ _ (on_hit (pages take_copy) _ _ _ _ _ (c.compare_exchange-found.ensures.2.1 c.args.frame c.content_place.ensures) c.if-found-was.true)

pub returns-else-found-was-clause-marks : goal.returns-else-found-was-clause-marks
returns-else-found-was-clause-marks g c = did_marks looking_content (record { clean = refl; quiet = refl; open_ended = λ fr e. refl }) _ _ _ _ (on_miss (pages take_copy) _ _ _ _ _ (c.compare_exchange-found.ensures.2.1 c.args.frame c.content_place.ensures) c.if-found-was.false)
