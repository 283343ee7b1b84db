use Rattle.std.proofs.Common.{rules, arith, refl}
use Rattle.pin_core.specs.Kinds.{unlock_header}
use Rattle.frame_table.specs.Kinds.{pins}
use Rattle.frame_table.proofs.Words.{unlocks_there}
use Rattle.frame_table.proofs.Told.{touches, link_is}
use Rattle.frame_table.proofs.Marks.{did_marks}
use Rattle.frame_table.proofs.table.FrameTable.unlock_header.Goals as goal

pub fetch_and-requires : goal.fetch_and-requires
fetch_and-requires g c = (search rules, (let e = c.state_place.ensures in omega arith), rw c.state_place.ensures (unlocks_there _ c.args.self.now.table.shared.key _ _ _ _ c.requires.seat.inside c.requires.seat.live c.requires.held.held c.requires.held.settled))

pub returns-clause-touches : goal.returns-clause-touches
returns-clause-touches g c = touches (pins unlock_header) (λ s f v. refl) _ _ _ _ (c.fetch_and.ensures.2.1 c.args.frame c.state_place.ensures)

pub returns-clause-unlocked : goal.returns-clause-unlocked
returns-clause-unlocked g c = link_is (pins unlock_header) _ _ _ _ (c.fetch_and.ensures.2.1 c.args.frame c.state_place.ensures)

pub returns-clause-marks : goal.returns-clause-marks
returns-clause-marks g c = did_marks (pins unlock_header) tt _ _ _ _ (c.fetch_and.ensures.2.1 c.args.frame c.state_place.ensures)

pub returns-clause-did : goal.returns-clause-did
returns-clause-did g c = (_, c.fetch_and.ensures.2.1 c.args.frame c.state_place.ensures)
