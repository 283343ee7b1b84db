use Rattle.std.proofs.Common.{refl}
use Rattle.pin_core.specs.Kinds.{pin_mapped}
use Rattle.frame_table.specs.Kinds.{pins}
use Rattle.frame_table.specs.FrameSteps.{still, again}
use Rattle.frame_table.proofs.Told.{few_pins, tried}
use Rattle.frame_table.proofs.Holding.{finds_on}
use Rattle.frame_table.proofs.table.FrameTable.try_mapped.Goals as goal

pub returns-then-has-clause-did : goal.returns-then-has-clause-did
returns-then-has-clause-did g c = again _ still c.look-was.ensures.did

pub pinned-new-requires : goal.pinned-new-requires
pinned-new-requires g c = few_pins _ _ _ _ c.look-was.ensures.did

pub swap_mapped-requires-clause-finds : goal.swap_mapped-requires-clause-finds
swap_mapped-requires-clause-finds g c = finds_on _ _ _ _ _ c.look-was.ensures.touches c.requires.finds

pub returns-clause-did : goal.returns-clause-did
returns-clause-did g c = tried (pins (pin_mapped c.args.tag c.args.ring)) refl _ _ _ _ _ _ c.look-was.ensures.did c.swap_mapped.ensures.did
