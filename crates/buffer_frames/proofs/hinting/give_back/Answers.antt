use Rattle.std.proofs.Common.{None}
use Rattle.block_tag.specs.Names.{packed_tag}
use Rattle.buffer_frames.proofs.Calm.{pins_unpinned}
use Rattle.buffer_frames.proofs.Keeps.{and_touched, keeps_none}
use Rattle.buffer_frames.proofs.WorkSteps.{headless}
use Rattle.buffer_frames.proofs.hinting.give_back.Goals as goal

pub returns-clause-rests : goal.returns-clause-rests
returns-clause-rests g c = let u = c.unpin_and_wake.ensures in pins_unpinned c.args._held.now (packed_tag c.args._tag) c.args.pin.frame c.args.seat.now.me.0 c.unpin_and_wake.new.seat.me.0 c.requires.pinned u.touches.others u.unpinned

pub unpin_and_wake-requires-clause-headless : goal.unpin_and_wake-requires-clause-headless
unpin_and_wake-requires-clause-headless g c = headless c.args._held.now c.args.pin.frame c.args.seat.now.me.0 c.requires.pinned.others c.requires.pinned.calm.no_header

pub returns-clause-keeps : goal.returns-clause-keeps
returns-clause-keeps g c = let u = c.unpin_and_wake.ensures in and_touched (keeps_none {l = None} c.requires.stands c.requires.latches) c.args.pin.frame u.seat u.touches u.marks u.unpinned.content
