use Rattle.buffer_frames.proofs.Calm.{victim_unpinned}
use Rattle.buffer_frames.proofs.Heading.{headless_victim}
use Rattle.buffer_frames.proofs.Latching.{remembers_unpinned}
use Rattle.buffer_frames.proofs.Keeps.{at_frame}
use Rattle.buffer_frames.proofs.entering.give_up.Goals as goal

pub returns-clause-rests : goal.returns-clause-rests
returns-clause-rests g c = let u = c.unpin_and_wake.ensures in victim_unpinned c.args._held.now c.args.victim.frame c.args.seat.now.me.0 c.unpin_and_wake.new.seat.me.0 c.requires.victim u.touches.others u.unpinned

pub returns-clause-remembers : goal.returns-clause-remembers
returns-clause-remembers g c tag f r = let u = c.unpin_and_wake.ensures in remembers_unpinned tag f c.args.victim.frame c.args.seat.now.me.0 c.unpin_and_wake.new.seat.me.0 u.touches.others u.unpinned r

pub unpin_and_wake-requires-clause-headless : goal.unpin_and_wake-requires-clause-headless
unpin_and_wake-requires-clause-headless g c = headless_victim c.args._held.now c.args.victim.frame c.args.seat.now.me.0 c.requires.victim

pub returns-clause-keeps : goal.returns-clause-keeps
returns-clause-keeps g c = let u = c.unpin_and_wake.ensures in at_frame u.seat c.args.victim.frame u.touches u.marks u.unpinned.content
