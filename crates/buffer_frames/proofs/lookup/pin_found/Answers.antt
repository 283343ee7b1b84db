use Rattle.std.proofs.Common.{Some, ap, ◌∙◌}
use Rattle.block_tag.specs.Names.{packed_tag, partition_number}
use Rattle.buffer_frames.specs.Rests.{role_of}
use Rattle.buffer_frames.proofs.Pinning.{none_given, pins_mapped}
use Rattle.buffer_frames.proofs.Keeps.{and_touched, keeps_none}
use Rattle.buffer_frames.proofs.lookup.pin_found.Goals as goal

pub pin-requires-clause-absent : goal.pin-requires-clause-absent
pin-requires-clause-absent g c = (c.requires.rests c.args.frame).role ∙ ap role_of (none_given c.args._held.now c.args.tag.now c.args.frame c.args.seat.now.me.0 c.requires.remembers c.requires.new c.requires.rests)

pub returns-clause-pinned : goal.returns-clause-pinned
returns-clause-pinned g c = pins_mapped c.args._held.now (packed_tag c.args.tag.now) c.args.frame c.args.ring c.args.seat.now.me.0 c.pin.new.seat.me.0 c.requires.rests (none_given c.args._held.now c.args.tag.now c.args.frame c.args.seat.now.me.0 c.requires.remembers c.requires.new c.requires.rests) c.pin.ensures.touches.others c.pin.ensures.pinned

pub returns-clause-keeps : goal.returns-clause-keeps
returns-clause-keeps g c = let p = c.pin.ensures in and_touched (keeps_none {l = Some (partition_number c.args.tag.now)} c.requires.stands c.requires.latch) c.args.frame p.seat p.touches p.marks p.pinned.content
