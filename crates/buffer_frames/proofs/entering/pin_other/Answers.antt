use Rattle.block_tag.specs.Names.{packed_tag, partition_number}
use Rattle.std.proofs.Common.{Some}
use Rattle.buffer_frames.proofs.Bringing.{put_back}
use Rattle.buffer_frames.proofs.Latching.{finds_same}
use Rattle.buffer_frames.proofs.Keeps.{and_same, keeps_none, keeps_on}
use Rattle.buffer_frames.proofs.entering.pin_other.Goals as goal

pub pin_found-requires-clause-finds : goal.pin_found-requires-clause-finds
pin_found-requires-clause-finds g c = finds_same (packed_tag c.args.tag) c.args.frame c.args.seat.now.me.0 c.give_up.new.seat.me.0 c.give_up.ensures.partitions c.requires.finds

pub pin_found-requires-clause-remembers : goal.pin_found-requires-clause-remembers
pin_found-requires-clause-remembers g c = c.give_up.ensures.remembers (packed_tag c.args.tag) c.args.frame c.requires.remembers

pub returns-clause-gave_up : goal.returns-clause-gave_up
returns-clause-gave_up g c = (c.give_up.new.seat.me.0, c.give_up.ensures.did, c.pin_found.ensures.did)

pub returns-clause-put_back : goal.returns-clause-put_back
returns-clause-put_back g c = put_back c.args.victim.frame _ c.args.queue.now c.free.new.pass c.free.result c.frame-given.ensures c.free.ensures.pushed c.free.ensures.full

pub returns-clause-keeps : goal.returns-clause-keeps
returns-clause-keeps g c = keeps_on (and_same (keeps_none {l = Some (partition_number c.args.tag)} c.requires.stands c.requires.latch) c.give_up.ensures.keeps c.give_up.ensures.stands c.give_up.ensures.partitions) c.pin_found.ensures.keeps
