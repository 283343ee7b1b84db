use Rattle.std.proofs.Common.{refl}
use Rattle.block_tag.specs.Names.{packed_tag}
use Rattle.pin_core.specs.State.{link, no_tag}
use Rattle.buffer_frames.proofs.HasTags.{kept_tag, may_load, shown_tag}
use Rattle.buffer_frames.proofs.tags.tag_shown.Goals as goal

pub load_tag-requires-clause-right : goal.load_tag-requires-clause-right
load_tag-requires-clause-right g c = may_load (link c.args.seat.now.me.0 c.args.frame) c.requires.shows

pub unreachable-requires : goal.unreachable-requires
unreachable-requires g c = shown_tag c.args.frame no_tag c.args.seat.now.me.0 c.load_tag.new.seat.me.0 c.in_default.ensures.did c.requires.settled c.requires.shows refl

pub returns-clause-same : goal.returns-clause-same
returns-clause-same g c tag is = kept_tag c.args.frame (packed_tag c.in-Some.tag) tag c.args.seat.now.me.0 c.load_tag.new.seat.me.0 c.in-Some.ensures.did is

pub returns-clause-did : goal.returns-clause-did
returns-clause-did g c = c.in-Some.ensures.did
