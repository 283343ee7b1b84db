use Rattle.block_tag.specs.Names.{packed_tag}
use Rattle.frame_table.specs.declared.pin.Pin.{Pin}
use Rattle.buffer_frames.proofs.Keeping.{links_same}
use Rattle.buffer_frames.specs.Lookups.{SeesAndPins, SeesNone}
use Rattle.clock_sweep.proofs.Keeping.{none_to}
use Rattle.buffer_frames.proofs.Calm.{match_to, pins_worked, some_to}
use Rattle.buffer_frames.proofs.Latching.{may_take_part, under_partition}
use Rattle.buffer_frames.proofs.Outside.{Searched, links_worked, searched_under}
use Rattle.std.proofs.Common.{◌∙◌}
use Rattle.buffer_frames.proofs.lookup.search.Given.{Over}
use Rattle.buffer_frames.proofs.Keeps.{keeps_latched}
use Rattle.buffer_frames.proofs.lookup.search.Goals as goal

pub take_counted-requires-clause-free : goal.take_counted-requires-clause-free
take_counted-requires-clause-free g c = may_take_part _ c.requires.ready.latches c.requires.ready.stands.quiet

pub returns-clause-pinned : goal.returns-clause-pinned
returns-clause-pinned g c = some_to c.pin_mapped-pinned.result (λ (p : Pin). pins_worked c.args.held.now (packed_tag c.args.tag.now) p.frame c.pin_mapped-pinned.new.seat.me.0 c.give_turn.new.seat.me.0 (links_worked c.pin_mapped-pinned.new.seat.me.0 c.give_turn.new.seat.me.0 c.give_turn.ensures.work)) c.pin_mapped-pinned.ensures.pinned

pub returns-clause-rests : goal.returns-clause-rests
returns-clause-rests g c = none_to c.pin_mapped-pinned.result (links_same c.args.held.now c.pin_mapped-pinned.new.seat.me.0 c.give_turn.new.seat.me.0 (links_worked c.pin_mapped-pinned.new.seat.me.0 c.give_turn.new.seat.me.0 c.give_turn.ensures.work)) c.pin_mapped-pinned.ensures.rests

pub returns-clause-did : goal.returns-clause-did
returns-clause-did g c = let k = c.take_counted.ensures.did in let u = c.give_turn.ensures.did in let e = c.partition-partition.ensures.value in
    match_to c.pin_mapped-pinned.result (λ m. under_partition c.args.tag.now _ (SeesNone c.args.tag.now) _ _ _ _ e k m u) (λ (p : Pin) m. under_partition c.args.tag.now _ (SeesAndPins c.args.tag.now p.frame c.args.ring) _ _ _ _ e k m u) c.pin_mapped-pinned.ensures.did

module _ (g : Over) (c : goal.After-give_turn g) where
  searches : Searched c.args.seat.now.me.0 c.take_counted.new.seat.me.0 c.give_turn.new.seat.me.0
  searches = let k = c.take_counted.ensures in let u = c.give_turn.ensures in searched_under c.partition-partition.result c.args.seat.now.me.0 c.take_counted.new.seat.me.0 c.pin_mapped-pinned.new.seat.me.0 c.give_turn.new.seat.me.0 k.work k.turned.2 k.turned.3 c.pin_mapped-pinned.ensures.keeps.same u.work u.turned.2 u.turned.3

pub returns-clause-counted : goal.returns-clause-counted
returns-clause-counted g c = c.take_counted.ensures.counted ∙ (searches g c).shown

pub returns-clause-turns : goal.returns-clause-turns
returns-clause-turns g c = (searches g c).turns

pub returns-clause-hints : goal.returns-clause-hints
returns-clause-hints g c = (searches g c).hints

pub returns-clause-keeps : goal.returns-clause-keeps
returns-clause-keeps g c = let k = c.take_counted.ensures in let u = c.give_turn.ensures in keeps_latched c.partition-partition.ensures.value c.requires.ready.stands k.seat k.work k.grows k.turned c.pin_mapped-pinned.ensures.keeps u.seat u.work u.grows u.turned
