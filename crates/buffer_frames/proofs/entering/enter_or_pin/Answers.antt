use Rattle.std.proofs.Common.{ℕ, None, subst, ◌∙◌, refl}
use Rattle.block_tag.specs.Names.{packed_tag}
use Rattle.frame_table.specs.Seats.{frames_of}
use Rattle.map_partitions.specs.Hints.{StoresHint}
use Rattle.buffer_frames.specs.Bringing.{Brings}
use Rattle.buffer_frames.proofs.Keeping.{links_same}
use Rattle.buffer_frames.proofs.Calm.{none_if, pins_worked}
use Rattle.buffer_frames.proofs.Hints.{store_links, store_searched}
use Rattle.buffer_frames.proofs.Latching.{may_take_part, under_partition}
use Rattle.frame_table.proofs.Rising.{rises_none}
use Rattle.buffer_frames.proofs.Locating.{works_none}
use Rattle.buffer_frames.specs.VictimChoices.{FindsInUse, IsAssigned}
use Rattle.buffer_frames.proofs.WorkSteps.{made_none, within_on}
use Rattle.buffer_frames.specs.Outside.{searched_of}
use Rattle.buffer_frames.proofs.Outside.{grows_outside, links_worked, outside_worked, rises_counted}
use Rattle.buffer_frames.proofs.entering.enter_or_pin.Given.{Over}
use Rattle.buffer_frames.proofs.Keeps.{and_stored, keeps_latched}
use Rattle.buffer_frames.specs.Keeps.{Keeps}
use Rattle.buffer_frames.proofs.entering.enter_or_pin.Goals as goal

pub take_counted-requires-clause-free : goal.take_counted-requires-clause-free
take_counted-requires-clause-free g c = may_take_part _ c.requires.latches c.requires.stands.quiet

pub returns-in_err-pin-clause-rests : goal.returns-in_err-pin-clause-rests
returns-in_err-pin-clause-rests g c = none_if c.from_residual.result (links_same c.args.held.now c.enter_latched-entered.new.seat.me.0 c.give_turn.new.seat.me.0 (links_worked c.enter_latched-entered.new.seat.me.0 c.give_turn.new.seat.me.0 c.give_turn.ensures.work) c.in_err-pin.ensures.rests)

module _ (g : Over) (c : goal.After-store_hint g) where
  entered : Keeps searched_of None c.args.table.now c.args.seat.now c.give_turn.new.seat
  entered = let k = c.take_counted.ensures in let u = c.give_turn.ensures in keeps_latched c.partition-partition.ensures.value c.requires.stands k.seat k.work k.grows k.turned c.enter_latched-entered.ensures.keeps u.seat u.work u.grows u.turned

  stored : StoresHint (frames_of c.args.table.now) c.args.tag c.in_ok-pin.pin.frame c.give_turn.new.seat.me.0 c.store_hint.new.seat.me.0
  stored = subst (λ (f : ℕ). StoresHint (frames_of c.args.table.now) c.args.tag f c.give_turn.new.seat.me.0 c.store_hint.new.seat.me.0) c.frame.ensures c.store_hint.ensures.did

pub returns-clause-pinned : goal.returns-clause-pinned
returns-clause-pinned g c = pins_worked c.args.held.now (packed_tag c.args.tag) c.in_ok-pin.pin.frame c.enter_latched-entered.new.seat.me.0 c.store_hint.new.seat.me.0 (store_links _ _ _ _ _ (stored g c) ∙ (links_worked c.enter_latched-entered.new.seat.me.0 c.give_turn.new.seat.me.0 c.give_turn.ensures.work)) c.in_ok-pin.ensures.pinned

pub returns-clause-stored : goal.returns-clause-stored
returns-clause-stored g c = let k = c.take_counted.ensures in let u = c.give_turn.ensures in record {
  holds = c.requires.victim.role;
  brings = under_partition c.args.tag _ (λ a b. Brings c.args.tag c.args.ring c.args.victim.frame c.in_ok-pin.pin.frame a c.args.queue.now b c.enter_latched-entered.new.queue) _ _ _ _ c.partition-partition.ensures.value k.did c.in_ok-pin.ensures.brings u.did;
  pinned = c.give_turn.new.seat.me.0;
  since = (entered g c).rises;
  pins = pins_worked c.args.held.now (packed_tag c.args.tag) c.in_ok-pin.pin.frame c.enter_latched-entered.new.seat.me.0 c.give_turn.new.seat.me.0 (links_worked c.enter_latched-entered.new.seat.me.0 c.give_turn.new.seat.me.0 u.work) c.in_ok-pin.ensures.pinned;
  noted = c.store_hint.new.seat.me.0;
  stores = stored g c;
  same = store_searched _ _ _ _ _ (stored g c) ∙ (entered g c).same;
  calls = made_none c.store_hint.new.seat.me.0 c.store_hint.new.seat.me.0 refl;
  works = works_none c.in_ok-pin.pin.frame c.store_hint.new.seat.me.0;
}

pub returns-in_err-pin-clause-gave_up : goal.returns-in_err-pin-clause-gave_up
returns-in_err-pin-clause-gave_up g c = let k = c.take_counted.ensures in let u = c.give_turn.ensures in let e = c.enter_latched-entered in
    none_if c.from_residual.result (let gave = c.in_err-pin.ensures.gave_up in record {
      found = gave.0;
      given = e.new.seat.me.0;
      work = within_on (FindsInUse IsAssigned c.args.victim.frame) c.args.seat.now.me.0 c.take_counted.new.seat.me.0 gave.0 gave.0 (rises_counted c.partition-partition.result c.args.seat.now.me.0 c.take_counted.new.seat.me.0 k.work k.turned.2 k.turned.3 k.grows) gave.1 (rises_none gave.0);
      wakes = gave.2;
      until = grows_outside e.new.seat.me.0 c.give_turn.new.seat.me.0 u.grows (outside_worked e.new.seat.me.0 c.give_turn.new.seat.me.0 u.work u.turned.2 u.turned.3);
      same = (keeps_latched c.partition-partition.ensures.value c.requires.stands k.seat k.work k.grows k.turned e.ensures.keeps u.seat u.work u.grows u.turned).same;
    })

pub returns-in_err-pin-clause-unpushed : goal.returns-in_err-pin-clause-unpushed
returns-in_err-pin-clause-unpushed g c = none_if c.from_residual.result c.in_err-pin.ensures.unpushed

pub returns-in_err-pin-clause-keeps : goal.returns-in_err-pin-clause-keeps
returns-in_err-pin-clause-keeps g c = let k = c.take_counted.ensures in let u = c.give_turn.ensures in keeps_latched c.partition-partition.ensures.value c.requires.stands k.seat k.work k.grows k.turned c.enter_latched-entered.ensures.keeps u.seat u.work u.grows u.turned

pub returns-clause-keeps : goal.returns-clause-keeps
returns-clause-keeps g c = and_stored (entered g c) c.store_hint.ensures.seat (stored g c)
