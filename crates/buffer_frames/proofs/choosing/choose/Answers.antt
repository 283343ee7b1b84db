use Rattle.std.proofs.Common.{ap, sym, ◌∙◌}
use Rattle.pin_core.specs.declared.view.View.{View}
use Rattle.buffer_frames.proofs.Bringing.{chooses_unpushed, leaves_unpushed}
use Rattle.buffer_frames.proofs.Heading.{has_no_victim, victim_pinned}
use Rattle.buffer_frames.proofs.Outside.{shape_keeping}
use Rattle.buffer_frames.proofs.Trying.{chosen_pin, chosen_ring}
use Rattle.buffer_frames.proofs.WorkSteps.{made_none}
use Rattle.buffer_frames.proofs.Keeps.{keeps_chosen, keeps_unchosen}
use Rattle.buffer_frames.proofs.choosing.choose.Goals as goal

pub returns-in-Ok-clause-ring : goal.returns-in-Ok-clause-ring
returns-in-Ok-clause-ring g c = shape_keeping _ _ _ _ c.in-Ok.ensures.kept

pub returns-in-Ok-clause-pinned : goal.returns-in-Ok-clause-pinned
returns-in-Ok-clause-pinned g c = let v = c.in-Ok.ensures in let p = c.victim_pin-pin.ensures in
    victim_pinned c.args._held.now c.in-Ok.held.frame c.into_frame-frame.result _ c.args.seat.now.me.0 c.victim.new.seat.me.0 c.into_frame-frame.ensures c.requires.ready.rests v.held v.absent c.victim_pin-pin.result.frame c.victim_pin-pin.new.seat.me.0 p.pin p.touches.others p.pinned

pub returns-in-Ok-clause-did : goal.returns-in-Ok-clause-did
returns-in-Ok-clause-did g c = let v = c.in-Ok.ensures in let p = c.victim_pin-pin.ensures in record {
  held = c.in-Ok.held;
  locked = c.victim.new.seat.me.0;
  chooses = v.did;
  frame = sym c.into_frame-frame.ensures ∙ sym p.pin;
  source = sym c.is_from_ring-from_ring.ensures;
  pinned = chosen_pin c.into_frame-frame.result c.victim_pin-pin.result.frame c.word-word.result c.in-Ok.held.word c.victim.new.seat.me.0 c.victim_pin-pin.new.seat.me.0 (sym p.pin) c.word-word.ensures p.did;
  ring = chosen_ring c.is_from_ring-from_ring.result c.in-Ok.held.from_ring c.victim_pin-pin.result.frame c.in-Ok.held.frame c.args.ring.now c.victim.new.ring c.is_from_ring-from_ring.ensures (p.pin ∙ c.into_frame-frame.ensures) v.kept;
  census = v.no_census;
  calls = made_none c.args.seat.now.me.0 c.victim_pin-pin.new.seat.me.0 (ap (λ (x : View). x.device_calls) p.touches.self ∙ ap (λ (x : View). x.device_calls) v.held.aside);
}

pub returns-in-Ok-clause-unpushed : goal.returns-in-Ok-clause-unpushed
returns-in-Ok-clause-unpushed g c = chooses_unpushed _ _ _ _ _ _ _ c.in-Ok.ensures.did

pub returns-in-Err-clause-unpushed : goal.returns-in-Err-clause-unpushed
returns-in-Err-clause-unpushed g c = leaves_unpushed _ _ _ _ _ c.in-Err.ensures.cause.free

pub returns-in-Ok-clause-keeps : goal.returns-in-Ok-clause-keeps
returns-in-Ok-clause-keeps g c = let v = c.in-Ok.ensures in let p = c.victim_pin-pin.ensures in keeps_chosen c.in-Ok.held.frame c.into_frame-frame.result _ c.requires.ready v.seat c.into_frame-frame.ensures v.held p.seat p.touches p.marks p.pinned

pub returns-in-Err-clause-keeps : goal.returns-in-Err-clause-keeps
returns-in-Err-clause-keeps g c = keeps_unchosen c.requires.ready c.in-Err.ensures.seat c.in-Err.ensures.left

pub victim_pin-pin-requires-clause-only : goal.victim_pin-pin-requires-clause-only
victim_pin-pin-requires-clause-only g c = let v = c.in-Ok.ensures in has_no_victim c.args._held.now c.in-Ok.held.frame c.into_frame-frame.result _ c.args.seat.now.me.0 c.victim.new.seat.me.0 c.into_frame-frame.ensures c.requires.ready.rests v.held v.absent
