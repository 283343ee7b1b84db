use Rattle.std.proofs.Common.{Bool, ap, sym, ◌∙◌}
use Rattle.clock_sweep.specs.Choosing.{frame_at_place, ring_keeping}
use Rattle.clock_sweep.proofs.Keeping.{chooses_absent, chooses_gets, chooses_place, counts_length, counts_pinned, none_keeps}
use Rattle.clock_sweep.proofs.choice.victim.Goals as goal

pub returns-in-Err-clause-left : goal.returns-in-Err-clause-left
returns-in-Err-clause-left g c = none_keeps _ _ _ _ _ _ _ c.in-Err.ensures.cause c.requires.headless

pub returns-in-Err-clause-counted : goal.returns-in-Err-clause-counted
returns-in-Err-clause-counted g c = counts_length _ _ _ _ _ c.in-Err.ensures.cause.census

pub returns-in-Err-clause-pinned : goal.returns-in-Err-clause-pinned
returns-in-Err-clause-pinned g c = counts_pinned _ _ _ _ _ c.in-Err.ensures.cause.census

pub returns-in-Ok-clause-held : goal.returns-in-Ok-clause-held
returns-in-Ok-clause-held g c = chooses_gets _ _ _ _ _ _ _ c.in-Ok.ensures.did c.requires.headless

pub returns-in-Ok-clause-absent : goal.returns-in-Ok-clause-absent
returns-in-Ok-clause-absent g c = chooses_absent _ _ _ _ _ _ _ c.in-Ok.ensures.did (returns-in-Ok-clause-held g c)

pub returns-in-Ok-clause-stands : goal.returns-in-Ok-clause-stands
returns-in-Ok-clause-stands g c = λ ring. ap frame_at_place (c.keep_place.ensures ∙ ap (λ (b : Bool). ring_keeping b c.in-Ok.held.frame c.next_place-place.new.ring) ring) ∙ sym c.next_place-place.ensures.frame ∙ chooses_place _ _ _ _ _ _ _ c.in-Ok.ensures.did ring
