use Rattle.std.proofs.Common.{◌∙◌, ap, subst, sym}
use Rattle.buffer_frames.specs.Tokens.{StandsAt, Tokens, held_at, tokens_of}
use Rattle.buffer_frames.proofs.HeldLists.{held_standing}
use Rattle.buffer_frames.proofs.pins.HeldPins.tokens.Goals as goal

pub returns-in-Some : goal.returns-in-Some
returns-in-Some c =
    let stands = subst (StandsAt c.args.frame c.in-Some.place) c.deref.ensures.value c.in-Some.ensures.found in
    let held = held_standing c.self.inside.pins.items c.args.frame c.in-Some.place c.index.result.now stands c.index.ensures in
    sym (ap (λ (t : Tokens). tokens_of (held_at t c.args.frame)) (sym c.self.view_is) ∙ ap tokens_of held)
