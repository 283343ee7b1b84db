use Rattle.std.proofs.Common.{◌≢◌, None, subst}
use Rattle.buffer_frames.specs.Tokens.{StandsAt, Tokens, held_at}
use Rattle.buffer_frames.proofs.HeldLists.{stands_held}
use Rattle.buffer_frames.proofs.pins.HeldPins.holds.Goals as goal

pub returns-in-Some-clause-held : goal.returns-in-Some-clause-held
returns-in-Some-clause-held c is = subst (λ (t : Tokens). held_at t c.args.frame ≢ None) c.self.view_is (stands_held c.self.inside.pins.items c.args.frame c.in-Some._place (subst (StandsAt c.args.frame c.in-Some._place) c.deref.ensures.value c.in-Some.ensures.found))
