use Rattle.std.proofs.Common.{◌≡◌, ◌∙◌, None, subst, sym, ap, refl, arith}
use Rattle.std.proofs.lemmas.List.{map-append}
use Rattle.buffer_frames.specs.declared.pins.HeldPin.{HeldPin}
use Rattle.buffer_frames.specs.Tokens.{AreOfBlocks, Tokens, count_of, held_at, held_in, held_of, tokens_less}
use Rattle.buffer_frames.proofs.HeldLists.{blocks_with, counts_with, less_with}
use Rattle.buffer_frames.proofs.pins.HeldPins.add_pin.Goals as goal

pub invariant_of-self : goal.invariant_of-self
invariant_of-self c =
    let h = c.push_reserved.ensures in
    let i = c.self.invariant in
    let pin : HeldPin = record { pin = c.args.pin; tag = c.args.tag; tokens = 1 } in
    let shows = ap held_in h.items ∙ map-append held_of c.self.inside.pins.items _ in
    let room = c.requires.room in
    let seen = ap count_of c.self.view_is in
    let counts = counts_with c.self.inside.count (held_in c.self.inside.pins.items) (held_in c.push_reserved.new.self.items) (held_of pin) shows refl
    (subst (λ (t : Tokens). held_at t c.args.pin.frame ≡ None) (sym c.self.view_is) c.requires.new) record { counts = i.0; counted = i.2 } in
    (counts.counts, omega arith, counts.counted, subst AreOfBlocks (sym h.items) (blocks_with c.self.inside.pins.items pin c.requires.tag i.3), omega arith, omega arith)

pub returns-clause-back : goal.returns-clause-back
returns-clause-back c =
    let pin : HeldPin = record { pin = c.args.pin; tag = c.args.tag; tokens = 1 } in
    let shows = ap held_in c.push_reserved.ensures.items ∙ map-append held_of c.self.inside.pins.items _ in
    ap (tokens_less c.args.pin.frame) shows
    ∙ less_with (held_in c.self.inside.pins.items) (held_of pin) c.args.pin.frame refl refl (subst (λ (t : Tokens). held_at t c.args.pin.frame ≡ None) (sym c.self.view_is) c.requires.new) ∙ c.self.view_is
