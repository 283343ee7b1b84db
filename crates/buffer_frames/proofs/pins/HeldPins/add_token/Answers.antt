use Rattle.std.proofs.Common.{◌≢◌, ◌+◌, ◌<◌, ◌∙◌, None, ap, sym, subst, refl, arith}
use Rattle.buffer_frames.specs.Tokens.{StandsAt, Tokens, count_of, held_at, held_in, tokens_less, tokens_more, tokens_of}
use Rattle.buffer_frames.proofs.HeldLists.{blocks_set, counts_more, held_standing, less_more, more_several, more_standing, tokens_le}
use Rattle.buffer_frames.proofs.pins.HeldPins.add_token.Goals as goal

pub overflow_add-index_mut : goal.overflow_add-index_mut
overflow_add-index_mut c =
    let stands = subst (StandsAt c.args.frame c.in-Some.place) c.deref.ensures.value c.in-Some.ensures.found in
    let held = ap tokens_of (held_standing c.self.inside.pins.items c.args.frame c.in-Some.place c.index_mut.result.now stands c.index_mut.ensures.value) in
    let few = tokens_le (held_in c.self.inside.pins.items) c.args.frame in
    let i = c.self.invariant in omega arith

pub invariant_of-self : goal.invariant_of-self
invariant_of-self c =
    let stands = subst (StandsAt c.args.frame c.in-Some.place) c.deref.ensures.value c.in-Some.ensures.found in
    let i = c.self.invariant in
    let room = c.requires.room in
    let seen = ap count_of c.self.view_is in
    let shows = more_standing c.self.inside.pins.items c.args.frame c.in-Some.place (c.index_mut.result.now.tokens + 1) c.index_mut.result.now stands c.index_mut.ensures.value refl in
    let counts = counts_more c.self.inside.count c.args.frame (held_in c.self.inside.pins.items) _ shows
    (subst (λ (t : Tokens). held_at t c.args.frame ≢ None) (sym c.self.view_is) c.requires.pinned) record { counts = i.0; counted = i.2 } in
    (counts.counts, omega arith, counts.counted, blocks_set c.self.inside.pins.items c.in-Some.place _ c.index_mut.result.now c.index_mut.ensures.value i.3, omega arith, i.5)

pub returns-clause-tokens : goal.returns-clause-tokens
returns-clause-tokens c =
    let stands = subst (StandsAt c.args.frame c.in-Some.place) c.deref.ensures.value c.in-Some.ensures.found in
    more_standing c.self.inside.pins.items c.args.frame c.in-Some.place _ c.index_mut.result.now stands c.index_mut.ensures.value refl ∙ ap (tokens_more c.args.frame) c.self.view_is

pub returns-clause-back : goal.returns-clause-back
returns-clause-back c =
    let held = held_in c.self.inside.pins.items in
    ap (tokens_less c.args.frame) (returns-clause-tokens c) ∙ ap (λ (t : Tokens). tokens_less c.args.frame (tokens_more c.args.frame t)) (sym c.self.view_is)
    ∙ less_more held c.args.frame c.self.invariant.2 (subst (λ (t : Tokens). held_at t c.args.frame ≢ None) (sym c.self.view_is) c.requires.pinned) ∙ c.self.view_is

pub returns-clause-several : goal.returns-clause-several
returns-clause-several c =
    let held = held_in c.self.inside.pins.items in
    subst (λ (t : Tokens). 1 < tokens_of (held_at t c.args.frame)) (sym (returns-clause-tokens c ∙ ap (tokens_more c.args.frame) (sym c.self.view_is)))
    (more_several held c.args.frame c.self.invariant.2 (subst (λ (t : Tokens). held_at t c.args.frame ≢ None) (sym c.self.view_is) c.requires.pinned))
