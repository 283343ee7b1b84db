use Rattle.std.proofs.Common.{◌≡◌, ◌≢◌, ◌-◌, ◌<◌, ◌∙◌, ◌++◌, ℕ, None, List, length, take, drop, ap, sym, subst, refl, add-one, arith}
use Rattle.std.proofs.lemmas.List.{length-set}
use Rattle.buffer_frames.specs.declared.pins.HeldPin.{HeldPin}
use Rattle.buffer_frames.specs.Tokens.{AreOfBlocks, StandsAt, Tokens, held_at, held_in, tokens_less, tokens_of}
use Rattle.buffer_frames.proofs.HeldLists.{above_one, blocks_removed, blocks_set, counts_less, held_standing, length_le, less_standing, removed, several_same, still_held}
use Rattle.buffer_frames.proofs.pins.HeldPins.take_token.Goals as goal

pub overflow_sub-self : goal.overflow_sub-self
overflow_sub-self c =
    let stands = subst (StandsAt c.args.frame c.in-Some.place) c.deref.ensures.value c.in-Some.ensures.found in
    let i = c.self.invariant in
    let inside = stands.inside in
    let few = length_le c.self.inside.pins.items i.2 in
    let counts = i.0 in omega arith

pub invariant_of-self : goal.invariant_of-self
invariant_of-self c =
    let stands = subst (StandsAt c.args.frame c.in-Some.place) c.deref.ensures.value c.in-Some.ensures.found in
    let i = c.self.invariant in
    let h = c.index_mut.result.now in
    let several = several_same c.self.inside.pins.items c.in-Some.place c.index.result.now h c.index.ensures c.index_mut.ensures.value stands.inside c.if-index-gt1.true in
    let shows = less_standing c.self.inside.pins.items c.args.frame c.in-Some.place (h.tokens - 1) h stands c.index_mut.ensures.value refl (above_one _ several) in
    let counts = counts_less c.self.inside.count c.args.frame (held_in c.self.inside.pins.items) _ shows
    (subst (λ (t : Tokens). held_at t c.args.frame ≢ None) (sym c.self.view_is) c.requires.pinned) record { counts = i.0; counted = i.2 } in
    let few = length_le _ counts.counted in
    let same = length-set c.self.inside.pins.items c.in-Some.place (record h { tokens = h.tokens - 1 }) in
    let all : length c.self.inside.pins.items ≡ length c.deref.result.now = ap (λ (l : List HeldPin). length l) (sym c.deref.ensures.value) in
    let len : length c.deref.result.now ≡ c.self.inside.pins.len = c.deref.ensures.len in
    let some = counts.counts in
    (counts.counts, omega arith, counts.counted, blocks_set c.self.inside.pins.items c.in-Some.place _ h c.index_mut.ensures.value i.3, omega arith, i.5)

pub returns-then-index-gt1-clause-tokens : goal.returns-then-index-gt1-clause-tokens
returns-then-index-gt1-clause-tokens c =
    let stands = subst (StandsAt c.args.frame c.in-Some.place) c.deref.ensures.value c.in-Some.ensures.found in
    let several = several_same c.self.inside.pins.items c.in-Some.place c.index.result.now c.index_mut.result.now c.index.ensures c.index_mut.ensures.value stands.inside c.if-index-gt1.true in
    less_standing c.self.inside.pins.items c.args.frame c.in-Some.place _ c.index_mut.result.now stands c.index_mut.ensures.value refl (above_one _ several) ∙ ap (tokens_less c.args.frame) c.self.view_is

pub returns-then-index-gt1-clause-others : goal.returns-then-index-gt1-clause-others
returns-then-index-gt1-clause-others c =
    let stands = subst (StandsAt c.args.frame c.in-Some.place) c.deref.ensures.value c.in-Some.ensures.found in
    let several = several_same c.self.inside.pins.items c.in-Some.place c.index.result.now c.index_mut.result.now c.index.ensures c.index_mut.ensures.value stands.inside c.if-index-gt1.true in
    let shows = less_standing c.self.inside.pins.items c.args.frame c.in-Some.place _ c.index_mut.result.now stands c.index_mut.ensures.value refl (above_one _ several) in
    let here = ap tokens_of (held_standing c.self.inside.pins.items c.args.frame c.in-Some.place c.index_mut.result.now stands c.index_mut.ensures.value) in
    let some = subst (λ (t : Tokens). 1 < tokens_of (held_at t c.args.frame)) c.self.view_is (subst (λ (n : ℕ). 1 < n) (sym here) several) in (
      some,
      subst (λ (t : Tokens). held_at t c.args.frame ≢ None) (sym shows) (still_held (held_in c.self.inside.pins.items) c.args.frame (λ one. above_one _ several (sym here ∙ one))
          (subst (λ (t : Tokens). held_at t c.args.frame ≢ None) (sym c.self.view_is) c.requires.pinned)),
    )

pub invariant_of-self-2 : goal.invariant_of-self-2
invariant_of-self-2 c =
    let i = c.self.invariant in
    let r = removed c.self.inside.pins.items c.remove.new.self.items c.args.frame c.in-Some.place c.index.result.now c.remove.result
    (subst (StandsAt c.args.frame c.in-Some.place) c.deref.ensures.value c.in-Some.ensures.found) c.index.ensures c.remove.ensures.value c.if-index-gt1.false i.2 c.remove.ensures.by_index.2 in
    let counts = counts_less c.self.inside.count c.args.frame (held_in c.self.inside.pins.items) (held_in c.remove.new.self.items) r.shows
    (subst (λ (t : Tokens). held_at t c.args.frame ≢ None) (sym c.self.view_is) c.requires.pinned) record { counts = i.0; counted = i.2 } in
    let few = i.4 in
    let len = c.remove.ensures.len in
    let room = c.remove.ensures.capacity in
    (counts.counts, omega arith, counts.counted, subst AreOfBlocks (sym (c.remove.ensures.by_index.2 ∙ ap (λ (n : ℕ). take c.in-Some.place c.self.inside.pins.items ++ drop n c.self.inside.pins.items) (add-one c.in-Some.place))) (blocks_removed c.self.inside.pins.items c.in-Some.place i.3), omega arith, omega arith)

pub returns-clause-tokens : goal.returns-clause-tokens
returns-clause-tokens c =
    let r = removed c.self.inside.pins.items c.remove.new.self.items c.args.frame c.in-Some.place c.index.result.now c.remove.result
    (subst (StandsAt c.args.frame c.in-Some.place) c.deref.ensures.value c.in-Some.ensures.found) c.index.ensures c.remove.ensures.value c.if-index-gt1.false c.self.invariant.2 c.remove.ensures.by_index.2 in
    r.shows ∙ ap (tokens_less c.args.frame) c.self.view_is

pub returns-clause-last : goal.returns-clause-last
returns-clause-last c =
    let r = removed c.self.inside.pins.items c.remove.new.self.items c.args.frame c.in-Some.place c.index.result.now c.remove.result
    (subst (StandsAt c.args.frame c.in-Some.place) c.deref.ensures.value c.in-Some.ensures.found) c.index.ensures c.remove.ensures.value c.if-index-gt1.false c.self.invariant.2 c.remove.ensures.by_index.2 in
    (r.frame, subst (λ (t : Tokens). tokens_of (held_at t c.args.frame) ≡ 1) c.self.view_is r.one, r.none)
