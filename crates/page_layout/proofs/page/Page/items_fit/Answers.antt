use Rattle.std.proofs.Common.{◌≡◌, ◌&&◌, ◌||◌, ℕ, Bool, not, ltb, true, false, arith, ap, ap₂, sym, ◌∙◌, add-one}
use Rattle.std.specs.List.{range_with_len}
use Rattle.page_layout.specs.Fields.{item_count}
use Rattle.page_layout.specs.Rewritten.{is_outside, room_at, room_of_items}
use Rattle.page_layout.proofs.Compactable.{any_more, any_range, fit_is}
use Rattle.page_layout.proofs.Keys.{sum_range_more}
use Rattle.page_layout.proofs.Sound.{sound_fits}
use Rattle.page_layout.proofs.page.Page.items_fit.Goals as goal

pub is_outside-requires : goal.is_outside-requires
is_outside-requires c =
    let fits = sound_fits c.args.self.now c.requires.sound in
    record { within = omega arith; upper_is = c.requires.upper_is; special_is = c.requires.special_is }

pub room_at-requires : goal.room_at-requires
room_at-requires c = let fits = sound_fits c.args.self.now c.requires.sound in record { within = omega arith }

pub loop-place-preserved : goal.loop-place-preserved
loop-place-preserved c =
    let page = c.args.self.now in
    let place = c.loop-place.place in
    let inside : is_outside page place ≡ false = sym c.is_outside.ensures ∙ c.if-is_outside.false in
    let sum = ap (λ (n : ℕ). Rattle.std.specs.List.sum_by (room_at page) (range_with_len 0 n)) (add-one place) ∙ sum_range_more (room_at page) place in
    let own = c.room_at.ensures.is in
    let short = c.room_at.ensures.short in
    let before = c.loop-place.invariant.room in
    let few = c.loop-place.invariant.few in
    let from = c.from-room.ensures in
    record {
      inside = any_more (is_outside page) place ∙ ap₂ (λ (a b : Bool). a || b) c.loop-place.invariant.inside inside;
      room = omega arith;
      few = omega arith;
    }

pub returns-then-is_outside : goal.returns-then-is_outside
returns-then-is_outside c =
    let page = c.args.self.now in
    let place = c.loop-place.place in
    let out : is_outside page place ≡ true = sym c.is_outside.ensures ∙ c.if-is_outside.true in
    sym (ap (λ (b : Bool). not b && not (ltb c.args.space (room_of_items page))) (any_range (is_outside page) (item_count page) place (omega arith) out))

pub returns : goal.returns
returns c = fit_is c.args.self.now c.loop-place.place c.loop-place.room c.args.space c.from.result (omega arith) c.loop-place.invariant.inside c.loop-place.invariant.room c.from.ensures
