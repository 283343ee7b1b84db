use Rattle.std.proofs.Common.{◌≡◌, ◌+◌, ◌-◌, ◌*◌, ◌/◌, ◌%◌, ◌&&◌, ℕ, cond, leb, ltb, get_or, arith, ap, ◌∙◌}
use Rattle.std.specs.Int.{byte_at}
use Rattle.page_layout.specs.Rewritten.{new_pointer}
use Rattle.page_layout.proofs.Compactable.{count_fits, place_fits}
use Rattle.page_layout.proofs.Pointers.{pointers_none, pointers_step}
use Rattle.page_layout.proofs.page.Page.write_pointers.Goals as goal

pub bounds-offsets-from : goal.bounds-offsets-from
bounds-offsets-from c = let few = count_fits c.args.page.now c.requires.compactable in let w = c.requires.within in omega arith

pub new_pointer-bits-requires : goal.new_pointer-bits-requires
new_pointer-bits-requires c =
    let w = c.requires.within in
    record {
      within = place_fits c.args.page.now c.loop-place.place c.requires.compactable (omega arith);
      offset = λ normal. ap (λ (k : ℕ). get_or c.args.offsets.now k 0) c.from.ensures ∙ c.requires.offsets c.loop-place.place (omega arith) normal;
    }

pub write_pointer-requires : goal.write_pointer-requires
write_pointer-requires c =
    let w = c.requires.within in
    let fits = place_fits c.args.page.now c.loop-place.place c.requires.compactable (omega arith) in
    let is = c.from-in-loop-place.ensures in
    omega arith

pub loop-place-init : goal.loop-place-init
loop-place-init c = pointers_none (new_pointer c.args.page.now) c.args.self.now

pub loop-place-preserved : goal.loop-place-preserved
loop-place-preserved c =
    let place = c.loop-place.place in
    let bits = c.new_pointer-bits.result in
    let written : (k : ℕ) → get_or c.write_pointer.new.self k 0 ≡ cond (leb (24 + 4 * place) k && ltb k (28 + 4 * place)) (byte_at (k - (24 + 4 * place)) bits) (get_or c.loop-place.self k 0) =
    λ k. c.write_pointer.ensures k ∙ ap (λ (p : ℕ). cond (leb (24 + 4 * p) k && ltb k (28 + 4 * p)) (byte_at (k - (24 + 4 * p)) bits) (get_or c.loop-place.self k 0)) c.from-in-loop-place.ensures in
    pointers_step (new_pointer c.args.page.now) c.args.self.now c.loop-place.self c.write_pointer.new.self place bits c.new_pointer-bits.ensures c.loop-place.invariant written

pub returns : goal.returns
returns c =
    let all : c.loop-place.place ≡ c.args.left = omega arith in
    λ k. c.loop-place.invariant k ∙ ap (λ (n : ℕ). cond (leb 24 k && ltb k (24 + 4 * n)) (byte_at ((k - 24) % 4) (new_pointer c.args.page.now ((k - 24) / 4))) (get_or c.args.self.now k 0)) all
