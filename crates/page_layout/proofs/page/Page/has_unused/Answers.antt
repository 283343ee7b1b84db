use Rattle.std.proofs.Common.{◌≡◌, ◌||◌, ℕ, Bool, true, false, not, arith, ap, ap₂, sym, ◌∙◌}
use Rattle.std.specs.List.{list_any, range_with_len}
use Rattle.page_layout.specs.Rewritten.{stays}
use Rattle.page_layout.proofs.Compactable.{place_fits, any_more, any_range}
use Rattle.page_layout.proofs.page.Page.has_unused.Goals as goal

pub stays-requires : goal.stays-requires
stays-requires c = place_fits c.args.self.now c.loop-place.place c.requires.compactable (let w = c.requires.within in omega arith)

pub loop-place-preserved : goal.loop-place-preserved
loop-place-preserved c =
    let page = c.args.self.now in
    let p = λ (k : ℕ). not (stays page k) in
    let stay : p c.loop-place.place ≡ false = ap not (sym c.stays.ensures ∙ c.if-not-stays.false) in
    any_more p c.loop-place.place ∙ ap₂ (λ (a b : Bool). a || b) c.loop-place.invariant stay

pub returns-then-not-stays : goal.returns-then-not-stays
returns-then-not-stays c =
    let page = c.args.self.now in
    let p = λ (k : ℕ). not (stays page k) in
    let cut : p c.loop-place.place ≡ true = ap not (sym c.stays.ensures ∙ c.if-not-stays.true) in
    sym (any_range p c.args.left c.loop-place.place (omega arith) cut)

pub returns : goal.returns
returns c =
    let page = c.args.self.now in
    let all : c.loop-place.place ≡ c.args.left = omega arith in
    sym (ap (λ (n : ℕ). list_any (λ (k : ℕ). not (stays page k)) (range_with_len 0 n)) (sym all) ∙ c.loop-place.invariant)
