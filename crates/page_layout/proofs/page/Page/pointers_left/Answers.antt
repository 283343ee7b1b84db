use Rattle.std.proofs.Common.{◌≡◌, ◌+◌, Bool, cond, arith, ap, sym, ◌∙◌, rules}
use Rattle.page_layout.specs.Fields.{item_count}
use Rattle.page_layout.specs.Rewritten.{left_of_first, pointers_left}
use Rattle.page_layout.proofs.Compactable.{place_fits, left_more}
use Rattle.page_layout.proofs.page.Page.pointers_left.Goals as goal
use Rattle.page_layout.proofs.page.Page.pointers_left.Goals.{then-stays, else-stays}

pub loop-place-init : goal.loop-place-init
unfolding left_of_first
loop-place-init c = search rules

pub stays-requires : goal.stays-requires
stays-requires c = place_fits c.args.self.now c.loop-place.place c.requires (omega arith)

pub loop-place-preserved : goal.loop-place-preserved
loop-place-preserved c =
    let page = c.args.self.now in
    let place = c.loop-place.place in
    let more = left_more page place in
    let before = c.loop-place.invariant.left in
    let within = c.loop-place.invariant.within in
    elim c.if-stays.branch [
      | then-stays w ↦
          let is = w.left-is in
          record {
            left = is ∙ sym (more ∙ ap (λ (b : Bool). cond b (place + 1) (left_of_first page place)) (sym c.stays.ensures ∙ w.if-stays.true));
            within = omega arith;
          }
      | else-stays w ↦
          let is = w.left-is in
          record {
            left = is ∙ before ∙ sym (more ∙ ap (λ (b : Bool). cond b (place + 1) (left_of_first page place)) (sym c.stays.ensures ∙ w.if-stays.false));
            within = omega arith;
          }
    ]

pub returns : goal.returns
unfolding pointers_left
returns c =
    let all : c.loop-place.place ≡ item_count c.args.self.now = omega arith in
    c.loop-place.invariant.left ∙ ap (left_of_first c.args.self.now) all
