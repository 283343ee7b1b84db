use Rattle.std.proofs.Common.{◌≡◌, ℕ, false, cond, ltb, get_or, arith, ap, refl, sym, ◌∙◌}
use Rattle.std.proofs.lemmas.Bool.Decides.{nat_tests}
use Rattle.page_layout.specs.declared.page.Page.{Page}
use Rattle.page_layout.specs.Fields.{item_count}
use Rattle.page_layout.specs.Rewritten.{is_normal, item_byte, new_upper}
use Rattle.page_layout.proofs.Apart.{padding_is_zero}
use Rattle.page_layout.proofs.Compactable.{count_fits, place_fits}
use Rattle.page_layout.proofs.Pointers.{items_none, items_start, items_step, put}
use Rattle.page_layout.proofs.page.Page.move_items.Goals as goal
use Rattle.page_layout.proofs.page.Page.move_items.Goals.{then-item-eq1, else-item-eq1}

pub item_at-item-requires : goal.item_at-item-requires
item_at-item-requires c = record { within = place_fits c.args.page.now c.loop-place.place c.requires.compactable (omega arith) }

pub loop-place-init : goal.loop-place-init
loop-place-init c = items_start c.args.page.now c.args.self.now c.requires.cleared

pub bounds-offsets-from : goal.bounds-offsets-from
bounds-offsets-from c = let few = count_fits c.args.page.now c.requires.compactable in let is = c.from.ensures in omega arith

pub take_bytes-requires : goal.take_bytes-requires
take_bytes-requires c =
    let e = c.item_at-item.ensures in
    let is = put c.args.page.now c.args.offsets.now c.loop-place.place _ _ _ _ c.requires.compactable c.requires.offsets (omega arith) c.from.ensures c.if-item-eq1.true e.state e.offset e.length in
    let room = is.room in
    record { to_within = omega arith; from_within = is.source }

pub loop-place-preserved : goal.loop-place-preserved
loop-place-preserved c =
    let page = c.args.page.now in
    let place = c.loop-place.place in
    let e = c.item_at-item.ensures in
    elim c.if-item-eq1.branch [
      | then-item-eq1 w ↦
          let is = put page c.args.offsets.now place _ _ _ _ c.requires.compactable c.requires.offsets (omega arith) w.from.ensures w.if-item-eq1.true e.state e.offset e.length in
          let padding = padding_is_zero page c.requires.compactable place _ _ _ _ is refl (omega arith) c.args.self.now c.loop-place.self w.take_bytes.new.self c.loop-place.invariant w.take_bytes.ensures in
          λ k. ap (λ (p : Page). get_or p k 0) w.self-is ∙ items_step page place _ _ _ _ is refl c.args.self.now c.loop-place.self w.take_bytes.new.self w.take_bytes.new.self c.loop-place.invariant w.take_bytes.ensures padding k
      | else-item-eq1 w ↦
          let state = e.state in
          let other : is_normal page place ≡ false = grind (arith, nat_tests) in
          λ k. ap (λ (p : Page). get_or p k 0) w.self-is ∙ c.loop-place.invariant k ∙ ap (λ (x : ℕ). cond (ltb k (new_upper page)) (get_or c.args.self.now k 0) x) (sym (items_none page k place other))
    ]

pub returns : goal.returns
returns c =
    let page = c.args.page.now in
    let all : c.loop-place.place ≡ item_count page = omega arith in
    λ k. c.loop-place.invariant k ∙ ap (λ (n : ℕ). cond (ltb k (new_upper page)) (get_or c.args.self.now k 0) (item_byte page k n)) all
