use Rattle.std.proofs.Common.{ℕ, arith, ap, ◌∙◌, rules}
use Rattle.arrayvec.specs.ArrayVec.{ArrayVec, array_vec_len}
use Rattle.page_layout.specs.Compact.{keys_of}
use Rattle.page_layout.proofs.Compactable.{place_fits, count_fits}
use Rattle.page_layout.proofs.Keys.{keys_push, keys_stay}
use Rattle.page_layout.proofs.page.Page.item_keys.Goals as goal
use Rattle.page_layout.proofs.page.Page.item_keys.Goals.{then-item-eq1, else-item-eq1}

pub item_at-item-requires : goal.item_at-item-requires
item_at-item-requires c = record { within = place_fits c.args.self.now c.loop-place.place c.requires (omega arith) }

pub loop-place-init : goal.loop-place-init
unfolding keys_of
loop-place-init c = search rules

pub push-requires : goal.push-requires
push-requires c =
    let few = count_fits c.args.self.now c.requires in
    let so_far = c.loop-place.invariant.few in
    (omega arith, omega arith)

pub loop-place-preserved : goal.loop-place-preserved
loop-place-preserved c =
    let page = c.args.self.now in
    let ensures = c.item_at-item.ensures in
    let before = c.loop-place.invariant.keys in
    let few = c.loop-place.invariant.few in
    elim c.if-item-eq1.branch [
      | then-item-eq1 w ↦
          let len = ap (λ (v : ArrayVec ℕ). array_vec_len v) w.keys-is in
          let one = w.push.ensures.len in
          record {
            keys = ap (λ (v : ArrayVec ℕ). v.items) w.keys-is ∙ keys_push page c.loop-place.place _ _ _ _ _ _ before w.push.ensures.items w.if-item-eq1.true ensures.state w.from.ensures ensures.offset w.from-then-item-eq1.ensures;
            few = omega arith;
          }
      | else-item-eq1 w ↦
          let len = ap (λ (v : ArrayVec ℕ). array_vec_len v) w.keys-is in
          record {
            keys = keys_stay page c.loop-place.place _ _ _ before (ap (λ (v : ArrayVec ℕ). v.items) w.keys-is) w.if-item-eq1.false ensures.state;
            few = omega arith;
          }
    ]
