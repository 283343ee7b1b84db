use Rattle.std.proofs.Common.{◌≡◌, ◌+◌, ◌-◌, ℕ, ◌∙◌, ap, arith}
use Rattle.page_layout.specs.Fields.{item_of, pointer_at}
use Rattle.page_layout.proofs.Counts.{counts_of-first_items_more}
use Rattle.page_layout.proofs.page.Page.pointer_counts.Goals as goal

pub loop-place-preserved : goal.loop-place-preserved
loop-place-preserved c =
    let place = c.loop-place.place in
    let before : place + 1 - 1 ≡ place = omega arith in
    let item = c.item.ensures.is ∙ ap (λ (k : ℕ). item_of (pointer_at c.args.self.now k)) before in
    let more = counts_of-first_items_more c.args.self.now place in
    record {
      counts = cc (item, more, c.count.ensures.counted, c.loop-place.invariant.counts);
      total = omega arith;
    }
