use Rattle.std.proofs.Common.{List, ℕ, Contains, ap, arith, length, subst, sym}
use Rattle.std.specs.List.Sorted.{IsStrictlyIncreasing}
use Rattle.block_lists.proofs.Ordered.{ordered_result, some_read}
use Rattle.block_lists.proofs.tags.ordered_tags.Goals as goal

pub unpacked_tags-requires : goal.unpacked_tags-requires
unpacked_tags-requires c =
    some_read c.args.tags.now c.as_slice.result.now c.in_ok-packed.ensures.read
    (λ n there. subst (λ (ns : List ℕ). Contains ns n) c.in_ok-packed.ensures.numbers (c.put_in_order.ensures.adds_none n (subst (λ (ns : List ℕ). Contains ns n) c.as_slice.ensures.value there)))

pub returns : goal.returns
returns c =
    ordered_result c.args.tags.now c.as_slice.result.now c.in_ok-packed.ensures.read
    (subst IsStrictlyIncreasing (sym c.as_slice.ensures.value) c.put_in_order.ensures.rises)
    (λ n there. subst (λ (ns : List ℕ). Contains ns n) (sym c.as_slice.ensures.value) (c.put_in_order.ensures.keeps n (subst (λ (ns : List ℕ). Contains ns n) (sym c.in_ok-packed.ensures.numbers) there)))
    (λ n there. subst (λ (ns : List ℕ). Contains ns n) c.in_ok-packed.ensures.numbers (c.put_in_order.ensures.adds_none n (subst (λ (ns : List ℕ). Contains ns n) c.as_slice.ensures.value there)))
    (omega (arith, c.put_in_order.ensures.few, ap (λ (ns : List ℕ). length ns) c.as_slice.ensures.value, ap (λ (ns : List ℕ). length ns) c.in_ok-packed.ensures.numbers))
    (λ v. v.items) c.unpacked_tags.result c.unpacked_tags.ensures.numbers c.unpacked_tags.ensures.read
