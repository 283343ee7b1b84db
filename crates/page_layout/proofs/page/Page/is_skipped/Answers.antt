use Rattle.std.proofs.Common.{arith, ap}
use Rattle.page_layout.specs.declared.page.Header.{Header}
use Rattle.page_layout.specs.Fields.{header_of}
use Rattle.page_layout.proofs.Compactable.{used_order}
use Rattle.page_layout.proofs.page.Page.is_skipped.Goals as goal

pub overflow_sub-header : goal.overflow_sub-header
unfolding header_of
overflow_sub-header c =
    let order = used_order c.args.self.now c.requires.sound c.requires.used in
    let lower = ap (λ (h : Header). h.lower) c.header-header.ensures in
    let special = ap (λ (h : Header). h.special) c.header-header.ensures in
    omega arith
