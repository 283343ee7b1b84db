use Rattle.std.proofs.Common.{◌≡◌, ◌-◌, length, drop, arith, ap, ◌∙◌}
use Rattle.std.proofs.lemmas.List.{length-drop, length-take-le}
use Rattle.page_layout.proofs.Bytes.{zeros_written}
use Rattle.page_layout.proofs.page.Page.clear.Goals as goal

pub returns : goal.returns
returns c =
    let bytes = c.as_mut_slice-bytes.result.now in
    let view = c.as_mut_slice-bytes.ensures.value ∙ c.deref_mut.ensures.value in
    let size : length bytes ≡ 8192 = ap length view ∙ c.self.invariant in
    let from = c.from.ensures in
    let to = c.from-2.ensures in
    let back = length-drop c.from.result bytes in
    let part = length-take-le (c.from-2.result - c.from.result) (drop c.from.result bytes) (omega arith) in
    λ k. zeros_written _ c.args.from c.args.to _ k _ bytes c.args.self.now _ from (omega arith) (omega arith) (view ∙ c.self.view_is) (c.fill.ensures.after (λ y h. h)) part
