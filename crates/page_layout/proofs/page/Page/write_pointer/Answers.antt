use Rattle.std.proofs.Common.{◌≡◌, ◌+◌, ◌-◌, ◌*◌, length, drop, refl, arith, ap, ◌∙◌}
use Rattle.std.proofs.lemmas.List.{length-drop, length-take-le}
use Rattle.page_layout.proofs.Bytes.{four_written}
use Rattle.page_layout.proofs.page.Page.write_pointer.Goals as goal

pub returns : goal.returns
returns c =
    let bytes = c.as_mut_slice-bytes.result.now in
    let view = c.as_mut_slice-bytes.ensures.value ∙ c.deref_mut.ensures.value in
    let size : length bytes ≡ 8192 = ap length view ∙ c.self.invariant in
    let at = 24 + 4 * c.args.place in
    let back = length-drop at bytes in
    let part = length-take-le (at + 4 - at) (drop at bytes) (let w = c.requires in omega arith) in
    let kept = c.write_u32.auto.buf in
    λ k. four_written _ at (28 + 4 * c.args.place) _ k c.args.bits bytes c.args.self.now _ _ (omega arith) refl (omega arith) (let w = c.requires in omega arith) (view ∙ c.self.view_is) (kept ∙ part) c.write_u32.ensures
