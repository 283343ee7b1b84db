use Rattle.std.proofs.Common.{◌+◌, ◌*◌, ℕ, eqb, arith, ap, ap₂, sym, ◌∙◌}
use Rattle.page_layout.specs.Fields.{pointer_at}
use Rattle.page_layout.proofs.Pointers.{pointer_normal, pointer_redirect, pointer_unused}
use Rattle.page_layout.proofs.page.Page.new_pointer.Goals as goal

pub returns-in-1 : goal.returns-in-1
returns-in-1 c =
    let state = sym c.item_at-item.ensures.state ∙ c.in-1.is in
    let offset = c.requires.offset (ap (λ (s : ℕ). eqb s 1) state) in
    ap₂ (λ (o l : ℕ). o + 32768 + l * 131072) (c.from.ensures ∙ offset) (c.from-in-1.ensures ∙ c.item_at-item.ensures.length)
    ∙ sym (pointer_normal c.args.self.now c.args.place state)

pub returns-in-2 : goal.returns-in-2
returns-in-2 c =
    c.pointer.ensures ∙ ap (pointer_at c.args.self.now) c.from-in-2.ensures
    ∙ sym (pointer_redirect c.args.self.now c.args.place (sym c.item_at-item.ensures.state ∙ c.in-2.is))

pub returns-in_default : goal.returns-in_default
returns-in_default c =
    let state = c.item_at-item.ensures.state in
    let is = c.in_default in
    sym (pointer_unused c.args.self.now c.args.place (omega arith) (omega arith))
