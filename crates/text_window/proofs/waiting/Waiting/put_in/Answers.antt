use Rattle.std.proofs.Common.{Some, true, set, ◌∙◌}
use Rattle.std.proofs.lemmas.List.{map-set}
use Rattle.text_window.specs.Slots.{text_if}
use Rattle.text_window.specs.declared.waiting.TextSlot.{TextSlot}
use Rattle.text_window.proofs.waiting.Waiting.put_in.Goals as goal

pub returns-clause-put : goal.returns-clause-put
returns-clause-put c _ =
    map-set (λ (s : TextSlot). text_if s.full s.text.items) c.self.inside.slots.items c.args.ahead record { text = c.swap.new.x; full = true }
    ∙ (λ i. set (c.self.view_is i) c.args.ahead (Some (c.swap.ensures.x_after i).items))
