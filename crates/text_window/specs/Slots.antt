-- Slots for texts.
use Rattle.std.specs.Prelude.{ℕ, Bool, true, false, List, Option, Some, None, map}
use Rattle.text_window.specs.declared.waiting.TextSlot.{TextSlot}

-- the text, if it has come
abbrev pub text_if : Bool → List ℕ → Option (List ℕ)
text_if true text = Some text
text_if false text = None

-- the texts that have come, slot by slot
abbrev pub texts_in : List TextSlot → List (Option (List ℕ))
texts_in slots = map (λ (s : TextSlot). text_if s.full s.text.items) slots
