use Rattle.std.specs.Prelude.{◌≡◌, None, replicate}
use Rattle.text_window.specs.Slots.{texts_in}
use Rattle.text_window.proofs.waiting.Waiting.build.Given as goal

abbrev pub invariant-loop : goal.invariant-loop
invariant-loop l = record { room : l.slots.cap ≡ l.width; so_far : l.slots.len ≡ l.counter; none : texts_in l.slots.items ≡ replicate l.counter None }
