-- A seat over no step, and over steps one after another.
use Rattle.std.proofs.Common.{refl, ◌∙◌}
use Rattle.atomic_table.specs.declared.shared.Seat.{Seat}
use Rattle.pin_core.specs.declared.view.View.{View}
use Rattle.table_rule.specs.declared.value.Value.{Value}
use Rattle.frame_table.specs.Seats.{SameSeat}

pub same_seat_none : {L G : Type 0} (s : Seat (Value L G) View) → SameSeat s s
same_seat_none s = record { table = refl; id = refl; hand = refl }

pub same_seat_on : {L G : Type 0} (s s' s'' : Seat (Value L G) View) → SameSeat s s' → SameSeat s' s'' → SameSeat s s''
same_seat_on s s' s'' a b = record { table = b.table ∙ a.table; id = b.id ∙ a.id; hand = b.hand ∙ a.hand }
