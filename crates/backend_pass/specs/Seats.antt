-- The seat of a pass, in its badge and out of it.
use Rattle.std.specs.Prelude.{◌≡◌, [], ◌∷◌}
use Rattle.atomic_table.specs.declared.badge.Badge.{Badge}
use Rattle.atomic_table.specs.declared.shared.Seat.{Seat}
use Rattle.pin_core.specs.declared.view.View.{View}
use Rattle.backend_pass.specs.Passes.{view_in}

-- The seat is that of the badge, whose one view it has, and has no slot
pub record IsSeatOf {S : Type 0} (b : Badge View) (s : Seat S View) : Type 0 where
  pub table : s.table_id ≡ b.table_id
  pub id : s.id ≡ b.id
  pub one : b.views ≡ view_in b.views ∷ []
  pub view : view_in b.views ≡ s.me.0
  pub hand : s.me.1 ≡ []
