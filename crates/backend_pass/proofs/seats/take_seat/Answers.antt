use Rattle.std.proofs.Common.{◌∙◌, ap, sym}
use Rattle.atomic_table.specs.declared.badge.Badge.{Badge}
use Rattle.pin_core.specs.declared.view.View.{View}
use Rattle.backend_pass.specs.Passes.{view_in}
use Rattle.backend_pass.proofs.seats.take_seat.Goals as goal

pub returns : goal.returns
returns g c = record {
  table = c.into_seat.ensures.0 ∙ ap (λ (b : Badge View). b.table_id) c.replace.ensures.value;
  id = c.into_seat.ensures.1 ∙ ap (λ (b : Badge View). b.id) c.replace.ensures.value;
  one = c.requires;
  view = ap (λ (b : Badge View). view_in b.views) (sym c.replace.ensures.value) ∙ ap view_in c.into_seat.ensures.2;
  hand = c.into_seat.ensures.3;
}
