use Rattle.std.proofs.Common.{◌∙◌, [], ◌∷◌, ap, sym}
use Rattle.pin_core.specs.declared.view.View.{View}
use Rattle.backend_pass.specs.Passes.{view_in}
use Rattle.backend_pass.proofs.seats.return_seat.Goals as goal

pub returns : goal.returns
returns g c = record {
  table = sym c.into_badge.ensures.0;
  id = sym c.into_badge.ensures.1;
  one = c.into_badge.ensures.2 ∙ ap (λ (x : View). x ∷ []) (sym (ap view_in c.into_badge.ensures.2));
  view = ap view_in c.into_badge.ensures.2;
  hand = c.requires;
}
