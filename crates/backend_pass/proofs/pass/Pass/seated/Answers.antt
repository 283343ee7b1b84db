use Rattle.std.proofs.Common.{rules, sym, ap, subst}
use Rattle.pin_core.specs.declared.view.View.{View}
use Rattle.backend_pass.specs.Passes.{IsCounted, view_in}
use Rattle.backend_pass.proofs.Counted.{counted_fresh}
use Rattle.backend_pass.proofs.pass.Pass.seated.Goals as goal

pub invariant_of-result : goal.invariant_of-result
invariant_of-result g c = (
  search rules,
  search rules,
  search rules,
  search rules,
  search rules,
  subst (λ (v : View). IsCounted v 0 c.new.result) (sym (ap view_in c.into_badge.ensures.2)) (counted_fresh c.args.number c.args.seat.id c.args.base c.args.seat.me.0 c.new.result c.requires.fresh c.new.ensures),
)
