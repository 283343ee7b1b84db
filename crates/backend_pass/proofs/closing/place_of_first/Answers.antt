use Rattle.std.proofs.Common.{◌∙◌, sym, ap, subst, add-one, arith}
use Rattle.pin_core.specs.declared.view.View.{View}
use Rattle.backend_pass.specs.Managers.{AreOthers, is_first}
use Rattle.backend_pass.proofs.Joining.{first_none, others_more, take_whole}
use Rattle.backend_pass.proofs.closing.place_of_first.Goals as goal

pub loop-place-preserved : goal.loop-place-preserved
loop-place-preserved c = rw add-one (others_more c.args.passes.now c.loop-place.place c.index-passes-place.result c.loop-place-test.true
    (ap is_first (sym c.index-passes-place.is) ∙ sym c.is_first.ensures ∙ c.if-is_first.false) c.loop-place.invariant)

pub unreachable-requires : goal.unreachable-requires
unreachable-requires c =
    let none = ap (λ (v : View). v.next) (first_none c.args.passes.now (subst AreOthers (take_whole c.args.passes.now c.loop-place.place c.loop-place-test.false) c.loop-place.invariant)) in
    let some = c.requires in omega arith
