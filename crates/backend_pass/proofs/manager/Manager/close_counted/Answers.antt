use Rattle.std.proofs.Common.{◌∙◌, List, sym, ap, subst, arith}
use Rattle.std.proofs.lemmas.List.{with_items_is}
use Rattle.io_counts.specs.Sums.{AreAllSmall, io_shown}
use Rattle.table_rule.specs.Shows.{devices}
use Rattle.backend_pass.specs.Closing.{ClosesAll}
use Rattle.backend_pass.specs.Managers.{AreAll}
use Rattle.backend_pass.specs.Passes.{PassState}
use Rattle.backend_pass.proofs.SummingUp.{SumsUp, all_published, all_summed, none_took, small_so_far, sums_more, sums_none, table_of_next}
use Rattle.backend_pass.proofs.Told.{all_told, but_told, closes_published}
use Rattle.backend_pass.proofs.manager.Manager.close_counted.Goals as goal

pub loop-pass-init : goal.loop-pass-init
loop-pass-init g c = let ps = c.args.passes.items in
    subst (λ (qs : List PassState). SumsUp 0 ps qs c.none-io.result) (sym c.deref_mut-pass-items.ensures.value)
    (subst (SumsUp 0 ps ps) (sym c.none-io.ensures) (sums_none ps))

pub sum_up-requires-clause-table : goal.sum_up-requires-clause-table
sum_up-requires-clause-table g c = table_of_next _ c.loop-pass.pass-index c.args.passes.items c.loop-pass.pass-items _ c.loop-pass.io (omega arith) c.requires.all.spent c.loop-pass.invariant

pub sum_up-requires-clause-small : goal.sum_up-requires-clause-small
sum_up-requires-clause-small g c = let long = c.args.passes.ok.0 in let few = c.requires.few in
    small_so_far c.loop-pass.pass-index c.args.passes.items c.loop-pass.pass-items c.loop-pass.io (omega arith) (omega arith) c.loop-pass.invariant

pub loop-pass-preserved : goal.loop-pass-preserved
loop-pass-preserved g c = let e = c.sum_up.ensures in
    sums_more c.loop-pass.pass-index c.args.passes.items c.loop-pass.pass-items _ c.sum_up.new.self c.loop-pass.io c.sum_up.new.io _ (omega arith) (ap but_told e.new) (ap (λ (p : PassState). p.view) e.new) e.published e.sum e.within e.taken c.loop-pass.invariant

pub close-lanes-requires : goal.close-lanes-requires
close-lanes-requires g c = let long = c.args.passes.ok.0 in
    subst (AreAll {L = g.row.L.Denot} {G = g.row.G.Denot} c.args.self) (sym (with_items_is c.args.passes c.loop-pass.pass-items (omega arith)))
    (all_told {L = g.row.L.Denot} {G = g.row.G.Denot} c.args.self c.args.passes.items c.loop-pass.pass-items c.loop-pass.invariant.same c.requires.all)

pub returns-clause-published : goal.returns-clause-published
returns-clause-published g c = let i = c.loop-pass.invariant in let long = c.args.passes.ok.0 in
    closes_published c.args.passes.items c.loop-pass.pass-items i.same _ _ _ _ (all_published c.loop-pass.pass-index c.args.passes.items c.loop-pass.pass-items c.loop-pass.io (omega arith) i) i.least
    (subst (λ (qs : List PassState). ClosesAll {L = g.row.L.Denot} {G = g.row.G.Denot} (devices g.L.BlockLane g.G.LogDevice) c.args.self.table.table.shared.key qs c.close-lanes.result.0.items c.close-lanes.result.1) (with_items_is c.args.passes c.loop-pass.pass-items (omega arith)) c.close-lanes.ensures)

pub returns-clause-closes : goal.returns-clause-closes
returns-clause-closes g c = (returns-clause-published g c).0

pub returns-clause-counts : goal.returns-clause-counts
returns-clause-counts g c = c.shown.ensures ∙ ap io_shown (all_summed c.loop-pass.pass-index c.args.passes.items c.loop-pass.pass-items c.loop-pass.io (omega arith) c.loop-pass.invariant)

pub returns-clause-small : goal.returns-clause-small
returns-clause-small g c = let long = c.args.passes.ok.0 in let few = c.requires.few in
    subst AreAllSmall (all_summed c.loop-pass.pass-index c.args.passes.items c.loop-pass.pass-items c.loop-pass.io (omega arith) c.loop-pass.invariant) (small_so_far c.loop-pass.pass-index c.args.passes.items c.loop-pass.pass-items c.loop-pass.io (omega arith) (omega arith) c.loop-pass.invariant)

pub returns-clause-taken : goal.returns-clause-taken
returns-clause-taken g c = none_took c.loop-pass.pass-index c.args.passes.items c.loop-pass.pass-items c.loop-pass.io (omega arith) c.loop-pass.invariant
