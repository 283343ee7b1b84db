use Rattle.std.proofs.Common.{refl, sym, subst}
use Rattle.io_counts.specs.Additions.{additions, io_added, view_adding}
use Rattle.backend_pass.specs.Managers.{Belongs}
use Rattle.backend_pass.specs.Passes.{KeepsCallers, PassState}
use Rattle.backend_pass.proofs.Publishing.{belongs_told, callers_told, rises_adding}
use Rattle.backend_pass.proofs.pass.Pass.publish.Goals as goal

pub returns-clause-belongs : goal.returns-clause-belongs
returns-clause-belongs g c =
    let e = c.publish_at.ensures.new in
    let old = c.args.self.now in
    subst (λ (q : PassState). Belongs {L = g.row.L.Denot} {G = g.row.G.Denot} g.L.BlockLane.contents c.args.manager.now q) (sym e)
    (belongs_told old (record old { view = view_adding (additions (io_added old.view) old.io) old.view }) refl refl (rises_adding (additions (io_added old.view) old.io) old.view) {L = g.row.L.Denot} {G = g.row.G.Denot} g.L.BlockLane.contents c.args.manager.now c.requires.belongs)

pub returns-clause-callers : goal.returns-clause-callers
returns-clause-callers g c =
    let e = c.publish_at.ensures.new in
    let old = c.args.self.now in
    subst (KeepsCallers old) (sym e)
    (callers_told old (record old { view = view_adding (additions (io_added old.view) old.io) old.view }) refl refl (rises_adding (additions (io_added old.view) old.io) old.view))
