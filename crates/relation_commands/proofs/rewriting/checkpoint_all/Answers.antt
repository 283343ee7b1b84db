use Rattle.std.proofs.Common.{◌≤◌, subst}
use Rattle.backend_pass.specs.Closing.{EachPass}
use Rattle.relation_commands.proofs.RewriteChecks.{checks_by_last, free_of_last, last_meets, swept_all, was_last}
use Rattle.relation_commands.proofs.rewriting.checkpoint_all.Goals as goal

pub checkpoint_past-end-requires-clause-belongs : goal.checkpoint_past-end-requires-clause-belongs
checkpoint_past-end-requires-clause-belongs g c =
    let last = c.take_last-last in
    (free_of_last {L = g.row.L.Denot} {G = g.row.G.Denot} g.L.BlockLane.contents c.args.manager.now c.args.passes.now.items c.args.passes.now.items last.new.self.items last.result last.result last.ensures.items last.ensures.items c.requires.free).belongs

pub checkpoint_past-end-requires-clause-unlocked : goal.checkpoint_past-end-requires-clause-unlocked
checkpoint_past-end-requires-clause-unlocked g c =
    let last = c.take_last-last in
    c.requires.unlocked last.result
    (was_last {L = g.row.L.Denot} {G = g.row.G.Denot} g.L.BlockLane.contents c.args.manager.now c.args.passes.now.items c.args.passes.now.items last.new.self.items last.result last.result last.ensures.items last.ensures.items)

pub returns-clause-passes : goal.returns-clause-passes
returns-clause-passes g c =
    let last = c.take_last-last in
    let end = c.checkpoint_past-end in
    checks_by_last {L = g.row.L.Denot} {G = g.row.G.Denot} g.L.BlockLane.contents c.args.manager.now c.args.passes.now.items c.push_reserved.new.self.items last.new.self.items last.result end.new.pass last.ensures.items c.push_reserved.ensures.items
    end.ensures.belongs end.ensures.callers

pub returns-clause-swept : goal.returns-clause-swept
returns-clause-swept g c =
    let last = c.take_last-last in
    let end = c.checkpoint_past-end in
    swept_all {L = g.row.L.Denot} {G = g.row.G.Denot} g.L.BlockLane.contents c.args.manager.now c.args.passes.now.items c.push_reserved.new.self.items last.new.self.items last.result end.new.pass last.ensures.items c.push_reserved.ensures.items
    end.result _ c.furthest_front-front.result (subst (EachPass (λ p. p.view.front ≤ c.furthest_front-front.result)) c.deref.ensures.value c.furthest_front-front.ensures) end.ensures.callers end.ensures.swept end.ensures.met

pub returns-clause-cause : goal.returns-clause-cause
returns-clause-cause g c =
    let last = c.take_last-last in
    let end = c.checkpoint_past-end in
    last_meets {L = g.row.L.Denot} {G = g.row.G.Denot} g.L.BlockLane.contents c.args.manager.now c.args.passes.now.items c.push_reserved.new.self.items last.new.self.items last.result end.new.pass last.ensures.items c.push_reserved.ensures.items
    end.result end.ensures.cause
