use Rattle.std.proofs.Common.{ℕ, refl, sym, ◌∙◌, subst, add-one, arith}
use Rattle.checkpointer.proofs.Stopping.{fails_later}
use Rattle.page_jobs.proofs.BesideWork.{beside_none}
use Rattle.relation_commands.specs.Rounds.{MadeRounds}
use Rattle.relation_commands.proofs.PassesBeside.{refuses_since, works_on}
use Rattle.relation_commands.proofs.beside.RoundsBeside.work.Goals as goal

pub returns-in-Err-clause-same : goal.returns-in-Err-clause-same
returns-in-Err-clause-same g c =
    let e = c.round.ensures in
    (works_on {L = g.row.L.Denot} {G = g.row.G.Denot} g.L.BlockLane.contents c.args.manager.now c.args.pass.now c.loop.pass c.round.new.pass c.loop.invariant.works e.belongs e.same e.callers e.mark).same

pub returns-in-Err-clause-callers : goal.returns-in-Err-clause-callers
returns-in-Err-clause-callers g c =
    let e = c.round.ensures in
    (works_on {L = g.row.L.Denot} {G = g.row.G.Denot} g.L.BlockLane.contents c.args.manager.now c.args.pass.now c.loop.pass c.round.new.pass c.loop.invariant.works e.belongs e.same e.callers e.mark).callers

pub returns-in-Err-clause-cause : goal.returns-in-Err-clause-cause
returns-in-Err-clause-cause g c =
    let i = c.loop.invariant in
    refuses_since {L = g.row.L.Denot} {G = g.row.G.Denot} g.L.BlockLane.contents c.args.manager.now.table c.args.pass.now c.loop.pass c.round.new.pass c.in-Err.why i.works.same.keeps.advances i.met c.in-Err.ensures.cause

pub returns-in-Err-clause-complete : goal.returns-in-Err-clause-complete
returns-in-Err-clause-complete g c n =
    let i = c.loop.invariant in
    c.in-Err.ensures.complete (fails_later {L = g.row.L.Denot} {G = g.row.G.Denot} g.L.BlockLane.contents c.args.manager.now.table c.args.pass.now c.loop.pass c.round.new.pass i.works.same.keeps.advances i.met n)

pub returns-in-Err-clause-works : goal.returns-in-Err-clause-works
returns-in-Err-clause-works g c =
    let i = c.loop.invariant in
    let count = i.count in
    record { made = c.loop.counter; pass = c.loop.pass; all = i.made; ends = (omega (arith, count), c.in-Err.ensures.rounds) }

pub loop-init : goal.loop-init
loop-init g c = record {
  works = beside_none {L = g.row.L.Denot} {G = g.row.G.Denot} g.L.BlockLane.contents c.args.manager.now c.args.pass.now c.requires.free.belongs;
  met = refl;
  count = refl;
  made = refl;
}

pub loop-preserved : goal.loop-preserved
loop-preserved g c =
    let e = c.round.ensures in
    let i = c.loop.invariant in
    record {
      works = works_on {L = g.row.L.Denot} {G = g.row.G.Denot} g.L.BlockLane.contents c.args.manager.now c.args.pass.now c.loop.pass c.round.new.pass i.works e.belongs e.same e.callers e.mark;
      met = c.in-Ok.ensures.met ∙ i.met;
      count = i.count;
      made = subst (λ (n : ℕ). MadeRounds {L = g.row.L.Denot} {G = g.row.G.Denot} g.L.BlockLane.contents c.args.manager.now n c.args.pass.now c.round.new.pass) (sym (add-one c.loop.counter)) (c.loop.pass, i.made, (_, c.in-Ok.ensures.rounds));
    }
