use Rattle.std.proofs.Common.{◌∙◌}
use Rattle.std.proofs.lemmas.Result.{err_from_is_err_and}
use Rattle.backend_pass.proofs.Keeping.{calls_on}
use Rattle.page_jobs.proofs.BlockRewrites.{locks_one, refuses_after, tried}
use Rattle.page_jobs.proofs.rewriting.lock_block.Goals as goal

pub returns-in_err-pinned-clause-refused : goal.returns-in_err-pinned-clause-refused
returns-in_err-pinned-clause-refused g c =
    let p = err_from_is_err_and c.from_residual.result c.from_residual.ensures.1 in
    let i = c.loop.invariant in
    rw (p.1, p.2)
    (refuses_after {L = g.row.L.Denot} {G = g.row.G.Denot} g.L.BlockLane.contents c.args.manager.now c.args.tag c.args.pass.now c.loop.pass c.pin_with_retries.new.pass c.in_err-pinned.field-0.0 i.stays i.calls i.met c.in_err-pinned.ensures.refused)

pub returns-in-Ok-clause-locked : goal.returns-in-Ok-clause-locked
returns-in-Ok-clause-locked g c =
    let i = c.loop.invariant in
    let x = c.in-Ok.ensures in
    locks_one {L = g.row.L.Denot} {G = g.row.G.Denot} g.L.BlockLane.contents c.args.manager.now c.args.tag c.in_ok-pinned.pinned c.in-Ok.exclusive c.args.pass.now c.loop.pass c.pin_with_retries.new.pass c.lock_cleanup.new.self i.stays i.calls i.met c.in_ok-pinned.ensures.pinned
    (record { belongs = x.belongs; same = x.same; calls = x.calls; met = x.devices.met }) x.mark x.tokens x.token x.lock x.granted x.tagged

pub loop-preserved : goal.loop-preserved
loop-preserved g c =
    let i = c.loop.invariant in
    let x = c.in-Err.ensures in
    let y = c.release.ensures in
    let one = c.in_ok-pinned.ensures.pinned in
    let t = tried {L = g.row.L.Denot} {G = g.row.G.Denot} g.L.BlockLane.contents c.args.manager.now c.args.tag c.in_ok-pinned.pinned c.in-Err.field-0.pinned c.args.pass.now c.loop.pass c.pin_with_retries.new.pass c.lock_cleanup.new.self i.stays one
    (record { belongs = x.belongs; same = x.same; calls = x.calls; met = x.devices.met }) x.mark x.kept x.tokens x.back
    c.release.new.self (record { belongs = y.belongs; same = y.same; calls = y.calls; met = y.devices.met }) y.mark y.locks y.tokens in
    record {
      stays = t.0;
      spent = t.1;
      calls = calls_on c.args.pass.now c.loop.pass c.release.new.self i.calls (calls_on c.loop.pass c.pin_with_retries.new.pass c.release.new.self one.calls (calls_on c.pin_with_retries.new.pass c.lock_cleanup.new.self c.release.new.self x.calls y.calls));
      met = y.devices.met ∙ x.devices.met ∙ one.met ∙ i.met;
    }
