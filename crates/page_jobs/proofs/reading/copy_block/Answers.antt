use Rattle.std.proofs.Common.{◌∙◌}
use Rattle.std.proofs.lemmas.Result.{err_from_is_err_and}
use Rattle.io_counts.proofs.Found.{found_same}
use Rattle.page_jobs.proofs.Blocks.{copied_block}
use Rattle.page_jobs.proofs.reading.copy_block.Goals as goal

pub returns-clause-copied : goal.returns-clause-copied
returns-clause-copied g c =
    let r = c.read_page-place.ensures in
    let x = c.release.ensures in
    copied_block {L = g.row.L.Denot} {G = g.row.G.Denot} g.L.BlockLane.contents c.args.manager.now c.args.tag c.read_page-place.new.page c.read_page-place.result c.in_ok-pinned.pinned c.args.pass.now c.pin_with_retries.new.pass c.read_page-place.new.self c.release.new.self
    c.in_ok-pinned.ensures.pinned x.belongs r.same x.same r.mark x.mark r.locks x.locks r.tokens x.tokens r.devices x.devices r.reads x.calls

pub returns-clause-found : goal.returns-clause-found
returns-clause-found g c = found_same 1 c.args.pass.now.io c.pin_with_retries.new.pass.io c.release.new.self.io c.in_ok-pinned.ensures.found (c.release.ensures.devices.io ∙ c.read_page-place.ensures.devices.io)

pub returns-in_err-pinned-clause-found : goal.returns-in_err-pinned-clause-found
returns-in_err-pinned-clause-found g c =
    let p = err_from_is_err_and c.from_residual.result c.from_residual.ensures.1 in
    rw (p.1, p.2) c.in_err-pinned.ensures.found
