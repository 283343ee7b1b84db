use Rattle.std.proofs.Common.{ℕ, refl, sym, subst}
use Rattle.std.proofs.lemmas.Result.{err_from_is_err_and}
use Rattle.page_layout.specs.Scan.{IsWithin}
use Rattle.page_jobs.proofs.BlockWork.{block_done, block_short, block_stopped}
use Rattle.page_jobs.proofs.listing.ListerBlockTaskMutexWindow.work_block.Goals as goal

pub returns-in_err-found-clause-does : goal.returns-in_err-found-clause-does
returns-in_err-found-clause-does g c =
    let p = err_from_is_err_and c.from_residual.result c.from_residual.ensures.1 in
    rw (p.1, p.2) (
      refl {a = c.args.self.now.lines},
      refl {a = c.args.self.now.shares},
      block_stopped {L = g.row.L.Denot} {G = g.row.G.Denot} g.L.BlockLane.contents c.args.manager.now c.args.tag.rel.0 c.args.tag.fork c.args.self.now.lines c.args.tag.block c.args.pass.now c.copy_if_sound.new.pass c.args.self.now.printed.text.items c.args.self.now.printed.totals
          c.in_err-found.field-0.0 c.requires.block c.in_err-found.ensures.fault c.requires.fits.0,
    )

pub returns-in_err-add-clause-does : goal.returns-in_err-add-clause-does
returns-in_err-add-clause-does g c =
    let p = err_from_is_err_and c.from_residual-in_err-add.result c.from_residual-in_err-add.ensures.1 in
    rw (p.1, p.2) (
      refl {a = c.args.self.now.lines},
      refl {a = c.args.self.now.shares},
      block_short {L = g.row.L.Denot} {G = g.row.G.Denot} g.L.BlockLane.contents c.args.manager.now c.args.tag.rel.0 c.args.tag.fork c.args.self.now.lines c.args.tag.block c.args.pass.now c.copy_if_sound.new.pass c.in_ok-found.found c.copy_if_sound.new.page
          c.args.self.now.printed.text.items c.add.new.self.text.items c.args.self.now.printed.totals c.add.new.self.totals c.requires.free c.in_ok-found.ensures.read c.in_err-add.ensures.same.0 c.in_err-add.ensures.same.1 c.requires.fits.0,
    )

pub returns-clause-does : goal.returns-clause-does
returns-clause-does g c =
    let w : IsWithin c.add.new.self.totals c.add.new.self.totals.blocks = subst (λ (n : ℕ). IsWithin c.add.new.self.totals n) (sym c.in_ok-add.ensures.within.blocks_are) c.in_ok-add.ensures.within in (
      refl {a = c.args.self.now.lines},
      refl {a = c.args.self.now.shares},
      block_done {L = g.row.L.Denot} {G = g.row.G.Denot} g.L.BlockLane.contents c.args.manager.now c.args.tag.rel.0 c.args.tag.fork c.args.self.now.lines c.args.tag.block c.args.pass.now c.copy_if_sound.new.pass c.in_ok-found.found c.copy_if_sound.new.page
          c.args.self.now.printed.text.items c.add.new.self.text.items c.args.self.now.printed.totals c.add.new.self.totals c.requires.free c.in_ok-found.ensures.read c.in_ok-found.ensures.found c.in_ok-add.ensures.lines c.in_ok-add.ensures.totals w,
    )
