use Rattle.std.proofs.Common.{ap, sym, subst, ◌∙◌}
use Rattle.page_layout.specs.Fields.{lsn_of, with_lsn}
use Rattle.page_layout.specs.Soundness.{IsUsedPage}
use Rattle.page_layout.proofs.Positions.{lsn_of-with_lsn, stays_used}
use Rattle.page_layout.proofs.page.Page.set_lsn.Goals as goal

pub returns-clause-bytes : goal.returns-clause-bytes
unfolding with_lsn
returns-clause-bytes c = c.write_halves.ensures

pub returns-clause-reads_back : goal.returns-clause-reads_back
unfolding with_lsn
returns-clause-reads_back c = ap lsn_of c.write_halves.ensures ∙ lsn_of-with_lsn c.args.lsn c.args.self.now c.ranges.lsn.fits

pub returns-clause-stays_used : goal.returns-clause-stays_used
unfolding with_lsn
returns-clause-stays_used c = λ is. subst IsUsedPage (sym c.write_halves.ensures) (stays_used c.args.lsn c.args.self.now is)
