use Rattle.page_layout.proofs.After.{rewritten_is_used}
use Rattle.page_layout.proofs.Alike.{totals_of-positions}
use Rattle.page_layout.proofs.Compactable.{compactable_from}
use Rattle.page_layout.proofs.Positions.{lsn_of-with_lsn, restores, stays_used, with_lsn-with_lsn}
use Rattle.page_layout.specs.Rewritten.{rewritten_page}
use Rattle.page_layout.proofs.laws.all_positions.Goals as goal

pub returns : goal.returns
returns c = record {
  stays_used = λ page lsn. stays_used lsn page;
  reads_back = λ page lsn. lsn_of-with_lsn lsn page;
  last = λ page first second. with_lsn-with_lsn first second page;
  restores = λ page lsn. restores lsn page;
  rewritten = λ page lsn is kept. stays_used lsn (rewritten_page page) (rewritten_is_used page (compactable_from page is.size is.sound is.used kept) is.sound is.used);
  totals = totals_of-positions;
}
