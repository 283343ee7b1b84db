use Rattle.page_layout.proofs.Lines.{scan_lines_from-append}
use Rattle.page_layout.proofs.Sums.{dump_lines_from-append, rewrite_totals_of-append, totals_of-append}
use Rattle.page_layout.proofs.laws.all_sums.Goals as goal

pub returns : goal.returns
returns c = record {
  scan_lines = scan_lines_from-append;
  dump_lines = dump_lines_from-append;
  scans = totals_of-append;
  rewrites = rewrite_totals_of-append;
}
