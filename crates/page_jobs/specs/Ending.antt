-- The totals of a job, and its end.
use Rattle.std.specs.Prelude.{Result, Ok, Err}
use Rattle.page_layout.specs.declared.outcomes.RewriteTotals.{RewriteTotals}
use Rattle.page_layout.specs.declared.scan.ScanTotals.{ScanTotals}
use Rattle.page_jobs.specs.declared.ending.Totals.{Totals}

-- the totals of a scan, which changes no page
abbrev pub totals_of_scan : ScanTotals → Totals
totals_of_scan t = record {
  blocks = t.blocks;
  used = t.used;
  new = t.new;
  invalid = t.invalid;
  normal = t.normal;
  redirect = t.redirect;
  dead = t.dead;
  unused = t.unused;
  changed = 0;
  same = 0;
  skipped = 0;
}

-- the totals of a rewrite, which counts no line pointers but the dead ones of the pages that it
-- changed
abbrev pub totals_of_rewrite : RewriteTotals → Totals
totals_of_rewrite t = record {
  blocks = t.blocks;
  used = 0;
  new = t.new;
  invalid = t.invalid;
  normal = 0;
  redirect = 0;
  dead = t.dead;
  unused = 0;
  changed = t.changed;
  same = t.same;
  skipped = t.skipped;
}

-- the totals of a job that counts nothing
abbrev pub no_job_totals : Totals
no_job_totals = record {
  blocks = 0;
  used = 0;
  new = 0;
  invalid = 0;
  normal = 0;
  redirect = 0;
  dead = 0;
  unused = 0;
  changed = 0;
  same = 0;
  skipped = 0;
}

-- whether it ended well
abbrev pub as_done : {A E : Type 0} → Result A E → Result Unit E
as_done (Ok a) = Ok tt
as_done (Err e) = Err e
