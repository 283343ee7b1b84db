-- When a listing of blocks ends before its end.
use Rattle.std.specs.Prelude.{◌≡◌, ℕ, ◌≤◌, Result, Ok, Err, MatchResult}
use Rattle.byte_devices.specs.Faults.{Rose}
use Rattle.page_jobs.specs.declared.ending.JobError.{JobError}
use Rattle.page_jobs.specs.declared.ending.JobError.TheVariants as job
use Rattle.page_jobs.specs.declared.ending.Totals.{Totals}
use Rattle.page_layout.specs.declared.scan.ScanTotals.{ScanTotals}
use Rattle.relation_commands.specs.declared.listing.ListingError.{ListingError}
use Rattle.relation_commands.specs.declared.listing.ListingError.TheVariants.{ReadFault, OutFault}
use Rattle.relation_commands.specs.declared.listing.ListingError.TheVariants.{Memory}

-- what the end of a job means to a listing
abbrev pub listing_error : JobError → ListingError
listing_error (job.ReadFault tag) = ReadFault
listing_error (job.WriteFault tag) = Memory
listing_error job.LogFault = Memory
listing_error (job.LogDown at) = Memory
listing_error (job.LogShort lsn end) = Memory
listing_error (job.LogFull end) = Memory
listing_error job.OutFault = OutFault
listing_error job.Memory = Memory

-- the totals of a scan among those of a job
abbrev pub scan_totals_in : Totals → ScanTotals
scan_totals_in t = record {
  blocks = t.blocks;
  used = t.used;
  new = t.new;
  invalid = t.invalid;
  normal = t.normal;
  redirect = t.redirect;
  dead = t.dead;
  unused = t.unused;
}

abbrev pub listing_end : Result Totals JobError → Result ScanTotals ListingError
listing_end (Ok totals) = Ok (scan_totals_in totals)
listing_end (Err e) = Err (listing_error e)

-- a fault is one of the count that rose
abbrev pub IsCauseOf : ℕ → ℕ → ℕ → ℕ → ListingError → Type 0
IsCauseOf reads reads_now outs outs_now ReadFault = Rose reads reads_now
IsCauseOf reads reads_now outs outs_now OutFault = Rose outs outs_now
IsCauseOf reads reads_now outs outs_now Memory = Unit {0}

-- the counts of faults of reads and of the output never fall, and both stay if all went well
pub record HasListingCause {T : Type 0} (reads reads_now outs outs_now : ℕ)
    (result : Result T ListingError) : Type 0 where
  pub reads_later : reads ≤ reads_now
  pub outs_later : outs ≤ outs_now
  pub cause : MatchResult result (λ _. (reads_now ≡ reads) × (outs_now ≡ outs))
      (IsCauseOf reads reads_now outs outs_now)
