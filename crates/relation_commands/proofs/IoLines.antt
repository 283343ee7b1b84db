-- How a listing ends, and what it prints, once the line of its I/O counts is put.
use Rattle.std.proofs.Common.{◌≡◌, ℕ, ◌+◌, List, ◌++◌, Bool, true, false, Option, Some, None, Result, Ok, Err, refl, sym, ◌∙◌, subst, cond, arith}
use Rattle.std.specs.Prelude.{IfErr, IfOk, IfSome, OnOk, is_ok, option_map}
use Rattle.byte_devices.specs.Bytes.{Puts}
use Rattle.byte_devices.specs.Faults.{Rose}
use Rattle.page_layout.specs.declared.scan.ScanTotals.{ScanTotals}
use Rattle.io_counts.specs.declared.shown.IoSums.{IoSums}
use Rattle.segment_store.specs.Paths.{Paths}
use Rattle.page_jobs.specs.declared.ending.JobError.{JobError}
use Rattle.page_jobs.specs.declared.ending.Totals.{Totals}
use Rattle.page_jobs.specs.Ending.{as_done}
use Rattle.relation_commands.specs.declared.listing.ListingError.{ListingError}
use Rattle.relation_commands.specs.declared.listing.ListingError.TheVariants.{ReadFault, OutFault, Memory}
use Rattle.relation_commands.specs.Causes.{HasListingCause, listing_end, listing_error}
use Rattle.relation_commands.specs.Listings.{CountedText, PutsCounted, io_line}
use Rattle.relation_commands.proofs.Listed.{puts_as}
use Rattle.relation_commands.proofs.Putting.{puts_behind, puts_named, puts_nothing, puts_part}

-- counts of so many blocks, for a text that isn't whole
abbrev any_io : ℕ → IoSums
any_io blocks = record { hits = 0; reads = blocks; writes = 0; evictions = 0; reuses = 0 }

any_found : (blocks : ℕ) → (any_io blocks).hits + (any_io blocks).reads ≡ blocks
any_found blocks = omega arith

-- a refusal before the text was put
pub counted_nothing : {E : Type 0} (t : CountedText) (old : Option (List ℕ)) (e : E) → PutsCounted t old old (Err e)
counted_nothing t old e = record { io = any_io t.blocks; found = any_found t.blocks; puts = puts_nothing (t.text ++ io_line (any_io t.blocks)) old e }

pub counted_named : {E F : Type 0} (t : CountedText) (old new : Option (List ℕ)) (r : Result Unit E) (s : Result Unit F) → is_ok s ≡ is_ok r → PutsCounted t old new r → PutsCounted t old new s
counted_named t old new r s same p = record { io = p.io; found = p.found; puts = puts_named (t.text ++ io_line p.io) old new r s same p.puts }

-- the text that is asked for, with its counts or without
pub text_unless : (stats : Bool) (known : Option Paths) (text : Paths → List ℕ) (P : List ℕ → Type 0)
    → (stats ≡ false → IfSome known (λ paths. P (text paths))) → IfSome (cond stats None (option_map text known)) P
text_unless true known text P is = tt
text_unless false None text P is = tt
text_unless false (Some paths) text P is = is refl

pub counted_if : (stats : Bool) (known : Option Paths) (t : Paths → CountedText) (P : CountedText → Type 0)
    → (stats ≡ true → IfSome known (λ paths. P (t paths))) → IfSome (cond stats (option_map t known) None) P
counted_if true None t P is = tt
counted_if true (Some paths) t P is = is refl
counted_if false known t P is = tt

-- a text behind which nothing is put
pub text_still : (text : List ℕ) (old mid new : Option (List ℕ)) (job : Result Totals JobError) (after : Result ScanTotals ListingError) → after ≡ listing_end job → new ≡ mid
    → Puts text old mid (as_done job) → Puts text old new (as_done after)
text_still text old mid new job after is still puts =
    subst (λ (r : Result ScanTotals ListingError). Puts text old new (as_done r)) (sym is)
    (subst (λ (m : Option (List ℕ)). Puts text old m (as_done (listing_end job))) (sym still) (puts_as text old mid job puts))

-- the totals are those of the job
pub totals_behind : (totals : ScanTotals) (job : Result Totals JobError) (end after : Result ScanTotals ListingError) → end ≡ listing_end job → IfOk after (λ t. end ≡ Ok t)
    → IfOk (listing_end job) (λ t. t ≡ totals) → IfOk after (λ t. t ≡ totals)
totals_behind totals job end (Ok t) is same had = subst (λ (r : Result ScanTotals ListingError). IfOk r (λ u. u ≡ totals)) (sym is ∙ same) had
totals_behind totals job end (Err e) is same had = tt

module _ {O : Type 0} (mid new : O) where
  -- a listing that ended before its end ends so, and nothing is put
  abbrev Stops : Result ScanTotals ListingError → Result ScanTotals ListingError → Type 0
  Stops end after = IfErr end (λ e. (after ≡ Err e) × (new ≡ mid))

  module _ (bytes : O → Option (List ℕ)) (t : CountedText) (io : IoSums) (old : Option (List ℕ)) where
    counted_on : (job : Result Totals JobError) (after : Result ScanTotals ListingError) → Puts t.text old (bytes mid) (as_done job) → OnOk job (io.hits + io.reads ≡ t.blocks)
        → Stops (listing_end job) after → OnOk (listing_end job) (Puts (io_line io) (bytes mid) (bytes new) (as_done after)) → PutsCounted t old (bytes new) (as_done after)
    counted_on (Ok totals) after puts found stops line = record { io = io; found = found; puts = puts_behind t.text (io_line io) old (bytes mid) (bytes new) (as_done after) puts.ok line }
    counted_on (Err e) after puts found stops line =
        let part = puts_part t.text (io_line (any_io t.blocks)) old (bytes mid) e (listing_error e) puts in
        let counted : PutsCounted t old (bytes mid) (Err (listing_error e)) = record { io = any_io t.blocks; found = any_found t.blocks; puts = part } in
        subst (λ (r : Result ScanTotals ListingError). PutsCounted t old (bytes new) (as_done r)) (sym stops.0)
        (subst (λ (o : O). PutsCounted t old (bytes o) (Err (listing_error e))) (sym stops.1) counted)

    -- the line behind the text of a job
    pub counted_behind : (job : Result Totals JobError) (end after : Result ScanTotals ListingError) → end ≡ listing_end job → Puts t.text old (bytes mid) (as_done job) → OnOk job (io.hits + io.reads ≡ t.blocks)
        → Stops end after → OnOk end (Puts (io_line io) (bytes mid) (bytes new) (as_done after)) → PutsCounted t old (bytes new) (as_done after)
    counted_behind job end after is puts found stops line =
        counted_on job after puts found (subst (λ (r : Result ScanTotals ListingError). Stops r after) is stops)
        (subst (λ (r : Result ScanTotals ListingError). OnOk r (Puts (io_line io) (bytes mid) (bytes new) (as_done after))) is line)

  module _ (faults : O → ℕ) (reads outs : ℕ) where
    cause_on : (end after : Result ScanTotals ListingError) → HasListingCause 0 reads outs (faults mid) end → Stops end after → OnOk end (HasListingCause 0 0 (faults mid) (faults new) after)
        → HasListingCause 0 reads outs (faults new) after
    cause_on (Ok totals) (Ok t) had stops put = record {
      reads_later = had.reads_later;
      outs_later = let a = had.outs_later in let b = put.outs_later in omega (arith, a, b);
      cause = (had.cause.0, put.cause.1 ∙ had.cause.1);
    }
    cause_on (Ok totals) (Err ReadFault) had stops put = absurd (let no : Rose 0 0 = put.cause in omega arith)
    cause_on (Ok totals) (Err OutFault) had stops put = record {
      reads_later = had.reads_later;
      outs_later = let a = had.outs_later in let b = put.outs_later in omega (arith, a, b);
      cause = subst (λ (n : ℕ). Rose n (faults new)) had.cause.1 put.cause;
    }
    cause_on (Ok totals) (Err Memory) had stops put = record {
      reads_later = had.reads_later;
      outs_later = let a = had.outs_later in let b = put.outs_later in omega (arith, a, b);
      cause = tt;
    }
    cause_on (Err e) after had stops put =
        subst (λ (r : Result ScanTotals ListingError). HasListingCause 0 reads outs (faults new) r) (sym stops.0)
        (subst (λ (o : O). HasListingCause {T = ScanTotals} 0 reads outs (faults o) (Err e)) (sym stops.1) had)

    -- the cause of what becomes of the end of a job
    pub cause_behind : (job : Result Totals JobError) (end after : Result ScanTotals ListingError) → end ≡ listing_end job → HasListingCause 0 reads outs (faults mid) (listing_end job)
        → Stops end after → OnOk end (HasListingCause 0 0 (faults mid) (faults new) after) → HasListingCause 0 reads outs (faults new) after
    cause_behind job end after is had stops put =
        cause_on end after (subst (λ (r : Result ScanTotals ListingError). HasListingCause 0 reads outs (faults mid) r) (sym is) had) stops put
