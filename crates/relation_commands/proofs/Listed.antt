-- What a listing leaves of its lanes, and how it ends.
use Rattle.std.proofs.Common.{◌≡◌, ℕ, zero, suc, ◌<◌, ◌≤◌, ◌^◌, List, [], ◌∷◌, length, map, get_or, Option, Result, Ok, Err, refl, ap, ◌∙◌, ⊎_elim, arith}
use Rattle.std.specs.Prelude.{All, IfErr, IfOk, IsOkAnd, MatchResult, OnOk, sum_by}
use Rattle.block_tag.specs.declared.tag.Fork.{Fork}
use Rattle.block_tag.specs.Names.{lane_number}
use Rattle.byte_devices.specs.Bytes.{Puts}
use Rattle.byte_devices.specs.Faults.{Rose}
use Rattle.page_layout.specs.declared.scan.ScanTotals.{ScanTotals}
use Rattle.segment_store.specs.Contents.{Marks, Pages, no_marks}
use Rattle.segment_store.specs.Lanes.{tag_at}
use Rattle.table_rule.specs.Shows.{Devices}
use Rattle.frame_table.specs.Seats.{base_of, lanes_in, opened_of, relations_of}
use Rattle.backend_pass.specs.declared.manager.Manager.{Manager}
use Rattle.backend_pass.specs.Managers.{AreNewPasses}
use Rattle.backend_pass.specs.Passes.{PassState}
use Rattle.backend_pass.specs.Closing.{ClosesAll, NothingPut, NothingWritten}
use Rattle.page_jobs.specs.declared.ending.JobError.{JobError}
use Rattle.page_jobs.specs.declared.ending.JobError.TheVariants as job
use Rattle.page_jobs.specs.declared.ending.Totals.{Totals}
use Rattle.page_jobs.specs.Ending.{as_done, totals_of_scan}
use Rattle.page_jobs.specs.Beside.{LastIsRefused, StaysBeside}
use Rattle.page_jobs.specs.Jobs.{AllAtBase, AnyMeets, EndsJob, ReadParts, workers_in}
use Rattle.page_jobs.specs.Relations.{IsCatalogOf, MeetNothing}
use Rattle.page_jobs.proofs.Backends as backends
use Rattle.page_jobs.proofs.Counted.{no_read_failed, no_write_failed, some_read_failed}
use Rattle.page_jobs.proofs.ReadersLeave.{pages_left, unfailed_left}
use Rattle.relation_commands.specs.Causes.{HasListingCause, IsCauseOf, listing_end, listing_error, scan_totals_in}
use Rattle.relation_commands.specs.Listings.{LeavesLanes}

pub puts_as : (text : List ℕ) (old new : Option (List ℕ)) (end : Result Totals JobError) → Puts text old new (as_done end) → Puts text old new (as_done (listing_end end))
puts_as text old new (Ok totals) puts = record { ok = puts.ok; failed = puts.failed }
puts_as text old new (Err e) puts = record { ok = puts.ok; failed = puts.failed }

pub totals_as : (totals : ScanTotals) (end : Result Totals JobError) → IfOk end (λ t. scan_totals_in t ≡ totals) → IfOk (listing_end end) (λ t. t ≡ totals)
totals_as totals (Ok t) is = is
totals_as totals (Err e) is = tt

-- the totals of a job are those of its scan
pub totals_listed : (totals : ScanTotals) (end : Result Totals JobError) → IfOk end (λ t. t ≡ totals_of_scan totals) → IfOk end (λ t. scan_totals_in t ≡ totals)
totals_listed totals (Ok t) is = ap scan_totals_in is
totals_listed totals (Err e) is = tt

-- an end without its totals
pub done_as : {A E : Type 0} (F : A → Unit → Type 0) (end : Result A E) (r : Result Unit E) → MatchResult end (λ a. IsOkAnd r (F a)) (λ e. r ≡ Err e) → r ≡ as_done end
done_as F (Ok a) (Ok tt) is = refl
done_as F (Ok a) (Err e) is = absurd is
done_as F (Err e) r is = is

module _ {A B : Type 0} (f : A → B) (d : B) where
  -- where all are mapped to one value, it stands at each place
  all_one : (xs : List A) (i : ℕ) → All (λ x. f x ≡ d) xs → get_or (map f xs) i d ≡ d
  all_one [] i all = refl
  all_one (x ∷ xs) zero all = all 0 x (omega arith)
  all_one (x ∷ xs) (suc i) all = all_one xs i (λ j y below. all (suc j) y (omega arith))

-- lanes that no call was made of
pub untouched : {L : Type 0} (contents : L → Option Pages) (failed : L → Marks) (write_faults : L → ℕ) (fork : Fork) (blocks : ℕ) (lanes : List L)
    → All (λ lane. failed lane ≡ no_marks) lanes → sum_by write_faults lanes ≡ 0 → LeavesLanes contents failed write_faults fork blocks lanes lanes
untouched contents failed write_faults fork blocks lanes unmarked none = record {
  stay = λ pages held all. held;
  unfailed = λ pages held all block below.
      ap (λ (marks : Marks). marks (tag_at fork block)) (all_one failed no_marks lanes (lane_number (tag_at fork block) (length (map failed lanes))) unmarked);
  writes = none;
}

rose_from_none : (n : ℕ) → 0 < n → Rose 0 n
rose_from_none n more = omega arith

module _ {L G : Type 0} (d : Devices L G) (m : Manager L G) (fork : Fork) (blocks : ℕ) (ps qs : List PassState) (lanes : List L) (log : G)
    (catalog : IsCatalogOf fork blocks (relations_of m.table)) (counted : length (opened_of m.table) ≡ lanes_in m.table) (several : 2 ≤ length ps)
    (new : AreNewPasses d.contents m (length ps) ps) (parts : ReadParts d.contents m 0 fork (workers_in ps) (workers_in qs)) (last : StaysBeside d.contents m ps qs)
    (closed : ClosesAll d m.table.table.shared.key qs lanes log) where
  more : 1 < length ps
  more = several

  written : NothingWritten closed.state qs
  written = closed.no_mark (backends.none_marked d.contents m fork (length ps) ps qs new more parts last)

  nothing_put : NothingPut closed.state qs
  nothing_put = closed.without_puts (backends.nothing_put d.contents m fork (length ps) ps qs new more parts last)

  pub leaves : blocks < 2 ^ 32 → sum_by d.write_faults (opened_of m.table) ≡ 0 → LeavesLanes d.contents d.failed_writes d.write_faults fork blocks (opened_of m.table) lanes
  leaves few none = record {
    stay = λ pages held all. pages_left d m.table.table.shared.key qs lanes log closed written nothing_put fork blocks catalog few counted pages held all;
    unfailed = λ pages held all. unfailed_left d m.table.table.shared.key qs lanes log closed written nothing_put fork blocks catalog few counted pages held all;
    writes = no_write_failed d m.table.table.shared.key qs lanes log closed counted none written;
  }

  pub all_at_base : AllAtBase (base_of m.table) (workers_in qs)
  all_at_base = backends.at_base d.contents m fork (length ps) ps qs new more parts last (base_of m.table)
      (λ i p at. nothing_put.fronts i p at ∙ closed.opened.base)

  module _ (none : sum_by d.read_faults (opened_of m.table) ≡ 0) (outs outs_now : ℕ) (later : outs ≤ outs_now) where
    fault_cause : (e : JobError) → EndsJob d.contents m 0 fork ps qs outs outs_now e
        → IsCauseOf 0 (sum_by d.read_faults lanes) outs outs_now (listing_error e)
    fault_cause (job.ReadFault tag) ends = ⊎_elim
        (λ (short : job.ReadFault tag ≡ job.Memory). absurd (cc))
        (λ rest. ⊎_elim
        (λ (any : AnyMeets d.contents m 0 fork (workers_in ps) (workers_in qs) (job.ReadFault tag)). rose_from_none (sum_by d.read_faults lanes)
        (some_read_failed d m.table.table.shared.key qs lanes log closed counted none
        (backends.fault_met d.contents m fork (length ps) ps qs new more parts last tag any)))
        (λ other. ⊎_elim
        (λ (refused : LastIsRefused d.contents m ps qs (job.ReadFault tag)). absurd (backends.work_meets_no_read refused.refused.why tag refused.refused.fault))
        (λ (out : (job.ReadFault tag ≡ job.OutFault) × Rose outs outs_now). absurd (let no = out.0 in cc))
        other)
        rest)
        ends
    fault_cause (job.WriteFault tag) ends = tt
    fault_cause job.LogFault ends = tt
    fault_cause (job.LogDown at) ends = tt
    fault_cause (job.LogShort lsn end) ends = tt
    fault_cause (job.LogFull end) ends = tt
    fault_cause job.OutFault ends = ⊎_elim
        (λ (short : job.OutFault ≡ job.Memory). absurd (cc))
        (λ rest. ⊎_elim
        (λ (any : AnyMeets d.contents m 0 fork (workers_in ps) (workers_in qs) job.OutFault). absurd (backends.none_meets_output d.contents m fork (workers_in ps) (workers_in qs) any))
        (λ other. ⊎_elim
        (λ (refused : LastIsRefused d.contents m ps qs job.OutFault). absurd (backends.work_meets_no_output refused.refused.why refused.refused.fault))
        (λ (out : (job.OutFault ≡ job.OutFault) × Rose outs outs_now). out.1)
        other)
        rest)
        ends
    fault_cause job.Memory ends = tt

    pub cause : (end : Result Totals JobError) → OnOk end (outs_now ≡ outs) → OnOk end (MeetNothing ps qs)
        → IfErr end (EndsJob d.contents m 0 fork ps qs outs outs_now)
        → HasListingCause 0 (sum_by d.read_faults lanes) outs outs_now (listing_end end)
    cause (Ok totals) quiet met ends = record {
      reads_later = omega arith;
      outs_later = later;
      cause = (no_read_failed d m.table.table.shared.key qs lanes log closed counted none (backends.none_met d.contents m fork (length ps) ps qs new more parts last met), quiet);
    }
    cause (Err e) quiet met ends = record { reads_later = omega arith; outs_later = later; cause = fault_cause e ends }
