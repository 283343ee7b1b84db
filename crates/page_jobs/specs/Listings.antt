-- What a scan or a dump of a fork comes to.
use Rattle.std.specs.Prelude.{◌≡◌, ℕ, ◌≤◌, ◌⊎◌, List, Option, Result, OnOk, IfOk, IfErr}
use Rattle.block_tag.specs.declared.tag.Fork.{Fork}
use Rattle.byte_devices.specs.Bytes.{Puts}
use Rattle.page_layout.specs.Scan.{totals_of}
use Rattle.segment_store.specs.Contents.{Pages}
use Rattle.pin_core.specs.State.{Page}
use Rattle.frame_table.specs.Seats.{base_of}
use Rattle.backend_pass.specs.declared.manager.Manager.{Manager}
use Rattle.backend_pass.specs.Passes.{PassState}
use Rattle.page_jobs.specs.declared.ending.JobError.{JobError}
use Rattle.page_jobs.specs.declared.ending.JobError.TheVariants.{OutFault}
use Rattle.page_jobs.specs.declared.ending.Totals.{Totals}
use Rattle.page_jobs.specs.declared.printing.Lines.{Lines}
use Rattle.page_jobs.specs.Beside.{LastDid, StaysBeside}
use Rattle.page_jobs.specs.Completeness.{IsDoneOrMemory, IsDoneShortOrMemory, NoDeviceFailsIn}
use Rattle.page_jobs.specs.Completeness.{NothingFailsIn, OutIsQuiet}
use Rattle.page_jobs.specs.Ending.{as_done, totals_of_scan}
use Rattle.page_jobs.specs.Jobs.{AllAtBase, EndsJob, FoundMoreIn, IsOrigin, PutsTexts, ReadParts}
use Rattle.page_jobs.specs.Jobs.{ReadsAll, workers_in}
use Rattle.page_jobs.specs.Parts.{blocks_in}
use Rattle.page_jobs.specs.Printed.{text_of_pages}
use Rattle.page_jobs.specs.Relations.{MeetNothing}

module _ {L G : Type 0} (contents : L → Option Pages) (m : Manager L G) (rel : ℕ) (fork : Fork)
    (lines : Lines) (did : PassState → PassState → Type 0) (all : List PassState) where
  -- A scan or a dump of all blocks of a fork, by all of these passes, of which the last one worked
  -- beside: what the passes read, what was put, the output's faults, and how it ended
  pub record IsListed (qs : List PassState) (old new : Option (List ℕ)) (outs outs_now : ℕ)
      (r : Result Totals JobError) : Type 0 where
    pub passes : ReadParts contents m rel fork (workers_in all) (workers_in qs)
    pub last : StaysBeside contents m all qs
    pub met : OnOk r (MeetNothing all qs)
    pub beside : OnOk r (LastDid did all qs)
    pub done : IfOk r (ReadsAll contents m rel fork (workers_in all) (workers_in qs))
    -- the hits and reads of the passes that work are one for each block
    pub found : OnOk r (FoundMoreIn (blocks_in m rel fork) (workers_in all) (workers_in qs))
    -- the texts of chunks that were put have a line for each of their blocks, in order
    pub puts : PutsTexts contents m rel fork lines (workers_in all) (workers_in qs) old new r
    pub totals : (pages : List Page) → IsOrigin contents m rel fork pages
        → AllAtBase (base_of m.table) (workers_in qs)
        → IfOk r (λ totals. totals ≡ totals_of_scan (totals_of pages))
    pub text : (pages : List Page) → IsOrigin contents m rel fork pages
        → AllAtBase (base_of m.table) (workers_in qs)
        → Puts (text_of_pages lines pages) old new (as_done r)
    pub quiet : OnOk r (outs_now ≡ outs)
    pub later : outs ≤ outs_now
    -- with an error other than the output's, the output's count of faults is as it was
    pub steady : IfErr r (λ e. (e ≡ OutFault) ⊎ (outs_now ≡ outs))
    pub cause : IfErr r (EndsJob contents m rel fork all qs outs outs_now)
    -- if no device fails for any of the passes, it ends well, out of memory, or at a page past the
    -- log's end
    pub short : NoDeviceFailsIn all qs → OutIsQuiet outs outs_now → IsDoneShortOrMemory r
    -- if, besides, no page has a position past the log's end that the passes had seen, it ends well
    -- or out of memory
    pub complete : NothingFailsIn contents m all qs → OutIsQuiet outs outs_now → IsDoneOrMemory r
