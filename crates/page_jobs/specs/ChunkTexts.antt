-- The texts of chunks, and what a worker does with them at the window.
use Rattle.std.specs.Prelude.{◌≡◌, ℕ, ◌+◌, ◌*◌, ◌<◌, ◌≤◌, List, [], length, Option, Result, Ok, Err}
use Rattle.std.specs.Prelude.{OnOk}
use Rattle.block_tag.specs.declared.tag.Fork.{Fork}
use Rattle.page_layout.specs.Scan.{IsWithin}
use Rattle.segment_store.specs.Contents.{Pages}
use Rattle.text_window.specs.Shares.{KeepsParts}
use Rattle.text_window.specs.Texts.{Job}
use Rattle.backend_pass.specs.declared.manager.Manager.{Manager}
use Rattle.page_jobs.specs.declared.job_blocks.JobBlocks.{JobBlocks}
use Rattle.page_jobs.specs.declared.job_blocks.JobBlocks.TheVariants as those
use Rattle.page_jobs.specs.declared.ending.JobError.{JobError}
use Rattle.page_jobs.specs.declared.ending.JobError.TheVariants.{Memory}
use Rattle.page_jobs.specs.declared.listing.Lister.{Lister}
use Rattle.page_jobs.specs.declared.printing.Lines.{Lines}
use Rattle.page_jobs.specs.Chunks.{blocks_of, chunk_count}
use Rattle.page_jobs.specs.Parts.{AllReads, AreKnown, blocks_in}
use Rattle.page_jobs.specs.Printed.{BlockRead, reads_lines}
use Rattle.page_jobs.specs.Reads.{IsWithinFront}

-- the job of a window for this many blocks and workers, over a log that begins at this base, and a
-- sink as it is before the job
abbrev pub job_of : ℕ → ℕ → ℕ → Option (List ℕ) → ℕ → Job
job_of blocks workers base before faults = record {
  chunks = chunk_count blocks;
  width = 2 * workers;
  base = base;
  before = before;
  faults = faults;
}

module _ {L G : Type 0} (contents : L → Option Pages) (m : Manager L G) (rel : ℕ)
    (fork : Fork) where
  -- This may be the text of a chunk: the lines of all its blocks, each as it was copied from its
  -- frame, with nothing of the log past this place, or found not to be sound
  pub record IsChunkText (lines : Lines) (place chunk : ℕ) (text : List ℕ) : Type 0 where
    pub reads : List BlockRead
    pub whole : length reads ≡ length (blocks_of (blocks_in m rel fork) chunk)
    pub known : AreKnown contents m rel fork (blocks_of (blocks_in m rel fork) chunk) reads
    pub places : AllReads (λ block r. IsWithinFront place r)
        (blocks_of (blocks_in m rel fork) chunk) reads
    pub lines_are : text ≡ reads_lines lines (blocks_of (blocks_in m rel fork) chunk) reads

  -- A lister can begin a chunk: no text of it is there yet, it has shares to count the text in, and
  -- the window is for the chunks of the fork and takes their texts
  pub record OpensText {N A : Type 0} (texts : ℕ → ℕ → List ℕ → Type 0) (job : Job)
      (k : Lister N A) : Type 0 where
    pub none : k.printed.text.items ≡ []
    pub counts : IsWithin k.printed.totals k.printed.totals.blocks
    pub parts : (0 < k.shares.delivered.parts) × (0 < k.shares.above.parts)
    pub chunks : job.chunks ≡ chunk_count (blocks_in m rel fork)
    pub takes : (place chunk : ℕ) (text : List ℕ) → IsChunkText k.lines place chunk text
        → texts place chunk text

-- a lister can begin a chunk of these blocks: they are those of a fork
abbrev pub OpensBlocks : {L G N A : Type 0} → (L → Option Pages) → Manager L G → JobBlocks
    → (ℕ → ℕ → List ℕ → Type 0) → Job → Lister N A → Type 0
OpensBlocks contents m (those.Fork fork) texts job k =
    OpensText contents m fork.rel.0 fork.fork texts job k
OpensBlocks contents m (those.Tags tags) texts job k = ⊥

-- one text more was delivered; or the job had stopped, for which a worker ends as out of memory
abbrev pub HasDelivered : ℕ → ℕ → Result Unit JobError → Type 0
HasDelivered before now (Ok done) = now ≡ before + 1
HasDelivered before now (Err e) = e ≡ Memory

-- The text of a chunk was delivered, or the job had stopped, in a job over a log that begins at
-- this base and by a pass with this front
pub record ClosesText {N A : Type 0} (base front : ℕ) (k l : Lister N A)
    (end : Result Unit JobError) : Type 0 where
  pub lines : l.lines ≡ k.lines
  pub totals : l.printed.totals ≡ k.printed.totals
  pub none : OnOk end (l.printed.text.items ≡ [])
  pub parts : KeepsParts k.shares l.shares
  pub delivered : HasDelivered k.shares.delivered.amount l.shares.delivered.amount end
  -- a text is counted as past the base only if the pass had seen more of the log than that
  pub above : front ≤ base → l.shares.above.amount ≡ k.shares.above.amount
