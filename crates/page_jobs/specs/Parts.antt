-- What a worker does with the blocks that it reads.
use Rattle.std.specs.Prelude.{◌≡◌, ℕ, ◌<◌, ◌⊎◌, List, [], ◌∷◌, ◌++◌, length, Option, Some, Result}
use Rattle.std.specs.Prelude.{OnOk, IfErr}
use Rattle.block_tag.specs.declared.tag.Fork.{Fork}
use Rattle.block_tag.specs.Catalogue.{blocks_at}
use Rattle.block_tag.specs.Names.{tag_of_parts}
use Rattle.page_layout.specs.declared.scan.ScanTotals.{ScanTotals}
use Rattle.page_layout.specs.Scan.{IsWithin, sum_of_totals}
use Rattle.segment_store.specs.Contents.{Pages}
use Rattle.frame_table.specs.Seats.{OnlyRises, relations_of}
use Rattle.io_counts.specs.Found.{FoundMore}
use Rattle.buffer_frames.specs.Tokens.{no_tokens}
use Rattle.backend_pass.specs.declared.errors.ReadError.{ReadError}
use Rattle.backend_pass.specs.declared.manager.Manager.{Manager}
use Rattle.backend_pass.specs.Passes.{PassState}
use Rattle.backend_pass.specs.Reading.{ReadingRefused, met_read_refused}
use Rattle.page_jobs.specs.declared.ending.JobError.{JobError}
use Rattle.page_jobs.specs.declared.ending.JobError.TheVariants.{Memory}
use Rattle.page_jobs.specs.declared.printing.Lines.{Lines}
use Rattle.page_jobs.specs.Printed.{BlockRead, reads_lines, reads_totals}
use Rattle.page_jobs.specs.Reads.{EndsAtRead, IsKnown, IsWithinFront, Stays, calls_of_reads}
use Rattle.page_jobs.specs.Reads.{fault_of_refusal}

-- this holds of what was read of each of these blocks, or of the first of them
abbrev pub AllReads : (ℕ → BlockRead → Type 0) → List ℕ → List BlockRead → Type 0
AllReads P blocks [] = Unit {0}
AllReads P [] (r ∷ rs) = ⊥
AllReads P (b ∷ blocks) (r ∷ rs) = P b r × AllReads P blocks rs

-- how many blocks a fork has
abbrev pub blocks_in : {L G : Type 0} → Manager L G → ℕ → Fork → ℕ
blocks_in m rel fork = blocks_at (relations_of m.table) rel fork

module _ {L G : Type 0} (contents : L → Option Pages) (m : Manager L G) (rel : ℕ)
    (fork : Fork) where
  -- what is known of what was read of blocks of the fork
  abbrev pub AreKnown : List ℕ → List BlockRead → Type 0
  AreKnown blocks rs = AllReads (λ b r. IsKnown contents m (tag_of_parts rel fork b) r) blocks rs

  -- A read of one of the fork's blocks was refused, for a reason that the error names, and the pass
  -- has met that fault, and no other
  pub record MeetsFault (p q : PassState) (e : JobError) : Type 0 where
    pub block : ℕ
    pub inside : block < blocks_in m rel fork
    pub why : ReadError
    pub fault : fault_of_refusal why ≡ Some e
    pub before : PassState
    pub since : OnlyRises p.view before.view
    pub refused : ReadingRefused contents m.table (tag_of_parts rel fork block) before q why
    -- if a lane failed to read the block, no device was called after that
    pub last : EndsAtRead contents m (tag_of_parts rel fork block) q why
    pub met : q.view.met ≡ met_read_refused why p.view.met

  -- why a worker ends before its end: there was no memory, and it met no fault, or it met this one
  abbrev pub EndsFor : PassState → PassState → JobError → Type 0
  EndsFor p q e = ((e ≡ Memory) × (q.view.met ≡ p.view.met)) ⊎ MeetsFault p q e

  -- These blocks were read one after the other, or the first of them. What was read is printed, and
  -- counted, but for what there was no memory for
  pub record ListsBlocks (lines : Lines) (blocks : List ℕ) (p q : PassState) (text text' : List ℕ)
      (t u : ScanTotals) (end : Result Unit JobError) : Type 0 where
    pub stays : Stays contents m p q
    pub spent : q.tokens ≡ no_tokens
    pub printed : List BlockRead
    pub unprinted : List BlockRead
    pub calls : q.view.calls
        ≡ p.view.calls ++ calls_of_reads p.view.number rel fork blocks (printed ++ unprinted)
    pub known : AreKnown blocks (printed ++ unprinted)
    pub places : AllReads (λ b r. IsWithinFront q.view.front r) blocks (printed ++ unprinted)
    pub text_is : text' ≡ text ++ reads_lines lines blocks printed
    pub totals_is : u ≡ sum_of_totals t (reads_totals printed)
    pub counts : IsWithin u u.blocks
    -- if it ended well, all of them were read, and no fault was met
    pub done : OnOk end
        ((unprinted ≡ []) × (length printed ≡ length blocks) × (q.view.met ≡ p.view.met))
    -- and each of them was counted once, as a hit or as a read
    pub found : OnOk end (FoundMore (length blocks) p.io q.io)
    pub cause : IfErr end (EndsFor p q)
