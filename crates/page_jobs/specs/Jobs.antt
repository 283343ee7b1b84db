-- What a scan and a dump do.
use Rattle.std.specs.Prelude.{◌≡◌, ℕ, ◌+◌, ◌-◌, ◌≤◌, ◌⊎◌, List, [], ◌∷◌, ◌++◌, length, take}
use Rattle.std.specs.Prelude.{Option, Some, Result, IfOk}
use mathlib.Core.Option.{some}
use lib.ListN.{get_elem?}
use Rattle.block_tag.specs.declared.tag.Fork.{Fork}
use Rattle.block_tag.specs.declared.tag.Tag.{Tag}
use Rattle.block_tag.specs.Names.{lane_number, tag_of_parts}
use Rattle.byte_devices.specs.Bytes.{Puts}
use Rattle.byte_devices.specs.Faults.{Rose}
use Rattle.segment_store.specs.Contents.{Pages}
use Rattle.pin_core.specs.State.{Page}
use Rattle.text_window.specs.Texts.{AreFirstTexts, IsTextBy}
use Rattle.frame_table.specs.Seats.{base_of, lanes_in, opened_of}
use Rattle.io_counts.specs.Found.{AreAllBelowLast, FoundMore, found_of}
use Rattle.buffer_frames.specs.Tokens.{no_tokens}
use Rattle.backend_pass.specs.declared.manager.Manager.{Manager}
use Rattle.backend_pass.specs.Closing.{EachPass}
use Rattle.backend_pass.specs.Counts.{io_in_all}
use Rattle.backend_pass.specs.Passes.{PassState}
use Rattle.page_jobs.specs.declared.ending.JobError.{JobError}
use Rattle.page_jobs.specs.declared.ending.JobError.TheVariants.{Memory, OutFault}
use Rattle.page_jobs.specs.declared.ending.Totals.{Totals}
use Rattle.page_jobs.specs.declared.printing.Lines.{Lines}
use Rattle.page_jobs.specs.Beside.{LastIsRefused}
use Rattle.page_jobs.specs.Chunks.{AreAllClaimed, AreFirstClaimed, Claimed, CoversAll, CoversChunks}
use Rattle.page_jobs.specs.Chunks.{blocks_in_all, chunk_count, items_in_all}
use Rattle.page_jobs.specs.ChunkTexts.{IsChunkText}
use Rattle.page_jobs.specs.Ending.{as_done, totals_of_scan}
use Rattle.page_jobs.specs.Printed.{BlockRead, reads_totals, totals_line}
use Rattle.page_jobs.specs.Relations.{MeetNothing}
use Rattle.backend_pass.specs.Between.{HasNoTokens}
use Rattle.page_jobs.specs.Reads.{IsWithinFront, Stays, calls_of_reads}
use Rattle.page_jobs.specs.Parts.{AllReads, AreKnown, MeetsFault, blocks_in}

-- the passes that work: all but the last
abbrev pub workers_in : List PassState → List PassState
workers_in ps = take (length ps - 1) ps

-- So many blocks more were counted by these passes together, as hits or as reads
pub record FoundMoreIn (n : ℕ) (ps qs : List PassState) : Type 0 where
  pub most : found_of (io_in_all qs) ≤ found_of (io_in_all ps) + n
  -- exactly so many, if no count of a pass stands at its last value
  pub exact : EachPass (λ q. AreAllBelowLast q.io) qs
      → found_of (io_in_all qs) ≡ found_of (io_in_all ps) + n

-- no pass has seen more of the log than its beginning
abbrev pub AllAtBase : ℕ → List PassState → Type 0
AllAtBase base [] = Unit {0}
AllAtBase base (p ∷ ps) = (p.view.front ≡ base) × AllAtBase base ps

module _ {L G : Type 0} (contents : L → Option Pages) (m : Manager L G) where
  -- each pass is the manager's, and has no token
  abbrev pub HaveNoTokens : List PassState → Type 0
  HaveNoTokens [] = Unit {0}
  HaveNoTokens (p ∷ ps) = HasNoTokens contents m p × HaveNoTokens ps

  -- The page of the block was this one as the table was opened, which is known
  pub record WasKnownAtOpening (tag : Tag) (page : Page) : Type 0 where
    pub lane : L
    pub opened : get_elem? (opened_of m.table) (lane_number tag (lanes_in m.table)) ≡ some lane
    pub pages : Pages
    pub known : contents lane ≡ Some pages
    pub is : pages tag ≡ Some page

module _ {L G : Type 0} (contents : L → Option Pages) (m : Manager L G) (rel : ℕ)
    (fork : Fork) where
  -- These were the pages of the fork's blocks as the table was opened
  pub record IsOrigin (pages : List Page) : Type 0 where
    pub counted : length pages ≡ blocks_in m rel fork
    pub each : (block : ℕ) (page : Page) → get_elem? pages block ≡ some page
        → WasKnownAtOpening contents m (tag_of_parts rel fork block) page

  -- The pass read blocks of the chunks that it claimed, one chunk after the other, each to its end
  -- but maybe the last one. It is the same pass, without tokens, with its mark and its content
  -- locks as they were
  pub record ReadsChunks (c : Claimed BlockRead) (p q : PassState) : Type 0 where
    pub stays : Stays contents m p q
    pub spent : q.tokens ≡ no_tokens
    pub calls : q.view.calls
        ≡ p.view.calls
        ++ calls_of_reads p.view.number rel fork
        (blocks_in_all (blocks_in m rel fork) c.chunks) c.items
    pub known : AreKnown contents m rel fork (blocks_in_all (blocks_in m rel fork) c.chunks) c.items
    pub places : AllReads (λ block r. IsWithinFront q.view.front r)
        (blocks_in_all (blocks_in m rel fork) c.chunks) c.items
    pub covers : CoversChunks (blocks_in m rel fork) c

  -- The passes claimed the first chunks, each once, and each pass read blocks of those that it
  -- claimed
  pub record ReadParts (ps qs : List PassState) : Type 0 where
    pub counted : length qs ≡ length ps
    pub claimed : List (Claimed BlockRead)
    pub listed : length claimed ≡ length ps
    pub each : (w : ℕ) (p q : PassState) (c : Claimed BlockRead) → get_elem? ps w ≡ some p
        → get_elem? qs w ≡ some q → get_elem? claimed w ≡ some c → ReadsChunks c p q
    -- each pass met no fault; or it met this one, and read nothing after that
    pub ended : (w : ℕ) (p q : PassState) → get_elem? ps w ≡ some p → get_elem? qs w ≡ some q
        → (q.view.met ≡ p.view.met) ⊎ ((e : JobError) × MeetsFault contents m rel fork p q e)
    pub once : AreFirstClaimed (blocks_in m rel fork) claimed

  -- The pass read each of its chunks to its end, and met no fault. It counted each block once, as a
  -- hit or as a read
  pub record ReadsWhole (c : Claimed BlockRead) (p q : PassState) : Type 0 where
    pub reads : ReadsChunks c p q
    pub whole : CoversAll (blocks_in m rel fork) c
    pub met : q.view.met ≡ p.view.met
    pub found : FoundMore (length c.items) p.io q.io

  -- All chunks were read, each once, by one pass and to its end, and no fault was met. The totals
  -- are those of what was read
  pub record ReadsAll (ps qs : List PassState) (totals : Totals) : Type 0 where
    pub claimed : List (Claimed BlockRead)
    pub listed : length claimed ≡ length ps
    pub each : (w : ℕ) (p q : PassState) (c : Claimed BlockRead) → get_elem? ps w ≡ some p
        → get_elem? qs w ≡ some q → get_elem? claimed w ≡ some c → ReadsWhole c p q
    pub all : AreAllClaimed (blocks_in m rel fork) claimed
    pub totals_is : totals ≡ totals_of_scan (reads_totals (items_in_all claimed))

  -- What was put, with any end: a prefix of the texts of the first chunks, in order, and after
  -- those of all chunks, if the passes met no fault, of the line of the totals of what they read;
  -- if the job ended well, all of that
  pub record PutsTexts (lines : Lines) (ps qs : List PassState) (old new : Option (List ℕ))
      (end : Result Totals JobError) : Type 0 where
    pub parts : ReadParts ps qs
    -- nothing in the texts was read past this place, which is the log's base if no pass has seen
    -- more of the log
    pub place : ℕ
    pub at_base : AllAtBase (base_of m.table) qs → place ≡ base_of m.table
    pub many : ℕ
    pub within : many ≤ chunk_count (blocks_in m rel fork)
    pub text : List ℕ
    pub texts : AreFirstTexts (IsTextBy (IsChunkText contents m rel fork lines) place) many text
    pub last : List ℕ
    pub ending : (last ≡ [])
        ⊎ ((many ≡ chunk_count (blocks_in m rel fork)) × MeetNothing ps qs
        × (last ≡ totals_line (reads_totals (items_in_all parts.claimed))))
    pub puts : Puts (text ++ last) old new (as_done end)
    -- the totals that the job answers are those of the line
    pub whole : IfOk end
        (λ totals. (many ≡ chunk_count (blocks_in m rel fork))
        × (last ≡ totals_line (reads_totals (items_in_all parts.claimed)))
        × (totals ≡ totals_of_scan (reads_totals (items_in_all parts.claimed))))

  -- some pass met the fault that ended the job
  abbrev pub AnyMeets : List PassState → List PassState → JobError → Type 0
  AnyMeets (p ∷ ps) (q ∷ qs) e = MeetsFault contents m rel fork p q e ⊎ AnyMeets ps qs e
  AnyMeets ps qs e = ⊥

  -- why a job ended before its end: one of the passes that work met a fault, or the work of the
  -- last one was refused, or the output failed, or there was no memory
  abbrev pub EndsJob : List PassState → List PassState → ℕ → ℕ → JobError → Type 0
  EndsJob ps qs outs outs_now e =
      (e ≡ Memory)
      ⊎ (AnyMeets (workers_in ps) (workers_in qs) e
      ⊎ (LastIsRefused contents m ps qs e ⊎ ((e ≡ OutFault) × Rose outs outs_now)))
