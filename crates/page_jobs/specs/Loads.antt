-- What a load of listed blocks does.
use Rattle.std.specs.Prelude.{◌≡◌, ℕ, ◌⊎◌, List, ◌∷◌, ◌++◌, length, Option, Some}
use Rattle.std.specs.Prelude.{Result, Ok, Err}
use mathlib.Core.Option.{some}
use lib.ListN.{get_elem?}
use Rattle.block_tag.specs.declared.tag.Tag.{Tag}
use Rattle.block_tag.specs.Names.{packed_tag}
use Rattle.segment_store.specs.Contents.{Pages}
use Rattle.frame_table.specs.Seats.{HasResident, OnlyRises}
use Rattle.io_counts.specs.Found.{FoundMore}
use Rattle.buffer_frames.specs.Fetching.{WasUnsoundAtOpening}
use Rattle.buffer_frames.specs.Tokens.{no_tokens}
use Rattle.backend_pass.specs.declared.errors.ReadError.{ReadError}
use Rattle.backend_pass.specs.declared.manager.Manager.{Manager}
use Rattle.backend_pass.specs.Passes.{KeepsMark, PassState}
use Rattle.backend_pass.specs.Reading.{ReadingRefused, met_read_refused}
use Rattle.page_jobs.specs.declared.ending.JobError.{JobError}
use Rattle.page_jobs.specs.declared.ending.JobError.TheVariants.{Memory}
use Rattle.page_jobs.specs.Beside.{LastIsRefused}
use Rattle.page_jobs.specs.Chunks.{AreAllClaimed, AreFirstClaimed, Claimed, CoversChunks}
use Rattle.page_jobs.specs.Chunks.{blocks_in_all}
use Rattle.page_jobs.specs.Jobs.{workers_in}
use Rattle.page_jobs.specs.Reads.{EndsAtRead, Stays, StopsAt, fault_of_refusal}

-- each pass's mark is as it was
abbrev pub MarksStay : List PassState → List PassState → Type 0
MarksStay ps qs =
    (w : ℕ) (p q : PassState) → get_elem? ps w ≡ some p → get_elem? qs w ≡ some q → KeepsMark p q

module _ {L G : Type 0} (contents : L → Option Pages) (m : Manager L G) where
  -- the pass has seen the block in a frame, and lists it; or its page wasn't sound as the table was
  -- opened, if that is known
  abbrev pub HasTaken : Tag → PassState → Type 0
  HasTaken tag q =
      ((f : ℕ) × HasResident f (packed_tag tag) q.view) ⊎ WasUnsoundAtOpening contents m.table tag

  -- What a load of some blocks leaves of a pass: it is the same one, without tokens, with its mark
  -- and its content locks as they were, and no page was copied
  pub record LoadsOn (p q : PassState) : Type 0 where
    pub stays : Stays contents m p q
    pub spent : q.tokens ≡ no_tokens
    pub calls : q.view.calls ≡ p.view.calls

  -- The block was read and released, or its page isn't sound, and no fault was met
  pub record TakesBlock (tag : Tag) (p q : PassState) : Type 0 where
    pub loads : LoadsOn p q
    pub took : HasTaken tag q
    pub met : q.view.met ≡ p.view.met

  -- a worker read the block and counted it once; or its read was refused, as the error says
  abbrev pub LoadsBlock : Tag → PassState → PassState → Result Unit JobError → Type 0
  LoadsBlock tag p q (Ok done) = TakesBlock tag p q × FoundMore 1 p.io q.io
  LoadsBlock tag p q (Err e) = StopsAt contents m tag p q e

  -- A read of the block was refused, for a reason that the error names, and the pass has met that
  -- fault, and no other
  pub record MeetsFaultAt (tag : Tag) (p q : PassState) (e : JobError) : Type 0 where
    pub why : ReadError
    pub fault : fault_of_refusal why ≡ Some e
    pub before : PassState
    pub since : OnlyRises p.view before.view
    pub refused : ReadingRefused contents m.table tag before q why
    -- if a lane failed to read the block, no device was called after that
    pub last : EndsAtRead contents m tag q why
    pub met : q.view.met ≡ met_read_refused why p.view.met

  module _ (tags : List Tag) where
    -- the tags at these places of the list were taken
    abbrev pub AreTaken : List ℕ → PassState → Type 0
    AreTaken places q =
        (k i : ℕ) (tag : Tag) → get_elem? places k ≡ some i → get_elem? tags i ≡ some tag
        → HasTaken tag q

    -- A read of one of the listed blocks was refused, so that the pass met this fault
    pub record MeetsListed (p q : PassState) (e : JobError) : Type 0 where
      pub place : ℕ
      pub tag : Tag
      pub listed : get_elem? tags place ≡ some tag
      pub meets : MeetsFaultAt tag p q e

    -- The pass took tags of the chunks that it claimed, one chunk after the other, each to its end
    -- but maybe the last one: the items are the places of these tags in the list
    pub record LoadsPart (c : Claimed ℕ) (p q : PassState) : Type 0 where
      pub loads : LoadsOn p q
      pub rest : List ℕ
      pub order : blocks_in_all (length tags) c.chunks ≡ c.items ++ rest
      pub took : AreTaken c.items q
      pub covers : CoversChunks (length tags) c

    -- The passes claimed the first chunks, each once, and each pass took tags of those that it
    -- claimed
    pub record LoadsParts (ps qs : List PassState) : Type 0 where
      pub counted : length qs ≡ length ps
      pub claimed : List (Claimed ℕ)
      pub listed : length claimed ≡ length ps
      pub each : (w : ℕ) (p q : PassState) (c : Claimed ℕ) → get_elem? ps w ≡ some p
          → get_elem? qs w ≡ some q → get_elem? claimed w ≡ some c → LoadsPart c p q
      -- each pass met no fault; or it met this one, and read nothing after that
      pub ended : (w : ℕ) (p q : PassState) → get_elem? ps w ≡ some p → get_elem? qs w ≡ some q
          → (q.view.met ≡ p.view.met) ⊎ ((e : JobError) × MeetsListed p q e)
      pub once : AreFirstClaimed (length tags) claimed

    -- The pass took all tags of its chunks, and met no fault. It counted each once, as a hit or as
    -- a read
    pub record LoadsWhole (c : Claimed ℕ) (p q : PassState) : Type 0 where
      pub part : LoadsPart c p q
      pub whole : c.items ≡ blocks_in_all (length tags) c.chunks
      pub met : q.view.met ≡ p.view.met
      pub found : FoundMore (length c.items) p.io q.io

    -- All tags of the list were taken, each chunk by one pass, and no fault was met
    pub record LoadsAll (ps qs : List PassState) : Type 0 where
      pub claimed : List (Claimed ℕ)
      pub listed : length claimed ≡ length ps
      pub each : (w : ℕ) (p q : PassState) (c : Claimed ℕ) → get_elem? ps w ≡ some p
          → get_elem? qs w ≡ some q → get_elem? claimed w ≡ some c → LoadsWhole c p q
      pub all : AreAllClaimed (length tags) claimed

    -- some pass met the fault that ended the load
    abbrev pub AnyMeetsListed : List PassState → List PassState → JobError → Type 0
    AnyMeetsListed (p ∷ ps) (q ∷ qs) e = MeetsListed p q e ⊎ AnyMeetsListed ps qs e
    AnyMeetsListed ps qs e = ⊥

    -- why a load ended before its end: one of the passes that work met a fault, or the work of the
    -- last one was refused, or there was no memory
    abbrev pub EndsLoad : List PassState → List PassState → JobError → Type 0
    EndsLoad ps qs e =
        (e ≡ Memory)
        ⊎ (AnyMeetsListed (workers_in ps) (workers_in qs) e ⊎ LastIsRefused contents m ps qs e)
