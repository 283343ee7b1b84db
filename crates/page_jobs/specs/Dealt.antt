-- What the workers of a job begin with, and what became of them.
use Rattle.std.specs.Prelude.{◌≡◌, ◌⊎◌, ℕ, ◌+◌, ◌<◌, ◌≤◌, ◌^◌, Bool, false, MatchBool, List, []}
use Rattle.std.specs.Prelude.{◌∷◌, ◌++◌, Option, Some, Result, Ok, Err, OnOk, length, All}
use Rattle.std.specs.Prelude.{vec_capacity, vec_len}
use mathlib.Core.Option.{some}
use lib.ListN.{get_elem?}
use Rattle.chunk_claims.specs.declared.claimant.Claimant.{Claimant}
use Rattle.chunk_claims.specs.declared.claims.Claims.{Claims}
use Rattle.chunk_claims.specs.Claims.{SitsAt}
use Rattle.grid.specs.Shape.{total}
use Rattle.byte_devices.specs.Bytes.{Puts}
use Rattle.byte_devices.specs.Faults.{Rose}
use Rattle.text_window.specs.Texts.{AreFirstTexts}
use Rattle.page_layout.specs.declared.scan.ScanTotals.{ScanTotals}
use Rattle.page_layout.specs.Scan.{IsWithin, no_totals, sum_of_totals}
use Rattle.segment_store.specs.Contents.{Pages}
use Rattle.backend_pass.specs.declared.manager.Manager.{Manager}
use Rattle.backend_pass.specs.Passes.{PassState}
use Rattle.page_jobs.specs.declared.ending.JobError.{JobError}
use Rattle.page_jobs.specs.declared.ending.JobError.TheVariants.{Memory, OutFault}
use Rattle.page_jobs.specs.declared.listing.Lister.{Lister}
use Rattle.page_jobs.specs.declared.running.Dealt.{Dealt}
use Rattle.page_jobs.specs.declared.running.Ran.{Ran}
use Rattle.page_jobs.specs.declared.working.Worker.{Worker}
use Rattle.page_jobs.specs.Beside.{EndsBeside}
use Rattle.page_jobs.specs.Chunks.{chunk_count}
use Rattle.page_jobs.specs.Printed.{totals_line}
use Rattle.backend_pass.specs.Between.{HasNoTokens}
use Rattle.page_jobs.specs.Working.{CanBegin, ClaimsNothing, WorksChunks}

-- The claims of the first seat, with this many parts left to give
pub record IsDealing (chunks workers parts : ℕ) (c : Claimant) : Type 0 where
  pub chunks_are : c.chunks ≡ chunks
  pub workers_are : c.workers ≡ workers
  pub parts_are : c.parts ≡ parts
  pub past : c.past ≡ 0
  pub drawn : c.drawn ≡ []

-- A worker's seat as it begins, and once it has worked
pub record HasSeat {K : Type 0} (claims : Claims) (w : Worker K) : Type 0 where
  pub sits : SitsAt claims.table.shared.table_id w.seat
  pub claims_are : ClaimsNothing claims.chunks claims.workers w.seat.me.0

pub record HasWorkedSeat {K : Type 0} (claims : Claims) (w : Worker K) : Type 0 where
  pub sits : SitsAt claims.table.shared.table_id w.seat
  pub part : (w.seat.me.0.parts ≡ 1) × (w.seat.me.0.workers ≡ claims.workers)

-- what the numbers that all workers drew weigh
abbrev pub total_drawn : {K : Type 0} → (ℕ → ℕ) → List (Worker K) → ℕ
total_drawn g ws = total (λ w. total g w.seat.me.0.drawn) ws

module _ {K : Type 0} (begins : K → Type 0) (claims : Claims) where
  -- The worker has this pass, a seat, and a task that begins
  pub record IsDealt (number : ℕ) (p : PassState) (w : Worker K) : Type 0 where
    pub number_is : w.number ≡ number
    pub pass : w.pass ≡ p
    pub seat : HasSeat claims w
    pub task : begins w.task

  -- each pass has its worker, from this number on
  abbrev pub AreDealt : ℕ → List PassState → List (Worker K) → Type 0
  AreDealt number [] [] = Unit {0}
  AreDealt number [] (w ∷ ws) = ⊥
  AreDealt number (p ∷ ps) [] = ⊥
  AreDealt number (p ∷ ps) (w ∷ ws) = IsDealt number p w × AreDealt (number + 1) ps ws

module _ {K : Type 0} (begins : K → Type 0)
    (does : ℕ → PassState → PassState → K → K → Result Unit JobError → Type 0)
    (closes : ℕ → PassState → K → K → Result Unit JobError → Type 0) (n : ℕ) where
  -- the workers that the passes became have worked, on chunks of n blocks
  abbrev pub HaveDone : List PassState → List (Worker K) → Type 0
  HaveDone [] [] = Unit {0}
  HaveDone [] (x ∷ xs) = ⊥
  HaveDone (p ∷ ps) [] = ⊥
  HaveDone (p ∷ ps) (x ∷ xs) =
      ((k : K) × begins k × WorksChunks does closes n x.seat.me.0.drawn p x.pass k x.task x.end)
      × HaveDone ps xs

-- The passes are dealt out, with claims of the chunks of this many blocks
pub record IsDealtOut {K : Type 0} (begins : K → Type 0) (blocks : ℕ) (ps : List PassState)
    (d : Dealt K) : Type 0 where
  pub chunks : d.claims.chunks ≡ chunk_count blocks
  pub workers : d.claims.workers ≡ length ps
  pub sits : SitsAt d.claims.table.shared.table_id d.seat
  pub seat : IsDealing d.claims.chunks d.claims.workers 0 d.seat.me.0
  pub dealt : AreDealt begins d.claims 0 ps d.workers.items
  pub counted : length d.workers.items ≡ length ps

-- all of the workers ended well
abbrev pub AllDone : {K : Type 0} → List (Worker K) → Type 0
AllDone [] = Unit {0}
AllDone (w ∷ ws) = (w.end ≡ Ok tt) × AllDone ws

-- one of the workers ended with this error
abbrev pub AnyEnds : {K : Type 0} → JobError → List (Worker K) → Type 0
AnyEnds e [] = ⊥
AnyEnds e (w ∷ ws) = (w.end ≡ Err e) ⊎ AnyEnds e ws

-- the first of the workers that didn't end well ended with this error
abbrev pub EndsFirst : {K : Type 0} → JobError → List (Worker K) → Type 0
EndsFirst e [] = ⊥
EndsFirst e (w ∷ ws) = (w.end ≡ Err e) ⊎ ((w.end ≡ Ok tt) × EndsFirst e ws)

-- if the worker that stopped the job failed, this is how it ended
abbrev pub EndsAsStopper : {K : Type 0} → Option ℕ → List (Worker K) → Result Unit JobError → Type 0
EndsAsStopper {K = K} stopped_by ws end =
    (n : ℕ) (w : Worker K) (e : JobError) → stopped_by ≡ Some n → get_elem? ws n ≡ some w
    → w.end ≡ Err e → end ≡ Err e

-- the workers gave their tasks back to the job's, the last worker first
abbrev pub HaveJoined : {K : Type 0} → (K → K → K → Type 0) → List (Worker K) → K → K → Type 0
HaveJoined joins [] k l = l ≡ k
HaveJoined {K = K} joins (w ∷ ws) k l = (i : K) × HaveJoined joins ws k i × joins i w.task l

-- what they count, in all
abbrev pub job_totals : {N A : Type 0} → List (Worker (Lister N A)) → ScanTotals
job_totals [] = no_totals
job_totals (w ∷ ws) = sum_of_totals w.task.printed.totals (job_totals ws)

-- no number of theirs is above what their blocks can give
abbrev pub TotalsAreInRange : {N A : Type 0} → List (Worker (Lister N A)) → Type 0
TotalsAreInRange [] = Unit {0}
TotalsAreInRange (w ∷ ws) =
    IsWithin w.task.printed.totals w.task.printed.totals.blocks × TotalsAreInRange ws

-- how many texts they delivered, and how many of those they read past the log's base
abbrev pub total_delivered : {N A : Type 0} → List (Worker (Lister N A)) → ℕ
total_delivered ws = total (λ w. w.task.shares.delivered.amount) ws

abbrev pub total_above : {N A : Type 0} → List (Worker (Lister N A)) → ℕ
total_above ws = total (λ w. w.task.shares.above.amount) ws

-- At the end of a job the line of the totals was put, or a prefix of it, if no put had failed
-- before, and the workers and the work beside them had ended well; otherwise nothing
pub record PutsEnd (output : Bool) (worked beside : Result Unit JobError) (totals : ScanTotals)
    (old new : Option (List ℕ)) (end : Result Unit JobError) : Type 0 where
  pub last : List ℕ
  pub ending : (last ≡ [])
      ⊎ ((output ≡ false) × (worked ≡ Ok tt) × (beside ≡ Ok tt) × (last ≡ totals_line totals))
  pub puts : Puts last old new end
  pub whole : OnOk end (last ≡ totals_line totals)

-- Why no totals were put: a put had failed before, or this one did; or a worker had failed, the
-- work beside them was refused, or there was no memory
abbrev pub PutsNoEnd : Bool → Result Unit JobError → Result Unit JobError → ℕ → ℕ → JobError
    → Type 0
PutsNoEnd output worked beside outs outs_now e =
    ((e ≡ OutFault) × MatchBool output (outs_now ≡ outs) (Rose outs outs_now))
    ⊎ ((output ≡ false) × (outs_now ≡ outs)
    × ((e ≡ Memory) ⊎ ((worked ≡ Err e) ⊎ (beside ≡ Err e))))

-- What was put in all: a prefix of the texts of some first chunks, or of those of all chunks and
-- the line of the totals; all of these, if it ended well
pub record PutsAll {N A : Type 0} (texts : ℕ → List ℕ → Type 0) (ws : List (Worker (Lister N A)))
    (chunks : ℕ) (old new : Option (List ℕ)) (end : Result Unit JobError) : Type 0 where
  pub many : ℕ
  pub within : many ≤ chunks
  pub text : List ℕ
  pub texts_are : AreFirstTexts texts many text
  pub last : List ℕ
  pub ending : (last ≡ []) ⊎ ((many ≡ chunks) × AllDone ws × (last ≡ totals_line (job_totals ws)))
  pub puts : Puts (text ++ last) old new end
  pub whole : OnOk end ((many ≡ chunks) × (last ≡ totals_line (job_totals ws)))

module _ {L G : Type 0} (contents : L → Option Pages) (m : Manager L G) where
  -- A worker can begin: its pass has no token, its seat claimed nothing, and its task can count and
  -- can begin a chunk
  pub record IsReady {K : Type 0} (claims : Claims) (fits : K → ℕ → Type 0) (opens : K → Type 0)
      (w : Worker K) : Type 0 where
    pub free : HasNoTokens contents m w.pass
    pub seat : HasSeat claims w
    pub task : CanBegin fits w.task
    pub opened : opens w.task

  -- All passes but the last worked on chunks of n blocks, and the last one worked beside them: if its work ended well, it did this. There is room for all of them in the list that they
  -- were in, and their seats can be given back
  pub record HasRun {K : Type 0} (n : ℕ)
      (does : ℕ → PassState → PassState → K → K → Result Unit JobError → Type 0)
      (closes : ℕ → PassState → K → K → Result Unit JobError → Type 0) (begins : K → Type 0)
      (did : PassState → PassState → Type 0) (ps : List PassState) (ran : Ran K) : Type 0 where
    pub before : List PassState
    pub last : PassState
    pub split : ps ≡ before ++ last ∷ []
    pub done : HaveDone begins does closes n before ran.workers.items
    pub beside : EndsBeside contents m last ran.last ran.beside_end
    pub did_beside : OnOk ran.beside_end (did last ran.last)
    pub none : ran.passes.items ≡ []
    pub room : vec_len ran.workers < vec_capacity ran.passes
    pub chunks : ran.claims.chunks ≡ chunk_count n
    pub seats : All (HasWorkedSeat ran.claims) ran.workers.items
    pub many : vec_len ran.workers ≡ ran.claims.workers
    pub sits : SitsAt ran.claims.table.shared.table_id ran.seat
    pub seat : IsDealing ran.claims.chunks ran.claims.workers 0 ran.seat.me.0
    pub few : n < 2 ^ 32
