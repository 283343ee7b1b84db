-- Rounds of the background writer beside a job.
use Rattle.std.specs.Prelude.{◌≡◌, ℕ, zero, suc, ◌<◌, Option, Result, Ok, Err}
use Rattle.segment_store.specs.Contents.{Pages}
use Rattle.backend_pass.specs.declared.errors.FlushError.{FlushError}
use Rattle.backend_pass.specs.declared.manager.Manager.{Manager}
use Rattle.backend_pass.specs.Passes.{PassState}
use Rattle.bg_writer.specs.declared.reports.Round.{Round}
use Rattle.bg_writer.specs.Rounds.{Rounds}

module _ {L G : Type 0} (contents : L → Option Pages) (m : Manager L G) where
  -- this many rounds were made, one after the other, each to its end
  abbrev pub MadeRounds : ℕ → PassState → PassState → Type 0
  MadeRounds zero p q = q ≡ p
  MadeRounds (suc n) p q =
      (r : PassState) × MadeRounds n p r
      × ((done : Round) × Rounds contents m.table r.view q.view (Ok done))

  -- after the rounds that were made: they were all, or the next one was refused
  abbrev pub EndsRounds : ℕ → ℕ → PassState → PassState → Result Unit FlushError → Type 0
  EndsRounds rounds made p q (Ok done) = (made ≡ rounds) × (q ≡ p)
  EndsRounds rounds made p q (Err why) =
      (made < rounds) × Rounds contents m.table p.view q.view (Err why)

  -- All of the rounds were made, or those before one that was refused
  pub record MakesRounds (rounds : ℕ) (p q : PassState)
      (end : Result Unit FlushError) : Type 0 where
    pub made : ℕ
    pub pass : PassState
    pub all : MadeRounds made p pass
    pub ends : EndsRounds rounds made pass q end
