use Rattle.std.proofs.Common.{◌∙◌, ℕ, subst, sym}
use Rattle.io_counts.specs.Found.{FoundMore}
use Rattle.page_jobs.proofs.FoundReads.{found_unsound}
use Rattle.page_jobs.proofs.reading.copy_if_sound.Goals as goal

pub returns-in-None-clause-found : goal.returns-in-None-clause-found
returns-in-None-clause-found g c = subst (λ (n : ℕ). FoundMore n c.args.pass.now.io c.copy_block.new.pass.io) (found_unsound c.in-Err.why c.in-Err.ensures.refused.once (sym c.fault_of.ensures ∙ c.in-None.is)) c.in-Err.ensures.found
