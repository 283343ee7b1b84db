use Rattle.std.proofs.Common.{◌∙◌, ap, sym, subst}
use Rattle.io_counts.specs.declared.contexts.ByContext.{ByContext}
use Rattle.io_counts.specs.Sums.{io_shown}
use Rattle.io_counts.specs.Tallies.{AreAllAtMost, last_io}
use Rattle.backend_pass.specs.Passes.{PassState, taken_in}
use Rattle.backend_pass.proofs.pass.Pass.io.Goals as goal

pub returns-clause-shown : goal.returns-clause-shown
returns-clause-shown c = c.shown.ensures ∙ ap io_shown (c.counted.ensures.counted ∙ ap (λ (p : PassState). p.io) c.self.view_is)

pub returns-clause-within : goal.returns-clause-within
returns-clause-within c = subst (λ (io : ByContext). AreAllAtMost io last_io) (ap (λ (p : PassState). p.io) c.self.view_is) c.counted.ensures.tally.within

pub returns-clause-taken : goal.returns-clause-taken
returns-clause-taken c none = ap (λ (p : PassState). p.view.cleared) (sym c.self.view_is) ∙ c.self.invariant.5.taken (ap (λ (p : PassState). taken_in p.io) c.self.view_is ∙ none)
