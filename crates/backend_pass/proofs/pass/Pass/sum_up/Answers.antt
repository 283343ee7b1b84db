use Rattle.std.proofs.Common.{◌≡◌, ◌∙◌, ap, sym, subst}
use Rattle.io_counts.specs.declared.contexts.ByContext.{ByContext}
use Rattle.io_counts.specs.Sums.{AreAllSmall, io_sum}
use Rattle.io_counts.specs.Tallies.{AreAllAtMost, last_io}
use Rattle.io_counts.proofs.Small.{small_within}
use Rattle.backend_pass.specs.Passes.{PassState, taken_in}
use Rattle.backend_pass.proofs.pass.Pass.sum_up.Goals.{After-counted}
use Rattle.backend_pass.proofs.pass.Pass.sum_up.Goals as goal

-- what the pass counts is what it counted before it published
counted : (g : _) (c : goal.After-counted g) → c.counted.result ≡ c.args.self.now.io
counted g c = c.counted.ensures.counted ∙ ap (λ (p : PassState). p.io) (c.self.view_is ∙ c.publish_at.ensures.new)

pub add-requires-clause-other : goal.add-requires-clause-other
add-requires-clause-other g c = subst AreAllSmall (sym c.counted.ensures.counted) (small_within _ c.counted.ensures.tally.within)

pub returns-clause-sum : goal.returns-clause-sum
returns-clause-sum g c = c.add.ensures ∙ ap (io_sum c.args.io.now) (counted g (goal.at.returns-clause-sum g c).After-counted)

pub returns-clause-within : goal.returns-clause-within
returns-clause-within g c = subst (λ (io : ByContext). AreAllAtMost io last_io) (ap (λ (p : PassState). p.io) (c.self.view_is ∙ c.publish_at.ensures.new)) c.counted.ensures.tally.within

pub returns-clause-taken : goal.returns-clause-taken
returns-clause-taken g c none = ap (λ (p : PassState). p.view.cleared) (sym (c.self.view_is ∙ c.publish_at.ensures.new)) ∙ c.self.invariant.5.taken (ap (λ (p : PassState). taken_in p.io) (c.self.view_is ∙ c.publish_at.ensures.new) ∙ none)
