use Rattle.std.proofs.Common.{rules}
use Rattle.std.proofs.lemmas.List.Sorted.{IsNonDecreasingBy-from_sort, answers_always}
use Rattle.backend_pass.specs.declared.marked.MarkedFrame.{MarkedFrame}
use Rattle.backend_pass.proofs.pass.Pass.sort_marked.Goals as goal

pub returns-clause-sorted : goal.returns-clause-sorted
returns-clause-sorted c = IsNonDecreasingBy-from_sort (λ (m : MarkedFrame). m.tag) _ (c.sort_unstable_by_key.ensures.sorted (λ (m : MarkedFrame). m.tag) (answers_always _ _ _ (λ f a r g h. search rules)))
