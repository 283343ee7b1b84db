use Rattle.std.proofs.Common.{ℕ, List, length, arith, ap, sym, subst, ◌∙◌}
use Rattle.std.proofs.lemmas.List.{take_at}
use Rattle.std.proofs.lemmas.List.Sorted.{IsNonDecreasingBy-from_sort}
use Rattle.page_layout.specs.Compact.{AreSortedKeys}
use Rattle.page_layout.proofs.Compactable.{count_fits}
use Rattle.page_layout.proofs.Keys.{sorted_keys}
use Rattle.page_layout.proofs.page.Page.sorted_keys.Goals as goal

pub returns : goal.returns
returns c =
    let page = c.args.self.now in
    let few = count_fits page c.requires in
    let value = c.deref_mut.ensures.value in
    let sort = c.sort_unstable.ensures in
    let all = sorted_keys page c.deref_mut.result.now c.sort_unstable.new.self (value ∙ c.item_keys-keys.ensures) sort.permutation (IsNonDecreasingBy-from_sort (λ x. x) _ sort.sorted) (omega arith) in
    subst (λ (l : List ℕ). AreSortedKeys page l) (sym (take_at c.sort_unstable.new.self _ _ (sort.len ∙ ap length value))) all
