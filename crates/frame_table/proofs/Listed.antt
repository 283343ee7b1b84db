-- The blocks that are there are those of the catalogue.
use Rattle.std.proofs.Common.{◌≡◌, ℕ, Bool, true, nat_lt, List, sym, refl, ap, ◌∙◌, subst}
use Rattle.block_tag.specs.declared.catalogue.RelEntry.{RelEntry}
use Rattle.pin_core.specs.State.{tag_block, tag_fork, is_below}
use Rattle.pin_core.specs.State.{is_block as is_there}
use Rattle.history_core.specs.State.{State}
use Rattle.history_core.specs.Laws.{Laws}
use Rattle.history_core.specs.Log.{Change, resize, is_of_page}
use Rattle.history_core.proofs.Sizes.{sizes_still}
use Rattle.history_core.proofs.Stepping.{plain}
use Rattle.table_rule.specs.declared.opening.Opening.{Opening}
use Rattle.table_rule.specs.Blocks.{is_block}
use Rattle.table_rule.specs.Shows.{Devices, KeepsOpening}
use Rattle.table_rule.proofs.Sizes.{below_sizes}

module _ {L G : Type 0} (d : Devices L G) (o : Opening L G) where
  -- forks don't grow or shrink
  pub listed_there : (s : State) → KeepsOpening d o s → Laws s → (word : ℕ) → is_there s.pool.core word ≡ is_block o.catalog.value word
  listed_there s h laws word = ap (nat_lt (tag_block word)) (laws.invariant.sizes (tag_fork word) ∙ sizes_still s.log.entries s.opened_sizes (tag_fork word) (λ k e at g old new z. not_resize e.change g old new z (plain s laws.invariant k e at)))
      ∙ ap (λ (g : ℕ → ℕ). is_below g word) h.sizes ∙ below_sizes o.catalog.value word
    where
      not_resize : (c : Change) (g old new : ℕ) → c ≡ resize g old new → is_of_page c ≡ true → ⊥
      not_resize c g old new z t = absurd (let none : is_of_page (resize g old new) ≡ true = subst (λ (x : Change). is_of_page x ≡ true) z t in cc)
