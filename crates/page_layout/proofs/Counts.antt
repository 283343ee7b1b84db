-- Counts of line pointers by state, one pointer more at a time.
use Rattle.std.proofs.Common.{◌≡◌, ◌+◌, ℕ, List, [], ◌∷◌, ◌++◌, refl, ◌∙◌, ap, cond, eqb, zero-add}
use Rattle.std.proofs.lemmas.List.Sums.{sum_by-append}
use Rattle.std.proofs.lemmas.List.FromFn.{map-range_with_len_more}
use Rattle.page_layout.specs.declared.page.Item.{Item}
use Rattle.page_layout.specs.Fields.{item_of, pointer_at}
use Rattle.page_layout.specs.Pointers.{count_of_state, counts_of_states, first_items, with_pointer}

count_of_state-push : (state : ℕ) (items : List Item) (i : Item) → count_of_state state (items ++ i ∷ []) ≡ count_of_state state items + cond (eqb i.state state) 1 0
count_of_state-push state items i =
    sum_by-append (λ (x : Item). cond (eqb x.state state) 1 0) items (i ∷ []) ∙ ap (λ (n : ℕ). count_of_state state items + n) (zero-add (cond (eqb i.state state) 1 0))

counts_of-push : (items : List Item) (i : Item) → counts_of_states (items ++ i ∷ []) ≡ with_pointer (counts_of_states items) i.state
counts_of-push items i = rw (count_of_state-push 1 items i, count_of_state-push 2 items i, count_of_state-push 3 items i, count_of_state-push 0 items i) refl

-- the counts of one pointer more
pub counts_of-first_items_more : (page : List ℕ) (n : ℕ) → counts_of_states (first_items page (n + 1)) ≡ with_pointer (counts_of_states (first_items page n)) (item_of (pointer_at page n)).state
counts_of-first_items_more page n =
    ap counts_of_states (map-range_with_len_more (λ k. item_of (pointer_at page k)) 0 n n (zero-add n)) ∙ counts_of-push (first_items page n) (item_of (pointer_at page n))
