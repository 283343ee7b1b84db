-- The line pointers of a page, and how many there are of each state.
use Rattle.std.specs.Prelude.{ℕ, ◌+◌, ◌==◌, List, map, count_by, if◌then◌else◌}
use Rattle.std.specs.List.{range_with_len}
use Rattle.page_layout.specs.declared.page.Item.{Item}
use Rattle.page_layout.specs.declared.summary.PointerCounts.{PointerCounts}
use Rattle.page_layout.specs.Fields.{item_count, item_of, pointer_at}

-- the first n line pointers
abbrev pub first_items : List ℕ → ℕ → List Item
first_items page n = map (λ place. item_of (pointer_at page place)) (range_with_len 0 n)

-- all of them
abbrev pub items_of : List ℕ → List Item
items_of page = first_items page (item_count page)

-- how many are in this state: 0 unused, 1 normal, 2 redirect, 3 dead
abbrev pub count_of_state : ℕ → List Item → ℕ
count_of_state state items = count_by (λ i. i.state == state) items

abbrev pub counts_of_states : List Item → PointerCounts
counts_of_states items = record {
  normal = count_of_state 1 items;
  redirect = count_of_state 2 items;
  dead = count_of_state 3 items;
  unused = count_of_state 0 items;
}

-- how many there are in all
abbrev pub total_of : PointerCounts → ℕ
total_of p = p.normal + p.redirect + p.dead + p.unused

-- the counts with one line pointer more, of this state
abbrev pub with_pointer : PointerCounts → ℕ → PointerCounts
with_pointer p state = record {
  normal = p.normal + (if state == 1 then 1 else 0);
  redirect = p.redirect + (if state == 2 then 1 else 0);
  dead = p.dead + (if state == 3 then 1 else 0);
  unused = p.unused + (if state == 0 then 1 else 0);
}
