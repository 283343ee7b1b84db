use Rattle.std.proofs.Common.{◌≡◌, ◌≤◌, ◌+◌, ◌++◌, replicate}
use Rattle.std.specs.Prelude.{vec_len, vec_capacity}
use Rattle.table_rule.specs.declared.value.Value.TheVariants as value
use Rattle.page_core.specs.State.{zero_page}
use Rattle.table_rule.proofs.build.put_pages.Given as goal

abbrev pub invariant-loop-page : goal.invariant-loop-page
invariant-loop-page g l = record {
  done : l.slots.items ++ replicate (vec_len l.pages) (value.Page zero_page) ≡ l.fn.slots.items ++ replicate (vec_len l.initial.pages) (value.Page zero_page);
  zero : l.pages.items ≡ replicate (vec_len l.pages) zero_page;
  count : vec_len l.slots + vec_len l.pages ≡ vec_len l.fn.slots + vec_len l.initial.pages;
  room : vec_capacity l.fn.slots ≤ vec_capacity l.slots;
}

abbrev pub decreases-loop-page : goal.decreases-loop-page
decreases-loop-page g l = goal.left-loop-page g l
