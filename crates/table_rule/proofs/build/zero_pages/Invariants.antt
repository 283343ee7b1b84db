use Rattle.std.proofs.Common.{◌≡◌, replicate}
use Rattle.page_core.specs.State.{zero_page}
use Rattle.table_rule.proofs.build.zero_pages.Given as goal

abbrev pub invariant-loop : goal.invariant-loop
invariant-loop l = l.pages.items ≡ replicate l.counter zero_page
