use Rattle.std.proofs.Common.{◌≡◌, ◌≤◌, length}
use Rattle.std.specs.Prelude.{All, vec_capacity}
use Rattle.page_jobs.specs.JobBlocks.{IsInside}
use Rattle.list_tests.proofs.loading.list_blocks.Given as goal

abbrev pub invariant-loop-number : goal.invariant-loop-number
invariant-loop-number g l = record {
  inside : All (IsInside {L = g.row.L.Denot} {G = g.row.G.Denot} l.manager) l.tags.items;
  few : length l.tags.items ≤ l.number-index;
  capacity : vec_capacity l.tags ≡ vec_capacity l.fn.tags;
}
