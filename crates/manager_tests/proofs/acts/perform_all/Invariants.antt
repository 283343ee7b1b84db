use Rattle.manager_bench.specs.Bench.{IsFreeIn}
use Rattle.manager_tests.proofs.acts.perform_all.Given as goal

abbrev pub invariant-loop-next : goal.invariant-loop-next
invariant-loop-next g l = record {
  first : IsFreeIn l.fn.manager 0 l.first;
  second : IsFreeIn l.fn.manager 1 l.second;
  third : IsFreeIn l.fn.manager 2 l.third;
}
