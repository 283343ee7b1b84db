use Rattle.std.specs.Prelude.{Some}
use Rattle.table_tests.proofs.window_tests.run.Given as goal

abbrev pub ghosts-run_over-N-Naming : goal.ghosts-run_over-N-Naming
ghosts-run_over-N-Naming a = record {
  texts = λ place chunk text. Unit {0};
  job = record { chunks = 5; width = 4; base = 0; before = Some a.sink.bytes; faults = a.sink.faults.count };
}

abbrev pub ghosts-run_over-N-Ledger : goal.ghosts-run_over-N-Ledger
ghosts-run_over-N-Ledger a = record { name = a.delivered.name; parts = a.delivered.parts }

abbrev pub ghosts-run_over-A-Ledger : goal.ghosts-run_over-A-Ledger
ghosts-run_over-A-Ledger a = record { name = a.above.name; parts = a.above.parts }
