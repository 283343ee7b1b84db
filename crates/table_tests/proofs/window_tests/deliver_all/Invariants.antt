use Rattle.text_window.specs.Shares.{KeepsParts}
use Rattle.table_tests.proofs.window_tests.deliver_all.Given as goal

abbrev pub invariant-loop-chunk : goal.invariant-loop-chunk
invariant-loop-chunk g l = record { parts : KeepsParts l.fn.mine l.mine }
