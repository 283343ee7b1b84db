use Rattle.std.proofs.Common.{◌≡◌, arith}
use Rattle.table_tests.proofs.window_tests.run_over.Goals as goal

pub finish-sink-requires : goal.finish-sink-requires
finish-sink-requires g c =
    let delivered : c.open-delivered.result.1.parts ≡ 2 = omega arith in
    let above : c.open-above.result.1.parts ≡ 2 = omega arith in
    let left = c.split-worker.ensures.left 1 record { parts = (delivered, above); amounts = (c.open-delivered.ensures.amount, c.open-above.ensures.amount) } in
    record { parts = (omega (arith, left.parts.0), omega (arith, left.parts.1)) }
