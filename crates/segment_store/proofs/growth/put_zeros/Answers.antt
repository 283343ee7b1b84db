use Rattle.std.proofs.Common.{◌≡◌, ◌+◌, ◌-◌, ◌*◌, arith}
use Rattle.segment_store.proofs.Growing.{zeros_put}
use Rattle.segment_store.proofs.growth.put_zeros.Goals as goal

pub returns : goal.returns
returns c =
    let start = 8192 * c.args.place in
    let size : start + 8192 - start ≡ 8192 = omega arith in
    zeros_put start (start + 8192 - start) c.args.bytes.now c.copy_from_slice.new.self size c.copy_from_slice.ensures.after
