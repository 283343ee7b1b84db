use Rattle.std.proofs.lemmas.Result.{on_ok_weaker}
use Rattle.sample_relation.specs.Samples.{header_bytes}
use Rattle.sample_relation.proofs.Joined.{joined}
use Rattle.sample_relation.proofs.put_header.Goals as goal

pub returns : goal.returns
unfolding header_bytes
returns c =
    let e2 = joined c.in_ok-put_u32.ensures c.in_ok-put_u32-2.ensures in
    let e3 = joined e2 c.in_ok-put_u16.ensures in
    let e4 = joined e3 c.in_ok-put_u16-2.ensures in
    let e5 = joined e4 c.in_ok-put_u16-3.ensures in
    let e6 = joined e5 c.in_ok-put_u16-4.ensures in
    let e7 = joined e6 c.in_ok-put_u16-5.ensures in
    let e8 = joined e7 c.in_ok-put_u16-6.ensures in
    on_ok_weaker c.put_u32-3.result (joined e8) c.put_u32-3.ensures
