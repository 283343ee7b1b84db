use denote.Exit.{no}
use denote.Param.Send.{IsSend, param_send, arg_send, mut_send, shr_send}
use Rattle.backend_pass.proofs.Crossing.{globals_shared, passes_sent, six_sent}
use Rattle.manager_bench.proofs.Crossing.{numbers_shared}
use Rattle.manager_tests.proofs.Crossing.{managers_shared}
use Rattle.manager_tests.proofs.sharing.copy_beside.Lts.{arg-0-1}
use Rattle.manager_tests.proofs.sharing.copy_beside.Goals as goal

pub join_mut-changes-requires-send-F : goal.join_mut-changes-requires-send-F
join_mut-changes-requires-send-F g c = λ κs b.
    let X = arg-0-1 g.row.R g.R.laws g.R.Threads-dict g.R.Wait-dict κs in
    let s : IsSend X = arg_send _ no _ (six_sent _ _ _ _ _ _ _ (shr_send _ _ _ (managers_shared _)) (shr_send _ _ _ c.type_bounds.sync-R) (mut_send _ _ _ passes_sent) (mut_send _ _ _ passes_sent) (shr_send _ _ _ numbers_shared) (shr_send _ _ _ globals_shared)) in
    param_send 1 X s
