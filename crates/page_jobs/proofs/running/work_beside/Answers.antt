use denote.Exit.{no}
use denote.Param.Send.{IsSend, arg_send, mut_send, param_send, shr_send}
use Rattle.std.proofs.Crossing.{Vec-send}
use Rattle.backend_pass.proofs.Crossing.{globals_shared, managers_shared}
use Rattle.page_jobs.proofs.Crossing.{blocks_shared, claims_shared, eight_sent, workers_sent}
use Rattle.page_jobs.proofs.running.work_beside.Lts.{arg-0-1}
use Rattle.page_jobs.proofs.running.work_beside.Goals as goal

pub join_mut-end-requires-send-F : goal.join_mut-end-requires-send-F
join_mut-end-requires-send-F g c κs within =
    let X = arg-0-1 g.row.L g.row.G g.row.R g.row.T g.row.B g.row.W g.row.K g.L.laws g.G.laws g.R.laws g.T.laws g.B.laws g.W.laws g.K.laws g.L.BlockLane g.L.BlockLane-dict g.G.LogDevice g.G.LogDevice-dict g.R.Threads g.R.Threads-dict g.R.Wait g.R.Wait-dict g.T.Gate g.T.Gate-dict g.B.Beside g.B.Beside-dict g.K.BlockTask g.K.BlockTask-dict κs in
    let s : IsSend X = arg_send _ no _ (eight_sent _ _ _ _ _ _ _ _ _ (shr_send _ _ _ (managers_shared _ _ g.L.BlockLane _ c.type_bounds.send-L c.type_bounds.send-G)) (shr_send _ _ _ c.type_bounds.sync-R) (shr_send _ _ _ globals_shared) (shr_send _ _ _ c.type_bounds.sync-T) (shr_send _ _ _ c.type_bounds.sync-W) (shr_send _ _ _ (blocks_shared _)) (shr_send _ _ _ claims_shared) (mut_send _ _ _ (Vec-send _ (workers_sent _ c.type_bounds.send-K)))) in
    param_send 1 X s
