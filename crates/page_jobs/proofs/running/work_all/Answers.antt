use denote.Exit.{no}
use denote.Param.Send.{IsSync, arg_sync, param_sync, shr_sync}
use Rattle.backend_pass.proofs.Crossing.{globals_shared, managers_shared}
use Rattle.page_jobs.proofs.Crossing.{blocks_shared, claims_shared, seven_shared}
use Rattle.page_jobs.proofs.running.work_all.Lts.{arg-2-2}
use Rattle.page_jobs.proofs.running.work_all.Goals as goal

pub for_each_mut-requires-sync-F : goal.for_each_mut-requires-sync-F
for_each_mut-requires-sync-F g c κs within =
    let X = arg-2-2 g.row.L g.row.G g.row.R g.row.T g.row.W g.row.K g.L.laws g.G.laws g.R.laws g.T.laws g.W.laws g.K.laws g.L.BlockLane g.L.BlockLane-dict g.G.LogDevice g.G.LogDevice-dict g.R.Threads g.R.Threads-dict g.R.Wait g.R.Wait-dict g.T.Gate g.T.Gate-dict g.K.BlockTask g.K.BlockTask-dict κs in
    let s : IsSync X = arg_sync _ no _ (seven_shared _ _ _ _ _ _ _ _ (shr_sync _ _ _ (managers_shared _ _ g.L.BlockLane _ c.type_bounds.send-L c.type_bounds.send-G)) (shr_sync _ _ _ c.type_bounds.sync-R) (shr_sync _ _ _ globals_shared) (shr_sync _ _ _ c.type_bounds.sync-T) (shr_sync _ _ _ c.type_bounds.sync-W) (shr_sync _ _ _ (blocks_shared _)) (shr_sync _ _ _ claims_shared)) in
    param_sync 2 X s
