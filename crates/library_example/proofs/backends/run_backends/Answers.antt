use denote.Exit.{no}
use denote.Param.Send.{IsSync, arg_sync, param_sync, shr_sync}
use Rattle.backend_pass.proofs.Crossing.{globals_shared, managers_shared}
use Rattle.library_example.proofs.Crossing.{errors_shared, four_shared}
use Rattle.library_example.proofs.backends.run_backends.Lts.{arg-1-2}
use Rattle.library_example.proofs.backends.run_backends.Goals as goal

pub for_each_mut-requires-sync-F : goal.for_each_mut-requires-sync-F
for_each_mut-requires-sync-F g c κs within =
    let X = arg-1-2 g.row.L g.row.G g.row.R g.L.laws g.G.laws g.R.laws g.L.BlockLane g.L.BlockLane-dict g.G.LogDevice g.G.LogDevice-dict g.R.Threads g.R.Threads-dict g.R.Wait g.R.Wait-dict κs in
    let s : IsSync X = arg_sync _ no _ (four_shared _ _ _ _ _ (shr_sync _ _ _ (managers_shared _ _ g.L.BlockLane _ c.type_bounds.send-L c.type_bounds.send-G)) (shr_sync _ _ _ c.type_bounds.sync-R) (shr_sync _ _ _ globals_shared) (shr_sync _ _ _ errors_shared)) in
    param_sync 2 X s
