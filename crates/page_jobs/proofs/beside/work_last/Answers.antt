use Rattle.page_jobs.proofs.BesideWork.{work_is_refused}
use Rattle.page_jobs.proofs.beside.work_last.Goals as goal

pub returns-in-Err : goal.returns-in-Err
returns-in-Err g c =
    let e = c.in-Err.ensures in
    record {
      ends = record {
        works = record { belongs = e.belongs; same = e.same; callers = e.callers; mark = e.mark };
        met = tt;
        cause = work_is_refused {L = g.row.L.Denot} {G = g.row.G.Denot} g.L.BlockLane.contents c.args.manager.now c.in-Err.why c.fault_of_flush.result c.args.last.now c.work.new.pass e.cause c.fault_of_flush.ensures;
      };
      works = tt;
    }
