use Rattle.std.proofs.Common.{◌≡◌, List, Some, ap}
use Rattle.std.specs.Prelude.{Err, MatchResult, Ok, Result}
use Rattle.segment_store.specs.Logs.{Logs}
use Rattle.segment_store.specs.MemoryLog.{logs_at}
use Rattle.segment_store.specs.declared.memory_logs.LogFile.{LogFile}
use Rattle.segment_store.proofs.memory_host.MemHostHost.log.Goals as goal

known : {T E : Type 0} (result : Result T E) (new old : List LogFile) (opened : Logs) → MatchResult result (λ _. logs_at new ≡ opened) (λ _. new ≡ old)
    → MatchResult result (λ _. Some (logs_at new) ≡ Some opened) (λ _. Some (logs_at new) ≡ Some (logs_at old))
known (Ok log) new old opened is = ap (λ (logs : Logs). Some logs) is
known (Err error) new old opened is = ap (λ (files : List LogFile). Some (logs_at files)) is

pub returns-clause-logs : goal.returns-clause-logs
returns-clause-logs c = known c.open.result c.open.new.self.files.items c.args.self.now.logs.files.items _ c.open.ensures.files
