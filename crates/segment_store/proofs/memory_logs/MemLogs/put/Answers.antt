use Rattle.std.proofs.Common.{◌≡◌, subst}
use Rattle.std.specs.Prelude.{MatchResult}
use Rattle.byte_devices.specs.MemoryLog.{StoredLog}
use Rattle.segment_store.specs.Logs.{with_log}
use Rattle.segment_store.specs.MemoryLog.{logs_at}
use Rattle.segment_store.proofs.memory_logs.MemLogs.put.Goals as goal

pub returns-clause-files : goal.returns-clause-files
returns-clause-files c =
    subst (λ (log : StoredLog). MatchResult c.place.result (λ _. logs_at c.place.new.self.files.items ≡ with_log c.args.path.now log (logs_at c.args.self.now.files.items)) (λ _. c.place.new.self.files.items ≡ c.args.self.now.files.items))
    c.in_ok-log.ensures c.place.ensures.files
