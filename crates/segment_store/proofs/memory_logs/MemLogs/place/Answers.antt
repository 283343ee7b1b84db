use Rattle.std.proofs.Common.{◌≡◌, [], ◌∷◌, ◌++◌, List, Some, None, string_bytes, refl, ap, ◌∙◌}
use Rattle.std.specs.List.{position}
use Rattle.segment_store.specs.Logs.{with_log}
use Rattle.byte_devices.specs.MemoryLog.{as_stored}
use Rattle.segment_store.specs.MemoryLog.{log_in_file, log_path, logs_at}
use Rattle.segment_store.specs.declared.memory_logs.LogFile.{LogFile}
use Rattle.segment_store.proofs.FilesByPath.{first_named, has_path, is_first, read_becomes, read_pushed}
use Rattle.segment_store.proofs.memory_logs.MemLogs.place.Goals as goal

pub returns-in-Some-clause-files : goal.returns-in-Some-clause-files
returns-in-Some-clause-files c =
    let files = c.args.self.now.files.items in
    let path = c.args.path.now in
    let was = c.index_mut.result.now in
    let other : LogFile = record { path = was.path; log = c.args.log } in
    let first = is_first log_path path files c.in-Some.index (c.in-Some.ensures ∙ ap (λ (l : List LogFile). position (has_path log_path path) l) c.deref.ensures.value) in
    let named : string_bytes other.path ≡ path = ap (λ (f : LogFile). string_bytes f.path) c.index_mut.ensures.value ∙ first_named log_path path files c.in-Some.index was first in
    λ i p. read_becomes log_path path log_in_file None files c.in-Some.index other p (Some (as_stored c.args.log)) first named (λ same. refl) i

pub returns-clause-files : goal.returns-clause-files
returns-clause-files c =
    let files = c.args.self.now.files.items in
    let path = c.args.path.now in
    let other : LogFile = record { path = c.in_ok-path.path; log = c.args.log } in
    let none : None ≡ position (has_path log_path path) files = c.in_default.ensures ∙ ap (λ (l : List LogFile). position (has_path log_path path) l) c.deref.ensures.value in
    let pushed : logs_at (files ++ other ∷ []) ≡ with_log path (as_stored c.args.log) (logs_at files) =
    λ i p. read_pushed log_path path log_in_file None files other p none c.in_ok-path.ensures.ok i in
    ap (λ (l : List LogFile). logs_at l) c.in_ok-push.ensures.items ∙ pushed
