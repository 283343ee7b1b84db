use Rattle.std.proofs.Common.{◌≡◌, ℕ, List, Option, Some, None, option_map, string_bytes, sym, ap, ap₂, ◌∙◌}
use Rattle.std.specs.List.{position}
use Rattle.byte_devices.specs.MemoryLog.{StoredLog, as_stored}
use Rattle.segment_store.specs.MemoryLog.{log_in_file, log_path, logs_at}
use Rattle.segment_store.specs.declared.memory_logs.LogFile.{LogFile}
use Rattle.segment_store.proofs.FilesByPath.{first_named, has_path, is_first, read_absent, read_becomes, read_first, read_none}
use Rattle.segment_store.proofs.memory_logs.MemLogs.take_back.Goals as goal

pub returns-in-Some-clause-files : goal.returns-in-Some-clause-files
returns-in-Some-clause-files c =
    let files = c.args.self.now.files.items in
    let path = string_bytes c.args.self.now.open_path in
    let was = c.index_mut.result.now in
    let other : LogFile = record { path = was.path; log = c.args.log } in
    let given : Option StoredLog → Option StoredLog = λ o. option_map (λ _. as_stored c.args.log) o in
    let found : Some c.in-Some.index ≡ position (has_path log_path path) files =
    c.in-Some.ensures ∙ ap₂ (λ (p : List ℕ) (l : List LogFile). position (has_path log_path p) l) c.deref-2.ensures c.deref.ensures.value in
    let first = is_first log_path path files c.in-Some.index found in
    let named : string_bytes other.path ≡ path = ap (λ (f : LogFile). string_bytes f.path) c.index_mut.ensures.value ∙ first_named log_path path files c.in-Some.index was first in
    λ i p. read_becomes log_path path log_in_file None files c.in-Some.index other p (given (logs_at files p)) first named
    (λ same. sym (ap (λ (q : List ℕ). given (logs_at files q)) same ∙ ap given (read_first log_path path log_in_file None files c.in-Some.index was first))) i

pub returns-in_default-clause-files : goal.returns-in_default-clause-files
returns-in_default-clause-files c =
    let files = c.args.self.now.files.items in
    let path = string_bytes c.args.self.now.open_path in
    let given : Option StoredLog → Option StoredLog = λ o. option_map (λ _. as_stored c.args.log) o in
    let none : None ≡ position (has_path log_path path) files =
    c.in_default.ensures ∙ ap₂ (λ (p : List ℕ) (l : List LogFile). position (has_path log_path p) l) c.deref-2.ensures c.deref.ensures.value in
    λ i p. read_absent log_path path log_in_file None files p (given (logs_at files p)) none
    (λ same. sym (ap (λ (q : List ℕ). given (logs_at files q)) same ∙ ap given (read_none log_path path log_in_file None files none))) i
