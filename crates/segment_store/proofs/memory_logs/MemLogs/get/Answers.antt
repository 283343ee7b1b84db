use Rattle.std.proofs.Common.{List, None, sym, ap, ◌∙◌}
use Rattle.std.specs.List.{position}
use Rattle.segment_store.specs.MemoryLog.{log_in_file, log_path}
use Rattle.segment_store.specs.declared.memory_logs.LogFile.{LogFile}
use Rattle.segment_store.proofs.FilesByPath.{has_path, is_first, read_first, read_none}
use Rattle.segment_store.proofs.memory_logs.MemLogs.get.Goals as goal

pub returns-in-Some : goal.returns-in-Some
returns-in-Some c =
    let files = c.args.self.now.files.items in
    let path = c.args.path.now in
    let first = is_first log_path path files c.in-Some.index (c.in-Some.ensures ∙ ap (λ (l : List LogFile). position (has_path log_path path) l) c.deref.ensures.value) in
    ap (λ (f : LogFile). log_in_file f) c.index.ensures
    ∙ sym (read_first log_path path log_in_file None files c.in-Some.index c.index.result.now first)

pub returns-in-None : goal.returns-in-None
returns-in-None c =
    let files = c.args.self.now.files.items in
    let path = c.args.path.now in
    sym (read_none log_path path log_in_file None files (c.in-None.ensures ∙ ap (λ (l : List LogFile). position (has_path log_path path) l) c.deref.ensures.value))
