use Rattle.std.proofs.Common.{ℕ, List, [], Vec, Global, sym, ap, ◌∙◌}
use Rattle.std.specs.List.{position}
use Rattle.segment_store.specs.MemoryHost.{bytes_of, file_path}
use Rattle.segment_store.specs.declared.memory_file.MemFile.{MemFile}
use Rattle.segment_store.proofs.FilesByPath.{has_path, is_first, read_first, read_none}
use Rattle.segment_store.proofs.memory_host.MemHost.segments.Goals as goal

pub returns-in-Some : goal.returns-in-Some
returns-in-Some c =
    let files = c.args.self.now.files.items in
    let path = c.args.path.now in
    let first = is_first file_path path files c.in-Some.index (c.in-Some.ensures ∙ ap (λ (l : List MemFile). position (has_path file_path path) l) c.deref.ensures.value) in
    ap (λ (l : List (Vec ℕ Global)). bytes_of l) (c.as_slice.ensures.value ∙ ap (λ (f : MemFile). f.segments.items) c.index.ensures)
    ∙ sym (read_first file_path path (λ file. bytes_of file.segments.items) [] files c.in-Some.index c.index.result.now first)

pub returns-in-None : goal.returns-in-None
returns-in-None c =
    let files = c.args.self.now.files.items in
    let path = c.args.path.now in
    sym (read_none file_path path (λ file. bytes_of file.segments.items) [] files (c.in-None.ensures ∙ ap (λ (l : List MemFile). position (has_path file_path path) l) c.deref.ensures.value))
