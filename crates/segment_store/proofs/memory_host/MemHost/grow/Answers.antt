use Rattle.std.proofs.Common.{◌≡◌, ℕ, List, [], Some, None, map, string_bytes, sym, ap, ap₂, ◌∙◌}
use Rattle.std.specs.List.{position}
use Rattle.block_tag.specs.declared.tag.Fork.{Fork}
use Rattle.segment_store.specs.Growth.{grown}
use Rattle.segment_store.specs.MemoryFile.{file_room, room_at}
use Rattle.segment_store.specs.MemoryHost.{bytes_of, file_path, open_now, segments_at}
use Rattle.segment_store.specs.MemoryLane.{pages_of}
use Rattle.segment_store.specs.Paths.{fork_of}
use Rattle.segment_store.specs.declared.memory_file.MemFile.{MemFile}
use Rattle.segment_store.proofs.FilesByPath.{first_named, has_path, is_first, read_absent, read_becomes, read_first, read_none}
use Rattle.segment_store.proofs.FilesHeld.{grown_given, grown_none, marks_stay, rooms_stay}
use Rattle.segment_store.proofs.memory_host.MemHost.grow.Goals as goal

pub returns-in-Some-clause-contents : goal.returns-in-Some-clause-contents
returns-in-Some-clause-contents c =
    let files = c.args.self.now.files.items in
    let path = string_bytes c.args.self.now.open_path in
    let seg_blocks = c.args.self.now.open_seg_blocks in
    let room = room_at files path seg_blocks in
    let lanes = map (λ lane. Some (pages_of lane)) c.args.lanes.now in
    let was = c.index_mut.result.now in
    let other = c.grow.new.self in
    let found : Some c.in-Some.index ≡ position (has_path file_path path) files =
    c.in-Some.ensures ∙ ap₂ (λ (p : List ℕ) (l : List MemFile). position (has_path file_path p) l) c.deref-3.ensures c.deref-2.ensures.value in
    let first = is_first file_path path files c.in-Some.index found in
    let named : string_bytes other.path ≡ path =
    ap (λ p. string_bytes p) c.grow.ensures.same.path ∙ ap (λ (f : MemFile). string_bytes f.path) c.index_mut.ensures.value ∙ first_named file_path path files c.in-Some.index was first in
    let room_is : file_room was seg_blocks ≡ room =
    ap (λ (f : MemFile). file_room f seg_blocks) c.index_mut.ensures.value ∙ sym (read_first file_path path (λ file. file_room file seg_blocks) 0 files c.in-Some.index was first) in
    let bytes_are : bytes_of was.segments.items ≡ segments_at files path =
    ap (λ (f : MemFile). bytes_of f.segments.items) c.index_mut.ensures.value ∙ sym (read_first file_path path (λ file. bytes_of file.segments.items) [] files c.in-Some.index was first) in
    let put : bytes_of other.segments.items ≡ grown (fork_of path) seg_blocks room lanes (segments_at files path) =
    c.grow.ensures.segments
    ∙ ap (λ (f : Fork). grown f seg_blocks (file_room was seg_blocks) lanes (bytes_of was.segments.items)) (c.fork_of_path-fork.ensures ∙ ap (λ (p : List ℕ). fork_of p) c.deref.ensures)
    ∙ ap₂ (λ (n : ℕ) (l : List (List ℕ)). grown (fork_of path) seg_blocks n lanes l) room_is bytes_are in
    let now = λ (p : List ℕ). read_becomes file_path path (λ file. bytes_of file.segments.items) [] files c.in-Some.index other p (grown (fork_of path) seg_blocks room lanes (segments_at files p)) first named
    (λ same. put ∙ ap (λ (q : List ℕ). grown (fork_of path) seg_blocks room lanes (segments_at files q)) (sym same)) in
    (λ i p. now p i)
    ∙ sym (grown_given c.args.source.now c.is_none.result (open_now c.args.self.now) room lanes (segments_at files) c.is_none.ensures c.if-is_none.false)

pub returns-in-Some-clause-failed : goal.returns-in-Some-clause-failed
returns-in-Some-clause-failed c =
    let files = c.args.self.now.files.items in
    let path = string_bytes c.args.self.now.open_path in
    let was = c.index_mut.result.now in
    let other = c.grow.new.self in
    let found : Some c.in-Some.index ≡ position (has_path file_path path) files =
    c.in-Some.ensures ∙ ap₂ (λ (p : List ℕ) (l : List MemFile). position (has_path file_path p) l) c.deref-3.ensures c.deref-2.ensures.value in
    let first = is_first file_path path files c.in-Some.index found in
    let named : string_bytes other.path ≡ path =
    ap (λ p. string_bytes p) c.grow.ensures.same.path ∙ ap (λ (f : MemFile). string_bytes f.path) c.index_mut.ensures.value ∙ first_named file_path path files c.in-Some.index was first in
    marks_stay path files c.in-Some.index was other first named c.index_mut.ensures.value c.grow.ensures.same.returned

pub returns-in-Some-clause-room : goal.returns-in-Some-clause-room
returns-in-Some-clause-room c =
    let files = c.args.self.now.files.items in
    let path = string_bytes c.args.self.now.open_path in
    let was = c.index_mut.result.now in
    let other = c.grow.new.self in
    let found : Some c.in-Some.index ≡ position (has_path file_path path) files =
    c.in-Some.ensures ∙ ap₂ (λ (p : List ℕ) (l : List MemFile). position (has_path file_path p) l) c.deref-3.ensures c.deref-2.ensures.value in
    let first = is_first file_path path files c.in-Some.index found in
    let named : string_bytes other.path ≡ path =
    ap (λ p. string_bytes p) c.grow.ensures.same.path ∙ ap (λ (f : MemFile). string_bytes f.path) c.index_mut.ensures.value ∙ first_named file_path path files c.in-Some.index was first in
    rooms_stay path files c.in-Some.index was other first named c.index_mut.ensures.value c.grow.ensures.same.count c.grow.ensures.same.blocks

pub returns-in_default-clause-contents : goal.returns-in_default-clause-contents
returns-in_default-clause-contents c =
    let files = c.args.self.now.files.items in
    let path = string_bytes c.args.self.now.open_path in
    let seg_blocks = c.args.self.now.open_seg_blocks in
    let room = room_at files path seg_blocks in
    let lanes = map (λ lane. Some (pages_of lane)) c.args.lanes.now in
    let none : None ≡ position (has_path file_path path) files =
    c.in_default.ensures ∙ ap₂ (λ (p : List ℕ) (l : List MemFile). position (has_path file_path p) l) c.deref-3.ensures c.deref-2.ensures.value in
    let nothing : grown (fork_of path) seg_blocks room lanes (segments_at files path) ≡ [] =
    grown_none (fork_of path) seg_blocks room lanes (segments_at files path)
    (read_none file_path path (λ file. file_room file seg_blocks) 0 files none)
    (read_none file_path path (λ file. bytes_of file.segments.items) [] files none) in
    let now = λ (p : List ℕ). read_absent file_path path (λ file. bytes_of file.segments.items) [] files p (grown (fork_of path) seg_blocks room lanes (segments_at files p)) none
    (λ same. sym (ap (λ (q : List ℕ). grown (fork_of path) seg_blocks room lanes (segments_at files q)) same ∙ nothing)) in
    (λ i p. now p i)
    ∙ sym (grown_given c.args.source.now c.is_none.result (open_now c.args.self.now) room lanes (segments_at files) c.is_none.ensures c.if-is_none.false)
