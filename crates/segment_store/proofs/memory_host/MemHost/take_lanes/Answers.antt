use Rattle.std.proofs.Common.{◌≡◌, ℕ, false, List, [], Some, None, map, string_bytes, sym, ap, ap₂, ◌∙◌}
use Rattle.std.specs.List.{position}
use Rattle.block_tag.specs.declared.tag.Fork.{Fork}
use Rattle.segment_store.specs.Lanes.{mark_in, tag_at}
use Rattle.segment_store.specs.MemoryHost.{bytes_of, file_path, segments_at}
use Rattle.segment_store.specs.MemoryLane.{marks_of, pages_of}
use Rattle.segment_store.specs.Paths.{fork_of}
use Rattle.segment_store.specs.Restored.{given_back}
use Rattle.segment_store.specs.declared.memory_file.MemFile.{MemFile}
use Rattle.segment_store.proofs.FilesByPath.{first_named, has_path, is_first, read_absent, read_becomes, read_first, read_none}
use Rattle.segment_store.proofs.FilesHeld.{rooms_stay}
use Rattle.segment_store.proofs.GivenBack.{given_back_none}
use Rattle.segment_store.proofs.memory_host.MemHost.take_lanes.Goals as goal

pub returns-in-Some-clause-contents : goal.returns-in-Some-clause-contents
returns-in-Some-clause-contents c =
    let files = c.args.self.now.files.items in
    let path = string_bytes c.args.self.now.open_path in
    let seg_blocks = c.args.self.now.open_seg_blocks in
    let lanes = map (λ lane. Some (pages_of lane)) c.args.lanes.items in
    let was = c.index_mut.result.now in
    let other = c.take_back.new.self in
    let found : Some c.in-Some.index ≡ position (has_path file_path path) files =
    c.in-Some.ensures ∙ ap₂ (λ (p : List ℕ) (l : List MemFile). position (has_path file_path p) l) c.deref-3.ensures c.deref-2.ensures.value in
    let first = is_first file_path path files c.in-Some.index found in
    let named : string_bytes other.path ≡ path =
    ap (λ p. string_bytes p) c.take_back.ensures.path ∙ ap (λ (f : MemFile). string_bytes f.path) c.index_mut.ensures.value ∙ first_named file_path path files c.in-Some.index was first in
    let put : bytes_of other.segments.items ≡ given_back (fork_of path) seg_blocks lanes (segments_at files path) =
    c.take_back.ensures.segments
    ∙ ap₂ (λ (f : Fork) (l : List (List ℕ)). given_back f seg_blocks lanes l)
    (c.fork_of_path-fork.ensures ∙ ap (λ (p : List ℕ). fork_of p) c.deref.ensures)
    (ap (λ (f : MemFile). bytes_of f.segments.items) c.index_mut.ensures.value
    ∙ sym (read_first file_path path (λ file. bytes_of file.segments.items) [] files c.in-Some.index was first)) in
    λ i p. read_becomes file_path path (λ file. bytes_of file.segments.items) [] files c.in-Some.index other p (given_back (fork_of path) seg_blocks lanes (segments_at files p)) first named
    (λ same. put ∙ ap (λ (q : List ℕ). given_back (fork_of path) seg_blocks lanes (segments_at files q)) (sym same)) i

pub returns-in-Some-clause-failed : goal.returns-in-Some-clause-failed
returns-in-Some-clause-failed c there =
    let files = c.args.self.now.files.items in
    let path = string_bytes c.args.self.now.open_path in
    let was = c.index_mut.result.now in
    let other = c.take_back.new.self in
    let found : Some c.in-Some.index ≡ position (has_path file_path path) files =
    c.in-Some.ensures ∙ ap₂ (λ (p : List ℕ) (l : List MemFile). position (has_path file_path p) l) c.deref-3.ensures c.deref-2.ensures.value in
    let first = is_first file_path path files c.in-Some.index found in
    let named : string_bytes other.path ≡ path =
    ap (λ p. string_bytes p) c.take_back.ensures.path ∙ ap (λ (f : MemFile). string_bytes f.path) c.index_mut.ensures.value ∙ first_named file_path path files c.in-Some.index was first in
    λ i p. read_becomes file_path path (λ file. λ block. mark_in (map marks_of file.returned.items) (tag_at (fork_of p) block)) (λ block. false) files c.in-Some.index other p
    (λ block. mark_in (map marks_of c.args.lanes.items) (tag_at (fork_of path) block)) first named
    (λ same. ap (λ v. λ (block : ℕ). mark_in (map marks_of v.items) (tag_at (fork_of p) block)) c.take_back.ensures.returned
    ∙ ap (λ (q : List ℕ). λ (block : ℕ). mark_in (map marks_of c.args.lanes.items) (tag_at (fork_of q) block)) same) i

pub returns-in-Some-clause-room : goal.returns-in-Some-clause-room
returns-in-Some-clause-room c =
    let files = c.args.self.now.files.items in
    let path = string_bytes c.args.self.now.open_path in
    let was = c.index_mut.result.now in
    let other = c.take_back.new.self in
    let found : Some c.in-Some.index ≡ position (has_path file_path path) files =
    c.in-Some.ensures ∙ ap₂ (λ (p : List ℕ) (l : List MemFile). position (has_path file_path p) l) c.deref-3.ensures c.deref-2.ensures.value in
    let first = is_first file_path path files c.in-Some.index found in
    let named : string_bytes other.path ≡ path =
    ap (λ p. string_bytes p) c.take_back.ensures.path ∙ ap (λ (f : MemFile). string_bytes f.path) c.index_mut.ensures.value ∙ first_named file_path path files c.in-Some.index was first in
    rooms_stay path files c.in-Some.index was other first named c.index_mut.ensures.value c.take_back.ensures.count c.take_back.ensures.blocks

pub returns-in_default-clause-contents : goal.returns-in_default-clause-contents
returns-in_default-clause-contents c =
    let files = c.args.self.now.files.items in
    let path = string_bytes c.args.self.now.open_path in
    let seg_blocks = c.args.self.now.open_seg_blocks in
    let lanes = map (λ lane. Some (pages_of lane)) c.args.lanes.items in
    let none : None ≡ position (has_path file_path path) files =
    c.in_default.ensures ∙ ap₂ (λ (p : List ℕ) (l : List MemFile). position (has_path file_path p) l) c.deref-3.ensures c.deref-2.ensures.value in
    λ i p. read_absent file_path path (λ file. bytes_of file.segments.items) [] files p (given_back (fork_of path) seg_blocks lanes (segments_at files p)) none
    (λ same. sym (ap (λ (q : List ℕ). given_back (fork_of path) seg_blocks lanes (segments_at files q)) same
    ∙ ap (λ (l : List (List ℕ)). given_back (fork_of path) seg_blocks lanes l) (read_none file_path path (λ file. bytes_of file.segments.items) [] files none)
    ∙ given_back_none (fork_of path) seg_blocks lanes)) i

pub returns-in_default-clause-failed : goal.returns-in_default-clause-failed
returns-in_default-clause-failed c there =
    let files = c.args.self.now.files.items in
    let path = string_bytes c.args.self.now.open_path in
    let none : None ≡ position (has_path file_path path) files =
    c.in_default.ensures ∙ ap₂ (λ (p : List ℕ) (l : List MemFile). position (has_path file_path p) l) c.deref-3.ensures c.deref-2.ensures.value in
    absurd (there (read_none file_path path (λ file. bytes_of file.segments.items) [] files none))
