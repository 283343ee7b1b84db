use Rattle.std.proofs.Common.{◌≡◌, ℕ, false, List, [], None, map, string_bytes, refl, ap, ◌∙◌}
use Rattle.std.specs.List.{position}
use Rattle.segment_store.specs.Lanes.{mark_in, tag_at}
use Rattle.segment_store.specs.MemoryHost.{bytes_of, file_path}
use Rattle.segment_store.specs.MemoryLane.{marks_of}
use Rattle.segment_store.specs.Paths.{fork_of}
use Rattle.segment_store.specs.declared.memory_file.MemFile.{MemFile}
use Rattle.segment_store.specs.declared.memory_lane.MemLane.{MemLane}
use Rattle.segment_store.proofs.FilesByPath.{first_named, has_path, is_first, read_absent, read_becomes, read_stays}
use Rattle.segment_store.proofs.FilesHeld.{rooms_stay}
use Rattle.segment_store.proofs.memory_host.MemHost.forget.Goals as goal

pub returns-in-Some-clause-contents : goal.returns-in-Some-clause-contents
returns-in-Some-clause-contents c =
    let files = c.args.self.now.files.items in
    let path = c.args.path.now in
    let was = c.index_mut.result.now in
    let other = c.forget.new.self in
    let first = is_first file_path path files c.in-Some.index (c.in-Some.ensures ∙ ap (λ (l : List MemFile). position (has_path file_path path) l) c.deref.ensures.value) in
    let named : string_bytes other.path ≡ path =
    ap (λ p. string_bytes p) c.forget.ensures.path ∙ ap (λ (f : MemFile). string_bytes f.path) c.index_mut.ensures.value ∙ first_named file_path path files c.in-Some.index was first in
    λ i p. read_stays file_path path (λ file. bytes_of file.segments.items) [] files c.in-Some.index other was p first named
    (ap (λ v. bytes_of v.items) c.forget.ensures.segments ∙ ap (λ (f : MemFile). bytes_of f.segments.items) c.index_mut.ensures.value) i

pub returns-in-Some-clause-failed : goal.returns-in-Some-clause-failed
returns-in-Some-clause-failed c =
    let files = c.args.self.now.files.items in
    let path = c.args.path.now in
    let was = c.index_mut.result.now in
    let other = c.forget.new.self in
    let first = is_first file_path path files c.in-Some.index (c.in-Some.ensures ∙ ap (λ (l : List MemFile). position (has_path file_path path) l) c.deref.ensures.value) in
    let named : string_bytes other.path ≡ path =
    ap (λ p. string_bytes p) c.forget.ensures.path ∙ ap (λ (f : MemFile). string_bytes f.path) c.index_mut.ensures.value ∙ first_named file_path path files c.in-Some.index was first in
    λ i p. read_becomes file_path path (λ file. λ block. mark_in (map marks_of file.returned.items) (tag_at (fork_of p) block)) (λ block. false) files c.in-Some.index other p (λ block. false) first named
    (λ same. ap (λ (l : List MemLane). λ (block : ℕ). mark_in (map marks_of l) (tag_at (fork_of p) block)) c.forget.ensures.returned) i

pub returns-in-Some-clause-room : goal.returns-in-Some-clause-room
returns-in-Some-clause-room c =
    let files = c.args.self.now.files.items in
    let path = c.args.path.now in
    let was = c.index_mut.result.now in
    let other = c.forget.new.self in
    let first = is_first file_path path files c.in-Some.index (c.in-Some.ensures ∙ ap (λ (l : List MemFile). position (has_path file_path path) l) c.deref.ensures.value) in
    let named : string_bytes other.path ≡ path =
    ap (λ p. string_bytes p) c.forget.ensures.path ∙ ap (λ (f : MemFile). string_bytes f.path) c.index_mut.ensures.value ∙ first_named file_path path files c.in-Some.index was first in
    rooms_stay path files c.in-Some.index was other first named c.index_mut.ensures.value c.forget.ensures.count c.forget.ensures.blocks

pub returns-in_default-clause-failed : goal.returns-in_default-clause-failed
returns-in_default-clause-failed c =
    let files = c.args.self.now.files.items in
    let path = c.args.path.now in
    let none : None ≡ position (has_path file_path path) files = c.in_default.ensures ∙ ap (λ (l : List MemFile). position (has_path file_path path) l) c.deref.ensures.value in
    λ i p. read_absent file_path path (λ file. λ block. mark_in (map marks_of file.returned.items) (tag_at (fork_of p) block)) (λ block. false) files p (λ block. false) none (λ same. refl) i
