use Rattle.std.proofs.Common.{◌≡◌, ◌-◌, ◌*◌, ◌≤◌, ℕ, List, Some, Vec, Global, length, map, sym, ◌∙◌, ap, ap₂, subst, arith, vec_len}
use Rattle.std.proofs.lemmas.List.{length-map}
use Rattle.segment_store.specs.Growth.{extended, last_held}
use Rattle.segment_store.specs.MemoryFile.{file_room}
use Rattle.segment_store.specs.MemoryHost.{bytes_of}
use Rattle.segment_store.specs.MemoryLane.{pages_of}
use Rattle.segment_store.specs.Relation.{relation_of}
use Rattle.segment_store.proofs.Growing.{few_blocks, last_within}
use Rattle.segment_store.proofs.memory_file.MemFile.grow.Goals as goal

pub extend-requires-clause-room : goal.extend-requires-clause-room
extend-requires-clause-room c =
    let held = map (λ lane. Some (pages_of lane)) c.args.lanes.now in
    let within = last_within c.args.fork held c.room.result in
    omega (arith, c.last_held-end.ensures, c.room.ensures)

pub extend-requires-clause-next : goal.extend-requires-clause-next
extend-requires-clause-next c =
    let segments = c.args.self.now.segments in
    let few = few_blocks c.args.seg_blocks (bytes_of segments.items) in
    let size : length (bytes_of segments.items) ≡ vec_len segments = length-map segments.items _ ∙ sym segments.ok.0 in
    let most : length (relation_of c.args.seg_blocks (bytes_of segments.items)) ≤ c.args.seg_blocks * vec_len segments =
    subst (λ (n : ℕ). length (relation_of c.args.seg_blocks (bytes_of segments.items)) ≤ c.args.seg_blocks * n) size few in
    let blocks : c.count_blocks-blocks.result ≡ length (relation_of c.args.seg_blocks (bytes_of segments.items)) =
    c.count_blocks-blocks.ensures ∙ ap (λ (l : List (Vec ℕ Global)). length (relation_of c.args.seg_blocks (bytes_of l))) c.deref.ensures.value in
    omega arith

pub returns-clause-segments : goal.returns-clause-segments
returns-clause-segments c =
    let held = map (λ lane. Some (pages_of lane)) c.args.lanes.now in
    let segments = bytes_of c.args.self.now.segments.items in
    let blocks : c.count_blocks-blocks.result ≡ length (relation_of c.args.seg_blocks segments) =
    c.count_blocks-blocks.ensures ∙ ap (λ (l : List (Vec ℕ Global)). length (relation_of c.args.seg_blocks (bytes_of l))) c.deref.ensures.value in
    let end : c.last_held-end.result ≡ last_held c.args.fork held (file_room c.args.self.now c.args.seg_blocks) =
    c.last_held-end.ensures ∙ ap (λ (n : ℕ). last_held c.args.fork held n) c.room.ensures in
    c.extend.ensures.segments ∙ ap₂ (λ (from upto : ℕ). extended c.args.seg_blocks from (upto - from) segments) blocks end
