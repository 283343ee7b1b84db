use Rattle.std.proofs.Common.{◌≡◌, ◌+◌, ◌*◌, ◌/◌, ◌<◌, ◌≤◌, [], List, ℕ, get_or, set, length, sym, ◌∙◌, ap, subst, arith, vec_capacity}
use Rattle.std.proofs.Math.Nat.{mul-le-mul_left}
use Rattle.std.proofs.lemmas.List.{get_or-map, length-map, map-set}
use Rattle.block_tag.specs.Names.{place_in_segment}
use Rattle.segment_store.specs.Growth.{new_page_at}
use Rattle.segment_store.specs.MemoryHost.{bytes_of}
use Rattle.segment_store.proofs.FileRoom.{within_room}
use Rattle.segment_store.proofs.Growing.{page_added}
use Rattle.segment_store.proofs.memory_file.MemFile.add_page.Goals as goal

pub nonzero_div-index : goal.nonzero_div-index
nonzero_div-index c = (within_room c.args.self.now c.args.seg_blocks c.args.block c.requires.room).some

pub make_segment-requires-clause-few : goal.make_segment-requires-clause-few
make_segment-requires-clause-few c = (within_room c.args.self.now c.args.seg_blocks c.args.block c.requires.room).segment

pub nonzero_rem-block : goal.nonzero_rem-block
nonzero_rem-block c = (within_room c.args.self.now c.args.seg_blocks c.args.block c.requires.room).some

pub put_new_page-requires : goal.put_new_page-requires
put_new_page-requires c =
    let index = c.args.block / c.args.seg_blocks in
    let file = c.make_segment.new.self in
    let segment = c.index_mut.result.now in
    let stands = within_room c.args.self.now c.args.seg_blocks c.args.block c.requires.room in
    let within : index < length file.segments.items = omega (arith, file.segments.ok.0, c.make_segment.ensures.there) in
    let roomy : 8192 * file.blocks ≤ vec_capacity segment =
    subst (λ s. 8192 * file.blocks ≤ vec_capacity s) (sym c.index_mut.ensures.value) (file.roomy index segment within) in
    let place = stands.place in
    let blocks = c.make_segment.ensures.same.blocks in
    omega arith

pub returns-clause-segments : goal.returns-clause-segments
returns-clause-segments c =
    let index = c.args.block / c.args.seg_blocks in
    let file = c.make_segment.new.self in
    let made = bytes_of file.segments.items in
    let within : index < length file.segments.items = omega (arith, file.segments.ok.0, c.make_segment.ensures.there) in
    let counted : length made ≡ length file.segments.items = length-map file.segments.items _ in
    let was : c.index_mut.result.now.items ≡ get_or made index [] =
    ap (λ v. v.items) c.index_mut.ensures.value ∙ sym (get_or-map (λ v. v.items) file.segments.items index c.index_mut.result.now [] within) in
    let put = map-set (λ v. v.items) file.segments.items index c.put_new_page.new.segment
    ∙ ap (λ (bytes : List ℕ). set made index bytes)
    (c.put_new_page.ensures.bytes ∙ ap (λ (bytes : List ℕ). new_page_at (place_in_segment c.args.seg_blocks c.args.block) bytes) was) in
    page_added c.args.seg_blocks c.args.block (bytes_of c.args.self.now.segments.items) made _ (omega arith)
    c.make_segment.ensures.before c.make_segment.ensures.at c.make_segment.ensures.behind put

pub returns-clause-there : goal.returns-clause-there
returns-clause-there c =
    let index = c.args.block / c.args.seg_blocks in
    let some = (within_room c.args.self.now c.args.seg_blocks c.args.block c.requires.room).some in
    let there : index + 1 ≤ c.make_segment.new.self.segments.len = omega (arith, c.make_segment.ensures.there) in
    let up = mul-le-mul_left c.args.seg_blocks there in
    omega arith
