use Rattle.std.proofs.Common.{refl, drop, ◌≡◌, ◌+◌, ◌-◌, ◌/◌, min, ℕ, List, [], Some, length, map, get_or, set, sym, ◌∙◌, ap, arith, subst}
use Rattle.std.proofs.lemmas.List.{map-set, length-map, get_or-map}
use Rattle.std.specs.Vec.{with_items}
use Rattle.segment_store.specs.MemoryHost.{bytes_of}
use Rattle.segment_store.specs.MemoryLane.{pages_of}
use Rattle.segment_store.proofs.PutBlocks.{take_prefix}
use Rattle.segment_store.proofs.Space.{capacities_stay}
use Rattle.segment_store.proofs.PutSegments.{IsUnderway, WritesNext, last_put, next_put}
use Rattle.segment_store.proofs.restore.give_blocks_back.Goals as goal

pub returns-then-count-seg_blocks-clause-bytes : goal.returns-then-count-seg_blocks-clause-bytes
returns-then-count-seg_blocks-clause-bytes c =
    let segments = c.loop-index.segments in
    let index = c.loop-index.index in
    let lanes = map (λ lane. Some (pages_of lane)) c.args.lanes.now in
    let size : length (bytes_of segments) ≡ length segments = length-map segments _ in
    let bytes_are : c.as_mut_slice.result.now ≡ get_or (bytes_of segments) index [] =
    c.as_mut_slice.ensures.value ∙ sym (get_or-map _ segments index c.index-segments-index.result [] (omega arith)) in
    let count_is : c.min-count.result ≡ min (min (length c.as_mut_slice.result.now / 8192) c.args.seg_blocks) (4294967295 - c.loop-index.first) =
    c.min-count.ensures ∙ ap (λ (n : ℕ). min n (4294967295 - c.loop-index.first))
    (c.min.ensures ∙ ap (λ (n : ℕ). min (n / 8192) c.args.seg_blocks) (c.len-whole.ensures ∙ sym c.as_mut_slice.ensures.len)) in
    let writes : WritesNext c.args.fork lanes c.args.seg_blocks (bytes_of c.args.segments.now) (bytes_of segments) index c.loop-index.first c.min-count.result c.as_mut_slice.result.now c.put_blocks.new.bytes =
    record { within = omega arith; bytes_are = bytes_are; count_is = count_is; written_is = c.put_blocks.ensures } in
    let segment = get_or segments index c.index-segments-index.result in
    let items_are : (with_items segment c.put_blocks.new.bytes).items ≡ c.put_blocks.new.bytes =
    take_prefix c.put_blocks.new.bytes (drop (length c.put_blocks.new.bytes) segment.items) segment.len (c.put_blocks.auto.bytes ∙ c.as_mut_slice.ensures.len) in
    let put = map-set _ segments index (with_items segment c.put_blocks.new.bytes) ∙ ap (λ (l : List ℕ). set (bytes_of segments) index l) items_are in
    put ∙ last_put c.args.fork lanes c.args.seg_blocks (bytes_of c.args.segments.now) (bytes_of segments) index c.loop-index.first c.min-count.result c.as_mut_slice.result.now c.put_blocks.new.bytes writes c.loop-index.invariant.bytes (omega arith)

pub returns-then-count-seg_blocks-clause-capacities : goal.returns-then-count-seg_blocks-clause-capacities
returns-then-count-seg_blocks-clause-capacities c =
    let segments = c.loop-index.segments in
    let index = c.loop-index.index in
    let segment = get_or segments index c.index-segments-index.result in
    capacities_stay segments index c.index-segments-index.result (with_items segment c.put_blocks.new.bytes) (omega arith) refl
    ∙ c.loop-index.invariant.capacities

pub loop-index-preserved : goal.loop-index-preserved
loop-index-preserved c =
    let segments = c.loop-index.segments in
    let index = c.loop-index.index in
    let lanes = map (λ lane. Some (pages_of lane)) c.args.lanes.now in
    let size : length (bytes_of segments) ≡ length segments = length-map segments _ in
    let bytes_are : c.as_mut_slice.result.now ≡ get_or (bytes_of segments) index [] =
    c.as_mut_slice.ensures.value ∙ sym (get_or-map _ segments index c.index-segments-index.result [] (omega arith)) in
    let count_is : c.min-count.result ≡ min (min (length c.as_mut_slice.result.now / 8192) c.args.seg_blocks) (4294967295 - c.loop-index.first) =
    c.min-count.ensures ∙ ap (λ (n : ℕ). min n (4294967295 - c.loop-index.first))
    (c.min.ensures ∙ ap (λ (n : ℕ). min (n / 8192) c.args.seg_blocks) (c.len-whole.ensures ∙ sym c.as_mut_slice.ensures.len)) in
    let writes : WritesNext c.args.fork lanes c.args.seg_blocks (bytes_of c.args.segments.now) (bytes_of segments) index c.loop-index.first c.min-count.result c.as_mut_slice.result.now c.put_blocks.new.bytes =
    record { within = omega arith; bytes_are = bytes_are; count_is = count_is; written_is = c.put_blocks.ensures } in
    let segment = get_or segments index c.index-segments-index.result in
    let items_are : (with_items segment c.put_blocks.new.bytes).items ≡ c.put_blocks.new.bytes =
    take_prefix c.put_blocks.new.bytes (drop (length c.put_blocks.new.bytes) segment.items) segment.len (c.put_blocks.auto.bytes ∙ c.as_mut_slice.ensures.len) in
    let put = map-set _ segments index (with_items segment c.put_blocks.new.bytes) ∙ ap (λ (l : List ℕ). set (bytes_of segments) index l) items_are in
    let capacity = capacities_stay segments index c.index-segments-index.result (with_items segment c.put_blocks.new.bytes) (omega arith) refl in
    record {
      bytes =
          subst (λ (now : List (List ℕ)). IsUnderway c.args.fork lanes c.args.seg_blocks (bytes_of c.args.segments.now) now (index + 1) (c.loop-index.first + c.min-count.result))
          (sym put)
          (next_put c.args.fork lanes c.args.seg_blocks (bytes_of c.args.segments.now) (bytes_of segments) index c.loop-index.first c.min-count.result c.as_mut_slice.result.now c.put_blocks.new.bytes writes c.loop-index.invariant.bytes (omega arith));
      capacities = capacity ∙ c.loop-index.invariant.capacities;
    }
