use Rattle.std.proofs.Common.{ℕ, length, min, sym, ◌∙◌, ap, arith, zero-add}
use Rattle.segment_store.specs.MemoryHost.{bytes_of}
use Rattle.segment_store.specs.Relation.{segment_pages}
use Rattle.segment_store.proofs.Growing.{count_first, count_none, count_rest, length-relation}
use Rattle.segment_store.proofs.growth.count_blocks.Goals as goal

pub loop-rest-init : goal.loop-rest-init
loop-rest-init c =
    let pages = length (segment_pages c.args.seg_blocks (bytes_of c.args.segments.now)) in
    record {
      counted = ap (λ (n : ℕ). min 4294967295 n) (zero-add pages) ∙ sym (length-relation c.args.seg_blocks (bytes_of c.args.segments.now));
      fits = omega arith;
    }

pub returns-then-whole-seg_blocks : goal.returns-then-whole-seg_blocks
returns-then-whole-seg_blocks c =
    let counted = count_first c.args.seg_blocks c.loop-rest.rest.now c.segment-item.result c.segment-item.is (omega arith) (omega arith) in
    omega arith

pub loop-rest-preserved : goal.loop-rest-preserved
loop-rest-preserved c =
    let counted = count_rest c.args.seg_blocks c.loop-rest.rest.now c.segment-item.result c.segment-item.is (omega arith) (omega arith) in
    record { counted = omega arith; fits = omega arith }

pub returns : goal.returns
returns c =
    let none = count_none c.args.seg_blocks c.loop-rest.rest.now c.in_default.len_below in
    omega arith
