use Rattle.std.proofs.Common.{◌<◌, ◌≤◌, ◌∙◌, length, arith}
use Rattle.log_recovery.proofs.Taking.{next_found, no_record_left, no_record_there, takes_all}
use Rattle.log_recovery.proofs.redo.next_image.Goals as goal

pub returns-then-count-lt-IMAGE_SIZE-clause-none : goal.returns-then-count-lt-IMAGE_SIZE-clause-none
returns-then-count-lt-IMAGE_SIZE-clause-none g c = let short : c.in_ok-count.count < length c.args.bytes.now = omega (arith, c.told-bytes, c.if-count-lt-IMAGE_SIZE.true) in
    λ is. no_record_left c.args.catalog.now c.args.from c.in_ok-count.count c.fill.new.piece _ _ c.in_ok-count.ensures.taken (c.in_ok-count.ensures.end short) c.if-count-lt-IMAGE_SIZE.true

pub returns-clause-some : goal.returns-clause-some
returns-clause-some g c = let most : c.in_ok-count.count ≤ 8224 = omega (arith, c.told-bytes, c.in_ok-count.ensures.within) in
    next_found c.args.catalog.now c.args.from c.image_in.result c.image_in.new.page c.fill.new.piece _ _ (c.in_ok-count.ensures.size ∙ c.told-bytes)
    (takes_all c.in_ok-count.count 8224 _ _ _ most c.if-count-lt-IMAGE_SIZE.false c.in_ok-count.ensures.taken) c.image_in.ensures.block c.image_in.ensures.some

pub returns-clause-none : goal.returns-clause-none
returns-clause-none g c = let most : c.in_ok-count.count ≤ 8224 = omega (arith, c.told-bytes, c.in_ok-count.ensures.within) in
    λ is. no_record_there c.args.catalog.now c.args.from c.fill.new.piece _ _ (c.in_ok-count.ensures.size ∙ c.told-bytes)
    (takes_all c.in_ok-count.count 8224 _ _ _ most c.if-count-lt-IMAGE_SIZE.false c.in_ok-count.ensures.taken) (c.image_in.ensures.none is)
