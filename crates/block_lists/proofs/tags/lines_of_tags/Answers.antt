use Rattle.block_lists.specs.Tags.{numbers_in}
use Rattle.block_lists.proofs.Ordered.{tag_line_more}
use Rattle.block_lists.proofs.tags.lines_of_tags.Goals as goal

pub loop-tag-preserved : goal.loop-tag-preserved
loop-tag-preserved c =
    let more = tag_line_more (numbers_in c.args.catalogue.now) c.args.tags.now c.loop-tag.tag-index _ c.loop-tag.lines.items c.append_tag.new.text.items c.loop-tag-test.true
    c.in_ok-append_tag.ensures.line c.in_ok-append_tag.ensures.good c.loop-tag.invariant.lines c.loop-tag.invariant.good in
    record { lines = more.0; good = more.1 }
