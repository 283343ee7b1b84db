use Rattle.std.proofs.Common.{List, All, subst, sym}
use Rattle.block_tag.specs.declared.tag.Tag.{Tag}
use Rattle.block_lists.specs.Tags.{IsNamedIn}
use Rattle.block_lists.proofs.Ordered.{all_ordered}
use Rattle.block_lists.proofs.tags.put_tags.Goals as goal

pub lines_of_tags-requires : goal.lines_of_tags-requires
lines_of_tags-requires c =
    subst (λ (tags : List Tag). All (IsNamedIn c.args.catalogue.now) tags) (sym c.as_slice.ensures.value)
    (all_ordered (IsNamedIn c.args.catalogue.now) c.args.tags.now c.in_ok-listed.listed.items c.in_ok-listed.ensures c.requires)
