use Rattle.std.proofs.Common.{List, arith, subst}
use Rattle.block_tag.specs.declared.catalogue.RelEntry.{RelEntry}
use Rattle.block_tag.specs.declared.tag.Tag.{Tag}
use Rattle.block_lists.specs.Tags.{ListsTags}
use Rattle.frame_table.specs.Seats.{relations_of}
use Rattle.pool_residents.proofs.Listed.{lists_noted}
use Rattle.pool_residents.proofs.Notes.{all_named}
use Rattle.pool_residents.proofs.listing.residents.Goals as goal

pub put_tags-requires : goal.put_tags-requires
put_tags-requires g c = all_named (relations_of c.args.manager.now.table) c.catalog.result.now c.in_ok-tags.tags.items c.as_slice.result.now c.catalog.ensures c.as_slice.ensures.value c.in_ok-tags.ensures.blocks

pub returns-clause-listed : goal.returns-clause-listed
returns-clause-listed g c =
    let sized = c.args.manager.now.sized in
    let long = c.in_ok-tags.tags.ok.0 in
    let few = c.in_ok-tags.ensures.few in
    let lists : ListsTags (relations_of c.args.manager.now.table) c.in_ok-tags.tags.items c.args.list.now.items c.put_tags.new.text.items c.in_ok-count.count =
    subst (λ (r : List RelEntry). ListsTags r c.in_ok-tags.tags.items c.args.list.now.items c.put_tags.new.text.items c.in_ok-count.count) c.catalog.ensures
    (subst (λ (tags : List Tag). ListsTags c.catalog.result.now tags c.args.list.now.items c.put_tags.new.text.items c.in_ok-count.count) c.as_slice.ensures.value c.in_ok-count.ensures.listed) in
    lists_noted c.args.manager.now.table c.args.pass.now.view c.tags_seen.new.pass.view c.in_ok-tags.tags.items c.args.list.now.items c.put_tags.new.text.items c.in_ok-count.count c.in_ok-tags.ensures.notes c.in_ok-tags.ensures.blocks (omega arith) lists
