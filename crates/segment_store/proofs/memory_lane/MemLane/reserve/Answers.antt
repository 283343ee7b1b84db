use Rattle.std.proofs.Common.{◌≡◌, None, refl, sym, ◌∙◌}
use Rattle.std.specs.BTreeMap as tree
use Rattle.block_tag.specs.contracts.tag.TagOrd.TheImpl as tags
use Rattle.segment_store.proofs.MemoryLanes.{marks_unseen, none_found, pages_unseen, room_put}
use Rattle.segment_store.proofs.memory_lane.MemLane.reserve.Goals as goal

pub returns-clause-room : goal.returns-clause-room
returns-clause-room c = room_put c.args.self.now.blocks c.insert.new.self c.args.tag _ c.in_ok-insert.ensures.updates.0

pub returns-clause-pages : goal.returns-clause-pages
returns-clause-pages c =
    let none : tree.get tags.ghosts.cmp c.args.self.now.blocks c.args.tag ≡ None = none_found _ c.get.result _ c.get.ensures.value (sym c.is_some.ensures ∙ c.if-is_some.false) in
    pages_unseen c.args.self.now.blocks c.insert.new.self c.args.tag _ c.in_ok-insert.ensures.updates.0 refl none

pub returns-clause-failed : goal.returns-clause-failed
returns-clause-failed c =
    let none : tree.get tags.ghosts.cmp c.args.self.now.blocks c.args.tag ≡ None = none_found _ c.get.result _ c.get.ensures.value (sym c.is_some.ensures ∙ c.if-is_some.false) in
    marks_unseen c.args.self.now.blocks c.insert.new.self c.args.tag _ c.in_ok-insert.ensures.updates.0 refl none
