use Rattle.std.proofs.Common.{◌≡◌, ℕ, List, ap, ◌∙◌}
use Rattle.std.specs.Prelude.{◌&&◌, ◌==◌, is_ok, not}
use Rattle.std.specs.List.{list_any}
use Rattle.byte_devices.specs.Plan.{next_call}
use Rattle.std.specs.BTreeMap as tree
use Rattle.block_tag.specs.contracts.tag.TagOrd.TheImpl as tags
use Rattle.segment_store.specs.MemoryLane.{marks_of, pages_of, room_of, there_has_room, torn_page}
use Rattle.sample_relation.proofs.Refusing.{refusing_write}
use Rattle.sample_relation.proofs.lane.SampleLaneBlockLane.write.Goals as goal

pub returns-clause-written : goal.returns-clause-written
returns-clause-written c =
    let lane = c.args.self.now.lane in
    let tag = c.args.tag in
    let answer : is_ok c.write.result ≡ room_of lane tag =
    c.write.ensures.answer ∙ ap (λ (failing : List ℕ). not (list_any (λ number. number == next_call lane.plan.writes) failing) && room_of lane tag) c.args.self.now.writes in
    refusing_write tag c.args.page.now (λ old. torn_page old c.args.page.now) (marks_of lane) (marks_of c.write.new.self) (pages_of lane) (pages_of c.write.new.self) (room_of lane tag) c.write.result
    (there_has_room (tree.get tags.ghosts.cmp lane.blocks tag)) answer c.write.ensures.torn c.write.ensures.written
