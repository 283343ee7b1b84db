use Rattle.std.proofs.Common.{ℕ, List, ◌∙◌, ap, refl}
use Rattle.segment_store.specs.Contents.{with_page}
use Rattle.segment_store.specs.MemoryLane.{pages_of}
use Rattle.segment_store.proofs.MemoryLanes.{marks_put, pages_put, room_put}
use Rattle.segment_store.proofs.memory_lane.MemLane.hold.Goals as goal

pub returns-clause-pages : goal.returns-clause-pages
returns-clause-pages c =
    pages_put c.args.self.now.blocks c.insert.new.self c.args.tag _ c.in_ok-insert.ensures.updates.0 refl
    ∙ ap (λ (page : List ℕ). with_page c.args.tag page (pages_of c.args.self.now)) (c.fill.ensures ∙ c.bytes.ensures.bytes)

pub returns-clause-failed : goal.returns-clause-failed
returns-clause-failed c = marks_put c.args.self.now.blocks c.insert.new.self c.args.tag _ c.in_ok-insert.ensures.updates.0

pub returns-clause-room : goal.returns-clause-room
returns-clause-room c = room_put c.args.self.now.blocks c.insert.new.self c.args.tag _ c.in_ok-insert.ensures.updates.0
