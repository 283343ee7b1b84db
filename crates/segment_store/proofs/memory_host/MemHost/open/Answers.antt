use Rattle.std.proofs.Common.{◌≡◌, ◌<◌, ◌==◌, ℕ, List, Option, Some, true, false, length, map, max, sym, ap, ap₂, subst, ◌∙◌}
use Rattle.std.specs.Prelude.{All}
use Rattle.std.proofs.lemmas.List.{length-map}
use Rattle.block_tag.specs.declared.tag.Fork.{Fork}
use Rattle.block_tag.specs.declared.tag.Tag.{Tag}
use Rattle.segment_store.specs.Contents.{Pages}
use Rattle.segment_store.specs.Lanes.{HasBlocks, HoldPages, HoldTheirs, dealt, rooms_dealt}
use Rattle.segment_store.specs.MemoryHost.{segments_at}
use Rattle.segment_store.specs.MemoryLane.{pages_of, room_of}
use Rattle.segment_store.specs.Paths.{fork_of}
use Rattle.segment_store.specs.Relation.{relation_of}
use Rattle.segment_store.proofs.DealtRooms.{rooms_below}
use Rattle.segment_store.proofs.Dealing.{dealt_hold, dealt_theirs, held_there, length-dealt}
use Rattle.segment_store.proofs.memory_host.MemHost.open.Goals as goal

pub returns-in-Ok-clause-opened : goal.returns-in-Ok-clause-opened
returns-in-Ok-clause-opened c =
    let paths = segments_at c.args.self.now.files.items c.args.path.now in
    let fork = fork_of c.args.path.now in
    let pages = relation_of c.args.seg_blocks paths in
    let opened = c.in-Ok.opened in
    let contents : map (λ lane. Some (pages_of lane)) opened.lanes.items ≡ dealt fork pages c.args.lanes =
    c.in-Ok.ensures.contents ∙ ap₂ (λ (f : Fork) (l : List (List ℕ)). dealt f (relation_of c.args.seg_blocks l) c.args.lanes) c.fork_of_path-fork.ensures c.segments-segments.ensures in
    let blocks : opened.blocks ≡ length pages = c.in-Ok.ensures.blocks ∙ ap (λ (l : List (List ℕ)). length (relation_of c.args.seg_blocks l)) c.segments-segments.ensures in
    let hold = dealt_hold fork pages c.args.lanes c.requires in
    record {
      count = sym (length-map opened.lanes.items _) ∙ ap (λ (l : List (Option Pages)). length l) contents ∙ length-dealt fork pages c.args.lanes;
      reads = c.in-Ok.ensures.reads;
      writes = c.in-Ok.ensures.writes;
      unmarked = c.in-Ok.ensures.failed;
      synced = c.in-Ok.ensures.synced;
      has = subst (λ (l : List (Option Pages)). HasBlocks fork opened.blocks l) (sym contents)
          (subst (λ (n : ℕ). HasBlocks fork n (dealt fork pages c.args.lanes)) (sym blocks) (held_there fork pages (dealt fork pages c.args.lanes) hold));
      theirs = subst (λ (l : List (Option Pages)). HoldTheirs l) (sym contents) (dealt_theirs fork pages c.args.lanes);
      there = λ none.
          let empty : length c.segments-segments.result.now ≡ 0 = sym (length-map c.segments-segments.result.now _) ∙ ap (λ (l : List (List ℕ)). length l) (c.segments-segments.ensures ∙ none) in
          let bad : false ≡ true = c.if-is_empty.ensures ∙ ap (λ (n : ℕ). n == 0) empty in
          absurd (cc bad);
      blocks = blocks;
      holds = subst (λ (l : List (Option Pages)). HoldPages fork pages l) (sym contents) hold;
      only = contents;
      rooms = subst (λ (n : ℕ). All (λ lane. (tag : Tag) → room_of lane tag ≡ true → tag.block < max n opened.blocks) opened.lanes.items) c.room-room.ensures
          (rooms_below c.fork_of_path-fork.result (max c.room-room.result opened.blocks) c.args.lanes opened.lanes.items c.in-Ok.ensures.rooms);
    }

pub returns-in-Ok-clause-rooms : goal.returns-in-Ok-clause-rooms
returns-in-Ok-clause-rooms c =
    c.in-Ok.ensures.rooms
    ∙ ap₂ (λ (f : Fork) (n : ℕ). rooms_dealt f (max n c.in-Ok.opened.blocks) c.args.lanes) c.fork_of_path-fork.ensures c.room-room.ensures
