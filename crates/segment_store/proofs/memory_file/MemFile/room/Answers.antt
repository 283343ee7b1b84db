use Rattle.std.proofs.Common.{sym, ◌∙◌}
use Rattle.segment_store.proofs.FileRoom.{no_room, some_room}
use Rattle.segment_store.proofs.memory_file.MemFile.room.Goals as goal

pub returns-then-self-seg_blocks : goal.returns-then-self-seg_blocks
returns-then-self-seg_blocks c = sym (no_room c.args.self.now c.args.seg_blocks c.if-self-seg_blocks.true)

pub returns : goal.returns
returns c = c.saturating_mul.ensures ∙ sym (some_room c.args.self.now c.args.seg_blocks c.if-self-seg_blocks.false)
