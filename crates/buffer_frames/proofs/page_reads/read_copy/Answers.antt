use Rattle.buffer_frames.proofs.PageReading.{CopyIsRead, is_copied, link_read, only_reads, others_read, reads_page, reads_under}
use Rattle.block_tag.specs.Names.{packed_tag}
use Rattle.buffer_frames.proofs.page_reads.read_copy.Goals as goal

pub load_log_end-requires-clause-allowed : goal.load_log_end-requires-clause-allowed
load_log_end-requires-clause-allowed g c = (c.requires.seat.inside, is_copied (packed_tag c.args._tag) c.copy_out.new.page _ _ c.copy_out.ensures.copied c.requires.tag c.requires.copy)

pub returns-clause-only : goal.returns-clause-only
returns-clause-only g c =
    let r : CopyIsRead c.args.frame c.args._tag c.copy_out.new.page c.load_log_end.result c.args.seat.now.me.0 c.copy_out.new.seat.me.0 c.load_log_end.new.seat.me.0 = record { touches = c.copy_out.ensures.touches; marks = c.copy_out.ensures.marks; copied = c.copy_out.ensures.copied; remembered = c.requires.tag; view = c.load_log_end.ensures.view; front = c.load_log_end.ensures.front } in
    only_reads _ _ _ _ _ _ _ r

pub returns-clause-link : goal.returns-clause-link
returns-clause-link g c =
    let r : CopyIsRead c.args.frame c.args._tag c.copy_out.new.page c.load_log_end.result c.args.seat.now.me.0 c.copy_out.new.seat.me.0 c.load_log_end.new.seat.me.0 = record { touches = c.copy_out.ensures.touches; marks = c.copy_out.ensures.marks; copied = c.copy_out.ensures.copied; remembered = c.requires.tag; view = c.load_log_end.ensures.view; front = c.load_log_end.ensures.front } in
    link_read _ _ _ _ _ _ _ r

pub returns-clause-others : goal.returns-clause-others
returns-clause-others g c =
    let r : CopyIsRead c.args.frame c.args._tag c.copy_out.new.page c.load_log_end.result c.args.seat.now.me.0 c.copy_out.new.seat.me.0 c.load_log_end.new.seat.me.0 = record { touches = c.copy_out.ensures.touches; marks = c.copy_out.ensures.marks; copied = c.copy_out.ensures.copied; remembered = c.requires.tag; view = c.load_log_end.ensures.view; front = c.load_log_end.ensures.front } in
    others_read _ _ _ _ _ _ _ r

pub returns-clause-reads : goal.returns-clause-reads
returns-clause-reads g c =
    let r : CopyIsRead c.args.frame c.args._tag c.copy_out.new.page c.load_log_end.result c.args.seat.now.me.0 c.copy_out.new.seat.me.0 c.load_log_end.new.seat.me.0 = record { touches = c.copy_out.ensures.touches; marks = c.copy_out.ensures.marks; copied = c.copy_out.ensures.copied; remembered = c.requires.tag; view = c.load_log_end.ensures.view; front = c.load_log_end.ensures.front } in
    reads_page _ _ _ _ _ _ _ r {L = g.row.L.Denot} {G = g.row.G.Denot} g.L.BlockLane.contents c.args.table.now c.copy_out.ensures.sound c.load_log_end.ensures.origin

pub returns-clause-did : goal.returns-clause-did
returns-clause-did g c =
    let r : CopyIsRead c.args.frame c.args._tag c.copy_out.new.page c.load_log_end.result c.args.seat.now.me.0 c.copy_out.new.seat.me.0 c.load_log_end.new.seat.me.0 = record { touches = c.copy_out.ensures.touches; marks = c.copy_out.ensures.marks; copied = c.copy_out.ensures.copied; remembered = c.requires.tag; view = c.load_log_end.ensures.view; front = c.load_log_end.ensures.front } in
    reads_under _ _ _ _ _ _ _ r c.copy_out.ensures.did c.load_log_end.ensures.did
