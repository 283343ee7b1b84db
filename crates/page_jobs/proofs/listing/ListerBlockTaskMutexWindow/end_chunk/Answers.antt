use Rattle.std.proofs.Common.{refl}
use Rattle.page_jobs.proofs.ListedChunks.{is_job_chunk, opens_then, parts_then, takes_text}
use Rattle.page_jobs.proofs.listing.ListerBlockTaskMutexWindow.end_chunk.Goals as goal

pub deliver_text-requires-clause-chunk : goal.deliver_text-requires-clause-chunk
deliver_text-requires-clause-chunk g c =
    is_job_chunk {L = g.row.L.Denot} {G = g.row.G.Denot} g.L.BlockLane.contents c.args._manager.now
    g.N.Naming.texts g.N.Naming.job c.args.chunk c.args.pass.now c.args.self.now c.args._blocks.now c.requires.worked c.requires.chunk

pub deliver_text-requires-clause-text : goal.deliver_text-requires-clause-text
deliver_text-requires-clause-text g c =
    takes_text {L = g.row.L.Denot} {G = g.row.G.Denot} g.L.BlockLane.contents c.args._manager.now
    g.N.Naming.texts g.N.Naming.job c.args.chunk c.args.pass.now c.args.self.now c.args._blocks.now c.front-place.result c.front-place.ensures c.requires.worked

pub deliver_text-requires-clause-parts : goal.deliver_text-requires-clause-parts
deliver_text-requires-clause-parts g c =
    parts_then {L = g.row.L.Denot} {G = g.row.G.Denot} g.L.BlockLane.contents c.args._manager.now
    g.N.Naming.texts g.N.Naming.job c.args.chunk c.args.pass.now c.args.self.now c.args._blocks.now c.requires.worked

pub returns-clause-opens : goal.returns-clause-opens
returns-clause-opens g c =
    opens_then {L = g.row.L.Denot} {G = g.row.G.Denot} g.L.BlockLane.contents c.args._manager.now
    g.N.Naming.texts g.N.Naming.job c.args.chunk c.args.pass.now c.args.self.now c.args._blocks.now c.requires.worked
    _ refl c.clear.ensures.items refl c.deliver_text.ensures.parts
