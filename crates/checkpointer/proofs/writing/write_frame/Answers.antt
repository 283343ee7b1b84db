use Rattle.std.proofs.Common.{ap, ◌∙◌, Ok, refl, subst, arith}
use Rattle.buffer_frames.specs.declared.syncing.SyncOnly.TheVariants.{Needed}
use Rattle.buffer_frames.specs.declared.syncing.Synced.{Synced}
use Rattle.buffer_frames.specs.Syncs.{SyncsFrame}
use Rattle.checkpointer.specs.Stages.{pages_by}
use Rattle.checkpointer.specs.Writes.{again, still}
use Rattle.checkpointer.proofs.Keeping.{writes_none, writes_on, writes_synced}
use Rattle.checkpointer.proofs.MarkedFrames.{notes_at, notes_none, notes_on}
use Rattle.checkpointer.proofs.Stopping.{fails_later, stops_synced}
use Rattle.checkpointer.proofs.writing.write_frame.Goals as goal

pub loop-init : goal.loop-init
loop-init g c = record {
  writes = writes_none {L = g.row.L.Denot} {G = g.row.G.Denot} g.L.BlockLane.contents c.args.manager.now c.args.pass.now c.requires.belongs;
  notes = notes_none c.args.pass.now.view;
  marked = refl;
  needed = still;
}

pub loop-preserved : goal.loop-preserved
loop-preserved g c =
    let i = c.loop.invariant in
    let e = c.sync_one.ensures in
    let ok = c.in-Ok.ensures in
    record {
      writes = writes_on {L = g.row.L.Denot} {G = g.row.G.Denot} g.L.BlockLane.contents c.args.manager.now c.loop.written (pages_by c.in-Ok.synced) _ c.args.pass.now c.loop.pass c.sync_one.new.self (let sum = c.saturating_add-written.ensures in let one = c.pages.ensures in omega arith) i.writes
          (writes_synced {L = g.row.L.Denot} {G = g.row.G.Denot} g.L.BlockLane.contents c.args.manager.now c.args.frame c.in-Ok.synced c.loop.pass c.sync_one.new.self e.belongs e.same e.callers e.mark ok.syncs ok.met);
      notes = notes_on c.args.pass.now.view c.loop.pass.view c.sync_one.new.self.view i.notes (notes_at c.args.frame c.loop.pass.view c.sync_one.new.self.view e.others e.notes);
      marked = e.marked ∙ i.marked;
      needed = again c.in-Ok.synced i.needed c.in_default.not-Skipped ok.syncs;
    }

pub returns-in-Skipped-clause-writes : goal.returns-in-Skipped-clause-writes
returns-in-Skipped-clause-writes g c =
    let i = c.loop.invariant in
    let e = c.sync_one.ensures in
    let ok = c.in-Ok.ensures in
    let none = ap pages_by c.in-Skipped.is in
    writes_on {L = g.row.L.Denot} {G = g.row.G.Denot} g.L.BlockLane.contents c.args.manager.now c.loop.written (pages_by c.in-Ok.synced) c.loop.written c.args.pass.now c.loop.pass c.sync_one.new.self (omega arith) i.writes
    (writes_synced {L = g.row.L.Denot} {G = g.row.G.Denot} g.L.BlockLane.contents c.args.manager.now c.args.frame c.in-Ok.synced c.loop.pass c.sync_one.new.self e.belongs e.same e.callers e.mark ok.syncs ok.met)

pub returns-in-Skipped-clause-notes : goal.returns-in-Skipped-clause-notes
returns-in-Skipped-clause-notes g c =
    let e = c.sync_one.ensures in
    notes_on c.args.pass.now.view c.loop.pass.view c.sync_one.new.self.view c.loop.invariant.notes (notes_at c.args.frame c.loop.pass.view c.sync_one.new.self.view e.others e.notes)

pub returns-in-Skipped-clause-passed : goal.returns-in-Skipped-clause-passed
returns-in-Skipped-clause-passed g c = record {
  last = c.loop.pass.view;
  needed = c.loop.invariant.needed;
  passes = subst (λ (r : Synced). SyncsFrame {L = g.row.L.Denot} {G = g.row.G.Denot} g.L.BlockLane.contents c.args.manager.now.table Needed c.args.frame c.loop.pass.view c.sync_one.new.self.view (Ok r)) c.in-Skipped.is c.in-Ok.ensures.syncs;
}

pub returns-in-Err-clause-stops : goal.returns-in-Err-clause-stops
returns-in-Err-clause-stops g c =
    let i = c.loop.invariant in
    let e = c.sync_one.ensures in
    let err = c.in-Err.ensures in
    stops_synced {L = g.row.L.Denot} {G = g.row.G.Denot} g.L.BlockLane.contents c.args.manager.now c.loop.written c.args.frame c.args.pass.now c.loop.pass c.sync_one.new.self c.in-Err.why i.writes i.needed record { belongs = e.belongs; same = e.same; callers = e.callers } e.mark err.syncs err.ended err.met

pub returns-in-Err-clause-complete : goal.returns-in-Err-clause-complete
returns-in-Err-clause-complete g c n =
    let i = c.loop.invariant in
    c.in-Err.ensures.complete (fails_later {L = g.row.L.Denot} {G = g.row.G.Denot} g.L.BlockLane.contents c.args.manager.now.table c.args.pass.now c.loop.pass c.sync_one.new.self i.writes.keeps.same.keeps.advances i.writes.met n)
