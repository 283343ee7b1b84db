use Rattle.std.proofs.Common.{◌≡◌, ◌≢◌, ℕ, refl, subst, sym}
use Rattle.pin_core.specs.State.{link}
use Rattle.frame_table.specs.Seats.{frames_of}
use Rattle.backend_pass.specs.Passes.{PassState}
use Rattle.checkpointer.specs.Marked.{AreMarked}
use Rattle.checkpointer.proofs.Keeping.{marks_as, marks_needed, marks_on}
use Rattle.checkpointer.proofs.MarkedFrames.{marked_clean, noted_clean, noted_dirty, noted_inside, noted_marked}
use Rattle.checkpointer.proofs.marking.mark_frame.Goals as goal

pub returns-in_default-clause-marks : goal.returns-in_default-clause-marks
returns-in_default-clause-marks g c =
    let n = c.need_checkpoint.ensures in
    marks_needed {L = g.row.L.Denot} {G = g.row.G.Denot} g.L.BlockLane.contents c.args.manager.now c.args.frame c.args.pass.now c.need_checkpoint.new.self n.belongs n.same n.callers n.mark n.touches

pub returns-in_default-clause-marked : goal.returns-in_default-clause-marked
returns-in_default-clause-marked g c are =
    let n = c.need_checkpoint.ensures in
    subst (λ l. AreMarked l c.need_checkpoint.new.self.view) (sym n.marked) (marked_clean c.args.frame c.args.pass.now.view c.need_checkpoint.new.self.view n.touches.others c.args.pass.now.marked c.in_default.ensures.not_left_to_write are)

pub returns-clause-marks : goal.returns-clause-marks
returns-clause-marks g c =
    let n = c.need_checkpoint.ensures in
    marks_on {L = g.row.L.Denot} {G = g.row.G.Denot} g.L.BlockLane.contents c.args.manager.now c.args.pass.now c.need_checkpoint.new.self c.note_marked.new.self
    (marks_needed {L = g.row.L.Denot} {G = g.row.G.Denot} g.L.BlockLane.contents c.args.manager.now c.args.frame c.args.pass.now c.need_checkpoint.new.self n.belongs n.same n.callers n.mark n.touches)
    (marks_as {L = g.row.L.Denot} {G = g.row.G.Denot} g.L.BlockLane.contents c.args.manager.now c.need_checkpoint.new.self c.note_marked.new.self _ c.note_marked.ensures n.belongs)

pub returns-clause-marked : goal.returns-clause-marked
returns-clause-marked g c = let n = c.need_checkpoint.ensures in noted_marked c.args.frame c.args.pass.now c.need_checkpoint.new.self c.note_marked.new.self _ n.touches.others n.marked c.note_marked.ensures refl

pub returns-clause-inside : goal.returns-clause-inside
returns-clause-inside g c = let n = c.need_checkpoint.ensures in noted_inside c.args.frame c.args.pass.now c.need_checkpoint.new.self c.note_marked.new.self _ n.touches.others n.marked c.note_marked.ensures refl (frames_of c.args.manager.now.table) c.requires.inside

pub returns-clause-others : goal.returns-clause-others
returns-clause-others g c =
    subst (λ (p : PassState). (h : ℕ) → h ≢ c.args.frame → link p.view h ≡ link c.args.pass.now.view h) (sym c.note_marked.ensures) c.need_checkpoint.ensures.touches.others

pub returns-in_default-clause-notes : goal.returns-in_default-clause-notes
returns-in_default-clause-notes g c v notes = noted_clean c.args.frame v c.args.pass.now c.need_checkpoint.new.self c.need_checkpoint.ensures.marked c.in_default.ensures.clean c.need_checkpoint.ensures.touches.lists notes

pub returns-clause-notes : goal.returns-clause-notes
returns-clause-notes g c v notes = noted_dirty v c.args.pass.now c.need_checkpoint.new.self c.note_marked.new.self _ _ c.note_marked.ensures c.need_checkpoint.ensures.marked (c.pack.ensures.exact c.in-Some.ensures.named) c.in-Some.ensures.noted notes
