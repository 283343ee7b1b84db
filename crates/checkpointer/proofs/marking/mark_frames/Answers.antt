use Rattle.std.proofs.Common.{◌≡◌, ◌∙◌, ℕ, List, length, ap, arith, subst, sym}
use Rattle.pin_core.specs.declared.view.View.{View}
use Rattle.frame_table.specs.Seats.{frames_of}
use Rattle.buffer_frames.proofs.WorkSteps.{made_none}
use Rattle.backend_pass.specs.declared.marked.MarkedFrame.{MarkedFrame}
use Rattle.backend_pass.specs.Passes.{PassState}
use Rattle.checkpointer.specs.Marked.{AreInside, AreMarked, NotesInOrder, nothing}
use Rattle.checkpointer.proofs.Keeping.{marks_as, marks_none, marks_on}
use Rattle.checkpointer.proofs.MarkedFrames.{inside_moved, inside_none, marked_moved, marked_none, visited_more, visited_none}
use Rattle.checkpointer.proofs.marking.mark_frames.Goals as goal

pub loop-frame-init : goal.loop-frame-init
loop-frame-init g c =
    let frames = frames_of c.args.manager.now.table in
    let v = c.args.pass.now.view in
    let empty = sym c.requires.none in
    record {
      marks = marks_none {L = g.row.L.Denot} {G = g.row.G.Denot} g.L.BlockLane.contents c.args.manager.now c.args.pass.now c.requires.belongs;
      visited = visited_none v;
      marked = subst (λ (l : List MarkedFrame). AreMarked l v) empty (marked_none v c.requires.not_left_to_write);
      inside = subst (AreInside frames) empty (inside_none frames);
      room = let none = ap length c.requires.none in omega arith;
      notes = subst (λ (l : List MarkedFrame). NotesInOrder v 0 v l) empty nothing;
    }

pub loop-frame-preserved : goal.loop-frame-preserved
loop-frame-preserved g c =
    let i = c.loop-frame.invariant in
    let e = c.mark_frame.ensures in
    record {
      marks = marks_on {L = g.row.L.Denot} {G = g.row.G.Denot} g.L.BlockLane.contents c.args.manager.now c.args.pass.now c.loop-frame.pass c.mark_frame.new.pass i.marks e.marks;
      visited = visited_more c.loop-frame.frame c.loop-frame.pass.view c.mark_frame.new.pass.view e.others i.visited e.visited;
      marked = e.marked i.marked;
      inside = e.inside i.inside;
      room = e.room;
      notes = e.notes c.args.pass.now.view i.notes;
    }

pub returns-clause-marks : goal.returns-clause-marks
returns-clause-marks g c =
    let i = c.loop-frame.invariant in
    marks_on {L = g.row.L.Denot} {G = g.row.G.Denot} g.L.BlockLane.contents c.args.manager.now c.args.pass.now c.loop-frame.pass c.sort_marked.new.self i.marks
    (marks_as {L = g.row.L.Denot} {G = g.row.G.Denot} g.L.BlockLane.contents c.args.manager.now c.loop-frame.pass c.sort_marked.new.self c.sort_marked.new.self.marked c.sort_marked.ensures.same i.marks.keeps.belongs)

pub returns-clause-marked : goal.returns-clause-marked
returns-clause-marked g c =
    subst (AreMarked c.sort_marked.new.self.marked) (sym (ap (λ (p : PassState). p.view) c.sort_marked.ensures.same)) (marked_moved c.loop-frame.pass.marked c.sort_marked.new.self.marked c.loop-frame.pass.view c.sort_marked.ensures.moved c.loop-frame.invariant.marked)

pub returns-clause-inside : goal.returns-clause-inside
returns-clause-inside g c = inside_moved (frames_of c.args.manager.now.table) c.loop-frame.pass.marked c.sort_marked.new.self.marked c.sort_marked.ensures.moved c.loop-frame.invariant.inside

pub returns-clause-lists : goal.returns-clause-lists
returns-clause-lists g c =
    let all : c.loop-frame.frame ≡ frames_of c.args.manager.now.table = omega arith in
    let i = c.loop-frame.invariant in
    let e = c.sort_marked.ensures in
    let view : c.sort_marked.new.self.view ≡ c.loop-frame.pass.view = ap (λ (p : PassState). p.view) e.same in
    record {
      noted = c.loop-frame.pass.marked;
      notes = subst (λ (w : View). NotesInOrder c.args.pass.now.view (frames_of c.args.manager.now.table) w c.loop-frame.pass.marked) (sym view) (subst (λ (n : ℕ). NotesInOrder c.args.pass.now.view n c.loop-frame.pass.view c.loop-frame.pass.marked) all i.notes);
      moved = e.moved;
      sorted = e.sorted;
      calls = made_none c.args.pass.now.view c.sort_marked.new.self.view (ap (λ (w : View). w.device_calls) view ∙ i.marks.device_calls);
    }
