use Rattle.std.proofs.Common.{◌≡◌, ◌∙◌, ℕ, Bool, None, Result, ap, refl, sym, subst}
use Rattle.crossbeam_utils.specs.Padded.{padded_value}
use Rattle.block_tag.specs.Names.{lane_number}
use Rattle.pin_core.specs.declared.view.Content.TheVariants.{Unlocked}
use Rattle.pin_core.specs.declared.view.View.{View}
use Rattle.pin_core.specs.State.{link}
use Rattle.io_counts.specs.Counts.{io_with, no_counts}
use Rattle.io_counts.specs.Tallies.{TallyState}
use Rattle.frame_table.specs.Seats.{lanes_in}
use Rattle.buffer_frames.specs.Counting.{CountsIo, page_written, writes_of}
use Rattle.buffer_frames.specs.Outside.{shown_count}
use Rattle.buffer_frames.proofs.Counting.{counts_flushed}
use Rattle.buffer_frames.specs.declared.flushing.FrameFlushError.{FrameFlushError}
use Rattle.buffer_frames.specs.declared.flushing.FlushedPage.{FlushedPage}
use Rattle.buffer_frames.specs.Flushing.{EndedInError, EndedWritten, met_flushing}
use Rattle.buffer_frames.specs.Rests.{HasNoDevice, HasNoLatch, LinksRest}
use Rattle.buffer_frames.proofs.SameLocks.{same_locks_worked}
use Rattle.backend_pass.specs.declared.errors.FlushError.{FlushError}
use Rattle.backend_pass.specs.FrameFlushes.{page_answer, shown_page}
use Rattle.backend_pass.specs.Managers.{Belongs}
use Rattle.backend_pass.specs.Passes.{IsNumbered, IsShown, PassState, view_in}
use Rattle.backend_pass.proofs.Counted.{counted_more}
use Rattle.backend_pass.proofs.CountedWrites.{counted_from, counted_page}
use Rattle.backend_pass.proofs.BlockReads.{numbered_kept, same_kept}
use Rattle.backend_pass.proofs.Flushed.{ended_page, flush_complete, flush_short}
use Rattle.backend_pass.proofs.Flushed.{shown_flush_of_page, written_page}
use Rattle.backend_pass.proofs.Releasing.{belongs_held}
use Rattle.backend_pass.proofs.SeatWork.{FlushesPage, frame_worked}
use Rattle.backend_pass.proofs.Seated.{Worked, same_from}
use Rattle.backend_pass.proofs.pass.Pass.flush_frame.Given.{Over}
use Rattle.backend_pass.proofs.pass.Pass.flush_frame.Goals.{After-count_flush, After-return_seat}
use Rattle.backend_pass.proofs.pass.Pass.flush_frame.Goals as goal

-- what the call did to the seat
worked : (g : Over) (c : After-return_seat g)
    → Worked (λ v w. FlushesPage {L = g.row.L.Denot} {G = g.row.G.Denot} g.L.BlockLane.contents
    c.args.manager.now.table c.args.pinned.now.tag c.args.pinned.now.frame v w
    c.flush_frame-flushed.result) c.self.inside.held c.self.inside.seat
    c.return_seat.new.badge
worked g c =
    let e = c.flush_frame-flushed.ensures in
    frame_worked {L = g.row.L.Denot} {G = g.row.G.Denot} c.self.inside.held _ _ _ _
    c.take_seat-seat.ensures e.seat c.return_seat.ensures c.self.invariant.1
    (λ v w. FlushesPage {L = g.row.L.Denot} {G = g.row.G.Denot} g.L.BlockLane.contents
    c.args.manager.now.table c.args.pinned.now.tag c.args.pinned.now.frame v w
    c.flush_frame-flushed.result) e.stands.quiet e.rests e.works.partitions record {
      works = e.works;
      notes = e.notes;
      unlocked = e.unlocked;
      answer = e.answer;
      met = e.met;
      ended = e.ended;
      written = e.written;
    }

-- what it did, by an answer of the pass
flushes : (g : Over) (c : After-return_seat g) (r : Result Bool FlushError)
    → page_answer r ≡ c.flush_frame-flushed.result
    → FlushesPage {L = g.row.L.Denot} {G = g.row.G.Denot} g.L.BlockLane.contents
    c.args.manager.now.table c.args.pinned.now.tag c.args.pinned.now.frame c.args.self.now.view
    (view_in c.return_seat.new.badge.views) (page_answer r)
flushes g c r is =
    let w = view_in c.return_seat.new.badge.views in
    subst (λ (x : Result FlushedPage FrameFlushError). FlushesPage {L = g.row.L.Denot}
    {G = g.row.G.Denot} g.L.BlockLane.contents
    c.args.manager.now.table c.args.pinned.now.tag c.args.pinned.now.frame c.args.self.now.view w x)
    (sym is)
    (subst (λ (p : PassState). FlushesPage {L = g.row.L.Denot} {G = g.row.G.Denot}
    g.L.BlockLane.contents
    c.args.manager.now.table c.args.pinned.now.tag c.args.pinned.now.frame p.view w
    c.flush_frame-flushed.result) c.self.view_is (worked g c).did)

-- what was counted of it
counted : (g : Over) (c : goal.After-count_flush g)
    → Worked (λ v w. FlushesPage {L = g.row.L.Denot} {G = g.row.G.Denot} g.L.BlockLane.contents
    c.args.manager.now.table c.args.pinned.now.tag c.args.pinned.now.frame v w
    c.flush_frame-flushed.result) c.self.inside.held c.self.inside.seat c.return_seat.new.badge
    → CountsIo None no_counts (view_in c.self.inside.seat.views) (view_in c.return_seat.new.badge.views)
    c.self.inside.backend.io.counted c.count_flush.new.io.counted
counted g c e = let io = c.self.inside.backend.io.counted in
    counts_flushed {L = g.row.L.Denot} {G = g.row.G.Denot} g.L.BlockLane.contents
    c.args.manager.now.table
    (lane_number c.args.pinned.now.tag (lanes_in c.args.manager.now.table)) c.args.pinned.now.tag
    c.args.pinned.now.frame None _ _ c.flush_frame-flushed.result io c.count_flush.new.io.counted
    e.did.answer (ap (λ (x : View). x.cleared) e.did.works.kept)
    (ap (λ (x : TallyState). x.counted) c.count_flush.ensures
    ∙ ap (λ (r : Result FlushedPage FrameFlushError). io_with None (writes_of (page_written r)) io)
    c.flush_answer-answer.ensures)

pub flush_frame-flushed-requires-clause-stands : goal.flush_frame-flushed-requires-clause-stands
flush_frame-flushed-requires-clause-stands g c = record {
  fits = c.take_seat-seat.ensures.table ∙ ap (λ (p : PassState). p.table) c.self.view_is
      ∙ c.requires.belongs.table;
  hand = c.take_seat-seat.ensures.hand;
  quiet = subst HasNoDevice c.take_seat-seat.ensures.view c.self.invariant.1.quiet;
}

pub flush_frame-flushed-requires-clause-latches : goal.flush_frame-flushed-requires-clause-latches
flush_frame-flushed-requires-clause-latches g c =
    subst HasNoLatch c.take_seat-seat.ensures.view c.self.invariant.1.latches

pub flush_frame-flushed-requires-clause-rests : goal.flush_frame-flushed-requires-clause-rests
flush_frame-flushed-requires-clause-rests g c =
    subst (LinksRest c.self.inside.held) c.take_seat-seat.ensures.view c.self.invariant.1.links

pub flush_frame-flushed-requires-clause-unlocked : goal.flush_frame-flushed-requires-clause-unlocked
flush_frame-flushed-requires-clause-unlocked g c =
    subst (λ (v : View). (link v c.args.pinned.now.frame).content ≡ Unlocked)
    c.take_seat-seat.ensures.view
    (subst (λ (p : PassState). (link p.view c.args.pinned.now.frame).content ≡ Unlocked)
    (sym c.self.view_is) c.requires.unlocked)

pub invariant_of-self : goal.invariant_of-self
invariant_of-self g c =
    let i = c.self.invariant in
    let e = worked g (goal.at.invariant_of-self g c).After-return_seat in
    let v = view_in c.self.inside.seat.views in
    let w = view_in c.return_seat.new.badge.views in
    let answer = c.flush_answer-answer.result in (
      e.badge.one,
      e.rests,
      subst (λ (id : ℕ). IsNumbered c.self.inside.number id w) (sym e.badge.id)
          (numbered_kept c.self.inside.number c.self.inside.seat.id v w
          (ap (λ (x : View). x.number) e.did.works.kept) i.2),
      subst (IsShown w) (sym (c.new-self-inside.ensures ∙ c.after_answer-shown.ensures
          ∙ ap (shown_page answer) c.deref.ensures))
          (shown_flush_of_page v w (padded_value c.self.inside.shown) answer
          (ap (λ (x : View). x.front) e.did.works.kept)
          (subst (λ (r : Result FlushedPage FrameFlushError). w.met ≡ met_flushing r v.met)
          (sym c.flush_answer-answer.ensures) e.did.met) i.3),
      i.4,
      counted_more None no_counts _ _ _ _ v w (i.5.turns_are
          ∙ ap (λ (x : View). shown_count x.turns) (sym e.did.works.kept))
          (ap (λ (x : View). x.published) e.did.works.kept)
          (ap (λ (x : TallyState). x.published) c.count_flush.ensures)
          (counted g (goal.at.invariant_of-self g c).After-count_flush e) i.5,
    )

pub returns-clause-belongs : goal.returns-clause-belongs
returns-clause-belongs g c =
    let e = worked g (goal.at.returns-clause-belongs g c).After-return_seat in
    belongs_held {L = g.row.L.Denot} {G = g.row.G.Denot} g.L.BlockLane.contents
    c.args.manager.now _ _ e.badge.table refl (ap (λ (x : View). x.calls) e.did.works.kept)
    (ap (λ (x : View). x.front) e.did.works.kept) e.did.works.advances.end_seen
    (λ f h at. (h, at, refl))
    (subst (Belongs {L = g.row.L.Denot} {G = g.row.G.Denot} g.L.BlockLane.contents
    c.args.manager.now)
    (sym c.self.view_is) c.requires.belongs)

pub returns-clause-same : goal.returns-clause-same
returns-clause-same g c =
    let e = worked g (goal.at.returns-clause-same g c).After-return_seat in
    same_from _ _ _ c.self.view_is
    (same_kept _ _ e.badge.table e.badge.id refl e.did.works.kept e.did.works.advances)

pub returns-clause-locks : goal.returns-clause-locks
returns-clause-locks g c =
    let e = flushes g (goal.at.returns-clause-locks g c).After-return_seat
    c.flush_answer-answer.result c.flush_answer-answer.ensures in
    same_locks_worked c.args.pinned.now.frame _ _ e.works c.requires.unlocked e.unlocked

pub returns-clause-others : goal.returns-clause-others
returns-clause-others g c =
    (flushes g (goal.at.returns-clause-others g c).After-return_seat
    c.flush_answer-answer.result c.flush_answer-answer.ensures).works.others

pub returns-clause-notes : goal.returns-clause-notes
returns-clause-notes g c =
    (flushes g (goal.at.returns-clause-notes g c).After-return_seat
    c.flush_answer-answer.result c.flush_answer-answer.ensures).notes

pub returns-clause-answer : goal.returns-clause-answer
returns-clause-answer g c =
    (flushes g (goal.at.returns-clause-answer g c).After-return_seat
    c.flush_answer-answer.result c.flush_answer-answer.ensures).answer

pub returns-clause-met : goal.returns-clause-met
returns-clause-met g c =
    (flushes g (goal.at.returns-clause-met g c).After-return_seat
    c.flush_answer-answer.result c.flush_answer-answer.ensures).met

pub returns-clause-ended : goal.returns-clause-ended
returns-clause-ended g c = ended_page
    (EndedInError c.args.pinned.now.frame c.args.self.now.view
    (view_in c.return_seat.new.badge.views)) c.flush_answer-answer.result
    (flushes g (goal.at.returns-clause-ended g c).After-return_seat
    c.flush_answer-answer.result c.flush_answer-answer.ensures).ended

pub returns-clause-written : goal.returns-clause-written
returns-clause-written g c = written_page
    (EndedWritten c.args.pinned.now.frame c.args.self.now.view
    (view_in c.return_seat.new.badge.views)) c.flush_answer-answer.result
    (flushes g (goal.at.returns-clause-written g c).After-return_seat
    c.flush_answer-answer.result c.flush_answer-answer.ensures).written

pub returns-clause-counts : goal.returns-clause-counts
returns-clause-counts g c =
    let e = worked g (goal.at.returns-clause-counts g c).After-return_seat in
    counted_from _ _ _ c.self.view_is (counted_page {L = g.row.L.Denot} {G = g.row.G.Denot}
    g.L.BlockLane.contents c.args.manager.now.table
    (lane_number c.args.pinned.now.tag (lanes_in c.args.manager.now.table)) c.args.pinned.now.tag
    c.args.pinned.now.frame _ _ c.flush_frame-flushed.result e.did.answer
    (counted g (goal.at.returns-clause-counts g c).After-count_flush e))

pub returns-clause-short : goal.returns-clause-short
returns-clause-short g c n =
    let e = flushes g (goal.at.returns-clause-short g c).After-return_seat
    c.flush_answer-answer.result c.flush_answer-answer.ensures in
    flush_short {L = g.row.L.Denot} {G = g.row.G.Denot} g.L.BlockLane.contents
    c.args.manager.now.table (lane_number c.args.pinned.now.tag (lanes_in c.args.manager.now.table))
    c.args.pinned.now.tag c.args.pinned.now.frame _ _ c.flush_answer-answer.result e.answer e.met
    n.up n.met

pub returns-clause-complete : goal.returns-clause-complete
returns-clause-complete g c =
    let e = flushes g (goal.at.returns-clause-complete g c).After-return_seat
    c.flush_answer-answer.result c.flush_answer-answer.ensures in
    flush_complete {L = g.row.L.Denot} {G = g.row.G.Denot} g.L.BlockLane.contents
    c.args.manager.now.table (lane_number c.args.pinned.now.tag (lanes_in c.args.manager.now.table))
    c.args.pinned.now.tag c.args.pinned.now.frame _ _ c.flush_answer-answer.result e.answer e.met
