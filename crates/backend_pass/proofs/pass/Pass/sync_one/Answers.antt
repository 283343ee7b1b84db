use Rattle.std.proofs.Common.{◌≡◌, ◌≢◌, ◌∙◌, ℕ, None, refl, sym, ap, subst}
use Rattle.crossbeam_utils.specs.Padded.{padded_value}
use Rattle.pin_core.specs.declared.view.View.{View}
use Rattle.pin_core.specs.State.{link}
use Rattle.io_counts.specs.Counts.{io_with, no_counts}
use Rattle.io_counts.specs.Tallies.{TallyState}
use Rattle.buffer_frames.specs.Counting.{CountsIo, was_written, writes_of}
use Rattle.buffer_frames.specs.Outside.{shown_count}
use Rattle.buffer_frames.proofs.Keeping.{same_locks_at}
use Rattle.buffer_frames.proofs.Syncs.{counts_synced}
use Rattle.backend_pass.specs.Managers.{Belongs}
use Rattle.backend_pass.specs.Passes.{IsNumbered, IsShown, PassState, view_in}
use Rattle.backend_pass.proofs.Counted.{counted_more}
use Rattle.backend_pass.proofs.CountedWrites.{counted_synced}
use Rattle.backend_pass.proofs.BlockReads.{numbered_kept, same_kept}
use Rattle.backend_pass.proofs.Releasing.{belongs_held}
use Rattle.backend_pass.proofs.Seated.{Worked, same_from}
use Rattle.std.proofs.Common.{Result}
use Rattle.buffer_frames.specs.declared.flushing.FrameFlushError as frames
use Rattle.buffer_frames.specs.Flushing.{met_flushing}
use Rattle.buffer_frames.specs.Working.{KeepsNotes}
use Rattle.clock_sweep.specs.Keeping.{SamePins}
use Rattle.buffer_frames.specs.declared.syncing.Synced.{Synced}
use Rattle.buffer_frames.specs.Syncs.{EndsSync, SyncsFrame}
use Rattle.buffer_frames.proofs.Passing.{pins_rest}
use Rattle.backend_pass.specs.FrameFlushes.{frame_answer}
use Rattle.backend_pass.specs.PassSyncs.{shown_synced}
use Rattle.backend_pass.proofs.PassSyncing.{callers_from, callers_kept, shown_sync, sync_complete, sync_short}
use Rattle.buffer_frames.specs.Rests.{HasNoDevice, LinksRest}
use Rattle.pin_core.specs.declared.view.Content.TheVariants.{Unlocked}
use Rattle.buffer_frames.specs.Syncs.{SyncsOne}
use Rattle.backend_pass.proofs.SeatWork.{frame_worked}
use Rattle.backend_pass.proofs.pass.Pass.sync_one.Given.{Over}
use Rattle.backend_pass.proofs.pass.Pass.sync_one.Goals.{After-count_sync, After-return_seat}
use Rattle.backend_pass.proofs.pass.Pass.sync_one.Goals as goal

-- what the call did to the seat
worked : (g : Over) (c : goal.After-return_seat g) → Worked (λ v w. SyncsOne {L = g.row.L.Denot} {G = g.row.G.Denot} g.L.BlockLane.contents c.args.manager.now.table c.args.only c.args.frame v w c.sync_one-frames_answer.result) c.self.inside.held c.self.inside.seat c.return_seat.new.badge
worked g c = frame_worked {L = g.row.L.Denot} {G = g.row.G.Denot} c.self.inside.held _ _ _ _ c.take_seat-seat.ensures c.sync_one-frames_answer.ensures.seat c.return_seat.ensures c.self.invariant.1 (λ v w. SyncsOne {L = g.row.L.Denot} {G = g.row.G.Denot} g.L.BlockLane.contents c.args.manager.now.table c.args.only c.args.frame v w c.sync_one-frames_answer.result) c.sync_one-frames_answer.ensures.stands.quiet c.sync_one-frames_answer.ensures.rests c.sync_one-frames_answer.ensures.one.works.partitions c.sync_one-frames_answer.ensures.one

-- and what was counted of it
counted : (g : Over) (c : goal.After-count_sync g) → Worked (λ v w. SyncsOne {L = g.row.L.Denot} {G = g.row.G.Denot} g.L.BlockLane.contents c.args.manager.now.table c.args.only c.args.frame v w c.sync_one-frames_answer.result) c.self.inside.held c.self.inside.seat c.return_seat.new.badge
    → CountsIo None no_counts (view_in c.self.inside.seat.views) (view_in c.return_seat.new.badge.views) c.self.inside.backend.io.counted c.count_sync.new.io.counted
counted g c e = let io = c.self.inside.backend.io.counted in
    counts_synced {L = g.row.L.Denot} {G = g.row.G.Denot} g.L.BlockLane.contents c.args.manager.now.table None c.args.only c.args.frame _ _ c.sync_one-frames_answer.result io c.count_sync.new.io.counted e.did.syncs (ap (λ (x : View). x.cleared) e.did.works.kept)
    (ap (λ (x : TallyState). x.counted) c.count_sync.ensures ∙ ap (λ (r : Result Synced frames.FrameFlushError). io_with None (writes_of (was_written r)) io) c.sync_answer-answer.ensures)

pub sync_one-frames_answer-requires-clause-stands : goal.sync_one-frames_answer-requires-clause-stands
sync_one-frames_answer-requires-clause-stands g c =
    record {
      fits = c.take_seat-seat.ensures.table ∙ ap (λ (p : PassState). p.table) c.self.view_is ∙ c.requires.belongs.table;
      hand = c.take_seat-seat.ensures.hand;
      quiet = subst HasNoDevice c.take_seat-seat.ensures.view c.self.invariant.1.quiet;
    }

pub sync_one-frames_answer-requires-clause-rests : goal.sync_one-frames_answer-requires-clause-rests
sync_one-frames_answer-requires-clause-rests g c = subst (LinksRest c.self.inside.held) c.take_seat-seat.ensures.view c.self.invariant.1.links

pub sync_one-frames_answer-requires-clause-unlocked : goal.sync_one-frames_answer-requires-clause-unlocked
sync_one-frames_answer-requires-clause-unlocked g c needed =
    subst (λ (v : View). (link v c.args.frame).content ≡ Unlocked) c.take_seat-seat.ensures.view (subst (λ (p : PassState). (link p.view c.args.frame).content ≡ Unlocked) (sym c.self.view_is) (c.requires.unlocked needed))

pub invariant_of-self : goal.invariant_of-self
invariant_of-self g c =
    let i = c.self.invariant in
    let e = worked g (goal.at.invariant_of-self g c).After-return_seat in
    let v = (view_in c.self.inside.seat.views) in
    let w = (view_in c.return_seat.new.badge.views) in (
      e.badge.one,
      e.rests,
      subst (λ (id : ℕ). IsNumbered c.self.inside.number id w) (sym e.badge.id) (numbered_kept c.self.inside.number c.self.inside.seat.id v w (ap (λ (x : View). x.number) e.did.works.kept) i.2),
      subst (IsShown w) (sym (c.new-self-inside.ensures ∙ c.after_sync-shown.ensures ∙ ap (shown_synced c.sync_answer-answer.result) c.deref.ensures)) (shown_sync v w (padded_value c.self.inside.shown) c.sync_answer-answer.result (ap (λ (x : View). x.front) e.did.works.kept) (subst (λ (r : Result Synced frames.FrameFlushError). w.met ≡ met_flushing r v.met) (sym c.sync_answer-answer.ensures) (e.did.met)) i.3),
      i.4,
      counted_more None no_counts _ _ _ _ v w (i.5.turns_are ∙ ap (λ (x : View). shown_count x.turns) (sym e.did.works.kept)) (ap (λ (x : View). x.published) e.did.works.kept) (ap (λ (x : TallyState). x.published) c.count_sync.ensures) (counted g (goal.at.invariant_of-self g c).After-count_sync e) i.5,
    )

pub returns-clause-belongs : goal.returns-clause-belongs
returns-clause-belongs g c =
    let e = worked g (goal.at.returns-clause-belongs g c).After-return_seat in
    belongs_held {L = g.row.L.Denot} {G = g.row.G.Denot} g.L.BlockLane.contents c.args.manager.now _ _ e.badge.table refl (ap (λ (x : View). x.calls) e.did.works.kept) (ap (λ (x : View). x.front) e.did.works.kept) (e.did.works.advances.end_seen) (λ f h at. (h, at, refl))
    (subst (Belongs {L = g.row.L.Denot} {G = g.row.G.Denot} g.L.BlockLane.contents c.args.manager.now) (sym c.self.view_is) c.requires.belongs)

pub returns-clause-same : goal.returns-clause-same
returns-clause-same g c =
    let e = worked g (goal.at.returns-clause-same g c).After-return_seat in same_from _ _ _ c.self.view_is (same_kept _ _ e.badge.table e.badge.id refl e.did.works.kept e.did.works.advances)

pub returns-clause-callers : goal.returns-clause-callers
returns-clause-callers g c =
    let e = worked g (goal.at.returns-clause-callers g c).After-return_seat in callers_from _ _ _ c.self.view_is (callers_kept _ _ e.badge.table e.badge.id refl refl refl e.did.works.kept e.did.works.advances (same_locks_at c.args.frame (view_in c.self.inside.seat.views) (view_in c.return_seat.new.badge.views) e.did.works.others e.did.lock) (counted_synced {L = g.row.L.Denot} {G = g.row.G.Denot} g.L.BlockLane.contents c.args.manager.now.table c.args.only c.args.frame _ _ c.sync_one-frames_answer.result e.did.syncs (counted g (goal.at.returns-clause-callers g c).After-count_sync e)))

pub returns-clause-others : goal.returns-clause-others
returns-clause-others g c =
    let e = worked g (goal.at.returns-clause-others g c).After-return_seat in
    subst (λ (p : PassState). (h : ℕ) → h ≢ c.args.frame → link (view_in c.return_seat.new.badge.views) h ≡ link p.view h) c.self.view_is (e.did.works.others)

pub returns-clause-pins : goal.returns-clause-pins
returns-clause-pins g c =
    let e = worked g (goal.at.returns-clause-pins g c).After-return_seat in
    subst (λ (p : PassState). SamePins p.view (view_in c.return_seat.new.badge.views)) c.self.view_is (pins_rest c.self.inside.held (view_in c.self.inside.seat.views) (view_in c.return_seat.new.badge.views) c.self.invariant.1.links e.rests.links)

pub returns-clause-notes : goal.returns-clause-notes
returns-clause-notes g c =
    let e = worked g (goal.at.returns-clause-notes g c).After-return_seat in
    subst (λ (p : PassState). KeepsNotes (link p.view c.args.frame) (link (view_in c.return_seat.new.badge.views) c.args.frame)) c.self.view_is (e.did.notes)

pub returns-clause-syncs : goal.returns-clause-syncs
returns-clause-syncs g c =
    let e = worked g (goal.at.returns-clause-syncs g c).After-return_seat in
    subst (λ (r : Result Synced frames.FrameFlushError). SyncsFrame {L = g.row.L.Denot} {G = g.row.G.Denot} g.L.BlockLane.contents c.args.manager.now.table c.args.only c.args.frame c.args.self.now.view (view_in c.return_seat.new.badge.views) r) (sym c.sync_answer-answer.ensures) (subst (λ (p : PassState). SyncsFrame {L = g.row.L.Denot} {G = g.row.G.Denot} g.L.BlockLane.contents c.args.manager.now.table c.args.only c.args.frame p.view (view_in c.return_seat.new.badge.views) c.sync_one-frames_answer.result) c.self.view_is (e.did.syncs))

pub returns-clause-met : goal.returns-clause-met
returns-clause-met g c =
    let e = worked g (goal.at.returns-clause-met g c).After-return_seat in
    subst (λ (r : Result Synced frames.FrameFlushError). (view_in c.return_seat.new.badge.views).met ≡ met_flushing r c.args.self.now.view.met) (sym c.sync_answer-answer.ensures) (subst (λ (p : PassState). (view_in c.return_seat.new.badge.views).met ≡ met_flushing c.sync_one-frames_answer.result p.view.met) c.self.view_is (e.did.met))

pub returns-clause-ended : goal.returns-clause-ended
returns-clause-ended g c =
    let e = worked g (goal.at.returns-clause-ended g c).After-return_seat in
    subst (λ (r : Result Synced frames.FrameFlushError). EndsSync c.args.frame c.args.self.now.view (view_in c.return_seat.new.badge.views) r) (sym c.sync_answer-answer.ensures) (subst (λ (p : PassState). EndsSync c.args.frame p.view (view_in c.return_seat.new.badge.views) c.sync_one-frames_answer.result) c.self.view_is (e.did.ended))

pub returns-clause-not_left_to_write : goal.returns-clause-not_left_to_write
returns-clause-not_left_to_write g c =
    let e = worked g (goal.at.returns-clause-not_left_to_write g c).After-return_seat in
    λ skipped needed. e.did.not_left_to_write (sym c.sync_answer-answer.ensures ∙ ap frame_answer skipped) needed

pub returns-clause-short : goal.returns-clause-short
returns-clause-short g c =
    sync_short {L = g.row.L.Denot} {G = g.row.G.Denot} g.L.BlockLane.contents c.args.manager.now.table c.args.only c.args.frame _ _ c.sync_answer-answer.result (returns-clause-syncs g c) (returns-clause-met g c)

pub returns-clause-complete : goal.returns-clause-complete
returns-clause-complete g c =
    sync_complete {L = g.row.L.Denot} {G = g.row.G.Denot} g.L.BlockLane.contents c.args.manager.now.table c.args.only c.args.frame _ _ c.sync_answer-answer.result (returns-clause-syncs g c) (returns-clause-met g c)
