use Rattle.std.proofs.Common.{◌≡◌, ◌≤◌, ◌∙◌, ℕ, Result, Ok, Err, ap, refl, sym, subst}
use Rattle.std.specs.Prelude.{is_some, vec_capacity}
use Rattle.crossbeam_utils.specs.Padded.{padded_value}
use Rattle.block_tag.specs.Names.{packed_tag}
use Rattle.pin_core.specs.declared.view.View.{View}
use Rattle.frame_table.specs.Seats.{frames_of}
use Rattle.io_counts.specs.Counts.{context_of}
use Rattle.buffer_frames.specs.Hinting.{LeavesHint, TakesTurns}
use Rattle.buffer_frames.specs.Backends.{choice_of}
use Rattle.buffer_frames.specs.Outside.{kept_by_block_reads, shown_count}
use Rattle.buffer_frames.specs.Reads.{CensusRead, KeptOrEmptied}
use Rattle.buffer_frames.specs.declared.reading.BlockError.{BlockError}
use Rattle.buffer_frames.specs.declared.reading.PinnedBlock.{PinnedBlock}
use Rattle.buffer_frames.specs.Tokens.{IsNew, Tokens, tokens_less}
use Rattle.buffer_frames.specs.Rests.{HasNoDevice, HasNoLatch, LinksRest, OnlyTokens, SameLocks}
use Rattle.backend_pass.specs.declared.errors.ReadError.{ReadError}
use Rattle.backend_pass.specs.HintsSeen.{StoresHints}
use Rattle.backend_pass.specs.Managers.{Belongs}
use Rattle.backend_pass.specs.Passes.{IsNumbered, IsShown, PassState, view_in}
use Rattle.backend_pass.specs.Reading.{ReadingCensus, met_read_refused, shown_after}
use Rattle.backend_pass.proofs.BlockReads.{belongs_with, census_of_refusal, first_reads}
use Rattle.backend_pass.proofs.BlockReads.{links_refused, met_of_refusal, numbered_kept}
use Rattle.backend_pass.proofs.BlockReads.{refused_reads, rests_pinned, shown_met, shown_refused}
use Rattle.backend_pass.proofs.Counted.{counted_more}
use Rattle.backend_pass.proofs.HintsSeen.{stores_refused}
use Rattle.backend_pass.proofs.Releasing.{belongs_held}
use Rattle.backend_pass.proofs.SeatWork.{LooksUp}
use Rattle.backend_pass.proofs.Seated.{KeepsBadge, keeps_badge, moved}
use Rattle.backend_pass.proofs.pass.Pass.read_new.Given.{Over}
use Rattle.backend_pass.proofs.pass.Pass.read_new.Goals.{After-return_seat}
use Rattle.backend_pass.proofs.pass.Pass.read_new.Goals as goal

-- what the look-up kept of the seat, and what it did
kept : (g : Over) (c : After-return_seat g)
    → KeepsBadge kept_by_block_reads c.self.inside.seat c.return_seat.new.badge
kept g c =
    let k = c.read_block-answer.ensures.keeps in
    keeps_badge {L = g.row.L.Denot} {G = g.row.G.Denot} _ _ _ _ c.take_seat-seat.ensures k.seat
    c.return_seat.ensures kept_by_block_reads k

looked_up : (g : Over) (c : After-return_seat g)
    → LooksUp {L = g.row.L.Denot} {G = g.row.G.Denot} g.L.BlockLane.contents
    c.args.manager.now.table c.args.tag.now c.self.inside.held (is_some c.args.ring.now)
    c.read_block-answer.new.backend.lookups.hint (choice_of c.self.inside.backend c.args.ring.now)
    (choice_of c.read_block-answer.new.backend c.read_block-answer.new.ring)
    (context_of c.args.ring.now) c.self.inside.backend.io.counted
    c.read_block-answer.new.backend.io.counted
    (view_in c.self.inside.seat.views) (view_in c.return_seat.new.badge.views)
    c.read_block-answer.result
looked_up g c =
    let e = c.read_block-answer.ensures in
    moved (λ v w. LooksUp {L = g.row.L.Denot} {G = g.row.G.Denot} g.L.BlockLane.contents
    c.args.manager.now.table c.args.tag.now c.self.inside.held (is_some c.args.ring.now)
    c.read_block-answer.new.backend.lookups.hint (choice_of c.self.inside.backend c.args.ring.now)
    (choice_of c.read_block-answer.new.backend c.read_block-answer.new.ring)
    (context_of c.args.ring.now) c.self.inside.backend.io.counted
    c.read_block-answer.new.backend.io.counted v w c.read_block-answer.result) (view_in c.self.inside.seat.views)
    (view_in c.return_seat.new.badge.views) c.take_seat-seat.result.me.0
    c.read_block-answer.new.seat.me.0 c.take_seat-seat.ensures.view c.return_seat.ensures.view
    record { answer = e.answer; met = e.met; calls = e.calls; turns = e.turns; hints = e.hints }

-- and with this answer
answered : (g : Over) (c : After-return_seat g) (r : Result PinnedBlock BlockError)
    → c.read_block-answer.result ≡ r
    → LooksUp {L = g.row.L.Denot} {G = g.row.G.Denot} g.L.BlockLane.contents
    c.args.manager.now.table c.args.tag.now c.self.inside.held (is_some c.args.ring.now)
    c.read_block-answer.new.backend.lookups.hint (choice_of c.self.inside.backend c.args.ring.now)
    (choice_of c.read_block-answer.new.backend c.read_block-answer.new.ring)
    (context_of c.args.ring.now) c.self.inside.backend.io.counted
    c.read_block-answer.new.backend.io.counted
    (view_in c.self.inside.seat.views) (view_in c.return_seat.new.badge.views) r
answered g c r is = subst (λ (x : Result PinnedBlock BlockError). LooksUp {L = g.row.L.Denot}
    {G = g.row.G.Denot} g.L.BlockLane.contents
    c.args.manager.now.table c.args.tag.now c.self.inside.held (is_some c.args.ring.now)
    c.read_block-answer.new.backend.lookups.hint (choice_of c.self.inside.backend c.args.ring.now)
    (choice_of c.read_block-answer.new.backend c.read_block-answer.new.ring)
    (context_of c.args.ring.now) c.self.inside.backend.io.counted
    c.read_block-answer.new.backend.io.counted
    (view_in c.self.inside.seat.views) (view_in c.return_seat.new.badge.views) x) is (looked_up g c)

pub read_block-answer-requires-clause-ready : goal.read_block-answer-requires-clause-ready
read_block-answer-requires-clause-ready g c =
    let before = c.take_seat-seat.ensures.view in
    let i = c.self.invariant in record {
      stands = record {
        fits = c.take_seat-seat.ensures.table ∙ ap (λ (p : PassState). p.table) c.self.view_is
            ∙ c.requires.belongs.table;
        hand = c.take_seat-seat.ensures.hand;
        quiet = subst HasNoDevice before i.1.quiet;
      };
      rests = subst (LinksRest c.self.inside.held) before i.1.links;
      latches = subst HasNoLatch before i.1.latches;
    }

pub read_block-answer-requires-clause-own : goal.read_block-answer-requires-clause-own
read_block-answer-requires-clause-own g c =
    let b = subst (Belongs {L = g.row.L.Denot} {G = g.row.G.Denot} g.L.BlockLane.contents
    c.args.manager.now)
    (sym c.self.view_is) c.requires.belongs in record {
      queue = b.queue;
      census = b.frames;
      counted = c.self.invariant.5.turns_are
          ∙ ap (λ (v : View). shown_count v.turns) c.take_seat-seat.ensures.view;
    }

pub invariant_of-self : goal.invariant_of-self
invariant_of-self g c =
    let k = kept g (goal.at.invariant_of-self g c).After-return_seat in
    let e = answered g (goal.at.invariant_of-self g c).After-return_seat
    (Ok c.in-Ok.field-0) c.in-Ok.is in
    let i = c.self.invariant in
    let v = view_in c.self.inside.seat.views in
    let w = view_in c.return_seat.new.badge.views in (
      k.badge.one,
      subst (λ (t : Tokens). OnlyTokens t w) (sym c.add_pin.ensures.tokens)
          (rests_pinned (packed_tag c.args.tag.now) c.in-Ok.field-0.pin.frame c.self.inside.held w
          k.quiet k.latches e.answer.1 e.answer.2),
      subst (λ (id : ℕ). IsNumbered c.self.inside.number id w) (sym k.badge.id)
          (numbered_kept c.self.inside.number c.self.inside.seat.id v w
          (ap (λ (x : View). x.number) k.same) i.2),
      shown_met v w (padded_value c.self.inside.shown)
          (ap (λ (x : View). x.front) k.same) e.met i.3,
      subst (λ (frames : ℕ). frames ≤ vec_capacity c.self.inside.marked)
          (sym c.read_block-answer.ensures.own.room) i.4,
      counted_more (context_of c.args.ring.now) _ _ _ _ _ v w
          (c.read_block-answer.ensures.own.counted
          ∙ ap (λ (x : View). shown_count x.turns) (sym c.return_seat.ensures.view))
          (ap (λ (x : View). x.published) k.same) c.read_block-answer.ensures.own.published
          e.calls.counts i.5,
    )

pub invariant_of-self-in-Err : goal.invariant_of-self-in-Err
invariant_of-self-in-Err g c =
    let k = kept g (goal.at.invariant_of-self-in-Err g c).After-return_seat in
    let e = answered g (goal.at.invariant_of-self-in-Err g c).After-return_seat
    (Err c.in-Err.cause) c.in-Err.is in
    let i = c.self.invariant in
    let v = view_in c.self.inside.seat.views in
    let w = view_in c.return_seat.new.badge.views in
    let met : w.met ≡ met_read_refused c.read_error-why.result v.met = e.met
    ∙ met_of_refusal c.args.tag.now c.in-Err.cause v.met
    ∙ ap (λ (y : ReadError). met_read_refused y v.met) (sym c.read_error-why.ensures) in
    let shown : padded_value c.new-self-inside.result ≡ shown_after c.read_error-why.result
    (padded_value c.self.inside.shown) = c.new-self-inside.ensures ∙ c.after-shown.ensures
    ∙ ap (shown_after c.read_error-why.result) c.deref.ensures in (
      k.badge.one,
      record {
        quiet = k.quiet;
        links =
            links_refused {L = g.row.L.Denot} {G = g.row.G.Denot} g.L.BlockLane.contents
            c.args.manager.now.table c.args.tag.now c.self.inside.held v w c.in-Err.cause e.answer;
        latches = k.latches;
      },
      subst (λ (id : ℕ). IsNumbered c.self.inside.number id w) (sym k.badge.id)
          (numbered_kept c.self.inside.number c.self.inside.seat.id v w
          (ap (λ (x : View). x.number) k.same) i.2),
      subst (IsShown w) (sym shown) (shown_refused v w
          (padded_value c.self.inside.shown) c.read_error-why.result
          (ap (λ (x : View). x.front) k.same) met i.3),
      subst (λ (frames : ℕ). frames ≤ vec_capacity c.self.inside.marked)
          (sym c.read_block-answer.ensures.own.room) i.4,
      counted_more (context_of c.args.ring.now) _ _ _ _ _ v w
          (c.read_block-answer.ensures.own.counted
          ∙ ap (λ (x : View). shown_count x.turns) (sym c.return_seat.ensures.view))
          (ap (λ (x : View). x.published) k.same) c.read_block-answer.ensures.own.published
          e.calls.counts i.5,
    )

pub returns-in-Ok-clause-belongs : goal.returns-in-Ok-clause-belongs
returns-in-Ok-clause-belongs g c =
    let k = kept g (goal.at.returns-in-Ok-clause-belongs g c).After-return_seat in
    let e = answered g (goal.at.returns-in-Ok-clause-belongs g c).After-return_seat
    (Ok c.in-Ok.field-0) c.in-Ok.is in
    belongs_with {L = g.row.L.Denot} {G = g.row.G.Denot} g.L.BlockLane.contents c.args.manager.now _
    _ c.args.tag.now c.in-Ok.field-0.pin.frame k.badge.table
    (λ i. record {
      frames = c.read_block-answer.ensures.own.room i;
      queue = c.read_block-answer.ensures.own.lasts i;
    }) (ap (λ (x : View). x.calls) k.same)
    (ap (λ (x : View). x.front) k.same) k.rises.end_seen c.add_pin.ensures.tokens e.answer.1.new
    e.answer.0 c.requires.tag c.requires.block
    (subst (λ (p : PassState). IsNew c.args.tag.now p.tokens) (sym c.self.view_is) c.requires.new)
    e.answer.3
    (subst (Belongs {L = g.row.L.Denot} {G = g.row.G.Denot} g.L.BlockLane.contents
    c.args.manager.now) (sym c.self.view_is) c.requires.belongs)

pub returns-in-Err-clause-belongs : goal.returns-in-Err-clause-belongs
returns-in-Err-clause-belongs g c =
    let k = kept g (goal.at.returns-in-Err-clause-belongs g c).After-return_seat in
    belongs_held {L = g.row.L.Denot} {G = g.row.G.Denot} g.L.BlockLane.contents c.args.manager.now _
    _ k.badge.table (λ i. record {
      frames = c.read_block-answer.ensures.own.room i;
      queue = c.read_block-answer.ensures.own.lasts i;
    }) (ap (λ (x : View). x.calls) k.same)
    (ap (λ (x : View). x.front) k.same) k.rises.end_seen (λ f h at. (h, at, refl))
    (subst (Belongs {L = g.row.L.Denot} {G = g.row.G.Denot} g.L.BlockLane.contents
    c.args.manager.now) (sym c.self.view_is) c.requires.belongs)

pub returns-in-Ok-clause-answer : goal.returns-in-Ok-clause-answer
returns-in-Ok-clause-answer g c =
    let e = answered g (goal.at.returns-in-Ok-clause-answer g c).After-return_seat
    (Ok c.in-Ok.field-0) c.in-Ok.is in
    first_reads {L = g.row.L.Denot} {G = g.row.G.Denot} g.L.BlockLane.contents
    c.args.manager.now.table c.args.tag.now c.args.ring.now c.read_block-answer.new.ring _ _ _
    c.in-Ok.field-0 c.frame-frame.result c.is_hit-hit.result c.self.view_is c.is_hit-hit.ensures
    c.frame-frame.ensures
    c.add_pin.ensures.tokens e.answer e.calls

pub returns-in-Err-clause-answer : goal.returns-in-Err-clause-answer
returns-in-Err-clause-answer g c =
    let e = answered g (goal.at.returns-in-Err-clause-answer g c).After-return_seat
    (Err c.in-Err.cause) c.in-Err.is in
    refused_reads {L = g.row.L.Denot} {G = g.row.G.Denot} g.L.BlockLane.contents
    c.args.manager.now.table c.args.tag.now c.args.ring.now c.read_block-answer.new.ring _ _ _
    c.in-Err.cause c.read_error-why.result c.self.view_is c.read_error-why.ensures refl e.answer
    e.calls

pub returns-in-Err-clause-met : goal.returns-in-Err-clause-met
returns-in-Err-clause-met g c =
    let e = answered g (goal.at.returns-in-Err-clause-met g c).After-return_seat
    (Err c.in-Err.cause) c.in-Err.is in
    let v = view_in c.self.inside.seat.views in
    e.met ∙ met_of_refusal c.args.tag.now c.in-Err.cause v.met
    ∙ ap (λ (y : ReadError). met_read_refused y v.met) (sym c.read_error-why.ensures)
    ∙ ap (λ (p : PassState). met_read_refused c.read_error-why.result p.view.met) c.self.view_is

pub returns-in-Ok-clause-locks : goal.returns-in-Ok-clause-locks
returns-in-Ok-clause-locks g c =
    let k = kept g (goal.at.returns-in-Ok-clause-locks g c).After-return_seat in
    subst (λ (p : PassState). SameLocks p.view (view_in c.return_seat.new.badge.views))
    c.self.view_is k.locks

pub returns-in-Err-clause-locks : goal.returns-in-Err-clause-locks
returns-in-Err-clause-locks g c =
    let k = kept g (goal.at.returns-in-Err-clause-locks g c).After-return_seat in
    subst (λ (p : PassState). SameLocks p.view (view_in c.return_seat.new.badge.views))
    c.self.view_is k.locks

pub returns-in-Ok-clause-back : goal.returns-in-Ok-clause-back
returns-in-Ok-clause-back g c =
    ap (λ (f : ℕ). tokens_less f c.add_pin.new.self) c.frame-frame.ensures ∙ c.add_pin.ensures.back
    ∙ ap (λ (p : PassState). p.tokens) c.self.view_is

pub returns-in-Ok-clause-census : goal.returns-in-Ok-clause-census
returns-in-Ok-clause-census g c =
    subst (λ (p : PassState). KeptOrEmptied
    (frames_of c.args.manager.now.table) p.census c.read_block-answer.new.backend.census)
    c.self.view_is (subst (CensusRead
    (frames_of c.args.manager.now.table) c.self.inside.backend.census
    c.read_block-answer.new.backend.census) c.in-Ok.is c.read_block-answer.ensures.census)

pub returns-in-Err-clause-census : goal.returns-in-Err-clause-census
returns-in-Err-clause-census g c =
    let n = frames_of c.args.manager.now.table in
    subst (λ (p : PassState). ReadingCensus n p.census c.read_block-answer.new.backend.census
    (Err c.read_error-why.result)) c.self.view_is
    (subst (λ (y : ReadError). ReadingCensus n c.self.inside.backend.census
    c.read_block-answer.new.backend.census (Err y)) (sym c.read_error-why.ensures)
    (census_of_refusal c.args.tag.now n c.self.inside.backend.census c.read_block-answer.new.backend.census
    c.in-Err.cause (subst (CensusRead
    (frames_of c.args.manager.now.table) c.self.inside.backend.census
    c.read_block-answer.new.backend.census) c.in-Err.is c.read_block-answer.ensures.census)))

pub returns-in-Ok-clause-turns : goal.returns-in-Ok-clause-turns
returns-in-Ok-clause-turns g c =
    let e = answered g (goal.at.returns-in-Ok-clause-turns g c).After-return_seat
    (Ok c.in-Ok.field-0) c.in-Ok.is in
    subst (λ (p : PassState). TakesTurns c.read_block-answer.new.backend.lookups.hint p.view.turns
    (view_in c.return_seat.new.badge.views).turns) c.self.view_is e.turns

pub returns-in-Err-clause-turns : goal.returns-in-Err-clause-turns
returns-in-Err-clause-turns g c =
    let e = answered g (goal.at.returns-in-Err-clause-turns g c).After-return_seat
    (Err c.in-Err.cause) c.in-Err.is in
    subst (λ (p : PassState). TakesTurns c.read_block-answer.new.backend.lookups.hint p.view.turns
    (view_in c.return_seat.new.badge.views).turns) c.self.view_is e.turns

pub returns-in-Ok-clause-hints : goal.returns-in-Ok-clause-hints
returns-in-Ok-clause-hints g c =
    let e = answered g (goal.at.returns-in-Ok-clause-hints g c).After-return_seat
    (Ok c.in-Ok.field-0) c.in-Ok.is in
    let n = frames_of c.args.manager.now.table in
    let old = (view_in c.self.inside.seat.views) in
    let new = (view_in c.return_seat.new.badge.views) in
    subst (λ (p : PassState). LeavesHint n c.args.tag.now c.frame-frame.result
    c.read_block-answer.new.backend.lookups.hint p.view.hints new.hints) c.self.view_is
    (subst (λ (f : ℕ). LeavesHint n c.args.tag.now f c.read_block-answer.new.backend.lookups.hint
    old.hints new.hints) (sym c.frame-frame.ensures) e.hints)

pub returns-in-Err-clause-hints : goal.returns-in-Err-clause-hints
returns-in-Err-clause-hints g c =
    let e = answered g (goal.at.returns-in-Err-clause-hints g c).After-return_seat
    (Err c.in-Err.cause) c.in-Err.is in
    let n = frames_of c.args.manager.now.table in
    let old = (view_in c.self.inside.seat.views) in
    let new = (view_in c.return_seat.new.badge.views) in
    subst (λ (p : PassState). StoresHints n c.args.tag.now
    c.read_block-answer.new.backend.lookups.hint p.view.hints new.hints
    (Err c.read_error-why.result)) c.self.view_is
    (subst (λ (y : ReadError). StoresHints n c.args.tag.now
    c.read_block-answer.new.backend.lookups.hint old.hints new.hints (Err y))
    (sym c.read_error-why.ensures)
    (stores_refused n c.args.tag.now c.read_block-answer.new.backend.lookups.hint old.hints
    new.hints c.in-Err.cause e.hints))
