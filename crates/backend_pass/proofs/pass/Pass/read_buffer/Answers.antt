use Rattle.std.proofs.Common.{◌≡◌, ◌∙◌, ℕ, inl, Ok, Option, true, ap, refl, sym, subst, ◌<◌, arith}
use Rattle.access_rings.specs.declared.ring.RingKind.{RingKind}
use Rattle.io_counts.specs.declared.contexts.ByContext.{ByContext}
use Rattle.io_counts.specs.declared.contexts.IoEvent.TheVariants.{Hit}
use Rattle.io_counts.specs.Counts.{context_of, io_with, one_of}
use Rattle.io_counts.specs.Tallies.{TallyState}
use Rattle.buffer_frames.specs.Tokens.{IsNew, IsPinnedFor, Tokens, count_of, tokens_more}
use Rattle.buffer_frames.specs.Rests.{OnlyTokens, SameLocks}
use Rattle.buffer_frames.specs.declared.hinting.HintSeen.TheVariants.{Unused}
use Rattle.buffer_frames.specs.Hinting.{TakesTurns}
use Rattle.backend_pass.specs.Managers.{Belongs}
use Rattle.backend_pass.specs.Passes.{PassState, view_in}
use Rattle.backend_pass.specs.Reading.{ReadsBlock, met_reading}
use Rattle.backend_pass.proofs.BlockReads.{frame_again, not_both, pinned_more, pinned_read, rests_again, same_kept, unlocked_read}
use Rattle.buffer_frames.proofs.Counting.{counts_hit}
use Rattle.buffer_frames.proofs.HeldLists.{above_one}
use Rattle.frame_table.specs.Seats.{relations_of}
use Rattle.frame_table.proofs.Rising.{rises_none}
use Rattle.buffer_frames.proofs.Keeping.{same_locks_none}
use Rattle.backend_pass.proofs.Complete.{at_once_none, not_at_once, read_complete, read_short, unsound_was}
use Rattle.backend_pass.proofs.Counted.{counted_more}
use Rattle.backend_pass.proofs.HintsSeen.{shows_hint, turns_counted, turns_risen, turns_told}
use Rattle.backend_pass.proofs.Releasing.{AreHeld, belongs_held, held_again}
use Rattle.backend_pass.proofs.Seated.{same_from}
use Rattle.backend_pass.proofs.pass.Pass.read_buffer.Given.{Over}
use Rattle.backend_pass.proofs.pass.Pass.read_buffer.Goals.{After-count}
use Rattle.backend_pass.proofs.pass.Pass.read_buffer.Goals as goal

-- what the look-up tells of the pass as the call found it
reads : (g : Over) (c : goal.After-read_new g) → ReadsBlock {L = g.row.L.Denot} {G = g.row.G.Denot} g.L.BlockLane.contents c.args.manager.now.table c.args.tag c.args.ring.now c.read_new.new.ring c.args.self.now c.read_new.new.self c.read_new.result
reads g c = c.read_new.ensures.answer

met : (g : Over) (c : goal.After-read_new g) → c.read_new.new.self.view.met ≡ met_reading c.read_new.result c.args.self.now.view.met
met g c = c.read_new.ensures.met

turns : (g : Over) (c : goal.After-read_new g) → TakesTurns c.read_new.new.self.hint c.args.self.now.view.turns c.read_new.new.self.view.turns
turns g c = c.read_new.ensures.turns

-- a hit is counted in the context of the ring
hit : (g : Over) (c : goal.After-count g) → c.count.new.self.counted ≡ io_with (context_of c.args.ring.now) (one_of Hit) c.self.inside.backend.io.counted
hit g c = ap (λ (x : TallyState). x.counted) c.count.ensures ∙ ap (λ (context : Option RingKind). io_with context (one_of Hit) c.self.inside.backend.io.counted) c.context_of.ensures

pub returns-in_default-clause-again : goal.returns-in_default-clause-again
returns-in_default-clause-again g c none f pinned = absurd (not_both c.args.tag f c.self.inside.held (subst (λ (p : PassState). IsPinnedFor c.args.tag f p.tokens) (sym c.self.view_is) pinned) c.in_default.ensures.new)

pub returns-in_default-clause-pinned : goal.returns-in_default-clause-pinned
returns-in_default-clause-pinned g c = pinned_read {L = g.row.L.Denot} {G = g.row.G.Denot} g.L.BlockLane.contents c.args.manager.now.table c.args.tag _ _ _ c.read_new.new.self c.read_new.result (reads g c)

pub invariant_of-self-2 : goal.invariant_of-self-2
invariant_of-self-2 g c =
    let i = c.self.invariant in
    let v = view_in c.self.inside.seat.views in
    let context = context_of c.args.ring.now in
    (i.0, subst (λ (t : Tokens). OnlyTokens t v) (sym c.add_token.ensures.tokens) (rests_again c.in-Some.frame c.self.inside.held v i.1), i.2, i.3, i.4, counted_more context (one_of Hit) _ _ _ _ v v i.5.turns_are refl (ap (λ (x : TallyState). x.published) c.count.ensures) (counts_hit context v _ _ (hit g (goal.at.invariant_of-self-2 g c).After-count)) i.5)

pub returns-clause-belongs : goal.returns-clause-belongs
returns-clause-belongs g c =
    belongs_held {L = g.row.L.Denot} {G = g.row.G.Denot} g.L.BlockLane.contents c.args.manager.now _ _ refl refl refl refl (rises_none (view_in c.self.inside.seat.views)).end_seen (subst (λ (t : Tokens). AreHeld c.self.inside.held t) (sym c.add_token.ensures.tokens) (held_again c.in-Some.frame c.self.inside.held))
    (subst (Belongs {L = g.row.L.Denot} {G = g.row.G.Denot} g.L.BlockLane.contents c.args.manager.now) (sym c.self.view_is) c.requires.belongs)

pub returns-clause-again : goal.returns-clause-again
returns-clause-again g c none f pinned =
    let here = subst (λ (p : PassState). IsPinnedFor c.args.tag c.in-Some.frame p.tokens) c.self.view_is c.in-Some.ensures.pinned in
    let same : c.in-Some.frame ≡ f = frame_again {L = g.row.L.Denot} {G = g.row.G.Denot} g.L.BlockLane.contents c.args.manager.now c.args.self.now c.args.tag c.in-Some.frame f here pinned c.requires.belongs in
    let tokens : c.add_token.new.self ≡ tokens_more f c.self.inside.held = c.add_token.ensures.tokens ∙ ap (λ (x : ℕ). tokens_more x c.self.inside.held) same in (
      ap (λ (x : ℕ). Ok (record { frame = x; tag = c.args.tag; hit = true })) same,
      again _ (context_of c.args.ring.now) f c.self.view_is tokens (hit g (goal.at.returns-clause-again g c).After-count),
      refl,
    )
  where
    again : (p : PassState) (context : Option RingKind) (f : ℕ) {q : PassState} {t : Tokens} {io : ByContext} → p ≡ q → t ≡ tokens_more f p.tokens → io ≡ io_with context (one_of Hit) p.io → record p { tokens = t; hint = Unused; io = io } ≡ record q { tokens = tokens_more f q.tokens; hint = Unused; io = io_with context (one_of Hit) q.io }
    again p context f e tokens io = (λ i. record p { tokens = tokens i; hint = Unused; io = io i }) ∙ ap (λ (x : PassState). record x { tokens = tokens_more f x.tokens; hint = Unused; io = io_with context (one_of Hit) x.io }) e

pub returns-clause-new : goal.returns-clause-new
returns-clause-new g c none new = absurd (not_both c.args.tag c.in-Some.frame c.self.inside.held c.in-Some.ensures.pinned (subst (λ (p : PassState). IsNew c.args.tag p.tokens) (sym c.self.view_is) new))

pub returns-clause-pinned : goal.returns-clause-pinned
returns-clause-pinned g c = subst (IsPinnedFor c.args.tag c.in-Some.frame) (sym c.add_token.ensures.tokens) (pinned_more c.args.tag c.in-Some.frame c.self.inside.held c.in-Some.ensures.pinned)

pub returns-clause-locks : goal.returns-clause-locks
returns-clause-locks g c = subst (λ (p : PassState). SameLocks p.view (view_in c.self.inside.seat.views)) c.self.view_is (same_locks_none (view_in c.self.inside.seat.views))

pub returns-in_default-clause-short : goal.returns-in_default-clause-short
returns-in_default-clause-short g c none quiet =
    read_short {L = g.row.L.Denot} {G = g.row.G.Denot} g.L.BlockLane.contents c.args.manager.now.table c.args.tag _ _ _ c.read_new.new.self c.read_new.result (met g c) (reads g c) quiet

pub returns-in_default-clause-complete : goal.returns-in_default-clause-complete
returns-in_default-clause-complete g c none nothing =
    read_complete {L = g.row.L.Denot} {G = g.row.G.Denot} g.L.BlockLane.contents c.args.manager.now.table c.args.tag _ _ _ c.read_new.new.self c.read_new.result (met g c) (reads g c) nothing

pub returns-in_default-clause-exact : goal.returns-in_default-clause-exact
returns-in_default-clause-exact g c = at_once_none {L = g.row.L.Denot} {G = g.row.G.Denot} g.L.BlockLane.contents c.args.manager.now.table c.args.tag _ _ _ c.read_new.new.self c.read_new.result (reads g c) ∙ sym (not_at_once (relations_of c.args.manager.now.table) c.args.self.now.tokens c.args.tag c.blocks-blocks.result c.blocks-blocks.ensures.count (omega arith) (subst (λ (p : PassState). count_of p.tokens < 8) c.self.view_is (c.is_full.ensures.room c.if-is_full.false)))

pub returns-clause-back : goal.returns-clause-back
returns-clause-back g c = c.add_token.ensures.back ∙ ap (λ (p : PassState). p.tokens) c.self.view_is

pub returns-in_default-clause-last : goal.returns-in_default-clause-last
returns-in_default-clause-last g c = unlocked_read {L = g.row.L.Denot} {G = g.row.G.Denot} g.L.BlockLane.contents c.args.manager.now.table c.args.tag _ _ _ c.read_new.new.self c.read_new.result (reads g c)

pub returns-clause-last : goal.returns-clause-last
returns-clause-last g c one = absurd (above_one _ c.add_token.ensures.several one)

pub returns-in_default-clause-unsound : goal.returns-in_default-clause-unsound
returns-in_default-clause-unsound g c failed e = unsound_was {L = g.row.L.Denot} {G = g.row.G.Denot} g.L.BlockLane.contents c.args.manager.now.table c.args.tag failed _ _ _ c.read_new.new.self c.read_new.result (reads g c) e

pub returns-clause-census : goal.returns-clause-census
returns-clause-census g c = inl (ap (λ (p : PassState). p.census) c.self.view_is)

pub returns-in_default-clause-same : goal.returns-in_default-clause-same
returns-in_default-clause-same g c = c.read_new.ensures.same

pub returns-in_default-clause-calls : goal.returns-in_default-clause-calls
returns-in_default-clause-calls g c = c.read_new.ensures.calls

pub returns-in_default-clause-new : goal.returns-in_default-clause-new
returns-in_default-clause-new g c none new = reads g c

pub returns-in_default-clause-hint : goal.returns-in_default-clause-hint
returns-in_default-clause-hint g c = shows_hint {L = g.row.L.Denot} {G = g.row.G.Denot} g.L.BlockLane.contents c.args.manager.now.table c.args.tag c.args.ring.now c.read_new.new.ring c.args.self.now c.read_new.new.self c.read_new.result (reads g c)

pub returns-in_default-clause-turns : goal.returns-in_default-clause-turns
returns-in_default-clause-turns g c = turns_counted c.read_new.new.self.hint c.args.self.now.view.turns c.read_new.new.self.view.turns (turns g c)

pub returns-in_default-clause-shown : goal.returns-in_default-clause-shown
returns-in_default-clause-shown g c = turns_told c.read_new.new.self.hint c.args.self.now.view.turns c.read_new.new.self.view.turns (turns g c)

pub returns-in_default-clause-rises : goal.returns-in_default-clause-rises
returns-in_default-clause-rises g c = turns_risen c.read_new.new.self.hint c.args.self.now.view.turns c.read_new.new.self.view.turns (turns g c)

pub returns-in_default-clause-stored : goal.returns-in_default-clause-stored
returns-in_default-clause-stored g c = c.read_new.ensures.hints

pub read_new-requires-clause-belongs : goal.read_new-requires-clause-belongs
read_new-requires-clause-belongs g c = c.requires.belongs

pub returns-then-tag-blocks-clause-same : goal.returns-then-tag-blocks-clause-same
returns-then-tag-blocks-clause-same g c = same_from _ _ _ c.self.view_is (same_kept _ _ refl refl refl refl (rises_none (view_in c.self.inside.seat.views)))

pub returns-then-is_full-clause-same : goal.returns-then-is_full-clause-same
returns-then-is_full-clause-same g c = same_from _ _ _ c.self.view_is (same_kept _ _ refl refl refl refl (rises_none (view_in c.self.inside.seat.views)))

pub returns-clause-same : goal.returns-clause-same
returns-clause-same g c = same_from _ _ _ c.self.view_is (same_kept _ _ refl refl refl refl (rises_none (view_in c.self.inside.seat.views)))
