use Rattle.std.proofs.Common.{◌≡◌, Bool, Option, None, Ok, refl, inl, subst, sym, ap, ◌∙◌}
use Rattle.std.specs.Prelude.{IfNone, MatchOption, option_map}
use Rattle.pin_core.specs.declared.view.FailedCalls.{FailedCalls}
use Rattle.frame_table.specs.declared.pin.Pin.{Pin}
use Rattle.frame_table.specs.Seats.{OnlyRises, frames_of}
use Rattle.buffer_frames.specs.Rests.{LinksRest}
use Rattle.buffer_frames.specs.Hinting.{LeavesHint}
use Rattle.buffer_frames.specs.Lookups.{LooksUp}
use Rattle.io_counts.specs.Counts.{context_of}
use Rattle.buffer_frames.specs.Reads.{PinsAndCounts}
use Rattle.buffer_frames.specs.VictimChoices.{choice_state}
use Rattle.buffer_frames.specs.Victims.{ClaimsAndCounts, met_claimed}
use Rattle.buffer_frames.proofs.Locating.{notes_then, pins_found, pins_missed, turns_then}
use Rattle.buffer_frames.proofs.Noting.{census_claimed}
use Rattle.buffer_frames.proofs.Outside.{met_searched}
use Rattle.buffer_frames.proofs.reading.pin_block.Given.{Over}
use Rattle.buffer_frames.proofs.Keeps.{keeps_on, searched_keeps}
use Rattle.buffer_frames.proofs.reading.pin_block.Goals as goal

-- the look-up gave a frame
pub returns-in-Some-clause-calls : goal.returns-in-Some-clause-calls
returns-in-Some-clause-calls g c = let u = c.look_up-found in
    let before = choice_state c.args.backend.now.queue c.args.ring.now c.args.backend.now.census in
    let io = c.args.backend.now.io.counted in
    let looks = subst (λ (o : Option Pin). LooksUp (frames_of c.args.table.now) c.args.tag.now c.args.held.now c.is_some-ringed.result c.args.seat.now.me.0 u.new.seat.me.0 u.result.1 (option_map Pin.frame o)) c.in-Some.is u.ensures.did in
    subst (λ (b : Bool). PinsAndCounts {L = g.row.L.Denot} {G = g.row.G.Denot} g.L.BlockLane.contents c.args.table.now c.args.tag.now c.args.held.now b u.result.1 before before (context_of c.args.ring.now) c.args.seat.now.me.0 u.new.seat.me.0 io io (Ok c.in-Some.pin)) c.is_some-ringed.ensures
    (pins_found {L = g.row.L.Denot} {G = g.row.G.Denot} g.L.BlockLane.contents c.args.table.now c.args.tag.now c.args.held.now c.is_some-ringed.result u.result.1 before (context_of c.args.ring.now) c.in-Some.pin c.args.seat.now.me.0 u.new.seat.me.0 io looks u.ensures.keeps.same)

pub returns-in-Some-clause-hints : goal.returns-in-Some-clause-hints
returns-in-Some-clause-hints g c = let u = c.look_up-found in
    subst (λ (o : Option Pin). MatchOption o (u.new.seat.me.0.hints ≡ c.args.seat.now.me.0.hints) (λ p. LeavesHint (frames_of c.args.table.now) c.args.tag.now p.frame u.result.1 c.args.seat.now.me.0.hints u.new.seat.me.0.hints)) c.in-Some.is u.ensures.hints

pub returns-in-Some-clause-census : goal.returns-in-Some-clause-census
returns-in-Some-clause-census g c = inl refl

-- it gave none
module _ (g : Over) (c : goal.After-hint-2-1 g) where
  looks : LooksUp (frames_of c.args.table.now) c.args.tag.now c.args.held.now c.is_some-ringed.result c.args.seat.now.me.0 c.look_up-found.new.seat.me.0 c.look_up-found.result.1 None
  looks = subst (λ (o : Option Pin). LooksUp (frames_of c.args.table.now) c.args.tag.now c.args.held.now c.is_some-ringed.result c.args.seat.now.me.0 c.look_up-found.new.seat.me.0 c.look_up-found.result.1 (option_map Pin.frame o)) c.in_default.is c.look_up-found.ensures.did

  same_hints : c.look_up-found.new.seat.me.0.hints ≡ c.args.seat.now.me.0.hints
  same_hints = subst (λ (o : Option Pin). MatchOption o (c.look_up-found.new.seat.me.0.hints ≡ c.args.seat.now.me.0.hints) (λ p. LeavesHint (frames_of c.args.table.now) c.args.tag.now p.frame c.look_up-found.result.1 c.args.seat.now.me.0.hints c.look_up-found.new.seat.me.0.hints)) c.in_default.is c.look_up-found.ensures.hints

  still : LinksRest c.args.held.now c.look_up-found.new.seat.me.0
  still = subst (λ (o : Option Pin). IfNone o (LinksRest c.args.held.now c.look_up-found.new.seat.me.0)) c.in_default.is c.look_up-found.ensures.rests

  since : OnlyRises c.args.seat.now.me.0 c.look_up-found.new.seat.me.0
  since = c.look_up-found.ensures.keeps.rises

pub returns-clause-met : goal.returns-clause-met
returns-clause-met g c = c.bring_in-pinned.ensures.met ∙ ap (λ (m : FailedCalls). met_claimed c.bring_in-pinned.result m) (met_searched c.args.seat.now.me.0 c.look_up-found.new.seat.me.0 c.look_up-found.ensures.keeps.same)

pub returns-clause-calls : goal.returns-clause-calls
returns-clause-calls g c = let u = c.look_up-found in let p = c.bring_in-pinned in
    let before = choice_state c.args.backend.now.queue c.args.ring.now c.args.backend.now.census in
    let after = choice_state p.new.backend.queue p.new.ring p.new.backend.census in
    let context = context_of c.args.ring.now in
    let io = c.args.backend.now.io.counted in
    let claimed = subst (λ (b : Bool). ClaimsAndCounts {L = g.row.L.Denot} {G = g.row.G.Denot} g.L.BlockLane.contents c.args.table.now context c.args.tag.now c.args.held.now b u.new.seat.me.0 before p.new.seat.me.0 after io p.new.backend.io.counted p.result) (sym c.is_some-ringed.ensures) p.ensures.answer in
    subst (λ (b : Bool). PinsAndCounts {L = g.row.L.Denot} {G = g.row.G.Denot} g.L.BlockLane.contents c.args.table.now c.args.tag.now c.args.held.now b u.result.1 before after context c.args.seat.now.me.0 p.new.seat.me.0 io p.new.backend.io.counted p.result) c.is_some-ringed.ensures
    (pins_missed {L = g.row.L.Denot} {G = g.row.G.Denot} g.L.BlockLane.contents c.args.table.now c.args.tag.now c.args.held.now c.is_some-ringed.result before after context io p.new.backend.io.counted u.result.1 c.args.seat.now.me.0 u.new.seat.me.0 p.new.seat.me.0 p.result c.requires.ready.rests (still g c) (looks g c) u.ensures.keeps.same (since g c) p.ensures.keeps.rises p.ensures.calls claimed p.ensures.unpushed)

pub returns-clause-turns : goal.returns-clause-turns
returns-clause-turns g c = turns_then _ _ _ _ c.args.seat.now.me.0 c.look_up-found.new.seat.me.0 c.bring_in-pinned.new.seat.me.0 _ (looks g c) c.look_up-found.ensures.turns c.bring_in-pinned.ensures.turns

pub returns-clause-hints : goal.returns-clause-hints
returns-clause-hints g c = notes_then _ _ _ _ c.args.seat.now.me.0 c.look_up-found.new.seat.me.0 c.bring_in-pinned.new.seat.me.0 _ c.bring_in-pinned.result (looks g c) (same_hints g c) c.bring_in-pinned.ensures.hints

pub returns-clause-census : goal.returns-clause-census
returns-clause-census g c = census_claimed (frames_of c.args.table.now) c.args.backend.now.census c.bring_in-pinned.new.backend.census c.bring_in-pinned.result c.bring_in-pinned.ensures.census

pub returns-in-Some-clause-keeps : goal.returns-in-Some-clause-keeps
returns-in-Some-clause-keeps g c = searched_keeps c.look_up-found.ensures.keeps

pub returns-clause-keeps : goal.returns-clause-keeps
returns-clause-keeps g c = keeps_on (searched_keeps c.look_up-found.ensures.keeps) c.bring_in-pinned.ensures.keeps
