use Rattle.std.proofs.Common.{◌≡◌, ℕ, ◌+◌, Some, arith, ap, sym, subst, ◌∙◌}
use Rattle.block_tag.specs.Names.{packed_tag}
use Rattle.pin_core.specs.declared.view.View.{View}
use Rattle.frame_table.specs.Seats.{frames_of}
use Rattle.map_partitions.specs.Hints.{StoresHint}
use Rattle.buffer_frames.specs.declared.hinting.HintSeen.TheVariants.{Had}
use Rattle.buffer_frames.specs.Lookups.{LooksUp, by_hint, by_map, by_none}
use Rattle.buffer_frames.proofs.Calm.{pins_worked}
use Rattle.buffer_frames.proofs.Hints.{notes_missed, store_links, store_notes, store_turns, takes_missed}
use Rattle.buffer_frames.proofs.lookup.look_up.Given.{Over}
use Rattle.buffer_frames.proofs.Keeps.{and_stored, keeps_on, keeps_searched}
use Rattle.buffer_frames.proofs.lookup.look_up.Goals as goal

pub returns-in-Ok-clause-did : goal.returns-in-Ok-clause-did
returns-in-Ok-clause-did g c = subst (λ (f : ℕ). LooksUp (frames_of c.args.table.now) c.args.tag.now c.args.held.now c.args.ring c.args.seat.now.me.0 c.try_hint.new.seat.me.0 (Had f) (Some c.in-Ok.pin.frame)) (sym c.frame-frame.ensures) (by_hint c.in-Ok.ensures.did)

pub returns-in-Ok-clause-hints : goal.returns-in-Ok-clause-hints
returns-in-Ok-clause-hints g c = (c.frame-frame.ensures, ap (λ (v : View). v.hints) c.try_hint.ensures.keeps.same)

pub returns-in_default-clause-turns : goal.returns-in_default-clause-turns
returns-in_default-clause-turns g c =
    let turned : c.search.new.seat.me.0.turns ≡ c.args.seat.now.me.0.turns + 1 = c.search.ensures.turns ∙ ap (λ (v : View). v.turns + 1) c.try_hint.ensures.keeps.same in
    takes_missed (frames_of c.args.table.now) c.args.tag.now c.args.held.now c.args.ring c.args.seat.now.me.0 c.try_hint.new.seat.me.0 c.in-Err.seen c.in-Err.ensures.did c.args.seat.now.me.0.turns c.search.new.seat.me.0.turns (omega arith)

pub returns-in_default-clause-did : goal.returns-in_default-clause-did
returns-in_default-clause-did g c = by_none c.try_hint.new.seat.me.0 c.in-Err.ensures.did c.in_default.ensures.did

-- the map did, and the hint was stored
module _ (g : Over) (c : goal.After-store_hint g) where
  stored : StoresHint (frames_of c.args.table.now) c.args.tag.now c.in-Some.pin.frame c.search.new.seat.me.0 c.store_hint.new.seat.me.0
  stored = subst (λ (f : ℕ). StoresHint (frames_of c.args.table.now) c.args.tag.now f c.search.new.seat.me.0 c.store_hint.new.seat.me.0) c.frame.ensures c.store_hint.ensures.did

pub returns-clause-pinned : goal.returns-clause-pinned
returns-clause-pinned g c = pins_worked c.args.held.now (packed_tag c.args.tag.now) c.in-Some.pin.frame c.search.new.seat.me.0 c.store_hint.new.seat.me.0 (store_links _ _ _ _ _ (stored g c)) c.in-Some.ensures.pinned

pub returns-clause-turns : goal.returns-clause-turns
returns-clause-turns g c =
    let turned : c.store_hint.new.seat.me.0.turns ≡ c.args.seat.now.me.0.turns + 1 = store_turns _ _ _ _ _ (stored g c) ∙ c.search.ensures.turns ∙ ap (λ (v : View). v.turns + 1) c.try_hint.ensures.keeps.same in
    takes_missed (frames_of c.args.table.now) c.args.tag.now c.args.held.now c.args.ring c.args.seat.now.me.0 c.try_hint.new.seat.me.0 c.in-Err.seen c.in-Err.ensures.did c.args.seat.now.me.0.turns c.store_hint.new.seat.me.0.turns (omega arith)

pub returns-clause-hints : goal.returns-clause-hints
returns-clause-hints g c = notes_missed (frames_of c.args.table.now) c.args.tag.now c.args.held.now c.args.ring c.args.seat.now.me.0 c.try_hint.new.seat.me.0 c.in-Err.seen c.in-Err.ensures.did c.in-Some.pin.frame c.args.seat.now.me.0.hints c.store_hint.new.seat.me.0.hints
    (store_notes _ _ _ _ _ (stored g c) c.args.seat.now.me.0.hints (c.search.ensures.hints ∙ ap (λ (v : View). v.hints) c.try_hint.ensures.keeps.same))

pub returns-clause-did : goal.returns-clause-did
returns-clause-did g c = by_map c.try_hint.new.seat.me.0 c.search.new.seat.me.0 c.in-Err.ensures.did c.in-Some.ensures.did (stored g c)

pub returns-in-Ok-clause-keeps : goal.returns-in-Ok-clause-keeps
returns-in-Ok-clause-keeps g c = keeps_searched c.try_hint.ensures.keeps

pub returns-in_default-clause-keeps : goal.returns-in_default-clause-keeps
returns-in_default-clause-keeps g c = keeps_on (keeps_searched c.try_hint.ensures.keeps) c.search.ensures.keeps

pub returns-clause-keeps : goal.returns-clause-keeps
returns-clause-keeps g c = and_stored (keeps_on (keeps_searched c.try_hint.ensures.keeps) c.search.ensures.keeps) c.store_hint.ensures.seat (stored g c)
