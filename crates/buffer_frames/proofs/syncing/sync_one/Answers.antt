use Rattle.std.proofs.Common.{◌∙◌, sym, subst}
use Rattle.state_word.specs.Fields.{fields}
use Rattle.pin_core.specs.State.{link}
use Rattle.buffer_frames.specs.Rests.{LinkRests}
use Rattle.buffer_frames.specs.Tokens.{held_at}
use Rattle.buffer_frames.proofs.Keeping.{beside, beside_kept, rests_with, stands_self}
use Rattle.buffer_frames.proofs.Passing.{holds_header, is_dirty, notes_locked, rests_under, syncs_at_once, syncs_flushed, unlocked_at}
use Rattle.buffer_frames.proofs.syncing.sync_one.Goals as goal

pub unlock_header-requires-clause-held : goal.unlock_header-requires-clause-held
unlock_header-requires-clause-held g c = let l = c.look_under-word.ensures.locked in holds_header c.look_under-word.result (link c.look_under-word.new.seat.me.0 c.args.frame) l.header (l.pending ∙ (c.requires.rests c.args.frame).calm.assigned)

pub returns-in-Some-clause-stands : goal.returns-in-Some-clause-stands
returns-in-Some-clause-stands g c = stands_self _ c.look_under-word.new.seat c.unlock_header.new.seat c.unlock_header.ensures.seat c.unlock_header.ensures.touches.self (stands_self _ c.args.seat.now c.look_under-word.new.seat c.look_under-word.ensures.seat c.look_under-word.ensures.touches.self c.requires.stands)

pub returns-in-Some-clause-rests : goal.returns-in-Some-clause-rests
returns-in-Some-clause-rests g c =
    let f = c.args.frame in
    let t = c.args.held.now in
    let v = c.args.seat.now.me.0 in
    let u = c.look_under-word.new.seat.me.0 in
    let w = c.unlock_header.new.seat.me.0 in
    rests_with f t w (beside_kept f t v w (λ h n. c.unlock_header.ensures.touches.others h n ∙ c.look_under-word.ensures.touches.others h n) (beside f t v c.requires.rests))
    (subst (LinkRests (held_at t f)) (sym c.unlock_header.ensures.unlocked) (rests_under (held_at t f) c.look_under-word.result (link v f) (link u f) c.look_under-word.ensures.locked (c.requires.rests f)))

pub returns-in-Some-clause-one : goal.returns-in-Some-clause-one
returns-in-Some-clause-one g c = let l = c.look_under-word.ensures in let h = c.unlock_header.ensures in
    syncs_at_once {L = g.row.L.Denot} {G = g.row.G.Denot} g.L.BlockLane.contents c.args.table.now c.in-Some.synced c.args.only c.look_under-word.result c.args.frame c.args.seat.now.me.0 c.look_under-word.new.seat.me.0 c.unlock_header.new.seat.me.0 l.looks l.touches l.marks l.locked l.not_left_to_write h.touches h.marks h.unlocked c.in-Some.ensures

pub flush_under-requires-clause-stands : goal.flush_under-requires-clause-stands
flush_under-requires-clause-stands g c = stands_self _ c.args.seat.now c.look_under-word.new.seat c.look_under-word.ensures.seat c.look_under-word.ensures.touches.self c.requires.stands

pub flush_under-requires-clause-others : goal.flush_under-requires-clause-others
flush_under-requires-clause-others g c = beside_kept c.args.frame c.args.held.now c.args.seat.now.me.0 c.look_under-word.new.seat.me.0 c.look_under-word.ensures.touches.others (beside c.args.frame c.args.held.now c.args.seat.now.me.0 c.requires.rests)

pub flush_under-requires-clause-rests : goal.flush_under-requires-clause-rests
flush_under-requires-clause-rests g c = rests_under (held_at c.args.held.now c.args.frame) c.look_under-word.result (link c.args.seat.now.me.0 c.args.frame) (link c.look_under-word.new.seat.me.0 c.args.frame) c.look_under-word.ensures.locked (c.requires.rests c.args.frame)

pub flush_under-requires-clause-header : goal.flush_under-requires-clause-header
flush_under-requires-clause-header g c = record { held = c.look_under-word.ensures.locked.header; knows = is_dirty (link c.args.seat.now.me.0 c.args.frame) (fields c.look_under-word.result) c.look_under-word.ensures.word c.in_default.ensures.1 }

pub flush_under-requires-clause-unlocked : goal.flush_under-requires-clause-unlocked
flush_under-requires-clause-unlocked g c = c.look_under-word.ensures.locked.content ∙ unlocked_at c.args.only (held_at c.args.held.now c.args.frame) (link c.args.seat.now.me.0 c.args.frame) (fields c.look_under-word.result) c.look_under-word.ensures.word c.in_default.ensures.0 (c.requires.rests c.args.frame) c.requires.unlocked

pub returns-clause-one : goal.returns-clause-one
returns-clause-one g c =
    let l = c.look_under-word.ensures in
    let e = c.flush_under.ensures in
    let before = unlocked_at c.args.only (held_at c.args.held.now c.args.frame) (link c.args.seat.now.me.0 c.args.frame) (fields c.look_under-word.result) l.word c.in_default.ensures.0 (c.requires.rests c.args.frame) c.requires.unlocked in
    syncs_flushed {L = g.row.L.Denot} {G = g.row.G.Denot} g.L.BlockLane.contents c.args.table.now c.args.only c.look_under-word.result c.args.frame c.args.seat.now.me.0 c.look_under-word.new.seat.me.0 c.flush_under.new.seat.me.0 _ l.looks l.touches l.marks (notes_locked c.look_under-word.result (link c.args.seat.now.me.0 c.args.frame) (link c.look_under-word.new.seat.me.0 c.args.frame) l.locked) c.in_default.ensures.0 e.pins e.flushes (e.unlocked ∙ sym before)
