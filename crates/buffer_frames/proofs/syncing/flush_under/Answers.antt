use Rattle.std.proofs.Common.{◌∙◌, Option, sym, ap, subst}
use Rattle.pin_core.specs.declared.view.Link.{Link}
use Rattle.pin_core.specs.State.{link}
use Rattle.frame_table.specs.Seats.{unlocked_link}
use Rattle.buffer_frames.specs.Rests.{LinkRests}
use Rattle.buffer_frames.specs.Tokens.{HeldFrame, held_at}
use Rattle.buffer_frames.proofs.Keeping.{beside_kept, rests_with, stands_self}
use Rattle.buffer_frames.proofs.Notes.{notes_by}
use Rattle.buffer_frames.specs.Syncs.{pinned_before}
use Rattle.buffer_frames.proofs.Passing.{flushes_on, holds_header, rests_left, some_pinned}
use Rattle.buffer_frames.proofs.syncing.flush_under.Goals as goal

pub unlock_header-requires-clause-held : goal.unlock_header-requires-clause-held
unlock_header-requires-clause-held g c = holds_header c.args.word (link c.args.seat.now.me.0
    c.args.frame) c.requires.header.held c.requires.rests.calm.assigned

pub flush_seen-requires-clause-stands : goal.flush_seen-requires-clause-stands
flush_seen-requires-clause-stands g c = stands_self _ c.args.seat.now c.unlock_header.new.seat
    c.unlock_header.ensures.seat c.unlock_header.ensures.touches.self c.requires.stands

pub flush_seen-requires-clause-others : goal.flush_seen-requires-clause-others
flush_seen-requires-clause-others g c = beside_kept c.args.frame c.args.held.now
    c.args.seat.now.me.0 c.unlock_header.new.seat.me.0 c.unlock_header.ensures.touches.others
    c.requires.others

pub flush_seen-requires-clause-calm : goal.flush_seen-requires-clause-calm
flush_seen-requires-clause-calm g c = (subst (LinkRests (held_at c.args.held.now c.args.frame))
    (sym c.unlock_header.ensures.unlocked) c.requires.rests).calm

pub flush_seen-requires-clause-unlocked : goal.flush_seen-requires-clause-unlocked
flush_seen-requires-clause-unlocked g c = ap (λ (l : Link). l.content)
    c.unlock_header.ensures.unlocked ∙ c.requires.unlocked

pub flush_seen-requires-clause-pinned : goal.flush_seen-requires-clause-pinned
flush_seen-requires-clause-pinned g c = some_pinned (held_at c.args.held.now c.args.frame) _
    (c.holds.ensures.held c.if-holds.true) (ap (λ (l : Link). l.role)
    c.unlock_header.ensures.unlocked ∙ c.requires.rests.role)

pub returns-then-holds-clause-rests : goal.returns-then-holds-clause-rests
returns-then-holds-clause-rests g c =
    let s = c.flush_seen.ensures in
    rests_with c.args.frame c.args.held.now c.flush_seen.new.seat.me.0
    (beside_kept c.args.frame c.args.held.now c.args.seat.now.me.0 c.flush_seen.new.seat.me.0
    (λ h n. s.flushes.works.others h n ∙ c.unlock_header.ensures.touches.others h n)
    c.requires.others)
    (rests_left (held_at c.args.held.now c.args.frame) (link c.unlock_header.new.seat.me.0
    c.args.frame) (link c.flush_seen.new.seat.me.0 c.args.frame)
    (c.holds.ensures.held c.if-holds.true) (subst (LinkRests (held_at c.args.held.now
    c.args.frame)) (sym c.unlock_header.ensures.unlocked) c.requires.rests) s.left)

pub returns-then-holds-clause-unlocked : goal.returns-then-holds-clause-unlocked
returns-then-holds-clause-unlocked g c = c.flush_seen.ensures.left.unlocked

pub returns-then-holds-clause-pins : goal.returns-then-holds-clause-pins
returns-then-holds-clause-pins g c = pinned_before (some_pinned (held_at c.args.held.now
    c.args.frame) _ (c.holds.ensures.held c.if-holds.true) c.requires.rests.role)

pub returns-then-holds-clause-flushes : goal.returns-then-holds-clause-flushes
returns-then-holds-clause-flushes g c =
    let h = c.unlock_header.ensures in
    let f = c.args.frame in
    let v = c.args.seat.now.me.0 in
    let x = c.unlock_header.new.seat.me.0 in
    flushes_on {L = g.row.L.Denot} {G = g.row.G.Denot} g.L.BlockLane.contents c.args.table.now f v x
    c.flush_seen.new.seat.me.0 _ h.touches h.marks (notes_by (link v f) (link x f)
    (ap (λ (l : Link). l.visited) h.unlocked) (ap (λ (l : Link). l.left_to_write) h.unlocked))
    c.flush_seen.ensures.flushes

pub flush_anew-requires-clause-rests : goal.flush_anew-requires-clause-rests
flush_anew-requires-clause-rests g c = subst (λ (o : Option HeldFrame). LinkRests o
    (unlocked_link (link c.args.seat.now.me.0 c.args.frame))) (c.holds.ensures.none
    c.if-holds.false) c.requires.rests

pub returns-clause-unlocked : goal.returns-clause-unlocked
returns-clause-unlocked g c = (c.flush_anew.ensures.rests c.args.frame).unlocked
    (c.holds.ensures.none c.if-holds.false)
