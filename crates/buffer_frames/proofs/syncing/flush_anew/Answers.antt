use Rattle.std.proofs.Common.{◌≡◌, ◌∙◌, ℕ, false, refl, sym, ap, subst}
use Rattle.pin_core.specs.declared.view.Link.{Link}
use Rattle.pin_core.specs.declared.view.Role.TheVariants.{Absent, Victim}
use Rattle.pin_core.specs.State.{link}
use Rattle.frame_table.specs.Seats.{Looked, MayUnpin, Touches, unpinned_link}
use Rattle.frame_table.proofs.Rising.{rises_none}
use Rattle.cleanup_lock.specs.Waking.{Woken}
use Rattle.buffer_frames.proofs.Keeping.{beside_kept, stands_self}
use Rattle.buffer_frames.proofs.Calm.{victim_unpinned}
use Rattle.buffer_frames.proofs.Heading.{headless_victim}
use Rattle.buffer_frames.proofs.Notes.{notes_by}
use Rattle.buffer_frames.specs.Syncs.{pinned_anew}
use Rattle.buffer_frames.proofs.Passing.{calm_victim, flushes_on, flushes_then, has_room, may_unpin, no_victim, notes_unpinned, victim_left}
use Rattle.buffer_frames.proofs.syncing.flush_anew.Goals as goal

pub victim_pin-pin-requires-clause-held : goal.victim_pin-pin-requires-clause-held
victim_pin-pin-requires-clause-held g c = record { held = c.requires.header.held; knows = has_room _ c.requires.header.knows }

pub victim_pin-pin-requires-clause-few : goal.victim_pin-pin-requires-clause-few
victim_pin-pin-requires-clause-few g c = c.requires.header.knows.few

pub victim_pin-pin-requires-clause-absent : goal.victim_pin-pin-requires-clause-absent
victim_pin-pin-requires-clause-absent g c = c.requires.rests.role

pub victim_pin-pin-requires-clause-only : goal.victim_pin-pin-requires-clause-only
victim_pin-pin-requires-clause-only g c = no_victim c.args.held.now c.args.frame c.args.seat.now.me.0 c.requires.others c.requires.rests.role

pub flush_seen-answer-requires-clause-stands : goal.flush_seen-answer-requires-clause-stands
flush_seen-answer-requires-clause-stands g c = stands_self _ c.args.seat.now c.victim_pin-pin.new.seat c.victim_pin-pin.ensures.seat c.victim_pin-pin.ensures.touches.self c.requires.stands

pub flush_seen-answer-requires-clause-others : goal.flush_seen-answer-requires-clause-others
flush_seen-answer-requires-clause-others g c = beside_kept c.args.frame c.args.held.now c.args.seat.now.me.0 c.victim_pin-pin.new.seat.me.0 c.victim_pin-pin.ensures.touches.others c.requires.others

pub flush_seen-answer-requires-clause-calm : goal.flush_seen-answer-requires-clause-calm
flush_seen-answer-requires-clause-calm g c = calm_victim (link c.args.seat.now.me.0 c.args.frame) (link c.victim_pin-pin.new.seat.me.0 c.args.frame) c.victim_pin-pin.ensures.pinned c.requires.rests.calm

pub flush_seen-answer-requires-clause-unlocked : goal.flush_seen-answer-requires-clause-unlocked
flush_seen-answer-requires-clause-unlocked g c = ap (λ (l : Link). l.content) c.victim_pin-pin.ensures.pinned ∙ c.requires.rests.unlocked refl

pub flush_seen-answer-requires-clause-pinned : goal.flush_seen-answer-requires-clause-pinned
flush_seen-answer-requires-clause-pinned g c = λ absent. (let no : Victim ≡ Absent = sym (ap (λ (l : Link). l.role) c.victim_pin-pin.ensures.pinned) ∙ absent in absurd (cc))

pub unpin_and_wake-requires-clause-headless : goal.unpin_and_wake-requires-clause-headless
unpin_and_wake-requires-clause-headless g c = headless_victim c.args.held.now c.args.frame c.flush_seen-answer.new.seat.me.0 (victim_left c.args.held.now c.args.frame c.args.seat.now.me.0 c.victim_pin-pin.new.seat.me.0 c.flush_seen-answer.new.seat.me.0 c.requires.others c.requires.new c.victim_pin-pin.ensures.touches.others (ap (λ (l : Link). l.role) c.victim_pin-pin.ensures.pinned) c.flush_seen-answer.ensures.flushes.works.others c.flush_seen-answer.ensures.left)

pub unpin_and_wake-requires-clause-settled : goal.unpin_and_wake-requires-clause-settled
unpin_and_wake-requires-clause-settled g c = subst (λ (h : ℕ). (link c.flush_seen-answer.new.seat.me.0 h).pending ≡ false) (sym c.victim_pin-pin.ensures.pin) c.flush_seen-answer.ensures.left.calm.assigned

pub unpin_and_wake-requires-clause-pinned : goal.unpin_and_wake-requires-clause-pinned
unpin_and_wake-requires-clause-pinned g c = subst (λ (h : ℕ). MayUnpin (link c.flush_seen-answer.new.seat.me.0 h)) (sym c.victim_pin-pin.ensures.pin) (may_unpin (link c.victim_pin-pin.new.seat.me.0 c.args.frame) (link c.flush_seen-answer.new.seat.me.0 c.args.frame) (ap (λ (l : Link). l.role) c.victim_pin-pin.ensures.pinned) c.flush_seen-answer.ensures.left)

pub returns-clause-stands : goal.returns-clause-stands
returns-clause-stands g c = stands_self _ c.flush_seen-answer.new.seat c.unpin_and_wake.new.seat c.unpin_and_wake.ensures.seat c.unpin_and_wake.ensures.touches.self c.flush_seen-answer.ensures.stands

pub returns-clause-rests : goal.returns-clause-rests
returns-clause-rests g c =
    let victim = victim_left c.args.held.now c.args.frame c.args.seat.now.me.0 c.victim_pin-pin.new.seat.me.0 c.flush_seen-answer.new.seat.me.0 c.requires.others c.requires.new c.victim_pin-pin.ensures.touches.others (ap (λ (l : Link). l.role) c.victim_pin-pin.ensures.pinned) c.flush_seen-answer.ensures.flushes.works.others c.flush_seen-answer.ensures.left in
    let k = subst (λ (h : ℕ). Touches h c.flush_seen-answer.new.seat.me.0 c.unpin_and_wake.new.seat.me.0) c.victim_pin-pin.ensures.pin c.unpin_and_wake.ensures.touches in
    victim_unpinned c.args.held.now c.args.frame c.flush_seen-answer.new.seat.me.0 c.unpin_and_wake.new.seat.me.0 victim k.others (subst (λ (h : ℕ). Looked (unpinned_link (link c.flush_seen-answer.new.seat.me.0 h)) (link c.unpin_and_wake.new.seat.me.0 h)) c.victim_pin-pin.ensures.pin c.unpin_and_wake.ensures.unpinned)

pub returns-clause-pins : goal.returns-clause-pins
returns-clause-pins g c = pinned_anew c.args.seat.now.me.0 c.victim_pin-pin.new.seat.me.0 c.flush_seen-answer.new.seat.me.0 (rises_none c.args.seat.now.me.0) c.victim_pin-pin.ensures.did c.flush_seen-answer.ensures.flushes.works.advances (subst (λ (h : ℕ). Woken h c.flush_seen-answer.new.seat.me.0 c.unpin_and_wake.new.seat.me.0) c.victim_pin-pin.ensures.pin c.unpin_and_wake.ensures.did)

pub returns-clause-flushes : goal.returns-clause-flushes
returns-clause-flushes g c =
    let p = c.victim_pin-pin.ensures in
    let f = c.args.frame in
    let v = c.args.seat.now.me.0 in
    let u = c.victim_pin-pin.new.seat.me.0 in
    let x = c.flush_seen-answer.new.seat.me.0 in
    let w = c.unpin_and_wake.new.seat.me.0 in
    let k = subst (λ (h : ℕ). Touches h x w) p.pin c.unpin_and_wake.ensures.touches in
    let a = subst (λ (h : ℕ). Looked (unpinned_link (link x h)) (link w h)) p.pin c.unpin_and_wake.ensures.unpinned in
    flushes_then {L = g.row.L.Denot} {G = g.row.G.Denot} g.L.BlockLane.contents c.args.table.now f v x w c.flush_seen-answer.result
    (flushes_on {L = g.row.L.Denot} {G = g.row.G.Denot} g.L.BlockLane.contents c.args.table.now f v u x c.flush_seen-answer.result p.touches p.marks (notes_by (link v f) (link u f) (ap (λ (l : Link). l.visited) p.pinned) (ap (λ (l : Link). l.left_to_write) p.pinned)) c.flush_seen-answer.ensures.flushes)
    k c.unpin_and_wake.ensures.marks (notes_unpinned (link x f) (link w f) a)
