use Rattle.std.proofs.Common.{ℕ, Some, ap, sym, subst, ◌∙◌}
use Rattle.block_tag.specs.declared.tag.Tag.{Tag}
use Rattle.block_tag.specs.Names.{packed_tag}
use Rattle.cleanup_lock.specs.Waking.{Woken}
use Rattle.buffer_frames.proofs.HeldLists.{other_tag}
use Rattle.buffer_frames.specs.Hinting.{PinsHinted}
use Rattle.buffer_frames.specs.Stages.{Pins}
use Rattle.buffer_frames.proofs.Pinning.{pins_read, tags_same}
use Rattle.buffer_frames.proofs.Keeps.{and_touched, keeps_on, ready_keeps}
use Rattle.pin_core.specs.declared.view.Link.{Link}
use Rattle.buffer_frames.proofs.hinting.try_hinted.Goals as goal

pub returns-then-eq-clause-pinned : goal.returns-then-eq-clause-pinned
returns-then-eq-clause-pinned g c = let k = c.in-Ok.ensures in let l = c.load_tag.ensures in
    subst (λ (f : ℕ). Pins (packed_tag c.args.tag.now) f c.args.held.now c.load_tag.new.seat.me.0) (sym k.pin)
    (pins_read c.args.held.now (packed_tag c.args.tag.now) c.args.frame c.args.ring _ c.args.seat.now.me.0 c.try_pin.new.seat.me.0 c.load_tag.new.seat.me.0 c.requires.ready.rests c.requires.new k.touches.others k.pinned l.touches.others l.read (c.in-Some.ensures.handed k.pinned.role ∙ ap (λ (t : Tag). Some (packed_tag t)) (tags_same c.in-Some.other c.args.tag.now (sym c.eq.ensures ∙ c.if-eq.true))))

pub give_back-requires-clause-stands : goal.give_back-requires-clause-stands
give_back-requires-clause-stands g c = let k = c.in-Ok.ensures in let l = c.load_tag.ensures in (and_touched (and_touched (ready_keeps c.requires.ready) c.args.frame k.seat k.touches k.marks k.pinned.content) c.args.frame l.seat l.touches l.marks (ap (λ (x : Link). x.content) l.read)).stands

pub give_back-requires-clause-latches : goal.give_back-requires-clause-latches
give_back-requires-clause-latches g c = let k = c.in-Ok.ensures in let l = c.load_tag.ensures in (and_touched (and_touched (ready_keeps c.requires.ready) c.args.frame k.seat k.touches k.marks k.pinned.content) c.args.frame l.seat l.touches l.marks (ap (λ (x : Link). x.content) l.read)).latches

pub give_back-requires-clause-pinned : goal.give_back-requires-clause-pinned
give_back-requires-clause-pinned g c = let k = c.in-Ok.ensures in let l = c.load_tag.ensures in
    subst (λ (f : ℕ). Pins (packed_tag c.in-Some.other) f c.args.held.now c.load_tag.new.seat.me.0) (sym k.pin)
    (pins_read c.args.held.now (packed_tag c.in-Some.other) c.args.frame c.args.ring _ c.args.seat.now.me.0 c.try_pin.new.seat.me.0 c.load_tag.new.seat.me.0 c.requires.ready.rests c.requires.new k.touches.others k.pinned l.touches.others l.read (c.in-Some.ensures.handed k.pinned.role))

pub returns-then-eq-clause-did : goal.returns-then-eq-clause-did
returns-then-eq-clause-did g c = let k = c.in-Ok.ensures in let d = k.did in
    subst (λ (f : ℕ). PinsHinted c.args.tag.now f c.args.ring c.args.seat.now.me.0 c.load_tag.new.seat.me.0) (sym k.pin)
    (subst (λ (t : Tag). PinsHinted t c.args.frame c.args.ring c.args.seat.now.me.0 c.load_tag.new.seat.me.0) (tags_same c.in-Some.other c.args.tag.now (sym c.eq.ensures ∙ c.if-eq.true)) record { looked = d.0; was = d.1; look = d.2; pinned = c.try_pin.new.seat.me.0; pin = d.3; read = c.in-Some.ensures.did })

pub returns-clause-did : goal.returns-clause-did
returns-clause-did g c = let k = c.in-Ok.ensures in let d = k.did in (
  other_tag c.in-Some.other c.args.tag.now (sym c.if-eq.false ∙ c.eq.ensures),
  record {
    between = c.load_tag.new.seat.me.0;
    pins = record { looked = d.0; was = d.1; look = d.2; pinned = c.try_pin.new.seat.me.0; pin = d.3; read = c.in-Some.ensures.did };
    gives = subst (λ (f : ℕ). Woken f c.load_tag.new.seat.me.0 c.give_back.new.seat.me.0) k.pin c.give_back.ensures.did;
  },
)

pub returns-then-eq-clause-keeps : goal.returns-then-eq-clause-keeps
returns-then-eq-clause-keeps g c = let k = c.in-Ok.ensures in let l = c.load_tag.ensures in and_touched (and_touched (ready_keeps c.requires.ready) c.args.frame k.seat k.touches k.marks k.pinned.content) c.args.frame l.seat l.touches l.marks (ap (λ (x : Link). x.content) l.read)

pub returns-clause-keeps : goal.returns-clause-keeps
returns-clause-keeps g c = let k = c.in-Ok.ensures in let l = c.load_tag.ensures in keeps_on (and_touched (and_touched (ready_keeps c.requires.ready) c.args.frame k.seat k.touches k.marks k.pinned.content) c.args.frame l.seat l.touches l.marks (ap (λ (x : Link). x.content) l.read)) c.give_back.ensures.keeps
