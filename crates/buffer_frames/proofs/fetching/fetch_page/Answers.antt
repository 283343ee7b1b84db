use Rattle.std.proofs.Common.{ℕ, ap, refl, subst, sym, ◌∙◌}
use Rattle.block_tag.specs.Names.{packed_tag}
use Rattle.pin_core.specs.State.{link}
use Rattle.frame_table.specs.Seats.{ViewMarks}
use Rattle.frame_table.proofs.Rising.{rises_on, rises_touched}
use Rattle.buffer_frames.specs.Rests.{LinksRestBeside}
use Rattle.buffer_frames.specs.Stages.{IsRead, IsReading}
use Rattle.buffer_frames.specs.Working.{Works}
use Rattle.buffer_frames.proofs.Keeping.{beside_kept, stands_self}
use Rattle.buffer_frames.proofs.Links.{begun_fresh, pins_worked, read_looked, read_of_pins}
use Rattle.buffer_frames.proofs.Links.{reading_begun}
use Rattle.buffer_frames.proofs.Unread.{unread_after}
use Rattle.buffer_frames.proofs.WorkSteps.{headless, no_io}
use Rattle.buffer_frames.proofs.Works.{and_looked, and_step, works_none, works_then}
use Rattle.buffer_frames.proofs.fetching.fetch_page.Goals as goal

pub returns-then-has-clause-works : goal.returns-then-has-clause-works
returns-then-has-clause-works g c = let k = c.look.ensures in
    and_looked (works_none c.args.frame c.requires.stands) k.seat k.touches k.marks k.link

pub returns-then-has-clause-pinned : goal.returns-then-has-clause-pinned
returns-then-has-clause-pinned g c = let f = c.args.frame in let tag = packed_tag c.args.tag.now in
    pins_worked tag f c.args.held.now c.args.seat.now.me.0 c.look.new.seat.me.0 c.requires.pinned
    (returns-then-has-clause-works g c).work
    (read_looked tag (link c.args.seat.now.me.0 f) (link c.look.new.seat.me.0 f)
    c.look.ensures.link (read_of_pins tag f c.args.held.now c.args.seat.now.me.0 c.requires.pinned))

pub returns-then-has-clause-shows : goal.returns-then-has-clause-shows
returns-then-has-clause-shows g c = c.look.ensures.opening.valid c.args.tag.now
    c.requires.pinned.remembered (sym c.has.ensures ∙ c.if-has.true)

pub start_io-requires-clause-headless : goal.start_io-requires-clause-headless
start_io-requires-clause-headless g c = let k = c.look.ensures in let p = c.requires.pinned in
    headless c.args.held.now c.args.frame c.look.new.seat.me.0 (beside_kept c.args.frame
    c.args.held.now c.args.seat.now.me.0 c.look.new.seat.me.0 k.touches.others p.others)
    (k.link.header ∙ p.calm.no_header)

pub start_io-requires-clause-quiet : goal.start_io-requires-clause-quiet
start_io-requires-clause-quiet g c = let k = c.look.ensures in let p = c.requires.pinned in
    no_io c.args.held.now c.args.frame c.look.new.seat.me.0 (beside_kept c.args.frame
    c.args.held.now c.args.seat.now.me.0 c.look.new.seat.me.0 k.touches.others p.others)
    (k.link.io ∙ p.calm.no_io)

pub returns-in_default-clause-works : goal.returns-in_default-clause-works
returns-in_default-clause-works g c = let k = c.look.ensures in let s = c.start_io.ensures in
    let n = c.look-in_default.ensures in
    and_looked (and_looked (and_looked (works_none c.args.frame c.requires.stands)
    k.seat k.touches k.marks k.link) s.seat s.touches c.in_default.ensures.marks
    c.in_default.ensures.left) n.seat n.touches n.marks n.link

pub returns-in_default-clause-pinned : goal.returns-in_default-clause-pinned
returns-in_default-clause-pinned g c = let f = c.args.frame in
    let tag = packed_tag c.args.tag.now in
    pins_worked tag f c.args.held.now c.args.seat.now.me.0 c.look-in_default.new.seat.me.0
    c.requires.pinned (returns-in_default-clause-works g c).work
    (read_looked tag (link c.start_io.new.seat.me.0 f) (link c.look-in_default.new.seat.me.0 f)
    c.look-in_default.ensures.link
    (read_looked tag (link c.look.new.seat.me.0 f) (link c.start_io.new.seat.me.0 f)
    c.in_default.ensures.left
    (read_looked tag (link c.args.seat.now.me.0 f) (link c.look.new.seat.me.0 f)
    c.look.ensures.link
    (read_of_pins tag f c.args.held.now c.args.seat.now.me.0 c.requires.pinned))))

pub returns-in_default-clause-shows : goal.returns-in_default-clause-shows
returns-in_default-clause-shows g c = let n = c.look-in_default.ensures in
    n.opening.valid c.args.tag.now (c.in_default.ensures.left.tag ∙ c.look.ensures.link.tag
    ∙ c.requires.pinned.remembered) (n.word.seen (c.in_default.ensures.seen refl))

pub returns-in_default-clause-seen : goal.returns-in_default-clause-seen
returns-in_default-clause-seen g c =
    c.look-in_default.ensures.link.seen_valid (c.in_default.ensures.seen refl)

pub read_in-requires-clause-stands : goal.read_in-requires-clause-stands
read_in-requires-clause-stands g c = let k = c.look.ensures in let s = c.start_io.ensures in
    stands_self _ c.look.new.seat c.start_io.new.seat s.seat s.touches.self
    (stands_self _ c.args.seat.now c.look.new.seat k.seat k.touches.self c.requires.stands)

pub read_in-requires-clause-others : goal.read_in-requires-clause-others
read_in-requires-clause-others g c = let f = c.args.frame in
    subst (λ (x : ℕ). LinksRestBeside x c.args.held.now c.start_io.new.seat.me.0)
    (sym c.in-Some.ensures.right.0) (beside_kept f c.args.held.now c.args.seat.now.me.0
    c.start_io.new.seat.me.0 (λ h n. c.start_io.ensures.touches.others h n
    ∙ c.look.ensures.touches.others h n) c.requires.pinned.others)

pub read_in-requires-clause-reads : goal.read_in-requires-clause-reads
read_in-requires-clause-reads g c = let f = c.args.frame in let tag = packed_tag c.args.tag.now in
    let s = c.in-Some.ensures in
    subst (λ (x : ℕ). IsReading tag (link c.start_io.new.seat.me.0 x)) (sym s.right.0)
    (reading_begun tag (link c.look.new.seat.me.0 f) (link c.start_io.new.seat.me.0 f)
    (read_looked tag (link c.args.seat.now.me.0 f) (link c.look.new.seat.me.0 f)
    c.look.ensures.link (read_of_pins tag f c.args.held.now c.args.seat.now.me.0
    c.requires.pinned)) s.begun (begun_fresh f s.did.word s.did.under c.start_io.new.seat.me.0
    s.did.did))

pub returns-clause-works : goal.returns-clause-works
returns-clause-works g c = let k = c.look.ensures in let s = c.start_io.ensures in
    let i = c.in-Some.ensures in
    works_then (and_step (and_looked (works_none c.args.frame c.requires.stands)
    k.seat k.touches k.marks k.link) s.seat s.touches
    (ap (λ (x : ViewMarks). x.dirtied_or_synced) i.marks) i.begun.role
    record { visited = i.begun.visited; left_to_write = i.begun.left_to_write })
    (subst (λ (x : ℕ). Works x c.args.table.now c.start_io.new.seat c.read_in.new.seat)
    i.right.0 c.read_in.ensures.works)

pub returns-clause-pinned : goal.returns-clause-pinned
returns-clause-pinned g c = let f = c.args.frame in let tag = packed_tag c.args.tag.now in
    pins_worked tag f c.args.held.now c.args.seat.now.me.0 c.read_in.new.seat.me.0
    c.requires.pinned (returns-clause-works g c).work
    (subst (λ (x : ℕ). IsRead tag (link c.read_in.new.seat.me.0 x)) c.in-Some.ensures.right.0
    c.read_in.ensures.read)

pub returns-clause-unread : goal.returns-clause-unread
returns-clause-unread g c = let f = c.args.frame in
    unread_after c.args.tag.now f c.in-Some.right.frame c.args.seat.now.me.0
    c.start_io.new.seat.me.0 c.read_in.new.seat.me.0 c.read_in.result c.in-Some.ensures.right.0
    (rises_on _ c.look.new.seat.me.0 _ (rises_touched f c.args.seat.now.me.0 c.look.new.seat.me.0
    c.look.ensures.touches) (rises_touched f c.look.new.seat.me.0 c.start_io.new.seat.me.0
    c.start_io.ensures.touches)) c.read_in.ensures.unread
