use Rattle.std.proofs.Common.{◌∙◌, ap}
use Rattle.block_tag.specs.Names.{packed_tag}
use Rattle.pin_core.specs.declared.view.Link.{Link}
use Rattle.pin_core.specs.declared.view.View.{View}
use Rattle.buffer_frames.proofs.Keeping.{stands_on}
use Rattle.frame_table.proofs.SameSeats.{same_seat_on}
use Rattle.buffer_frames.proofs.PagePuts.{MarkedFrameDirty, calls_put, calls_not_put, can_insert, device_inserted, device_put, device_refused, marked_put, marked_refused, met_all, met_not_put, put_refused, puts_all, puts_done, puts_none, rests_put, rests_refused, right_put, right_refused, torn_not_put, torn_put}
use Rattle.buffer_frames.proofs.puts.put_locked.Goals as goal

pub insert-requires-clause-seat : goal.insert-requires-clause-seat
insert-requires-clause-seat g c = let d = c.mark_dirty.ensures in record {
  fits = d.seat.table ∙ c.requires.stands.fits;
  live = ap (λ (x : View). x.emptied) d.touches.self ∙ c.requires.stands.quiet.live;
}

pub insert-requires-clause-free : goal.insert-requires-clause-free
insert-requires-clause-free g c = ap (λ (x : View). x.log.held) c.mark_dirty.ensures.touches.self ∙ ap (λ h. h.held) c.requires.stands.quiet.log

pub insert-requires-clause-can : goal.insert-requires-clause-can
insert-requires-clause-can g c =
    let d = c.mark_dirty.ensures in
    let r = c.requires in
    let m : MarkedFrameDirty c.args.frame c.args.seat.now.me.0 c.mark_dirty.new.seat.me.0 = record { touches = d.touches; marks = d.marks; dirtied = d.dirtied; did = d.did } in
    can_insert c.args.frame c.args._held.now _ _ m _ c.args.tag _ r.tag r.block r.pinned r.rests r.right r.sound r.used

pub apply-requires-clause-stands : goal.apply-requires-clause-stands
apply-requires-clause-stands g c =
    let d = c.mark_dirty.ensures in
    let e = c.in-Ok.ensures in
    let m : MarkedFrameDirty c.args.frame c.args.seat.now.me.0 c.mark_dirty.new.seat.me.0 = record { touches = d.touches; marks = d.marks; dirtied = d.dirtied; did = d.did } in
    stands_on c.args.table.now _ _ (same_seat_on _ _ _ d.seat e.seat) (device_inserted c.args.frame c.args._held.now _ _ m _ _ c.args.tag _ _ e.view e.rises e.did e.entered e.others c.requires.stands.quiet) c.requires.stands

pub apply-requires-clause-right : goal.apply-requires-clause-right
apply-requires-clause-right g c = ap (λ (l : Link). l.content) c.in-Ok.ensures.entered ∙ c.mark_dirty.ensures.dirtied.content ∙ c.requires.right

pub apply-requires-clause-home : goal.apply-requires-clause-home
apply-requires-clause-home g c = ap (λ (l : Link). l.out) c.in-Ok.ensures.entered ∙ c.mark_dirty.ensures.dirtied.out ∙ (c.requires.rests c.args.frame).calm.page_home

pub apply-requires-clause-entered : goal.apply-requires-clause-entered
apply-requires-clause-entered g c = ap (λ (l : Link). l.unapplied) c.in-Ok.ensures.entered

pub apply-requires-clause-image : goal.apply-requires-clause-image
apply-requires-clause-image g c = ap (λ (l : Link). l.image) c.in-Ok.ensures.entered

pub returns-in-Ok-clause-seat : goal.returns-in-Ok-clause-seat
returns-in-Ok-clause-seat g c =
    let d = c.mark_dirty.ensures in
    let m : MarkedFrameDirty c.args.frame c.args.seat.now.me.0 c.mark_dirty.new.seat.me.0 = record { touches = d.touches; marks = d.marks; dirtied = d.dirtied; did = d.did } in
    let e = c.in-Ok.ensures in
    let a = c.apply.ensures in
    same_seat_on _ _ _ (same_seat_on _ _ _ d.seat e.seat) a.seat

pub returns-in-Ok-clause-stands : goal.returns-in-Ok-clause-stands
returns-in-Ok-clause-stands g c =
    let d = c.mark_dirty.ensures in
    let m : MarkedFrameDirty c.args.frame c.args.seat.now.me.0 c.mark_dirty.new.seat.me.0 = record { touches = d.touches; marks = d.marks; dirtied = d.dirtied; did = d.did } in
    let e = c.in-Ok.ensures in
    let a = c.apply.ensures in
    stands_on c.args.table.now _ _ (same_seat_on _ _ _ (same_seat_on _ _ _ d.seat e.seat) a.seat) (device_put c.args.frame c.args._held.now _ _ m _ _ c.args.tag _ _ e.view e.rises e.did e.entered e.others _ a.touches a.marks a.applied c.requires.stands.quiet) c.requires.stands

pub returns-in-Ok-clause-puts : goal.returns-in-Ok-clause-puts
returns-in-Ok-clause-puts g c =
    let d = c.mark_dirty.ensures in
    let m : MarkedFrameDirty c.args.frame c.args.seat.now.me.0 c.mark_dirty.new.seat.me.0 = record { touches = d.touches; marks = d.marks; dirtied = d.dirtied; did = d.did } in
    let e = c.in-Ok.ensures in
    let a = c.apply.ensures in
    puts_all c.args.frame c.args._held.now _ _ m _ _ c.args.tag _ _ e.view e.rises e.did e.entered e.others _ a.touches a.marks a.applied

pub returns-in-Ok-clause-rests : goal.returns-in-Ok-clause-rests
returns-in-Ok-clause-rests g c =
    let d = c.mark_dirty.ensures in
    let m : MarkedFrameDirty c.args.frame c.args.seat.now.me.0 c.mark_dirty.new.seat.me.0 = record { touches = d.touches; marks = d.marks; dirtied = d.dirtied; did = d.did } in
    let e = c.in-Ok.ensures in
    let a = c.apply.ensures in
    rests_put c.args.frame c.args._held.now _ _ m _ _ c.args.tag _ _ e.view e.rises e.did e.entered e.others _ a.touches a.marks a.applied c.requires.rests

pub returns-in-Ok-clause-right : goal.returns-in-Ok-clause-right
returns-in-Ok-clause-right g c =
    let d = c.mark_dirty.ensures in
    let m : MarkedFrameDirty c.args.frame c.args.seat.now.me.0 c.mark_dirty.new.seat.me.0 = record { touches = d.touches; marks = d.marks; dirtied = d.dirtied; did = d.did } in
    let e = c.in-Ok.ensures in
    let a = c.apply.ensures in
    right_put c.args.frame c.args._held.now _ _ m _ _ c.args.tag _ _ e.view e.rises e.did e.entered e.others _ a.touches a.marks a.applied c.requires.right

pub returns-in-Ok-clause-marked : goal.returns-in-Ok-clause-marked
returns-in-Ok-clause-marked g c =
    let d = c.mark_dirty.ensures in
    let m : MarkedFrameDirty c.args.frame c.args.seat.now.me.0 c.mark_dirty.new.seat.me.0 = record { touches = d.touches; marks = d.marks; dirtied = d.dirtied; did = d.did } in
    let e = c.in-Ok.ensures in
    let a = c.apply.ensures in
    marked_put c.args.frame c.args._held.now _ _ m _ _ c.args.tag _ _ e.view e.rises e.did e.entered e.others _ a.touches a.marks a.applied

pub returns-in-Ok-clause-answer : goal.returns-in-Ok-clause-answer
returns-in-Ok-clause-answer g c =
    let d = c.mark_dirty.ensures in
    let m : MarkedFrameDirty c.args.frame c.args.seat.now.me.0 c.mark_dirty.new.seat.me.0 = record { touches = d.touches; marks = d.marks; dirtied = d.dirtied; did = d.did } in
    let e = c.in-Ok.ensures in
    let a = c.apply.ensures in
    puts_done c.args.frame c.args._held.now _ _ m _ _ c.args.tag _ _ e.view e.rises e.did e.entered e.others _ a.touches a.marks a.applied _ e.page a.did

pub returns-in-Ok-clause-calls : goal.returns-in-Ok-clause-calls
returns-in-Ok-clause-calls g c =
    let d = c.mark_dirty.ensures in
    let m : MarkedFrameDirty c.args.frame c.args.seat.now.me.0 c.mark_dirty.new.seat.me.0 = record { touches = d.touches; marks = d.marks; dirtied = d.dirtied; did = d.did } in
    let e = c.in-Ok.ensures in
    let a = c.apply.ensures in
    calls_put c.args.frame c.args._held.now _ _ m _ _ c.args.tag _ _ e.view e.rises e.did e.entered e.others _ a.touches a.marks a.applied

pub returns-in-Ok-clause-met : goal.returns-in-Ok-clause-met
returns-in-Ok-clause-met g c =
    let d = c.mark_dirty.ensures in
    let m : MarkedFrameDirty c.args.frame c.args.seat.now.me.0 c.mark_dirty.new.seat.me.0 = record { touches = d.touches; marks = d.marks; dirtied = d.dirtied; did = d.did } in
    let e = c.in-Ok.ensures in
    let a = c.apply.ensures in
    met_all c.args.frame c.args._held.now _ _ m _ _ c.args.tag _ _ e.view e.rises e.did e.entered e.others _ a.touches a.marks a.applied

pub returns-in-Err-clause-seat : goal.returns-in-Err-clause-seat
returns-in-Err-clause-seat g c =
    let d = c.mark_dirty.ensures in
    let m : MarkedFrameDirty c.args.frame c.args.seat.now.me.0 c.mark_dirty.new.seat.me.0 = record { touches = d.touches; marks = d.marks; dirtied = d.dirtied; did = d.did } in
    let e = c.in-Err.ensures in
    same_seat_on _ _ _ d.seat e.seat

pub returns-in-Err-clause-stands : goal.returns-in-Err-clause-stands
returns-in-Err-clause-stands g c =
    let d = c.mark_dirty.ensures in
    let m : MarkedFrameDirty c.args.frame c.args.seat.now.me.0 c.mark_dirty.new.seat.me.0 = record { touches = d.touches; marks = d.marks; dirtied = d.dirtied; did = d.did } in
    let e = c.in-Err.ensures in
    stands_on c.args.table.now _ _ (same_seat_on _ _ _ d.seat e.seat) (device_refused c.args.frame c.args._held.now _ _ m _ _ e.left e.rises c.requires.stands.quiet) c.requires.stands

pub returns-in-Err-clause-puts : goal.returns-in-Err-clause-puts
returns-in-Err-clause-puts g c =
    let d = c.mark_dirty.ensures in
    let m : MarkedFrameDirty c.args.frame c.args.seat.now.me.0 c.mark_dirty.new.seat.me.0 = record { touches = d.touches; marks = d.marks; dirtied = d.dirtied; did = d.did } in
    let e = c.in-Err.ensures in
    puts_none c.args.frame c.args._held.now _ _ m _ _ e.left e.rises

pub returns-in-Err-clause-rests : goal.returns-in-Err-clause-rests
returns-in-Err-clause-rests g c =
    let d = c.mark_dirty.ensures in
    let m : MarkedFrameDirty c.args.frame c.args.seat.now.me.0 c.mark_dirty.new.seat.me.0 = record { touches = d.touches; marks = d.marks; dirtied = d.dirtied; did = d.did } in
    let e = c.in-Err.ensures in
    rests_refused c.args.frame c.args._held.now _ _ m _ _ e.left e.rises c.requires.rests

pub returns-in-Err-clause-right : goal.returns-in-Err-clause-right
returns-in-Err-clause-right g c =
    let d = c.mark_dirty.ensures in
    let m : MarkedFrameDirty c.args.frame c.args.seat.now.me.0 c.mark_dirty.new.seat.me.0 = record { touches = d.touches; marks = d.marks; dirtied = d.dirtied; did = d.did } in
    let e = c.in-Err.ensures in
    right_refused c.args.frame c.args._held.now _ _ m _ _ e.left e.rises c.requires.right

pub returns-in-Err-clause-marked : goal.returns-in-Err-clause-marked
returns-in-Err-clause-marked g c =
    let d = c.mark_dirty.ensures in
    let m : MarkedFrameDirty c.args.frame c.args.seat.now.me.0 c.mark_dirty.new.seat.me.0 = record { touches = d.touches; marks = d.marks; dirtied = d.dirtied; did = d.did } in
    let e = c.in-Err.ensures in
    marked_refused c.args.frame c.args._held.now _ _ m _ _ e.left e.rises

pub returns-in-Err-clause-answer : goal.returns-in-Err-clause-answer
returns-in-Err-clause-answer g c =
    let d = c.mark_dirty.ensures in
    let m : MarkedFrameDirty c.args.frame c.args.seat.now.me.0 c.mark_dirty.new.seat.me.0 = record { touches = d.touches; marks = d.marks; dirtied = d.dirtied; did = d.did } in
    let e = c.in-Err.ensures in
    put_refused c.args.frame c.args._held.now _ _ m _ _ e.left e.rises _ c.args.tag _ e.cause e.seen

pub returns-in-Err-clause-calls : goal.returns-in-Err-clause-calls
returns-in-Err-clause-calls g c =
    let d = c.mark_dirty.ensures in
    let m : MarkedFrameDirty c.args.frame c.args.seat.now.me.0 c.mark_dirty.new.seat.me.0 = record { touches = d.touches; marks = d.marks; dirtied = d.dirtied; did = d.did } in
    let e = c.in-Err.ensures in
    calls_not_put c.args.frame _ _ _ _ d.touches e.left

pub returns-in-Err-clause-met : goal.returns-in-Err-clause-met
returns-in-Err-clause-met g c =
    let d = c.mark_dirty.ensures in
    let m : MarkedFrameDirty c.args.frame c.args.seat.now.me.0 c.mark_dirty.new.seat.me.0 = record { touches = d.touches; marks = d.marks; dirtied = d.dirtied; did = d.did } in
    let e = c.in-Err.ensures in
    met_not_put c.args.frame _ _ _ _ d.touches e.left

pub returns-in-Ok-clause-torn : goal.returns-in-Ok-clause-torn
returns-in-Ok-clause-torn g c =
    let d = c.mark_dirty.ensures in
    let m : MarkedFrameDirty c.args.frame c.args.seat.now.me.0 c.mark_dirty.new.seat.me.0 = record { touches = d.touches; marks = d.marks; dirtied = d.dirtied; did = d.did } in
    let e = c.in-Ok.ensures in
    let a = c.apply.ensures in
    torn_put c.args.frame c.args._held.now _ _ m _ _ c.args.tag _ _ e.view e.rises e.did e.entered e.others _ a.touches a.marks a.applied e.torn

pub returns-in-Err-clause-torn : goal.returns-in-Err-clause-torn
returns-in-Err-clause-torn g c =
    let d = c.mark_dirty.ensures in
    let m : MarkedFrameDirty c.args.frame c.args.seat.now.me.0 c.mark_dirty.new.seat.me.0 = record { touches = d.touches; marks = d.marks; dirtied = d.dirtied; did = d.did } in
    let e = c.in-Err.ensures in
    torn_not_put c.args.frame c.args._held.now _ _ m _ _ e.left e.rises (packed_tag c.args.tag) c.args.page.now e.torn

pub returns-in-Ok-clause-entered : goal.returns-in-Ok-clause-entered
returns-in-Ok-clause-entered g c = ap (λ (l : Link). l.entered) c.apply.ensures.applied
    ∙ ap (λ (l : Link). l.entered) c.in-Ok.ensures.entered
