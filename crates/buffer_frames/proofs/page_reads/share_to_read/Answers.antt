use Rattle.std.proofs.Common.{◌∙◌, ap}
use Rattle.pin_core.specs.declared.view.Link.{Link}
use Rattle.pin_core.specs.declared.view.View.{View}
use Rattle.buffer_frames.proofs.PageReading.{SharedRead, can_copy, can_unshare_read, link_shared, only_reads_shared, others_shared, reads_page_shared, shares_to_read}
use Rattle.buffer_frames.proofs.page_reads.share_to_read.Goals as goal

pub read_copy-place-requires-clause-seat : goal.read_copy-place-requires-clause-seat
read_copy-place-requires-clause-seat g c = record {
  fits = c.share.ensures.seat.table ∙ c.requires.seat.fits;
  live = ap (λ (x : View). x.emptied) c.share.ensures.touches.self ∙ c.requires.seat.live;
  inside = c.requires.seat.inside;
}

pub read_copy-place-requires-clause-copy : goal.read_copy-place-requires-clause-copy
read_copy-place-requires-clause-copy g c = can_copy _ _ c.share.ensures.shared c.requires.calm

pub read_copy-place-requires-clause-tag : goal.read_copy-place-requires-clause-tag
read_copy-place-requires-clause-tag g c = ap (λ (l : Link). l.tag) c.share.ensures.shared ∙ c.requires.tag

pub unshare-requires-clause-seat : goal.unshare-requires-clause-seat
unshare-requires-clause-seat g c = record {
  fits = c.read_copy-place.ensures.seat.table ∙ c.share.ensures.seat.table ∙ c.requires.seat.fits;
  live = ap (λ (x : View). x.emptied) c.read_copy-place.ensures.only.kept ∙ ap (λ (x : View). x.emptied) c.share.ensures.touches.self ∙ c.requires.seat.live;
  inside = c.requires.seat.inside;
}

pub unshare-requires-clause-view : goal.unshare-requires-clause-view
unshare-requires-clause-view g c = can_unshare_read c.read_copy-place.new.page _ _ _ c.share.ensures.shared c.read_copy-place.ensures.link c.requires.calm

pub returns-clause-only : goal.returns-clause-only
returns-clause-only g c =
    let r : SharedRead c.args.frame c.read_copy-place.new.page c.args.seat.now.me.0 c.share.new.seat.me.0 c.read_copy-place.new.seat.me.0 c.unshare.new.seat.me.0 = record { taken = c.share.ensures.touches; took = c.share.ensures.marks; shared = c.share.ensures.shared; only = c.read_copy-place.ensures.only; copied = c.read_copy-place.ensures.link; others = c.read_copy-place.ensures.others; given = c.unshare.ensures.touches; gave = c.unshare.ensures.marks; unshared = c.unshare.ensures.unshared } in
    only_reads_shared _ _ _ _ _ _ r

pub returns-clause-link : goal.returns-clause-link
returns-clause-link g c =
    let r : SharedRead c.args.frame c.read_copy-place.new.page c.args.seat.now.me.0 c.share.new.seat.me.0 c.read_copy-place.new.seat.me.0 c.unshare.new.seat.me.0 = record { taken = c.share.ensures.touches; took = c.share.ensures.marks; shared = c.share.ensures.shared; only = c.read_copy-place.ensures.only; copied = c.read_copy-place.ensures.link; others = c.read_copy-place.ensures.others; given = c.unshare.ensures.touches; gave = c.unshare.ensures.marks; unshared = c.unshare.ensures.unshared } in
    link_shared _ _ _ _ _ _ r

pub returns-clause-others : goal.returns-clause-others
returns-clause-others g c =
    let r : SharedRead c.args.frame c.read_copy-place.new.page c.args.seat.now.me.0 c.share.new.seat.me.0 c.read_copy-place.new.seat.me.0 c.unshare.new.seat.me.0 = record { taken = c.share.ensures.touches; took = c.share.ensures.marks; shared = c.share.ensures.shared; only = c.read_copy-place.ensures.only; copied = c.read_copy-place.ensures.link; others = c.read_copy-place.ensures.others; given = c.unshare.ensures.touches; gave = c.unshare.ensures.marks; unshared = c.unshare.ensures.unshared } in
    others_shared _ _ _ _ _ _ r

pub returns-clause-reads : goal.returns-clause-reads
returns-clause-reads g c =
    let r : SharedRead c.args.frame c.read_copy-place.new.page c.args.seat.now.me.0 c.share.new.seat.me.0 c.read_copy-place.new.seat.me.0 c.unshare.new.seat.me.0 = record { taken = c.share.ensures.touches; took = c.share.ensures.marks; shared = c.share.ensures.shared; only = c.read_copy-place.ensures.only; copied = c.read_copy-place.ensures.link; others = c.read_copy-place.ensures.others; given = c.unshare.ensures.touches; gave = c.unshare.ensures.marks; unshared = c.unshare.ensures.unshared } in
    reads_page_shared _ _ _ _ _ _ r {L = g.row.L.Denot} {G = g.row.G.Denot} g.L.BlockLane.contents c.args.table.now c.args._tag c.read_copy-place.result c.read_copy-place.ensures.reads

pub returns-clause-did : goal.returns-clause-did
returns-clause-did g c =
    let r : SharedRead c.args.frame c.read_copy-place.new.page c.args.seat.now.me.0 c.share.new.seat.me.0 c.read_copy-place.new.seat.me.0 c.unshare.new.seat.me.0 = record { taken = c.share.ensures.touches; took = c.share.ensures.marks; shared = c.share.ensures.shared; only = c.read_copy-place.ensures.only; copied = c.read_copy-place.ensures.link; others = c.read_copy-place.ensures.others; given = c.unshare.ensures.touches; gave = c.unshare.ensures.marks; unshared = c.unshare.ensures.unshared } in
    shares_to_read _ _ _ _ _ _ r c.unshare.ensures.did.0 c.read_copy-place.result c.share.ensures.did c.read_copy-place.ensures.did c.unshare.ensures.did.1
