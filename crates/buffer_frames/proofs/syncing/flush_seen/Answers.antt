use Rattle.std.proofs.Common.{◌∙◌, Result, sym, ap, subst}
use Rattle.pin_core.specs.declared.view.Link.{Link}
use Rattle.pin_core.specs.State.{link}
use Rattle.frame_table.proofs.Seeing.{sees_valid}
use Rattle.buffer_frames.proofs.Keeping.{beside_kept, stands_self}
use Rattle.buffer_frames.proofs.Notes.{notes_by, notes_looked}
use Rattle.buffer_frames.specs.declared.flushing.FrameFlushError.{FrameFlushError}
use Rattle.buffer_frames.specs.declared.syncing.Synced.{Synced}
use Rattle.buffer_frames.specs.Syncs.{FlushesPinned, LoadsTag, by_pin}
use Rattle.buffer_frames.proofs.Passing.{flushes_clean, flushes_flushed, flushes_on, left_flushed}
use Rattle.buffer_frames.proofs.Passing.{left_looked, pinned_read}
use Rattle.buffer_frames.proofs.syncing.flush_seen.Goals as goal

pub returns-then-not-has-clause-stands : goal.returns-then-not-has-clause-stands
returns-then-not-has-clause-stands g c = stands_self _ c.args.seat.now c.look.new.seat
    c.look.ensures.seat c.look.ensures.touches.self c.requires.stands

pub returns-then-not-has-clause-left : goal.returns-then-not-has-clause-left
returns-then-not-has-clause-left g c = left_looked (link c.args.seat.now.me.0 c.args.frame)
    (link c.look.new.seat.me.0 c.args.frame) c.look.ensures.link c.requires.calm c.requires.unlocked

pub returns-then-not-has-clause-flushes : goal.returns-then-not-has-clause-flushes
returns-then-not-has-clause-flushes g c = flushes_clean {L = g.row.L.Denot} {G = g.row.G.Denot}
    g.L.BlockLane.contents c.args.table.now c.args.frame c.look.result c.args.seat.now.me.0
    c.look.new.seat.me.0 c.look.ensures.touches c.look.ensures.marks c.look.ensures.link
    c.look.ensures.did (sym c.has.ensures ∙ c.if-not-has.true)

pub tag_shown-tag-requires-clause-settled : goal.tag_shown-tag-requires-clause-settled
tag_shown-tag-requires-clause-settled g c = c.look.ensures.link.pending ∙ c.requires.calm.assigned

pub tag_shown-tag-requires-clause-shows : goal.tag_shown-tag-requires-clause-shows
tag_shown-tag-requires-clause-shows g c = by_pin (λ none. c.requires.pinned
    (sym c.look.ensures.link.role ∙ none)) (sees_valid c.args.frame c.look.result
    c.args.seat.now.me.0 c.look.new.seat.me.0 c.look.ensures.did c.requires.calm.assigned
    c.requires.pinned (c.look.ensures.word.dirty (sym c.has.ensures ∙ c.if-not-has.false)))

pub flush_pinned-flushed-requires-clause-stands : goal.flush_pinned-flushed-requires-clause-stands
flush_pinned-flushed-requires-clause-stands g c = stands_self _ c.look.new.seat
    c.tag_shown-tag.new.seat c.tag_shown-tag.ensures.seat c.tag_shown-tag.ensures.touches.self
    (stands_self _ c.args.seat.now c.look.new.seat c.look.ensures.seat c.look.ensures.touches.self
    c.requires.stands)

pub flush_pinned-flushed-requires-clause-others : goal.flush_pinned-flushed-requires-clause-others
flush_pinned-flushed-requires-clause-others g c = beside_kept c.args.frame c.args.held.now
    c.args.seat.now.me.0 c.tag_shown-tag.new.seat.me.0 (λ h n.
    c.tag_shown-tag.ensures.touches.others h n ∙ c.look.ensures.touches.others h n)
    c.requires.others

pub flush_pinned-flushed-requires-clause-pinned : goal.flush_pinned-flushed-requires-clause-pinned
flush_pinned-flushed-requires-clause-pinned g c =
    let l = left_looked (link c.args.seat.now.me.0 c.args.frame) (link c.look.new.seat.me.0
    c.args.frame) c.look.ensures.link c.requires.calm c.requires.unlocked in
    record {
      pinned = pinned_read c.tag_shown-tag.result (link c.look.new.seat.me.0 c.args.frame)
          (link c.tag_shown-tag.new.seat.me.0 c.args.frame) c.tag_shown-tag.ensures.read l.calm
          l.unlocked (λ none. c.requires.pinned (sym l.role ∙ none))
          (c.tag_shown-tag.ensures.remembered (λ none. c.requires.pinned (sym l.role ∙ none)));
      seen = ap (λ (l : Link). l.seen_valid) c.tag_shown-tag.ensures.read
          ∙ sees_valid c.args.frame c.look.result c.args.seat.now.me.0 c.look.new.seat.me.0
          c.look.ensures.did c.requires.calm.assigned c.requires.pinned
          (c.look.ensures.word.dirty (sym c.has.ensures ∙ c.if-not-has.false));
    }

pub returns-clause-left : goal.returns-clause-left
returns-clause-left g c =
    let f = c.flush_pinned-flushed.ensures in
    left_flushed c.tag_shown-tag.result (link c.args.seat.now.me.0 c.args.frame)
    (link c.look.new.seat.me.0 c.args.frame) (link c.tag_shown-tag.new.seat.me.0 c.args.frame)
    (link c.flush_pinned-flushed.new.seat.me.0 c.args.frame) c.look.ensures.link
    c.tag_shown-tag.ensures.read c.tag_shown-tag.ensures.same f.pinned.pinned f.works.role
    f.pinned.seen

pub returns-clause-flushes : goal.returns-clause-flushes
returns-clause-flushes g c =
    let f = c.flush_pinned-flushed.ensures in
    let e = c.tag_shown-tag.ensures in
    let v = c.args.seat.now.me.0 in
    let u = c.look.new.seat.me.0 in
    let x = c.tag_shown-tag.new.seat.me.0 in
    let w = c.flush_pinned-flushed.new.seat.me.0 in
    let notes_loaded = notes_by (link u c.args.frame) (link x c.args.frame)
    (ap (λ (l : Link). l.visited) e.read) (ap (λ (l : Link). l.left_to_write) e.read) in
    let l = left_looked (link v c.args.frame) (link u c.args.frame) c.look.ensures.link
    c.requires.calm c.requires.unlocked in
    let loads : LoadsTag c.args.frame c.tag_shown-tag.result u x = record
    { pinned = λ none. c.requires.pinned (sym l.role ∙ none); loads = e.did } in
    let one = flushes_flushed {L = g.row.L.Denot} {G = g.row.G.Denot} g.L.BlockLane.contents
    c.args.table.now c.args.frame c.tag_shown-tag.result u x w c.flush_pinned-flushed.result
    e.named e.listed loads e.touches e.marks notes_loaded f.works.work f.works.notes f.answer
    f.met f.ended f.written in
    subst (λ (r : Result Synced FrameFlushError). FlushesPinned {L = g.row.L.Denot}
    {G = g.row.G.Denot} g.L.BlockLane.contents c.args.table.now c.args.frame v w r)
    (sym c.synced_by.ensures)
    (flushes_on {L = g.row.L.Denot} {G = g.row.G.Denot} g.L.BlockLane.contents c.args.table.now
    c.args.frame v u w _ c.look.ensures.touches c.look.ensures.marks
    (notes_looked (link v c.args.frame) (link u c.args.frame) c.look.ensures.link) one)
