use Rattle.std.proofs.Common.{Option, Ok, Err, sym, ap, subst, ◌∙◌}
use Rattle.access_rings.specs.declared.ring.RingKind.{RingKind}
use Rattle.block_tag.specs.Names.{lane_number}
use Rattle.pin_core.specs.declared.view.View.{View}
use Rattle.io_counts.specs.Counts.{context_of, io_with}
use Rattle.io_counts.specs.Tallies.{TallyState}
use Rattle.io_counts.proofs.Counts.{sum_none}
use Rattle.frame_table.specs.Seats.{frames_of, lanes_in}
use Rattle.buffer_frames.specs.Hinting.{LeavesHint, TakesTurns}
use Rattle.buffer_frames.specs.Reads.{fetch_counts}
use Rattle.buffer_frames.proofs.Counting.{counts_as}
use Rattle.buffer_frames.proofs.Locating.{locates_given, locates_worked}
use Rattle.buffer_frames.proofs.Unread.{fails_read}
use Rattle.buffer_frames.proofs.Keeps.{keeps_fetched, keeps_on, outside_keeps}
use Rattle.buffer_frames.proofs.WorkSteps.{latches_worked}
use Rattle.buffer_frames.proofs.reading.read_block.Goals as goal

pub returns-in-Err-clause-calls : goal.returns-in-Err-clause-calls
returns-in-Err-clause-calls g c = let x = c.in-Err.ensures.calls in record {
  reads = x.pins;
  counts = counts_as (context_of c.args.ring.now) _ _ c.args.seat.now.me.0
      c.pin_block.new.seat.me.0 c.args.backend.now.io.counted c.pin_block.new.backend.io.counted
      (sym (sum_none _)) x.counts;
}

pub give_back-requires-clause-latches : goal.give_back-requires-clause-latches
give_back-requires-clause-latches g c = latches_worked c.frame-frame.result
    c.pin_block.new.seat.me.0 c.fetch_page.new.seat.me.0 c.fetch_page.ensures.works.work
    c.pin_block.ensures.keeps.latches

pub returns-in-Ok-fetch_page-clause-calls : goal.returns-in-Ok-fetch_page-clause-calls
returns-in-Ok-fetch_page-clause-calls g c = let x = locates_worked _ _ c.args.tag.now _ _ _ _ _
    (context_of c.args.ring.now) (lane_number c.args.tag.now (lanes_in c.args.table.now))
    c.in-Ok.pin (Ok c.in-Ok-fetch_page.fetched) c.frame-frame.result
    c.args.seat.now.me.0 c.pin_block.new.seat.me.0 c.fetch_page.new.seat.me.0
    c.args.backend.now.io.counted c.pin_block.new.backend.io.counted c.count_fetch.new.io.counted
    c.frame-frame.ensures c.in-Ok.ensures.calls c.fetch_page.ensures.works.work c.in-Ok-fetch_page.ensures.calls
    (ap (λ (x : TallyState). x.counted) c.count_fetch.ensures
    ∙ ap (λ (k : Option RingKind). io_with k (fetch_counts (Ok c.in-Ok-fetch_page.fetched))
    c.pin_block.new.backend.io.counted) c.context_of-context.ensures) in
    record { reads = x.located; counts = x.counts }

pub returns-in-Err-fetch_page-clause-calls : goal.returns-in-Err-fetch_page-clause-calls
returns-in-Err-fetch_page-clause-calls g c = let u = c.give_back in
    let counted = c.count_fetch-in-Err-fetch_page in let x = locates_given _ _ c.args.tag.now _ _ _ _ _
    (context_of c.args.ring.now) (lane_number c.args.tag.now (lanes_in c.args.table.now))
    c.in-Ok.pin (Err c.in-Err-fetch_page.why) c.frame-frame.result
    c.args.seat.now.me.0 c.pin_block.new.seat.me.0 c.fetch_page.new.seat.me.0 u.new.seat.me.0
    c.args.backend.now.io.counted c.pin_block.new.backend.io.counted counted.new.io.counted
    c.frame-frame.ensures c.in-Ok.ensures.calls c.fetch_page.ensures.works.work c.in-Err-fetch_page.ensures.calls
    u.ensures.touches u.ensures.keeps.same
    (ap (λ (x : TallyState). x.counted) counted.ensures
    ∙ ap (λ (k : Option RingKind). io_with k (fetch_counts (Err c.in-Err-fetch_page.why))
    c.pin_block.new.backend.io.counted) c.context_of-context.ensures) in record {
      reads = (
        c.in-Ok.pin.frame,
        (
          x.located,
          fails_read c.in-Err-fetch_page.why c.args.tag.now c.in-Ok.pin.frame c.frame-frame.result
              c.args.seat.now.me.0 c.pin_block.new.seat.me.0 c.fetch_page.new.seat.me.0
              u.new.seat.me.0 c.frame-frame.ensures c.pin_block.ensures.keeps.rises
              c.in-Err-fetch_page.ensures.unread u.ensures.did u.ensures.keeps.same,
        ),
      );
      counts = x.counts;
    }

pub returns-in-Ok-fetch_page-clause-turns : goal.returns-in-Ok-fetch_page-clause-turns
returns-in-Ok-fetch_page-clause-turns g c = subst (TakesTurns c.pin_block.new.backend.lookups.hint
    c.args.seat.now.me.0.turns) (sym (ap (λ (x : View). x.turns) c.fetch_page.ensures.works.work.kept))
    c.pin_block.ensures.turns

pub returns-in-Err-fetch_page-clause-turns : goal.returns-in-Err-fetch_page-clause-turns
returns-in-Err-fetch_page-clause-turns g c = subst (TakesTurns c.pin_block.new.backend.lookups.hint
    c.args.seat.now.me.0.turns) (sym (ap (λ (x : View). x.turns) c.give_back.ensures.keeps.same
    ∙ ap (λ (x : View). x.turns) c.fetch_page.ensures.works.work.kept)) c.pin_block.ensures.turns

pub returns-in-Ok-fetch_page-clause-hints : goal.returns-in-Ok-fetch_page-clause-hints
returns-in-Ok-fetch_page-clause-hints g c = subst (LeavesHint (frames_of c.args.table.now) c.args.tag.now
    c.in-Ok.pin.frame c.pin_block.new.backend.lookups.hint c.args.seat.now.me.0.hints)
    (sym (ap (λ (x : View). x.hints) c.fetch_page.ensures.works.work.kept)) c.in-Ok.ensures.hints

pub returns-in-Err-fetch_page-clause-hints : goal.returns-in-Err-fetch_page-clause-hints
returns-in-Err-fetch_page-clause-hints g c = (
  c.in-Ok.pin.frame,
  subst (LeavesHint (frames_of c.args.table.now) c.args.tag.now c.in-Ok.pin.frame
      c.pin_block.new.backend.lookups.hint c.args.seat.now.me.0.hints)
      (sym (ap (λ (x : View). x.hints) c.give_back.ensures.keeps.same
      ∙ ap (λ (x : View). x.hints) c.fetch_page.ensures.works.work.kept)) c.in-Ok.ensures.hints,
)

pub returns-in-Err-fetch_page-clause-census : goal.returns-in-Err-fetch_page-clause-census
returns-in-Err-fetch_page-clause-census g c = c.in-Ok.ensures.census

pub returns-in-Ok-fetch_page-clause-keeps : goal.returns-in-Ok-fetch_page-clause-keeps
returns-in-Ok-fetch_page-clause-keeps g c = let l = c.fetch_page.ensures in
    keeps_fetched c.in-Ok.pin.frame c.frame-frame.result c.frame-frame.ensures
    c.pin_block.ensures.keeps l.works c.in-Ok.ensures.pinned.1 l.pinned

pub returns-in-Err-fetch_page-clause-keeps : goal.returns-in-Err-fetch_page-clause-keeps
returns-in-Err-fetch_page-clause-keeps g c = let l = c.fetch_page.ensures in keeps_on
    (keeps_fetched c.in-Ok.pin.frame c.frame-frame.result c.frame-frame.ensures
    c.pin_block.ensures.keeps l.works c.in-Ok.ensures.pinned.1 l.pinned)
    (outside_keeps c.give_back.ensures.keeps)
