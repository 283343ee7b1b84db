use Rattle.std.proofs.Common.{ℕ, Option, None, Ok, Err, refl, sym, ap, subst, ◌∙◌}
use Rattle.access_rings.specs.declared.ring.RingKind.{RingKind}
use Rattle.block_tag.specs.declared.tag.Tag.{Tag}
use Rattle.block_tag.specs.Names.{lane_number}
use Rattle.pin_core.specs.declared.view.View.{View}
use Rattle.pin_core.specs.Kinds as kinds
use Rattle.io_counts.specs.declared.contexts.ContextCounts.{ContextCounts}
use Rattle.io_counts.specs.Counts.{context_of, counts_sum, io_with, no_counts}
use Rattle.io_counts.specs.Tallies.{TallyState}
use Rattle.io_counts.proofs.Counts.{io_none, none_sum}
use Rattle.frame_table.specs.FrameSteps.{Did}
use Rattle.frame_table.specs.Kinds.{pins}
use Rattle.frame_table.specs.Seats.{lanes_in, tag_word}
use Rattle.frame_table.proofs.Rising.{rises_none}
use Rattle.buffer_frames.specs.declared.flushing.VictimPage.TheVariants.{Clean, Spared}
use Rattle.buffer_frames.specs.Counting.{CountsIo, writes_of}
use Rattle.buffer_frames.specs.Flushing.{EndedInError}
use Rattle.buffer_frames.specs.Stages.{HasVictim}
use Rattle.buffer_frames.specs.VictimChoices.{ClearsTag, FindsInUse, IsDirtied, choice_state}
use Rattle.buffer_frames.specs.VictimChoices.{emptied, in_use, none_tried, spared, taken_from}
use Rattle.buffer_frames.specs.VictimChoices.{untagged}
use Rattle.buffer_frames.specs.Working.{IsFlushCall, Within}
use Rattle.buffer_frames.proofs.Answering.{error_between}
use Rattle.buffer_frames.proofs.Counting.{counted_of, counts_after, counts_as, counts_before}
use Rattle.buffer_frames.proofs.Counting.{counts_none, counts_on, counts_taken, counts_through}
use Rattle.buffer_frames.proofs.Counting.{counts_victim}
use Rattle.buffer_frames.proofs.Noting.{calls_through, shape_answered}
use Rattle.buffer_frames.proofs.Outside.{calls_chosen, freed_counted, freed_searched}
use Rattle.buffer_frames.proofs.Outside.{outside_chosen, outside_searched}
use Rattle.buffer_frames.proofs.Trying.{gives_up_now, tried}
use Rattle.buffer_frames.proofs.WorkSteps.{made_none}
use Rattle.buffer_frames.proofs.Keeps.{and_same, chosen_keeps, freeing_keeps, keeps_on}
use Rattle.buffer_frames.proofs.Keeps.{keeps_tagged, keeps_works, same_less}
use Rattle.buffer_frames.proofs.victims.make_victim.Given.{Over}
use Rattle.buffer_frames.proofs.victims.make_victim.Goals.{After-count_write}
use Rattle.buffer_frames.proofs.victims.make_victim.Goals as goal

pub returns-in_default-clause-answer : goal.returns-in_default-clause-answer
returns-in_default-clause-answer g c = let io = c.args.backend.now.io.counted in record {
  freed = (
    c.in-Ok.ensures.inside,
    subst (λ (f : ℕ). HasVictim f c.args.held.now c.tag_of_victim.new.seat.me.0)
        c.frame-frame.ensures c.tag_of_victim.ensures.victim,
    untagged c.in-Ok.chosen.from_ring c.in-Ok.ensures.did (subst (λ (f : ℕ). Did
        (pins kinds.load_tag) f c.choose.new.seat.me.0 c.tag_of_victim.new.seat.me.0
        (tag_word None)) c.frame-frame.ensures
        (subst (λ (o : Option Tag). Did (pins kinds.load_tag) c.frame-frame.result
        c.choose.new.seat.me.0 c.tag_of_victim.new.seat.me.0 (tag_word o)) c.in_default.is
        c.tag_of_victim.ensures.did)),
  );
  counts = counts_none (context_of c.args.ring.now) c.args.seat.now.me.0
      c.tag_of_victim.new.seat.me.0 io io (ap counted_of (outside_chosen c.choose.new.seat.me.0
      c.tag_of_victim.new.seat.me.0 c.tag_of_victim.ensures.keeps.same
      ∙ c.choose.ensures.keeps.same)) refl;
}

pub returns-in-Ok-Spared-clause-answer : goal.returns-in-Ok-Spared-clause-answer
returns-in-Ok-Spared-clause-answer g c =
    let io = c.args.backend.now.io.counted in let context = context_of c.args.ring.now in
    let answer = rw c.in-Ok-Spared.field-0-is at c.in-Ok-Spared.ensures.answer in record {
      freed = (
        c.give_up.ensures.rests,
        (
          c.in-Ok.chosen.pin.frame,
          spared (tried {L = g.row.L.Denot} {G = g.row.G.Denot}
              g.L.BlockLane.contents c.args.table.now c.in-Ok.chosen.pin.frame
              c.frame-frame.result c.in-Ok.chosen.from_ring c.in-Some.tag c.tag_of_victim.result
              c.args.seat.now.me.0 c.choose.new.seat.me.0 c.tag_of_victim.new.seat.me.0
              c.flush_victim.new.seat.me.0 _ c.choose.new.queue c.choose.new.ring
              c.flush_victim.new.ring c.choose.new.census (Ok Spared) c.frame-frame.ensures
              c.in-Some.is c.in-Ok.ensures.did c.in-Some.ensures.tag c.in-Some.ensures.block
              (keeps_tagged c.choose.ensures.keeps c.tag_of_victim.ensures.keeps).rises
              c.tag_of_victim.ensures.did answer c.flush_victim.ensures.works.work)
              c.give_up.ensures.did,
        ),
      );
      counts = counts_through context no_counts c.args.seat.now.me.0 c.tag_of_victim.new.seat.me.0
          c.flush_victim.new.seat.me.0 c.give_up.new.seat.me.0 io io
          (outside_chosen c.choose.new.seat.me.0 c.tag_of_victim.new.seat.me.0
          c.tag_of_victim.ensures.keeps.same ∙ c.choose.ensures.keeps.same)
          (counts_victim {L = g.row.L.Denot} {G = g.row.G.Denot} g.L.BlockLane.contents
          c.args.table.now (lane_number c.in-Some.tag (lanes_in c.args.table.now)) c.in-Some.tag
          c.frame-frame.result context c.in-Ok.chosen.from_ring c.choose.new.ring
          c.flush_victim.new.ring c.tag_of_victim.new.seat.me.0 c.flush_victim.new.seat.me.0
          (Ok Spared) io io answer
          (ap (λ (x : View). x.cleared) c.flush_victim.ensures.works.work.kept)
          (sym (io_none context io))) c.give_up.ensures.keeps.same;
    }

-- what a victim whose page was clean, or was written, counts by then
freed_page : (g : Over) (c : goal.After-count_write g) → CountsIo (context_of c.args.ring.now)
    no_counts c.args.seat.now.me.0 c.flush_victim.new.seat.me.0 c.args.backend.now.io.counted
    c.count_write.new.io.counted
freed_page g c =
    let io = c.args.backend.now.io.counted in let context = context_of c.args.ring.now in
    let written = c.in-Ok-Clean.written in
    counts_before context no_counts c.args.seat.now.me.0 c.tag_of_victim.new.seat.me.0
    c.flush_victim.new.seat.me.0 io c.count_write.new.io.counted
    (ap counted_of (outside_chosen c.choose.new.seat.me.0 c.tag_of_victim.new.seat.me.0
    c.tag_of_victim.ensures.keeps.same ∙ c.choose.ensures.keeps.same))
    (counts_victim {L = g.row.L.Denot} {G = g.row.G.Denot} g.L.BlockLane.contents
    c.args.table.now (lane_number c.in-Some.tag (lanes_in c.args.table.now)) c.in-Some.tag
    c.frame-frame.result context c.in-Ok.chosen.from_ring c.choose.new.ring
    c.flush_victim.new.ring c.tag_of_victim.new.seat.me.0 c.flush_victim.new.seat.me.0
    (Ok (Clean written)) io c.count_write.new.io.counted
    (rw c.in-Ok-Clean.field-0-is at c.in-Ok-Clean.ensures.answer)
    (ap (λ (x : View). x.cleared) c.flush_victim.ensures.works.work.kept)
    (ap (λ (x : TallyState). x.counted) c.count_write.ensures
    ∙ ap (λ (k : Option RingKind). io_with k (writes_of written) io) c.context_of-context.ensures))

pub returns-then-erase-clause-answer : goal.returns-then-erase-clause-answer
returns-then-erase-clause-answer g c = let written = c.in-Ok-Clean.written in
    let from_ring = c.in-Ok.chosen.from_ring in let io = c.count_write.new.io.counted in
    let context = context_of c.args.ring.now in record {
      freed = (
        c.in-Ok.ensures.inside,
        subst (λ (f : ℕ). HasVictim f c.args.held.now c.erase.new.seat.me.0) c.frame-frame.ensures
            c.erase.ensures.victim,
        emptied written (tried {L = g.row.L.Denot} {G = g.row.G.Denot} g.L.BlockLane.contents
            c.args.table.now c.in-Ok.chosen.pin.frame c.frame-frame.result from_ring
            c.in-Some.tag c.tag_of_victim.result c.args.seat.now.me.0 c.choose.new.seat.me.0
            c.tag_of_victim.new.seat.me.0 c.flush_victim.new.seat.me.0 _ c.choose.new.queue
            c.choose.new.ring c.flush_victim.new.ring c.choose.new.census (Ok (Clean written))
            c.frame-frame.ensures c.in-Some.is c.in-Ok.ensures.did c.in-Some.ensures.tag
            c.in-Some.ensures.block
            (keeps_tagged c.choose.ensures.keeps c.tag_of_victim.ensures.keeps).rises
            c.tag_of_victim.ensures.did
            (rw c.in-Ok-Clean.field-0-is at c.in-Ok-Clean.ensures.answer)
            c.flush_victim.ensures.works.work)
            (subst (λ (f : ℕ). Within (ClearsTag f) c.flush_victim.new.seat.me.0
            c.erase.new.seat.me.0) c.frame-frame.ensures c.if-erase.ensures.emptied)
            (freed_counted c.flush_victim.new.seat.me.0 c.erase.new.seat.me.0 _
            c.erase.ensures.keeps.same c.if-erase.ensures.taken),
      );
      counts = counts_as context (counts_sum no_counts (taken_from from_ring))
          (taken_from from_ring) c.args.seat.now.me.0 c.erase.new.seat.me.0
          c.args.backend.now.io.counted c.count.new.self.counted (none_sum (taken_from from_ring))
          (counts_on context no_counts (taken_from from_ring) c.args.seat.now.me.0
          c.flush_victim.new.seat.me.0 c.erase.new.seat.me.0 c.args.backend.now.io.counted io
          c.count.new.self.counted
          (freed_page g (goal.at.returns-then-erase-clause-answer g c).After-count_write)
          (counts_taken context from_ring c.flush_victim.new.seat.me.0 c.erase.new.seat.me.0 io
          c.count.new.self.counted (ap (λ (x : View). x.device_calls) c.erase.ensures.keeps.same)
          c.if-erase.ensures.taken (ap (λ (x : TallyState). x.counted) c.count.ensures
          ∙ ap (λ (e : ContextCounts). io_with c.context_of-context.result e io)
          c.event_of.ensures ∙ ap (λ (k : Option RingKind). io_with k (taken_from from_ring) io)
          c.context_of-context.ensures)));
    }

pub returns-clause-answer : goal.returns-clause-answer
returns-clause-answer g c = let u = c.give_up-2 in let written = c.in-Ok-Clean.written in
    let same = outside_searched c.erase.new.seat.me.0 u.new.seat.me.0 u.ensures.keeps.same
    ∙ freed_searched c.flush_victim.new.seat.me.0 c.erase.new.seat.me.0
    c.erase.ensures.keeps.same c.if-erase.ensures.untaken in record {
      freed = (
        u.ensures.rests,
        (
          c.in-Ok.chosen.pin.frame,
          in_use written (tried {L = g.row.L.Denot} {G = g.row.G.Denot} g.L.BlockLane.contents
              c.args.table.now c.in-Ok.chosen.pin.frame c.frame-frame.result
              c.in-Ok.chosen.from_ring c.in-Some.tag c.tag_of_victim.result c.args.seat.now.me.0
              c.choose.new.seat.me.0 c.tag_of_victim.new.seat.me.0 c.flush_victim.new.seat.me.0 _
              c.choose.new.queue c.choose.new.ring c.flush_victim.new.ring c.choose.new.census
              (Ok (Clean written)) c.frame-frame.ensures c.in-Some.is c.in-Ok.ensures.did
              c.in-Some.ensures.tag c.in-Some.ensures.block
              (keeps_tagged c.choose.ensures.keeps c.tag_of_victim.ensures.keeps).rises
              c.tag_of_victim.ensures.did
              (rw c.in-Ok-Clean.field-0-is at c.in-Ok-Clean.ensures.answer)
              c.flush_victim.ensures.works.work)
              (gives_up_now (FindsInUse IsDirtied c.in-Ok.chosen.pin.frame)
              c.in-Ok.chosen.pin.frame c.flush_victim.new.seat.me.0 c.erase.new.seat.me.0
              u.new.seat.me.0 (subst (λ (f : ℕ). Within (FindsInUse IsDirtied f)
              c.flush_victim.new.seat.me.0 c.erase.new.seat.me.0) c.frame-frame.ensures
              c.if-erase.ensures.in_use) u.ensures.did same),
        ),
      );
      counts = counts_after (context_of c.args.ring.now) no_counts c.args.seat.now.me.0
          c.flush_victim.new.seat.me.0 u.new.seat.me.0 c.args.backend.now.io.counted
          c.count_write.new.io.counted
          (freed_page g (goal.at.returns-clause-answer g c).After-count_write)
          (ap counted_of same);
    }

pub returns-in-Err-clause-answer : goal.returns-in-Err-clause-answer
returns-in-Err-clause-answer g c = let e = c.in-Err.ensures in let v = c.args.seat.now.me.0 in
    let io = c.args.backend.now.io.counted in record {
      freed = (
        e.rests,
        (
          e.frames,
          record {
            start = v;
            by = choice_state c.args.backend.now.queue c.args.ring.now c.args.backend.now.census;
            tries = none_tried;
            since = rises_none v;
            pins = λ f. refl;
            cause = e.cause;
            counted = e.counted;
            pinned = e.each;
            ring = e.passed;
            calls = made_none v c.choose.new.seat.me.0 (calls_chosen v c.choose.new.seat.me.0
                c.choose.ensures.keeps.same);
          },
        ),
      );
      counts = counts_none (context_of c.args.ring.now) v c.choose.new.seat.me.0 io io
          (ap counted_of c.choose.ensures.keeps.same) refl;
    }

pub returns-in-Err-flush_victim-clause-answer : goal.returns-in-Err-flush_victim-clause-answer
returns-in-Err-flush_victim-clause-answer g c = let v = c.args.seat.now.me.0 in
    let x = c.flush_victim.new.seat.me.0 in let e = c.in-Err-flush_victim.ensures in
    let u = c.give_up-in-Err-flush_victim in let io = c.args.backend.now.io.counted in
    let context = context_of c.args.ring.now in record {
      freed = (
        u.ensures.rests,
        record {
          start = v;
          by = choice_state c.args.backend.now.queue c.args.ring.now c.args.backend.now.census;
          tries = none_tried;
          since = rises_none v;
          frame = c.in-Ok.chosen.pin.frame;
          after = x;
          tried = (tried {L = g.row.L.Denot} {G = g.row.G.Denot} g.L.BlockLane.contents
              c.args.table.now
              c.in-Ok.chosen.pin.frame c.frame-frame.result c.in-Ok.chosen.from_ring c.in-Some.tag
              c.tag_of_victim.result c.args.seat.now.me.0 c.choose.new.seat.me.0
              c.tag_of_victim.new.seat.me.0 c.flush_victim.new.seat.me.0 _ c.choose.new.queue
              c.choose.new.ring c.flush_victim.new.ring c.choose.new.census
              (Err c.in-Err-flush_victim.why) c.frame-frame.ensures c.in-Some.is
              c.in-Ok.ensures.did c.in-Some.ensures.tag c.in-Some.ensures.block
              (keeps_tagged c.choose.ensures.keeps c.tag_of_victim.ensures.keeps).rises
              c.tag_of_victim.ensures.did e.answer c.flush_victim.ensures.works.work);
          ended = subst (λ (f : ℕ). EndedInError f v x) c.frame-frame.ensures
              (error_between c.frame-frame.result v c.tag_of_victim.new.seat.me.0 x x
              (keeps_tagged c.choose.ensures.keeps c.tag_of_victim.ensures.keeps).rises e.ended
              refl (rises_none x));
          wakes = u.ensures.did;
          until = u.ensures.keeps.same;
        },
      );
      counts = counts_through context no_counts v c.tag_of_victim.new.seat.me.0 x
          u.new.seat.me.0 io io
          (outside_chosen c.choose.new.seat.me.0 c.tag_of_victim.new.seat.me.0
          c.tag_of_victim.ensures.keeps.same ∙ c.choose.ensures.keeps.same)
          (counts_victim {L = g.row.L.Denot} {G = g.row.G.Denot} g.L.BlockLane.contents
          c.args.table.now (lane_number c.in-Some.tag (lanes_in c.args.table.now)) c.in-Some.tag
          c.frame-frame.result context c.in-Ok.chosen.from_ring c.choose.new.ring
          c.flush_victim.new.ring c.tag_of_victim.new.seat.me.0 x
          (Err c.in-Err-flush_victim.why) io io e.answer
          (ap (λ (y : View). y.cleared) c.flush_victim.ensures.works.work.kept)
          (sym (io_none context io))) u.ensures.keeps.same;
    }

pub returns-in-Err-flush_victim-clause-calls : goal.returns-in-Err-flush_victim-clause-calls
returns-in-Err-flush_victim-clause-calls g c = let u = c.give_up-in-Err-flush_victim in
    calls_through IsFlushCall c.args.seat.now.me.0 c.tag_of_victim.new.seat.me.0
    c.flush_victim.new.seat.me.0 u.new.seat.me.0 (outside_chosen c.choose.new.seat.me.0
    c.tag_of_victim.new.seat.me.0 c.tag_of_victim.ensures.keeps.same ∙ c.choose.ensures.keeps.same)
    c.flush_victim.ensures.calls u.ensures.keeps.same

pub returns-in-Ok-Spared-clause-ring : goal.returns-in-Ok-Spared-clause-ring
returns-in-Ok-Spared-clause-ring g c = shape_answered {L = g.row.L.Denot} {G = g.row.G.Denot}
    g.L.BlockLane.contents c.args.table.now (lane_number c.in-Some.tag (lanes_in c.args.table.now))
    c.in-Some.tag c.frame-frame.result c.in-Ok.chosen.from_ring c.choose.new.ring
    c.flush_victim.new.ring c.tag_of_victim.new.seat.me.0 c.flush_victim.new.seat.me.0 (Ok Spared)
    (rw c.in-Ok-Spared.field-0-is at c.in-Ok-Spared.ensures.answer) ∙ c.choose.ensures.ring

pub returns-in-Ok-Spared-clause-calls : goal.returns-in-Ok-Spared-clause-calls
returns-in-Ok-Spared-clause-calls g c = calls_through IsFlushCall c.args.seat.now.me.0
    c.tag_of_victim.new.seat.me.0 c.flush_victim.new.seat.me.0 c.give_up.new.seat.me.0
    (outside_chosen c.choose.new.seat.me.0 c.tag_of_victim.new.seat.me.0
    c.tag_of_victim.ensures.keeps.same ∙ c.choose.ensures.keeps.same) c.flush_victim.ensures.calls
    c.give_up.ensures.keeps.same

pub returns-in-Err-clause-keeps : goal.returns-in-Err-clause-keeps
returns-in-Err-clause-keeps g c = chosen_keeps c.choose.ensures.keeps

pub returns-in_default-clause-keeps : goal.returns-in_default-clause-keeps
returns-in_default-clause-keeps g c = keeps_tagged c.choose.ensures.keeps
    c.tag_of_victim.ensures.keeps

pub returns-in-Ok-Spared-clause-keeps : goal.returns-in-Ok-Spared-clause-keeps
returns-in-Ok-Spared-clause-keeps g c = let w = c.flush_victim.ensures in
    and_same (keeps_on (keeps_tagged c.choose.ensures.keeps c.tag_of_victim.ensures.keeps)
    (keeps_works c.frame-frame.result c.tag_of_victim.ensures.keeps.latches w.works
    c.tag_of_victim.ensures.victim.unlocked w.victim.victim.unlocked))
    (same_less c.give_up.ensures.keeps) c.give_up.ensures.stands c.give_up.ensures.partitions

pub returns-in-Err-flush_victim-clause-keeps : goal.returns-in-Err-flush_victim-clause-keeps
returns-in-Err-flush_victim-clause-keeps g c = let w = c.flush_victim.ensures in
    and_same (keeps_on (keeps_tagged c.choose.ensures.keeps c.tag_of_victim.ensures.keeps)
    (keeps_works c.frame-frame.result c.tag_of_victim.ensures.keeps.latches w.works
    c.tag_of_victim.ensures.victim.unlocked w.victim.victim.unlocked))
    (same_less c.give_up-in-Err-flush_victim.ensures.keeps)
    c.give_up-in-Err-flush_victim.ensures.stands c.give_up-in-Err-flush_victim.ensures.partitions

pub returns-then-erase-clause-keeps : goal.returns-then-erase-clause-keeps
returns-then-erase-clause-keeps g c = let w = c.flush_victim.ensures in
    keeps_on (keeps_on (keeps_tagged c.choose.ensures.keeps c.tag_of_victim.ensures.keeps)
    (keeps_works c.frame-frame.result c.tag_of_victim.ensures.keeps.latches w.works
    c.tag_of_victim.ensures.victim.unlocked w.victim.victim.unlocked))
    (freeing_keeps c.erase.ensures.keeps)

pub returns-clause-keeps : goal.returns-clause-keeps
returns-clause-keeps g c = let w = c.flush_victim.ensures in and_same
    (keeps_on (keeps_on (keeps_tagged c.choose.ensures.keeps c.tag_of_victim.ensures.keeps)
    (keeps_works c.frame-frame.result c.tag_of_victim.ensures.keeps.latches w.works
    c.tag_of_victim.ensures.victim.unlocked w.victim.victim.unlocked))
    (freeing_keeps c.erase.ensures.keeps)) (same_less c.give_up-2.ensures.keeps)
    c.give_up-2.ensures.stands c.give_up-2.ensures.partitions
