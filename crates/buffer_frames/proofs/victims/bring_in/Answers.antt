use Rattle.std.proofs.Common.{◌∙◌, [], Bool, Option, ap, refl, subst, arith}
use Rattle.std.specs.Prelude.{is_some}
use Rattle.access_rings.specs.declared.ring.RingKind.{RingKind}
use Rattle.io_counts.specs.Counts.{context_of}
use Rattle.frame_table.specs.Seats.{frames_of}
use Rattle.clock_sweep.specs.FreeFrames.{QueueState}
use Rattle.buffer_frames.specs.Bringing.{EntersAndStores}
use Rattle.buffer_frames.specs.VictimChoices.{choice_state, emptied_by, none_tried, tried_by}
use Rattle.buffer_frames.specs.Victims.{FreesAndCounts}
use Rattle.buffer_frames.specs.declared.victims.Freed.{Freed}
use Rattle.buffer_frames.specs.declared.victims.Freed.TheVariants.{Again, Ready, Refused}
use Rattle.buffer_frames.specs.Working.{IsFlushCall}
use Rattle.frame_table.proofs.Rising.{rises_on}
use Rattle.buffer_frames.proofs.Noting.{calls_by, calls_none, calls_on}
use Rattle.buffer_frames.proofs.Counting.{context_shaped, counted_of, counts_after, counts_none, counts_on}
use Rattle.buffer_frames.proofs.Trying.{refused_tried, tried_again, tried_taken}
use Rattle.buffer_frames.proofs.Outside.{met_searched}
use Rattle.buffer_frames.proofs.Keeps.{keeps_on, ready_keeps, searched_keeps}
use Rattle.buffer_frames.proofs.victims.bring_in.Given.{Over}
use Rattle.buffer_frames.proofs.victims.bring_in.Goals.{After-make_victim}
use Rattle.buffer_frames.proofs.victims.bring_in.Goals as goal

pub loop-init : goal.loop-init
loop-init g c = record {
  own = record { queue = c.requires.own.queue; lasts = refl; room = refl; counted = c.requires.own.counted; published = refl };
  keeps = ready_keeps c.requires.ready;
  unpushed = refl;
  rests = c.requires.ready.rests;
  ring = refl;
  met = refl;
  calls = calls_none IsFlushCall c.args.seat.now.me.0 c.args.seat.now.me.0 refl;
  turns = (omega arith);
  hints = refl;
  tries = record {
    tries = none_tried;
    counts = counts_none (context_of c.args.ring.now) c.args.seat.now.me.0 c.args.seat.now.me.0 c.args.backend.now.io.counted c.args.backend.now.io.counted refl refl;
  };
}

-- what a try counted, in the context of the ring that was given
freed : (g : Over) (c : goal.After-make_victim g) (r : Freed) → FreesAndCounts {L = g.row.L.Denot} {G = g.row.G.Denot} g.L.BlockLane.contents c.args.table.now (context_of c.loop.ring) c.args.held.now c.loop.seat.me.0 (choice_state c.loop.backend.queue c.loop.ring c.loop.backend.census) c.make_victim.new.seat.me.0 (choice_state c.make_victim.new.backend.queue c.make_victim.new.ring c.make_victim.new.backend.census) c.loop.backend.io.counted c.make_victim.new.backend.io.counted r
    → FreesAndCounts {L = g.row.L.Denot} {G = g.row.G.Denot} g.L.BlockLane.contents c.args.table.now (context_of c.args.ring.now) c.args.held.now c.loop.seat.me.0 (choice_state c.loop.backend.queue c.loop.ring c.loop.backend.census) c.make_victim.new.seat.me.0 (choice_state c.make_victim.new.backend.queue c.make_victim.new.ring c.make_victim.new.backend.census) c.loop.backend.io.counted c.make_victim.new.backend.io.counted r
freed g c r x = subst (λ (context : Option RingKind). FreesAndCounts {L = g.row.L.Denot} {G = g.row.G.Denot} g.L.BlockLane.contents c.args.table.now context c.args.held.now c.loop.seat.me.0 (choice_state c.loop.backend.queue c.loop.ring c.loop.backend.census) c.make_victim.new.seat.me.0 (choice_state c.make_victim.new.backend.queue c.make_victim.new.ring c.make_victim.new.backend.census) c.loop.backend.io.counted c.make_victim.new.backend.io.counted r) (context_shaped c.loop.ring c.args.ring.now c.loop.invariant.ring) x

pub returns-in-Some-enter_or_pin-clause-calls : goal.returns-in-Some-enter_or_pin-clause-calls
returns-in-Some-enter_or_pin-clause-calls g c = calls_on _ _ c.make_victim.new.seat.me.0 _ (calls_on _ _ c.loop.seat.me.0 _ c.loop.invariant.calls c.make_victim.ensures.calls) (calls_by _ c.make_victim.new.seat.me.0 c.enter_or_pin.new.seat.me.0 c.enter_or_pin.ensures.keeps.same)

pub loop-preserved-in_default : goal.loop-preserved-in_default
loop-preserved-in_default g c = let i = c.loop.invariant in let m = c.make_victim.ensures in let e = c.enter_or_pin.ensures in let f = freed g (goal.at.loop-preserved-in_default g c).After-make_victim (Ready c.in-Ready.victim) c.in-Ready.ensures.answer in record {
  own = record { queue = e.queue; lasts = e.lasts ∙ m.own.lasts ∙ i.own.lasts; room = m.own.room ∙ i.own.room; counted = e.counted; published = m.own.published ∙ i.own.published };
  keeps = keeps_on (keeps_on i.keeps m.keeps) (searched_keeps e.keeps);
  unpushed = ap (λ (x : QueueState). x.known.pushed) c.in_default.ensures.unpushed ∙ m.unpushed ∙ i.unpushed;
  rests = c.in_default.ensures.rests;
  ring = m.ring ∙ i.ring;
  turns = (let a = i.turns in let b = m.turns in let d = e.turns in omega arith);
  hints = c.in_default.ensures.hints ∙ m.hints ∙ i.hints;
  met = met_searched c.make_victim.new.seat.me.0 c.enter_or_pin.new.seat.me.0 e.keeps.same ∙ c.in-Ready.ensures.met ∙ i.met;
  calls = calls_on _ _ c.make_victim.new.seat.me.0 _ (calls_on _ _ c.loop.seat.me.0 _ i.calls m.calls) (calls_by _ c.make_victim.new.seat.me.0 c.enter_or_pin.new.seat.me.0 e.keeps.same);
  tries = tried_taken {L = g.row.L.Denot} {G = g.row.G.Denot} g.L.BlockLane.contents c.args.table.now (context_of c.args.ring.now) c.in-Ready.victim.frame c.args.seat.now.me.0 c.loop.seat.me.0 c.make_victim.new.seat.me.0 c.enter_or_pin.new.seat.me.0 _ _ c.make_victim.new.backend.queue c.enter_or_pin.new.queue c.make_victim.new.ring c.make_victim.new.backend.census c.args.backend.now.io.counted c.loop.backend.io.counted c.make_victim.new.backend.io.counted c.in_default.ensures.unpushed i.tries f.freed.2 f.counts c.in_default.ensures.gave_up;
}

pub returns-in-Refused-clause-answer : goal.returns-in-Refused-clause-answer
returns-in-Refused-clause-answer g c = let f = freed g (goal.at.returns-in-Refused-clause-answer g c).After-make_victim (Refused c.in-Refused.why) c.in-Refused.ensures.answer in
    refused_tried {L = g.row.L.Denot} {G = g.row.G.Denot} g.L.BlockLane.contents c.args.table.now (context_of c.args.ring.now) c.args.tag c.args.held.now (is_some c.args.ring.now) c.args.seat.now.me.0 c.loop.seat.me.0 c.make_victim.new.seat.me.0 _ _ _ c.in-Refused.why c.args.backend.now.io.counted c.loop.backend.io.counted c.make_victim.new.backend.io.counted c.requires.ready.rests c.loop.invariant.rests c.loop.invariant.keeps.rises c.loop.invariant.tries f

pub returns-in-Refused-clause-pinned : goal.returns-in-Refused-clause-pinned
returns-in-Refused-clause-pinned g c = c.in-Refused.ensures.answer.freed.0

pub returns-in-Refused-clause-calls : goal.returns-in-Refused-clause-calls
returns-in-Refused-clause-calls g c = calls_on _ _ c.loop.seat.me.0 _ c.loop.invariant.calls c.make_victim.ensures.calls

pub loop-preserved : goal.loop-preserved
loop-preserved g c = let i = c.loop.invariant in let m = c.make_victim.ensures in record {
  own = record { queue = m.own.queue; lasts = m.own.lasts ∙ i.own.lasts; room = m.own.room ∙ i.own.room; counted = m.own.counted; published = m.own.published ∙ i.own.published };
  keeps = keeps_on i.keeps m.keeps;
  unpushed = m.unpushed ∙ i.unpushed;
  rests = c.in-Again.ensures.answer.freed.0;
  turns = (let a = i.turns in let b = m.turns in omega arith);
  hints = m.hints ∙ i.hints;
  ring = m.ring ∙ i.ring;
  met = c.in-Again.ensures.met ∙ i.met;
  calls = calls_on _ _ c.loop.seat.me.0 _ i.calls m.calls;
  tries = tried_again {L = g.row.L.Denot} {G = g.row.G.Denot} g.L.BlockLane.contents c.args.table.now (context_of c.args.ring.now) c.args.held.now c.args.seat.now.me.0 c.loop.seat.me.0 _ _ c.make_victim.new.seat.me.0 _ c.args.backend.now.io.counted c.loop.backend.io.counted c.make_victim.new.backend.io.counted i.tries (freed g (goal.at.loop-preserved g c).After-make_victim Again c.in-Again.ensures.answer);
}

pub returns-in-Some-enter_or_pin-clause-answer : goal.returns-in-Some-enter_or_pin-clause-answer
returns-in-Some-enter_or_pin-clause-answer g c = let i = c.loop.invariant in let m = c.make_victim in let e = c.enter_or_pin in
    let context = context_of c.args.ring.now in let io = c.args.backend.now.io.counted in
    let f = freed g (goal.at.returns-in-Some-enter_or_pin-clause-answer g c).After-make_victim (Ready c.in-Ready.victim) c.in-Ready.ensures.answer in record {
      claimed = record {
        start = c.loop.seat.me.0;
        by = choice_state c.loop.backend.queue c.loop.ring c.loop.backend.census;
        tries = i.tries.tries;
        victim = c.in-Ready.victim.frame;
        chosen = m.new.seat.me.0;
        popped = m.new.backend.queue;
        empties = f.freed.2;
        before = rises_on _ c.loop.seat.me.0 _ i.keeps.rises m.ensures.keeps.rises;
        unpushed = m.ensures.unpushed ∙ i.unpushed;
        enters = subst (λ (b : Bool). EntersAndStores (frames_of c.args.table.now) c.args.tag c.args.held.now b c.in-Ready.victim.frame c.in-Some-enter_or_pin.pin.frame [] m.new.seat.me.0 m.new.backend.queue e.new.seat.me.0 e.new.queue) c.is_some-ringed.ensures c.in-Some-enter_or_pin.ensures.stored;
      };
      counts = counts_on context (tried_by {L = g.row.L.Denot} {G = g.row.G.Denot} g.L.BlockLane.contents c.args.table.now i.tries.tries) (emptied_by {L = g.row.L.Denot} {G = g.row.G.Denot} g.L.BlockLane.contents c.args.table.now f.freed.2) c.args.seat.now.me.0 c.loop.seat.me.0 e.new.seat.me.0 io c.loop.backend.io.counted m.new.backend.io.counted i.tries.counts
          (counts_after context (emptied_by {L = g.row.L.Denot} {G = g.row.G.Denot} g.L.BlockLane.contents c.args.table.now f.freed.2) c.loop.seat.me.0 m.new.seat.me.0 e.new.seat.me.0 c.loop.backend.io.counted m.new.backend.io.counted f.counts (ap counted_of e.ensures.keeps.same));
    }

pub returns-in-Refused-clause-unpushed : goal.returns-in-Refused-clause-unpushed
returns-in-Refused-clause-unpushed g c = c.make_victim.ensures.unpushed ∙ c.loop.invariant.unpushed

pub returns-in-Some-enter_or_pin-clause-keeps : goal.returns-in-Some-enter_or_pin-clause-keeps
returns-in-Some-enter_or_pin-clause-keeps g c = keeps_on (keeps_on c.loop.invariant.keeps c.make_victim.ensures.keeps) (searched_keeps c.enter_or_pin.ensures.keeps)

pub returns-in-Refused-clause-keeps : goal.returns-in-Refused-clause-keeps
returns-in-Refused-clause-keeps g c = keeps_on c.loop.invariant.keeps c.make_victim.ensures.keeps
