use Rattle.std.proofs.Common.{ap, ◌∙◌, arith}
use Rattle.frame_table.specs.Seats.{frames_of}
use Rattle.buffer_frames.specs.Working.{met_write}
use Rattle.buffer_frames.proofs.Written.{flushed_met}
use Rattle.backend_pass.proofs.Seated.{same_on}
use Rattle.backend_pass.proofs.Keeping.{callers_on}
use Rattle.checkpointer.specs.Refusals.{met_stopping, refusal_of_flush}
use Rattle.checkpointer.proofs.Stopping.{fails_later, stops_short}
use Rattle.checkpointer.proofs.Whole.{begins_to, callers_to, completed, met_at_log, met_of_flush, none_left_logged, rises_to, started, stopped_at_frame, stopped_at_lane, stopped_at_log}
use Rattle.checkpointer.proofs.checkpoints.checkpoint.Goals as goal

pub returns-in-Err-clause-callers : goal.returns-in-Err-clause-callers
returns-in-Err-clause-callers g c =
    let b = c.begin_checkpoint-upto.ensures in
    let s = started {L = g.row.L.Denot} {G = g.row.G.Denot} g.L.BlockLane.contents c.args.manager.now c.begin_checkpoint-upto.result c.args.pass.now c.forget_marked.new.self c.begin_checkpoint-upto.new.self c.mark_frames.new.pass c.forget_marked.ensures b.new b.did b.seen.1 b.callers c.requires.belongs c.mark_frames.ensures.marks c.mark_frames.ensures.lists in
    callers_to c.begin_checkpoint-upto.result c.args.pass.now c.mark_frames.new.pass c.write_marked.new.pass s c.in-Err.ensures.stops.1.keeps.callers

pub returns-in-Err-clause-stops : goal.returns-in-Err-clause-stops
returns-in-Err-clause-stops g c =
    let b = c.begin_checkpoint-upto.ensures in
    let s = started {L = g.row.L.Denot} {G = g.row.G.Denot} g.L.BlockLane.contents c.args.manager.now c.begin_checkpoint-upto.result c.args.pass.now c.forget_marked.new.self c.begin_checkpoint-upto.new.self c.mark_frames.new.pass c.forget_marked.ensures b.new b.did b.seen.1 b.callers c.requires.belongs c.mark_frames.ensures.marks c.mark_frames.ensures.lists in
    let t = c.in-Err.ensures.stops.1 in
    rw c.unwritten.ensures (c.begin_checkpoint-upto.result, begins_to c.begin_checkpoint-upto.result c.args.pass.now c.mark_frames.new.pass c.write_marked.new.pass s t.keeps.same, stopped_at_frame {L = g.row.L.Denot} {G = g.row.G.Denot} g.L.BlockLane.contents c.args.manager.now c.begin_checkpoint-upto.result c.in-Err.ensures.stops.0 c.args.pass.now c.mark_frames.new.pass c.write_marked.new.pass c.in-Err.why s t)

pub returns-in-Err-clause-met : goal.returns-in-Err-clause-met
returns-in-Err-clause-met g c =
    let b = c.begin_checkpoint-upto.ensures in
    let s = started {L = g.row.L.Denot} {G = g.row.G.Denot} g.L.BlockLane.contents c.args.manager.now c.begin_checkpoint-upto.result c.args.pass.now c.forget_marked.new.self c.begin_checkpoint-upto.new.self c.mark_frames.new.pass c.forget_marked.ensures b.new b.did b.seen.1 b.callers c.requires.belongs c.mark_frames.ensures.marks c.mark_frames.ensures.lists in
    let t = c.in-Err.ensures.stops.1 in
    rw c.unwritten.ensures (t.met ∙ met_of_flush c.in-Err.why c.mark_frames.new.pass.view.met ∙ ap (met_stopping (refusal_of_flush c.in-Err.why)) s.met)

pub returns-in-Err-clause-complete : goal.returns-in-Err-clause-complete
returns-in-Err-clause-complete g c n =
    let b = c.begin_checkpoint-upto.ensures in
    let s = started {L = g.row.L.Denot} {G = g.row.G.Denot} g.L.BlockLane.contents c.args.manager.now c.begin_checkpoint-upto.result c.args.pass.now c.forget_marked.new.self c.begin_checkpoint-upto.new.self c.mark_frames.new.pass c.forget_marked.ensures b.new b.did b.seen.1 b.callers c.requires.belongs c.mark_frames.ensures.marks c.mark_frames.ensures.lists in
    c.in-Err.ensures.complete (fails_later {L = g.row.L.Denot} {G = g.row.G.Denot} g.L.BlockLane.contents c.args.manager.now.table c.args.pass.now c.mark_frames.new.pass c.write_marked.new.pass (rises_to c.begin_checkpoint-upto.result c.args.pass.now c.mark_frames.new.pass s) s.met n)

pub returns-in-Err-flush_log-clause-callers : goal.returns-in-Err-flush_log-clause-callers
returns-in-Err-flush_log-clause-callers g c =
    let b = c.begin_checkpoint-upto.ensures in
    let s = started {L = g.row.L.Denot} {G = g.row.G.Denot} g.L.BlockLane.contents c.args.manager.now c.begin_checkpoint-upto.result c.args.pass.now c.forget_marked.new.self c.begin_checkpoint-upto.new.self c.mark_frames.new.pass c.forget_marked.ensures b.new b.did b.seen.1 b.callers c.requires.belongs c.mark_frames.ensures.marks c.mark_frames.ensures.lists in
    callers_to c.begin_checkpoint-upto.result c.args.pass.now c.mark_frames.new.pass c.flush_log.new.self s (callers_on c.mark_frames.new.pass c.write_marked.new.pass c.flush_log.new.self c.in-Ok.ensures.writes.keeps.callers c.flush_log.ensures.callers)

pub returns-in-Err-flush_log-clause-stops : goal.returns-in-Err-flush_log-clause-stops
returns-in-Err-flush_log-clause-stops g c =
    let b = c.begin_checkpoint-upto.ensures in
    let s = started {L = g.row.L.Denot} {G = g.row.G.Denot} g.L.BlockLane.contents c.args.manager.now c.begin_checkpoint-upto.result c.args.pass.now c.forget_marked.new.self c.begin_checkpoint-upto.new.self c.mark_frames.new.pass c.forget_marked.ensures b.new b.did b.seen.1 b.callers c.requires.belongs c.mark_frames.ensures.marks c.mark_frames.ensures.lists in
    let w = c.in-Ok.ensures.writes in
    let e = c.in-Err-flush_log.ensures in
    rw c.unflushed.ensures (c.begin_checkpoint-upto.result, begins_to c.begin_checkpoint-upto.result c.args.pass.now c.mark_frames.new.pass c.flush_log.new.self s (same_on c.mark_frames.new.pass c.write_marked.new.pass c.flush_log.new.self w.keeps.same c.flush_log.ensures.same), stopped_at_log {L = g.row.L.Denot} {G = g.row.G.Denot} g.L.BlockLane.contents c.args.manager.now c.begin_checkpoint-upto.result c.in-Ok.written c.args.pass.now c.mark_frames.new.pass c.write_marked.new.pass c.flush_log.new.self c.in-Err-flush_log.why s w c.in-Ok.ensures.in_order c.in-Ok.ensures.none_left e.cause e.seen e.left)

pub returns-in-Err-flush_log-clause-met : goal.returns-in-Err-flush_log-clause-met
returns-in-Err-flush_log-clause-met g c =
    let b = c.begin_checkpoint-upto.ensures in
    let s = started {L = g.row.L.Denot} {G = g.row.G.Denot} g.L.BlockLane.contents c.args.manager.now c.begin_checkpoint-upto.result c.args.pass.now c.forget_marked.new.self c.begin_checkpoint-upto.new.self c.mark_frames.new.pass c.forget_marked.ensures b.new b.did b.seen.1 b.callers c.requires.belongs c.mark_frames.ensures.marks c.mark_frames.ensures.lists in
    let e = c.in-Err-flush_log.ensures in
    rw c.unflushed.ensures (met_at_log {L = g.row.L.Denot} {G = g.row.G.Denot} g.L.BlockLane.contents c.args.manager.now c.begin_checkpoint-upto.result c.in-Ok.written c.args.pass.now c.mark_frames.new.pass c.write_marked.new.pass c.flush_log.new.self c.in-Err-flush_log.why s c.in-Ok.ensures.writes e.cause e.seen e.left)

pub returns-in-Err-flush_log-clause-complete : goal.returns-in-Err-flush_log-clause-complete
returns-in-Err-flush_log-clause-complete g c n =
    let b = c.begin_checkpoint-upto.ensures in
    let s = started {L = g.row.L.Denot} {G = g.row.G.Denot} g.L.BlockLane.contents c.args.manager.now c.begin_checkpoint-upto.result c.args.pass.now c.forget_marked.new.self c.begin_checkpoint-upto.new.self c.mark_frames.new.pass c.forget_marked.ensures b.new b.did b.seen.1 b.callers c.requires.belongs c.mark_frames.ensures.marks c.mark_frames.ensures.lists in
    c.in-Err-flush_log.ensures.complete (let x = s.seen in let y = s.same.keeps.advances.end_seen in let z = c.in-Ok.ensures.writes.keeps.same.keeps.advances.end_seen in omega arith) n.devices.up

pub returns-in-Ok-sync_lanes-clause-callers : goal.returns-in-Ok-sync_lanes-clause-callers
returns-in-Ok-sync_lanes-clause-callers g c =
    let b = c.begin_checkpoint-upto.ensures in
    let s = started {L = g.row.L.Denot} {G = g.row.G.Denot} g.L.BlockLane.contents c.args.manager.now c.begin_checkpoint-upto.result c.args.pass.now c.forget_marked.new.self c.begin_checkpoint-upto.new.self c.mark_frames.new.pass c.forget_marked.ensures b.new b.did b.seen.1 b.callers c.requires.belongs c.mark_frames.ensures.marks c.mark_frames.ensures.lists in
    callers_to c.begin_checkpoint-upto.result c.args.pass.now c.mark_frames.new.pass c.sync_lanes.new.pass s (callers_on c.mark_frames.new.pass c.write_marked.new.pass c.sync_lanes.new.pass c.in-Ok.ensures.writes.keeps.callers (callers_on c.write_marked.new.pass c.flush_log.new.self c.sync_lanes.new.pass c.flush_log.ensures.callers c.in-Ok-sync_lanes.ensures.syncs.keeps.callers))

pub returns-in-Ok-sync_lanes-clause-completes : goal.returns-in-Ok-sync_lanes-clause-completes
returns-in-Ok-sync_lanes-clause-completes g c =
    let b = c.begin_checkpoint-upto.ensures in
    let s = started {L = g.row.L.Denot} {G = g.row.G.Denot} g.L.BlockLane.contents c.args.manager.now c.begin_checkpoint-upto.result c.args.pass.now c.forget_marked.new.self c.begin_checkpoint-upto.new.self c.mark_frames.new.pass c.forget_marked.ensures b.new b.did b.seen.1 b.callers c.requires.belongs c.mark_frames.ensures.marks c.mark_frames.ensures.lists in
    let w = c.in-Ok.ensures.writes in
    let f = c.in-Ok-flush_log.ensures in
    completed {L = g.row.L.Denot} {G = g.row.G.Denot} g.L.BlockLane.contents c.args.manager.now c.begin_checkpoint-upto.result c.in-Ok.written c.args.pass.now c.mark_frames.new.pass c.write_marked.new.pass c.flush_log.new.self c.sync_lanes.new.pass s w.flushes c.in-Ok.ensures.in_order (same_on c.mark_frames.new.pass c.write_marked.new.pass c.flush_log.new.self w.keeps.same c.flush_log.ensures.same) f.did f.flushed c.in-Ok-sync_lanes.ensures.syncs

pub returns-in-Err-sync_lanes-clause-callers : goal.returns-in-Err-sync_lanes-clause-callers
returns-in-Err-sync_lanes-clause-callers g c =
    let b = c.begin_checkpoint-upto.ensures in
    let s = started {L = g.row.L.Denot} {G = g.row.G.Denot} g.L.BlockLane.contents c.args.manager.now c.begin_checkpoint-upto.result c.args.pass.now c.forget_marked.new.self c.begin_checkpoint-upto.new.self c.mark_frames.new.pass c.forget_marked.ensures b.new b.did b.seen.1 b.callers c.requires.belongs c.mark_frames.ensures.marks c.mark_frames.ensures.lists in
    callers_to c.begin_checkpoint-upto.result c.args.pass.now c.mark_frames.new.pass c.sync_lanes.new.pass s (callers_on c.mark_frames.new.pass c.write_marked.new.pass c.sync_lanes.new.pass c.in-Ok.ensures.writes.keeps.callers (callers_on c.write_marked.new.pass c.flush_log.new.self c.sync_lanes.new.pass c.flush_log.ensures.callers c.in-Err-sync_lanes.ensures.stops.keeps.callers))

pub returns-in-Err-sync_lanes-clause-stops : goal.returns-in-Err-sync_lanes-clause-stops
returns-in-Err-sync_lanes-clause-stops g c =
    let b = c.begin_checkpoint-upto.ensures in
    let s = started {L = g.row.L.Denot} {G = g.row.G.Denot} g.L.BlockLane.contents c.args.manager.now c.begin_checkpoint-upto.result c.args.pass.now c.forget_marked.new.self c.begin_checkpoint-upto.new.self c.mark_frames.new.pass c.forget_marked.ensures b.new b.did b.seen.1 b.callers c.requires.belongs c.mark_frames.ensures.marks c.mark_frames.ensures.lists in
    let w = c.in-Ok.ensures.writes in
    let f = c.in-Ok-flush_log.ensures in
    let t = c.in-Err-sync_lanes.ensures.stops in
    let same = same_on c.mark_frames.new.pass c.write_marked.new.pass c.flush_log.new.self w.keeps.same c.flush_log.ensures.same in (
      c.begin_checkpoint-upto.result,
      begins_to c.begin_checkpoint-upto.result c.args.pass.now c.mark_frames.new.pass c.sync_lanes.new.pass s (same_on c.mark_frames.new.pass c.flush_log.new.self c.sync_lanes.new.pass same t.keeps.same),
      stopped_at_lane {L = g.row.L.Denot} {G = g.row.G.Denot} g.L.BlockLane.contents c.args.manager.now c.begin_checkpoint-upto.result c.in-Ok.written c.in-Err-sync_lanes.lane c.args.pass.now c.mark_frames.new.pass c.write_marked.new.pass c.flush_log.new.self c.sync_lanes.new.pass s w.flushes c.in-Ok.ensures.in_order same f.did (none_left_logged (frames_of c.args.manager.now.table) f.view.0 c.write_marked.new.pass.view c.flush_log.new.self.view f.view.1 c.in-Ok.ensures.none_left) f.flushed t,
    )

pub returns-in-Err-clause-short : goal.returns-in-Err-clause-short
returns-in-Err-clause-short g c n = let s = returns-in-Err-clause-stops g c in stops_short {L = g.row.L.Denot} {G = g.row.G.Denot} g.L.BlockLane.contents c.args.manager.now s.0 c.args.pass.now _ _ s.2 (returns-in-Err-clause-met g c) n

pub returns-in-Err-flush_log-clause-short : goal.returns-in-Err-flush_log-clause-short
returns-in-Err-flush_log-clause-short g c n = let s = returns-in-Err-flush_log-clause-stops g c in stops_short {L = g.row.L.Denot} {G = g.row.G.Denot} g.L.BlockLane.contents c.args.manager.now s.0 c.args.pass.now _ _ s.2 (returns-in-Err-flush_log-clause-met g c) n

pub returns-in-Err-sync_lanes-clause-met : goal.returns-in-Err-sync_lanes-clause-met
returns-in-Err-sync_lanes-clause-met g c =
    let b = c.begin_checkpoint-upto.ensures in
    let s = started {L = g.row.L.Denot} {G = g.row.G.Denot} g.L.BlockLane.contents c.args.manager.now c.begin_checkpoint-upto.result c.args.pass.now c.forget_marked.new.self c.begin_checkpoint-upto.new.self c.mark_frames.new.pass c.forget_marked.ensures b.new b.did b.seen.1 b.callers c.requires.belongs c.mark_frames.ensures.marks c.mark_frames.ensures.lists in
    let f = c.in-Ok-flush_log.ensures.view in
    c.in-Err-sync_lanes.ensures.stops.met ∙ ap met_write (flushed_met f.0 c.write_marked.new.pass.view c.flush_log.new.self.view f.1 ∙ c.in-Ok.ensures.writes.met ∙ s.met)

pub returns-in-Err-sync_lanes-clause-short : goal.returns-in-Err-sync_lanes-clause-short
returns-in-Err-sync_lanes-clause-short g c n = let s = returns-in-Err-sync_lanes-clause-stops g c in stops_short {L = g.row.L.Denot} {G = g.row.G.Denot} g.L.BlockLane.contents c.args.manager.now s.0 c.args.pass.now _ _ s.2 (returns-in-Err-sync_lanes-clause-met g c) n
