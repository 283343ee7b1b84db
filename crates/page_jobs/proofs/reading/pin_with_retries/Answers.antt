use Rattle.std.proofs.Common.{◌∙◌, ℕ, ap, refl, subst, sym}
use Rattle.pin_core.specs.declared.view.FailedCalls.{FailedCalls}
use Rattle.frame_table.specs.Seats.{relations_of}
use Rattle.io_counts.specs.Found.{FoundMore}
use Rattle.io_counts.proofs.Found.{found_after, found_none}
use Rattle.backend_pass.specs.Reading.{met_read_refused}
use Rattle.backend_pass.proofs.Keeping.{calls_on}
use Rattle.page_jobs.proofs.Blocks.{ends_at_read, met_crowded, new_none, not_at_once, once}
use Rattle.page_jobs.proofs.FoundReads.{found_crowded, found_read}
use Rattle.page_jobs.proofs.Staying.{stays_none, stays_read}
use Rattle.page_jobs.specs.Reads.{found_refused}
use Rattle.page_jobs.proofs.reading.pin_with_retries.Goals as goal

pub returns-in-Ok-clause-pinned : goal.returns-in-Ok-clause-pinned
returns-in-Ok-clause-pinned g c =
    let i = c.loop.invariant in
    let e = c.in-Ok.ensures in
    let tried = not_at_once (relations_of c.args.manager.now.table) c.loop.pass.tokens c.args.tag c.requires.block i.spent in
    let looked_up = e.new tried (new_none c.args.tag c.loop.pass.tokens i.spent) in
    record {
      stays = stays_read {L = g.row.L.Denot} {G = g.row.G.Denot} g.L.BlockLane.contents c.args.manager.now c.args.pass.now c.loop.pass c.read_buffer.new.self i.stays e.belongs e.same e.mark e.locks e.calls;
      calls = calls_on c.args.pass.now c.loop.pass c.read_buffer.new.self i.calls e.calls;
      met = e.met ∙ i.met;
      tag_is = e.tag;
      token = e.pinned;
      last = e.back ∙ i.spent;
      unlocked = looked_up.answer.unlocked;
    }

pub returns-in-Ok-clause-found : goal.returns-in-Ok-clause-found
returns-in-Ok-clause-found g c =
    let i = c.loop.invariant in
    let tried = not_at_once (relations_of c.args.manager.now.table) c.loop.pass.tokens c.args.tag c.requires.block i.spent in
    let looked_up = c.in-Ok.ensures.new tried (new_none c.args.tag c.loop.pass.tokens i.spent) in
    found_after 1 c.args.pass.now.io c.loop.pass.io c.read_buffer.new.self.io i.found
    (found_read {L = g.row.L.Denot} {G = g.row.G.Denot} g.L.BlockLane.contents c.args.manager.now.table c.args.tag _ _ c.loop.pass c.read_buffer.new.self _ looked_up)

pub returns-then-not-is_crowding-clause-found : goal.returns-then-not-is_crowding-clause-found
returns-then-not-is_crowding-clause-found g c =
    let i = c.loop.invariant in
    let tried = not_at_once (relations_of c.args.manager.now.table) c.loop.pass.tokens c.args.tag c.requires.block i.spent in
    let looked_up = c.in-Err.ensures.new tried (new_none c.args.tag c.loop.pass.tokens i.spent) in
    found_after (found_refused c.in-Err.why) c.args.pass.now.io c.loop.pass.io c.read_buffer.new.self.io i.found
    (found_read {L = g.row.L.Denot} {G = g.row.G.Denot} g.L.BlockLane.contents c.args.manager.now.table c.args.tag _ _ c.loop.pass c.read_buffer.new.self _ looked_up)

pub returns-then-not-is_crowding-clause-refused : goal.returns-then-not-is_crowding-clause-refused
returns-then-not-is_crowding-clause-refused g c =
    let i = c.loop.invariant in
    let e = c.in-Err.ensures in
    let tried = not_at_once (relations_of c.args.manager.now.table) c.loop.pass.tokens c.args.tag c.requires.block i.spent in
    let looked_up = e.new tried (new_none c.args.tag c.loop.pass.tokens i.spent) in
    record {
      stays = stays_read {L = g.row.L.Denot} {G = g.row.G.Denot} g.L.BlockLane.contents c.args.manager.now c.args.pass.now c.loop.pass c.read_buffer.new.self i.stays e.belongs e.same e.mark e.locks e.calls;
      spent = e.refused ∙ i.spent;
      calls = e.calls.calls ∙ i.calls.calls;
      once = once c.in-Err.why (e.exact ∙ tried) (sym c.is_crowding.ensures ∙ c.if-not-is_crowding.true);
      before = c.loop.pass;
      since = i.stays.same.keeps.advances;
      refused = looked_up.answer.1;
      last = ends_at_read {L = g.row.L.Denot} {G = g.row.G.Denot} g.L.BlockLane.contents c.args.manager.now c.args.tag _ _ _ _ _ c.in-Err.why c.loop.pass.view c.read_buffer.new.self looked_up.calls;
      met = e.met ∙ ap (λ (m : FailedCalls). met_read_refused c.in-Err.why m) i.met;
    }

pub loop-init : goal.loop-init
loop-init g c = record {
  stays = stays_none {L = g.row.L.Denot} {G = g.row.G.Denot} g.L.BlockLane.contents c.args.manager.now c.args.pass.now c.requires.free.belongs;
  spent = c.requires.free.spent;
  calls = record { calls = refl; front = refl; place_loads = refl };
  met = refl;
  found = found_none c.args.pass.now.io;
}

pub loop-preserved : goal.loop-preserved
loop-preserved g c =
    let i = c.loop.invariant in
    let e = c.in-Err.ensures in
    let crowded = sym c.is_crowding.ensures ∙ c.if-not-is_crowding.false in
    let tried = not_at_once (relations_of c.args.manager.now.table) c.loop.pass.tokens c.args.tag c.requires.block i.spent in
    let looked_up = e.new tried (new_none c.args.tag c.loop.pass.tokens i.spent) in
    record {
      stays = stays_read {L = g.row.L.Denot} {G = g.row.G.Denot} g.L.BlockLane.contents c.args.manager.now c.args.pass.now c.loop.pass c.read_buffer.new.self i.stays e.belongs e.same e.mark e.locks e.calls;
      spent = e.refused ∙ i.spent;
      calls = calls_on c.args.pass.now c.loop.pass c.read_buffer.new.self i.calls e.calls;
      met = e.met ∙ met_crowded c.in-Err.why c.loop.pass.view.met crowded ∙ i.met;
      found = found_after 0 c.args.pass.now.io c.loop.pass.io c.read_buffer.new.self.io i.found
          (subst (λ (n : ℕ). FoundMore n c.loop.pass.io c.read_buffer.new.self.io) (found_crowded c.in-Err.why crowded)
          (found_read {L = g.row.L.Denot} {G = g.row.G.Denot} g.L.BlockLane.contents c.args.manager.now.table c.args.tag _ _ c.loop.pass c.read_buffer.new.self _ looked_up));
    }
