use Rattle.std.proofs.Common.{vec_len, take, drop, ◌-◌, ◌≡◌, ◌+◌, ◌∙◌, ℕ, List, [], ◌∷◌, ◌++◌, length, sym, ap, subst, arith}
use Rattle.atomic_table.specs.Table.{Me}
use Rattle.pin_core.specs.declared.view.View.{View}
use Rattle.pin_core.specs.State.{first_view}
use Rattle.table_rule.specs.declared.value.Value.{Value}
use Rattle.clock_sweep.specs.declared.free_list.QueueView.{QueueView}
use Rattle.clock_sweep.specs.FreeLists.{IsFreeList}
use Rattle.backend_pass.proofs.Starting.{known_new, list_kept, list_new}
use Rattle.frame_table.specs.FrameSteps.{kept_view}
use Rattle.frame_table.specs.Seats.{frames_of}
use Rattle.backend_pass.specs.PassMemories.{AreForFrames}
use Rattle.backend_pass.specs.Managers.{AreNewPasses, IsNewPass}
use Rattle.backend_pass.specs.Passes.{PassState}
use Rattle.backend_pass.proofs.Starting.{OthersAreNew, all_new, first_counted, first_fresh, fresh_front, fresh_last, others_none, others_with, rotated, split_of_first}
use Rattle.backend_pass.proofs.seating.seat_passes.Goals as goal

pub seated-first-requires-clause-fresh : goal.seated-first-requires-clause-fresh
seated-first-requires-clause-fresh g c =
    let k = c.args.manager.now.table.table.shared.key in
    first_fresh c.args.seat.id c.args.base k.config.frames 128 k.config.lanes c.args.seat.me.0 c.requires.seat.1
    (ap (λ (m : Me (Value g.row.L.Denot g.row.G.Denot) View). m.0) c.requires.seat.2 ∙ ap (λ (b : ℕ). first_view b k.config.frames 128 k.config.lanes) (sym c.requires.base))

pub loop-number-init : goal.loop-number-init
loop-number-init g c =
    let k = c.args.manager.now.table.table.shared.key in
    let e = c.seated-first.ensures in
    let len = c.take_last.ensures.len in
    let count = c.requires.memories.0 in
    let fresh : AreForFrames (frames_of c.args.manager.now.table) (c.take_last.new.self.items ++ c.take_last.result ∷ []) = subst (AreForFrames (frames_of c.args.manager.now.table)) c.take_last.ensures.items c.requires.memories.1 in
    let none = ap (λ (l : List PassState). length l) c.requires.room.0 in
    let ok = c.args.passes.ok in record {
      memories = omega arith;
      fresh = fresh_front (frames_of c.args.manager.now.table) c.take_last.new.self.items c.take_last.result fresh;
      table = ap (λ (p : PassState). p.table) e ∙ c.requires.seat.0;
      id = ap (λ (p : PassState). p.id) e ∙ c.requires.seat.1;
      view = ap (λ (p : PassState). p.view) e ∙ ap (λ (m : Me (Value g.row.L.Denot g.row.G.Denot) View). m.0) c.requires.seat.2 ∙ ap (λ (b : ℕ). first_view b k.config.frames 128 k.config.lanes) (sym c.requires.base);
      tokens = ap (λ (p : PassState). p.tokens) e;
      census = ap (λ (p : PassState). p.census) e ∙ fresh_last (frames_of c.args.manager.now.table) c.take_last.new.self.items c.take_last.result fresh;
      hint = ap (λ (p : PassState). p.hint) e;
      io = ap (λ (p : PassState). p.io) e;
      list = subst (IsFreeList {L = g.row.L.Denot} {G = g.row.G.Denot} c.args.manager.now.table c.args.manager.now.sweep) (sym (ap (λ (p : PassState). p.queue) e)) c.requires.queue;
      parts = (let first = ap (λ (p : PassState). p.queue.known.parts) e in let whole = ap (λ (x : QueueView). x.parts) c.requires.known in omega arith);
      pushed = ap (λ (p : PassState). p.queue.known.pushed) e ∙ ap (λ (x : QueueView). x.pushed) c.requires.known;
      taken = ap (λ (p : PassState). p.queue.known.taken) e ∙ ap (λ (x : QueueView). x.taken) c.requires.known;
      counted = omega (arith, ok.0);
      each = subst (OthersAreNew {L = g.row.L.Denot} {G = g.row.G.Denot} g.L.BlockLane.contents c.args.manager.now c.args.count) (sym c.requires.room.0) (others_none {L = g.row.L.Denot} {G = g.row.G.Denot} g.L.BlockLane.contents c.args.manager.now c.args.count);
      wide = c.requires.room.1;
    }

pub loop-number-preserved : goal.loop-number-preserved
loop-number-preserved g c =
    let i = c.loop-number.invariant in
    let s = c.split-pass.ensures in
    let memories = i.memories in
    let counted = i.counted in
    let wide = i.wide in
    let len = c.take_last-in-loop-number.ensures.len in
    let long = c.push_reserved.ensures.len in
    let room = c.push_reserved.ensures.capacity in
    let ok = c.loop-number.passes.ok in
    let number : c.loop-number.number ≡ length c.loop-number.passes.items + 1 = omega (arith, ok.0) in
    let fresh : AreForFrames (frames_of c.args.manager.now.table) (c.take_last-in-loop-number.new.self.items ++ c.take_last-in-loop-number.result ∷ []) = subst (AreForFrames (frames_of c.args.manager.now.table)) c.take_last-in-loop-number.ensures.items i.fresh in
    let new : IsNewPass {L = g.row.L.Denot} {G = g.row.G.Denot} g.L.BlockLane.contents c.args.manager.now c.args.count (length c.loop-number.passes.items + 1) c.split-pass.result = split_of_first {L = g.row.L.Denot} {G = g.row.G.Denot} g.L.BlockLane.contents c.args.manager.now c.args.count c.split-pass.result c.loop-number.first.view c.args.base c.loop-number.number (length c.loop-number.passes.items) s.view i.view number c.requires.base
    (s.table ∙ i.table) s.fresh.0 (s.fresh.1 ∙ fresh_last (frames_of c.args.manager.now.table) c.take_last-in-loop-number.new.self.items c.take_last-in-loop-number.result fresh) s.fresh.2 s.fresh.3 (list_new _ _ _ _ i.list s.queue) (known_new _ _ _ _ i.list s.queue) in record {
      memories = omega arith;
      fresh = fresh_front (frames_of c.args.manager.now.table) c.take_last-in-loop-number.new.self.items c.take_last-in-loop-number.result fresh;
      table = ap (λ (p : PassState). p.table) s.first ∙ i.table;
      id = ap (λ (p : PassState). p.id) s.first ∙ i.id;
      view = ap (λ (p : PassState). p.view) s.first ∙ ap kept_view i.view;
      tokens = ap (λ (p : PassState). p.tokens) s.first ∙ i.tokens;
      census = ap (λ (p : PassState). p.census) s.first ∙ i.census;
      hint = ap (λ (p : PassState). p.hint) s.first ∙ i.hint;
      io = ap (λ (p : PassState). p.io) s.first ∙ i.io;
      list = list_kept _ _ _ _ i.list (ap (λ (p : PassState). p.queue) s.first);
      parts = (let kept = ap (λ (p : PassState). p.queue.known.parts) s.first in let before = i.parts in let end = c.loop-number-test.true in let few = c.requires.count in omega arith);
      pushed = ap (λ (p : PassState). p.queue.known.pushed) s.first ∙ i.pushed;
      taken = ap (λ (p : PassState). p.queue.known.taken) s.first ∙ i.taken;
      counted = omega arith;
      each = subst (OthersAreNew {L = g.row.L.Denot} {G = g.row.G.Denot} g.L.BlockLane.contents c.args.manager.now c.args.count) (sym c.push_reserved.ensures.items) (others_with {L = g.row.L.Denot} {G = g.row.G.Denot} g.L.BlockLane.contents c.args.manager.now c.args.count c.loop-number.passes.items c.split-pass.result i.each new);
      wide = omega arith;
    }

pub returns : goal.returns
returns g c =
    let i = c.loop-number.invariant in
    let counted = i.counted in
    let ok = c.loop-number.passes.ok in
    let end = c.loop-number-test.false in
    let within = c.loop-number.auto.number-end in
    let some = c.requires.count.0 in
    let number : c.loop-number.number ≡ c.args.count = omega arith in
    let first = first_counted {L = g.row.L.Denot} {G = g.row.G.Denot} g.L.BlockLane.contents c.args.manager.now c.args.count c.loop-number.first c.args.base c.loop-number.number i.view number c.requires.base i.table i.tokens i.census i.hint i.io i.list i.parts i.pushed i.taken in
    let long = c.push_reserved-2.ensures.len in
    let wide : vec_len c.push_reserved-2.new.self ≡ length c.loop-number.passes.items + 1 = omega (arith, ok.0) in
    let back = c.rotate_right.ensures.items ∙ ap (λ (l : List PassState). drop (vec_len c.push_reserved-2.new.self - 1) l ++ take (vec_len c.push_reserved-2.new.self - 1) l) c.push_reserved-2.ensures.items
    ∙ rotated c.loop-number.passes.items c.loop-number.first (vec_len c.push_reserved-2.new.self) wide in
    subst (AreNewPasses {L = g.row.L.Denot} {G = g.row.G.Denot} g.L.BlockLane.contents c.args.manager.now c.args.count) (sym back) (all_new {L = g.row.L.Denot} {G = g.row.G.Denot} g.L.BlockLane.contents c.args.manager.now c.args.count c.loop-number.first c.loop-number.passes.items first i.each (omega (arith, ok.0)))
