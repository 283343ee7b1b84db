use Rattle.std.proofs.Common.{◌∙◌, ◌++◌, ℕ, take, drop, sym, ap, subst, add-one, arith}
use Rattle.pin_core.specs.declared.view.View.{View}
use Rattle.clock_sweep.specs.FreeFrames.{QueueState}
use Rattle.clock_sweep.specs.FreeLists.{IsOfSweep}
use Rattle.backend_pass.specs.Managers.{HaveQueues, AreSpent, IsFirstAt, others_in}
use Rattle.backend_pass.specs.Closing.{joined_queues, joined_views}
use Rattle.backend_pass.proofs.Listed.{has_all_parts, listed_at, listed_others, took_each}
use Rattle.backend_pass.proofs.Ended.{closes_all, number_zero}
use Rattle.buffer_frames.proofs.Resting.{rests_hold_nothing}
use Rattle.backend_pass.proofs.Joining.{Joins, first_standing, joined_hold_nothing, joins, others_fewer, others_standing, spent_at, spent_others}
use Rattle.backend_pass.proofs.manager.Manager.close.Goals as goal

pub leave-seat-requires : goal.leave-seat-requires
leave-seat-requires g c =
    let at = subst (IsFirstAt c.place_of_first-place.result) c.deref.ensures.value c.place_of_first-place.ensures in
    (spent_at c.args.self.table.table.shared.table_id c.args.passes.items c.place_of_first-place.result c.remove.result at.inside c.remove.ensures.value c.requires.spent).1

pub join_all-requires-clause-seat : goal.join_all-requires-clause-seat
join_all-requires-clause-seat g c =
    let at = subst (IsFirstAt c.place_of_first-place.result) c.deref.ensures.value c.place_of_first-place.ensures in (
      c.leave-seat.ensures.table ∙ (spent_at c.args.self.table.table.shared.table_id c.args.passes.items c.place_of_first-place.result c.remove.result at.inside c.remove.ensures.value c.requires.spent).0,
      c.leave-seat.ensures.first (number_zero c.remove.result.view.number (at.here c.remove.result c.remove.ensures.value)),
    )

pub join_all-requires-clause-others : goal.join_all-requires-clause-others
join_all-requires-clause-others g c =
    let at = subst (IsFirstAt c.place_of_first-place.result) c.deref.ensures.value c.place_of_first-place.ensures in
    let left = c.remove.ensures.by_index.2 ∙ ap (λ (n : ℕ). take c.place_of_first-place.result c.args.passes.items ++ drop n c.args.passes.items) (add-one c.place_of_first-place.result) ∙ others_standing c.args.passes.items c.place_of_first-place.result at in
    subst (AreSpent c.args.self.table.table.shared.table_id) (sym left) (spent_others c.args.self.table.table.shared.table_id c.args.passes.items c.place_of_first-place.result at c.requires.spent)

pub join_all-requires-clause-queue : goal.join_all-requires-clause-queue
join_all-requires-clause-queue g c =
    let at = subst (IsFirstAt c.place_of_first-place.result) c.deref.ensures.value c.place_of_first-place.ensures in
    subst (IsOfSweep c.args.self.sweep) (sym c.leave-seat.ensures.queue) (listed_at {L = g.row.L.Denot} {G = g.row.G.Denot} c.args.self c.args.passes.items c.place_of_first-place.result c.remove.result at.inside c.remove.ensures.value c.requires.queues).pass

pub join_all-requires-clause-queues : goal.join_all-requires-clause-queues
join_all-requires-clause-queues g c =
    let at = subst (IsFirstAt c.place_of_first-place.result) c.deref.ensures.value c.place_of_first-place.ensures in
    let left = c.remove.ensures.by_index.2 ∙ ap (λ (n : ℕ). take c.place_of_first-place.result c.args.passes.items ++ drop n c.args.passes.items) (add-one c.place_of_first-place.result) ∙ others_standing c.args.passes.items c.place_of_first-place.result at in
    subst (HaveQueues {L = g.row.L.Denot} {G = g.row.G.Denot} c.args.self) (sym left) (listed_others {L = g.row.L.Denot} {G = g.row.G.Denot} c.args.self c.args.passes.items c.place_of_first-place.result at c.requires.queues)

pub close-requires-clause-whole : goal.close-requires-clause-whole
close-requires-clause-whole g c =
    let at = subst (IsFirstAt c.place_of_first-place.result) c.deref.ensures.value c.place_of_first-place.ensures in
    let left = c.remove.ensures.by_index.2 ∙ ap (λ (n : ℕ). take c.place_of_first-place.result c.args.passes.items ++ drop n c.args.passes.items) (add-one c.place_of_first-place.result) ∙ others_standing c.args.passes.items c.place_of_first-place.result at in
    let queues = c.join_all.ensures.known ∙ ap (λ (q : QueueState). joined_queues q c.remove.new.self.items) c.leave-seat.ensures.queue ∙ ap (joined_queues c.remove.result.queue) left in
    has_all_parts c.place_of_first-place.result c.args.passes.items c.remove.result c.join_all.new.queue at c.remove.ensures.value queues c.requires.parts

pub close-requires-2 : goal.close-requires-2
close-requires-2 g c =
    let at = subst (IsFirstAt c.place_of_first-place.result) c.deref.ensures.value c.place_of_first-place.ensures in
    let left = c.remove.ensures.by_index.2 ∙ ap (λ (n : ℕ). take c.place_of_first-place.result c.args.passes.items ++ drop n c.args.passes.items) (add-one c.place_of_first-place.result) ∙ others_standing c.args.passes.items c.place_of_first-place.result at in
    let first = first_standing c.args.passes.items c.place_of_first-place.result c.remove.result at c.remove.ensures.value in
    let is = c.join_all.ensures.joined ∙ ap (λ (v : View). joined_views v c.remove.new.self.items) c.leave-seat.ensures.me.0 ∙ ap (joined_views c.remove.result.view) left in
    let j : Joins c.remove.result.view c.join_all.new.seat.me.0 (others_in c.args.passes.items) = subst (λ (w : View). Joins c.remove.result.view w (others_in c.args.passes.items)) (sym is) (joins c.remove.result.view (others_in c.args.passes.items)) in
    let r = c.leave-seat.ensures.rests in
    let joined = j.joined in
    let next = j.next in
    let fewer = others_fewer c.args.passes.items c.place_of_first-place.result at in
    let counted = c.requires.counted in
    let none = c.requires.joined in
    let first_next = ap (λ (v : View). v.next) first in
    let first_joined = ap (λ (v : View). v.joined) first in
    record {
      fits = c.join_all.ensures.seat.table ∙ c.leave-seat.ensures.table ∙ (spent_at c.args.self.table.table.shared.table_id c.args.passes.items c.place_of_first-place.result c.remove.result at.inside c.remove.ensures.value c.requires.spent).0;
      first = c.join_all.ensures.seat.id ∙ c.leave-seat.ensures.first (number_zero c.remove.result.view.number (at.here c.remove.result c.remove.ensures.value));
      hand = c.join_all.ensures.seat.hand ∙ c.leave-seat.ensures.me.1;
      live = j.live ∙ r.quiet.live;
      free = joined_hold_nothing c.remove.result.view c.join_all.new.seat.me.0 (others_in c.args.passes.items) j (rests_hold_nothing c.remove.result.view r);
      joined = omega arith;
    }

pub returns : goal.returns
returns g c =
    let at = subst (IsFirstAt c.place_of_first-place.result) c.deref.ensures.value c.place_of_first-place.ensures in
    let left = c.remove.ensures.by_index.2 ∙ ap (λ (n : ℕ). take c.place_of_first-place.result c.args.passes.items ++ drop n c.args.passes.items) (add-one c.place_of_first-place.result) ∙ others_standing c.args.passes.items c.place_of_first-place.result at in
    let first = first_standing c.args.passes.items c.place_of_first-place.result c.remove.result at c.remove.ensures.value in
    let is = c.join_all.ensures.joined ∙ ap (λ (v : View). joined_views v c.remove.new.self.items) c.leave-seat.ensures.me.0 ∙ ap (joined_views c.remove.result.view) left in
    let queues = c.join_all.ensures.known ∙ ap (λ (q : QueueState). joined_queues q c.remove.new.self.items) c.leave-seat.ensures.queue ∙ ap (joined_queues c.remove.result.queue) left in
    let list = listed_at {L = g.row.L.Denot} {G = g.row.G.Denot} c.args.self c.args.passes.items c.place_of_first-place.result c.remove.result at.inside c.remove.ensures.value c.requires.queues in
    closes_all _ _ c.args.passes.items _ _ c.remove.result.view c.join_all.new.seat.me.0 c.place_of_first-place.result at first is c.leave-seat.ensures.rests c.requires.fronts
    (took_each _ c.place_of_first-place.result c.args.passes.items c.remove.result c.join_all.new.queue at c.remove.ensures.value queues list.frames c.close.ensures)
    c.args.self.table.counted c.close-2.ensures
