use Rattle.std.proofs.Common.{rules, ◌≡◌, ◌+◌, List, [], ◌∷◌, ◌++◌, Some, length, refl, sym, ap, ◌∙◌, subst, arith, append_assoc}
use Rattle.std.proofs.lemmas.List.{append-nil}
use Rattle.std.proofs.lemmas.List.Elements.{All-pop}
use Rattle.page_jobs.specs.declared.working.Worker.{Worker}
use Rattle.page_jobs.specs.Dealt.{HasWorkedSeat, HaveJoined, total_drawn}
use Rattle.chunk_claims.proofs.Weights.{total_nothing}
use Rattle.page_jobs.proofs.Deals.{drawn_first, gathered, none_drawn}
use Rattle.page_jobs.proofs.dealing.gather.Goals as goal

pub join-requires-clause-other : goal.join-requires-clause-other
join-requires-clause-other g c =
    let x = (All-pop (HasWorkedSeat {K = g.row.K.Denot} c.args.claims.now) c.loop-worker.workers.items c.pop.new.self.items (Some c.in-Some.worker) c.in-Some.ensures.items c.loop-worker.invariant.rest).1 in
    let part = x.part.0 in
    (x.sits, omega (arith, part))

pub loop-worker-init : goal.loop-worker-init
loop-worker-init g c =
    let r = c.requires in
    let d = r.seat.1 in record {
      passes = search rules;
      room = search rules;
      capacity = refl;
      sits = r.seat.0;
      workers = d.workers_are;
      parts = let p = d.parts_are in omega (arith, p);
      drawn = λ h. let n = total_nothing h c.args.seat.now.me.0.drawn d.drawn in omega (arith, n);
      rest = r.seats;
      joined = ([], append-nil c.args.workers.items, refl);
    }

pub loop-worker-preserved : goal.loop-worker-preserved
loop-worker-preserved g c =
    let i = c.loop-worker.invariant in
    let popped = All-pop (HasWorkedSeat {K = g.row.K.Denot} c.args.claims.now) c.loop-worker.workers.items c.pop.new.self.items (Some c.in-Some.worker) c.in-Some.ensures.items i.rest in
    let x = popped.1 in
    let j = c.join.ensures in
    let part = x.part.0 in
    let long : length c.loop-worker.workers.items ≡ length c.pop.new.self.items + 1 = search rules in
    record {
      passes = gathered c.loop-worker.workers.items c.pop.new.self.items c.loop-worker.passes.items c.push_reserved.new.self.items _ c.in-Some.worker i.passes c.in-Some.ensures.items c.push_reserved.ensures.items;
      room = search rules;
      capacity = search rules;
      sits = j.seat;
      workers = ap (λ y. y.workers) j.both ∙ x.part.1;
      parts = let both = ap (λ y. y.parts) j.both in let so_far = i.parts in omega (arith, both, so_far, part, long);
      drawn = λ h. drawn_first h c.loop-worker.workers.items c.pop.new.self.items c.in-Some.worker c.loop-worker.seat.me.0 c.join.new.seat.me.0 _ c.in-Some.ensures.items j.both (i.drawn h);
      rest = popped.0;
      joined = (
        c.in-Some.worker ∷ i.joined.0,
        sym (append_assoc c.pop.new.self.items (c.in-Some.worker ∷ []) i.joined.0) ∙ ap (λ (l : List (Worker g.row.K.Denot)). l ++ i.joined.0) (sym c.in-Some.ensures.items) ∙ i.joined.1,
        (c.loop-worker.task, i.joined.2, c.join-in-Some.ensures.joins),
      );
    }

pub returns-clause-drawn : goal.returns-clause-drawn
returns-clause-drawn g c h =
    let i = c.loop-worker.invariant in
    let none : c.loop-worker.workers.items ≡ [] = search rules in
    let rest = ap (λ (l : List (Worker g.row.K.Denot)). total_drawn h l) none ∙ none_drawn g.row.K.Denot h in
    let all = i.drawn h in
    omega (arith, rest, all)

pub returns-clause-joined : goal.returns-clause-joined
returns-clause-joined g c =
    let i = c.loop-worker.invariant in
    let none : c.loop-worker.workers.items ≡ [] = search rules in
    let all : i.joined.0 ≡ c.args.workers.items = ap (λ (l : List (Worker g.row.K.Denot)). l ++ i.joined.0) (sym none) ∙ i.joined.1 in
    subst (λ (l : List (Worker g.row.K.Denot)). HaveJoined g.K.JobTask.joins l c.args.task.now c.loop-worker.task) all i.joined.2
