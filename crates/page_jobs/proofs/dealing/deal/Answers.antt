use Rattle.std.proofs.Common.{rules, ◌≡◌, ◌+◌, ℕ, [], Ok, length, refl, ap, subst}
use Rattle.page_jobs.specs.declared.working.Worker.{Worker}
use Rattle.page_jobs.specs.Dealt.{IsDealing}
use Rattle.page_jobs.proofs.Deals.{cut_off, dealing_more, one_part}
use Rattle.page_jobs.proofs.dealing.deal.Goals as goal

pub begin-requires : goal.begin-requires
begin-requires g c =
    let long : length c.loop-pass.passes.items ≡ length c.pop.new.self.items + 1 = search rules in
    record { deals = (length c.pop.new.self.items, subst (λ (n : ℕ). g.K.JobTask.deals n c.loop-pass.task) long c.loop-pass.invariant.deals) }

pub loop-pass-preserved : goal.loop-pass-preserved
loop-pass-preserved g c =
    let i = c.loop-pass.invariant in
    let chunks = c.args.claims.now.chunks in
    let workers = c.args.claims.now.workers in
    let w : Worker g.row.K.Denot = record { number = c.len-number.result; pass = c.in-Some.pass; seat = c.split.result; task = c.begin.result; end = Ok tt } in
    let number : c.len-number.result ≡ length c.pop.new.self.items = search rules in
    let long : length c.loop-pass.passes.items ≡ length c.pop.new.self.items + 1 = search rules in
    let before : IsDealing chunks workers (length c.pop.new.self.items + 1) c.loop-pass.seat.me.0 = subst (λ (n : ℕ). IsDealing chunks workers n c.loop-pass.seat.me.0) long i.left in
    record {
      dealing = dealing_more (g.K.JobTask.begins c.args.task.now) c.args.claims.now c.args.passes.now.items c.loop-pass.passes.items c.pop.new.self.items c.loop-pass.workers.items c.push_reserved.new.self.items c.in-Some.pass w i.dealing c.in-Some.ensures.items c.push_reserved.ensures.items record {
        number_is = number;
        pass = refl;
        seat = record { sits = c.split.ensures.new; claims_are = one_part chunks workers (length c.pop.new.self.items + 1) c.loop-pass.seat.me.0 c.split.result.me.0 before c.split.ensures.right };
        task = i.same c.begin.result c.begin.ensures.begins;
      };
      room = search rules;
      capacity = search rules;
      sits = c.split.ensures.seat;
      left = cut_off chunks workers (length c.pop.new.self.items) c.loop-pass.seat.me.0 c.split.new.seat.me.0 before c.split.ensures.left;
      deals = c.begin.ensures.deals (length c.pop.new.self.items) (subst (λ (n : ℕ). g.K.JobTask.deals n c.loop-pass.task) long i.deals);
      same = λ k begun. i.same k (c.begin.ensures.same k begun);
    }

pub returns-clause-deals : goal.returns-clause-deals
returns-clause-deals g c =
    let none : c.loop-pass.passes.items ≡ [] = search rules in
    subst (λ (n : ℕ). g.K.JobTask.deals n c.loop-pass.task) (ap length none) c.loop-pass.invariant.deals
