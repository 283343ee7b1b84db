use Rattle.std.proofs.Common.{arith, sym, subst}
use Rattle.table_rule.specs.Laid.{AreFresh}
use Rattle.table_rule.proofs.Laying.{fresh_more}
use Rattle.table_rule.proofs.build.fresh_maps.Goals as goal

pub loop-preserved : goal.loop-preserved
loop-preserved c = let i = c.loop.invariant in let m = c.in_ok-with_capacity in
    (let a = c.in_ok-push.ensures.len in let b = i.0 in omega arith, subst (AreFresh c.args.frames) (sym c.in_ok-push.ensures.items) (fresh_more c.args.frames c.loop.maps.items m.field-0 m.ensures.items m.ensures.capacity i.1))
