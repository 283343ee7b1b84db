use Rattle.std.proofs.Common.{◌-◌, arith}
use Rattle.io_counts.proofs.Additions.{published_other, published_own}
use Rattle.io_counts.proofs.publishing.publish_count.Goals as goal

pub returns-then-published-counted-clause-told : goal.returns-then-published-counted-clause-told
returns-then-published-counted-clause-told g c = let a = published_own c.args.number (c.args.counted - c.args.published) c.args.seat.now.me.0 c.add_counter.new.seat.me.0 c.add_counter.ensures.view in let told = c.requires.told in let grew = c.requires.grew in omega arith

pub returns-then-published-counted-clause-others : goal.returns-then-published-counted-clause-others
returns-then-published-counted-clause-others g c other apart = published_other other c.args.number (c.args.counted - c.args.published) c.args.seat.now.me.0 c.add_counter.new.seat.me.0 apart c.add_counter.ensures.view
