use Rattle.std.proofs.Common.{None, Some}
use Rattle.log_recovery.proofs.Taking.{begins_none, begins_some, has_head, takes_all}
use Rattle.log_recovery.proofs.head.read_head.Goals as goal

pub returns-then-count-lt-HEAD_SIZE-clause-begun : goal.returns-then-count-lt-HEAD_SIZE-clause-begun
returns-then-count-lt-HEAD_SIZE-clause-begun g c = begins_none c.in-Ok.count c.fill.new.piece _ _ c.in-Ok.ensures.taken (c.in-Ok.ensures.end c.if-count-lt-HEAD_SIZE.true) c.if-count-lt-HEAD_SIZE.true

pub returns-then-count-lt-HEAD_SIZE-clause-bad_head : goal.returns-then-count-lt-HEAD_SIZE-clause-bad_head
returns-then-count-lt-HEAD_SIZE-clause-bad_head g c = has_head _ (g.S.Source.left c.args.source.now) (g.S.Source.left c.fill.new.source) None (begins_none c.in-Ok.count c.fill.new.piece _ _ c.in-Ok.ensures.taken (c.in-Ok.ensures.end c.if-count-lt-HEAD_SIZE.true) c.if-count-lt-HEAD_SIZE.true)

pub returns-in-Some-clause-begun : goal.returns-in-Some-clause-begun
returns-in-Some-clause-begun g c = begins_some c.fill.new.piece _ _ c.in-Some.base c.in-Ok.ensures.size (takes_all c.in-Ok.count 16 _ _ _ c.in-Ok.ensures.within c.if-count-lt-HEAD_SIZE.false c.in-Ok.ensures.taken) c.in-Some.ensures.some

pub returns-in-Some-clause-bad_head : goal.returns-in-Some-clause-bad_head
returns-in-Some-clause-bad_head g c = has_head _ (g.S.Source.left c.args.source.now) (g.S.Source.left c.fill.new.source) (Some c.in-Some.base) (begins_some c.fill.new.piece _ _ c.in-Some.base c.in-Ok.ensures.size (takes_all c.in-Ok.count 16 _ _ _ c.in-Ok.ensures.within c.if-count-lt-HEAD_SIZE.false c.in-Ok.ensures.taken) c.in-Some.ensures.some)
