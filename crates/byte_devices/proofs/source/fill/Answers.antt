use Rattle.byte_devices.proofs.Filling.{taken_more, taken_none}
use Rattle.byte_devices.proofs.source.fill.Goals as goal

pub returns-then-taken-eq0-clause-taken : goal.returns-then-taken-eq0-clause-taken
returns-then-taken-eq0-clause-taken g c = taken_none c.loop-at.at c.in_ok-taken.taken _ c.loop-at.piece c.next.new.piece _ _ _ _ _ c.loop-at.invariant c.loop-at-test.true c.in_ok-taken.ensures.size c.in_ok-taken.ensures.within c.in_ok-taken.ensures.taken c.if-taken-eq0.true

pub loop-at-preserved : goal.loop-at-preserved
loop-at-preserved g c = taken_more c.loop-at.at c.in_ok-taken.taken _ c.loop-at.piece c.next.new.piece _ _ _ _ _ _ c.loop-at.invariant c.loop-at-test.true c.in_ok-taken.ensures.size c.in_ok-taken.ensures.within c.in_ok-taken.ensures.taken c.in_ok-taken.ensures.faults.ok
