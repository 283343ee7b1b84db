use Rattle.std.proofs.Common.{None}
use Rattle.test_devices.specs.declared.lane.TestLane.{TestLane}
use Rattle.test_devices.specs.declared.log.TestLog.{TestLog}
use Rattle.manager_tests.proofs.Fresh.{all_fresh}
use Rattle.manager_tests.proofs.tests.refusal.Goals as goal

pub close-lanes-requires : goal.close-lanes-requires
close-lanes-requires c = let e = c.in-Ok.ensures in all_fresh {L = TestLane} {G = TestLog} (λ x. None) c.in-Ok.manager record { frames = c.args.frames; passes = c.args.passes; lanes = c.args.lanes } _ c.in-Ok.passes.items e.fits e.passes
