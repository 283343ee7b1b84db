use Rattle.std.proofs.Common.{◌<◌, None, rules}
use Rattle.block_tag.specs.declared.tag.Fork.TheVariants.{Main}
use Rattle.test_devices.specs.declared.log.TestLog.{TestLog}
use Rattle.list_tests.specs.declared.lanes.ReadLane.{ReadLane}
use Rattle.page_jobs.proofs.Backends.{new_are_free}
use Rattle.page_jobs.proofs.LoadBackends.{all_given}
use Rattle.list_tests.proofs.loading.load_blocks.Goals as goal

pub load-passes-requires-clause-free : goal.load-passes-requires-clause-free
load-passes-requires-clause-free g c κs b = new_are_free {L = ReadLane} {G = TestLog} (λ x. None) c.in-Ok-start.manager Main _ c.in-Ok-start.given.items c.in-Ok-start.ensures.passes

pub close_counted-lanes-requires-clause-all : goal.close_counted-lanes-requires-clause-all
close_counted-lanes-requires-clause-all g c =
    let several : 1 < c.args.passes = search rules in
    let r = c.load-passes.ensures in
    all_given {L = ReadLane} {G = TestLog} (λ x. None) c.in-Ok-start.manager _ c.args.passes c.in-Ok-start.given.items c.load-passes.result.passes.items c.in-Ok-start.ensures.passes several r.passes r.last
