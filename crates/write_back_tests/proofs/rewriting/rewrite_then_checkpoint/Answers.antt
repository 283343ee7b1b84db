use Rattle.std.proofs.Common.{List, None, sym, subst}
use Rattle.block_tag.specs.declared.tag.Fork.TheVariants.{Main}
use Rattle.write_back_tests.specs.declared.devices.PageLane.{PageLane}
use Rattle.write_back_tests.specs.declared.devices.ByteLog.{ByteLog}
use Rattle.backend_pass.specs.Managers.{AreAll}
use Rattle.backend_pass.specs.Passes.{PassState}
use Rattle.page_jobs.proofs.Backends.{new_are_free}
use Rattle.write_back_tests.proofs.Returning.{last_may, all_after}
use Rattle.write_back_tests.proofs.rewriting.rewrite_then_checkpoint.Goals as goal

pub rewrite-passes-requires-clause-free : goal.rewrite-passes-requires-clause-free
rewrite-passes-requires-clause-free g c κs b = new_are_free {L = PageLane} {G = ByteLog} (λ x. None) c.in-Ok-start.manager Main _ c.in-Ok-start.passes.items c.in-Ok-start.ensures.passes

pub checkpoint-checkpoint-requires-clause-belongs : goal.checkpoint-checkpoint-requires-clause-belongs
checkpoint-checkpoint-requires-clause-belongs g c = (last_may {L = PageLane} {G = ByteLog} (λ x. None) c.in-Ok-start.manager c.in-Ok-start.passes.items c.rewrite-passes.result.passes.items _ _ c.in-Ok-start.ensures.passes c.rewrite-passes.ensures.last c.take_last-last.ensures.items).0

pub checkpoint-checkpoint-requires-clause-unlocked : goal.checkpoint-checkpoint-requires-clause-unlocked
checkpoint-checkpoint-requires-clause-unlocked g c = (last_may {L = PageLane} {G = ByteLog} (λ x. None) c.in-Ok-start.manager c.in-Ok-start.passes.items c.rewrite-passes.result.passes.items _ _ c.in-Ok-start.ensures.passes c.rewrite-passes.ensures.last c.take_last-last.ensures.items).1

pub close-lanes-requires : goal.close-lanes-requires
close-lanes-requires g c =
    let m = c.in-Ok-start.manager in
    let ps = c.in-Ok-start.passes.items in
    let qs = c.rewrite-passes.result.passes.items in
    let r = c.rewrite-passes.ensures in
    let k = c.checkpoint-checkpoint.ensures in
    subst (AreAll {L = PageLane} {G = ByteLog} m) (sym {A = List PassState} c.push_reserved.ensures.items)
    (all_after {L = PageLane} {G = ByteLog} (λ x. None) m Main 0 ps qs _ _ c.checkpoint-checkpoint.new.pass c.in-Ok-start.ensures.passes r.passes r.last c.take_last-last.ensures.items k.belongs k.callers)
