use Rattle.std.proofs.Common.{◌≡◌, List, length, map, refl, sym, subst, arith}
use Rattle.std.specs.Prelude.{sum_by}
use Rattle.segment_store.specs.Lanes.{HasBlocks}
use Rattle.relation_commands.proofs.Sampled.{are_surveyed, based, changed_within, has_blocks, have_surveyed, no_reads, no_write_failed, rewritten, unwritten}
use Rattle.relation_commands.proofs.sampling.rewrite_sample.Goals as goal

pub survey_base-requires-clause-has : goal.survey_base-requires-clause-has
survey_base-requires-clause-has g c =
    subst (λ (ls : List g.row.L.Denot). HasBlocks c.args.relation.fork c.args.relation.blocks (map g.L.BlockLane.contents ls)) (sym c.deref_mut.ensures.value)
    (has_blocks g.L.BlockLane.contents c.args.relation c.args.lanes.items c.requires.all.pages c.requires.all.have)

pub survey_base-requires-clause-reads : goal.survey_base-requires-clause-reads
survey_base-requires-clause-reads g c =
    subst (λ (ls : List g.row.L.Denot). sum_by g.L.BlockLane.read_faults ls ≡ 0) (sym c.deref_mut.ensures.value)
    (no_reads g.L.BlockLane.contents g.L.BlockLane.failed_writes g.L.BlockLane.read_faults c.requires.told c.args.lanes.items)

pub rewrite_lanes-lanes-requires-clause-writes : goal.rewrite_lanes-lanes-requires-clause-writes
rewrite_lanes-lanes-requires-clause-writes g c κs within =
    let counted : length c.survey_base.new.lanes ≡ c.args.lanes.len = omega arith in
    unwritten g.L.BlockLane.contents g.L.BlockLane.failed_writes g.L.BlockLane.unsynced g.L.BlockLane.read_faults g.L.BlockLane.write_faults c.requires.told c.args.relation c.in-Ok.base
    c.args.lanes.len c.args.lanes.items _ c.survey_base.new.lanes c.deref_mut.ensures.value c.in-Ok.ensures.same counted c.in-Ok.ensures.base c.requires.writes

pub rewrite_lanes-lanes-requires-clause-has : goal.rewrite_lanes-lanes-requires-clause-has
rewrite_lanes-lanes-requires-clause-has g c κs within =
    let counted : length c.survey_base.new.lanes ≡ c.args.lanes.len = omega arith in
    let all = c.requires.all in
    has_blocks g.L.BlockLane.contents c.args.relation _ all.pages
    (have_surveyed g.L.BlockLane.contents g.L.BlockLane.failed_writes g.L.BlockLane.unsynced g.L.BlockLane.read_faults g.L.BlockLane.write_faults c.requires.told c.args.relation c.in-Ok.base
    c.args.lanes.len c.args.lanes.items _ c.survey_base.new.lanes c.deref_mut.ensures.value c.in-Ok.ensures.same counted c.in-Ok.ensures.base all.pages all.have)

pub overflow_mul-end : goal.overflow_mul-end
overflow_mul-end g c =
    let counted : length c.survey_base.new.lanes ≡ c.args.lanes.len = omega arith in
    let all = c.requires.all in
    let are = are_surveyed g.L.BlockLane.contents g.L.BlockLane.failed_writes g.L.BlockLane.unsynced g.L.BlockLane.read_faults g.L.BlockLane.write_faults c.requires.told c.args.relation c.in-Ok.base
    c.args.lanes.len c.args.lanes.items _ c.survey_base.new.lanes c.deref_mut.ensures.value c.in-Ok.ensures.same counted c.in-Ok.ensures.base all.pages all.have in
    let few = changed_within g.L.BlockLane.contents c.args.relation c.in-Ok.base _ c.rewrite_lanes-lanes.result.end c.in-Ok-end.totals c.in-Ok-end.is c.rewrite_lanes-lanes.ensures.leaves.totals all.pages are in
    let room = c.in-Ok.ensures.within in
    omega (arith, few, room)

pub overflow_add-end : goal.overflow_add-end
overflow_add-end g c =
    let counted : length c.survey_base.new.lanes ≡ c.args.lanes.len = omega arith in
    let all = c.requires.all in
    let are = are_surveyed g.L.BlockLane.contents g.L.BlockLane.failed_writes g.L.BlockLane.unsynced g.L.BlockLane.read_faults g.L.BlockLane.write_faults c.requires.told c.args.relation c.in-Ok.base
    c.args.lanes.len c.args.lanes.items _ c.survey_base.new.lanes c.deref_mut.ensures.value c.in-Ok.ensures.same counted c.in-Ok.ensures.base all.pages all.have in
    let few = changed_within g.L.BlockLane.contents c.args.relation c.in-Ok.base _ c.rewrite_lanes-lanes.result.end c.in-Ok-end.totals c.in-Ok-end.is c.rewrite_lanes-lanes.ensures.leaves.totals all.pages are in
    let room = c.in-Ok.ensures.within in
    omega (arith, few, room)

pub returns-in-Ok-end-clause-end : goal.returns-in-Ok-end-clause-end
returns-in-Ok-end-clause-end g c =
    let counted : length c.survey_base.new.lanes ≡ c.args.lanes.len = omega arith in
    let all = c.requires.all in
    let are = are_surveyed g.L.BlockLane.contents g.L.BlockLane.failed_writes g.L.BlockLane.unsynced g.L.BlockLane.read_faults g.L.BlockLane.write_faults c.requires.told c.args.relation c.in-Ok.base
    c.args.lanes.len c.args.lanes.items _ c.survey_base.new.lanes c.deref_mut.ensures.value c.in-Ok.ensures.same counted c.in-Ok.ensures.base all.pages all.have in
    let few = changed_within g.L.BlockLane.contents c.args.relation c.in-Ok.base _ c.rewrite_lanes-lanes.result.end c.in-Ok-end.totals c.in-Ok-end.is c.rewrite_lanes-lanes.ensures.leaves.totals all.pages are in
    let room = c.in-Ok.ensures.within in
    (omega (arith, few, room), omega (arith, few, room))

pub returns-in-Ok-end-clause-rewrites : goal.returns-in-Ok-end-clause-rewrites
returns-in-Ok-end-clause-rewrites g c pages have =
    let counted : length c.survey_base.new.lanes ≡ c.args.lanes.len = omega arith in
    let log = c.rewrite_lanes-lanes.result.log in
    rewritten g.L.BlockLane.contents g.L.BlockLane.failed_writes _ _ _ _ c.args.relation c.in-Ok.base _ c.all_positions.ensures.totals
    _ log log.sink.bytes refl c.rewrite_lanes-lanes.result.end c.in-Ok-end.is c.rewrite_lanes-lanes.ensures.leaves refl pages
    (are_surveyed g.L.BlockLane.contents g.L.BlockLane.failed_writes g.L.BlockLane.unsynced g.L.BlockLane.read_faults g.L.BlockLane.write_faults c.requires.told c.args.relation c.in-Ok.base
    c.args.lanes.len c.args.lanes.items _ c.survey_base.new.lanes c.deref_mut.ensures.value c.in-Ok.ensures.same counted c.in-Ok.ensures.base pages have)
    (based g.L.BlockLane.contents g.L.BlockLane.failed_writes g.L.BlockLane.unsynced g.L.BlockLane.read_faults g.L.BlockLane.write_faults c.requires.told c.args.relation c.in-Ok.base
    c.args.lanes.len c.args.lanes.items _ c.survey_base.new.lanes c.deref_mut.ensures.value c.in-Ok.ensures.same counted c.in-Ok.ensures.base pages have)

pub returns-in-Ok-end-clause-writes : goal.returns-in-Ok-end-clause-writes
returns-in-Ok-end-clause-writes g c = no_write_failed _ _ _ _ c.rewrite_lanes-lanes.result.end c.in-Ok-end.totals c.in-Ok-end.is c.rewrite_lanes-lanes.ensures.cause
