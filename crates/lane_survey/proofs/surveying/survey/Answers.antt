use Rattle.std.proofs.Common.{◌≡◌, ℕ, ◌+◌, ◌<◌, length, map, take, subst, sym, arith}
use Rattle.std.specs.Prelude.{sum_by}
use Rattle.std.proofs.lemmas.List.Sums.{sum_by-take-le}
use Rattle.block_tag.specs.Catalogue.{blocks_at}
use Rattle.lane_survey.specs.Survey.{AreOfRelation, AreOfRelations, IsListed, Surveys, relation_blocks, sum_of_forks}
use Rattle.lane_survey.proofs.Surveys.{all_relations, earlier_relation, largest_of_same, next_relation, next_relation_count, survey_of_both, this_relation}
use Rattle.lane_survey.proofs.surveying.survey.Goals as goal

pub loop-rel-preserved : goal.loop-rel-preserved
loop-rel-preserved g c =
    let catalog = c.args.catalog.now in
    let rel = c.loop-rel.rel in
    let below : rel < length catalog = omega arith in
    subst (λ (n : ℕ). Surveys {L = g.row.L.Denot} g.L.BlockLane.contents g.L.BlockLane.failed_writes g.L.BlockLane.unsynced g.L.BlockLane.read_faults g.L.BlockLane.write_faults g.L.BlockLane.calls (AreOfRelations catalog (rel + 1)) (sum_by relation_blocks (take (rel + 1) catalog)) c.args.lanes.now c.survey_relation.new.lanes n) (sym c.max-largest.ensures)
    (survey_of_both {L = g.row.L.Denot} g.L.BlockLane.contents g.L.BlockLane.failed_writes g.L.BlockLane.unsynced g.L.BlockLane.read_faults g.L.BlockLane.write_faults g.L.BlockLane.calls (AreOfRelations catalog rel) (AreOfRelation catalog rel) (AreOfRelations catalog (rel + 1)) (this_relation catalog rel below)
    c.args.lanes.now c.loop-rel.lanes c.survey_relation.new.lanes (sum_by relation_blocks (take rel catalog)) (sum_of_forks (blocks_at catalog rel)) c.loop-rel.largest c.loop-rel.invariant
    (next_relation catalog rel below) (earlier_relation catalog rel below) (sum_by relation_blocks (take (rel + 1) catalog)) (next_relation_count catalog rel below) c.in-Ok.lsn c.in-Ok.ensures.done)

pub returns-in-Err-clause-at_most : goal.returns-in-Err-clause-at_most
returns-in-Err-clause-at_most g c =
    let catalog = c.args.catalog.now in
    let rel = c.loop-rel.rel in
    let below : rel < length catalog = omega arith in
    let next = next_relation_count catalog rel below in
    let most = sum_by-take-le relation_blocks catalog (rel + 1) in
    let read = c.loop-rel.invariant.read in
    let more = c.in-Err.ensures.fault.within in
    omega (arith, next, most, read, more)

pub returns-clause-largest : goal.returns-clause-largest
returns-clause-largest g c =
    let catalog = c.args.catalog.now in
    let all : c.loop-rel.rel ≡ length catalog = omega arith in
    largest_of_same (map g.L.BlockLane.contents c.args.lanes.now) (AreOfRelations catalog c.loop-rel.rel) (AreOfRelations catalog c.loop-rel.rel) (IsListed catalog)
    (λ tag of. of.1) (λ tag h. let of = all_relations catalog tag h in (omega (arith, of.0, all), of.1)) c.loop-rel.largest c.loop-rel.invariant.position
