use Rattle.std.proofs.Common.{refl, sym}
use Rattle.std.proofs.lemmas.List.FromFn.{length-map-range_with_len}
use Rattle.sample_relation.specs.Relations.{sample_relation}
use Rattle.sample_relation.specs.Samples.{sample_page}
use Rattle.relation_commands.proofs.Sampled.{none_summed, of_pages}
use Rattle.relation_commands.proofs.sampling.total_sample.Goals as goal

pub sample_over-requires-clause-told : goal.sample_over-requires-clause-told
sample_over-requires-clause-told g c κs within = record { known = λ lane. refl; unmarked = λ lane. refl; reads = λ lane. refl }

pub sample_over-requires-clause-writes : goal.sample_over-requires-clause-writes
sample_over-requires-clause-writes g c κs within = none_summed _ c.in_ok-lanes.lanes.items c.in_ok-lanes.ensures.faults

pub sample_over-requires-clause-all : goal.sample_over-requires-clause-all
sample_over-requires-clause-all g c κs within =
    let request = c.args.request.now in
    record {
      pages = sample_relation request.seed request.blocks;
      have = record { held = c.in_ok-lanes.ensures.held; counted = sym (length-map-range_with_len (sample_page request.seed) 0 request.blocks) };
    }

pub returns : goal.returns
returns g c =
    let request = c.args.request.now in
    of_pages _ _ _ (sample_relation request.seed request.blocks) c.sample_over.result c.sample_over.ensures.totals
    (record { held = c.in_ok-lanes.ensures.held; counted = sym (length-map-range_with_len (sample_page request.seed) 0 request.blocks) })
