use Rattle.std.proofs.Common.{◌∙◌}
use Rattle.relation_commands.proofs.Sampled.{have_all, totals_are}
use Rattle.relation_commands.proofs.sampling.sample_over.Goals as goal

pub rewrite_sample-requires-clause-all : goal.rewrite_sample-requires-clause-all
rewrite_sample-requires-clause-all g c κs within =
    let all = c.requires.all in
    have_all _ _ _ all.pages (c.in_ok-scanned.ensures.pages all.pages all.have)

pub scan_lanes-requires-2-clause-all : goal.scan_lanes-requires-2-clause-all
scan_lanes-requires-2-clause-all g c κs within =
    let all = c.requires.all in
    let rewritten = c.in_ok-rewritten.ensures.rewrites all.pages (c.in_ok-scanned.ensures.pages all.pages all.have) in
    have_all _ _ _ rewritten.after rewritten.have

pub returns : goal.returns
returns g c = record {
  totals = λ pages have.
      let rewritten = c.in_ok-rewritten.ensures.rewrites pages (c.in_ok-scanned.ensures.pages pages have) in
      totals_are pages _ (c.in_ok-scanned.ensures.totals pages have) rewritten.totals rewritten.log (c.in_ok-rescanned.ensures.totals rewritten.after rewritten.have ∙ rewritten.alike);
}
