use Rattle.std.proofs.Common.{◌≡◌}
use Rattle.page_jobs.proofs.listing.deliver_text.Given as goal

abbrev pub invariant-loop : goal.invariant-loop
invariant-loop g l = record {
  can : (goal.iterator-loop g).can_next l.iterator';
  finite : (goal.iterator-loop g).is_finite l.iterator';
  text : l.text ≡ l.fn.text;
  shares : l.shares ≡ l.fn.shares;
}
