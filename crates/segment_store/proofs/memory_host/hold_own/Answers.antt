use Rattle.std.proofs.Common.{false, ap, ◌∙◌}
use Rattle.segment_store.specs.Contents.{Marks, with_mark}
use Rattle.segment_store.proofs.Dealing.{unmarked_stays}
use Rattle.segment_store.proofs.memory_host.hold_own.Goals as goal

pub returns-clause-failed : goal.returns-clause-failed
returns-clause-failed c = c.in_ok-hold.ensures.failed ∙ ap (λ (marks : Marks). with_mark c.args.tag false marks) c.requires.unmarked ∙ unmarked_stays c.args.tag
