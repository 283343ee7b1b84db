use Rattle.std.proofs.Common.{ap, ◌∙◌, sym, arith}
use Rattle.state_word.specs.Fields.{fields, usage_limit}
use Rattle.state_word.proofs.Counts.{pin_raises, pin_stays}
use Rattle.state_word.proofs.pinned.Goals.{then-ring, else-ring}
use Rattle.state_word.proofs.pinned.Goals as goal

pub returns-then-usage-limit : goal.returns-then-usage-limit
unfolding fields
returns-then-usage-limit c = elim c.if-ring.branch [
  | then-ring w ↦ pin_raises c.args.word c.if-ring.limit c.args.ring (w.limit-is ∙ sym (ap usage_limit w.if-ring.true)) c.requires (omega arith) (omega arith)
  | else-ring w ↦ pin_raises c.args.word c.if-ring.limit c.args.ring (w.limit-is ∙ sym (ap usage_limit w.if-ring.false)) c.requires (omega arith) (omega arith)
]

pub returns-else-usage-limit : goal.returns-else-usage-limit
unfolding fields
returns-else-usage-limit c = elim c.if-ring.branch [
  | then-ring w ↦ pin_stays c.args.word c.if-ring.limit c.args.ring (w.limit-is ∙ sym (ap usage_limit w.if-ring.true)) c.requires (omega arith)
  | else-ring w ↦ pin_stays c.args.word c.if-ring.limit c.args.ring (w.limit-is ∙ sym (ap usage_limit w.if-ring.false)) c.requires (omega arith)
]
