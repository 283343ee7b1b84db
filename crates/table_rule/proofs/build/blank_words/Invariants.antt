use Rattle.table_rule.specs.Laid.{AreBlank}
use Rattle.table_rule.proofs.build.blank_words.Given as goal

abbrev pub invariant-loop : goal.invariant-loop
invariant-loop l = AreBlank l.words.items l.counter
