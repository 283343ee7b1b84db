use Rattle.std.proofs.Common.{List, map, ap, ◌∙◌, subst, sym}
use Rattle.table_rule.specs.declared.value.Mapped.{Mapped}
use Rattle.pin_core.specs.Turns.{found}
use Rattle.table_rule.specs.Shows.{AreApart, entry_of}
use Rattle.map_partitions.proofs.FiniteMaps.{apart_with, found_with}
use Rattle.map_partitions.proofs.entries.add.Goals as goal

pub returns-clause-apart : goal.returns-clause-apart
returns-clause-apart c = subst AreApart (sym c.push_reserved.ensures.items) (apart_with _ _ c.requires.apart c.requires.lacking)

pub returns-clause-found : goal.returns-clause-found
returns-clause-found c = ap (λ (l : List Mapped). found (map entry_of l)) c.push_reserved.ensures.items ∙ found_with _ _ c.requires.lacking
