use Rattle.std.proofs.Common.{rules, List, map, ap, ◌∙◌, subst, sym}
use Rattle.std.proofs.lemmas.Fn.{filter_same}
use Rattle.table_rule.specs.declared.value.Mapped.{Mapped}
use Rattle.pin_core.specs.Turns.{found}
use Rattle.table_rule.specs.Shows.{AreApart, entry_of}
use Rattle.map_partitions.proofs.FiniteMaps.{is_not_of, apart_filter, found_without}
use Rattle.map_partitions.proofs.entries.forget.Goals as goal

pub returns-clause-apart : goal.returns-clause-apart
returns-clause-apart c = subst AreApart (sym (filter_same _ (is_not_of c.args.tag) _ (λ x b f' k. search rules) _ _ c.retain.ensures.filtered)) (apart_filter _ _ c.requires.apart)

pub returns-clause-found : goal.returns-clause-found
returns-clause-found c = ap (λ (l : List Mapped). found (map entry_of l)) (filter_same _ (is_not_of c.args.tag) _ (λ x b f' k. search rules) _ _ c.retain.ensures.filtered) ∙ found_without _ _
