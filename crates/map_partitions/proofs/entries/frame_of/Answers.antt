use Rattle.std.proofs.Common.{rules, ap, sym, ◌∙◌}
use Rattle.std.specs.Option.{option_map}
use Rattle.std.proofs.lemmas.Iterator.{YieldsList-from_slice}
use Rattle.std.proofs.lemmas.Iterator.Search.{find_from_yields_List}
use borrow.Author.Tests.{tests}
use Rattle.table_rule.specs.declared.value.Mapped.{Mapped}
use Rattle.map_partitions.proofs.FiniteMaps.{is_of, found_first}
use Rattle.map_partitions.proofs.entries.frame_of.Goals as goal

pub returns-in_err-entry : goal.returns-in_err-entry
returns-in_err-entry c = let first = find_from_yields_List (is_of c.args.tag) _ _ c.find.result c.find.ensures.ran (YieldsList-from_slice c.args.entries.now cc) (λ x b q k. search (rules, tests)) in
    c.from_residual.ensures ∙ ap (option_map (λ (a : Mapped). a.frame)) (sym (ap (option_map (λ x. x.now)) c.in_err-entry.was) ∙ first) ∙ found_first c.args.entries.now c.args.tag

pub returns : goal.returns
returns c = let first = find_from_yields_List (is_of c.args.tag) _ _ c.find.result c.find.ensures.ran (YieldsList-from_slice c.args.entries.now cc) (λ x b q k. search (rules, tests)) in
    ap (option_map (λ (a : Mapped). a.frame)) (sym (ap (option_map (λ x. x.now)) c.in_ok-entry.was) ∙ first) ∙ found_first c.args.entries.now c.args.tag
