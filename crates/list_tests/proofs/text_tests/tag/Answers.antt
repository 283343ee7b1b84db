use Rattle.std.proofs.Common.{◌≡◌, true, arith}
use Rattle.std.proofs.lemmas.Grind.{common_steps}
use Rattle.block_tag.specs.Names.{names_block}
use Rattle.list_tests.proofs.text_tests.tag.Goals as goal

pub returns : goal.returns
returns c = λ catalogue below.
    let named : names_block (record { rel = record { 0 = c.args.rel }; fork = c.args.fork; block = c.args.block }) ≡ true = grind (arith, common_steps, c.requires) in
    record { block = named; relation = below }
