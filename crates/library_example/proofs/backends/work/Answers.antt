use Rattle.std.proofs.Common.{◌∙◌}
use Rattle.std.proofs.lemmas.Result.{on_ok_weaker}
use Rattle.backend_pass.proofs.Between.{returns_on}
use Rattle.library_example.proofs.backends.work.Goals as goal

pub returns-in_err-count_blocks-2-clause-back : goal.returns-in_err-count_blocks-2-clause-back
returns-in_err-count_blocks-2-clause-back g c = returns_on g.L.BlockLane.contents c.args.manager.now c.args.pass.now c.count_blocks.new.pass c.count_blocks-2.new.pass c.count_blocks.ensures.back c.count_blocks-2.ensures.back

pub returns-clause-back : goal.returns-clause-back
returns-clause-back g c =
    let ct = g.L.BlockLane.contents in
    let m = c.args.manager.now in
    let p = c.args.pass.now in
    let counted = returns_on ct m p c.count_blocks.new.pass c.count_blocks-2.new.pass c.count_blocks.ensures.back c.count_blocks-2.ensures.back in
    returns_on ct m p c.count_blocks-2.new.pass c.change_block.new.pass counted c.change_block.ensures.back

pub returns-clause-unentered : goal.returns-clause-unentered
returns-clause-unentered g c = on_ok_weaker c.change_block.result
    (λ d. d ∙ c.in_ok-count_blocks-2.ensures.unentered ∙ c.in_ok-count_blocks.ensures.unentered)
    c.change_block.ensures.unentered

pub returns-in_err-count_blocks-2-clause-takes_more : goal.returns-in_err-count_blocks-2-clause-takes_more
returns-in_err-count_blocks-2-clause-takes_more g c saw =
    c.count_blocks-2.ensures.takes_more saw ∙ c.in_ok-count_blocks.ensures.unentered

pub returns-clause-takes_more : goal.returns-clause-takes_more
returns-clause-takes_more g c saw = c.change_block.ensures.takes_more saw
    ∙ c.in_ok-count_blocks-2.ensures.unentered ∙ c.in_ok-count_blocks.ensures.unentered
