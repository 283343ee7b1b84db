use Rattle.std.proofs.Common.{◌∙◌}
use Rattle.backend_pass.proofs.Between.{returns_on}
use Rattle.library_example.proofs.backends.count_blocks.Goals as goal

pub returns-in_err-change_block-clause-back : goal.returns-in_err-change_block-clause-back
returns-in_err-change_block-clause-back g c = returns_on g.L.BlockLane.contents c.args.manager.now c.args.pass.now c.loop-number.pass c.change_block.new.pass (record { same = c.loop-number.invariant.same; idle = c.loop-number.invariant.idle }) c.change_block.ensures.back

pub returns-in_err-change_block-clause-takes_more : goal.returns-in_err-change_block-clause-takes_more
returns-in_err-change_block-clause-takes_more g c saw =
    c.change_block.ensures.takes_more saw ∙ c.loop-number.invariant.unentered

pub loop-number-preserved : goal.loop-number-preserved
loop-number-preserved g c =
    let after = returns_on g.L.BlockLane.contents c.args.manager.now c.args.pass.now c.loop-number.pass c.change_block.new.pass (record { same = c.loop-number.invariant.same; idle = c.loop-number.invariant.idle }) c.change_block.ensures.back in
    record {
      same = after.same;
      idle = after.idle;
      unentered = c.in_ok-change_block.ensures.unentered ∙ c.loop-number.invariant.unentered;
    }
