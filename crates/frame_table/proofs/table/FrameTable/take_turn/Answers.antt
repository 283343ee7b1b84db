use Rattle.std.proofs.Common.{true, subst}
use Rattle.pin_core.specs.declared.view.View.{View}
use Rattle.frame_table.specs.Latches.{DidTurn}
use Rattle.frame_table.proofs.Taking.{turn_after}
use Rattle.frame_table.proofs.table.FrameTable.take_turn.Goals as goal

pub returns-then-try_take-clause-turned : goal.returns-then-try_take-clause-turned
returns-then-try_take-clause-turned g c = turn_after true _ _ _ (subst (λ (v : View). DidTurn true c.args.turn v c.try_take.new.seat.me.0) c.loop.invariant.same (c.try_take.ensures.took c.if-try_take.true))
