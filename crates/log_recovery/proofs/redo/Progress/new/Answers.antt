use Rattle.std.proofs.Common.{refl}
use Rattle.log_recovery.proofs.Counting.{upto_none}
use Rattle.log_recovery.proofs.redo.Progress.new.Goals as goal

pub returns : goal.returns
returns c = upto_none c.args.base _ c.requires refl refl refl c.new.ensures.empty
