use Rattle.cleanup_lock.proofs.Cleaning.{kept_out}
use Rattle.cleanup_lock.proofs.others_are_kept_out.Goals as goal

pub returns : goal.returns
returns c s f laws inside = kept_out s f laws inside
