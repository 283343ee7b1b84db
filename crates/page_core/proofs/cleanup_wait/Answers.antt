use Rattle.page_core.proofs.Sample.{cleanup}
use Rattle.page_core.proofs.cleanup_wait.Goals as goal

pub returns : goal.returns
returns c = cleanup
