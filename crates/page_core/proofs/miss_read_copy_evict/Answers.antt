use Rattle.page_core.proofs.Sample.{sample}
use Rattle.page_core.proofs.miss_read_copy_evict.Goals as goal

pub returns : goal.returns
returns c = sample
