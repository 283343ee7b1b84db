use Rattle.history_core.proofs.PinsStay.{pinned_stay}
use Rattle.history_core.proofs.pinned_tags_stay.Goals as goal

pub returns : goal.returns
returns c = λ s r. pinned_stay s r.invariant
