use Rattle.history_core.proofs.Trail.{listed_made}
use Rattle.history_core.proofs.listed_changes_are_made.Goals as goal

pub returns : goal.returns
returns c = λ s t a b. listed_made s t a b
