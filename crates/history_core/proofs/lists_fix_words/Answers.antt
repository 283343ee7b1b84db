use Rattle.history_core.proofs.Trail.{words_same}
use Rattle.history_core.proofs.lists_fix_words.Goals as goal

pub returns : goal.returns
returns c = λ s t a b same. words_same s t a b same
