use Rattle.state_word.proofs.Words.{same_word}
use Rattle.state_word.proofs.fields_fix_the_word.Goals as goal

pub returns : goal.returns
returns c = same_word
