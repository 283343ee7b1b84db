use Rattle.history_core.proofs.Sizes as sizes
use Rattle.history_core.proofs.blocks_there.Goals as goal

pub returns : goal.returns
returns c = λ opened n there. (λ es fits. sizes.cell_there opened es n fits there, λ log law fits place. sizes.there_upto opened log n law fits there place)
