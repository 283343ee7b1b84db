use Rattle.std.proofs.Common.{arith}
use Rattle.page_layout.proofs.Sound.{sound_fits}
use Rattle.page_layout.proofs.page.Page.item.Goals as goal

pub pointer-requires : goal.pointer-requires
pointer-requires c = let fits = sound_fits c.args.self.now c.requires.sound in omega arith
