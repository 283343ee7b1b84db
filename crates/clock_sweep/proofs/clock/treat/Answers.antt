use Rattle.std.proofs.Common.{arith, refl}
use Rattle.clock_sweep.specs.Choosing.{lowers, leaves}
use Rattle.clock_sweep.proofs.Keeping.{holds, locks_of}
use Rattle.clock_sweep.proofs.clock.treat.Goals as goal

pub unlock_header-requires-clause-held : goal.unlock_header-requires-clause-held
unlock_header-requires-clause-held g c = holds _ _ _ _ (locks_of _ _ _ _ c.lock_header-word.ensures.did) c.requires.headless

pub returns-then-pins-ne0-clause-treats : goal.returns-then-pins-ne0-clause-treats
returns-then-pins-ne0-clause-treats g c = leaves (locks_of _ _ _ _ c.lock_header-word.ensures.did) (let e = c.pins.ensures in omega arith) c.unlock_header.ensures.did.1 refl

pub returns-then-usage-ne0-clause-treats : goal.returns-then-usage-ne0-clause-treats
returns-then-usage-ne0-clause-treats g c = lowers (locks_of _ _ _ _ c.lock_header-word.ensures.did) ((let e = c.pins.ensures in omega arith), (let e = c.usage.ensures in omega arith)) c.lower_usage.ensures.did c.frames.ensures
