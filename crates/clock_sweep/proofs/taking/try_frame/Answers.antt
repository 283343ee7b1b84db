use Rattle.std.proofs.Common.{arith}
use Rattle.clock_sweep.specs.Choosing.{unfit}
use Rattle.clock_sweep.proofs.Keeping.{holds, locks_of}
use Rattle.clock_sweep.proofs.taking.try_frame.Goals as goal

pub unlock_header-requires-clause-held : goal.unlock_header-requires-clause-held
unlock_header-requires-clause-held g c = holds _ _ _ _ (locks_of _ _ _ _ c.lock_header-word.ensures.did) c.requires.headless

pub returns-clause-skips : goal.returns-clause-skips
returns-clause-skips g c = unfit (let e = c.frames.ensures in omega arith) record {
  under = c.lock_header-word.new.seat.me.0;
  word = c.lock_header-word.result;
  found = c.unlock_header.ensures.did.0;
  locks = locks_of _ _ _ _ c.lock_header-word.ensures.did;
  unfit = c.if-is_fit.ensures.unfit;
  unlocks = c.unlock_header.ensures.did.1;
}
