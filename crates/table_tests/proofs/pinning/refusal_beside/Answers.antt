use Rattle.table_tests.proofs.Seats.{holds_locked, rests_unlocked}
use Rattle.table_tests.proofs.pinning.refusal_beside.Goals as goal

pub unlock_header-requires-clause-held : goal.unlock_header-requires-clause-held
unlock_header-requires-clause-held g c = let k = c.lock_header.ensures in holds_locked _ _ _ _ (c.requires.rests.1.free.frames c.args.frame).no_header k.locked k.did.0 k.did.1 k.did.2 k.did.3

pub returns-clause-rests : goal.returns-clause-rests
returns-clause-rests g c = let k = c.lock_header.ensures in let u = c.unlock_header.ensures in (c.refusal-refused.ensures.rests, rests_unlocked _ _ _ _ _ c.requires.rests.1 k.seat k.touches k.locked _ u.seat u.touches u.unlocked)
