use Rattle.table_tests.proofs.Seats.{holds_locked, rests_unlocked}
use Rattle.table_tests.proofs.hinting.sight_beside.Goals as goal

pub unlock_header-requires-clause-held : goal.unlock_header-requires-clause-held
unlock_header-requires-clause-held g c = let k = c.lock_header.ensures in holds_locked _ _ _ _ (c.requires.rests.free.frames c.args.locked).no_header k.locked k.did.0 k.did.1 k.did.2 k.did.3

pub returns-clause-rests : goal.returns-clause-rests
returns-clause-rests g c = let k = c.lock_header.ensures in let u = c.unlock_header.ensures in (c.sight_hint-sighted.ensures, rests_unlocked _ _ _ _ _ c.requires.rests k.seat k.touches k.locked _ u.seat u.touches u.unlocked)
