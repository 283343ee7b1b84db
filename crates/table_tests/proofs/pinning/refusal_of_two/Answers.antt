use Rattle.std.proofs.Common.{arith}
use Rattle.table_tests.proofs.Seats.{rests_first, rests_kept, rests_new, closes_joined}
use Rattle.table_tests.proofs.pinning.refusal_of_two.Goals as goal

pub split-other-requires-clause-room : goal.split-other-requires-clause-room
split-other-requires-clause-room g c = let a = c.requires.alone in omega (arith, a.0, a.1)

pub refusal_beside-refused-requires-clause-rests : goal.refusal_beside-refused-requires-clause-rests
refusal_beside-refused-requires-clause-rests g c = let s = c.split-other.ensures in (rests_kept _ _ _ (rests_first _ _ c.requires.closes) s.seat s.kept, rests_new _ _ _ c.args.seat.now.me.0 s.fits s.new)

pub returns : goal.returns
returns g c = let s = c.split-other.ensures in let r = c.refusal_beside-refused.ensures in let j = c.join.ensures in closes_joined _ _ _ _ c.refusal_beside-refused.new.other.me.0 c.requires.closes c.requires.alone.0 s.seat s.kept _ r.keeps.0 r.rests.0 j.seat j.joined
