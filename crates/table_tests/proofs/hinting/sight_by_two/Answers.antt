use Rattle.std.proofs.Common.{arith}
use Rattle.table_tests.proofs.Seats.{closes_joined, fresh_split, rests_first, rests_kept}
use Rattle.table_tests.proofs.hinting.sight_by_two.Goals as goal

pub split-other-requires-clause-room : goal.split-other-requires-clause-room
split-other-requires-clause-room g c = let a = c.requires.alone in omega (arith, a.0, a.1)

pub sight_beside-sighted-requires-clause-fresh : goal.sight_beside-sighted-requires-clause-fresh
sight_beside-sighted-requires-clause-fresh g c = let s = c.split-other.ensures in fresh_split _ _ _ c.args.seat.now.me.0 s.fits s.new

pub sight_beside-sighted-requires-clause-rests : goal.sight_beside-sighted-requires-clause-rests
sight_beside-sighted-requires-clause-rests g c = let s = c.split-other.ensures in rests_kept _ _ _ (rests_first _ _ c.requires.closes) s.seat s.kept

pub returns : goal.returns
returns g c = let s = c.split-other.ensures in let r = c.sight_beside-sighted.ensures in let j = c.join.ensures in closes_joined _ _ _ _ c.sight_beside-sighted.new.seat.me.0 c.requires.closes c.requires.alone.0 s.seat s.kept _ r.keeps r.rests.1 j.seat j.joined
