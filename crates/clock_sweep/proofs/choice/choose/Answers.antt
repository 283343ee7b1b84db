use Rattle.std.proofs.lemmas.Result.{IfErr-weaker}
use Rattle.frame_table.proofs.SameSeats.{same_seat_on}
use Rattle.clock_sweep.specs.Choosing.{by_clock, from_list}
use Rattle.clock_sweep.proofs.Keeping.{finds_none, headless_on, keeps_on, list_keeps, ok_to, ring_keeps, seat_on}
use Rattle.clock_sweep.proofs.choice.choose.Goals as goal

pub returns-in-Some-from_free_list-clause-did : goal.returns-in-Some-from_free_list-clause-did
returns-in-Some-from_free_list-clause-did g c = let l = c.in-Some-from_free_list.ensures in from_list l.frame.1 c.in_default.ensures.leaves l.takes.2 l.takes.3 l.takes.4

pub from_clock-requires-clause-seat : goal.from_clock-requires-clause-seat
from_clock-requires-clause-seat g c = let a = c.in_default.ensures in let b = c.in_default-from_free_list.ensures in let first = ring_keeps _ _ _ _ a.leaves c.requires.headless in
    seat_on _ _ _ c.requires.seat (same_seat_on _ _ _ a.seat b.seat) (keeps_on _ _ _ first (list_keeps _ _ _ _ _ b.leaves (headless_on _ _ first c.requires.headless)))

pub from_clock-requires-clause-headless : goal.from_clock-requires-clause-headless
from_clock-requires-clause-headless g c = let first = ring_keeps _ _ _ _ c.in_default.ensures.leaves c.requires.headless in let none = headless_on _ _ first c.requires.headless in
    headless_on _ _ (list_keeps _ _ _ _ _ c.in_default-from_free_list.ensures.leaves none) none

pub returns-clause-did : goal.returns-clause-did
returns-clause-did g c = let b = c.in_default-from_free_list.ensures in ok_to _ (λ held source comes. by_clock source c.in_default.ensures.leaves b.leaves b.empty comes.2 comes.3) c.from_clock.ensures.source c.from_clock.ensures.comes

pub returns-clause-cause : goal.returns-clause-cause
returns-clause-cause g c = let b = c.in_default-from_free_list.ensures in IfErr-weaker _ _ _ (λ why none. finds_none _ _ _ _ _ _ _ _ _ c.requires.headless c.in_default.ensures.leaves b.leaves b.empty none) c.from_clock.ensures.none

pub from_free_list-requires-clause-headless : goal.from_free_list-requires-clause-headless
from_free_list-requires-clause-headless g c = headless_on _ _ (ring_keeps _ _ _ _ c.in_default.ensures.leaves c.requires.headless) c.requires.headless
