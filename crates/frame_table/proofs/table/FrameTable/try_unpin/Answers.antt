use Rattle.std.proofs.Common.{◌≡◌, false, sym, ◌∙◌, rules, arith}
use Rattle.pin_core.specs.State.{link}
use Rattle.pin_core.specs.Kinds.{unpin}
use Rattle.frame_table.specs.Kinds.{pins}
use Rattle.frame_table.specs.Seats.{MayUnpin}
use Rattle.frame_table.specs.FrameSteps.{Did, chosen, if_found, still, again}
use Rattle.frame_table.proofs.Told.{on_hit, on_miss, some_pins}
use Rattle.frame_table.proofs.Words.{unpins_there}
use Rattle.frame_table.proofs.table.FrameTable.try_unpin.Goals as goal

pub returns-then-has-clause-did : goal.returns-then-has-clause-did
returns-then-has-clause-did g c = again _ still c.look-was.ensures.did

pub unpinned-left-requires : goal.unpinned-left-requires
unpinned-left-requires g c = some_pins _ _ _ _ c.look-was.ensures.did c.requires.pinned.pinned

pub compare_exchange-now-requires : goal.compare_exchange-now-requires
compare_exchange-now-requires g c = let live : c.look-was.new.seat.me.0.emptied ≡ false = search rules in let a : MayUnpin (link c.look-was.new.seat.me.0 c.args.frame) = search rules in (
  search rules,
  (let e = c.state_place.ensures in omega arith),
  rw c.state_place.ensures (unpins_there _ c.args.self.now.table.shared.key _ _ _ _ _ _ c.requires.seat.inside live a.pinned a.no_content a.no_io a.no_wait (sym c.has.ensures ∙ c.if-has.false) c.unpinned-left.ensures),
)

pub returns-then-now-was-clause-did : goal.returns-then-now-was-clause-did
returns-then-now-was-clause-did g c = again _ (again _ still c.look-was.ensures.did) (on_miss (pins unpin) _ _ _ _ _ (c.compare_exchange-now.ensures.2.1 c.args.frame c.state_place.ensures) c.if-now-was.true)

pub returns-clause-did : goal.returns-clause-did
returns-clause-did g c = (c.look-was.new.seat.me.0, c.look-was.result, again _ still c.look-was.ensures.did, on_hit (pins unpin) _ _ _ _ _ (c.compare_exchange-now.ensures.2.1 c.args.frame c.state_place.ensures) c.if-now-was.false, c.unpinned-left.ensures)
