use Rattle.std.proofs.Common.{◌≡◌, false, refl, sym, ◌∙◌, rules, arith}
use Rattle.pin_core.specs.declared.view.Content.TheVariants.{Exclusive}
use Rattle.pin_core.specs.State.{link}
use Rattle.page_core.specs.Kinds.{mark_dirty}
use Rattle.frame_table.specs.Kinds.{pages}
use Rattle.frame_table.specs.FrameSteps.{still, again}
use Rattle.frame_table.proofs.HeldWords.{marks_there}
use Rattle.frame_table.proofs.Told.{tried}
use Rattle.frame_table.proofs.table.FrameTable.try_mark_dirty.Goals as goal

pub returns-then-has-clause-did : goal.returns-then-has-clause-did
returns-then-has-clause-did g c = again _ still c.look-was.ensures.did

pub compare_exchange-requires : goal.compare_exchange-requires
compare_exchange-requires g c = let live : c.look-was.new.seat.me.0.emptied ≡ false = search rules in let right : (link c.look-was.new.seat.me.0 c.args.frame).content ≡ Exclusive = search rules in (
  search rules,
  (let e = c.state_place.ensures in omega arith),
  rw c.state_place.ensures (marks_there _ c.args.self.now.table.shared.key _ _ _ _ _ _ c.requires.seat.inside live right (sym c.has.ensures ∙ c.if-has.false) c.dirtied.ensures),
)

pub returns-clause-did : goal.returns-clause-did
returns-clause-did g c = tried (pages mark_dirty) refl _ _ _ _ _ _ c.look-was.ensures.did (c.compare_exchange.ensures.2.1 c.args.frame c.state_place.ensures)
