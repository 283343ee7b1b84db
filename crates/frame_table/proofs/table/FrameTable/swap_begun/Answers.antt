use Rattle.std.proofs.Common.{rules, arith, sym, ap, ◌∙◌}
use Rattle.frame_table.specs.Content.{start_of}
use Rattle.frame_table.specs.Kinds.{FrameWord, pages}
use Rattle.frame_table.specs.FrameSteps.{always, part_place}
use Rattle.frame_table.proofs.Told.{of_choice}
use Rattle.frame_table.proofs.HeldWords.{begins_there, as_held, start_part}
use Rattle.frame_table.proofs.table.FrameTable.swap_begun.Goals as goal

pub swap-requires : goal.swap-requires
swap-requires g c = (
  search rules,
  (let e = c.state_place.ensures in omega arith),
  rw (c.state_place.ensures, c.requires.kind) (begins_there _ c.args.self.now.table.shared.key c.args._input _ _ _ _ _ _ c.requires.seat.inside c.requires.seat.live c.requires.view c.requires.quiet c.requires.new),
)

pub returns-clause-did : goal.returns-clause-did
returns-clause-did g c = let part = start_part c.args._input in
    as_held (pages (start_of c.args._input)) part _ _ _ _ _ c.requires.view.held (of_choice _ (always (pages (start_of c.args._input))) c.requires.kind _ _ _ _ _ _ c.swap.ensures.2.1 (c.state_place.ensures ∙ sym (ap (λ (p : FrameWord). part_place p c.args.frame) part)))
