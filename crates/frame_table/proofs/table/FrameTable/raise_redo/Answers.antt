use Rattle.std.proofs.Common.{ℕ, Option, ap, ◌∙◌, rules, arith}
use Rattle.std.specs.Prelude.{unwrap_or}
use Rattle.history_core.specs.Words.{raise_redo}
use Rattle.history_core.specs.Steps.{view_after_word}
use Rattle.frame_table.proofs.WordSteps.{raises_redo_there}
use Rattle.frame_table.proofs.table.FrameTable.raise_redo.Goals as goal

pub swap-requires : goal.swap-requires
swap-requires g c = (search rules, (let e = c.redo_place-at.ensures in let f = c.frames.ensures in omega arith), rw c.redo_place-at.ensures (rw c.frames.ensures (raises_redo_there _ c.args.self.now.table.shared.key _ _ _ c.requires.seat.live _ c.requires.end)))

pub returns-clause-view : goal.returns-clause-view
returns-clause-view g c = c.swap.ensures.2.1.after ∙ ap (λ (end : Option ℕ). view_after_word raise_redo 0 (unwrap_or end 0) c.args.seat.now.me.0) c.requires.end
