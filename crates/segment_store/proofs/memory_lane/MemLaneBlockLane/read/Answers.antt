use Rattle.std.proofs.Common.{◌≡◌, false, true, refl, ◌∙◌, ap, sym}
use Rattle.std.specs.Prelude.{is_some, not}
use Rattle.segment_store.proofs.memory_lane.MemLaneBlockLane.read.Goals as goal
use Rattle.segment_store.proofs.memory_lane.MemLaneBlockLane.read.Goals.{then-not-fails+in_default, else-not-fails}

pub returns-clause-answer : goal.returns-clause-answer
returns-clause-answer c =
    elim c.if-not-fails.branch [
      | then-not-fails+in_default w ↦ absurd (let bad : false ≡ true = ap is_some w.in_default.ensures ∙ c.requires _ refl in cc bad)
      | else-not-fails w ↦ ap not (sym w.if-not-fails.false ∙ c.fails-fails.ensures.answer)
    ]
