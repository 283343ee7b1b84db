use Rattle.std.proofs.Common.{take}
use Rattle.buffer_frames.specs.Tokens.{AreOfOthers}
use Rattle.buffer_frames.proofs.pins.place_of.Given as goal

abbrev pub invariant-loop-place : goal.invariant-loop-place
invariant-loop-place l = AreOfOthers l.tag (take l.place l.pins)
