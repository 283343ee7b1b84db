use Rattle.std.proofs.Common.{◌≡◌, None, take}
use Rattle.buffer_frames.specs.Tokens.{held_at, held_in}
use Rattle.buffer_frames.proofs.pins.place_at.Given as goal

abbrev pub invariant-loop-place : goal.invariant-loop-place
invariant-loop-place l = held_at (held_in (take l.place l.pins)) l.frame ≡ None
