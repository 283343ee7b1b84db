use Rattle.std.proofs.Common.{◌≡◌, ◌*◌, take}
use Rattle.page_layout.specs.Dump.{hex_of}
use Rattle.page_layout.proofs.hex.write_hex.Given as goal

abbrev pub invariant-loop-i : goal.invariant-loop-i
invariant-loop-i l = take (2 * l.i) l.out ≡ hex_of (take l.i l.bytes)
