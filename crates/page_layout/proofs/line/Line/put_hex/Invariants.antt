use Rattle.std.proofs.Common.{◌≡◌, ◌≤◌, ◌+◌, ◌-◌, length}
use Rattle.page_layout.proofs.Hexes.{hex_onto}
use Rattle.page_layout.proofs.line.Line.put_hex.Given as goal

abbrev pub invariant-loop-i : goal.invariant-loop-i
invariant-loop-i l = (length l.self ≤ l.i + length l.fn.self) × (hex_onto (64 - l.i) l.left l.self ≡ hex_onto 64 l.fn.n l.fn.self)
