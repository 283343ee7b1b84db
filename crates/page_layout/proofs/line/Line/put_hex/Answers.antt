use Rattle.std.proofs.Common.{◌≡◌, ◌<◌, ◌+◌, ◌-◌, ◌/◌, ◌∷◌, length, ap, sym, ◌∙◌, arith}
use Rattle.page_layout.proofs.Hexes.{hex_last, hex_more, hex_onto, hex_out, hex_start}
use Rattle.page_layout.proofs.line.Line.put_hex.Goals as goal

pub loop-i-preserved : goal.loop-i-preserved
loop-i-preserved c =
    let some : (c.loop-i.left / 16 ≡ 0 → ⊥) = c.if-left-eq0.false in
    let positive : 0 < 64 - c.loop-i.i = omega arith in
    let fewer : 64 - c.loop-i.i - 1 ≡ 64 - (c.loop-i.i + 1) = omega arith in (
      omega (arith, c.loop-i.invariant.0, c.put_digit.ensures.length),
      ap (hex_onto (64 - (c.loop-i.i + 1)) (c.loop-i.left / 16)) c.put_digit.ensures.line
          ∙ sym (ap (λ k. hex_onto k (c.loop-i.left / 16) (c.upper_digit.result ∷ c.loop-i.self)) fewer)
          ∙ sym (hex_more (64 - c.loop-i.i) c.loop-i.left _ c.loop-i.self positive some c.upper_digit.ensures)
          ∙ c.loop-i.invariant.1,
    )

pub returns-then-left-eq0-clause-line : goal.returns-then-left-eq0-clause-line
returns-then-left-eq0-clause-line c =
    let positive : 0 < 64 - c.loop-i.i = omega arith in
    c.put_digit.ensures.line
    ∙ sym (hex_last (64 - c.loop-i.i) c.loop-i.left _ c.loop-i.self positive c.if-left-eq0.true c.upper_digit.ensures)
    ∙ c.loop-i.invariant.1 ∙ hex_start c.args.n c.args.self.now

pub returns-clause-line : goal.returns-clause-line
returns-clause-line c =
    let none : 0 ≡ 64 - c.loop-i.i = omega arith in
    sym (hex_out c.loop-i.left c.loop-i.self) ∙ ap (λ k. hex_onto k c.loop-i.left c.loop-i.self) none ∙ c.loop-i.invariant.1 ∙ hex_start c.args.n c.args.self.now
