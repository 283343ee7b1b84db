use Rattle.std.proofs.Common.{◌≡◌, ◌≤◌, ◌-◌, ap, sym, ◌∙◌, length, drop, length-drop, length-append, arith}
use Rattle.std.specs.Fmt.{decimal}
use Rattle.std.proofs.lemmas.Fmt.{length-decimal-le}
use Rattle.page_layout.proofs.line.Line.put_number.Goals as goal

pub write_digits-self-inside-requires : goal.write_digits-self-inside-requires
write_digits-self-inside-requires c =
    let short : length (decimal c.args.n) ≤ 20 = length-decimal-le 20 c.args.n (omega arith) (omega arith) (omega arith) in
    let now : 512 - c.self.inside.start ≡ length c.args.self.now = ap (λ n. n - c.self.inside.start) (sym c.self.told) ∙ sym (length-drop c.self.inside.start c.self.inside.bytes) ∙ ap length c.self.view_is in
    (omega (arith, short, now, c.requires, c.self.invariant), omega (arith, c.self.told, c.self.invariant))

pub returns-clause-length : goal.returns-clause-length
returns-clause-length c =
    let short : length (decimal c.args.n) ≤ 20 = length-decimal-le 20 c.args.n (omega arith) (omega arith) (omega arith) in
    let now = ap length c.self.view_is in
    let all = ap length c.write_digits-self-inside.ensures.written ∙ length-append (decimal c.args.n) (drop c.self.inside.start c.self.inside.bytes) in
    omega (arith, short, now, all)
