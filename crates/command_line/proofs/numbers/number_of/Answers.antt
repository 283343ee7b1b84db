use Rattle.std.proofs.Common.{arith}
use Rattle.command_line.specs.Numbers.{range_of}
use Rattle.command_line.proofs.Ranges.{number_of-refused, number_of-taken}
use Rattle.command_line.proofs.numbers.number_of.Goals as goal

pub returns-in-Err-clause-value : goal.returns-in-Err-clause-value
returns-in-Err-clause-value c =
    number_of-refused (range_of c.args.arg) c.args.text.now (λ numeral small low high. c.in-Err.ensures.value.0 (numeral, omega arith))

pub returns-then-number-arg-clause-value : goal.returns-then-number-arg-clause-value
returns-then-number-arg-clause-value c =
    number_of-refused (range_of c.args.arg) c.args.text.now (λ numeral small low high. omega (arith, c.in-Ok.ensures.value.0.1))

pub returns-then-arg-number-clause-value : goal.returns-then-arg-number-clause-value
returns-then-arg-number-clause-value c =
    number_of-refused (range_of c.args.arg) c.args.text.now (λ numeral small low high. omega (arith, c.in-Ok.ensures.value.0.1))

pub returns-clause-value : goal.returns-clause-value
returns-clause-value c =
    number_of-taken (range_of c.args.arg) c.args.text.now c.in-Ok.number c.in-Ok.ensures.value.0.0.0 c.in-Ok.ensures.value.0.1
    (omega arith) (omega arith) (omega arith)
