use Rattle.std.proofs.Common.{decimal, arith}
use Rattle.std.proofs.lemmas.Fmt.{IsAscii-decimal}
use Rattle.std.proofs.lemmas.Str.{IsUtf8-from_ascii}
use Rattle.block_lists.proofs.reading.number_in.Goals as goal

pub returns-in-Err-clause-none : goal.returns-in-Err-clause-none
returns-in-Err-clause-none c = λ number small same.
    c.in-Err.ensures.cases.0 (rw same (IsUtf8-from_ascii (decimal number) (IsAscii-decimal number (omega arith))))
