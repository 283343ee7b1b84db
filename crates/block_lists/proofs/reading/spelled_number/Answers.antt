use Rattle.std.proofs.Common.{◌≡◌, ◌∙◌, sym, arith}
use Rattle.std.proofs.lemmas.Fmt.{parse-decimal}
use Rattle.std.specs.Cmp.Lexicographic.{other_text}
use Rattle.block_lists.proofs.reading.spelled_number.Goals as goal

pub returns-else-eq-clause-none : goal.returns-else-eq-clause-none
returns-else-eq-clause-none c = λ number small same.
    let read = parse-decimal 32 number c.args.text.now c.parse.result small (omega arith) same c.parse.ensures.value.0 in
    let text : c.format.result.now ≡ c.args.text.now = cc (read, same) in
    other_text _ _ (sym c.if-eq.false ∙ c.eq.ensures) text

pub returns-in-Err-clause-none : goal.returns-in-Err-clause-none
returns-in-Err-clause-none c = λ number small same.
    cc (parse-decimal 32 number c.args.text.now c.parse.result small (omega arith) same c.parse.ensures.value.0)
