-- What a pass answers that takes a cleanup lock.
use Rattle.std.specs.Prelude.{Result, Ok, Err}
use Rattle.backend_pass.specs.declared.errors.Refused.{Refused}

-- the answer without the token that a refusal gives back
abbrev pub why_of : {A E : Type 0} → Result A (Refused E) → Result A E
why_of (Ok x) = Ok x
why_of (Err refused) = Err refused.why
