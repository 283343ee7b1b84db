-- What words that clap takes ask for, and those that it refuses.
use Rattle.std.proofs.Common.{◌≡◌, ◌≢◌, ◌∙◌, List, [], ◌∷◌, Option, None, false, inl, inr, sym, ap, cond, arith}
use Rattle.std.specs.Prelude.{option_and_then}
use Rattle.std.proofs.lemmas.Bool.Decides.{nat_tests}
use Rattle.clap.specs.Words.{HasKind, Kinds, Row, Text, fault_of, kind_of, subcommand_of}
use Rattle.clap.specs.Walk.{is_empty}
use Rattle.clap.specs.declared.error.Error.{Error}
use Rattle.clap.specs.declared.error.kind.ErrorKind.TheVariants.{OutOfMemory}
use Rattle.command_line.specs.Grammar.{tool_app}
use Rattle.command_line.specs.Request.{Asked}
use Rattle.command_line.specs.Spelled.{request_of_subcommand, request_of}

abbrev choice_of : Kinds → Option (Text × List Row) → Option Asked
choice_of kinds found = cond (is_empty kinds) (option_and_then request_of_subcommand found) None

pub request_of-taken : (words : List Text) (found : Option (Text × List Row)) → fault_of tool_app words ≡ [] → found ≡ subcommand_of tool_app words
    → option_and_then request_of_subcommand found ≡ request_of words
unfolding request_of
request_of-taken words found none is = ap (choice_of []) is ∙ ap (λ (k : Kinds). choice_of k (subcommand_of tool_app words)) (sym none)

not_empty : (kinds : Kinds) (e : Error) → HasKind kinds e → kind_of e ≢ OutOfMemory → is_empty kinds ≡ false
not_empty [] e (inl memory) other = absurd (other memory)
not_empty [] e (inr among) other = absurd among
not_empty (k ∷ kinds) e has other = grind (arith, nat_tests)

pub request_of-refused : (words : List Text) (e : Error) → HasKind (fault_of tool_app words) e → kind_of e ≢ OutOfMemory → None ≡ request_of words
unfolding request_of
request_of-refused words e has other =
    sym (ap (λ b. cond b (option_and_then request_of_subcommand (subcommand_of tool_app words)) None) (not_empty (fault_of tool_app words) e has other))
