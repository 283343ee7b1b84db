-- What the builders of clap make, as the grammar says it.
use Rattle.std.proofs.Common.{◌≡◌, ◌∙◌, List, IfOk, Result, true, false, ap, ap₂, refl, subst}
use Rattle.clap.specs.Words.{AddsArg, AddsSubcommand, App, FailsBy, HasMatchesOf, Rule, Text, app_of, fault_of, is_simple_and_free, is_simple, rule_of, subcommand_of, subcommand_rows_of, with_rule, with_subcommand}
use Rattle.clap.specs.declared.builder.arg.Arg.{Arg}
use Rattle.clap.specs.declared.builder.command.Command.{Command}
use Rattle.clap.specs.declared.builder.command.Command.TheViews.{out-Command as fields_of}
use Rattle.clap.specs.declared.error.Error.{Error}
use Rattle.clap.specs.declared.parser.matches.ArgMatches.{ArgMatches}
use Rattle.std.proofs.lemmas.Result.{IfOk-weaker}
use Rattle.std.specs.Cmp.Derive.{both_true}
use Rattle.clap.specs.Simple.{built}
use Rattle.clap.specs.Faults.{is_free_app}
use Rattle.command_line.specs.Grammar.{recover_app, tool_app, with_options}

-- an argument more is a rule more
pub arg_added : (old : Command) (arg : Arg) (new : Command) (app : App) (rule : Rule) → AddsArg old arg new → arg.global ≡ false
    → rule_of arg ≡ rule → app_of old ≡ app → app_of new ≡ with_rule app rule
arg_added old arg new app rule adds local is before = adds.shape local ∙ ap₂ with_rule before is

-- a rule more on what is known of the command before
pub rule_after : (old new : Command) (app : App) (rule : Rule) → app_of new ≡ with_rule (app_of old) rule → app_of old ≡ app
    → app_of new ≡ with_rule app rule
rule_after old new app rule is before = is ∙ ap (λ (a : App). with_rule a rule) before

-- a subcommand more is a shape more
pub subcommand_added : (old sub new : Command) (app inner : App) → AddsSubcommand old sub new → (fields_of sub).has_globals ≡ false
    → app_of sub ≡ inner → app_of old ≡ app → app_of new ≡ with_subcommand app inner.top
subcommand_added old sub new app inner adds local is before =
    adds.shape local ∙ ap₂ with_subcommand before (ap (λ (a : App). a.top) is)

-- the command line is simple, so what clap makes of words is exact
tool_is_simple : is_simple tool_app ≡ true
unfolding tool_app with_options recover_app
tool_is_simple = refl

-- no argument has a rule on another; the two are computed apart, each once
arguments_are_free : is_free_app (built tool_app) ≡ true
unfolding tool_app with_options recover_app
arguments_are_free = refl

tool_is_free : is_simple_and_free tool_app ≡ true
tool_is_free = both_true tool_is_simple arguments_are_free

pub fails_by_tool : {T : Type 0} (app : App) (words : List Text) (result : Result T Error) → app ≡ tool_app
    → (is_simple_and_free app ≡ true → FailsBy (fault_of app words) result) → FailsBy (fault_of tool_app words) result
fails_by_tool app words result is kinds =
    subst (λ (a : App). FailsBy (fault_of a words) result) is (kinds (ap is_simple_and_free is ∙ tool_is_free))

pub matches_tool : (app : App) (words : List Text) (result : Result ArgMatches Error) → app ≡ tool_app
    → IfOk result (HasMatchesOf app words) → IfOk result (λ m. subcommand_rows_of m ≡ subcommand_of tool_app words)
matches_tool app words result is has =
    IfOk-weaker result _ _ (λ m exact. (exact (ap is_simple is ∙ tool_is_simple)).1 ∙ ap (λ (a : App). subcommand_of a words) is) has
