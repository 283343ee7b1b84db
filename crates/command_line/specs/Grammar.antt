-- The command line as clap reads it: a simple command with one level of subcommands.
use Rattle.std.specs.Prelude.{true, [], ◌∷◌, Some, codes}
use Rattle.clap.specs.Words.{App, Rule, Text, new_app, new_rule, with_rule, with_subcommand}
use Rattle.clap.specs.declared.builder.action.ArgAction.TheVariants.{SetTrue}
use Rattle.clap.specs.declared.builder.value_parser.ValueParser.TheVariants as parser
use Rattle.command_line.specs.Numbers.{NumberRange, backends_range, bgwriter_range, blocks_range}
use Rattle.command_line.specs.Numbers.{frames_range, lanes_range, seed_range, segment_blocks_range}

-- a text that has to stand in its place
abbrev pub text_rule : Text → Rule
text_rule name = record (new_rule name) { required = true }

-- a number that has to stand in its place
abbrev pub number_rule : NumberRange → Rule
number_rule range =
    record (text_rule range.name) { parser = Some (parser.Unsigned range.least range.greatest) }

-- an option that is a number, `--name N`, with what it is if it isn't given
abbrev pub option_rule : NumberRange → Text → Rule
option_rule range default = record (new_rule range.name) {
  long = Some range.name;
  defaults = default ∷ [];
  parser = Some (parser.Unsigned range.least range.greatest);
}

-- `--log FILE`, which has to be given
abbrev pub log_rule : Rule
log_rule = record (text_rule (codes "log")) { long = Some (codes "log") }

-- `--stats`, a flag
abbrev pub stats_rule : Rule
stats_rule = record (new_rule (codes "stats")) {
  long = Some (codes "stats");
  action = Some SetTrue;
}

-- the options of a command with a buffer manager, with their defaults
unfoldable pub with_options : App → App
with_options app =
    let a = with_rule app (option_rule backends_range (codes "1")) in
    let b = with_rule a (option_rule frames_range (codes "128")) in
    let c = with_rule b (option_rule lanes_range (codes "4")) in
    let d = with_rule c (option_rule segment_blocks_range (codes "131072")) in
    with_rule d (option_rule bgwriter_range (codes "0"))

-- `scan PATH` and `dump PATH`, which alone take the flag
abbrev pub path_app : Text → App
path_app name =
    with_options (with_rule (with_rule (new_app name) (text_rule (codes "path"))) stats_rule)

-- `rewrite PATH --log FILE`
abbrev pub rewrite_app : App
rewrite_app =
    with_options (with_rule (with_rule (new_app (codes "rewrite")) (text_rule (codes "path")))
    log_rule)

-- `recover PATH --log FILE`, with two of the options
unfoldable pub recover_app : App
recover_app =
    let a = with_rule (with_rule (new_app (codes "recover")) (text_rule (codes "path"))) log_rule in
    let b = with_rule a (option_rule lanes_range (codes "4")) in
    with_rule b (option_rule segment_blocks_range (codes "131072"))

-- `sample SEED BLOCKS`
abbrev pub sample_app : App
sample_app =
    with_options (with_rule (with_rule (new_app (codes "sample")) (number_rule seed_range))
    (number_rule blocks_range))

-- the words begin with the subcommand, and one has to be there
abbrev pub bare_app : App
bare_app =
    let app = new_app (codes "page_tool") in
    record app { top = record app.top { no_binary_name = true; subcommand_required = true } }

unfoldable pub tool_app : App
tool_app =
    let a = with_subcommand bare_app (path_app (codes "scan")).top in
    let b = with_subcommand a (path_app (codes "dump")).top in
    let c = with_subcommand b rewrite_app.top in
    let d = with_subcommand c recover_app.top in
    with_subcommand d sample_app.top
