-- What words ask for.
use Rattle.std.specs.Prelude.{Bool, false, not, ◌&&◌, List, Option, Some, None, codes, map}
use Rattle.std.specs.Prelude.{option_and_then, option_map, string_bytes, if◌then◌else◌}
use Rattle.std.specs.Option.{option_map_or}
use Rattle.std.specs.Str.{bytes_eq}
use Rattle.std.specs.declared.string.String.{String}
use Rattle.clap.specs.Words.{Row, Text, fault_of, first_of, subcommand_of}
use Rattle.clap.specs.Walk.{is_empty}
use Rattle.segment_store.specs.Paths.{fork_of, is_file_of}
use Rattle.command_line.specs.declared.numbers.Options.{Options}
use Rattle.command_line.specs.declared.request.Listing.{Listing}
use Rattle.command_line.specs.declared.request.Listing.TheVariants.{Scan, Dump}
use Rattle.command_line.specs.RelationPath.{is_main_fork, is_relation_path}
use Rattle.command_line.specs.Numbers.{blocks_range, is_alone, lanes_range, number_in, options_in}
use Rattle.command_line.specs.Numbers.{seed_range, segment_blocks_range}
use Rattle.command_line.specs.Grammar.{tool_app}
use Rattle.command_line.specs.Request.{Asked, listing, recover_options, recovering, rewriting}
use Rattle.command_line.specs.Request.{sampling}

-- the path among the matches, if it names a file of a relation
abbrev pub relation_path_in : List Row → Option Text
relation_path_in rows =
    option_and_then (λ path. if is_relation_path path then Some path else None)
    (first_of (codes "path") rows)

-- the path among the matches, if it names a main fork
abbrev pub main_path_in : List Row → Option Text
main_path_in rows =
    option_and_then (λ path. if is_main_fork (fork_of path) then Some path else None)
    (relation_path_in rows)

-- the log among the matches, if it is no file of the relation at the path
abbrev pub log_in : Text → List Row → Option Text
log_in path rows =
    option_and_then (λ log. if is_file_of path log then None else Some log)
    (first_of (codes "log") rows)

-- whether the flag `--stats` is among the matches: its value is true, which by default it isn't
abbrev pub stats_in : List Row → Bool
stats_in rows = option_map_or (λ text. bytes_eq text (codes "true")) (first_of (codes "stats") rows)
    false

-- a scan or a dump; the counts are asked for only of one backend that is alone
abbrev pub list_in : Listing → List Row → Options → Option Asked
list_in what rows options =
    if stats_in rows && not (is_alone options) then None
    else option_map (λ path. listing (record {
      path = path;
      options = options;
      listing = what;
      stats = stats_in rows;
    })) (relation_path_in rows)

abbrev pub rewrite_in : List Row → Options → Option Asked
rewrite_in rows options =
    option_and_then (λ path.
    option_map (λ log. rewriting (record { path = path; log = log; options = options }))
    (log_in path rows)) (main_path_in rows)

-- a recovery takes two of the options
abbrev pub recover_in : List Row → Option Asked
recover_in rows =
    option_and_then (λ path. option_and_then (λ log. option_and_then (λ lanes.
    option_map (λ seg_blocks.
    recovering (record { path = path; log = log; options = recover_options lanes seg_blocks }))
    (number_in segment_blocks_range rows)) (number_in lanes_range rows)) (log_in path rows))
    (main_path_in rows)

abbrev pub sample_in : List Row → Options → Option Asked
sample_in rows options =
    option_and_then (λ seed.
    option_map (λ blocks. sampling (record { seed = seed; blocks = blocks; options = options }))
    (number_in blocks_range rows)) (number_in seed_range rows)

-- what a subcommand asks for, by its name, its matches and all options
abbrev pub request_named : Text → List Row → Options → Option Asked
request_named name rows options =
    if bytes_eq name (codes "scan") then list_in Scan rows options
    else (if bytes_eq name (codes "dump") then list_in Dump rows options
    else (if bytes_eq name (codes "rewrite") then rewrite_in rows options
    else (if bytes_eq name (codes "sample") then sample_in rows options else None)))

-- what a subcommand asks for, by its name and its matches
abbrev pub request_of_subcommand : Text × List Row → Option Asked
request_of_subcommand found =
    if bytes_eq found.0 (codes "recover") then recover_in found.1
    else option_and_then (request_named found.0 found.1) (options_in found.1)

-- what the words ask for: nothing if clap refuses them, or if a path or a log doesn't pass its test
unfoldable pub request_of : List Text → Option Asked
request_of words =
    if is_empty (fault_of tool_app words)
    then option_and_then request_of_subcommand (subcommand_of tool_app words) else None

-- what the words ask for; nothing if they are no command
abbrev pub request_in : {Z : Type 0} → List (String Z) → Option Asked
request_in words = request_of (map string_bytes words)
