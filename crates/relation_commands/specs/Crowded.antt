-- Options with too few frames for their backends.
use Rattle.std.specs.Prelude.{◌+◌, ◌≤◌}
use Rattle.command_line.specs.declared.numbers.Options.{Options}
use Rattle.relation_commands.specs.declared.error.Crowding.{Crowding}

-- the backends need more frames: two are kept besides one for each
abbrev pub IsCrowded : Options → Type 0
IsCrowded o = o.frames ≤ o.backends + 2

-- the options that a refusal names
abbrev pub crowding_of : Options → Crowding
crowding_of o = record { backends = o.backends; frames = o.frames }
