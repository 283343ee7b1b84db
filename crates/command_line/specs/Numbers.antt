-- The numbers that a command takes, with their ranges.
use Rattle.std.specs.Prelude.{ℕ, ◌≤◌, ◌==◌, Bool, ◌&&◌, List, Option, Some, None, codes}
use Rattle.std.specs.Prelude.{option_and_then, if◌then◌else◌}
use Rattle.std.specs.Str.Parse.{digits_value, without_leading_plus}
use Rattle.clap.specs.ValueTests.{is_unsigned_in}
use Rattle.clap.specs.Words.{Row, Text, first_of}
use Rattle.command_line.specs.declared.numbers.NumberArg.{NumberArg}
use Rattle.command_line.specs.declared.numbers.Options.{Options}

-- what a number is called, its least and its greatest value
pub record NumberRange : Type 0 where
  pub name : Text
  pub least : ℕ
  pub greatest : ℕ

abbrev pub range_of : NumberArg → NumberRange
range_of arg = record { name = arg.name.now; least = arg.least; greatest = arg.greatest }

abbrev pub backends_range : NumberRange
backends_range = record { name = codes "backends"; least = 1; greatest = 32 }

abbrev pub frames_range : NumberRange
frames_range = record { name = codes "frames"; least = 16; greatest = 4096 }

abbrev pub lanes_range : NumberRange
lanes_range = record { name = codes "lanes"; least = 1; greatest = 16 }

abbrev pub segment_blocks_range : NumberRange
segment_blocks_range = record { name = codes "segment-blocks"; least = 1; greatest = 131072 }

-- the rounds of the background writer
abbrev pub bgwriter_range : NumberRange
bgwriter_range = record { name = codes "bgwriter"; least = 0; greatest = 1000 }

abbrev pub seed_range : NumberRange
seed_range = record { name = codes "seed"; least = 0; greatest = 4294967295 }

abbrev pub blocks_range : NumberRange
blocks_range = record { name = codes "blocks"; least = 0; greatest = 16384 }

-- the number that a text writes if clap takes the text for one of the range: digits, which a plus
-- may precede
abbrev pub number_of : NumberRange → Text → Option ℕ
number_of range text =
    if is_unsigned_in range.least range.greatest text
    then Some (digits_value 10 (without_leading_plus text)) else None

-- the number among the matches, given or by default
unfoldable pub number_in : NumberRange → List Row → Option ℕ
number_in range rows = option_and_then (number_of range) (first_of range.name rows)

abbrev pub options_from : Option ℕ → Option ℕ → Option ℕ → Option ℕ → Option ℕ → Option Options
options_from (Some backends) (Some frames) (Some lanes) (Some seg_blocks) (Some rounds) =
    Some (record {
      backends = backends;
      frames = frames;
      lanes = lanes;
      seg_blocks = seg_blocks;
      rounds = rounds;
    })
options_from _ _ _ _ _ = None

-- the options among the matches
abbrev pub options_in : List Row → Option Options
options_in rows =
    options_from (number_in backends_range rows) (number_in frames_range rows)
    (number_in lanes_range rows)
    (number_in segment_blocks_range rows) (number_in bgwriter_range rows)

abbrev pub LiesIn : NumberRange → ℕ → Type 0
LiesIn range n = (range.least ≤ n) × (n ≤ range.greatest)

-- one backend does the work, and no background writer makes rounds
abbrev pub is_alone : Options → Bool
is_alone o = o.backends == 1 && o.rounds == 0

-- each option lies in its range
pub record HasOptionsInRange (o : Options) : Type 0 where
  pub backends : LiesIn backends_range o.backends
  pub frames : LiesIn frames_range o.frames
  pub lanes : LiesIn lanes_range o.lanes
  pub seg_blocks : LiesIn segment_blocks_range o.seg_blocks
  pub rounds : LiesIn bgwriter_range o.rounds
