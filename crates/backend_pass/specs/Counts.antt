-- What the passes of a manager have counted, together.
use Rattle.std.specs.Prelude.{List, [], ◌∷◌}
use Rattle.io_counts.specs.declared.contexts.ByContext.{ByContext}
use Rattle.io_counts.specs.Counts.{no_io}
use Rattle.io_counts.specs.Sums.{io_sum}
use Rattle.backend_pass.specs.Passes.{PassState}

-- the sums of what the passes have counted
abbrev pub io_in_all : List PassState → ByContext
io_in_all [] = no_io
io_in_all (p ∷ ps) = io_sum p.io (io_in_all ps)
