-- What a pass has of its own.
use Rattle.clock_sweep.specs.CensusList.{CensusList}
use Rattle.clock_sweep.specs.FreeFrames.{QueueState, lasting}
use Rattle.backend_pass.specs.Passes.{PassOwn, PassState}

-- its census and its pass of the free list
abbrev pub beside_of : PassState → CensusList × QueueState
beside_of p = (p.census, p.queue)

-- what lasts of a census and of a pass of the free list
abbrev pub own_in : CensusList × QueueState → PassOwn
own_in c = record { frames = c.0.frames; queue = lasting c.1 }
