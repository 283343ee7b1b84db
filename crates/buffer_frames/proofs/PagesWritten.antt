-- The pages that calls of devices read and wrote.
use Rattle.std.proofs.Common.{◌≡◌, ◌+◌, true, false, List, [], ◌∷◌, ◌++◌, refl, arith}
use Rattle.std.specs.List.{All}
use Rattle.std.proofs.lemmas.List.Elements.{All-head, All-tail}
use Rattle.pin_core.specs.declared.view.DeviceCall.{DeviceCall}
use Rattle.pin_core.specs.declared.view.DeviceCall.TheVariants.{LaneRead, LaneWrite, LaneSync, LogAppend, LogSync}
use Rattle.buffer_frames.specs.Counting.{pages_read}
use Rattle.buffer_frames.specs.Syncs.{pages_written}
use Rattle.buffer_frames.specs.Working.{IsFlushCall}

-- calls one after another
pub pages_written-append : (xs ys : List DeviceCall) → pages_written (xs ++ ys) ≡ pages_written xs + pages_written ys
pages_written-append [] ys = omega arith
pages_written-append (LaneWrite lane tag page false ∷ xs) ys = pages_written-append xs ys
pages_written-append (LaneWrite lane tag page true ∷ xs) ys = let more = pages_written-append xs ys in omega arith
pages_written-append (LaneRead lane tag done ∷ xs) ys = pages_written-append xs ys
pages_written-append (LaneSync lane done ∷ xs) ys = pages_written-append xs ys
pages_written-append (LogAppend done ∷ xs) ys = pages_written-append xs ys
pages_written-append (LogSync done ∷ xs) ys = pages_written-append xs ys

pub pages_read-append : (xs ys : List DeviceCall) → pages_read (xs ++ ys) ≡ pages_read xs + pages_read ys
pages_read-append [] ys = omega arith
pages_read-append (LaneRead lane tag false ∷ xs) ys = pages_read-append xs ys
pages_read-append (LaneRead lane tag true ∷ xs) ys = let more = pages_read-append xs ys in omega arith
pages_read-append (LaneWrite lane tag page done ∷ xs) ys = pages_read-append xs ys
pages_read-append (LaneSync lane done ∷ xs) ys = pages_read-append xs ys
pages_read-append (LogAppend done ∷ xs) ys = pages_read-append xs ys
pages_read-append (LogSync done ∷ xs) ys = pages_read-append xs ys

-- those of a flush read none
pub flush_reads_none : (calls : List DeviceCall) → All IsFlushCall calls → pages_read calls ≡ 0
flush_reads_none [] each = refl
flush_reads_none (LaneRead lane tag done ∷ calls) each = absurd (All-head IsFlushCall (LaneRead lane tag done) calls each)
flush_reads_none (LaneWrite lane tag page done ∷ calls) each = flush_reads_none calls (All-tail IsFlushCall (LaneWrite lane tag page done) calls each)
flush_reads_none (LaneSync lane done ∷ calls) each = absurd (All-head IsFlushCall (LaneSync lane done) calls each)
flush_reads_none (LogAppend done ∷ calls) each = absurd (All-head IsFlushCall (LogAppend done) calls each)
flush_reads_none (LogSync done ∷ calls) each = flush_reads_none calls (All-tail IsFlushCall (LogSync done) calls each)
