use Rattle.std.proofs.Common.{◌≡◌, ◌+◌, ◌-◌, ◌/◌, ◌++◌, drop, length, min, List, ℕ, arith, sym}
use Rattle.std.proofs.lemmas.Grind.{common_steps}
use Rattle.std.proofs.lemmas.List.{take-append-drop}
use Rattle.byte_devices.specs.Memory.{prefix_of}
use Rattle.byte_devices.proofs.memory.MemSinkSink.put.Goals as goal

pub returns-clause-bytes : goal.returns-clause-bytes
returns-clause-bytes c =
    let piece : List ℕ = c.args.piece.now in
    let sink = c.args.self.now in
    let size : ℕ = min (sink.room - length sink.bytes) ((length piece + 1) / 2) in
    let left : c.extend_from_slice-2.new.self.items ≡ sink.bytes ++ prefix_of sink piece = grind (arith, common_steps) in
    record {
      ok = tt;
      failed = record { prefix = prefix_of sink piece; rest = drop size piece; whole = sym (take-append-drop size piece); is = left };
    }
