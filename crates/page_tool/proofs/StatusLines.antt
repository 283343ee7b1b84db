-- The line of a refusal is the line of its status.
use Rattle.std.proofs.Common.{◌≡◌, ℕ, List, [], ◌++◌, Result, Ok, Err, Option, Some, None, refl, sym, ◌∙◌, ap, subst, arith}
use Rattle.std.specs.Prelude.{IsSomeAnd, option_map, unwrap_or}
use Rattle.std.proofs.lemmas.List.{append-nil}
use Rattle.byte_devices.specs.declared.device.Failed.{Failed}
use Rattle.segment_store.specs.Logs.{Logs}
use Rattle.segment_store.specs.Paths.{Paths}
use Rattle.relation_commands.specs.declared.error.ToolError.{ToolError}
use Rattle.relation_commands.specs.declared.error.ToolError.TheVariants.{Usage, Crowded, Missing, ReadFault, WriteFault, LogFault, OutFault, Memory, OverLimit, BadLog}
use Rattle.relation_commands.specs.declared.limits.PositionLimit.{PositionLimit}
use Rattle.relation_commands.specs.declared.limits.PositionLimit.TheVariants.{OfLog}
use Rattle.relation_commands.specs.Answers.{Ends, FaultCounts, IsAbsent, IsOverLimit, Said, SaysAs, SaysStatus, pages_asked, status_line}
use Rattle.command_line.specs.Request.{Asked}
use Rattle.relation_commands.specs.Status.{bad_log_text, crowded_text, error_line, status_of_error, tool_line}

-- the position limit that a refusal names; any if it names none
abbrev pub limit_of : ToolError → PositionLimit
limit_of (OverLimit limit) = limit
limit_of _ = OfLog 0

-- the path of the file that is missing; any if none is named
abbrev pub missing_of : ToolError → List ℕ
missing_of (Missing path) = path.now
missing_of _ = []

line_is : (request : Option Asked) (known : Option Paths) (logs : Option Logs) (old new : FaultCounts) (error : ToolError)
    → Ends request known logs old new (Err error) → error_line error ≡ status_line request (limit_of error) (missing_of error) (status_of_error error)
line_is None known logs old new Usage ends = refl
line_is None known logs old new (Crowded crowding) ends = absurd ends
line_is None known logs old new (Missing path) ends = absurd ends
line_is None known logs old new ReadFault ends = absurd ends
line_is None known logs old new WriteFault ends = absurd ends
line_is None known logs old new LogFault ends = absurd ends
line_is None known logs old new OutFault ends = absurd ends
line_is None known logs old new Memory ends = refl
line_is None known logs old new (OverLimit limit) ends = absurd ends
line_is None known logs old new (BadLog path) ends = absurd ends
line_is (Some a) known logs old new Usage ends = absurd ends
line_is (Some a) known logs old new (Crowded crowding) ends = ap (λ c. tool_line (crowded_text c)) ends.0
line_is (Some a) known logs old new (Missing path) ends = refl
line_is (Some a) known logs old new ReadFault ends = refl
line_is (Some a) known logs old new WriteFault ends = refl
line_is (Some a) known logs old new LogFault ends = refl
line_is (Some a) known logs old new OutFault ends = refl
line_is (Some a) known logs old new Memory ends = refl
line_is (Some a) known logs old new (OverLimit limit) ends = refl
line_is (Some a) known logs old new (BadLog path) ends = ap (λ (p : Option (List ℕ)). tool_line (bad_log_text (unwrap_or p []))) (sym ends.0)

passed_by : (request : Option Asked) (known : Option Paths) (logs : Option Logs) (old new : FaultCounts) (error : ToolError) → Ends request known logs old new (Err error)
    → status_of_error error ≡ 9 → IsSomeAnd request (λ a. IsOverLimit (option_map (pages_asked a) known) (limit_of error))
passed_by None known logs old new Usage ends nine = absurd (omega arith)
passed_by None known logs old new Memory ends nine = absurd (omega arith)
passed_by None known logs old new (Crowded crowding) ends nine = absurd ends
passed_by None known logs old new (Missing path) ends nine = absurd ends
passed_by None known logs old new ReadFault ends nine = absurd ends
passed_by None known logs old new WriteFault ends nine = absurd ends
passed_by None known logs old new LogFault ends nine = absurd ends
passed_by None known logs old new OutFault ends nine = absurd ends
passed_by None known logs old new (OverLimit limit) ends nine = absurd ends
passed_by None known logs old new (BadLog path) ends nine = absurd ends
passed_by (Some a) known logs old new Usage ends nine = absurd ends
passed_by (Some a) known logs old new (Crowded crowding) ends nine = absurd (omega arith)
passed_by (Some a) known logs old new (Missing path) ends nine = absurd (omega arith)
passed_by (Some a) known logs old new ReadFault ends nine = absurd (omega arith)
passed_by (Some a) known logs old new WriteFault ends nine = absurd (omega arith)
passed_by (Some a) known logs old new LogFault ends nine = absurd (omega arith)
passed_by (Some a) known logs old new OutFault ends nine = absurd (omega arith)
passed_by (Some a) known logs old new Memory ends nine = absurd (omega arith)
passed_by (Some a) known logs old new (OverLimit limit) ends nine = ends.0
passed_by (Some a) known logs old new (BadLog path) ends nine = absurd (omega arith)

absent_by : (request : Option Asked) (known : Option Paths) (logs : Option Logs) (old new : FaultCounts) (error : ToolError) → Ends request known logs old new (Err error)
    → status_of_error error ≡ 3 → IsSomeAnd request (λ a. IsAbsent a known logs (missing_of error))
absent_by None known logs old new Usage ends three = absurd (omega arith)
absent_by None known logs old new Memory ends three = absurd (omega arith)
absent_by None known logs old new (Crowded crowding) ends three = absurd ends
absent_by None known logs old new (Missing path) ends three = absurd ends
absent_by None known logs old new ReadFault ends three = absurd ends
absent_by None known logs old new WriteFault ends three = absurd ends
absent_by None known logs old new LogFault ends three = absurd ends
absent_by None known logs old new OutFault ends three = absurd ends
absent_by None known logs old new (OverLimit limit) ends three = absurd ends
absent_by None known logs old new (BadLog path) ends three = absurd ends
absent_by (Some a) known logs old new Usage ends three = absurd ends
absent_by (Some a) known logs old new (Crowded crowding) ends three = absurd (omega arith)
absent_by (Some a) known logs old new (Missing path) ends three = ends.0
absent_by (Some a) known logs old new ReadFault ends three = absurd (omega arith)
absent_by (Some a) known logs old new WriteFault ends three = absurd (omega arith)
absent_by (Some a) known logs old new LogFault ends three = absurd (omega arith)
absent_by (Some a) known logs old new OutFault ends three = absurd (omega arith)
absent_by (Some a) known logs old new Memory ends three = absurd (omega arith)
absent_by (Some a) known logs old new (OverLimit limit) ends three = absurd (omega arith)
absent_by (Some a) known logs old new (BadLog path) ends three = absurd (omega arith)

-- what was said of a refusal is the line of the status
pub said_as : (request : Option Asked) (known : Option Paths) (logs : Option Logs) (old new : FaultCounts) (error : ToolError) (bytes bytes_now : Option (List ℕ)) (faults faults_now status : ℕ)
    → Ends request known logs old new (Err error) → SaysAs error bytes bytes_now faults faults_now status
    → SaysStatus request known logs bytes bytes_now faults faults_now status
said_as request known logs old new error bytes bytes_now faults faults_now status ends says =
    let same : error_line error ≡ status_line request (limit_of error) (missing_of error) status =
    line_is request known logs old new error ends ∙ ap (λ (n : ℕ). status_line request (limit_of error) (missing_of error) n) (sym says.status_is) in
    record {
      limit = limit_of error;
      passed = λ nine. passed_by request known logs old new error ends (sym says.status_is ∙ nine);
      missing = missing_of error;
      absent = λ three. absent_by request known logs old new error ends (sym says.status_is ∙ three);
      said = subst (λ (text : List ℕ). Said text bytes bytes_now faults faults_now) same says.said;
    }

nothing_more : (old : Option (List ℕ)) → old ≡ option_map (λ (bytes : List ℕ). bytes ++ []) old
nothing_more None = refl
nothing_more (Some bytes) = ap (λ (l : List ℕ). Some l) (sym (append-nil bytes))

said_none : (old : Option (List ℕ)) (faults : ℕ) → Said [] old old faults faults
said_none old faults =
    let all_well : Result Unit Failed = Ok tt in
    (all_well, record { ok = nothing_more old; failed = tt }, record { later = omega arith; ok = refl; failed = tt })

-- nothing is said at status 0
pub said_nothing : (request : Option Asked) (known : Option Paths) (logs : Option Logs) (old : Option (List ℕ)) (faults : ℕ) → SaysStatus request known logs old old faults faults 0
said_nothing request known logs old faults = record {
  limit = OfLog 0;
  passed = λ nine. absurd (omega arith);
  missing = [];
  absent = λ three. absurd (omega arith);
  said = said_none old faults;
}
