-- What a run answers, and why.
use Rattle.std.specs.Prelude.{◌≡◌, ◌≢◌, ◌<◌, ◌≤◌, ◌⊎◌, ℕ, ◌+◌, ◌-◌, ◌^◌, ◌==◌, false, true, List}
use Rattle.std.specs.Prelude.{[], ◌++◌, length, Option, Some, None, Result, Ok, Err, IfSome, IsSome}
use Rattle.std.specs.Prelude.{IsSomeAnd, option_map, unwrap_or, if◌then◌else◌, codes}
use Rattle.command_line.specs.declared.numbers.Options.{Options}
use Rattle.byte_devices.specs.declared.device.Failed.{Failed}
use Rattle.byte_devices.specs.Bytes.{GainsPrefix, Puts}
use Rattle.byte_devices.specs.Faults.{HasCause, Rose}
use Rattle.segment_store.specs.Logs.{Logs}
use Rattle.segment_store.specs.Paths.{PathMarks, Paths}
use Rattle.segment_store.specs.Relation.{relation_of}
use Rattle.pin_core.specs.State.{Page}
use Rattle.history_core.specs.Log.{record_size}
use Rattle.history_core.specs.State.{last_position}
use Rattle.io_counts.specs.declared.shown.IoSums.{IoSums}
use Rattle.log_recovery.specs.Records.{HasBadHead}
use Rattle.relation_commands.specs.declared.error.ToolError.{ToolError}
use Rattle.relation_commands.specs.declared.error.ToolError.TheVariants.{Usage, Crowded, Missing}
use Rattle.relation_commands.specs.declared.error.ToolError.TheVariants.{ReadFault, WriteFault}
use Rattle.relation_commands.specs.declared.error.ToolError.TheVariants.{LogFault, OutFault, Memory}
use Rattle.relation_commands.specs.declared.error.ToolError.TheVariants.{OverLimit, BadLog}
use Rattle.relation_commands.specs.declared.limits.PositionLimit.{PositionLimit}
use Rattle.relation_commands.specs.declared.limits.PositionLimit.TheVariants.{OfPages, OfPage}
use Rattle.relation_commands.specs.declared.limits.PositionLimit.TheVariants.{OfLog}
use Rattle.relation_commands.specs.Limits.{PassesLimit, largest_lsn}
use Rattle.relation_commands.specs.Listings.{CountedText, NoneFails, counted_text, io_line}
use Rattle.relation_commands.specs.Listings.{text_of}
use Rattle.relation_commands.specs.RecoverFiles.{ForLogOf, RecoversFiles}
use Rattle.relation_commands.specs.RecoverTexts.{recover_text}
use Rattle.command_line.specs.Request.{Asked, ListingAsked, is_listing, is_rewriting, is_writing}
use Rattle.command_line.specs.Request.{listing, log_path_of, rewriting, recovering, sampling}
use Rattle.command_line.specs.Request.{options_of, path_of}
use Rattle.relation_commands.specs.Crowded.{IsCrowded, crowding_of}
use Rattle.relation_commands.specs.RewriteFiles.{HostFiles, RewritesFiles, pages_at}
use Rattle.relation_commands.specs.RewriteTexts.{rewrite_text}
use Rattle.relation_commands.specs.Samples.{sample_text}
use Rattle.sample_relation.specs.Relations.{sample_relation}
use Rattle.relation_commands.specs.Status.{bad_log_text, crowded_text, error_line, limit_text}
use Rattle.relation_commands.specs.Status.{missing_text, status_of_error, tool_line, usage_text}

-- if the paths are known, nothing is there at the one that is asked for; a sample asks for none
abbrev pub IsMissing : Option Paths → Option (List ℕ) → Type 0
IsMissing known None = ⊥
IsMissing known (Some path) = IfSome known (λ paths. paths path ≡ [])

-- if the paths are known, something is there at it
abbrev pub IsThere : Option Paths → Option (List ℕ) → Type 0
IsThere known None = Unit {0}
IsThere known (Some path) = IfSome known (λ paths. paths path ≢ [])

-- the paths are known, and something is there at it
abbrev pub IsKnownThere : Option Paths → Option (List ℕ) → Type 0
IsKnownThere known None = Unit {0}
IsKnownThere known (Some path) = IsSomeAnd known (λ paths. paths path ≢ [])

-- a recovery has no file at the path of its log, if the logs are known
abbrev pub LacksLog : Asked → Option Logs → Type 0
LacksLog (listing l) logs = ⊥
LacksLog (rewriting r) logs = ⊥
LacksLog (recovering r) logs = IfSome logs (λ logs. logs r.log ≡ None)
LacksLog (sampling s) logs = ⊥

-- a recovery has a file at the path of its log, if the logs are known
abbrev pub HasLog : Asked → Option Logs → Type 0
HasLog (listing l) logs = Unit {0}
HasLog (rewriting r) logs = Unit {0}
HasLog (recovering r) logs = IfSome logs (λ logs. IsSome (logs r.log))
HasLog (sampling s) logs = Unit {0}

-- the head of one that is there isn't bad
abbrev pub HasGoodHead : Asked → Option Logs → Type 0
HasGoodHead (listing l) logs = Unit {0}
HasGoodHead (rewriting r) logs = Unit {0}
HasGoodHead (recovering r) logs =
    IfSome logs (λ logs. IfSome (logs r.log) (λ file. ¬ HasBadHead file.bytes))
HasGoodHead (sampling s) logs = Unit {0}

-- a recovery has a file at the path of its log whose head is bad, if the logs are known
abbrev pub HasBadLog : Asked → Option Logs → Type 0
HasBadLog (listing l) logs = ⊥
HasBadLog (rewriting r) logs = ⊥
HasBadLog (recovering r) logs =
    IfSome logs (λ logs. IsSomeAnd (logs r.log) (λ file. HasBadHead file.bytes))
HasBadLog (sampling s) logs = ⊥

-- the logs are known, and one is there, whose head isn't bad
abbrev pub IsKnownLog : Asked → Option Logs → Type 0
IsKnownLog (listing l) logs = Unit {0}
IsKnownLog (rewriting r) logs = Unit {0}
IsKnownLog (recovering r) logs =
    IsSomeAnd logs (λ logs. IsSomeAnd (logs r.log) (λ file. ¬ HasBadHead file.bytes))
IsKnownLog (sampling s) logs = Unit {0}

-- this file isn't there: the relation's; or, of a recovery whose relation is there, that of its log
abbrev pub IsAbsent : Asked → Option Paths → Option Logs → List ℕ → Type 0
IsAbsent a known logs path = ((path_of a ≡ Some path) × IsMissing known (path_of a))
    ⊎ ((log_path_of a ≡ Some path) × IsThere known (path_of a) × LacksLog a logs)

-- the pages of the relation that is asked for
abbrev pub pages_asked : Asked → Paths → List Page
pages_asked (listing l) paths = relation_of l.options.seg_blocks (paths l.path)
pages_asked (rewriting r) paths = pages_at r paths
pages_asked (recovering r) paths = pages_at r paths
pages_asked (sampling s) paths = sample_relation s.seed s.blocks

-- the text that is asked for, if it is known: that of a sample is; those of a listing and a rewrite
-- are if the paths are, but for a listing whose counts are asked for; that of a recovery depends on
-- its log
abbrev pub text_asked : Asked → Option Paths → Option (List ℕ)
text_asked (listing l) known =
    if l.stats then None
    else option_map (λ paths. text_of l.listing (pages_asked (listing l) paths)) known
text_asked (rewriting r) known = option_map (λ paths. rewrite_text (pages_at r paths)) known
text_asked (recovering r) known = None
text_asked (sampling s) known = Some (sample_text s.seed s.blocks)

-- the text that is asked for with its counts, if it is known
abbrev pub counted_asked : Asked → Option Paths → Option CountedText
counted_asked (listing l) known =
    if l.stats
    then option_map (λ paths. counted_text l.listing (pages_asked (listing l) paths)) known
    else None
counted_asked (rewriting r) known = None
counted_asked (recovering r) known = None
counted_asked (sampling s) known = None

-- The counts of faults, of the host and of the output
pub record FaultCounts : Type 0 where
  pub reads : ℕ
  pub writes : ℕ
  pub logs : ℕ
  pub outs : ℕ

abbrev pub counts : ℕ → ℕ → ℕ → ℕ → FaultCounts
counts reads writes logs outs = record { reads = reads; writes = writes; logs = logs; outs = outs }

-- the counts of faults of a host and an output
abbrev pub counts_of : {H O : Type 0} → (H → ℕ) → (H → ℕ) → (H → ℕ) → (O → ℕ) → H → O → FaultCounts
counts_of reads writes logs outs host out = counts (reads host) (writes host) (logs host) (outs out)

-- no count fell
pub record CountsLater (old new : FaultCounts) : Type 0 where
  pub reads : old.reads ≤ new.reads
  pub writes : old.writes ≤ new.writes
  pub logs : old.logs ≤ new.logs
  pub outs : old.outs ≤ new.outs

-- what is left of the files by a listing: no path and no log changed, and no further block's last
-- write failed
pub record ListingKeeps (l : ListingAsked) (old new : HostFiles) : Type 0 where
  pub paths : new.paths ≡ old.paths
  pub logs : new.logs ≡ old.logs
  pub failed : NoneFails l.options.seg_blocks old.paths l.path old.failed new.failed

-- the words ask for no rewrite
abbrev pub IsNoRewrite : Option Asked → Type 0
IsNoRewrite request = IfSome request (λ a. is_rewriting a ≡ false)

-- the words ask for something whose text is put at its end: a rewrite, a recovery or a sample
abbrev pub PrintsAtEnd : Option Asked → Type 0
PrintsAtEnd request = IfSome request (λ a. is_listing a ≡ false)

-- the words ask for nothing that writes pages of a relation at a path
abbrev pub WritesNoPath : Option Asked → Type 0
WritesNoPath request = IfSome request (λ a. is_writing a ≡ false)

-- no block's last write failed; if the words are no command, or ask for a sample, all is as it was
abbrev pub FailsNone : Option Asked → Paths → PathMarks → PathMarks → Type 0
FailsNone None paths old new = new ≡ old
FailsNone (Some (listing l)) paths old new = NoneFails l.options.seg_blocks paths l.path old new
FailsNone (Some (rewriting r)) paths old new = NoneFails r.options.seg_blocks paths r.path old new
FailsNone (Some (recovering r)) paths old new = NoneFails r.options.seg_blocks paths r.path old new
FailsNone (Some (sampling s)) paths old new = new ≡ old

-- what a run leaves of the files
abbrev pub LeavesFiles : Option Asked → ℕ → HostFiles → HostFiles → Type 0
LeavesFiles None status old new = new ≡ old
LeavesFiles (Some (listing l)) status old new = ListingKeeps l old new
LeavesFiles (Some (rewriting r)) status old new = RewritesFiles r status old new
LeavesFiles (Some (recovering r)) status old new = RecoversFiles r status old new
LeavesFiles (Some (sampling s)) status old new = new ≡ old

-- the refusals of words that are no command
abbrev pub RefusesWords : ToolError → Type 0
RefusesWords Usage = Unit {0}
RefusesWords Memory = Unit {0}
RefusesWords _ = ⊥

-- A rewrite could pass the last log position: with this many pages of this largest position; or a
-- page is past the log's end; or the log is full. The last two don't happen if the relation is
-- known
abbrev pub IsOverLimit : Option (List Page) → PositionLimit → Type 0
IsOverLimit known (OfPages largest blocks) =
    PassesLimit largest blocks
    × IfSome known (λ pages. (largest ≡ largest_lsn pages) × (blocks ≡ length pages))
IsOverLimit known (OfPage lsn end) = (end < lsn) × IfSome known (λ pages. ⊥)
IsOverLimit known (OfLog end) = (last_position < end + record_size) × IfSome known (λ pages. ⊥)

-- the pages could pass the last log position
abbrev pub ArePastLimit : List Page → Type 0
ArePastLimit pages = PassesLimit (largest_lsn pages) (length pages)

-- a rewrite's positions stay below the last one; a listing has none, and a recovery makes none
abbrev pub HasPositions : Asked → List Page → Type 0
HasPositions (listing l) pages = Unit {0}
HasPositions (rewriting r) pages = ¬ ArePastLimit pages
HasPositions (recovering r) pages = Unit {0}
HasPositions (sampling s) pages = Unit {0}

-- the positions of the relation that is asked for, if it is known, stay below the last one in a
-- rewrite
abbrev pub HasPositionsAt : Asked → Option Paths → Type 0
HasPositionsAt a known = IfSome known (λ paths. HasPositions a (pages_asked a paths))

-- the cause of each refusal of a command that isn't crowded
abbrev pub IsRefusal : Asked → Option Paths → Option Logs → FaultCounts → FaultCounts → ToolError
    → Type 0
IsRefusal a known logs old new Usage = ⊥
IsRefusal a known logs old new (Crowded crowding) =
    (crowding ≡ crowding_of (options_of a)) × IsCrowded (options_of a)
IsRefusal a known logs old new (Missing path) =
    IsAbsent a known logs path.now × ¬ IsCrowded (options_of a) × (new.reads ≡ old.reads)
IsRefusal a known logs old new ReadFault =
    Rose old.reads new.reads × ¬ IsCrowded (options_of a) × IsSome (path_of a)
IsRefusal a known logs old new WriteFault =
    Rose old.writes new.writes × IsThere known (path_of a) × ¬ IsCrowded (options_of a)
    × (is_writing a ≡ true) × HasPositionsAt a known
    × HasLog a logs × (¬ Rose old.reads new.reads → HasGoodHead a logs)
IsRefusal a known logs old new LogFault =
    Rose old.logs new.logs × IsThere known (path_of a) × ¬ IsCrowded (options_of a)
    × (is_rewriting a ≡ true) × HasPositionsAt a known
IsRefusal a known logs old new OutFault =
    Rose old.outs new.outs × IsThere known (path_of a) × ¬ IsCrowded (options_of a)
    × HasPositionsAt a known × HasLog a logs × HasGoodHead a logs
IsRefusal a known logs old new Memory = Unit {0}
IsRefusal a known logs old new (OverLimit limit) =
    IsOverLimit (option_map (pages_asked a) known) limit × IsThere known (path_of a)
    × ¬ IsCrowded (options_of a) × (is_rewriting a ≡ true)
IsRefusal a known logs old new (BadLog path) =
    (log_path_of a ≡ Some path.now) × IsThere known (path_of a) × HasBadLog a logs
    × ¬ IsCrowded (options_of a) × (new.reads ≡ old.reads)

-- A command that was done: it wasn't crowded, the relation was there, its positions stay below the
-- last one, the log of a recovery was there with a good head, and no count rose
pub record IsDone (a : Asked) (known : Option Paths) (logs : Option Logs)
    (old new : FaultCounts) : Type 0 where
  pub roomy : ¬ IsCrowded (options_of a)
  pub there : IsThere known (path_of a)
  pub positions : HasPositionsAt a known
  pub logged : HasLog a logs × HasGoodHead a logs
  pub quiet : new ≡ old

-- how a command ends
abbrev pub EndsCommand : {T : Type 0} → Asked → Option Paths → Option Logs → FaultCounts
    → FaultCounts → Result T ToolError → Type 0
EndsCommand a known logs old new (Ok done) = IsDone a known logs old new
EndsCommand a known logs old new (Err error) = IsRefusal a known logs old new error

-- how a run ends
abbrev pub Ends : Option Asked → Option Paths → Option Logs → FaultCounts → FaultCounts
    → Result Unit ToolError → Type 0
Ends None known logs old new (Ok done) = ⊥
Ends None known logs old new (Err error) = RefusesWords error
Ends (Some a) known logs old new result = EndsCommand a known logs old new result

-- status 1 comes only if the words are no command, and always then unless memory was short
pub record UsageIf (request : Option Asked) (status : ℕ) : Type 0 where
  pub only : status ≡ 1 → request ≡ None
  pub always : request ≡ None → (status ≡ 1) ⊎ (status ≡ 8)

-- status 2 comes only if the command is crowded, and always then unless memory was short
pub record CrowdedIf (options : Options) (status : ℕ) : Type 0 where
  pub only : status ≡ 2 → IsCrowded options
  pub always : IsCrowded options → (status ≡ 2) ⊎ (status ≡ 8)

-- Status 3 comes only if the command isn't crowded, no opening failed, and the relation isn't
-- there, or it is and the log of its recovery isn't; and always then unless an opening failed or
-- memory was short
pub record MissingIf (a : Asked) (known : Option Paths) (logs : Option Logs)
    (reads reads_now status : ℕ) : Type 0 where
  pub only : status ≡ 3
      → (IsMissing known (path_of a) ⊎ (IsThere known (path_of a) × LacksLog a logs))
      × ¬ IsCrowded (options_of a) × (reads_now ≡ reads)
  pub always : ¬ IsCrowded (options_of a)
      → IfSome known
      (λ paths. IsMissing (Some paths) (path_of a)
      → (status ≡ 3) ⊎ ((status ≡ 8) ⊎ ((status ≡ 4) × Rose reads reads_now)))
  pub always_log : ¬ IsCrowded (options_of a) → IfSome known (λ paths. IfSome logs (λ logs.
      IsThere (Some paths) (path_of a) → LacksLog a (Some logs)
      → (status ≡ 3) ⊎ ((status ≡ 8) ⊎ ((status ≡ 4) × Rose reads reads_now))))

-- Status 10 comes only for a recovery that isn't crowded, of a relation that is there, by a log
-- whose head is bad, if these are known, and only if no read failed; and always then unless a read
-- failed or memory was short
pub record BadLogIf (a : Asked) (known : Option Paths) (logs : Option Logs)
    (reads reads_now status : ℕ) : Type 0 where
  pub only : status ≡ 10 → IsThere known (path_of a) × HasBadLog a logs
      × ¬ IsCrowded (options_of a) × (reads_now ≡ reads)
  pub always : ¬ IsCrowded (options_of a) → ¬ Rose reads reads_now
      → IfSome known (λ paths. IfSome logs (λ logs. IsThere (Some paths) (path_of a)
      → HasBadLog a (Some logs) → (status ≡ 10) ⊎ (status ≡ 8)))

-- status 9 comes only for a rewrite that isn't crowded, of a relation that is there, whose pages,
-- if they are known, could pass the last position; and always then unless a read failed or memory
-- was short
pub record LimitIf (a : Asked) (known : Option Paths) (reads reads_now status : ℕ) : Type 0 where
  pub only : status ≡ 9
      → (is_rewriting a ≡ true) × ¬ IsCrowded (options_of a)
      × IfSome known
      (λ paths. IsThere (Some paths) (path_of a) × ArePastLimit (pages_asked a paths))
  pub always : is_rewriting a ≡ true → ¬ IsCrowded (options_of a)
      → IfSome known
      (λ paths. IsThere (Some paths) (path_of a) → ArePastLimit (pages_asked a paths)
      → (status ≡ 9) ⊎ ((status ≡ 8) ⊎ ((status ≡ 4) × Rose reads reads_now)))

-- the faults of writing are those of a rewrite and of a recovery alone, those of the log of a
-- rewrite alone, and those of reading of a relation at a path
pub record FaultIf (request : Option Asked) (old new : FaultCounts) (status : ℕ) : Type 0 where
  pub reads : status ≡ 4 → Rose old.reads new.reads × IsSomeAnd request (λ a. IsSome (path_of a))
  pub writes : status ≡ 5
      → Rose old.writes new.writes × IsSomeAnd request (λ a. is_writing a ≡ true)
  pub logs : status ≡ 6 → Rose old.logs new.logs × IsSomeAnd request (λ a. is_rewriting a ≡ true)
  pub outs : status ≡ 7 → Rose old.outs new.outs

-- all of the text is out at status 0, and a prefix of the text at any
pub record Wrote (text : List ℕ) (old new : Option (List ℕ)) (status : ℕ) : Type 0 where
  pub all : status ≡ 0 → new ≡ option_map (λ bytes. bytes ++ text) old
  pub prefix : IfSome old (λ bytes. IsSomeAnd new (GainsPrefix text bytes))

-- all of the text and then the line of counts by which each block was one hit or one read is out at
-- status 0, and a prefix of such a text with its line at any
pub record WroteCounted (t : CountedText) (old new : Option (List ℕ)) (status : ℕ) : Type 0 where
  pub io : IoSums
  pub found : io.hits + io.reads ≡ t.blocks
  pub wrote : Wrote (t.text ++ io_line io) old new status

-- the text of a recovery's log, if the logs are known, was put, or a prefix of it
abbrev pub PutsLogOf : {E : Type 0} → Asked → Option Logs → Option (List ℕ) → Option (List ℕ)
    → Result Unit E → Type 0
PutsLogOf (listing l) logs old new result = Unit {0}
PutsLogOf (rewriting r) logs old new result = Unit {0}
PutsLogOf (recovering r) logs old new result =
    IfSome logs (λ logs. ForLogOf r logs (λ log. Puts (recover_text log) old new result))
PutsLogOf (sampling s) logs old new result = Unit {0}

-- the text of a recovery's log, if the logs are known, is out: whole at status 0, a prefix at any
abbrev pub WroteLogOf : Asked → Option Logs → Option (List ℕ) → Option (List ℕ) → ℕ → Type 0
WroteLogOf (listing l) logs old new status = Unit {0}
WroteLogOf (rewriting r) logs old new status = Unit {0}
WroteLogOf (recovering r) logs old new status =
    IfSome logs (λ logs. ForLogOf r logs (λ log. Wrote (recover_text log) old new status))
WroteLogOf (sampling s) logs old new status = Unit {0}

-- no count is at its last value, past which it doesn't rise
pub record CountsBelowLast (old : FaultCounts) : Type 0 where
  pub reads : old.reads < 2 ^ 64 - 1
  pub writes : old.writes < 2 ^ 64 - 1
  pub logs : old.logs < 2 ^ 64 - 1
  pub outs : old.outs < 2 ^ 64 - 1

-- what is owed if no count rose: a relation that is known to be there is listed, or rewritten if
-- its positions stay below the last one, or recovered if a log with a good head is known to be
-- there, and a sample is done, unless the command is crowded or memory was short
abbrev pub IsComplete : Asked → Option Paths → Option Logs → FaultCounts → FaultCounts → ℕ → Type 0
IsComplete a known logs old new status = ¬ IsCrowded (options_of a)
    → IsKnownThere known (path_of a) → IsKnownLog a logs → HasPositionsAt a known
    → new ≡ old → CountsBelowLast old → (status ≡ 0) ⊎ (status ≡ 8)

-- the text of a status, which the request, the position limit and the path of a file that is
-- missing make whole
abbrev pub status_text : Option Asked → PositionLimit → List ℕ → ℕ → List ℕ
status_text None limit missing status = if status == 1 then usage_text else codes "out of memory"
status_text (Some a) limit missing status =
    if status == 2 then crowded_text (crowding_of (options_of a))
    else (if status == 3 then missing_text missing
    else (if status == 4 then codes "read fault"
    else (if status == 5 then codes "write fault"
    else (if status == 6 then codes "log fault"
    else (if status == 7 then codes "output fault"
    else (if status == 9 then limit_text limit
    else (if status == 10 then bad_log_text (unwrap_or (log_path_of a) [])
    else codes "out of memory")))))))

-- the line of a status on the error stream; status 0 has none
abbrev pub status_line : Option Asked → PositionLimit → List ℕ → ℕ → List ℕ
status_line request limit missing status =
    if status == 0 then [] else tool_line (status_text request limit missing status)

-- the text was put, or a prefix of it and the sink's count of faults rose
abbrev pub Said : List ℕ → Option (List ℕ) → Option (List ℕ) → ℕ → ℕ → Type 0
Said text old new faults faults_now =
    (result : Result Unit Failed) × Puts text old new result × HasCause faults faults_now result

-- The line of the status was said; that of status 9 with a position limit that was passed, that of
-- status 3 with the path of a file that isn't there
pub record SaysStatus (request : Option Asked) (known : Option Paths) (logs : Option Logs)
    (old new : Option (List ℕ)) (faults faults_now status : ℕ) : Type 0 where
  pub limit : PositionLimit
  pub passed : status ≡ 9
      → IsSomeAnd request (λ a. IsOverLimit (option_map (pages_asked a) known) limit)
  pub missing : List ℕ
  pub absent : status ≡ 3 → IsSomeAnd request (λ a. IsAbsent a known logs missing)
  pub said : Said (status_line request limit missing status) old new faults faults_now

-- the line of a refusal was said, and the status is its own
pub record SaysAs (error : ToolError) (old new : Option (List ℕ))
    (faults faults_now status : ℕ) : Type 0 where
  pub status_is : status ≡ status_of_error error
  pub said : Said (error_line error) old new faults faults_now
