-- The statuses of the tool, and the line of each on the error stream.
use Rattle.std.specs.Prelude.{ℕ, List, [], ◌∷◌, ◌++◌, codes, Result, Ok, Err}
use Rattle.std.specs.Borrow.{Bor}
use Rattle.std.specs.Fmt.{decimal}
use Rattle.page_layout.specs.Text.{joined, position_text}
use Rattle.segment_store.specs.declared.host.HostError.{HostError}
use Rattle.segment_store.specs.declared.host.HostError.TheVariants as host
use Rattle.segment_store.specs.declared.host.LogOpen.{LogOpen}
use Rattle.segment_store.specs.declared.host.LogOpen.TheVariants as opening
use Rattle.log_recovery.specs.declared.error.RecoverError.{RecoverError}
use Rattle.log_recovery.specs.declared.error.RecoverError.TheVariants as recovery
use Rattle.relation_commands.specs.declared.listing.ListingError.{ListingError}
use Rattle.relation_commands.specs.declared.listing.ListingError.TheVariants as listing
use Rattle.relation_commands.specs.declared.rewriting.RewriteError.{RewriteError}
use Rattle.relation_commands.specs.declared.rewriting.RewriteError.TheVariants as rewrite
use Rattle.relation_commands.specs.declared.limits.PositionLimit.{PositionLimit}
use Rattle.relation_commands.specs.declared.limits.PositionLimit.TheVariants.{OfPages, OfPage}
use Rattle.relation_commands.specs.declared.limits.PositionLimit.TheVariants.{OfLog}
use Rattle.relation_commands.specs.declared.error.Crowding.{Crowding}
use Rattle.relation_commands.specs.declared.error.ToolError.{ToolError}
use Rattle.relation_commands.specs.declared.error.ToolError.TheVariants.{Usage, Crowded, Missing}
use Rattle.relation_commands.specs.declared.error.ToolError.TheVariants.{ReadFault, WriteFault}
use Rattle.relation_commands.specs.declared.error.ToolError.TheVariants.{LogFault, OutFault, Memory}
use Rattle.relation_commands.specs.declared.error.ToolError.TheVariants.{OverLimit, BadLog}

abbrev pub status_of_error : ToolError → ℕ
status_of_error Usage = 1
status_of_error (Crowded crowding) = 2
status_of_error (Missing path) = 3
status_of_error ReadFault = 4
status_of_error WriteFault = 5
status_of_error LogFault = 6
status_of_error OutFault = 7
status_of_error Memory = 8
status_of_error (OverLimit limit) = 9
status_of_error (BadLog path) = 10

abbrev pub status_of : {T : Type 0} → Result T ToolError → ℕ
status_of (Ok done) = 0
status_of (Err error) = status_of_error error

abbrev pub crowding_text : Crowding → List ℕ
crowding_text c =
    joined (decimal c.backends ∷ codes " backends, " ∷ decimal c.frames ∷ codes " frames" ∷ [])

abbrev pub usage_text : List ℕ
usage_text = codes "usage: scan PATH, dump PATH, rewrite PATH --log FILE, sample SEED BLOCKS"

abbrev pub crowded_text : Crowding → List ℕ
crowded_text crowding = codes "crowded: " ++ crowding_text crowding

abbrev pub missing_text : List ℕ → List ℕ
missing_text path = codes "missing: " ++ path

abbrev pub bad_log_text : List ℕ → List ℕ
bad_log_text path = codes "bad log: " ++ path

-- a position of a page and the number of blocks, or the log's end, or the log's end alone
abbrev pub position_limit_text : PositionLimit → List ℕ
position_limit_text (OfPages page blocks) =
    joined (codes "page " ∷ position_text page ∷ codes ", blocks " ∷ decimal blocks ∷ [])
position_limit_text (OfPage lsn end) =
    joined (codes "page " ∷ position_text lsn ∷ codes ", end " ∷ position_text end ∷ [])
position_limit_text (OfLog end) = codes "end " ++ position_text end

abbrev pub limit_text : PositionLimit → List ℕ
limit_text limit = codes "log position limit: " ++ position_limit_text limit

abbrev pub error_text : ToolError → List ℕ
error_text Usage = usage_text
error_text (Crowded crowding) = crowded_text crowding
error_text (Missing path) = missing_text path.now
error_text ReadFault = codes "read fault"
error_text WriteFault = codes "write fault"
error_text LogFault = codes "log fault"
error_text OutFault = codes "output fault"
error_text Memory = codes "out of memory"
error_text (OverLimit limit) = limit_text limit
error_text (BadLog path) = bad_log_text path.now

-- a line of the tool on the error stream
abbrev pub tool_line : List ℕ → List ℕ
tool_line text = joined (codes "page_tool: " ∷ text ∷ codes "\n" ∷ [])

abbrev pub error_line : ToolError → List ℕ
error_line error = tool_line (error_text error)

-- what a host's refusal of a path means to the tool, and that of a log
abbrev pub host_error : HostError → Bor (List ℕ) → ToolError
host_error host.Missing path = Missing path
host_error host.Failed path = ReadFault
host_error host.Memory path = Memory

abbrev pub log_error : LogOpen → RewriteError
log_error opening.Failed = rewrite.LogFault
log_error opening.Memory = rewrite.Memory

-- what the end of a listing means to the tool, and that of a rewrite
abbrev pub listing_tool_error : ListingError → ToolError
listing_tool_error listing.ReadFault = ReadFault
listing_tool_error listing.OutFault = OutFault
listing_tool_error listing.Memory = Memory

abbrev pub rewrite_tool_error : RewriteError → ToolError
rewrite_tool_error rewrite.ReadFault = ReadFault
rewrite_tool_error rewrite.WriteFault = WriteFault
rewrite_tool_error rewrite.LogFault = LogFault
rewrite_tool_error rewrite.OutFault = OutFault
rewrite_tool_error rewrite.Memory = Memory
rewrite_tool_error (rewrite.OverLimit limit) = OverLimit limit

-- what the end of a recovery by the log at a path means to the tool
abbrev pub recover_tool_error : RecoverError → Bor (List ℕ) → ToolError
recover_tool_error recovery.BadLog path = BadLog path
recover_tool_error recovery.ReadFault path = ReadFault
recover_tool_error recovery.WriteFault path = WriteFault
recover_tool_error recovery.Memory path = Memory
