-- What a lane's calls were.
use Rattle.std.specs.Prelude.{ℕ, true}
use Rattle.byte_devices.specs.Calls.{calls_counted}
use Rattle.segment_store.specs.Contents.{Marks, no_marks, with_mark}
use Rattle.segment_store.specs.declared.history.LaneHistory.{LaneHistory}
use Rattle.segment_store.specs.declared.history.WrittenTags.{WrittenTags}
use Rattle.segment_store.specs.declared.history.WrittenTags.TheVariants.{None, More'}

-- the tags that are listed
abbrev pub listed : WrittenTags → Marks
listed None = no_marks
listed (More' tag shape others) = with_mark tag true (listed others)

-- how many calls there were
abbrev pub calls_in : LaneHistory → ℕ
calls_in history = calls_counted history.calls

-- the tags that were written since the last sync that succeeded
abbrev pub unsynced_in : LaneHistory → Marks
unsynced_in history = listed history.written
