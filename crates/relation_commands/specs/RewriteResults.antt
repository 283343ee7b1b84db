-- What a rewrite makes of the pages of a relation and of its log.
use Rattle.std.specs.Prelude.{◌≡◌, ◌≢◌, ◌⊎◌, ℕ, ◌+◌, ◌*◌, ◌<◌, ◌≤◌, Bool, true, false, All, List}
use Rattle.std.specs.Prelude.{[], ◌++◌, length, map, if◌then◌else◌}
use mathlib.Core.Option.{some}
use lib.ListN.{get_elem?}
use Rattle.byte_devices.specs.MemoryLog.{StoredLog}
use Rattle.page_layout.specs.Fields.{lsn_of}
use Rattle.page_layout.specs.Outcomes.{is_changed_outcome, page_rewrite_of}
use Rattle.page_layout.specs.Positions.{DifferInPositions}
use Rattle.page_layout.specs.Rewritten.{rewritten_page}
use Rattle.page_layout.specs.Soundness.{is_sound_page}
use Rattle.pin_core.specs.State.{Page}
use Rattle.history_core.specs.Log.{Entry, IsEntryOf, Log, LogLaw, end_of, head_size, log_bytes}
use Rattle.history_core.specs.Log.{log_end, record_bytes, record_size}
use Rattle.history_core.specs.State.{last_position}
use Rattle.page_jobs.specs.RewriteEnds.{HasEntry, IsPageEntry}
use Rattle.page_jobs.specs.Rewrites.{Rule}
use Rattle.relation_commands.specs.RewriteTexts.{changed_pages}

-- The entry is what the rule makes of one of the pages, which it changes
pub record IsImageOf (r : Rule) (pages : List Page) (e : Entry) : Type 0 where
  pub block : ℕ
  pub page : Page
  pub there : get_elem? pages block ≡ some page
  pub changes : r.changes page ≡ true
  pub entered : IsPageEntry e (r.tag block) (r.rewritten page (end_of e))

-- Each entry is such an image, and a block has one at most
pub record HasImages (r : Rule) (pages : List Page) (log : Log) : Type 0 where
  pub each : (k : ℕ) (e : Entry) → get_elem? log.entries k ≡ some e → IsImageOf r pages e
  pub one : (j k tag : ℕ) (d e : Entry) → IsEntryOf log.entries tag j d
      → IsEntryOf log.entries tag k e → j ≡ k

-- These are the first bytes of the record that would be the log's next one, of such an image, whose
-- block has no entry; `names` is how the log names a block
pub record BeginsNext (r : Rule) (names : ℕ → List ℕ) (pages : List Page) (log : Log)
    (bytes : List ℕ) : Type 0 where
  pub entry : Entry
  pub starts : entry.start ≡ log_end log
  pub room : end_of entry ≤ last_position
  pub image : IsImageOf r pages entry
  pub new : HasEntry log (r.tag image.block) → ⊥
  pub more : List ℕ
  pub begins : bytes ++ more ≡ record_bytes names entry

-- The bytes of the log's file begin with those of the log, and what a failure left after them
-- begins such a record
pub record BeginsWith (r : Rule) (names : ℕ → List ℕ) (pages : List Page) (log : Log)
    (file : StoredLog) : Type 0 where
  pub rest : List ℕ
  pub is_bytes : file.bytes ≡ log_bytes names log ++ rest
  pub begins : rest ≢ [] → BeginsNext r names pages log rest
  pub short : length rest ≤ record_size

-- the record of an entry is durable in the log's file
abbrev pub IsDurable : Log → StoredLog → Entry → Type 0
IsDurable log file e = head_size + end_of e ≤ log.base + file.synced

-- The log has an entry of the block, durable in its file, whose page is the new one: what the rule
-- makes of the old one
pub record HasDurableEntry (r : Rule) (log : Log) (file : StoredLog) (block : ℕ)
    (old new : Page) : Type 0 where
  pub made : HasEntry log (r.tag block)
  pub entered : IsPageEntry made.entry (r.tag block) new
  pub rewritten : new ≡ r.rewritten old (end_of made.entry)
  pub durable : IsDurable log file made.entry

-- each page has 8192 bytes
abbrev pub AreFull : List Page → Type 0
AreFull pages = All (λ page. length page ≡ 8192) pages

-- What any end of a rewrite leaves of the pages `before` and of the log: of a block whose last
-- write didn't fail the page is as before, or that of its entry
pub record LeavesEither (r : Rule) (names : ℕ → List ℕ) (base : ℕ) (before after : List Page)
    (failed : ℕ → Bool) (file : StoredLog) : Type 0 where
  pub log : Log
  pub law : LogLaw log
  pub based : log.base ≡ base
  -- it ends at the last position or before it
  pub low : log_end log ≤ last_position
  pub begins : BeginsWith r names before log file
  pub images : HasImages r before log
  pub counted : length after ≡ length before
  pub were_full : AreFull before
  pub full : AreFull after
  pub each : (block : ℕ) (old new : Page) → get_elem? before block ≡ some old
      → get_elem? after block ≡ some new → failed block ≡ false
      → (new ≡ old) ⊎ HasDurableEntry r log file block old new
  -- no page past the log's beginning is ahead of the durable log
  pub log_first : (block : ℕ) (old new : Page) → get_elem? before block ≡ some old
      → get_elem? after block ≡ some new → failed block ≡ false
      → is_sound_page new ≡ true → base < lsn_of new → HasDurableEntry r log file block old new

-- what a rewrite makes of a page, its log position aside
abbrev pub after_rewrite : Page → Page
after_rewrite page = if is_changed_outcome (page_rewrite_of page) then rewritten_page page else page

-- What a whole rewrite leaves: the file is that of the log, which has exactly one entry of each
-- block that the rule changes; such a block has the page of its entry, which is durable, and any
-- other block its page as before
pub record IsRewrittenFile (r : Rule) (names : ℕ → List ℕ) (base : ℕ) (before after : List Page)
    (file : StoredLog) : Type 0 where
  pub log : Log
  pub law : LogLaw log
  pub based : log.base ≡ base
  -- it ends at the last position or before it
  pub low : log_end log ≤ last_position
  pub is_bytes : file.bytes ≡ log_bytes names log
  pub images : HasImages r before log
  pub end : log_end log ≡ base + record_size * changed_pages before
  pub counted : length after ≡ length before
  pub full : AreFull after
  pub changed : (block : ℕ) (old new : Page) → get_elem? before block ≡ some old
      → get_elem? after block ≡ some new → r.changes old ≡ true
      → HasDurableEntry r log file block old new
  pub same : (block : ℕ) (old new : Page) → get_elem? before block ≡ some old
      → get_elem? after block ≡ some new → r.changes old ≡ false
      → (HasEntry log (r.tag block) → ⊥) × (new ≡ old)
  -- but for their log positions the pages are a function of those before, whatever the backends did
  pub alike : DifferInPositions (map after_rewrite before) after
