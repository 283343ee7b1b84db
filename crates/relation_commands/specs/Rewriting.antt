-- What a rewrite leaves of the lanes and the log that it is given, and why it ends before its end.
use Rattle.std.specs.Prelude.{◌≡◌, ◌≢◌, ◌<◌, ◌≤◌, ℕ, ◌+◌, Bool, true, false, All, List, [], length}
use Rattle.std.specs.Prelude.{map, sum_by, Option, Some, Result, IfErr, IfOk, OnOk, MatchResult}
use Rattle.std.specs.Prelude.{is_some}
use Rattle.segment_store.specs.Contents.{Marks, Pages}
use Rattle.segment_store.specs.Lanes.{HoldPages, mark_in, tag_at}
use Rattle.segment_store.specs.Restored.{pages_in}
use Rattle.byte_devices.specs.Faults.{Rose}
use Rattle.page_layout.specs.declared.outcomes.RewriteTotals.{RewriteTotals}
use Rattle.page_layout.specs.Outcomes.{rewrite_totals_of}
use Rattle.pin_core.specs.State.{Page}
use Rattle.history_core.specs.Log.{record_size}
use Rattle.history_core.specs.State.{last_position}
use Rattle.checkpointer.specs.declared.ending.CheckpointError.{CheckpointError}
use Rattle.checkpointer.specs.declared.ending.CheckpointError.TheVariants as checkpoint
use Rattle.page_jobs.specs.declared.ending.JobError.{JobError}
use Rattle.page_jobs.specs.declared.ending.JobError.TheVariants as job
use Rattle.page_jobs.specs.declared.ending.Totals.{Totals}
use Rattle.page_jobs.specs.Rewrites.{rule_of}
use Rattle.relation_commands.specs.declared.limits.PositionLimit.TheVariants.{OfPages, OfPage}
use Rattle.relation_commands.specs.declared.limits.PositionLimit.TheVariants.{OfLog}
use Rattle.relation_commands.specs.declared.rewriting.RewriteError.{RewriteError}
use Rattle.relation_commands.specs.declared.rewriting.RewriteError.TheVariants.{ReadFault}
use Rattle.relation_commands.specs.declared.rewriting.RewriteError.TheVariants.{WriteFault}
use Rattle.relation_commands.specs.declared.rewriting.RewriteError.TheVariants.{LogFault, OutFault}
use Rattle.relation_commands.specs.declared.rewriting.RewriteError.TheVariants.{Memory, OverLimit}
use Rattle.relation_commands.specs.declared.starting.RelationFork.{RelationFork}
use Rattle.relation_commands.specs.Limits.{largest_lsn}
use Rattle.relation_commands.specs.RewriteResults.{IsRewrittenFile, LeavesEither}
use Rattle.relation_commands.specs.Starting.{names_of}

-- what the end of a job means to a rewrite, and that of a checkpoint
abbrev pub rewrite_error : JobError → RewriteError
rewrite_error (job.ReadFault tag) = ReadFault
rewrite_error (job.WriteFault tag) = WriteFault
rewrite_error job.LogFault = LogFault
rewrite_error (job.LogDown at) = LogFault
rewrite_error (job.LogShort lsn end) = OverLimit (OfPage lsn end)
rewrite_error (job.LogFull end) = OverLimit (OfLog end)
rewrite_error job.OutFault = OutFault
rewrite_error job.Memory = Memory

abbrev pub checkpoint_error : CheckpointError → RewriteError
checkpoint_error (checkpoint.WriteFault tag) = WriteFault
checkpoint_error checkpoint.LogFault = LogFault
checkpoint_error (checkpoint.LogDown at) = LogFault
checkpoint_error (checkpoint.LogShort lsn end) = OverLimit (OfPage lsn end)
checkpoint_error (checkpoint.SyncFault lane) = WriteFault

-- the totals of a rewrite among those of a job
abbrev pub rewrite_totals_in : Totals → RewriteTotals
rewrite_totals_in t = record {
  blocks = t.blocks;
  changed = t.changed;
  same = t.same;
  skipped = t.skipped;
  new = t.new;
  invalid = t.invalid;
  dead = t.dead;
}

-- a fault is one of the lanes, which had none at first, or of the log; a position is past the log's
-- end, or a record would pass the last position
abbrev pub IsRewriteCause : ℕ → ℕ → ℕ → ℕ → RewriteError → Type 0
IsRewriteCause reads writes logs logs_now ReadFault = 0 < reads
IsRewriteCause reads writes logs logs_now WriteFault = 0 < writes
IsRewriteCause reads writes logs logs_now LogFault = Rose logs logs_now
IsRewriteCause reads writes logs logs_now OutFault = ⊥
IsRewriteCause reads writes logs logs_now Memory = Unit {0}
IsRewriteCause reads writes logs logs_now (OverLimit (OfPages largest blocks)) = ⊥
IsRewriteCause reads writes logs logs_now (OverLimit (OfPage lsn end)) = end < lsn
IsRewriteCause reads writes logs logs_now (OverLimit (OfLog end)) =
    last_position < end + record_size

-- No fault was counted if all went well; the log's count never falls
pub record HasRewriteCause (reads writes logs logs_now : ℕ)
    (end : Result RewriteTotals RewriteError) : Type 0 where
  pub logs_later : logs ≤ logs_now
  pub cause : MatchResult end (λ _. (reads ≡ 0) × (writes ≡ 0) × (logs_now ≡ logs))
      (IsRewriteCause reads writes logs logs_now)

-- the refusals that don't come from positions
abbrev pub HasPositionsLeft : RewriteError → Type 0
HasPositionsLeft (OverLimit limit) = ⊥
HasPositionsLeft ReadFault = Unit {0}
HasPositionsLeft WriteFault = Unit {0}
HasPositionsLeft LogFault = Unit {0}
HasPositionsLeft OutFault = Unit {0}
HasPositionsLeft Memory = Unit {0}

module _ {L : Type 0} (contents : L → Option Pages) where
  -- these are the pages of the fork, which the lanes have
  pub record HavePages (r : RelationFork) (lanes : List L) (pages : List Page) : Type 0 where
    pub held : HoldPages r.fork pages (map contents lanes)
    pub counted : r.blocks ≡ length pages

  -- These are its pages, the contents of all lanes are known, and no page is past the log's
  -- beginning
  pub record ArePages (r : RelationFork) (base : ℕ) (lanes : List L)
      (pages : List Page) : Type 0 where
    pub have : HavePages r lanes pages
    pub known : All (λ lane. is_some (contents lane) ≡ true) lanes
    pub within : largest_lsn pages ≤ base

  -- the pages as lanes have them, of which these were the pages before
  abbrev pub pages_after : RelationFork → List L → List Page → List Page
  pages_after r lanes pages = pages_in r.fork (map contents lanes) 0 pages

-- the marks of the blocks whose last write failed
abbrev pub failed_after : {L : Type 0} → (L → Marks) → RelationFork → List L → ℕ → Bool
failed_after failed r lanes block = mark_in (map failed lanes) (tag_at r.fork block)

module _ {L G : Type 0} (contents : L → Option Pages) (failed : L → Marks)
    (bytes : G → Option (List ℕ)) (synced : G → ℕ)
    (write_faults : L → ℕ) (log_faults : G → ℕ) where
  -- What a rewrite leaves of the lanes and of the log
  pub record LeavesRewritten (r : RelationFork) (base : ℕ) (lanes lanes' : List L) (log' : G)
      (end : Result RewriteTotals RewriteError) : Type 0 where
    -- something follows the log's bytes only if a call of the log failed
    pub either : (pages : List Page) (known : List ℕ) → ArePages contents r base lanes pages
        → bytes log' ≡ Some known
        → (x : LeavesEither (rule_of 0 r.fork) (names_of r) base pages
        (pages_after contents r lanes' pages) (failed_after failed r lanes')
        (record { bytes = known; synced = synced log' }))
        × (x.begins.rest ≢ [] → 0 < log_faults log')
    -- if a block's last write failed, a lane counts it
    pub marked : (pages : List Page) → ArePages contents r base lanes pages → (block : ℕ)
        → block < r.blocks
        → failed_after failed r lanes' block ≡ true → 0 < sum_by write_faults lanes'
    pub whole : IfOk end
        (λ totals. (pages : List Page) (known : List ℕ) → ArePages contents r base lanes pages
        → bytes log' ≡ Some known
        → IsRewrittenFile (rule_of 0 r.fork) (names_of r) base pages
        (pages_after contents r lanes' pages) (record { bytes = known; synced = synced log' }))
    pub totals : IfOk end
        (λ totals. (pages : List Page) → ArePages contents r base lanes pages
        → totals ≡ rewrite_totals_of pages)
    -- each block of the relation is still in its lane
    pub held : (pages : List Page) → ArePages contents r base lanes pages
        → HoldPages r.fork (pages_after contents r lanes' pages) (map contents lanes')
    pub unfailed : OnOk end
        ((pages : List Page) → ArePages contents r base lanes pages → (block : ℕ) → block < r.blocks
        → failed_after failed r lanes' block ≡ false)
    -- no position is past the last one, or past the log's end
    pub positions : IfErr end
        (λ e. (pages : List Page) → ArePages contents r base lanes pages → HasPositionsLeft e)
