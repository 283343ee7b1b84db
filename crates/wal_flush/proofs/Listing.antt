-- A flush of the log lists loads and changes of words of no frame.
use Rattle.std.proofs.Common.{ℕ, Bool, ap}
use Rattle.pin_core.specs.declared.view.LoadedWord.TheVariants as seen
use Rattle.pin_core.specs.declared.view.View.{View}
use Rattle.pin_core.specs.Kinds.{load_of}
use Rattle.history_core.specs.Device.{LogKind}
use Rattle.table_rule.specs.declared.turn.Turn.TheVariants.{Log}
use Rattle.frame_table.specs.WordSteps.{DidWord, load_end, load_flushed, raise_flushed}
use Rattle.frame_table.specs.LogWork.{DidLog}
use Rattle.frame_table.specs.Latches.{DidTurn}
use Rattle.frame_table.specs.Seats.{ListsOnly}
use Rattle.frame_table.proofs.Told.{lists_load, lists_none, lists_on, lists_same}
use Rattle.wal_flush.specs.declared.flushes.FlushLog.{FlushLog}
use Rattle.wal_flush.specs.Flushes.{Flushed, FlushRefused}
use Rattle.wal_flush.proofs.LogWalks.{HoldsOfLogSteps, of_flush, of_refused}

module _ (f : ℕ) where
  log_lists : (k : LogKind) (v w : View) → DidLog k v w → ListsOnly f v w
  log_lists k v w d = lists_same f v w (ap (λ (x : View). x.loads) d.after) (ap (λ (x : View). x.changes) d.after)

  turn_lists : (takes : Bool) (v w : View) → DidTurn takes Log v w → ListsOnly f v w
  turn_lists takes v w d = lists_same f v w (ap (λ (x : View). x.loads) d.after) (ap (λ (x : View). x.changes) d.after)

  end_lists : (found : ℕ) (v w : View) → DidWord load_end v w found → ListsOnly f v w
  end_lists found v w d = lists_load f (load_of v (seen.LogEnd found)) v w tt (ap (λ (x : View). x.loads) d.after) (ap (λ (x : View). x.changes) d.after)

  pub flushed_lists : (found : ℕ) (v w : View) → DidWord load_flushed v w found → ListsOnly f v w
  flushed_lists found v w d = lists_load f (load_of v (seen.Flushed found)) v w tt (ap (λ (x : View). x.loads) d.after) (ap (λ (x : View). x.changes) d.after)

  raise_lists : (found : ℕ) (v w : View) → DidWord raise_flushed v w found → ListsOnly f v w
  raise_lists found v w d = lists_same f v w (ap (λ (x : View). x.loads) d.after) (ap (λ (x : View). x.changes) d.after)

  listing : HoldsOfLogSteps (ListsOnly f)
  listing = record { none = lists_none f; on = lists_on f; log = log_lists; turn = turn_lists; end = end_lists; flushed = flushed_lists; raised = raise_lists }

  pub flush_lists : (lsn : ℕ) (v w : View) → Flushed lsn v w → ListsOnly f v w
  flush_lists = of_flush (ListsOnly f) listing

  pub unflushed_lists : (lsn : ℕ) (why : FlushLog) (v w : View) → FlushRefused lsn v w why → ListsOnly f v w
  unflushed_lists = of_refused (ListsOnly f) listing
