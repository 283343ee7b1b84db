-- What is done under the log's latch.
use Rattle.std.specs.Prelude.{◌≡◌, ℕ, ◌+◌, true, false, List, [], Some, None}
use Rattle.pin_core.specs.declared.view.LogHold.{LogHold}
use Rattle.pin_core.specs.declared.view.TakenLog.{TakenLog}
use Rattle.pin_core.specs.declared.view.TornRecord.{TornRecord}
use Rattle.pin_core.specs.declared.view.View.{View}
use Rattle.pin_core.specs.State.{no_log}
use Rattle.history_core.specs.Device.{log_out, log_back, see_down}
use Rattle.table_rule.specs.declared.turn.Turn.TheVariants.{Log}
use Rattle.frame_table.specs.WordSteps.{DidWord, load_end}
use Rattle.frame_table.specs.LogWork.{DidLog, DidTwo}
use Rattle.frame_table.specs.Latches.{DidTurn}

-- The view v became w: the log's latch was taken, and the log's end loaded as `end`
pub record Opens (end : ℕ) (v w : View) : Type 0 where
  pub held : View
  pub takes : DidTurn true Log v held
  pub loads : DidWord load_end held w end

-- The log's latch was taken, and the log's end loaded; then this was done, and the latch was left
pub record UnderLatch (end : ℕ) (Work : View → View → Type 0) (v w : View) : Type 0 where
  pub loaded : View
  pub worked : View
  pub opens : Opens end v loaded
  pub work : Work loaded worked
  pub leaves : DidTurn false Log worked w

-- what a view has of the latch once it has taken it and loaded the end
abbrev pub opened_log : ℕ → LogHold
opened_log end = record no_log { held = true; end = Some end }

-- The log went out, and wasn't down
pub record GoesOutUp (v w : View) : Type 0 where
  pub taken : TakenLog
  pub up : taken.down ≡ None
  pub did : DidLog (log_out taken) v w

-- The log went out and came back without a call: it was down, with the mark `at`
pub record FindsDown (at : ℕ) (v w : View) : Type 0 where
  pub out : View
  pub taken : TakenLog
  pub down : taken.down ≡ Some at
  pub went : DidTwo (log_out taken) see_down v out
  pub back : DidLog (log_back false) out w

-- the view v, with the steps and loads that w counts, the log end that w has seen, and the records
-- that it failed to append
abbrev pub as_counted : View → View → View
as_counted v w = record v { steps = w.steps; loads = w.loads; end_seen = w.end_seen; torn = w.torn }

-- the view with these records that it failed to append
abbrev pub with_torn : List TornRecord → View → View
with_torn xs v = record v { torn = xs }

-- a view that saw the log down, and one that counts a fault of it more
abbrev pub downed : View → View
downed v = record v { saw_down = true }

abbrev pub faulted : View → View
faulted v = record (downed v) { met = record v.met { logs = v.met.logs + 1 } }

-- What a call of the log leaves of a view, but where an entry is made: all but what it lists and
-- counts of steps and loads, the log end and the flushed position that it saw, where it raised that
-- position to, its calls of devices, and the faults that it met
abbrev pub kept_of : View → View
kept_of v = record v {
  steps = 0;
  loads = [];
  end_seen = 0;
  flushed = 0;
  raised_to = 0;
  device_calls = [];
  met = record { reads = 0; writes = 0; logs = 0 };
  saw_down = false;
}

abbrev pub KeepsWork : View → View → Type 0
KeepsWork v w = kept_of w ≡ kept_of v
