-- The whole law: what holds in every state that events lead to.
use Rattle.history_core.specs.State.{State}
use Rattle.history_core.specs.Invariant.{HistoryInvariant}
use Rattle.history_core.specs.Causes.{MarksLaw}
use Rattle.history_core.specs.Counts.{CountsLaw}
use Rattle.history_core.specs.Debts.{DebtsLaw}
use Rattle.history_core.specs.Rest.{RestLaw}
use Rattle.history_core.specs.Outings.{OutingsLaw}
use Rattle.history_core.specs.Spent.{SpentLaw}
use Rattle.history_core.specs.Ends.{EndsLaw}
use Rattle.history_core.specs.Sound.{SoundLaw}
use Rattle.history_core.specs.Trail.{TrailLaw}
use Rattle.history_core.specs.Counters.{CountersLaw}
use Rattle.history_core.specs.Hints.{HintsLaw}
use Rattle.history_core.specs.Histories.{IsReached}
use Rattle.history_core.specs.Swept.{SweptLaw}
use Rattle.history_core.specs.Redo.{RedoLaw}

-- The whole law: what holds in every state that events lead to
pub record Laws (s : State) : Type 0 where
  -- some list of events leads to the state, from the start of a buffer pool
  pub reached : IsReached s
  -- the law of pins, headers, tags, maps, forks' sizes, content locks, pages, lanes, the log and
  -- the calls
  pub invariant : HistoryInvariant s
  -- the law of what must have happened before there can be a fault of writing: unless a view has
  -- marked a frame dirty or synced a lane, no frame is dirty, no block's last write failed, and no
  -- view has had an output right, counts a failed write or sync, or has one out
  pub marks : MarksLaw s
  -- the law of the faults that backends count, and of the devices' counts
  pub counts : CountsLaw s
  -- the law of what checkpoints have still to write
  pub debts : DebtsLaw s
  -- the law of what follows the log on its device
  pub rest : RestLaw s
  -- the law of the log's device while it is out: until its holder's call it is as it went out
  pub outings : OutingsLaw s
  -- the law of backends that were joined into the first: their views have no call, no fault
  -- counted, no latch, lock or right
  pub spent : SpentLaw s
  -- the law of the blocks whose pages were sound at the start
  pub sound : SoundLaw s
  -- the law of the log ends that backends have seen: none is beyond the log's end
  pub ends : EndsLaw s
  -- the law of the state words, the hand and the flushed position, which the views fix
  pub trail : TrailLaw s
  -- the law of the hint words, which name frames that are there, and which the views fix
  pub hints : HintsLaw s
  -- the law of the counters, which the views fix
  pub counters : CountersLaw s.counter s.pool.core.views
  -- the law of what the lanes' syncs have covered
  pub swept : SweptLaw s
  -- the law of the redo position, which the views fix, and of what entries of ranges follow
  pub redo : RedoLaw s
