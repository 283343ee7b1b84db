use Rattle.std.proofs.Common.{ap, subst}
use Rattle.pin_core.specs.declared.view.View.{View}
use Rattle.wal_flush.specs.declared.flushes.FlushedBy.{FlushedBy}
use Rattle.wal_flush.specs.Flushes.{HolderFlushed}
use Rattle.wal_flush.proofs.Rising.{flush_rises, unflushed_rises}
use Rattle.wal_flush.proofs.Views.{flushes, flushed_work, logged_on, sees, short_of, unflushed, unflushed_sees, unflushed_work, was_flushed}
use Rattle.wal_flush.proofs.flushes.flush_to.Goals as goal

pub returns-then-lsn-load_flushed-clause-did : goal.returns-then-lsn-load_flushed-clause-did
returns-then-lsn-load_flushed-clause-did g c = sees _ _ _ record { found = c.load_flushed.result; did = c.load_flushed.ensures.did; enough = c.if-lsn-load_flushed.true }

pub returns-then-lsn-load_flushed-clause-rises : goal.returns-then-lsn-load_flushed-clause-rises
returns-then-lsn-load_flushed-clause-rises g c = flush_rises _ _ _ (returns-then-lsn-load_flushed-clause-did g c)

pub returns-in-NoSync-clause-did : goal.returns-in-NoSync-clause-did
returns-in-NoSync-clause-did g c = let h = c.flush_held-result.new.seat.me.0 in was_flushed _ _ _ record {
  end = c.take_end-end.result;
  tried = record {
    looked = c.load_flushed.new.seat.me.0;
    first = record { found = c.load_flushed.result; did = c.load_flushed.ensures.did; before = c.if-lsn-load_flushed.false };
    work = record {
      loaded = c.take_end-end.new.seat.me.0;
      worked = h;
      opens = c.take_end-end.ensures.did;
      work = subst (λ (by : FlushedBy). HolderFlushed c.args.lsn c.take_end-end.result by c.take_end-end.new.seat.me.0 h) c.in-NoSync.is c.in-Ok.ensures.flushed;
      leaves = c.leave_turn.ensures.did;
    };
  };
} c.requires.free

pub returns-in-OneSync-clause-did : goal.returns-in-OneSync-clause-did
returns-in-OneSync-clause-did g c = let h = c.flush_held-result.new.seat.me.0 in flushes _ _ _ record {
  end = c.take_end-end.result;
  synced = c.leave_turn.new.seat.me.0;
  tried = record {
    looked = c.load_flushed.new.seat.me.0;
    first = record { found = c.load_flushed.result; did = c.load_flushed.ensures.did; before = c.if-lsn-load_flushed.false };
    work = record {
      loaded = c.take_end-end.new.seat.me.0;
      worked = h;
      opens = c.take_end-end.ensures.did;
      work = subst (λ (by : FlushedBy). HolderFlushed c.args.lsn c.take_end-end.result by c.take_end-end.new.seat.me.0 h) c.in-OneSync.is c.in-Ok.ensures.flushed;
      leaves = c.leave_turn.ensures.did;
    };
  };
  awaits = c.await_flushed.ensures.did;
} c.requires.free

pub returns-in-Err-clause-cause : goal.returns-in-Err-clause-cause
returns-in-Err-clause-cause g c = (
  c.take_end-end.result,
  record {
    looked = c.load_flushed.new.seat.me.0;
    first = record { found = c.load_flushed.result; did = c.load_flushed.ensures.did; before = c.if-lsn-load_flushed.false };
    work = record { loaded = c.take_end-end.new.seat.me.0; worked = c.flush_held-result.new.seat.me.0; opens = c.take_end-end.ensures.did; work = c.in-Err.ensures.cause; leaves = c.leave_turn.ensures.did };
  },
)

pub returns-in-Err-clause-left : goal.returns-in-Err-clause-left
unfolding returns-in-Err-clause-cause
returns-in-Err-clause-left g c = unflushed _ c.take_end-end.result _ _ _ (returns-in-Err-clause-cause g c).1 c.requires.free

pub returns-in-NoSync-clause-work : goal.returns-in-NoSync-clause-work
returns-in-NoSync-clause-work g c = let d = returns-in-NoSync-clause-did g c in flushed_work d.by _ _ d.view

pub returns-in-OneSync-clause-work : goal.returns-in-OneSync-clause-work
returns-in-OneSync-clause-work g c = let d = returns-in-OneSync-clause-did g c in flushed_work d.by _ _ d.view

pub returns-in-Err-clause-work : goal.returns-in-Err-clause-work
returns-in-Err-clause-work g c = unflushed_work _ _ _ (returns-in-Err-clause-left g c)

pub returns-in-Err-clause-seen : goal.returns-in-Err-clause-seen
returns-in-Err-clause-seen g c = unflushed_sees _ _ _ _ (returns-in-Err-clause-cause g c)

pub returns-in-Err-clause-short : goal.returns-in-Err-clause-short
unfolding returns-in-Err-clause-cause
returns-in-Err-clause-short g c = short_of g.L.BlockLane.contents c.args.table.now _ c.take_end-end.result _ _ _ (returns-in-Err-clause-cause g c).1 (logged_on g.L.BlockLane.contents c.args.table.now _ c.args.seat.now.me.0 c.load_flushed.new.seat.me.0 (ap (λ (x : View). x.links) c.load_flushed.ensures.view) c.take_end-end.ensures.logged)

pub returns-in-NoSync-clause-view : goal.returns-in-NoSync-clause-view
returns-in-NoSync-clause-view g c = let d = returns-in-NoSync-clause-did g c in (d.by, d.view)

pub returns-in-NoSync-clause-rises : goal.returns-in-NoSync-clause-rises
returns-in-NoSync-clause-rises g c = flush_rises _ _ _ (returns-in-NoSync-clause-did g c)

pub returns-in-OneSync-clause-view : goal.returns-in-OneSync-clause-view
returns-in-OneSync-clause-view g c = let d = returns-in-OneSync-clause-did g c in (d.by, d.view)

pub returns-in-OneSync-clause-rises : goal.returns-in-OneSync-clause-rises
returns-in-OneSync-clause-rises g c = flush_rises _ _ _ (returns-in-OneSync-clause-did g c)

pub returns-in-Err-clause-rises : goal.returns-in-Err-clause-rises
returns-in-Err-clause-rises g c = unflushed_rises _ _ _ _ (returns-in-Err-clause-cause g c)
