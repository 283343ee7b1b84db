-- What holds of each step of a flush, and of two steps if of each, holds of a flush.
use Rattle.std.proofs.Common.{◌≡◌, ℕ, Bool, sym, subst}
use Rattle.pin_core.specs.declared.view.View.{View}
use Rattle.history_core.specs.Device.{LogKind, log_out}
use Rattle.table_rule.specs.declared.turn.Turn.TheVariants.{Log}
use Rattle.frame_table.specs.WordSteps.{DidWord, load_end, load_flushed, raise_flushed}
use Rattle.frame_table.specs.LogWork.{DidLog, DidTwo}
use Rattle.frame_table.specs.Latches.{DidTurn}
use Rattle.wal_flush.specs.declared.flushes.FlushedBy.{FlushedBy}
use Rattle.wal_flush.specs.declared.flushes.FlushLog.{FlushLog}
use Rattle.wal_flush.specs.declared.flushes.FlushLog.TheVariants as flush_log
use Rattle.wal_flush.specs.Latched.{FindsDown, GoesOutUp, Opens, UnderLatch}
use Rattle.wal_flush.specs.Flushes.{Awaits, Flushed, Flushes, FlushRefused, FlushWork, HolderRefused, LoadsBelow, SeesFlushed, StillUnflushed, SyncRefused, SyncsLog, Tries, WasFlushed, still, again, already, meanwhile, by_sync}

-- The relation holds of the steps at the log, and of steps one after another
pub record HoldsOfLogSteps (R : View → View → Type 0) : Type 0 where
  pub none : (v : View) → R v v
  pub on : (v u w : View) → R v u → R u w → R v w
  pub log : (k : LogKind) (v w : View) → DidLog k v w → R v w
  pub turn : (takes : Bool) (v w : View) → DidTurn takes Log v w → R v w
  pub end : (found : ℕ) (v w : View) → DidWord load_end v w found → R v w
  pub flushed : (found : ℕ) (v w : View) → DidWord load_flushed v w found → R v w
  pub raised : (found : ℕ) (v w : View) → DidWord raise_flushed v w found → R v w

module _ (R : View → View → Type 0) (steps : HoldsOfLogSteps R) where
  pub of_same : (v w : View) → w ≡ v → R v w
  of_same v w e = subst (R v) (sym e) (steps.none v)

  pub of_two : (j k : LogKind) (v w : View) → DidTwo j k v w → R v w
  of_two j k v w d = steps.on v d.between w (steps.log j v d.between d.first) (steps.log k d.between w d.second)

  -- under the log's latch
  pub of_opening : (end : ℕ) (v w : View) → Opens end v w → R v w
  of_opening end v w o = steps.on v o.held w (steps.turn _ v o.held o.takes) (steps.end end o.held w o.loads)

  pub of_latched : (end : ℕ) (Work : View → View → Type 0) (v w : View) (u : UnderLatch end Work v w) → R u.loaded u.worked → R v w
  of_latched end Work v w u work = steps.on v u.loaded w (of_opening end v u.loaded u.opens) (steps.on u.loaded u.worked w work (steps.turn _ u.worked w u.leaves))

  pub of_out : (v w : View) → GoesOutUp v w → R v w
  of_out v w g = steps.log (log_out g.taken) v w g.did

  pub of_down : (at : ℕ) (v w : View) → FindsDown at v w → R v w
  of_down at v w d = steps.on v d.out w (of_two _ _ v d.out d.went) (steps.log _ d.out w d.back)

  -- a flush
  of_seen : (lsn : ℕ) (v w : View) → SeesFlushed lsn v w → R v w
  of_seen lsn v w s = steps.flushed s.found v w s.did

  of_loads : (lsn : ℕ) (v w : View) → LoadsBelow lsn v w → R v w
  of_loads lsn v w still = steps.none v
  of_loads lsn v w (again {u = u} before s) = steps.on v u w (of_loads lsn v u before) (steps.flushed s.found u w s.did)

  of_awaited : (lsn : ℕ) (v w : View) → Awaits lsn v w → R v w
  of_awaited lsn v w a = steps.on v a.last w (of_loads lsn v a.last a.waits) (of_seen lsn a.last w a.sees)

  of_synced : (v w : View) → SyncsLog v w → R v w
  of_synced v w s = steps.on v s.out w (of_out v s.out s.went) (steps.on s.out s.home w (of_two _ _ s.out s.home s.syncs) (steps.raised s.found s.home w s.raises))

  of_unflushed : (lsn end : ℕ) (Work : View → View → Type 0) (v w : View) (s : StillUnflushed lsn end Work v w) → R s.looked w → R v w
  of_unflushed lsn end Work v w s work = steps.on v s.looked w (steps.flushed s.second.found v s.looked s.second.did) work

  of_refusal : (lsn end : ℕ) (why : FlushLog) (v w : View) → HolderRefused lsn end why v w → R v w
  of_refusal lsn end (flush_log.LogShort l e) v w r = of_same v w r.3
  of_refusal lsn end (flush_log.LogDown at) v w r = of_unflushed lsn end (SyncRefused end (flush_log.LogDown at)) v w r (of_down at r.looked w r.work.1)
  of_refusal lsn end flush_log.LogFault v w r = let a = r.work in of_unflushed lsn end (SyncRefused end flush_log.LogFault) v w r (steps.on r.looked a.out w (of_out r.looked a.out a.went) (of_two _ _ a.out w a.fails))

  of_tried : (lsn end : ℕ) (Work : View → View → Type 0) (v w : View) (t : Tries lsn end Work v w) → R t.work.loaded t.work.worked → R v w
  of_tried lsn end Work v w t work = steps.on v t.looked w (steps.flushed t.first.found v t.looked t.first.did) (of_latched end Work t.looked w t.work work)

  of_found : (lsn : ℕ) (v w : View) → WasFlushed lsn v w → R v w
  of_found lsn v w b = let u = b.tried.work in of_tried lsn b.end _ v w b.tried (of_seen lsn u.loaded u.worked u.work.sees)

  of_sync : (lsn : ℕ) (v w : View) → Flushes lsn v w → R v w
  of_sync lsn v w b = let u = b.tried.work in steps.on v b.synced w
      (of_tried lsn b.end _ v b.synced b.tried (of_unflushed lsn b.end SyncsLog u.loaded u.worked u.work (of_synced u.work.looked u.worked u.work.work)))
      (of_awaited lsn b.synced w b.awaits)

  of_work : (lsn : ℕ) (v w : View) (by : FlushedBy) → FlushWork lsn v w by → R v w
  of_work lsn v w by (already s) = of_seen lsn v w s
  of_work lsn v w by (meanwhile b) = of_found lsn v w b
  of_work lsn v w by (by_sync b) = of_sync lsn v w b

  pub of_flush : (lsn : ℕ) (v w : View) → Flushed lsn v w → R v w
  of_flush lsn v w f = of_work lsn v w f.by f.work

  pub of_refused : (lsn : ℕ) (why : FlushLog) (v w : View) → FlushRefused lsn v w why → R v w
  of_refused lsn why v w (end, t) = of_tried lsn end (HolderRefused lsn end why) v w t (of_refusal lsn end why t.work.loaded t.work.worked t.work.work)
