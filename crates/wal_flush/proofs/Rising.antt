-- What only rises, over inserts and flushes.
use Rattle.std.proofs.Common.{◌∙◌, ℕ, Bool, List, [], ◌∷◌, Result, Ok, Err, ap, arith}
use Rattle.std.proofs.lemmas.Bool.{or_left}
use Rattle.std.specs.Prelude.{IfOk, IfErr}
use Rattle.block_tag.specs.declared.tag.Tag.{Tag}
use Rattle.block_tag.specs.declared.catalogue.RelEntry.{RelEntry}
use Rattle.pin_core.specs.declared.view.LoadedWord.TheVariants as seen
use Rattle.pin_core.specs.declared.view.View.{View}
use Rattle.pin_core.specs.Kinds.{load_of}
use Rattle.pin_core.specs.State.{Page}
use Rattle.history_core.specs.Device.{LogKind}
use Rattle.table_rule.specs.declared.turn.Turn.TheVariants.{Log}
use Rattle.frame_table.specs.WordSteps.{DidWord, load_end, load_flushed, raise_flushed}
use Rattle.frame_table.specs.LogWork.{DidLog}
use Rattle.frame_table.specs.Latches.{DidTurn}
use Rattle.frame_table.specs.Seats.{OnlyRises}
use Rattle.frame_table.proofs.Rising.{grows_loads, grows_steps, listed_of, rises_by, rises_none, rises_on, rises_ticked}
use Rattle.frame_table.proofs.WordSteps.{flushed_below}
use Rattle.wal_flush.specs.declared.inserts.InsertError.{InsertError}
use Rattle.wal_flush.specs.declared.inserts.InsertError.TheVariants as insert_error
use Rattle.wal_flush.specs.declared.flushes.FlushLog.{FlushLog}
use Rattle.wal_flush.specs.Latched.{Opens}
use Rattle.wal_flush.specs.Inserts.{EnterRefused, Enters, InsertRefused, Inserts}
use Rattle.wal_flush.specs.Flushes.{Flushed, FlushRefused}
use Rattle.wal_flush.proofs.LogWalks.{HoldsOfLogSteps, of_down, of_flush, of_latched, of_opening, of_out, of_refused, of_same, of_two}

log_rises : (k : LogKind) (v w : View) → DidLog k v w → OnlyRises v w
log_rises k v w d = rises_ticked v w (ap listed_of d.after) (ap (λ (x : View). x.steps) d.after) (λ e. ap (λ (x : View). x.saw_down) d.after ∙ or_left v.saw_down _ e)

turn_rises : (takes : Bool) (v w : View) → DidTurn takes Log v w → OnlyRises v w
turn_rises takes v w d = rises_ticked v w (ap listed_of d.after) (ap (λ (x : View). x.steps) d.after) (λ e. ap (λ (x : View). x.saw_down) d.after ∙ or_left v.saw_down _ e)

-- loads of the log's words
pub end_rises : (found : ℕ) (v w : View) → DidWord load_end v w found → OnlyRises v w
end_rises found v w d = rises_by v w
    (grows_loads (load_of v (seen.LogEnd found) ∷ []) v w (ap (λ (x : View). x.loads) d.after) (ap (λ (x : View). x.changes) d.after) (ap (λ (x : View). x.residents) d.after) (let e = ap (λ (x : View). x.steps) d.after in omega arith))
    (ap (λ (x : View). x.lanes) d.after)
    (let e = ap (λ (x : View). x.end_seen) d.after in omega arith)
    (let e = ap (λ (x : View). x.flushed) d.after in omega arith)
    (λ e. ap (λ (x : View). x.saw_down) d.after ∙ e)

pub flushed_rises : (found : ℕ) (v w : View) → DidWord load_flushed v w found → OnlyRises v w
flushed_rises found v w d = rises_by v w
    (grows_loads (load_of v (seen.Flushed found) ∷ []) v w (ap (λ (x : View). x.loads) d.after) (ap (λ (x : View). x.changes) d.after) (ap (λ (x : View). x.residents) d.after) (let e = ap (λ (x : View). x.steps) d.after in omega arith))
    (ap (λ (x : View). x.lanes) d.after)
    (let e = ap (λ (x : View). x.end_seen) d.after in omega arith)
    (let e = ap (λ (x : View). x.flushed) d.after in let below = flushed_below v w found d in omega arith)
    (λ e. ap (λ (x : View). x.saw_down) d.after ∙ e)

raise_rises : (found : ℕ) (v w : View) → DidWord raise_flushed v w found → OnlyRises v w
raise_rises found v w d = rises_ticked v w (ap listed_of d.after) (ap (λ (x : View). x.steps) d.after) (λ e. ap (λ (x : View). x.saw_down) d.after ∙ e)

pub rising : HoldsOfLogSteps OnlyRises
rising = record { none = rises_none; on = rises_on; log = log_rises; turn = turn_rises; end = end_rises; flushed = flushed_rises; raised = raise_rises }

pub opens_rise : (end : ℕ) (v w : View) → Opens end v w → OnlyRises v w
opens_rise = of_opening OnlyRises rising

-- an insert
module _ (relations : List RelEntry) (f : ℕ) (tag : Tag) where
  enters_rise : (start : ℕ) (p : Page) (v w : View) → Enters relations f tag start p v w → OnlyRises v w
  enters_rise start p v w e = let a = e.appends in rises_on v e.home w
      (rises_on v a.out e.home (of_out OnlyRises rising v a.out a.went) (of_two OnlyRises rising _ _ a.out e.home a.did))
      (rises_by e.home w
      (grows_steps e.home w (ap (λ (x : View). x.loads) e.after) (ap (λ (x : View). x.changes) e.after) (ap (λ (x : View). x.residents) e.after) (let d = ap (λ (x : View). x.steps) e.after in omega arith))
      (ap (λ (x : View). x.lanes) e.after)
      (let d = ap (λ (x : View). x.end_seen) e.after in omega arith)
      (let d = ap (λ (x : View). x.flushed) e.after in omega arith)
      (λ d. ap (λ (x : View). x.saw_down) e.after ∙ d))

  refused_rises : (p : Page) (end : ℕ) (why : InsertError) (v w : View) → EnterRefused relations f tag p end why v w → OnlyRises v w
  refused_rises p end (insert_error.LogFull e) v w r = of_same OnlyRises rising v w r.2
  refused_rises p end (insert_error.LogDown at) v w r = of_down OnlyRises rising at v w r.2
  refused_rises p end insert_error.LogFault v w r = let a = r.1 in rises_on v a.out w (of_out OnlyRises rising v a.out a.went) (of_two OnlyRises rising _ _ a.out w a.fails)

  pub insert_rises : (p q : Page) (v w : View) (result : Result ℕ InsertError) → IfOk result (λ lsn. Inserts relations f tag p lsn v w) → IfErr result (InsertRefused relations f tag q v w) → OnlyRises v w
  insert_rises p q v w (Ok lsn) did none = of_latched OnlyRises rising did.start (Enters relations f tag did.start p) v w did.work (enters_rise did.start p did.work.loaded did.work.worked did.work.work)
  insert_rises p q v w (Err why) none (end, u) = of_latched OnlyRises rising end (EnterRefused relations f tag q end why) v w u (refused_rises q end why u.loaded u.worked u.work)

pub flush_rises : (lsn : ℕ) (v w : View) → Flushed lsn v w → OnlyRises v w
flush_rises = of_flush OnlyRises rising

pub unflushed_rises : (lsn : ℕ) (why : FlushLog) (v w : View) → FlushRefused lsn v w why → OnlyRises v w
unflushed_rises = of_refused OnlyRises rising
