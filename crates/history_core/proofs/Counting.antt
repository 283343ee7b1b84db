-- Each step keeps the law of the lanes' counts.
use Rattle.std.proofs.Common.{◌≡◌, ◌≢◌, ◌⊎◌, inl, inr, ℕ, zero, suc, ◌+◌, ◌<◌, Bool, true, false, List, [], ◌∷◌, ◌++◌, length, set, get_or-set_same, get_or-set_other, sym, refl, ap, ◌∙◌, subst, ⊎_elim, arith}
use mathlib.Core.Logic.{dite}
use mathlib.Core.Option.{some}
use native.Mathlib.Decide.{ℕ_discrete}
use lib.ListN.{get_elem?}
use Rattle.pin_core.specs.declared.view.LaneHold.{LaneHold}
use Rattle.pin_core.specs.declared.view.FailedCalls.{FailedCalls}
use Rattle.pin_core.specs.declared.view.View.{View}
use Rattle.pin_core.specs.State.{Config, Page, link, hold, no_lane, lane_hold, new_view, emptied_view, joined_view, sum_of_met, first_view, size_hold}
use Rattle.pin_core.specs.Tallies.{flag_weight}
use Rattle.pin_core.specs.Kinds as pin_kinds
use Rattle.pin_core.specs.Turns.{view_turned}
use Rattle.pin_core.specs.Sizes.{view_sized}
use Rattle.pin_core.specs.Steps as pin_steps
use Rattle.page_core.specs.Steps as page_steps
use Rattle.history_core.specs.State.{Lane, State, Store, fresh_lane, opening}
use Rattle.history_core.specs.Lanes as lane_kinds
use Rattle.pin_core.specs.declared.view.LaneChange.{LaneChange}
use Rattle.pin_core.specs.declared.view.LaneChange.TheVariants as lane_change
use Rattle.history_core.specs.Lanes.{swept_by, LaneKind, LaneAllowed, lane_after, lane_hold_after, lane_met_by, fault_of, is_failed_read, is_failed_write}
use Rattle.history_core.specs.Device.{HasRisen}
use Rattle.history_core.specs.Counts.{all_met, Known, CountTally, holders, failed_reads, failed_writes, unfailed, count_weigh, HoldCounts, count_shape, count_part, known_of, Counted, CountsLaw}
use Rattle.pin_core.specs.declared.view.LoadedWord.TheVariants as seen
use Rattle.page_core.specs.Kinds.{begin_write, make_entry}
use Rattle.history_core.specs.Log.{change_size}
use Rattle.history_core.specs.Device as log_kinds
use Rattle.history_core.specs.Device.{LogKind, view_logged}
use Rattle.history_core.specs.Steps.{Event, stepped, looked, pool_noting, paged, laned, has_read, has_written, Step, pools, lanes, writes, notes, logs, enters, reads, Run, rests, goes, words, after_word, reads_size, has_seen_size}
use Rattle.history_core.specs.Invariant.{HistoryInvariant}
use Rattle.history_core.proofs.Counts.{known, more, counts_kept, count_stays, other_link, risen_later}
use Rattle.history_core.proofs.LogCounting.{log_counting, log_counts_open}
use Rattle.history_core.proofs.Opening.{one_total}
use Rattle.history_core.proofs.Outer.{lane_new}
use Rattle.history_core.proofs.Stepping.{step_keeps}
use Rattle.grid.specs.Shape.{Grid, put, total}
use Rattle.grid.proofs.Lists.{put_at, put_else, set_else, at_only}
use Rattle.grid.proofs.Sums.{total-set, total-snoc}
use Rattle.grid.proofs.Grids.{Keeps, both_grids, sweep, steady, grows}

-- the law of the lanes' counts
abbrev LanesCounted : State → Type 0
LanesCounted s = Counted s.lanes s.lane s.flushed s.pool.core.views

-- what all views count, where one of them counts d besides
met_set : (views : List View) (i : ℕ) (v w : View) (d : FailedCalls) → get_elem? views i ≡ some v → w.met ≡ sum_of_met v.met d → all_met (set views i w) ≡ sum_of_met (all_met views) d
met_set views i v w d there e = let a : total (λ (x : View). x.met.reads) (set views i w) ≡ total (λ (x : View). x.met.reads) views + d.reads = (let z = ap (λ (m : FailedCalls). m.reads) e in omega (arith, total-set (λ (x : View). x.met.reads) views i v w there)) in
    let b : total (λ (x : View). x.met.writes) (set views i w) ≡ total (λ (x : View). x.met.writes) views + d.writes = (let z = ap (λ (m : FailedCalls). m.writes) e in omega (arith, total-set (λ (x : View). x.met.writes) views i v w there)) in
    let c : total (λ (x : View). x.met.logs) (set views i w) ≡ total (λ (x : View). x.met.logs) views + d.logs = (let z = ap (λ (m : FailedCalls). m.logs) e in omega (arith, total-set (λ (x : View). x.met.logs) views i v w there)) in
    λ j. record { reads = a j; writes = b j; logs = c j }

abbrev none : FailedCalls
none = record { reads = 0; writes = 0; logs = 0 }

plus_none : (m : FailedCalls) → sum_of_met m none ≡ m
plus_none m = let a : m.reads + 0 ≡ m.reads = omega arith in let b : m.writes + 0 ≡ m.writes = omega arith in let c : m.logs + 0 ≡ m.logs = omega arith in λ j. record { reads = a j; writes = b j; logs = c j }

no_counts : (k : Known) (ln : Lane) → HoldCounts k.met ln no_lane
no_counts k ln = record { read_rose = λ e. absurd (cc); write_rose = λ e. absurd (cc); taken_reads = λ taken e. absurd (cc); taken_writes = λ taken e. absurd (cc) }

-- a lane that nothing happens to
stays_more : (k : Known) (d : FailedCalls) (ln : Lane) (h : LaneHold) → Keeps count_shape known count_part k (more k d) tt tt ln h ln h
stays_more k d ln h = record {
  column = λ t t' q c sums le _. let a = sums failed_reads in let b = sums failed_writes in let e = sums holders in let f = sums unfailed in let g = q.1.split in record {
    reads = count_stays ln.read_faults_at_start ln.read_faults (t failed_reads) k.met.reads d.reads (t' failed_reads) (omega arith) q.1.reads;
    writes = count_stays ln.write_faults_at_start ln.write_faults (t failed_writes) k.met.writes d.writes (t' failed_writes) (omega arith) q.1.writes;
    split = omega arith;
    failed_rose = q.1.failed_rose;
    failed_met = λ tag e z. let x = q.1.failed_met tag e (omega arith) in omega arith;
  };
  cell = λ t q le c. other_link k d ln ln h refl refl (λ x. x) (λ x. x) c.1;
  others = λ t u m q c le e. other_link k d ln ln m refl refl (λ x. x) (λ x. x) e.1;
}

module _ (s : State) (h : HistoryInvariant s) (m : LanesCounted s) where
  abbrev views : List View
  views = s.pool.core.views

  all_known : Grid count_shape known s.lanes s.lane (λ _. known_of s) views
  all_known = both_grids (record { columns = λ f below. record { taken = (h.lanes.columns f below).taken }; cells = h.lanes.cells }) m.lanes

  -- one lane and one view change
  laned_grid : (i q : ℕ) (k : LaneKind) (v w : View) → get_elem? views i ≡ some v → v.emptied ≡ false → q < s.lanes → LaneAllowed k (s.lane q) (lane_hold v q) → w.lanes ≡ set v.lanes q (lane_hold_after k v.flushed (swept_by v) (lane_hold v q)) → w.met ≡ sum_of_met v.met (lane_met_by k (lane_hold v q))
      → Grid count_shape count_part s.lanes (put s.lane q (lane_after k (s.lane q))) (λ _. record { flushed = s.flushed; met = all_met (set views i w) }) (set views i w)
  laned_grid i q k v w there live inside a holds met = let d : FailedCalls = lane_met_by k (lane_hold v q) in let ln : Lane = lane_after k (s.lane q) in let l : LaneHold = lane_hold_after k v.flushed (swept_by v) (lane_hold v q) in
      subst (λ (x : FailedCalls). Grid count_shape count_part s.lanes (put s.lane q ln) (λ _. record { flushed = s.flushed; met = x }) (set views i w)) (sym (met_set views i v w d there met))
      (sweep count_shape known count_part s.lanes s.lane (put s.lane q ln) (λ _. known_of s) (λ _. more (known_of s) d) views i v w all_known there (λ g below. dite (ℕ_discrete g q)
      (λ (e : g ≡ q). subst (λ (x : Lane × LaneHold). Keeps count_shape known count_part (known_of s) (more (known_of s) d) tt tt (s.lane g) (lane_hold v g) x.0 x.1)
      (λ j. (sym (put_at s.lane q ln g e) j, sym (subst (λ (z : ℕ). lane_hold w z ≡ l) (sym e) here) j))
      (subst (λ (z : ℕ). Keeps count_shape known count_part (known_of s) (more (known_of s) d) tt tt (s.lane z) (lane_hold v z) ln l) (sym e) (counts_kept (known_of s) v.flushed (swept_by v) (s.lane q) (lane_hold v q) k a)))
      (λ (o : g ≢ q). subst (λ (x : Lane × LaneHold). Keeps count_shape known count_part (known_of s) (more (known_of s) d) tt tt (s.lane g) (lane_hold v g) x.0 x.1)
      (λ j. (sym (put_else s.lane q ln g o) j, sym (there_else g o) j)) (stays_more (known_of s) d (s.lane g) (lane_hold v g)))))
    where
      here : lane_hold w q ≡ lane_hold_after k v.flushed (swept_by v) (lane_hold v q)
      here = ap (λ (x : List LaneHold). lane_hold (record w { lanes = x }) q) holds ∙ get_or-set_same v.lanes q (lane_hold_after k v.flushed (swept_by v) (lane_hold v q)) no_lane (subst (λ (z : ℕ). q < z) (sym (h.wide i v there live)) inside)

      there_else : (g : ℕ) → g ≢ q → lane_hold w g ≡ lane_hold v g
      there_else g o = ap (λ (x : List LaneHold). lane_hold (record w { lanes = x }) g) holds ∙ get_or-set_other v.lanes q g (lane_hold_after k v.flushed (swept_by v) (lane_hold v q)) no_lane o

  -- a view changes elsewhere
  unlaned : (i : ℕ) (v w : View) → get_elem? views i ≡ some v → w.lanes ≡ v.lanes → w.met ≡ v.met → Grid count_shape count_part s.lanes s.lane (λ _. record { flushed = s.flushed; met = all_met (set views i w) }) (set views i w)
  unlaned i v w there holds met = subst (λ (x : FailedCalls). Grid count_shape count_part s.lanes s.lane (λ _. record { flushed = s.flushed; met = x }) (set views i w)) (sym same_met)
      (steady count_shape count_part s.lanes s.lane (λ _. known_of s) views m.lanes i v w there refl (λ g. ap (λ (x : List LaneHold). lane_hold (record w { lanes = x }) g) holds))
    where
      same_met : all_met (set views i w) ≡ all_met views
      same_met = met_set views i v w none there (met ∙ sym (plus_none v.met)) ∙ plus_none (all_met views)

-- a kind at a lane that counts a fault has its failed call out
counted_failed : (noted : Bool) (c : LaneChange) → (0 < (fault_of noted c).reads → is_failed_read c ≡ true) × (0 < (fault_of noted c).writes → is_failed_write c ≡ true)
counted_failed true (lane_change.ReadFailed tag) = ((λ e. refl), λ e. absurd (omega arith))
counted_failed true (lane_change.WriteFailed f tag) = ((λ e. absurd (omega arith)), λ e. refl)
counted_failed true lane_change.SyncFailed = ((λ e. absurd (omega arith)), λ e. refl)
counted_failed true lane_change.Untouched = ((λ e. absurd (omega arith)), λ e. absurd (omega arith))
counted_failed true (lane_change.Read tag page) = ((λ e. absurd (omega arith)), λ e. absurd (omega arith))
counted_failed true (lane_change.Written f tag page) = ((λ e. absurd (omega arith)), λ e. absurd (omega arith))
counted_failed true lane_change.Synced = ((λ e. absurd (omega arith)), λ e. absurd (omega arith))
counted_failed false c = ((λ e. absurd (omega arith)), λ e. absurd (omega arith))

abbrev LaneReadRose : Lane → Type 0
LaneReadRose ln = HasRisen ln.read_faults_at_start ln.read_faults

abbrev LaneWriteRose : Lane → Type 0
LaneWriteRose ln = HasRisen ln.write_faults_at_start ln.write_faults

-- a count that rose stays so
rose_later : (k : LaneKind) (ln : Lane) (x : LaneHold) → LaneAllowed k ln x → (LaneReadRose ln → LaneReadRose (lane_after k ln)) × (LaneWriteRose ln → LaneWriteRose (lane_after k ln))
rose_later (lane_kinds.fail_read tag faults) ln x a = (risen_later ln.read_faults_at_start ln.read_faults faults a.rises, λ y. y)
rose_later (lane_kinds.fail_write f tag p faults) ln x a = ((λ y. y), risen_later ln.write_faults_at_start ln.write_faults faults a.rises)
rose_later (lane_kinds.fail_sync faults) ln x a = ((λ y. y), risen_later ln.write_faults_at_start ln.write_faults faults a.rises)
rose_later lane_kinds.take_lane ln x a = ((λ y. y), λ y. y)
rose_later lane_kinds.leave_lane ln x a = ((λ y. y), λ y. y)
rose_later (lane_kinds.lane_out taken) ln x a = ((λ y. y), λ y. y)
rose_later (lane_kinds.read_block tag p) ln x a = ((λ y. y), λ y. y)
rose_later (lane_kinds.write_block f tag p) ln x a = ((λ y. y), λ y. y)
rose_later lane_kinds.sync_lane ln x a = ((λ y. y), λ y. y)
rose_later (lane_kinds.lane_back noted) ln x a = ((λ y. y), λ y. y)

-- a kind that counts a fault, and the count that rose before
counts_by : (k : LaneKind) (h : LaneHold) → (0 < (lane_met_by k h).reads → is_failed_read h.change ≡ true) × (0 < (lane_met_by k h).writes → is_failed_write h.change ≡ true)
counts_by (lane_kinds.lane_back noted) h = counted_failed noted h.change
counts_by lane_kinds.take_lane h = ((λ e. absurd (omega arith)), λ e. absurd (omega arith))
counts_by lane_kinds.leave_lane h = ((λ e. absurd (omega arith)), λ e. absurd (omega arith))
counts_by (lane_kinds.lane_out taken) h = ((λ e. absurd (omega arith)), λ e. absurd (omega arith))
counts_by (lane_kinds.read_block tag p) h = ((λ e. absurd (omega arith)), λ e. absurd (omega arith))
counts_by (lane_kinds.fail_read tag faults) h = ((λ e. absurd (omega arith)), λ e. absurd (omega arith))
counts_by (lane_kinds.write_block f tag p) h = ((λ e. absurd (omega arith)), λ e. absurd (omega arith))
counts_by (lane_kinds.fail_write f tag p faults) h = ((λ e. absurd (omega arith)), λ e. absurd (omega arith))
counts_by lane_kinds.sync_lane h = ((λ e. absurd (omega arith)), λ e. absurd (omega arith))
counts_by (lane_kinds.fail_sync faults) h = ((λ e. absurd (omega arith)), λ e. absurd (omega arith))

put_rose : (R : Lane → Type 0) (lane : ℕ → Lane) (q : ℕ) (ln : Lane) → (R (lane q) → R ln) → (g : ℕ) → R (lane g) → R (put lane q ln g)
put_rose R lane q ln later g r = dite (ℕ_discrete g q) (λ e. subst R (sym (put_at lane q ln g e)) (later (subst (λ (z : ℕ). R (lane z)) e r))) (λ o. subst R (sym (put_else lane q ln g o)) r)

zero_or_more : (n : ℕ) → (n ≡ 0) ⊎ (0 < n)
zero_or_more zero = inl refl
zero_or_more (suc n) = inr (omega arith)

-- the law after a step at the lane q, where the view becomes w
laned_counts : (s : State) (h : HistoryInvariant s) (m : LanesCounted s) (i q : ℕ) (k : LaneKind) (v w : View) → get_elem? s.pool.core.views i ≡ some v → v.emptied ≡ false → q < s.lanes → LaneAllowed k (s.lane q) (lane_hold v q) → w.lanes ≡ set v.lanes q (lane_hold_after k v.flushed (swept_by v) (lane_hold v q)) → w.met ≡ sum_of_met v.met (lane_met_by k (lane_hold v q))
    → Counted s.lanes (put s.lane q (lane_after k (s.lane q))) s.flushed (set s.pool.core.views i w)
laned_counts s h m i q k v w there live low a holds met = let lane' : ℕ → Lane = put s.lane q (lane_after k (s.lane q)) in let d : FailedCalls = lane_met_by k (lane_hold v q) in let vs' : List View = set s.pool.core.views i w in
    let sums : all_met vs' ≡ sum_of_met (all_met s.pool.core.views) d = met_set s.pool.core.views i v w d there met in let cells = m.lanes.cells i v q there low in
    record {
      lanes = laned_grid s h m i q k v w there live low a holds met;
      reads_rose = λ e. ⊎_elim
          (λ (z : d.reads ≡ 0). let x = m.reads_rose (let y = ap (λ (n : FailedCalls). n.reads) sums in omega arith) in (x.0, x.1, put_rose LaneReadRose s.lane q (lane_after k (s.lane q)) (rose_later k (s.lane q) (lane_hold v q) a).0 x.0 x.2))
          (λ (z : 0 < d.reads). (q, low, put_rose LaneReadRose s.lane q (lane_after k (s.lane q)) (rose_later k (s.lane q) (lane_hold v q) a).0 q (cells.read_rose ((counts_by k (lane_hold v q)).0 z))))
          (zero_or_more d.reads);
      writes_rose = λ e. ⊎_elim
          (λ (z : d.writes ≡ 0). let x = m.writes_rose (let y = ap (λ (n : FailedCalls). n.writes) sums in omega arith) in (x.0, x.1, put_rose LaneWriteRose s.lane q (lane_after k (s.lane q)) (rose_later k (s.lane q) (lane_hold v q) a).1 x.0 x.2))
          (λ (z : 0 < d.writes). (q, low, put_rose LaneWriteRose s.lane q (lane_after k (s.lane q)) (rose_later k (s.lane q) (lane_hold v q) a).1 q (cells.write_rose ((counts_by k (lane_hold v q)).1 z))))
          (zero_or_more d.writes);
    }

-- the law where a view changes elsewhere
unlaned_counts : (s : State) (h : HistoryInvariant s) (m : LanesCounted s) (i : ℕ) (v w : View) → get_elem? s.pool.core.views i ≡ some v → w.lanes ≡ v.lanes → w.met.reads ≡ v.met.reads → w.met.writes ≡ v.met.writes → w.met.logs ≡ v.met.logs → Counted s.lanes s.lane s.flushed (set s.pool.core.views i w)
unlaned_counts s h m i v w there holds a b c = let met : w.met ≡ v.met = λ j. record { reads = a j; writes = b j; logs = c j } in let same = met_set s.pool.core.views i v w none there (met ∙ sym (plus_none v.met)) in record {
  lanes = unlaned s h m i v w there holds met;
  reads_rose = λ e. m.reads_rose (let y = ap (λ (n : FailedCalls). n.reads) same in omega arith);
  writes_rose = λ e. m.writes_rose (let y = ap (λ (n : FailedCalls). n.writes) same in omega arith);
}

-- a lane whose holder is another view may be forgotten, where the counts stay
forgets : (k : Known) (ln : Lane) (h : LaneHold) → h.held ≡ false → Keeps count_shape known count_part k k tt tt ln h ln no_lane
forgets k ln h free = record {
  column = λ t t' q c sums le _. let idle = c.0.hold.home (c.0.hold.resting free) in let a = sums failed_reads in let b = sums failed_writes in let e = sums holders in let f = sums unfailed in let g = q.1.split in let x = ap flag_weight (ap is_failed_read idle) in let y = ap flag_weight (ap is_failed_write idle) in
      let z : count_weigh unfailed h ≡ 0 = grind (arith, free, ap is_failed_read idle, ap is_failed_write idle) in let w = ap flag_weight free in record {
        reads = record { least = q.1.reads.least; is_met = λ o. q.1.reads.is_met (omega arith) };
        writes = record { least = q.1.writes.least; is_met = λ o. q.1.writes.is_met (omega arith) };
        split = omega arith;
        failed_rose = q.1.failed_rose;
        failed_met = λ tag e z. let x = q.1.failed_met tag e (omega arith) in omega arith;
      };
  cell = λ t q le c. no_counts k ln;
  others = λ t u m q c le e. e.1;
}

idle_none : (k : CountTally) → count_weigh k no_lane ≡ 0
idle_none holders = refl
idle_none failed_reads = refl
idle_none failed_writes = refl
idle_none unfailed = refl

pools_counts : (s : State) (h : HistoryInvariant s) (m : LanesCounted s) → {e : pin_steps.Event} {core' : _} → pin_steps.Step e s.pool.core core' → Counted s.lanes s.lane s.flushed core'.views
pools_counts s h m (pin_steps.touches i f k v there live inside a around) = unlaned_counts s h m i v (pin_kinds.view_after k s.pool.core.partition_of f (s.pool.core.frame f) (link v f) v) there refl refl refl refl
pools_counts s h m (pin_steps.turns i p k v there live below a) = unlaned_counts s h m i v (view_turned k p (hold v p) v) there refl refl refl refl
pools_counts s h m (pin_steps.sized i fork k v there live a) = unlaned_counts s h m i v (view_sized k fork s.pool.core v) there refl refl refl refl
pools_counts s h m (pin_steps.splits v there room) = let w : View = record v { next = v.next + 1 } in let b : View = new_view v.next s.pool.core.base (length v.links) (length v.partitions) (length v.lanes) in let x = unlaned_counts s h m 0 v w there refl refl refl refl in let vs : List View = set s.pool.core.views 0 w in
    let r = total-snoc (λ (y : View). y.met.reads) vs b in let u = total-snoc (λ (y : View). y.met.writes) vs b in let l = total-snoc (λ (y : View). y.met.logs) vs b in
    let er : (all_met (vs ++ b ∷ [])).reads ≡ (all_met vs).reads = omega arith in let eu : (all_met (vs ++ b ∷ [])).writes ≡ (all_met vs).writes = omega arith in let el : (all_met (vs ++ b ∷ [])).logs ≡ (all_met vs).logs = omega arith in
    let same : all_met (vs ++ b ∷ []) ≡ all_met vs = λ j. record { reads = er j; writes = eu j; logs = el j } in record {
      lanes = subst (λ (y : FailedCalls). Grid count_shape count_part s.lanes s.lane (λ _. record { flushed = s.flushed; met = y }) (vs ++ b ∷ [])) (sym same)
          (grows count_shape count_part s.lanes s.lane (λ _. record { flushed = s.flushed; met = all_met vs }) vs x.lanes b (λ g k. new_none k v.next s.pool.core.base (length v.links) (length v.partitions) (length v.lanes) g) (λ g below. subst (HoldCounts (all_met vs) (s.lane g)) (sym (lane_new (length v.links) (length v.partitions) (length v.lanes) v.next s.pool.core.base g)) (no_counts (record { flushed = s.flushed; met = all_met vs }) (s.lane g))));
      reads_rose = λ e. x.reads_rose (omega arith);
      writes_rose = λ e. x.writes_rose (omega arith);
    }
  where
    new_none : (k : CountTally) (number base a p l g : ℕ) → count_weigh k (lane_hold (new_view number base a p l) g) ≡ 0
    new_none k number base a p l g = ap (count_weigh k) (lane_new a p l number base g) ∙ idle_none k
pools_counts s h m (pin_steps.joins j v u there other here live free) = let w : View = joined_view v u in let vs : List View = set s.pool.core.views 0 w in let also = set_else s.pool.core.views 0 j w other ∙ here in let us : List View = set vs j emptied_view in
    let er : (all_met us).reads ≡ (all_met s.pool.core.views).reads = omega (arith, total-set (λ (y : View). y.met.reads) s.pool.core.views 0 v w there, total-set (λ (y : View). y.met.reads) vs j u emptied_view also) in
    let eu : (all_met us).writes ≡ (all_met s.pool.core.views).writes = omega (arith, total-set (λ (y : View). y.met.writes) s.pool.core.views 0 v w there, total-set (λ (y : View). y.met.writes) vs j u emptied_view also) in
    let el : (all_met us).logs ≡ (all_met s.pool.core.views).logs = omega (arith, total-set (λ (y : View). y.met.logs) s.pool.core.views 0 v w there, total-set (λ (y : View). y.met.logs) vs j u emptied_view also) in
    let same : all_met us ≡ all_met s.pool.core.views = λ z. record { reads = er z; writes = eu z; logs = el z } in
    let first = steady count_shape known s.lanes s.lane (λ _. known_of s) s.pool.core.views (all_known s h m) 0 v w there refl (λ q. refl) in record {
      lanes = subst (λ (y : FailedCalls). Grid count_shape count_part s.lanes s.lane (λ _. record { flushed = s.flushed; met = y }) us) (sym same)
          (sweep count_shape known count_part s.lanes s.lane s.lane (λ _. known_of s) (λ _. known_of s) vs j u emptied_view first also (λ q inside. forgets (known_of s) (s.lane q) (lane_hold u q) (free.lanes q)));
      reads_rose = λ e. m.reads_rose (omega arith);
      writes_rose = λ e. m.writes_rose (omega arith);
    }

log_reads : (k : LogKind) → ((log_kinds.log_met_by k).reads ≡ 0) × ((log_kinds.log_met_by k).writes ≡ 0)
log_reads (log_kinds.log_back true) = (refl, refl)
log_reads (log_kinds.log_back false) = (refl, refl)
log_reads log_kinds.take_log = (refl, refl)
log_reads log_kinds.leave_log = (refl, refl)
log_reads (log_kinds.log_out taken) = (refl, refl)
log_reads (log_kinds.append f tag p bytes) = (refl, refl)
log_reads (log_kinds.fail_append f tag p bytes faults) = (refl, refl)
log_reads log_kinds.sync_log = (refl, refl)
log_reads (log_kinds.fail_sync synced faults) = (refl, refl)
log_reads log_kinds.see_down = (refl, refl)

-- a step at the log
logged_counts : (s : State) (h : HistoryInvariant s) (m : LanesCounted s) (i : ℕ) (k : LogKind) (v : View) → get_elem? s.pool.core.views i ≡ some v → Counted s.lanes s.lane s.flushed (set s.pool.core.views i (view_logged k v))
logged_counts s h m i k v there = let w : View = view_logged k v in let d : FailedCalls = log_kinds.log_met_by k in let same = met_set s.pool.core.views i v w d there refl in let zero_d = log_reads k in record {
  lanes = subst (λ (x : FailedCalls). Grid count_shape count_part s.lanes s.lane (λ _. record { flushed = s.flushed; met = x }) (set s.pool.core.views i w)) (sym same)
      (sweep count_shape known count_part s.lanes s.lane s.lane (λ _. known_of s) (λ _. more (known_of s) d) s.pool.core.views i v w (all_known s h m) there (λ g below. stays_more (known_of s) d (s.lane g) (lane_hold v g)));
  reads_rose = λ e. m.reads_rose (let y = ap (λ (n : FailedCalls). n.reads) same in let z = zero_d.0 in omega arith);
  writes_rose = λ e. m.writes_rose (let y = ap (λ (n : FailedCalls). n.writes) same in let z = zero_d.1 in omega arith);
}

lane_counting : {e : Event} {s t : State} → Step e s t → HistoryInvariant s → LanesCounted s → LanesCounted t
lane_counting (pools {s = s} (page_steps.cores x) a) h m = pools_counts s h m x
lane_counting (pools {s = s} (page_steps.touches i f k v there live inside a around) plain) h m = unlaned_counts s h m i v (paged k s.pool f v) there refl refl refl refl
lane_counting (lanes {s = s} i q k v there live low a alone) h m = laned_counts s h m i q k v (stepped (laned k q v v)) there live low a refl refl
lane_counting (writes {s = s} i q f k v there live low inside a x) h m = laned_counts s h m i q k v (laned k q v (paged begin_write s.pool f v)) there live low a refl refl
lane_counting (notes {s = s} i q f noted k v there live low inside a x) h m = laned_counts s h m i q (lane_kinds.lane_back noted) v (laned (lane_kinds.lane_back noted) q v (paged k (pool_noting k s f) f v)) there live low a refl refl
lane_counting (logs {s = s} i k v there live a record_is) h m = logged_counts s h m i k v there
lane_counting (enters {s = s} i f p ch v there live inside x) h m = unlaned_counts s h m i v (has_written ch (link v f).copied (s.end + change_size ch) (s.pool.core.frame f).tag p (paged (make_entry p) s.pool f v)) there refl refl refl refl
lane_counting (reads {s = s} i f tag p v there live inside a) h m = unlaned_counts s h m i v (looked (seen.LogEnd s.end) (has_read s.end tag p v)) there refl refl refl refl
lane_counting (reads_size {s = s} i fork v there live a) h m = unlaned_counts s h m i v (looked (seen.LogEnd s.end) (has_seen_size s.end fork (size_hold v fork).blocks v)) there refl refl refl refl
lane_counting (words {s = s} i k v there live a) h m = let x = unlaned_counts s h m i v (after_word k s v) there refl refl refl refl in record { lanes = record { columns = x.lanes.columns; cells = x.lanes.cells }; reads_rose = x.reads_rose; writes_rose = x.writes_rose }

pub counting : {e : Event} {s t : State} → Step e s t → HistoryInvariant s → CountsLaw s → CountsLaw t
counting x h m = record { lanes = lane_counting x h m.lanes; log = log_counting x h m.log }

pub counts_after : {es : List Event} {s t : State} → Run es s t → HistoryInvariant s → CountsLaw s → CountsLaw t
counts_after rests h m = m
counts_after (goes x r) h m = counts_after r (step_keeps x h) (counting x h m)

lane_counts_open : (c : Config) (store : Store) (page : Page) → LanesCounted (opening c store page)
lane_counts_open c store page = let w : View = first_view c.base c.frames c.partitions c.lanes in record {
  lanes = record {
    columns = λ q below. record {
      reads = record { least = omega arith; is_met = λ e lt. absurd (omega arith) };
      writes = record { least = omega arith; is_met = λ e lt. absurd (omega arith) };
      split = (let a = none_at q holders in let b = none_at q unfailed in let d = none_at q failed_reads in let e = none_at q failed_writes in omega arith);
      failed_rose = λ tag e. absurd (cc);
      failed_met = λ tag e. absurd (cc);
    };
    cells = λ i v q there below. subst (λ (x : View). HoldCounts (all_met (w ∷ [])) (fresh_lane c.base store q) (lane_hold x q)) (at_only w v i there).0
        (subst (HoldCounts (all_met (w ∷ [])) (fresh_lane c.base store q)) (sym (lane_new c.frames c.partitions c.lanes 0 c.base q)) (no_counts (record { flushed = c.base; met = all_met (w ∷ []) }) (fresh_lane c.base store q)));
  };
  reads_rose = λ e. absurd (let x = one_total (λ (v : View). v.met.reads) w refl in omega arith);
  writes_rose = λ e. absurd (let x = one_total (λ (v : View). v.met.writes) w refl in omega arith);
}
  where
    none_at : (q : ℕ) (k : CountTally) → total (λ (v : View). count_weigh k (lane_hold v q)) (first_view c.base c.frames c.partitions c.lanes ∷ []) ≡ 0
    none_at q k = one_total (λ (v : View). count_weigh k (lane_hold v q)) (first_view c.base c.frames c.partitions c.lanes) (ap (count_weigh k) (lane_new c.frames c.partitions c.lanes 0 c.base q) ∙ idle_none k)

pub counts_open : (c : Config) (store : Store) (page : Page) → CountsLaw (opening c store page)
counts_open c store page = record { lanes = lane_counts_open c store page; log = log_counts_open c store }
