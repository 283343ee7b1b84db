-- Each step keeps the law of the count of the log's faults.
use Rattle.std.proofs.Common.{◌≡◌, ◌≢◌, ℕ, ◌+◌, ◌<◌, ◌≤◌, Bool, true, false, List, [], ◌∷◌, ◌++◌, length, set, Option, Some, None, sym, refl, ap, ◌∙◌, subst, ⊎_elim, arith, lit<}
use Rattle.std.proofs.lemmas.Bool.{cases_lt, both_ways, false≢true}
use Rattle.std.proofs.lemmas.Option.{same_Some}
use mathlib.Core.Logic.{dite}
use mathlib.Core.Option.{some, some-injective}
use native.Mathlib.Decide.{ℕ_discrete}
use lib.ListN.{get_elem?}
use Rattle.pin_core.specs.declared.view.LaneChange.{LaneChange}
use Rattle.pin_core.specs.declared.view.LaneChange.TheVariants as lane_change
use Rattle.pin_core.specs.declared.view.LaneHold.{LaneHold}
use Rattle.pin_core.specs.declared.view.LogChange.TheVariants as change
use Rattle.pin_core.specs.declared.view.LogHold.{LogHold}
use Rattle.pin_core.specs.declared.view.TakenLog.{TakenLog}
use Rattle.pin_core.specs.declared.view.View.{View}
use Rattle.pin_core.specs.declared.view.LoadedWord.TheVariants as seen
use Rattle.pin_core.specs.State.{Config, link, hold, lane_hold, first_view, new_view, emptied_view, joined_view, size_hold}
use Rattle.pin_core.specs.Kinds as pin_kinds
use Rattle.pin_core.specs.Turns.{view_turned}
use Rattle.pin_core.specs.Sizes.{view_sized}
use Rattle.pin_core.specs.Steps as pin_steps
use Rattle.page_core.specs.Steps as page_steps
use Rattle.page_core.specs.Kinds.{begin_write, make_entry}
use Rattle.history_core.specs.Log.{change_size}
use Rattle.history_core.specs.State.{Device, State, Store, fresh_device}
use Rattle.history_core.specs.Lanes as lane_kinds
use Rattle.history_core.specs.Lanes.{LaneKind, Rises, lane_met_by, fault_of}
use Rattle.history_core.specs.Device as log_kinds
use Rattle.history_core.specs.Device.{LogKind, LogAllowed, device_after, view_logged, is_failed, HasRisen, Written, DeviceLaw, LogLink, LogTally, holders, appenders, log_weigh}
use Rattle.history_core.specs.Counts.{all_met, NoneFailedOut, FaultsOut, LogCounted}
use Rattle.history_core.specs.Invariant.{HistoryInvariant, written_of}
use Rattle.history_core.specs.Steps.{Event, stepped, looked, pool_noting, paged, laned, has_read, has_written, Step, pools, lanes, writes, notes, logs, enters, reads, words, after_word, reads_size, has_seen_size}
use Rattle.history_core.proofs.Device.{risen}
use Rattle.history_core.proofs.Opening.{one_total}
use Rattle.grid.specs.Shape.{total}
use Rattle.grid.proofs.Lists.{at_set, at_end, at_longer, at_only, set_else, set_here}
use Rattle.grid.proofs.Sums.{total-set, total-snoc, terms_le}

abbrev logs_of : View → ℕ
logs_of v = v.met.logs

-- the views where view i has become w: this one, and the others
pub by_view : (views : List View) (i : ℕ) (v w : View) → get_elem? views i ≡ some v → (P : View → Type 0) → P w → ((j : ℕ) (u : View) → j ≢ i → get_elem? views j ≡ some u → P u) → (j : ℕ) (u : View) → get_elem? (set views i w) j ≡ some u → P u
by_view views i v w there P here else j u e = ⊎_elim (λ (t : (j ≡ i) × (w ≡ u)). subst P t.1 here) (λ (t : (j ≢ i) × (get_elem? views j ≡ some u)). else j u t.0 t.1) (at_set views i j w u e)

pub none_out : {o : Option TakenLog} {t : TakenLog} → o ≡ None → o ≡ Some t → ⊥
none_out a b = cc

-- A view changes, and the device may
module _ (start : ℕ) (d d' : Device) (views : List View) (m : LogCounted start d views) (i : ℕ) (v w : View) (there : get_elem? views i ≡ some v) where
  -- where no view has a failed call out after the change, and this one had none before
  none_before : NoneFailedOut (set views i w) → is_failed v.log.change ≡ false → NoneFailedOut views
  none_before none here j u e = dite (ℕ_discrete j i) (λ same. ap (λ (x : View). is_failed x.log.change) (some-injective _ _ (sym e ∙ ap (get_elem? views) same ∙ there)) ∙ here) (λ other. none j u (set_else views i j w other ∙ e))

  -- neither the count of faults nor what is counted changes, nor whether the call failed that is out
  keeps_counts : d'.faults ≡ d.faults → w.met.logs ≡ v.met.logs → is_failed w.log.change ≡ is_failed v.log.change → ((taken : TakenLog) → w.log.out ≡ Some taken → FaultsOut taken d w.log.change × (start < taken.faults → 0 < (all_met views).logs)) → LogCounted start d' (set views i w)
  keeps_counts faults met change out = let sums = total-set logs_of views i v w there in let same : (all_met (set views i w)).logs ≡ (all_met views).logs = omega arith in record {
    rose = λ e. subst (λ (n : ℕ). HasRisen start n) (sym faults) (m.rose (omega arith));
    is_met = λ none lt. let x = m.is_met (none_before none (sym change ∙ none i w (set_here views i v w there))) (omega arith) in omega arith;
    out_rose = λ j u e bad. subst (λ (n : ℕ). HasRisen start n) (sym faults) (by_view views i v w there (λ (x : View). is_failed x.log.change ≡ true → HasRisen start d.faults) (λ z. m.out_rose i v there (sym change ∙ z)) (λ k x o at z. m.out_rose k x at z) j u e bad);
    counts = λ j u taken e is. let x = by_view views i v w there (λ (x : View). (taken : TakenLog) → x.log.out ≡ Some taken → FaultsOut taken d x.log.change) (λ t z. (out t z).0) (λ k x o at t z. m.counts k x t at z) j u e taken is in record { same = λ z. faults ∙ x.same z; failed = λ z. subst (λ (n : ℕ). Rises taken.faults n) (sym faults) (x.failed z) };
    taken = λ j u taken e is lt. let x = by_view views i v w there (λ (x : View). (taken : TakenLog) → x.log.out ≡ Some taken → start < taken.faults → 0 < (all_met views).logs) (λ t z. (out t z).1) (λ k x o at t z. m.taken k x t at z) j u e taken is lt in omega arith;
  }

  -- a call fails, and no other view has the device out
  fails_counts : start ≤ d.faults → Rises d.faults d'.faults → w.met.logs ≡ v.met.logs → is_failed v.log.change ≡ false → is_failed w.log.change ≡ true → w.log.out ≡ v.log.out → ((j : ℕ) (u : View) → j ≢ i → get_elem? views j ≡ some u → u.log.out ≡ None) → LogCounted start d' (set views i w)
  fails_counts least rises met good bad out alone = let sums = total-set logs_of views i v w there in let same : (all_met (set views i w)).logs ≡ (all_met views).logs = omega arith in let later : HasRisen start d'.faults = risen start d.faults d'.faults least rises in record {
    rose = λ e. later;
    is_met = λ none lt. absurd (both_ways _ (none i w (set_here views i v w there)) bad);
    out_rose = λ j u e z. later;
    counts = λ j u taken e is. by_view views i v w there (λ (x : View). (taken : TakenLog) → x.log.out ≡ Some taken → FaultsOut taken d' x.log.change)
        (λ t z. let x = m.counts i v t there (sym out ∙ z) in record { same = λ y. absurd (both_ways _ y bad); failed = λ y. subst (λ (n : ℕ). Rises n d'.faults) (x.same good) rises }) (λ k x o at t z. absurd (none_out (alone k x o at) z)) j u e taken is;
    taken = λ j u taken e is lt. let x = by_view views i v w there (λ (x : View). (taken : TakenLog) → x.log.out ≡ Some taken → start < taken.faults → 0 < (all_met views).logs) (λ t z. m.taken i v t there (sym out ∙ z)) (λ k x o at t z. m.taken k x t at z) j u e taken is lt in omega arith;
  }

  -- the device comes back, and a fault is counted or not
  back_counts : (noted : ℕ) → (taken : TakenLog) → v.log.out ≡ Some taken → d'.faults ≡ d.faults → w.met.logs ≡ v.met.logs + noted → is_failed w.log.change ≡ false → w.log.out ≡ None → (0 < noted → is_failed v.log.change ≡ true) → (taken.faults < d.faults → 0 < noted) → LogCounted start d' (set views i w)
  back_counts noted taken out faults met good home failed rose = let sums = total-set logs_of views i v w there in let same : (all_met (set views i w)).logs ≡ (all_met views).logs + noted = omega arith in record {
    rose = λ e. subst (λ (n : ℕ). HasRisen start n) (sym faults) (⊎_elim (λ (z : 0 < noted). m.out_rose i v there (failed z)) (λ (z : noted ≤ 0). m.rose (omega arith)) (cases_lt 0 noted));
    is_met = λ none lt. ⊎_elim (λ (z : taken.faults < d.faults). let x = rose z in omega arith) (λ (z : d.faults ≤ taken.faults). let x = m.taken i v taken there out (omega arith) in omega arith) (cases_lt taken.faults d.faults);
    out_rose = λ j u e bad. subst (λ (n : ℕ). HasRisen start n) (sym faults) (by_view views i v w there (λ (x : View). is_failed x.log.change ≡ true → HasRisen start d.faults) (λ z. absurd (both_ways _ good z)) (λ k x o at z. m.out_rose k x at z) j u e bad);
    counts = λ j u t e is. let x = by_view views i v w there (λ (x : View). (taken : TakenLog) → x.log.out ≡ Some taken → FaultsOut taken d x.log.change) (λ y z. absurd (none_out home z)) (λ k x o at y z. m.counts k x y at z) j u e t is in record { same = λ z. faults ∙ x.same z; failed = λ z. subst (λ (n : ℕ). Rises t.faults n) (sym faults) (x.failed z) };
    taken = λ j u t e is lt. let x = by_view views i v w there (λ (x : View). (taken : TakenLog) → x.log.out ≡ Some taken → start < taken.faults → 0 < (all_met views).logs) (λ y z. absurd (none_out home z)) (λ k x o at y z. m.taken k x y at z) j u e t is lt in omega arith;
  }

-- only the holder of the log's latch has its device out
held_alone : (w : Written) (d : Device) (t : LogTally → ℕ) (a b : Bool) (h m : LogHold) → DeviceLaw w d t → LogLink w d a h → LogLink w d b m → ((k : LogTally) → log_weigh k h + log_weigh k m ≤ t k) → h.held ≡ true → m.out ≡ None
held_alone w d t a b h m q c e le held = grind (arith, q, c, e, le holders, le appenders, held)

module _ (s : State) (h : HistoryInvariant s) (i : ℕ) (v : View) (there : get_elem? s.pool.core.views i ≡ some v) where
  link_of : (j : ℕ) (u : View) → get_elem? s.pool.core.views j ≡ some u → LogLink (written_of s) s.device u.saw_down u.log
  link_of j u at = h.device.cells j u 0 at (lit< tt)

  pub others_home : v.log.held ≡ true → (j : ℕ) (u : View) → j ≢ i → get_elem? s.pool.core.views j ≡ some u → u.log.out ≡ None
  others_home held j u other at = held_alone (written_of s) s.device (λ k. total (λ (x : View). log_weigh k x.log) s.pool.core.views) v.saw_down u.saw_down v.log u.log (h.device.columns 0 (lit< tt)) (link_of i v there) (link_of j u at)
      (λ k. terms_le (λ (x : View). log_weigh k x.log) s.pool.core.views i j v u other there at) held

  -- the holder of the latch, where it has no failed call out: no view has
  none_failed : v.log.held ≡ true → is_failed v.log.change ≡ false → NoneFailedOut s.pool.core.views
  none_failed held good j u at = dite (ℕ_discrete j i) (λ same. ap (λ (x : View). is_failed x.log.change) (some-injective _ _ (sym at ∙ ap (get_elem? s.pool.core.views) same ∙ there)) ∙ good)
      (λ other. ap is_failed ((link_of j u at).home (others_home held j u other at)))

  pub is_held : v.log.out ≢ None → v.log.held ≡ true
  is_held out = let c = link_of i v there in grind (arith, c, out)

  logged : (k : LogKind) → LogCounted s.log_faults s.device s.pool.core.views → LogAllowed k s.device v.log → LogCounted s.log_faults (device_after k s.end s.device) (set s.pool.core.views i (view_logged k v))
  logged log_kinds.take_log m a = keeps_counts s.log_faults s.device (device_after log_kinds.take_log s.end s.device) s.pool.core.views m i v (view_logged log_kinds.take_log v) there refl (omega arith) refl (λ t z. (m.counts i v t there z, m.taken i v t there z))
  logged log_kinds.leave_log m a = keeps_counts s.log_faults s.device (device_after log_kinds.leave_log s.end s.device) s.pool.core.views m i v (view_logged log_kinds.leave_log v) there refl (omega arith) refl (λ t z. (m.counts i v t there z, m.taken i v t there z))
  logged log_kinds.see_down m a = keeps_counts s.log_faults s.device s.device s.pool.core.views m i v (view_logged log_kinds.see_down v) there refl (omega arith) refl (λ t z. (m.counts i v t there z, m.taken i v t there z))
  logged (log_kinds.log_out taken) m a = let idle = ap is_failed ((link_of i v there).home a.home) in
      keeps_counts s.log_faults s.device s.device s.pool.core.views m i v (view_logged (log_kinds.log_out taken) v) there refl (omega arith) refl
      (λ t z. let same : taken ≡ t = same_Some taken t z in let is : t.faults ≡ s.device.faults = ap (λ (x : TakenLog). x.faults) (sym same) ∙ a.faults in (record { same = λ y. sym is; failed = λ y. absurd (both_ways _ idle y) }, λ lt. m.is_met (none_failed a.held idle) (omega arith)))
  logged (log_kinds.append f tag p bytes) m a = keeps_counts s.log_faults s.device (device_after (log_kinds.append f tag p bytes) s.end s.device) s.pool.core.views m i v (view_logged (log_kinds.append f tag p bytes) v) there refl (omega arith) (sym (ap is_failed a.call.once))
      (λ t z. let x = m.counts i v t there z in (record { same = λ y. x.same (ap is_failed a.call.once); failed = λ y. absurd (cc) }, m.taken i v t there z))
  logged log_kinds.sync_log m a = keeps_counts s.log_faults s.device (device_after log_kinds.sync_log s.end s.device) s.pool.core.views m i v (view_logged log_kinds.sync_log v) there refl (omega arith) (sym (ap is_failed a.once))
      (λ t z. let x = m.counts i v t there z in (record { same = λ y. x.same (ap is_failed a.once); failed = λ y. absurd (cc) }, m.taken i v t there z))
  logged (log_kinds.fail_append f tag p bytes faults) m a = fails_counts s.log_faults s.device (device_after (log_kinds.fail_append f tag p bytes faults) s.end s.device) s.pool.core.views m i v (view_logged (log_kinds.fail_append f tag p bytes faults) v) there (h.device.columns 0 (lit< tt)).least a.rises (omega arith) (ap is_failed a.call.once) refl refl (others_home (is_held a.call.out))
  logged (log_kinds.fail_sync synced faults) m a = fails_counts s.log_faults s.device (device_after (log_kinds.fail_sync synced faults) s.end s.device) s.pool.core.views m i v (view_logged (log_kinds.fail_sync synced faults) v) there (h.device.columns 0 (lit< tt)).least a.rises (omega arith) (ap is_failed a.call.once) refl refl (others_home (is_held a.call.out))
  logged (log_kinds.log_back true) m a = by_out v.log.out refl
    where
      by_out : (o : Option TakenLog) → v.log.out ≡ o → LogCounted s.log_faults s.device (set s.pool.core.views i (view_logged (log_kinds.log_back true) v))
      by_out None e = absurd (a.out e)
      by_out (Some taken) e = back_counts s.log_faults s.device s.device s.pool.core.views m i v (view_logged (log_kinds.log_back true) v) there 1 taken e refl (omega arith) refl refl (λ z. a.failed refl) (λ lt. omega arith)
  logged (log_kinds.log_back false) m a = by_out v.log.out refl
    where
      by_out : (o : Option TakenLog) → v.log.out ≡ o → LogCounted s.log_faults s.device (set s.pool.core.views i (view_logged (log_kinds.log_back false) v))
      by_out None e = absurd (a.out e)
      by_out (Some taken) e = back_counts s.log_faults s.device s.device s.pool.core.views m i v (view_logged (log_kinds.log_back false) v) there 0 taken e refl (omega arith) refl refl (λ z. absurd (omega arith)) (λ lt. absurd (false≢true (a.rose taken e lt)))

  -- a view changes elsewhere
  pub elsewhere : LogCounted s.log_faults s.device s.pool.core.views → (w : View) → w.log.change ≡ v.log.change → w.log.out ≡ v.log.out → w.met.logs ≡ v.met.logs → LogCounted s.log_faults s.device (set s.pool.core.views i w)
  elsewhere m w same out met = keeps_counts s.log_faults s.device s.device s.pool.core.views m i v w there refl met (ap is_failed same)
      (λ t z. (subst (FaultsOut t s.device) (sym same) (m.counts i v t there (sym out ∙ z)), m.taken i v t there (sym out ∙ z)))

-- a new view counts nothing, and has nothing out
pools_counted : (s : State) (h : HistoryInvariant s) → LogCounted s.log_faults s.device s.pool.core.views → {e : pin_steps.Event} {core' : _} → pin_steps.Step e s.pool.core core' → LogCounted s.log_faults s.device core'.views
pools_counted s h m (pin_steps.touches i f k v there live inside a around) = elsewhere s h i v there m (pin_kinds.view_after k s.pool.core.partition_of f (s.pool.core.frame f) (link v f) v) refl refl refl
pools_counted s h m (pin_steps.turns i p k v there live below a) = elsewhere s h i v there m (view_turned k p (hold v p) v) refl refl refl
pools_counted s h m (pin_steps.sized i fork k v there live a) = elsewhere s h i v there m (view_sized k fork s.pool.core v) refl refl refl
pools_counted s h m (pin_steps.splits v there room) = let w : View = record v { next = v.next + 1 } in let b : View = new_view v.next s.pool.core.base (length v.links) (length v.partitions) (length v.lanes) in let vs : List View = set s.pool.core.views 0 w in let x = elsewhere s h 0 v there m w refl refl refl in
    let sums : (all_met (vs ++ b ∷ [])).logs ≡ (all_met vs).logs = omega (arith, total-snoc logs_of vs b) in record {
      rose = λ e. x.rose (omega arith);
      is_met = λ none lt. let y = x.is_met (λ j u e. none j u (at_longer vs (b ∷ []) j u e)) lt in omega arith;
      out_rose = λ j u e bad. ⊎_elim (λ (t : get_elem? vs j ≡ some u). x.out_rose j u t bad) (λ (t : (b ≡ u) × (j ≡ length vs)). absurd (both_ways _ (ap (λ (y : View). is_failed y.log.change) (sym t.0)) bad)) (at_end vs b u j e);
      counts = λ j u taken e out. ⊎_elim (λ (t : get_elem? vs j ≡ some u). x.counts j u taken t out) (λ (t : (b ≡ u) × (j ≡ length vs)). absurd (none_out (ap (λ (y : View). y.log.out) (sym t.0)) out)) (at_end vs b u j e);
      taken = λ j u taken e out lt. ⊎_elim (λ (t : get_elem? vs j ≡ some u). let y = x.taken j u taken t out lt in omega arith) (λ (t : (b ≡ u) × (j ≡ length vs)). absurd (none_out (ap (λ (y : View). y.log.out) (sym t.0)) out)) (at_end vs b u j e);
    }
pools_counted s h m (pin_steps.joins j v u there other here live free) = let w : View = joined_view v u in let vs : List View = set s.pool.core.views 0 w in let also = set_else s.pool.core.views 0 j w other ∙ here in let us : List View = set vs j emptied_view in
    let sums : (all_met us).logs ≡ (all_met s.pool.core.views).logs = omega (arith, total-set logs_of s.pool.core.views 0 v w there, total-set logs_of vs j u emptied_view also) in
    let idle : u.log.change ≡ change.Untouched = (let c = link_of s h 0 v there j u here in c.home (c.resting free.log).0) in record {
      rose = λ e. m.rose (omega arith);
      is_met = λ none lt. let y = m.is_met (was none idle) lt in omega arith;
      out_rose = λ k x e. by_two (λ (y : View). is_failed y.log.change ≡ true → HasRisen s.log_faults s.device.faults) (λ z. m.out_rose 0 v there z) (λ z. absurd (false≢true z)) (λ n y at z. m.out_rose n y at z) k x e;
      counts = λ k x taken e. by_two (λ (y : View). (taken : TakenLog) → y.log.out ≡ Some taken → FaultsOut taken s.device y.log.change) (λ t z. m.counts 0 v t there z) (λ t z. absurd (cc)) (λ n y at t z. m.counts n y t at z) k x e taken;
      taken = λ k x taken e is lt. let y = by_two (λ (y : View). (taken : TakenLog) → y.log.out ≡ Some taken → s.log_faults < taken.faults → 0 < (all_met s.pool.core.views).logs) (λ t z. m.taken 0 v t there z) (λ t z. absurd (cc)) (λ n y at t z. m.taken n y t at z) k x e taken is lt in omega arith;
    }
  where
    by_two : (P : View → Type 0) → P (joined_view v u) → P emptied_view → ((k : ℕ) (x : View) → get_elem? s.pool.core.views k ≡ some x → P x) → (k : ℕ) (x : View) → get_elem? (set (set s.pool.core.views 0 (joined_view v u)) j emptied_view) k ≡ some x → P x
    by_two P a b c = by_view (set s.pool.core.views 0 (joined_view v u)) j u emptied_view (set_else s.pool.core.views 0 j (joined_view v u) other ∙ here) P b (λ k x o at. by_view s.pool.core.views 0 v (joined_view v u) there P a (λ n y z t. c n y t) k x at)

    was : NoneFailedOut (set (set s.pool.core.views 0 (joined_view v u)) j emptied_view) → u.log.change ≡ change.Untouched → NoneFailedOut s.pool.core.views
    was none idle k x at = dite (ℕ_discrete k j) (λ same. ap (λ (y : View). is_failed y.log.change) (some-injective _ _ (sym at ∙ ap (get_elem? s.pool.core.views) same ∙ here)) ∙ ap is_failed idle)
        (λ o. dite (ℕ_discrete k 0) (λ same. ap (λ (y : View). is_failed y.log.change) (some-injective _ _ (sym at ∙ ap (get_elem? s.pool.core.views) same ∙ there)) ∙ none 0 (joined_view v u) (set_else (set s.pool.core.views 0 (joined_view v u)) j 0 emptied_view (λ z. other (sym z)) ∙ set_here s.pool.core.views 0 v (joined_view v u) there))
        (λ p. none k x (set_else (set s.pool.core.views 0 (joined_view v u)) j k emptied_view o ∙ set_else s.pool.core.views 0 k (joined_view v u) p ∙ at)))

-- a kind at a lane counts no fault of the log
no_log_fault : (k : LaneKind) (h : LaneHold) → (lane_met_by k h).logs ≡ 0
no_log_fault (lane_kinds.lane_back true) h = by_change h.change
  where
    by_change : (c : LaneChange) → (fault_of true c).logs ≡ 0
    by_change (lane_change.ReadFailed tag) = refl
    by_change (lane_change.WriteFailed f tag) = refl
    by_change lane_change.SyncFailed = refl
    by_change lane_change.Untouched = refl
    by_change (lane_change.Read tag page) = refl
    by_change (lane_change.Written f tag page) = refl
    by_change lane_change.Synced = refl
no_log_fault (lane_kinds.lane_back false) h = refl
no_log_fault lane_kinds.take_lane h = refl
no_log_fault lane_kinds.leave_lane h = refl
no_log_fault (lane_kinds.lane_out taken) h = refl
no_log_fault (lane_kinds.read_block tag p) h = refl
no_log_fault (lane_kinds.fail_read tag faults) h = refl
no_log_fault (lane_kinds.write_block f tag p) h = refl
no_log_fault (lane_kinds.fail_write f tag p faults) h = refl
no_log_fault lane_kinds.sync_lane h = refl
no_log_fault (lane_kinds.fail_sync faults) h = refl

same_logs : (k : LaneKind) (q : ℕ) (v : View) → v.met.logs + (lane_met_by k (lane_hold v q)).logs ≡ v.met.logs
same_logs k q v = let x = no_log_fault k (lane_hold v q) in omega arith

pub log_counting : {e : Event} {s t : State} → Step e s t → HistoryInvariant s → LogCounted s.log_faults s.device s.pool.core.views → LogCounted t.log_faults t.device t.pool.core.views
log_counting (pools {s = s} (page_steps.cores x) a) h m = pools_counted s h m x
log_counting (pools {s = s} (page_steps.touches i f k v there live inside a around) plain) h m = elsewhere s h i v there m (paged k s.pool f v) refl refl refl
log_counting (lanes {s = s} i q k v there live low a alone) h m = elsewhere s h i v there m (stepped (laned k q v v)) refl refl (same_logs k q v)
log_counting (writes {s = s} i q f k v there live low inside a x) h m = elsewhere s h i v there m (laned k q v (paged begin_write s.pool f v)) refl refl (same_logs k q v)
log_counting (notes {s = s} i q f noted k v there live low inside a x) h m = elsewhere s h i v there m (laned (lane_kinds.lane_back noted) q v (paged k (pool_noting k s f) f v)) refl refl (same_logs (lane_kinds.lane_back noted) q v)
log_counting (logs {s = s} i k v there live a record_is) h m = logged s h i v there k m a
log_counting (enters {s = s} i f p ch v there live inside x) h m = elsewhere s h i v there m (has_written ch (link v f).copied (s.end + change_size ch) (s.pool.core.frame f).tag p (paged (make_entry p) s.pool f v)) refl refl refl
log_counting (reads {s = s} i f tag p v there live inside a) h m = elsewhere s h i v there m (looked (seen.LogEnd s.end) (has_read s.end tag p v)) refl refl refl
log_counting (reads_size {s = s} i fork v there live a) h m = elsewhere s h i v there m (looked (seen.LogEnd s.end) (has_seen_size s.end fork (size_hold v fork).blocks v)) refl refl refl
log_counting (words {s = s} i k v there live a) h m = elsewhere s h i v there m (after_word k s v) refl refl refl

pub log_counts_open : (c : Config) (store : Store) → LogCounted store.log_faults (fresh_device c.base store) (first_view c.base c.frames c.partitions c.lanes ∷ [])
log_counts_open c store = let w : View = first_view c.base c.frames c.partitions c.lanes in record {
  rose = λ e. absurd (let x = one_total logs_of w refl in omega arith);
  is_met = λ none lt. absurd (omega arith);
  out_rose = λ i v there bad. absurd (both_ways _ (ap (λ (x : View). is_failed x.log.change) (sym (at_only w v i there).0)) bad);
  counts = λ i v taken there out. absurd (none_out (ap (λ (x : View). x.log.out) (sym (at_only w v i there).0)) out);
  taken = λ i v taken there out. absurd (none_out (ap (λ (x : View). x.log.out) (sym (at_only w v i there).0)) out);
}
