-- A manager is closed: what holds of the devices, by the view that took in all passes.
use Rattle.std.proofs.Common.{◌≡◌, ◌≢◌, ◌⊎◌, ◌<◌, ◌≤◌, ◌+◌, ℕ, zero, suc, Bool, true, false, nat_eq, ne_eqb, List, [], ◌∷◌, ◌++◌, length, get_or, refl, sym, ap, ◌∙◌, subst, inl, inr, ⊎_elim, arith, None}
use Rattle.std.proofs.Math.ListN.{get_or-map}
use Rattle.std.proofs.lemmas.Bool.{or_right, or_from}
use mathlib.Core.Logic.{dite}
use mathlib.Core.Option.{some, some-injective, some-ne-none}
use native.Mathlib.Decide.{ℕ_discrete}
use lib.ListN.{get_elem?}
use Rattle.grid.specs.Shape.{total}
use Rattle.grid.proofs.Sums.{total-alone, total-none}
use Rattle.pin_core.specs.declared.view.Call.{Call}
use Rattle.pin_core.specs.declared.view.LaneHold.{LaneHold}
use Rattle.pin_core.specs.declared.view.LogHold.{LogHold}
use Rattle.pin_core.specs.declared.view.FailedCalls.{FailedCalls}
use Rattle.pin_core.specs.declared.view.TornRecord.{TornRecord}
use Rattle.pin_core.specs.declared.view.View.{View}
use Rattle.pin_core.specs.State.{emptied_view, joined_view, kept_checkpoint, lane_hold, no_lane, sum_of_met}
use Rattle.pin_core.specs.Tallies.{flag_weight}
use Rattle.history_core.specs.Balances.{added_to}
use Rattle.history_core.specs.Log.{IsFront, end_from, log_bytes, writes_in}
use Rattle.history_core.specs.Rest.{NoneAppended}
use Rattle.history_core.specs.State.{State, failed}
use Rattle.history_core.specs.Causes.{AllQuiet, mark_weight}
use Rattle.history_core.specs.Counts.{all_met, count_weigh, failed_reads, failed_writes, holders}
use Rattle.history_core.specs.Device.{HasRisen, is_failed}
use Rattle.history_core.specs.History.{IsHistory}
use Rattle.history_core.specs.Laws.{Laws}
use Rattle.history_core.specs.TornRecords.{IsOfPage, NotesTorn}
use Rattle.history_core.specs.Swept.{has_swept}
use Rattle.history_core.proofs.Calls.{at_both}
use Rattle.history_core.proofs.Counters.{counters_sums}
use Rattle.history_core.proofs.History.{ends_in_history}
use Rattle.history_core.proofs.EntryBlocks.{entries_of_blocks}
use Rattle.history_core.proofs.Histories.{loaded_flushed}
use Rattle.history_core.proofs.Promises.{seen_durable, sweeps}
use Rattle.history_core.proofs.Rest.{whole}
use Rattle.table_rule.specs.declared.opening.Opening.{Opening}
use Rattle.table_rule.specs.Shows.{Devices, KeepsOthers, lane_opened}
use Rattle.table_rule.proofs.Theirs.{still_theirs}
use Rattle.frame_table.specs.Closes.{Closes}
use Rattle.buffer_frames.specs.Tokens.{no_tokens}
use Rattle.buffer_frames.specs.Rests.{OnlyTokens}
use Rattle.buffer_frames.proofs.Resting.{rests_hold_nothing}
use Rattle.backend_pass.specs.Passes.{PassState}
use Rattle.backend_pass.specs.Managers.{AreFronted, IsFirstAt, first_in, others_in}
use Rattle.history_core.specs.Unentered.{IsUnentered}
use Rattle.backend_pass.specs.Closing.{ClosesAll, ClosesPass, EachPass, NothingPut, NothingWritten, PassNotes, PutNothing, PassTore, TookEach, but_published, calls_of_passes, joined_views, met_by_passes, torn_of_passes, unentered_of_passes}
use Rattle.backend_pass.proofs.AddedUp.{added_by_all, added_counted, added_first, counters_same}
use Rattle.backend_pass.proofs.Fronts.{at_last}
use Rattle.backend_pass.proofs.Joining.{Joins, at_later, first_here, first_past, joined_hold_nothing, joins, others_here, others_past}

-- the number of the first pass
pub number_zero : (n : ℕ) → nat_eq n 0 ≡ true → n ≡ 0
number_zero n e = dite (ℕ_discrete n 0) (λ z. z) (λ o. let f : false ≡ true = sym (ne_eqb n 0 o) ∙ e in absurd (apart f))
  where
    apart : false ≡ true → ⊥
    apart f = cc

-- each pass is the first or one of the others
first_or_other : (ps : List PassState) (k i : ℕ) (p : PassState) → IsFirstAt k ps → get_elem? ps i ≡ some p → (p.view ≡ first_in ps) ⊎ ((j : ℕ) × (get_elem? (others_in ps) j ≡ some p))
first_or_other [] k i p s e = absurd (some-ne-none p (sym e))
first_or_other (x ∷ xs) zero zero p s e = inl (ap (λ (y : PassState). y.view) (sym (some-injective x p e)) ∙ sym (first_here x xs (s.here x refl)))
first_or_other (x ∷ xs) zero (suc i) p s e = inr (i, ap (λ (l : List PassState). get_elem? l i) (others_here x xs (s.here x refl)) ∙ e)
first_or_other (x ∷ xs) (suc k) zero p s e = inr (0, ap (λ (l : List PassState). get_elem? l 0) (others_past x xs s.before.0) ∙ e)
first_or_other (x ∷ xs) (suc k) (suc i) p s e = ⊎_elim
    (λ (t : p.view ≡ first_in xs). inl (t ∙ sym (first_past x xs s.before.0)))
    (λ (t : (j : ℕ) × (get_elem? (others_in xs) j ≡ some p)). inr (suc t.0, ap (λ (l : List PassState). get_elem? l (suc t.0)) (others_past x xs s.before.0) ∙ t.1))
    (first_or_other xs k i p (at_later k x xs s) e)

-- and the first and the others are among them
first_there : (ps : List PassState) (k : ℕ) → IsFirstAt k ps → (p : PassState) × (get_elem? ps k ≡ some p) × (p.view ≡ first_in ps)
first_there [] k s = let inside = s.inside in absurd (omega arith)
first_there (x ∷ xs) zero s = (x, refl, sym (first_here x xs (s.here x refl)))
first_there (x ∷ xs) (suc k) s = let t = first_there xs k (at_later k x xs s) in (t.0, t.1, t.2 ∙ sym (first_past x xs s.before.0))

other_there : (ps : List PassState) (k j : ℕ) (p : PassState) → IsFirstAt k ps → get_elem? (others_in ps) j ≡ some p → (i : ℕ) × (get_elem? ps i ≡ some p)
other_there [] k j p s e = absurd (some-ne-none p (sym e))
other_there (x ∷ xs) zero j p s e = (suc j, sym (ap (λ (l : List PassState). get_elem? l j) (others_here x xs (s.here x refl))) ∙ e)
other_there (x ∷ xs) (suc k) zero p s e = (0, sym (ap (λ (l : List PassState). get_elem? l 0) (others_past x xs s.before.0)) ∙ e)
other_there (x ∷ xs) (suc k) (suc j) p s e = let t = other_there xs k j p (at_later k x xs s) (sym (ap (λ (l : List PassState). get_elem? l (suc j)) (others_past x xs s.before.0)) ∙ e) in (suc t.0, t.1)

-- the faults of all are those of the first and those of the others
pub met_split : (ps : List PassState) (k : ℕ) → IsFirstAt k ps → met_by_passes ps ≡ sum_of_met (first_in ps).met (met_by_passes (others_in ps))
met_split [] k s = let inside = s.inside in absurd (omega arith)
met_split (x ∷ xs) zero s = ap (λ (v : View). sum_of_met v.met (met_by_passes xs)) (sym (first_here x xs (s.here x refl))) ∙ ap (λ (l : List PassState). sum_of_met (first_in (x ∷ xs)).met (met_by_passes l)) (sym (others_here x xs (s.here x refl)))
met_split (x ∷ xs) (suc k) s = ap (sum_of_met x.view.met) (met_split xs k (at_later k x xs s)) ∙ swap x.view.met (first_in xs).met (met_by_passes (others_in xs))
    ∙ ap (λ (v : View). sum_of_met v.met (sum_of_met x.view.met (met_by_passes (others_in xs)))) (sym (first_past x xs s.before.0))
    ∙ ap (λ (l : List PassState). sum_of_met (first_in (x ∷ xs)).met (met_by_passes l)) (sym (others_past x xs s.before.0))
  where
    same : (a b : FailedCalls) → a.reads ≡ b.reads → a.writes ≡ b.writes → a.logs ≡ b.logs → a ≡ b
    same a b p q r k = record { reads = p k; writes = q k; logs = r k }

    swap : (a b c : FailedCalls) → sum_of_met a (sum_of_met b c) ≡ sum_of_met b (sum_of_met a c)
    swap a b c = same (sum_of_met a (sum_of_met b c)) (sum_of_met b (sum_of_met a c)) (omega arith) (omega arith) (omega arith)

-- A view that took in the view u
pub record TookIn (u w : View) : Type 0 where
  pub front : u.front ≤ w.front
  pub seen : u.end_seen ≤ w.end_seen
  pub flushed : u.flushed ≤ w.flushed
  pub down : u.saw_down ≡ true → w.saw_down ≡ true
  pub output : u.had_output ≡ true → w.had_output ≡ true
  pub kept : (k : ℕ) × (get_elem? w.joined_checkpoints k ≡ some (kept_checkpoint u))

none_so : (a b : Bool) → (a ≡ true → b ≡ true) → b ≡ false → a ≡ false
none_so true b so e = sym (so refl) ∙ e
none_so false b so e = refl

took_in : (v : View) (ps : List PassState) (j : ℕ) (p : PassState) → get_elem? ps j ≡ some p → TookIn p.view (joined_views v ps)
took_in v [] j p e = absurd (some-ne-none p (sym e))
took_in v (x ∷ xs) zero p e = let r = joins (joined_view v x.view) xs in let same = ap (λ (y : PassState). y.view) (some-injective x p e) in subst (λ (u : View). TookIn u (joined_views v (x ∷ xs))) same record {
  front = let a = r.front in omega arith;
  seen = let a = r.seen in omega arith;
  flushed = let a = r.flushed in omega arith;
  down = λ d. r.down (or_right v.saw_down x.view.saw_down d);
  output = λ d. r.output (or_right v.had_output x.view.had_output d);
  kept = r.kept (length v.joined_checkpoints) (kept_checkpoint x.view) (at_last v.joined_checkpoints (kept_checkpoint x.view) x.view.joined_checkpoints);
}
took_in v (x ∷ xs) (suc j) p e = took_in (joined_view v x.view) xs j p e

-- the front of each
fronted_at : (base : ℕ) (ps : List PassState) (i : ℕ) (p : PassState) → AreFronted base ps → get_elem? ps i ≡ some p → IsFront base p.view.calls p.view.front
fronted_at base [] i p a e = absurd (some-ne-none p (sym e))
fronted_at base (x ∷ xs) zero p a e = subst (λ (y : PassState). IsFront base y.view.calls y.view.front) (some-injective x p e) a.0
fronted_at base (x ∷ xs) (suc i) p a e = fronted_at base xs i p a.1 e

-- one of the passes noted what all noted as unentered
noted_in : (ps : List PassState) (k tag : ℕ)
    → get_elem? (unentered_of_passes ps) k ≡ some tag
    → (i j : ℕ) × (p : PassState) × (get_elem? ps i ≡ some p)
    × (get_elem? p.view.unentered j ≡ some tag)
noted_in [] k tag e = absurd (some-ne-none tag (sym e))
noted_in (p ∷ ps) k tag e = ⊎_elim
    (λ (t : get_elem? p.view.unentered k ≡ some tag). (0, k, p, refl, t))
    (λ (t : (j : ℕ) × (get_elem? (unentered_of_passes ps) j ≡ some tag)).
    let r = noted_in ps t.0 tag t.1 in (suc r.0, r.1, r.2, r.3, r.4))
    (at_both p.view.unentered (unentered_of_passes ps) k tag e)

-- one of the passes has what all have of torn records
torn_in : (ps : List PassState) (k : ℕ) (x : TornRecord) → get_elem? (torn_of_passes ps) k ≡ some x → (i j : ℕ) × (p : PassState) × (get_elem? ps i ≡ some p) × (get_elem? p.view.torn j ≡ some x)
torn_in [] k x e = absurd (some-ne-none x (sym e))
torn_in (p ∷ ps) k x e = ⊎_elim
    (λ (t : get_elem? p.view.torn k ≡ some x). (0, k, p, refl, t))
    (λ (t : (j : ℕ) × (get_elem? (torn_of_passes ps) j ≡ some x)). let r = torn_in ps t.0 x t.1 in (suc r.0, r.1, r.2, r.3, r.4))
    (at_both p.view.torn (torn_of_passes ps) k x e)

-- the writes of all
pub writes-both : (xs ys : List Call) → writes_in (xs ++ ys) ≡ writes_in xs + writes_in ys
unfolding total
writes-both [] ys = omega arith
writes-both (x ∷ xs) ys = omega (arith, writes-both xs ys)

none_put : (ps : List PassState) → EachPass PutNothing ps → writes_in (calls_of_passes ps) ≡ 0
unfolding total
none_put [] none = refl
none_put (p ∷ ps) none = omega (arith, writes-both p.view.calls (calls_of_passes ps), none 0 p refl, none_put ps (λ j q at. none (suc j) q at))

no_mark_joined : (v : View) (ps : List PassState) → v.dirtied_or_synced ≡ false → ((j : ℕ) (p : PassState) → get_elem? ps j ≡ some p → p.view.dirtied_or_synced ≡ false) → (joined_views v ps).dirtied_or_synced ≡ false
no_mark_joined v [] e all = e
no_mark_joined v (x ∷ xs) e all = no_mark_joined (joined_view v x.view) xs (or_from v.dirtied_or_synced x.view.dirtied_or_synced e (all 0 x refl)) (λ j p at. all (suc j) p at)

no_items : {A : Type 0} (xs : List A) → length xs ≡ 0 → xs ≡ []
no_items [] e = refl
no_items (x ∷ xs) e = absurd (omega arith)

-- an emptied view has added nothing to the counters
none_added : (n : ℕ) → added_to n emptied_view ≡ 0
unfolding total
none_added n = refl

-- what a checkpoint keeps of a view
kept_swept : (u : View) (n : ℕ) → has_swept (kept_checkpoint u) n ≡ (lane_hold u n).swept
kept_swept u n = get_or-map (λ (h : LaneHold). h.swept) u.lanes n no_lane

-- Where all others are emptied, and the first view is w
module _ (s : State) (h : Laws s) (w : View) (there : get_elem? s.pool.core.views 0 ≡ some w) (others : (i : ℕ) (u : View) → i ≢ 0 → get_elem? s.pool.core.views i ≡ some u → u ≡ emptied_view) where
  is_one : (i : ℕ) (u : View) → get_elem? s.pool.core.views i ≡ some u → (w ≡ u) ⊎ (u ≡ emptied_view)
  is_one zero u at = inl (some-injective w u (sym there ∙ at))
  is_one (suc i) u at = inr (others (suc i) u (λ e. absurd (omega arith)) at)

  within : w.front ≤ s.end
  within = let a = (h.invariant.history.calls 0 w there).within in let b = h.invariant.ends in omega arith

  saw : w.saw_down ≡ true → HasRisen s.log_faults s.device.faults
  saw e = (h.invariant.device.columns 0 (omega arith)).rose ((h.invariant.device.cells 0 w 0 there (omega arith)).saw e)

  -- a pass that was taken in
  pub closes_other : (p : PassState) → IsFront s.log.base p.view.calls p.view.front → TookIn p.view w → ClosesPass s p
  closes_other p front t = record {
    front = front;
    within = let a = t.front in let b = within in omega arith;
    seen = let a = t.seen in let b = h.ends 0 w there in omega arith;
    flushed = let a = t.flushed in let b = loaded_flushed s h.invariant 0 w there in omega arith;
    durable = seen_durable s h.invariant 0 p.view.flushed w there t.flushed;
    down = λ e. saw (t.down e);
    swept = λ upto c. sweeps s h.invariant h.debts (entries_of_blocks s h) h.swept 0 upto w there
        (inr (t.kept.0, kept_checkpoint p.view, t.kept.1, λ n inside. subst (λ (x : ℕ). upto ≤ x) (sym (kept_swept p.view n)) (c n inside)));
  }

  -- and the first one, with the view v
  pub closes_first : (p : PassState) (ps : List PassState) → IsFront s.log.base p.view.calls p.view.front → Joins p.view w ps → ClosesPass s p
  closes_first p ps front j = record {
    front = front;
    within = let a = j.front in let b = within in omega arith;
    seen = let a = j.seen in let b = h.ends 0 w there in omega arith;
    flushed = let a = j.flushed in let b = loaded_flushed s h.invariant 0 w there in omega arith;
    durable = seen_durable s h.invariant 0 p.view.flushed w there j.flushed;
    down = λ e. saw (j.down e);
    swept = λ upto c. sweeps s h.invariant h.debts (entries_of_blocks s h) h.swept 0 upto w there
        (inl (λ n inside. subst (λ (x : ℕ). upto ≤ x) (sym (ap (λ (l : List LaneHold). (get_or l n no_lane).swept) j.lanes)) (c n inside)));
  }

  -- the faults that all views count are those of w
  reads_of : (all_met s.pool.core.views).reads ≡ w.met.reads
  reads_of = total-alone (λ (u : View). u.met.reads) s.pool.core.views 0 w there (λ j u n at. ap (λ (x : View). x.met.reads) (others j u n at))

  writes_of : (all_met s.pool.core.views).writes ≡ w.met.writes
  writes_of = total-alone (λ (u : View). u.met.writes) s.pool.core.views 0 w there (λ j u n at. ap (λ (x : View). x.met.writes) (others j u n at))

  logs_of : (all_met s.pool.core.views).logs ≡ w.met.logs
  logs_of = total-alone (λ (u : View). u.met.logs) s.pool.core.views 0 w there (λ j u n at. ap (λ (x : View). x.met.logs) (others j u n at))

  pub reads_rose : 0 < w.met.reads → (q : ℕ) × (q < s.lanes) × HasRisen (s.lane q).read_faults_at_start (s.lane q).read_faults
  reads_rose met = h.counts.lanes.reads_rose (subst (λ (n : ℕ). 0 < n) (sym reads_of) met)

  pub writes_rose : 0 < w.met.writes → (q : ℕ) × (q < s.lanes) × HasRisen (s.lane q).write_faults_at_start (s.lane q).write_faults
  writes_rose met = h.counts.lanes.writes_rose (subst (λ (n : ℕ). 0 < n) (sym writes_of) met)

  pub logs_rose : 0 < w.met.logs → HasRisen s.log_faults s.device.faults
  logs_rose met = h.counts.log.rose (subst (λ (n : ℕ). 0 < n) (sym logs_of) met)

  module _ (free : (n : ℕ) → (lane_hold w n).held ≡ false) (quiet : is_failed w.log.change ≡ false) where
    none_hold : (q : ℕ) → total (λ (u : View). count_weigh holders (lane_hold u q)) s.pool.core.views ≡ 0
    none_hold q = total-none (λ (u : View). count_weigh holders (lane_hold u q)) s.pool.core.views (λ j u at. ⊎_elim
        (λ (e : w ≡ u). subst (λ (x : View). flag_weight (lane_hold x q).held ≡ 0) e (ap flag_weight (free q)))
        (λ (e : u ≡ emptied_view). subst (λ (x : View). flag_weight (lane_hold x q).held ≡ 0) (sym e) refl)
        (is_one j u at))

    none_read : (q : ℕ) → q < s.lanes → total (λ (u : View). count_weigh failed_reads (lane_hold u q)) s.pool.core.views ≡ 0
    none_read q inside = let a = (h.counts.lanes.lanes.columns q inside).split in let b = none_hold q in omega arith

    none_written : (q : ℕ) → q < s.lanes → total (λ (u : View). count_weigh failed_writes (lane_hold u q)) s.pool.core.views ≡ 0
    none_written q inside = let a = (h.counts.lanes.lanes.columns q inside).split in let b = none_hold q in omega arith

    pub reads_met : (q : ℕ) → q < s.lanes → (s.lane q).read_faults_at_start < (s.lane q).read_faults → 0 < w.met.reads
    reads_met q inside more = subst (λ (n : ℕ). 0 < n) reads_of ((h.counts.lanes.lanes.columns q inside).reads.is_met (none_read q inside) more)

    pub writes_met : (q : ℕ) → q < s.lanes → (s.lane q).write_faults_at_start < (s.lane q).write_faults → 0 < w.met.writes
    writes_met q inside more = subst (λ (n : ℕ). 0 < n) writes_of ((h.counts.lanes.lanes.columns q inside).writes.is_met (none_written q inside) more)

    pub failed_met : (tag : ℕ) → failed s tag ≡ true → 0 < w.met.writes
    failed_met tag e = let inside = h.invariant.placed tag in subst (λ (n : ℕ). 0 < n) writes_of ((h.counts.lanes.lanes.columns (s.lane_of tag) inside).failed_met tag e (none_written (s.lane_of tag) inside))

    none_failed : (i : ℕ) (u : View) → get_elem? s.pool.core.views i ≡ some u → is_failed u.log.change ≡ false
    none_failed i u at = ⊎_elim
        (λ (e : w ≡ u). subst (λ (x : View). is_failed x.log.change ≡ false) e quiet)
        (λ (e : u ≡ emptied_view). subst (λ (x : View). is_failed x.log.change ≡ false) (sym e) refl)
        (is_one i u at)

    pub logs_met : s.log_faults < s.device.faults → 0 < w.met.logs
    logs_met more = subst (λ (n : ℕ). 0 < n) logs_of (h.counts.log.is_met none_failed more)

  -- where w has appended no record the log's device has the log's bytes
  none_appended : w.log.appended ≡ None → NoneAppended s
  none_appended none i u at = ⊎_elim
      (λ (e : w ≡ u). subst (λ (x : View). x.log.appended ≡ None) e none)
      (λ (e : u ≡ emptied_view). subst (λ (x : View). x.log.appended ≡ None) (sym e) refl)
      (is_one i u at)

  pub holds_bytes : w.log.appended ≡ None → s.device.down ≡ None → s.device.bytes ≡ log_bytes s.names s.log
  holds_bytes none up = whole s h.invariant (none_appended none) up

  -- what follows the log's bytes on a log that is down begins a record that w tore
  pub tore : (rests : h.rest.behind.rest ≢ []) → s.device.down ≢ None → (k : ℕ) × (x : TornRecord) × (get_elem? w.torn k ≡ some x) × IsOfPage (h.rest.behind.begins rests).entry.change x.tag x.page
  tore rests down = of_view (h.rest.behind.torn rests down)
    where
      of_view : NotesTorn s.pool.core.views (h.rest.behind.begins rests).entry.change → (k : ℕ) × (x : TornRecord) × (get_elem? w.torn k ≡ some x) × IsOfPage (h.rest.behind.begins rests).entry.change x.tag x.page
      of_view (i, k, u, x, at, is, of) = ⊎_elim
          (λ (e : w ≡ u). (k, x, subst (λ (y : View). get_elem? y.torn k ≡ some x) (sym e) is, of))
          (λ (e : u ≡ emptied_view). absurd (some-ne-none x (sym (subst (λ (y : View). get_elem? y.torn k ≡ some x) e is))))
          (is_one i u at)

  -- a block that is noted as unentered is noted by w
  pub noted : (tag : ℕ) → IsUnentered s tag → (k : ℕ) × (get_elem? w.unentered k ≡ some tag)
  noted tag (i, k, u, at, is) = ⊎_elim
      (λ (e : w ≡ u). (k, subst (λ (y : View). get_elem? y.unentered k ≡ some tag) (sym e) is))
      (λ (e : u ≡ emptied_view). absurd (some-ne-none tag
      (sym (subst (λ (y : View). get_elem? y.unentered k ≡ some tag) e is))))
      (is_one i u at)

  -- if w has no mark, no write failed, and there was no output
  quiet_without_mark : w.dirtied_or_synced ≡ false → AllQuiet s
  quiet_without_mark e = h.marks (total-alone mark_weight s.pool.core.views 0 w there (λ j u n at. ap mark_weight (others j u n at)) ∙ ap flag_weight e)

  pub nothing_written : (ps : List PassState) → met_by_passes ps ≡ w.met → EachPass (λ p. p.view.had_output ≡ true → w.had_output ≡ true) ps → w.dirtied_or_synced ≡ false → NothingWritten s ps
  nothing_written ps met output e = let q = quiet_without_mark e in record {
    clean = q.frames;
    unfailed = q.blocks;
    met = ap (λ (m : FailedCalls). m.writes) met ∙ (q.views 0 w there).met;
    output = λ i p at. none_so p.view.had_output w.had_output (output i p at) (q.views 0 w there).output;
  }

  -- the calls are a history
  pub history : IsHistory s.known s.origin s.opened_sizes s.log w.calls
  history = ends_in_history s h.invariant h.spent w there (λ i u n at. ap (λ (x : View). x.emptied) (others i u n at))

  -- where none of them is a write the log is empty
  pub without_puts : (ps : List PassState) → writes_in w.calls ≡ 0 → EachPass (ClosesPass s) ps → NothingPut s ps
  unfolding end_from
  without_puts ps none each = record {
    entries = empty;
    end = end;
    fronts = λ i p at. (let c = each i p at in let low = c.front.from_base in let high = c.within in let is = end in omega arith);
  }
    where
      empty : s.log.entries ≡ []
      empty = no_items s.log.entries (sym history.counted ∙ none)

      end : s.end ≡ s.log.base
      end = h.invariant.ends ∙ ap (end_from s.log.base) empty

module _ {L G : Type 0} where
  -- all of that
  pub closes_all : (d : Devices L G) (o : Opening L G) (ps : List PassState) (lanes : List L) (log : G) (v w : View) (k : ℕ) → IsFirstAt k ps → first_in ps ≡ v → w ≡ joined_views v (others_in ps) → OnlyTokens no_tokens v → AreFronted o.base ps → TookEach o.config.frames ps → length o.lanes.value.items ≡ o.config.lanes → Closes d o w lanes log → ClosesAll d o ps lanes log
  closes_all d o ps lanes log v w k at first is r fronts took opened c = record {
    state = s;
    laws = h;
    opened = c.opened;
    view = w;
    first = c.first;
    joined = ap but_published joined;
    free = joined_hold_nothing v w (others_in ps) j (rests_hold_nothing v r);
    others = c.others;
    counted = c.counted;
    lane = c.lane;
    theirs = still_theirs d.contents o.catalog.value o.lanes.value.items lanes
        (c.counted ∙ sym opened) (λ q l at. subst (λ (n : ℕ). KeepsOthers o.catalog.value n q
        (lane_opened d o q) (d.contents l)) (c.opened.lanes ∙ sym c.counted)
        (c.lane q l at).others);
    covered = c.covered;
    mark = c.mark;
    device = c.device;
    bytes = λ up. holds_bytes s h w c.first c.others (ap (λ (l : LogHold). l.appended) (j.log ∙ r.quiet.log)) (c.device.down ∙ up);
    torn = λ rests down. torn rests (λ up. down (sym c.device.down ∙ up));
    noted = pass_notes;
    history = subst (IsHistory s.known s.origin s.opened_sizes s.log) (j.calls ∙ ap (λ (u : View). u.calls ++ calls_of_passes (others_in ps)) (sym first)) (history s h w c.first c.others);
    each = each;
    reads_rose = λ more. reads_rose s h w c.first c.others (subst (λ (m : FailedCalls). 0 < m.reads) met more);
    writes_rose = λ more. writes_rose s h w c.first c.others (subst (λ (m : FailedCalls). 0 < m.writes) met more);
    logs_rose = λ more. logs_rose s h w c.first c.others (subst (λ (m : FailedCalls). 0 < m.logs) met more);
    reads_met = λ q inside more. subst (λ (m : FailedCalls). 0 < m.reads) (sym met) (reads_met s h w c.first c.others free quiet q inside more);
    writes_met = λ q inside more. subst (λ (m : FailedCalls). 0 < m.writes) (sym met) (writes_met s h w c.first c.others free quiet q inside more);
    logs_met = λ more. subst (λ (m : FailedCalls). 0 < m.logs) (sym met) (logs_met s h w c.first c.others free quiet more);
    failed_met = λ tag e. subst (λ (m : FailedCalls). 0 < m.writes) (sym met) (failed_met s h w c.first c.others free quiet tag e);
    no_mark = λ none. nothing_written s h w c.first c.others ps met output (no_mark none);
    without_puts = λ none. without_puts s h w c.first c.others ps (no_write none) each;
    frames = took;
    counters = λ told. counters_same s.counter (added_by_all ps) added ∙ added_counted ps told;
    least = least;
  }
    where
      s : State
      s = c.state

      h : Laws s
      h = c.laws

      j : Joins v w (others_in ps)
      j = subst (λ (x : View). Joins v x (others_in ps)) (sym is) (joins v (others_in ps))

      joined : w ≡ joined_views (first_in ps) (others_in ps)
      joined = is ∙ ap (λ (x : View). joined_views x (others_in ps)) (sym first)

      added : (n : ℕ) → s.counter n ≡ added_by_all ps n
      added n = counters_sums s h n
          ∙ total-alone (λ (u : View). added_to n u) s.pool.core.views 0 w c.first (λ i u other at. ap (added_to n) (c.others i u other at) ∙ none_added n)
          ∙ ap (added_to n) joined ∙ added_first n ps k at

      least : (n : ℕ) → added_by_all ps n ≤ s.counter n
      least n = let all = added n in omega arith

      met : met_by_passes ps ≡ w.met
      met = met_split ps k at ∙ ap (λ (u : View). sum_of_met u.met (met_by_passes (others_in ps))) first ∙ sym j.met

      free : (n : ℕ) → (lane_hold w n).held ≡ false
      free n = ap (λ (l : List LaneHold). (get_or l n no_lane).held) j.lanes ∙ r.quiet.free n

      quiet : is_failed w.log.change ≡ false
      quiet = ap (λ (l : LogHold). is_failed l.change) (j.log ∙ r.quiet.log)

      front : (i : ℕ) (p : PassState) → get_elem? ps i ≡ some p → IsFront s.log.base p.view.calls p.view.front
      front i p e = subst (λ (base : ℕ). IsFront base p.view.calls p.view.front) (sym c.opened.base) (fronted_at o.base ps i p fronts e)

      each : (i : ℕ) (p : PassState) → get_elem? ps i ≡ some p → ClosesPass s p
      each i p e = ⊎_elim
          (λ (t : p.view ≡ first_in ps). closes_first s h w c.first c.others p (others_in ps) (front i p e) (subst (λ (x : View). Joins x w (others_in ps)) (sym (t ∙ first)) j))
          (λ (t : (n : ℕ) × (get_elem? (others_in ps) n ≡ some p)). closes_other s h w c.first c.others p (front i p e) (subst (TookIn p.view) (sym is) (took_in v (others_in ps) t.0 p t.1)))
          (first_or_other ps k i p at e)

      of_pass : (k : ℕ) (x : TornRecord) → get_elem? (v.torn ++ torn_of_passes (others_in ps)) k ≡ some x → (i n : ℕ) × (p : PassState) × (get_elem? ps i ≡ some p) × (get_elem? p.view.torn n ≡ some x)
      of_pass n x e = ⊎_elim
          (λ (t : get_elem? v.torn n ≡ some x). let f = first_there ps k at in (k, n, f.0, f.1, subst (λ (y : View). get_elem? y.torn n ≡ some x) (sym (f.2 ∙ first)) t))
          (λ (t : (m : ℕ) × (get_elem? (torn_of_passes (others_in ps)) m ≡ some x)). let r = torn_in (others_in ps) t.0 x t.1 in let o = other_there ps k r.0 r.2 at r.3 in (o.0, r.1, r.2, o.1, r.4))
          (at_both v.torn (torn_of_passes (others_in ps)) n x e)

      torn : (rests : h.rest.behind.rest ≢ []) → s.device.down ≢ None → PassTore ps (h.rest.behind.begins rests).entry.change
      torn rests down = let t = tore s h w c.first c.others rests down in let r = of_pass t.0 t.1 (subst (λ (l : List TornRecord). get_elem? l t.0 ≡ some t.1) j.torn t.2) in (r.0, r.1, r.2, t.1, r.3, r.4, t.3)

      noted_pass : (n tag : ℕ)
          → get_elem? (v.unentered ++ unentered_of_passes (others_in ps)) n ≡ some tag
          → PassNotes ps tag
      noted_pass n tag e = ⊎_elim
          (λ (t : get_elem? v.unentered n ≡ some tag). let f = first_there ps k at in (
            k,
            n,
            f.0,
            f.1,
            subst (λ (y : View). get_elem? y.unentered n ≡ some tag) (sym (f.2 ∙ first)) t,
          ))
          (λ (t : (m : ℕ) × (get_elem? (unentered_of_passes (others_in ps)) m ≡ some tag)).
          let r = noted_in (others_in ps) t.0 tag t.1 in
          let o = other_there ps k r.0 r.2 at r.3 in (o.0, r.1, r.2, o.1, r.4))
          (at_both v.unentered (unentered_of_passes (others_in ps)) n tag e)

      pass_notes : (tag : ℕ) → IsUnentered s tag → PassNotes ps tag
      pass_notes tag is = let t = noted s h w c.first c.others tag is in
          noted_pass t.0 tag
          (subst (λ (l : List ℕ). get_elem? l t.0 ≡ some tag) j.unentered t.1)

      output : (i : ℕ) (p : PassState) → get_elem? ps i ≡ some p → p.view.had_output ≡ true → w.had_output ≡ true
      output i p e = ⊎_elim
          (λ (t : p.view ≡ first_in ps). (subst (λ (x : View). Joins x w (others_in ps)) (sym (t ∙ first)) j).output)
          (λ (t : (n : ℕ) × (get_elem? (others_in ps) n ≡ some p)). (subst (TookIn p.view) (sym is) (took_in v (others_in ps) t.0 p t.1)).output)
          (first_or_other ps k i p at e)

      no_mark : ((i : ℕ) (p : PassState) → get_elem? ps i ≡ some p → p.view.dirtied_or_synced ≡ false) → w.dirtied_or_synced ≡ false
      no_mark none = let f = first_there ps k at in ap (λ (x : View). x.dirtied_or_synced) is ∙ no_mark_joined v (others_in ps)
          (ap (λ (x : View). x.dirtied_or_synced) (sym (f.2 ∙ first)) ∙ none k f.0 f.1)
          (λ n p e. let t = other_there ps k n p at e in none t.0 p t.1)

      no_write : EachPass PutNothing ps → writes_in w.calls ≡ 0
      no_write none = let f = first_there ps k at in
          let own = ap (λ (x : View). writes_in x.calls) (sym (f.2 ∙ first)) ∙ none k f.0 f.1 in
          let their = none_put (others_in ps) (λ n p e. let t = other_there ps k n p at e in none t.0 p t.1) in
          ap writes_in j.calls ∙ writes-both v.calls (calls_of_passes (others_in ps)) ∙ omega arith
