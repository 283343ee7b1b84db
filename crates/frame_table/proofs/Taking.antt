-- Steps at latches.
use Rattle.std.proofs.Common.{◌≡◌, ◌≢◌, ℕ, ◌+◌, ◌<◌, ◌≤◌, eqb, Bool, true, false, List, [], ◌++◌, get_or, set, length, length-set, append-nil, get_or-set_same, get_or-set_other, sym, refl, ap, ◌∙◌, subst, arith, eq-eqb, ne_eqb}
use Rattle.std.proofs.Math.Bool.{or-false}
use Rattle.std.specs.Prelude.{◌||◌}
use mathlib.Core.Logic.{dite}
use mathlib.Core.Option.{none, some}
use native.Mathlib.Decide.{ℕ_discrete}
use lib.ListN.{get_elem?}
use lib.Seq.{set-get_or}
use prog.Atomic.{either}
use Rattle.std.specs.Prelude.{is_some, Option}
use Rattle.atomic_table.specs.Table.{Me, step, keeps, stepped, Allows}
use Rattle.atomic_table.specs.Table as table
use Rattle.atomic_table.proofs.Lists.{set_again}
use Rattle.pin_core.specs.declared.view.View.{View}
use Rattle.pin_core.specs.declared.view.MapEntry.{MapEntry}
use Rattle.pin_core.specs.declared.view.TakenLane.{TakenLane}
use Rattle.pin_core.specs.declared.view.PartitionHold.{PartitionHold}
use Rattle.pin_core.specs.declared.view.LaneHold.{LaneHold}
use Rattle.pin_core.specs.State.{Frame, sum_of_met, hold, lane_hold, no_partition, no_lane}
use Rattle.pin_core.specs.State as pool
use Rattle.pin_core.specs.Tallies.{flag_weight}
use Rattle.pin_core.specs.Turns as parts
use Rattle.pin_core.specs.Steps as pin_steps
use Rattle.page_core.specs.Steps as page_steps
use Rattle.history_core.specs.State.{State}
use Rattle.history_core.specs.State as history
use Rattle.history_core.specs.Lanes as lanes
use Rattle.history_core.specs.Lanes.{swept_by}
use Rattle.history_core.specs.Steps.{Step, pools}
use Rattle.history_core.specs.Steps as steps
use Rattle.grid.proofs.Lists.{put_here, put_else, put_at}
use Rattle.table_rule.specs.declared.value.Value.{Value}
use Rattle.table_rule.specs.declared.opening.Opening.{Opening}
use Rattle.table_rule.specs.declared.turn.Place.{Place}
use Rattle.table_rule.specs.declared.turn.Place.TheVariants as place
use Rattle.table_rule.specs.declared.turn.Turn.{Turn}
use Rattle.table_rule.specs.declared.turn.Turn.TheVariants.{Partition, Lane, Log}
use Rattle.table_rule.specs.Layout.{latch_place, word_place}
use Rattle.table_rule.proofs.Places.{latch_low, latch_apart}
use Rattle.history_core.specs.Words.{word_in, words_of}
use Rattle.history_core.specs.Laws.{Laws}
use Rattle.table_rule.specs.Shows.{ShowsFrame, ShowsLatches, is_taken, HasTurn, is_out, IsHome, Devices, KeepsOpening, Shows, RuleHolds}
use Rattle.frame_table.specs.Latches.{MayLeave, LatchAllowed, HasLatch, part_kind, lane_kind, log_kind, view_latched, state_latched, turn_event, DidTurn, SameWork, work_of, view_counted, IsTurned, took, left}
use Rattle.history_core.proofs.Laws.{laws_kept}
use Rattle.frame_table.proofs.Frames.{frame_else, put_keeps, same_at, home_before, SameLane, SameDevice, lane_none, device_none, SameValues, gives_same}

-- what a step at a latch leaves, and what it makes of it
turned_frame : (takes : Bool) (x : Turn) (s : State) (i : ℕ) (v : View) (f : ℕ) → (state_latched takes x s i v).pool.core.frame f ≡ s.pool.core.frame f
turned_frame takes (Partition p) s i v f = refl
turned_frame takes (Lane q) s i v f = refl
turned_frame takes Log s i v f = refl

turned_views : (takes : Bool) (x : Turn) (s : State) (i : ℕ) (v : View) → (state_latched takes x s i v).pool.core.views ≡ set s.pool.core.views i (view_latched takes x s v)
turned_views takes (Partition p) s i v = refl
turned_views takes (Lane q) s i v = refl
turned_views takes Log s i v = refl

part_taken : (takes : Bool) (pt : pool.Partition) (h : PartitionHold) → (parts.partition_after (part_kind takes) pt h).taken ≡ takes
part_taken true pt h = refl
part_taken false pt h = refl

part_map : (takes : Bool) (pt : pool.Partition) (h : PartitionHold) → (parts.partition_after (part_kind takes) pt h).map ≡ pt.map
part_map true pt h = refl
part_map false pt h = refl

part_out : (takes : Bool) (h : PartitionHold) → (parts.hold_after (part_kind takes) h).out ≡ h.out
part_out true h = refl
part_out false h = refl

lane_taken : (takes : Bool) (ln : history.Lane) → (lanes.lane_after (lane_kind takes) ln).taken ≡ takes
lane_taken true ln = refl
lane_taken false ln = refl

lane_same : (takes : Bool) (ln : history.Lane) → SameLane ln (lanes.lane_after (lane_kind takes) ln)
lane_same true ln = record { known = refl; stored = refl; failed = refl; unsynced = refl; reads = refl; writes = refl; reads_at_start = refl; writes_at_start = refl }
lane_same false ln = record { known = refl; stored = refl; failed = refl; unsynced = refl; reads = refl; writes = refl; reads_at_start = refl; writes_at_start = refl }

lane_out_same : (takes : Bool) (flushed swept : ℕ) (ln : history.Lane) (h : LaneHold) → (lanes.lane_hold_after (lane_kind takes) flushed swept h).out ≡ h.out
lane_out_same true flushed swept ln h = refl
lane_out_same false flushed swept ln h = refl

-- two latches with one word are one
same_latch : (n lanes : ℕ) (x y : Turn) → lanes ≤ 16 → HasTurn lanes x → HasTurn lanes y → latch_place n x ≡ latch_place n y → x ≡ y
same_latch n lanes (Partition p) (Partition q) few a b e = ap (λ (k : ℕ). Partition k) {x = p} {y = q} (omega arith)
same_latch n lanes (Partition p) (Lane q) few a b e = absurd (omega arith)
same_latch n lanes (Partition p) Log few a b e = absurd (omega arith)
same_latch n lanes (Lane p) (Partition q) few a b e = absurd (omega arith)
same_latch n lanes (Lane p) (Lane q) few a b e = ap (λ (k : ℕ). Lane k) {x = p} {y = q} (omega arith)
same_latch n lanes (Lane p) Log few a b e = absurd (omega arith)
same_latch n lanes Log (Partition q) few a b e = absurd (omega arith)
same_latch n lanes Log (Lane q) few a b e = absurd (omega arith)
same_latch n lanes Log Log few a b e = refl

taken_is : (takes : Bool) (x : Turn) (s : State) (i : ℕ) (v : View) → is_taken x (state_latched takes x s i v) ≡ takes
taken_is takes (Partition p) s i v = ap (λ (pt : pool.Partition). pt.taken) (put_here s.pool.core.partition p (parts.partition_after (part_kind takes) (s.pool.core.partition p) (hold v p))) ∙ part_taken takes (s.pool.core.partition p) (hold v p)
taken_is takes (Lane q) s i v = ap (λ (ln : history.Lane). ln.taken) (put_here s.lane q (lanes.lane_after (lane_kind takes) (s.lane q))) ∙ lane_taken takes (s.lane q)
taken_is true Log s i v = refl
taken_is false Log s i v = refl

taken_else : (takes : Bool) (x y : Turn) (s : State) (i : ℕ) (v : View) → y ≢ x → is_taken y (state_latched takes x s i v) ≡ is_taken y s
taken_else takes (Partition p) (Partition q) s i v n = ap (λ (pt : pool.Partition). pt.taken) (put_else s.pool.core.partition p (parts.partition_after (part_kind takes) (s.pool.core.partition p) (hold v p)) q (λ e. n (ap (λ (k : ℕ). Partition k) e)))
taken_else takes (Partition p) (Lane q) s i v n = refl
taken_else takes (Partition p) Log s i v n = refl
taken_else takes (Lane p) (Partition q) s i v n = refl
taken_else takes (Lane p) (Lane q) s i v n = ap (λ (ln : history.Lane). ln.taken) (put_else s.lane p (lanes.lane_after (lane_kind takes) (s.lane p)) q (λ e. n (ap (λ (k : ℕ). Lane k) e)))
taken_else takes (Lane p) Log s i v n = refl
taken_else takes Log (Partition q) s i v n = refl
taken_else takes Log (Lane q) s i v n = refl
taken_else takes Log Log s i v n = absurd (n refl)

turned_out : (takes : Bool) (x : Turn) (s : State) (v : View) (y : Place) → is_out y (view_latched takes x s v) ≡ is_out y v
turned_out takes (Partition p) s v (place.Page f) = refl
turned_out takes (Partition p) s v (place.Of (Partition q)) = ap (λ (z : Option (List MapEntry)). is_some z) (same_at (λ (h : PartitionHold). h.out) v.partitions p q (parts.hold_after (part_kind takes) (hold v p)) no_partition (part_out takes (hold v p)))
turned_out takes (Partition p) s v (place.Of (Lane q)) = refl
turned_out takes (Partition p) s v (place.Of Log) = refl
turned_out takes (Lane p) s v (place.Page f) = refl
turned_out takes (Lane p) s v (place.Of (Partition q)) = refl
turned_out takes (Lane p) s v (place.Of (Lane q)) = ap (λ (z : Option TakenLane). is_some z) (same_at (λ (h : LaneHold). h.out) v.lanes p q (lanes.lane_hold_after (lane_kind takes) v.flushed (swept_by v) (lane_hold v p)) no_lane (lane_out_same takes v.flushed (swept_by v) (s.lane p) (lane_hold v p)))
turned_out takes (Lane p) s v (place.Of Log) = refl
turned_out takes Log s v (place.Page f) = refl
turned_out takes Log s v (place.Of (Partition q)) = refl
turned_out takes Log s v (place.Of (Lane q)) = refl
turned_out true Log s v (place.Of Log) = refl
turned_out false Log s v (place.Of Log) = refl

turned_map : (takes : Bool) (x : Turn) (s : State) (i : ℕ) (v : View) (p : ℕ) → ((state_latched takes x s i v).pool.core.partition p).map ≡ (s.pool.core.partition p).map
turned_map takes (Partition q) s i v p = put_keeps (λ (pt : pool.Partition). pt.map) s.pool.core.partition q (parts.partition_after (part_kind takes) (s.pool.core.partition q) (hold v q)) p (part_map takes (s.pool.core.partition q) (hold v q))
turned_map takes (Lane q) s i v p = refl
turned_map takes Log s i v p = refl

turned_lane : (takes : Bool) (x : Turn) (s : State) (i : ℕ) (v : View) (r : ℕ) → SameLane (s.lane r) ((state_latched takes x s i v).lane r)
turned_lane takes (Partition q) s i v r = lane_none (s.lane r)
turned_lane takes (Lane q) s i v r = dite (ℕ_discrete r q)
    (λ e. subst (SameLane (s.lane r)) (sym (put_at s.lane q (lanes.lane_after (lane_kind takes) (s.lane q)) r e)) (subst (λ (k : ℕ). SameLane (s.lane k) (lanes.lane_after (lane_kind takes) (s.lane q))) (sym e) (lane_same takes (s.lane q))))
    (λ n. subst (SameLane (s.lane r)) (sym (put_else s.lane q (lanes.lane_after (lane_kind takes) (s.lane q)) r n)) (lane_none (s.lane r)))
turned_lane takes Log s i v r = lane_none (s.lane r)

-- a step at a latch is a step of the state
turn_step : {L G : Type 0} (d : Devices L G) (o : Opening L G) (takes : Bool) (x : Turn) (s : State) (i : ℕ) (v : View) → KeepsOpening d o s → HasTurn o.config.lanes x → get_elem? s.pool.core.views i ≡ some v → v.emptied ≡ false → LatchAllowed takes x s v → Step (turn_event takes x i) s (state_latched takes x s i v)
turn_step d o true (Partition p) s i v h has there live a = pools (page_steps.cores (pin_steps.turns i p parts.take_turn v there live (let e = h.partitions in omega arith) (record { free = a }))) tt
turn_step d o false (Partition p) s i v h has there live a = pools (page_steps.cores (pin_steps.turns i p parts.leave_turn v there live (let e = h.partitions in omega arith) (record { held = a.0; home = a.1; no_change = a.2 }))) tt
turn_step d o true (Lane q) s i v h has there live a = steps.lanes i q (lane_kind true) v there live (let e = h.lanes in omega arith) (record { free = a }) tt
turn_step d o false (Lane q) s i v h has there live a = steps.lanes i q (lane_kind false) v there live (let e = h.lanes in omega arith) (record { held = a.0; home = a.1 }) tt
turn_step d o true Log s i v h has there live a = steps.logs i (log_kind true) v there live (record { free = a }) tt
turn_step d o false Log s i v h has there live a = steps.logs i (log_kind false) v there live (record { held = a.0; home = a.1; entered = a.2 }) tt

turned_device : (takes : Bool) (x : Turn) (s : State) (i : ℕ) (v : View) → SameDevice s.device (state_latched takes x s i v).device
turned_device takes (Partition p) s i v = device_none s.device
turned_device takes (Lane q) s i v = device_none s.device
turned_device true Log s i v = record { bytes = refl; synced = refl; faults = refl; down = refl }
turned_device false Log s i v = record { bytes = refl; synced = refl; faults = refl; down = refl }

module _ {L G : Type 0} (d : Devices L G) (o : Opening L G) where
  fixed_turned : (takes : Bool) (x : Turn) (s : State) (i : ℕ) (v : View) → KeepsOpening d o s → KeepsOpening d o (state_latched takes x s i v)
  fixed_turned takes (Partition p) s i v h = h
  fixed_turned takes (Lane q) s i v h = record {
    frames = h.frames;
    backends = h.backends;
    base = h.base;
    partitions = h.partitions;
    partition_of = h.partition_of;
    is_fork = h.is_fork;
    sizes = h.sizes;
    resizes = h.resizes;
    names = h.names;
    ranges = h.ranges;
    lanes = h.lanes;
    lane_of = h.lane_of;
    few_backends = h.few_backends;
    few_lanes = h.few_lanes;
    known = h.known;
    held = h.held;
    origin = h.origin;
    unsynced = h.unsynced;
    reads = λ r l at. (turned_lane takes (Lane q) s i v r).reads_at_start ∙ h.reads r l at;
    writes = λ r l at. (turned_lane takes (Lane q) s i v r).writes_at_start ∙ h.writes r l at;
    log_faults = h.log_faults;
  }
  fixed_turned takes Log s i v h = h

  turned_values : (takes : Bool) (x : Turn) (s : State) (i : ℕ) (v : View) → SameValues d o s (state_latched takes x s i v)
  turned_values takes x s i v = record { page = λ f. ap (λ (fr : Frame). fr.page) (turned_frame takes x s i v f); map = turned_map takes x s i v; count = turned_count takes x s i v; lane = turned_lane takes x s i v; device = turned_device takes x s i v }
    where
      turned_count : (takes : Bool) (x : Turn) (s : State) (i : ℕ) (v : View) → (state_latched takes x s i v).lanes ≡ s.lanes
      turned_count takes (Partition p) s i v = refl
      turned_count takes (Lane q) s i v = refl
      turned_count takes Log s i v = refl

  turned_latches : (takes : Bool) (x : Turn) (words : List ℕ) (s : State) (i : ℕ) (v : View) → o.config.lanes ≤ 16 → HasTurn o.config.lanes x → latch_place o.config.frames x < length words → ShowsLatches o.config.frames o.config.lanes words s
      → ShowsLatches o.config.frames o.config.lanes (set words (latch_place o.config.frames x) (flag_weight takes)) (state_latched takes x s i v)
  turned_latches takes x words s i v few has low h = let n = o.config.frames in let at : ℕ = latch_place n x in record {
    latch = λ y has_y. dite (ℕ_discrete (latch_place n y) at)
        (λ e. ap (λ (z : ℕ). get_or (set words at (flag_weight takes)) z 0) e ∙ get_or-set_same words at (flag_weight takes) 0 low ∙ ap flag_weight (sym (taken_is takes x s i v) ∙ ap (λ (z : Turn). is_taken z (state_latched takes x s i v)) (sym (same_latch n o.config.lanes y x few has_y has e))))
        (λ ne. get_or-set_other words at (latch_place n y) (flag_weight takes) 0 ne ∙ h.latch y has_y ∙ ap flag_weight (sym (taken_else takes x y s i v (λ e. ne (ap (latch_place n) e)))));
    word = λ w has_w. get_or-set_other words at (word_place n w) (flag_weight takes) 0 (λ e. latch_apart n o.config.lanes x w few has (sym e)) ∙ h.word w has_w ∙ ap (word_in w) (words_stay takes x);
  }
    where
      words_stay : (takes : Bool) (x : Turn) → words_of s ≡ words_of (state_latched takes x s i v)
      words_stay takes (Partition p) = refl
      words_stay takes _ = refl

  -- The table shows the state after a step at a latch
  shows_turned : (takes : Bool) (x : Turn) (t : table.State (Value L G) View) (s : State) (id : ℕ) (c : List (ℕ × Value L G)) (v : View) → Shows d o t s → get_elem? s.pool.core.views id ≡ some v → HasTurn o.config.lanes x
      → Shows d o (stepped t (latch_place o.config.frames x) (flag_weight takes) id c (view_latched takes x s v) keeps) (state_latched takes x s id v)
  shows_turned takes x t s id c v h there has = let w : View = view_latched takes x s v in let at : ℕ = latch_place o.config.frames x in let few = h.fixed.few_lanes in let low = latch_low o.config.frames o.config.lanes x few has in record {
    fixed = fixed_turned takes x s id v h.fixed;
    words = length-set t.words at (flag_weight takes) ∙ h.words;
    slots = h.slots;
    views = ap (λ (l : List View). set l id w) h.views ∙ sym (turned_views takes x s id v);
    frame = λ g inside. subst (ShowsFrame (set t.words at (flag_weight takes)) g) (sym (turned_frame takes x s id v g)) (frame_else t.words at (flag_weight takes) g (s.pool.core.frame g) (λ e. let l = low.0 in omega arith) (λ e. let l = low.0 in omega arith) (λ e. let l = low.0 in omega arith) (h.frame g inside));
    latches = turned_latches takes x t.words s id v few has (let l = low.1 in let wide = h.words in omega arith) h.latches;
    homes = λ y inside home. let old = h.homes y inside (home_before s.pool.core.views id v w y there (λ e. sym (turned_out takes x s v y) ∙ e) (subst (IsHome y) (turned_views takes x s id v) home)) in
        record { value = old.value; home = old.home; gives = gives_same d o s (state_latched takes x s id v) (turned_values takes x s id v) y old.value old.gives };
    list = h.list;
  }

  is_inside : (x : Turn) (s : State) → KeepsOpening d o s → HasTurn o.config.lanes x → HasLatch x s
  is_inside (Partition p) s h has = let e = h.partitions in omega arith
  is_inside (Lane q) s h has = let e = h.lanes in omega arith
  is_inside Log s h has = tt

  turn_told : (takes : Bool) (x : Turn) (s : State) (id : ℕ) (v : View) → Laws s → HasLatch x s → get_elem? s.pool.core.views id ≡ some v → v.emptied ≡ false → LatchAllowed takes x s v → DidTurn takes x v (view_latched takes x s v)
  turn_told takes x s id v laws inside there live a = record { state = s; laws = laws; seat = id; there = there; live = live; inside = inside; allowed = a; after = refl }

  -- taking a latch, where it is free
  pub takes_there : (slots id : ℕ) (x : Turn) (me : Me (Value L G) View) → HasTurn o.config.lanes x → me.0.emptied ≡ false
      → Allows (RuleHolds d o) slots id me (latch_place o.config.frames x) (λ n. either (eqb n 0) 1 n) (took x (step slots (latch_place o.config.frames x) 0 1 none) me)
  takes_there slots id x me has live t h deep there small = of_taken (is_taken x h.state) refl
    where
      abbrev_there : get_elem? h.state.pool.core.views id ≡ some me.0
      abbrev_there = ap (λ (l : List View). get_elem? l id) (sym h.shows.views) ∙ there

      word_is : get_or t.words (latch_place o.config.frames x) 0 ≡ flag_weight (is_taken x h.state)
      word_is = h.shows.latches.latch x has

      of_taken : (b : Bool) → is_taken x h.state ≡ b
          → (w : View) × (a : table.Act (Value L G)) × table.Valid t.homes me.1 a × RuleHolds d o (stepped t (latch_place o.config.frames x) (either (eqb (get_or t.words (latch_place o.config.frames x) 0) 0) 1 (get_or t.words (latch_place o.config.frames x) 0)) id me.1 w a)
          × took x (step slots (latch_place o.config.frames x) 0 1 none) me (get_or t.words (latch_place o.config.frames x) 0) (w, table.carried_after me.1 a)
      of_taken true e = let at : ℕ = latch_place o.config.frames x in let n : ℕ = get_or t.words at 0 in let one : n ≡ 1 = word_is ∙ ap flag_weight e in let not_zero : n ≢ 0 = (λ z. omega arith) in
          let same : stepped t at (either (eqb n 0) 1 n) id me.1 me.0 keeps ≡ t = (λ i. record { words = (ap (λ (b : Bool). set t.words at (either b 1 n)) (ne_eqb n 0 not_zero) ∙ set-get_or t.words at 0) i; homes = t.homes; views = set_again t.views id me.0 there i }) in
          (me.0, keeps, tt, subst (RuleHolds d o) (sym same) h, (refl, (λ z. absurd (not_zero z)), λ z. refl))
      of_taken false e = let at : ℕ = latch_place o.config.frames x in let n : ℕ = get_or t.words at 0 in let zero_is : n ≡ 0 = word_is ∙ ap flag_weight e in let s = h.state in (
        view_latched true x s me.0,
        keeps,
        tt,
        subst (λ (m : ℕ). RuleHolds d o (stepped t at m id me.1 (view_latched true x s me.0) keeps)) (sym (ap (λ (b : Bool). either b 1 n) (eq-eqb n 0 zero_is))) record {
          state = state_latched true x s id me.0;
          shows = shows_turned true x t s id me.1 me.0 h.shows abbrev_there has;
          laws = laws_kept (turn_step d o true x s id me.0 h.shows.fixed has abbrev_there live e) h.laws;
        },
        (refl, (λ z. turn_told true x s id me.0 h.laws (is_inside x s h.shows.fixed has) abbrev_there live e), λ z. absurd (z zero_is)),
      )

  -- leaving one
  pub leaves_there : (slots id : ℕ) (x : Turn) (me : Me (Value L G) View) → HasTurn o.config.lanes x → me.0.emptied ≡ false → MayLeave x me.0
      → Allows (RuleHolds d o) slots id me (latch_place o.config.frames x) (λ _. 0) (λ _. left x (step slots (latch_place o.config.frames x) 0 0 none) me 0)
  leaves_there slots id x me has live may t h deep there small = let s = h.state in let here : get_elem? s.pool.core.views id ≡ some me.0 = ap (λ (l : List View). get_elem? l id) (sym h.shows.views) ∙ there in (
    view_latched false x s me.0,
    keeps,
    tt,
    record {
      state = state_latched false x s id me.0;
      shows = shows_turned false x t s id me.1 me.0 h.shows here has;
      laws = laws_kept (turn_step d o false x s id me.0 h.shows.fixed has here live may) h.laws;
    },
    (refl, turn_told false x s id me.0 h.laws (is_inside x s h.shows.fixed has) here live may),
  )

-- nothing counted besides
no_met : (v : View) → sum_of_met v.met (record { reads = 0; writes = 0; logs = 0 }) ≡ v.met
no_met v i = record { reads = none_more v.met.reads i; writes = none_more v.met.writes i; logs = none_more v.met.logs i }
  where
    none_more : (n : ℕ) → n + 0 ≡ n
    none_more n = omega arith

-- a step at a lane's latch, or at the log's, calls no device, counts no fault and marks nothing
lane_work : (v : View) → work_of (record v { device_calls = v.device_calls ++ []; met = sum_of_met v.met (record { reads = 0; writes = 0; logs = 0 }); dirtied_or_synced = v.dirtied_or_synced || false }) ≡ work_of v
lane_work v i = record (work_of v) { device_calls = append-nil v.device_calls i; met = no_met v i; dirtied_or_synced = or-false v.dirtied_or_synced i }

log_work : (v : View) → work_of (record v { device_calls = v.device_calls ++ []; met = sum_of_met v.met (record { reads = 0; writes = 0; logs = 0 }); saw_down = v.saw_down || false }) ≡ work_of v
log_work v i = record (work_of v) { device_calls = append-nil v.device_calls i; met = no_met v i; saw_down = or-false v.saw_down i }

-- what a step at a latch makes of the view
work_after : (takes : Bool) (x : Turn) (s : State) (v : View) → SameWork (view_counted takes x v) (view_latched takes x s v)
work_after true (Partition p) s v = refl
work_after false (Partition p) s v = refl
work_after true (Lane q) s v = lane_work v
work_after false (Lane q) s v = lane_work v
work_after true Log s v = log_work v
work_after false Log s v = log_work v

pub turn_work : (takes : Bool) (x : Turn) (v w : View) → DidTurn takes x v w → SameWork (view_counted takes x v) w
turn_work takes x v w d = ap work_of d.after ∙ work_after takes x d.state v

turned_so : (takes : Bool) (x : Turn) (s : State) (v : View) → HasLatch x s → length v.partitions ≡ s.pool.core.partitions → length v.lanes ≡ s.lanes → IsTurned takes x v (view_latched takes x s v)
turned_so takes (Partition p) s v inside parts_wide lanes_wide = (get_or-set_same v.partitions p (parts.hold_after (part_kind takes) (hold v p)) no_partition (omega arith), (λ q n. get_or-set_other v.partitions p q (parts.hold_after (part_kind takes) (hold v p)) no_partition n), refl, refl)
turned_so true (Lane q) s v inside parts_wide lanes_wide = (get_or-set_same v.lanes q (lanes.lane_hold_after (lane_kind true) v.flushed (swept_by v) (lane_hold v q)) no_lane (omega arith), (λ r n. get_or-set_other v.lanes q r (lanes.lane_hold_after (lane_kind true) v.flushed (swept_by v) (lane_hold v q)) no_lane n), refl, refl)
turned_so false (Lane q) s v inside parts_wide lanes_wide = (get_or-set_same v.lanes q (lanes.lane_hold_after (lane_kind false) v.flushed (swept_by v) (lane_hold v q)) no_lane (omega arith), (λ r n. get_or-set_other v.lanes q r (lanes.lane_hold_after (lane_kind false) v.flushed (swept_by v) (lane_hold v q)) no_lane n), refl, refl)
turned_so takes Log s v inside parts_wide lanes_wide = (refl, refl, refl)

pub turn_after : (takes : Bool) (x : Turn) (v w : View) → DidTurn takes x v w → IsTurned takes x v w
turn_after takes x v w d = subst (IsTurned takes x v) (sym d.after) (turned_so takes x d.state v d.inside (d.laws.invariant.pool.core.views.wide d.seat v d.there d.live).1 (d.laws.invariant.wide d.seat v d.there d.live))
