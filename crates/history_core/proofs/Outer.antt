-- What the lanes and the calls know of the views, as a view changes.
use Rattle.std.proofs.Common.{◌≡◌, ◌≢◌, ℕ, zero, suc, ◌<◌, ◌≤◌, Bool, true, false, ◌||◌, Option, List, [], ◌∷◌, ◌++◌, length, set, get_or-set_same, get_or-set_other, sym, refl, ap, ◌∙◌, subst, ⊎_elim, arith}
use mathlib.Core.Option.{some}
use lib.ListN.{get_elem?, length-replicate}
use Rattle.pin_core.specs.declared.view.LaneHold.{LaneHold}
use Rattle.pin_core.specs.declared.view.View.{View}
use Rattle.pin_core.specs.State.{Page, no_lane, no_log, lane_hold, new_view, emptied_view, joined_view}
use Rattle.history_core.specs.Log.{Log, log_end}
use Rattle.history_core.specs.State.{Lane}
use Rattle.history_core.specs.Lanes.{swept_by, LaneKind, LaneAllowed, lane_after, lane_hold_after, LaneLink, lane_shape, lane_part}
use Rattle.history_core.specs.Invariant.{HistoryLaw}
use Rattle.history_core.specs.State.{Device}
use Rattle.history_core.specs.Device.{Written, LogTally, holders, appenders, log_weigh, log_shape, log_part}
use Rattle.history_core.proofs.Device.{no_log_law, log_forgets, down_keeps}
use Rattle.history_core.proofs.Calls.{SameCalls, history_same, history_grows, history_joined}
use Rattle.history_core.proofs.Lanes.{lane_keeps, lane_forgets, no_lane_law}
use Rattle.grid.specs.Shape.{Grid, put}
use Rattle.grid.proofs.Lists.{at_set, at_end, set_else}
use Rattle.grid.proofs.Grids.{touch, sweep, steady, grows}

abbrev pub ViewsAreWide : ℕ → List View → Type 0
ViewsAreWide n views = (i : ℕ) (v : View) → get_elem? views i ≡ some v → v.emptied ≡ false → length v.lanes ≡ n

-- The laws of the log's device, of the calls and of the lanes
pub record Outer (known : ℕ → Bool) (origin : ℕ → Option Page) (sizes : ℕ → ℕ) (log : Log) (n : ℕ) (lane : ℕ → Lane) (flushed : ℕ) (w : Written) (d : Device) (views : List View) : Type 0 where
  pub device : Grid log_shape log_part 1 (λ _. d) (λ _. w) views
  pub history : HistoryLaw known origin sizes log flushed views
  pub lanes : Grid lane_shape lane_part n lane (λ _. flushed) views
  pub wide : ViewsAreWide n views

pub wide_set : (n : ℕ) (views : List View) → ViewsAreWide n views → (i : ℕ) (v w : View) → get_elem? views i ≡ some v → w.emptied ≡ v.emptied → length w.lanes ≡ length v.lanes → ViewsAreWide n (set views i w)
wide_set n views h i v w there emptied long j u e live = ⊎_elim
    (λ (t : (j ≡ i) × (w ≡ u)). ap (λ (x : View). length x.lanes) (sym t.1) ∙ long ∙ h i v there (sym emptied ∙ ap (λ (x : View). x.emptied) t.1 ∙ live))
    (λ (t : (j ≢ i) × (get_elem? views j ≡ some u)). h j u t.1 live) (at_set views i j w u e)

pub wide_emptied : (n : ℕ) (views : List View) → ViewsAreWide n views → (i : ℕ) → ViewsAreWide n (set views i emptied_view)
wide_emptied n views h i j u e live = ⊎_elim (λ (t : (j ≡ i) × (emptied_view ≡ u)). let x : u.emptied ≡ emptied_view.emptied = ap (λ (x : View). x.emptied) (sym t.1) in absurd (cc)) (λ (t : (j ≢ i) × (get_elem? views j ≡ some u)). h j u t.1 live) (at_set views i j emptied_view u e)

pub lane_new : (n p m number base q : ℕ) → lane_hold (new_view number base n p m) q ≡ no_lane
lane_new n p zero number base q = refl
lane_new n p (suc m) number base zero = refl
lane_new n p (suc m) number base (suc q) = lane_new n p m number base q

pub no_weight : (k : LogTally) → log_weigh k no_log ≡ 0
no_weight holders = refl
no_weight appenders = refl

either : (a b : Bool) → (a || b) ≡ true → {A : Type 0} → (a ≡ true → A) → (b ≡ true → A) → A
either true b e x y = x refl
either false b e x y = y e

module _ (known : ℕ → Bool) (origin : ℕ → Option Page) (sizes : ℕ → ℕ) (log : Log) (n : ℕ) (lane : ℕ → Lane) (flushed : ℕ) (bytes : Written) (d : Device) (views : List View) (h : Outer known origin sizes log n lane flushed bytes d views) where
  -- a view changes elsewhere
  pub outer_same : (i : ℕ) (v w : View) → get_elem? views i ≡ some v → SameCalls v w → w.emptied ≡ v.emptied → w.lanes ≡ v.lanes → w.log ≡ v.log → w.saw_down ≡ v.saw_down → Outer known origin sizes log n lane flushed bytes d (set views i w)
  outer_same i v w there same emptied lanes logs saw = record {
    device = steady log_shape log_part 1 (λ _. d) (λ _. bytes) views h.device i v w there saw (λ q. logs);
    history = history_same known origin sizes log flushed views h.history i v w there same;
    lanes = steady lane_shape lane_part n lane (λ _. flushed) views h.lanes i v w there refl (λ q. ap (λ (x : List LaneHold). lane_hold (record w { lanes = x }) q) lanes);
    wide = wide_set n views h.wide i v w there emptied (ap (λ (x : List LaneHold). length x) lanes);
  }

  pub outer_grows : (number base f p : ℕ) → base ≡ log.base → log.base ≤ flushed → log.base ≤ log_end log → Outer known origin sizes log n lane flushed bytes d (views ++ new_view number base f p n ∷ [])
  outer_grows number base f p same low above = let w : View = new_view number base f p n in record {
    device = grows log_shape log_part 1 (λ _. d) (λ _. bytes) views h.device w (λ q k. no_weight k) (λ q below. no_log_law bytes d);
    history = history_grows known origin sizes log flushed views h.history w refl refl same (omega (arith, same, above)) (omega (arith, same, low));
    lanes = grows lane_shape lane_part n lane (λ _. flushed) views h.lanes w (λ q k. ap (lane_shape.weigh k) (lane_new f p n number base q)) (λ q below. subst (LaneLink flushed (lane q)) (sym (lane_new f p n number base q)) (no_lane_law flushed (lane q)));
    wide = λ j u e live. ⊎_elim (λ (t : get_elem? views j ≡ some u). h.wide j u t live) (λ (t : (w ≡ u) × (j ≡ length views)). ap (λ (x : View). length x.lanes) (sym t.0) ∙ length-replicate n no_lane) (at_end views w u j e);
  }

  pub outer_joins : (j : ℕ) (v u : View) → get_elem? views 0 ≡ some v → v.emptied ≡ false → v.number ≡ 0 → j ≢ 0 → get_elem? views j ≡ some u → u.emptied ≡ false → u.number ≡ j → ((q : ℕ) → (lane_hold u q).held ≡ false) → u.log.held ≡ false → Outer known origin sizes log n lane flushed bytes d (set (set views 0 (joined_view v u)) j emptied_view)
  outer_joins j v u there alive zeroth other here going number free unlogged = let w : View = joined_view v u in let down = sweep log_shape log_part log_part 1 (λ _. d) (λ _. d) (λ _. bytes) (λ _. bytes) views 0 v w h.device there
      (λ q below. down_keeps bytes d v.saw_down v.log w.saw_down (λ e. either v.saw_down u.saw_down e (h.device.cells 0 v q there below).saw (h.device.cells j u q here below).saw)) in let first = steady lane_shape lane_part n lane (λ _. flushed) views h.lanes 0 v w there refl (λ q. refl) in record {
        device = sweep log_shape log_part log_part 1 (λ _. d) (λ _. d) (λ _. bytes) (λ _. bytes) (set views 0 w) j u emptied_view down (set_else views 0 j w other ∙ here) (λ q below. log_forgets bytes d u.saw_down u.log unlogged);
        history = history_joined known origin sizes log flushed views h.history j v u there alive zeroth other here going number;
        lanes = sweep lane_shape lane_part lane_part n lane lane (λ _. flushed) (λ _. flushed) (set views 0 w) j u emptied_view first (set_else views 0 j w other ∙ here) (λ q inside. lane_forgets flushed (lane q) (lane_hold u q) (free q));
        wide = wide_emptied n (set views 0 w) (wide_set n views h.wide 0 v w there refl refl) j;
      }

  -- a step at a lane, with more of the view changed
  pub lanes_touched : (i q : ℕ) (k : LaneKind) (v w : View) → get_elem? views i ≡ some v → v.emptied ≡ false → q < n → LaneAllowed k (lane q) (lane_hold v q) → w.lanes ≡ set v.lanes q (lane_hold_after k v.flushed (swept_by v) (lane_hold v q))
      → Grid lane_shape lane_part n (put lane q (lane_after k (lane q))) (λ _. flushed) (set views i w)
  lanes_touched i q k v w there live inside a lanes = let l : LaneHold = lane_hold_after k v.flushed (swept_by v) (lane_hold v q) in
      touch lane_shape lane_part lane_part n lane (λ _. flushed) (λ _. flushed) views i q v w (lane_after k (lane q)) l h.lanes h.lanes there inside
      (record {
        own = refl;
        here = ap (λ (x : List LaneHold). lane_hold (record w { lanes = x }) q) lanes ∙ get_or-set_same v.lanes q l no_lane (subst (λ (m : ℕ). q < m) (sym (h.wide i v there live)) inside);
        else = λ g other. ap (λ (x : List LaneHold). lane_hold (record w { lanes = x }) g) lanes ∙ get_or-set_other v.lanes q g l no_lane other;
      })
      (λ g below other. refl) (lane_keeps v.flushed (swept_by v) flushed (lane q) (lane_hold v q) (h.history.calls i v there).loaded k a)
