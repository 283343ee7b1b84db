-- Seats come and go.
use Rattle.std.proofs.Common.{false, ◌≡◌, ℕ, ◌<◌, List, [], ◌∷◌, ◌++◌, length, set, sym, refl, ap, ◌∙◌, subst, arith}
use Rattle.std.specs.Prelude.{is_some, Option, ◌≢◌}
use mathlib.Core.Option.{some}
use lib.ListN.{get_elem?}
use Rattle.atomic_table.specs.Table.{Splits, Joins}
use Rattle.atomic_table.specs.Table as table
use Rattle.pin_core.specs.declared.view.View.{View}
use Rattle.pin_core.specs.State.{joined_view, emptied_view, new_view}
use Rattle.pin_core.specs.Tallies.{flag_weight}
use Rattle.pin_core.specs.declared.view.MapEntry.{MapEntry}
use Rattle.pin_core.specs.declared.view.TakenLane.{TakenLane}
use Rattle.pin_core.specs.declared.view.TakenLog.{TakenLog}
use Rattle.pin_core.specs.Steps.{HoldsNothing}
use Rattle.pin_core.specs.Steps as pin_steps
use Rattle.page_core.specs.Steps as page_steps
use Rattle.history_core.specs.State.{State}
use Rattle.history_core.specs.Steps.{pools}
use Rattle.grid.proofs.Lists.{set_else, at_longer}
use Rattle.history_core.specs.Laws.{Laws}
use Rattle.history_core.proofs.Laws.{laws_kept}
use Rattle.table_rule.specs.declared.value.Value.{Value}
use Rattle.table_rule.specs.declared.opening.Opening.{Opening}
use Rattle.table_rule.specs.declared.turn.Place.{Place}
use Rattle.table_rule.specs.declared.turn.Place.TheVariants as place
use Rattle.table_rule.specs.declared.turn.Turn.{Turn}
use Rattle.table_rule.specs.declared.turn.Turn.TheVariants as turn
use Rattle.table_rule.specs.Shows.{KeepsOpening, is_out, IsPlaceIn, is_taken, IsHome, Devices, Shows, RuleHolds}
use Rattle.frame_table.specs.FrameSteps.{kept_view, split_view}
use Rattle.frame_table.proofs.Frames.{lane_none, device_none, gives_same, same_out, home_before}

module _ {L G : Type 0} (d : Devices L G) (o : Opening L G) where
  -- the state where the views are others, and nothing else
  abbrev with_views : State → List View → State
  with_views s views = record s { pool = record s.pool { core = record s.pool.core { views = views } } }

  taken_stays : (s : State) (views : List View) (x : Turn) → is_taken x s ≡ is_taken x (with_views s views)
  taken_stays s views (turn.Partition p) = refl
  taken_stays s views (turn.Lane q) = refl
  taken_stays s views turn.Log = refl

  -- The table shows it, where no value comes home by it
  shows_views : (t : table.State (Value L G) View) (s : State) (views : List View) → Shows d o t s → ((x : Place) → IsPlaceIn o x → IsHome x views → IsHome x s.pool.core.views) → Shows d o (record t { views = views }) (with_views s views)
  shows_views t s views h home = record {
    fixed = h.fixed;
    words = h.words;
    slots = h.slots;
    views = refl;
    frame = h.frame;
    latches = let l = h.latches in record { latch = λ x has. l.latch x has ∙ ap flag_weight (taken_stays s views x); word = l.word };
    homes = λ x inside none_out. let old = h.homes x inside (home x inside none_out) in
        record { value = old.value; home = old.home; gives = gives_same d o s (with_views s views) (record { page = λ f. refl; map = λ p. refl; count = refl; lane = λ q. lane_none (s.lane q); device = device_none s.device }) x old.value old.gives };
    list = h.list;
  }

  pub splits_there : (base id : ℕ) (v : View) → base ≡ o.base → id ≡ 0 → v.next < o.config.passes → Splits (RuleHolds d o) id v (kept_view v) (split_view base v)
  splits_there base id v based first room t h there = let s = h.state in let core = s.pool.core in
      let here : get_elem? core.views 0 ≡ some v = ap (λ (l : List View). get_elem? l 0) (sym h.shows.views) ∙ ap (get_elem? t.views) (sym first) ∙ there in
      let base_is : base ≡ core.base = based ∙ sym h.shows.fixed.base ∙ sym h.laws.invariant.based in
      let views : List View = set core.views 0 (kept_view v) ++ new_view v.next core.base (length v.links) (length v.partitions) (length v.lanes) ∷ [] in
      let same : set t.views id (kept_view v) ++ split_view base v ∷ [] ≡ views = (λ i. set (h.shows.views i) (first i) (kept_view v) ++ split_view (base_is i) v ∷ []) in
      subst (λ (l : List View). RuleHolds d o record { words = t.words; homes = t.homes; views = l }) (sym same) record {
        state = with_views s views;
        shows = shows_views t s views h.shows (λ x inside none_out. home_before core.views 0 v (kept_view v) x here (λ e. sym (same_out v (kept_view v) refl refl refl refl x) ∙ e) (λ i u at. none_out i u (at_longer (set core.views 0 (kept_view v)) (new_view v.next core.base (length v.links) (length v.partitions) (length v.lanes) ∷ []) i u at)));
        laws = laws_kept (pools (page_steps.cores (pin_steps.splits v here (let e = h.shows.fixed.backends in omega arith))) tt) h.laws;
      }

-- a view that holds nothing has nothing out
pub free_home : {L G : Type 0} (d : Devices L G) (o : Opening L G) (s : State) (j : ℕ) (u : View) → KeepsOpening d o s → Laws s → get_elem? s.pool.core.views j ≡ some u → HoldsNothing u → (x : Place) → IsPlaceIn o x → is_out x u ≡ false
free_home d o s j u h laws there free (place.Page f) has = ap (λ (z : Option (List ℕ)). is_some z) (free.frames f).page_home
free_home d o s j u h laws there free (place.Of (turn.Partition p)) has = ap (λ (z : Option (List MapEntry)). is_some z) ((laws.invariant.pool.core.turns.cells j u p there (let e = h.partitions in omega arith)).resting (free.partitions p)).0
free_home d o s j u h laws there free (place.Of (turn.Lane q)) has = ap (λ (z : Option TakenLane). is_some z) ((laws.invariant.lanes.cells j u q there (let e = h.lanes in omega arith)).hold.resting (free.lanes q))
free_home d o s j u h laws there free (place.Of turn.Log) has = ap (λ (z : Option TakenLog). is_some z) ((laws.invariant.device.cells j u 0 there (omega arith)).resting free.log).0

module _ {L G : Type 0} (d : Devices L G) (o : Opening L G) where
  pub joins_there : (id other : ℕ) (v u : View) → id ≡ 0 → u.emptied ≡ false → HoldsNothing u → Joins (RuleHolds d o) id v other u (joined_view v u) emptied_view
  joins_there id other v u first live free t h there apart at = let s = h.state in let core = s.pool.core in
      let here : get_elem? core.views 0 ≡ some v = ap (λ (l : List View). get_elem? l 0) (sym h.shows.views) ∙ ap (get_elem? t.views) (sym first) ∙ there in
      let other_zero : other ≢ 0 = (λ e. apart (e ∙ sym first)) in
      let there_u : get_elem? core.views other ≡ some u = ap (λ (l : List View). get_elem? l other) (sym h.shows.views) ∙ sym (set_else t.views id other (joined_view v u) apart) ∙ at in
      let views : List View = set (set core.views 0 (joined_view v u)) other emptied_view in
      let same : set (set t.views id (joined_view v u)) other emptied_view ≡ views = (λ i. set (set (h.shows.views i) (first i) (joined_view v u)) other emptied_view) in
      let at_core : get_elem? (set core.views 0 (joined_view v u)) other ≡ some u = set_else core.views 0 other (joined_view v u) other_zero ∙ there_u in
      subst (λ (l : List View). RuleHolds d o record { words = t.words; homes = t.homes; views = l }) (sym same) record {
        state = with_views d o s views;
        shows = shows_views d o t s views h.shows (λ x inside none_out. home_before core.views 0 v (joined_view v u) x here (λ e. sym (same_out v (joined_view v u) refl refl refl refl x) ∙ e)
            (home_before (set core.views 0 (joined_view v u)) other u emptied_view x at_core (λ e. free_home d o s other u h.shows.fixed h.laws there_u free x inside) none_out));
        laws = laws_kept (pools (page_steps.cores (pin_steps.joins other v u here other_zero there_u live free)) tt) h.laws;
      }
