-- A table ends: the first backend has taken the others in, and nothing is out.
use Rattle.std.proofs.Common.{◌≡◌, ◌≢◌, ℕ, ◌+◌, ◌-◌, ◌<◌, ◌≤◌, Bool, true, false, List, [], ◌∷◌, take, length, Vec, sym, refl, ap, ◌∙◌, subst, arith}
use Rattle.std.specs.Prelude.{vec_capacity}
use Rattle.std.specs.Global.{Global}
use mathlib.Core.Logic.{dite}
use mathlib.Core.Option.{some, some-injective}
use native.Mathlib.Decide.{ℕ_discrete}
use Rattle.std.proofs.Math.Decide.{dec_lt}
use lib.ListN.{get_elem?}
use Rattle.atomic_table.specs.Table.{Final, Seen}
use Rattle.atomic_table.specs.Table as table
use Rattle.pin_core.specs.declared.view.View.{View}
use Rattle.pin_core.specs.State.{emptied_view}
use Rattle.pin_core.specs.Steps.{HoldsNothing}
use Rattle.block_tag.specs.declared.tag.Tag.{Tag}
use Rattle.block_tag.specs.Names.{lane_number}
use Rattle.history_core.specs.State.{State, stored_upto, synced_upto}
use Rattle.history_core.proofs.Covered.{syncs_cover}
use Rattle.table_rule.specs.declared.noted_lane.NotedLane.{NotedLane}
use Rattle.table_rule.specs.declared.noted_log.NotedLog.{NotedLog}
use Rattle.table_rule.specs.declared.value.Value.{Value}
use Rattle.table_rule.specs.declared.value.Value.TheVariants as value
use Rattle.table_rule.specs.declared.opening.Opening.{Opening}
use Rattle.table_rule.specs.declared.turn.Place.{Place}
use Rattle.table_rule.specs.declared.turn.Place.TheVariants as place
use Rattle.table_rule.specs.declared.turn.Turn.TheVariants as turn
use Rattle.table_rule.specs.Layout.{slot_of, first_lane_slot, log_slot, list_slot, slot_count, lane_of_tag}
use Rattle.table_rule.specs.Laid.{lanes_among, HasNoDevices, EndsWith}
use Rattle.table_rule.specs.Shows.{is_out, IsHome, Devices, Gives, GivesPage, GivesMap, GivesLane, GivesLog, IsPlaced, IsLane, IsLog, IsPlaceIn, RuleHolds, lane_opened}
use Rattle.table_rule.proofs.Emptying.{at_take, two_last, plain_each, LanesAt, AreThose, are_those, same_item, IsOther, other_plain, other_lanes, lane_plain, log_lanes, list_lanes, one_log}
use Rattle.table_rule.proofs.Opens.{length_low}
use Rattle.frame_table.specs.Closes.{Closes}
use Rattle.frame_table.proofs.LastBackend.{others_emptied}
use Rattle.frame_table.proofs.Splitting.{free_home}

-- what was joined has nothing out
spent_home : (x : Place) → is_out x emptied_view ≡ false
spent_home (place.Page f) = refl
spent_home (place.Of (turn.Partition p)) = refl
spent_home (place.Of (turn.Lane q)) = refl
spent_home (place.Of turn.Log) = refl

module _ {L G : Type 0} (d : Devices L G) (o : Opening L G) (t : table.State (Value L G) View) (h : RuleHolds d o t) (v : View) (there : get_elem? t.views 0 ≡ some v) (live : v.emptied ≡ false) (free : HoldsNothing v) (joined : v.joined + 1 ≡ v.next) where
  abbrev s : State
  s = h.state

  first : get_elem? s.pool.core.views 0 ≡ some v
  first = ap (λ (l : List View). get_elem? l 0) (sym h.shows.views) ∙ there

  -- all others were joined
  joined_others : (i : ℕ) (u : View) → i ≢ 0 → get_elem? s.pool.core.views i ≡ some u → u ≡ emptied_view
  joined_others = others_emptied s h.laws v first live joined

  -- so each value is in its slot
  all_home : (x : Place) → IsPlaceIn o x → IsHome x s.pool.core.views
  all_home x has i u at = dite (ℕ_discrete i 0)
      (λ e. let same : v ≡ u = some-injective v u (sym first ∙ ap (get_elem? s.pool.core.views) (sym e) ∙ at) in subst (λ (z : View). is_out x z ≡ false) same (free_home d o s 0 v h.shows.fixed h.laws first free x has))
      (λ n. ap (is_out x) (joined_others i u n at) ∙ spent_home x)

  module _ (xs : List (Value L G)) (long : length t.homes ≡ length xs) (given : (k : ℕ) (y : Value L G) → get_elem? t.homes k ≡ some (some y) → get_elem? xs k ≡ some y) where
    abbrev n : ℕ
    n = o.config.frames

    value_at : (x : Place) → IsPlaceIn o x → (y : Value L G) × (get_elem? xs (slot_of n x) ≡ some y) × Gives d o s x y
    value_at x has = let r = h.shows.homes x has (all_home x has) in (r.value, given (slot_of n x) r.value r.home, r.gives)

    wide : length xs ≡ slot_count n
    wide = sym long ∙ h.shows.slots

    -- what lies in the slots of pages, of maps, and of lanes that aren't there
    page_at : (f : ℕ) (y : Value L G) → f < n → get_elem? xs f ≡ some y → IsOther y
    page_at f y low at = let r = value_at (place.Page f) low in of_value y (subst (λ (z : Value L G). GivesPage z (s.pool.core.frame f).page) (same_item xs f f r.0 y refl r.1 at) r.2)
      where
        of_value : (z : Value L G) → GivesPage z (s.pool.core.frame f).page → IsOther z
        of_value (value.Page p) g = tt
        of_value (value.Map m) g = absurd g
        of_value (value.Lane l) g = absurd g
        of_value (value.Log l) g = absurd g
        of_value (value.Lanes l) g = absurd g
        of_value value.Away g = absurd g

    map_at : (p i : ℕ) (y : Value L G) → i ≡ n + p → p < 128 → get_elem? xs i ≡ some y → IsOther y
    map_at p i y is low at = let r = value_at (place.Of (turn.Partition p)) low in of_value y (subst (λ (z : Value L G). GivesMap n z (s.pool.core.partition p).map) (same_item xs (n + p) i r.0 y (sym is) r.1 at) r.2)
      where
        of_value : (z : Value L G) → GivesMap n z (s.pool.core.partition p).map → IsOther z
        of_value (value.Page q) g = absurd g
        of_value (value.Map m) g = tt
        of_value (value.Lane l) g = absurd g
        of_value (value.Log l) g = absurd g
        of_value (value.Lanes l) g = absurd g
        of_value value.Away g = absurd g

    spare_at : (q i : ℕ) (y : Value L G) → i ≡ first_lane_slot n + q → o.config.lanes ≤ q → q < 16 → get_elem? xs i ≡ some y → IsOther y
    spare_at q i y is from below at = subst IsOther (same_item xs (first_lane_slot n + q) i value.Away y (sym is) (given (first_lane_slot n + q) value.Away (h.shows.list.spare q from below)) at) tt

    other_at : (i : ℕ) (y : Value L G) → i < first_lane_slot n → get_elem? xs i ≡ some y → IsOther y
    other_at i y low at = dite (dec_lt i n) (λ a. page_at i y a at) (λ a. map_at (i - n) i y (omega arith) (omega arith) at)

    -- a lane's slot has it, and the log's slot the log
    lane_at : (q : ℕ) → q < o.config.lanes → (l : NotedLane L) × (get_elem? xs (first_lane_slot n + q) ≡ some (value.Lane l)) × IsLane {L = L} {G = G} d o.catalog.value s.lanes q (lane_opened d o q) l.device (s.lane q)
    lane_at q low = let r = value_at (place.Of (turn.Lane q)) low in of_value r.0 r.1 r.2
      where
        of_value : (z : Value L G) → get_elem? xs (first_lane_slot n + q) ≡ some z → GivesLane d o.catalog.value s.lanes q (lane_opened d o q) z (s.lane q) → (l : NotedLane L) × (get_elem? xs (first_lane_slot n + q) ≡ some (value.Lane l)) × IsLane {L = L} {G = G} d o.catalog.value s.lanes q (lane_opened d o q) l.device (s.lane q)
        of_value (value.Page p) at g = absurd g
        of_value (value.Map m) at g = absurd g
        of_value (value.Lane l) at g = (l, at, g.0)
        of_value (value.Log l) at g = absurd g
        of_value (value.Lanes l) at g = absurd g
        of_value value.Away at g = absurd g

    pub log_at : (g : NotedLog G) × (get_elem? xs (log_slot n) ≡ some (value.Log g)) × IsLog {L = L} {G = G} d g.device g.down s.device
    log_at = let r = value_at (place.Of turn.Log) tt in of_value r.0 r.1 r.2
      where
        of_value : (z : Value L G) → get_elem? xs (log_slot n) ≡ some z → GivesLog d z s.device → (g : NotedLog G) × (get_elem? xs (log_slot n) ≡ some (value.Log g)) × IsLog {L = L} {G = G} d g.device g.down s.device
        of_value (value.Page p) at g = absurd g
        of_value (value.Map m) at g = absurd g
        of_value (value.Lane l) at g = absurd g
        of_value (value.Log l) at g = (l, at, g.0)
        of_value (value.Lanes l) at g = absurd g
        of_value value.Away at g = absurd g

    list_at : get_elem? xs (list_slot n) ≡ some (value.Lanes h.shows.list.list)
    list_at = given (list_slot n) (value.Lanes h.shows.list.list) h.shows.list.home

    plain_at : (i : ℕ) (y : Value L G) → i < log_slot n → get_elem? xs i ≡ some y → HasNoDevices (y ∷ [])
    plain_at i y low at = dite (dec_lt i (first_lane_slot n)) (λ a. other_plain y (other_at i y a at))
        (λ a. dite (dec_lt (i - first_lane_slot n) o.config.lanes)
        (λ b. let r = lane_at (i - first_lane_slot n) b in subst (λ (z : Value L G). HasNoDevices (z ∷ [])) (same_item xs (first_lane_slot n + (i - first_lane_slot n)) i (value.Lane r.0) y (omega arith) r.1 at) (lane_plain L G r.0))
        (λ b. other_plain y (spare_at (i - first_lane_slot n) i y (omega arith) (omega arith) (omega arith) at)))

    -- the values end with the log and the list
    pub ends_so : EndsWith log_at.0 h.shows.list.list xs
    ends_so = record {
      others = take (log_slot n) xs;
      is = two_last xs (log_slot n) (value.Log log_at.0) (value.Lanes h.shows.list.list) (let w = wide in omega arith) log_at.1 (ap (get_elem? xs) {x = log_slot n + 1} {y = list_slot n} (omega arith) ∙ list_at);
      plain = plain_each (take (log_slot n) xs) (λ i y e. let r = at_take xs (log_slot n) i y e in plain_at i y r.0 r.1);
    }

    -- and its lanes are those in the lanes' slots
    lanes_so : LanesAt (first_lane_slot n) o.config.lanes xs
    lanes_so = record {
      before = λ i y at low. other_lanes y (other_at i y low at);
      there = λ q i y is low at. let r = lane_at q low in (r.0, sym (same_item xs (first_lane_slot n + q) i (value.Lane r.0) y (sym is) r.1 at));
      behind = λ i y at high. dite (dec_lt i (log_slot n)) (λ a. other_lanes y (spare_at (i - first_lane_slot n) i y (omega arith) (omega arith) (omega arith) at))
          (λ a. dite (ℕ_discrete i (log_slot n))
          (λ e. subst (λ (z : Value L G). lanes_among (z ∷ []) ≡ []) (same_item xs (log_slot n) i (value.Log log_at.0) y (sym e) log_at.1 at) (log_lanes L G log_at.0))
          (λ e. subst (λ (z : Value L G). lanes_among (z ∷ []) ≡ []) (same_item xs (list_slot n) i (value.Lanes h.shows.list.list) y (let w = wide in let b = length_low xs i y at in omega arith) list_at at) (list_lanes L G h.shows.list.list)));
      long = (let w = wide in let f = h.shows.fixed.few_lanes in omega arith);
    }

    those : AreThose (first_lane_slot n) o.config.lanes xs
    those = are_those xs (first_lane_slot n) o.config.lanes lanes_so

    pub room_so : length (lanes_among xs) ≤ vec_capacity h.shows.list.list
    room_so = let a = those.counted in let b = h.shows.list.room in omega arith

    -- the lane q of those that come back
    lane_so : (lanes : List L) → lanes ≡ lanes_among xs → (q : ℕ) (l : L) → get_elem? lanes q ≡ some l → IsLane {L = L} {G = G} d o.catalog.value s.lanes q (lane_opened d o q) l (s.lane q)
    lane_so lanes all q l at = let low : q < o.config.lanes = (let a = length_low lanes q l at in let b = ap (λ (z : List L). length z) all in let c = those.counted in omega arith) in let r = lane_at q low in
        subst (λ (x : L). IsLane {L = L} {G = G} d o.catalog.value s.lanes q (lane_opened d o q) x (s.lane q)) (some-injective r.0.device l (sym (those.each q (first_lane_slot n + q) r.0 refl low r.1) ∙ sym (ap (λ (z : List L). get_elem? z q) all) ∙ at)) r.2

    -- where its own list doesn't have a block its sync covered what it has
    covered_so : (q word : ℕ) (l : L) (tag : Tag) → IsLane {L = L} {G = G} d o.catalog.value s.lanes q (lane_opened d o q) l (s.lane q) → IsPlaced o.catalog.value s.lanes q word tag → d.unsynced l tag ≡ false → synced_upto s word ≡ stored_upto s word
    covered_so q word l tag is placed clean = let count = h.shows.fixed.lanes in let here : s.lane_of word ≡ q = ap (λ (g : ℕ → ℕ). g word) h.shows.fixed.lane_of ∙ ap (lane_of_tag o.config.lanes) placed.named ∙ ap (lane_number tag) (sym count) ∙ placed.placed in
        syncs_cover s h.laws.reached word (ap (λ (n : ℕ). (s.lane n).unsynced word) here ∙ is.unsynced word tag placed ∙ clean)

    -- what comes back
    pub closes_so : (lanes : List L) (log : G) → lanes ≡ lanes_among xs → (g : NotedLog G) (list : Vec L Global) → EndsWith g list xs → log ≡ g.device → Closes d o v lanes log
    closes_so lanes log all g list ends is = record {
      state = s;
      laws = h.laws;
      opened = h.shows.fixed;
      first = first;
      others = joined_others;
      counted = ap (λ (l : List L). length l) all ∙ those.counted;
      lane = lane_so lanes all;
      covered = λ q word l tag at placed clean. covered_so q word l tag (lane_so lanes all q l at) placed clean;
      mark = log_at.0.down;
      device = subst (λ (x : G). IsLog {L = L} {G = G} d x log_at.0.down s.device) (sym (one_log log_at.0 g xs h.shows.list.list list ends_so ends) ∙ sym is) log_at.2;
    }

-- What the last state of a closed table gives
module _ {L G : Type 0} (d : Devices L G) (o : Opening L G) (id : ℕ) (v : View) (words : List ℕ) (xs : List (Value L G)) (final : Final (Seen (RuleHolds d o) id v) words xs) (first_id : id ≡ 0) (live : v.emptied ≡ false) (free : HoldsNothing v) (joined : v.joined + 1 ≡ v.next) where
  seen_first : get_elem? final.0.views 0 ≡ some v
  seen_first = ap (get_elem? final.0.views) (sym first_id) ∙ final.1.1

  pub final_ends : (g : NotedLog G) × (list : Vec L Global) × EndsWith g list xs × (list.items ≡ []) × (length (lanes_among xs) ≤ vec_capacity list)
  final_ends = let h = final.1.0 in (
    (log_at d o final.0 h v seen_first live free joined xs final.3 final.4).0,
    h.shows.list.list,
    ends_so d o final.0 h v seen_first live free joined xs final.3 final.4,
    h.shows.list.empty,
    room_so d o final.0 h v seen_first live free joined xs final.3 final.4,
  )

  pub final_closes : (lanes : List L) (log : G) (g : NotedLog G) (list : Vec L Global) → EndsWith g list xs → lanes ≡ lanes_among xs → log ≡ g.device → Closes d o v lanes log
  final_closes lanes log g list ends all is = closes_so d o final.0 final.1.0 v seen_first live free joined xs final.3 final.4 lanes log all g list ends is
