-- What only rises in a view.
use Rattle.std.proofs.Common.{◌≡◌, ℕ, ◌+◌, ◌≤◌, Bool, true, false, List, [], ◌++◌, append-nil, get_or, refl, sym, ap, ◌∙◌, subst, arith}
use mathlib.Core.Logic.{dite}
use native.Mathlib.Decide.{ℕ_discrete}
use Rattle.pin_core.specs.declared.view.LaneHold.{LaneHold}
use Rattle.pin_core.specs.declared.view.Load.{Load}
use Rattle.pin_core.specs.declared.view.WordChange.{WordChange}
use Rattle.pin_core.specs.declared.view.Resident.{Resident}
use Rattle.pin_core.specs.declared.view.TakenLane.{TakenLane}
use Rattle.pin_core.specs.declared.view.MapEntry.{MapEntry}
use Rattle.pin_core.specs.declared.view.MapChange.{MapChange}
use Rattle.pin_core.specs.declared.view.MapChange.TheVariants.{Stable, Entering, Leaving}
use Rattle.pin_core.specs.declared.view.View.{View}
use Rattle.pin_core.specs.State.{hold, lane_hold, no_lane}
use Rattle.pin_core.specs.Turns as parts
use Rattle.table_rule.specs.LaneCalls.{LaneDevices}
use Rattle.table_rule.specs.declared.noted_lane.LaneCall.{LaneCall}
use Rattle.table_rule.specs.declared.noted_lane.LaneCall.TheVariants.{Untouched, Read, ReadFailed, Written, WriteFailed, Synced, SyncFailed}
use Rattle.table_rule.specs.declared.turn.Turn.{Turn}
use Rattle.table_rule.specs.declared.turn.Turn.TheVariants.{Partition, Lane, Log}
use Rattle.history_core.specs.State.{State}
use Rattle.frame_table.specs.Seats.{Grows, OnlyRises, SameSelf, Stores, Touches}
use Rattle.frame_table.specs.Latches.{ComesBack, DidMap, DidTurn, IsTurned, SameWork, as_it_was, entered, left_out, view_counted, view_latched}
use Rattle.frame_table.specs.LaneWork.{LaneStep, back_lane, back_view, out_lane, out_view, swept_lane}
use Rattle.frame_table.proofs.Residents.{residents_same}
use Rattle.frame_table.proofs.Told.{grows_none, grows_on}

pub rises_none : (v : View) → OnlyRises v v
rises_none v = record { grows = grows_none v; swept = λ q. omega arith; end_seen = omega arith; flushed = omega arith; down = λ d. d }

pub rises_on : (v u w : View) → OnlyRises v u → OnlyRises u w → OnlyRises v w
rises_on v u w a b = record {
  grows = grows_on v u w a.grows b.grows;
  swept = λ q. let x = a.swept q in let y = b.swept q in omega arith;
  end_seen = let x = a.end_seen in let y = b.end_seen in omega arith;
  flushed = let x = a.flushed in let y = b.flushed in omega arith;
  down = λ d. b.down (a.down d);
}

-- a view with the same lanes
pub rises_by : (v w : View) → Grows v w → w.lanes ≡ v.lanes → v.end_seen ≤ w.end_seen → v.flushed ≤ w.flushed → (v.saw_down ≡ true → w.saw_down ≡ true) → OnlyRises v w
rises_by v w g lanes e f d = record {
  grows = g;
  swept = λ q. let same : (lane_hold w q).swept ≡ (lane_hold v q).swept = ap (λ (l : List LaneHold). (get_or l q no_lane).swept) lanes in omega arith;
  end_seen = e;
  flushed = f;
  down = d;
}

pub rises_self : (v w : View) → SameSelf v w → Grows v w → OnlyRises v w
rises_self v w e g = rises_by v w g (ap (λ (x : View). x.lanes) e)
    (let a = ap (λ (x : View). x.end_seen) e in omega arith) (let a = ap (λ (x : View). x.flushed) e in omega arith) (λ d. ap (λ (x : View). x.saw_down) e ∙ d)

pub rises_touched : (f : ℕ) (v w : View) → Touches f v w → OnlyRises v w
rises_touched f v w k = rises_self v w k.self k.grows

pub rises_stored : (f : ℕ) (v w : View) → Stores f v w → OnlyRises v w
rises_stored f v w k = rises_by v w k.grows (ap (λ (x : View). x.lanes) k.self)
    (let a = ap (λ (x : View). x.end_seen) k.self in omega arith) (let a = ap (λ (x : View). x.flushed) k.self in omega arith) (λ d. ap (λ (x : View). x.saw_down) k.self ∙ d)

-- a view that lists more loads, and one that lists what it listed
pub grows_loads : (ls : List Load) (v w : View) → w.loads ≡ v.loads ++ ls → w.changes ≡ v.changes → w.residents ≡ v.residents → v.steps ≤ w.steps → Grows v w
grows_loads ls v w loads changes residents steps = record { loads = (ls, loads); changes = ([], changes ∙ sym (append-nil v.changes)); steps = steps; residents = residents_same v.residents w.residents residents }

pub grows_steps : (v w : View) → w.loads ≡ v.loads → w.changes ≡ v.changes → w.residents ≡ v.residents → v.steps ≤ w.steps → Grows v w
grows_steps v w loads = grows_loads [] v w (loads ∙ sym (append-nil v.loads))

-- what a view lists, its lanes, and the positions of the log that it has seen
pub record Listed : Type 0 where
  pub loads : List Load
  pub changes : List WordChange
  pub residents : List Resident
  pub lanes : List LaneHold
  pub end_seen : ℕ
  pub flushed : ℕ

abbrev pub listed_of : View → Listed
listed_of v = record { loads = v.loads; changes = v.changes; residents = v.residents; lanes = v.lanes; end_seen = v.end_seen; flushed = v.flushed }

-- a step that is counted, and changes none of these
pub rises_ticked : (v w : View) → listed_of w ≡ listed_of v → w.steps ≡ v.steps + 1 → (v.saw_down ≡ true → w.saw_down ≡ true) → OnlyRises v w
rises_ticked v w e steps d = rises_by v w (grows_steps v w (ap (λ (x : Listed). x.loads) e) (ap (λ (x : Listed). x.changes) e) (ap (λ (x : Listed). x.residents) e) (omega arith)) (ap (λ (x : Listed). x.lanes) e)
    (let a = ap (λ (x : Listed). x.end_seen) e in omega arith) (let a = ap (λ (x : Listed). x.flushed) e in omega arith) d

grows_worked : (v w : View) → SameWork v w → v.steps ≤ w.steps → Grows v w
grows_worked v w e steps = grows_steps v w (ap (λ (x : View). x.loads) e) (ap (λ (x : View). x.changes) e) (ap (λ (x : View). x.residents) e) steps

-- a latch
steps_latched : (takes : Bool) (x : Turn) (s : State) (v : View) → v.steps ≤ (view_latched takes x s v).steps
steps_latched true (Partition p) s v = omega arith
steps_latched false (Partition p) s v = omega arith
steps_latched true (Lane q) s v = omega arith
steps_latched false (Lane q) s v = omega arith
steps_latched true Log s v = omega arith
steps_latched false Log s v = omega arith

swept_latched : (takes : Bool) (x : Turn) (v w : View) → IsTurned takes x v w → (q : ℕ) → (lane_hold w q).swept ≡ (lane_hold v q).swept
swept_latched takes (Partition p) v w t q = ap (λ (l : List LaneHold). (get_or l q no_lane).swept) t.2
swept_latched takes (Lane r) v w t q = dite (ℕ_discrete q r)
    (λ e. ap (λ (x : ℕ). (lane_hold w x).swept) e ∙ ap (λ (h : LaneHold). h.swept) t.0 ∙ ap (λ (x : ℕ). (lane_hold v x).swept) (sym e))
    (λ n. ap (λ (h : LaneHold). h.swept) (t.1 q n))
swept_latched takes Log v w t q = ap (λ (l : List LaneHold). (get_or l q no_lane).swept) t.2

-- a view with one more latch counted has all else that it had
pub counted_same : {A : Type 0} (g : View → A) → ((v : View) (n : ℕ) → g (record v { turns = n }) ≡ g v) → (takes : Bool) (x : Turn) (v : View) → g (view_counted takes x v) ≡ g v
counted_same g same true (Partition p) v = same v (v.turns + 1)
counted_same g same true (Lane q) v = refl
counted_same g same true Log v = refl
counted_same g same false x v = refl

pub rises_turned : (takes : Bool) (x : Turn) (v w : View) → SameWork (view_counted takes x v) w → IsTurned takes x v w → DidTurn takes x v w → OnlyRises v w
rises_turned takes x v w e t d = record {
  grows = grows_steps v w (ap (λ (u : View). u.loads) e ∙ counted_same (λ (u : View). u.loads) (λ u n. refl) takes x v) (ap (λ (u : View). u.changes) e ∙ counted_same (λ (u : View). u.changes) (λ u n. refl) takes x v) (ap (λ (u : View). u.residents) e ∙ counted_same (λ (u : View). u.residents) (λ u n. refl) takes x v) (subst (λ (u : View). v.steps ≤ u.steps) (sym d.after) (steps_latched takes x d.state v));
  swept = λ q. let same = swept_latched takes x v w t q in omega arith;
  end_seen = let a = ap (λ (u : View). u.end_seen) e ∙ counted_same (λ (u : View). u.end_seen) (λ u n. refl) takes x v in omega arith;
  flushed = let a = ap (λ (u : View). u.flushed) e ∙ counted_same (λ (u : View). u.flushed) (λ u n. refl) takes x v in omega arith;
  down = λ d. ap (λ (u : View). u.saw_down) e ∙ counted_same (λ (u : View). u.saw_down) (λ u n. refl) takes x v ∙ d;
}

-- a map
steps_mapped : (k : parts.TurnKind) (p : ℕ) (v w : View) → DidMap k p v w → v.steps ≤ w.steps
steps_mapped k p v w d = let a = ap (λ (u : View). u.steps) d.after in omega arith

pub steps_back : (entries : List MapEntry) (p : ℕ) (v w : View) (c : MapChange) → ComesBack entries p v w c → v.steps ≤ w.steps
steps_back entries p v w Stable (as_it_was d) = steps_mapped (parts.map_back entries) p v w d
steps_back entries p v w (Entering tag f) (entered u d e) = let a = steps_mapped parts.change_map p v u d in let b = steps_mapped (parts.map_back entries) p u w e in omega arith
steps_back entries p v w (Leaving tag f) (left_out u d e) = let a = steps_mapped parts.change_map p v u d in let b = steps_mapped (parts.map_back entries) p u w e in omega arith

rises_worked : (v w : View) → SameWork v w → w.lanes ≡ v.lanes → v.steps ≤ w.steps → OnlyRises v w
rises_worked v w e lanes steps = rises_by v w (grows_worked v w e steps) lanes
    (let a = ap (λ (u : View). u.end_seen) e in omega arith) (let a = ap (λ (u : View). u.flushed) e in omega arith) (λ d. ap (λ (u : View). u.saw_down) e ∙ d)

pub rises_map_out : (entries : List MapEntry) (p : ℕ) (v w : View) → SameWork v w → w.lanes ≡ v.lanes → DidMap (parts.map_out entries) p v w → OnlyRises v w
rises_map_out entries p v w e lanes d = rises_worked v w e lanes (steps_mapped (parts.map_out entries) p v w d)

pub rises_map_back : (entries : List MapEntry) (p : ℕ) (v w : View) → SameWork v w → w.lanes ≡ v.lanes → ComesBack entries p v w (hold v p).change → OnlyRises v w
rises_map_back entries p v w e lanes b = rises_worked v w e lanes (steps_back entries p v w (hold v p).change b)

-- a lane
swept_stepped : (q : ℕ) (h : LaneHold) (v w : View) → LaneStep q h v w → (lane_hold v q).swept ≤ h.swept → (r : ℕ) → (lane_hold v r).swept ≤ (lane_hold w r).swept
swept_stepped q h v w s up r = dite (ℕ_discrete r q)
    (λ e. subst (λ (x : ℕ). (lane_hold v x).swept ≤ (lane_hold w x).swept) (sym e) (let a = ap (λ (k : LaneHold). k.swept) s.here in omega arith))
    (λ n. let a = ap (λ (k : LaneHold). k.swept) (s.others r n) in omega arith)

pub rises_out : (q : ℕ) (taken : TakenLane) (v w : View) → w ≡ out_view q taken v → LaneStep q (out_lane taken v.flushed (lane_hold v q)) v w → OnlyRises v w
rises_out q taken v w e s = record {
  grows = grows_steps v w (ap (λ (x : View). x.loads) e) (ap (λ (x : View). x.changes) e) (ap (λ (x : View). x.residents) e) (let a = ap (λ (x : View). x.steps) e in omega arith);
  swept = swept_stepped q (out_lane taken v.flushed (lane_hold v q)) v w s (omega arith);
  end_seen = let a = ap (λ (x : View). x.end_seen) e in omega arith;
  flushed = let a = ap (λ (x : View). x.flushed) e in omega arith;
  down = λ d. ap (λ (x : View). x.saw_down) e ∙ d;
}

pub swept_up : (call : LaneCall) (v : View) (h : LaneHold) → h.swept ≤ (swept_lane call v h).swept
swept_up Untouched v h = omega arith
swept_up (Read f tag page) v h = omega arith
swept_up (ReadFailed tag) v h = omega arith
swept_up (Written f tag page) v h = omega arith
swept_up (WriteFailed f tag page) v h = omega arith
swept_up Synced v h = omega arith
swept_up SyncFailed v h = omega arith

pub rises_back : {L : Type 0} (d : LaneDevices L) (q : ℕ) (after : L) (call : LaneCall) (v w : View) → w ≡ back_view d q after call v → LaneStep q (back_lane (swept_lane call v (lane_hold v q))) v w → OnlyRises v w
rises_back d q after call v w e s = record {
  grows = grows_steps v w (ap (λ (x : View). x.loads) e) (ap (λ (x : View). x.changes) e) (ap (λ (x : View). x.residents) e) (let a = ap (λ (x : View). x.steps) e in omega arith);
  swept = swept_stepped q (back_lane (swept_lane call v (lane_hold v q))) v w s (swept_up call v (lane_hold v q));
  end_seen = let a = ap (λ (x : View). x.end_seen) e in omega arith;
  flushed = let a = ap (λ (x : View). x.flushed) e in omega arith;
  down = λ d. ap (λ (x : View). x.saw_down) e ∙ d;
}
