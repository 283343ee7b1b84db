-- The log goes out with the holder of its latch, and comes back.
use Rattle.std.proofs.Common.{◌≡◌, ◌≢◌, ℕ, ◌+◌, ◌<◌, ◌≤◌, Bool, true, false, Option, Some, None, List, [], ◌∷◌, ◌++◌, ◌||◌, get_or, set, length, length-append, append-nil, lit<, sym, refl, ap, ◌∙◌, subst, arith}
use Rattle.std.proofs.lemmas.Option.{same_Some}
use Rattle.std.proofs.Math.Bool.{or-false}
use mathlib.Core.Logic.{dite}
use mathlib.Core.Option.{none, some, some-injective}
use native.Mathlib.Decide.{ℕ_discrete}
use lib.ListN.{get_elem?}
use lib.Seq.{set-get_or}
use Rattle.std.specs.Prelude.{is_some, vec_capacity}
use Rattle.atomic_table.specs.Table.{Me, step, takes, gives, stepped, Allows, rest}
use Rattle.atomic_table.specs.Table as table
use Rattle.block_tag.specs.Names.{packed_tag}
use Rattle.pin_core.specs.declared.view.DeviceCall.{DeviceCall}
use Rattle.pin_core.specs.declared.view.LogChange.TheVariants as change
use Rattle.pin_core.specs.declared.view.LogHold.{LogHold}
use Rattle.pin_core.specs.declared.view.FailedCalls.{FailedCalls}
use Rattle.pin_core.specs.declared.view.TakenLog.{TakenLog}
use Rattle.pin_core.specs.declared.view.TornRecord.{TornRecord}
use Rattle.pin_core.specs.declared.view.View.{View}
use Rattle.pin_core.specs.State.{Page, idle, hold, no_partition, no_lane, sum_of_met}
use Rattle.history_core.specs.Device.{LogKind, log_out, append, fail_append, sync_log, fail_sync, log_back, see_down, LogAllowed, CanCallLog, device_after, log_hold_after, view_logged, log_met_by, is_failed}
use Rattle.history_core.specs.Laws.{Laws}
use Rattle.history_core.specs.Lanes.{Rises}
use Rattle.history_core.specs.Log.{IsImage, image, record_size, change_bytes}
use Rattle.history_core.specs.Outings.{IsAsTaken}
use Rattle.history_core.specs.State.{State, Device}
use Rattle.history_core.specs.Steps.{AppendsRecord, aside}
use Rattle.history_core.specs.Steps as steps
use Rattle.history_core.proofs.Laws.{laws_kept}
use Rattle.history_core.proofs.LogCounting.{others_home}
use Rattle.history_core.proofs.Logs.{record_length}
use Rattle.grid.proofs.Lists as grid
use Rattle.byte_devices.specs.Faults.{Rose}
use Rattle.table_rule.specs.declared.noted_log.LogCall.{LogCall}
use Rattle.table_rule.specs.declared.noted_log.LogCall.TheVariants as log_call
use Rattle.table_rule.specs.declared.noted_log.NotedLog.{NotedLog}
use Rattle.table_rule.specs.declared.opening.Opening.{Opening}
use Rattle.table_rule.specs.declared.turn.Place.{Place}
use Rattle.table_rule.specs.declared.turn.Place.TheVariants as place
use Rattle.table_rule.specs.declared.turn.Turn.{Turn}
use Rattle.table_rule.specs.declared.turn.Turn.TheVariants as turn
use Rattle.table_rule.specs.declared.value.Value.{Value}
use Rattle.table_rule.specs.declared.value.Value.TheVariants as value
use Rattle.table_rule.specs.Layout.{latch_place, slot_of, log_slot}
use Rattle.table_rule.specs.LogCalls.{LogDid}
use Rattle.table_rule.specs.Shows.{is_out, is_taken, IsHome, Devices, Gives, GivesLog, IsLog, HasValue, RuleHolds, KeepsOpening}
use Rattle.frame_table.specs.LogWork.{DidLog, DidTwo, GoesOut, out_steps, view_out, IsPart, ComesHome, home_hold, log_device_calls, torn_home, view_home, MayCall, MarksLogDown, IsLogOut, IsTakenLog, MayComeHome, log_went, log_came}
use Rattle.frame_table.proofs.LogDevices.{rises, log_before, log_appended, log_torn, log_synced, log_unsynced, log_marked, Torn}
use Rattle.frame_table.proofs.Entering.{end_is, can_log, is_entry}
use Rattle.frame_table.proofs.Frames.{set_twice}
use Rattle.frame_table.proofs.Moving.{Moves, shows_out, shows_back, words_none}

-- the state after a step of a kind at the log
abbrev logged : LogKind → State → ℕ → View → State
logged k s i v = record s { pool = aside s.pool i (view_logged k v); device = device_after k s.end s.device }

-- how many bytes the record of a page has
entry_long : (s : State) (word : ℕ) (p : Page) (start : ℕ) → Laws s → IsImage (start + record_size) p → length (change_bytes s.names s.end (image word p)) ≡ record_size
entry_long s word p start laws is = record_length s.names s.end (start + record_size) (image word p) laws.invariant.named is

did_log : (k : LogKind) (s : State) (i : ℕ) (v : View) → Laws s → get_elem? s.pool.core.views i ≡ some v → v.emptied ≡ false → LogAllowed k s.device v.log → AppendsRecord k s v → DidLog k v (view_logged k v)
did_log k s i v laws there live a r = record { state = s; laws = laws; seat = i; there = there; live = live; allowed = a; appends = r; after = refl }

laws_logged : (k : LogKind) (s : State) (i : ℕ) (v : View) → Laws s → get_elem? s.pool.core.views i ≡ some v → v.emptied ≡ false → LogAllowed k s.device v.log → AppendsRecord k s v → Laws (logged k s i v)
laws_logged k s i v laws there live a r = laws_kept (steps.logs i k v there live a r) laws

-- the state with other views and another device
abbrev with_log_device : State → List View → Device → State
with_log_device s views dev = record s { pool = record s.pool { core = record s.pool.core { views = views } }; device = dev }

-- a view and the one after it, which has the same out but for the log
record SameButLog (v w : View) : Type 0 where
  links : w.links ≡ v.links
  partitions : w.partitions ≡ v.partitions
  lanes : w.lanes ≡ v.lanes

module _ {L G : Type 0} (d : Devices L G) (o : Opening L G) where
  -- the log alone moves
  log_moves : (s : State) (id : ℕ) (v w : View) (views : List View) (dev : Device) → KeepsOpening d o s → views ≡ set s.pool.core.views id w → dev.taken ≡ s.device.taken → SameButLog v w → Moves d o s (with_log_device s views dev) id v w (place.Of turn.Log)
  log_moves s id v w views dev f are taken same = record {
    fixed = f;
    views = are;
    frames = λ g. words_none (s.pool.core.frame g);
    latches = latches_of;
    words = refl;
    outs = outs_of;
    values = values_of;
  }
    where
      latches_of : (x : Turn) → is_taken x (with_log_device s views dev) ≡ is_taken x s
      latches_of (turn.Partition p) = refl
      latches_of (turn.Lane q) = refl
      latches_of turn.Log = taken

      outs_of : (x : Place) → x ≢ place.Of turn.Log → is_out x w ≡ is_out x v
      outs_of (place.Page f) n = ap (λ l. is_some (get_or l f idle).out) same.links
      outs_of (place.Of (turn.Partition p)) n = ap (λ l. is_some (get_or l p no_partition).out) same.partitions
      outs_of (place.Of (turn.Lane q)) n = ap (λ l. is_some (get_or l q no_lane).out) same.lanes
      outs_of (place.Of turn.Log) n = absurd (n refl)

      values_of : (x : Place) (z : Value L G) → x ≢ place.Of turn.Log → Gives d o s x z → Gives d o (with_log_device s views dev) x z
      values_of (place.Page f) z n h = h
      values_of (place.Of (turn.Partition p)) z n h = h
      values_of (place.Of (turn.Lane q)) z n h = h
      values_of (place.Of turn.Log) z n h = absurd (n refl)

-- what two steps at the log make of the views
twice : (s : State) (id : ℕ) (j k : LogKind) (v : View) → set (set s.pool.core.views id (view_logged j v)) id (view_logged k (view_logged j v)) ≡ set s.pool.core.views id (view_logged k (view_logged j v))
twice s id j k v = set_twice s.pool.core.views id (view_logged j v) (view_logged k (view_logged j v))

pub met_none : (m : FailedCalls) → sum_of_met m (record { reads = 0; writes = 0; logs = 0 }) ≡ m
met_none m = let a : m.reads + 0 ≡ m.reads = omega arith in let b : m.writes + 0 ≡ m.writes = omega arith in let c : m.logs + 0 ≡ m.logs = omega arith in λ i. record { reads = a i; writes = b i; logs = c i }

-- the view while the log is out
out_view : (taken : TakenLog) (v : View) → taken.down ≡ None → view_logged (log_out taken) v ≡ view_out taken v
out_view taken v down = λ i. record v { log = record v.log { out = Some taken }; device_calls = append-nil v.device_calls i; met = met_none v.met i; saw_down = v.saw_down || is_some (sym down i); steps = v.steps + out_steps (sym down i) }

down_view : (taken : TakenLog) (end : ℕ) (v : View) → taken.down ≡ Some end → view_logged see_down (view_logged (log_out taken) v) ≡ view_out taken v
down_view taken end v down = let more : v.steps + 1 + 1 ≡ v.steps + 2 = omega arith in let calls : (v.device_calls ++ []) ++ [] ≡ v.device_calls = append-nil (v.device_calls ++ []) ∙ append-nil v.device_calls in
    let met = ap (λ (m : FailedCalls). sum_of_met m (record { reads = 0; writes = 0; logs = 0 })) (met_none v.met) ∙ met_none v.met in
    let seen = ap (λ (b : Bool). b || true) (or-false v.saw_down) ∙ ap (λ (x : Option ℕ). v.saw_down || is_some x) (sym down) in
    let count = more ∙ ap (λ (x : Option ℕ). v.steps + out_steps x) (sym down) in
    λ i. record v { log = record v.log { out = Some taken }; device_calls = calls i; met = met i; saw_down = seen i; steps = count i }

-- only the holder of the latch has the log out
log_home : (s : State) (id : ℕ) (v : View) → Laws s → get_elem? s.pool.core.views id ≡ some v → v.log.held ≡ true → v.log.out ≡ None → IsHome (place.Of turn.Log) s.pool.core.views
log_home s id v laws there held out i u at = dite (ℕ_discrete i id)
    (λ e. let same : v ≡ u = some-injective v u (sym there ∙ ap (get_elem? s.pool.core.views) (sym e) ∙ at) in ap (λ (x : View). is_some x.log.out) (sym same) ∙ ap (λ (x : Option TakenLog). is_some x) out)
    (λ n. ap (λ (x : Option TakenLog). is_some x) (others_home s laws.invariant id v there held i u n at))

module _ {L G : Type 0} (d : Devices L G) (o : Opening L G) (slots id : ℕ) (me : Me (Value L G) View) (live : me.0.emptied ≡ false) where
  -- what an operation at the log's latch, which leaves the word, has to give
  abbrev Acts : table.State (Value L G) View → (ℕ → Me (Value L G) View → Type 0) → Type 0
  Acts t then = (w : View) × (a : table.Act (Value L G)) × table.Valid t.homes me.1 a × RuleHolds d o (stepped t (latch_place o.config.frames turn.Log) (get_or t.words (latch_place o.config.frames turn.Log) 0) id me.1 w a)
      × then (get_or t.words (latch_place o.config.frames turn.Log) 0) (w, table.carried_after me.1 a)

  abbrev at_latch : table.Step (Value L G)
  at_latch = step slots (latch_place o.config.frames turn.Log) 0 0 none

  pub log_goes_out : me.0.log.held ≡ true → me.0.log.out ≡ None
      → Allows (RuleHolds d o) slots id me (latch_place o.config.frames turn.Log) (λ n. n) (log_went d.bytes d.synced d.log_faults d.log_calls (slot_of o.config.frames (place.Of turn.Log)) at_latch me)
  log_goes_out held out t h deep there small = of_value value_there.value value_there.home value_there.gives
    where
      here : get_elem? h.state.pool.core.views id ≡ some me.0
      here = ap (λ (l : List View). get_elem? l id) (sym h.shows.views) ∙ there

      value_there : HasValue d o t.homes h.state (place.Of turn.Log)
      value_there = h.shows.homes (place.Of turn.Log) tt (log_home h.state id me.0 h.laws here held out)

      of_value : (y : Value L G) → get_elem? t.homes (log_slot o.config.frames) ≡ some (some y) → GivesLog d y h.state.device → Acts t (log_went d.bytes d.synced d.log_faults d.log_calls (log_slot o.config.frames) at_latch me)
      of_value (value.Log x) home gives_it = of_mark x.down refl
        where
          taken : TakenLog
          taken = record { bytes = d.bytes x.device; synced = h.state.device.synced; faults = h.state.device.faults; calls = d.log_calls x.device; down = h.state.device.down }

          allowed : LogAllowed (log_out taken) h.state.device me.0.log
          allowed = record { held = held; home = out; faults = refl; synced = refl; down = refl; bytes = λ known e. sym (gives_it.0.bytes known e) }

          is_taken_so : IsTakenLog d.bytes d.synced d.log_faults d.log_calls x.device taken
          is_taken_so = record { told = refl; durable = gives_it.0.synced; counted = gives_it.0.faults; called = refl }

          result : (w : View) (views : List View) → views ≡ set h.state.pool.core.views id w → SameButLog me.0 w → is_some w.log.out ≡ true → w ≡ view_out taken me.0 → Laws (with_log_device h.state views h.state.device) → GoesOut taken x.down me.0 w → Acts t (log_went d.bytes d.synced d.log_faults d.log_calls (log_slot o.config.frames) at_latch me)
          result w views are same away is laws did = (
            w,
            takes (log_slot o.config.frames) (value.Log x),
            home,
            record {
              state = with_log_device h.state views h.state.device;
              shows = shows_out d o (set t.words (latch_place o.config.frames turn.Log) (get_or t.words (latch_place o.config.frames turn.Log) 0)) t h.state (with_log_device h.state views h.state.device) id me.0 w (place.Of turn.Log) (set-get_or t.words (latch_place o.config.frames turn.Log) 0) h.shows here
                  (log_moves d o h.state id me.0 w views h.state.device h.shows.fixed are refl same) tt (λ home_x. let no : true ≡ false = sym away ∙ home_x id w (grid.set_here h.state.pool.core.views id me.0 w here) in absurd (cc));
              laws = laws;
            },
            (value.Log x, refl, ((gives_it.1, gives_it.2), record { taken = taken; is_taken = is_taken_so; down = gives_it.0.down; after = is; did = did })),
          )

          of_mark : (m : Option ℕ) → x.down ≡ m → Acts t (log_went d.bytes d.synced d.log_faults d.log_calls (log_slot o.config.frames) at_latch me)
          of_mark None e = let w : View = view_logged (log_out taken) me.0 in
              result w (set h.state.pool.core.views id w) refl (record { links = refl; partitions = refl; lanes = refl }) refl (out_view taken me.0 (gives_it.0.down ∙ e)) (laws_logged (log_out taken) h.state id me.0 h.laws here live allowed tt)
              (subst (λ (m : Option ℕ). GoesOut taken m me.0 w) (sym e) (did_log (log_out taken) h.state id me.0 h.laws here live allowed tt))
          of_mark (Some end) e = let u : View = view_logged (log_out taken) me.0 in let w : View = view_logged see_down u in let between : State = logged (log_out taken) h.state id me.0 in let laws : Laws between = laws_logged (log_out taken) h.state id me.0 h.laws here live allowed tt in
              let here_now : get_elem? between.pool.core.views id ≡ some u = grid.set_here h.state.pool.core.views id me.0 u here in
              let sees : LogAllowed see_down between.device u.log = record { held = held; down = λ z. let no = sym z ∙ gives_it.0.down ∙ e in absurd (cc) } in
              result w (set (set h.state.pool.core.views id u) id w) (twice h.state id (log_out taken) see_down me.0) (record { links = refl; partitions = refl; lanes = refl }) refl (down_view taken end me.0 (gives_it.0.down ∙ e)) (laws_logged see_down between id u laws here_now live sees tt)
              (subst (λ (m : Option ℕ). GoesOut taken m me.0 w) (sym e) (record { between = u; first = did_log (log_out taken) h.state id me.0 h.laws here live allowed tt; second = did_log see_down between id u laws here_now live sees tt }))
      of_value (value.Page q) home gives_it = absurd gives_it
      of_value (value.Map m) home gives_it = absurd gives_it
      of_value (value.Lane l) home gives_it = absurd gives_it
      of_value (value.Lanes l) home gives_it = absurd gives_it
      of_value value.Away home gives_it = absurd gives_it

module _ {L G : Type 0} (d : Devices L G) (o : Opening L G) (slots id : ℕ) (me : Me (Value L G) View) (live : me.0.emptied ≡ false) where
  pub log_comes_back : (x : NotedLog G) → me.1 ≡ (slot_of o.config.frames (place.Of turn.Log), value.Log (record x { call = log_call.Untouched })) ∷ rest me.1 → record_size ≤ vec_capacity x.buffer → ((g : G) → d.log_faults g < 18446744073709551616) → MayComeHome d.bytes d.synced d.log_faults d.log_calls o.catalog.value x me.0
      → Allows (RuleHolds d o) slots id me (latch_place o.config.frames turn.Log) (λ n. n) (log_came (d.bytes x.device) (d.log_faults x.device) x.call (at_latch d o slots id me live) me)
  log_comes_back x hand room fits may t h deep there small = of_call x.call may.did may.marked may.may
    where
      here : get_elem? h.state.pool.core.views id ≡ some me.0
      here = ap (λ (l : List View). get_elem? l id) (sym h.shows.views) ∙ there

      as_taken : IsAsTaken may.taken h.state.device
      as_taken = h.laws.outings id me.0 may.taken here may.out may.unnoted

      faults_same : h.state.device.faults ≡ may.taken.faults
      faults_same = (h.laws.counts.log.counts id me.0 may.taken here may.out).same (ap is_failed may.unnoted)

      was : IsLog d may.before may.taken.down h.state.device
      was = log_before d may.before may.taken h.state.device may.was as_taken faults_same

      away : me.0.log.out ≢ None
      away z = let no = sym may.out ∙ z in absurd (cc)

      can_call : may.taken.down ≡ None → CanCallLog h.state.device me.0.log
      can_call up = record { out = away; once = may.unnoted; up = as_taken.down ∙ up }

      -- the mark of a failure
      ended : (e : Option ℕ) → me.0.log.end ≡ e → e ≢ None → e ≡ Some h.state.end
      ended None e n = absurd (n refl)
      ended (Some k) e n = ap (λ (z : ℕ). Some z) (end_is h.state id me.0 h.laws here live k e)

      counted : Rose (d.log_faults may.before) (d.log_faults x.device) → Rises h.state.device.faults (d.log_faults x.device)
      counted rose = subst (λ (n : ℕ). Rises n (d.log_faults x.device)) (sym was.faults) (rises (d.log_faults may.before) (d.log_faults x.device) (fits may.before) (fits x.device) rose)

      returns : (noted : Bool) (dev : Device) (now : LogHold) → now.out ≡ me.0.log.out → (noted ≡ true → is_failed now.change ≡ true) → (may.taken.faults < dev.faults → noted ≡ true) → LogAllowed (log_back noted) dev now
      returns noted dev now out failed rose = record { out = λ z. away (sym out ∙ z); failed = failed; rose = λ k e lt. rose (subst (λ (y : TakenLog). y.faults < dev.faults) (same_Some k may.taken (sym e ∙ out ∙ may.out)) lt) }

      -- no fault is noted where the count stands
      stands : (dev : Device) → dev.faults ≡ h.state.device.faults → may.taken.faults < dev.faults → false ≡ true
      stands dev e lt = absurd (omega (arith, faults_same))

      home : (call : LogCall) (w : View) (views : List View) (dev : Device) → views ≡ set h.state.pool.core.views id w → dev.taken ≡ h.state.device.taken → SameButLog me.0 w → IsLog d x.device x.down dev → Laws (with_log_device h.state views dev) → ComesHome may.taken (d.bytes x.device) (d.log_faults x.device) call me.0 w
          → Acts d o slots id me live t (log_came (d.bytes x.device) (d.log_faults x.device) call (at_latch d o slots id me live) me)
      home call w views dev are latch same is laws did = (
        w,
        gives,
        tt,
        subst (λ (c : List (ℕ × Value L G)). RuleHolds d o (stepped t (latch_place o.config.frames turn.Log) (get_or t.words (latch_place o.config.frames turn.Log) 0) id c w gives)) (sym hand) record {
          state = with_log_device h.state views dev;
          shows = shows_back d o (set t.words (latch_place o.config.frames turn.Log) (get_or t.words (latch_place o.config.frames turn.Log) 0)) t h.state (with_log_device h.state views dev) id me.0 w (place.Of turn.Log) (value.Log (record x { call = log_call.Untouched })) (set-get_or t.words (latch_place o.config.frames turn.Log) 0) h.shows here
              (log_moves d o h.state id me.0 w views dev h.shows.fixed are latch same) tt (is, refl, room);
          laws = laws;
        },
        (refl, (may.taken, may.out, did)),
      )

      -- by a call and the return
      two : (call : LogCall) (k : LogKind) (noted : Bool) → (device_after k h.state.end h.state.device).taken ≡ h.state.device.taken → LogAllowed k h.state.device me.0.log → AppendsRecord k h.state me.0 → LogAllowed (log_back noted) (device_after k h.state.end h.state.device) (log_hold_after k me.0.log) → IsLog d x.device x.down (device_after k h.state.end h.state.device)
          → ((w : View) → DidTwo k (log_back noted) me.0 w → ComesHome may.taken (d.bytes x.device) (d.log_faults x.device) call me.0 w) → Acts d o slots id me live t (log_came (d.bytes x.device) (d.log_faults x.device) call (at_latch d o slots id me live) me)
      two call k noted latch a r back is did = let u : View = view_logged k me.0 in let w : View = view_logged (log_back noted) u in let between : State = logged k h.state id me.0 in
          let laws : Laws between = laws_logged k h.state id me.0 h.laws here live a r in let here_now : get_elem? between.pool.core.views id ≡ some u = grid.set_here h.state.pool.core.views id me.0 u here in
          home call w (set (set h.state.pool.core.views id u) id w) (device_after k h.state.end h.state.device) (twice h.state id k (log_back noted) me.0) latch (record { links = refl; partitions = refl; lanes = refl }) is (laws_logged (log_back noted) between id u laws here_now live back tt)
          (did w (record { between = u; first = did_log k h.state id me.0 h.laws here live a r; second = did_log (log_back noted) between id u laws here_now live back tt }))

      of_call : (c : LogCall) → LogDid d.bytes d.synced d.log_faults d.log_calls may.before x.device c → MarksLogDown c may.taken.down me.0.log.end x.down → MayCall o.catalog.value c me.0 → Acts d o slots id me live t (log_came (d.bytes x.device) (d.log_faults x.device) c (at_latch d o slots id me live) me)
      of_call log_call.Untouched did mark asks = let w : View = view_logged (log_back false) me.0 in let a = returns false h.state.device me.0.log refl (λ e. absurd (cc)) (stands h.state.device refl) in
          home log_call.Untouched w (set h.state.pool.core.views id w) h.state.device refl refl (record { links = refl; partitions = refl; lanes = refl }) (log_marked d x.device may.taken.down x.down h.state.device (sym (mark.kept refl)) (subst (λ (g : G). IsLog d g may.taken.down h.state.device) (sym did) was))
          (laws_logged (log_back false) h.state id me.0 h.laws here live a tt) (did_log (log_back false) h.state id me.0 h.laws here live a tt)
      of_call (log_call.Appended f tag page piece) did mark asks = let bytes : List ℕ = piece.value.items in let k : LogKind = append f (packed_tag tag) page.value bytes in let dev : Device = device_after k h.state.end h.state.device in
          let is = is_entry h.state id me.0 h.laws here live o.catalog.value h.shows.fixed.names f tag page.value asks.start bytes asks.enters asks.is_record in
          two (log_call.Appended f tag page piece) k false refl
          (record { call = can_call (mark.up refl); entered = asks.entered; unsynced = asks.unsynced; short = (let z = ap (λ (l : List ℕ). length l) is ∙ entry_long h.state (packed_tag tag) page.value asks.start h.laws (record { sound = asks.enters.sound; used = asks.enters.used; full = asks.enters.full; ends = asks.enters.ends }) in omega arith) })
          (image (packed_tag tag) page.value, can_log h.state id me.0 h.laws here live f tag page.value asks.start asks.enters, is) (returns false dev (log_hold_after k me.0.log) refl (λ e. absurd (cc)) (stands dev refl))
          (log_marked d x.device may.taken.down x.down dev (sym (mark.kept refl)) (log_appended d may.before x.device may.taken.down h.state.device bytes was did)) (λ w z. z)
      of_call (log_call.AppendFailed f tag page piece) did mark asks = let bytes : List ℕ = piece.value.items in let torn : Torn d bytes may.before x.device h.state.end h.state.device = log_torn d may.before x.device may.taken.down h.state.end h.state.device bytes was did in
          let k : LogKind = fail_append f (packed_tag tag) page.value torn.part (d.log_faults x.device) in let dev : Device = device_after k h.state.end h.state.device in
          let is = is_entry h.state id me.0 h.laws here live o.catalog.value h.shows.fixed.names f tag page.value asks.start bytes asks.enters asks.is_record in
          let long : length bytes ≡ record_size = ap (λ (l : List ℕ). length l) is ∙ entry_long h.state (packed_tag tag) page.value asks.start h.laws (record { sound = asks.enters.sound; used = asks.enters.used; full = asks.enters.full; ends = asks.enters.ends }) in
          two (log_call.AppendFailed f tag page piece) k true refl
          (record { call = can_call (mark.up refl); rises = counted did.counted; entered = asks.entered; unsynced = asks.unsynced; part = (let sum = length-append torn.part torn.more in let whole = ap (λ (l : List ℕ). length l) torn.begins in omega arith) })
          (image (packed_tag tag) page.value, can_log h.state id me.0 h.laws here live f tag page.value asks.start asks.enters, record { rest = torn.more; begins = torn.begins ∙ is }) (returns true dev (log_hold_after k me.0.log) refl (λ e. refl) (λ e. refl))
          (log_marked d x.device (Some h.state.end) x.down dev (sym (mark.marked refl ∙ ended me.0.log.end refl (mark.loaded refl))) torn.is_log)
          (λ w z. (torn.part, subst (λ (b : Option (List ℕ)). IsPart b (d.bytes x.device) torn.part) (sym may.was.told) torn.is_part, z))
      of_call log_call.Synced did mark asks = let dev : Device = device_after sync_log h.state.end h.state.device in
          two log_call.Synced sync_log false refl (can_call (mark.up refl)) tt (returns false dev (log_hold_after sync_log me.0.log) refl (λ e. absurd (cc)) (stands dev refl))
          (log_marked d x.device may.taken.down x.down dev (sym (mark.kept refl)) (log_synced d may.before x.device may.taken.down h.state.device was did)) (λ w z. z)
      of_call log_call.SyncFailed did mark asks = let k : LogKind = fail_sync may.taken.synced (d.log_faults x.device) in let dev : Device = device_after k h.state.end h.state.device in
          two log_call.SyncFailed k true refl
          (record { call = can_call (mark.up refl); rises = counted did.counted; entered = asks; later = (let e = as_taken.synced in omega arith); within = (let e = as_taken.synced in let low = (h.laws.invariant.device.columns 0 (lit< tt)).synced in omega arith) }) tt
          (returns true dev (log_hold_after k me.0.log) refl (λ e. refl) (λ e. refl))
          (log_marked d x.device (Some h.state.end) x.down dev (sym (mark.marked refl ∙ ended me.0.log.end refl (mark.loaded refl)))
          (subst (λ (n : ℕ). IsLog d x.device (Some h.state.end) (record h.state.device { synced = n; faults = d.log_faults x.device; down = Some h.state.end })) as_taken.synced (log_unsynced d may.before x.device may.taken.down h.state.end h.state.device was did))) (λ w z. z)

-- the view once the log is back
home_as : (noted sees : Bool) (hold : LogHold) (torn : List TornRecord) (calls : List DeviceCall) (v : View)
    → record v { log = hold; torn = torn; device_calls = (v.device_calls ++ calls) ++ []; met = sum_of_met (sum_of_met v.met (record { reads = 0; writes = 0; logs = 0 })) (log_met_by (log_back noted)); saw_down = (v.saw_down || sees) || false; steps = v.steps + 1 + 1 }
    ≡ record v { log = hold; torn = torn; device_calls = v.device_calls ++ calls; met = sum_of_met v.met (log_met_by (log_back noted)); saw_down = v.saw_down || sees; steps = v.steps + 2 }
home_as noted sees hold torn calls v = let more : v.steps + 1 + 1 ≡ v.steps + 2 = omega arith in
    λ i. record v { log = hold; torn = torn; device_calls = append-nil (v.device_calls ++ calls) i; met = sum_of_met (met_none v.met i) (log_met_by (log_back noted)); saw_down = or-false (v.saw_down || sees) i; steps = more i }

two_view : (j k : LogKind) (v w : View) → DidTwo j k v w → w ≡ view_logged k (view_logged j v)
two_view j k v w b = b.second.after ∙ ap (view_logged k) b.first.after

pub home_view : (taken : TakenLog) (bytes : Option (List ℕ)) (faults : ℕ) (call : LogCall) (v w : View) → ComesHome taken bytes faults call v w → w ≡ view_home call v
home_view taken bytes faults log_call.Untouched v w b = b.after
home_view taken bytes faults (log_call.Appended f tag page piece) v w b = two_view (append f (packed_tag tag) page.value piece.value.items) (log_back false) v w b ∙ home_as false false (home_hold (log_call.Appended f tag page piece) v.log) v.torn (log_device_calls (log_call.Appended f tag page piece)) v
home_view taken bytes faults (log_call.AppendFailed f tag page piece) v w (part, is_part, b) = two_view (fail_append f (packed_tag tag) page.value part faults) (log_back true) v w b ∙ home_as true true (home_hold (log_call.AppendFailed f tag page piece) v.log) (torn_home (log_call.AppendFailed f tag page piece) v.torn) (log_device_calls (log_call.AppendFailed f tag page piece)) v
home_view taken bytes faults log_call.Synced v w b = two_view sync_log (log_back false) v w b ∙ home_as false false (home_hold log_call.Synced v.log) v.torn (log_device_calls log_call.Synced) v
home_view taken bytes faults log_call.SyncFailed v w b = two_view (fail_sync taken.synced faults) (log_back true) v w b ∙ home_as true true (home_hold log_call.SyncFailed v.log) v.torn (log_device_calls log_call.SyncFailed) v

-- a log that goes out has no call noted
unnoted_before : (k : LogKind) (v u : View) → DidLog k v u → v.log.out ≡ None → v.log.change ≡ change.Untouched
unnoted_before k v u b out = (b.laws.invariant.device.cells b.seat v 0 b.there (lit< tt)).home out

went_unnoted : (taken : TakenLog) (mark : Option ℕ) (v w : View) → GoesOut taken mark v w → v.log.out ≡ None → v.log.change ≡ change.Untouched
went_unnoted taken None v w b out = unnoted_before (log_out taken) v w b out
went_unnoted taken (Some end) v w b out = unnoted_before (log_out taken) v b.between b.first out

pub out_unnoted : {L G : Type 0} (bytes : G → Option (List ℕ)) (synced faults calls : G → ℕ) (y : Value L G) (v w : View) → IsLogOut bytes synced faults calls y v w → v.log.out ≡ None → w.log.change ≡ change.Untouched
out_unnoted bytes synced faults calls (value.Log x) v w (fresh, b) out = ap (λ (z : View). z.log.change) b.after ∙ went_unnoted b.taken x.down v w b.did out
out_unnoted bytes synced faults calls (value.Page q) v w b out = absurd b
out_unnoted bytes synced faults calls (value.Map m) v w b out = absurd b
out_unnoted bytes synced faults calls (value.Lane l) v w b out = absurd b
out_unnoted bytes synced faults calls (value.Lanes l) v w b out = absurd b
out_unnoted bytes synced faults calls value.Away v w b out = absurd b

module _ {L G : Type 0} (d : Devices L G) (o : Opening L G) where
  -- the seat as the exchange of the slot left it
  pub log_comes_from : (slots id : ℕ) (me me' : Me (Value L G) View) (x : NotedLog G) → me' ≡ (me.0, (slot_of o.config.frames (place.Of turn.Log), value.Log (record x { call = log_call.Untouched })) ∷ rest me.1) → me.0.emptied ≡ false → record_size ≤ vec_capacity x.buffer → ((g : G) → d.log_faults g < 18446744073709551616) → MayComeHome d.bytes d.synced d.log_faults d.log_calls o.catalog.value x me.0
      → Allows (RuleHolds d o) slots id me' (latch_place o.config.frames turn.Log) (λ n. n) (log_came (d.bytes x.device) (d.log_faults x.device) x.call (step slots (latch_place o.config.frames turn.Log) 0 0 none) me')
  log_comes_from slots id me me' x e live room fits may = let now : Me (Value L G) View = (me.0, (slot_of o.config.frames (place.Of turn.Log), value.Log (record x { call = log_call.Untouched })) ∷ rest me.1) in
      subst (λ (m : Me (Value L G) View). Allows (RuleHolds d o) slots id m (latch_place o.config.frames turn.Log) (λ n. n) (log_came (d.bytes x.device) (d.log_faults x.device) x.call (step slots (latch_place o.config.frames turn.Log) 0 0 none) m)) (sym e)
      (log_comes_back d o slots id now live x refl room fits may)
