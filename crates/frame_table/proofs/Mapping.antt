-- The map of a partition goes out with its holder, and comes back.
use Rattle.std.proofs.Common.{Vec, Global, ◌≡◌, ◌≢◌, ℕ, ◌+◌, ◌<◌, ◌≤◌, Bool, true, false, Some, None, List, ◌∷◌, map, get_or, set, length, get_or-set_same, get_or-set_other, sym, refl, ap, ◌∙◌, subst, arith}
use mathlib.Core.Logic.{dite}
use mathlib.Core.Option.{none, some, some-injective}
use native.Mathlib.Decide.{ℕ_discrete}
use lib.ListN.{get_elem?}
use lib.Seq.{set-get_or}
use Rattle.std.specs.Prelude.{is_some, vec_capacity, Option}
use Rattle.atomic_table.specs.Table.{Me, step, takes, gives, stepped, Allows, rest}
use Rattle.atomic_table.specs.Table as table
use Rattle.pin_core.specs.declared.view.View.{View}
use Rattle.pin_core.specs.declared.view.MapEntry.{MapEntry}
use Rattle.pin_core.specs.declared.view.MapChange.{MapChange}
use Rattle.pin_core.specs.declared.view.MapChange.TheVariants.{Stable, Entering, Leaving}
use Rattle.pin_core.specs.declared.view.PartitionHold.{PartitionHold}
use Rattle.pin_core.specs.State.{hold, no_partition}
use Rattle.pin_core.specs.State as pool
use Rattle.pin_core.specs.Tallies.{flag_weight}
use Rattle.pin_core.specs.Turns as parts
use Rattle.pin_core.specs.Turns.{found, map_after, map_now, owed_by}
use Rattle.pin_core.specs.Steps as pin_steps
use Rattle.page_core.specs.Steps as page_steps
use Rattle.history_core.specs.State.{State}
use Rattle.history_core.specs.Steps.{Step, pools}
use Rattle.history_core.specs.Steps as steps
use Rattle.grid.specs.Shape.{put}
use Rattle.grid.proofs.Lists.{put_here, put_else}
use Rattle.grid.proofs.Lists as grid
use Rattle.grid.proofs.Sums.{terms_le}
use Rattle.table_rule.specs.declared.value.Mapped.{Mapped}
use Rattle.table_rule.specs.declared.value.Value.{Value}
use Rattle.table_rule.specs.declared.value.Value.TheVariants as value
use Rattle.table_rule.specs.declared.opening.Opening.{Opening}
use Rattle.table_rule.specs.declared.turn.Place.{Place}
use Rattle.table_rule.specs.declared.turn.Place.TheVariants as place
use Rattle.table_rule.specs.declared.turn.Turn.{Turn}
use Rattle.table_rule.specs.declared.turn.Turn.TheVariants.{Partition, Lane, Log}
use Rattle.table_rule.specs.Layout.{latch_place, slot_of}
use Rattle.history_core.specs.Laws.{Laws}
use Rattle.table_rule.specs.Shows.{is_taken, is_out, IsHome, AreApart, entry_of, Devices, Gives, GivesEntries, GivesMap, HasValue, KeepsOpening, Shows, RuleHolds}
use Rattle.frame_table.specs.Latches.{AreBelow, DidMap, ComesBack, as_it_was, entered, left_out, MayComeBack, HasNamed, HasRoomFor, IsMap, map_went, map_came, MapStep, SameWork, work_of, is_named, back_hold}
use Rattle.history_core.proofs.Laws.{laws_kept}
use Rattle.frame_table.proofs.Frames.{put_keeps, set_twice}
use Rattle.frame_table.proofs.Moving.{Moves, shows_back, shows_moved, shows_out, words_none}
use Rattle.frame_table.proofs.Fitting.{entries_inside, has_named, has_room}

-- the state after a step of a kind at a partition
abbrev mapped : parts.TurnKind → State → ℕ → ℕ → View → State
mapped k s i p v = record s { pool = record s.pool { core = pin_steps.state_turned k s.pool.core i p v } }

abbrev view_mapped : parts.TurnKind → ℕ → View → View
view_mapped k p v = parts.view_turned k p (hold v p) v

map_step : (k : parts.TurnKind) (s : State) (i p : ℕ) (v : View) → get_elem? s.pool.core.views i ≡ some v → v.emptied ≡ false → p < s.pool.core.partitions → parts.TurnAllowed k (s.pool.core.partition p) (hold v p) → Step (steps.pool (page_steps.pins_and_maps (pin_steps.turn i p k))) s (mapped k s i p v)
map_step k s i p v there live low a = pools (page_steps.cores (pin_steps.turns i p k v there live low a)) tt

-- the other places stay out or home
mapped_out : (k : parts.TurnKind) (p : ℕ) (v : View) (y : Place) → y ≢ place.Of (Partition p) → is_out y (view_mapped k p v) ≡ is_out y v
mapped_out k p v (place.Page f) n = refl
mapped_out k p v (place.Of (Partition q)) n = ap (λ (h : PartitionHold). is_some h.out) (get_or-set_other v.partitions p q (parts.hold_after k (hold v p)) no_partition (λ e. n (ap (λ (z : ℕ). place.Of (Partition z)) e)))
mapped_out k p v (place.Of (Lane q)) n = refl
mapped_out k p v (place.Of Log) n = refl

-- and so do their values
mapped_gives : {L G : Type 0} (d : Devices L G) (o : Opening L G) (k : parts.TurnKind) (s : State) (i p : ℕ) (v : View) (y : Place) (z : Value L G) → y ≢ place.Of (Partition p) → Gives d o s y z → Gives d o (mapped k s i p v) y z
mapped_gives d o k s i p v (place.Page f) z n h = h
mapped_gives d o k s i p v (place.Of (Partition q)) z n h = subst (λ (pt : pool.Partition). GivesMap o.config.frames z pt.map) (sym (put_else s.pool.core.partition p (parts.partition_after k (s.pool.core.partition p) (hold v p)) q (λ e. n (ap (λ (x : ℕ). place.Of (Partition x)) e)))) h
mapped_gives d o k s i p v (place.Of (Lane q)) z n h = h
mapped_gives d o k s i p v (place.Of Log) z n h = h

mapped_taken : (k : parts.TurnKind) (s : State) (i p : ℕ) (v : View) → (parts.partition_after k (s.pool.core.partition p) (hold v p)).taken ≡ (s.pool.core.partition p).taken → (x : Turn) → is_taken x (mapped k s i p v) ≡ is_taken x s
mapped_taken k s i p v kept (Partition q) = put_keeps (λ (pt : pool.Partition). pt.taken) s.pool.core.partition p (parts.partition_after k (s.pool.core.partition p) (hold v p)) q kept
mapped_taken k s i p v kept (Lane q) = refl
mapped_taken k s i p v kept Log = refl

module _ {L G : Type 0} (d : Devices L G) (o : Opening L G) where
  -- such a step moves the map of its partition alone
  moves_map : (k : parts.TurnKind) (s : State) (id p : ℕ) (v : View) → KeepsOpening d o s → (parts.partition_after k (s.pool.core.partition p) (hold v p)).taken ≡ (s.pool.core.partition p).taken → Moves d o s (mapped k s id p v) id v (view_mapped k p v) (place.Of (Partition p))
  moves_map k s id p v f kept = record {
    fixed = f;
    views = refl;
    frames = λ g. words_none (s.pool.core.frame g);
    latches = mapped_taken k s id p v kept;
    words = refl;
    outs = mapped_out k p v;
    values = mapped_gives d o k s id p v;
  }

  -- no other view has the map of a partition out, where one holds its latch
  map_home : (s : State) (id p : ℕ) (v : View) → Laws s → get_elem? s.pool.core.views id ≡ some v → p < s.pool.core.partitions → (hold v p).held ≡ true → (i : ℕ) (u : View) → i ≢ id → get_elem? s.pool.core.views i ≡ some u → (hold u p).out ≡ None
  map_home s id p v laws there low held i u other at = ((laws.invariant.pool.core.turns.cells i u p at low).resting (unheld (hold u p).held refl)).0
    where
      one : flag_weight (s.pool.core.partition p).taken ≤ 1
      one = flag_low (s.pool.core.partition p).taken
        where
          flag_low : (b : Bool) → flag_weight b ≤ 1
          flag_low true = omega arith
          flag_low false = omega arith

      unheld : (b : Bool) → (hold u p).held ≡ b → (hold u p).held ≡ false
      unheld false e = e
      unheld true e = let both = terms_le (λ (x : View). flag_weight (hold x p).held) s.pool.core.views id i v u other there at in let sum = (laws.invariant.pool.core.turns.columns p low).taken in
          absurd (let a = ap flag_weight held in let b = ap flag_weight e in omega (arith, one, sum))

  pub goes_out : (slots id p : ℕ) (me : Me (Value L G) View) → p < 128 → me.0.emptied ≡ false → (hold me.0 p).held ≡ true → (hold me.0 p).out ≡ None
      → Allows (RuleHolds d o) slots id me (latch_place o.config.frames (Partition p)) (λ n. n) (map_went o.config.frames p (slot_of o.config.frames (place.Of (Partition p))) (step slots (latch_place o.config.frames (Partition p)) 0 0 none) me)
  goes_out slots id p me below live held out t h deep there small = of_value value_there.value value_there.home value_there.gives
    where
      here : get_elem? h.state.pool.core.views id ≡ some me.0
      here = ap (λ (l : List View). get_elem? l id) (sym h.shows.views) ∙ there

      low : p < h.state.pool.core.partitions
      low = let e = h.shows.fixed.partitions in omega arith

      none_out : IsHome (place.Of (Partition p)) h.state.pool.core.views
      none_out i u at = dite (ℕ_discrete i id)
          (λ e. let same : me.0 ≡ u = some-injective me.0 u (sym here ∙ ap (get_elem? h.state.pool.core.views) (sym e) ∙ at) in ap (λ (x : View). is_some (hold x p).out) (sym same) ∙ ap (λ (x : Option (List MapEntry)). is_some x) out)
          (λ n. ap (λ (x : Option (List MapEntry)). is_some x) (map_home h.state id p me.0 h.laws here low held i u n at))

      room_for : (m : Vec Mapped Global) → GivesEntries o.config.frames m (h.state.pool.core.partition p).map → HasRoomFor (hold me.0 p) m
      room_for m gives_it tag f entering unchanged = let shown = h.shows.fixed.frames in let few = has_room h.state id p me.0 h.laws here low held unchanged m (record { found = gives_it.found; apart = gives_it.apart; room = (let r = gives_it.room in omega arith) }) tag f entering in let long = m.ok.0 in omega arith

      below_for : (m : Vec Mapped Global) → GivesEntries o.config.frames m (h.state.pool.core.partition p).map → AreBelow o.config.frames m.items
      below_for m gives_it i a at = subst (λ (n : ℕ). a.frame < n) h.shows.fixed.frames (entries_inside h.state h.laws p o.config.frames m gives_it i a at)

      value_there : HasValue d o t.homes h.state (place.Of (Partition p))
      value_there = h.shows.homes (place.Of (Partition p)) below none_out

      of_value : (y : Value L G) → get_elem? t.homes (o.config.frames + p) ≡ some (some y) → GivesMap o.config.frames y (h.state.pool.core.partition p).map
          → (w : View) × (a : table.Act (Value L G)) × table.Valid t.homes me.1 a × RuleHolds d o (stepped t (latch_place o.config.frames (Partition p)) (get_or t.words (latch_place o.config.frames (Partition p)) 0) id me.1 w a)
          × map_went o.config.frames p (o.config.frames + p) (step slots (latch_place o.config.frames (Partition p)) 0 0 none) me (get_or t.words (latch_place o.config.frames (Partition p)) 0) (w, table.carried_after me.1 a)
      of_value (value.Map m) home gives_it = let entries : List MapEntry = map entry_of m.items in let k : parts.TurnKind = parts.map_out entries in let w : View = view_mapped k p me.0 in
          let a : parts.TurnAllowed k (h.state.pool.core.partition p) (hold me.0 p) = record { held = held; home = out; entries_are = gives_it.found } in (
            w,
            takes (o.config.frames + p) (value.Map m),
            home,
            record {
              state = mapped k h.state id p me.0;
              shows = shows_out d o (set t.words (latch_place o.config.frames (Partition p)) (get_or t.words (latch_place o.config.frames (Partition p)) 0)) t h.state (mapped k h.state id p me.0) id me.0 w (place.Of (Partition p)) (set-get_or t.words (latch_place o.config.frames (Partition p)) 0) h.shows here (moves_map k h.state id p me.0 h.shows.fixed refl) below
                  (λ home_x. is_away (home_x id w (grid.set_here h.state.pool.core.views id me.0 w here)) entries);
              laws = laws_kept (map_step k h.state id p me.0 here live low a) h.laws;
            },
            (value.Map m, entries, refl, (refl, gives_it.apart, gives_it.room), room_for m gives_it, record { state = h.state; laws = h.laws; spread = h.shows.fixed.partition_of; seat = id; there = here; live = live; inside = low; allowed = a; after = refl }, below_for m gives_it),
          )
        where
          is_away : is_out (place.Of (Partition p)) (view_mapped (parts.map_out (map entry_of m.items)) p me.0) ≡ false → List MapEntry → ⊥
          is_away e l = let wide = (h.laws.invariant.pool.core.views.wide id me.0 here live).1 in let there_now = get_or-set_same me.0.partitions p (parts.hold_after (parts.map_out (map entry_of m.items)) (hold me.0 p)) no_partition (let z = low in omega arith) in
              let yes : true ≡ false = sym (ap (λ (x : PartitionHold). is_some x.out) there_now) ∙ e in absurd (cc)
      of_value (value.Page q) home gives_it = absurd gives_it
      of_value (value.Lane l) home gives_it = absurd gives_it
      of_value (value.Log g) home gives_it = absurd gives_it
      of_value (value.Lanes l) home gives_it = absurd gives_it
      of_value value.Away home gives_it = absurd gives_it

  -- a step while the map is out
  shows_away : (k : parts.TurnKind) (words : List ℕ) (t : table.State (Value L G) View) (s : State) (id p : ℕ) (v : View) → words ≡ t.words → p < 128 → Shows d o t s → (parts.partition_after k (s.pool.core.partition p) (hold v p)).taken ≡ (s.pool.core.partition p).taken
      → get_elem? s.pool.core.views id ≡ some v → is_out (place.Of (Partition p)) (view_mapped k p v) ≡ true → Shows d o record { words = words; homes = t.homes; views = set t.views id (view_mapped k p v) } (mapped k s id p v)
  shows_away k words t s id p v same below h kept there away = shows_moved d o words t s (mapped k s id p v) id v (view_mapped k p v) (place.Of (Partition p)) t.homes same h there (moves_map k s id p v h.fixed kept) below h.slots h.list (λ i n. refl)
      (λ home_x. let no : true ≡ false = sym away ∙ home_x id (view_mapped k p v) (grid.set_here s.pool.core.views id v (view_mapped k p v) there) in absurd (cc))

  -- the step by which it is home again
  shows_home : (entries : List MapEntry) (words : List ℕ) (t : table.State (Value L G) View) (s : State) (id p : ℕ) (v : View) (y : Value L G) → words ≡ t.words → p < 128 → Shows d o t s → get_elem? s.pool.core.views id ≡ some v → GivesMap o.config.frames y (s.pool.core.partition p).map
      → Shows d o record { words = words; homes = set t.homes (o.config.frames + p) (some y); views = set t.views id (view_mapped (parts.map_back entries) p v) } (mapped (parts.map_back entries) s id p v)
  shows_home entries words t s id p v y same below h there gives_it = let k : parts.TurnKind = parts.map_back entries in shows_back d o words t s (mapped k s id p v) id v (view_mapped k p v) (place.Of (Partition p)) y same h there (moves_map k s id p v h.fixed refl) below
      (subst (λ (pt : pool.Partition). GivesMap o.config.frames y pt.map) (sym (put_here s.pool.core.partition p (s.pool.core.partition p))) gives_it)

some_out : (x : Option (List MapEntry)) → x ≢ None → is_some x ≡ true
some_out None n = absurd (n refl)
some_out (Some e) n = refl

module _ {L G : Type 0} (d : Devices L G) (o : Opening L G) where
  pub comes_back : (slots id p : ℕ) (me : Me (Value L G) View) (y : Value L G) (entries : List MapEntry) → p < 128 → me.0.emptied ≡ false → me.1 ≡ (slot_of o.config.frames (place.Of (Partition p)), y) ∷ rest me.1 → IsMap o.config.frames y entries → MayComeBack entries p me.0
      → Allows (RuleHolds d o) slots id me (latch_place o.config.frames (Partition p)) (λ n. n) (map_came p entries (step slots (latch_place o.config.frames (Partition p)) 0 0 none) me)
  comes_back slots id p me y entries below live hand is may t h deep there small = of_change (hold me.0 p).change refl
    where
      here : get_elem? h.state.pool.core.views id ≡ some me.0
      here = ap (λ (l : List View). get_elem? l id) (sym h.shows.views) ∙ there

      low : p < h.state.pool.core.partitions
      low = let e = h.shows.fixed.partitions in omega arith

      in_view : p < length me.0.partitions
      in_view = let wide = (h.laws.invariant.pool.core.views.wide id me.0 here live).1 in let z = low in omega arith

      -- the map as it is with the change
      map_is : found entries ≡ map_after (hold me.0 p).change (h.state.pool.core.partition p).map
      map_is = of_out (hold me.0 p).out refl
        where
          of_out : (x : Option (List MapEntry)) → (hold me.0 p).out ≡ x → found entries ≡ map_after (hold me.0 p).change (h.state.pool.core.partition p).map
          of_out None e = absurd (may.out e)
          of_out (Some was) e = may.changed was e ∙ ap (map_after (hold me.0 p).change) (sym ((h.laws.invariant.pool.core.turns.cells id me.0 p here low).out was e ∙ ap (λ (b : Bool). map_now b (hold me.0 p).change (found was)) may.unchanged))

      gives_of : (z : Value L G) (m : ℕ → Option ℕ) → IsMap o.config.frames z entries → found entries ≡ m → GivesMap o.config.frames z m
      gives_of (value.Map l) m e f = record { found = ap found e.0 ∙ f; apart = e.1; room = e.2 }
      gives_of (value.Lanes l) m e f = e
      gives_of (value.Page q) m e f = e
      gives_of (value.Lane l) m e f = e
      gives_of (value.Log g) m e f = e
      gives_of value.Away m e f = e

      -- the view, the state and the table after the change
      u_is : hold (view_mapped parts.change_map p me.0) p ≡ record (hold me.0 p) { changed = true; seen = None }
      u_is = get_or-set_same me.0.partitions p (parts.hold_after parts.change_map (hold me.0 p)) no_partition in_view

      record_of : (hold me.0 p).change ≢ Stable → parts.TurnAllowed parts.change_map (h.state.pool.core.partition p) (hold me.0 p)
      record_of named = record { out = may.out; unchanged = may.unchanged; named = named }

      changed_step : (hold me.0 p).change ≢ Stable → DidMap parts.change_map p me.0 (view_mapped parts.change_map p me.0)
      changed_step named = record { state = h.state; laws = h.laws; spread = h.shows.fixed.partition_of; seat = id; there = here; live = live; inside = low; allowed = record_of named; after = refl }

      changed_laws : (hold me.0 p).change ≢ Stable → Laws (mapped parts.change_map h.state id p me.0)
      changed_laws named = laws_kept (map_step parts.change_map h.state id p me.0 here live low (record_of named)) h.laws

      changed_shows : Shows d o record { words = t.words; homes = t.homes; views = set t.views id (view_mapped parts.change_map p me.0) } (mapped parts.change_map h.state id p me.0)
      changed_shows = shows_away d o parts.change_map t.words t h.state id p me.0 refl below h.shows refl here (ap (λ (x : PartitionHold). is_some x.out) u_is ∙ some_out (hold me.0 p).out may.out)

      changed_here : get_elem? (set h.state.pool.core.views id (view_mapped parts.change_map p me.0)) id ≡ some (view_mapped parts.change_map p me.0)
      changed_here = grid.set_here h.state.pool.core.views id me.0 (view_mapped parts.change_map p me.0) here

      changed_map : found entries ≡ (put h.state.pool.core.partition p (parts.partition_after parts.change_map (h.state.pool.core.partition p) (hold me.0 p)) p).map
      changed_map = map_is ∙ ap (λ (pt : pool.Partition). pt.map) (sym (put_here h.state.pool.core.partition p (parts.partition_after parts.change_map (h.state.pool.core.partition p) (hold me.0 p))))

      can_return : parts.TurnAllowed (parts.map_back entries) ((mapped parts.change_map h.state id p me.0).pool.core.partition p) (hold (view_mapped parts.change_map p me.0) p)
      can_return = record { out = λ e. may.out (sym (ap (λ (x : PartitionHold). x.out) u_is) ∙ e); entries_are = changed_map }

      back_step : (hold me.0 p).change ≢ Stable → DidMap (parts.map_back entries) p (view_mapped parts.change_map p me.0) (view_mapped (parts.map_back entries) p (view_mapped parts.change_map p me.0))
      back_step named = record { state = mapped parts.change_map h.state id p me.0; laws = changed_laws named; spread = h.shows.fixed.partition_of; seat = id; there = changed_here; live = live; inside = low; allowed = can_return; after = refl }

      abbrev_words : set t.words (latch_place o.config.frames (Partition p)) (get_or t.words (latch_place o.config.frames (Partition p)) 0) ≡ t.words
      abbrev_words = set-get_or t.words (latch_place o.config.frames (Partition p)) 0

      held_changed : (hold me.0 p).change ≢ Stable → RuleHolds d o (stepped t (latch_place o.config.frames (Partition p)) (get_or t.words (latch_place o.config.frames (Partition p)) 0) id me.1 (view_mapped (parts.map_back entries) p (view_mapped parts.change_map p me.0)) gives)
      held_changed named = subst (λ (x : List (ℕ × Value L G)). RuleHolds d o (stepped t (latch_place o.config.frames (Partition p)) (get_or t.words (latch_place o.config.frames (Partition p)) 0) id x (view_mapped (parts.map_back entries) p (view_mapped parts.change_map p me.0)) gives)) (sym hand) record {
        state = mapped (parts.map_back entries) (mapped parts.change_map h.state id p me.0) id p (view_mapped parts.change_map p me.0);
        shows = subst (λ (l : List View). Shows d o record { words = set t.words (latch_place o.config.frames (Partition p)) (get_or t.words (latch_place o.config.frames (Partition p)) 0); homes = set t.homes (o.config.frames + p) (some y); views = l } (mapped (parts.map_back entries) (mapped parts.change_map h.state id p me.0) id p (view_mapped parts.change_map p me.0)))
            (set_twice t.views id (view_mapped parts.change_map p me.0) (view_mapped (parts.map_back entries) p (view_mapped parts.change_map p me.0)))
            (shows_home d o entries (set t.words (latch_place o.config.frames (Partition p)) (get_or t.words (latch_place o.config.frames (Partition p)) 0)) record { words = t.words; homes = t.homes; views = set t.views id (view_mapped parts.change_map p me.0) } (mapped parts.change_map h.state id p me.0) id p (view_mapped parts.change_map p me.0) y abbrev_words below changed_shows changed_here
            (gives_of y ((mapped parts.change_map h.state id p me.0).pool.core.partition p).map is changed_map));
        laws = laws_kept (map_step (parts.map_back entries) (mapped parts.change_map h.state id p me.0) id p (view_mapped parts.change_map p me.0) changed_here live low can_return) (changed_laws named);
      }

      of_change : (c : MapChange) → (hold me.0 p).change ≡ c
          → (w : View) × (a : table.Act (Value L G)) × table.Valid t.homes me.1 a × RuleHolds d o (stepped t (latch_place o.config.frames (Partition p)) (get_or t.words (latch_place o.config.frames (Partition p)) 0) id me.1 w a)
          × map_came p entries (step slots (latch_place o.config.frames (Partition p)) 0 0 none) me (get_or t.words (latch_place o.config.frames (Partition p)) 0) (w, table.carried_after me.1 a)
      of_change Stable e = let same : found entries ≡ (h.state.pool.core.partition p).map = map_is ∙ ap (λ (c : MapChange). map_after c (h.state.pool.core.partition p).map) e in
          let a : parts.TurnAllowed (parts.map_back entries) (h.state.pool.core.partition p) (hold me.0 p) = record { out = may.out; entries_are = same } in (
            view_mapped (parts.map_back entries) p me.0,
            gives,
            tt,
            subst (λ (x : List (ℕ × Value L G)). RuleHolds d o (stepped t (latch_place o.config.frames (Partition p)) (get_or t.words (latch_place o.config.frames (Partition p)) 0) id x (view_mapped (parts.map_back entries) p me.0) gives)) (sym hand) record {
              state = mapped (parts.map_back entries) h.state id p me.0;
              shows = shows_home d o entries (set t.words (latch_place o.config.frames (Partition p)) (get_or t.words (latch_place o.config.frames (Partition p)) 0)) t h.state id p me.0 y abbrev_words below h.shows here (gives_of y (h.state.pool.core.partition p).map is same);
              laws = laws_kept (map_step (parts.map_back entries) h.state id p me.0 here live low a) h.laws;
            },
            (refl, subst (ComesBack entries p me.0 (view_mapped (parts.map_back entries) p me.0)) (sym e) (as_it_was (record { state = h.state; laws = h.laws; spread = h.shows.fixed.partition_of; seat = id; there = here; live = live; inside = low; allowed = a; after = refl }))),
          )
      of_change (Entering tag f) e = let named : (hold me.0 p).change ≢ Stable = (λ z. let no : Entering tag f ≡ Stable = sym e ∙ z in absurd (cc)) in (
        view_mapped (parts.map_back entries) p (view_mapped parts.change_map p me.0),
        gives,
        tt,
        held_changed named,
        (refl, subst (ComesBack entries p me.0 (view_mapped (parts.map_back entries) p (view_mapped parts.change_map p me.0))) (sym e) (entered (view_mapped parts.change_map p me.0) (changed_step named) (back_step named))),
      )
      of_change (Leaving tag f) e = let named : (hold me.0 p).change ≢ Stable = (λ z. let no : Leaving tag f ≡ Stable = sym e ∙ z in absurd (cc)) in (
        view_mapped (parts.map_back entries) p (view_mapped parts.change_map p me.0),
        gives,
        tt,
        held_changed named,
        (refl, subst (ComesBack entries p me.0 (view_mapped (parts.map_back entries) p (view_mapped parts.change_map p me.0))) (sym e) (left_out (view_mapped parts.change_map p me.0) (changed_step named) (back_step named))),
      )

-- what the map that went out has of the pair that the view has named
pub out_named : (entries : List MapEntry) (p : ℕ) (v w : View) → DidMap (parts.map_out entries) p v w → (hold v p).changed ≡ false → HasNamed (hold v p).change entries
out_named entries p v w d unchanged = has_named d.state d.seat p v d.laws d.there d.inside d.allowed.held unchanged entries d.allowed.entries_are

-- What a step at a partition makes of the view
pub map_work : (k : parts.TurnKind) (p : ℕ) (v w : View) → parts.turns_after k v.turns ≡ v.turns → DidMap k p v w → SameWork v w
map_work k p v w same d = ap work_of d.after ∙ (λ i. record (work_of v) { turns = same i })

pub map_stepped : (k : parts.TurnKind) (p : ℕ) (v w : View) → DidMap k p v w → MapStep p (parts.hold_after k (hold v p)) v w
map_stepped k p v w d = subst (MapStep p (parts.hold_after k (hold v p)) v) (sym d.after) record {
  here = get_or-set_same v.partitions p (parts.hold_after k (hold v p)) no_partition (let wide = (d.laws.invariant.pool.core.views.wide d.seat v d.there d.live).1 in let low = d.inside in omega arith);
  others = λ q n. get_or-set_other v.partitions p q (parts.hold_after k (hold v p)) no_partition n;
  lanes = refl;
  log = refl;
}

work_on : (v u w : View) → SameWork v u → SameWork u w → SameWork v w
work_on v u w a b = b ∙ a

steps_on : (p : ℕ) (h h' : PartitionHold) (v u w : View) → MapStep p h v u → MapStep p h' u w → MapStep p h' v w
steps_on p h h' v u w a b = record { here = b.here; others = λ q n. b.others q n ∙ a.others q n; lanes = b.lanes ∙ a.lanes; log = b.log ∙ a.log }

pub back_work : (entries : List MapEntry) (p : ℕ) (v w : View) (c : MapChange) → ComesBack entries p v w c → SameWork v w
back_work entries p v w Stable (as_it_was d) = map_work (parts.map_back entries) p v w refl d
back_work entries p v w (Entering tag f) (entered u d e) = work_on v u w (map_work parts.change_map p v u refl d) (map_work (parts.map_back entries) p u w refl e)
back_work entries p v w (Leaving tag f) (left_out u d e) = work_on v u w (map_work parts.change_map p v u refl d) (map_work (parts.map_back entries) p u w refl e)

after_change : (entries : List MapEntry) (p : ℕ) (v u w : View) → is_named (hold v p).change ≡ true → DidMap parts.change_map p v u → DidMap (parts.map_back entries) p u w → MapStep p (back_hold entries (hold v p)) v w
after_change entries p v u w named d e = let a = map_stepped parts.change_map p v u d in let b = map_stepped (parts.map_back entries) p u w e in
    let same : parts.hold_after (parts.map_back entries) (hold u p) ≡ back_hold entries (hold v p) = ap (parts.hold_after (parts.map_back entries)) a.here ∙ (λ i. record (hold v p) { out = None; change = Stable; changed = sym named i; seen = Some entries }) in
    subst (λ (h : PartitionHold). MapStep p h v w) same (steps_on p (parts.hold_after parts.change_map (hold v p)) (parts.hold_after (parts.map_back entries) (hold u p)) v u w a b)

back_steps : (entries : List MapEntry) (p : ℕ) (v w : View) (c : MapChange) → (hold v p).change ≡ c → (hold v p).changed ≡ false → ComesBack entries p v w c → MapStep p (back_hold entries (hold v p)) v w
back_steps entries p v w Stable is unchanged (as_it_was d) = let same : parts.hold_after (parts.map_back entries) (hold v p) ≡ back_hold entries (hold v p) = (λ i. record (hold v p) { out = None; change = (ap (λ (b : Bool). owed_by b (hold v p).change) unchanged ∙ is) i; changed = (unchanged ∙ sym (ap is_named is)) i; seen = Some entries }) in
    subst (λ (h : PartitionHold). MapStep p h v w) same (map_stepped (parts.map_back entries) p v w d)
back_steps entries p v w (Entering tag f) is unchanged (entered u d e) = after_change entries p v u w (ap is_named is) d e
back_steps entries p v w (Leaving tag f) is unchanged (left_out u d e) = after_change entries p v u w (ap is_named is) d e

pub back_stepped : (entries : List MapEntry) (p : ℕ) (v w : View) → (hold v p).changed ≡ false → ComesBack entries p v w (hold v p).change → MapStep p (back_hold entries (hold v p)) v w
back_stepped entries p v w unchanged b = back_steps entries p v w (hold v p).change refl unchanged b

module _ {L G : Type 0} (d : Devices L G) (o : Opening L G) where
  -- the seat as the exchange of the slot left it
  pub comes_from : (slots id p : ℕ) (me me' : Me (Value L G) View) (m : Vec Mapped Global) → me' ≡ (me.0, (slot_of o.config.frames (place.Of (Partition p)), value.Map m) ∷ rest me.1) → p < 128 → me.0.emptied ≡ false → AreApart m.items × (o.config.frames ≤ vec_capacity m) → MayComeBack (map entry_of m.items) p me.0
      → Allows (RuleHolds d o) slots id me' (latch_place o.config.frames (Partition p)) (λ n. n) (map_came p (map entry_of m.items) (step slots (latch_place o.config.frames (Partition p)) 0 0 none) me')
  comes_from slots id p me me' m e below live room may = let entries : List MapEntry = map entry_of m.items in
      subst (λ (x : Me (Value L G) View). Allows (RuleHolds d o) slots id x (latch_place o.config.frames (Partition p)) (λ n. n) (map_came p entries (step slots (latch_place o.config.frames (Partition p)) 0 0 none) x)) (sym e)
      (comes_back d o slots id p (me.0, (slot_of o.config.frames (place.Of (Partition p)), value.Map m) ∷ rest me.1) (value.Map m) entries below live refl (refl, room.0, room.1) may)

  -- what the seat has then, and what it is told
  pub came_from : (p : ℕ) (entries : List MapEntry) (st : table.Step (Value L G)) (me me' m' : Me (Value L G) View) (k found : ℕ) (y : Value L G) → me' ≡ (me.0, (k, y) ∷ rest me.1) → map_came p entries st me' found m' → (m'.1 ≡ rest me.1) × ComesBack entries p me.0 m'.0 (hold me.0 p).change
  came_from p entries st me me' m' k found y e told = subst (λ (x : Me (Value L G) View). (m'.1 ≡ rest x.1) × ComesBack entries p x.0 m'.0 (hold x.0 p).change) e told
