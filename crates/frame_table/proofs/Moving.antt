-- A value goes out with its holder, or comes back: what the table shows then.
use Rattle.std.proofs.Common.{◌≡◌, ◌≢◌, ℕ, ◌+◌, ◌<◌, ◌≤◌, List, length, length-set, set, sym, refl, ap, ◌∙◌, subst, arith}
use mathlib.Core.Logic.{dite}
use mathlib.Core.Option.{some}
use mathlib.Core.Option as slot
use native.Mathlib.Decide.{ℕ_discrete}
use lib.ListN.{get_elem?}
use Rattle.atomic_table.specs.Table as table
use Rattle.atomic_table.proofs.Lists.{set_here, set_else}
use Rattle.pin_core.specs.declared.view.View.{View}
use Rattle.pin_core.specs.State.{Frame}
use Rattle.pin_core.specs.Tallies.{flag_weight}
use Rattle.history_core.specs.State.{State}
use Rattle.table_rule.specs.declared.value.Value.{Value}
use Rattle.table_rule.specs.declared.opening.Opening.{Opening}
use Rattle.table_rule.specs.declared.turn.Place.{Place}
use Rattle.table_rule.specs.declared.turn.Place.TheVariants as place
use Rattle.table_rule.specs.declared.turn.Turn.{Turn}
use Rattle.table_rule.specs.declared.turn.Turn.TheVariants as turn
use Rattle.table_rule.specs.Layout.{slot_of, first_lane_slot, list_slot, slot_count}
use Rattle.history_core.specs.Words.{word_in, words_of}
use Rattle.table_rule.specs.Shows.{ShowsFrame, ShowsLatches, is_taken, is_out, IsHome, Devices, Gives, KeepsOpening, IsPlaceIn, HasValue, HasList, Shows}
use Rattle.frame_table.proofs.Frames.{home_before, set_twice}

-- two places with one slot are one
pub same_slot : {L G : Type 0} (o : Opening L G) (x y : Place) → o.config.lanes ≤ 16 → IsPlaceIn o x → IsPlaceIn o y → slot_of o.config.frames x ≡ slot_of o.config.frames y → x ≡ y
same_slot o (place.Page f) (place.Page g) few a b e = ap (λ (k : ℕ). place.Page k) e
same_slot o (place.Page f) (place.Of (turn.Partition q)) few a b e = absurd (omega arith)
same_slot o (place.Page f) (place.Of (turn.Lane q)) few a b e = absurd (omega arith)
same_slot o (place.Page f) (place.Of turn.Log) few a b e = absurd (omega arith)
same_slot o (place.Of (turn.Partition p)) (place.Page g) few a b e = absurd (omega arith)
same_slot o (place.Of (turn.Partition p)) (place.Of (turn.Partition q)) few a b e = ap (λ (k : ℕ). place.Of (turn.Partition k)) {x = p} {y = q} (omega arith)
same_slot o (place.Of (turn.Partition p)) (place.Of (turn.Lane q)) few a b e = absurd (omega arith)
same_slot o (place.Of (turn.Partition p)) (place.Of turn.Log) few a b e = absurd (omega arith)
same_slot o (place.Of (turn.Lane p)) (place.Page g) few a b e = absurd (omega arith)
same_slot o (place.Of (turn.Lane p)) (place.Of (turn.Partition q)) few a b e = absurd (omega arith)
same_slot o (place.Of (turn.Lane p)) (place.Of (turn.Lane q)) few a b e = ap (λ (k : ℕ). place.Of (turn.Lane k)) {x = p} {y = q} (omega arith)
same_slot o (place.Of (turn.Lane p)) (place.Of turn.Log) few a b e = absurd (omega arith)
same_slot o (place.Of turn.Log) (place.Page g) few a b e = absurd (omega arith)
same_slot o (place.Of turn.Log) (place.Of (turn.Partition q)) few a b e = absurd (omega arith)
same_slot o (place.Of turn.Log) (place.Of (turn.Lane q)) few a b e = absurd (omega arith)
same_slot o (place.Of turn.Log) (place.Of turn.Log) few a b e = refl

-- no place has the slot of a lane that isn't there, or of the list of lanes
spare_else : {L G : Type 0} (o : Opening L G) (x : Place) (q : ℕ) → o.config.lanes ≤ 16 → IsPlaceIn o x → o.config.lanes ≤ q → q < 16 → first_lane_slot o.config.frames + q ≢ slot_of o.config.frames x
spare_else o (place.Page f) q few has from below e = absurd (omega arith)
spare_else o (place.Of (turn.Partition p)) q few has from below e = absurd (omega arith)
spare_else o (place.Of (turn.Lane r)) q few has from below e = absurd (omega arith)
spare_else o (place.Of turn.Log) q few has from below e = absurd (omega arith)

pub slot_low : {L G : Type 0} (o : Opening L G) (x : Place) → o.config.lanes ≤ 16 → IsPlaceIn o x → slot_of o.config.frames x < list_slot o.config.frames
slot_low o (place.Page f) few has = omega arith
slot_low o (place.Of (turn.Partition p)) few has = omega arith
slot_low o (place.Of (turn.Lane q)) few has = omega arith
slot_low o (place.Of turn.Log) few has = omega arith

-- these slots stay where that of a place changes
pub list_stays : {L G : Type 0} (o : Opening L G) (homes : List (slot.Option (Value L G))) (x : Place) (y : slot.Option (Value L G)) → o.config.lanes ≤ 16 → IsPlaceIn o x → HasList o homes → HasList o (set homes (slot_of o.config.frames x) y)
list_stays o homes x y few has h = record {
  list = h.list;
  home = set_else homes (slot_of o.config.frames x) (list_slot o.config.frames) y (λ e. absurd (let low = slot_low o x few has in omega arith)) ∙ h.home;
  empty = h.empty;
  room = h.room;
  spare = λ q from below. set_else homes (slot_of o.config.frames x) (first_lane_slot o.config.frames + q) y (spare_else o x q few has from below) ∙ h.spare q from below;
}

-- A frame's words are the same
pub record SameWords (a b : Frame) : Type 0 where
  pub word : b.word ≡ a.word
  pub tag : b.tag ≡ a.tag
  pub sharers : b.sharers ≡ a.sharers
  pub exclusive : b.exclusive ≡ a.exclusive
  pub copying : b.copying ≡ a.copying

pub words_none : (a : Frame) → SameWords a a
words_none a = record { word = refl; tag = refl; sharers = refl; exclusive = refl; copying = refl }

frame_moved : (words : List ℕ) (f : ℕ) (a b : Frame) → SameWords a b → ShowsFrame words f a → ShowsFrame words f b
frame_moved words f a b e h = record { word = e.word ∙ h.word; tag = e.tag ∙ h.tag; sharers = e.sharers ∙ h.sharers; exclusive = e.exclusive ∙ h.exclusive; copying = e.copying ∙ h.copying; small = h.small }

module _ {L G : Type 0} (d : Devices L G) (o : Opening L G) where
  -- From the state s to the state s', by backend id, whose view v becomes w, the value of the place y alone moves
  pub record Moves (s s' : State) (id : ℕ) (v w : View) (y : Place) : Type 0 where
    pub fixed : KeepsOpening d o s'
    pub views : s'.pool.core.views ≡ set s.pool.core.views id w
    pub frames : (f : ℕ) → SameWords (s.pool.core.frame f) (s'.pool.core.frame f)
    pub latches : (x : Turn) → is_taken x s' ≡ is_taken x s
    pub words : words_of s' ≡ words_of s
    -- the other values stay out or home, and are what they were
    pub outs : (x : Place) → x ≢ y → is_out x w ≡ is_out x v
    pub values : (x : Place) (z : Value L G) → x ≢ y → Gives d o s x z → Gives d o s' x z

  -- The table shows the state after it, where the slots are the same but for that place's
  pub shows_moved : (words : List ℕ) (t : table.State (Value L G) View) (s s' : State) (id : ℕ) (v w : View) (y : Place) (homes : List (slot.Option (Value L G))) → words ≡ t.words → Shows d o t s → get_elem? s.pool.core.views id ≡ some v → Moves s s' id v w y → IsPlaceIn o y
      → length homes ≡ slot_count o.config.frames → HasList o homes → ((i : ℕ) → i ≢ slot_of o.config.frames y → get_elem? homes i ≡ get_elem? t.homes i) → (IsHome y (set s.pool.core.views id w) → HasValue d o homes s' y)
      → Shows d o record { words = words; homes = homes; views = set t.views id w } s'
  shows_moved words t s s' id v w y homes same h there m within long list others here = record {
    fixed = m.fixed;
    words = ap (λ (l : List ℕ). length l) same ∙ h.words;
    slots = long;
    views = ap (λ (l : List View). set l id w) h.views ∙ sym m.views;
    frame = λ f inside. frame_moved words f (s.pool.core.frame f) (s'.pool.core.frame f) (m.frames f) (subst (λ (l : List ℕ). ShowsFrame l f (s.pool.core.frame f)) (sym same) (h.frame f inside));
    latches = subst (λ (l : List ℕ). ShowsLatches o.config.frames o.config.lanes l s') (sym same) (let l = h.latches in record { latch = λ x has. l.latch x has ∙ ap flag_weight (sym (m.latches x)); word = λ z has. l.word z has ∙ ap (word_in z) (sym m.words) });
    homes = λ x has none_out. let home : IsHome x (set s.pool.core.views id w) = subst (IsHome x) m.views none_out in dite (ℕ_discrete (slot_of o.config.frames x) (slot_of o.config.frames y))
        (λ e. subst (HasValue d o homes s') (sym (same_slot o x y h.fixed.few_lanes has within e)) (here (subst (λ (z : Place). IsHome z (set s.pool.core.views id w)) (same_slot o x y h.fixed.few_lanes has within e) home)))
        (λ n. let other : x ≢ y = (λ e. n (ap (slot_of o.config.frames) e)) in let old = h.homes x has (home_before s.pool.core.views id v w x there (λ e. sym (m.outs x other) ∙ e) home) in
        record { value = old.value; home = others (slot_of o.config.frames x) n ∙ old.home; gives = m.values x old.value other old.gives });
    list = list;
  }

  -- where it goes out of its slot
  pub shows_out : (words : List ℕ) (t : table.State (Value L G) View) (s s' : State) (id : ℕ) (v w : View) (y : Place) → words ≡ t.words → Shows d o t s → get_elem? s.pool.core.views id ≡ some v → Moves s s' id v w y → IsPlaceIn o y → (IsHome y (set s.pool.core.views id w) → ⊥)
      → Shows d o record { words = words; homes = set t.homes (slot_of o.config.frames y) slot.none; views = set t.views id w } s'
  shows_out words t s s' id v w y same h there m within away = shows_moved words t s s' id v w y (set t.homes (slot_of o.config.frames y) slot.none) same h there m within (length-set t.homes (slot_of o.config.frames y) slot.none ∙ h.slots) (list_stays o t.homes y slot.none h.fixed.few_lanes within h.list)
      (λ i n. set_else t.homes (slot_of o.config.frames y) i slot.none n) (λ home. absurd (away home))

  -- where it comes back into its slot, as this value
  pub shows_back : (words : List ℕ) (t : table.State (Value L G) View) (s s' : State) (id : ℕ) (v w : View) (y : Place) (z : Value L G) → words ≡ t.words → Shows d o t s → get_elem? s.pool.core.views id ≡ some v → Moves s s' id v w y → IsPlaceIn o y → Gives d o s' y z
      → Shows d o record { words = words; homes = set t.homes (slot_of o.config.frames y) (some z); views = set t.views id w } s'
  shows_back words t s s' id v w y z same h there m within gives = shows_moved words t s s' id v w y (set t.homes (slot_of o.config.frames y) (some z)) same h there m within (length-set t.homes (slot_of o.config.frames y) (some z) ∙ h.slots) (list_stays o t.homes y (some z) h.fixed.few_lanes within h.list)
      (λ i n. set_else t.homes (slot_of o.config.frames y) i (some z) n) (λ home. record { value = z; home = set_here t.homes (slot_of o.config.frames y) (some z) (let low = slot_low o y h.fixed.few_lanes within in let e = h.slots in omega arith); gives = gives })

module _ {L G : Type 0} (d : Devices L G) (o : Opening L G) where
  -- two steps that move the value of one place
  pub moves_on : (s s' s'' : State) (id : ℕ) (v u w : View) (y : Place) → Moves d o s s' id v u y → Moves d o s' s'' id u w y → Moves d o s s'' id v w y
  moves_on s s' s'' id v u w y a b = record {
    fixed = b.fixed;
    views = b.views ∙ ap (λ (l : List View). set l id w) a.views ∙ set_twice s.pool.core.views id u w;
    frames = λ f. let x = a.frames f in let z = b.frames f in record { word = z.word ∙ x.word; tag = z.tag ∙ x.tag; sharers = z.sharers ∙ x.sharers; exclusive = z.exclusive ∙ x.exclusive; copying = z.copying ∙ x.copying };
    latches = λ x. b.latches x ∙ a.latches x;
    words = b.words ∙ a.words;
    outs = λ x n. b.outs x n ∙ a.outs x n;
    values = λ x z n g. b.values x z n (a.values x z n g);
  }
