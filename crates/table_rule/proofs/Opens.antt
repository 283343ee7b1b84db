-- The table at the start shows the state at the start.
use Rattle.std.proofs.Common.{◌≡◌, ℕ, zero, suc, ◌+◌, ◌*◌, ◌-◌, ◌<◌, ◌≤◌, ◌%◌, ◌^◌, Bool, false, true, cond, Option, Some, None, List, [], ◌∷◌, ◌++◌, map, replicate, length, get_or, length-append, append_assoc, sym, refl, ap, ◌∙◌, subst, arith}
use Rattle.std.specs.Option.{is_some}
use Rattle.std.specs.Prelude.{slice_get, Vec, IsSomeAnd}
use Rattle.std.specs.Global.{Global}
use Rattle.std.proofs.Math.Nat.{mod-lt}
use Rattle.std.proofs.lemmas.List.{append-nil, length-map, get_or_append_left, get_or-append_right, length-replicate, get_or-replicate}
use mathlib.Core.Option.{some, none, some-ne-none}
use mathlib.Core.Option as slot
use lib.ListN.{get_elem?}
use Rattle.atomic_table.specs.Table.{opening}
use Rattle.atomic_table.proofs.Lists.{at_map}
use Rattle.state_word.specs.Fields.{fields, bit}
use Rattle.block_tag.specs.declared.tag.Tag.{Tag}
use Rattle.block_tag.specs.declared.catalogue.RelEntry.{RelEntry}
use Rattle.block_tag.specs.Names.{unpacked_tag, lane_number, hash_of}
use Rattle.segment_store.specs.Contents.{Pages}
use Rattle.pin_core.specs.State.{Page, zero_word, empty_frame}
use Rattle.pin_core.specs.State as pin_state
use Rattle.history_core.specs.State.{State, Store}
use Rattle.history_core.specs.State as history
use Rattle.page_core.specs.State.{zero_page}
use Rattle.history_core.specs.Log.{head_bytes}
use Rattle.history_core.specs.Words.{Word, end_word, flushed_word, redo_word, hand_word, counter_word, counter_count, hint_word, hint_count, word_of}
use Rattle.history_core.proofs.Laws.{laws_open}
use Rattle.table_rule.specs.declared.noted_log.NotedLog.{NotedLog}
use Rattle.table_rule.specs.declared.value.Value.{Value}
use Rattle.table_rule.specs.declared.value.Value.TheVariants as value
use Rattle.table_rule.specs.declared.opening.Opening.{Opening}
use Rattle.table_rule.specs.declared.turn.Place.{Place}
use Rattle.table_rule.specs.declared.turn.Place.TheVariants as place
use Rattle.table_rule.specs.declared.turn.Turn.{Turn}
use Rattle.table_rule.specs.declared.turn.Turn.TheVariants as turn
use Rattle.pin_core.specs.Tallies.{flag_weight}
use Rattle.table_rule.specs.Layout.{latch_place, latch_count, word_place, HasWord, opening_numbers, word_count, first_lane_slot, log_slot, list_slot, slot_count, tag_partition, partition_of_tag, tag_lane, lane_of_tag}
use Rattle.table_rule.specs.Blocks.{fork_size, is_fork, log_name, name_of, name_in}
use Rattle.table_rule.specs.Shows.{is_taken, HasTurn, ShowsFrame, IsHome, Devices, IsPlaced, contents_in, contents_at, lane_opened, IsLane, IsLog, AreLanes, IsNewLog, GivesMap, IsPlaceIn, HasValue, RuleHolds, starting}
use Rattle.table_rule.specs.Laid.{AreOpening, AreSlots, EndsWith, home_lane, home_lanes, home_log, lanes_among, HasNoDevices}
use Rattle.table_rule.proofs.Sizes.{named_below}
use Rattle.table_rule.proofs.Laying.{lanes_append, plain_both, lanes_pages, plain_pages, lanes_aways, plain_aways, lanes_lanes, plain_lanes, lanes_counted, lane_numbered, lanes_maps, plain_maps, lanes_before, snoc_same}

zero_fields : zero_word ≡ fields 0
unfolding fields
zero_fields = refl

-- each tag has a partition
partition_low : (t : Option Tag) → partition_of_tag t < 128
partition_low None = omega arith
partition_low (Some t) = let n : ℕ = hash_of t in omega arith

-- and a lane
lane_low : (lanes : ℕ) → 0 < lanes → (t : Option Tag) → lane_of_tag lanes t < lanes
lane_low lanes low None = low
lane_low lanes low (Some t) = mod-lt (hash_of t) low

module _ {A : Type 0} where
  -- what is in two lists, one after the other
  pub left_at : (l m : List A) (i : ℕ) → i < length l → get_elem? (l ++ m) i ≡ get_elem? l i
  left_at [] m i h = absurd (omega arith)
  left_at (x ∷ l) m zero h = refl
  left_at (x ∷ l) m (suc i) h = left_at l m i (omega arith)

  pub right_at : (l m : List A) (j i : ℕ) → j ≡ length l + i → get_elem? (l ++ m) j ≡ get_elem? m i
  right_at [] m j i e = ap (get_elem? m) {x = j} {y = i} (omega arith)
  right_at (x ∷ l) m zero i e = absurd (omega arith)
  right_at (x ∷ l) m (suc j) i e = right_at l m j i (omega arith)

  pub there_at : (l : List A) (i : ℕ) → i < length l → (x : A) × (get_elem? l i ≡ some x)
  there_at [] i h = absurd (omega arith)
  there_at (x ∷ l) zero h = (x, refl)
  there_at (x ∷ l) (suc i) h = there_at l i (omega arith)

  pub same_at_replicate : (n i : ℕ) (x : A) → i < n → get_elem? (replicate n x) i ≡ some x
  same_at_replicate zero i x h = absurd (omega arith)
  same_at_replicate (suc n) zero x h = refl
  same_at_replicate (suc n) (suc i) x h = same_at_replicate n i x (omega arith)

  pub length_low : (l : List A) (i : ℕ) (x : A) → get_elem? l i ≡ some x → i < length l
  length_low [] i x e = absurd (some-ne-none x (sym e))
  length_low (y ∷ l) zero x e = omega arith
  length_low (y ∷ l) (suc i) x e = let h = length_low l i x e in omega arith

-- the words of the start
module _ (words : List ℕ) (n base : ℕ) (h : AreOpening words n base) where
  abbrev behind : List ℕ
  behind = replicate latch_count 0 ++ opening_numbers n base

  joined : words ≡ h.blank ++ behind
  joined = h.is ∙ append_assoc h.blank (replicate latch_count 0) (opening_numbers n base)

  in_frames : (i : ℕ) → i < 8 * n → get_or words i 0 ≡ get_or h.blank i 0
  in_frames i low = ap (λ (l : List ℕ). get_or l i 0) joined ∙ get_or_append_left h.blank behind 0 i (let e = h.frames.wide in omega arith)

  in_rest : (i j : ℕ) → i ≡ 8 * n + j → get_or words i 0 ≡ get_or behind j 0
  in_rest i j e = ap (λ (l : List ℕ). get_or l i 0) joined ∙ get_or-append_right h.blank behind (8 * n) i 0 h.frames.wide (omega arith) ∙ ap (λ (k : ℕ). get_or behind k 0) {x = i - 8 * n} {y = j} (omega arith)

  in_latches : (i j : ℕ) → i ≡ 8 * n + j → j < latch_count → get_or words i 0 ≡ 0
  in_latches i j e low = in_rest i j e ∙ get_or_append_left (replicate latch_count 0) (opening_numbers n base) 0 j low ∙ get_or-replicate latch_count j 0 0 low

  wide : length words ≡ word_count n
  wide = ap (λ (l : List ℕ). length l) joined ∙ (let a = length-append h.blank behind in let b = h.frames.wide in let zero : ℕ = 0 in let c = length-replicate (counter_count + hint_count n) zero in omega arith)

  shows_blank : (f : ℕ) (p : Page) → f < n → ShowsFrame words f (empty_frame p)
  shows_blank f p below = let s = in_frames (8 * f) (omega arith) ∙ h.frames.states f below in let t = in_frames (8 * f + 1) (omega arith) ∙ h.frames.tags f below in let c = in_frames (8 * f + 2) (omega arith) ∙ h.frames.contents f below in record {
    word = zero_fields ∙ ap fields (sym s);
    tag = sym t;
    sharers = sym (ap (λ (x : ℕ). x % 2 ^ 18) c);
    exclusive = sym (ap (bit 18) c);
    copying = sym (ap (bit 19) c);
    small = subst (λ (x : ℕ). x < 2 ^ 20) (sym c) (omega arith);
  }

-- the page that the lanes hold for a tag, or zeros where it isn't known
abbrev given_page : Option Page → Page
given_page None = zero_page
given_page (Some p) = p

abbrev known_page : Option Pages → Tag → Page
known_page None tag = zero_page
known_page (Some known) tag = given_page (known tag)

-- the bytes of a log that are durable at the start
abbrev synced_in : Option (List ℕ) → ℕ → ℕ
synced_in None n = 0
synced_in (Some known) n = n

-- a name in the log has 20 bytes
named_by : (e : Option RelEntry) (tag : Tag) → length (name_in e tag) ≡ 20
named_by None tag = refl
named_by (Some e) tag = refl

named_of : (relations : List RelEntry) (tag : Option Tag) → length (name_of relations tag) ≡ 20
named_of relations None = refl
named_of relations (Some tag) = named_by (slice_get relations tag.rel.0) tag

names_long : (relations : List RelEntry) (word : ℕ) → length (log_name relations word) ≡ 20
unfolding log_name
names_long relations word = named_of relations (unpacked_tag word)

given_some : (x : Option Page) → is_some x ≡ true → x ≡ Some (given_page x)
given_some None h = absurd (let no : false ≡ true = h in cc)
given_some (Some p) h = refl

module _ {L G : Type 0} (d : Devices L G) (relations : List RelEntry) (lanes : List L) (g : G) (base : ℕ) where
  abbrev page_in_slot : slot.Option L → Tag → Page
  page_in_slot none tag = zero_page
  page_in_slot (some l) tag = known_page (d.contents l) tag

  abbrev origin_of : Option Tag → Page
  origin_of None = zero_page
  origin_of (Some tag) = page_in_slot (get_elem? lanes (lane_number tag (length lanes))) tag

  abbrev mark_in_slot : slot.Option L → Tag → Bool
  mark_in_slot none tag = false
  mark_in_slot (some l) tag = d.unsynced l tag

  abbrev unsynced_of : Option Tag → Bool
  unsynced_of None = false
  unsynced_of (Some tag) = mark_in_slot (get_elem? lanes (lane_number tag (length lanes))) tag

  abbrev known_in : slot.Option L → Bool
  known_in none = false
  known_in (some l) = is_some (d.contents l)

  abbrev faults_in : (L → ℕ) → slot.Option L → ℕ
  faults_in faults none = 0
  faults_in faults (some l) = faults l

  origin_is : AreLanes d relations lanes → (q : ℕ) (l : L) (known : Pages) (word : ℕ) (tag : Tag) → get_elem? lanes q ≡ some l → d.contents l ≡ Some known → IsPlaced relations (length lanes) q word tag → known tag ≡ Some (origin_of (unpacked_tag word))
  origin_is are q l known word tag at told h = given_some (known tag) (are.held q l known word tag at told h) ∙ ap (λ (p : Page). Some p) (sym (ap origin_of h.named ∙ ap (λ (x : slot.Option L). page_in_slot x tag) (ap (get_elem? lanes) h.placed ∙ at) ∙ ap (λ (c : Option Pages). known_page c tag) told))

  abbrev store_of : Store
  store_of = record {
    lane_of = tag_lane (length lanes);
    known = λ q. known_in (get_elem? lanes q);
    origin = λ word. Some (origin_of (unpacked_tag word));
    names = log_name relations;
    ranges = false;
    read_faults = λ q. faults_in d.read_faults (get_elem? lanes q);
    write_faults = λ q. faults_in d.write_faults (get_elem? lanes q);
    unsynced = λ word. unsynced_of (unpacked_tag word);
    head_synced = synced_in (d.bytes g) (d.synced g);
    log_faults = d.log_faults g;
  }

  unsynced_is : (q : ℕ) (l : L) (word : ℕ) (tag : Tag) → get_elem? lanes q ≡ some l → IsPlaced relations (length lanes) q word tag → unsynced_of (unpacked_tag word) ≡ d.unsynced l tag
  unsynced_is q l word tag at h = ap unsynced_of h.named ∙ ap (λ (x : slot.Option L). mark_in_slot x tag) (ap (get_elem? lanes) h.placed ∙ at)

  fresh_is : AreLanes d relations lanes → (q : ℕ) (l : L) → get_elem? lanes q ≡ some l → IsLane d relations (length lanes) q (contents_at d.contents lanes q) l (history.fresh_lane base store_of q)
  fresh_is are q l at = record {
    known = ap known_in at;
    pages = λ known word tag told h. origin_is are q l known word tag at told h;
    held = λ known word tag told h. are.held q l known word tag at told h;
    failed = λ known word tag told h. sym (are.unfailed q l known word tag at told h);
    unsynced = λ word tag h. unsynced_is q l word tag at h;
    others = λ known tag told unplaced.
        subst (λ (c : Option Pages). IsSomeAnd c (λ (was : Pages). known tag ≡ was tag))
        (sym (ap (contents_in d.contents) at ∙ told)) refl;
    reads = ap (faults_in d.read_faults) at;
    writes = ap (faults_in d.write_faults) at;
  }

  fresh_log : IsNewLog {L = L} {G = G} d base g → IsLog d g None (history.fresh_device base store_of)
  fresh_log new = record {
    bytes = λ known told. sym (new.head known told);
    synced = λ known told. ap (λ (b : Option (List ℕ)). synced_in b (d.synced g)) told;
    faults = refl;
    down = refl;
  }

  -- so many bytes of the head are durable
  synced_low : IsNewLog {L = L} {G = G} d base g → synced_in (d.bytes g) (d.synced g) ≤ length (head_bytes base)
  synced_low new = of_bytes (d.bytes g) refl
    where
      of_bytes : (b : Option (List ℕ)) → d.bytes g ≡ b → synced_in b (d.synced g) ≤ length (head_bytes base)
      of_bytes None e = omega arith
      of_bytes (Some known) e = subst (λ (k : List ℕ). d.synced g ≤ length k) (new.head known e) (new.synced known e)

-- the slots of the start
module _ {L G : Type 0} (d : Devices L G) (n : ℕ) (lanes : List L) (log : G) (ys : List (Value L G)) (h : AreSlots n lanes log ys) where
  abbrev away_value : Value L G
  away_value = value.Away

  abbrev pages_part : List (Value L G)
  pages_part = replicate n (value.Page zero_page)

  abbrev maps_part : List (Value L G)
  maps_part = pages_part ++ h.maps

  abbrev lanes_part : List (Value L G)
  lanes_part = maps_part ++ home_lanes 0 lanes

  abbrev all_part : List (Value L G)
  all_part = lanes_part ++ replicate (16 - length lanes) value.Away

  abbrev logged_part : List (Value L G)
  logged_part = all_part ++ value.Log (home_log h.room log) ∷ []

  pages_long : length pages_part ≡ n
  pages_long = length-replicate n (value.Page zero_page)

  maps_long : length maps_part ≡ first_lane_slot n
  maps_long = length-append pages_part h.maps ∙ (let a = pages_long in let b = h.counted in omega arith)

  lanes_long : length lanes_part ≡ first_lane_slot n + length lanes
  lanes_long = length-append maps_part (home_lanes 0 lanes) ∙ (let a = maps_long in let b = lanes_counted L G 0 lanes in omega arith)

  all_long : length all_part ≡ log_slot n
  all_long = length-append lanes_part (replicate (16 - length lanes) value.Away) ∙ (let a = lanes_long in let b = length-replicate (16 - length lanes) away_value in let c = h.few in omega arith)

  logged_long : length logged_part ≡ list_slot n
  logged_long = length-append all_part (value.Log (home_log h.room log) ∷ []) ∙ (let a = all_long in omega arith)

  in_logged : (i : ℕ) → i < list_slot n → get_elem? ys i ≡ get_elem? logged_part i
  in_logged i low = ap (λ (l : List (Value L G)). get_elem? l i) h.is ∙ left_at logged_part (value.Lanes h.list ∷ []) i (let a = logged_long in omega arith)

  in_all : (i : ℕ) → i < log_slot n → get_elem? ys i ≡ get_elem? all_part i
  in_all i low = in_logged i (omega arith) ∙ left_at all_part (value.Log (home_log h.room log) ∷ []) i (let a = all_long in omega arith)

  in_lanes : (i : ℕ) → i < first_lane_slot n + length lanes → get_elem? ys i ≡ get_elem? lanes_part i
  in_lanes i low = in_all i (let a = h.few in omega arith) ∙ left_at lanes_part (replicate (16 - length lanes) value.Away) i (let a = lanes_long in omega arith)

  in_maps : (i : ℕ) → i < first_lane_slot n → get_elem? ys i ≡ get_elem? maps_part i
  in_maps i low = in_lanes i (omega arith) ∙ left_at maps_part (home_lanes 0 lanes) i (let a = maps_long in omega arith)

  page_at : (f : ℕ) → f < n → get_elem? ys f ≡ some (value.Page zero_page)
  page_at f low = in_maps f (omega arith) ∙ left_at pages_part h.maps f (let a = pages_long in omega arith) ∙ same_at_replicate n f (value.Page zero_page) low

  map_at : (p : ℕ) → p < 128 → (y : Value L G) × (get_elem? ys (n + p) ≡ some y) × GivesMap n y (λ _. None)
  map_at p low = let t = there_at h.maps p (let a = h.counted in omega arith) in (t.0, in_maps (n + p) (omega arith) ∙ right_at pages_part h.maps (n + p) p (let a = pages_long in omega arith) ∙ t.1, h.are_maps p t.0 t.1)

  lane_at : (q : ℕ) (l : L) → get_elem? lanes q ≡ some l → get_elem? ys (first_lane_slot n + q) ≡ some (home_lane q l)
  lane_at q l at = let low = length_low lanes q l at in in_lanes (first_lane_slot n + q) (omega arith) ∙ right_at maps_part (home_lanes 0 lanes) (first_lane_slot n + q) q (let a = maps_long in omega arith) ∙ lane_numbered L G 0 q q lanes l (omega arith) at

  spare_at : (q : ℕ) → length lanes ≤ q → q < 16 → get_elem? ys (first_lane_slot n + q) ≡ some value.Away
  spare_at q from below = in_all (first_lane_slot n + q) (omega arith) ∙ right_at lanes_part (replicate (16 - length lanes) value.Away) (first_lane_slot n + q) (q - length lanes) (let a = lanes_long in omega arith) ∙ same_at_replicate (16 - length lanes) (q - length lanes) value.Away (omega arith)

  log_at : get_elem? ys (log_slot n) ≡ some (value.Log (home_log h.room log))
  log_at = in_logged (log_slot n) (omega arith) ∙ right_at all_part (value.Log (home_log h.room log) ∷ []) (log_slot n) 0 (let a = all_long in omega arith)

  list_at : get_elem? ys (list_slot n) ≡ some (value.Lanes h.list)
  list_at = ap (λ (l : List (Value L G)). get_elem? l (list_slot n)) h.is ∙ right_at logged_part (value.Lanes h.list ∷ []) (list_slot n) 0 (let a = logged_long in omega arith)

  slots_long : length ys ≡ slot_count n
  slots_long = ap (λ (l : List (Value L G)). length l) h.is ∙ length-append logged_part (value.Lanes h.list ∷ []) ∙ (let a = logged_long in omega arith)

module _ {L G : Type 0} (d : Devices L G) (o : Opening L G) where
  abbrev config_of : pin_state.Config
  config_of = record { frames = o.config.frames; partitions = 128; partition_of = tag_partition; is_fork = is_fork o.catalog.value; sizes = fork_size o.catalog.value; resizes = false; lanes = o.config.lanes; backends = o.config.passes; base = o.base }

  abbrev start : State
  start = history.opening config_of (store_of d o.catalog.value o.lanes.value.items o.log.value o.base) zero_page

  abbrev n : ℕ
  n = o.config.frames

  abbrev lanes : List L
  lanes = o.lanes.value.items

  abbrev store : Store
  store = store_of d o.catalog.value lanes o.log.value o.base

  homes : (ys : List (Value L G)) → AreSlots o.config.frames o.lanes.value.items o.log.value ys → length o.lanes.value.items ≡ o.config.lanes → AreLanes d o.catalog.value o.lanes.value.items → IsNewLog {L = L} {G = G} d o.base o.log.value → (x : Place) → IsPlaceIn o x → IsHome x start.pool.core.views → HasValue d o (map some ys) start x
  homes ys h count are new (place.Page f) below out = record { value = value.Page zero_page; home = at_map some ys f (value.Page zero_page) (page_at d n lanes o.log.value ys h f below); gives = refl }
  homes ys h count are new (place.Of (turn.Partition p)) below out = let t = map_at d n lanes o.log.value ys h p below in record { value = t.0; home = at_map some ys (n + p) t.0 t.1; gives = t.2 }
  homes ys h count are new (place.Of (turn.Lane q)) below out = let t = there_at lanes q (omega arith) in record {
    value = home_lane q t.0;
    home = at_map some ys (first_lane_slot n + q) (home_lane q t.0) (lane_at d n lanes o.log.value ys h q t.0 t.1);
    gives = (subst (λ (m : ℕ). IsLane d o.catalog.value m q (lane_opened d o q) t.0 (history.fresh_lane o.base store q)) count (fresh_is d o.catalog.value lanes o.log.value o.base are q t.0 t.1), refl, refl);
  }
  homes ys h count are new (place.Of turn.Log) below out = record {
    value = value.Log (home_log h.room o.log.value);
    home = at_map some ys (log_slot n) (value.Log (home_log h.room o.log.value)) (log_at d n lanes o.log.value ys h);
    gives = (fresh_log d o.catalog.value lanes o.log.value o.base new, refl, h.record_room);
  }

  -- each latch is free
  free : (words : List ℕ) {ys : List (Value L G)} → AreSlots o.config.frames o.lanes.value.items o.log.value ys → AreOpening words o.config.frames o.base → length o.lanes.value.items ≡ o.config.lanes → (x : Turn) → HasTurn o.config.lanes x → get_or words (latch_place n x) 0 ≡ flag_weight (is_taken x start)
  free words h w count (turn.Partition p) low = in_latches words n o.base w (latch_place n (turn.Partition p)) p refl (omega arith)
  free words h w count (turn.Lane q) low = in_latches words n o.base w (latch_place n (turn.Lane q)) (latch_place 0 (turn.Lane q)) (omega arith) (let a = h.few in omega arith)
  free words h w count turn.Log low = in_latches words n o.base w (latch_place n turn.Log) (latch_place 0 turn.Log) refl (omega arith)

  -- and each other word has its first number
  said_first : (words : List ℕ) → AreOpening words o.config.frames o.base → (x : Word) → HasWord n x → get_or words (word_place n x) 0 ≡ word_of x start
  said_first words w end_word has = in_rest words n o.base w (word_place n end_word) (word_place 0 end_word) refl
  said_first words w flushed_word has = in_rest words n o.base w (word_place n flushed_word) (word_place 0 flushed_word) refl
  said_first words w hand_word has = in_rest words n o.base w (word_place n hand_word) (word_place 0 hand_word) refl
  said_first words w redo_word has = in_rest words n o.base w (word_place n redo_word) (word_place 0 redo_word) refl
  said_first words w (counter_word j) has = in_rest words n o.base w (word_place n (counter_word j)) (word_place 0 (counter_word j)) (omega arith)
      ∙ get_or-append_right (replicate latch_count 0) (opening_numbers n o.base) latch_count (word_place 0 (counter_word j)) 0 (length-replicate {A = ℕ} latch_count 0) (omega arith)
      ∙ ap (λ (i : ℕ). get_or (opening_numbers n o.base) i 0) {x = word_place 0 (counter_word j) - latch_count} {y = suc (suc (suc (suc j)))} (omega arith) ∙ get_or-replicate (counter_count + hint_count n) j 0 0 (omega arith)
  said_first words w (hint_word j) has = in_rest words n o.base w (word_place n (hint_word j)) (word_place 0 (hint_word j)) (omega arith)
      ∙ get_or-append_right (replicate latch_count 0) (opening_numbers n o.base) latch_count (word_place 0 (hint_word j)) 0 (length-replicate {A = ℕ} latch_count 0) (omega arith)
      ∙ ap (λ (i : ℕ). get_or (opening_numbers n o.base) i 0) {x = word_place 0 (hint_word j) - latch_count} {y = suc (suc (suc (suc (counter_count + j))))} (omega arith) ∙ get_or-replicate (counter_count + hint_count n) (counter_count + j) 0 0 (omega arith)

  pub opens_there : (words : List ℕ) (ys : List (Value L G)) → AreOpening words o.config.frames o.base → AreSlots o.config.frames o.lanes.value.items o.log.value ys → 0 < o.config.passes → o.config.passes ≤ 64 → 0 < o.config.lanes → length o.lanes.value.items ≡ o.config.lanes
      → o.base ≤ 4611686018427387904 → AreLanes d o.catalog.value o.lanes.value.items → IsNewLog {L = L} {G = G} d o.base o.log.value → RuleHolds d o (opening words ys (starting o))
  opens_there words ys w h some_backend few_backends some_lane count based are new = record {
    state = start;
    shows = record {
      fixed = record {
        frames = refl;
        backends = refl;
        base = refl;
        partitions = refl;
        partition_of = refl;
        is_fork = refl;
        sizes = refl;
        resizes = refl;
        names = refl;
        ranges = refl;
        lanes = refl;
        lane_of = ap tag_lane count;
        few_backends = few_backends;
        few_lanes = (let a = h.few in omega arith);
        known = λ q l word at placed. ap (λ (k : ℕ). known_in d o.catalog.value lanes o.log.value o.base (get_elem? lanes k)) (ap (λ (m : ℕ). tag_lane m word) count ∙ placed) ∙ ap (known_in d o.catalog.value lanes o.log.value o.base) at;
        held = λ q l known word tag at told placed. are.held q l known word tag at told (subst (λ (m : ℕ). IsPlaced o.catalog.value m q word tag) (sym count) placed);
        origin = λ q l known word tag at told placed. origin_is d o.catalog.value lanes o.log.value o.base are q l known word tag at told (subst (λ (m : ℕ). IsPlaced o.catalog.value m q word tag) (sym count) placed) ∙ sym (ap (λ (b : Bool). cond b (store.origin word) None) (named_below o.catalog.value word tag placed.named placed.listed));
        unsynced = λ q l word tag at placed. unsynced_is d o.catalog.value lanes o.log.value o.base q l word tag at (subst (λ (m : ℕ). IsPlaced o.catalog.value m q word tag) (sym count) placed);
        reads = λ q l at. ap (faults_in d o.catalog.value lanes o.log.value o.base d.read_faults) at;
        writes = λ q l at. ap (faults_in d o.catalog.value lanes o.log.value o.base d.write_faults) at;
        log_faults = refl;
      };
      words = wide words n o.base w;
      slots = length-map ys some ∙ slots_long d n lanes o.log.value ys h;
      views = refl;
      frame = λ f below. shows_blank words n o.base w f zero_page below;
      latches = record {
        latch = free words h w count;
        word = said_first words w;
      };
      homes = homes ys h count are new;
      list = record { list = h.list; home = at_map some ys (list_slot n) (value.Lanes h.list) (list_at d n lanes o.log.value ys h); empty = h.empty; room = (let a = h.list_room in omega arith); spare = λ q from below. at_map some ys (first_lane_slot n + q) value.Away (spare_at d n lanes o.log.value ys h q (omega arith) below) };
    };
    laws = laws_open config_of store zero_page (record { some_backend = some_backend; placed = λ word. partition_low (unpacked_tag word) }) (record { placed = λ word. subst (λ (m : ℕ). tag_lane m word < o.config.lanes) (sym count) (lane_low o.config.lanes some_lane (unpacked_tag word)); based = based; named = names_long o.catalog.value; synced = synced_low d o.catalog.value lanes o.log.value o.base new; there = λ word block known. refl; quiet = refl });
  }

  -- the same, where the devices are given beside the key
  pub opens_built : (words : List ℕ) (ys : List (Value L G)) (rs : List RelEntry) (ls : List L) (log : G) → o.catalog.value ≡ rs → o.lanes.value.items ≡ ls → o.log.value ≡ log → AreOpening words o.config.frames o.base → AreSlots o.config.frames ls log ys → 0 < o.config.passes → o.config.passes ≤ 64 → 0 < o.config.lanes
      → length ls ≡ o.config.lanes → o.base ≤ 4611686018427387904 → AreLanes d rs ls → IsNewLog {L = L} {G = G} d o.base log → RuleHolds d o (opening words ys (starting o))
  opens_built words ys rs ls log same_relations same_lanes same_log w h some_backend few_backends some_lane count based are new = opens_there words ys w
      (subst (λ (l : List L). AreSlots o.config.frames l o.log.value ys) (sym same_lanes) (subst (λ (x : G). AreSlots o.config.frames ls x ys) (sym same_log) h))
      some_backend few_backends some_lane (ap (λ (l : List L). length l) same_lanes ∙ count) based
      (subst (λ (r : List RelEntry). AreLanes d r o.lanes.value.items) (sym same_relations) (subst (AreLanes d rs) (sym same_lanes) are)) (subst (IsNewLog {L = L} {G = G} d o.base) (sym same_log) new)

-- the devices among the slots
module _ {L G : Type 0} (n : ℕ) (lanes : List L) (log : G) (ys : List (Value L G)) (h : AreSlots n lanes log ys) where
  abbrev before_log : List (Value L G)
  before_log = ((replicate n (value.Page zero_page) ++ h.maps) ++ home_lanes 0 lanes) ++ replicate (16 - length lanes) value.Away

  plain_before : HasNoDevices before_log
  plain_before = plain_both ((replicate n (value.Page zero_page) ++ h.maps) ++ home_lanes 0 lanes) (replicate (16 - length lanes) value.Away)
      (plain_both (replicate n (value.Page zero_page) ++ h.maps) (home_lanes 0 lanes) (plain_both (replicate n (value.Page zero_page)) h.maps (plain_pages L G n) (plain_maps n h.maps h.are_maps)) (plain_lanes L G 0 lanes)) (plain_aways L G (16 - length lanes))

  none_before : lanes_among (replicate n (value.Page zero_page) ++ h.maps) ≡ []
  none_before = lanes_append (replicate n (value.Page zero_page)) h.maps ∙ ap (λ (l : List L). l ++ lanes_among h.maps) (lanes_pages L G n) ∙ lanes_maps n h.maps h.are_maps

  lanes_there : lanes_among before_log ≡ lanes
  lanes_there = lanes_append ((replicate n (value.Page zero_page) ++ h.maps) ++ home_lanes 0 lanes) (replicate (16 - length lanes) value.Away)
      ∙ ap (λ (l : List L). lanes_among ((replicate n (value.Page zero_page) ++ h.maps) ++ home_lanes 0 lanes) ++ l) (lanes_aways L G (16 - length lanes)) ∙ append-nil (lanes_among ((replicate n (value.Page zero_page) ++ h.maps) ++ home_lanes 0 lanes))
      ∙ lanes_append (replicate n (value.Page zero_page) ++ h.maps) (home_lanes 0 lanes) ∙ ap (λ (l : List L). l ++ lanes_among {L = L} {G = G} (home_lanes 0 lanes)) none_before ∙ lanes_lanes L G 0 lanes

  -- the devices come back from such slots
  pub laid_ends : (xs : List (Value L G)) → xs ≡ ys → EndsWith (home_log h.room log) h.list xs
  laid_ends xs e = record { others = before_log; is = e ∙ h.is; plain = plain_before }

  pub lanes_are : (xs : List (Value L G)) → xs ≡ ys → lanes_among xs ≡ lanes
  lanes_are xs e = sym (lanes_before xs before_log (home_log h.room log) h.list (e ∙ h.is)) ∙ lanes_there

  pub log_is : (xs : List (Value L G)) (g : NotedLog G) (list : Vec L Global) → xs ≡ ys → EndsWith g list xs → g.device ≡ log
  log_is xs g list e ends = ap device_of_value (snoc_same ends.others before_log (value.Log g) (value.Log (home_log h.room log)) (snoc_same (ends.others ++ value.Log g ∷ []) (before_log ++ value.Log (home_log h.room log) ∷ []) (value.Lanes list) (value.Lanes h.list) (sym ends.is ∙ e ∙ h.is)).0).1
    where
      device_of_value : Value L G → G
      device_of_value (value.Log x) = x.device
      device_of_value _ = log
