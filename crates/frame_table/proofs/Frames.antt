-- What the table shows after a step at a frame.
use Rattle.std.proofs.Common.{Bool, ◌≡◌, ℕ, zero, suc, ◌+◌, ◌*◌, ◌-◌, ◌<◌, ◌%◌, ◌^◌, false, List, [], ◌∷◌, get_or, set, length-set, get_or-set_other, sym, refl, ap, ◌∙◌, subst, arith}
use Rattle.std.specs.Prelude.{is_some, Option}
use mathlib.Core.Logic.{dite}
use mathlib.Core.Option.{some, some-injective}
use native.Mathlib.Decide.{ℕ_discrete}
use lib.ListN.{get_elem?}
use Rattle.atomic_table.specs.Table.{keeps, stepped}
use Rattle.atomic_table.specs.Table as table
use Rattle.state_word.specs.Fields.{fields, bit}
use Rattle.segment_store.specs.Contents.{Pages}
use Rattle.pin_core.specs.declared.view.Link.{Link}
use Rattle.pin_core.specs.declared.view.MapEntry.{MapEntry}
use Rattle.pin_core.specs.declared.view.PartitionHold.{PartitionHold}
use Rattle.pin_core.specs.declared.view.LaneHold.{LaneHold}
use Rattle.pin_core.specs.declared.view.LogHold.{LogHold}
use Rattle.pin_core.specs.declared.view.MapChange.{MapChange}
use Rattle.pin_core.specs.declared.view.MapChange.TheVariants.{Stable, Entering, Leaving}
use Rattle.pin_core.specs.declared.view.View.{View}
use Rattle.pin_core.specs.State.{Frame, Partition, Page, link, hold, idle, no_partition, no_lane}
use Rattle.pin_core.specs.Kinds.{partitions_owing, holds_naming}
use Rattle.pin_core.specs.Kinds as pin
use Rattle.pin_core.specs.Tallies.{flag_weight}
use Rattle.block_tag.specs.declared.catalogue.RelEntry.{RelEntry}
use Rattle.history_core.specs.State.{State, Lane, Device}
use Rattle.grid.specs.Shape.{put}
use Rattle.grid.proofs.Lists.{set_here, set_else, put_at, put_else}
use Rattle.table_rule.specs.declared.value.Value.{Value}
use Rattle.table_rule.specs.declared.value.Value.TheVariants as value
use Rattle.table_rule.specs.declared.opening.Opening.{Opening}
use Rattle.table_rule.specs.declared.turn.Place.{Place}
use Rattle.table_rule.specs.declared.turn.Place.TheVariants as place
use Rattle.table_rule.specs.declared.turn.Turn.{Turn}
use Rattle.table_rule.specs.declared.turn.Turn.TheVariants as turn
use Rattle.table_rule.specs.Layout.{latch_place, word_place}
use Rattle.table_rule.proofs.Places.{word_behind}
use Rattle.history_core.specs.Words.{word_in, words_of}
use Rattle.frame_table.specs.Kinds.{FrameKind, pins, pages, IsAllowed, IsAllowedAround, frame_after, link_after, view_after, state_after}
use Rattle.table_rule.specs.Shows.{ShowsFrame, ShowsLatches, is_taken, is_out, IsHome, Devices, Gives, GivesPage, GivesMap, GivesLane, GivesLog, KeepsOpening, Shows, lane_opened}

-- a word that none of the frame's three is leaves what they show
pub frame_else : (words : List ℕ) (i n g : ℕ) (fr : Frame) → ¬ (i ≡ 8 * g) → ¬ (i ≡ 8 * g + 1) → ¬ (i ≡ 8 * g + 2) → ShowsFrame words g fr → ShowsFrame (set words i n) g fr
frame_else words i n g fr a b c h = let e0 : get_or (set words i n) (8 * g) 0 ≡ get_or words (8 * g) 0 = get_or-set_other words i (8 * g) n 0 (λ e. a (sym e)) in
    let e1 : get_or (set words i n) (8 * g + 1) 0 ≡ get_or words (8 * g + 1) 0 = get_or-set_other words i (8 * g + 1) n 0 (λ e. b (sym e)) in
    let e2 : get_or (set words i n) (8 * g + 2) 0 ≡ get_or words (8 * g + 2) 0 = get_or-set_other words i (8 * g + 2) n 0 (λ e. c (sym e)) in record {
      word = h.word ∙ ap fields (sym e0);
      tag = h.tag ∙ sym e1;
      sharers = h.sharers ∙ ap (λ (x : ℕ). x % 2 ^ 18) (sym e2);
      exclusive = h.exclusive ∙ ap (bit 18) (sym e2);
      copying = h.copying ∙ ap (bit 19) (sym e2);
      small = subst (λ (x : ℕ). x < 2 ^ 20) (sym e2) h.small;
    }

-- A step leaves the words after those of the frames
pub latches_else : (n lanes : ℕ) (words : List ℕ) (i m : ℕ) (s s' : State) → i < 8 * n → ((x : Turn) → is_taken x s' ≡ is_taken x s) → words_of s' ≡ words_of s → ShowsLatches n lanes words s → ShowsLatches n lanes (set words i m) s'
latches_else n lanes words i m s s' low same kept h = record {
  latch = λ x has. get_or-set_other words i (latch_place n x) m 0 (behind x) ∙ h.latch x has ∙ ap flag_weight (sym (same x));
  word = λ w has. get_or-set_other words i (word_place n w) m 0 (λ e. let after = word_behind n w in omega arith) ∙ h.word w has ∙ ap (word_in w) (sym kept);
}
  where
    behind : (x : Turn) → ¬ (latch_place n x ≡ i)
    behind (turn.Partition p) e = omega arith
    behind (turn.Lane q) e = omega arith
    behind turn.Log e = omega arith

-- a part of what stands at one place of a list, where another element with the same part is put at some place
pub same_at : {A B : Type 0} (g : A → B) (l : List A) (q p : ℕ) (x d : A) → g x ≡ g (get_or l q d) → g (get_or (set l q x) p d) ≡ g (get_or l p d)
same_at g [] q p x d e = refl
same_at g (y ∷ l) zero zero x d e = e
same_at g (y ∷ l) zero (suc p) x d e = refl
same_at g (y ∷ l) (suc q) zero x d e = refl
same_at g (y ∷ l) (suc q) (suc p) x d e = same_at g l q p x d e

-- what is put last at a place stands there
pub set_twice : {A : Type 0} (l : List A) (i : ℕ) (a b : A) → set (set l i a) i b ≡ set l i b
set_twice [] i a b = refl
set_twice (x ∷ l) zero a b = refl
set_twice (x ∷ l) (suc i) a b = ap (λ (m : List _). x ∷ m) (set_twice l i a b)

-- a function with x at f has at k what it had, as far as g tells, where x has
pub put_keeps : {A B : Type 0} (g : A → B) (h : ℕ → A) (f : ℕ) (x : A) (k : ℕ) → g x ≡ g (h f) → g (put h f x k) ≡ g (h k)
put_keeps g h f x k e = dite (ℕ_discrete k f) (λ is. ap g (put_at h f x k is) ∙ e ∙ ap (λ (z : ℕ). g (h z)) (sym is)) (λ n. ap g (put_else h f x k n))

-- naming a pair leaves a partition's latch and its map, and what is out
owing_same : {B : Type 0} (g : Partition → B) (c : MapChange) (partition_of : ℕ → ℕ) (parts : ℕ → Partition) (p : ℕ) → ((x : Partition) (d : MapChange) → g (record x { owed = d }) ≡ g x) → g (partitions_owing c partition_of parts p) ≡ g (parts p)
owing_same g Stable partition_of parts p e = refl
owing_same g (Entering tag f) partition_of parts p e = put_keeps g parts (partition_of tag) (record (parts (partition_of tag)) { owed = Entering tag f }) p (e (parts (partition_of tag)) (Entering tag f))
owing_same g (Leaving tag f) partition_of parts p e = put_keeps g parts (partition_of tag) (record (parts (partition_of tag)) { owed = Leaving tag f }) p (e (parts (partition_of tag)) (Leaving tag f))

naming_out : (c : MapChange) (partition_of : ℕ → ℕ) (v : View) (p : ℕ) → (hold (record v { partitions = holds_naming c partition_of v }) p).out ≡ (hold v p).out
naming_out Stable partition_of v p = refl
naming_out (Entering tag f) partition_of v p = same_at (λ (h : PartitionHold). h.out) v.partitions (partition_of tag) p (record (hold v (partition_of tag)) { change = Entering tag f }) no_partition refl
naming_out (Leaving tag f) partition_of v p = same_at (λ (h : PartitionHold). h.out) v.partitions (partition_of tag) p (record (hold v (partition_of tag)) { change = Leaving tag f }) no_partition refl

-- What a step at a frame leaves as it was
pub taken_same : (k : FrameKind) (s : State) (i f : ℕ) (v : View) (x : Turn) → is_taken x (state_after k s i f v) ≡ is_taken x s
taken_same k s i f v (turn.Lane q) = refl
taken_same k s i f v turn.Log = refl
taken_same (pins k) s i f v (turn.Partition p) = owing_same (λ (x : Partition). x.taken) (pin.named_by k f (s.pool.core.frame f)) s.pool.core.partition_of s.pool.core.partition p (λ x d. refl)
taken_same (pages k) s i f v (turn.Partition p) = refl

map_same : (k : FrameKind) (s : State) (i f : ℕ) (v : View) (p : ℕ) → ((state_after k s i f v).pool.core.partition p).map ≡ (s.pool.core.partition p).map
map_same (pins k) s i f v p = owing_same (λ (x : Partition). x.map) (pin.named_by k f (s.pool.core.frame f)) s.pool.core.partition_of s.pool.core.partition p (λ x d. refl)
map_same (pages k) s i f v p = refl

pub views_are : (k : FrameKind) (s : State) (i f : ℕ) (v : View) → (state_after k s i f v).pool.core.views ≡ set s.pool.core.views i (view_after k s f v)
views_are (pins k) s i f v = refl
views_are (pages k) s i f v = refl

pub frame_is : (k : FrameKind) (s : State) (i f : ℕ) (v : View) (g : ℕ) → (state_after k s i f v).pool.core.frame g ≡ put s.pool.core.frame f (frame_after k s f) g
frame_is (pins k) s i f v g = refl
frame_is (pages k) s i f v g = refl

-- the view's own values stay out or home, where the page's does
out_same : (k : FrameKind) (s : State) (f : ℕ) (v : View) → (link_after k s f v).out ≡ (link v f).out → (x : Place) → is_out x (view_after k s f v) ≡ is_out x v
out_same (pins k) s f v e (place.Page g) = ap (λ (z : Option (List ℕ)). is_some z) (same_at (λ (l : Link). l.out) v.links f g (link_after (pins k) s f v) idle e)
out_same (pins k) s f v e (place.Of (turn.Partition p)) = ap (λ (z : Option (List MapEntry)). is_some z) (naming_out (pin.named_by k f (s.pool.core.frame f)) s.pool.core.partition_of v p)
out_same (pins k) s f v e (place.Of (turn.Lane q)) = refl
out_same (pins k) s f v e (place.Of turn.Log) = refl
out_same (pages k) s f v e (place.Page g) = ap (λ (z : Option (List ℕ)). is_some z) (same_at (λ (l : Link). l.out) v.links f g (link_after (pages k) s f v) idle e)
out_same (pages k) s f v e (place.Of (turn.Partition p)) = refl
out_same (pages k) s f v e (place.Of (turn.Lane q)) = refl
out_same (pages k) s f v e (place.Of turn.Log) = refl

-- what a view has out is in its links and in what it has of the latches
pub same_out : (v w : View) → w.links ≡ v.links → w.partitions ≡ v.partitions → w.lanes ≡ v.lanes → w.log ≡ v.log → (x : Place) → is_out x w ≡ is_out x v
same_out v w links partitions lanes log (place.Page f) = ap (λ (l : List Link). is_some (get_or l f idle).out) links
same_out v w links partitions lanes log (place.Of (turn.Partition p)) = ap (λ (l : List PartitionHold). is_some (get_or l p no_partition).out) partitions
same_out v w links partitions lanes log (place.Of (turn.Lane q)) = ap (λ (l : List LaneHold). is_some (get_or l q no_lane).out) lanes
same_out v w links partitions lanes log (place.Of turn.Log) = ap (λ (l : LogHold). is_some l.out) log

-- what no view has out had none out before, where the stepping view's values stay where they are
pub home_before : (views : List View) (i : ℕ) (v w : View) (x : Place) → get_elem? views i ≡ some v → (is_out x w ≡ false → is_out x v ≡ false) → IsHome x (set views i w) → IsHome x views
home_before views i v w x there e home j u at = dite (ℕ_discrete j i)
    (λ is. let same : v ≡ u = some-injective v u (sym there ∙ ap (get_elem? views) (sym is) ∙ at) in subst (λ (z : View). is_out x z ≡ false) same (e (home i w (set_here views i v w there))))
    (λ n. home j u (set_else views i j w n ∙ at))

-- What a lane holds and has counted is the same
pub record SameLane (ln ln' : Lane) : Type 0 where
  pub known : ln'.known ≡ ln.known
  pub stored : ln'.stored ≡ ln.stored
  pub failed : ln'.failed ≡ ln.failed
  pub unsynced : ln'.unsynced ≡ ln.unsynced
  pub reads : ln'.read_faults ≡ ln.read_faults
  pub writes : ln'.write_faults ≡ ln.write_faults
  pub reads_at_start : ln'.read_faults_at_start ≡ ln.read_faults_at_start
  pub writes_at_start : ln'.write_faults_at_start ≡ ln.write_faults_at_start

pub lane_none : (ln : Lane) → SameLane ln ln
lane_none ln = record { known = refl; stored = refl; failed = refl; unsynced = refl; reads = refl; writes = refl; reads_at_start = refl; writes_at_start = refl }

gives_lane : {L G : Type 0} (d : Devices L G) (relations : List RelEntry) (lanes q : ℕ)
    (opened : Option Pages) (y : Value L G) (ln ln' : Lane) → SameLane ln ln'
    → GivesLane d relations lanes q opened y ln → GivesLane d relations lanes q opened y ln'
gives_lane d relations lanes q opened (value.Lane l) ln ln' e h = (
  record {
    known = e.known ∙ h.0.known;
    pages = λ known word tag told placed. h.0.pages known word tag told placed ∙ ap (λ (f : ℕ → Option Page). f word) (sym e.stored);
    held = h.0.held;
    failed = λ known word tag told placed. ap (λ (f : ℕ → Bool). f word) e.failed ∙ h.0.failed known word tag told placed;
    unsynced = λ word tag placed. ap (λ (f : ℕ → Bool). f word) e.unsynced ∙ h.0.unsynced word tag placed;
    others = h.0.others;
    reads = e.reads ∙ h.0.reads;
    writes = e.writes ∙ h.0.writes;
  },
  h.1,
  h.2,
)
gives_lane d relations lanes q opened (value.Page p) ln ln' e h = h
gives_lane d relations lanes q opened (value.Map m) ln ln' e h = h
gives_lane d relations lanes q opened (value.Log g) ln ln' e h = h
gives_lane d relations lanes q opened (value.Lanes l) ln ln' e h = h
gives_lane d relations lanes q opened value.Away ln ln' e h = h

-- What the log's device holds and has counted is the same
pub record SameDevice (a b : Device) : Type 0 where
  pub bytes : b.bytes ≡ a.bytes
  pub synced : b.synced ≡ a.synced
  pub faults : b.faults ≡ a.faults
  pub down : b.down ≡ a.down

pub device_none : (a : Device) → SameDevice a a
device_none a = record { bytes = refl; synced = refl; faults = refl; down = refl }

gives_log : {L G : Type 0} (d : Devices L G) (y : Value L G) (a b : Device) → SameDevice a b → GivesLog d y a → GivesLog d y b
gives_log d (value.Log g) a b e h = (record { bytes = λ known told. e.bytes ∙ h.0.bytes known told; synced = λ known told. e.synced ∙ h.0.synced known told; faults = e.faults ∙ h.0.faults; down = e.down ∙ h.0.down }, h.1, h.2)
gives_log d (value.Page p) a b e h = h
gives_log d (value.Map m) a b e h = h
gives_log d (value.Lane l) a b e h = h
gives_log d (value.Lanes l) a b e h = h
gives_log d value.Away a b e h = h

module _ {L G : Type 0} (d : Devices L G) (o : Opening L G) where
  -- What the states s and s' say of values is the same
  pub record SameValues (s s' : State) : Type 0 where
    pub page : (f : ℕ) → (s'.pool.core.frame f).page ≡ (s.pool.core.frame f).page
    pub map : (p : ℕ) → (s'.pool.core.partition p).map ≡ (s.pool.core.partition p).map
    pub count : s'.lanes ≡ s.lanes
    pub lane : (q : ℕ) → SameLane (s.lane q) (s'.lane q)
    pub device : SameDevice s.device s'.device

  pub gives_same : (s s' : State) → SameValues s s' → (x : Place) (y : Value L G) → Gives d o s x y → Gives d o s' x y
  gives_same s s' e (place.Page f) y h = subst (GivesPage y) (sym (e.page f)) h
  gives_same s s' e (place.Of (turn.Partition p)) y h = subst (GivesMap o.config.frames y) (sym (e.map p)) h
  gives_same s s' e (place.Of (turn.Lane q)) y h =
      subst (λ (n : ℕ). GivesLane d o.catalog.value n q (lane_opened d o q) y (s'.lane q))
      (sym e.count)
      (gives_lane d o.catalog.value s.lanes q (lane_opened d o q) y (s.lane q) (s'.lane q)
      (e.lane q) h)
  gives_same s s' e (place.Of turn.Log) y h = gives_log d y s.device s'.device e.device h

-- What a step of the kind k at the frame f asks, where its word i becomes n
module _ {L G : Type 0} where
  pub record Asks (k : FrameKind) (t : table.State (Value L G) View) (s : State) (f i n : ℕ) (v : View) : Type 0 where
    pub allowed : IsAllowed k s f v
    pub around : IsAllowedAround k s f v
    -- the words show the frame after it
    pub shows : ShowsFrame (set t.words i n) f (frame_after k s f)
    -- the page stays, and stays out or home
    pub page : (frame_after k s f).page ≡ (s.pool.core.frame f).page
    pub out : (link_after k s f v).out ≡ (link v f).out

module _ {L G : Type 0} (d : Devices L G) (o : Opening L G) where
  pub fixed_after : (k : FrameKind) (s : State) (i f : ℕ) (v : View) → KeepsOpening d o s → KeepsOpening d o (state_after k s i f v)
  fixed_after (pins k) s i f v h = h
  fixed_after _ s i f v h = h

  same_values : (k : FrameKind) (s : State) (i f : ℕ) (v : View) → (frame_after k s f).page ≡ (s.pool.core.frame f).page → SameValues d o s (state_after k s i f v)
  same_values k s i f v e = record {
    page = λ g. ap (λ (x : Frame). x.page) (frame_is k s i f v g) ∙ put_keeps (λ (x : Frame). x.page) s.pool.core.frame f (frame_after k s f) g e;
    map = map_same k s i f v;
    count = refl;
    lane = λ q. lane_none (s.lane q);
    device = device_none s.device;
  }

  -- A table shows the state after a step at a frame, if its word shows the frame
  pub shows_after : (k : FrameKind) (t : table.State (Value L G) View) (s : State) (id f i n : ℕ) (c : List (ℕ × Value L G)) (v : View) → Shows d o t s → get_elem? s.pool.core.views id ≡ some v → f < o.config.frames → i ≡ 8 * f + (i - 8 * f) → i - 8 * f < 3
      → Asks k t s f i n v → Shows d o (stepped t i n id c (view_after k s f v) keeps) (state_after k s id f v)
  shows_after k t s id f i n c v h there below is low a = let w : View = view_after k s f v in record {
    fixed = fixed_after k s id f v h.fixed;
    words = length-set t.words i n ∙ h.words;
    slots = h.slots;
    views = ap (λ (l : List View). set l id w) h.views ∙ sym (views_are k s id f v);
    frame = λ g inside. subst (ShowsFrame (set t.words i n) g) (sym (frame_is k s id f v g)) (dite (ℕ_discrete g f)
        (λ e. subst (ShowsFrame (set t.words i n) g) (sym (put_at s.pool.core.frame f (frame_after k s f) g e)) (subst (λ (z : ℕ). ShowsFrame (set t.words i n) z (frame_after k s f)) (sym e) a.shows))
        (λ e. subst (ShowsFrame (set t.words i n) g) (sym (put_else s.pool.core.frame f (frame_after k s f) g e)) (frame_else t.words i n g (s.pool.core.frame g) (λ z. e (omega arith)) (λ z. e (omega arith)) (λ z. e (omega arith)) (h.frame g inside))));
    latches = latches_else o.config.frames o.config.lanes t.words i n s (state_after k s id f v) (omega arith) (taken_same k s id f v) refl h.latches;
    homes = λ x inside home. let old = h.homes x inside (home_before s.pool.core.views id v w x there (λ e. sym (out_same k s f v a.out x) ∙ e) (subst (IsHome x) (views_are k s id f v) home)) in
        record { value = old.value; home = old.home; gives = gives_same d o s (state_after k s id f v) (same_values k s id f v a.page) x old.value old.gives };
    list = h.list;
  }
