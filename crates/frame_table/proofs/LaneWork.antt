-- Steps at a lane while it is out: what they leave of the state and of the view.
use Rattle.std.proofs.Common.{◌≡◌, ◌≢◌, ℕ, ◌+◌, ◌<◌, ◌≤◌, ◌^◌, Bool, List, get_or, set, get_or-set_other, sym, refl, ap, ◌∙◌, subst, arith, eq-eqb, ne_eqb, cond}
use Rattle.std.specs.Prelude.{is_some, Option}
use mathlib.Core.Logic.{dite}
use native.Mathlib.Decide.{ℕ_discrete}
use Rattle.byte_devices.specs.Faults.{Rose}
use Rattle.pin_core.specs.declared.view.View.{View}
use Rattle.pin_core.specs.declared.view.LaneHold.{LaneHold}
use Rattle.pin_core.specs.declared.view.LogHold.{LogHold}
use Rattle.pin_core.specs.declared.view.PartitionHold.{PartitionHold}
use Rattle.pin_core.specs.State.{Frame, Page, link, no_lane}
use Rattle.pin_core.specs.State as pool
use Rattle.page_core.specs.State as page
use Rattle.history_core.specs.State.{State, Lane, last_count, raised}
use Rattle.history_core.specs.Lanes.{Rises}
use Rattle.history_core.specs.Lasting.{IsSameOpening}
use Rattle.grid.specs.Shape.{put}
use Rattle.grid.proofs.Lists.{put_else}
use Rattle.table_rule.specs.declared.value.Value.{Value}
use Rattle.table_rule.specs.declared.opening.Opening.{Opening}
use Rattle.table_rule.specs.declared.turn.Place.{Place}
use Rattle.table_rule.specs.declared.turn.Place.TheVariants as place
use Rattle.table_rule.specs.declared.turn.Turn.{Turn}
use Rattle.table_rule.specs.declared.turn.Turn.TheVariants as turn
use Rattle.table_rule.specs.Shows.{is_taken, is_out, Devices, Gives, GivesMap, GivesPage, GivesLane, KeepsOpening, lane_opened}
use Rattle.frame_table.proofs.Frames.{put_keeps}
use Rattle.frame_table.proofs.Moving.{SameWords, words_none, Moves}

-- a count that rose is one that a failed call made rise
pub rises : (before now : ℕ) → before < 2 ^ 64 → now < 2 ^ 64 → Rose before now → Rises before now
rises before now low fits rose = record { least = by_last; within = omega arith }
  where
    by_last : raised before ≤ now
    by_last = dite (ℕ_discrete before last_count)
        (λ e. subst (λ (n : ℕ). n ≤ now) (sym (ap (λ (b : Bool). cond b before (before + 1)) (eq-eqb before last_count e))) (omega arith))
        (λ n. subst (λ (m : ℕ). m ≤ now) (sym (ap (λ (b : Bool). cond b before (before + 1)) (ne_eqb before last_count n))) (omega arith))

-- A kind of step while a lane is out, or as it goes out or comes back, leaves its latch and what it had counted at the start
pub record Leaves (ln ln' : Lane) : Type 0 where
  pub taken : ln'.taken ≡ ln.taken
  pub reads : ln'.read_faults_at_start ≡ ln.read_faults_at_start
  pub writes : ln'.write_faults_at_start ≡ ln.write_faults_at_start

-- What a step at the lane q leaves of a view
pub record LaneView (q : ℕ) (v w : View) : Type 0 where
  pub hold : LaneHold
  pub lanes : w.lanes ≡ set v.lanes q hold
  pub partitions : w.partitions ≡ v.partitions
  pub log : w.log ≡ v.log
  pub outs : (f : ℕ) → (link w f).out ≡ (link v f).out

-- the other places stay out or home
lane_outs : (q : ℕ) (v w : View) (x : Place) → LaneView q v w → x ≢ place.Of (turn.Lane q) → is_out x w ≡ is_out x v
lane_outs q v w (place.Page f) h n = ap (λ (p : Option Page). is_some p) (h.outs f)
lane_outs q v w (place.Of (turn.Partition p)) h n = ap (λ (l : List PartitionHold). is_some (get_or l p pool.no_partition).out) h.partitions
lane_outs q v w (place.Of (turn.Lane r)) h n = ap (λ (l : LaneHold). is_some l.out) (ap (λ (l : List LaneHold). get_or l r no_lane) h.lanes ∙ get_or-set_other v.lanes q r h.hold no_lane (λ e. n (ap (λ (k : ℕ). place.Of (turn.Lane k)) e)))
lane_outs q v w (place.Of turn.Log) h n = ap (λ (l : LogHold). is_some l.out) h.log

-- the state with another lane q, and another pool
abbrev pub laned_state : State → page.State → ℕ → Lane → State
laned_state s pool' q ln = record s { pool = pool'; lane = put s.lane q ln }

-- What a step at the lane q makes of the pool
pub record LanePool (s : State) (pool' : page.State) (id : ℕ) (w : View) : Type 0 where
  pub views : pool'.core.views ≡ set s.pool.core.views id w
  pub frames : (f : ℕ) → pool'.core.frame f ≡ s.pool.core.frame f
  pub partitions : (p : ℕ) → pool'.core.partition p ≡ s.pool.core.partition p

same_words : (a b : Frame) → b ≡ a → SameWords a b
same_words a b e = subst (SameWords a) (sym e) (words_none a)

lane_taken : (s : State) (pool' : page.State) (id q : ℕ) (w : View) (ln : Lane) → LanePool s pool' id w → Leaves (s.lane q) ln → (x : Turn) → is_taken x (laned_state s pool' q ln) ≡ is_taken x s
lane_taken s pool' id q w ln p kept (turn.Partition r) = ap (λ (x : pool.Partition). x.taken) (p.partitions r)
lane_taken s pool' id q w ln p kept (turn.Lane r) = put_keeps (λ (l : Lane). l.taken) s.lane q ln r kept.taken
lane_taken s pool' id q w ln p kept turn.Log = refl

module _ {L G : Type 0} (d : Devices L G) (o : Opening L G) where
  lane_values : (s : State) (pool' : page.State) (id q : ℕ) (w : View) (ln : Lane) → LanePool s pool' id w → (x : Place) (z : Value L G) → x ≢ place.Of (turn.Lane q) → Gives d o s x z → Gives d o (laned_state s pool' q ln) x z
  lane_values s pool' id q w ln p (place.Page f) z n h = subst (λ (fr : Frame). GivesPage z fr.page) (sym (p.frames f)) h
  lane_values s pool' id q w ln p (place.Of (turn.Partition r)) z n h = subst (λ (pt : pool.Partition). GivesMap o.config.frames z pt.map) (sym (p.partitions r)) h
  lane_values s pool' id q w ln p (place.Of (turn.Lane r)) z n h = subst (GivesLane d o.catalog.value s.lanes r (lane_opened d o r) z) (sym (put_else s.lane q ln r (λ e. n (ap (λ (k : ℕ). place.Of (turn.Lane k)) e)))) h
  lane_values s pool' id q w ln p (place.Of turn.Log) z n h = h

  -- what was fixed at the opening stays so
  pub opened_on : (s t : State) → IsSameOpening s t → ((r : ℕ) → Leaves (s.lane r) (t.lane r)) → KeepsOpening d o s → KeepsOpening d o t
  opened_on s t e kept h = record {
    frames = e.frames ∙ h.frames;
    backends = e.backends ∙ h.backends;
    base = e.base ∙ h.base;
    partitions = e.partitions ∙ h.partitions;
    partition_of = e.partition_of ∙ h.partition_of;
    is_fork = e.is_fork ∙ h.is_fork;
    sizes = e.opened_sizes ∙ h.sizes;
    resizes = e.resizes ∙ h.resizes;
    names = e.names ∙ h.names;
    ranges = e.ranges ∙ h.ranges;
    lanes = e.lanes ∙ h.lanes;
    lane_of = e.lane_of ∙ h.lane_of;
    few_backends = h.few_backends;
    few_lanes = h.few_lanes;
    known = λ q l word at placed. ap (λ (g : ℕ → Bool). g word) e.known ∙ h.known q l word at placed;
    held = h.held;
    origin = λ q l known word tag at told placed. h.origin q l known word tag at told placed ∙ ap (λ (g : ℕ → Option Page). g word) (sym e.origin);
    unsynced = λ q l word tag at placed. ap (λ (g : ℕ → Bool). g word) e.unsynced ∙ h.unsynced q l word tag at placed;
    reads = λ q l at. (kept q).reads ∙ h.reads q l at;
    writes = λ q l at. (kept q).writes ∙ h.writes q l at;
    log_faults = e.log_faults ∙ h.log_faults;
  }

  -- A step at the lane q moves the lane alone
  pub moves_lane : (s : State) (pool' : page.State) (id q : ℕ) (v w : View) (ln : Lane) → KeepsOpening d o s → IsSameOpening s (laned_state s pool' q ln) → LanePool s pool' id w → LaneView q v w → Leaves (s.lane q) ln → Moves d o s (laned_state s pool' q ln) id v w (place.Of (turn.Lane q))
  moves_lane s pool' id q v w ln opened same p view kept = record {
    fixed = opened_on s (laned_state s pool' q ln) same (λ r. record { taken = put_keeps (λ (l : Lane). l.taken) s.lane q ln r kept.taken; reads = put_keeps (λ (l : Lane). l.read_faults_at_start) s.lane q ln r kept.reads; writes = put_keeps (λ (l : Lane). l.write_faults_at_start) s.lane q ln r kept.writes }) opened;
    views = p.views;
    frames = λ f. same_words (s.pool.core.frame f) (pool'.core.frame f) (p.frames f);
    latches = lane_taken s pool' id q w ln p kept;
    words = refl;
    outs = λ x n. lane_outs q v w x view n;
    values = λ x z n h. lane_values s pool' id q w ln p x z n h;
  }
