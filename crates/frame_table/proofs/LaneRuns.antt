-- The steps by which a lane goes out and comes back.
use Rattle.std.proofs.Common.{◌≡◌, ℕ, ◌+◌, ◌<◌, Bool, false, Some, None, List, [], ◌∷◌, ◌++◌, get_or, set, length, get_or-set_same, append-nil, sym, refl, ap, ◌∙◌, subst, arith}
use Rattle.std.specs.Prelude.{◌||◌}
use Rattle.std.proofs.Math.Bool.{or-false}
use mathlib.Core.Option.{some}
use lib.ListN.{get_elem?}
use Rattle.pin_core.specs.declared.view.LaneChange.{LaneChange}
use Rattle.pin_core.specs.declared.view.LaneChange.TheVariants as lane_change
use Rattle.pin_core.specs.declared.view.Io.TheVariants.{Input}
use Rattle.pin_core.specs.declared.view.LastWrite.TheVariants.{Unwritten}
use Rattle.pin_core.specs.declared.view.LaneHold.{LaneHold}
use Rattle.pin_core.specs.declared.view.Link.{Link}
use Rattle.pin_core.specs.declared.view.FailedCalls.{FailedCalls}
use Rattle.pin_core.specs.declared.view.View.{View}
use Rattle.pin_core.specs.State.{Frame, Page, link, lane_hold, no_lane, idle, sum_of_met}
use Rattle.page_core.specs.State.{Block, block_of}
use Rattle.page_core.specs.Kinds.{Kind, note_read, begin_write, note_write}
use Rattle.page_core.specs.Kinds as pages
use Rattle.history_core.specs.State.{State, Lane}
use Rattle.history_core.specs.Lanes.{swept_by, LaneKind, read_block, lane_back, LaneAllowed, lane_after, lane_hold_after, CanReturnLane, lane_met_by, lane_calls_by, syncs, fault_of}
use Rattle.history_core.specs.Steps.{Event, Step, Run, rests, goes, NoWrite, LaneAlone, MayWriteLane, aside, stepped, laned, paged, pool_after, pool_noting}
use Rattle.history_core.specs.Steps as steps
use Rattle.history_core.specs.Laws.{Laws}
use Rattle.history_core.proofs.Laws.{laws_kept}
use Rattle.history_core.proofs.Lasting.{opening_stays}
use Rattle.grid.proofs.Lists.{put_here, set_here}
use Rattle.table_rule.specs.declared.opening.Opening.{Opening}
use Rattle.table_rule.specs.declared.turn.Place.TheVariants as place
use Rattle.table_rule.specs.declared.turn.Turn.TheVariants as turn
use Rattle.table_rule.specs.Shows.{Devices, KeepsOpening}
use Rattle.pin_core.proofs.SizeSchedules.{none_noted}
use Rattle.frame_table.specs.LaneWork.{back_lane}
use Rattle.frame_table.proofs.Frames.{put_keeps, same_at, set_twice}
use Rattle.frame_table.proofs.Moving.{Moves, moves_on}
use Rattle.frame_table.proofs.LaneWork.{Leaves, laned_state, moves_lane}

-- The three kinds of step at a lane: alone, a write of the frame f, and a return with a note at the frame f
abbrev pub alone_view : LaneKind → ℕ → View → View
alone_view k q v = stepped (laned k q v v)

abbrev pub alone_state : LaneKind → State → ℕ → ℕ → View → State
alone_state k s id q v = laned_state s (aside s.pool id (alone_view k q v)) q (lane_after k (s.lane q))

abbrev pub written_view : LaneKind → State → ℕ → ℕ → View → View
written_view k s q f v = laned k q v (paged begin_write s.pool f v)

abbrev pub written_state : LaneKind → State → ℕ → ℕ → ℕ → View → State
written_state k s id q f v = laned_state s (pool_after begin_write s.pool id f (written_view k s q f v)) q (lane_after k (s.lane q))

abbrev pub noted_view : Bool → Kind → State → ℕ → ℕ → View → View
noted_view noted k s q f v = laned (lane_back noted) q v (paged k (pool_noting k s f) f v)

abbrev pub noted_state : Bool → Kind → State → ℕ → ℕ → ℕ → View → State
noted_state noted k s id q f v = laned_state s (pool_after k (pool_noting k s f) id f (noted_view noted k s q f v)) q (lane_after (lane_back noted) (s.lane q))

-- The kind of a note leaves the frame, and what is out
record NotesAlone (k : Kind) : Type 0 where
  frame : (b : Block) (fr : Frame) → pages.frame_after k b fr ≡ fr
  out : (b : Block) (fr : Frame) (l : Link) → (pages.link_after k b fr l).out ≡ l.out

leaves_itself : (ln : Lane) → Leaves ln ln
leaves_itself ln = record { taken = refl; reads = refl; writes = refl }

module _ {L G : Type 0} (d : Devices L G) (o : Opening L G) where
  alone_moves : (k : LaneKind) (s : State) (id q : ℕ) (v : View) (e : Event) → KeepsOpening d o s → Step e s (alone_state k s id q v) → Leaves (s.lane q) (lane_after k (s.lane q)) → Moves d o s (alone_state k s id q v) id v (alone_view k q v) (place.Of (turn.Lane q))
  alone_moves k s id q v e opened step kept = moves_lane d o s (aside s.pool id (alone_view k q v)) id q v (alone_view k q v) (lane_after k (s.lane q)) opened (opening_stays s e (alone_state k s id q v) step) (record { views = refl; frames = λ f. refl; partitions = λ p. refl })
      (record { hold = lane_hold_after k v.flushed (swept_by v) (lane_hold v q); lanes = refl; partitions = refl; log = refl; outs = λ f. refl }) kept

  written_moves : (k : LaneKind) (s : State) (id q f : ℕ) (v : View) (e : Event) → KeepsOpening d o s → Step e s (written_state k s id q f v) → Leaves (s.lane q) (lane_after k (s.lane q)) → Moves d o s (written_state k s id q f v) id v (written_view k s q f v) (place.Of (turn.Lane q))
  written_moves k s id q f v e opened step kept = moves_lane d o s (pool_after begin_write s.pool id f (written_view k s q f v)) id q v (written_view k s q f v) (lane_after k (s.lane q)) opened (opening_stays s e (written_state k s id q f v) step) (record { views = refl; frames = λ g. put_keeps (λ (x : Frame). x) s.pool.core.frame f (s.pool.core.frame f) g refl; partitions = λ p. refl })
      (record { hold = lane_hold_after k v.flushed (swept_by v) (lane_hold v q); lanes = refl; partitions = refl; log = refl; outs = λ g. same_at (λ (l : Link). l.out) v.links f g (record (link v f) { last_write = Unwritten }) idle refl }) kept

  noted_moves : (noted : Bool) (k : Kind) (s : State) (id q f : ℕ) (v : View) (e : Event) → NotesAlone k → KeepsOpening d o s → Step e s (noted_state noted k s id q f v) → Moves d o s (noted_state noted k s id q f v) id v (noted_view noted k s q f v) (place.Of (turn.Lane q))
  noted_moves noted k s id q f v e note opened step = let fr : Frame = s.pool.core.frame f in let b : Block = block_of (pool_noting k s f).logged fr.tag in
      moves_lane d o s (pool_after k (pool_noting k s f) id f (noted_view noted k s q f v)) id q v (noted_view noted k s q f v) (lane_after (lane_back noted) (s.lane q)) opened (opening_stays s e (noted_state noted k s id q f v) step) (record { views = refl; frames = λ g. put_keeps (λ (x : Frame). x) s.pool.core.frame f (pages.frame_after k b fr) g (note.frame b fr); partitions = λ p. refl })
      (record { hold = lane_hold_after (lane_back noted) v.flushed (swept_by v) (lane_hold v q); lanes = refl; partitions = refl; log = refl; outs = λ g. same_at (λ (l : Link). l.out) v.links f g (pages.link_after k b fr (link v f)) idle (note.out b fr (link v f)) }) (leaves_itself (s.lane q))

  -- By these steps the state s comes to one in which the lane q is `ln`, and the view v becomes w; the lane's value alone moves
  pub record LaneComes (s : State) (id q : ℕ) (v : View) (events : List Event) (w : View) (ln : Lane) : Type 0 where
    pub next : State
    pub run : Run events s next
    pub laws : Laws next
    pub moves : Moves d o s next id v w (place.Of (turn.Lane q))
    pub lane : next.lane q ≡ ln

  -- A state in which backend id has the view v
  pub record StandsWithLane (s : State) (id q : ℕ) (v : View) : Type 0 where
    pub opened : KeepsOpening d o s
    pub laws : Laws s
    pub there : get_elem? s.pool.core.views id ≡ some v
    pub live : v.emptied ≡ false
    pub below : q < s.lanes

  in_lanes : (s : State) (id q : ℕ) (v : View) → StandsWithLane s id q v → q < length v.lanes
  in_lanes s id q v h = let wide = h.laws.invariant.wide id v h.there h.live in let low = h.below in omega arith

  -- a state after the first of two steps
  stands_on : (s t : State) (id q : ℕ) (v u : View) (e : Event) → StandsWithLane s id q v → Step e s t → Moves d o s t id v u (place.Of (turn.Lane q)) → u.emptied ≡ v.emptied → StandsWithLane t id q u
  stands_on s t id q v u e h step moves live = record {
    opened = moves.fixed;
    laws = laws_kept step h.laws;
    there = ap (λ (l : List View). get_elem? l id) moves.views ∙ set_here s.pool.core.views id v u h.there;
    live = live ∙ h.live;
    below = (let a = moves.fixed.lanes in let b = h.opened.lanes in let low = h.below in omega arith);
  }

  pub one_step : (k : LaneKind) (s : State) (id q : ℕ) (v : View) → StandsWithLane s id q v → LaneAllowed k (s.lane q) (lane_hold v q) → LaneAlone k s q (lane_hold v q) → Leaves (s.lane q) (lane_after k (s.lane q)) → LaneComes s id q v (steps.lane id q k ∷ []) (alone_view k q v) (lane_after k (s.lane q))
  one_step k s id q v h a alone kept = let step : Step (steps.lane id q k) s (alone_state k s id q v) = steps.lanes id q k v h.there h.live h.below a alone in record {
    next = alone_state k s id q v;
    run = goes step rests;
    laws = laws_kept step h.laws;
    moves = alone_moves k s id q v (steps.lane id q k) h.opened step kept;
    lane = put_here s.lane q (lane_after k (s.lane q));
  }

  -- a step before others
  before_others : (s t : State) (id q : ℕ) (v u w : View) (e : Event) (es : List Event) (ln : Lane) → Step e s t → Moves d o s t id v u (place.Of (turn.Lane q)) → LaneComes t id q u es w ln → LaneComes s id q v (e ∷ es) w ln
  before_others s t id q v u w e es ln step moves c = record { next = c.next; run = goes step c.run; laws = c.laws; moves = moves_on d o s t c.next id v u w (place.Of (turn.Lane q)) moves c.moves; lane = c.lane }

  -- the return, alone or with a note
  returns_alone : (noted : Bool) (s : State) (id q : ℕ) (v : View) (ln : Lane) (h : LaneHold) → StandsWithLane s id q v → s.lane q ≡ ln → lane_hold v q ≡ h → CanReturnLane noted ln h → NoWrite h.change → LaneComes s id q v (steps.lane id q (lane_back noted) ∷ []) (alone_view (lane_back noted) q v) ln
  returns_alone noted s id q v ln h stands is hold can none = let c = one_step (lane_back noted) s id q v stands (subst (λ (x : Lane). CanReturnLane noted x (lane_hold v q)) (sym is) (subst (CanReturnLane noted ln) (sym hold) can)) (subst (λ (x : LaneHold). NoWrite x.change) (sym hold) none) (leaves_itself (s.lane q)) in
      record { next = c.next; run = c.run; laws = c.laws; moves = c.moves; lane = c.lane ∙ is }

  returns_noted : (noted : Bool) (k : Kind) (s : State) (id q f : ℕ) (v : View) (ln : Lane) (h : LaneHold) → NotesAlone k → StandsWithLane s id q v → f < s.pool.core.frames → s.lane q ≡ ln → lane_hold v q ≡ h → CanReturnLane noted ln h → steps.Notes k s q f (lane_hold v q) (link v f)
      → LaneComes s id q v (steps.note id q f (lane_back noted) k ∷ []) (noted_view noted k s q f v) ln
  returns_noted noted k s id q f v ln h note stands inside is hold can notes =
      let step : Step (steps.note id q f (lane_back noted) k) s (noted_state noted k s id q f v) = steps.notes id q f noted k v stands.there stands.live stands.below inside (subst (λ (x : Lane). CanReturnLane noted x (lane_hold v q)) (sym is) (subst (CanReturnLane noted ln) (sym hold) can)) notes in record {
        next = noted_state noted k s id q f v;
        run = goes step rests;
        laws = laws_kept step stands.laws;
        moves = noted_moves noted k s id q f v (steps.note id q f (lane_back noted) k) note stands.opened step;
        lane = put_here s.lane q (s.lane q) ∙ is;
      }

  -- A call alone, and the return alone
  pub calls_alone : (k : LaneKind) (noted : Bool) (s : State) (id q : ℕ) (v : View) → StandsWithLane s id q v → LaneAllowed k (s.lane q) (lane_hold v q) → LaneAlone k s q (lane_hold v q) → Leaves (s.lane q) (lane_after k (s.lane q)) → CanReturnLane noted (lane_after k (s.lane q)) (lane_hold_after k v.flushed (swept_by v) (lane_hold v q)) → NoWrite (lane_hold_after k v.flushed (swept_by v) (lane_hold v q)).change
      → LaneComes s id q v (steps.lane id q k ∷ steps.lane id q (lane_back noted) ∷ []) (alone_view (lane_back noted) q (alone_view k q v)) (lane_after k (s.lane q))
  calls_alone k noted s id q v h a alone kept can none = let t : State = alone_state k s id q v in let u : View = alone_view k q v in let step : Step (steps.lane id q k) s t = steps.lanes id q k v h.there h.live h.below a alone in let moves = alone_moves k s id q v (steps.lane id q k) h.opened step kept in
      before_others s t id q v u (alone_view (lane_back noted) q u) (steps.lane id q k) (steps.lane id q (lane_back noted) ∷ []) (lane_after k (s.lane q)) step moves
      (returns_alone noted t id q u (lane_after k (s.lane q)) (lane_hold_after k v.flushed (swept_by v) (lane_hold v q)) (stands_on s t id q v u (steps.lane id q k) h step moves refl) (put_here s.lane q (lane_after k (s.lane q))) (get_or-set_same v.lanes q (lane_hold_after k v.flushed (swept_by v) (lane_hold v q)) no_lane (in_lanes s id q v h)) can none)

  -- A read, and the return with its note
  pub reads_noted : (tag : ℕ) (p : Page) (s : State) (id q f : ℕ) (v : View) → StandsWithLane s id q v → f < s.pool.core.frames → LaneAllowed (read_block tag p) (s.lane q) (lane_hold v q) → s.lane_of tag ≡ q → CanReturnLane false (s.lane q) (record (lane_hold v q) { change = lane_change.Read tag p })
      → (s.pool.core.frame f).tag ≡ tag → (link v f).io ≡ Input → (link v f).overwritten ≡ None
      → LaneComes s id q v (steps.lane id q (read_block tag p) ∷ steps.note id q f (lane_back false) (note_read p) ∷ []) (noted_view false (note_read p) (alone_state (read_block tag p) s id q v) q f (alone_view (read_block tag p) q v)) (s.lane q)
  reads_noted tag p s id q f v h inside a lane can tagged right fresh = let k : LaneKind = read_block tag p in let t : State = alone_state k s id q v in let u : View = alone_view k q v in
      let step : Step (steps.lane id q k) s t = steps.lanes id q k v h.there h.live h.below a lane in let moves = alone_moves k s id q v (steps.lane id q k) h.opened step (leaves_itself (s.lane q)) in let hold = get_or-set_same v.lanes q (lane_hold_after k v.flushed (swept_by v) (lane_hold v q)) no_lane (in_lanes s id q v h) in
      before_others s t id q v u (noted_view false (note_read p) t q f u) (steps.lane id q k) (steps.note id q f (lane_back false) (note_read p) ∷ []) (s.lane q) step moves
      (returns_noted false (note_read p) t id q f u (s.lane q) (lane_hold_after k v.flushed (swept_by v) (lane_hold v q)) (record { frame = λ b fr. refl; out = λ b fr l. refl }) (stands_on s t id q v u (steps.lane id q k) h step moves refl) inside (put_here s.lane q (s.lane q)) hold can
      (record { was_read = ap (λ (x : LaneHold). x.change) hold ∙ ap (λ (n : ℕ). lane_change.Read n p) (sym tagged); lane = ap s.lane_of tagged ∙ lane; right = right; fresh = fresh; unnoted = none_noted s.pool.core h.laws.invariant.pool.sizes h.laws.invariant.quiet id f v h.there inside }))

  -- A write, and the return with its note
  pub writes_noted : (k : LaneKind) (noted : Bool) (s : State) (id q f : ℕ) (v : View) → StandsWithLane s id q v → f < s.pool.core.frames → LaneAllowed k (s.lane q) (lane_hold v q) → MayWriteLane k s q f (lane_hold v q) (link v f) → Leaves (s.lane q) (lane_after k (s.lane q))
      → CanReturnLane noted (lane_after k (s.lane q)) (lane_hold_after k v.flushed (swept_by v) (lane_hold v q)) → (done : Bool)
      → (steps.Notes (note_write done) (written_state k s id q f v) q f (lane_hold (written_view k s q f v) q) (link (written_view k s q f v) f))
      → LaneComes s id q v (steps.write id q f k ∷ steps.note id q f (lane_back noted) (note_write done) ∷ []) (noted_view noted (note_write done) (written_state k s id q f v) q f (written_view k s q f v)) (lane_after k (s.lane q))
  writes_noted k noted s id q f v h inside a writes kept can done notes = let t : State = written_state k s id q f v in let u : View = written_view k s q f v in
      let step : Step (steps.write id q f k) s t = steps.writes id q f k v h.there h.live h.below inside a writes in let moves = written_moves k s id q f v (steps.write id q f k) h.opened step kept in
      let hold = get_or-set_same v.lanes q (lane_hold_after k v.flushed (swept_by v) (lane_hold v q)) no_lane (in_lanes s id q v h) in
      before_others s t id q v u (noted_view noted (note_write done) t q f u) (steps.write id q f k) (steps.note id q f (lane_back noted) (note_write done) ∷ []) (lane_after k (s.lane q)) step moves
      (returns_noted noted (note_write done) t id q f u (lane_after k (s.lane q)) (lane_hold_after k v.flushed (swept_by v) (lane_hold v q)) (record { frame = λ b fr. refl; out = λ b fr l. refl }) (stands_on s t id q v u (steps.write id q f k) h step moves refl) inside (put_here s.lane q (lane_after k (s.lane q))) hold can notes)

  -- what the view has, and the frame is, once the write is made
  pub written_link_is : (k : LaneKind) (s : State) (id q f : ℕ) (v : View) → f < length v.links → link (written_view k s q f v) f ≡ record (link v f) { last_write = Unwritten }
  written_link_is k s id q f v low = get_or-set_same v.links f (record (link v f) { last_write = Unwritten }) idle low

  pub written_frame_is : (k : LaneKind) (s : State) (id q f : ℕ) (v : View) → (written_state k s id q f v).pool.core.frame f ≡ s.pool.core.frame f
  written_frame_is k s id q f v = put_here s.pool.core.frame f (s.pool.core.frame f)

  pub written_hold_is : (k : LaneKind) (s : State) (id q f : ℕ) (v : View) → StandsWithLane s id q v → lane_hold (written_view k s q f v) q ≡ lane_hold_after k v.flushed (swept_by v) (lane_hold v q)
  written_hold_is k s id q f v h = get_or-set_same v.lanes q (lane_hold_after k v.flushed (swept_by v) (lane_hold v q)) no_lane (in_lanes s id q v h)

-- Views after two steps
met_after_none : (m x : FailedCalls) → sum_of_met (sum_of_met m (record { reads = 0; writes = 0; logs = 0 })) x ≡ sum_of_met m x
met_after_none m x = λ j. record { reads = none_added m.reads x.reads j; writes = none_added m.writes x.writes j; logs = none_added m.logs x.logs j }
  where
    none_added : (a b : ℕ) → (a + 0) + b ≡ a + b
    none_added a b = omega arith

two_more : (n : ℕ) → (n + 1) + 1 ≡ n + 2
two_more n = omega arith

-- the lane is home, whatever call was noted
lanes_back : (l : List LaneHold) (q : ℕ) (a : LaneHold) (c : LaneChange) → q < length l → set (set l q (record a { change = c })) q (back_lane (get_or (set l q (record a { change = c })) q no_lane)) ≡ set l q (back_lane a)
lanes_back l q a c low = set_twice l q (record a { change = c }) (back_lane (get_or (set l q (record a { change = c })) q no_lane)) ∙ ap (λ (h : LaneHold). set l q (back_lane h)) (get_or-set_same l q (record a { change = c }) no_lane low)

-- A call that notes the change c, and the return: the lane is home, and the fault is counted
module _ (k : LaneKind) (a : LaneHold) (c : LaneChange) (noted : Bool) (q : ℕ) (v : View) (low : q < length v.lanes) (hold : lane_hold_after k v.flushed (swept_by v) (lane_hold v q) ≡ record a { change = c }) where
  lanes_home : set (set v.lanes q (lane_hold_after k v.flushed (swept_by v) (lane_hold v q))) q (back_lane (get_or (set v.lanes q (lane_hold_after k v.flushed (swept_by v) (lane_hold v q))) q no_lane)) ≡ set v.lanes q (back_lane a)
  lanes_home = subst (λ (h : LaneHold). set (set v.lanes q h) q (back_lane (get_or (set v.lanes q h) q no_lane)) ≡ set v.lanes q (back_lane a)) (sym hold) (lanes_back v.lanes q a c low)

  fault_noted : lane_met_by k (lane_hold v q) ≡ record { reads = 0; writes = 0; logs = 0 } → sum_of_met (sum_of_met v.met (lane_met_by k (lane_hold v q))) (fault_of noted (get_or (set v.lanes q (lane_hold_after k v.flushed (swept_by v) (lane_hold v q))) q no_lane).change) ≡ sum_of_met v.met (fault_of noted c)
  fault_noted none = let change : LaneChange = (get_or (set v.lanes q (lane_hold_after k v.flushed (swept_by v) (lane_hold v q))) q no_lane).change in
      ap (λ (m : FailedCalls). sum_of_met (sum_of_met v.met m) (fault_of noted change)) none ∙ met_after_none v.met (fault_of noted change) ∙ ap (λ (h : LaneHold). sum_of_met v.met (fault_of noted h.change)) (get_or-set_same v.lanes q (lane_hold_after k v.flushed (swept_by v) (lane_hold v q)) no_lane low ∙ hold)

pub view_alone : (k : LaneKind) (a : LaneHold) (c : LaneChange) (noted : Bool) (q : ℕ) (v : View) → q < length v.lanes → lane_hold_after k v.flushed (swept_by v) (lane_hold v q) ≡ record a { change = c } → lane_met_by k (lane_hold v q) ≡ record { reads = 0; writes = 0; logs = 0 }
    → alone_view (lane_back noted) q (alone_view k q v) ≡ record v { lanes = set v.lanes q (back_lane a); steps = v.steps + 2; device_calls = v.device_calls ++ lane_calls_by k q; met = sum_of_met v.met (fault_of noted c); dirtied_or_synced = v.dirtied_or_synced || syncs k }
view_alone k a c noted q v low hold none = λ j. record v { lanes = lanes_home k a c noted q v low hold j; steps = two_more v.steps j; device_calls = append-nil (v.device_calls ++ lane_calls_by k q) j; met = fault_noted k a c noted q v low hold none j; dirtied_or_synced = or-false (v.dirtied_or_synced || syncs k) j }

pub view_read : (tag : ℕ) (p : Page) (s : State) (id q f : ℕ) (v : View) → q < length v.lanes
    → noted_view false (note_read p) (alone_state (read_block tag p) s id q v) q f (alone_view (read_block tag p) q v) ≡ record v { links = set v.links f (record (link v f) { read = Some p; read_is_home = false }); lanes = set v.lanes q (back_lane (lane_hold v q)); steps = v.steps + 2; device_calls = v.device_calls ++ lane_calls_by (read_block tag p) q; met = sum_of_met v.met (record { reads = 0; writes = 0; logs = 0 }); dirtied_or_synced = v.dirtied_or_synced || false }
view_read tag p s id q f v low = λ j. record v {
  links = set v.links f (record (link v f) { read = Some p; read_is_home = false });
  loads = append-nil v.loads j;
  lanes = lanes_back v.lanes q (lane_hold v q) (lane_change.Read tag p) low j;
  steps = two_more v.steps j;
  device_calls = append-nil (v.device_calls ++ lane_calls_by (read_block tag p) q) j;
  met = met_after_none v.met (record { reads = 0; writes = 0; logs = 0 }) j;
  dirtied_or_synced = (or-false ((v.dirtied_or_synced || false) || false) ∙ or-false (v.dirtied_or_synced || false)) j;
  had_output = or-false v.had_output j;
}

pub view_written : (k : LaneKind) (c : LaneChange) (noted done : Bool) (s : State) (id q f : ℕ) (v : View) → q < length v.lanes → f < length v.links → lane_hold_after k v.flushed (swept_by v) (lane_hold v q) ≡ record (lane_hold v q) { change = c } → lane_met_by k (lane_hold v q) ≡ record { reads = 0; writes = 0; logs = 0 } → syncs k ≡ false
    → noted_view noted (note_write done) (written_state k s id q f v) q f (written_view k s q f v) ≡ record v { links = set v.links f (record (link v f) { last_write = pages.write_noted done }); lanes = set v.lanes q (back_lane (lane_hold v q)); steps = v.steps + 2; device_calls = v.device_calls ++ lane_calls_by k q; met = sum_of_met v.met (fault_of noted c); dirtied_or_synced = v.dirtied_or_synced || false }
view_written k c noted done s id q f v low inside hold none quiet = λ j. record v {
  links = links j;
  loads = (append-nil (v.loads ++ []) ∙ append-nil v.loads) j;
  lanes = lanes_home k (lane_hold v q) c noted q v low hold j;
  steps = two_more v.steps j;
  device_calls = append-nil (v.device_calls ++ lane_calls_by k q) j;
  met = fault_noted k (lane_hold v q) c noted q v low hold none j;
  dirtied_or_synced = marks j;
  had_output = (or-false (v.had_output || false) ∙ or-false v.had_output) j;
}
  where
    links : set (set v.links f (record (link v f) { last_write = Unwritten })) f (record (get_or (set v.links f (record (link v f) { last_write = Unwritten })) f idle) { last_write = pages.write_noted done }) ≡ set v.links f (record (link v f) { last_write = pages.write_noted done })
    links = set_twice v.links f (record (link v f) { last_write = Unwritten }) (record (get_or (set v.links f (record (link v f) { last_write = Unwritten })) f idle) { last_write = pages.write_noted done })
        ∙ ap (λ (l : Link). set v.links f (record l { last_write = pages.write_noted done })) (get_or-set_same v.links f (record (link v f) { last_write = Unwritten }) idle inside)

    marks : ((((v.dirtied_or_synced || false) || syncs k) || false) || false) ≡ (v.dirtied_or_synced || false)
    marks = or-false (((v.dirtied_or_synced || false) || syncs k) || false) ∙ or-false ((v.dirtied_or_synced || false) || syncs k) ∙ ap (λ (b : Bool). (v.dirtied_or_synced || false) || b) quiet ∙ or-false (v.dirtied_or_synced || false)
