-- Each step keeps the law of marks.
use Rattle.std.proofs.Common.{◌≡◌, ◌≢◌, ℕ, ◌+◌, ◌<◌, ◌≤◌, Bool, true, false, ◌||◌, List, [], ◌∷◌, length, set, sym, refl, ap, ◌∙◌, subst, ⊎_elim, arith, zero, suc, slice_index_or}
use Rattle.std.proofs.lemmas.Bool.{both_ways}
use mathlib.Core.Logic.{dite}
use mathlib.Core.Option.{some}
use native.Mathlib.Decide.{ℕ_discrete}
use lib.ListN.{get_elem?}
use Rattle.state_word.specs.declared.word.IoEnd.TheVariants.{ReadOk, WriteOk, Bad}
use Rattle.pin_core.specs.declared.view.Io.TheVariants.{Output}
use Rattle.pin_core.specs.declared.view.LaneHold.{LaneHold}
use Rattle.pin_core.specs.declared.view.LaneChange.{LaneChange}
use Rattle.pin_core.specs.declared.view.LaneChange.TheVariants as lane_change
use Rattle.pin_core.specs.declared.view.Link.{Link}
use Rattle.pin_core.specs.declared.view.View.{View}
use Rattle.pin_core.specs.State.{Config, Frame, Page, link, lane_hold, no_lane, first_view, new_view, emptied_view, joined_view, hold, size_hold}
use Rattle.pin_core.specs.Tallies.{flag_weight}
use Rattle.pin_core.specs.Kinds as pin_kinds
use Rattle.pin_core.specs.Turns.{view_turned}
use Rattle.pin_core.specs.declared.view.LoadedWord.TheVariants as seen
use Rattle.pin_core.specs.Sizes.{view_sized}
use Rattle.pin_core.specs.Steps as pin_steps
use Rattle.page_core.specs.State.{Block, block_of}
use Rattle.page_core.specs.Kinds as kinds
use Rattle.page_core.specs.Kinds.{Kind, Allowed, frame_after, dirties, starts_output, begin_write, make_entry}
use Rattle.page_core.specs.Steps as page_steps
use Rattle.history_core.specs.State.{Lane, State, Store, failed, opening}
use Rattle.history_core.specs.Lanes as lane_kinds
use Rattle.history_core.specs.Lanes.{swept_by, LaneKind, lane_after, lane_hold_after, lane_met_by, fault_of, syncs, is_failed_write}
use Rattle.history_core.specs.Steps.{LaneAlone, MayWriteLane, Notes, Step, pools, lanes, writes, notes, logs, enters, reads, Event, Run, rests, goes, stepped, looked, aside, pool_after, logged_noting, pool_noting, paged, laned, has_read, has_written, words, after_word, reads_size, has_seen_size}
use Rattle.history_core.specs.Log.{change_size, Change}
use Rattle.history_core.specs.Device as log_kinds
use Rattle.history_core.specs.Device.{LogKind, view_logged}
use Rattle.history_core.specs.Causes.{mark_weight, NoneMarked, KnowsNoOutput, AllQuiet, MarksLaw}
use Rattle.history_core.specs.Invariant.{HistoryInvariant}
use Rattle.history_core.proofs.Outer.{lane_new}
use Rattle.history_core.proofs.Stepping.{step_keeps, lane_put, no_write_holds}
use Rattle.grid.specs.Shape.{put}
use Rattle.grid.proofs.Lists.{at_set, at_end, at_only, put_at, put_else, set_else, set_here}
use Rattle.grid.proofs.Sums.{total-set, total-snoc, term_le, terms_le}

-- no kind of `pin_core` makes a frame dirty
pins_clean : (k : pin_kinds.Kind) (fr : Frame) → fr.word.dirty ≡ false → (pin_kinds.frame_after k fr).word.dirty ≡ false
pins_clean pin_kinds.load_state fr h = h
pins_clean (pin_kinds.pin ring) fr h = h
pins_clean (pin_kinds.pin_mapped tag ring) fr h = h
pins_clean pin_kinds.unpin fr h = h
pins_clean pin_kinds.lock_header fr h = h
pins_clean pin_kinds.unlock_header fr h = h
pins_clean (pin_kinds.store_tag tag) fr h = h
pins_clean (pin_kinds.store_new_tag tag) fr h = h
pins_clean pin_kinds.erase_tag fr h = h
pins_clean pin_kinds.load_tag fr h = h
pins_clean pin_kinds.pin_victim fr h = h
pins_clean pin_kinds.lower_usage fr h = h
pins_clean pin_kinds.assign fr h = h
pins_clean pin_kinds.clear fr h = refl

-- a kind of `page_core` makes a frame dirty only where it marks it so
pages_clean : (k : Kind) (b : Block) (fr : Frame) → dirties k ≡ false → fr.word.dirty ≡ false → (frame_after k b fr).word.dirty ≡ false
pages_clean kinds.load_content b fr e h = h
pages_clean kinds.mark_dirty b fr e h = absurd (cc)
pages_clean kinds.share b fr e h = h
pages_clean kinds.exclude b fr e h = h
pages_clean kinds.unshare b fr e h = h
pages_clean kinds.unexclude b fr e h = h
pages_clean kinds.take_copy b fr e h = h
pages_clean kinds.leave_copy b fr e h = h
pages_clean kinds.page_out b fr e h = h
pages_clean kinds.overwrite_logged b fr e h = h
pages_clean (kinds.overwrite_read p) b fr e h = h
pages_clean kinds.page_back b fr e h = h
pages_clean (kinds.note_read p) b fr e h = h
pages_clean kinds.note_zero b fr e h = h
pages_clean kinds.begin_write b fr e h = h
pages_clean (kinds.note_write done) b fr e h = h
pages_clean (kinds.make_entry p) b fr e h = h
pages_clean kinds.start_input b fr e h = h
pages_clean kinds.start_output b fr e h = h
pages_clean kinds.clear_just_dirtied b fr e h = h
pages_clean (kinds.set_waiter number) b fr e h = h
pages_clean kinds.clear_waiter b fr e h = h
pages_clean kinds.need_checkpoint b fr e h = h
pages_clean (kinds.end_io ReadOk) b fr e h = grind (arith, h)
pages_clean (kinds.end_io WriteOk) b fr e h = grind (arith, h)
pages_clean (kinds.end_io Bad) b fr e h = grind (arith, h)

-- output starts only at a dirty frame
no_output : (k : Kind) (b : Block) (fr : Frame) (l : Link) → Allowed k b fr l → fr.word.dirty ≡ false → starts_output k ≡ false
no_output kinds.start_output b fr l a h = let x = a.dirty in absurd (cc)
no_output _ b fr l a h = refl

no_fault : (noted : Bool) (change : LaneChange) → is_failed_write change ≡ false → (fault_of noted change).writes ≡ 0
no_fault true (lane_change.WriteFailed f tag) e = absurd (cc)
no_fault true lane_change.SyncFailed e = absurd (cc)
no_fault true (lane_change.ReadFailed tag) e = refl
no_fault true lane_change.Untouched e = refl
no_fault true (lane_change.Read tag page) e = refl
no_fault true (lane_change.Written f tag page) e = refl
no_fault true lane_change.Synced e = refl
no_fault false change e = refl

-- a step at a lane that is no failed write and no sync leaves the view quiet
still_no_fault : (k : LaneKind) (s : State) (q : ℕ) (loaded swept : ℕ) (x : LaneHold) → LaneAlone k s q x → syncs k ≡ false → is_failed_write x.change ≡ false → (is_failed_write (lane_hold_after k loaded swept x).change ≡ false) × ((lane_met_by k x).writes ≡ 0)
still_no_fault lane_kinds.take_lane s q loaded swept x a e h = (h, refl)
still_no_fault lane_kinds.leave_lane s q loaded swept x a e h = (h, refl)
still_no_fault (lane_kinds.lane_out taken) s q loaded swept x a e h = (h, refl)
still_no_fault (lane_kinds.read_block tag p) s q loaded swept x a e h = (refl, refl)
still_no_fault (lane_kinds.fail_read tag faults) s q loaded swept x a e h = (refl, refl)
still_no_fault (lane_kinds.write_block f tag p) s q loaded swept x a e h = absurd a
still_no_fault (lane_kinds.fail_write f tag p faults) s q loaded swept x a e h = absurd a
still_no_fault lane_kinds.sync_lane s q loaded swept x a e h = absurd (cc)
still_no_fault (lane_kinds.fail_sync faults) s q loaded swept x a e h = absurd (cc)
still_no_fault (lane_kinds.lane_back noted) s q loaded swept x a e h = (refl, no_fault noted x.change h)

either_false : (a b : Bool) → a ≡ false → b ≡ false → (a || b) ≡ false
either_false false false x y = refl
either_false true b x y = absurd (cc)
either_false false true x y = absurd (cc)

-- a view that no mark is in
unmarked : (b : Bool) → flag_weight b ≡ 0 → b ≡ false
unmarked true e = absurd (omega arith)
unmarked false e = refl

or_right : (a b : Bool) → (a || b) ≡ false → b ≡ false
or_right false b e = e
or_right true b e = absurd (cc)

or_more : (a b : Bool) → flag_weight a ≤ flag_weight (a || b)
or_more true b = omega arith
or_more false b = omega arith

or_both : (a b : Bool) → flag_weight (a || b) ≤ flag_weight a + flag_weight b
or_both true b = omega arith
or_both false b = omega arith

or_sum : (a b : Bool) → flag_weight (a || b) ≡ 0 → (flag_weight a ≡ 0) × (flag_weight b ≡ 0)
or_sum true b e = absurd (omega arith)
or_sum false true e = absurd (omega arith)
or_sum false false e = (refl, refl)

-- a view changes, whose mark stays
module _ (views : List View) (i : ℕ) (v w : View) (there : get_elem? views i ≡ some v) (more : mark_weight v ≤ mark_weight w) (none : NoneMarked (set views i w)) where
  none_before : NoneMarked views
  none_before = omega (arith, total-set mark_weight views i v w there)

  none_here : mark_weight w ≡ 0
  none_here = let x = total-set mark_weight views i v w there in let y = term_le mark_weight views i v there in omega arith

quiet_set : (views : List View) → ((i : ℕ) (v : View) → get_elem? views i ≡ some v → KnowsNoOutput v) → (i : ℕ) (w : View) → KnowsNoOutput w → (j : ℕ) (u : View) → get_elem? (set views i w) j ≡ some u → KnowsNoOutput u
quiet_set views h i w q j u e = ⊎_elim (λ (t : (j ≡ i) × (w ≡ u)). subst KnowsNoOutput t.1 q) (λ (t : (j ≢ i) × (get_elem? views j ≡ some u)). h j u t.1) (at_set views i j w u e)

quiet_put : (frame : ℕ → Frame) (n f : ℕ) (fr : Frame) → ((g : ℕ) → g < n → (frame g).word.dirty ≡ false) → fr.word.dirty ≡ false → (g : ℕ) → g < n → (put frame f fr g).word.dirty ≡ false
quiet_put frame n f fr h e g below = dite (ℕ_discrete g f) (λ same. ap (λ (x : Frame). x.word.dirty) (put_at frame f fr g same) ∙ e) (λ o. ap (λ (x : Frame). x.word.dirty) (put_else frame f fr g o) ∙ h g below)

-- a view whose outputs, faults and lanes are those of another one
same_quiet : (v w : View) → w.had_output ≡ v.had_output → w.met.writes ≡ v.met.writes → w.lanes ≡ v.lanes → KnowsNoOutput v → KnowsNoOutput w
same_quiet v w a b c q = record { output = a ∙ q.output; met = b ∙ q.met; out = λ n. ap (λ (x : List LaneHold). is_failed_write (lane_hold (record w { lanes = x }) n).change) c ∙ q.out n }

-- a view whose hold of the lane q is the one after a kind
laned_quiet : (v w : View) (q : ℕ) (h : LaneHold) → w.had_output ≡ false → w.met.writes ≡ 0 → w.lanes ≡ set v.lanes q h → is_failed_write h.change ≡ false → KnowsNoOutput v → KnowsNoOutput w
laned_quiet v w q h a b c d x = record {
  output = a;
  met = b;
  out = λ n. ap (λ (y : List LaneHold). is_failed_write (lane_hold (record w { lanes = y }) n).change) c ∙ at n;
}
  where
    no_fault_at : (l : List LaneHold) (m n : ℕ) → ((k : ℕ) → is_failed_write (slice_index_or l k no_lane).change ≡ false) → is_failed_write (slice_index_or (set l m h) n no_lane).change ≡ false
    no_fault_at [] m n e = e n
    no_fault_at (y ∷ l) zero zero e = d
    no_fault_at (y ∷ l) zero (suc n) e = e (suc n)
    no_fault_at (y ∷ l) (suc m) zero e = e zero
    no_fault_at (y ∷ l) (suc m) (suc n) e = no_fault_at l m n (λ k. e (suc k))

    at : (n : ℕ) → is_failed_write (slice_index_or (set v.lanes q h) n no_lane).change ≡ false
    at n = no_fault_at v.lanes q n x.out

-- the blocks where a lane's failed ones stay
same_failed : (s : State) (q : ℕ) (ln : Lane) → ln.failed ≡ (s.lane q).failed → ((tag : ℕ) → failed s tag ≡ false) → (tag : ℕ) → (put s.lane q ln (s.lane_of tag)).failed tag ≡ false
same_failed s q ln same h tag = lane_put (λ (x : Lane). x.failed tag) s.lane q ln (λ j. same j tag) (s.lane_of tag) ∙ h tag

-- a new view is quiet
new_quiet : (number base n p l : ℕ) → KnowsNoOutput (new_view number base n p l)
new_quiet number base n p l = record { output = refl; met = refl; out = λ q. ap (λ (x : LaneHold). is_failed_write x.change) (lane_new n p l number base q) }

module _ (s : State) (h : HistoryInvariant s) (m : MarksLaw s) where
  abbrev views : List View
  views = s.pool.core.views

  -- a step of one view, where the frames and blocks are as quiet as before
  one_view : (i : ℕ) (v w : View) → get_elem? views i ≡ some v → mark_weight v ≤ mark_weight w → (AllQuiet s → mark_weight w ≡ 0 → KnowsNoOutput w) → NoneMarked (set views i w) → AllQuiet s × ((j : ℕ) (u : View) → get_elem? (set views i w) j ≡ some u → KnowsNoOutput u)
  one_view i v w there more quiet none = let q = m (none_before views i v w there more none) in (q, quiet_set views q.views i w (quiet q (none_here views i v w there more none)))

  pins_marks : {e : pin_steps.Event} {core' : _} → pin_steps.Step e s.pool.core core' → MarksLaw (record s { pool = record { core = core'; logged = page_steps.logged_by e s.pool } })
  pins_marks (pin_steps.touches i f k v there live inside a around) none = let w : View = pin_kinds.view_after k s.pool.core.partition_of f (s.pool.core.frame f) (link v f) v in
      let x = one_view i v w there (omega arith) (λ q z. same_quiet v w refl refl refl (q.views i v there)) none in record {
        frames = quiet_put s.pool.core.frame s.pool.core.frames f (pin_kinds.frame_after k (s.pool.core.frame f)) x.0.frames (pins_clean k (s.pool.core.frame f) (x.0.frames f inside));
        blocks = x.0.blocks;
        views = x.1;
      }
  pins_marks (pin_steps.turns i p k v there live below a) none = let w : View = view_turned k p (hold v p) v in let x = one_view i v w there (omega arith) (λ q z. same_quiet v w refl refl refl (q.views i v there)) none in record { frames = x.0.frames; blocks = x.0.blocks; views = x.1 }
  pins_marks (pin_steps.sized i fork k v there live a) none = let w : View = view_sized k fork s.pool.core v in let x = one_view i v w there (omega arith) (λ q z. same_quiet v w refl refl refl (q.views i v there)) none in record { frames = x.0.frames; blocks = x.0.blocks; views = x.1 }
  pins_marks (pin_steps.splits v there room) none = let w : View = record v { next = v.next + 1 } in let b : View = new_view v.next s.pool.core.base (length v.links) (length v.partitions) (length v.lanes) in
      let x = one_view 0 v w there (omega arith) (λ q z. same_quiet v w refl refl refl (q.views 0 v there)) (let y = total-snoc mark_weight (set views 0 w) b in omega arith) in record {
        frames = x.0.frames;
        blocks = x.0.blocks;
        views = λ j u e. ⊎_elim (λ (t : get_elem? (set views 0 w) j ≡ some u). x.1 j u t) (λ (t : (b ≡ u) × (j ≡ length (set views 0 w))). subst KnowsNoOutput t.0 (new_quiet v.next s.pool.core.base (length v.links) (length v.partitions) (length v.lanes))) (at_end (set views 0 w) b u j e);
      }
  pins_marks (pin_steps.joins j v u there other here live free) none = let w : View = joined_view v u in let vs : List View = set views 0 w in let also = set_else views 0 j w other ∙ here in
      let a = total-set mark_weight views 0 v w there in let b = total-set mark_weight vs j u emptied_view also in let both = or_both v.dirtied_or_synced u.dirtied_or_synced in let more = or_more v.dirtied_or_synced u.dirtied_or_synced in
      let le = terms_le mark_weight views 0 j v u other there here in let c = term_le mark_weight (set vs j emptied_view) 0 w (set_else vs j 0 emptied_view (λ z. other (sym z)) ∙ set_here views 0 v w there) in
      let split = or_sum v.dirtied_or_synced u.dirtied_or_synced (omega arith) in let q = m (omega arith) in let x = q.views 0 v there in let y = q.views j u here in record {
        frames = q.frames;
        blocks = q.blocks;
        views = quiet_set vs (quiet_set views q.views 0 w (record { output = either_false v.had_output u.had_output x.output y.output; met = (let l = x.met in let r = y.met in omega arith); out = x.out })) j emptied_view (record { output = refl; met = refl; out = λ n. refl });
      }

  pool_marks : {e : page_steps.Event} {pool' : _} → page_steps.Step e s.pool pool' → MarksLaw (record s { pool = pool' })
  pool_marks (page_steps.cores x) none = pins_marks x none
  pool_marks (page_steps.touches i f k v there live inside a around) none = let fr = s.pool.core.frame f in let b = block_of s.pool.logged fr.tag in let w : View = paged k s.pool f v in
      let clean : mark_weight w ≡ 0 → dirties k ≡ false = (λ z. or_right v.dirtied_or_synced (dirties k) (unmarked (v.dirtied_or_synced || dirties k) z)) in
      let more = or_more v.dirtied_or_synced (dirties k) in
      let x = one_view i v w there more (λ q z. let y = q.views i v there in record { output = either_false v.had_output (starts_output k) y.output (no_output k b fr (link v f) a (q.frames f inside)); met = y.met; out = y.out }) none in record {
        frames = quiet_put s.pool.core.frame s.pool.core.frames f (frame_after k b fr) x.0.frames (pages_clean k b fr (clean (none_here views i v w there more none)) (x.0.frames f inside));
        blocks = x.0.blocks;
        views = x.1;
      }

  lanes_marks : (i q : ℕ) (k : LaneKind) (v : View) → get_elem? views i ≡ some v → LaneAlone k s q (lane_hold v q) → MarksLaw (record s { pool = aside s.pool i (stepped (laned k q v v)); lane = put s.lane q (lane_after k (s.lane q)) })
  lanes_marks i q k v there alone none = let w : View = stepped (laned k q v v) in let more = or_more v.dirtied_or_synced (syncs k) in
      let x = one_view i v w there more (λ quiet z. let y = quiet.views i v there in let c = still_no_fault k s q v.flushed (swept_by v) (lane_hold v q) alone (or_right v.dirtied_or_synced (syncs k) (unmarked (v.dirtied_or_synced || syncs k) z)) (y.out q) in
      laned_quiet v w q (lane_hold_after k v.flushed (swept_by v) (lane_hold v q)) y.output (let l = y.met in let r = c.1 in omega arith) refl c.0 y) none in let holds = no_write_holds k s q (lane_hold v q) (s.lane q) alone in record {
        frames = x.0.frames;
        blocks = same_failed s q (lane_after k (s.lane q)) holds.failed x.0.blocks;
        views = x.1;
      }

  -- a write needs a dirty frame
  writes_marks : (i q f : ℕ) (k : LaneKind) (v : View) → get_elem? views i ≡ some v → f < s.pool.core.frames → MayWriteLane k s q f (lane_hold v q) (link v f) → MarksLaw (record s { pool = pool_after begin_write s.pool i f (laned k q v (paged begin_write s.pool f v)); lane = put s.lane q (lane_after k (s.lane q)) })
  writes_marks i q f k v there inside x none = let w : View = laned k q v (paged begin_write s.pool f v) in let quiet = m (none_before views i v w there (more_of k x) none) in
      absurd (both_ways _ (quiet.frames f inside) ((h.pool.pages.cells i v f there inside).output (output_of k x)).0)
    where
      output_of : (k : LaneKind) → MayWriteLane k s q f (lane_hold v q) (link v f) → (link v f).io ≡ Output
      output_of (lane_kinds.write_block g tag p) (at, x) = x.right.right
      output_of (lane_kinds.fail_write g tag p faults) (at, x) = x.right.right
      output_of lane_kinds.take_lane x = absurd x
      output_of lane_kinds.leave_lane x = absurd x
      output_of (lane_kinds.lane_out taken) x = absurd x
      output_of (lane_kinds.read_block tag p) x = absurd x
      output_of (lane_kinds.fail_read tag faults) x = absurd x
      output_of lane_kinds.sync_lane x = absurd x
      output_of (lane_kinds.fail_sync faults) x = absurd x
      output_of (lane_kinds.lane_back noted) x = absurd x

      more_of : (k : LaneKind) → MayWriteLane k s q f (lane_hold v q) (link v f) → mark_weight v ≤ mark_weight (laned k q v (paged begin_write s.pool f v))
      more_of k x = let a = or_more v.dirtied_or_synced false in let b = or_more (v.dirtied_or_synced || false) (syncs k) in omega arith

  notes_marks : (i q f : ℕ) (noted : Bool) (k : Kind) (v : View) → get_elem? views i ≡ some v → f < s.pool.core.frames → Notes k s q f (lane_hold v q) (link v f)
      → MarksLaw (record s { pool = pool_after k (pool_noting k s f) i f (laned (lane_kinds.lane_back noted) q v (paged k (pool_noting k s f) f v)); lane = put s.lane q (s.lane q) })
  notes_marks i q f noted k v there inside what none = let fr = s.pool.core.frame f in let b = block_of (logged_noting k s f) fr.tag in let w : View = laned (lane_kinds.lane_back noted) q v (paged k (pool_noting k s f) f v) in
      let more : mark_weight v ≤ mark_weight w = (let a = or_more v.dirtied_or_synced (dirties k) in let c = or_more (v.dirtied_or_synced || dirties k) false in omega arith) in let plain = notes_nothing k what in
      let x = one_view i v w there more (λ quiet z. let y = quiet.views i v there in laned_quiet v w q (lane_hold_after (lane_kinds.lane_back noted) v.flushed (swept_by v) (lane_hold v q)) (either_false v.had_output (starts_output k) y.output plain.1) (let l = y.met in let r = no_fault noted (lane_hold v q).change (y.out q) in omega arith) refl refl y) none in record {
        frames = quiet_put s.pool.core.frame s.pool.core.frames f (frame_after k b fr) x.0.frames (pages_clean k b fr plain.0 (x.0.frames f inside));
        blocks = same_failed s q (s.lane q) refl x.0.blocks;
        views = x.1;
      }
    where
      notes_nothing : (k : Kind) → Notes k s q f (lane_hold v q) (link v f) → (dirties k ≡ false) × (starts_output k ≡ false)
      notes_nothing kinds.mark_dirty x = absurd x
      notes_nothing kinds.start_output x = absurd x
      notes_nothing _ x = (refl, refl)

  -- a view changes beside all that may be dirty or fail
  aside_marks : (i : ℕ) (v w : View) → get_elem? views i ≡ some v → mark_weight v ≤ mark_weight w → w.had_output ≡ v.had_output → w.met.writes ≡ v.met.writes → w.lanes ≡ v.lanes → MarksLaw (record s { pool = aside s.pool i w })
  aside_marks i v w there more a b c none = let x = one_view i v w there more (λ q z. same_quiet v w a b c (q.views i v there)) none in record { frames = x.0.frames; blocks = x.0.blocks; views = x.1 }

-- an entry is made
entered_marks : (s : State) (h : HistoryInvariant s) → MarksLaw s → (i f : ℕ) (p : Page) (ch : Change) (v : View) → get_elem? s.pool.core.views i ≡ some v → f < s.pool.core.frames → {t : State} → t.pool.core.views ≡ set s.pool.core.views i (has_written ch (link v f).copied (s.end + change_size ch) (s.pool.core.frame f).tag p (paged (make_entry p) s.pool f v)) → t.pool.core.frames ≡ s.pool.core.frames → t.pool.core.frame ≡ put s.pool.core.frame f (s.pool.core.frame f) → ((tag : ℕ) → failed t tag ≡ failed s tag) → MarksLaw t
entered_marks s h m i f p ch v there inside {t = t} vs size frames same none = let w : View = has_written ch (link v f).copied (s.end + change_size ch) (s.pool.core.frame f).tag p (paged (make_entry p) s.pool f v) in let more = or_more v.dirtied_or_synced false in
    let x = one_view s h m i v w there more (λ q z. let y = q.views i v there in record { output = either_false v.had_output false y.output refl; met = y.met; out = y.out }) (subst NoneMarked vs none) in record {
      frames = λ g below. ap (λ (y : ℕ → Frame). (y g).word.dirty) frames ∙ quiet_put s.pool.core.frame s.pool.core.frames f (s.pool.core.frame f) x.0.frames (x.0.frames f inside) g (subst (λ (z : ℕ). g < z) size below);
      blocks = λ tag. same tag ∙ x.0.blocks tag;
      views = λ j u e. x.1 j u (subst (λ (l : List View). get_elem? l j ≡ some u) vs e);
    }

no_write_fault : (k : LogKind) (v : View) → (view_logged k v).met.writes ≡ v.met.writes
no_write_fault (log_kinds.log_back true) v = omega arith
no_write_fault (log_kinds.log_back false) v = omega arith
no_write_fault log_kinds.take_log v = omega arith
no_write_fault log_kinds.leave_log v = omega arith
no_write_fault (log_kinds.log_out taken) v = omega arith
no_write_fault (log_kinds.append f tag p bytes) v = omega arith
no_write_fault (log_kinds.fail_append f tag p bytes faults) v = omega arith
no_write_fault log_kinds.sync_log v = omega arith
no_write_fault (log_kinds.fail_sync synced faults) v = omega arith
no_write_fault log_kinds.see_down v = omega arith

pub marks_kept : {e : Event} {s t : State} → Step e s t → HistoryInvariant s → MarksLaw s → MarksLaw t
marks_kept (pools {s = s} x a) h m = pool_marks s h m x
marks_kept (lanes {s = s} i q k v there live low a alone) h m = lanes_marks s h m i q k v there alone
marks_kept (writes {s = s} i q f k v there live low inside a x) h m = writes_marks s h m i q f k v there inside x
marks_kept (notes {s = s} i q f noted k v there live low inside a x) h m = notes_marks s h m i q f noted k v there inside x
marks_kept (logs {s = s} i k v there live a record_is) h m = λ none. let x = aside_marks s h m i v (view_logged k v) there (omega arith) refl (no_write_fault k v) refl none in record { frames = x.frames; blocks = x.blocks; views = x.views }
marks_kept (enters {s = s} i f p ch v there live inside x) h m = entered_marks s h m i f p ch v there inside refl refl refl (λ tag. refl)
marks_kept (reads {s = s} i f tag p v there live inside a) h m = aside_marks s h m i v (looked (seen.LogEnd s.end) (has_read s.end tag p v)) there (omega arith) refl refl refl
marks_kept (reads_size {s = s} i fork v there live a) h m = aside_marks s h m i v (looked (seen.LogEnd s.end) (has_seen_size s.end fork (size_hold v fork).blocks v)) there (omega arith) refl refl refl
marks_kept (words {s = s} i k v there live a) h m = λ none. let x = aside_marks s h m i v (after_word k s v) there (omega arith) refl refl refl none in record { frames = x.frames; blocks = x.blocks; views = x.views }

pub marks_after : {es : List Event} {s t : State} → Run es s t → HistoryInvariant s → MarksLaw s → MarksLaw t
marks_after rests h m = m
marks_after (goes x r) h m = marks_after r (step_keeps x h) (marks_kept x h m)

pub marks_open : (c : Config) (store : Store) (page : Page) → MarksLaw (opening c store page)
marks_open c store page none = record { frames = λ f below. refl; blocks = λ tag. refl; views = λ i v there. subst KnowsNoOutput (at_only (first_view c.base c.frames c.partitions c.lanes) v i there).0 (first_quiet c.base c.frames c.partitions c.lanes) }
  where
    first_quiet : (base n p l : ℕ) → KnowsNoOutput (first_view base n p l)
    first_quiet base n p l = record { output = refl; met = refl; out = λ q. ap (λ (x : LaneHold). is_failed_write x.change) (lane_new n p l 0 base q) }
