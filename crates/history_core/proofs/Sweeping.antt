-- Each step keeps what the lanes' syncs have covered.
use Rattle.std.proofs.Common.{◌≡◌, ◌≢◌, ◌⊎◌, ℕ, zero, suc, ◌+◌, ◌<◌, ◌≤◌, Bool, true, false, cond, List, [], ◌∷◌, length, set, slice_index_or, get_or-set_same, get_or-set_other, sym, refl, ap, ◌∙◌, subst, inl, inr, ⊎_elim, arith, Some}
use Rattle.std.specs.Prelude.{max, not, ◌&&◌}
use Rattle.std.proofs.lemmas.Bool.{cases_lt}
use mathlib.Core.Logic.{dite}
use native.Mathlib.Decide.{ℕ_discrete}
use mathlib.Core.Option.{some, some-injective, some-ne-none}
use lib.ListN.{get_elem?}
use Rattle.page_layout.specs.Fields.{lsn_of}
use Rattle.pin_core.specs.declared.view.JoinedCheckpoint.{JoinedCheckpoint}
use Rattle.pin_core.specs.declared.view.LaneHold.{LaneHold}
use Rattle.pin_core.specs.declared.view.Link.{Link}
use Rattle.pin_core.specs.declared.view.LoadedWord.TheVariants as seen
use Rattle.pin_core.specs.declared.view.View.{View}
use Rattle.pin_core.specs.State.{Config, Page, no_lane, idle, link, lane_hold, hold, first_view, new_view, emptied_view, joined_view, kept_checkpoint, size_hold}
use Rattle.pin_core.specs.State as pins
use Rattle.pin_core.specs.Kinds as pin_kinds
use Rattle.pin_core.specs.Turns.{view_turned}
use Rattle.pin_core.specs.Sizes.{view_sized, state_sized}
use Rattle.pin_core.specs.Steps as pin_steps
use Rattle.page_core.specs.Steps as page_steps
use Rattle.page_core.specs.Kinds.{begin_write, make_entry}
use Rattle.history_core.specs.Log.{Entry, end_of, change_size, IsEntryOf, tag_in}
use Rattle.history_core.specs.Lanes.{LaneKind, lane_after, lane_hold_after, swept_by, all_ended}
use Rattle.history_core.specs.Lanes as lane_kinds
use Rattle.history_core.specs.Device.{view_logged}
use Rattle.history_core.specs.State.{Lane, State, Store, stored_upto, synced_upto, opening}
use Rattle.history_core.specs.Homes.{IsUnframed}
use Rattle.history_core.specs.Invariant.{HistoryInvariant}
use Rattle.history_core.specs.Debts.{DebtsLaw}
use Rattle.history_core.specs.Swept.{IsSwept, has_swept, ViewSwept, SweptLaw}
use Rattle.history_core.specs.Steps.{Event, new_entry, stepped, looked, pool_noting, paged, laned, has_read, has_written, Step, pools, lanes, writes, notes, logs, enters, reads, words, after_word, reads_size, has_seen_size}
use Rattle.history_core.proofs.Logs.{some_size, entry_at, entry_longer}
use Rattle.history_core.proofs.Calls.{at_both}
use Rattle.history_core.proofs.Histories.{framed}
use Rattle.history_core.proofs.Outer.{lane_new}
use Rattle.history_core.proofs.Owing.{map_at}
use Rattle.grid.specs.Shape.{put}
use Rattle.grid.proofs.Lists.{at_set, at_end, at_only, put_at, put_else}

-- a checkpoint that has nothing left to write
ended_at : (l : List Link) → all_ended l ≡ true → (f : ℕ) → f < length l → ((slice_index_or l f idle).visited ≡ true) × ((slice_index_or l f idle).left_to_write ≡ false)
ended_at [] e f low = absurd (omega arith)
ended_at (x ∷ l) e zero low = (first x.visited x.left_to_write (all_ended l) e, second x.visited x.left_to_write (all_ended l) e)
  where
    first : (a b c : Bool) → (a && not b && c) ≡ true → a ≡ true
    first true b c e = refl
    first false b c e = absurd (cc)

    second : (a b c : Bool) → (a && not b && c) ≡ true → b ≡ false
    second a false c e = refl
    second true true c e = absurd (cc)
    second false true c e = absurd (cc)
ended_at (x ∷ l) e (suc f) low = ended_at l (third x.visited x.left_to_write (all_ended l) e) f (omega arith)
  where
    third : (a b c : Bool) → (a && not b && c) ≡ true → c ≡ true
    third true false c e = e
    third true true c e = absurd (cc)
    third false false c e = absurd (cc)
    third false true c e = absurd (cc)

-- What a step does to what is covered: nothing goes, and a new entry ends past the log's end
record Later (s t : State) : Type 0 where
  lane_of : t.lane_of ≡ s.lane_of
  end : s.end ≤ t.end
  entries : (tag k : ℕ) (e : Entry) → IsEntryOf t.log.entries tag k e → (IsEntryOf s.log.entries tag k e) ⊎ (s.end < end_of e)
  synced : (tag : ℕ) → synced_upto s tag ≤ synced_upto t tag

module _ {s t : State} (l : Later s t) where
  swept_later : (n upto : ℕ) → IsSwept s n upto → IsSwept t n upto
  swept_later n upto h = record {
    within = (let x = h.within in let y = l.end in omega arith);
    covered = λ k tag e of lane low. ⊎_elim
        (λ (z : IsEntryOf s.log.entries tag k e). let x = h.covered k tag e z (sym (λ j. l.lane_of j tag) ∙ lane) low in let y = l.synced tag in omega arith)
        (λ (z : s.end < end_of e). absurd (let x = h.within in omega arith))
        (l.entries tag k e of);
  }

  view_later : (v w : View) → w.lanes ≡ v.lanes → w.joined_checkpoints ≡ v.joined_checkpoints → ViewSwept s v → ViewSwept t w
  view_later v w holds kept h = record {
    own = λ n. subst (λ (x : List LaneHold). IsSwept t n (slice_index_or x n no_lane).swept) (sym holds) (swept_later n (lane_hold v n).swept (h.own n));
    kept = λ k n c at. swept_later n (has_swept c n) (h.kept k n c (subst (λ (x : List JoinedCheckpoint). get_elem? x k ≡ some c) kept at));
  }

  -- a view changes, and the others stay
  each_set : (views : List View) → ((i : ℕ) (v : View) → get_elem? views i ≡ some v → ViewSwept s v) → (i : ℕ) (w : View) → ViewSwept t w → (j : ℕ) (u : View) → get_elem? (set views i w) j ≡ some u → ViewSwept t u
  each_set views h i w x j u at = ⊎_elim (λ (y : (j ≡ i) × (w ≡ u)). subst (ViewSwept t) y.1 x) (λ (y : (j ≢ i) × (get_elem? views j ≡ some u)). view_later u u refl refl (h j u y.1)) (at_set views i j w u at)

-- nothing is covered up to 0
swept_zero : (s : State) (n upto : ℕ) → upto ≡ 0 → IsSwept s n upto
swept_zero s n upto z = record { within = omega arith; covered = λ k tag e of lane low. absurd (omega (arith, some_size e.change)) }

-- a view without a lane
none_swept : (s : State) (w : View) → ((n : ℕ) → (lane_hold w n).swept ≡ 0) → w.joined_checkpoints ≡ [] → ViewSwept s w
none_swept s w none kept = record { own = λ n. swept_zero s n (lane_hold w n).swept (none n); kept = λ k n c at. absurd (some-ne-none c (sym (subst (λ (y : List JoinedCheckpoint). get_elem? y k ≡ some c) kept at))) }

-- what a kind at a lane does to what is covered in it
lane_below : (k : LaneKind) (ln : Lane) → ((tag : ℕ) → ln.synced_upto tag ≤ ln.stored_upto tag) → (tag : ℕ) → (lane_after k ln).synced_upto tag ≤ (lane_after k ln).stored_upto tag
lane_below (lane_kinds.write_block f z p) ln low tag = dite (ℕ_discrete tag z)
    (λ e. let x = put_at ln.stored_upto z (max (ln.stored_upto z) (lsn_of p)) tag e in let y = low tag in let same = ap ln.stored_upto e in omega arith)
    (λ o. let x = put_else ln.stored_upto z (max (ln.stored_upto z) (lsn_of p)) tag o in let y = low tag in omega arith)
lane_below lane_kinds.sync_lane ln low tag = omega arith
lane_below lane_kinds.take_lane ln low tag = low tag
lane_below lane_kinds.leave_lane ln low tag = low tag
lane_below (lane_kinds.lane_out taken) ln low tag = low tag
lane_below (lane_kinds.read_block z p) ln low tag = low tag
lane_below (lane_kinds.fail_read z n) ln low tag = low tag
lane_below (lane_kinds.fail_write f z p n) ln low tag = low tag
lane_below (lane_kinds.fail_sync n) ln low tag = low tag
lane_below (lane_kinds.lane_back noted) ln low tag = low tag

lane_grows : (k : LaneKind) (ln : Lane) → ((tag : ℕ) → ln.synced_upto tag ≤ ln.stored_upto tag) → (tag : ℕ) → ln.synced_upto tag ≤ (lane_after k ln).synced_upto tag
lane_grows lane_kinds.sync_lane ln low tag = low tag
lane_grows (lane_kinds.write_block f z p) ln low tag = omega arith
lane_grows lane_kinds.take_lane ln low tag = omega arith
lane_grows lane_kinds.leave_lane ln low tag = omega arith
lane_grows (lane_kinds.lane_out taken) ln low tag = omega arith
lane_grows (lane_kinds.read_block z p) ln low tag = omega arith
lane_grows (lane_kinds.fail_read z n) ln low tag = omega arith
lane_grows (lane_kinds.fail_write f z p n) ln low tag = omega arith
lane_grows (lane_kinds.fail_sync n) ln low tag = omega arith
lane_grows (lane_kinds.lane_back noted) ln low tag = omega arith

-- a lane in the place of another
at_lane : (P : Lane → Type 0) (lane : ℕ → Lane) (q : ℕ) (ln : Lane) (k : ℕ) → (k ≡ q → P ln) → P (lane k) → P (put lane q ln k)
at_lane P lane q ln k x y = dite (ℕ_discrete k q) (λ e. subst P (sym (put_at lane q ln k e)) (x e)) (λ o. subst P (sym (put_else lane q ln k o)) y)

module _ (s : State) (h : HistoryInvariant s) (d : DebtsLaw s) (m : SweptLaw s) where
  -- a step at the lane q
  lane_later : (q : ℕ) (k : LaneKind) (t : State) → t.lane_of ≡ s.lane_of → t.end ≡ s.end → t.log.entries ≡ s.log.entries → t.lane ≡ put s.lane q (lane_after k (s.lane q)) → Later s t
  lane_later q k t lane_of end entries lane = record {
    lane_of = lane_of;
    end = omega arith;
    entries = λ tag n e of. inl (subst (λ (l : List Entry). IsEntryOf l tag n e) entries of);
    synced = λ tag. let same : synced_upto t tag ≡ (put s.lane q (lane_after k (s.lane q)) (s.lane_of tag)).synced_upto tag = (λ j. (lane j (lane_of j tag)).synced_upto tag) in
        let grows : synced_upto s tag ≤ (put s.lane q (lane_after k (s.lane q)) (s.lane_of tag)).synced_upto tag = at_lane (λ (x : Lane). synced_upto s tag ≤ x.synced_upto tag) s.lane q (lane_after k (s.lane q)) (s.lane_of tag)
        (λ e. let x = lane_grows k (s.lane q) (m.below q) tag in let y : synced_upto s tag ≡ (s.lane q).synced_upto tag = ap (λ (z : ℕ). (s.lane z).synced_upto tag) e in omega arith) (omega arith) in omega arith;
  }

  below_after : (q : ℕ) (k : LaneKind) (n tag : ℕ) → (put s.lane q (lane_after k (s.lane q)) n).synced_upto tag ≤ (put s.lane q (lane_after k (s.lane q)) n).stored_upto tag
  below_after q k n tag = at_lane (λ (x : Lane). x.synced_upto tag ≤ x.stored_upto tag) s.lane q (lane_after k (s.lane q)) n (λ e. lane_below k (s.lane q) (m.below q) tag) (m.below n tag)

  -- the entries up to where a checkpoint began that has nothing left to write are in their lanes
  all_current : (i : ℕ) (v : View) → get_elem? s.pool.core.views i ≡ some v → v.emptied ≡ false → (k tag : ℕ) (e : Entry) → IsEntryOf s.log.entries tag k e → end_of e ≤ swept_by v → end_of e ≤ stored_upto s tag
  all_current i v there live k tag e of low = by_ended (all_ended v.links) refl
    where
      in_frame : all_ended v.links ≡ true → end_of e ≤ v.upto → ((f : ℕ) × (f < s.pool.core.frames) × ((s.pool.core.frame f).tag ≡ tag)) → end_of e ≤ stored_upto s tag
      in_frame ended upto x = let wide = (h.pool.core.views.wide i v there live).0 in let done = ended_at v.links ended x.0 (let y = x.1 in omega arith) in ⊎_elim
          (λ (behind : stored_upto s tag < end_of e). let y = (((d.each i v there).own x.0 x.1).stored_or_left done.0 (λ z. d.named k tag e of (sym x.2 ∙ z)) k e (entry_at s.log.entries tag (s.pool.core.frame x.0).tag k e (sym x.2) of) upto (subst (λ (z : ℕ). stored_upto s z < end_of e) (sym x.2) behind)).1 in let no = done.1 in absurd (cc))
          (λ (there : end_of e ≤ stored_upto s tag). there)
          (cases_lt (stored_upto s tag) (end_of e))

      by_ended : (b : Bool) → all_ended v.links ≡ b → end_of e ≤ stored_upto s tag
      by_ended false z = let y : swept_by v ≡ 0 = ap (λ (x : Bool). cond x v.upto 0) z in absurd (omega (arith, some_size e.change))
      by_ended true z = let y : swept_by v ≡ v.upto = ap (λ (x : Bool). cond x v.upto 0) z in ⊎_elim (in_frame z (omega arith)) (λ (none : IsUnframed s.pool.core.frames s.pool.core.frame tag). d.unframed tag (d.named k tag e of) none k e of) (framed s.pool.core.frames s.pool.core.frame tag)

  swept_within : (i : ℕ) (v : View) → get_elem? s.pool.core.views i ≡ some v → swept_by v ≤ s.end
  swept_within i v there = by_ended (all_ended v.links) refl
    where
      by_ended : (b : Bool) → all_ended v.links ≡ b → swept_by v ≤ s.end
      by_ended true z = let y : swept_by v ≡ v.upto = ap (λ (x : Bool). cond x v.upto 0) z in let x = (d.each i v there).begun in omega arith
      by_ended false z = let y : swept_by v ≡ 0 = ap (λ (x : Bool). cond x v.upto 0) z in omega arith

  -- what a view has of the latch of a lane after a kind
  hold_swept : (i q : ℕ) (k : LaneKind) (v : View) (t : State) → get_elem? s.pool.core.views i ≡ some v → v.emptied ≡ false → t.lane_of ≡ s.lane_of → t.end ≡ s.end → t.log.entries ≡ s.log.entries → t.lane ≡ put s.lane q (lane_after k (s.lane q)) → IsSwept t q (lane_hold_after k v.flushed (swept_by v) (lane_hold v q)).swept
  hold_swept i q lane_kinds.sync_lane v t there live lane_of end entries lane = let l = lane_later q lane_kinds.sync_lane t lane_of end entries lane in let old = swept_later l q (lane_hold v q).swept ((m.each i v there).own q) in record {
    within = (let x = old.within in let y = swept_within i v there in omega arith);
    covered = λ k tag e of is low. ⊎_elim
        (λ (z : (lane_hold v q).swept < end_of e). let was = subst (λ (x : List Entry). IsEntryOf x tag k e) entries of in let current = all_current i v there live k tag e was (omega arith) in
        let here : s.lane_of tag ≡ q = sym (λ j. lane_of j tag) ∙ is in
        let now : synced_upto t tag ≡ stored_upto s tag = (λ j. (lane j (lane_of j tag)).synced_upto tag) ∙ ap (λ (x : Lane). x.synced_upto tag) (put_at s.lane q (lane_after lane_kinds.sync_lane (s.lane q)) (s.lane_of tag) here) ∙ ap (λ (x : ℕ). (s.lane x).stored_upto tag) (sym here) in omega arith)
        (λ (z : end_of e ≤ (lane_hold v q).swept). old.covered k tag e of is z)
        (cases_lt (lane_hold v q).swept (end_of e));
  }
  hold_swept i q lane_kinds.take_lane v t there live lane_of end entries lane = swept_later (lane_later q lane_kinds.take_lane t lane_of end entries lane) q (lane_hold v q).swept ((m.each i v there).own q)
  hold_swept i q lane_kinds.leave_lane v t there live lane_of end entries lane = swept_later (lane_later q lane_kinds.leave_lane t lane_of end entries lane) q (lane_hold v q).swept ((m.each i v there).own q)
  hold_swept i q (lane_kinds.lane_out taken) v t there live lane_of end entries lane = swept_later (lane_later q (lane_kinds.lane_out taken) t lane_of end entries lane) q (lane_hold v q).swept ((m.each i v there).own q)
  hold_swept i q (lane_kinds.read_block z p) v t there live lane_of end entries lane = swept_later (lane_later q (lane_kinds.read_block z p) t lane_of end entries lane) q (lane_hold v q).swept ((m.each i v there).own q)
  hold_swept i q (lane_kinds.fail_read z n) v t there live lane_of end entries lane = swept_later (lane_later q (lane_kinds.fail_read z n) t lane_of end entries lane) q (lane_hold v q).swept ((m.each i v there).own q)
  hold_swept i q (lane_kinds.write_block f z p) v t there live lane_of end entries lane = swept_later (lane_later q (lane_kinds.write_block f z p) t lane_of end entries lane) q (lane_hold v q).swept ((m.each i v there).own q)
  hold_swept i q (lane_kinds.fail_write f z p n) v t there live lane_of end entries lane = swept_later (lane_later q (lane_kinds.fail_write f z p n) t lane_of end entries lane) q (lane_hold v q).swept ((m.each i v there).own q)
  hold_swept i q (lane_kinds.fail_sync n) v t there live lane_of end entries lane = swept_later (lane_later q (lane_kinds.fail_sync n) t lane_of end entries lane) q (lane_hold v q).swept ((m.each i v there).own q)
  hold_swept i q (lane_kinds.lane_back noted) v t there live lane_of end entries lane = swept_later (lane_later q (lane_kinds.lane_back noted) t lane_of end entries lane) q (lane_hold v q).swept ((m.each i v there).own q)

  -- a step at the lane q by backend i
  laned_swept : (i q : ℕ) (k : LaneKind) (v w : View) (t : State) → get_elem? s.pool.core.views i ≡ some v → v.emptied ≡ false → q < s.lanes → w.lanes ≡ set v.lanes q (lane_hold_after k v.flushed (swept_by v) (lane_hold v q)) → w.joined_checkpoints ≡ v.joined_checkpoints
      → t.lane_of ≡ s.lane_of → t.end ≡ s.end → t.log.entries ≡ s.log.entries → t.lane ≡ put s.lane q (lane_after k (s.lane q)) → t.pool.core.views ≡ set s.pool.core.views i w → SweptLaw t
  laned_swept i q k v w t there live low holds kept lane_of end entries lane views = let l = lane_later q k t lane_of end entries lane in let x = m.each i v there in let a : LaneHold = lane_hold_after k v.flushed (swept_by v) (lane_hold v q) in record {
    below = λ n tag. subst (λ (f : ℕ → Lane). (f n).synced_upto tag ≤ (f n).stored_upto tag) (sym lane) (below_after q k n tag);
    each = λ j u at. each_set l s.pool.core.views m.each i w (record {
      own = λ n. subst (λ (y : List LaneHold). IsSwept t n (slice_index_or y n no_lane).swept) (sym holds) (dite (ℕ_discrete n q)
          (λ e. subst (λ (z : ℕ). IsSwept t z (slice_index_or (set v.lanes q a) z no_lane).swept) (sym e) (subst (λ (z : LaneHold). IsSwept t q z.swept) (sym (get_or-set_same v.lanes q a no_lane (subst (λ (z : ℕ). q < z) (sym (h.wide i v there live)) low))) (hold_swept i q k v t there live lane_of end entries lane)))
          (λ o. subst (λ (z : LaneHold). IsSwept t n z.swept) (sym (get_or-set_other v.lanes q n a no_lane o)) (swept_later l n (lane_hold v n).swept (x.own n))));
      kept = λ n g c is. swept_later l g (has_swept c g) (x.kept n g c (subst (λ (y : List JoinedCheckpoint). get_elem? y n ≡ some c) kept is));
    }) j u (subst (λ (y : List View). get_elem? y j ≡ some u) views at);
  }

  -- a step that is at no lane, by backend i
  aside_swept : (i : ℕ) (v w : View) (t : State) → get_elem? s.pool.core.views i ≡ some v → w.lanes ≡ v.lanes → w.joined_checkpoints ≡ v.joined_checkpoints → t.pool.core.views ≡ set s.pool.core.views i w → Later s t → ((n tag : ℕ) → (t.lane n).synced_upto tag ≤ (t.lane n).stored_upto tag) → SweptLaw t
  aside_swept i v w t there holds kept views l low = record { below = low; each = λ j u at. each_set l s.pool.core.views m.each i w (view_later l v w holds kept (m.each i v there)) j u (subst (λ (y : List View). get_elem? y j ≡ some u) views at) }

  -- where neither lanes nor entries change
  plain : (t : State) → t.lane_of ≡ s.lane_of → t.end ≡ s.end → t.log.entries ≡ s.log.entries → t.lane ≡ s.lane → Later s t
  plain t lane_of end entries lane = record { lane_of = lane_of; end = omega arith; entries = λ tag n e of. inl (subst (λ (l : List Entry). IsEntryOf l tag n e) entries of); synced = λ tag. let same : synced_upto t tag ≡ synced_upto s tag = (λ j. (lane j (lane_of j tag)).synced_upto tag) in omega arith }

  pools_swept : {e : pin_steps.Event} {core' : pins.State} → pin_steps.Step e s.pool.core core' → SweptLaw (record s { pool = record { core = core'; logged = page_steps.logged_by e s.pool } })
  pools_swept (pin_steps.touches i f k v there live inside a around) = let t : State = record s { pool = record s.pool { core = pin_steps.state_after k s.pool.core i f v } } in aside_swept i v (pin_kinds.view_after k s.pool.core.partition_of f (s.pool.core.frame f) (link v f) v) t there refl refl refl (plain t refl refl refl refl) m.below
  pools_swept (pin_steps.turns i p k v there live below a) = let t : State = record s { pool = record s.pool { core = pin_steps.state_turned k s.pool.core i p v } } in aside_swept i v (view_turned k p (hold v p) v) t there refl refl refl (plain t refl refl refl refl) m.below
  pools_swept (pin_steps.sized i fork k v there live a) = let t : State = record s { pool = record { core = state_sized k s.pool.core i fork v; logged = page_steps.logged_sized k fork s.pool } } in aside_swept i v (view_sized k fork s.pool.core v) t there refl refl refl (plain t refl refl refl refl) m.below
  pools_swept (pin_steps.splits v there room) = let t : State = record s { pool = record s.pool { core = pins.split_state s.pool.core v } } in let w : View = record v { next = v.next + 1 } in let b : View = new_view v.next s.pool.core.base (length v.links) (length v.partitions) (length v.lanes) in let l = plain t refl refl refl refl in record {
    below = m.below;
    each = λ j u at. ⊎_elim (λ (y : get_elem? (set s.pool.core.views 0 w) j ≡ some u). each_set l s.pool.core.views m.each 0 w (view_later l v w refl refl (m.each 0 v there)) j u y)
        (λ (y : (b ≡ u) × (j ≡ length (set s.pool.core.views 0 w))). subst (ViewSwept t) y.0 (none_swept t b (λ n. ap (λ (x : LaneHold). x.swept) (lane_new (length v.links) (length v.partitions) (length v.lanes) v.next s.pool.core.base n)) refl)) (at_end (set s.pool.core.views 0 w) b u j at);
  }
  pools_swept (pin_steps.joins j v u there other here live free) = let t : State = record s { pool = record s.pool { core = pins.joined_state s.pool.core v j u } } in let l = plain t refl refl refl refl in let w : View = joined_view v u in let x = m.each 0 v there in let y = m.each j u here in record {
    below = m.below;
    each = λ n z at. ⊎_elim (λ (q : (n ≡ j) × (emptied_view ≡ z)). subst (ViewSwept t) q.1 (none_swept t emptied_view (λ g. refl) refl))
        (λ (q : (n ≢ j) × (get_elem? (set s.pool.core.views 0 w) n ≡ some z)). each_set l s.pool.core.views m.each 0 w (record {
          own = λ g. swept_later l g (lane_hold v g).swept (x.own g);
          kept = λ k g c is. ⊎_elim (λ (r : get_elem? v.joined_checkpoints k ≡ some c). swept_later l g (has_swept c g) (x.kept k g c r)) (λ (r : (a : ℕ) × (get_elem? (kept_checkpoint u ∷ u.joined_checkpoints) a ≡ some c)). swept_later l g (has_swept c g) (taken y r.0 g c r.1)) (at_both v.joined_checkpoints (kept_checkpoint u ∷ u.joined_checkpoints) k c is);
        }) n z q.1) (at_set (set s.pool.core.views 0 w) j n emptied_view z at);
  }
    where
      taken : ViewSwept s u → (a g : ℕ) (c : JoinedCheckpoint) → get_elem? (kept_checkpoint u ∷ u.joined_checkpoints) a ≡ some c → IsSwept s g (has_swept c g)
      taken y zero g c is = subst (λ (z : JoinedCheckpoint). IsSwept s g (has_swept z g)) (some-injective (kept_checkpoint u) c is) (subst (IsSwept s g) (sym (map_at (λ (x : LaneHold). x.swept) no_lane 0 refl u.lanes g)) (y.own g))
      taken y (suc a) g c is = y.kept a g c is

pub swept_kept : {e : Event} {s t : State} → Step e s t → HistoryInvariant s → DebtsLaw s → SweptLaw s → SweptLaw t
swept_kept (pools {s = s} (page_steps.cores x) a) h d m = pools_swept s h d m x
swept_kept (pools {s = s} (page_steps.touches i f k v there live inside a around) is) h d m = let t : State = record s { pool = page_steps.state_after k s.pool i f v } in aside_swept s h d m i v (paged k s.pool f v) t there refl refl refl (plain s h d m t refl refl refl refl) m.below
swept_kept {t = t} (lanes {s = s} i q k v there live low a alone) h d m = laned_swept s h d m i q k v (stepped (laned k q v v)) t there live low refl refl refl refl refl refl refl
swept_kept {t = t} (writes {s = s} i q f k v there live low inside a x) h d m = laned_swept s h d m i q k v (laned k q v (paged begin_write s.pool f v)) t there live low refl refl refl refl refl refl refl
swept_kept {t = t} (notes {s = s} i q f noted k v there live low inside a x) h d m = laned_swept s h d m i q (lane_kinds.lane_back noted) v (laned (lane_kinds.lane_back noted) q v (paged k (pool_noting k s f) f v)) t there live low refl refl refl refl refl refl refl
swept_kept {t = t} (logs {s = s} i k v there live a record_is) h d m = aside_swept s h d m i v (view_logged k v) t there refl refl refl (plain s h d m t refl refl refl refl) m.below
swept_kept {t = t} (enters {s = s} i f p ch v there live inside x) h d m = let entry = new_entry s v.number ch in aside_swept s h d m i v (has_written ch (link v f).copied (s.end + change_size ch) (s.pool.core.frame f).tag p (paged (make_entry p) s.pool f v)) t there refl refl refl
    (record { lane_of = refl; end = omega arith; entries = λ tag k e of. ⊎_elim (λ (y : IsEntryOf s.log.entries tag k e). inl y) (λ (y : (entry ≡ e) × (tag_in ch ≡ Some tag)). let z : s.end + change_size ch ≡ end_of e = ap end_of y.0 in inr (omega (arith, some_size ch))) (entry_longer s.log.entries entry tag k e of); synced = λ tag. omega arith }) m.below
swept_kept {t = t} (reads {s = s} i f tag p v there live inside a) h d m = aside_swept s h d m i v (looked (seen.LogEnd s.end) (has_read s.end tag p v)) t there refl refl refl (plain s h d m t refl refl refl refl) m.below
swept_kept {t = t} (reads_size {s = s} i fork v there live a) h d m = aside_swept s h d m i v (looked (seen.LogEnd s.end) (has_seen_size s.end fork (size_hold v fork).blocks v)) t there refl refl refl (plain s h d m t refl refl refl refl) m.below
swept_kept {t = t} (words {s = s} i k v there live a) h d m = aside_swept s h d m i v (after_word k s v) t there refl refl refl (plain s h d m t refl refl refl refl) m.below

pub swept_open : (c : Config) (store : Store) (page : Page) → SweptLaw (opening c store page)
swept_open c store page = let w : View = first_view c.base c.frames c.partitions c.lanes in record {
  below = λ q tag. omega arith;
  each = λ i v there. subst (ViewSwept (opening c store page)) (at_only w v i there).0 (none_swept (opening c store page) w (λ n. ap (λ (x : LaneHold). x.swept) (lane_new c.frames c.partitions c.lanes 0 c.base n)) refl);
}
