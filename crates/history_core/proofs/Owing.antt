-- Each step keeps the law of checkpoints.
use Rattle.std.proofs.Common.{◌≡◌, ◌≢◌, ◌⊎◌, inl, inr, ℕ, zero, suc, ◌+◌, ◌<◌, ◌≤◌, Bool, true, false, cond, List, [], ◌∷◌, ◌++◌, length, map, set, Option, Some, None, slice_index_or, sym, refl, ap, ◌∙◌, subst, ⊎_elim, arith}
use Rattle.std.proofs.lemmas.Bool.{both_ways, false≢true}
use Rattle.std.specs.Prelude.{max}
use Rattle.std.proofs.lemmas.Option.{same_Some, none-some}
use mathlib.Core.Logic.{dite}
use mathlib.Core.Option.{some, some-ne-none, some-injective}
use native.Mathlib.Decide.{ℕ_discrete}
use lib.ListN.{get_elem?}
use Rattle.page_layout.specs.Fields.{lsn_of}
use Rattle.pin_core.specs.declared.view.JoinedCheckpoint.{JoinedCheckpoint}
use Rattle.pin_core.specs.declared.view.Content.TheVariants.{Exclusive}
use Rattle.pin_core.specs.declared.view.Io.TheVariants.{Output}
use Rattle.pin_core.specs.declared.view.LastWrite.TheVariants.{Done}
use Rattle.pin_core.specs.declared.view.Link.{Link}
use Rattle.pin_core.specs.declared.view.LoadedWord.TheVariants as seen
use Rattle.pin_core.specs.declared.view.View.{View}
use Rattle.pin_core.specs.State.{Config, Frame, Page, no_tag, idle, link, hold, lane_hold, first_view, new_view, emptied_view, joined_view, kept_checkpoint, empty_frame, size_hold}
use Rattle.pin_core.specs.State as pins
use Rattle.pin_core.specs.Tallies.{frame_shape}
use Rattle.pin_core.specs.Kinds as pin_kinds
use Rattle.pin_core.specs.Turns.{view_turned}
use Rattle.pin_core.specs.Sizes.{view_sized}
use Rattle.pin_core.specs.Steps as pin_steps
use Rattle.pin_core.proofs.Stepping as pin_stepping
use Rattle.pin_core.proofs.Stepping.{sized_links}
use Rattle.pin_core.proofs.SizeSchedules.{none_noted}
use Rattle.pin_core.proofs.Views.{link_new}
use Rattle.page_core.specs.State.{Block, block_of}
use Rattle.page_core.specs.Tallies.{Tally, sharers, applied_locks, unapplied_locks, weigh, page_shape}
use Rattle.page_core.specs.Invariant.{PageFrame, PageLink}
use Rattle.page_core.specs.Kinds as kinds
use Rattle.page_core.specs.Kinds.{Kind, note_read, begin_write, note_write, make_entry, frame_after, link_after}
use Rattle.page_core.specs.Steps as page_steps
use Rattle.page_core.specs.Steps.{logged_after}
use Rattle.page_core.proofs.Cases.{tag_kept}
use Rattle.history_core.specs.Log.{Entry, Change, IsEntryOf, end_of, change_size, tag_in}
use Rattle.history_core.specs.State.{Lane, State, Store, stored_upto, opening}
use Rattle.history_core.specs.Lanes as lane_kinds
use Rattle.history_core.specs.Lanes.{LaneKind, lane_after}
use Rattle.history_core.specs.Device.{view_logged}
use Rattle.history_core.specs.Invariant.{HistoryInvariant}
use Rattle.history_core.specs.Debts.{Taken, IsCurrent, IsStoredOrLeft, LinkDebt, ViewDebts, Debts, has_visited, has_left_to_write, taken_of, DebtsLaw}
use Rattle.history_core.specs.Steps.{Event, IsPlain, MayWriteLane, Notes, CanEnter, new_entry, logged_noting, pool_noting, stepped, looked, paged, laned, has_read, has_written, Step, pools, lanes, writes, notes, logs, enters, reads, Run, rests, goes, words, after_word, state_after_word, reads_size, has_seen_size}
use Rattle.history_core.specs.Words.{WordKind, begin_checkpoint}
use Rattle.history_core.proofs.Beginning.{BegunHere, link_begun}
use Rattle.history_core.proofs.Blocks.{plain_block, tag_goes, written_is_logged}
use Rattle.history_core.proofs.Calls.{at_both}
use Rattle.history_core.proofs.Debts.{stays, Fresh, pins_move, pins_link, pages_move, pages_link, Touched, debts_touched, debts_set, debts_aside, debts_later}
use Rattle.history_core.proofs.Logs.{some_size, entry_longer, ends_below}
use Rattle.history_core.proofs.Stepping as stepping
use Rattle.history_core.proofs.Stepping.{step_keeps, makes_of, relinks, unframed_tag, unframed_name, logged_stays, logged_same, lane_put, lane_written, HoldsSame, no_write_holds, for_input}
use Rattle.grid.specs.Shape.{put, tallies}
use Rattle.grid.proofs.Lists.{at_end, at_only, put_at, put_else, put_same}
use Rattle.grid.proofs.Sums.{term_le}

-- what stands at a place of a list, after g
pub map_at : {A B : Type 0} (g : A → B) (a : A) (b : B) → g a ≡ b → (l : List A) (n : ℕ) → slice_index_or (map g l) n b ≡ g (slice_index_or l n a)
map_at g a b e [] n = sym e
map_at g a b e (x ∷ l) zero = refl
map_at g a b e (x ∷ l) (suc n) = map_at g a b e l n

module _ (s : State) (h : HistoryInvariant s) (d : DebtsLaw s) where
  abbrev t : Taken
  t = taken_of s

  abbrev n : ℕ
  n = s.pool.core.frames

  abbrev frame : ℕ → Frame
  frame = s.pool.core.frame

  abbrev views : List View
  views = s.pool.core.views

  -- a step at a frame leaves a view's checkpoints, and its links elsewhere
  touches_at : (i f : ℕ) (v w : View) (l : Link) → get_elem? views i ≡ some v → v.emptied ≡ false → f < n → w.links ≡ set v.links f l → w.upto ≡ v.upto → w.joined_checkpoints ≡ v.joined_checkpoints → Touched v w f l
  touches_at i f v w l there live inside links upto kept = let r = relinks s h i f v w l there live inside links in record { upto = upto; kept = kept; here = r.here; others = r.else }

  fresh_of : (i f : ℕ) (v : View) (k : pin_kinds.Kind) → get_elem? views i ≡ some v → pin_kinds.Allowed k (frame f) (link v f) → pin_steps.AllowedAround k s.pool.core v f → Fresh t (frame f) (link v f) v.upto k
  fresh_of i f v (pin_kinds.store_tag tag) there a around = d.unframed tag a.named (unframed_tag s h i f tag v there a around)
  fresh_of i f v (pin_kinds.store_new_tag tag) there a around = d.unframed tag a.named (unframed_name s h i tag v there a.named around.naming around.lacking)
  fresh_of i f v _ there a around = tt

  -- a view that has nothing at any frame, and no checkpoint
  no_debts : (w : View) → w.upto ≡ 0 → w.joined_checkpoints ≡ [] → ((f : ℕ) → link w f ≡ idle) → ViewDebts t n frame s.end w
  no_debts w upto kept links = record {
    begun = omega arith;
    kept_begun = λ k c at. absurd (some-ne-none c (sym (subst (λ (y : List JoinedCheckpoint). get_elem? y k ≡ some c) kept at)));
    own = λ f below. subst (LinkDebt t (frame f) w.upto) (sym (links f)) (record { stored_or_left = λ p. absurd (cc); done = λ e. absurd (cc) });
    kept = λ k f c at below. absurd (some-ne-none c (sym (subst (λ (y : List JoinedCheckpoint). get_elem? y k ≡ some c) kept at)));
  }

  pins_owe : {e : pin_steps.Event} {core' : pins.State} → pin_steps.Step e s.pool.core core' → Debts t core'.frames core'.frame s.end s.pool.logged core'.views
  pins_owe (pin_steps.touches i f k v there live inside a around) = let fr = frame f in let l = link v f in let x = fresh_of i f v k there a around in let w : View = pin_stepping.after k s.pool.core f v in
      debts_touched t n frame s.end f (pin_kinds.frame_after k fr) (pins_move t fr l v.upto k x a) s.pool.logged views d inside (λ named goes. ⊎_elim (λ (clean : fr.word.dirty ≡ false). d.clean f inside named clean) (λ (noted : l.noted ≡ true). absurd (false≢true (sym (none_noted s.pool.core h.pool.sizes h.quiet i f v there inside) ∙ noted))) (tag_goes k fr l (tallies frame_shape views f) (h.pool.core.grid.columns f inside) a goes)) i v w (pin_kinds.link_after k fr l) there
      (touches_at i f v w (pin_kinds.link_after k fr l) there live inside refl refl refl) (pins_link t fr l v.upto k x a (d.clean f inside) ((d.each i v there).own f inside))
  pins_owe (pin_steps.turns i p k v there live below a) = debts_aside t n frame s.end s.pool.logged views d i v (view_turned k p (hold v p) v) there refl refl refl
  pins_owe (pin_steps.sized i fork k v there live a) = let w : View = view_sized k fork s.pool.core v in let x = d.each i v there in debts_set t n frame s.end s.pool.logged views d i w (record {
    begun = x.begun;
    kept_begun = x.kept_begun;
    own = λ f below. sized_links s.pool.core h.pool.core i fork v there live (λ l m. LinkDebt t (frame f) v.upto l → LinkDebt t (frame f) v.upto m) k a (λ l y. y) (λ l known y. record { stored_or_left = y.stored_or_left; done = y.done }) (λ g end e z y. record { stored_or_left = y.stored_or_left; done = y.done }) f (x.own f below);
    kept = x.kept;
  })
  pins_owe (pin_steps.splits v there room) = let w : View = record v { next = v.next + 1 } in let b : View = new_view v.next s.pool.core.base (length v.links) (length v.partitions) (length v.lanes) in let x = debts_aside t n frame s.end s.pool.logged views d 0 v w there refl refl refl in record {
    named = x.named;
    clean = x.clean;
    unframed = x.unframed;
    positioned = x.positioned;
    unknown = x.unknown;
    each = λ j u at. ⊎_elim (λ (y : get_elem? (set views 0 w) j ≡ some u). x.each j u y) (λ (y : (b ≡ u) × (j ≡ length (set views 0 w))). subst (ViewDebts t n frame s.end) y.0 (no_debts b refl refl (link_new (length v.links) (length v.partitions) (length v.lanes) v.next s.pool.core.base))) (at_end (set views 0 w) b u j at);
  }
  pins_owe (pin_steps.joins j v u there other here live free) = let w : View = joined_view v u in let x = d.each 0 v there in let y = d.each j u here in
      debts_set t n frame s.end s.pool.logged (set views 0 w) (debts_set t n frame s.end s.pool.logged views d 0 w (record {
        begun = x.begun;
        kept_begun = λ k c at. ⊎_elim (λ (z : get_elem? v.joined_checkpoints k ≡ some c). x.kept_begun k c z) (λ (z : (m : ℕ) × (get_elem? (kept_checkpoint u ∷ u.joined_checkpoints) m ≡ some c)). taken_begun z.0 c z.1) (at_both v.joined_checkpoints (kept_checkpoint u ∷ u.joined_checkpoints) k c at);
        own = x.own;
        kept = λ k f c at below. ⊎_elim (λ (z : get_elem? v.joined_checkpoints k ≡ some c). x.kept k f c z below) (λ (z : (m : ℕ) × (get_elem? (kept_checkpoint u ∷ u.joined_checkpoints) m ≡ some c)). taken_stored_or_left z.0 f c z.1 below) (at_both v.joined_checkpoints (kept_checkpoint u ∷ u.joined_checkpoints) k c at);
      })) j emptied_view (no_debts emptied_view refl refl (λ f. refl))
    where
      taken_begun : (m : ℕ) (c : JoinedCheckpoint) → get_elem? (kept_checkpoint u ∷ u.joined_checkpoints) m ≡ some c → c.upto ≤ s.end
      taken_begun zero c at = let z = (d.each j u here).begun in let e = ap (λ (y : JoinedCheckpoint). y.upto) (some-injective (kept_checkpoint u) c at) in omega arith
      taken_begun (suc m) c at = (d.each j u here).kept_begun m c at

      taken_stored_or_left : (m f : ℕ) (c : JoinedCheckpoint) → get_elem? (kept_checkpoint u ∷ u.joined_checkpoints) m ≡ some c → f < n → IsStoredOrLeft t (frame f) c.upto (has_visited c f) (has_left_to_write c f)
      taken_stored_or_left zero f c at below = subst (λ (y : JoinedCheckpoint). IsStoredOrLeft t (frame f) y.upto (has_visited y f) (has_left_to_write y f)) (some-injective (kept_checkpoint u) c at)
          (subst (λ (y : Bool). IsStoredOrLeft t (frame f) u.upto y (has_left_to_write (kept_checkpoint u) f)) (sym (map_at (λ (x : Link). x.visited) idle false refl u.links f)) (subst (λ (y : Bool). IsStoredOrLeft t (frame f) u.upto (link u f).visited y) (sym (map_at (λ (x : Link). x.left_to_write) idle false refl u.links f)) ((d.each j u here).own f below).stored_or_left))
      taken_stored_or_left (suc m) f c at below = (d.each j u here).kept m f c at below

  pages_owe : (i f : ℕ) (k : Kind) (v : View) → get_elem? views i ≡ some v → v.emptied ≡ false → f < n → kinds.Allowed k (block_of s.pool.logged (frame f).tag) (frame f) (link v f) → IsPlain k → DebtsLaw (record s { pool = page_steps.state_after k s.pool i f v })
  pages_owe i f k v there live inside a plain = let fr = frame f in let b = block_of s.pool.logged fr.tag in let l = link v f in let own = (d.each i v there).own f inside in let w : View = paged k s.pool f v in
      subst (λ (g : ℕ → Option Page). Debts t n (put frame f (frame_after k b fr)) s.end g (set views i w)) (sym (logged_same s h i f k v there live inside (plain_block k b plain)))
      (debts_touched t n frame s.end f (frame_after k b fr) (pages_move t fr b l v.upto k plain a own) s.pool.logged views d inside (λ named goes. absurd (goes (tag_kept k b fr))) i v w (link_after k b fr l) there (touches_at i f v w (link_after k b fr l) there live inside refl refl refl) (pages_link t fr b l v.upto k plain a own))

  -- a view changes beside its links and checkpoints
  aside_owe : (i : ℕ) (v w : View) → get_elem? views i ≡ some v → w.upto ≡ v.upto → w.joined_checkpoints ≡ v.joined_checkpoints → w.links ≡ v.links → Debts t n frame s.end s.pool.logged (set views i w)
  aside_owe i v w there upto kept links = debts_aside t n frame s.end s.pool.logged views d i v w there upto kept links

  -- a lane takes another's place that holds what this held
  same_lane : (q : ℕ) (ln : Lane) → HoldsSame ln (s.lane q) → (logged : ℕ → Option Page) (vs : List View) (fs : ℕ → Frame) → Debts t n fs s.end logged vs → Debts (taken_of (record s { lane = put s.lane q ln })) n fs s.end logged vs
  same_lane q ln same logged vs fs x = debts_later t (taken_of (record s { lane = put s.lane q ln })) refl
      (λ tag. let e = lane_put (λ (y : Lane). y.stored_upto tag) s.lane q ln (λ j. same.upto j tag) (s.lane_of tag) in omega arith) n fs s.end logged vs x

  -- the entries of a block of which an output is under way are at the page's position or before it, or in the lane
  pub output_position : (i f : ℕ) (v : View) → get_elem? views i ≡ some v → f < n → (link v f).io ≡ Output → (k : ℕ) (e : Entry) → IsEntryOf s.log.entries (frame f).tag k e → (end_of e ≤ lsn_of (frame f).page) ⊎ (end_of e ≤ stored_upto s (frame f).tag)
  output_position i f v there inside out k e of = by_logged (s.pool.logged (frame f).tag) refl
    where
      by_logged : (o : Option Page) → s.pool.logged (frame f).tag ≡ o → (end_of e ≤ lsn_of (frame f).page) ⊎ (end_of e ≤ stored_upto s (frame f).tag)
      by_logged None none = inr (d.unknown (frame f).tag none k e of)
      by_logged (Some p) is = let same = (written_is_logged (block_of s.pool.logged (frame f).tag) (frame f) (link v f) (tallies page_shape views f) (h.pool.pages.columns f inside) (h.pool.pages.cells i v f there inside) (term_le (λ (u : View). weigh sharers (link u f)) views i v there) out).1 p is in
          inl (subst (λ (y : Page). end_of e ≤ lsn_of y) same (d.positioned (frame f).tag k p e is of))

  -- a frame where only what a view notes of its lane changes
  noted_owe : (i f : ℕ) (v w : View) (l : Link) → get_elem? views i ≡ some v → v.emptied ≡ false → f < n → w.links ≡ set v.links f l → w.upto ≡ v.upto → w.joined_checkpoints ≡ v.joined_checkpoints → l.visited ≡ (link v f).visited → l.left_to_write ≡ (link v f).left_to_write → (l.last_write ≡ Done → (frame f).tag ≢ no_tag → IsCurrent t (frame f).tag) → Debts t n (put frame f (frame f)) s.end s.pool.logged (set views i w)
  noted_owe i f v w l there live inside links upto kept visited left_to_write done = debts_touched t n frame s.end f (frame f) (stays refl (λ e. e) (λ e. e)) s.pool.logged views d inside (λ named goes. absurd (goes refl)) i v w l there (touches_at i f v w l there live inside links upto kept)
      (record { stored_or_left = subst (λ (x : Bool). IsStoredOrLeft t (frame f) v.upto x l.left_to_write) (sym visited) (subst (λ (x : Bool). IsStoredOrLeft t (frame f) v.upto (link v f).visited x) (sym left_to_write) ((d.each i v there).own f inside).stored_or_left); done = done })

  -- The page p of the frame f goes to its lane q, or fails to
  writes_owe : (i q f : ℕ) (k : LaneKind) (v : View) → get_elem? views i ≡ some v → v.emptied ≡ false → f < n → MayWriteLane k s q f (lane_hold v q) (link v f)
      → Debts (taken_of (record s { lane = put s.lane q (lane_after k (s.lane q)) })) n (put frame f (frame f)) s.end s.pool.logged (set views i (laned k q v (paged begin_write s.pool f v)))
  writes_owe i q f k v there live inside x = by_kind k x (noted_owe i f v (laned k q v (paged begin_write s.pool f v)) (link_after begin_write (block_of s.pool.logged (frame f).tag) (frame f) (link v f)) there live inside refl refl refl refl refl (λ e. absurd (cc)))
    where
      by_kind : (k : LaneKind) → MayWriteLane k s q f (lane_hold v q) (link v f) → {vs : List View} → Debts t n (put frame f (frame f)) s.end s.pool.logged vs → Debts (taken_of (record s { lane = put s.lane q (lane_after k (s.lane q)) })) n (put frame f (frame f)) s.end s.pool.logged vs
      by_kind (lane_kinds.write_block g tag p) (_, x) {vs = vs} y = let ln : Lane = lane_after (lane_kinds.write_block g tag p) (s.lane q) in let u : ℕ = max ((s.lane q).stored_upto tag) (lsn_of p) in
          let uptos = lane_written s.lane_of s.lane q ln tag (λ (z : Lane). z.stored_upto) u x.lane refl in
          debts_later t (taken_of (record s { lane = put s.lane q ln })) refl
          (λ z. dite (ℕ_discrete z tag)
          (λ (e : z ≡ tag). let a = uptos z ∙ put_at (stored_upto s) tag u z e in let b : (s.lane q).stored_upto tag ≡ stored_upto s z = ap (λ (m : ℕ). (s.lane m).stored_upto tag) (sym x.lane) ∙ ap (stored_upto s) (sym e) in omega arith)
          (λ (o : z ≢ tag). let a = uptos z ∙ put_else (stored_upto s) tag u z o in omega arith))
          n (put frame f (frame f)) s.end s.pool.logged vs y
      by_kind (lane_kinds.fail_write g tag p faults) (_, x) {vs = vs} y = let ln : Lane = lane_after (lane_kinds.fail_write g tag p faults) (s.lane q) in
          debts_later t (taken_of (record s { lane = put s.lane q ln })) refl
          (λ z. let a = lane_put (λ (m : Lane). m.stored_upto z) s.lane q ln refl (s.lane_of z) in omega arith)
          n (put frame f (frame f)) s.end s.pool.logged vs y
      by_kind lane_kinds.take_lane x y = absurd x
      by_kind lane_kinds.leave_lane x y = absurd x
      by_kind (lane_kinds.lane_out taken) x y = absurd x
      by_kind (lane_kinds.read_block tag p) x y = absurd x
      by_kind (lane_kinds.fail_read tag faults) x y = absurd x
      by_kind lane_kinds.sync_lane x y = absurd x
      by_kind (lane_kinds.fail_sync faults) x y = absurd x
      by_kind (lane_kinds.lane_back noted) x y = absurd x

  -- what a read from a lane whose contents aren't known gave is noted: the block's entries are in the lane
  forgotten_owe : (f : ℕ) → f < n → (frame f).tag ≢ no_tag → (frame f).word.dirty ≡ false → (b : Bool) (fs : ℕ → Frame) (vs : List View) → Debts t n fs s.end s.pool.logged vs → Debts t n fs s.end (cond b s.pool.logged (put s.pool.logged (frame f).tag None)) vs
  forgotten_owe f inside named clean true fs vs x = x
  forgotten_owe f inside named clean false fs vs x = let tag = (frame f).tag in record {
    named = x.named;
    clean = x.clean;
    unframed = x.unframed;
    positioned = λ z k p e is. dite (ℕ_discrete z tag) (λ same. absurd (none-some p (sym (put_at s.pool.logged tag None z same) ∙ is))) (λ o. x.positioned z k p e (sym (put_else s.pool.logged tag None z o) ∙ is));
    unknown = λ z none. dite (ℕ_discrete z tag) (λ same. subst (IsCurrent t) (sym same) (d.clean f inside named clean)) (λ o. x.unknown z (sym (put_else s.pool.logged tag None z o) ∙ none));
    each = x.each;
  }

  -- what comes back is noted at a frame
  notes_owe : (i q f : ℕ) (noted : Bool) (k : Kind) (v : View) → get_elem? views i ≡ some v → v.emptied ≡ false → q < s.lanes → f < n → Notes k s q f (lane_hold v q) (link v f)
      → Debts t n (put frame f (frame_after k (block_of (logged_noting k s f) (frame f).tag) (frame f))) s.end (logged_after k (logged_noting k s f) (frame f).tag) (set views i (laned (lane_kinds.lane_back noted) q v (paged k (pool_noting k s f) f v)))
  notes_owe i q f noted (note_read p) v there live low inside x = let fr = frame f in let b : Block = block_of (logged_noting (note_read p) s f) fr.tag in let input = for_input (block_of s.pool.logged fr.tag) fr (link v f) (tallies frame_shape views f) (h.pool.core.grid.columns f inside) (h.pool.pages.cells i v f there inside) x.right in
      let w : View = laned (lane_kinds.lane_back noted) q v (paged (note_read p) (pool_noting (note_read p) s f) f v) in
      subst (λ (g : ℕ → Option Page). Debts t n (put frame f fr) s.end g (set views i w)) (λ j z. sym (put_same (logged_noting (note_read p) s f) fr.tag (logged_noting (note_read p) s f fr.tag) z refl) j)
      (forgotten_owe f inside input.0 input.1 (s.known fr.tag) (put frame f fr) (set views i w) (noted_owe i f v w (link_after (note_read p) b fr (link v f)) there live inside refl refl refl refl refl ((d.each i v there).own f inside).done))
  notes_owe i q f noted (note_write true) v there live low inside (p, x) = let fr = frame f in let w : View = laned (lane_kinds.lane_back noted) q v (paged (note_write true) s.pool f v) in let held = (h.lanes.cells i v q there low).hold.written f fr.tag p x.was_written in
      subst (λ (g : ℕ → Option Page). Debts t n (put frame f fr) s.end g (set views i w)) (λ j z. sym (put_same s.pool.logged fr.tag (s.pool.logged fr.tag) z refl) j)
      (noted_owe i f v w (link_after (note_write true) (block_of s.pool.logged fr.tag) fr (link v f)) there live inside refl refl refl refl refl
      (λ e named m en of. let same : (s.lane q).stored_upto fr.tag ≡ stored_upto s fr.tag = ap (λ (z : ℕ). (s.lane z).stored_upto fr.tag) (sym x.lane) in let long = held.upto in
      ⊎_elim (λ (z : end_of en ≤ lsn_of fr.page). let y : end_of en ≤ lsn_of p = subst (λ (w : Page). end_of en ≤ lsn_of w) x.page z in omega arith) (λ (z : end_of en ≤ stored_upto s fr.tag). z) (output_position i f v there inside x.right.right m en of)))
  notes_owe i q f noted (note_write false) v there live low inside x = let fr = frame f in let w : View = laned (lane_kinds.lane_back noted) q v (paged (note_write false) s.pool f v) in
      subst (λ (g : ℕ → Option Page). Debts t n (put frame f fr) s.end g (set views i w)) (λ j z. sym (put_same s.pool.logged fr.tag (s.pool.logged fr.tag) z refl) j)
      (noted_owe i f v w (link_after (note_write false) (block_of s.pool.logged fr.tag) fr (link v f)) there live inside refl refl refl refl refl (λ e. absurd (cc)))
  notes_owe i q f noted begin_write v there live low inside x = absurd x
  notes_owe i q f noted kinds.note_zero v there live low inside x = absurd x
  notes_owe i q f noted (make_entry p) v there live low inside x = absurd x
  notes_owe i q f noted kinds.load_content v there live low inside x = absurd x
  notes_owe i q f noted kinds.mark_dirty v there live low inside x = absurd x
  notes_owe i q f noted kinds.share v there live low inside x = absurd x
  notes_owe i q f noted kinds.exclude v there live low inside x = absurd x
  notes_owe i q f noted kinds.unshare v there live low inside x = absurd x
  notes_owe i q f noted kinds.unexclude v there live low inside x = absurd x
  notes_owe i q f noted kinds.take_copy v there live low inside x = absurd x
  notes_owe i q f noted kinds.leave_copy v there live low inside x = absurd x
  notes_owe i q f noted kinds.page_out v there live low inside x = absurd x
  notes_owe i q f noted kinds.overwrite_logged v there live low inside x = absurd x
  notes_owe i q f noted (kinds.overwrite_read p) v there live low inside x = absurd x
  notes_owe i q f noted kinds.page_back v there live low inside x = absurd x
  notes_owe i q f noted kinds.start_input v there live low inside x = absurd x
  notes_owe i q f noted kinds.start_output v there live low inside x = absurd x
  notes_owe i q f noted kinds.clear_just_dirtied v there live low inside x = absurd x
  notes_owe i q f noted (kinds.set_waiter number) v there live low inside x = absurd x
  notes_owe i q f noted kinds.clear_waiter v there live low inside x = absurd x
  notes_owe i q f noted kinds.need_checkpoint v there live low inside x = absurd x
  notes_owe i q f noted (kinds.end_io end) v there live low inside x = absurd x

-- beside the exclusive lock no view has an output right
no_output : (b : Block) (fr : Frame) (l m : Link) (t : Tally → ℕ) → PageFrame b fr t → PageLink b fr m → ((k : Tally) → weigh k l ≤ t k) → ((k : Tally) → weigh k m ≤ t k) → l.content ≡ Exclusive → m.last_write ≡ Done → ⊥
no_output b fr l m t q d x y e done = grind (arith, q, d, x applied_locks, x unapplied_locks, y sharers, e, done)

-- An entry of the page p of the frame f is made
module _ (s : State) (h : HistoryInvariant s) (d : DebtsLaw s) (i f : ℕ) (p : Page) (c : Change) (v : View) (there : get_elem? s.pool.core.views i ≡ some v) (live : v.emptied ≡ false) (inside : f < s.pool.core.frames) (x : CanEnter s f p c v) where
  abbrev tag_of : ℕ
  tag_of = (s.pool.core.frame f).tag

  abbrev entry : Entry
  entry = new_entry s v.number c

  abbrev longer : Taken
  longer = record (taken_of s) { entries = s.log.entries ++ entry ∷ [] }

  abbrev end' : ℕ
  end' = s.end + change_size c

  same_block : (z : ℕ) → tag_in c ≡ Some z → tag_of ≡ z
  same_block z e = same_Some tag_of z (sym (stepping.of_block s h i f p c v there live inside x) ∙ e)

  is_dirty : (s.pool.core.frame f).word.dirty ≡ true
  is_dirty = ((h.pool.pages.cells i v f there inside).dirtied x.right.dirtied).dirty

  named : tag_of ≢ no_tag
  named = stepping.named s h i f p c v there live inside x

  -- no other frame has the block
  only_frame : (g : ℕ) → g < s.pool.core.frames → (s.pool.core.frame g).tag ≡ tag_of → f ≡ g
  only_frame g below e = h.pool.core.apart f g inside below named (sym e)

  current_longer : (z : ℕ) → z ≢ tag_of → IsCurrent (taken_of s) z → IsCurrent longer z
  current_longer z other y k e of = ⊎_elim (λ (t : IsEntryOf s.log.entries z k e). y k e t) (λ (t : (entry ≡ e) × (tag_in c ≡ Some z)). absurd (other (sym (same_block z t.1)))) (entry_longer s.log.entries entry z k e of)

  stored_or_left_longer : (fr : Frame) (upto : ℕ) (visited left_to_write : Bool) → upto ≤ s.end → IsStoredOrLeft (taken_of s) fr upto visited left_to_write → IsStoredOrLeft longer fr upto visited left_to_write
  stored_or_left_longer fr upto visited left_to_write begun y been given k e of le lt = ⊎_elim (λ (t : IsEntryOf s.log.entries fr.tag k e). y been given k e t le lt)
      (λ (t : (entry ≡ e) × (tag_in c ≡ Some fr.tag)). let z : end' ≡ end_of e = ap end_of t.0 in absurd (omega (arith, some_size c))) (entry_longer s.log.entries entry fr.tag k e of)

  -- no output of the block is under way
  no_done : (j : ℕ) (u : View) (g : ℕ) → get_elem? s.pool.core.views j ≡ some u → g < s.pool.core.frames → (link u g).last_write ≡ Done → (s.pool.core.frame g).tag ≢ tag_of
  no_done j u g at below done e = no_output (block_of s.pool.logged tag_of) (s.pool.core.frame f) (link v f) (link u f) (tallies page_shape s.pool.core.views f) (h.pool.pages.columns f inside) (h.pool.pages.cells j u f at inside) (λ k. term_le (λ (w : View). weigh k (link w f)) s.pool.core.views i v there) (λ k. term_le (λ (w : View). weigh k (link w f)) s.pool.core.views j u at)
      x.right.right (subst (λ (k : ℕ). (link u k).last_write ≡ Done) (sym (only_frame g below e)) done)

  abbrev logged' : ℕ → Option Page
  logged' = put s.pool.logged tag_of (Some p)

  entries_longer : Debts longer s.pool.core.frames s.pool.core.frame end' logged' s.pool.core.views
  entries_longer = record {
    named = λ k z e of. ⊎_elim (λ (t : IsEntryOf s.log.entries z k e). d.named k z e t) (λ (t : (entry ≡ e) × (tag_in c ≡ Some z)). subst (λ (w : ℕ). w ≢ no_tag) (same_block z t.1) named) (entry_longer s.log.entries entry z k e of);
    clean = λ g below given clean. current_longer (s.pool.core.frame g).tag (λ e. both_ways _ clean (subst (λ (k : ℕ). (s.pool.core.frame k).word.dirty ≡ true) (only_frame g below e) is_dirty)) (d.clean g below given clean);
    unframed = λ z given none. current_longer z (λ e. none f inside (sym e)) (d.unframed z given none);
    positioned = λ z k q e is of. dite (ℕ_discrete z tag_of)
        (λ (same : z ≡ tag_of). let e_is : p ≡ q = same_Some p q (sym (put_at s.pool.logged tag_of (Some p) z same) ∙ is) in let pos : lsn_of q ≡ end' = ap lsn_of (sym e_is) ∙ x.ends in
        ⊎_elim (λ (t : IsEntryOf s.log.entries z k e). let low = ends_below s.log entry h.log k e t.there in let ends = h.ends in omega arith) (λ (t : (entry ≡ e) × (tag_in c ≡ Some z)). let y : end' ≡ end_of e = ap end_of t.0 in omega arith) (entry_longer s.log.entries entry z k e of))
        (λ (other : z ≢ tag_of). ⊎_elim (λ (t : IsEntryOf s.log.entries z k e). d.positioned z k q e (sym (put_else s.pool.logged tag_of (Some p) z other) ∙ is) t) (λ (t : (entry ≡ e) × (tag_in c ≡ Some z)). absurd (other (sym (same_block z t.1)))) (entry_longer s.log.entries entry z k e of));
    unknown = λ z none. dite (ℕ_discrete z tag_of) (λ (same : z ≡ tag_of). absurd (none-some p (sym none ∙ put_at s.pool.logged tag_of (Some p) z same))) (λ (other : z ≢ tag_of). current_longer z other (d.unknown z (sym (put_else s.pool.logged tag_of (Some p) z other) ∙ none)));
    each = λ j u at. let y = d.each j u at in record {
      begun = (let z = y.begun in omega arith);
      kept_begun = λ k a t. let z = y.kept_begun k a t in omega arith;
      own = λ g below. let z = y.own g below in record { stored_or_left = stored_or_left_longer (s.pool.core.frame g) u.upto (link u g).visited (link u g).left_to_write y.begun z.stored_or_left; done = λ e given. current_longer (s.pool.core.frame g).tag (no_done j u g at below e) (z.done e given) };
      kept = λ k g a t below. stored_or_left_longer (s.pool.core.frame g) a.upto (has_visited a g) (has_left_to_write a g) (y.kept_begun k a t) (y.kept k g a t below);
    };
  }

  enters_owe : Debts longer s.pool.core.frames (put s.pool.core.frame f (s.pool.core.frame f)) end' logged' (set s.pool.core.views i (has_written c (link v f).copied end' tag_of p (paged (make_entry p) s.pool f v)))
  enters_owe = let l : Link = link_after (make_entry p) (block_of s.pool.logged tag_of) (s.pool.core.frame f) (link v f) in let own = (entries_longer.each i v there).own f inside in
      debts_touched longer s.pool.core.frames s.pool.core.frame end' f (s.pool.core.frame f) (stays refl (λ e. e) (λ e. e)) logged' s.pool.core.views entries_longer inside (λ named goes. absurd (goes refl)) i v (has_written c (link v f).copied end' tag_of p (paged (make_entry p) s.pool f v)) l there
      (touches_at s h d i f v (has_written c (link v f).copied end' tag_of p (paged (make_entry p) s.pool f v)) l there live inside refl refl refl) (record { stored_or_left = own.stored_or_left; done = own.done })

-- a kind at a word
words_owe : (s : State) (h : HistoryInvariant s) (d : DebtsLaw s) (i : ℕ) (k : WordKind) (v : View) → get_elem? s.pool.core.views i ≡ some v → DebtsLaw (state_after_word k s i v)
words_owe s h d i begin_checkpoint v there = let w : View = after_word begin_checkpoint s v in let x = d.each i v there in let begun : BegunHere v w = record { emptied = refl; number = refl; next = refl; joined = refl; links = refl; partitions = refl; sizes = refl } in
    debts_set (taken_of s) s.pool.core.frames s.pool.core.frame s.end s.pool.logged s.pool.core.views d i w (record {
      begun = omega arith;
      kept_begun = x.kept_begun;
      own = λ f below. subst (LinkDebt (taken_of s) (s.pool.core.frame f) s.end) (sym (link_begun v w begun f)) (record { stored_or_left = λ p. absurd (cc); done = (x.own f below).done });
      kept = x.kept;
    })
words_owe s h d i k v there = aside_owe s h d i v (after_word k s v) there refl refl refl

pub debts_kept : {e : Event} {s t : State} → Step e s t → HistoryInvariant s → DebtsLaw s → DebtsLaw t
debts_kept (pools {s = s} (page_steps.cores {core' = core'} x) a) h d = subst (λ (g : ℕ → Option Page). Debts (taken_of s) core'.frames core'.frame s.end g core'.views) (sym (logged_stays s h x)) (pins_owe s h d x)
debts_kept (pools {s = s} (page_steps.touches i f k v there live inside a around) plain) h d = pages_owe s h d i f k v there live inside a plain
debts_kept (lanes {s = s} i q k v there live low a alone) h d = let w : View = stepped (laned k q v v) in same_lane s h d q (lane_after k (s.lane q)) (no_write_holds k s q (lane_hold v q) (s.lane q) alone) s.pool.logged (set s.pool.core.views i w) s.pool.core.frame (aside_owe s h d i v w there refl refl refl)
debts_kept (writes {s = s} i q f k v there live low inside a x) h d = subst (λ (g : ℕ → Option Page). Debts (taken_of (record s { lane = put s.lane q (lane_after k (s.lane q)) })) s.pool.core.frames (put s.pool.core.frame f (s.pool.core.frame f)) s.end g (set s.pool.core.views i (laned k q v (paged begin_write s.pool f v))))
    (λ j z. sym (put_same s.pool.logged (s.pool.core.frame f).tag (s.pool.logged (s.pool.core.frame f).tag) z refl) j) (writes_owe s h d i q f k v there live inside x)
debts_kept (notes {s = s} i q f noted k v there live low inside a x) h d = same_lane s h d q (s.lane q) (record { stored = refl; upto = refl; failed = refl }) (logged_after k (logged_noting k s f) (s.pool.core.frame f).tag) (set s.pool.core.views i (laned (lane_kinds.lane_back noted) q v (paged k (pool_noting k s f) f v))) (put s.pool.core.frame f (frame_after k (block_of (logged_noting k s f) (s.pool.core.frame f).tag) (s.pool.core.frame f))) (notes_owe s h d i q f noted k v there live low inside x)
debts_kept (logs {s = s} i k v there live a record_is) h d = aside_owe s h d i v (view_logged k v) there refl refl refl
debts_kept (enters {s = s} i f p c v there live inside x) h d = enters_owe s h d i f p c v there live inside x
debts_kept (reads {s = s} i f tag p v there live inside a) h d = aside_owe s h d i v (looked (seen.LogEnd s.end) (has_read s.end tag p v)) there refl refl refl
debts_kept (reads_size {s = s} i fork v there live a) h d = aside_owe s h d i v (looked (seen.LogEnd s.end) (has_seen_size s.end fork (size_hold v fork).blocks v)) there refl refl refl
debts_kept (words {s = s} i k v there live a) h d = words_owe s h d i k v there

pub debts_after : {es : List Event} {s t : State} → Run es s t → HistoryInvariant s → DebtsLaw s → DebtsLaw t
debts_after rests h d = d
debts_after (goes x r) h d = debts_after r (step_keeps x h) (debts_kept x h d)

pub debts_open : (c : Config) (store : Store) (page : Page) → DebtsLaw (opening c store page)
debts_open c store page = let w : View = first_view c.base c.frames c.partitions c.lanes in record {
  named = λ k tag e of. absurd (some-ne-none e (sym of.there));
  clean = λ f below named. absurd (named refl);
  unframed = λ tag named none k e of. absurd (some-ne-none e (sym of.there));
  positioned = λ tag k p e is of. absurd (some-ne-none e (sym of.there));
  unknown = λ tag none k e of. absurd (some-ne-none e (sym of.there));
  each = λ i v there. subst (ViewDebts (taken_of (opening c store page)) c.frames (λ _. empty_frame page) c.base) (at_only w v i there).0 (record {
    begun = omega arith;
    kept_begun = λ k x at. absurd (some-ne-none x (sym at));
    own = λ f below. subst (LinkDebt (taken_of (opening c store page)) (empty_frame page) 0) (sym (link_new c.frames c.partitions c.lanes 0 c.base f)) (record { stored_or_left = λ p. absurd (cc); done = λ e. absurd (cc) });
    kept = λ k f x at. absurd (some-ne-none x (sym at));
  });
}
