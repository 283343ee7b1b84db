-- What a change of a frame, of the lanes or of a view makes of the debts of checkpoints.
use Rattle.std.proofs.Common.{◌≡◌, ◌≢◌, ℕ, ◌<◌, ◌≤◌, Bool, true, false, ◌||◌, ◌&&◌, not, List, set, Option, sym, refl, ◌∙◌, subst, ⊎_elim, arith}
use Rattle.std.proofs.lemmas.Bool.{both_ways}
use mathlib.Core.Logic.{dite}
use mathlib.Core.Option.{some}
use native.Mathlib.Decide.{ℕ_discrete}
use lib.ListN.{get_elem?}
use Rattle.state_word.specs.declared.word.IoEnd.TheVariants.{ReadOk, WriteOk, Bad}
use Rattle.pin_core.specs.declared.view.JoinedCheckpoint.{JoinedCheckpoint}
use Rattle.pin_core.specs.declared.view.LastWrite.TheVariants.{Done}
use Rattle.pin_core.specs.declared.view.Link.{Link}
use Rattle.pin_core.specs.declared.view.View.{View}
use Rattle.pin_core.specs.State.{Frame, Page, no_tag, link}
use Rattle.pin_core.specs.Kinds as pin_kinds
use Rattle.page_core.specs.State.{Block}
use Rattle.page_core.specs.Kinds as kinds
use Rattle.page_core.specs.Kinds.{Kind, Allowed, frame_after, link_after}
use Rattle.history_core.specs.Log.{Entry, IsEntryOf, end_of}
use Rattle.history_core.specs.Steps.{IsPlain}
use Rattle.history_core.specs.Debts.{Taken, IsCurrent, IsStoredOrLeft, LinkDebt, ViewDebts, Debts, has_visited, has_left_to_write}
use Rattle.history_core.proofs.Blocks.{unframed_put}
use Rattle.history_core.proofs.Logs.{entry_at}
use Rattle.grid.specs.Shape.{put}
use Rattle.grid.proofs.Lists.{at_set, put_at, put_else}

-- How a frame may change
pub data FrameMoves (t : Taken) (fr fr' : Frame) : Type 0 where
  -- so that all entries of its block are in the lane, or that it has none
  settles : (fr'.tag ≢ no_tag → IsCurrent t fr'.tag) → FrameMoves t fr fr'
  -- or so that it keeps its block, and BM_CHECKPOINT_NEEDED where it had it, and doesn't become clean
  stays : fr'.tag ≡ fr.tag → (fr.word.checkpoint_needed ≡ true → fr'.word.checkpoint_needed ≡ true) → (fr'.word.dirty ≡ false → fr.word.dirty ≡ false) → FrameMoves t fr fr'

module _ (t : Taken) where
  stored_or_left_moves : (fr fr' : Frame) (upto : ℕ) (visited left_to_write : Bool) → FrameMoves t fr fr' → IsStoredOrLeft t fr upto visited left_to_write → IsStoredOrLeft t fr' upto visited left_to_write
  stored_or_left_moves fr fr' upto visited left_to_write (settles current) h = λ p named k e of le lt. let x = current named k e of in absurd (omega arith)
  stored_or_left_moves fr fr' upto visited left_to_write (stays same needed dirty) h = λ p named k e of le lt. let x = h p (λ z. named (same ∙ z)) k e (entry_at t.entries fr'.tag fr.tag k e same of) le (subst (λ (z : ℕ). t.upto z < end_of e) same lt) in (needed x.0, x.1)

  clean_moves : (fr fr' : Frame) → FrameMoves t fr fr' → (fr.tag ≢ no_tag → fr.word.dirty ≡ false → IsCurrent t fr.tag) → fr'.tag ≢ no_tag → fr'.word.dirty ≡ false → IsCurrent t fr'.tag
  clean_moves fr fr' (settles current) h named clean = current named
  clean_moves fr fr' (stays same needed dirty) h named clean = subst (IsCurrent t) (sym same) (h (λ z. named (same ∙ z)) (dirty clean))

  -- What a view has at a frame changes, and its checkpoint's marks stay
  pub record KeepsCheckpointMarks (l l' : Link) : Type 0 where
    pub visited : l'.visited ≡ l.visited
    pub left_to_write : l'.left_to_write ≡ l.left_to_write
    pub done : l'.last_write ≡ Done → l.last_write ≡ Done

  pub link_moves : (fr fr' : Frame) (upto : ℕ) (l l' : Link) → FrameMoves t fr fr' → KeepsCheckpointMarks l l' → LinkDebt t fr upto l → LinkDebt t fr' upto l'
  link_moves fr fr' upto l l' m marks h = record {
    stored_or_left = subst (λ (x : Bool). IsStoredOrLeft t fr' upto x l'.left_to_write) (sym marks.visited) (subst (λ (x : Bool). IsStoredOrLeft t fr' upto l.visited x) (sym marks.left_to_write) (stored_or_left_moves fr fr' upto l.visited l.left_to_write m h.stored_or_left));
    done = λ e named. by_move m e named;
  }
    where
      by_move : FrameMoves t fr fr' → l'.last_write ≡ Done → fr'.tag ≢ no_tag → IsCurrent t fr'.tag
      by_move (settles current) e named = current named
      by_move (stays same needed dirty) e named = subst (IsCurrent t) (sym same) (h.done (marks.done e) (λ z. named (same ∙ z)))

  -- Each kind of `pin_core`, where the block that a stored tag names has all its entries in the lane
  module _ (fr : Frame) (l : Link) (upto : ℕ) where
    abbrev pub Fresh : pin_kinds.Kind → Type 0
    Fresh (pin_kinds.store_tag tag) = IsCurrent t tag
    Fresh (pin_kinds.store_new_tag tag) = IsCurrent t tag
    Fresh _ = Unit {0}

    pub pins_move : (k : pin_kinds.Kind) → Fresh k → pin_kinds.Allowed k fr l → FrameMoves t fr (pin_kinds.frame_after k fr)
    pins_move (pin_kinds.store_tag tag) x a = settles (λ named. x)
    pins_move (pin_kinds.store_new_tag tag) x a = settles (λ named. x)
    pins_move pin_kinds.erase_tag x a = settles (λ named. absurd (named refl))
    pins_move pin_kinds.clear x a = settles (λ named. absurd (named a.unnamed))
    pins_move pin_kinds.load_state x a = stays refl (λ e. e) (λ e. e)
    pins_move (pin_kinds.pin ring) x a = stays refl (λ e. e) (λ e. e)
    pins_move (pin_kinds.pin_mapped tag ring) x a = stays refl (λ e. e) (λ e. e)
    pins_move pin_kinds.unpin x a = stays refl (λ e. e) (λ e. e)
    pins_move pin_kinds.lock_header x a = stays refl (λ e. e) (λ e. e)
    pins_move pin_kinds.unlock_header x a = stays refl (λ e. e) (λ e. e)
    pins_move pin_kinds.load_tag x a = stays refl (λ e. e) (λ e. e)
    pins_move pin_kinds.pin_victim x a = stays refl (λ e. e) (λ e. e)
    pins_move pin_kinds.lower_usage x a = stays refl (λ e. e) (λ e. e)
    pins_move pin_kinds.assign x a = stays refl (λ e. e) (λ e. e)

    -- a load passes a frame that isn't dirty, and takes one off the list that doesn't carry BM_CHECKPOINT_NEEDED
    loaded : (fr.tag ≢ no_tag → fr.word.dirty ≡ false → IsCurrent t fr.tag) → LinkDebt t fr upto l → IsStoredOrLeft t fr upto (l.visited || not fr.word.dirty) (l.left_to_write && fr.word.checkpoint_needed)
    loaded clean h p named k e of le lt = by_dirty fr.word.dirty refl
      where
        by_dirty : (b : Bool) → fr.word.dirty ≡ b → (fr.word.checkpoint_needed ≡ true) × ((l.left_to_write && fr.word.checkpoint_needed) ≡ true)
        by_dirty false z = let x = clean named z k e of in absurd (omega arith)
        by_dirty true z = let x = h.stored_or_left (or_left l.visited fr.word.dirty p z) named k e of le lt in (x.0, both_true l.left_to_write fr.word.checkpoint_needed x.1 x.0)
          where
            or_left : (a b : Bool) → (a || not b) ≡ true → b ≡ true → a ≡ true
            or_left true b y w = refl
            or_left false true y w = y
            or_left false false y w = w

            both_true : (a b : Bool) → a ≡ true → b ≡ true → (a && b) ≡ true
            both_true true true y w = refl
            both_true false b y w = absurd (cc)
            both_true true false y w = absurd (cc)

    pub pins_link : (k : pin_kinds.Kind) → Fresh k → pin_kinds.Allowed k fr l → (fr.tag ≢ no_tag → fr.word.dirty ≡ false → IsCurrent t fr.tag) → LinkDebt t fr upto l → LinkDebt t (pin_kinds.frame_after k fr) upto (pin_kinds.link_after k fr l)
    pins_link pin_kinds.load_state x a clean h = record { stored_or_left = loaded clean h; done = h.done }
    pins_link (pin_kinds.pin ring) x a clean h = link_moves fr (pin_kinds.frame_after (pin_kinds.pin ring) fr) upto l (pin_kinds.link_after (pin_kinds.pin ring) fr l) (pins_move (pin_kinds.pin ring) x a) (record { visited = refl; left_to_write = refl; done = λ e. e }) h
    pins_link (pin_kinds.pin_mapped tag ring) x a clean h = link_moves fr (pin_kinds.frame_after (pin_kinds.pin_mapped tag ring) fr) upto l (pin_kinds.link_after (pin_kinds.pin_mapped tag ring) fr l) (pins_move (pin_kinds.pin_mapped tag ring) x a) (record { visited = refl; left_to_write = refl; done = λ e. e }) h
    pins_link pin_kinds.unpin x a clean h = link_moves fr (pin_kinds.frame_after pin_kinds.unpin fr) upto l (pin_kinds.link_after pin_kinds.unpin fr l) (pins_move pin_kinds.unpin x a) (record { visited = refl; left_to_write = refl; done = λ e. e }) h
    pins_link pin_kinds.lock_header x a clean h = link_moves fr (pin_kinds.frame_after pin_kinds.lock_header fr) upto l (pin_kinds.link_after pin_kinds.lock_header fr l) (pins_move pin_kinds.lock_header x a) (record { visited = refl; left_to_write = refl; done = λ e. e }) h
    pins_link pin_kinds.unlock_header x a clean h = link_moves fr (pin_kinds.frame_after pin_kinds.unlock_header fr) upto l (pin_kinds.link_after pin_kinds.unlock_header fr l) (pins_move pin_kinds.unlock_header x a) (record { visited = refl; left_to_write = refl; done = λ e. e }) h
    pins_link (pin_kinds.store_tag tag) x a clean h = link_moves fr (pin_kinds.frame_after (pin_kinds.store_tag tag) fr) upto l (pin_kinds.link_after (pin_kinds.store_tag tag) fr l) (pins_move (pin_kinds.store_tag tag) x a) (record { visited = refl; left_to_write = refl; done = λ e. e }) h
    pins_link (pin_kinds.store_new_tag tag) x a clean h = link_moves fr (pin_kinds.frame_after (pin_kinds.store_new_tag tag) fr) upto l (pin_kinds.link_after (pin_kinds.store_new_tag tag) fr l) (pins_move (pin_kinds.store_new_tag tag) x a) (record { visited = refl; left_to_write = refl; done = λ e. e }) h
    pins_link pin_kinds.erase_tag x a clean h = link_moves fr (pin_kinds.frame_after pin_kinds.erase_tag fr) upto l (pin_kinds.link_after pin_kinds.erase_tag fr l) (pins_move pin_kinds.erase_tag x a) (record { visited = refl; left_to_write = refl; done = λ e. e }) h
    pins_link pin_kinds.load_tag x a clean h = link_moves fr (pin_kinds.frame_after pin_kinds.load_tag fr) upto l (pin_kinds.link_after pin_kinds.load_tag fr l) (pins_move pin_kinds.load_tag x a) (record { visited = refl; left_to_write = refl; done = λ e. e }) h
    pins_link pin_kinds.pin_victim x a clean h = link_moves fr (pin_kinds.frame_after pin_kinds.pin_victim fr) upto l (pin_kinds.link_after pin_kinds.pin_victim fr l) (pins_move pin_kinds.pin_victim x a) (record { visited = refl; left_to_write = refl; done = λ e. e }) h
    pins_link pin_kinds.lower_usage x a clean h = link_moves fr (pin_kinds.frame_after pin_kinds.lower_usage fr) upto l (pin_kinds.link_after pin_kinds.lower_usage fr l) (pins_move pin_kinds.lower_usage x a) (record { visited = refl; left_to_write = refl; done = λ e. e }) h
    pins_link pin_kinds.assign x a clean h = link_moves fr (pin_kinds.frame_after pin_kinds.assign fr) upto l (pin_kinds.link_after pin_kinds.assign fr l) (pins_move pin_kinds.assign x a) (record { visited = refl; left_to_write = refl; done = λ e. e }) h
    pins_link pin_kinds.clear x a clean h = link_moves fr (pin_kinds.frame_after pin_kinds.clear fr) upto l (pin_kinds.link_after pin_kinds.clear fr l) (pins_move pin_kinds.clear x a) (record { visited = refl; left_to_write = refl; done = λ e. e }) h

  -- Each plain kind of `page_core`
  module _ (fr : Frame) (b : Block) (l : Link) (upto : ℕ) where
    pub pages_move : (k : Kind) → IsPlain k → Allowed k b fr l → LinkDebt t fr upto l → FrameMoves t fr (frame_after k b fr)
    pages_move kinds.load_content x a h = stays refl (λ e. e) (λ e. e)
    pages_move kinds.mark_dirty x a h = stays refl (λ e. e) (λ e. absurd (both_ways _ e refl))
    pages_move kinds.share x a h = stays refl (λ e. e) (λ e. e)
    pages_move kinds.exclude x a h = stays refl (λ e. e) (λ e. e)
    pages_move kinds.unshare x a h = stays refl (λ e. e) (λ e. e)
    pages_move kinds.unexclude x a h = stays refl (λ e. e) (λ e. e)
    pages_move kinds.take_copy x a h = stays refl (λ e. e) (λ e. e)
    pages_move kinds.leave_copy x a h = stays refl (λ e. e) (λ e. e)
    pages_move kinds.page_out x a h = stays refl (λ e. e) (λ e. e)
    pages_move kinds.overwrite_logged x a h = stays refl (λ e. e) (λ e. e)
    pages_move (kinds.overwrite_read p) x a h = stays refl (λ e. e) (λ e. e)
    pages_move kinds.page_back x a h = stays refl (λ e. e) (λ e. e)
    pages_move (kinds.note_read p) x a h = absurd x
    pages_move kinds.note_zero x a h = stays refl (λ e. e) (λ e. e)
    pages_move kinds.begin_write x a h = absurd x
    pages_move (kinds.note_write done) x a h = absurd x
    pages_move (kinds.make_entry p) x a h = absurd x
    pages_move kinds.start_input x a h = stays refl (λ e. e) (λ e. e)
    pages_move kinds.start_output x a h = stays refl (λ e. e) (λ e. e)
    pages_move kinds.clear_just_dirtied x a h = stays refl (λ e. e) (λ e. e)
    pages_move (kinds.set_waiter number) x a h = stays refl (λ e. e) (λ e. e)
    pages_move kinds.clear_waiter x a h = stays refl (λ e. e) (λ e. e)
    pages_move kinds.need_checkpoint x a h = stays refl (λ e. refl) (λ e. e)
    pages_move (kinds.end_io ReadOk) x a h = stays refl (λ e. e) (λ e. e)
    pages_move (kinds.end_io WriteOk) x a h = settles (λ named. h.done a.ends.written named)
    pages_move (kinds.end_io Bad) x a h = stays refl (λ e. e) (λ e. e)

    pub pages_link : (k : Kind) → IsPlain k → Allowed k b fr l → LinkDebt t fr upto l → LinkDebt t (frame_after k b fr) upto (link_after k b fr l)
    pages_link kinds.need_checkpoint x a h = record { stored_or_left = λ p named k e of le lt. (refl, refl); done = h.done }
    pages_link (kinds.end_io end) x a h = link_moves fr (frame_after (kinds.end_io end) b fr) upto l (link_after (kinds.end_io end) b fr l) (pages_move (kinds.end_io end) x a h) (record { visited = refl; left_to_write = refl; done = λ e. absurd (cc) }) h
    pages_link kinds.load_content x a h = h
    pages_link kinds.mark_dirty x a h = link_moves fr (frame_after kinds.mark_dirty b fr) upto l (link_after kinds.mark_dirty b fr l) (pages_move kinds.mark_dirty x a h) (record { visited = refl; left_to_write = refl; done = λ e. e }) h
    pages_link kinds.share x a h = record { stored_or_left = h.stored_or_left; done = h.done }
    pages_link kinds.exclude x a h = record { stored_or_left = h.stored_or_left; done = h.done }
    pages_link kinds.unshare x a h = record { stored_or_left = h.stored_or_left; done = h.done }
    pages_link kinds.unexclude x a h = record { stored_or_left = h.stored_or_left; done = h.done }
    pages_link kinds.take_copy x a h = record { stored_or_left = h.stored_or_left; done = h.done }
    pages_link kinds.leave_copy x a h = record { stored_or_left = h.stored_or_left; done = h.done }
    pages_link kinds.page_out x a h = record { stored_or_left = h.stored_or_left; done = h.done }
    pages_link kinds.overwrite_logged x a h = record { stored_or_left = h.stored_or_left; done = h.done }
    pages_link (kinds.overwrite_read p) x a h = record { stored_or_left = h.stored_or_left; done = h.done }
    pages_link kinds.page_back x a h = record { stored_or_left = h.stored_or_left; done = h.done }
    pages_link (kinds.note_read p) x a h = absurd x
    pages_link kinds.note_zero x a h = record { stored_or_left = h.stored_or_left; done = h.done }
    pages_link kinds.begin_write x a h = absurd x
    pages_link (kinds.note_write done) x a h = absurd x
    pages_link (kinds.make_entry p) x a h = absurd x
    pages_link kinds.start_input x a h = record { stored_or_left = h.stored_or_left; done = h.done }
    pages_link kinds.start_output x a h = record { stored_or_left = h.stored_or_left; done = h.done }
    pages_link kinds.clear_just_dirtied x a h = record { stored_or_left = h.stored_or_left; done = h.done }
    pages_link (kinds.set_waiter number) x a h = record { stored_or_left = h.stored_or_left; done = h.done }
    pages_link kinds.clear_waiter x a h = record { stored_or_left = h.stored_or_left; done = h.done }

-- The view w has at the frame f the link l, elsewhere the links of v, and the checkpoints of v
pub record Touched (v w : View) (f : ℕ) (l : Link) : Type 0 where
  pub upto : w.upto ≡ v.upto
  pub kept : w.joined_checkpoints ≡ v.joined_checkpoints
  pub here : link w f ≡ l
  pub others : (g : ℕ) → g ≢ f → link w g ≡ link v g

-- A frame changes, and a view there
module _ (t : Taken) (n : ℕ) (frame : ℕ → Frame) (end : ℕ) (f : ℕ) (fr : Frame) (moves : FrameMoves t (frame f) fr) where
  at_frame : (P : ℕ → Frame → Type 0) → (g : ℕ) → (g ≡ f → P g fr) → (g ≢ f → P g (frame g)) → P g (put frame f fr g)
  at_frame P g x y = dite (ℕ_discrete g f) (λ e. subst (P g) (sym (put_at frame f fr g e)) (x e)) (λ o. subst (P g) (sym (put_else frame f fr g o)) (y o))

  -- a view that stays
  view_moves : (u : View) → ViewDebts t n frame end u → ViewDebts t n (put frame f fr) end u
  view_moves u h = record {
    begun = h.begun;
    kept_begun = h.kept_begun;
    own = λ g below. at_frame (λ k x. LinkDebt t x u.upto (link u k)) g (λ e. link_moves t (frame g) fr u.upto (link u g) (link u g) (subst (λ (k : ℕ). FrameMoves t (frame k) fr) (sym e) moves) (record { visited = refl; left_to_write = refl; done = λ z. z }) (h.own g below)) (λ o. h.own g below);
    kept = λ k g c at below. at_frame (λ m x. IsStoredOrLeft t x c.upto (has_visited c m) (has_left_to_write c m)) g (λ e. stored_or_left_moves t (frame g) fr c.upto (has_visited c g) (has_left_to_write c g) (subst (λ (m : ℕ). FrameMoves t (frame m) fr) (sym e) moves) (h.kept k g c at below)) (λ o. h.kept k g c at below);
  }

  -- and one that changes
  view_touched : (v w : View) (l : Link) → Touched v w f l → LinkDebt t fr v.upto l → ViewDebts t n frame end v → ViewDebts t n (put frame f fr) end w
  view_touched v w l x debt h = let m = view_moves v h in record {
    begun = subst (λ (k : ℕ). k ≤ end) (sym x.upto) h.begun;
    kept_begun = λ k c at. h.kept_begun k c (subst (λ (y : List JoinedCheckpoint). get_elem? y k ≡ some c) x.kept at);
    own = λ g below. dite (ℕ_discrete g f)
        (λ (e : g ≡ f). subst (λ (k : ℕ). LinkDebt t (put frame f fr g) k (link w g)) (sym x.upto) (subst (λ (y : Frame). LinkDebt t y v.upto (link w g)) (sym (put_at frame f fr g e)) (subst (λ (k : ℕ). LinkDebt t fr v.upto (link w k)) (sym e) (subst (LinkDebt t fr v.upto) (sym x.here) debt))))
        (λ (o : g ≢ f). subst (λ (k : ℕ). LinkDebt t (put frame f fr g) k (link w g)) (sym x.upto) (subst (LinkDebt t (put frame f fr g) v.upto) (sym (x.others g o)) (m.own g below)));
    kept = λ k g c at below. m.kept k g c (subst (λ (y : List JoinedCheckpoint). get_elem? y k ≡ some c) x.kept at) below;
  }

  pub debts_touched : (logged : ℕ → Option Page) (views : List View) → Debts t n frame end logged views → f < n → ((frame f).tag ≢ no_tag → fr.tag ≢ (frame f).tag → IsCurrent t (frame f).tag) → (i : ℕ) (v w : View) (l : Link) → get_elem? views i ≡ some v → Touched v w f l → LinkDebt t fr v.upto l → Debts t n (put frame f fr) end logged (set views i w)
  debts_touched logged views h inside goes i v w l there x debt = record {
    named = h.named;
    clean = λ g below. at_frame (λ k y. y.tag ≢ no_tag → y.word.dirty ≡ false → IsCurrent t y.tag) g (λ e. clean_moves t (frame f) fr moves (h.clean f inside)) (λ o. h.clean g below);
    unframed = unframed_put (IsCurrent t) n frame f fr inside h.unframed goes;
    positioned = h.positioned;
    unknown = h.unknown;
    each = λ j u at. ⊎_elim (λ (y : (j ≡ i) × (w ≡ u)). subst (ViewDebts t n (put frame f fr) end) y.1 (view_touched v w l x debt (h.each i v there))) (λ (y : (j ≢ i) × (get_elem? views j ≡ some u)). view_moves u (h.each j u y.1)) (at_set views i j w u at);
  }

-- A view changes beside its links and checkpoints
module _ (t : Taken) (n : ℕ) (frame : ℕ → Frame) (end : ℕ) (logged : ℕ → Option Page) (views : List View) (h : Debts t n frame end logged views) where
  pub debts_set : (i : ℕ) (w : View) → ViewDebts t n frame end w → Debts t n frame end logged (set views i w)
  debts_set i w x = record {
    named = h.named;
    clean = h.clean;
    unframed = h.unframed;
    positioned = h.positioned;
    unknown = h.unknown;
    each = λ j u at. ⊎_elim (λ (y : (j ≡ i) × (w ≡ u)). subst (ViewDebts t n frame end) y.1 x) (λ (y : (j ≢ i) × (get_elem? views j ≡ some u)). h.each j u y.1) (at_set views i j w u at);
  }

  pub debts_aside : (i : ℕ) (v w : View) → get_elem? views i ≡ some v → w.upto ≡ v.upto → w.joined_checkpoints ≡ v.joined_checkpoints → w.links ≡ v.links → Debts t n frame end logged (set views i w)
  debts_aside i v w there upto kept links = let d = h.each i v there in debts_set i w (record {
    begun = subst (λ (k : ℕ). k ≤ end) (sym upto) d.begun;
    kept_begun = λ k c at. d.kept_begun k c (subst (λ (y : List JoinedCheckpoint). get_elem? y k ≡ some c) kept at);
    own = λ f below. subst (λ (k : ℕ). LinkDebt t (frame f) k (link w f)) (sym upto) (subst (λ (y : List Link). LinkDebt t (frame f) v.upto (link (record w { links = y }) f)) (sym links) (d.own f below));
    kept = λ k f c at below. d.kept k f c (subst (λ (y : List JoinedCheckpoint). get_elem? y k ≡ some c) kept at) below;
  })

-- The lanes change, and no block's entries leave its lane
module _ (t t' : Taken) (same : t'.entries ≡ t.entries) (grows : (tag : ℕ) → t.upto tag ≤ t'.upto tag) where
  still_there : (tag k : ℕ) (e : Entry) → IsEntryOf t'.entries tag k e → IsEntryOf t.entries tag k e
  still_there tag k e of = subst (λ (y : List Entry). IsEntryOf y tag k e) same of

  current_later : (tag : ℕ) → IsCurrent t tag → IsCurrent t' tag
  current_later tag h k e of = let x = h k e (still_there tag k e of) in let y = grows tag in omega arith

  stored_or_left_later : (fr : Frame) (upto : ℕ) (visited left_to_write : Bool) → IsStoredOrLeft t fr upto visited left_to_write → IsStoredOrLeft t' fr upto visited left_to_write
  stored_or_left_later fr upto visited left_to_write h p named k e of le lt = let y = grows fr.tag in h p named k e (still_there fr.tag k e of) le (omega arith)

  pub debts_later : (n : ℕ) (frame : ℕ → Frame) (end : ℕ) (logged : ℕ → Option Page) (views : List View) → Debts t n frame end logged views → Debts t' n frame end logged views
  debts_later n frame end logged views h = record {
    named = λ k tag e of. h.named k tag e (still_there tag k e of);
    clean = λ f below named clean. current_later (frame f).tag (h.clean f below named clean);
    unframed = λ tag named none. current_later tag (h.unframed tag named none);
    positioned = λ tag k p e is of. h.positioned tag k p e is (still_there tag k e of);
    unknown = λ tag none. current_later tag (h.unknown tag none);
    each = λ i v there. let d = h.each i v there in record {
      begun = d.begun;
      kept_begun = d.kept_begun;
      own = λ f below. let x = d.own f below in record { stored_or_left = stored_or_left_later (frame f) v.upto (link v f).visited (link v f).left_to_write x.stored_or_left; done = λ e named. current_later (frame f).tag (x.done e named) };
      kept = λ k f c at below. stored_or_left_later (frame f) c.upto (has_visited c f) (has_left_to_write c f) (d.kept k f c at below);
    };
  }
