-- Each step of every kind keeps what holds of the sizes of forks.
use Rattle.std.proofs.Common.{◌≡◌, ◌≢◌, ◌⊎◌, ℕ, suc, ◌+◌, ◌<◌, ◌≤◌, Bool, true, false, List, [], ◌∷◌, ◌++◌, Some, Contains, ◌&&◌, nat_le, ne_eqb, length, set, sym, refl, ap, ◌∙◌, subst, inl, inr, ⊎_elim, arith}
use Rattle.std.proofs.lemmas.Bool.{false≢true}
use Rattle.std.proofs.lemmas.Option.{none-some}
use mathlib.Core.Logic.{dite}
use mathlib.Core.Option.{some, some-injective}
use native.Mathlib.Decide.{ℕ_discrete}
use lib.ListN.{get_elem?}
use Rattle.pin_core.specs.declared.view.Role.TheVariants.{Absent}
use Rattle.pin_core.specs.declared.view.SizeRight.TheVariants as size_right
use Rattle.pin_core.specs.declared.view.SizeHold.{SizeHold}
use Rattle.pin_core.specs.declared.view.Link.{Link}
use Rattle.pin_core.specs.declared.view.View.{View}
use Rattle.pin_core.specs.State.{State, Frame, Partition, SizeWord, Config, Page, no_tag, no_size, size_in, size_hold, link, tag_fork, tag_block, is_block, is_cut, new_view, first_view, emptied_view, joined_view, split_state, joined_state, opening, opened_size}
use Rattle.pin_core.specs.Tallies.{Tally, pins, weigh, frame_shape}
use Rattle.pin_core.specs.Invariant.{FrameLaw, LinkLaw, PinInvariant}
use Rattle.pin_core.specs.Kinds.{Kind, load_state, pin, pin_mapped, unpin, lock_header, unlock_header, store_tag, store_new_tag, erase_tag, load_tag, pin_victim, lower_usage, assign, clear, IsAlone, Allowed, frame_after, link_after, view_after}
use Rattle.pin_core.specs.Turns.{view_turned}
use Rattle.pin_core.specs.Sizes.{SizeTally, sharers, excluders, unstored, size_weight, size_shape, SizeLaw, SizeHoldLaw, size_part, MayResize, IsNoted, IsAtSize, SizesLaw}
use Rattle.pin_core.specs.Steps.{AllowedAround, MayEnter, MayEnterNew, HoldsNothing, state_after, Event, Step, touches, turns, sized, splits, joins, Run, rests, goes}
use Rattle.grid.specs.Shape.{Grid, put, tallies, total}
use Rattle.grid.proofs.Grids.{steady, grows}
use Rattle.grid.proofs.Lists.{at_set, at_end, at_only, at_longer, set_here, set_else, puts}
use Rattle.grid.proofs.Sums.{term_le, terms_le}
use Rattle.pin_core.proofs.Views.{link_new}
use Rattle.pin_core.proofs.Stepping.{relinked, untagged, step_keeps}
use Rattle.pin_core.proofs.Sizing.{rights_differ, noted_stays, exclusive_stands, unmade_finds, excludes_others, size_keeps_law}

-- A view changes, with the frames and the partitions, and with what it notes and has seen; no tag and no right changes: what a crate above has to show of a kind of its own
module _ (s : State) (h : SizesLaw s) (i : ℕ) (v w : View) (frame' : ℕ → Frame) (part' : ℕ → Partition) (there : get_elem? s.views i ≡ some v) (sizes : w.sizes ≡ v.sizes) where
  abbrev changed : State
  changed = record s { frame = frame'; partition = part'; views = set s.views i w }

  same_hold : (g : ℕ) → size_hold w g ≡ size_hold v g
  same_hold g = ap (λ (l : List SizeHold). size_in l g) sizes

  words_same : (n : ℕ) → Grid size_shape size_part n s.size (λ _. tt) (set s.views i w)
  words_same n = steady size_shape size_part n s.size (λ _. tt) s.views (h.words n) i v w there refl same_hold

  may_same : (g : ℕ) → MayResize s v g → MayResize changed w g
  may_same g a = record { right = ap (λ (x : SizeHold). x.right) (same_hold g) ∙ a.right; unmade = ap (λ (x : SizeHold). x.made) (same_hold g) ∙ a.unmade }

  pub frames_keep : ((f : ℕ) → (frame' f).tag ≡ (s.frame f).tag) → ((f : ℕ) → f < s.frames → (link w f).noted ≡ (link v f).noted) → ((f : ℕ) → f < s.frames → (link w f).inside ≡ true → (link v f).inside ≡ true) → SizesLaw changed
  frames_keep tags noteds insides = record {
    words = words_same;
    blocks = λ f below. subst (λ (z : ℕ). z ≢ no_tag → (is_block s z ≡ true) ⊎ IsNoted changed f) (sym (tags f)) (λ named. ⊎_elim (λ (e : is_block s (s.frame f).tag ≡ true). inl e) (λ (e : IsNoted s f). inr (noted_stays s.views i v w f there (noteds f below) e)) (h.blocks f below named));
    noted = λ j f u here below e. subst (λ (z : ℕ). IsAtSize changed u z) (sym (tags f)) (⊎_elim
        (λ (t : (j ≡ i) × (w ≡ u)). let at = h.noted i f v there below (sym (noteds f below) ∙ ap (λ (x : View). (link x f).noted) t.1 ∙ e) in subst (λ (x : View). IsAtSize changed x (s.frame f).tag) t.1 (record { may = may_same (tag_fork (s.frame f).tag) at.may; at = at.at }))
        (λ (t : (j ≢ i) × (get_elem? s.views j ≡ some u)). let at = h.noted j f u t.1 below e in record { may = record { right = at.may.right; unmade = at.may.unmade }; at = at.at }) (at_set s.views i j w u here));
    insides = λ j f u here below e. subst (λ (z : ℕ). is_block s z ≡ true) (sym (tags f)) (⊎_elim
        (λ (t : (j ≡ i) × (w ≡ u)). h.insides i f v there below (insides f below (ap (λ (x : View). (link x f).inside) t.1 ∙ e)))
        (λ (t : (j ≢ i) × (get_elem? s.views j ≡ some u)). h.insides j f u t.1 below e) (at_set s.views i j w u here));
    passed = λ j g n f u here to has below. subst (λ (z : ℕ). z ≢ no_tag → is_cut g n z ≡ false) (sym (tags f)) (λ named. ⊎_elim
        (λ (t : (j ≡ i) × (w ≡ u)). let now : size_hold u g ≡ size_hold v g = ap (λ (x : View). size_hold x g) (sym t.1) ∙ same_hold g in
        h.passed i g n f v there (ap (λ (x : SizeHold). x.cut_to) (sym now) ∙ to) (subst (λ (x : SizeHold). Contains x.passed f) now has) below named)
        (λ (t : (j ≢ i) × (get_elem? s.views j ≡ some u)). h.passed j g n f u t.1 to has below named) (at_set s.views i j w u here));
    quiet = h.quiet;
  }

  -- the tag word of the frame g is stored, which no other view notes or has seen inside
  pub tag_keeps : (g : ℕ) → ((f : ℕ) → f ≢ g → (frame' f).tag ≡ (s.frame f).tag) → ((f : ℕ) → f ≢ g → link w f ≡ link v f) → (link w g).inside ≡ false
      → ((j : ℕ) (u : View) → j ≢ i → get_elem? s.views j ≡ some u → ((link u g).noted ≡ false) × ((link u g).inside ≡ false))
      → ((frame' g).tag ≢ no_tag → (is_block s (frame' g).tag ≡ true) ⊎ ((link w g).noted ≡ true))
      → ((link w g).noted ≡ true → IsAtSize s v (frame' g).tag)
      → ((j fork n : ℕ) (u : View) → get_elem? s.views j ≡ some u → (size_hold u fork).cut_to ≡ Some n → Contains (size_hold u fork).passed g → (frame' g).tag ≢ no_tag → is_cut fork n (frame' g).tag ≡ false)
      → SizesLaw changed
  tag_keeps g tags links unseen others block at_size passes = record {
    words = words_same;
    blocks = λ f below named. dite (ℕ_discrete f g)
        (λ same. ⊎_elim (λ (e : is_block s (frame' g).tag ≡ true). inl (ap (λ (z : ℕ). is_block s (frame' z).tag) same ∙ e)) (λ (e : (link w g).noted ≡ true). inr (i, w, set_here s.views i v w there, ap (λ (z : ℕ). (link w z).noted) same ∙ e)) (block (λ e. named (ap (λ (z : ℕ). (frame' z).tag) same ∙ e))))
        (λ o. ⊎_elim (λ (e : is_block s (s.frame f).tag ≡ true). inl (ap (is_block s) (tags f o) ∙ e)) (λ (e : IsNoted s f). inr (noted_stays s.views i v w f there (ap (λ (x : Link). x.noted) (links f o)) e)) (h.blocks f below (λ e. named (tags f o ∙ e))));
    noted = λ j f u here below e. ⊎_elim
        (λ (t : (j ≡ i) × (w ≡ u)). let now : (link w f).noted ≡ true = ap (λ (x : View). (link x f).noted) t.1 ∙ e in subst (λ (x : View). IsAtSize changed x (frame' f).tag) t.1 (dite (ℕ_discrete f g)
        (λ same. subst (λ (z : ℕ). IsAtSize changed w (frame' z).tag) (sym same) (let at = at_size (ap (λ (z : ℕ). (link w z).noted) (sym same) ∙ now) in record { may = may_same (tag_fork (frame' g).tag) at.may; at = at.at }))
        (λ o. subst (λ (z : ℕ). IsAtSize changed w z) (sym (tags f o)) (let at = h.noted i f v there below (sym (ap (λ (x : Link). x.noted) (links f o)) ∙ now) in record { may = may_same (tag_fork (s.frame f).tag) at.may; at = at.at }))))
        (λ (t : (j ≢ i) × (get_elem? s.views j ≡ some u)). dite (ℕ_discrete f g)
        (λ same. let x = (others j u t.0 t.1).0 in let y = subst (λ (z : ℕ). (link u z).noted ≡ true) same e in absurd (false≢true (sym x ∙ y)))
        (λ o. subst (λ (z : ℕ). IsAtSize changed u z) (sym (tags f o)) (let at = h.noted j f u t.1 below e in record { may = record { right = at.may.right; unmade = at.may.unmade }; at = at.at }))) (at_set s.views i j w u here);
    insides = λ j f u here below e. dite (ℕ_discrete f g)
        (λ same. ⊎_elim
        (λ (t : (j ≡ i) × (w ≡ u)). absurd (false≢true (sym unseen ∙ ap (λ (z : ℕ). (link w z).inside) (sym same) ∙ ap (λ (x : View). (link x f).inside) t.1 ∙ e)))
        (λ (t : (j ≢ i) × (get_elem? s.views j ≡ some u)). let x = (others j u t.0 t.1).1 in let y = subst (λ (z : ℕ). (link u z).inside ≡ true) same e in absurd (false≢true (sym x ∙ y))) (at_set s.views i j w u here))
        (λ o. ap (is_block s) (tags f o) ∙ ⊎_elim
        (λ (t : (j ≡ i) × (w ≡ u)). h.insides i f v there below (ap (λ (x : Link). x.inside) (sym (links f o)) ∙ ap (λ (x : View). (link x f).inside) t.1 ∙ e))
        (λ (t : (j ≢ i) × (get_elem? s.views j ≡ some u)). h.insides j f u t.1 below e) (at_set s.views i j w u here));
    passed = λ j fork n f u here to has below named. let r = old_hold j fork u here in let to' = ap (λ (x : SizeHold). x.cut_to) (sym r.3) ∙ to in let has' = subst (λ (x : SizeHold). Contains x.passed f) r.3 has in dite (ℕ_discrete f g)
        (λ same. subst (λ (z : ℕ). is_cut fork n (frame' z).tag ≡ false) (sym same) (passes r.0 fork n r.1 r.2 to' (subst (λ (z : ℕ). Contains (size_hold r.1 fork).passed z) same has') (λ e. named (ap (λ (z : ℕ). (frame' z).tag) same ∙ e))))
        (λ o. ap (is_cut fork n) (tags f o) ∙ h.passed r.0 fork n f r.1 r.2 to' has' below (λ e. named (tags f o ∙ e)));
    quiet = h.quiet;
  }
    where
      -- what a view has of a size, some view had
      old_hold : (j fork : ℕ) (u : View) → get_elem? (set s.views i w) j ≡ some u → (k : ℕ) × (x : View) × (get_elem? s.views k ≡ some x) × (size_hold u fork ≡ size_hold x fork)
      old_hold j fork u here = ⊎_elim (λ (t : (j ≡ i) × (w ≡ u)). (i, v, there, ap (λ (x : View). size_hold x fork) (sym t.1) ∙ same_hold fork)) (λ (t : (j ≢ i) × (get_elem? s.views j ≡ some u)). (j, u, t.1, refl)) (at_set s.views i j w u here)

-- a view that doesn't pin a frame neither notes it nor has seen it inside
unpinned_link : (fr : Frame) (l : Link) → LinkLaw fr l → l.role ≡ Absent → (l.noted ≡ false) × (l.inside ≡ false)
unpinned_link fr l h e = (not_noted fr l h e, not_inside fr l h e)
  where
    not_noted : (fr : Frame) (l : Link) → LinkLaw fr l → l.role ≡ Absent → l.noted ≡ false
    not_noted fr l h e = grind (arith, h, e)

    not_inside : (fr : Frame) (l : Link) → LinkLaw fr l → l.role ≡ Absent → l.inside ≡ false
    not_inside fr l h e = grind (arith, h, e)

-- beside the one pin of a frame no other view notes it, or has seen it inside
alone_link : (fr : Frame) (l m : Link) (t : Tally → ℕ) → FrameLaw fr t → LinkLaw fr m → weigh pins l + weigh pins m ≤ t pins → IsAlone fr l → (m.noted ≡ false) × (m.inside ≡ false)
alone_link fr l m t q d le a = unpinned_link fr m d (no_pin fr l m t q le a)
  where
    no_pin : (fr : Frame) (l m : Link) (t : Tally → ℕ) → FrameLaw fr t → weigh pins l + weigh pins m ≤ t pins → IsAlone fr l → m.role ≡ Absent
    no_pin fr l m t q le a = grind (arith, q, le, a)

-- a view that gives a frame a tag notes none there
unnoted_link : (fr : Frame) (l : Link) → LinkLaw fr l → fr.tag ≡ no_tag → l.noted ≡ false
unnoted_link fr l h e = grind (arith, h, e)

-- a cut is passed for under an exclusive right
cutting_excludes : (w : SizeWord) (h : SizeHold) (n : ℕ) → SizeHoldLaw w h → h.cut_to ≡ Some n → h.right ≡ size_right.Exclusive
cutting_excludes w h n c e = grind (arith, c, e)

sharing_excludes : (w : SizeWord) (x y : SizeHold) (t : SizeTally → ℕ) → SizeLaw w t → size_weight sharers x ≤ t sharers → size_weight excluders y ≤ t excluders → x.right ≡ size_right.Shared → y.right ≡ size_right.Exclusive → ⊥
sharing_excludes w x y t q a b e f = grind (arith, q, a, b, e, f)

other_fork : (fork n tag : ℕ) → tag_fork tag ≢ fork → is_cut fork n tag ≡ false
other_fork fork n tag o = ap (λ b. b && nat_le n (tag_block tag)) (ne_eqb (tag_fork tag) fork o)

-- the kinds at a frame that store no tag leave what is noted, and see nothing inside
noted_by_kind : (k : Kind) (fr : Frame) (l : Link) → (frame_after k fr).tag ≡ fr.tag → ((tag : ℕ) → k ≢ store_new_tag tag) → k ≢ erase_tag → (link_after k fr l).noted ≡ l.noted
noted_by_kind load_state fr l e a b = refl
noted_by_kind (pin ring) fr l e a b = refl
noted_by_kind (pin_mapped tag ring) fr l e a b = refl
noted_by_kind unpin fr l e a b = refl
noted_by_kind lock_header fr l e a b = refl
noted_by_kind unlock_header fr l e a b = refl
noted_by_kind (store_tag tag) fr l e a b = refl
noted_by_kind (store_new_tag tag) fr l e a b = absurd (a tag refl)
noted_by_kind erase_tag fr l e a b = absurd (b refl)
noted_by_kind load_tag fr l e a b = refl
noted_by_kind pin_victim fr l e a b = refl
noted_by_kind lower_usage fr l e a b = refl
noted_by_kind assign fr l e a b = refl
noted_by_kind clear fr l e a b = refl

inside_by_kind : (k : Kind) (fr : Frame) (l : Link) → (link_after k fr l).inside ≡ true → l.inside ≡ true
inside_by_kind load_state fr l e = e
inside_by_kind (pin ring) fr l e = e
inside_by_kind (pin_mapped tag ring) fr l e = e
inside_by_kind unpin fr l e = absurd (false≢true e)
inside_by_kind lock_header fr l e = e
inside_by_kind unlock_header fr l e = e
inside_by_kind (store_tag tag) fr l e = absurd (false≢true e)
inside_by_kind (store_new_tag tag) fr l e = absurd (false≢true e)
inside_by_kind erase_tag fr l e = absurd (false≢true e)
inside_by_kind load_tag fr l e = e
inside_by_kind pin_victim fr l e = e
inside_by_kind lower_usage fr l e = e
inside_by_kind assign fr l e = e
inside_by_kind clear fr l e = e

-- Backend i, whose view is v, makes a step at the frame f
module _ (s : State) (h : SizesLaw s) (p : PinInvariant s) (i f : ℕ) (v : View) (there : get_elem? s.views i ≡ some v) (live : v.emptied ≡ false) (inside : f < s.frames) where
  abbrev at_frame : Kind → View
  at_frame k = view_after k s.partition_of f (s.frame f) (link v f) v

  link_here : (k : Kind) → link (at_frame k) f ≡ link_after k (s.frame f) (link v f)
  link_here k = (relinked s p i f v there live inside k).here

  link_else : (k : Kind) (g : ℕ) → g ≢ f → link (at_frame k) g ≡ link v g
  link_else k g o = (relinked s p i f v there live inside k).else g o

  plain_step : (k : Kind) (part' : ℕ → Partition) → (frame_after k (s.frame f)).tag ≡ (s.frame f).tag → ((tag : ℕ) → k ≢ store_new_tag tag) → k ≢ erase_tag → SizesLaw (record s { frame = put s.frame f (frame_after k (s.frame f)); partition = part'; views = set s.views i (at_frame k) })
  plain_step k part' tag a b = frames_keep s h i v (at_frame k) (put s.frame f (frame_after k (s.frame f))) part' there refl
      (λ g. dite (ℕ_discrete g f) (λ e. ap (λ (x : Frame). x.tag) ((puts s.frame f (frame_after k (s.frame f)) g).same e) ∙ tag ∙ ap (λ (z : ℕ). (s.frame z).tag) (sym e)) (λ o. ap (λ (x : Frame). x.tag) ((puts s.frame f (frame_after k (s.frame f)) g).other o)))
      (λ g _. dite (ℕ_discrete g f) (λ e. ap (λ (z : ℕ). (link (at_frame k) z).noted) e ∙ ap (λ (x : Link). x.noted) (link_here k) ∙ noted_by_kind k (s.frame f) (link v f) tag a b ∙ ap (λ (z : ℕ). (link v z).noted) (sym e)) (λ o. ap (λ (x : Link). x.noted) (link_else k g o)))
      (λ g _ e. dite (ℕ_discrete g f) (λ same. ap (λ (z : ℕ). (link v z).inside) same ∙ inside_by_kind k (s.frame f) (link v f) (sym (ap (λ (z : ℕ). (link (at_frame k) z).inside) same ∙ ap (λ (x : Link). x.inside) (link_here k)) ∙ e)) (λ o. sym (ap (λ (x : Link). x.inside) (link_else k g o)) ∙ e))

  -- a kind that stores the tag word, with one pin there
  tag_step : (k : Kind) (part' : ℕ → Partition) → IsAlone (s.frame f) (link v f) → (link_after k (s.frame f) (link v f)).inside ≡ false
      → ((frame_after k (s.frame f)).tag ≢ no_tag → (is_block s (frame_after k (s.frame f)).tag ≡ true) ⊎ ((link_after k (s.frame f) (link v f)).noted ≡ true))
      → ((link_after k (s.frame f) (link v f)).noted ≡ true → IsAtSize s v (frame_after k (s.frame f)).tag)
      → ((j fork n : ℕ) (u : View) → get_elem? s.views j ≡ some u → (size_hold u fork).cut_to ≡ Some n → Contains (size_hold u fork).passed f → (frame_after k (s.frame f)).tag ≢ no_tag → is_cut fork n (frame_after k (s.frame f)).tag ≡ false)
      → SizesLaw (record s { frame = put s.frame f (frame_after k (s.frame f)); partition = part'; views = set s.views i (at_frame k) })
  tag_step k part' alone unseen block at_size passes = let fr' : Frame = frame_after k (s.frame f) in let is : (put s.frame f fr' f).tag ≡ fr'.tag = ap (λ (x : Frame). x.tag) ((puts s.frame f fr' f).same refl) in
      let noted_is : (link (at_frame k) f).noted ≡ (link_after k (s.frame f) (link v f)).noted = ap (λ (x : Link). x.noted) (link_here k) in
      tag_keeps s h i v (at_frame k) (put s.frame f fr') part' there refl f (λ g o. ap (λ (x : Frame). x.tag) ((puts s.frame f fr' g).other o)) (link_else k) (ap (λ (x : Link). x.inside) (link_here k) ∙ unseen)
      (λ j u o here. alone_link (s.frame f) (link v f) (link u f) (tallies frame_shape s.views f) (p.grid.columns f inside) (p.grid.cells j u f here inside) (terms_le (λ (x : View). weigh pins (link x f)) s.views i j v u o there here) alone)
      (λ named. ⊎_elim (λ (e : is_block s fr'.tag ≡ true). inl (ap (is_block s) is ∙ e)) (λ (e : (link_after k (s.frame f) (link v f)).noted ≡ true). inr (noted_is ∙ e)) (block (λ e. named (is ∙ e))))
      (λ e. subst (λ (z : ℕ). IsAtSize s v z) (sym is) (at_size (sym noted_is ∙ e)))
      (λ j fork n u here to has named. ap (is_cut fork n) is ∙ passes j fork n u here to has (λ e. named (is ∙ e)))

  bare : (tag : ℕ) → Allowed (store_tag tag) (s.frame f) (link v f) → (link v f).noted ≡ false
  bare tag a = unnoted_link (s.frame f) (link v f) (p.grid.cells i v f there inside)
      (untagged tag (s.frame f) (link v f) (tallies frame_shape s.views f) (p.grid.columns f inside) (p.grid.cells i v f there inside) (λ y. term_le (λ (u : View). weigh y (link u f)) s.views i v there) a)

  -- what is passed for a cut of a fork is so under the exclusive right
  cutter : (j fork n : ℕ) (u : View) → get_elem? s.views j ≡ some u → (size_hold u fork).cut_to ≡ Some n → (size_hold u fork).right ≡ size_right.Exclusive
  cutter j fork n u here to = cutting_excludes (s.size fork) (size_hold u fork) n ((h.words (suc fork)).cells j u fork here (omega arith)) to

  store_passes : (tag : ℕ) → MayEnter s v tag → (j fork n : ℕ) (u : View) → get_elem? s.views j ≡ some u → (size_hold u fork).cut_to ≡ Some n → is_cut fork n tag ≡ false
  store_passes tag a j fork n u here to = by_flag s.resizes refl
    where
      right : (size_hold u fork).right ≡ size_right.Exclusive
      right = cutter j fork n u here to

      by_flag : (b : Bool) → s.resizes ≡ b → is_cut fork n tag ≡ false
      by_flag false e = let x = h.quiet e fork in let y = exclusive_stands s h j fork u here right in absurd (false≢true (sym x ∙ y))
      by_flag true e = let room = a.room e in other_fork fork n tag (λ same. sharing_excludes (s.size fork) (size_hold v fork) (size_hold u fork) (tallies size_shape s.views fork) ((h.words (suc fork)).columns fork (omega arith))
          (term_le (λ (z : View). size_weight sharers (size_hold z fork)) s.views i v there) (term_le (λ (z : View). size_weight excluders (size_hold z fork)) s.views j u here) (subst (λ (z : ℕ). (size_hold v z).right ≡ size_right.Shared) same room.right) right)

  new_passes : (tag : ℕ) → MayEnterNew s v tag → (j fork n : ℕ) (u : View) → get_elem? s.views j ≡ some u → (size_hold u fork).cut_to ≡ Some n → is_cut fork n tag ≡ false
  new_passes tag a j fork n u here to = other_fork fork n tag (λ same. dite (ℕ_discrete j i)
      (λ e. let is : u ≡ v = some-injective u v (sym here ∙ ap (λ (z : ℕ). get_elem? s.views z) e ∙ there) in none-some n (sym a.unpassed ∙ ap (λ (z : ℕ). (size_hold v z).cut_to) same ∙ ap (λ (x : View). (size_hold x fork).cut_to) (sym is) ∙ to))
      (λ o. rights_differ (sym (excludes_others s h i fork v there j u o here (subst (λ (z : ℕ). (size_hold v z).right ≡ size_right.Exclusive) same a.may.right)) ∙ cutter j fork n u here to)))

  pub kind_keeps_law : (k : Kind) → Allowed k (s.frame f) (link v f) → AllowedAround k s v f → SizesLaw (state_after k s i f v)
  kind_keeps_law (store_tag tag) a around = let part' = (state_after (store_tag tag) s i f v).partition in tag_step (store_tag tag) part' a.alone refl (λ named. inl around.block) (λ e. absurd (false≢true (sym (bare tag a) ∙ e)))
      (λ j fork n u here to has named. store_passes tag around j fork n u here to)
  kind_keeps_law (store_new_tag tag) a around = let part' = (state_after (store_new_tag tag) s i f v).partition in tag_step (store_new_tag tag) part' a.alone refl (λ named. inr refl)
      (λ e. record { may = around.may; at = around.at ∙ (unmade_finds s h i (tag_fork tag) v there around.may).0 }) (λ j fork n u here to has named. new_passes tag around j fork n u here to)
  kind_keeps_law erase_tag a around = let part' = (state_after erase_tag s i f v).partition in tag_step erase_tag part' a.alone refl (λ named. absurd (named refl)) (λ e. absurd (false≢true e)) (λ j fork n u here to has named. absurd (named refl))
  kind_keeps_law load_state a around = plain_step load_state s.partition refl (λ tag e. absurd (cc)) (λ e. absurd (cc))
  kind_keeps_law (pin ring) a around = plain_step (pin ring) s.partition refl (λ tag e. absurd (cc)) (λ e. absurd (cc))
  kind_keeps_law (pin_mapped tag ring) a around = plain_step (pin_mapped tag ring) s.partition refl (λ tag e. absurd (cc)) (λ e. absurd (cc))
  kind_keeps_law unpin a around = plain_step unpin s.partition refl (λ tag e. absurd (cc)) (λ e. absurd (cc))
  kind_keeps_law lock_header a around = plain_step lock_header s.partition refl (λ tag e. absurd (cc)) (λ e. absurd (cc))
  kind_keeps_law unlock_header a around = plain_step unlock_header s.partition refl (λ tag e. absurd (cc)) (λ e. absurd (cc))
  kind_keeps_law load_tag a around = plain_step load_tag s.partition refl (λ tag e. absurd (cc)) (λ e. absurd (cc))
  kind_keeps_law pin_victim a around = plain_step pin_victim s.partition refl (λ tag e. absurd (cc)) (λ e. absurd (cc))
  kind_keeps_law lower_usage a around = plain_step lower_usage s.partition refl (λ tag e. absurd (cc)) (λ e. absurd (cc))
  kind_keeps_law assign a around = plain_step assign s.partition refl (λ tag e. absurd (cc)) (λ e. absurd (cc))
  kind_keeps_law clear a around = plain_step clear s.partition refl (λ tag e. absurd (cc)) (λ e. absurd (cc))

no_law : (w : SizeWord) → SizeHoldLaw w no_size
no_law w = grind arith

-- one more view, which has no right and notes nothing
pub views_grow : (s : State) → SizesLaw s → (number base n m l : ℕ) → SizesLaw (record s { views = s.views ++ new_view number base n m l ∷ [] })
unfolding size_in
views_grow s h number base n m l = let b : View = new_view number base n m l in record {
  words = λ k. grows size_shape size_part k s.size (λ _. tt) s.views (h.words k) b (λ g t. no_weight t) (λ g below. no_law (s.size g));
  blocks = λ f below named. ⊎_elim (λ (e : is_block s (s.frame f).tag ≡ true). inl e) (λ (e : IsNoted s f). inr (e.0, e.1, at_longer s.views (b ∷ []) e.0 e.1 e.2, e.3)) (h.blocks f below named);
  noted = λ j f u here below e. ⊎_elim
      (λ (x : get_elem? s.views j ≡ some u). let at = h.noted j f u x below e in record { may = record { right = at.may.right; unmade = at.may.unmade }; at = at.at })
      (λ (x : (b ≡ u) × (j ≡ length s.views)). absurd (false≢true (sym (bare_noted f) ∙ ap (λ (y : View). (link y f).noted) x.0 ∙ e))) (at_end s.views b u j here);
  insides = λ j f u here below e. ⊎_elim (λ (x : get_elem? s.views j ≡ some u). h.insides j f u x below e)
      (λ (x : (b ≡ u) × (j ≡ length s.views)). absurd (false≢true (sym (bare_inside f) ∙ ap (λ (y : View). (link y f).inside) x.0 ∙ e))) (at_end s.views b u j here);
  passed = λ j g k f u here to has below named. ⊎_elim (λ (x : get_elem? s.views j ≡ some u). h.passed j g k f u x to has below named)
      (λ (x : (b ≡ u) × (j ≡ length s.views)). absurd (none-some k (ap (λ (y : View). (size_hold y g).cut_to) x.0 ∙ to))) (at_end s.views b u j here);
  quiet = h.quiet;
}
  where
    no_weight : (t : SizeTally) → size_weight t no_size ≡ 0
    no_weight sharers = refl
    no_weight excluders = refl
    no_weight unstored = refl

    bare_noted : (f : ℕ) → (link (new_view number base n m l) f).noted ≡ false
    bare_noted f = ap (λ (x : Link). x.noted) (link_new n m l number base f)

    bare_inside : (f : ℕ) → (link (new_view number base n m l) f).inside ≡ false
    bare_inside f = ap (λ (x : Link). x.inside) (link_new n m l number base f)

split_keeps_law : (s : State) (v : View) → SizesLaw s → get_elem? s.views 0 ≡ some v → SizesLaw (split_state s v)
split_keeps_law s v h there = let w : View = record v { next = v.next + 1 } in
    views_grow (record s { views = set s.views 0 w }) (frames_keep s h 0 v w s.frame s.partition there refl (λ f. refl) (λ f below. refl) (λ f below e. e)) v.next s.base (length v.links) (length v.partitions) (length v.lanes)

join_keeps_law : (s : State) (j : ℕ) (v u : View) → SizesLaw s → PinInvariant s → get_elem? s.views 0 ≡ some v → j ≢ 0 → get_elem? s.views j ≡ some u → HoldsNothing u → SizesLaw (joined_state s v j u)
join_keeps_law s j v u h p there other here free = let w : View = joined_view v u in let t : State = record s { views = set s.views 0 w } in
    frames_keep t (frames_keep s h 0 v w s.frame s.partition there refl (λ f. refl) (λ f below. refl) (λ f below e. e)) j u emptied_view s.frame s.partition (set_else s.views 0 j w other ∙ here) (sym free.sizes) (λ f. refl)
    (λ f below. ap (λ (x : Link). x.noted) (link_new 0 0 0 0 0 f) ∙ sym (unpinned_link (s.frame f) (link u f) (p.grid.cells j u f here below) (free.frames f).no_pin).0)
    (λ f below e. absurd (false≢true (sym (ap (λ (x : Link). x.inside) (link_new 0 0 0 0 0 f)) ∙ e)))

pub step_keeps_law : {e : Event} {s t : State} → Step e s t → PinInvariant s → SizesLaw s → SizesLaw t
step_keeps_law (touches {s = s} i f k v there live inside a around) p h = kind_keeps_law s h p i f v there live inside k a around
step_keeps_law (turns {s = s} i q k v there live below a) p h = frames_keep s h i v (view_turned k q _ v) s.frame _ there refl (λ f. refl) (λ f below. refl) (λ f below e. e)
step_keeps_law (sized {s = s} i fork k v there live a) p h = size_keeps_law s h i fork v there k p live a
step_keeps_law (splits {s = s} v there room) p h = split_keeps_law s v h there
step_keeps_law (joins {s = s} j v u there other here live free) p h = join_keeps_law s j v u h p there other here free

pub run_keeps_law : {es : List Event} {s t : State} → Run es s t → PinInvariant s → SizesLaw s → SizesLaw t
run_keeps_law rests p h = h
run_keeps_law (goes x r) p h = run_keeps_law r (step_keeps x p) (step_keeps_law x p h)

no_rights : (base n p m g : ℕ) (k : SizeTally) → tallies size_shape (first_view base n p m ∷ []) g k ≡ 0
unfolding total size_in
no_rights base n p m g sharers = refl
no_rights base n p m g excluders = refl
no_rights base n p m g unstored = refl

opened_law : (n : ℕ) (t : SizeTally → ℕ) → ((k : SizeTally) → t k ≡ 0) → SizeLaw (opened_size n) t
opened_law n t e = grind (arith, e sharers, e excluders, e unstored)

pub sizes_open : (c : Config) (page : Page) → SizesLaw (opening c page)
unfolding size_in
sizes_open c page = let w : View = first_view c.base c.frames c.partitions c.lanes in record {
  words = λ n. record {
    columns = λ g below. opened_law (c.sizes g) (tallies size_shape (w ∷ []) g) (no_rights c.base c.frames c.partitions c.lanes g);
    cells = λ i v g there below. subst (λ (x : View). SizeHoldLaw (opened_size (c.sizes g)) (size_hold x g)) (at_only w v i there).0 (no_law (opened_size (c.sizes g)));
  };
  blocks = λ f below named. absurd (named refl);
  noted = λ i f v there below e. absurd (false≢true (sym (ap (λ (x : Link). x.noted) (link_new c.frames c.partitions c.lanes 0 c.base f)) ∙ ap (λ (x : View). (link x f).noted) (at_only w v i there).0 ∙ e));
  insides = λ i f v there below e. absurd (false≢true (sym (ap (λ (x : Link). x.inside) (link_new c.frames c.partitions c.lanes 0 c.base f)) ∙ ap (λ (x : View). (link x f).inside) (at_only w v i there).0 ∙ e));
  passed = λ i g n f v there to has below named. absurd (none-some n (ap (λ (x : View). (size_hold x g).cut_to) (at_only w v i there).0 ∙ to));
  quiet = λ e g. refl;
}
