-- Dirty frames whose blocks have no entry: each step keeps what is noted of them.
use Rattle.std.proofs.Common.{◌≡◌, ◌≢◌, ◌⊎◌, inl, inr, ℕ, suc, ◌+◌, ◌<◌, Bool, true, false, cond, ◌&&◌, not, List, [], ◌∷◌, ◌++◌, length, set, sym, refl, ap, ◌∙◌, subst, ⊎_elim, arith}
use mathlib.Core.Logic.{dite}
use mathlib.Core.Option.{some, some-injective}
use native.Mathlib.Decide.{ℕ_discrete}
use lib.ListN.{get_elem?}
use Rattle.state_word.specs.declared.word.IoEnd.TheVariants.{ReadOk, WriteOk, Bad}
use Rattle.pin_core.specs.declared.view.Content.TheVariants.{Unlocked, Shared, Exclusive}
use Rattle.pin_core.specs.declared.view.LaneHold.{LaneHold}
use Rattle.pin_core.specs.declared.view.Link.{Link}
use Rattle.pin_core.specs.declared.view.LoadedWord.TheVariants as seen
use Rattle.pin_core.specs.declared.view.View.{View}
use Rattle.pin_core.specs.State.{Config, Frame, Page, link, hold, lane_hold, first_view, new_view, emptied_view, joined_view, size_hold}
use Rattle.pin_core.specs.State as pins
use Rattle.pin_core.specs.Invariant.{FrameLaw}
use Rattle.pin_core.specs.Tallies as pin_tallies
use Rattle.pin_core.specs.Tallies.{frame_shape}
use Rattle.pin_core.specs.Kinds as pin_kinds
use Rattle.pin_core.specs.Turns.{view_turned}
use Rattle.pin_core.specs.Sizes.{view_sized}
use Rattle.pin_core.specs.Steps as pin_steps
use Rattle.pin_core.proofs.Stepping as pin_stepping
use Rattle.pin_core.proofs.Stepping.{sized_links}
use Rattle.pin_core.proofs.SizeSchedules.{none_noted, no_exclusive}
use Rattle.pin_core.proofs.Views.{link_new}
use Rattle.page_core.specs.State.{Block, block_of}
use Rattle.page_core.specs.Invariant.{PageLink}
use Rattle.page_core.specs.Kinds as kinds
use Rattle.page_core.specs.Kinds.{Kind, note_read, begin_write, note_write, make_entry, Allowed, frame_after, link_after, unentered_after}
use Rattle.page_core.specs.Steps as page_steps
use Rattle.history_core.specs.Log.{Entry, change_size}
use Rattle.history_core.specs.Lanes as lane_kinds
use Rattle.history_core.specs.Device.{view_logged}
use Rattle.history_core.specs.State.{State, Store, opening}
use Rattle.history_core.specs.Invariant.{HistoryInvariant}
use Rattle.history_core.specs.Unentered.{IsEntered, NotesUnentered, IsUnentered, HoldsUnentered, IsHeldUnentered}
use Rattle.history_core.specs.Steps.{Event, IsPlain, Notes, new_entry, stepped, looked, pool_noting, paged, laned, has_read, has_written, Step, pools, lanes, writes, notes, logs, enters, reads, words, after_word, reads_size, has_seen_size}
use Rattle.history_core.specs.Words.{WordKind, begin_checkpoint}
use Rattle.history_core.proofs.Beginning.{BegunHere, link_begun}
use Rattle.history_core.proofs.Histories.{at_last}
use Rattle.history_core.proofs.Stepping.{makes_of, relinks}
use Rattle.grid.specs.Shape.{put, tallies}
use Rattle.grid.proofs.Lists.{at_set, at_end, at_longer, at_only, set_here, set_else, put_at, put_else}

-- what a view had noted is noted still
abbrev KeepsNoted : List ℕ → List ℕ → Type 0
KeepsNoted tags tags' = (k tag : ℕ) → get_elem? tags k ≡ some tag → (j : ℕ) × (get_elem? tags' j ≡ some tag)

all_noted : (tags : List ℕ) → KeepsNoted tags tags
all_noted tags k tag at = (k, at)

-- and so it is among all views
noted_set : (views : List View) (i : ℕ) (v w : View) → get_elem? views i ≡ some v → KeepsNoted v.unentered w.unentered → (tag : ℕ) → NotesUnentered views tag → NotesUnentered (set views i w) tag
noted_set views i v w there keeps tag (j, k, u, at, is) = dite (ℕ_discrete j i)
    (λ (e : j ≡ i). let same : v ≡ u = some-injective v u (sym there ∙ subst (λ (z : ℕ). get_elem? views z ≡ some u) e at) in let x = keeps k tag (subst (λ (y : View). get_elem? y.unentered k ≡ some tag) (sym same) is) in (i, x.0, w, set_here views i v w there, x.1))
    (λ (o : j ≢ i). (j, k, u, set_else views i j w o ∙ at, is))

pub at_right : {A : Type 0} (l m : List A) (k : ℕ) (a : A) → get_elem? m k ≡ some a → (j : ℕ) × (get_elem? (l ++ m) j ≡ some a)
at_right [] m k a e = (k, e)
at_right (x ∷ l) m k a e = let z = at_right l m k a e in (suc z.0, z.1)

-- what a kind notes
noted_more : (k : Kind) (fr : Frame) (l : Link) (tags : List ℕ) → KeepsNoted tags (unentered_after k fr l tags)
noted_more kinds.unexclude fr l tags = by_marks (l.dirtied && not l.entered)
  where
    by_marks : (b : Bool) → KeepsNoted tags (cond b (tags ++ fr.tag ∷ []) tags)
    by_marks true k tag at = (k, at_longer tags (fr.tag ∷ []) k tag at)
    by_marks false k tag at = (k, at)
noted_more _ fr l tags = all_noted tags

-- the first view takes in what another one has noted
noted_joined : (views : List View) (j : ℕ) (v u : View) → get_elem? views 0 ≡ some v → j ≢ 0 → get_elem? views j ≡ some u → (tag : ℕ) → NotesUnentered views tag → NotesUnentered (set (set views 0 (joined_view v u)) j emptied_view) tag
noted_joined views j v u there other here tag (m, k, x, at, is) = dite (ℕ_discrete m j)
    (λ (e : m ≡ j). let same : u ≡ x = some-injective u x (sym here ∙ subst (λ (z : ℕ). get_elem? views z ≡ some x) e at) in let y = at_right v.unentered u.unentered k tag (subst (λ (z : View). get_elem? z.unentered k ≡ some tag) (sym same) is) in (0, y.0, joined_view v u, first, y.1))
    (λ (o : m ≢ j). let y = noted_set views 0 v (joined_view v u) there (λ n z e. (n, at_longer v.unentered u.unentered n z e)) tag (m, k, x, at, is) in by_place y)
  where
    first : get_elem? (set (set views 0 (joined_view v u)) j emptied_view) 0 ≡ some (joined_view v u)
    first = set_else (set views 0 (joined_view v u)) j 0 emptied_view (λ e. other (sym e)) ∙ set_here views 0 v (joined_view v u) there

    by_place : NotesUnentered (set views 0 (joined_view v u)) tag → NotesUnentered (set (set views 0 (joined_view v u)) j emptied_view) tag
    by_place (a, b, y, t, e) = dite (ℕ_discrete a j)
        (λ (s : a ≡ j). let was : get_elem? views j ≡ some y = sym (set_else views 0 j (joined_view v u) other) ∙ subst (λ (z : ℕ). get_elem? (set views 0 (joined_view v u)) z ≡ some y) s t in
        let same : u ≡ y = some-injective u y (sym here ∙ was) in let q = at_right v.unentered u.unentered b tag (subst (λ (z : View). get_elem? z.unentered b ≡ some tag) (sym same) e) in (0, q.0, joined_view v u, first, q.1))
        (λ (o : a ≢ j). (a, b, y, set_else (set views 0 (joined_view v u)) j a emptied_view o ∙ t, e))

-- Each step keeps what is noted
noted_pins : (s : pins.State) {e : pin_steps.Event} {t : pins.State} → pin_steps.Step e s t → (tag : ℕ) → NotesUnentered s.views tag → NotesUnentered t.views tag
noted_pins s (pin_steps.touches i f k v there live inside a around) = noted_set s.views i v (pin_kinds.view_after k s.partition_of f (s.frame f) (link v f) v) there (all_noted v.unentered)
noted_pins s (pin_steps.turns i p k v there live below a) = noted_set s.views i v (view_turned k p (hold v p) v) there (all_noted v.unentered)
noted_pins s (pin_steps.sized i fork k v there live a) = noted_set s.views i v (view_sized k fork s v) there (all_noted v.unentered)
noted_pins s (pin_steps.splits v there room) = λ tag x. let y = noted_set s.views 0 v (record v { next = v.next + 1 }) there (all_noted v.unentered) tag x in (y.0, y.1, y.2, at_longer (set s.views 0 (record v { next = v.next + 1 })) _ y.0 y.2 y.3, y.4)
noted_pins s (pin_steps.joins j v u there other here live free) = noted_joined s.views j v u there other here

pub noted_kept : {e : Event} {s t : State} → Step e s t → (tag : ℕ) → IsUnentered s tag → IsUnentered t tag
noted_kept (pools {s = s} (page_steps.cores x) a) = noted_pins s.pool.core x
noted_kept (pools {s = s} (page_steps.touches i f k v there live inside a around) is) = noted_set s.pool.core.views i v (paged k s.pool f v) there (noted_more k (s.pool.core.frame f) (link v f) v.unentered)
noted_kept (lanes {s = s} i q k v there live low a alone) = noted_set s.pool.core.views i v (stepped (laned k q v v)) there (all_noted v.unentered)
noted_kept (writes {s = s} i q f k v there live low inside a x) = noted_set s.pool.core.views i v (laned k q v (paged begin_write s.pool f v)) there (all_noted v.unentered)
noted_kept (notes {s = s} i q f noted k v there live low inside a x) = noted_set s.pool.core.views i v (laned (lane_kinds.lane_back noted) q v (paged k (pool_noting k s f) f v)) there (noted_more k (s.pool.core.frame f) (link v f) v.unentered)
noted_kept (logs {s = s} i k v there live a record_is) = noted_set s.pool.core.views i v (view_logged k v) there (all_noted v.unentered)
noted_kept (enters {s = s} i f p c v there live inside x) = noted_set s.pool.core.views i v (has_written c (link v f).copied (s.end + change_size c) (s.pool.core.frame f).tag p (paged (make_entry p) s.pool f v)) there (all_noted v.unentered)
noted_kept (reads {s = s} i f tag p v there live inside a) = noted_set s.pool.core.views i v (looked (seen.LogEnd s.end) (has_read s.end tag p v)) there (all_noted v.unentered)
noted_kept (reads_size {s = s} i fork v there live a) = noted_set s.pool.core.views i v (looked (seen.LogEnd s.end) (has_seen_size s.end fork (size_hold v fork).blocks v)) there (all_noted v.unentered)
noted_kept (words {s = s} i k v there live a) = noted_set s.pool.core.views i v (after_word k s v) there (all_noted v.unentered)

-- entries are made of frames that are marked dirty
abbrev EntersDirtied : Link → Type 0
EntersDirtied l = l.entered ≡ true → l.dirtied ≡ true

-- what a dirty frame f with the tag has
abbrev Has : List Entry → List View → ℕ → ℕ → Type 0
Has es views tag f = IsEntered es tag ⊎ (NotesUnentered views tag ⊎ IsHeldUnentered views f)

pub record UnenteredLaw (n : ℕ) (frame : ℕ → Frame) (es : List Entry) (views : List View) : Type 0 where
  pub dirty : (f : ℕ) → f < n → (frame f).word.dirty ≡ true → Has es views (frame f).tag f
  pub marked : (i f : ℕ) (v : View) → get_elem? views i ≡ some v → EntersDirtied (link v f)

abbrev pub IsUnenteredLaw : State → Type 0
IsUnenteredLaw s = UnenteredLaw s.pool.core.frames s.pool.core.frame s.log.entries s.pool.core.views

-- What a view has at a frame keeps its marks
record Alike (l m : Link) : Type 0 where
  holds : HoldsUnentered l → HoldsUnentered m
  marked : EntersDirtied l → EntersDirtied m

alike_same : (l m : Link) → m ≡ l → Alike l m
alike_same l m e = record { holds = subst HoldsUnentered (sym e); marked = subst EntersDirtied (sym e) }

-- A frame and what a view has there change, where E says that the frame's block has an entry, and `tags` is what the view has noted then
record MarkMoves (E : Type 0) (fr fr' : Frame) (l l' : Link) (tags : List ℕ) : Type 0 where
  tag : fr'.word.dirty ≡ true → fr'.tag ≡ fr.tag
  dirty : fr'.word.dirty ≡ true → (fr.word.dirty ≡ true) ⊎ HoldsUnentered l'
  holds : HoldsUnentered l → E ⊎ (((j : ℕ) × (get_elem? tags j ≡ some fr.tag)) ⊎ HoldsUnentered l')
  marked : EntersDirtied l'

-- a kind of `pin_core`
pins_dirty : (k : pin_kinds.Kind) (fr : Frame) (l : Link) (t : pin_tallies.Tally → ℕ) → FrameLaw fr t → l.noted ≡ false → pin_kinds.Allowed k fr l → (pin_kinds.frame_after k fr).word.dirty ≡ true → ((pin_kinds.frame_after k fr).tag ≡ fr.tag) × (fr.word.dirty ≡ true)
pins_dirty (pin_kinds.store_tag tag) fr l t c n a e = absurd (grind (arith, c, a.untagged, e))
pins_dirty (pin_kinds.store_new_tag tag) fr l t c n a e = absurd (grind (arith, c, a.untagged, e))
pins_dirty pin_kinds.erase_tag fr l t c n a e = absurd (grind (arith, a.clean n, e))
pins_dirty pin_kinds.clear fr l t c n a e = absurd (cc)
pins_dirty _ fr l t c n a e = (refl, e)

pins_alike : (k : pin_kinds.Kind) (fr : Frame) (l : Link) → Alike l (pin_kinds.link_after k fr l)
pins_alike pin_kinds.load_state fr l = record { holds = λ h. record { right = h.right; dirtied = h.dirtied; unentered = h.unentered }; marked = λ h. h }
pins_alike _ fr l = record { holds = λ h. record { right = h.right; dirtied = h.dirtied; unentered = h.unentered }; marked = λ h. h }

pins_move : (E : Type 0) (k : pin_kinds.Kind) (fr : Frame) (l : Link) (t : pin_tallies.Tally → ℕ) (tags : List ℕ) → FrameLaw fr t → l.noted ≡ false → pin_kinds.Allowed k fr l → EntersDirtied l → MarkMoves E fr (pin_kinds.frame_after k fr) l (pin_kinds.link_after k fr l) tags
pins_move E k fr l t tags c n a m = record {
  tag = λ e. (pins_dirty k fr l t c n a e).0;
  dirty = λ e. inl (pins_dirty k fr l t c n a e).1;
  holds = λ h. inr (inr ((pins_alike k fr l).holds h));
  marked = (pins_alike k fr l).marked m;
}

-- What a kind of `page_core` needs for this
abbrev Needs : Type 0 → Kind → Link → Type 0
Needs E kinds.mark_dirty l = l.content ≡ Exclusive
Needs E kinds.share l = l.content ≡ Unlocked
Needs E kinds.unshare l = l.content ≡ Shared
Needs E (make_entry p) l = E × (l.dirtied ≡ true)
Needs E _ l = Unit {0}

needed : (E : Type 0) (k : Kind) (b : Block) (fr : Frame) (l : Link) → Allowed k b fr l → IsPlain k → Needs E k l
needed E kinds.mark_dirty b fr l a x = a.right
needed E kinds.share b fr l a x = a.none
needed E kinds.unshare b fr l a x = a.right
needed E (make_entry p) b fr l a x = absurd x
needed E _ b fr l a x = tt

needed_noted : (E : Type 0) (k : Kind) (s : State) (n f : ℕ) (h : LaneHold) (l : Link) → Notes k s n f h l → Needs E k l
needed_noted E (note_read p) s n f h l x = tt
needed_noted E (note_write done) s n f h l x = tt
needed_noted E _ s n f h l x = absurd x

-- the frame as it was, and the view's marks there
stays : (E : Type 0) (fr fr' : Frame) (l l' : Link) (tags : List ℕ) → fr'.tag ≡ fr.tag → (fr'.word.dirty ≡ true → fr.word.dirty ≡ true) → (HoldsUnentered l → HoldsUnentered l') → EntersDirtied l' → MarkMoves E fr fr' l l' tags
stays E fr fr' l l' tags same dirty holds marked = record { tag = λ e. same; dirty = λ e. inl (dirty e); holds = λ h. inr (inr (holds h)); marked = marked }

pages_move : (E : Type 0) (k : Kind) (b b' : Block) (fr : Frame) (l : Link) (tags : List ℕ) → PageLink b' fr l → EntersDirtied l → Needs E k l → MarkMoves E fr (frame_after k b fr) l (link_after k b fr l) (unentered_after k fr l tags)
pages_move E kinds.mark_dirty b b' fr l tags c m a = record {
  tag = λ e. refl;
  dirty = λ e. by_entered l.entered refl;
  holds = λ h. inr (inr (record { right = h.right; dirtied = refl; unentered = h.unentered }));
  marked = λ e. refl;
}
  where
    by_entered : (x : Bool) → l.entered ≡ x → (fr.word.dirty ≡ true) ⊎ HoldsUnentered (link_after kinds.mark_dirty b fr l)
    by_entered true e = inl (c.dirtied (m e)).dirty
    by_entered false e = inr (record { right = a; dirtied = refl; unentered = e })
pages_move E kinds.share b b' fr l tags c m a = stays E fr (frame_after kinds.share b fr) l (link_after kinds.share b fr l) tags refl (λ e. e) (λ h. absurd (let r = h.right in cc)) m
pages_move E kinds.unshare b b' fr l tags c m a = stays E fr (frame_after kinds.unshare b fr) l (link_after kinds.unshare b fr l) tags refl (λ e. e) (λ h. absurd (let r = h.right in cc)) m
pages_move E kinds.exclude b b' fr l tags c m a = stays E fr (frame_after kinds.exclude b fr) l (link_after kinds.exclude b fr l) tags refl (λ e. e) (λ h. record { right = refl; dirtied = h.dirtied; unentered = h.unentered }) m
pages_move E kinds.unexclude b b' fr l tags c m a = record {
  tag = λ e. refl;
  dirty = λ e. inl e;
  holds = λ h. inr (inl (length tags, ap (λ (x : List ℕ). get_elem? x (length tags)) (marks l.dirtied l.entered h.dirtied h.unentered) ∙ at_last tags fr.tag));
  marked = λ e. absurd (cc);
}
  where
    marks : (x y : Bool) → x ≡ true → y ≡ false → cond (x && not y) (tags ++ fr.tag ∷ []) tags ≡ tags ++ fr.tag ∷ []
    marks true false d u = refl
    marks true true d u = absurd (cc)
    marks false y d u = absurd (cc)
pages_move E (make_entry p) b b' fr l tags c m a = record { tag = λ e. refl; dirty = λ e. inl e; holds = λ h. inl a.0; marked = λ e. a.1 }
pages_move E (kinds.end_io WriteOk) b b' fr l tags c m a = stays E fr (frame_after (kinds.end_io WriteOk) b fr) l (link_after (kinds.end_io WriteOk) b fr l) tags refl (λ e. both fr.word.just_dirtied fr.word.dirty e) (λ h. record { right = h.right; dirtied = h.dirtied; unentered = h.unentered }) m
  where
    both : (x y : Bool) → (x && y) ≡ true → y ≡ true
    both true y e = e
    both false y e = absurd (cc)
pages_move E (kinds.end_io ReadOk) b b' fr l tags c m a = stays E fr (frame_after (kinds.end_io ReadOk) b fr) l (link_after (kinds.end_io ReadOk) b fr l) tags refl (λ e. e) (λ h. record { right = h.right; dirtied = h.dirtied; unentered = h.unentered }) m
pages_move E (kinds.end_io Bad) b b' fr l tags c m a = stays E fr (frame_after (kinds.end_io Bad) b fr) l (link_after (kinds.end_io Bad) b fr l) tags refl (λ e. e) (λ h. record { right = h.right; dirtied = h.dirtied; unentered = h.unentered }) m
pages_move E k b b' fr l tags c m a = stays E fr (frame_after k b fr) l (link_after k b fr l) tags refl (λ e. e) (λ h. record { right = h.right; dirtied = h.dirtied; unentered = h.unentered }) m

module _ (n : ℕ) (frame : ℕ → Frame) (es es' : List Entry) (views : List View) (h : UnenteredLaw n frame es views) (longer : (tag : ℕ) → IsEntered es tag → IsEntered es' tag) (i : ℕ) (v w : View) (there : get_elem? views i ≡ some v) (noted : (tag : ℕ) → NotesUnentered views tag → NotesUnentered (set views i w) tag) where
  -- what a frame's block has, it has after the step
  has_set : (tag f : ℕ) → (HoldsUnentered (link v f) → Has es' (set views i w) tag f) → Has es views tag f → Has es' (set views i w) tag f
  has_set tag f x (inl e) = inl (longer tag e)
  has_set tag f x (inr (inl e)) = inr (inl (noted tag e))
  has_set tag f x (inr (inr (j, u, at, is))) = dite (ℕ_discrete j i)
      (λ (e : j ≡ i). let same : v ≡ u = some-injective v u (sym there ∙ subst (λ (z : ℕ). get_elem? views z ≡ some u) e at) in x (subst (λ (y : View). HoldsUnentered (link y f)) (sym same) is))
      (λ (o : j ≢ i). inr (inr (j, u, set_else views i j w o ∙ at, is)))

  still_held : (tag f : ℕ) → HoldsUnentered (link w f) → Has es' (set views i w) tag f
  still_held tag f x = inr (inr (i, w, set_here views i v w there, x))

  marked_set : ((f : ℕ) → EntersDirtied (link w f)) → (j f : ℕ) (u : View) → get_elem? (set views i w) j ≡ some u → EntersDirtied (link u f)
  marked_set m j f u at = ⊎_elim (λ (y : (j ≡ i) × (w ≡ u)). subst (λ (z : View). EntersDirtied (link z f)) y.1 (m f)) (λ (y : (j ≢ i) × (get_elem? views j ≡ some u)). h.marked j f u y.1) (at_set views i j w u at)

  -- the view keeps its marks at each frame
  law_aside : ((f : ℕ) → Alike (link v f) (link w f)) → UnenteredLaw n frame es' (set views i w)
  law_aside alike = record {
    dirty = λ f below e. has_set (frame f).tag f (λ x. still_held (frame f).tag f ((alike f).holds x)) (h.dirty f below e);
    marked = marked_set (λ f. (alike f).marked (h.marked i f v there));
  }

  -- the frame f changes
  law_touched : (f : ℕ) (fr : Frame) (l : Link) → f < n → link w f ≡ l → ((g : ℕ) → g ≢ f → link w g ≡ link v g) → MarkMoves (IsEntered es' (frame f).tag) (frame f) fr (link v f) l w.unentered → UnenteredLaw n (put frame f fr) es' (set views i w)
  law_touched f fr l inside here else x = record {
    dirty = λ g below. dite (ℕ_discrete g f)
        (λ (e : g ≡ f). subst (λ (y : Frame). y.word.dirty ≡ true → Has es' (set views i w) y.tag g) (sym (put_at frame f fr g e)) (subst (λ (z : ℕ). fr.word.dirty ≡ true → Has es' (set views i w) fr.tag z) (sym e) at_frame))
        (λ (o : g ≢ f). subst (λ (y : Frame). y.word.dirty ≡ true → Has es' (set views i w) y.tag g) (sym (put_else frame f fr g o)) (λ d. has_set (frame g).tag g (λ y. still_held (frame g).tag g (subst HoldsUnentered (sym (else g o)) y)) (h.dirty g below d)));
    marked = marked_set (λ g. dite (ℕ_discrete g f)
        (λ (e : g ≡ f). subst (λ (z : ℕ). EntersDirtied (link w z)) (sym e) (subst EntersDirtied (sym here) x.marked))
        (λ (o : g ≢ f). subst EntersDirtied (sym (else g o)) (h.marked i g v there)));
  }
    where
      held_now : HoldsUnentered l → Has es' (set views i w) (frame f).tag f
      held_now y = still_held (frame f).tag f (subst HoldsUnentered (sym here) y)

      as_was : Has es' (set views i w) (frame f).tag f → fr.word.dirty ≡ true → Has es' (set views i w) fr.tag f
      as_was y e = subst (λ (z : ℕ). Has es' (set views i w) z f) (sym (x.tag e)) y

      at_frame : fr.word.dirty ≡ true → Has es' (set views i w) fr.tag f
      at_frame e = as_was (⊎_elim
          (λ (d : (frame f).word.dirty ≡ true). has_set (frame f).tag f (λ y. ⊎_elim
          (λ (z : IsEntered es' (frame f).tag). inl z)
          (λ (z : ((j : ℕ) × (get_elem? w.unentered j ≡ some (frame f).tag)) ⊎ HoldsUnentered l). ⊎_elim (λ (q : (j : ℕ) × (get_elem? w.unentered j ≡ some (frame f).tag)). inr (inl (i, q.0, w, set_here views i v w there, q.1))) held_now z)
          (x.holds y)) (h.dirty f inside d))
          held_now
          (x.dirty e)) e

module _ (s : State) (h : HistoryInvariant s) (m : IsUnenteredLaw s) where
  abbrev n : ℕ
  n = s.pool.core.frames

  abbrev frame : ℕ → Frame
  frame = s.pool.core.frame

  abbrev views : List View
  views = s.pool.core.views

  abbrev es : List Entry
  es = s.log.entries

  same_entries : (tag : ℕ) → IsEntered es tag → IsEntered es tag
  same_entries tag x = x

  aside_law : (i : ℕ) (v w : View) → get_elem? views i ≡ some v → w.links ≡ v.links → w.unentered ≡ v.unentered → UnenteredLaw n frame es (set views i w)
  aside_law i v w there links noted = law_aside n frame es es views m same_entries i v w there (noted_set views i v w there (λ k tag at. (k, subst (λ (x : List ℕ). get_elem? x k ≡ some tag) (sym noted) at)))
      (λ f. alike_same (link v f) (link w f) (ap (λ (x : List Link). link (record w { links = x }) f) links))

  pins_law : {e : pin_steps.Event} {t : pins.State} → pin_steps.Step e s.pool.core t → UnenteredLaw t.frames t.frame es t.views
  pins_law (pin_steps.touches i f k v there live inside a around) = let l = link v f in let w : View = pin_stepping.after k s.pool.core f v in let r = relinks s h i f v w (pin_kinds.link_after k (frame f) l) there live inside refl in
      law_touched n frame es es views m same_entries i v w there (noted_set views i v w there (all_noted v.unentered)) f (pin_kinds.frame_after k (frame f)) (pin_kinds.link_after k (frame f) l) inside r.here r.else
      (pins_move (IsEntered es (frame f).tag) k (frame f) l (tallies frame_shape views f) w.unentered (h.pool.core.grid.columns f inside) (none_noted s.pool.core h.pool.sizes h.quiet i f v there inside) a (m.marked i f v there))
  pins_law (pin_steps.turns i p k v there live below a) = aside_law i v (view_turned k p (hold v p) v) there refl refl
  pins_law (pin_steps.sized i fork k v there live a) = law_aside n frame es es views m same_entries i v (view_sized k fork s.pool.core v) there (noted_set views i v (view_sized k fork s.pool.core v) there (all_noted v.unentered))
      (λ f. sized_links s.pool.core h.pool.core i fork v there live Alike k a (λ l. alike_same l l refl) (λ l known. record { holds = λ y. record { right = y.right; dirtied = y.dirtied; unentered = y.unentered }; marked = λ y. y })
      (λ g end e z. absurd (no_exclusive s.pool.core h.pool.sizes h.quiet i fork v there e.may.right)) f)
  pins_law (pin_steps.splits v there room) = let w : View = record v { next = v.next + 1 } in let b : View = new_view v.next s.pool.core.base (length v.links) (length v.partitions) (length v.lanes) in let x = aside_law 0 v w there refl refl in record {
    dirty = λ f below e. later (set views 0 (record v { next = v.next + 1 })) b (frame f).tag f (x.dirty f below e);
    marked = λ j f u at. ⊎_elim (λ (y : get_elem? (set views 0 w) j ≡ some u). x.marked j f u y) (λ (y : (b ≡ u) × (j ≡ length (set views 0 w))). subst (λ (z : View). EntersDirtied (link z f)) y.0 (subst EntersDirtied (sym (link_new (length v.links) (length v.partitions) (length v.lanes) v.next s.pool.core.base f)) (λ e. absurd (cc)))) (at_end (set views 0 w) b u j at);
  }
    where
      later : (vs : List View) (b : View) (tag f : ℕ) → Has es vs tag f → Has es (vs ++ b ∷ []) tag f
      later vs b tag f (inl x) = inl x
      later vs b tag f (inr (inl (j, k, u, at, is))) = inr (inl (j, k, u, at_longer vs (b ∷ []) j u at, is))
      later vs b tag f (inr (inr (j, u, at, is))) = inr (inr (j, u, at_longer vs (b ∷ []) j u at, is))
  pins_law (pin_steps.joins j v u there other here live free) = let w : View = joined_view v u in let joined = law_aside n frame es es views m same_entries 0 v w there (noted_set views 0 v w there (λ k tag at. (k, at_longer v.unentered u.unentered k tag at))) (λ f. alike_same (link v f) (link w f) refl) in record {
    dirty = λ f below e. by_case (frame f).tag f (m.dirty f below e);
    marked = λ a f x at. ⊎_elim (λ (y : (a ≡ j) × (emptied_view ≡ x)). subst (λ (z : View). EntersDirtied (link z f)) y.1 (λ e. absurd (cc))) (λ (y : (a ≢ j) × (get_elem? (set views 0 w) a ≡ some x)). joined.marked a f x y.1) (at_set (set views 0 w) j a emptied_view x at);
  }
    where
      by_case : (tag f : ℕ) → Has es views tag f → Has es (set (set views 0 (joined_view v u)) j emptied_view) tag f
      by_case tag f (inl x) = inl x
      by_case tag f (inr (inl x)) = inr (inl (noted_joined views j v u there other here tag x))
      by_case tag f (inr (inr (a, x, at, is))) = dite (ℕ_discrete a j)
          (λ (e : a ≡ j). let same : u ≡ x = some-injective u x (sym here ∙ subst (λ (z : ℕ). get_elem? views z ≡ some x) e at) in let r : (link u f).content ≡ Exclusive = subst (λ (z : View). (link z f).content ≡ Exclusive) (sym same) is.right in absurd (let free_at = (free.frames f).no_content in cc))
          (λ (o : a ≢ j). dite (ℕ_discrete a 0)
          (λ (e : a ≡ 0). let same : v ≡ x = some-injective v x (sym there ∙ subst (λ (z : ℕ). get_elem? views z ≡ some x) e at) in inr (inr (0, joined_view v u, set_else (set views 0 (joined_view v u)) j 0 emptied_view (λ z. other (sym z)) ∙ set_here views 0 v (joined_view v u) there, subst (λ (z : View). HoldsUnentered (link z f)) (sym same) is)))
          (λ (z : a ≢ 0). inr (inr (a, x, set_else (set views 0 (joined_view v u)) j a emptied_view o ∙ (set_else views 0 a (joined_view v u) z ∙ at), is))))

  -- a kind of `page_core` at the frame f
  pages_law : (i f : ℕ) (k : Kind) (b : Block) (v w : View) (es' : List Entry) → ((tag : ℕ) → IsEntered es tag → IsEntered es' tag) → get_elem? views i ≡ some v → v.emptied ≡ false → f < n → w.links ≡ set v.links f (link_after k b (frame f) (link v f)) → w.unentered ≡ unentered_after k (frame f) (link v f) v.unentered
      → Needs (IsEntered es' (frame f).tag) k (link v f) → UnenteredLaw n (put frame f (frame_after k b (frame f))) es' (set views i w)
  pages_law i f k b v w es' longer there live inside links noted needs = let l = link v f in let l' = link_after k b (frame f) l in let r = relinks s h i f v w l' there live inside links in
      law_touched n frame es es' views m longer i v w there (noted_set views i v w there (subst (KeepsNoted v.unentered) (sym noted) (noted_more k (frame f) l v.unentered))) f (frame_after k b (frame f)) l' inside r.here r.else
      (subst (MarkMoves (IsEntered es' (frame f).tag) (frame f) (frame_after k b (frame f)) l l') (sym noted) (pages_move (IsEntered es' (frame f).tag) k b (block_of s.pool.logged (frame f).tag) (frame f) l v.unentered (h.pool.pages.cells i v f there inside) (m.marked i f v there) needs))

  words_law : (i : ℕ) (k : WordKind) (v : View) → get_elem? views i ≡ some v → UnenteredLaw n frame es (set views i (after_word k s v))
  words_law i begin_checkpoint v there = let w : View = after_word begin_checkpoint s v in let begun : BegunHere v w = record { emptied = refl; number = refl; next = refl; joined = refl; links = refl; partitions = refl; sizes = refl } in
      law_aside n frame es es views m same_entries i v w there (noted_set views i v w there (all_noted v.unentered)) (λ f. subst (Alike (link v f)) (sym (link_begun v w begun f)) (record { holds = λ x. record { right = x.right; dirtied = x.dirtied; unentered = x.unentered }; marked = λ x. x }))
  words_law i k v there = aside_law i v (after_word k s v) there refl refl

pub unentered_kept : {e : Event} {s t : State} → Step e s t → HistoryInvariant s → IsUnenteredLaw s → IsUnenteredLaw t
unentered_kept (pools {s = s} (page_steps.cores x) a) h m = pins_law s h m x
unentered_kept (pools {s = s} (page_steps.touches i f k v there live inside a around) plain) h m = let b = block_of s.pool.logged (s.pool.core.frame f).tag in pages_law s h m i f k b v (paged k s.pool f v) s.log.entries (λ tag x. x) there live inside refl refl (needed (IsEntered s.log.entries (s.pool.core.frame f).tag) k b (s.pool.core.frame f) (link v f) a plain)
unentered_kept (lanes {s = s} i q k v there live low a alone) h m = aside_law s h m i v (stepped (laned k q v v)) there refl refl
unentered_kept (writes {s = s} i q f k v there live low inside a x) h m = pages_law s h m i f begin_write (block_of s.pool.logged (s.pool.core.frame f).tag) v (laned k q v (paged begin_write s.pool f v)) s.log.entries (λ tag y. y) there live inside refl refl tt
unentered_kept (notes {s = s} i q f noted k v there live low inside a x) h m = let p = pool_noting k s f in pages_law s h m i f k (block_of p.logged (s.pool.core.frame f).tag) v (laned (lane_kinds.lane_back noted) q v (paged k p f v)) s.log.entries (λ tag y. y) there live inside refl refl (needed_noted (IsEntered s.log.entries (s.pool.core.frame f).tag) k s q f (lane_hold v q) (link v f) x)
unentered_kept (logs {s = s} i k v there live a record_is) h m = aside_law s h m i v (view_logged k v) there refl refl
unentered_kept (enters {s = s} i f p c v there live inside x) h m = let tag = (s.pool.core.frame f).tag in let entry = new_entry s v.number c in
    pages_law s h m i f (make_entry p) (block_of s.pool.logged tag) v (has_written c (link v f).copied (s.end + change_size c) tag p (paged (make_entry p) s.pool f v)) (s.log.entries ++ entry ∷ []) (λ z y. (y.0, y.1, record { there = at_longer s.log.entries (entry ∷ []) y.0 y.1 y.2.there; of = y.2.of })) there live inside refl refl
    ((length s.log.entries, entry, record { there = at_last s.log.entries entry; of = makes_of c (s.end + change_size c) tag p (link v f) x.makes }), x.right.dirtied)
unentered_kept (reads {s = s} i f tag p v there live inside a) h m = aside_law s h m i v (looked (seen.LogEnd s.end) (has_read s.end tag p v)) there refl refl
unentered_kept (reads_size {s = s} i fork v there live a) h m = aside_law s h m i v (looked (seen.LogEnd s.end) (has_seen_size s.end fork (size_hold v fork).blocks v)) there refl refl
unentered_kept (words {s = s} i k v there live a) h m = words_law s h m i k v there

pub unentered_open : (c : Config) (store : Store) (page : Page) → IsUnenteredLaw (opening c store page)
unentered_open c store page = record {
  dirty = λ f below e. absurd (cc);
  marked = λ i f v there. subst (λ (z : View). EntersDirtied (link z f)) (at_only (first_view c.base c.frames c.partitions c.lanes) v i there).0 (subst EntersDirtied (sym (link_new c.frames c.partitions c.lanes 0 c.base f)) (λ e. absurd (cc)));
}
