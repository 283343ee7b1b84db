-- The frames that a checkpoint has marked.
use Rattle.std.proofs.Common.{◌≡◌, ◌≢◌, ℕ, ◌<◌, ◌≤◌, ◌+◌, Bool, true, false, List, [], ◌∷◌, ◌++◌, length, length-append, slice_index_or, refl, ap, ◌∙◌, subst, sym, arith}
use Rattle.std.specs.List.Sorted.{IsPermutation}
use Rattle.std.proofs.lemmas.List.{get_or_default}
use Rattle.std.proofs.lemmas.List.Elements.{All-nil, All-cons, All-append, Contains-append_left, Contains-push}
use Rattle.std.proofs.lemmas.List.Sorted.{All-permutation, Contains-permutation}
use Rattle.std.proofs.lemmas.Bool.{both_ways}
use mathlib.Core.Logic.{dite}
use native.Mathlib.Decide.{ℕ_discrete}
use Rattle.block_tag.specs.declared.tag.Tag.{Tag}
use Rattle.block_tag.specs.Names.{packed_tag}
use Rattle.pin_core.specs.declared.view.Link.{Link}
use Rattle.pin_core.specs.declared.view.View.{View}
use Rattle.pin_core.specs.State.{link}
use Rattle.frame_table.specs.Seats.{ListsOnly}
use Rattle.buffer_frames.specs.Working.{KeepsNotes}
use Rattle.buffer_frames.specs.Syncs.{NotesBlock, SeesNotDirty}
use Rattle.backend_pass.specs.declared.marked.MarkedFrame.{MarkedFrame}
use Rattle.backend_pass.specs.Passes.{PassState}
use Rattle.checkpointer.specs.Marked.{AreInside, AreMarked, HasVisited, HasNoneLeft, IsMarked, HasNoneToWrite, KeepsEachNote, NotesInOrder, sees_clean, notes_dirty}

by_left_to_write : (b : Bool) {A : Type 0} → (b ≡ true → A) → (b ≡ false → A) → A
by_left_to_write true is isnt = is refl
by_left_to_write false is isnt = isnt refl

-- a list before the first frame is marked
pub marked_none : (v : View) → HasNoneToWrite v → AreMarked [] v
marked_none v none f left_to_write = absurd (both_ways _ (none f) left_to_write)

pub visited_none : (v : View) → HasVisited 0 v
visited_none v f low = absurd (omega arith)

pub inside_none : (frames : ℕ) → AreInside frames []
inside_none frames = All-nil (λ (m : MarkedFrame). m.frame < frames)

-- one more frame is in the list
with_more : (marked : List MarkedFrame) (m : MarkedFrame) (f : ℕ) → IsMarked marked f → IsMarked (marked ++ m ∷ []) f
with_more marked m f is = record { entry = is.entry; there = Contains-append_left marked (m ∷ []) is.entry is.there; same = is.same }

pub inside_more : (frames : ℕ) (marked : List MarkedFrame) (m : MarkedFrame) → m.frame < frames → AreInside frames marked → AreInside frames (marked ++ m ∷ [])
inside_more frames marked m low inside = All-append (λ (x : MarkedFrame). x.frame < frames) marked (m ∷ []) inside (All-cons (λ (x : MarkedFrame). x.frame < frames) m [] low (inside_none frames))

-- the list, where the checkpoint looked at the frame f, and left the notes of the others
module _ (f : ℕ) (v w : View) (others : (g : ℕ) → g ≢ f → link w g ≡ link v g) where
  -- and the frame isn't one to write
  pub marked_clean : (marked : List MarkedFrame) → ((link v f).left_to_write ≡ false → (link w f).left_to_write ≡ false) → AreMarked marked v → AreMarked marked w
  marked_clean marked clean are g left_to_write = dite (ℕ_discrete g f)
      (λ (e : g ≡ f). by_left_to_write (link v g).left_to_write (are g) (λ none. absurd (both_ways _ (subst (λ (x : ℕ). (link w x).left_to_write ≡ false) (sym e) (clean (subst (λ (x : ℕ). (link v x).left_to_write ≡ false) e none))) left_to_write)))
      (λ (n : g ≢ f). are g (sym (ap (λ (l : Link). l.left_to_write) (others g n)) ∙ left_to_write))

  -- and it is left to write
  pub marked_dirty : (marked : List MarkedFrame) (m : MarkedFrame) → m.frame ≡ f → AreMarked marked v → AreMarked (marked ++ m ∷ []) w
  marked_dirty marked m is are g left_to_write = dite (ℕ_discrete g f)
      (λ (e : g ≡ f). record { entry = m; there = Contains-push marked m; same = is ∙ sym e })
      (λ (n : g ≢ f). with_more marked m g (are g (sym (ap (λ (l : Link). l.left_to_write) (others g n)) ∙ left_to_write)))

  pub visited_more : HasVisited f v → (link w f).visited ≡ true → HasVisited (f + 1) w
  visited_more before here g low = dite (ℕ_discrete g f)
      (λ (e : g ≡ f). subst (λ (x : ℕ). (link w x).visited ≡ true) (sym e) here)
      (λ (n : g ≢ f). ap (λ (l : Link). l.visited) (others g n) ∙ before g (omega arith))

  -- what was noted of the others is kept, and of the frame f
  pub notes_at : KeepsNotes (link v f) (link w f) → KeepsEachNote v w
  notes_at here g = dite (ℕ_discrete g f)
      (λ (e : g ≡ f). subst (λ (x : ℕ). KeepsNotes (link v x) (link w x)) (sym e) here)
      (λ (n : g ≢ f). subst (λ (l : Link). KeepsNotes (link v g) l) (sym (others g n)) (record { visited = λ x. x; left_to_write = λ x. x }))

-- A frame was looked at, and then marked as left to write
module _ (f : ℕ) (p q r : PassState) (m : MarkedFrame) (others : (g : ℕ) → g ≢ f → link q.view g ≡ link p.view g) (kept : q.marked ≡ p.marked) (is : r ≡ record q { marked = q.marked ++ m ∷ [] }) (same : m.frame ≡ f) where
  list_is : r.marked ≡ p.marked ++ m ∷ []
  list_is = ap (λ (x : PassState). x.marked) is ∙ ap (λ (l : List MarkedFrame). l ++ m ∷ []) kept

  view_is : r.view ≡ q.view
  view_is = ap (λ (x : PassState). x.view) is

  pub noted_visited : (link q.view f).visited ≡ true → (link r.view f).visited ≡ true
  noted_visited here = subst (λ (v : View). (link v f).visited ≡ true) (sym view_is) here

  pub noted_others : (g : ℕ) → g ≢ f → link r.view g ≡ link p.view g
  noted_others g n = subst (λ (v : View). link v g ≡ link p.view g) (sym view_is) (others g n)

  pub noted_marked : AreMarked p.marked p.view → AreMarked r.marked r.view
  noted_marked are = subst (λ (l : List MarkedFrame). AreMarked l r.view) (sym list_is) (marked_dirty f p.view r.view noted_others p.marked m same are)

  pub noted_inside : (frames : ℕ) → f < frames → AreInside frames p.marked → AreInside frames r.marked
  noted_inside frames low inside = subst (AreInside frames) (sym list_is) (inside_more frames p.marked m (subst (λ (x : ℕ). x < frames) (sym same) low) inside)

  pub noted_room : length p.marked ≤ f → length r.marked ≤ f + 1
  noted_room room = let more : length r.marked ≡ length p.marked + 1 = ap length list_is ∙ length-append p.marked (m ∷ []) in omega arith

-- the list in another order
pub marked_moved : (xs ys : List MarkedFrame) (v : View) → IsPermutation xs ys → AreMarked xs v → AreMarked ys v
marked_moved xs ys v moved are f left_to_write = let is = are f left_to_write in record { entry = is.entry; there = Contains-permutation xs ys is.entry moved is.there; same = is.same }

pub inside_moved : (frames : ℕ) (xs ys : List MarkedFrame) → IsPermutation xs ys → AreInside frames xs → AreInside frames ys
inside_moved frames xs ys moved inside = All-permutation (λ (m : MarkedFrame). m.frame < frames) xs ys moved inside

pub notes_none : (v : View) → KeepsEachNote v v
notes_none v f = record { visited = λ x. x; left_to_write = λ x. x }

pub notes_on : (v u w : View) → KeepsEachNote v u → KeepsEachNote u w → KeepsEachNote v w
notes_on v u w a b f = record { visited = λ x. (b f).visited ((a f).visited x); left_to_write = λ x. (b f).left_to_write ((a f).left_to_write x) }

-- each marked frame is written
pub all_written : (frames : ℕ) (marked : List MarkedFrame) (v w : View) → HasVisited frames v → AreMarked marked v → KeepsEachNote v w → ((k : ℕ) (d : MarkedFrame) → k < length marked → (link w (slice_index_or marked k d).frame).left_to_write ≡ false) → HasNoneLeft frames w
all_written frames marked v w visited are notes done f low = ((notes f).visited (visited f low), by_left_to_write (link v f).left_to_write left_to_write (notes f).left_to_write)
  where
    left_to_write : (link v f).left_to_write ≡ true → (link w f).left_to_write ≡ false
    left_to_write e = let is = are f e in subst (λ (x : ℕ). (link w x).left_to_write ≡ false) (ap (λ (m : MarkedFrame). m.frame) is.there.2 ∙ is.same) (done is.there.0 is.entry is.there.1)

-- one more is written
pub one_written : (place : ℕ) (marked list : List MarkedFrame) (first : MarkedFrame) (v w : View) → list ≡ marked → place < length marked → KeepsEachNote v w → (link w (slice_index_or list place first).frame).left_to_write ≡ false
    → ((k : ℕ) (d : MarkedFrame) → k < place → (link v (slice_index_or marked k d).frame).left_to_write ≡ false) → (k : ℕ) (d : MarkedFrame) → k < place + 1 → (link w (slice_index_or marked k d).frame).left_to_write ≡ false
one_written place marked list first v w is inside notes here before k d low = dite (ℕ_discrete k place)
    (λ (e : k ≡ place). subst (λ (x : MarkedFrame). (link w x.frame).left_to_write ≡ false) (ap (λ (l : List MarkedFrame). slice_index_or l place first) is ∙ get_or_default marked place first d inside ∙ ap (λ (j : ℕ). slice_index_or marked j d) (sym e)) here)
    (λ (n : k ≢ place). (notes (slice_index_or marked k d).frame).left_to_write (before k d (omega arith)))

-- one more frame was looked at, and not dirty
pub noted_clean : (f : ℕ) (v : View) (p q : PassState) → q.marked ≡ p.marked → SeesNotDirty f p.view q.view → ListsOnly f p.view q.view → NotesInOrder v f p.view p.marked → NotesInOrder v (f + 1) q.view q.marked
noted_clean f v p q kept sees lists notes = subst (NotesInOrder v (f + 1) q.view) (sym kept) (sees_clean notes sees lists)

-- or noted
pub noted_dirty : (v : View) (p q r : PassState) (m : MarkedFrame) (tag : Tag) → r ≡ record q { marked = q.marked ++ m ∷ [] } → q.marked ≡ p.marked → m.tag ≡ packed_tag tag → NotesBlock m.frame tag p.view q.view → NotesInOrder v m.frame p.view p.marked → NotesInOrder v (m.frame + 1) r.view r.marked
noted_dirty v p q r m tag is kept packed noted notes = subst (λ (x : PassState). NotesInOrder v (m.frame + 1) x.view x.marked) (sym is) (subst (λ (l : List MarkedFrame). NotesInOrder v (m.frame + 1) q.view (l ++ m ∷ [])) (sym kept) (notes_dirty m tag notes noted packed))
