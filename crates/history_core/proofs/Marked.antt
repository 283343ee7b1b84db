-- A load that shows a block to be gone from its frame has it listed as gone.
use Rattle.std.proofs.Common.{◌≡◌, ◌≢◌, ℕ, ◌+◌, Bool, true, false, List, [], ◌∷◌, ◌++◌, map, length, set, eq-eqb, ne_eqb, append-nil, sym, refl, ap, ◌∙◌, subst, ⊎_elim}
use Rattle.std.specs.Prelude.{nat_eq, not, ◌||◌, ◌&&◌}
use mathlib.Core.Option.{some, some-injective, some-ne-none}
use lib.ListN.{get_elem?}
use Rattle.pin_core.specs.declared.view.Load.{Load}
use Rattle.pin_core.specs.declared.view.Link.{Link}
use Rattle.pin_core.specs.declared.view.LoadedWord.TheVariants as seen
use Rattle.pin_core.specs.declared.view.Resident.{Resident}
use Rattle.pin_core.specs.declared.view.View.{View}
use Rattle.pin_core.specs.State.{Frame, hold, lane_hold, link, size_hold, new_view, emptied_view, joined_view}
use Rattle.pin_core.specs.State as pins
use Rattle.pin_core.specs.Kinds as pin_kinds
use Rattle.pin_core.specs.Kinds.{load_of, seen_gone, sighted}
use Rattle.pin_core.specs.Sizes as size_kinds
use Rattle.pin_core.specs.Sizes.{SizeKind, view_sized}
use Rattle.pin_core.specs.Steps as pin_steps
use Rattle.pin_core.specs.Turns.{view_turned}
use Rattle.page_core.specs.State as page
use Rattle.page_core.specs.Kinds as kinds
use Rattle.page_core.specs.Kinds.{begin_write, make_entry}
use Rattle.page_core.specs.Steps as page_steps
use Rattle.history_core.specs.Log.{change_size}
use Rattle.history_core.specs.State.{State}
use Rattle.history_core.specs.Lanes.{lane_back}
use Rattle.history_core.specs.Device.{view_logged}
use Rattle.history_core.specs.Words as word_kinds
use Rattle.history_core.specs.Words.{WordKind, word_of, word_at}
use Rattle.history_core.specs.Residents.{ShowsGone, MarksGone, LoadsMarkGone}
use Rattle.history_core.specs.Steps.{Event, stepped, looked, pool_noting, paged, laned, has_read, has_seen_size, has_written, view_after_word, Step, pools, lanes, writes, notes, logs, enters, reads, reads_size, words, after_word}
use Rattle.history_core.proofs.Listed.{at_mapped}
use Rattle.grid.proofs.Lists.{at_set, at_end, at_last, at_longer}

same_load : (ls : List Load) (a b : Load) → ls ++ a ∷ [] ≡ ls ++ b ∷ [] → a ≡ b
same_load ls a b e = some-injective a b (sym (at_last ls a) ∙ ap (λ (l : List Load). get_elem? l (length ls)) e ∙ at_last ls b)

past_end : (ls : List Load) (x : Load) → get_elem? ls (length ls) ≡ some x → ⊥
past_end [] x e = some-ne-none x (sym e)
past_end (y ∷ ls) x e = past_end ls x e

-- a view that made no load
marks_same : (v w : View) → w.loads ≡ v.loads → MarksGone v w
marks_same v w same what k r more at shown = absurd (past_end v.loads what (ap (λ (l : List Load). get_elem? l (length v.loads)) (sym same ∙ more) ∙ at_last v.loads what))

marks_none : (v w : View) → w.loads ≡ v.loads ++ [] → MarksGone v w
marks_none v w same = marks_same v w (same ∙ append-nil v.loads)

-- one that lists none
marks_empty : (v w : View) → w.loads ≡ [] → MarksGone v w
marks_empty v w none what k r more at shown = absurd (some-ne-none what (sym (ap (λ (l : List Load). get_elem? l (length v.loads)) (sym none ∙ more) ∙ at_last v.loads what)))

-- one that made the load x
marks_load : (v w : View) (x : Load) → w.loads ≡ v.loads ++ x ∷ [] → ((r : Resident) (k : ℕ) → get_elem? v.residents k ≡ some r → ShowsGone x.loaded_word r → get_elem? w.residents k ≡ some (record r { gone = true })) → MarksGone v w
marks_load v w x is gone what k r more at shown = let same = same_load v.loads x what (sym is ∙ more) in gone r k at (subst (λ (l : Load). ShowsGone l.loaded_word r) (sym same) shown)

-- what a load refuses is gone
marked : (there here refused : Bool) → here ≡ true → refused ≡ true → (there || (here && refused)) ≡ true
marked true here refused h x = refl
marked false true true h x = refl
marked false true false h x = x
marked false false refused h x = h

gone_marked : (p : Resident → Bool) (f : ℕ) (rs more : List Resident) (k : ℕ) (r : Resident) → get_elem? rs k ≡ some r → r.frame ≡ f → p r ≡ true → get_elem? (seen_gone p f rs ++ more) k ≡ some (record r { gone = true })
gone_marked p f rs more k r at frame refused = let mark : Resident → Resident = λ (x : Resident). record x { gone = x.gone || (nat_eq x.frame f && p x) } in
    at_longer (seen_gone p f rs) more k (mark r) (at_mapped mark rs k r at) ∙ ap (λ (b : Bool). some (record r { gone = b })) (marked r.gone (nat_eq r.frame f) (p r) (eq-eqb r.frame f frame) refused)

-- the kinds of `pin_core` at a frame
pin_marks : (k : pin_kinds.Kind) (partition_of : ℕ → ℕ) (f : ℕ) (fr : Frame) (l : Link) (v : View) → MarksGone v (pin_kinds.view_after k partition_of f fr l v)
pin_marks pin_kinds.load_state partition_of f fr l v = marks_load v (pin_kinds.view_after pin_kinds.load_state partition_of f fr l v) (load_of v (seen.State f fr.word)) refl
    (λ r j at shown. gone_marked (λ (q : Resident). not fr.word.valid) f v.residents (sighted (pin_kinds.link_after pin_kinds.load_state fr l).seen_valid (pin_kinds.link_after pin_kinds.load_state fr l).tag f) j r at shown.0 (ap not shown.1))
pin_marks pin_kinds.load_tag partition_of f fr l v = marks_load v (pin_kinds.view_after pin_kinds.load_tag partition_of f fr l v) (load_of v (seen.Tag f fr.tag)) refl
    (λ r j at shown. gone_marked (λ (q : Resident). not (nat_eq q.tag fr.tag)) f v.residents (sighted (pin_kinds.link_after pin_kinds.load_tag fr l).seen_valid (pin_kinds.link_after pin_kinds.load_tag fr l).tag f) j r at shown.0 (ap not (ne_eqb r.tag fr.tag (λ e. shown.1 (sym e)))))
pin_marks k partition_of f fr l v = marks_none v (pin_kinds.view_after k partition_of f fr l v) refl

-- those at the size of a fork
sized_marks : (k : SizeKind) (fork : ℕ) (s : pins.State) (v : View) → MarksGone v (view_sized k fork s v)
sized_marks size_kinds.load_size fork s v = marks_load v (view_sized size_kinds.load_size fork s v) (load_of v (seen.Size fork (s.size fork).blocks)) refl (λ r j at shown. absurd shown)
sized_marks size_kinds.share_size fork s v = marks_load v (view_sized size_kinds.share_size fork s v) (load_of v (seen.Size fork (s.size fork).blocks)) refl (λ r j at shown. absurd shown)
sized_marks size_kinds.exclude_size fork s v = marks_load v (view_sized size_kinds.exclude_size fork s v) (load_of v (seen.Size fork (s.size fork).blocks)) refl (λ r j at shown. absurd shown)
sized_marks (size_kinds.pass_frame f n) fork s v = let p : Resident → Bool = λ (q : Resident). not (nat_eq q.tag (s.frame f).tag) in marks_load v (view_sized (size_kinds.pass_frame f n) fork s v) (load_of v (seen.Tag f (s.frame f).tag)) refl
    (λ r j at shown. ap (λ (l : List Resident). get_elem? l j) (sym (append-nil (seen_gone p f v.residents))) ∙ gone_marked p f v.residents [] j r at shown.0 (ap not (ne_eqb r.tag (s.frame f).tag (λ e. shown.1 (sym e)))))
sized_marks k fork s v = marks_none v (view_sized k fork s v) refl

-- those of `page_core` at a frame, whatever else changes of the view
page_marks : (k : kinds.Kind) (f : ℕ) (fr : Frame) (v w : View) → w.loads ≡ v.loads ++ map (load_of v) (kinds.seen_by k f fr) → MarksGone v w
page_marks kinds.load_content f fr v w is = marks_load v w (load_of v (seen.Content f fr.sharers fr.exclusive fr.copying)) is (λ r j at shown. absurd shown)
page_marks k f fr v w is = marks_none v w is

-- those at the other words
word_marks : (k : WordKind) (found end : ℕ) (v : View) → MarksGone v (view_after_word k found end v)
word_marks word_kinds.load_end found end v = marks_load v (view_after_word word_kinds.load_end found end v) (load_of v (seen.LogEnd found)) refl (λ r j at shown. absurd shown)
word_marks word_kinds.begin_checkpoint found end v = marks_load v (view_after_word word_kinds.begin_checkpoint found end v) (load_of v (seen.LogEnd found)) refl (λ r j at shown. absurd shown)
word_marks word_kinds.load_flushed found end v = marks_load v (view_after_word word_kinds.load_flushed found end v) (load_of v (seen.Flushed found)) refl (λ r j at shown. absurd shown)
word_marks word_kinds.load_redo found end v = marks_load v (view_after_word word_kinds.load_redo found end v) (load_of v (seen.Redo found)) refl (λ r j at shown. absurd shown)
word_marks word_kinds.load_hand found end v = marks_load v (view_after_word word_kinds.load_hand found end v) (load_of v (seen.Hand found)) refl (λ r j at shown. absurd shown)
word_marks (word_kinds.load_counter number) found end v = marks_load v (view_after_word (word_kinds.load_counter number) found end v) (load_of v (seen.Count number found)) refl (λ r j at shown. absurd shown)
word_marks (word_kinds.load_hint number) found end v = marks_load v (view_after_word (word_kinds.load_hint number) found end v) (load_of v (seen.Hint number found)) refl (λ r j at shown. absurd shown)
word_marks k found end v = marks_same v (view_after_word k found end v) refl

-- one view changes
marks_set : (views : List View) (i j : ℕ) (a b v w : View) → get_elem? views i ≡ some a → MarksGone a b → get_elem? views j ≡ some v → get_elem? (set views i b) j ≡ some w → MarksGone v w
marks_set views i j a b v w there marks at now = ⊎_elim
    (λ (y : (j ≡ i) × (b ≡ w)). let same : a ≡ v = some-injective a v (sym there ∙ ap (get_elem? views) (sym y.0) ∙ at) in subst (λ (z : View). MarksGone z w) same (subst (MarksGone a) y.1 marks))
    (λ (y : (j ≢ i) × (get_elem? views j ≡ some w)). subst (MarksGone v) (some-injective v w (sym at ∙ y.1)) (marks_same v v refl))
    (at_set views i j b w now)

pins_mark : {e : pin_steps.Event} {s t : pins.State} → pin_steps.Step e s t → (j : ℕ) (v w : View) → get_elem? s.views j ≡ some v → get_elem? t.views j ≡ some w → MarksGone v w
pins_mark (pin_steps.touches {s = s} i f k u there live inside a around) j v w at now = marks_set s.views i j u (pin_kinds.view_after k s.partition_of f (s.frame f) (link u f) u) v w there (pin_marks k s.partition_of f (s.frame f) (link u f) u) at now
pins_mark (pin_steps.turns {s = s} i p k u there live below a) j v w at now = marks_set s.views i j u (view_turned k p (hold u p) u) v w there (marks_same u (view_turned k p (hold u p) u) refl) at now
pins_mark (pin_steps.sized {s = s} i fork k u there live a) j v w at now = marks_set s.views i j u (view_sized k fork s u) v w there (sized_marks k fork s u) at now
pins_mark (pin_steps.splits {s = s} u there room) j v w at now = let x : View = record u { next = u.next + 1 } in let b : View = new_view u.next s.base (length u.links) (length u.partitions) (length u.lanes) in ⊎_elim
    (λ (y : get_elem? (set s.views 0 x) j ≡ some w). marks_set s.views 0 j u x v w there (marks_same u x refl) at y)
    (λ (y : (b ≡ w) × (j ≡ length (set s.views 0 x))). marks_empty v w (ap (λ (z : View). z.loads) (sym y.0)))
    (at_end (set s.views 0 x) b w j now)
pins_mark (pin_steps.joins {s = s} k a b there other here live free) j v w at now = let x : View = joined_view a b in ⊎_elim
    (λ (y : (j ≡ k) × (emptied_view ≡ w)). marks_empty v w (ap (λ (z : View). z.loads) (sym y.1)))
    (λ (y : (j ≢ k) × (get_elem? (set s.views 0 x) j ≡ some w)). marks_set s.views 0 j a x v w there (marks_same a x refl) at y.1)
    (at_set (set s.views 0 x) k j emptied_view w now)

pages_mark : {e : page_steps.Event} {s t : page.State} → page_steps.Step e s t → (j : ℕ) (v w : View) → get_elem? s.core.views j ≡ some v → get_elem? t.core.views j ≡ some w → MarksGone v w
pages_mark (page_steps.cores x) j v w at now = pins_mark x j v w at now
pages_mark (page_steps.touches {s = s} i f k u there live inside a around) j v w at now = marks_set s.core.views i j u (paged k s f u) v w there (page_marks k f (s.core.frame f) u (paged k s f u) refl) at now

step_marks : {e : Event} {s t : State} → Step e s t → (j : ℕ) (v w : View) → get_elem? s.pool.core.views j ≡ some v → get_elem? t.pool.core.views j ≡ some w → MarksGone v w
step_marks (pools x a) j v w at now = pages_mark x j v w at now
step_marks (lanes {s = s} i n k u there live low a alone) j v w at now = let b : View = stepped (laned k n u u) in marks_set s.pool.core.views i j u b v w there (marks_same u b refl) at now
step_marks (writes {s = s} i n f k u there live low inside a x) j v w at now = let b : View = laned k n u (paged begin_write s.pool f u) in marks_set s.pool.core.views i j u b v w there (page_marks begin_write f (s.pool.core.frame f) u b refl) at now
step_marks (notes {s = s} i n f noted k u there live low inside a x) j v w at now = let b : View = laned (lane_back noted) n u (paged k (pool_noting k s f) f u) in marks_set s.pool.core.views i j u b v w there (page_marks k f (s.pool.core.frame f) u b refl) at now
step_marks (logs {s = s} i k u there live a record_is) j v w at now = marks_set s.pool.core.views i j u (view_logged k u) v w there (marks_same u (view_logged k u) refl) at now
step_marks (enters {s = s} i f p ch u there live inside x) j v w at now = let b : View = has_written ch (link u f).copied (s.end + change_size ch) (s.pool.core.frame f).tag p (paged (make_entry p) s.pool f u) in marks_set s.pool.core.views i j u b v w there (page_marks (make_entry p) f (s.pool.core.frame f) u b refl) at now
step_marks (reads {s = s} i f tag p u there live inside a) j v w at now = let read : View = has_read s.end tag p u in let b : View = looked (seen.LogEnd s.end) read in marks_set s.pool.core.views i j u b v w there (marks_load u b (load_of read (seen.LogEnd s.end)) refl (λ r k at shown. absurd shown)) at now
step_marks (reads_size {s = s} i fork u there live a) j v w at now = let read : View = has_seen_size s.end fork (size_hold u fork).blocks u in let b : View = looked (seen.LogEnd s.end) read in marks_set s.pool.core.views i j u b v w there (marks_load u b (load_of read (seen.LogEnd s.end)) refl (λ r k at shown. absurd shown)) at now
step_marks (words {s = s} i k u there live a) j v w at now = marks_set s.pool.core.views i j u (after_word k s u) v w there (word_marks k (word_of (word_at k) s) s.end u) at now

pub loads_mark_gone : (s : State) → LoadsMarkGone s
loads_mark_gone s e t x i v w at now = step_marks x i v w at now
