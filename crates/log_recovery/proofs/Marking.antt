-- Tags that calls mark.
use Rattle.std.proofs.Common.{◌≡◌, ◌≢◌, ◌⊎◌, inl, inr, ℕ, ◌<◌, Bool, true, false, cond, List, [], ◌∷◌, ◌++◌, length, map, get_or, set, get_or-set_same, get_or-set_other, Option, Some, sym, refl, ap, ◌∙◌, subst, ⊎_elim}
use Rattle.std.proofs.lemmas.List.{get_or-map, length-map, map-set}
use mathlib.Core.Logic.{dite}
use native.Mathlib.Decide.{ℕ_discrete}
use Rattle.block_tag.specs.Names.{names_block, packed_tag, tag_eq}
use Rattle.block_tag.specs.declared.tag.Tag.{Tag}
use Rattle.segment_store.specs.Contents.{Marks, Pages, no_marks, with_mark}
use Rattle.segment_store.specs.Lanes.{mark_in}
use Rattle.history_core.specs.Log.{Entry, tag_in}
use Rattle.history_core.proofs.Histories.{at_last}
use Rattle.log_recovery.specs.Redo.{IsEnteredBlock, MarksFirst, MarksNone, MarksOnly, Redoes}
use Rattle.log_recovery.proofs.Twice.{entered_longer, same_tag}

-- none is marked
pub marks_same : (kind : Tag → Type 0) (marks : List Marks) → MarksOnly kind marks marks
marks_same kind marks = λ q tag is. inl is

pub marks_still : (kind : Tag → Type 0) (old new : List Marks) → new ≡ old → MarksOnly kind old new
marks_still kind old new same = subst (MarksOnly kind old) (sym same) (marks_same kind old)

-- one call after another
pub marks_then : (kind : Tag → Type 0) (a b c : List Marks) → MarksOnly kind a b → MarksOnly kind b c → MarksOnly kind a c
marks_then kind a b c x y = λ q tag is. ⊎_elim (λ (was : get_or b q no_marks tag ≡ true). x q tag was) (λ (k : kind tag). inr k) (y q tag is)

-- tags of one kind are of another
pub marks_wider : (kind other : Tag → Type 0) (a b : List Marks) → ((tag : Tag) → kind tag → other tag) → MarksOnly kind a b → MarksOnly other a b
marks_wider kind other a b wider x = λ q tag is. ⊎_elim (λ (was : get_or a q no_marks tag ≡ true). inl was) (λ (k : kind tag). inr (wider tag k)) (x q tag is)

-- the marks of one lane changed
marks_at : (kind : Tag → Type 0) (a : List Marks) (q : ℕ) (marks : Marks) → q < length a → ((tag : Tag) → marks tag ≡ true → (get_or a q no_marks tag ≡ true) ⊎ kind tag) → MarksOnly kind a (set a q marks)
marks_at kind a q marks below only = λ k tag is. dite (ℕ_discrete k q) (here k tag is) (elsewhere k tag is)
  where
    here : (k : ℕ) (tag : Tag) → get_or (set a q marks) k no_marks tag ≡ true → k ≡ q → (get_or a k no_marks tag ≡ true) ⊎ kind tag
    here k tag is at = subst (λ (n : ℕ). (get_or a n no_marks tag ≡ true) ⊎ kind tag) (sym at)
        (only tag (ap (λ (m : Marks). m tag) (sym (get_or-set_same a q marks no_marks below)) ∙ ap (λ (n : ℕ). get_or (set a q marks) n no_marks tag) (sym at) ∙ is))

    elsewhere : (k : ℕ) (tag : Tag) → get_or (set a q marks) k no_marks tag ≡ true → k ≢ q → (get_or a k no_marks tag ≡ true) ⊎ kind tag
    elsewhere k tag is other = inl (ap (λ (m : Marks). m tag) (sym (get_or-set_other a q k marks no_marks other)) ∙ is)

module _ {L : Type 0} (unsynced : L → Marks) (ls : List L) (q : ℕ) (y d : L) (below : q < length ls) where
  within : q < length (map unsynced ls)
  within = subst (λ (n : ℕ). q < n) (sym (length-map ls unsynced)) below

  marks_of_one : (kind : Tag → Type 0) → ((tag : Tag) → unsynced y tag ≡ true → (unsynced (get_or ls q d) tag ≡ true) ⊎ kind tag) → MarksOnly kind (map unsynced ls) (map unsynced (set ls q y))
  marks_of_one kind only = subst (MarksOnly kind (map unsynced ls)) (sym (map-set unsynced ls q y))
      (marks_at kind (map unsynced ls) q (unsynced y) within
      (subst (λ (m : Marks). (tag : Tag) → unsynced y tag ≡ true → (m tag ≡ true) ⊎ kind tag) (sym (get_or-map unsynced ls q d no_marks below)) only))

  -- a lane is written
  pub marks_written : (tag : Tag) → unsynced y ≡ with_mark tag true (unsynced (get_or ls q d)) → MarksOnly (λ t. t ≡ tag) (map unsynced ls) (map unsynced (set ls q y))
  marks_written tag marked = marks_of_one (λ t. t ≡ tag) (λ t is. by t (tag_eq t tag) refl (ap (λ (m : Marks). m t) (sym marked) ∙ is))
    where
      by : (t : Tag) (b : Bool) → tag_eq t tag ≡ b → with_mark tag true (unsynced (get_or ls q d)) t ≡ true → (unsynced (get_or ls q d) t ≡ true) ⊎ (t ≡ tag)
      by t true e is = inr (same_tag t tag e)
      by t false e is = inl (sym (ap (λ (b : Bool). cond b true (unsynced (get_or ls q d) t)) e) ∙ is)

  -- or synced
  pub marks_cleared : unsynced y ≡ no_marks → MarksOnly (λ t. ⊥) (map unsynced ls) (map unsynced (set ls q y))
  marks_cleared clear = marks_of_one (λ t. ⊥) (λ t is. absurd (let none : unsynced y t ≡ false = ap (λ (m : Marks). m t) clear in cc))

  -- or a sync of it failed
  pub marks_kept : unsynced y ≡ unsynced (get_or ls q d) → MarksOnly (λ t. ⊥) (map unsynced ls) (map unsynced (set ls q y))
  marks_kept same = marks_of_one (λ t. ⊥) (λ t is. inl (ap (λ (m : Marks). m t) (sym same) ∙ is))

-- no tag at all is of any kind
pub marks_of_none : (kind : Tag → Type 0) (a b c : List Marks) → MarksOnly kind a b → MarksOnly (λ t. ⊥) b c → MarksOnly kind a c
marks_of_none kind a b c x y = marks_then kind a b c x (marks_wider (λ t. ⊥) kind b c (λ t none. absurd none) y)

-- the block of one entry more
pub marks_more : (es : List Entry) (e : Entry) (tag : Tag) (a b c : List Marks) → names_block tag ≡ true → tag_in e.change ≡ Some (packed_tag tag) → MarksOnly (IsEnteredBlock es) a b → MarksOnly (λ t. t ≡ tag) b c
    → MarksOnly (IsEnteredBlock (es ++ e ∷ [])) a c
marks_more es e tag a b c named of x y = marks_then (IsEnteredBlock (es ++ e ∷ [])) a b c
    (marks_wider (IsEnteredBlock es) (IsEnteredBlock (es ++ e ∷ [])) a b (λ t is. entered_longer es (e ∷ []) t is) x)
    (marks_wider (λ t. t ≡ tag) (IsEnteredBlock (es ++ e ∷ [])) b c (λ t is. subst (IsEnteredBlock (es ++ e ∷ [])) (sym is) entered) y)
  where
    entered : IsEnteredBlock (es ++ e ∷ []) tag
    entered = (named, (length es, e, record { there = at_last es e; of = of }))

-- a sync behind a redo
pub marks_synced : (leads : List Entry → Type 0) (a b c : List Marks) → MarksFirst leads a b → MarksOnly (λ t. ⊥) b c → MarksFirst leads a c
marks_synced leads a b c x y = record { entries = x.entries; first = x.first; only = marks_of_none (IsEnteredBlock x.entries) a b c x.only y }

-- redo marks none
pub redone_unmarked : {L : Type 0} (contents : L → Option Pages) (failed : L → Marks) (es : List Entry) (old new after : List L) → Redoes contents failed es old new → after ≡ new → MarksNone contents failed old after
redone_unmarked {L} contents failed es old new after redoes same tag known marked =
    let h = redoes.each tag in
    let here : mark_in (map failed new) tag ≡ true = ap (λ (l : List L). mark_in (map failed l) tag) (sym same) ∙ marked in
    sym (h.kept known (λ entered. let not = h.written known entered in let no : true ≡ false = sym here ∙ not in cc)) ∙ here
