-- A longer log, and what its entries make of the blocks' pages.
use Rattle.std.proofs.Common.{◌≡◌, ◌≢◌, ◌⊎◌, inl, inr, ℕ, zero, suc, ◌+◌, ◌-◌, ◌*◌, ◌<◌, ◌≤◌, Bool, true, false, cond, eq-eqb, ne_eqb, List, [], ◌∷◌, ◌++◌, length, length-append, length-take, take, append-nil, Option, Some, None, sym, refl, ap, ◌∙◌, subst, ⊎_elim, arith, lit<}
use Rattle.std.specs.Prelude.{option_map, replicate}
use Rattle.std.specs.Option.{is_some}
use Rattle.std.proofs.lemmas.Bool.{le-leb, lt-leb, cases_lt, both_ways}
use Rattle.std.proofs.lemmas.List.{append_assoc}
use Rattle.std.proofs.lemmas.Option.{same_Some}
use mathlib.Core.Logic.{dite}
use mathlib.Core.Option.{some, some-ne-none, some-injective}
use native.Mathlib.Decide.{ℕ_discrete}
use lib.ListN.{get_elem?, length-replicate}
use Rattle.byteorder.specs.Endian.{little_bytes}
use Rattle.page_layout.specs.Fields.{lsn_of, with_lsn}
use Rattle.page_layout.specs.Soundness.{is_sound_page}
use Rattle.pin_core.specs.State.{Page, first_block}
use Rattle.history_core.specs.Log.{is_of_page, AreOfPages, Span, Change, image, ranges, resize, spans_size, rounded, change_size, is_image, span_places, span_bytes, change_bytes, record_bytes, records, head_bytes, head_size, log_bytes, Entry, Log, record_size, end_of, end_from, log_end, AreChained, IsChange, AreImages, AreValid, LogLaw, cut, with_spans, changed_page, page_after, cell, tag_in, IsEntryOf, HasImage}
use Rattle.grid.proofs.Lists.{at_end}

-- an entry takes bytes of the log
pub some_size : (c : Change) → 0 < change_size c
some_size (image tag page) = lit< tt
some_size (ranges tag spans) = omega arith
some_size (resize fork old new) = lit< tt

-- a change is of the block, or not
pub is_of : (c : Change) (tag : ℕ) → (tag_in c ≡ Some tag) ⊎ (tag_in c ≢ Some tag)
is_of (image t q) tag = dite (ℕ_discrete t tag) (λ e. inl (ap (λ (z : ℕ). Some z) e)) (λ o. inr (λ z. o (same_Some t tag z)))
is_of (ranges t spans) tag = dite (ℕ_discrete t tag) (λ e. inl (ap (λ (z : ℕ). Some z) e)) (λ o. inr (λ z. o (same_Some t tag z)))
is_of (resize fork old new) tag = inr (λ z. cc)

-- an entry of another block leaves the page of a block
pub changed_else : (c : Change) (end tag : ℕ) (p : Option Page) → is_of_page c ≡ true → tag_in c ≢ Some tag → changed_page c end tag p ≡ p
unfolding changed_page
changed_else (image t q) end tag p valid other = ap (λ (b : Bool). cond b (Some q) p) (ne_eqb tag t (λ e. other (ap (λ (z : ℕ). Some z) (sym e))))
changed_else (ranges t spans) end tag p valid other = ap (λ (b : Bool). cond b (option_map (λ (q : Page). with_lsn end (with_spans spans q)) p) p) (ne_eqb tag t (λ e. other (ap (λ (z : ℕ). Some z) (sym e))))
changed_else (resize fork old new) end tag p valid other = absurd (cc)

-- the image is the page of its block
pub changed_image : (t end tag : ℕ) (q : Page) (p : Option Page) → tag ≡ t → changed_page (image t q) end tag p ≡ Some q
unfolding changed_page
changed_image t end tag q p same = ap (λ (b : Bool). cond b (Some q) p) (eq-eqb tag t same)

-- bytes of the block's page are replaced
pub changed_ranges : (t end tag : ℕ) (spans : List Span) (p : Page) → tag ≡ t → changed_page (ranges t spans) end tag (Some p) ≡ Some (with_lsn end (with_spans spans p))
unfolding changed_page
changed_ranges t end tag spans p same = ap (λ (b : Bool). cond b (Some (with_lsn end (with_spans spans p))) (Some p)) (eq-eqb tag t same)

-- where the page after an image isn't sound, the image is of another block
before_image : (c : Change) (end tag : ℕ) (p : Option Page) (q : Page) → IsChange end c → is_image c ≡ true → changed_page c end tag p ≡ Some q → is_sound_page q ≡ false → p ≡ Some q
before_image (image t r) end tag p q valid whole is unsound = dite (ℕ_discrete tag t)
    (λ (e : tag ≡ t). absurd (both_ways _ unsound (ap is_sound_page (sym (same_Some r q (sym (changed_image t end tag r p e) ∙ is))) ∙ valid.sound)))
    (λ (o : tag ≢ t). sym (changed_else (image t r) end tag p refl (λ z. o (sym (same_Some t tag z)))) ∙ is)
before_image (ranges t spans) end tag p q valid whole is unsound = absurd (cc)
before_image (resize fork old new) end tag p q valid whole is unsound = absurd (cc)

-- the page of a block after one entry more, whatever it was before
pub after_longer : (tag : ℕ) (es : List Entry) (e : Entry) (p : Option Page) → page_after tag (es ++ e ∷ []) p ≡ changed_page e.change (end_of e) tag (page_after tag es p)
unfolding page_after
after_longer tag [] e p = refl
after_longer tag (x ∷ es) e p = after_longer tag es e (changed_page x.change (end_of x) tag p)

pub cell_longer : (origin : ℕ → Option Page) (es : List Entry) (e : Entry) (tag : ℕ) → cell origin (es ++ e ∷ []) tag ≡ changed_page e.change (end_of e) tag (cell origin es tag)
cell_longer origin es e tag = after_longer tag es e (origin tag)

pub cut_in : (p : ℕ) (e : Entry) (es : List Entry) → end_of e ≤ p → cut p (e ∷ es) ≡ e ∷ cut p es
unfolding cut
cut_in p e es h = ap (λ (b : Bool). cond b (e ∷ cut p es) (cut p es)) (le-leb (end_of e) p h)

pub cut_out : (p : ℕ) (e : Entry) (es : List Entry) → p < end_of e → cut p (e ∷ es) ≡ cut p es
unfolding cut
cut_out p e es h = ap (λ (b : Bool). cond b (e ∷ cut p es) (cut p es)) (lt-leb (end_of e) p h)

-- an entry ends at the position or before it, or past it
pub in_or_out : {A : Type 0} (p : ℕ) (e : Entry) → (end_of e ≤ p → A) → (p < end_of e → A) → A
in_or_out p e x y = ⊎_elim y x (cases_lt p (end_of e))

-- an entry that ends past the position is cut away
pub cut_longer : (p : ℕ) (es : List Entry) (e : Entry) → p < end_of e → cut p (es ++ e ∷ []) ≡ cut p es
unfolding cut
cut_longer p [] e h = cut_out p e [] h
cut_longer p (x ∷ es) e h = in_or_out p x
    (λ (t : end_of x ≤ p). cut_in p x (es ++ e ∷ []) t ∙ ap (λ (l : List Entry). x ∷ l) (cut_longer p es e h) ∙ sym (cut_in p x es t))
    (λ (t : p < end_of x). cut_out p x (es ++ e ∷ []) t ∙ cut_longer p es e h ∙ sym (cut_out p x es t))

-- where each entry ends at the position or before it none is cut away
pub cut_all : (p : ℕ) (es : List Entry) → ((k : ℕ) (e : Entry) → get_elem? es k ≡ some e → end_of e ≤ p) → cut p es ≡ es
unfolding cut
cut_all p [] h = refl
cut_all p (e ∷ es) h = cut_in p e es (h zero e refl) ∙ ap (λ (l : List Entry). e ∷ l) (cut_all p es (λ k x t. h (suc k) x t))

-- if each entry ends past the position all are cut away
pub cut_none_below : (p : ℕ) (es : List Entry) → ((k : ℕ) (e : Entry) → get_elem? es k ≡ some e → p < end_of e) → cut p es ≡ []
unfolding cut
cut_none_below p [] h = refl
cut_none_below p (e ∷ es) h = cut_out p e es (h zero e refl) ∙ cut_none_below p es (λ k x t. h (suc k) x t)

-- an entry of a block among the later ones
pub deeper : (x : Entry) (es : List Entry) (tag k : ℕ) (e : Entry) → IsEntryOf es tag k e → IsEntryOf (x ∷ es) tag (suc k) e
deeper x es tag k e h = record { there = h.there; of = h.of }

-- an entry of a block, by another name of the block's
pub entry_at : (es : List Entry) (a b k : ℕ) (e : Entry) → a ≡ b → IsEntryOf es a k e → IsEntryOf es b k e
entry_at es a b k e same h = subst (λ (z : ℕ). IsEntryOf es z k e) same h

-- what holds of the first entry, if it is of the block, and of each later one of it
pub each_entry : (x : Entry) (es : List Entry) (tag : ℕ) (P : Entry → Type 0) → (tag_in x.change ≡ Some tag → P x) → ((j : ℕ) (d : Entry) → IsEntryOf es tag j d → P d) → (j : ℕ) (d : Entry) → IsEntryOf (x ∷ es) tag j d → P d
each_entry x es tag P a b zero d h = let is : x ≡ d = some-injective x d h.there in subst P is (a (ap (λ (y : Entry). tag_in y.change) is ∙ h.of))
each_entry x es tag P a b (suc j) d h = b j d (record { there = h.there; of = h.of })

-- an entry of a block, where the log has one entry more
pub entry_longer : (es : List Entry) (x : Entry) (tag k : ℕ) (e : Entry) → IsEntryOf (es ++ x ∷ []) tag k e → (IsEntryOf es tag k e) ⊎ ((x ≡ e) × (tag_in x.change ≡ Some tag))
entry_longer es x tag k e h = ⊎_elim
    (λ (t : get_elem? es k ≡ some e). inl (record { there = t; of = h.of }))
    (λ (t : (x ≡ e) × (k ≡ length es)). inr (t.0, ap (λ (y : Entry). tag_in y.change) t.0 ∙ h.of))
    (at_end es x e k h.there)

-- the page of a block that has no entry
pub after_absent : (tag : ℕ) (es : List Entry) (x : Option Page) → AreOfPages es → ((k : ℕ) (e : Entry) → IsEntryOf es tag k e → ⊥) → page_after tag es x ≡ x
unfolding page_after
after_absent tag [] x valid none = refl
after_absent tag (e ∷ es) x valid none = after_absent tag es (changed_page e.change (end_of e) tag x) (λ k d at. valid (suc k) d at) (λ k d h. none (suc k) d (deeper e es tag k d h)) ∙ changed_else e.change (end_of e) tag x (valid 0 e refl) (λ of. none 0 e (record { there = refl; of = of }))

pub cell_absent : (origin : ℕ → Option Page) (es : List Entry) (tag : ℕ) → AreOfPages es → ((k : ℕ) (e : Entry) → IsEntryOf es tag k e → ⊥) → cell origin es tag ≡ origin tag
cell_absent origin es tag valid none = after_absent tag es (origin tag) valid none

-- the pages where there is no entry
pub cell_none : (origin : ℕ → Option Page) (tag : ℕ) → cell origin [] tag ≡ origin tag
unfolding page_after
cell_none origin tag = refl

-- the page of a block that has no entry up to the position
pub after_none : (tag p : ℕ) (es : List Entry) (x : Option Page) → AreOfPages es → ((k : ℕ) (e : Entry) → IsEntryOf es tag k e → p < end_of e) → page_after tag (cut p es) x ≡ x
unfolding page_after cut
after_none tag p [] x valid none = refl
after_none tag p (e ∷ es) x valid none = let rest : (y : Option Page) → page_after tag (cut p es) y ≡ y = (λ y. after_none tag p es y (λ k d at. valid (suc k) d at) (λ k d h. none (suc k) d (deeper e es tag k d h))) in in_or_out p e
    (λ (low : end_of e ≤ p). ap (λ (l : List Entry). page_after tag l x) (cut_in p e es low) ∙ rest (changed_page e.change (end_of e) tag x) ∙ changed_else e.change (end_of e) tag x (valid 0 e refl) (λ of. let high = none 0 e (record { there = refl; of = of }) in omega arith))
    (λ (high : p < end_of e). ap (λ (l : List Entry). page_after tag l x) (cut_out p e es high) ∙ rest x)

-- a block that has a page has one after a change
changed_some : (c : Change) (end tag : ℕ) (p : Option Page) → is_of_page c ≡ true → is_some p ≡ true → is_some (changed_page c end tag p) ≡ true
changed_some (image t q) end tag p valid is = dite (ℕ_discrete tag t)
    (λ (e : tag ≡ t). ap (λ (o : Option Page). is_some o) (changed_image t end tag q p e))
    (λ (o : tag ≢ t). ap (λ (z : Option Page). is_some z) (changed_else (image t q) end tag p valid (λ z. o (sym (same_Some t tag z)))) ∙ is)
changed_some (ranges t spans) end tag None valid is = absurd (cc)
changed_some (ranges t spans) end tag (Some p) valid is = dite (ℕ_discrete tag t)
    (λ (e : tag ≡ t). ap (λ (o : Option Page). is_some o) (changed_ranges t end tag spans p e))
    (λ (o : tag ≢ t). ap (λ (z : Option Page). is_some z) (changed_else (ranges t spans) end tag (Some p) valid (λ z. o (sym (same_Some t tag z)))) ∙ is)
changed_some (resize fork old new) end tag p valid is = absurd (cc)

-- and after entries up to a position
pub after_some : (tag p : ℕ) (es : List Entry) (x : Option Page) → AreOfPages es → is_some x ≡ true → is_some (page_after tag (cut p es) x) ≡ true
unfolding page_after cut
after_some tag p [] x valid is = is
after_some tag p (e ∷ es) x valid is =
    let rest : (y : Option Page) → is_some y ≡ true → is_some (page_after tag (cut p es) y) ≡ true = (λ y z. after_some tag p es y (λ k d at. valid (suc k) d at) z) in in_or_out p e
    (λ (low : end_of e ≤ p). ap (λ (l : List Entry). is_some (page_after tag l x)) (cut_in p e es low) ∙ rest (changed_page e.change (end_of e) tag x) (changed_some e.change (end_of e) tag x (valid 0 e refl) is))
    (λ (high : p < end_of e). ap (λ (l : List Entry). is_some (page_after tag l x)) (cut_out p e es high) ∙ rest x is)

-- after entries that are whole pages a page that isn't sound is the one before them
pub after_images : (tag p : ℕ) (es : List Entry) (x : Option Page) (q : Page) → AreValid es → AreImages es → page_after tag (cut p es) x ≡ Some q → is_sound_page q ≡ false → x ≡ Some q
unfolding page_after cut
after_images tag p [] x q valid images is unsound = is
after_images tag p (e ∷ es) x q valid images is unsound =
    let rest : (y : Option Page) → page_after tag (cut p es) y ≡ Some q → y ≡ Some q = (λ y z. after_images tag p es y q (λ k d at. valid (suc k) d at) (λ k d at. images (suc k) d at) z unsound) in in_or_out p e
    (λ (low : end_of e ≤ p). before_image e.change (end_of e) tag x q (valid 0 e refl) (images 0 e refl) (rest (changed_page e.change (end_of e) tag x) (sym (ap (λ (l : List Entry). page_after tag l x) (cut_in p e es low)) ∙ is)) unsound)
    (λ (high : p < end_of e). rest x (sym (ap (λ (l : List Entry). page_after tag l x) (cut_out p e es high)) ∙ is))

-- entries between two positions, where none of them is of the block
pub after_between : (tag p q : ℕ) (es : List Entry) (x : Option Page) → p ≤ q → AreOfPages es → ((k : ℕ) (e : Entry) → IsEntryOf es tag k e → (end_of e ≤ p) ⊎ (q < end_of e)) → page_after tag (cut p es) x ≡ page_after tag (cut q es) x
unfolding page_after cut
after_between tag p q [] x le valid none = refl
after_between tag p q (e ∷ es) x le valid none = let rest : (y : Option Page) → page_after tag (cut p es) y ≡ page_after tag (cut q es) y = (λ y. after_between tag p q es y le (λ k d at. valid (suc k) d at) (λ k d h. none (suc k) d (deeper e es tag k d h))) in in_or_out p e
    (λ (low : end_of e ≤ p). ap (λ (l : List Entry). page_after tag l x) (cut_in p e es low) ∙ rest (changed_page e.change (end_of e) tag x) ∙ sym (ap (λ (l : List Entry). page_after tag l x) (cut_in q e es (omega arith))))
    (λ (high : p < end_of e). ap (λ (l : List Entry). page_after tag l x) (cut_out p e es high) ∙ rest x ∙ in_or_out q e
    (λ (early : end_of e ≤ q). ap (page_after tag (cut q es)) (sym (changed_else e.change (end_of e) tag x (valid 0 e refl) (λ of. between high early (none 0 e (record { there = refl; of = of }))))) ∙ sym (ap (λ (l : List Entry). page_after tag l x) (cut_in q e es early)))
    (λ (late : q < end_of e). sym (ap (λ (l : List Entry). page_after tag l x) (cut_out q e es late))))
  where
    between : p < end_of e → end_of e ≤ q → (end_of e ≤ p) ⊎ (q < end_of e) → ⊥
    between high early (inl a) = omega arith
    between high early (inr a) = omega arith

-- The last entry of a block that ends at the position or before it
pub record IsLastUpto (es : List Entry) (tag place k : ℕ) (e : Entry) : Type 0 where
  pub entered : IsEntryOf es tag k e
  pub upto : end_of e ≤ place
  pub last : (j : ℕ) (d : Entry) → IsEntryOf es tag j d → (end_of d ≤ end_of e) ⊎ (place < end_of d)

-- a block has one, or each of its entries ends past the position
pub last_upto : (es : List Entry) (tag place : ℕ) → ((k : ℕ) × (e : Entry) × IsLastUpto es tag place k e) ⊎ ((k : ℕ) (e : Entry) → IsEntryOf es tag k e → place < end_of e)
last_upto [] tag place = inr (λ k e h. absurd (some-ne-none e (sym h.there)))
last_upto (x ∷ es) tag place = ⊎_elim
    (λ (here : tag_in x.change ≡ Some tag). in_or_out place x (λ (low : end_of x ≤ place). inl (with_first here low (last_upto es tag place))) (λ (high : place < end_of x). without (λ of. high) (last_upto es tag place)))
    (λ (other : tag_in x.change ≢ Some tag). without (λ of. absurd (other of)) (last_upto es tag place))
    (is_of x.change tag)
  where
    -- the first is of the block, and not past the position
    with_first : tag_in x.change ≡ Some tag → end_of x ≤ place → ((k : ℕ) × (e : Entry) × IsLastUpto es tag place k e) ⊎ ((k : ℕ) (e : Entry) → IsEntryOf es tag k e → place < end_of e) → (k : ℕ) × (e : Entry) × IsLastUpto (x ∷ es) tag place k e
    with_first here low (inr none) = (0, x, record { entered = record { there = refl; of = here }; upto = low; last = each_entry x es tag (λ (d : Entry). (end_of d ≤ end_of x) ⊎ (place < end_of d)) (λ of. inl (omega arith)) (λ j d h. inr (none j d h)) })
    with_first here low (inl t) = let k = t.0 in let e = t.1 in let m = t.2 in ⊎_elim
        (λ (lt : end_of x < end_of e). (suc k, e, record { entered = deeper x es tag k e m.entered; upto = m.upto; last = each_entry x es tag (λ (d : Entry). (end_of d ≤ end_of e) ⊎ (place < end_of d)) (λ of. inl (omega arith)) m.last }))
        (λ (ge : end_of e ≤ end_of x). (0, x, record { entered = record { there = refl; of = here }; upto = low; last = each_entry x es tag (λ (d : Entry). (end_of d ≤ end_of x) ⊎ (place < end_of d)) (λ of. inl (omega arith)) (λ j d h. ⊎_elim (λ (a : end_of d ≤ end_of e). inl (omega arith)) (λ (a : place < end_of d). inr a) (m.last j d h)) }))
        (cases_lt (end_of x) (end_of e))

    -- it isn't
    without : (tag_in x.change ≡ Some tag → place < end_of x) → ((k : ℕ) × (e : Entry) × IsLastUpto es tag place k e) ⊎ ((k : ℕ) (e : Entry) → IsEntryOf es tag k e → place < end_of e) → ((k : ℕ) × (e : Entry) × IsLastUpto (x ∷ es) tag place k e) ⊎ ((k : ℕ) (e : Entry) → IsEntryOf (x ∷ es) tag k e → place < end_of e)
    without b (inr none) = inr (each_entry x es tag (λ (d : Entry). place < end_of d) b none)
    without b (inl t) = let e = t.1 in inl (suc t.0, e, record { entered = deeper x es tag t.0 e t.2.entered; upto = t.2.upto; last = each_entry x es tag (λ (d : Entry). (end_of d ≤ end_of e) ⊎ (place < end_of d)) (λ of. inr (b of)) t.2.last })

-- What the entries up to a place make of a block: its page after the last of its entries there
pub cell_upto : (origin : ℕ → Option Page) (es : List Entry) (tag place k : ℕ) (e : Entry) → AreOfPages es → IsLastUpto es tag place k e → cell origin (cut (end_of e) es) tag ≡ cell origin (cut place es) tag
cell_upto origin es tag place k e valid m = after_between tag (end_of e) place es (origin tag) m.upto valid m.last

-- a page of a block whose position in the log is at most p is its page after the entries up to p, where no entry ends past `end`
pub cell_at_position : (origin : ℕ → Option Page) (es : List Entry) (tag p end : ℕ) (page : Page) → AreOfPages es → ((k : ℕ) (e : Entry) → get_elem? es k ≡ some e → end_of e ≤ end) → ((k : ℕ) (e : Entry) → IsEntryOf es tag k e → HasImage (end_of e) (cell origin (cut (end_of e) es) tag)) → cell origin es tag ≡ Some page → lsn_of page ≤ p → cell origin (cut p es) tag ≡ Some page
cell_at_position origin es tag p end page valid within images is low = ⊎_elim
    (λ (m : (k : ℕ) × (e : Entry) × IsLastUpto es tag end k e). let e = m.1 in let h = images m.0 e m.2.entered in let all = cell_upto origin es tag end m.0 e valid m.2 ∙ ap (λ (l : List Entry). cell origin l tag) (cut_all end es within) in
    let same : h.shown ≡ page = same_Some h.shown page (sym h.is ∙ all ∙ is) in let ends : lsn_of page ≡ end_of e = ap lsn_of (sym same) ∙ h.valid.ends in
    sym (after_between tag (end_of e) p es (origin tag) (omega arith) valid (λ j d of. inl (⊎_elim (λ (a : end_of d ≤ end_of e). a) (λ (a : end < end_of d). let b = within j d of.there in omega arith) (m.2.last j d of)))) ∙ all ∙ is)
    (λ (none : (k : ℕ) (e : Entry) → IsEntryOf es tag k e → end < end_of e). after_none tag p es (origin tag) valid (λ j d of. absurd (let a = none j d of in let b = within j d of.there in omega arith)) ∙ sym (after_none tag end es (origin tag) valid none) ∙ ap (λ (l : List Entry). cell origin l tag) (cut_all end es within) ∙ is)
    (last_upto es tag end)

-- the end of entries is not before where they begin
pub chain_end : (from : ℕ) (es : List Entry) → AreChained from es → from ≤ end_from from es
unfolding AreChained end_from
chain_end from [] h = omega arith
chain_end from (e ∷ es) h = let x = chain_end (end_of e) es h.1 in let s : e.start ≡ from = h.0 in omega arith

-- nor before the end of one of them
pub chain_below : (from : ℕ) (es : List Entry) → AreChained from es → (k : ℕ) (x : Entry) → get_elem? es k ≡ some x → end_of x ≤ end_from from es
unfolding AreChained end_from
chain_below from [] h k x at = absurd (some-ne-none x (sym at))
chain_below from (e ∷ es) h zero x at = let is : end_of e ≡ end_of x = ap end_of (some-injective e x at) in let y = chain_end (end_of e) es h.1 in omega arith
chain_below from (e ∷ es) h (suc k) x at = chain_below (end_of e) es h.1 k x at

-- no entries follow one another
pub none_chained : (from : ℕ) → AreChained from []
unfolding AreChained
none_chained from = tt

-- there are none
pub end_none : (from : ℕ) → end_from from [] ≡ from
unfolding end_from
end_none from = refl

-- none begins before that
pub chain_above : (from : ℕ) (es : List Entry) → AreChained from es → (k : ℕ) (x : Entry) → get_elem? es k ≡ some x → from ≤ x.start
unfolding AreChained
chain_above from [] h k x at = absurd (some-ne-none x (sym at))
chain_above from (e ∷ es) h zero x at = let is : e.start ≡ x.start = ap (λ (y : Entry). y.start) (some-injective e x at) in let s : e.start ≡ from = h.0 in omega arith
chain_above from (e ∷ es) h (suc k) x at = let y = chain_above (end_of e) es h.1 k x at in let s : e.start ≡ from = h.0 in omega arith

image_size : (c : Change) → is_image c ≡ true → change_size c ≡ record_size
image_size (image tag page) e = refl
image_size (ranges tag spans) e = absurd (cc)
image_size (resize fork old new) e = absurd (cc)

-- only the record of a whole page has its size
pub image_of_size : (end : ℕ) (c : Change) → IsChange end c → change_size c ≡ record_size → is_image c ≡ true
image_of_size end (image tag page) valid e = refl
image_of_size end (ranges tag spans) valid e = absurd (let low = valid.shorter in omega arith)
image_of_size end (resize fork old new) valid e = absurd (omega arith)

-- a whole page is of a page
of_page : (c : Change) → is_image c ≡ true → is_of_page c ≡ true
of_page (image tag page) whole = refl
of_page (ranges tag spans) whole = refl
of_page (resize fork old new) whole = absurd (cc)

pub images_of_pages : (es : List Entry) → AreImages es → AreOfPages es
images_of_pages es images k e at = of_page e.change (images k e at)

-- where a log of whole pages alone ends
pub images_end : (from : ℕ) (es : List Entry) → AreChained from es → ((k : ℕ) (e : Entry) → get_elem? es k ≡ some e → is_image e.change ≡ true) → end_from from es ≡ from + record_size * length es
unfolding AreChained end_from
images_end from [] h all = omega arith
images_end from (e ∷ es) h all = let rest = images_end (end_of e) es h.1 (λ k x at. all (suc k) x at) in let size = image_size e.change (all 0 e refl) in let starts : e.start ≡ from = h.0 in omega arith

-- an entry more at their end
pub chain_longer : (from : ℕ) (es : List Entry) (e : Entry) → AreChained from es → e.start ≡ end_from from es → AreChained from (es ++ e ∷ [])
unfolding AreChained end_from
chain_longer from [] e h s = (s, tt)
chain_longer from (x ∷ es) e h s = (h.0, chain_longer (end_of x) es e h.1 s)

end_from_longer : (from : ℕ) (es : List Entry) (e : Entry) → end_from from (es ++ e ∷ []) ≡ end_of e
unfolding end_from
end_from_longer from [] e = refl
end_from_longer from (x ∷ es) e = end_from_longer (end_of x) es e

-- the log with one entry more at its end
module _ (log : Log) (e : Entry) (h : LogLaw log) where
  pub ends_below : (k : ℕ) (x : Entry) → get_elem? log.entries k ≡ some x → end_of x ≤ log_end log
  ends_below k x there = chain_below log.base log.entries h.chained k x there

  pub starts_above : (k : ℕ) (x : Entry) → get_elem? log.entries k ≡ some x → log.base ≤ x.start
  starts_above k x there = chain_above log.base log.entries h.chained k x there

  pub end_above : log.base ≤ log_end log
  end_above = chain_end log.base log.entries h.chained

  abbrev pub longer : Log
  longer = record log { entries = log.entries ++ e ∷ [] }

  pub end_longer : log_end longer ≡ end_of e
  end_longer = end_from_longer log.base log.entries e

  pub log_longer : e.start ≡ log_end log → IsChange (end_of e) e.change → LogLaw longer
  log_longer starts valid = record {
    chained = chain_longer log.base log.entries e h.chained starts;
    valid = λ k x there. ⊎_elim (λ (t : get_elem? log.entries k ≡ some x). h.valid k x t) (λ (t : (e ≡ x) × (k ≡ length log.entries)). subst (λ (y : Entry). IsChange (end_of y) y.change) t.0 valid) (at_end log.entries e x k there);
  }

records_longer : (names : ℕ → List ℕ) (es : List Entry) (e : Entry) → records names (es ++ e ∷ []) ≡ records names es ++ record_bytes names e
unfolding records
records_longer names [] e = append-nil (record_bytes names e)
records_longer names (x ∷ es) e = ap (λ (l : List ℕ). record_bytes names x ++ l) (records_longer names es e) ∙ sym (append_assoc (record_bytes names x) (records names es) (record_bytes names e))

-- the bytes of the log with one entry more
pub bytes_longer : (names : ℕ → List ℕ) (log : Log) (e : Entry) → log_bytes names (record log { entries = log.entries ++ e ∷ [] }) ≡ log_bytes names log ++ record_bytes names e
bytes_longer names log e = ap (λ (l : List ℕ). head_bytes log.base ++ l) (records_longer names log.entries e) ∙ sym (append_assoc (head_bytes log.base) (records names log.entries) (record_bytes names e))

-- how many bytes spans take
spans_length : (spans : List Span) → length (span_places spans) + length (span_bytes spans) ≡ spans_size spans
unfolding span_places span_bytes spans_size
spans_length [] = refl
spans_length (s ∷ ss) = let place : length (little_bytes 2 s.place) ≡ 2 = refl in let size : length (little_bytes 2 (length s.bytes)) ≡ 2 = refl in
    omega (arith, length-append (little_bytes 2 s.place) (little_bytes 2 (length s.bytes) ++ span_places ss), length-append (little_bytes 2 (length s.bytes)) (span_places ss), length-append s.bytes (span_bytes ss), spans_length ss)

-- and the record of an entry
pub record_length : (names : ℕ → List ℕ) (start end : ℕ) (c : Change) → ((tag : ℕ) → length (names tag) ≡ 20) → IsChange end c → length (change_bytes names start c) ≡ change_size c
record_length names at end (image tag page) named valid = let kind : length (little_bytes 4 1) ≡ 4 = refl in let start : length (little_bytes 8 at) ≡ 8 = refl in
    omega (arith, length-append (little_bytes 4 1) (names tag ++ (little_bytes 8 at ++ page)), length-append (names tag) (little_bytes 8 at ++ page), length-append (little_bytes 8 at) page, named tag, valid.full)
record_length names at end (ranges tag spans) named valid = let kind : length (little_bytes 4 3) ≡ 4 = refl in let start : length (little_bytes 8 at) ≡ 8 = refl in let count : length (little_bytes 4 (length spans)) ≡ 4 = refl in
    let n : ℕ = 36 + spans_size spans in let rest : List ℕ = replicate (rounded n - n) 0 in
    omega (
      arith,
      length-append (little_bytes 4 3) (names tag ++ (little_bytes 8 at ++ (little_bytes 4 (length spans) ++ (span_places spans ++ (span_bytes spans ++ rest))))),
      length-append (names tag) (little_bytes 8 at ++ (little_bytes 4 (length spans) ++ (span_places spans ++ (span_bytes spans ++ rest)))),
      length-append (little_bytes 8 at) (little_bytes 4 (length spans) ++ (span_places spans ++ (span_bytes spans ++ rest))),
      length-append (little_bytes 4 (length spans)) (span_places spans ++ (span_bytes spans ++ rest)),
      length-append (span_places spans) (span_bytes spans ++ rest),
      length-append (span_bytes spans) rest,
      length-replicate {A = ℕ} (rounded n - n) 0,
      spans_length spans,
      named tag,
    )
record_length names at end (resize fork old new) named valid = let kind : length (little_bytes 4 2) ≡ 4 = refl in let start : length (little_bytes 8 at) ≡ 8 = refl in let now : length (little_bytes 4 new) ≡ 4 = refl in let was : length (little_bytes 4 old) ≡ 4 = refl in let zeros : length (little_bytes 4 0) ≡ 4 = refl in
    omega (
      arith,
      length-append (little_bytes 4 2) (take 16 (names (first_block fork)) ++ (little_bytes 4 new ++ (little_bytes 8 at ++ (little_bytes 4 old ++ little_bytes 4 0)))),
      length-append (take 16 (names (first_block fork))) (little_bytes 4 new ++ (little_bytes 8 at ++ (little_bytes 4 old ++ little_bytes 4 0))),
      length-append (little_bytes 4 new) (little_bytes 8 at ++ (little_bytes 4 old ++ little_bytes 4 0)),
      length-append (little_bytes 8 at) (little_bytes 4 old ++ little_bytes 4 0),
      length-append (little_bytes 4 old) (little_bytes 4 0),
      length-take 16 (names (first_block fork)),
      named (first_block fork),
    )

records_length : (names : ℕ → List ℕ) (from : ℕ) (es : List Entry) → ((tag : ℕ) → length (names tag) ≡ 20) → AreChained from es → AreValid es → length (records names es) + from ≡ end_from from es
unfolding records AreChained end_from
records_length names from [] a h b = omega arith
records_length names from (e ∷ es) a h b = let s : e.start ≡ from = h.0 in omega (arith, length-append (record_bytes names e) (records names es), record_length names e.start (end_of e) e.change a (b zero e refl), records_length names (end_of e) es a h.1 (λ k x t. b (suc k) x t))

-- how many bytes the log has
pub bytes_length : (names : ℕ → List ℕ) (log : Log) → ((tag : ℕ) → length (names tag) ≡ 20) → LogLaw log → length (log_bytes names log) + log.base ≡ head_size + log_end log
bytes_length names log a h = let head : length (head_bytes log.base) ≡ 16 = refl in omega (arith, length-append (head_bytes log.base) (records names log.entries), records_length names log.base log.entries a h.chained h.valid)
