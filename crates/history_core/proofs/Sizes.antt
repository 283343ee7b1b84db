-- A block is there exactly below its fork's size, after any of the entries.
use Rattle.std.proofs.Common.{◌≡◌, ◌≢◌, ◌⊎◌, inl, inr, ℕ, zero, suc, ◌+◌, ◌<◌, ◌≤◌, Bool, cond, eq-eqb, ne_eqb, List, [], ◌∷◌, ◌++◌, Option, Some, None, sym, refl, ap, ◌∙◌, subst, ⊎_elim, arith}
use Rattle.std.specs.Prelude.{option_map, is_some, nat_eq, nat_lt, nat_le, ◌&&◌}
use Rattle.std.proofs.lemmas.Bool.{le-leb, lt-leb, lt-ltb, le-ltb, cases_lt}
use mathlib.Core.Logic.{dite}
use mathlib.Core.Option.{some}
use native.Mathlib.Decide.{ℕ_discrete}
use lib.ListN.{get_elem?}
use Rattle.page_layout.specs.Fields.{with_lsn}
use Rattle.pin_core.specs.State.{Page}
use Rattle.history_core.specs.Log.{Change, image, ranges, resize, Entry, Log, LogLaw, AreChained, end_of, cut, cell, with_spans, resized, changed_page, page_after}
use Rattle.pin_core.specs.State.{tag_fork, tag_block}
use Rattle.page_core.specs.State.{zero_page}
use Rattle.history_core.specs.Sizes.{FitsSizes, AreSized, AreThere}
use Rattle.history_core.specs.Log.{resized_fork, sizes_after}
use Rattle.history_core.proofs.Logs.{some_size, in_or_out, cut_in, cut_out, cut_none_below, chain_above}

some_map : (f : Page → Page) (p : Option Page) → is_some (option_map f p) ≡ is_some p
some_map f None = refl
some_map f (Some p) = refl

-- a block of the fork that gets another size
resized_there : (old new n : ℕ) (p : Option Page) → is_some p ≡ nat_lt n old → (new ≡ old + 1) ⊎ (new < old) → is_some (resized old new n p) ≡ nat_lt n new
resized_there old new n p is (inl grown) = ap (λ (b : Bool). is_some (cond (b && nat_le new n) None (cond (nat_eq new (old + 1) && nat_eq n old) (Some zero_page) p))) (le-ltb new old (omega arith))
    ∙ ap (λ (b : Bool). is_some (cond (b && nat_eq n old) (Some zero_page) p)) (eq-eqb new (old + 1) grown)
    ∙ dite (ℕ_discrete n old)
    (λ (e : n ≡ old). ap (λ (b : Bool). is_some (cond b (Some zero_page) p)) (eq-eqb n old e) ∙ sym (lt-ltb n new (omega arith)))
    (λ (o : n ≢ old). ap (λ (b : Bool). is_some (cond b (Some zero_page) p)) (ne_eqb n old o) ∙ is ∙ ⊎_elim
    (λ (low : n < old). lt-ltb n old low ∙ sym (lt-ltb n new (omega arith)))
    (λ (high : old ≤ n). le-ltb n old high ∙ sym (le-ltb n new (⊎_elim (λ (above : old < n). omega arith) (λ (at : n ≤ old). absurd (o (omega arith))) (cases_lt old n))))
    (cases_lt n old))
resized_there old new n p is (inr less) = ap (λ (b : Bool). is_some (cond (b && nat_le new n) None (cond (nat_eq new (old + 1) && nat_eq n old) (Some zero_page) p))) (lt-ltb new old less) ∙ ⊎_elim
    (λ (low : n < new). ap (λ (b : Bool). is_some (cond b None (cond (nat_eq new (old + 1) && nat_eq n old) (Some zero_page) p))) (lt-leb new n low)
    ∙ ap (λ (b : Bool). is_some (cond (b && nat_eq n old) (Some zero_page) p)) (ne_eqb new (old + 1) (λ e. omega arith))
    ∙ is ∙ lt-ltb n old (omega arith) ∙ sym (lt-ltb n new low))
    (λ (high : new ≤ n). ap (λ (b : Bool). is_some (cond b None (cond (nat_eq new (old + 1) && nat_eq n old) (Some zero_page) p))) (le-leb new n high) ∙ sym (le-ltb n new high))
    (cases_lt n new)

-- a block after a change
pub changed_there : (c : Change) (end tag : ℕ) (p : Option Page) (sizes : ℕ → ℕ) → FitsSizes c sizes → is_some p ≡ nat_lt (tag_block tag) (sizes (tag_fork tag)) → is_some (changed_page c end tag p) ≡ nat_lt (tag_block tag) (resized_fork c sizes (tag_fork tag))
unfolding changed_page
changed_there (image t q) end tag p sizes fits is = dite (ℕ_discrete tag t)
    (λ (e : tag ≡ t). ap (λ (b : Bool). is_some (cond b (Some q) p)) (eq-eqb tag t e) ∙ sym (lt-ltb (tag_block tag) (sizes (tag_fork tag)) (subst (λ (z : ℕ). tag_block z < sizes (tag_fork z)) (sym e) fits)))
    (λ (o : tag ≢ t). ap (λ (b : Bool). is_some (cond b (Some q) p)) (ne_eqb tag t o) ∙ is)
changed_there (ranges t spans) end tag p sizes fits is = let f : Page → Page = λ (q : Page). with_lsn end (with_spans spans q) in dite (ℕ_discrete tag t)
    (λ (e : tag ≡ t). ap (λ (b : Bool). is_some (cond b (option_map f p) p)) (eq-eqb tag t e) ∙ some_map f p ∙ is)
    (λ (o : tag ≢ t). ap (λ (b : Bool). is_some (cond b (option_map f p) p)) (ne_eqb tag t o) ∙ is)
changed_there (resize g old new) end tag p sizes fits is = let n : ℕ = tag_block tag in let fork : ℕ = tag_fork tag in dite (ℕ_discrete fork g)
    (λ (e : fork ≡ g). ap (λ (b : Bool). is_some (cond b (resized old new n p) p)) (eq-eqb fork g e) ∙ resized_there old new n p (is ∙ ap (λ (z : ℕ). nat_lt n (sizes z)) e ∙ ap (nat_lt n) (sym fits.0)) fits.1
    ∙ sym (ap (λ (b : Bool). nat_lt n (cond b new (sizes fork))) (eq-eqb fork g e)))
    (λ (o : fork ≢ g). ap (λ (b : Bool). is_some (cond b (resized old new n p) p)) (ne_eqb fork g o) ∙ is ∙ sym (ap (λ (b : Bool). nat_lt n (cond b new (sizes fork))) (ne_eqb fork g o)))

after_there : (tag : ℕ) (es : List Entry) (p : Option Page) (sizes : ℕ → ℕ) → AreSized es sizes → is_some p ≡ nat_lt (tag_block tag) (sizes (tag_fork tag)) → is_some (page_after tag es p) ≡ nat_lt (tag_block tag) (sizes_after es sizes (tag_fork tag))
unfolding page_after AreSized sizes_after
after_there tag [] p sizes fits is = is
after_there tag (e ∷ es) p sizes fits is = after_there tag es (changed_page e.change (end_of e) tag p) (resized_fork e.change sizes) fits.1 (changed_there e.change (end_of e) tag p sizes fits.0 is)

-- after entries that fit the sizes each block is there exactly below its fork's size, if it was so before
pub cell_there : (opened : ℕ → Option Page) (es : List Entry) (sizes : ℕ → ℕ) → AreSized es sizes → AreThere opened sizes → AreThere (cell opened es) (sizes_after es sizes)
cell_there opened es sizes fits is tag = after_there tag es (opened tag) sizes fits (is tag)

-- entries at the end fit the sizes that the others leave
pub sized_longer : (es : List Entry) (e : Entry) (sizes : ℕ → ℕ) → AreSized es sizes → FitsSizes e.change (λ g. sizes_after es sizes g) → AreSized (es ++ e ∷ []) sizes
unfolding AreSized sizes_after
sized_longer [] e sizes h fits = (fits, tt)
sized_longer (x ∷ es) e sizes h fits = (h.0, sized_longer es e (resized_fork x.change sizes) h.1 fits)

-- and the first ones do without the others
pub sized_first : (es rest : List Entry) (sizes : ℕ → ℕ) → AreSized (es ++ rest) sizes → AreSized es sizes
unfolding AreSized
sized_first [] rest sizes h = tt
sized_first (e ∷ es) rest sizes h = (h.0, sized_first es rest (resized_fork e.change sizes) h.1)

-- the entries up to a position are the first ones
pub cut_first : (from p : ℕ) (es : List Entry) → AreChained from es → (rest : List Entry) × (cut p es ++ rest ≡ es)
unfolding AreChained cut
cut_first from p [] h = ([], refl)
cut_first from p (e ∷ es) h = in_or_out p e
    (λ (low : end_of e ≤ p). let x = cut_first (end_of e) p es h.1 in (x.0, ap (λ (l : List Entry). l ++ x.0) (cut_in p e es low) ∙ ap (λ (l : List Entry). e ∷ l) x.1))
    (λ (high : p < end_of e). (e ∷ es, ap (λ (l : List Entry). l ++ (e ∷ es)) (cut_out p e es high ∙ cut_none_below p es (λ k x at. let a = chain_above (end_of e) es h.1 k x at in let b = some_size x.change in omega arith))))

-- after the entries up to any position
pub there_upto : (opened : ℕ → Option Page) (log : Log) (sizes : ℕ → ℕ) → LogLaw log → AreSized log.entries sizes → AreThere opened sizes → (place : ℕ) → AreThere (cell opened (cut place log.entries)) (sizes_after (cut place log.entries) sizes)
there_upto opened log sizes law fits is place = let x = cut_first log.base place log.entries law.chained in
    cell_there opened (cut place log.entries) sizes (sized_first (cut place log.entries) x.0 sizes (subst (λ (l : List Entry). AreSized l sizes) (sym x.1) fits)) is

-- what one more entry makes of the sizes
pub sizes_more : (es : List Entry) (e : Entry) (sizes : ℕ → ℕ) (fork : ℕ) → sizes_after (es ++ e ∷ []) sizes fork ≡ resized_fork e.change (sizes_after es sizes) fork
unfolding sizes_after
sizes_more [] e sizes fork = by_change e.change
  where
    by_change : (c : Change) → resized_fork c sizes fork ≡ resized_fork c (λ g. sizes g) fork
    by_change (image tag page) = refl
    by_change (ranges tag spans) = refl
    by_change (resize g old new) = refl
sizes_more (x ∷ xs) e sizes fork = sizes_more xs e (resized_fork x.change sizes) fork

-- none but a resize does
pub sizes_longer : (es : List Entry) (e : Entry) (sizes : ℕ → ℕ) (fork : ℕ) → ((g old new : ℕ) → e.change ≡ resize g old new → ⊥) → sizes_after (es ++ e ∷ []) sizes fork ≡ sizes_after es sizes fork
sizes_longer es e sizes fork none = sizes_more es e sizes fork ∙ by_change e.change refl
  where
    by_change : (c : Change) → e.change ≡ c → resized_fork c (sizes_after es sizes) fork ≡ sizes_after es sizes fork
    by_change (image tag page) is = refl
    by_change (ranges tag spans) is = refl
    by_change (resize g old new) is = absurd (none g old new is)

-- entries without a resize leave the sizes
pub sizes_still : (es : List Entry) (sizes : ℕ → ℕ) (fork : ℕ) → ((k : ℕ) (e : Entry) → get_elem? es k ≡ some e → (g old new : ℕ) → e.change ≡ resize g old new → ⊥) → sizes_after es sizes fork ≡ sizes fork
unfolding sizes_after
sizes_still [] sizes fork none = refl
sizes_still (e ∷ es) sizes fork none = ap (λ (f : ℕ → ℕ). sizes_after es f fork) (by_change e.change (none zero e refl)) ∙ sizes_still es sizes fork (λ k x at. none (suc k) x at)
  where
    by_change : (c : Change) → ((g old new : ℕ) → c ≡ resize g old new → ⊥) → resized_fork c sizes ≡ sizes
    by_change (image tag page) none = refl
    by_change (ranges tag spans) none = refl
    by_change (resize g old new) none = absurd (none g old new refl)

pub sizes_none : (sizes : ℕ → ℕ) (fork : ℕ) → sizes_after [] sizes fork ≡ sizes fork
unfolding sizes_after
sizes_none sizes fork = refl
