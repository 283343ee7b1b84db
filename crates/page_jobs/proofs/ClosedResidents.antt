-- What passes have seen in frames is there as their manager is closed, if none took a tag from a frame.
use Rattle.std.proofs.Common.{◌≡◌, ◌≢◌, ◌⊎◌, ℕ, zero, suc, Bool, true, false, List, [], ◌∷◌, ◌++◌, refl, sym, ap, ◌∙◌, inl, inr, ⊎_elim, arith}
use mathlib.Core.Logic.{dite}
use mathlib.Core.Option.{some, some-injective, some-ne-none}
use native.Mathlib.Decide.{ℕ_discrete}
use lib.ListN.{get_elem?}
use Rattle.grid.proofs.Lists.{at_longer}
use Rattle.grid.proofs.Sums.{total-none}
use Rattle.pin_core.specs.declared.view.Resident.{Resident}
use Rattle.pin_core.specs.declared.view.View.{View}
use Rattle.pin_core.specs.State.{joined_view}
use Rattle.history_core.specs.Residents.{IsResident, cleared_by}
use Rattle.history_core.proofs.Residents.{residents_stay}
use Rattle.table_rule.specs.declared.opening.Opening.{Opening}
use Rattle.table_rule.specs.Shows.{Devices}
use Rattle.backend_pass.specs.Managers.{first_in, is_first, others_in}
use Rattle.backend_pass.specs.Closing.{ClosesAll, EachPass, joined_views}
use Rattle.backend_pass.specs.Passes.{PassState}
use Rattle.backend_pass.proofs.Joining.{first_here, first_past, others_here, others_past}

-- the first pass and the others, of passes that took no tag
abbrev TookNone : PassState → Type 0
TookNone p = p.view.cleared ≡ 0

first_by : (b : Bool) (p : PassState) (ps : List PassState) → is_first p ≡ b → p.view.cleared ≡ 0 → (first_in ps).cleared ≡ 0 → (first_in (p ∷ ps)).cleared ≡ 0
first_by true p ps is here rest = ap (λ (v : View). v.cleared) (first_here p ps is) ∙ here
first_by false p ps is here rest = ap (λ (v : View). v.cleared) (first_past p ps is) ∙ rest

first_took_none : (ps : List PassState) → EachPass TookNone ps → (first_in ps).cleared ≡ 0
first_took_none [] each = refl
first_took_none (p ∷ ps) each = first_by (is_first p) p ps refl (each 0 p refl) (first_took_none ps (λ i. each (suc i)))

-- each other pass is one of all, and each pass is the first or another one
abbrev Among : PassState → List PassState → Type 0
Among q ps = (i : ℕ) × (get_elem? ps i ≡ some q)

other_by : (b : Bool) (p : PassState) (ps : List PassState) (q : PassState) → is_first p ≡ b → ((i : ℕ) → get_elem? (others_in ps) i ≡ some q → Among q ps) → (i : ℕ) → get_elem? (others_in (p ∷ ps)) i ≡ some q → Among q (p ∷ ps)
other_by true p ps q is rest i at = (suc i, ap (λ (l : List PassState). get_elem? l i) (sym (others_here p ps is)) ∙ at)
other_by false p ps q is rest zero at = (zero, ap (λ (l : List PassState). get_elem? l zero) (sym (others_past p ps is)) ∙ at)
other_by false p ps q is rest (suc i) at = let x = rest i (ap (λ (l : List PassState). get_elem? l (suc i)) (sym (others_past p ps is)) ∙ at) in (suc x.0, x.1)

other_among : (ps : List PassState) (q : PassState) (i : ℕ) → get_elem? (others_in ps) i ≡ some q → Among q ps
other_among [] q i at = absurd (some-ne-none q (sym at))
other_among (p ∷ ps) q i at = other_by (is_first p) p ps q refl (other_among ps q) i at

abbrev IsFirstOrOther : PassState → List PassState → Type 0
IsFirstOrOther q ps = (first_in ps ≡ q.view) ⊎ Among q (others_in ps)

either_by : (b : Bool) (p : PassState) (ps : List PassState) (q : PassState) → is_first p ≡ b → ((i : ℕ) → get_elem? ps i ≡ some q → IsFirstOrOther q ps) → (i : ℕ) → get_elem? (p ∷ ps) i ≡ some q → IsFirstOrOther q (p ∷ ps)
either_by true p ps q is rest zero at = inl (first_here p ps is ∙ ap (λ (x : PassState). x.view) (some-injective p q at))
either_by true p ps q is rest (suc i) at = inr (i, ap (λ (l : List PassState). get_elem? l i) (others_here p ps is) ∙ at)
either_by false p ps q is rest zero at = inr (zero, ap (λ (l : List PassState). get_elem? l zero) (others_past p ps is) ∙ at)
either_by false p ps q is rest (suc i) at = ⊎_elim
    (λ (x : first_in ps ≡ q.view). inl (first_past p ps is ∙ x))
    (λ (x : Among q (others_in ps)). inr (suc x.0, ap (λ (l : List PassState). get_elem? l (suc x.0)) (others_past p ps is) ∙ x.1))
    (rest i at)

first_or_other : (ps : List PassState) (q : PassState) (i : ℕ) → get_elem? ps i ≡ some q → IsFirstOrOther q ps
first_or_other [] q i at = absurd (some-ne-none q (sym at))
first_or_other (p ∷ ps) q i at = either_by (is_first p) p ps q refl (first_or_other ps q) i at

-- a view that takes in others has taken no tag, if they have taken none, and lists what it and they have listed
joined_took_none : (v : View) (ps : List PassState) → v.cleared ≡ 0 → EachPass TookNone ps → (joined_views v ps).cleared ≡ 0
joined_took_none v [] none each = none
joined_took_none v (p ∷ ps) none each = joined_took_none (joined_view v p.view) ps (let one = each 0 p refl in omega arith) (λ i. each (suc i))

joined_lists : (v : View) (ps : List PassState) (k : ℕ) (r : Resident) → get_elem? v.residents k ≡ some r → get_elem? (joined_views v ps).residents k ≡ some r
joined_lists v [] k r at = at
joined_lists v (p ∷ ps) k r at = joined_lists (joined_view v p.view) ps k r (at_longer v.residents p.view.residents k r at)

abbrev Lists : Resident → List Resident → Type 0
Lists r rs = (k : ℕ) × (get_elem? rs k ≡ some r)

at_past : (l m : List Resident) (k : ℕ) (r : Resident) → get_elem? m k ≡ some r → Lists r (l ++ m)
at_past [] m k r at = (k, at)
at_past (x ∷ l) m k r at = let there = at_past l m k r at in (suc there.0, there.1)

other_lists : (v : View) (ps : List PassState) (i : ℕ) (q : PassState) → get_elem? ps i ≡ some q → (k : ℕ) (r : Resident) → get_elem? q.view.residents k ≡ some r → Lists r (joined_views v ps).residents
other_lists v [] i q at k r there = absurd (some-ne-none q (sym at))
other_lists v (p ∷ ps) zero q at k r there =
    let same : p ≡ q = some-injective p q at in
    let x = at_past v.residents p.view.residents k r (ap (λ (y : PassState). get_elem? y.view.residents k) same ∙ there) in
    (x.0, joined_lists (joined_view v p.view) ps x.0 r x.1)
other_lists v (p ∷ ps) (suc i) q at k r there = other_lists (joined_view v p.view) ps i q at k r there

closed_lists : (ps : List PassState) (i : ℕ) (q : PassState) → get_elem? ps i ≡ some q → (k : ℕ) (r : Resident) → get_elem? q.view.residents k ≡ some r → Lists r (joined_views (first_in ps) (others_in ps)).residents
closed_lists ps i q at k r there = ⊎_elim
    (λ (x : first_in ps ≡ q.view). (k, joined_lists (first_in ps) (others_in ps) k r (ap (λ (v : View). get_elem? v.residents k) x ∙ there)))
    (λ (x : Among q (others_in ps)). other_lists (first_in ps) (others_in ps) x.0 q x.1 k r there)
    (first_or_other ps q i at)

-- what the passes list is there as the devices are given back, if they took no tag
module _ {L G : Type 0} (d : Devices L G) (o : Opening L G) (ps : List PassState) (lanes : List L) (log : G) (c : ClosesAll d o ps lanes log) (none : EachPass TookNone ps) where
  closed_took_none : cleared_by c.state.pool.core.views ≡ 0
  closed_took_none = total-none (λ (v : View). v.cleared) c.state.pool.core.views (λ i u at. dite (ℕ_discrete i 0)
      (λ (e : i ≡ 0). let is : c.view ≡ u = some-injective c.view u (sym c.first ∙ ap (λ (k : ℕ). get_elem? c.state.pool.core.views k) (sym e) ∙ at) in
      ap (λ (v : View). v.cleared) (sym is) ∙ ap (λ (v : View). v.cleared) c.joined ∙ joined_took_none (first_in ps) (others_in ps) (first_took_none ps none) (λ j p there. let x = other_among ps p j there in none x.0 p x.1))
      (λ (n : i ≢ 0). ap (λ (v : View). v.cleared) (c.others i u n at)))

  pub closed_stay : (i : ℕ) (q : PassState) → get_elem? ps i ≡ some q → (k : ℕ) (r : Resident) → get_elem? q.view.residents k ≡ some r → IsResident c.state.pool.core.frames c.state.pool.core.frame r
  closed_stay i q at k r there = let x = closed_lists ps i q at k r there in
      residents_stay c.state c.laws closed_took_none 0 x.0 c.view r c.first (ap (λ (v : View). get_elem? v.residents x.0) c.joined ∙ x.1)
