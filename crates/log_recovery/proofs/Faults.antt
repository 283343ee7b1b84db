-- Counts of faults over several calls.
use Rattle.std.proofs.Common.{◌≡◌, ◌≢◌, ℕ, ◌<◌, ◌≤◌, List, length, length-set, map, get_or, set, get_or-set_same, get_or-set_other, Result, Ok, Err, sym, refl, ap, ◌∙◌, subst, arith}
use Rattle.std.specs.Prelude.{OnErr, OnOk}
use Rattle.std.proofs.lemmas.List.{get_or-map, length-map, map-set}
use Rattle.std.proofs.Math.Seq.{map-set_same}
use mathlib.Core.Logic.{dite}
use native.Mathlib.Decide.{ℕ_discrete}
use Rattle.byte_devices.specs.Faults.{HasCause, Rose}
use Rattle.log_recovery.specs.Redo.{AnyRose, NoneFell}

-- a count that rose, and didn't fall since
pub rose_then : (a b c : ℕ) → Rose a b → b ≤ c → Rose a c
rose_then a b c rose low = omega (arith, rose, low)

pub none_fell : (a : List ℕ) → NoneFell a a
none_fell a = record { count = refl; each = λ q. omega arith }

pub none_fell_same : (a b : List ℕ) → b ≡ a → NoneFell a b
none_fell_same a b is = subst (NoneFell a) (sym is) (none_fell a)

pub none_fell_then : (a b c : List ℕ) → NoneFell a b → NoneFell b c → NoneFell a c
none_fell_then a b c x y = record { count = y.count ∙ x.count; each = λ q. (let s = x.each q in let t = y.each q in omega (arith, s, t)) }

pub any_rose_then : (a b c : List ℕ) → AnyRose a b → NoneFell b c → AnyRose a c
any_rose_then a b c x y = (x.0, x.1, rose_then (get_or a x.0 0) (get_or b x.0 0) (get_or c x.0 0) x.2 (y.each x.0))

-- the counts before a call are those at first
pub rose_since : (a b c : List ℕ) → b ≡ a → AnyRose b c → AnyRose a c
rose_since a b c is x = subst (λ (l : List ℕ). AnyRose l c) is x

pub none_fell_since : (a b c : List ℕ) → b ≡ a → NoneFell b c → NoneFell a c
none_fell_since a b c is x = subst (λ (l : List ℕ). NoneFell l c) is x

pub on_err : {T E P : Type 0} (r : Result T E) → P → OnErr r P
on_err (Ok x) p = tt
on_err (Err e) p = p

module _ {L : Type 0} (f : L → ℕ) where
  -- the count of the one lane that was called
  pub rose_at : (ls : List L) (q : ℕ) (y d : L) → q < length ls → Rose (f (get_or ls q d)) (f y) → AnyRose (map f ls) (map f (set ls q y))
  rose_at ls q y d below rose = (
    q,
    subst (λ (n : ℕ). q < n) (sym (length-map ls f)) below,
    subst (λ (n : ℕ). Rose n (get_or (map f (set ls q y)) q 0)) (sym (get_or-map f ls q d 0 below))
        (subst (λ (n : ℕ). Rose (f (get_or ls q d)) n) (sym (get_or-map f (set ls q y) q d 0 (subst (λ (n : ℕ). q < n) (sym (length-set ls q y)) below) ∙ ap f (get_or-set_same ls q y d below))) rose),
  )

  pub none_fell_at : (ls : List L) (q : ℕ) (y d : L) → q < length ls → f (get_or ls q d) ≤ f y → NoneFell (map f ls) (map f (set ls q y))
  none_fell_at ls q y d below low = record {
    count = length-map (set ls q y) f ∙ length-set ls q y ∙ sym (length-map ls f);
    each = λ k. dite (ℕ_discrete k q) (here k) (elsewhere k);
  }
    where
      set_is : map f (set ls q y) ≡ set (map f ls) q (f y)
      set_is = map-set f ls q y

      within : q < length (map f ls)
      within = subst (λ (n : ℕ). q < n) (sym (length-map ls f)) below

      here : (k : ℕ) → k ≡ q → get_or (map f ls) k 0 ≤ get_or (map f (set ls q y)) k 0
      here k e = let a = get_or-map f ls q d 0 below in let b = ap (λ (l : List ℕ). get_or l q 0) set_is ∙ get_or-set_same (map f ls) q (f y) 0 within in
          subst (λ (n : ℕ). get_or (map f ls) n 0 ≤ get_or (map f (set ls q y)) n 0) (sym e) (omega (arith, a, b, low))

      elsewhere : (k : ℕ) → k ≢ q → get_or (map f ls) k 0 ≤ get_or (map f (set ls q y)) k 0
      elsewhere k o = let a = ap (λ (l : List ℕ). get_or l k 0) set_is ∙ get_or-set_other (map f ls) q k (f y) 0 o in omega (arith, a)

  pub rose_on_err : {T E : Type 0} (ls : List L) (q : ℕ) (y d : L) (r : Result T E) → q < length ls → HasCause (f (get_or ls q d)) (f y) r → OnErr r (AnyRose (map f ls) (map f (set ls q y)))
  rose_on_err ls q y d (Ok x) below cause = tt
  rose_on_err ls q y d (Err x) below cause = rose_at ls q y d below cause.failed

  pub same_on_ok : {T E : Type 0} (ls : List L) (q : ℕ) (y d : L) (r : Result T E) → HasCause (f (get_or ls q d)) (f y) r → OnOk r (map f (set ls q y) ≡ map f ls)
  same_on_ok ls q y d (Ok x) cause = map-set_same f ls q y d cause.ok
  same_on_ok ls q y d (Err x) cause = tt
