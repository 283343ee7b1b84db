-- The front of a pass: the largest place of its calls, or where the log begins.
use Rattle.std.proofs.Common.{◌≡◌, ◌≤◌, ℕ, List, [], ◌∷◌, ◌++◌, length, refl, sym, ap, ◌∙◌, subst, ⊎_elim, arith}
use mathlib.Core.Option.{some, some-ne-none}
use lib.ListN.{get_elem?}
use Rattle.grid.proofs.Lists.{at_end}
use Rattle.pin_core.specs.declared.view.Call.{Call}
use Rattle.pin_core.specs.declared.view.View.{View}
use Rattle.history_core.specs.Log.{IsFront, place_of}

pub at_last : {A : Type 0} (xs : List A) (y : A) (ys : List A) → get_elem? (xs ++ y ∷ ys) (length xs) ≡ some y
at_last [] y ys = refl
at_last (x ∷ xs) y ys = at_last xs y ys

-- with no call it is where the log begins
pub front_new : (base front : ℕ) (calls : List Call) → calls ≡ [] → front ≡ base → IsFront base calls front
front_new base front calls none is = record {
  from_base = omega arith;
  above = λ k c e. absurd (some-ne-none c (sym e ∙ ap (λ (l : List Call). get_elem? l k) none));
  reached = λ other. absurd (other is);
}

pub front_kept : (base : ℕ) (v w : View) → w.calls ≡ v.calls → w.front ≡ v.front → IsFront base v.calls v.front → IsFront base w.calls w.front
front_kept base v w calls front f = subst (λ (l : List Call). IsFront base l w.front) (sym calls) (subst (IsFront base v.calls) (sym front) f)

-- after a further call it is the place of that one
pub front_added : (base : ℕ) (v w : View) (c : Call) → w.calls ≡ v.calls ++ c ∷ [] → w.front ≡ place_of c → v.front ≤ place_of c → IsFront base v.calls v.front → IsFront base w.calls w.front
front_added base v w c calls front later f = subst (λ (l : List Call). IsFront base l w.front) (sym calls) record {
  from_base = let first = f.from_base in omega arith;
  above = λ k d e. ⊎_elim
      (λ (t : get_elem? v.calls k ≡ some d). let old = f.above k d t in omega arith)
      (λ (t : (c ≡ d) × (k ≡ length v.calls)). let same = ap place_of t.0 in omega arith)
      (at_end v.calls c d k e);
  reached = λ other. (length v.calls, c, at_last v.calls c [], sym front);
}
