-- Once all other backends are joined into the first, only what the first has added is in a counter.
use Rattle.std.proofs.Common.{◌≡◌, ◌≢◌, ℕ, ◌+◌, Bool, true, false, sym, refl, ap, ◌∙◌, arith}
use mathlib.Core.Option.{some}
use lib.ListN.{get_elem?}
use Rattle.grid.specs.Shape.{total}
use Rattle.grid.proofs.Sums.{terms_le, total-alone}
use Rattle.pin_core.specs.declared.view.View.{View}
use Rattle.pin_core.specs.State.{emptied_view}
use Rattle.pin_core.specs.Invariant.{live_weight}
use Rattle.history_core.specs.Balances.{added_to}
use Rattle.history_core.specs.Laws.{Laws}
use Rattle.history_core.specs.State.{State}
use Rattle.history_core.proofs.Counters.{counters_sums}
use Rattle.frame_table.specs.WordSteps.{DidWord, load_counter}

-- nothing is left of the others
pub others_emptied : (s : State) → Laws s → (v : View) → get_elem? s.pool.core.views 0 ≡ some v → v.emptied ≡ false → v.joined + 1 ≡ v.next → (i : ℕ) (u : View) → i ≢ 0 → get_elem? s.pool.core.views i ≡ some u → u ≡ emptied_view
others_emptied s laws v first live joined i u other at = laws.spent i u at (of_flag u.emptied refl)
  where
    of_flag : (b : Bool) → u.emptied ≡ b → u.emptied ≡ true
    of_flag true e = e
    of_flag false e = absurd (let a = terms_le (λ (x : View). live_weight x.emptied) s.pool.core.views 0 i v u other first at in let b = ap live_weight live in let c = ap live_weight e in
        let n = laws.invariant.pool.core.accounted v first in let m = (laws.invariant.pool.core.views.first v first).1 in omega (arith, a, b, c, n, m))

none_added : (number : ℕ) → added_to number emptied_view ≡ 0
unfolding total
none_added number = refl

pub counter_alone : (number : ℕ) (v w : View) (found : ℕ) → DidWord (load_counter number) v w found → v.number ≡ 0 → v.joined + 1 ≡ v.next → found ≡ added_to number v
counter_alone number v w found d zero joined = let s : State = d.state in
    let at : d.seat ≡ 0 = sym (d.laws.invariant.pool.core.views.numbered d.seat v d.there d.live) ∙ zero in
    let first : get_elem? s.pool.core.views 0 ≡ some v = ap (get_elem? s.pool.core.views) (sym at) ∙ d.there in
    sym d.says ∙ counters_sums s d.laws number
    ∙ total-alone (λ (u : View). added_to number u) s.pool.core.views 0 v first (λ i u other there. ap (λ (x : View). added_to number x) (others_emptied s d.laws v first d.live joined i u other there) ∙ none_added number)
