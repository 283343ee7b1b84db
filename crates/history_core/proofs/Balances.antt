-- What becomes of the sums of what views list.
use Rattle.std.proofs.Common.{◌≡◌, ◌≢◌, ℕ, ◌+◌, List, [], ◌∷◌, ◌++◌, set, ap, ◌∙◌, arith}
use mathlib.Core.Logic.{dite}
use mathlib.Core.Option.{some}
use native.Mathlib.Decide.{ℕ_discrete}
use lib.ListN.{get_elem?}
use Rattle.pin_core.specs.declared.view.View.{View}
use Rattle.pin_core.specs.State.{emptied_view, joined_view}
use Rattle.history_core.specs.Balances.{Balances, sum_in}
use Rattle.grid.specs.Shape.{total, at_key, sum_at}
use Rattle.grid.proofs.Lists.{set_else, puts}
use Rattle.grid.proofs.Sums.{total-set, total-snoc, total-both}

module _ {A : Type 0} {items : View → List A} {key found left : A → ℕ} {k first now : ℕ}
    {views : List View} (m : Balances items key found left k first now views) where
  -- where one view becomes one that lists the same
  pub balances_aside : (i : ℕ) (v w : View) → get_elem? views i ≡ some v → items w ≡ items v
      → Balances items key found left k first now (set views i w)
  balances_aside i v w there same = let a = total-set (sum_in items key k left) views i v w there in
      let b = total-set (sum_in items key k found) views i v w there in
      let p = ap (sum_at key left k) same in let q = ap (sum_at key found k) same in
      record { sums = omega (arith, m.sums) }

  -- where it lists one item more, and what it left and found differ as the value there does
  pub balances_listed : (i : ℕ) (v w : View) (c : A) (now' : ℕ) → get_elem? views i ≡ some v
      → items w ≡ items v ++ c ∷ [] → (k ≡ key c → left c + now ≡ found c + now')
      → (k ≢ key c → now' ≡ now) → Balances items key found left k first now' (set views i w)
  balances_listed i v w c now' there listed here else = let a = adds left in let b = adds found in
      let p = puts (λ _. 0) (key c) (left c) k in let q = puts (λ _. 0) (key c) (found c) k in
      dite (ℕ_discrete k (key c))
      (λ e. record { sums = omega (arith, m.sums, p.same e, q.same e, here e) })
      (λ n. record { sums = omega (arith, m.sums, p.other n, q.other n, else n) })
    where
      adds : (g : A → ℕ) → total (sum_in items key k g) (set views i w)
          ≡ total (sum_in items key k g) views + at_key key g k c
      adds g = let a = ap (sum_at key g k) listed ∙ total-snoc (at_key key g k) (items v) c in
          let b = total-set (sum_in items key k g) views i v w there in omega arith

  -- where a view that lists nothing comes after the others
  pub balances_split : (b : View) → items b ≡ []
      → Balances items key found left k first now (views ++ b ∷ [])
  unfolding total
  balances_split b none = let x = total-snoc (sum_in items key k left) views b in
      let y = total-snoc (sum_in items key k found) views b in
      let p = ap (sum_at key left k) none in let q = ap (sum_at key found k) none in
      record { sums = omega (arith, m.sums) }

  -- where the first view takes in what another lists
  pub balances_joined : (j : ℕ) (v u : View) → get_elem? views 0 ≡ some v
      → get_elem? views j ≡ some u → j ≢ 0 → items (joined_view v u) ≡ items v ++ items u
      → items emptied_view ≡ [] → Balances items key found left k first now
      (set (set views 0 (joined_view v u)) j emptied_view)
  unfolding total
  balances_joined j v u there here other both none =
      record { sums = omega (arith, m.sums, joined left, joined found) }
    where
      joined : (g : A → ℕ)
          → total (sum_in items key k g) (set (set views 0 (joined_view v u)) j emptied_view)
          ≡ total (sum_in items key k g) views
      joined g = let w = joined_view v u in let also = set_else views 0 j w other ∙ here in
          let a = total-set (sum_in items key k g) views 0 v w there in
          let b = total-set (sum_in items key k g) (set views 0 w) j u emptied_view also in
          let c = ap (sum_at key g k) both ∙ total-both (at_key key g k) (items v) (items u) in
          let d = ap (sum_at key g k) none in omega arith

  -- the same views fix one value
  pub balances_fixed : {now' : ℕ} → Balances items key found left k first now' views → now ≡ now'
  balances_fixed m' = omega (arith, m.sums, m'.sums)
