-- The changes that views list, and the sums by which they fix what was changed.
use Rattle.std.specs.Prelude.{◌≡◌, ℕ, ◌+◌, List}
use Rattle.pin_core.specs.declared.view.Published.{Published}
use Rattle.pin_core.specs.declared.view.View.{View}
use Rattle.grid.specs.Shape.{total, sum_at}

-- the sum of the measure g over those of a view's items whose key is k
abbrev pub sum_in : {A : Type 0} → (View → List A) → (A → ℕ) → ℕ → (A → ℕ) → View → ℕ
sum_in items key k g v = sum_at key g k (items v)

-- how much a view has added to the counter of this number
abbrev pub added_to : ℕ → View → ℕ
added_to number v = sum_in (λ (x : View). x.published) (λ (p : Published). p.count) number
    (λ (p : Published). p.more) v

-- What was left and what was found agree. Each item is a change of the thing that its key names: it
-- found one value there and left another
pub record Balances {A : Type 0} (items : View → List A) (key found left : A → ℕ) (k first now : ℕ)
    (views : List View) : Type 0 where
  -- the first value of the thing k plus all that was left there is all that was found there plus
  -- its value now
  pub sums : first + total (sum_in items key k left) views
      ≡ total (sum_in items key k found) views + now
