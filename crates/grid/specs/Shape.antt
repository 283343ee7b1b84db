-- A grid has a row for each view, a column for each thing that the views share, and a link where a
-- view and a column meet.
-- A law of the grid says of each column how it stands to sums over its links, and of each link how
-- it stands to its column.
use Rattle.std.specs.Prelude.{◌≡◌, ℕ, ◌+◌, ◌<◌, List, [], ◌∷◌, nat_eq, cond}
use mathlib.Core.Option.{some}
use lib.ListN.{get_elem?}

-- What stands in a grid, and how it is read
pub record Shape : Type 1 where
  pub Column : Type 0
  pub Link : Type 0
  pub View : Type 0
  -- what is summed over the links of a column
  pub Tally : Type 0
  -- what is known of the place that a column names
  pub Block : Type 0
  -- what a view has beside its links
  pub Own : Type 0
  pub weigh : Tally → Link → ℕ
  pub link : View → ℕ → Link
  pub own : View → Own
  -- the place that a column names
  pub spot : Column → ℕ

-- the sum of g over a list
unfoldable pub total : {A : Type 0} → (A → ℕ) → List A → ℕ
total g [] = 0
total g (x ∷ xs) = g x + total g xs

-- a measure g of the items whose key is k
abbrev pub at_key : {A : Type 0} → (A → ℕ) → (A → ℕ) → ℕ → A → ℕ
at_key key g k x = cond (nat_eq k (key x)) (g x) 0

-- and its sum over the items of a list
abbrev pub sum_at : {A : Type 0} → (A → ℕ) → (A → ℕ) → ℕ → List A → ℕ
sum_at key g k l = total (at_key key g k) l

-- each sum over the links of the column f
abbrev pub tallies : (S : Shape) → List S.View → ℕ → S.Tally → ℕ
tallies S views f k = total (λ (v : S.View). S.weigh k (S.link v f)) views

-- A law: of a column with its sums, and of a link
pub record Part (S : Shape) : Type 1 where
  pub column : S.Block → S.Column → (S.Tally → ℕ) → Type 0
  pub cell : S.Block → S.Column → S.Own → S.Link → Type 0

-- The law p holds of the n columns and of each view's links there
pub record Grid (S : Shape) (p : Part S) (n : ℕ) (column : ℕ → S.Column) (block : ℕ → S.Block)
    (views : List S.View) : Type 0 where
  pub columns : (f : ℕ) → f < n
      → p.column (block (S.spot (column f))) (column f) (tallies S views f)
  pub cells : (i : ℕ) (v : S.View) (f : ℕ) → get_elem? views i ≡ some v → f < n
      → p.cell (block (S.spot (column f))) (column f) (S.own v) (S.link v f)

-- g with x at f
abbrev pub put : {A : Type 0} → (ℕ → A) → ℕ → A → ℕ → A
put g f x k = cond (nat_eq k f) x (g k)
