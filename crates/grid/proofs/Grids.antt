-- A change of one view keeps a law of the grid if it keeps it at each column that the view touches.
use Rattle.std.proofs.Common.{◌≡◌, ◌≢◌, ℕ, ◌+◌, ◌<◌, ◌≤◌, List, [], ◌∷◌, ◌++◌, length, set, sym, refl, ap, ◌∙◌, subst, ⊎_elim, arith}
use mathlib.Core.Logic.{dite}
use mathlib.Core.Option.{some}
use native.Mathlib.Decide.{ℕ_discrete}
use lib.ListN.{get_elem?}
use Rattle.grid.specs.Shape.{Shape, tallies, Part, Grid, put}
use Rattle.grid.proofs.Lists.{at_set, at_end, put_at, put_else}
use Rattle.grid.proofs.Sums.{total-set, total-snoc, term_le, terms_le, total-alone}

-- if each other link counts nothing, the sum is this link's
abbrev pub CountsAlone : (S : Shape) → Part S → S.Block → S.Column → S.Link → (S.Tally → ℕ) → Type 0
CountsAlone S q b c l t = (k : S.Tally) → ((u : S.Own) (m : S.Link) → q.cell b c u m → ((j : S.Tally) → S.weigh j l + S.weigh j m ≤ t j) → S.weigh k m ≡ 0) → t k ≡ S.weigh k l

-- What the column c of the block b, and the link l of the view that steps, may become, if what q says is known
pub record Keeps (S : Shape) (q p : Part S) (b b' : S.Block) (o o' : S.Own) (c : S.Column) (l : S.Link) (c' : S.Column) (l' : S.Link) : Type 0 where
  pub column : (t t' : S.Tally → ℕ) → q.column b c t → q.cell b c o l → ((k : S.Tally) → t' k + S.weigh k l ≡ t k + S.weigh k l') → ((k : S.Tally) → S.weigh k l ≤ t k) → CountsAlone S q b c l t → p.column b' c' t'
  pub cell : (t : S.Tally → ℕ) → q.column b c t → ((k : S.Tally) → S.weigh k l ≤ t k) → q.cell b c o l → p.cell b' c' o' l'
  pub others : (t : S.Tally → ℕ) (u : S.Own) (m : S.Link) → q.column b c t → q.cell b c o l → ((k : S.Tally) → S.weigh k l + S.weigh k m ≤ t k) → q.cell b c u m → p.cell b' c' u m

-- the law of both
abbrev pub both : {S : Shape} → Part S → Part S → Part S
both q p = record { column = λ b c t. q.column b c t × p.column b c t; cell = λ b c o l. q.cell b c o l × p.cell b c o l }

pub both_grids : {S : Shape} {q p : Part S} {n : ℕ} {col : ℕ → S.Column} {block : ℕ → S.Block} {views : List S.View} → Grid S q n col block views → Grid S p n col block views → Grid S (both q p) n col block views
both_grids a b = record { columns = λ f h. (a.columns f h, b.columns f h); cells = λ i v f e h. (a.cells i v f e h, b.cells i v f e h) }

-- The view w has the link l at f, and elsewhere those of v
pub record Relinks (S : Shape) (v w : S.View) (f : ℕ) (l : S.Link) : Type 0 where
  pub own : S.own w ≡ S.own v
  pub here : S.link w f ≡ l
  pub else : (g : ℕ) → g ≢ f → S.link w g ≡ S.link v g

module _ (S : Shape) (q p : Part S) (n : ℕ) (col col' : ℕ → S.Column) (block block' : ℕ → S.Block) (views : List S.View) (i : ℕ) (v w : S.View) where
  -- A view and the columns change, each column with the view's link there
  pub sweep : Grid S q n col block views → get_elem? views i ≡ some v
      → ((g : ℕ) → g < n → Keeps S q p (block (S.spot (col g))) (block' (S.spot (col' g))) (S.own v) (S.own w) (col g) (S.link v g) (col' g) (S.link w g)) → Grid S p n col' block' (set views i w)
  sweep known at keeps = record {
    columns = λ g below. (keeps g below).column (tallies S views g) (tallies S (set views i w) g) (known.columns g below) (known.cells i v g at below)
        (λ k. total-set (λ (u : S.View). S.weigh k (S.link u g)) views i v w at) (λ k. term_le (λ (u : S.View). S.weigh k (S.link u g)) views i v at)
        (λ k each. total-alone (λ (u : S.View). S.weigh k (S.link u g)) views i v at (λ j u other here. each (S.own u) (S.link u g) (known.cells j u g here below) (λ y. terms_le (λ (x : S.View). S.weigh y (S.link x g)) views i j v u other at here)));
    cells = λ j u g there below. ⊎_elim
        (λ (e : (j ≡ i) × (w ≡ u)). subst (λ (x : S.View). p.cell (block' (S.spot (col' g))) (col' g) (S.own x) (S.link x g)) e.1
        ((keeps g below).cell (tallies S views g) (known.columns g below) (λ k. term_le (λ (x : S.View). S.weigh k (S.link x g)) views i v at) (known.cells i v g at below)))
        (λ (e : (j ≢ i) × (get_elem? views j ≡ some u)).
        (keeps g below).others (tallies S views g) (S.own u) (S.link u g) (known.columns g below) (known.cells i v g at below) (λ k. terms_le (λ (x : S.View). S.weigh k (S.link x g)) views i j v u e.0 at e.1) (known.cells j u g e.1 below))
        (at_set views i j w u there);
  }

module _ (S : Shape) (p : Part S) where
  -- a column and a link that stay as they are
  pub stays : (q : Part S) (b b' : S.Block) (o o' : S.Own) (c c' : S.Column) (l l' : S.Link) → b' ≡ b → o' ≡ o → c' ≡ c → l' ≡ l → Keeps S (both q p) p b b' o o' c l c' l'
  stays q b b' o o' c c' l l' eb eo ec el = subst (λ (x : S.Block × S.Own × S.Column × S.Link). Keeps S (both q p) p b x.0 o x.1 c l x.2 x.3) (λ k. (sym eb k, sym eo k, sym ec k, sym el k)) record {
    column = λ t t' known cell sums le alone. subst (λ (x : S.Tally → ℕ). p.column b c x) (λ k j. sym (same t t' (sums j)) k) known.1;
    cell = λ t known le cell. cell.1;
    others = λ t u m known cell le other. other.1;
  }
    where
      same : {j : S.Tally} (t t' : S.Tally → ℕ) → t' j + S.weigh j l ≡ t j + S.weigh j l → t' j ≡ t j
      same t t' e = omega arith

  -- what is known besides does no harm
  pub knows_more : (q : Part S) (b b' : S.Block) (o o' : S.Own) (c c' : S.Column) (l l' : S.Link) → Keeps S q p b b' o o' c l c' l' → Keeps S (both q p) p b b' o o' c l c' l'
  knows_more q b b' o o' c c' l l' keeps = record {
    column = λ t t' known cell sums le alone. keeps.column t t' known.0 cell.0 sums le (λ k each. alone k (λ u m x y. each u m x.0 y));
    cell = λ t known le cell. keeps.cell t known.0 le cell.0;
    others = λ t u m known cell le other. keeps.others t u m known.0 cell.0 le other.0;
  }

module _ (S : Shape) (q p : Part S) (n : ℕ) (col : ℕ → S.Column) (block block' : ℕ → S.Block) (views : List S.View) (i f : ℕ) (v w : S.View) (c' : S.Column) (l' : S.Link) where
  -- One column changes, and one view there
  pub touch : Grid S q n col block views → Grid S p n col block views → get_elem? views i ≡ some v → f < n → Relinks S v w f l' → ((g : ℕ) → g < n → g ≢ f → block' (S.spot (col g)) ≡ block (S.spot (col g)))
      → Keeps S q p (block (S.spot (col f))) (block' (S.spot c')) (S.own v) (S.own v) (col f) (S.link v f) c' l' → Grid S p n (put col f c') block' (set views i w)
  touch known grid at inside moved same keeps = sweep S (both q p) p n col (put col f c') block block' views i v w (both_grids known grid) at (λ g below. dite (ℕ_discrete g f) (λ e. here g e) (λ o. else g below o))
    where
      here : (g : ℕ) → g ≡ f → Keeps S (both q p) p (block (S.spot (col g))) (block' (S.spot (put col f c' g))) (S.own v) (S.own w) (col g) (S.link v g) (put col f c' g) (S.link w g)
      here g e = subst (λ (x : S.Column × S.Own × S.Link). Keeps S (both q p) p (block (S.spot (col g))) (block' (S.spot x.0)) (S.own v) x.1 (col g) (S.link v g) x.0 x.2)
          (λ k. (sym (put_at col f c' g e) k, sym moved.own k, sym (subst (λ (z : ℕ). S.link w z ≡ l') (sym e) moved.here) k))
          (subst (λ (z : ℕ). Keeps S (both q p) p (block (S.spot (col z))) (block' (S.spot c')) (S.own v) (S.own v) (col z) (S.link v z) c' l') (sym e)
          (knows_more S p q (block (S.spot (col f))) (block' (S.spot c')) (S.own v) (S.own v) (col f) c' (S.link v f) l' keeps))

      else : (g : ℕ) → g < n → g ≢ f → Keeps S (both q p) p (block (S.spot (col g))) (block' (S.spot (put col f c' g))) (S.own v) (S.own w) (col g) (S.link v g) (put col f c' g) (S.link w g)
      else g below o = stays S p q (block (S.spot (col g))) (block' (S.spot (put col f c' g))) (S.own v) (S.own w) (col g) (put col f c' g) (S.link v g) (S.link w g)
          (ap (λ (x : S.Column). block' (S.spot x)) (put_else col f c' g o) ∙ same g below o) moved.own (put_else col f c' g o) (moved.else g o)

module _ (S : Shape) (p : Part S) (n : ℕ) (col : ℕ → S.Column) (block : ℕ → S.Block) (views : List S.View) (grid : Grid S p n col block views) where
  -- a view changes, and its links stay
  pub steady : (i : ℕ) (v w : S.View) → get_elem? views i ≡ some v → S.own w ≡ S.own v → ((g : ℕ) → S.link w g ≡ S.link v g) → Grid S p n col block (set views i w)
  steady i v w at own same = sweep S (both p p) p n col col block block views i v w (both_grids grid grid) at
      (λ g below. stays S p p (block (S.spot (col g))) (block (S.spot (col g))) (S.own v) (S.own w) (col g) (col g) (S.link v g) (S.link w g) refl own refl (same g))

  -- a view changes, whose links weigh what they weighed, and keep their law
  pub steady_alike : (i : ℕ) (v w : S.View) → get_elem? views i ≡ some v → S.own w ≡ S.own v → ((g : ℕ) (k : S.Tally) → S.weigh k (S.link w g) ≡ S.weigh k (S.link v g)) → ((g : ℕ) (b : S.Block) (c : S.Column) (o : S.Own) → p.cell b c o (S.link v g) → p.cell b c o (S.link w g)) → Grid S p n col block (set views i w)
  steady_alike i v w at own weighs keeps = sweep S p p n col col block block views i v w grid at (λ g below. record {
    column = λ t t' known cell sums le alone. subst (λ (x : S.Tally → ℕ). p.column (block (S.spot (col g))) (col g) x) (λ j k. sym (same (t k) (t' k) (S.weigh k (S.link v g)) (S.weigh k (S.link w g)) (sums k) (weighs g k)) j) known;
    cell = λ t known le cell. subst (λ (o : S.Own). p.cell (block (S.spot (col g))) (col g) o (S.link w g)) (sym own) (keeps g (block (S.spot (col g))) (col g) (S.own v) cell);
    others = λ t u m known cell le other. other;
  })
    where
      same : (a b x y : ℕ) → b + x ≡ a + y → y ≡ x → b ≡ a
      same a b x y e f = omega arith

  -- the blocks change, and no view does
  pub reblock : (block' : ℕ → S.Block) → ((g : ℕ) → g < n → (t : S.Tally → ℕ) → p.column (block (S.spot (col g))) (col g) t → p.column (block' (S.spot (col g))) (col g) t)
      → ((g : ℕ) (o : S.Own) (l : S.Link) → g < n → p.cell (block (S.spot (col g))) (col g) o l → p.cell (block' (S.spot (col g))) (col g) o l) → Grid S p n col block' views
  reblock block' x y = record { columns = λ g below. x g below (tallies S views g) (grid.columns g below); cells = λ i v g there below. y g (S.own v) (S.link v g) below (grid.cells i v g there below) }

  -- one more view, with no links
  pub grows : (w : S.View) → ((g : ℕ) (k : S.Tally) → S.weigh k (S.link w g) ≡ 0) → ((g : ℕ) → g < n → p.cell (block (S.spot (col g))) (col g) (S.own w) (S.link w g)) → Grid S p n col block (views ++ w ∷ [])
  grows w bare here = record {
    columns = λ g below. subst (λ (t : S.Tally → ℕ). p.column (block (S.spot (col g))) (col g) t) (λ j k. sym (sums g k) j) (grid.columns g below);
    cells = λ j u g there below. ⊎_elim (λ (e : get_elem? views j ≡ some u). grid.cells j u g e below)
        (λ (e : (w ≡ u) × (j ≡ length views)). subst (λ (x : S.View). p.cell (block (S.spot (col g))) (col g) (S.own x) (S.link x g)) e.0 (here g below)) (at_end views w u j there);
  }
    where
      sums : (g : ℕ) (k : S.Tally) → tallies S (views ++ w ∷ []) g k ≡ tallies S views g k
      sums g k = let a = total-snoc (λ (u : S.View). S.weigh k (S.link u g)) views w in let b = bare g k in omega arith
