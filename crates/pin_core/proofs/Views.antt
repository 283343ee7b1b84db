-- The list of views, and tags, as a step changes them.
use Rattle.std.proofs.Common.{◌≡◌, ◌≢◌, ℕ, zero, suc, ◌+◌, ◌<◌, false, List, [], ◌∷◌, ◌++◌, length, set, length-set, length-append, sym, refl, ap, ◌∙◌, subst, ⊎_elim, arith, get_or}
use mathlib.Core.Option.{some, some-injective}
use lib.ListN.{get_elem?, length-replicate}
use Rattle.pin_core.specs.declared.view.View.{View}
use Rattle.pin_core.specs.State.{link, idle, hold, no_partition, new_view, emptied_view, joined_view}
use Rattle.pin_core.specs.Invariant.{ViewsLaw, live_weight, AllAccounted}
use Rattle.pin_core.specs.declared.view.Link.{Link}
use Rattle.pin_core.specs.declared.view.PartitionHold.{PartitionHold}
use Rattle.grid.proofs.Sums.{total-set, total-snoc}
use Rattle.grid.proofs.Lists.{at_set, at_end, at_longer, set_here, set_else}

-- The view w is the view v later
pub record SameBackend (v w : View) : Type 0 where
  pub emptied : w.emptied ≡ v.emptied
  pub number : w.number ≡ v.number
  pub next : w.next ≡ v.next
  pub links : length w.links ≡ length v.links
  pub partitions : length w.partitions ≡ length v.partitions

abbrev Wide : ℕ → ℕ → View → Type 0
Wide frames partitions v = (length v.links ≡ frames) × (length v.partitions ≡ partitions)

pub link_new : (n p m number base f : ℕ) → link (new_view number base n p m) f ≡ idle
link_new zero p m number base f = refl
link_new (suc n) p m number base zero = refl
link_new (suc n) p m number base (suc f) = link_new n p m number base f

pub hold_new : (n p m number base q : ℕ) → hold (new_view number base n p m) q ≡ no_partition
hold_new n zero m number base q = refl
hold_new n (suc p) m number base zero = refl
hold_new n (suc p) m number base (suc q) = hold_new n p m number base q

-- what a view has of a frame and of a partition stays, if its lists do
pub link_same : (v w : View) → w.links ≡ v.links → (f : ℕ) → link w f ≡ link v f
link_same v w e f = ap (λ (l : List Link). get_or l f idle) e

pub hold_same : (v w : View) → w.partitions ≡ v.partitions → (p : ℕ) → hold w p ≡ hold v p
hold_same v w e p = ap (λ (l : List PartitionHold). get_or l p no_partition) e

module _ (frames partitions backends : ℕ) (views : List View) (h : ViewsLaw frames partitions backends views) where
  pub views_set : (i : ℕ) (v w : View) → get_elem? views i ≡ some v → SameBackend v w → ViewsLaw frames partitions backends (set views i w)
  views_set i v w there same = record {
    wide = λ j u e live. ⊎_elim
        (λ (t : (j ≡ i) × (w ≡ u)). subst (λ (x : View). Wide frames partitions x) t.1 (let d = h.wide i v there (sym same.emptied ∙ ap (λ (x : View). x.emptied) t.1 ∙ live) in (same.links ∙ d.0, same.partitions ∙ d.1)))
        (λ (t : (j ≢ i) × (get_elem? views j ≡ some u)). h.wide j u t.1 live) (at_set views i j w u e);
    numbered = λ j u e live. ⊎_elim
        (λ (t : (j ≡ i) × (w ≡ u)). ap (λ (x : View). x.number) (sym t.1) ∙ same.number ∙ h.numbered i v there (sym same.emptied ∙ ap (λ (x : View). x.emptied) t.1 ∙ live) ∙ sym t.0)
        (λ (t : (j ≢ i) × (get_elem? views j ≡ some u)). h.numbered j u t.1 live) (at_set views i j w u e);
    first = λ u e. ⊎_elim
        (λ (t : (0 ≡ i) × (w ≡ u)). let f = h.first v (subst (λ (z : ℕ). get_elem? views z ≡ some v) (sym t.0) there) in
        subst (λ (x : View). (x.emptied ≡ false) × (x.next ≡ length (set views i w))) t.1 (same.emptied ∙ f.0, same.next ∙ f.1 ∙ sym (length-set views i w)))
        (λ (t : (0 ≢ i) × (get_elem? views 0 ≡ some u)). let f = h.first u t.1 in (f.0, f.1 ∙ sym (length-set views i w))) (at_set views i 0 w u e);
    few = omega (arith, length-set views i w, h.few);
  }

  -- a view other than the first is emptied
  pub views_emptied : (j : ℕ) → j ≢ 0 → ViewsLaw frames partitions backends (set views j emptied_view)
  views_emptied j other = record {
    wide = λ k u e live. ⊎_elim (λ (t : (k ≡ j) × (emptied_view ≡ u)). let x : u.emptied ≡ emptied_view.emptied = ap (λ (x : View). x.emptied) (sym t.1) in absurd (cc)) (λ (t : (k ≢ j) × (get_elem? views k ≡ some u)). h.wide k u t.1 live) (at_set views j k emptied_view u e);
    numbered = λ k u e live. ⊎_elim (λ (t : (k ≡ j) × (emptied_view ≡ u)). let x : u.emptied ≡ emptied_view.emptied = ap (λ (x : View). x.emptied) (sym t.1) in absurd (cc)) (λ (t : (k ≢ j) × (get_elem? views k ≡ some u)). h.numbered k u t.1 live) (at_set views j k emptied_view u e);
    first = λ u e. ⊎_elim (λ (t : (0 ≡ j) × (emptied_view ≡ u)). absurd (other (sym t.0))) (λ (t : (0 ≢ j) × (get_elem? views 0 ≡ some u)). let f = h.first u t.1 in (f.0, f.1 ∙ sym (length-set views j emptied_view))) (at_set views j 0 emptied_view u e);
    few = omega (arith, length-set views j emptied_view, h.few);
  }

  pub views_split : (base : ℕ) (v : View) → get_elem? views 0 ≡ some v → v.next < backends → ViewsLaw frames partitions backends (set views 0 (record v { next = v.next + 1 }) ++ new_view v.next base (length v.links) (length v.partitions) (length v.lanes) ∷ [])
  views_split base v there room = let w : View = record v { next = v.next + 1 } in let b : View = new_view v.next base (length v.links) (length v.partitions) (length v.lanes) in let f = h.first v there in
      let long : length (set views 0 w ++ b ∷ []) ≡ length views + 1 = omega (arith, length-append (set views 0 w) (b ∷ []), length-set views 0 w) in record {
        wide = λ j u e live. ⊎_elim
            (λ (o : get_elem? (set views 0 w) j ≡ some u). ⊎_elim (λ (t : (j ≡ 0) × (w ≡ u)). subst (λ (x : View). Wide frames partitions x) t.1 (h.wide 0 v there f.0)) (λ (t : (j ≢ 0) × (get_elem? views j ≡ some u)). h.wide j u t.1 live) (at_set views 0 j w u o))
            (λ (o : (b ≡ u) × (j ≡ length (set views 0 w))). subst (λ (x : View). Wide frames partitions x) o.0 (let d = h.wide 0 v there f.0 in (length-replicate (length v.links) idle ∙ d.0, length-replicate (length v.partitions) no_partition ∙ d.1))) (at_end (set views 0 w) b u j e);
        numbered = λ j u e live. ⊎_elim
            (λ (o : get_elem? (set views 0 w) j ≡ some u). ⊎_elim (λ (t : (j ≡ 0) × (w ≡ u)). ap (λ (x : View). x.number) (sym t.1) ∙ h.numbered 0 v there f.0 ∙ sym t.0) (λ (t : (j ≢ 0) × (get_elem? views j ≡ some u)). h.numbered j u t.1 live) (at_set views 0 j w u o))
            (λ (o : (b ≡ u) × (j ≡ length (set views 0 w))). ap (λ (x : View). x.number) (sym o.0) ∙ f.1 ∙ sym (length-set views 0 w) ∙ sym o.1) (at_end (set views 0 w) b u j e);
        first = λ u e. let is : w ≡ u = some-injective w u (sym (at_longer (set views 0 w) (b ∷ []) 0 w (set_here views 0 v w there)) ∙ e) in
            subst (λ (x : View). (x.emptied ≡ false) × (x.next ≡ length (set views 0 w ++ b ∷ []))) is (f.0, omega (arith, f.1, long));
        few = omega (arith, f.1, long, room);
      }

pub joined_same : (v u : View) → SameBackend v (joined_view v u)
joined_same v u = record { emptied = refl; number = refl; next = refl; links = refl; partitions = refl }

abbrev live : View → ℕ
live u = live_weight u.emptied

pub accounted_set : (views : List View) (i : ℕ) (v w : View) → AllAccounted views → get_elem? views i ≡ some v → w.emptied ≡ v.emptied → w.joined ≡ v.joined → AllAccounted (set views i w)
accounted_set views i v w h there emptied joined u e = let sums = total-set live views i v w there in let same : live w ≡ live v = ap live_weight emptied in let long = length-set views i w in ⊎_elim
    (λ (t : (0 ≡ i) × (w ≡ u)). let was = h v (subst (λ (z : ℕ). get_elem? views z ≡ some v) (sym t.0) there) in let is : u.joined ≡ v.joined = ap (λ (x : View). x.joined) (sym t.1) ∙ joined in omega arith)
    (λ (t : (0 ≢ i) × (get_elem? views 0 ≡ some u)). let was = h u t.1 in omega arith) (at_set views i 0 w u e)

pub accounted_split : (views : List View) (v w b : View) → AllAccounted views → get_elem? views 0 ≡ some v → w.emptied ≡ v.emptied → w.joined ≡ v.joined → b.emptied ≡ false → AllAccounted (set views 0 w ++ b ∷ [])
accounted_split views v w b h there emptied joined new u e = let here = set_here views 0 v w there in let is : w ≡ u = some-injective w u (sym (at_longer (set views 0 w) (b ∷ []) 0 w here) ∙ e) in
    let was = accounted_set views 0 v w h there emptied joined w here in let one : live b ≡ 1 = ap live_weight new in let same : u.joined ≡ w.joined = ap (λ (x : View). x.joined) (sym is) in
    omega (arith, total-snoc live (set views 0 w) b, length-append (set views 0 w) (b ∷ []))

pub accounted_join : (views : List View) (j : ℕ) (v u : View) → AllAccounted views → get_elem? views 0 ≡ some v → v.emptied ≡ false → j ≢ 0 → get_elem? views j ≡ some u → u.emptied ≡ false → AllAccounted (set (set views 0 (joined_view v u)) j emptied_view)
accounted_join views j v u h there first other here living x e = let w : View = joined_view v u in let vs : List View = set views 0 w in
    let is : w ≡ x = some-injective w x (sym (set_else vs j 0 emptied_view (λ z. other (sym z)) ∙ set_here views 0 v w there) ∙ e) in let count : x.joined ≡ v.joined + 1 = ap (λ (y : View). y.joined) (sym is) in
    let one : live u ≡ 1 = ap live_weight living in let a = total-set live views 0 v w there in let b = total-set live vs j u emptied_view (set_else views 0 j w other ∙ here) in let was = h v there in
    omega (arith, length-set vs j emptied_view, length-set views 0 w)
