-- A step keeps the law of the calls.
use Rattle.std.proofs.Common.{◌≡◌, ◌≢◌, ◌⊎◌, ℕ, zero, suc, ◌+◌, ◌<◌, ◌≤◌, Bool, true, false, cond, eq-eqb, ne_eqb, List, [], ◌∷◌, ◌++◌, length, length-append, append-nil, Option, Some, set, sym, refl, ap, ◌∙◌, subst, inl, inr, ⊎_elim, arith, nat_eq}
use Rattle.std.specs.Prelude.{max}
use Rattle.std.proofs.lemmas.Bool.{cases_lt, both_ways}
use mathlib.Core.Logic.{dite}
use native.Mathlib.Decide.{ℕ_discrete}
use mathlib.Core.Option.{some, some-ne-none, some-injective}
use lib.ListN.{get_elem?}
use Rattle.page_layout.specs.Fields.{lsn_of}
use Rattle.pin_core.specs.declared.view.Call.{Call}
use Rattle.pin_core.specs.declared.view.Call.TheVariants.{Read, Write, Size, Sized}
use Rattle.pin_core.specs.declared.view.ImageTest.{ImageTest}
use Rattle.pin_core.specs.declared.view.JoinedCheckpoint.{JoinedCheckpoint}
use Rattle.pin_core.specs.declared.view.WriteRecord.{WriteRecord}
use Rattle.pin_core.specs.declared.view.View.{View}
use Rattle.pin_core.specs.State.{Page, emptied_view, joined_view, kept_checkpoint}
use Rattle.history_core.specs.Log.{sizes_after, Entry, Log, LogLaw, image, tag_in, end_of, log_end, cell, cut, change_size, record_size, IsLegal, place_of, backend_of, write_weight, weight_at, writes_in, writes_at, HasPlace, AreInOrder}
use Rattle.history_core.specs.Invariant.{HasNumber, CallsLaw, KeptLaw, HistoryLaw}
use Rattle.grid.specs.Shape.{total}
use Rattle.grid.proofs.Lists.{at_set, at_end, at_longer, set_else, set_here}
use Rattle.grid.proofs.Sums.{total-both, total-none, total-set, total-snoc}
use Rattle.history_core.proofs.Logs.{some_size, cut_longer, cut_all, ends_below, end_above, end_longer}

-- what is at a place of two lists, one after the other
pub at_both : {A : Type 0} (l m : List A) (k : ℕ) (a : A) → get_elem? (l ++ m) k ≡ some a → (get_elem? l k ≡ some a) ⊎ ((j : ℕ) × (get_elem? m j ≡ some a))
at_both [] m k a e = inr (k, e)
at_both (x ∷ l) m zero a e = inl e
at_both (x ∷ l) m (suc k) a e = at_both l m k a e

-- a place among the calls of two lists
at_left : (l m : List Call) (p : ℕ) → HasPlace l p → HasPlace (l ++ m) p
at_left l m p (k, c, t, e) = (k, c, at_longer l m k c t, e)

at_right : (l m : List Call) (p : ℕ) → HasPlace m p → HasPlace (l ++ m) p
at_right [] m p x = x
at_right (y ∷ l) m p x = let z = at_right l m p x in (suc z.0, z.1, z.2, z.3)

-- the last one's place
at_last_place : (l : List Call) (c : Call) (p : ℕ) → place_of c ≡ p → HasPlace (l ++ c ∷ []) p
at_last_place l c p e = at_right l (c ∷ []) p (0, c, refl, e)

pub index_below : {A : Type 0} (l : List A) (j : ℕ) (y : A) → get_elem? l j ≡ some y → j < length l
index_below [] j y t = absurd (some-ne-none y (sym t))
index_below (z ∷ l) zero y t = omega arith
index_below (z ∷ l) (suc j) y t = omega (arith, index_below l j y t)

pub no_total : {A : Type 0} (g : A → ℕ) → total g [] ≡ 0
unfolding total
no_total g = refl

-- the places rise along a list and to one more
in_order_longer : (calls : List Call) (c : Call) (front : ℕ) → AreInOrder calls → ((k : ℕ) (d : Call) → get_elem? calls k ≡ some d → place_of d ≤ front) → front ≤ place_of c → AreInOrder (calls ++ c ∷ [])
in_order_longer calls c front order fronted above j k x y lt ex ey same = ⊎_elim
    (λ (u : get_elem? calls k ≡ some y). ⊎_elim (λ (t : get_elem? calls j ≡ some x). order j k x y lt t u same) (λ (t : (c ≡ x) × (j ≡ length calls)). let low = index_below calls k y u in absurd (omega (arith, t.1))) (at_end calls c x j ex))
    (λ (u : (c ≡ y) × (k ≡ length calls)). let at : place_of c ≡ place_of y = ap place_of u.0 in ⊎_elim (λ (t : get_elem? calls j ≡ some x). let low = fronted j x t in omega arith) (λ (t : (c ≡ x) × (j ≡ length calls)). absurd (omega (arith, t.1, u.1))) (at_end calls c x j ex))
    (at_end calls c y k ey)

-- a legal call stays legal with one entry more
legal_longer : (known : ℕ → Bool) (origin : ℕ → Option Page) (sizes : ℕ → ℕ) (log : Log) (e : Entry) → e.start ≡ log_end log → LogLaw log → (c : Call) → IsLegal known origin sizes log c → IsLegal known origin sizes (record log { entries = log.entries ++ e ∷ [] }) c
legal_longer known origin sizes log e starts h (Read backend tag page place) l = let w = l.within in record {
  based = l.based;
  within = omega (arith, end_longer log e h, some_size e.change);
  reads = λ is. ap (λ (es : List Entry). cell origin es tag) (cut_longer place log.entries e (omega (arith, some_size e.change))) ∙ l.reads is;
}
legal_longer known origin sizes log e starts h (Write backend tag page place logged) l = let x = l.ends in let low = ends_below log e h l.index l.entry l.entered.there in record {
  index = l.index;
  entry = l.entry;
  entered = record { there = at_longer log.entries (e ∷ []) l.index l.entry l.entered.there; of = l.entered.of };
  made = l.made;
  ends = l.ends;
  image_is = l.image_is;
  sized = l.sized;
  tested = λ t test is. let x = l.tested t test is in (x.0, ap (λ (es : List Entry). cell origin es tag) (cut_longer l.entry.start log.entries e (omega (arith, some_size e.change))) ∙ x.1, x.2);
  past = l.past;
  writes = λ is. ap (λ (es : List Entry). cell origin es tag) (cut_longer place log.entries e (omega (arith, some_size e.change))) ∙ l.writes is;
}
legal_longer known origin sizes log e starts h (Size backend fork blocks place) l = record {
  index = l.index;
  entry = l.entry;
  old = l.old;
  there = at_longer log.entries (e ∷ []) l.index l.entry l.there;
  change = l.change;
  made = l.made;
  ends = l.ends;
}
legal_longer known origin sizes log e starts h (Sized backend fork blocks place) l = let w = l.within in record {
  based = l.based;
  within = omega (arith, end_longer log e h, some_size e.change);
  sees = ap (λ (es : List Entry). sizes_after es sizes fork) (cut_longer place log.entries e (omega (arith, some_size e.change))) ∙ l.sees;
}

-- a legal call has its place at the log's end or before it
legal_within : (known : ℕ → Bool) (origin : ℕ → Option Page) (sizes : ℕ → ℕ) (log : Log) (e : Entry) → LogLaw log → (c : Call) → IsLegal known origin sizes log c → place_of c ≤ log_end log
legal_within known origin sizes log e h (Read backend tag page place) l = l.within
legal_within known origin sizes log e h (Write backend tag page place logged) l = let x = l.ends in let y = ends_below log e h l.index l.entry l.entered.there in omega arith
legal_within known origin sizes log e h (Size backend fork blocks place) l = let x = l.ends in let y = ends_below log e h l.index l.entry l.there in omega arith
legal_within known origin sizes log e h (Sized backend fork blocks place) l = l.within

-- A view's calls and front are those of another one
pub record SameCalls (v w : View) : Type 0 where
  pub calls : w.calls ≡ v.calls
  pub front : w.front ≡ v.front
  pub joined : w.joined ≡ v.joined
  pub flushed : w.flushed ≡ v.flushed
  pub emptied : w.emptied ≡ v.emptied
  pub number : w.number ≡ v.number
  pub kept : w.joined_checkpoints ≡ v.joined_checkpoints

-- a view with the same number that keeps these checkpoints and more
own_longer : (v w : View) (m : List JoinedCheckpoint) → w.number ≡ v.number → w.joined_checkpoints ≡ v.joined_checkpoints ++ m → (n : ℕ) → HasNumber v n → HasNumber w n
own_longer v w m number kept n has other = let x = has (λ z. other (z ∙ sym number)) in (x.0, x.1, subst (λ (l : List JoinedCheckpoint). get_elem? l x.0 ≡ some x.1) (sym kept) (at_longer v.joined_checkpoints m x.0 x.1 x.2), x.3)

own_same : (v w : View) → w.number ≡ v.number → w.joined_checkpoints ≡ v.joined_checkpoints → (n : ℕ) → HasNumber v n → HasNumber w n
own_same v w number kept n x = own_longer v w [] number (kept ∙ sym (append-nil v.joined_checkpoints)) n x

-- the calls of a view that is taken in
own_joined : (v u : View) (n : ℕ) → HasNumber u n → HasNumber (joined_view v u) n
own_joined v u n has other = dite (ℕ_discrete n u.number)
    (λ (z : n ≡ u.number). let y = kept_right v.joined_checkpoints (kept_checkpoint u ∷ u.joined_checkpoints) 0 (kept_checkpoint u) refl in (y.0, kept_checkpoint u, y.1, sym z))
    (λ (o : n ≢ u.number). let x = has o in let y = kept_right v.joined_checkpoints (kept_checkpoint u ∷ u.joined_checkpoints) (suc x.0) x.1 x.2 in (y.0, x.1, y.1, x.3))
  where
    kept_right : (l m : List JoinedCheckpoint) (k : ℕ) (c : JoinedCheckpoint) → get_elem? m k ≡ some c → (j : ℕ) × (get_elem? (l ++ m) j ≡ some c)
    kept_right [] m k c at = (k, at)
    kept_right (y ∷ l) m k c at = let z = kept_right l m k c at in (suc z.0, z.1)

-- two lists of calls, one after the other, of backends that differ
order_both : (l m : List Call) → AreInOrder l → AreInOrder m → ((j k : ℕ) (c d : Call) → get_elem? l j ≡ some c → get_elem? m k ≡ some d → backend_of c ≢ backend_of d) → AreInOrder (l ++ m)
order_both [] m a b other j k c d lt ec ed same = b j k c d lt ec ed same
order_both (y ∷ l) m a b other zero zero c d lt ec ed same = absurd (omega arith)
order_both (y ∷ l) m a b other zero (suc k) c d lt ec ed same = ⊎_elim (λ (t : get_elem? l k ≡ some d). a zero (suc k) c d (omega arith) ec t same) (λ (t : (n : ℕ) × (get_elem? m n ≡ some d)). absurd (other zero t.0 c d ec t.1 same)) (at_both l m k d ed)
order_both (y ∷ l) m a b other (suc j) zero c d lt ec ed same = absurd (omega arith)
order_both (y ∷ l) m a b other (suc j) (suc k) c d lt ec ed same = order_both l m (λ p q x z less ex ez. a (suc p) (suc q) x z (omega arith) ex ez) b (λ p q x z ex ez. other (suc p) q x z ex ez) j k c d (omega arith) ec ed same

-- a view changes that keeps what it took in
kept_set : (views : List View) → KeptLaw views → (i : ℕ) (v w : View) → get_elem? views i ≡ some v → w.joined_checkpoints ≡ v.joined_checkpoints → w.emptied ≡ v.emptied → KeptLaw (set views i w)
kept_set views h i v w there kept emptied = record {
  only_first = λ j u e other. ⊎_elim (λ (t : (j ≡ i) × (w ≡ u)). ap (λ (x : View). x.joined_checkpoints) (sym t.1) ∙ kept ∙ h.only_first i v there (λ z. other (t.0 ∙ z))) (λ (t : (j ≢ i) × (get_elem? views j ≡ some u)). h.only_first j u t.1 other) (at_set views i j w u e);
  spent = λ j k u c e at. let x = was j k u c e at in after c.number x.0 x.1 x.2;
  apart = λ j m n u c d e ec ed same. ⊎_elim (λ (t : (j ≡ i) × (w ≡ u)). let is : u.joined_checkpoints ≡ v.joined_checkpoints = ap (λ (x : View). x.joined_checkpoints) (sym t.1) ∙ kept in h.apart i m n v c d there (subst (λ (l : List JoinedCheckpoint). get_elem? l m ≡ some c) is ec) (subst (λ (l : List JoinedCheckpoint). get_elem? l n ≡ some d) is ed) same)
      (λ (t : (j ≢ i) × (get_elem? views j ≡ some u)). h.apart j m n u c d t.1 ec ed same) (at_set views i j w u e);
}
  where
    was : (j k : ℕ) (u : View) (c : JoinedCheckpoint) → get_elem? (set views i w) j ≡ some u → get_elem? u.joined_checkpoints k ≡ some c → (x : View) × (get_elem? views c.number ≡ some x) × (x.emptied ≡ true)
    was j k u c e at = ⊎_elim (λ (t : (j ≡ i) × (w ≡ u)). h.spent i k v c there (subst (λ (l : List JoinedCheckpoint). get_elem? l k ≡ some c) (ap (λ (x : View). x.joined_checkpoints) (sym t.1) ∙ kept) at)) (λ (t : (j ≢ i) × (get_elem? views j ≡ some u)). h.spent j k u c t.1 at) (at_set views i j w u e)

    after : (n : ℕ) (x : View) → get_elem? views n ≡ some x → x.emptied ≡ true → (y : View) × (get_elem? (set views i w) n ≡ some y) × (y.emptied ≡ true)
    after n x at spent = dite (ℕ_discrete n i)
        (λ (e : n ≡ i). (w, ap (get_elem? (set views i w)) e ∙ set_here views i v w there, emptied ∙ ap (λ (y : View). y.emptied) (some-injective v x (sym there ∙ ap (get_elem? views) (sym e) ∙ at)) ∙ spent))
        (λ (o : n ≢ i). (x, set_else views i n w o ∙ at, spent))

-- nothing is kept where the list is empty
nothing : (u : View) (k : ℕ) (c : JoinedCheckpoint) → u.joined_checkpoints ≡ [] → get_elem? u.joined_checkpoints k ≡ some c → ⊥
nothing u k c none at = some-ne-none c (sym (subst (λ (l : List JoinedCheckpoint). get_elem? l k ≡ some c) none at))

-- one view more, that took in none
kept_grows : (views : List View) → KeptLaw views → (w : View) → w.joined_checkpoints ≡ [] → KeptLaw (views ++ w ∷ [])
kept_grows views h w none = record {
  only_first = λ j u e other. ⊎_elim (λ (t : get_elem? views j ≡ some u). h.only_first j u t other) (λ (t : (w ≡ u) × (j ≡ length views)). ap (λ (x : View). x.joined_checkpoints) (sym t.0) ∙ none) (at_end views w u j e);
  spent = λ j k u c e at. ⊎_elim (λ (t : get_elem? views j ≡ some u). let x = h.spent j k u c t at in (x.0, at_longer views (w ∷ []) c.number x.0 x.1, x.2)) (λ (t : (w ≡ u) × (j ≡ length views)). absurd (nothing u k c (ap (λ (x : View). x.joined_checkpoints) (sym t.0) ∙ none) at)) (at_end views w u j e);
  apart = λ j m n u c d e ec ed same. ⊎_elim (λ (t : get_elem? views j ≡ some u). h.apart j m n u c d t ec ed same) (λ (t : (w ≡ u) × (j ≡ length views)). absurd (nothing u m c (ap (λ (x : View). x.joined_checkpoints) (sym t.0) ∙ none) ec)) (at_end views w u j e);
}

-- View j is taken into the first
module _ (views : List View) (h : KeptLaw views) (j : ℕ) (v u : View) (there : get_elem? views 0 ≡ some v) (live : v.emptied ≡ false) (other : j ≢ 0) (here : get_elem? views j ≡ some u) (going : u.emptied ≡ false) (number : u.number ≡ j) where
  abbrev w : View
  w = joined_view v u

  abbrev vs : List View
  vs = set views 0 w

  kept_is : w.joined_checkpoints ≡ v.joined_checkpoints ++ kept_checkpoint u ∷ []
  kept_is = ap (λ (l : List JoinedCheckpoint). v.joined_checkpoints ++ kept_checkpoint u ∷ l) (h.only_first j u here other)

  by_place : (k : ℕ) (x : View) → get_elem? (set vs j emptied_view) k ≡ some x → (P : View → Type 0) → P emptied_view → P w → ((q : ℕ) (y : View) → get_elem? views q ≡ some y → P y) → P x
  by_place k x e P a b c = ⊎_elim (λ (t : (k ≡ j) × (emptied_view ≡ x)). subst P t.1 a) (λ (t : (k ≢ j) × (get_elem? vs k ≡ some x)). ⊎_elim (λ (y : (k ≡ 0) × (w ≡ x)). subst P y.1 b) (λ (y : (k ≢ 0) × (get_elem? views k ≡ some x)). c k x y.1) (at_set views 0 k w x t.1)) (at_set vs j k emptied_view x e)

  -- an emptied view is neither of the two
  still_spent : (n : ℕ) (x : View) → get_elem? views n ≡ some x → x.emptied ≡ true → (z : View) × (get_elem? (set vs j emptied_view) n ≡ some z) × (z.emptied ≡ true)
  still_spent n x at spent = dite (ℕ_discrete n j) (λ (e : n ≡ j). (emptied_view, ap (get_elem? (set vs j emptied_view)) e ∙ set_here vs j u emptied_view (set_else views 0 j w other ∙ here), refl))
      (λ (o : n ≢ j). dite (ℕ_discrete n 0) (λ (e : n ≡ 0). absurd (both_ways _ live (ap (λ (y : View). y.emptied) (some-injective v x (sym there ∙ ap (get_elem? views) (sym e) ∙ at)) ∙ spent))) (λ (p : n ≢ 0). (x, set_else vs j n emptied_view o ∙ set_else views 0 n w p ∙ at, spent)))

  taken : (c : JoinedCheckpoint) → ((k : ℕ) × (get_elem? v.joined_checkpoints k ≡ some c)) ⊎ (kept_checkpoint u ≡ c) → (z : View) × (get_elem? (set vs j emptied_view) c.number ≡ some z) × (z.emptied ≡ true)
  taken c (inl t) = let z = h.spent 0 t.0 v c there t.1 in still_spent c.number z.0 z.1 z.2
  taken c (inr e) = (emptied_view, ap (get_elem? (set vs j emptied_view)) (ap (λ (y : JoinedCheckpoint). y.number) (sym e) ∙ number) ∙ set_here vs j u emptied_view (set_else views 0 j w other ∙ here), refl)

  at_last : (l : List JoinedCheckpoint) (n : ℕ) (c : JoinedCheckpoint) → get_elem? (l ++ kept_checkpoint u ∷ []) n ≡ some c → ((k : ℕ) × (get_elem? l k ≡ some c)) ⊎ (kept_checkpoint u ≡ c)
  at_last l n c at = ⊎_elim (λ (t : get_elem? l n ≡ some c). inl (n, t)) (λ (t : (kept_checkpoint u ≡ c) × (n ≡ length l)). inr t.0) (at_end l (kept_checkpoint u) c n at)

  -- the view j is live, so none that was kept before has its number
  fresh : (k : ℕ) (c : JoinedCheckpoint) → get_elem? v.joined_checkpoints k ≡ some c → c.number ≢ u.number
  fresh k c at same = let z = h.spent 0 k v c there at in both_ways _ going (ap (λ (y : View). y.emptied) (some-injective u z.0 (sym here ∙ ap (get_elem? views) (sym (same ∙ number)) ∙ z.1)) ∙ z.2)

  ends_apart : (m n : ℕ) (c d : JoinedCheckpoint) → get_elem? (v.joined_checkpoints ++ kept_checkpoint u ∷ []) m ≡ some c → get_elem? (v.joined_checkpoints ++ kept_checkpoint u ∷ []) n ≡ some d → c.number ≡ d.number → m ≡ n
  ends_apart m n c d ec ed same = ⊎_elim
      (λ (t : get_elem? v.joined_checkpoints m ≡ some c). ⊎_elim (λ (y : get_elem? v.joined_checkpoints n ≡ some d). h.apart 0 m n v c d there t y same) (λ (y : (kept_checkpoint u ≡ d) × (n ≡ length v.joined_checkpoints)). absurd (fresh m c t (same ∙ ap (λ (z : JoinedCheckpoint). z.number) (sym y.0)))) (at_end v.joined_checkpoints (kept_checkpoint u) d n ed))
      (λ (t : (kept_checkpoint u ≡ c) × (m ≡ length v.joined_checkpoints)). ⊎_elim (λ (y : get_elem? v.joined_checkpoints n ≡ some d). absurd (fresh n d y (sym same ∙ ap (λ (z : JoinedCheckpoint). z.number) (sym t.0)))) (λ (y : (kept_checkpoint u ≡ d) × (n ≡ length v.joined_checkpoints)). t.1 ∙ sym y.1) (at_end v.joined_checkpoints (kept_checkpoint u) d n ed))
      (at_end v.joined_checkpoints (kept_checkpoint u) c m ec)

  kept_joined : KeptLaw (set vs j emptied_view)
  kept_joined = record {
    only_first = λ k x e o. ⊎_elim (λ (t : (k ≡ j) × (emptied_view ≡ x)). ap (λ (y : View). y.joined_checkpoints) (sym t.1)) (λ (t : (k ≢ j) × (get_elem? vs k ≡ some x)). ⊎_elim (λ (y : (k ≡ 0) × (w ≡ x)). absurd (o y.0)) (λ (y : (k ≢ 0) × (get_elem? views k ≡ some x)). h.only_first k x y.1 o) (at_set views 0 k w x t.1)) (at_set vs j k emptied_view x e);
    spent = λ k n x c e at. by_place k x e (λ (y : View). (n : ℕ) → get_elem? y.joined_checkpoints n ≡ some c → (z : View) × (get_elem? (set vs j emptied_view) c.number ≡ some z) × (z.emptied ≡ true))
        (λ n at. absurd (some-ne-none c (sym at)))
        (λ n at. taken c (at_last v.joined_checkpoints n c (subst (λ (l : List JoinedCheckpoint). get_elem? l n ≡ some c) kept_is at)))
        (λ q y t n at. let z = h.spent q n y c t at in still_spent c.number z.0 z.1 z.2) n at;
    apart = λ k m n x c d e ec ed same. by_place k x e (λ (y : View). get_elem? y.joined_checkpoints m ≡ some c → get_elem? y.joined_checkpoints n ≡ some d → m ≡ n) (λ at. absurd (some-ne-none c (sym at)))
        (λ xc xd. ends_apart m n c d (subst (λ (l : List JoinedCheckpoint). get_elem? l m ≡ some c) kept_is xc) (subst (λ (l : List JoinedCheckpoint). get_elem? l n ≡ some d) kept_is xd) same)
        (λ q y t xc xd. h.apart q m n y c d t xc xd same) ec ed;
  }

calls_same : (known : ℕ → Bool) (origin : ℕ → Option Page) (sizes : ℕ → ℕ) (log : Log) (flushed : ℕ) (v w : View) → SameCalls v w → CallsLaw known origin sizes log flushed v → CallsLaw known origin sizes log flushed w
calls_same known origin sizes log flushed v w same c = record {
  legal = λ k x e. c.legal k x (subst (λ (l : List Call). get_elem? l k ≡ some x) same.calls e);
  own = λ k x e. own_same v w same.number same.kept (backend_of x) (c.own k x (subst (λ (l : List Call). get_elem? l k ≡ some x) same.calls e));
  fronted = λ k x e. subst (λ (n : ℕ). place_of x ≤ n) (sym same.front) (c.fronted k x (subst (λ (l : List Call). get_elem? l k ≡ some x) same.calls e));
  from_base = λ live. subst (λ (n : ℕ). log.base ≤ n) (sym same.front) (c.from_base (sym same.emptied ∙ live));
  reached = λ live. subst (λ (n : ℕ). n ≢ log.base → HasPlace w.calls n) (sym same.front) (subst (λ (l : List Call). v.front ≢ log.base → HasPlace l v.front) (sym same.calls) (c.reached (sym same.emptied ∙ live)));
  within = subst (λ (n : ℕ). n ≤ log_end log) (sym same.front) c.within;
  in_order = subst AreInOrder (sym same.calls) c.in_order;
  loaded = subst (λ (n : ℕ). n ≤ flushed) (sym same.flushed) c.loaded;
}

pub no_calls : (known : ℕ → Bool) (origin : ℕ → Option Page) (sizes : ℕ → ℕ) (log : Log) (flushed : ℕ) (v : View) → v.calls ≡ [] → (v.emptied ≡ false → v.front ≡ log.base) → v.front ≤ log_end log → v.flushed ≤ flushed → CallsLaw known origin sizes log flushed v
no_calls known origin sizes log flushed v none begins front loaded = record {
  legal = λ k x e. absurd (some-ne-none x (sym (subst (λ (l : List Call). get_elem? l k ≡ some x) none e)));
  own = λ k x e. absurd (some-ne-none x (sym (subst (λ (l : List Call). get_elem? l k ≡ some x) none e)));
  fronted = λ k x e. absurd (some-ne-none x (sym (subst (λ (l : List Call). get_elem? l k ≡ some x) none e)));
  from_base = λ live. let e = begins live in omega arith;
  reached = λ live other. absurd (other (begins live));
  within = front;
  in_order = λ j k x y lt ex ey. absurd (some-ne-none x (sym (subst (λ (l : List Call). get_elem? l j ≡ some x) none ex)));
  loaded = loaded;
}

module _ (known : ℕ → Bool) (origin : ℕ → Option Page) (sizes : ℕ → ℕ) (log : Log) (flushed : ℕ) (views : List View) (h : HistoryLaw known origin sizes log flushed views) where
  abbrev written : View → ℕ
  written v = writes_in v.calls

  abbrev written_at : ℕ → View → ℕ
  written_at p v = writes_at p v.calls

  -- a view changes, and neither its calls nor their places do
  pub history_same : (i : ℕ) (v w : View) → get_elem? views i ≡ some v → SameCalls v w → HistoryLaw known origin sizes log flushed (set views i w)
  history_same i v w there same = record {
    calls = λ j u e. ⊎_elim (λ (t : (j ≡ i) × (w ≡ u)). subst (CallsLaw known origin sizes log flushed) t.1 (calls_same known origin sizes log flushed v w same (h.calls i v there))) (λ (t : (j ≢ i) × (get_elem? views j ≡ some u)). h.calls j u t.1) (at_set views i j w u e);
    kept = kept_set views h.kept i v w there same.kept same.emptied;
    counted = let e : written w ≡ written v = ap writes_in same.calls in omega (arith, total-set written views i v w there, h.counted);
    once = λ k e at. let is : written_at (end_of e) w ≡ written_at (end_of e) v = ap (writes_at (end_of e)) same.calls in omega (arith, total-set (written_at (end_of e)) views i v w there, h.once k e at);
  }

  -- a view has loaded the flushed position
  pub history_loaded : (i : ℕ) (v w : View) → get_elem? views i ≡ some v → w.calls ≡ v.calls → w.front ≡ v.front → w.joined ≡ v.joined → w.emptied ≡ v.emptied → w.number ≡ v.number → w.joined_checkpoints ≡ v.joined_checkpoints → w.flushed ≡ flushed → HistoryLaw known origin sizes log flushed (set views i w)
  history_loaded i v w there calls front joined emptied number kept loaded = record {
    calls = λ j u e. ⊎_elim
        (λ (t : (j ≡ i) × (w ≡ u)). let c = h.calls i v there in subst (CallsLaw known origin sizes log flushed) t.1 (let d = calls_same known origin sizes log flushed v (record w { flushed = v.flushed }) (record { calls = calls; front = front; joined = joined; flushed = refl; emptied = emptied; number = number; kept = kept }) c in record {
          legal = d.legal;
          own = λ k x e. own_same v w number kept (backend_of x) (c.own k x (subst (λ (l : List Call). get_elem? l k ≡ some x) calls e));
          fronted = d.fronted;
          from_base = d.from_base;
          reached = d.reached;
          within = d.within;
          in_order = d.in_order;
          loaded = omega arith;
        }))
        (λ (t : (j ≢ i) × (get_elem? views j ≡ some u)). h.calls j u t.1) (at_set views i j w u e);
    kept = kept_set views h.kept i v w there kept emptied;
    counted = let e : written w ≡ written v = ap writes_in calls in omega (arith, total-set written views i v w there, h.counted);
    once = λ k e at. let is : written_at (end_of e) w ≡ written_at (end_of e) v = ap (writes_at (end_of e)) calls in omega (arith, total-set (written_at (end_of e)) views i v w there, h.once k e at);
  }

  -- the flushed position rises
  pub history_raised : (flushed' : ℕ) → flushed ≤ flushed' → HistoryLaw known origin sizes log flushed' views
  history_raised flushed' le = record {
    calls = λ i v e. let c = h.calls i v e in record { legal = c.legal; own = c.own; fronted = c.fronted; from_base = c.from_base; reached = c.reached; within = c.within; in_order = c.in_order; loaded = (let d = c.loaded in omega arith) };
    kept = h.kept;
    counted = h.counted;
    once = h.once;
  }

  -- a view without calls joins the list
  pub history_grows : (w : View) → w.joined_checkpoints ≡ [] → w.calls ≡ [] → w.front ≡ log.base → w.front ≤ log_end log → w.flushed ≤ flushed → HistoryLaw known origin sizes log flushed (views ++ w ∷ [])
  history_grows w unkept none begins front loaded = record {
    calls = λ j u e. ⊎_elim (λ (t : get_elem? views j ≡ some u). h.calls j u t) (λ (t : (w ≡ u) × (j ≡ length views)). subst (CallsLaw known origin sizes log flushed) t.0 (no_calls known origin sizes log flushed w none (λ _. begins) front loaded)) (at_end views w u j e);
    kept = kept_grows views h.kept w unkept;
    counted = let e : written w ≡ 0 = ap writes_in none ∙ no_total write_weight in omega (arith, total-snoc written views w, h.counted);
    once = λ k e at. let is : written_at (end_of e) w ≡ 0 = ap (writes_at (end_of e)) none ∙ no_total (weight_at (end_of e)) in omega (arith, total-snoc (written_at (end_of e)) views w, h.once k e at);
  }

  -- the calls of one view go to another, which is another view's later
  pub history_joined : (j : ℕ) (v u : View) → get_elem? views 0 ≡ some v → v.emptied ≡ false → v.number ≡ 0 → j ≢ 0 → get_elem? views j ≡ some u → u.emptied ≡ false → u.number ≡ j → HistoryLaw known origin sizes log flushed (set (set views 0 (joined_view v u)) j emptied_view)
  history_joined j v u there live first other here going number = let w : View = joined_view v u in let vs : List View = set views 0 w in let also = set_else views 0 j w other ∙ here in record {
    calls = λ k x e. ⊎_elim (λ (t : (k ≡ j) × (emptied_view ≡ x)). subst (CallsLaw known origin sizes log flushed) t.1 (no_calls known origin sizes log flushed emptied_view refl (λ live. absurd (cc)) (omega arith) (omega arith)))
        (λ (t : (k ≢ j) × (get_elem? vs k ≡ some x)). ⊎_elim (λ (y : (k ≡ 0) × (w ≡ x)). subst (CallsLaw known origin sizes log flushed) y.1 both) (λ (y : (k ≢ 0) × (get_elem? views k ≡ some x)). h.calls k x y.1) (at_set views 0 k w x t.1)) (at_set vs j k emptied_view x e);
    kept = kept_joined views h.kept j v u there live other here going number;
    counted = omega (arith, total-set written views 0 v w there, total-set written vs j u emptied_view also, total-both write_weight v.calls u.calls, no_total write_weight, h.counted);
    once = λ k e at. let p : ℕ = end_of e in omega (arith, total-set (written_at p) views 0 v w there, total-set (written_at p) vs j u emptied_view also, total-both (weight_at p) v.calls u.calls, no_total (weight_at p), h.once k e at);
  }
    where
      -- the larger of the two fronts is a place of one's calls
      later_front : v.emptied ≡ false → (v.front < u.front) ⊎ (u.front ≤ v.front) → max v.front u.front ≢ log.base → HasPlace (v.calls ++ u.calls) (max v.front u.front)
      later_front live (inl high) = let is : max v.front u.front ≡ u.front = omega arith in subst (λ (n : ℕ). n ≢ log.base → HasPlace (v.calls ++ u.calls) n) (sym is) (λ o. at_right v.calls u.calls u.front ((h.calls j u here).reached going o))
      later_front live (inr low) = let is : max v.front u.front ≡ v.front = omega arith in subst (λ (n : ℕ). n ≢ log.base → HasPlace (v.calls ++ u.calls) n) (sym is) (λ o. at_left v.calls u.calls v.front ((h.calls 0 v there).reached live o))

      -- the calls of the view that is taken in are its own
      own_number : (n : ℕ) → HasNumber u n → u.number ≡ n
      own_number n has = dite (ℕ_discrete n u.number) (λ e. sym e) (λ o. let x = has o in absurd (nothing u x.0 x.1 (h.kept.only_first j u here other) x.2))

      -- and no call of the first is of that backend
      not_both : (n : ℕ) → HasNumber v n → u.number ≡ n → ⊥
      not_both n has same = let x = has (λ z. other (sym number ∙ same ∙ z ∙ first)) in let y = h.kept.spent 0 x.0 v x.1 there x.2 in both_ways _ going (ap (λ (z : View). z.emptied) (some-injective u y.0 (sym here ∙ ap (get_elem? views) (sym (x.3 ∙ sym same ∙ number)) ∙ y.1)) ∙ y.2)

      both : CallsLaw known origin sizes log flushed (joined_view v u)
      both = let c = h.calls 0 v there in let d = h.calls j u here in record {
        legal = λ k x e. ⊎_elim (λ (t : get_elem? v.calls k ≡ some x). c.legal k x t) (λ (t : (n : ℕ) × (get_elem? u.calls n ≡ some x)). d.legal t.0 x t.1) (at_both v.calls u.calls k x e);
        own = λ k x e. ⊎_elim (λ (t : get_elem? v.calls k ≡ some x). own_longer v (joined_view v u) (kept_checkpoint u ∷ u.joined_checkpoints) refl refl (backend_of x) (c.own k x t)) (λ (t : (n : ℕ) × (get_elem? u.calls n ≡ some x)). own_joined v u (backend_of x) (d.own t.0 x t.1)) (at_both v.calls u.calls k x e);
        fronted = λ k x e. ⊎_elim (λ (t : get_elem? v.calls k ≡ some x). let y = c.fronted k x t in omega arith) (λ (t : (n : ℕ) × (get_elem? u.calls n ≡ some x)). let y = d.fronted t.0 x t.1 in omega arith) (at_both v.calls u.calls k x e);
        from_base = λ live. let x = c.from_base live in omega arith;
        reached = λ live. later_front live (cases_lt v.front u.front);
        within = let x = c.within in let y = d.within in omega arith;
        in_order = order_both v.calls u.calls c.in_order d.in_order (λ m n x y ex ey same. not_both (backend_of x) (c.own m x ex) (own_number (backend_of y) (d.own n y ey) ∙ sym same));
        loaded = let x = c.loaded in let y = d.loaded in omega arith;
      }

-- a view makes one call more: what is summed over its calls
call_more : (v w : View) (call : Call) → w.calls ≡ v.calls ++ call ∷ [] → (g : Call → ℕ) → total g w.calls ≡ total g v.calls + g call
call_more v w call calls g = ap (total g) calls ∙ total-snoc g v.calls call

-- A call that writes nothing gets its place, the log's end
module _ (known : ℕ → Bool) (origin : ℕ → Option Page) (sizes : ℕ → ℕ) (log : Log) (flushed : ℕ) (views : List View) (h : HistoryLaw known origin sizes log flushed views) (logged : LogLaw log) (i : ℕ) (v w : View) (there : get_elem? views i ≡ some v) (call : Call) (placed : place_of call ≡ log_end log) (maker : backend_of call ≡ v.number) (unwritten : write_weight call ≡ 0) (none_at : (p : ℕ) → weight_at p call ≡ 0) (legal : IsLegal known origin sizes log call)
    (e : Entry) (calls : w.calls ≡ v.calls ++ call ∷ []) (front : w.front ≡ log_end log) (emptied : w.emptied ≡ v.emptied) (loaded : w.flushed ≡ v.flushed) (number : w.number ≡ v.number) (kept : w.joined_checkpoints ≡ v.joined_checkpoints) where
  pub history_placed : HistoryLaw known origin sizes log flushed (set views i w)
  history_placed = record {
    calls = λ j u at. ⊎_elim (λ (t : (j ≡ i) × (w ≡ u)). subst (CallsLaw known origin sizes log flushed) t.1 here) (λ (t : (j ≢ i) × (get_elem? views j ≡ some u)). h.calls j u t.1) (at_set views i j w u at);
    kept = kept_set views h.kept i v w there kept emptied;
    counted = let s = call_more v w call calls write_weight in let z = unwritten in omega (arith, total-set (λ (x : View). writes_in x.calls) views i v w there, h.counted);
    once = λ k x at. let p : ℕ = end_of x in let s = call_more v w call calls (weight_at p) in let z = none_at p in omega (arith, total-set (λ (y : View). writes_at p y.calls) views i v w there, h.once k x at);
  }
    where
      here : CallsLaw known origin sizes log flushed w
      here = let c = h.calls i v there in record {
        legal = λ k x at. ⊎_elim (λ (t : get_elem? v.calls k ≡ some x). c.legal k x t) (λ (t : (call ≡ x) × (k ≡ length v.calls)). subst (IsLegal known origin sizes log) t.0 legal) (at_end v.calls call x k (subst (λ (l : List Call). get_elem? l k ≡ some x) calls at));
        own = λ k x at. ⊎_elim (λ (t : get_elem? v.calls k ≡ some x). own_same v w number kept (backend_of x) (c.own k x t)) (λ (t : (call ≡ x) × (k ≡ length v.calls)) o. absurd (o (ap backend_of (sym t.0) ∙ maker ∙ sym number)))
            (at_end v.calls call x k (subst (λ (l : List Call). get_elem? l k ≡ some x) calls at));
        fronted = λ k x at. ⊎_elim (λ (t : get_elem? v.calls k ≡ some x). let y = c.fronted k x t in let z = c.within in omega arith) (λ (t : (call ≡ x) × (k ≡ length v.calls)). let y : log_end log ≡ place_of x = sym placed ∙ ap place_of t.0 in omega arith)
            (at_end v.calls call x k (subst (λ (l : List Call). get_elem? l k ≡ some x) calls at));
        from_base = λ _. omega (arith, end_above log e logged);
        reached = λ _ _. subst (λ (l : List Call). HasPlace l w.front) (sym calls) (at_last_place v.calls call w.front (placed ∙ sym front));
        within = omega arith;
        in_order = subst AreInOrder (sym calls) (in_order_longer v.calls call v.front c.in_order c.fronted (let z = c.within in omega arith));
        loaded = let y = c.loaded in omega arith;
      }

-- A read gets its place, the log's end
pub history_read : (known : ℕ → Bool) (origin : ℕ → Option Page) (sizes : ℕ → ℕ) (log : Log) (flushed : ℕ) (views : List View) → HistoryLaw known origin sizes log flushed views → LogLaw log → (i : ℕ) (v w : View) → get_elem? views i ≡ some v → (tag : ℕ) (page : Page) → (known tag ≡ true → cell origin log.entries tag ≡ Some page) → (e : Entry)
    → w.calls ≡ v.calls ++ Read v.number tag page (log_end log) ∷ [] → w.front ≡ log_end log → w.emptied ≡ v.emptied → w.flushed ≡ v.flushed → w.number ≡ v.number → w.joined_checkpoints ≡ v.joined_checkpoints → HistoryLaw known origin sizes log flushed (set views i w)
history_read known origin sizes log flushed views h logged i v w there tag page is e = history_placed known origin sizes log flushed views h logged i v w there (Read v.number tag page (log_end log)) refl refl refl (λ p. refl)
    (record { based = end_above log e logged; within = omega arith; reads = λ has. ap (λ (es : List Entry). cell origin es tag) (cut_all (log_end log) log.entries (ends_below log e logged)) ∙ is has }) e

-- and so does a size that a backend has seen
pub history_sized : (known : ℕ → Bool) (origin : ℕ → Option Page) (sizes : ℕ → ℕ) (log : Log) (flushed : ℕ) (views : List View) → HistoryLaw known origin sizes log flushed views → LogLaw log → (i : ℕ) (v w : View) → get_elem? views i ≡ some v → (fork blocks : ℕ) → sizes_after log.entries sizes fork ≡ blocks → (e : Entry)
    → w.calls ≡ v.calls ++ Sized v.number fork blocks (log_end log) ∷ [] → w.front ≡ log_end log → w.emptied ≡ v.emptied → w.flushed ≡ v.flushed → w.number ≡ v.number → w.joined_checkpoints ≡ v.joined_checkpoints → HistoryLaw known origin sizes log flushed (set views i w)
history_sized known origin sizes log flushed views h logged i v w there fork blocks is e = history_placed known origin sizes log flushed views h logged i v w there (Sized v.number fork blocks (log_end log)) refl refl refl (λ p. refl)
    (record { based = end_above log e logged; within = omega arith; sees = ap (λ (es : List Entry). sizes_after es sizes fork) (cut_all (log_end log) log.entries (ends_below log e logged)) ∙ is }) e

-- An entry is made, and the call that makes it gets its end as its place
module _ (known : ℕ → Bool) (origin : ℕ → Option Page) (sizes : ℕ → ℕ) (log : Log) (flushed : ℕ) (views : List View) (h : HistoryLaw known origin sizes log flushed views) (logged : LogLaw log) (i : ℕ) (v w : View) (there : get_elem? views i ≡ some v) (e : Entry) (starts : e.start ≡ log_end log)
    (call : Call) (placed : place_of call ≡ end_of e) (maker : backend_of call ≡ v.number) (written : write_weight call ≡ 1) (written_at : (p : ℕ) → weight_at p call ≡ cond (nat_eq (end_of e) p) 1 0) (legal : IsLegal known origin sizes (record log { entries = log.entries ++ e ∷ [] }) call)
    (calls : w.calls ≡ v.calls ++ call ∷ []) (front : w.front ≡ end_of e) (emptied : w.emptied ≡ v.emptied) (loaded : w.flushed ≡ v.flushed) (number : w.number ≡ v.number) (kept : w.joined_checkpoints ≡ v.joined_checkpoints) where
  abbrev longer : Log
  longer = record log { entries = log.entries ++ e ∷ [] }

  -- no write has the new place yet
  none_yet : (j : ℕ) (u : View) → get_elem? views j ≡ some u → writes_at (end_of e) u.calls ≡ 0
  none_yet j u at = total-none (weight_at (end_of e)) u.calls (λ k x t. other x (legal_within known origin sizes log e logged x ((h.calls j u at).legal k x t)))
    where
      other : (x : Call) → place_of x ≤ log_end log → weight_at (end_of e) x ≡ 0
      other (Read backend tag page place) low = refl
      other (Sized backend fork blocks place) low = refl
      other (Size backend fork blocks place) low = ap (λ (b : Bool). cond b 1 0) (ne_eqb place (end_of e) (λ z. omega (arith, some_size e.change)))
      other (Write backend tag page place logged) low = ap (λ (b : Bool). cond b 1 0) (ne_eqb place (end_of e) (λ z. omega (arith, some_size e.change)))

  later : (j : ℕ) (u : View) → CallsLaw known origin sizes log flushed u → CallsLaw known origin sizes longer flushed u
  later j u c = record {
    legal = λ k x at. legal_longer known origin sizes log e starts logged x (c.legal k x at);
    own = c.own;
    fronted = c.fronted;
    from_base = c.from_base;
    reached = c.reached;
    within = let y = c.within in omega (arith, end_longer log e logged, some_size e.change);
    in_order = c.in_order;
    loaded = c.loaded;
  }

  here : CallsLaw known origin sizes longer flushed w
  here = let c = later i v (h.calls i v there) in record {
    legal = λ k x at. ⊎_elim (λ (t : get_elem? v.calls k ≡ some x). c.legal k x t) (λ (t : (call ≡ x) × (k ≡ length v.calls)). subst (IsLegal known origin sizes longer) t.0 legal) (at_end v.calls call x k (subst (λ (l : List Call). get_elem? l k ≡ some x) calls at));
    own = λ k x at. ⊎_elim (λ (t : get_elem? v.calls k ≡ some x). own_same v w number kept (backend_of x) (c.own k x t)) (λ (t : (call ≡ x) × (k ≡ length v.calls)) other. absurd (other (ap backend_of (sym t.0) ∙ maker ∙ sym number)))
        (at_end v.calls call x k (subst (λ (l : List Call). get_elem? l k ≡ some x) calls at));
    fronted = λ k x at. ⊎_elim (λ (t : get_elem? v.calls k ≡ some x). let y = c.fronted k x t in let z = (h.calls i v there).within in omega arith) (λ (t : (call ≡ x) × (k ≡ length v.calls)). let y : end_of e ≡ place_of x = sym placed ∙ ap place_of t.0 in omega arith)
        (at_end v.calls call x k (subst (λ (l : List Call). get_elem? l k ≡ some x) calls at));
    from_base = λ _. omega (arith, end_above log e logged);
    reached = λ _ _. subst (λ (l : List Call). HasPlace l w.front) (sym calls) (at_last_place v.calls call w.front (placed ∙ sym front));
    within = omega (arith, end_longer log e logged);
    in_order = let low = (h.calls i v there).within in subst AreInOrder (sym calls) (in_order_longer v.calls call v.front c.in_order c.fronted (omega (arith, placed, starts, some_size e.change)));
    loaded = let y = c.loaded in omega arith;
  }

  pub history_entered : HistoryLaw known origin sizes longer flushed (set views i w)
  history_entered = record {
    calls = λ j u at. ⊎_elim (λ (t : (j ≡ i) × (w ≡ u)). subst (CallsLaw known origin sizes longer flushed) t.1 here) (λ (t : (j ≢ i) × (get_elem? views j ≡ some u)). later j u (h.calls j u t.1)) (at_set views i j w u at);
    kept = kept_set views h.kept i v w there kept emptied;
    counted = let s = call_more v w call calls write_weight in let z = written in omega (arith, total-set (λ (x : View). writes_in x.calls) views i v w there, length-append log.entries (e ∷ []), h.counted);
    once = λ k x at. let p : ℕ = end_of x in let s = call_more v w call calls (weight_at p) in let sums = total-set (λ (y : View). writes_at p y.calls) views i v w there in ⊎_elim
        (λ (t : get_elem? log.entries k ≡ some x). let low = ends_below log e logged k x t in let z : weight_at p call ≡ 0 = written_at p ∙ ap (λ (b : Bool). cond b 1 0) (ne_eqb (end_of e) p (λ q. omega (arith, some_size e.change))) in let was = h.once k x t in omega arith)
        (λ (t : (e ≡ x) × (k ≡ length log.entries)). let same : end_of e ≡ p = ap end_of t.0 in let z : weight_at p call ≡ 1 = written_at p ∙ ap (λ (b : Bool). cond b 1 0) (eq-eqb (end_of e) p same) in
        let none : total (λ (y : View). writes_at p y.calls) views ≡ 0 = total-none (λ (y : View). writes_at p y.calls) views (λ j u q. subst (λ (n : ℕ). writes_at n u.calls ≡ 0) same (none_yet j u q)) in omega arith)
        (at_end log.entries e x k at);
  }

-- The write of a page
module _ (known : ℕ → Bool) (origin : ℕ → Option Page) (sizes : ℕ → ℕ) (log : Log) (flushed : ℕ) (views : List View) (h : HistoryLaw known origin sizes log flushed views) (logged : LogLaw log) (i : ℕ) (v w : View) (there : get_elem? views i ≡ some v) (e : Entry) (starts : e.start ≡ log_end log)
    (tag : ℕ) (p : Page) (record_is : WriteRecord) (of : tag_in e.change ≡ Some tag) (whole : (t : ℕ) (q : Page) → e.change ≡ image t q → q ≡ p) (sized : change_size e.change ≡ record_is.size) (tested : (t : ImageTest) → record_is.test ≡ Some t → known tag ≡ true → (q : Page) × (cell origin log.entries tag ≡ Some q) × (lsn_of q ≡ t.before)) (past : record_is.size < record_size → (t : ImageTest) × (record_is.test ≡ Some t) × (t.redo < t.before))
    (is : known tag ≡ true → cell origin (log.entries ++ e ∷ []) tag ≡ Some p) (calls : w.calls ≡ v.calls ++ Write e.backend tag p (end_of e) record_is ∷ []) (front : w.front ≡ end_of e) (emptied : w.emptied ≡ v.emptied) (loaded : w.flushed ≡ v.flushed) (number : w.number ≡ v.number) (kept : w.joined_checkpoints ≡ v.joined_checkpoints) (maker : e.backend ≡ v.number) where
  abbrev with_entry : Log
  with_entry = record log { entries = log.entries ++ e ∷ [] }

  pub history_written : HistoryLaw known origin sizes with_entry flushed (set views i w)
  history_written = history_entered known origin sizes log flushed views h logged i v w there e starts (Write e.backend tag p (end_of e) record_is) refl maker refl (λ q. refl) (record { index = length log.entries; entry = e; entered = record { there = at_last log.entries; of = of }; made = refl; ends = refl; image_is = whole; sized = sized; tested = λ y test has. let z = tested y test has in (z.0, ap (λ (es : List Entry). cell origin es tag) cut_before ∙ z.1, z.2); past = past; writes = λ has. ap (λ (es : List Entry). cell origin es tag) (cut_all (end_of e) with_entry.entries all_within) ∙ is has }) calls front emptied loaded number kept
    where
      at_last : (l : List Entry) → get_elem? (l ++ e ∷ []) (length l) ≡ some e
      at_last [] = refl
      at_last (x ∷ l) = at_last l

      -- the entries that end where the new one starts are those before it
      cut_before : cut e.start with_entry.entries ≡ log.entries
      cut_before = cut_longer e.start log.entries e (omega (arith, some_size e.change)) ∙ cut_all e.start log.entries (λ k x at. let low = ends_below log e logged k x at in omega arith)

      all_within : (k : ℕ) (x : Entry) → get_elem? with_entry.entries k ≡ some x → end_of x ≤ end_of e
      all_within k x at = ⊎_elim (λ (t : get_elem? log.entries k ≡ some x). let low = ends_below log e logged k x t in omega arith) (λ (t : (e ≡ x) × (k ≡ length log.entries)). let same : end_of e ≡ end_of x = ap end_of t.0 in omega arith) (at_end log.entries e x k at)
