-- Each step keeps what holds of the sizes of forks, and so does each list of steps.
use Rattle.std.proofs.Common.{◌≡◌, ◌≢◌, ◌⊎◌, ℕ, zero, suc, ◌+◌, ◌<◌, ◌≤◌, Bool, true, false, List, [], ◌∷◌, Option, Some, None, Contains, cond, nat_lt, nat_le, nat_eq, ◌&&◌, eq-eqb, ne_eqb, length, set, slice_set, slice_index_or, get_or-set_same, get_or-set_other, sym, refl, ap, ◌∙◌, subst, inl, inr, ⊎_elim, arith}
use Rattle.std.proofs.lemmas.Bool.{false≢true, lt-ltb, ltb-true, leb-false}
use Rattle.std.proofs.lemmas.Nat.{div-add-mod'}
use Rattle.std.proofs.lemmas.Option.{same_Some, none-some}
use mathlib.Core.Logic.{dite}
use mathlib.Core.Option.{some, some-injective}
use native.Mathlib.Decide.{ℕ_discrete}
use lib.ListN.{get_elem?}
use Rattle.pin_core.specs.declared.view.SizeRight.TheVariants as size_right
use Rattle.pin_core.specs.declared.view.SizeHold.{SizeHold}
use Rattle.pin_core.specs.declared.view.Link.{Link}
use Rattle.pin_core.specs.declared.view.View.{View}
use Rattle.pin_core.specs.State.{State, Frame, SizeWord, no_tag, no_size, size_in, without_size, size_hold, idle, link, tag_fork, tag_block, is_block, is_cut}
use Rattle.pin_core.specs.Sizes.{SizeKind, load_size, share_size, exclude_size, unshare_size, unexclude_size, pass_frame, store_size, enter_extension, enter_cut, size_after, size_hold_after, SizeTally, sharers, excluders, unstored, size_weight, size_shape, SizeLaw, SizeHoldLaw, size_part, SizeAllowed, view_sized, state_sized, MayResize, CanUnshareSize, CanPass, CanEnterExtension, CanEnterCut, extended_link, IsNoted, IsAtSize, SizesLaw}
use Rattle.pin_core.specs.Invariant.{LinkLaw, PinInvariant}
use Rattle.pin_core.proofs.Stepping.{remembered}
use Rattle.grid.specs.Shape.{Grid, put, tallies}
use Rattle.grid.proofs.Grids.{Keeps, Relinks, touch}
use Rattle.grid.proofs.Lists.{at_set, set_here, set_else, puts}
use Rattle.grid.proofs.Sums.{term_le, terms_le, total-none, total-alone}

-- what is held of a fork's size, after a change of the list
pub in_front : (fork : ℕ) (h : SizeHold) (hs : List SizeHold) → h.fork ≡ fork → size_in (h ∷ hs) fork ≡ h
unfolding size_in
in_front fork h hs e = ap (λ b. cond b h (size_in hs fork)) (eq-eqb fork h.fork (sym e))

pub in_rest : (fork : ℕ) (h : SizeHold) (hs : List SizeHold) → fork ≢ h.fork → size_in (h ∷ hs) fork ≡ size_in hs fork
unfolding size_in
in_rest fork h hs n = ap (λ b. cond b h (size_in hs fork)) (ne_eqb fork h.fork n)

without_head : (fork : ℕ) (h : SizeHold) (hs : List SizeHold) → fork ≡ h.fork → without_size fork (h ∷ hs) ≡ without_size fork hs
unfolding without_size
without_head fork h hs e = ap (λ b. cond b (without_size fork hs) (h ∷ without_size fork hs)) (eq-eqb fork h.fork e)

without_tail : (fork : ℕ) (h : SizeHold) (hs : List SizeHold) → fork ≢ h.fork → without_size fork (h ∷ hs) ≡ h ∷ without_size fork hs
unfolding without_size
without_tail fork h hs n = ap (λ b. cond b (without_size fork hs) (h ∷ without_size fork hs)) (ne_eqb fork h.fork n)

pub gone_here : (fork : ℕ) (hs : List SizeHold) → size_in (without_size fork hs) fork ≡ no_size
unfolding size_in without_size
gone_here fork [] = refl
gone_here fork (h ∷ hs) = dite (ℕ_discrete fork h.fork)
    (λ e. ap (λ (l : List SizeHold). size_in l fork) (without_head fork h hs e) ∙ gone_here fork hs)
    (λ n. ap (λ (l : List SizeHold). size_in l fork) (without_tail fork h hs n) ∙ in_rest fork h (without_size fork hs) n ∙ gone_here fork hs)

pub gone_else : (fork g : ℕ) (hs : List SizeHold) → g ≢ fork → size_in (without_size fork hs) g ≡ size_in hs g
unfolding size_in without_size
gone_else fork g [] other = refl
gone_else fork g (h ∷ hs) other = dite (ℕ_discrete fork h.fork)
    (λ e. ap (λ (l : List SizeHold). size_in l g) (without_head fork h hs e) ∙ gone_else fork g hs other ∙ sym (in_rest g h hs (λ x. other (x ∙ sym e))))
    (λ n. ap (λ (l : List SizeHold). size_in l g) (without_tail fork h hs n) ∙ dite (ℕ_discrete g h.fork)
    (λ same. in_front g h (without_size fork hs) (sym same) ∙ sym (in_front g h hs (sym same)))
    (λ o. in_rest g h (without_size fork hs) o ∙ gone_else fork g hs other ∙ sym (in_rest g h hs o)))

abbrev pub SizeKeeps : SizeWord → SizeHold → SizeWord → SizeHold → Type 0
SizeKeeps w h w' h' = Keeps size_shape size_part size_part tt tt tt tt w h w' h'

module _ (fork : ℕ) (w : SizeWord) (h : SizeHold) where
  abbrev pub KindKeeps : SizeKind → Type 0
  KindKeeps k = SizeKeeps w h (size_after k w) (size_hold_after k fork w h)

  load_keeps : KindKeeps load_size
  load_keeps = record {
    column = λ t t' q c sums le _. grind (arith, q, c, sums sharers, sums excluders, sums unstored);
    cell = λ t q le c. c;
    others = λ t n m q c le d. d;
  }

  share_keeps : h.right ≡ size_right.Unheld → w.exclusive ≡ false → KindKeeps share_size
  share_keeps a b = record {
    column = λ t t' q c sums le _. grind (arith, q, c, a, b, sums sharers, sums excluders, sums unstored);
    cell = λ t q le c. grind (arith, q, c, a, b);
    others = λ t n m q c le d. grind (arith, q, c, d, a, b);
  }

  exclude_keeps : h.right ≡ size_right.Unheld → w.exclusive ≡ false → w.sharers ≡ 0 → KindKeeps exclude_size
  exclude_keeps a b n = record {
    column = λ t t' q c sums le _. grind (arith, q, c, a, b, n, sums sharers, sums excluders, sums unstored);
    cell = λ t q le c. grind (arith, q, c, a, b);
    others = λ t n m q c le d. grind (arith, q, c, d, a, b);
  }

  unshare_keeps : (seen : Option ℕ) → h.right ≡ size_right.Shared → KindKeeps (unshare_size seen)
  unshare_keeps seen a = record {
    column = λ t t' q c sums le _. grind (arith, q, c, a, le sharers, sums sharers, sums excluders, sums unstored);
    cell = λ t q le c. grind (arith, q, c, a);
    others = λ t n m q c le d. grind (arith, q, c, d, a);
  }

  unexclude_keeps : h.right ≡ size_right.Exclusive → w.blocks ≡ w.logged → KindKeeps unexclude_size
  unexclude_keeps a e = record {
    column = λ t t' q c sums le _. grind (arith, q, c, a, e, le excluders, sums sharers, sums excluders, sums unstored);
    cell = λ t q le c. grind (arith, q, c, a);
    others = λ t n m q c le d. grind (arith, q, c, d, a);
  }

  pass_keeps : (f n : ℕ) → h.right ≡ size_right.Exclusive → n < h.blocks → KindKeeps (pass_frame f n)
  pass_keeps f n a b = record {
    column = λ t t' q c sums le _. grind (arith, q, c, a, sums sharers, sums excluders, sums unstored);
    cell = λ t q le c. grind (arith, q, c, a, b);
    others = λ t n m q c le d. d;
  }

  store_keeps : h.right ≡ size_right.Exclusive → h.made ≢ None → KindKeeps store_size
  store_keeps a b = record {
    column = λ t t' q c sums le _. grind (arith, q, c, a, b, sums sharers, sums excluders, sums unstored);
    cell = λ t q le c. grind (arith, q, c, a, b);
    others = λ t n m q c le d. grind (arith, q, c, d, a, le sharers, le excluders);
  }

  extension_keeps : (f end : ℕ) → h.right ≡ size_right.Exclusive → h.made ≡ None → KindKeeps (enter_extension f end)
  extension_keeps f end a b = record {
    column = λ t t' q c sums le _. grind (arith, q, c, a, b, sums sharers, sums excluders, sums unstored);
    cell = λ t q le c. grind (arith, q, c, a, b);
    others = λ t n m q c le d. grind (arith, q, c, d, a, le sharers, le excluders);
  }

  cut_keeps : (n end : ℕ) → h.right ≡ size_right.Exclusive → h.made ≡ None → KindKeeps (enter_cut n end)
  cut_keeps n end a b = record {
    column = λ t t' q c sums le _. grind (arith, q, c, a, b, sums sharers, sums excluders, sums unstored);
    cell = λ t q le c. grind (arith, q, c, a, b);
    others = λ t n m q c le d. grind (arith, q, c, d, a, le sharers, le excluders);
  }

kind_keeps : (k : SizeKind) (s : State) (v : View) (fork : ℕ) → SizeAllowed k s v fork → KindKeeps fork (s.size fork) (size_hold v fork) k
kind_keeps load_size s v fork a = load_keeps fork (s.size fork) (size_hold v fork)
kind_keeps share_size s v fork a = share_keeps fork (s.size fork) (size_hold v fork) a.unheld a.free
kind_keeps exclude_size s v fork a = exclude_keeps fork (s.size fork) (size_hold v fork) a.free.unheld a.free.free a.alone
kind_keeps (unshare_size seen) s v fork a = unshare_keeps fork (s.size fork) (size_hold v fork) seen a.right
kind_keeps unexclude_size s v fork a = unexclude_keeps fork (s.size fork) (size_hold v fork) a.right a.stored
kind_keeps (pass_frame f n) s v fork a = pass_keeps fork (s.size fork) (size_hold v fork) f n a.may.right a.shorter
kind_keeps store_size s v fork a = store_keeps fork (s.size fork) (size_hold v fork) a.right a.made
kind_keeps (enter_extension f end) s v fork a = extension_keeps fork (s.size fork) (size_hold v fork) f end a.may.right a.may.unmade
kind_keeps (enter_cut n end) s v fork a = cut_keeps fork (s.size fork) (size_hold v fork) n end a.may.right a.may.unmade

-- what the view has of the sizes, after a step
changed_here : (fork : ℕ) (h : SizeHold) (v w : View) → h.fork ≡ fork → w.sizes ≡ h ∷ without_size fork v.sizes → Relinks size_shape v w fork h
changed_here fork h v w e is = record {
  own = refl;
  here = ap (λ (l : List SizeHold). size_in l fork) is ∙ in_front fork h (without_size fork v.sizes) e;
  else = λ g other. ap (λ (l : List SizeHold). size_in l g) is ∙ in_rest g h (without_size fork v.sizes) (λ x. other (x ∙ e)) ∙ gone_else fork g v.sizes other;
}

given_up : (fork : ℕ) (v w : View) → w.sizes ≡ without_size fork v.sizes → Relinks size_shape v w fork no_size
given_up fork v w is = record {
  own = refl;
  here = ap (λ (l : List SizeHold). size_in l fork) is ∙ gone_here fork v.sizes;
  else = λ g other. ap (λ (l : List SizeHold). size_in l g) is ∙ gone_else fork g v.sizes other;
}

pub resized : (k : SizeKind) (fork : ℕ) (s : State) (v : View) → Relinks size_shape v (view_sized k fork s v) fork (size_hold_after k fork (s.size fork) (size_hold v fork))
resized load_size fork s v = record { own = refl; here = refl; else = λ g other. refl }
resized share_size fork s v = changed_here fork (size_hold_after share_size fork (s.size fork) (size_hold v fork)) v (view_sized share_size fork s v) refl refl
resized exclude_size fork s v = changed_here fork (size_hold_after exclude_size fork (s.size fork) (size_hold v fork)) v (view_sized exclude_size fork s v) refl refl
resized (unshare_size seen) fork s v = given_up fork v (view_sized (unshare_size seen) fork s v) refl
resized unexclude_size fork s v = given_up fork v (view_sized unexclude_size fork s v) refl
resized (pass_frame f n) fork s v = changed_here fork (size_hold_after (pass_frame f n) fork (s.size fork) (size_hold v fork)) v (view_sized (pass_frame f n) fork s v) refl refl
resized store_size fork s v = changed_here fork (size_hold_after store_size fork (s.size fork) (size_hold v fork)) v (view_sized store_size fork s v) refl refl
resized (enter_extension f end) fork s v = changed_here fork (size_hold_after (enter_extension f end) fork (s.size fork) (size_hold v fork)) v (view_sized (enter_extension f end) fork s v) refl refl
resized (enter_cut n end) fork s v = changed_here fork (size_hold_after (enter_cut n end) fork (s.size fork) (size_hold v fork)) v (view_sized (enter_cut n end) fork s v) refl refl

-- a law of many forks is one of fewer
fewer : (n m : ℕ) (size : ℕ → SizeWord) (views : List View) → n ≤ m → Grid size_shape size_part m size (λ _. tt) views → Grid size_shape size_part n size (λ _. tt) views
fewer n m size views le g = record { columns = λ f below. g.columns f (omega arith); cells = λ i v f there below. g.cells i v f there (omega arith) }

-- Beside a view that has an exclusive right no other view has a right
alone_weight : (w : SizeWord) (h m : SizeHold) (t : SizeTally → ℕ) → SizeLaw w t → ((k : SizeTally) → size_weight k h + size_weight k m ≤ t k) → h.right ≡ size_right.Exclusive → m.right ≡ size_right.Unheld
alone_weight w h m t q le e = grind (arith, q, le sharers, le excluders, e)

-- a change that isn't in the size word yet was made under the exclusive right
unstored_few : (w : SizeWord) (h : SizeHold) → SizeHoldLaw w h → size_weight unstored h ≤ size_weight excluders h
unstored_few w h c = grind (arith, c)

pub rights_differ : size_right.Unheld ≡ size_right.Exclusive → ⊥
rights_differ e = absurd (cc)

shared_right : size_right.Shared ≡ size_right.Exclusive → ⊥
shared_right e = absurd (cc)

-- a tag is told by its fork and its block there
pub tag_is : (a b : ℕ) → tag_fork a ≡ tag_fork b → tag_block a ≡ tag_block b → a ≡ b
unfolding tag_fork tag_block
tag_is a b e f = omega (arith, e, f, div-add-mod' a 4294967296, div-add-mod' b 4294967296)

named_by : (fr : Frame) (l : Link) → LinkLaw fr l → l.inside ≡ true → fr.tag ≢ no_tag
named_by fr l h e = let tagged = remembered fr l.tag h.remembers (h.inside e) in tagged.named

contains_none : (x : ℕ) (xs : List ℕ) → xs ≡ [] → Contains xs x → ⊥
contains_none x xs e has = let k = has.0 in let below = has.1 in let none : length xs ≡ 0 = ap (λ (l : List ℕ). length l) e in absurd (omega arith)

contains_cons : (x y : ℕ) (xs : List ℕ) → Contains (x ∷ xs) y → (x ≡ y) ⊎ Contains xs y
contains_cons x y xs (zero, below, is) = inl is
contains_cons x y xs (suc k, below, is) = inr (k, omega arith, is)

set_noted : (ls : List Link) (g f : ℕ) (l : Link) → l.noted ≡ (slice_index_or ls g idle).noted → (slice_index_or (slice_set ls g l) f idle).noted ≡ (slice_index_or ls f idle).noted
set_noted [] g f l e = refl
set_noted (x ∷ xs) zero zero l e = e
set_noted (x ∷ xs) zero (suc f) l e = refl
set_noted (x ∷ xs) (suc g) zero l e = refl
set_noted (x ∷ xs) (suc g) (suc f) l e = set_noted xs g f l e

-- a view that notes a frame is still there, if the one that steps notes what it noted
pub noted_stays : (views : List View) (i : ℕ) (v w : View) (f : ℕ) → get_elem? views i ≡ some v → (link w f).noted ≡ (link v f).noted
    → (j : ℕ) × (u : View) × (get_elem? views j ≡ some u) × ((link u f).noted ≡ true) → (j : ℕ) × (u : View) × (get_elem? (set views i w) j ≡ some u) × ((link u f).noted ≡ true)
noted_stays views i v w f there same n = let j = n.0 in let u = n.1 in dite (ℕ_discrete j i)
    (λ e. (i, w, set_here views i v w there, same ∙ ap (λ (x : View). (link x f).noted) (some-injective v u (sym there ∙ ap (λ (z : ℕ). get_elem? views z) (sym e) ∙ n.2)) ∙ n.3))
    (λ o. (j, u, set_else views i j w o ∙ n.2, n.3))

-- a block of a fork that a cut doesn't take away is below its new size
pub below_cut : (n tag : ℕ) {fork : ℕ} → tag_fork tag ≡ fork → is_cut fork n tag ≡ false → tag_block tag < n
below_cut n tag {fork = fork} of e = leb-false n (tag_block tag) (second (nat_eq (tag_fork tag) fork) (nat_le n (tag_block tag)) (eq-eqb (tag_fork tag) fork of) e)
  where
    second : (x y : Bool) → x ≡ true → (x && y) ≡ false → y ≡ false
    second x y e f = grind (arith, e, f)

-- a kind that leaves the size of its fork by the log leaves those of all forks
pub logged_kept : (s : State) (fork : ℕ) (k : SizeKind) (g : ℕ) → (size_after k (s.size fork)).logged ≡ (s.size fork).logged → (put s.size fork (size_after k (s.size fork)) g).logged ≡ (s.size g).logged
logged_kept s fork k g same = dite (ℕ_discrete g fork) (λ e. ap (λ (x : SizeWord). x.logged) ((puts s.size fork (size_after k (s.size fork)) g).same e) ∙ same ∙ ap (λ (z : ℕ). (s.size z).logged) (sym e)) (λ o. ap (λ (x : SizeWord). x.logged) ((puts s.size fork (size_after k (s.size fork)) g).other o))

-- The size of a fork becomes w', which leaves the size by the log, and backend i's view w
module _ (s : State) (h : SizesLaw s) (i fork : ℕ) (v w : View) (w' : SizeWord) (hold : SizeHold) (there : get_elem? s.views i ≡ some v) (logged : w'.logged ≡ (s.size fork).logged)
    (moved : Relinks size_shape v w fork hold) (noteds : (f : ℕ) → (link w f).noted ≡ (link v f).noted) where
  abbrev next : State
  next = record s { size = put s.size fork w'; views = set s.views i w }

  same_logged : (g : ℕ) → (put s.size fork w' g).logged ≡ (s.size g).logged
  same_logged g = dite (ℕ_discrete g fork) (λ e. ap (λ (x : SizeWord). x.logged) ((puts s.size fork w' g).same e) ∙ logged ∙ ap (λ (z : ℕ). (s.size z).logged) (sym e)) (λ o. ap (λ (x : SizeWord). x.logged) ((puts s.size fork w' g).other o))

  block_still : (tag : ℕ) → is_block s tag ≡ true → is_block next tag ≡ true
  block_still tag e = ap (λ (n : ℕ). nat_lt (tag_block tag) n) (same_logged (tag_fork tag)) ∙ e

  may_still : (g : ℕ) → (g ≡ fork → (hold.right ≡ size_right.Exclusive) × (hold.made ≡ None)) → MayResize s v g → MayResize next w g
  may_still g here a = dite (ℕ_discrete g fork)
      (λ e. subst (λ (z : ℕ). MayResize next w z) (sym e) (record { right = ap (λ (x : SizeHold). x.right) moved.here ∙ (here e).0; unmade = ap (λ (x : SizeHold). x.made) moved.here ∙ (here e).1 }))
      (λ o. record { right = ap (λ (x : SizeHold). x.right) (moved.else g o) ∙ a.right; unmade = ap (λ (x : SizeHold). x.made) (moved.else g o) ∙ a.unmade })

  pub sizes_change : ((n : ℕ) → Grid size_shape size_part n (put s.size fork w') (λ _. tt) (set s.views i w))
      → ((f : ℕ) → f < s.frames → (link w f).inside ≡ true → is_block s (s.frame f).tag ≡ true)
      → ((f : ℕ) → f < s.frames → (link v f).noted ≡ true → tag_fork (s.frame f).tag ≡ fork → (hold.right ≡ size_right.Exclusive) × (hold.made ≡ None))
      → ((n f : ℕ) → hold.cut_to ≡ Some n → Contains hold.passed f → f < s.frames → (s.frame f).tag ≢ no_tag → is_cut fork n (s.frame f).tag ≡ false)
      → (s.resizes ≡ false → w'.exclusive ≡ false)
      → SizesLaw next
  sizes_change words insides keeps passes quiet = record {
    words = words;
    blocks = λ f below named. ⊎_elim (λ (e : is_block s (s.frame f).tag ≡ true). inl (block_still (s.frame f).tag e)) (λ (e : IsNoted s f). inr (noted_stays s.views i v w f there (noteds f) e)) (h.blocks f below named);
    noted = λ j f u here below e. ⊎_elim
        (λ (t : (j ≡ i) × (w ≡ u)). let was : (link v f).noted ≡ true = sym (noteds f) ∙ ap (λ (x : View). (link x f).noted) t.1 ∙ e in let at = h.noted i f v there below was in
        subst (λ (x : View). IsAtSize next x (s.frame f).tag) t.1 (record { may = may_still (tag_fork (s.frame f).tag) (keeps f below was) at.may; at = at.at ∙ sym (same_logged (tag_fork (s.frame f).tag)) }))
        (λ (t : (j ≢ i) × (get_elem? s.views j ≡ some u)). let at = h.noted j f u t.1 below e in record { may = record { right = at.may.right; unmade = at.may.unmade }; at = at.at ∙ sym (same_logged (tag_fork (s.frame f).tag)) })
        (at_set s.views i j w u here);
    insides = λ j f u here below e. block_still (s.frame f).tag (⊎_elim
        (λ (t : (j ≡ i) × (w ≡ u)). insides f below (ap (λ (x : View). (link x f).inside) t.1 ∙ e))
        (λ (t : (j ≢ i) × (get_elem? s.views j ≡ some u)). h.insides j f u t.1 below e) (at_set s.views i j w u here));
    passed = λ j g n f u here to has below named. ⊎_elim
        (λ (t : (j ≡ i) × (w ≡ u)). dite (ℕ_discrete g fork)
        (λ same. let now : size_hold u g ≡ hold = ap (λ (x : View). size_hold x g) (sym t.1) ∙ ap (λ (z : ℕ). size_hold w z) same ∙ moved.here in
        subst (λ (z : ℕ). is_cut z n (s.frame f).tag ≡ false) (sym same) (passes n f (ap (λ (x : SizeHold). x.cut_to) (sym now) ∙ to) (subst (λ (x : SizeHold). Contains x.passed f) now has) below named))
        (λ o. let now : size_hold u g ≡ size_hold v g = ap (λ (x : View). size_hold x g) (sym t.1) ∙ moved.else g o in
        h.passed i g n f v there (ap (λ (x : SizeHold). x.cut_to) (sym now) ∙ to) (subst (λ (x : SizeHold). Contains x.passed f) now has) below named))
        (λ (t : (j ≢ i) × (get_elem? s.views j ≡ some u)). h.passed j g n f u t.1 to has below named) (at_set s.views i j w u here);
    quiet = λ e g. dite (ℕ_discrete g fork) (λ same. ap (λ (x : SizeWord). x.exclusive) ((puts s.size fork w' g).same same) ∙ quiet e) (λ o. ap (λ (x : SizeWord). x.exclusive) ((puts s.size fork w' g).other o) ∙ h.quiet e g);
  }

-- if no view has the exclusive right on a fork's size, each change of it is in its word
pub none_unstored : (s : State) → SizesLaw s → (fork : ℕ) → tallies size_shape s.views fork excluders ≡ 0 → tallies size_shape s.views fork unstored ≡ 0
none_unstored s h fork e = total-none (λ (u : View). size_weight unstored (size_hold u fork)) s.views (λ j u here. let x = unstored_few (s.size fork) (size_hold u fork) ((h.words (suc fork)).cells j u fork here (omega arith)) in let y = term_le (λ (z : View). size_weight excluders (size_hold z fork)) s.views j u here in omega arith)

-- Backend i, whose view is v, makes a step at the size of a fork
module _ (s : State) (h : SizesLaw s) (i fork : ℕ) (v : View) (there : get_elem? s.views i ≡ some v) where
  -- there are more forks than this one
  words_far : (k : SizeKind) (n : ℕ) → fork < n → SizeAllowed k s v fork → Grid size_shape size_part n (put s.size fork (size_after k (s.size fork))) (λ _. tt) (set s.views i (view_sized k fork s v))
  words_far k n below a = touch size_shape size_part size_part n s.size (λ _. tt) (λ _. tt) s.views i fork v (view_sized k fork s v) (size_after k (s.size fork)) (size_hold_after k fork (s.size fork) (size_hold v fork)) (h.words n) (h.words n) there below
      (resized k fork s v) (λ g lt other. refl) (kind_keeps k s v fork a)

  words_after : (k : SizeKind) → SizeAllowed k s v fork → (n : ℕ) → Grid size_shape size_part n (put s.size fork (size_after k (s.size fork))) (λ _. tt) (set s.views i (view_sized k fork s v))
  words_after k a n = fewer n (n + suc fork) (put s.size fork (size_after k (s.size fork))) (set s.views i (view_sized k fork s v)) (omega arith) (words_far k (n + suc fork) (omega arith) a)

  cell : SizeHoldLaw (s.size fork) (size_hold v fork)
  cell = (h.words (suc fork)).cells i v fork there (omega arith)

  column : SizeLaw (s.size fork) (tallies size_shape s.views fork)
  column = (h.words (suc fork)).columns fork (omega arith)

  weighs : (k : SizeTally) → size_weight k (size_hold v fork) ≤ tallies size_shape s.views fork k
  weighs k = term_le (λ (u : View). size_weight k (size_hold u fork)) s.views i v there

  -- while a view has the exclusive right, the word's bit is set
  pub exclusive_stands : (size_hold v fork).right ≡ size_right.Exclusive → (s.size fork).exclusive ≡ true
  exclusive_stands right = stands (s.size fork) (size_hold v fork) (tallies size_shape s.views fork) column (weighs excluders) right
    where
      stands : (w : SizeWord) (x : SizeHold) (t : SizeTally → ℕ) → SizeLaw w t → size_weight excluders x ≤ t excluders → x.right ≡ size_right.Exclusive → w.exclusive ≡ true
      stands w x t c le e = grind (arith, c, le, e)

  -- a view with a shared right has found the fork's size by the log
  pub shared_finds : (size_hold v fork).right ≡ size_right.Shared → (size_hold v fork).blocks ≡ (s.size fork).logged
  shared_finds right = let c = column in let d = cell in finds (s.size fork) (size_hold v fork) (tallies size_shape s.views fork) c d (weighs sharers) right (none_unstored s h fork)
    where
      finds : (w : SizeWord) (x : SizeHold) (t : SizeTally → ℕ) → SizeLaw w t → SizeHoldLaw w x → size_weight sharers x ≤ t sharers → x.right ≡ size_right.Shared → (t excluders ≡ 0 → t unstored ≡ 0) → x.blocks ≡ w.logged
      finds w x t c d le right none = grind (arith, c, d, le, right, none)

  -- a view with the exclusive right that has made no change has found the fork's size by the log
  pub unmade_finds : MayResize s v fork → ((size_hold v fork).blocks ≡ (s.size fork).logged) × ((s.size fork).blocks ≡ (s.size fork).logged)
  unmade_finds may = let t = tallies size_shape s.views fork in
      let alone = total-alone (λ (u : View). size_weight unstored (size_hold u fork)) s.views i v there (λ j u other here. other_stored (s.size fork) (size_hold v fork) (size_hold u fork) t column ((h.words (suc fork)).cells j u fork here (omega arith)) (λ k. terms_le (λ (z : View). size_weight k (size_hold z fork)) s.views i j v u other there here) may.right) in
      finds (s.size fork) (size_hold v fork) t column cell alone may.right may.unmade
    where
      other_stored : (w : SizeWord) (x y : SizeHold) (t : SizeTally → ℕ) → SizeLaw w t → SizeHoldLaw w y → ((k : SizeTally) → size_weight k x + size_weight k y ≤ t k) → x.right ≡ size_right.Exclusive → size_weight unstored y ≡ 0
      other_stored w x y t q d le e = grind (arith, q, d, le excluders, e)

      finds : (w : SizeWord) (x : SizeHold) (t : SizeTally → ℕ) → SizeLaw w t → SizeHoldLaw w x → t unstored ≡ size_weight unstored x → x.right ≡ size_right.Exclusive → x.made ≡ None → (x.blocks ≡ w.logged) × (w.blocks ≡ w.logged)
      finds w x t c d alone right unmade = grind (arith, c, d, alone, right, unmade)

  -- beside an exclusive right no other view has a right
  pub excludes_others : (j : ℕ) (u : View) → j ≢ i → get_elem? s.views j ≡ some u → (size_hold v fork).right ≡ size_right.Exclusive → (size_hold u fork).right ≡ size_right.Unheld
  excludes_others j u other here right = alone_weight (s.size fork) (size_hold v fork) (size_hold u fork) (tallies size_shape s.views fork) column (λ k. terms_le (λ (z : View). size_weight k (size_hold z fork)) s.views i j v u other there here) right

  -- the frames' links keep what is noted, but at the frame by which the fork grows
  links_keep : (k : SizeKind) (f : ℕ) → ((g end : ℕ) → k ≡ enter_extension g end → f ≢ g) → (link (view_sized k fork s v) f).noted ≡ (link v f).noted
  links_keep load_size f other = refl
  links_keep share_size f other = refl
  links_keep exclude_size f other = refl
  links_keep (unshare_size None) f other = refl
  links_keep (unshare_size (Some g)) f other = let l : Link = record (link v g) { inside = true } in set_noted v.links g f l refl
  links_keep unexclude_size f other = refl
  links_keep (pass_frame g n) f other = refl
  links_keep store_size f other = refl
  links_keep (enter_extension g end) f other = ap (λ (x : Link). x.noted) (get_or-set_other v.links g f (extended_link (link v g)) idle (other g end refl))
  links_keep (enter_cut n end) f other = refl

  plain_change : (k : SizeKind) → ((g end : ℕ) → k ≢ enter_extension g end) → SizeAllowed k s v fork → (size_after k (s.size fork)).logged ≡ (s.size fork).logged
      → ((f : ℕ) → f < s.frames → (link (view_sized k fork s v) f).inside ≡ true → is_block s (s.frame f).tag ≡ true)
      → ((f : ℕ) → f < s.frames → (link v f).noted ≡ true → tag_fork (s.frame f).tag ≡ fork → ((size_hold_after k fork (s.size fork) (size_hold v fork)).right ≡ size_right.Exclusive) × ((size_hold_after k fork (s.size fork) (size_hold v fork)).made ≡ None))
      → ((n f : ℕ) → (size_hold_after k fork (s.size fork) (size_hold v fork)).cut_to ≡ Some n → Contains (size_hold_after k fork (s.size fork) (size_hold v fork)).passed f → f < s.frames → (s.frame f).tag ≢ no_tag → is_cut fork n (s.frame f).tag ≡ false)
      → (s.resizes ≡ false → (size_after k (s.size fork)).exclusive ≡ false) → SizesLaw (state_sized k s i fork v)
  plain_change k other a logged insides keeps passes quiet = sizes_change s h i fork v (view_sized k fork s v) (size_after k (s.size fork)) (size_hold_after k fork (s.size fork) (size_hold v fork)) there logged (resized k fork s v)
      (λ f. links_keep k f (λ g end e. absurd (other g end e))) (words_after k a) insides keeps passes quiet

  -- what was noted with the fork's size is noted under the exclusive right, with no change made
  noted_may : (f : ℕ) → f < s.frames → (link v f).noted ≡ true → tag_fork (s.frame f).tag ≡ fork → MayResize s v fork
  noted_may f below noted of = subst (λ (z : ℕ). MayResize s v z) of (h.noted i f v there below noted).may

  same_passes : (n f : ℕ) → (size_hold v fork).cut_to ≡ Some n → Contains (size_hold v fork).passed f → f < s.frames → (s.frame f).tag ≢ no_tag → is_cut fork n (s.frame f).tag ≡ false
  same_passes n f to has below named = h.passed i fork n f v there to has below named

  sees_block : (seen : Option ℕ) (p : PinInvariant s) → v.emptied ≡ false → CanUnshareSize seen s v fork → (f : ℕ) → f < s.frames → (link (view_sized (unshare_size seen) fork s v) f).inside ≡ true → is_block s (s.frame f).tag ≡ true
  sees_block None p live a f below e = h.insides i f v there below e
  sees_block (Some g) p live a f below e = dite (ℕ_discrete f g)
      (λ same. let is : (s.frame g).tag ≡ a.sees.tag = ((p.grid.cells i v g there a.sees.inside).remembers a.sees.tag a.sees.remembered).1 in
      subst (λ (z : ℕ). is_block s z ≡ true) (sym is ∙ ap (λ (z : ℕ). (s.frame z).tag) (sym same))
      (lt-ltb (tag_block a.sees.tag) (s.size (tag_fork a.sees.tag)).logged (subst (λ (z : ℕ). tag_block a.sees.tag < (s.size z).logged) (sym a.sees.of) (subst (λ (n : ℕ). tag_block a.sees.tag < n) (shared_finds a.right) a.sees.below))))
      (λ o. h.insides i f v there below (sym (ap (λ (x : Link). x.inside) (get_or-set_other v.links g f (record (link v g) { inside = true }) idle o)) ∙ e))

  passes_frame : (f n : ℕ) → CanPass f n s v fork → (m g : ℕ) → Some n ≡ Some m → Contains (f ∷ (size_hold v fork).passed) g → g < s.frames → (s.frame g).tag ≢ no_tag → is_cut fork m (s.frame g).tag ≡ false
  passes_frame f n a m g e has below named = subst (λ (z : ℕ). is_cut fork z (s.frame g).tag ≡ false) (same_Some n m e) (⊎_elim
      (λ (x : f ≡ g). subst (λ (z : ℕ). (s.frame z).tag ≢ no_tag → is_cut fork n (s.frame z).tag ≡ false) x a.kept named)
      (λ (x : Contains (size_hold v fork).passed g). before (size_hold v fork).cut_to refl x) (contains_cons f g (size_hold v fork).passed has))
    where
      before : (o : Option ℕ) → (size_hold v fork).cut_to ≡ o → Contains (size_hold v fork).passed g → is_cut fork n (s.frame g).tag ≡ false
      before None e x = absurd (contains_none g (size_hold v fork).passed (cell.passed e) x)
      before (Some k) e x = subst (λ (z : ℕ). is_cut fork z (s.frame g).tag ≡ false) (a.same k e) (same_passes k g e x below named)

  -- the exclusive right is this view's alone
  mine : (j f : ℕ) (u : View) → (size_hold v fork).right ≡ size_right.Exclusive → get_elem? s.views j ≡ some u → f < s.frames → (link u f).noted ≡ true → tag_fork (s.frame f).tag ≡ fork → (link v f).noted ≡ true
  mine j f u right here below noted of = dite (ℕ_discrete j i)
      (λ e. ap (λ (x : View). (link x f).noted) (some-injective v u (sym there ∙ ap (λ (z : ℕ). get_elem? s.views z) (sym e) ∙ here)) ∙ noted)
      (λ o. let x = excludes_others j u o here right in let y = (subst (λ (z : ℕ). MayResize s u z) of (h.noted j f u here below noted).may).right in absurd (rights_differ (sym x ∙ y)))

  pub other_logged : (k : SizeKind) (g : ℕ) → g ≢ fork → (put s.size fork (size_after k (s.size fork)) g).logged ≡ (s.size g).logged
  other_logged k g o = ap (λ (x : SizeWord). x.logged) ((puts s.size fork (size_after k (s.size fork)) g).other o)

  pub here_logged : (k : SizeKind) (g : ℕ) → g ≡ fork → (put s.size fork (size_after k (s.size fork)) g).logged ≡ (size_after k (s.size fork)).logged
  here_logged k g e = ap (λ (x : SizeWord). x.logged) ((puts s.size fork (size_after k (s.size fork)) g).same e)

  -- a view has of another fork's size what it had
  other_may : (k : SizeKind) (g : ℕ) → g ≢ fork → MayResize s v g → MayResize (state_sized k s i fork v) (view_sized k fork s v) g
  other_may k g o a = record { right = ap (λ (x : SizeHold). x.right) ((resized k fork s v).else g o) ∙ a.right; unmade = ap (λ (x : SizeHold). x.made) ((resized k fork s v).else g o) ∙ a.unmade }

  -- what was passed for a cut, after a step that passes no frame
  passed_after : (k : SizeKind) → (size_hold_after k fork (s.size fork) (size_hold v fork)).cut_to ≡ (size_hold v fork).cut_to → (size_hold_after k fork (s.size fork) (size_hold v fork)).passed ≡ (size_hold v fork).passed
      → (j g n f : ℕ) (u : View) → get_elem? (set s.views i (view_sized k fork s v)) j ≡ some u → (size_hold u g).cut_to ≡ Some n → Contains (size_hold u g).passed f → f < s.frames → (s.frame f).tag ≢ no_tag → is_cut g n (s.frame f).tag ≡ false
  passed_after k to_same passed_same j g n f u here to has below named = ⊎_elim
      (λ (t : (j ≡ i) × (view_sized k fork s v ≡ u)). let w : View = view_sized k fork s v in dite (ℕ_discrete g fork)
      (λ same. let now : size_hold u g ≡ size_hold_after k fork (s.size fork) (size_hold v fork) = ap (λ (x : View). size_hold x g) (sym t.1) ∙ ap (λ (z : ℕ). size_hold w z) same ∙ (resized k fork s v).here in
      subst (λ (z : ℕ). is_cut z n (s.frame f).tag ≡ false) (sym same) (same_passes n f (sym to_same ∙ ap (λ (x : SizeHold). x.cut_to) (sym now) ∙ to)
      (subst (λ (x : List ℕ). Contains x f) passed_same (subst (λ (x : SizeHold). Contains x.passed f) now has)) below named))
      (λ o. let now : size_hold u g ≡ size_hold v g = ap (λ (x : View). size_hold x g) (sym t.1) ∙ (resized k fork s v).else g o in
      h.passed i g n f v there (ap (λ (x : SizeHold). x.cut_to) (sym now) ∙ to) (subst (λ (x : SizeHold). Contains x.passed f) now has) below named))
      (λ (t : (j ≢ i) × (get_elem? s.views j ≡ some u)). h.passed j g n f u t.1 to has below named) (at_set s.views i j (view_sized k fork s v) u here)

  quiet_after : (k : SizeKind) → (size_after k (s.size fork)).exclusive ≡ (s.size fork).exclusive → s.resizes ≡ false → (g : ℕ) → (put s.size fork (size_after k (s.size fork)) g).exclusive ≡ false
  quiet_after k same e g = dite (ℕ_discrete g fork) (λ is. ap (λ (x : SizeWord). x.exclusive) ((puts s.size fork (size_after k (s.size fork)) g).same is) ∙ same ∙ h.quiet e fork) (λ o. ap (λ (x : SizeWord). x.exclusive) ((puts s.size fork (size_after k (s.size fork)) g).other o) ∙ h.quiet e g)

  -- The fork is cut to n blocks
  module _ (p : PinInvariant s) (n end : ℕ) (a : CanEnterCut n s v fork) where
    abbrev cut_state : State
    cut_state = state_sized (enter_cut n end) s i fork v

    free : (f : ℕ) → f < s.frames → (s.frame f).tag ≢ no_tag → tag_fork (s.frame f).tag ≡ fork → tag_block (s.frame f).tag < n
    free f below named of = below_cut n (s.frame f).tag of (same_passes n f a.cut_to (a.passed f below) below named)

    -- no view notes a block of the fork
    unnoted : (j f : ℕ) (u : View) → get_elem? s.views j ≡ some u → f < s.frames → (link u f).noted ≡ true → tag_fork (s.frame f).tag ≢ fork
    unnoted j f u here below noted of = let at = (h.noted i f v there below (mine j f u a.may.right here below noted of)).at in let was = unmade_finds a.may in let less = cell.shorter n a.cut_to in let x = free f below ((p.grid.cells j u f here below).noted noted).named of in
        let is : tag_block (s.frame f).tag ≡ (s.size fork).logged = at ∙ ap (λ (z : ℕ). (s.size z).logged) of in absurd (omega (arith, was.0))

    cut_block : (f : ℕ) → f < s.frames → (s.frame f).tag ≢ no_tag → is_block s (s.frame f).tag ≡ true → is_block cut_state (s.frame f).tag ≡ true
    cut_block f below named e = let tag = (s.frame f).tag in dite (ℕ_discrete (tag_fork tag) fork)
        (λ same. ap (λ (z : ℕ). nat_lt (tag_block tag) z) (here_logged (enter_cut n end) (tag_fork tag) same) ∙ lt-ltb (tag_block tag) n (free f below named same))
        (λ o. ap (λ (z : ℕ). nat_lt (tag_block tag) z) (other_logged (enter_cut n end) (tag_fork tag) o) ∙ e)

    cut_noted : (x : View) (f : ℕ) → tag_fork (s.frame f).tag ≢ fork → MayResize cut_state x (tag_fork (s.frame f).tag) → tag_block (s.frame f).tag ≡ (s.size (tag_fork (s.frame f).tag)).logged → IsAtSize cut_state x (s.frame f).tag
    cut_noted x f o may at = record { may = may; at = at ∙ sym (other_logged (enter_cut n end) (tag_fork (s.frame f).tag) o) }

    -- a pin that was seen inside has a frame with a tag
    inside_named : (j f : ℕ) (u : View) → get_elem? (set s.views i (view_sized (enter_cut n end) fork s v)) j ≡ some u → f < s.frames → (link u f).inside ≡ true → (s.frame f).tag ≢ no_tag
    inside_named j f u here below e = ⊎_elim
        (λ (t : (j ≡ i) × (view_sized (enter_cut n end) fork s v ≡ u)). named_by (s.frame f) (link v f) (p.grid.cells i v f there below) (ap (λ (x : View). (link x f).inside) t.1 ∙ e))
        (λ (t : (j ≢ i) × (get_elem? s.views j ≡ some u)). named_by (s.frame f) (link u f) (p.grid.cells j u f t.1 below) e) (at_set s.views i j (view_sized (enter_cut n end) fork s v) u here)

    pub cut_law : SizesLaw cut_state
    cut_law = let w : View = view_sized (enter_cut n end) fork s v in record {
      words = words_after (enter_cut n end) a;
      blocks = λ f below named. ⊎_elim (λ (e : is_block s (s.frame f).tag ≡ true). inl (cut_block f below named e)) (λ (e : IsNoted s f). inr (noted_stays s.views i v w f there refl e)) (h.blocks f below named);
      noted = λ j f u here below e. ⊎_elim
          (λ (t : (j ≡ i) × (w ≡ u)). let was : (link v f).noted ≡ true = ap (λ (x : View). (link x f).noted) t.1 ∙ e in let o = unnoted i f v there below was in let at = h.noted i f v there below was in
          subst (λ (x : View). IsAtSize cut_state x (s.frame f).tag) t.1 (cut_noted w f o (other_may (enter_cut n end) (tag_fork (s.frame f).tag) o at.may) at.at))
          (λ (t : (j ≢ i) × (get_elem? s.views j ≡ some u)). let at = h.noted j f u t.1 below e in cut_noted u f (unnoted j f u t.1 below e) (record { right = at.may.right; unmade = at.may.unmade }) at.at)
          (at_set s.views i j w u here);
      insides = λ j f u here below e. cut_block f below (inside_named j f u here below e) (⊎_elim (λ (t : (j ≡ i) × (w ≡ u)). h.insides i f v there below (ap (λ (x : View). (link x f).inside) t.1 ∙ e)) (λ (t : (j ≢ i) × (get_elem? s.views j ≡ some u)). h.insides j f u t.1 below e) (at_set s.views i j w u here));
      passed = passed_after (enter_cut n end) refl refl;
      quiet = quiet_after (enter_cut n end) refl;
    }

  -- The fork grows by the block of the frame g
  module _ (p : PinInvariant s) (live : v.emptied ≡ false) (g end : ℕ) (a : CanEnterExtension g s v fork) where
    abbrev grown : SizeKind
    grown = enter_extension g end

    abbrev grown_state : State
    grown_state = state_sized grown s i fork v

    abbrev grown_view : View
    grown_view = view_sized grown fork s v

    new_link : link grown_view g ≡ extended_link (link v g)
    new_link = get_or-set_same v.links g (extended_link (link v g)) idle (subst (λ (n : ℕ). g < n) (sym (p.views.wide i v there live).0) a.inside)

    grown_noted : (f : ℕ) → f ≢ g → (link grown_view f).noted ≡ (link v f).noted
    grown_noted f o = ap (λ (x : Link). x.noted) (get_or-set_other v.links g f (extended_link (link v g)) idle o)

    at_size : tag_block (s.frame g).tag ≡ (s.size fork).logged
    at_size = (h.noted i g v there a.inside a.noted).at ∙ ap (λ (z : ℕ). (s.size z).logged) a.of

    pub new_block : is_block grown_state (s.frame g).tag ≡ true
    new_block = let tag = (s.frame g).tag in ap (λ (z : ℕ). nat_lt (tag_block tag) z) (here_logged grown (tag_fork tag) a.of) ∙ lt-ltb (tag_block tag) ((s.size fork).logged + 1) (omega (arith, at_size))

    pub grown_block : (tag : ℕ) → is_block s tag ≡ true → is_block grown_state tag ≡ true
    grown_block tag e = dite (ℕ_discrete (tag_fork tag) fork)
        (λ same. ap (λ (z : ℕ). nat_lt (tag_block tag) z) (here_logged grown (tag_fork tag) same)
        ∙ lt-ltb (tag_block tag) ((s.size fork).logged + 1) (let x = ltb-true (tag_block tag) (s.size (tag_fork tag)).logged e in let y = ap (λ (z : ℕ). (s.size z).logged) same in omega arith))
        (λ o. ap (λ (z : ℕ). nat_lt (tag_block tag) z) (other_logged grown (tag_fork tag) o) ∙ e)

    -- a block of the fork that a view notes is the new one
    only : (j f : ℕ) (u : View) → get_elem? s.views j ≡ some u → f < s.frames → (link u f).noted ≡ true → f ≢ g → tag_fork (s.frame f).tag ≢ fork
    only j f u here below noted o of = let mine_too = mine j f u a.may.right here below noted of in let at = (h.noted i f v there below mine_too).at ∙ ap (λ (z : ℕ). (s.size z).logged) of in
        let named = ((p.grid.cells i v f there below).noted mine_too).named in
        o (p.apart f g below a.inside named (tag_is (s.frame f).tag (s.frame g).tag (of ∙ sym a.of) (at ∙ sym at_size)))

    grown_at : (x : View) (f : ℕ) → tag_fork (s.frame f).tag ≢ fork → MayResize grown_state x (tag_fork (s.frame f).tag) → tag_block (s.frame f).tag ≡ (s.size (tag_fork (s.frame f).tag)).logged → IsAtSize grown_state x (s.frame f).tag
    grown_at x f o may at = record { may = may; at = at ∙ sym (other_logged grown (tag_fork (s.frame f).tag) o) }

    unnoted_now : (f : ℕ) → (link grown_view f).noted ≡ true → f ≢ g
    unnoted_now f e same = let x = sym e ∙ ap (λ (z : ℕ). (link grown_view z).noted) same ∙ ap (λ (l : Link). l.noted) new_link in absurd (cc)

    pub grown_law : SizesLaw grown_state
    grown_law = record {
      words = words_after grown a;
      blocks = λ f below named. dite (ℕ_discrete f g)
          (λ same. inl (subst (λ (z : ℕ). is_block grown_state (s.frame z).tag ≡ true) (sym same) new_block))
          (λ o. ⊎_elim (λ (e : is_block s (s.frame f).tag ≡ true). inl (grown_block (s.frame f).tag e)) (λ (e : IsNoted s f). inr (noted_stays s.views i v grown_view f there (grown_noted f o) e)) (h.blocks f below named));
      noted = λ j f u here below e. ⊎_elim
          (λ (t : (j ≡ i) × (grown_view ≡ u)). let now : (link grown_view f).noted ≡ true = ap (λ (x : View). (link x f).noted) t.1 ∙ e in let o = unnoted_now f now in
          let was : (link v f).noted ≡ true = sym (grown_noted f o) ∙ now in let at = h.noted i f v there below was in let other = only i f v there below was o in
          subst (λ (x : View). IsAtSize grown_state x (s.frame f).tag) t.1 (grown_at grown_view f other (other_may grown (tag_fork (s.frame f).tag) other at.may) at.at))
          (λ (t : (j ≢ i) × (get_elem? s.views j ≡ some u)). let at = h.noted j f u t.1 below e in
          grown_at u f (λ of. dite (ℕ_discrete f g)
          (λ same. let x = excludes_others j u t.0 t.1 a.may.right in let y = (subst (λ (z : ℕ). MayResize s u z) of at.may).right in rights_differ (sym x ∙ y))
          (λ o. only j f u t.1 below e o of)) (record { right = at.may.right; unmade = at.may.unmade }) at.at)
          (at_set s.views i j grown_view u here);
      insides = λ j f u here below e. dite (ℕ_discrete f g)
          (λ same. subst (λ (z : ℕ). is_block grown_state (s.frame z).tag ≡ true) (sym same) new_block)
          (λ o. grown_block (s.frame f).tag (⊎_elim
          (λ (t : (j ≡ i) × (grown_view ≡ u)). h.insides i f v there below (sym (ap (λ (x : Link). x.inside) (get_or-set_other v.links g f (extended_link (link v g)) idle o)) ∙ ap (λ (x : View). (link x f).inside) t.1 ∙ e))
          (λ (t : (j ≢ i) × (get_elem? s.views j ≡ some u)). h.insides j f u t.1 below e) (at_set s.views i j grown_view u here)));
      passed = passed_after grown refl refl;
      quiet = quiet_after grown refl;
    }

  pub size_keeps_law : (k : SizeKind) → PinInvariant s → v.emptied ≡ false → SizeAllowed k s v fork → SizesLaw (state_sized k s i fork v)
  size_keeps_law load_size p live a = plain_change load_size (λ g end e. absurd (cc)) a refl (λ f below e. h.insides i f v there below e)
      (λ f below noted of. let x = noted_may f below noted of in (x.right, x.unmade)) same_passes (λ e. h.quiet e fork)
  size_keeps_law share_size p live a = plain_change share_size (λ g end e. absurd (cc)) a refl (λ f below e. h.insides i f v there below e)
      (λ f below noted of. absurd (rights_differ (sym a.unheld ∙ (noted_may f below noted of).right))) (λ n f e. absurd (none-some n e)) (λ e. h.quiet e fork)
  size_keeps_law exclude_size p live a = plain_change exclude_size (λ g end e. absurd (cc)) a refl (λ f below e. h.insides i f v there below e)
      (λ f below noted of. absurd (rights_differ (sym a.free.unheld ∙ (noted_may f below noted of).right))) (λ n f e. absurd (none-some n e)) (λ e. absurd (false≢true (sym e ∙ a.allowed)))
  size_keeps_law (unshare_size seen) p live a = plain_change (unshare_size seen) (λ g end e. absurd (cc)) a refl (sees_block seen p live a)
      (λ f below noted of. absurd (shared_right (sym a.right ∙ (noted_may f below noted of).right))) (λ n f e. absurd (none-some n e)) (λ e. h.quiet e fork)
  size_keeps_law unexclude_size p live a = plain_change unexclude_size (λ g end e. absurd (cc)) a refl (λ f below e. h.insides i f v there below e)
      (λ f below noted of. absurd (a.unnoted f below noted of)) (λ n f e. absurd (none-some n e)) (λ e. refl)
  size_keeps_law (pass_frame f n) p live a = plain_change (pass_frame f n) (λ g end e. absurd (cc)) a refl (λ f below e. h.insides i f v there below e)
      (λ f below noted of. let x = noted_may f below noted of in (x.right, x.unmade)) (passes_frame f n a) (λ e. h.quiet e fork)
  size_keeps_law store_size p live a = plain_change store_size (λ g end e. absurd (cc)) a refl (λ f below e. h.insides i f v there below e)
      (λ f below noted of. let x = noted_may f below noted of in (x.right, x.unmade)) same_passes (λ e. h.quiet e fork)
  size_keeps_law (enter_extension g end) p live a = grown_law p live g end a
  size_keeps_law (enter_cut n end) p live a = cut_law p n end a
