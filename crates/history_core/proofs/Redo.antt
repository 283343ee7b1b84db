-- The redo position: each step keeps its law.
use Rattle.std.proofs.Common.{◌≡◌, ◌≢◌, ◌⊎◌, inl, inr, ℕ, zero, suc, ◌+◌, ◌<◌, ◌≤◌, Bool, true, List, [], ◌∷◌, ◌++◌, length, append-nil, Option, Some, None, set, sym, refl, ap, ◌∙◌, subst, ⊎_elim, arith, lit<}
use Rattle.std.specs.Prelude.{max}
use Rattle.std.proofs.lemmas.Option.{same_Some}
use mathlib.Core.Logic.{dite}
use mathlib.Core.Option.{some, some-ne-none, some-injective}
use native.Mathlib.Decide.{ℕ_discrete}
use lib.ListN.{get_elem?}
use Rattle.page_layout.specs.Fields.{lsn_of}
use Rattle.pin_core.specs.declared.view.Call.{Call}
use Rattle.pin_core.specs.declared.view.Call.TheVariants.{Read, Write, Size, Sized}
use Rattle.pin_core.specs.declared.view.Content.TheVariants.{Exclusive}
use Rattle.pin_core.specs.declared.view.ImageTest.{ImageTest}
use Rattle.pin_core.specs.declared.view.LoadedWord.TheVariants as seen
use Rattle.pin_core.specs.declared.view.LogHold.{LogHold}
use Rattle.pin_core.specs.declared.view.View.{View}
use Rattle.pin_core.specs.State.{Config, Page, no_tag, link, hold, first_view, new_view, emptied_view, joined_view, size_hold}
use Rattle.pin_core.specs.State as pins
use Rattle.pin_core.specs.Kinds as pin_kinds
use Rattle.pin_core.specs.Turns.{view_turned}
use Rattle.pin_core.specs.Sizes.{view_sized}
use Rattle.pin_core.specs.Steps as pin_steps
use Rattle.page_core.specs.Steps as page_steps
use Rattle.page_core.specs.Kinds.{begin_write, make_entry}
use Rattle.history_core.specs.Log.{Entry, Log, Change, Span, image, ranges, resize, IsEntryOf, change_size, end_of, log_end, cell, tag_in}
use Rattle.history_core.specs.Lanes.{lane_back}
use Rattle.history_core.specs.Device.{LogKind, leave_log, view_logged, log_hold_after, Written, DeviceLaw, LogLink, LogTally, holders, log_weigh}
use Rattle.history_core.specs.State.{Device, State, Store, opening}
use Rattle.history_core.specs.Invariant.{HistoryInvariant, written_of}
use Rattle.history_core.specs.Sound.{SoundLaw}
use Rattle.history_core.specs.Redo.{IsRaised, HasBeenRedo, StartsAtBase, FollowsImage, CanFollow, IsHighestRaised, ChosenBy, RedoLaw}
use Rattle.history_core.specs.Words.{WordKind, load_redo, raise_redo, WordAllowed}
use Rattle.history_core.specs.Steps.{Event, new_entry, stepped, looked, pool_noting, paged, laned, has_read, has_written, logged_as, test_of, IsPastRedo, MaySkipImage, MakesPage, CanEnter, Step, pools, lanes, writes, notes, logs, enters, reads, words, after_word, state_after_word, reads_size, has_seen_size}
use Rattle.history_core.proofs.Calls.{at_both, index_below}
use Rattle.history_core.proofs.Logs.{cut_all, ends_below, some_size, cell_absent, last_upto, IsLastUpto, cell_upto}
use Rattle.history_core.proofs.Sound.{locked_sound}
use Rattle.history_core.proofs.Stepping.{copied_cell, plain, exclusive_not_unlocked}
use Rattle.history_core.proofs.Unentered.{at_right}
use Rattle.grid.specs.Shape.{total}
use Rattle.grid.proofs.Lists.{at_set, at_end, at_last, at_longer, at_only, set_here, set_else}
use Rattle.grid.proofs.Sums.{terms_le}

-- a position is among these
abbrev IsAmong : List ℕ → ℕ → Type 0
IsAmong l r = (k : ℕ) × (get_elem? l k ≡ some r)

none_among : (r : ℕ) → IsAmong [] r → ⊥
none_among r (k, at) = some-ne-none r (sym at)

one_among : (a r : ℕ) → IsAmong (a ∷ []) r → r ≡ a
one_among a r (zero, at) = sym (some-injective a r at)
one_among a r (suc k, at) = absurd (some-ne-none r (sym at))

-- where a view has raised the redo position to these positions more, it stood where it had stood before, and there
raised_kept : (views : List View) (i : ℕ) (v w : View) (more : List ℕ) → get_elem? views i ≡ some v → w.redo_raised ≡ v.redo_raised ++ more → (r : ℕ) → IsRaised views r → IsRaised (set views i w) r
raised_kept views i v w more there is r (j, k, u, at, among) = dite (ℕ_discrete j i)
    (λ (e : j ≡ i). let same : v ≡ u = some-injective v u (sym there ∙ subst (λ (z : ℕ). get_elem? views z ≡ some u) e at) in
    (i, k, w, set_here views i v w there, ap (λ (l : List ℕ). get_elem? l k) is ∙ at_longer v.redo_raised more k r (subst (λ (z : View). get_elem? z.redo_raised k ≡ some r) (sym same) among)))
    (λ (o : j ≢ i). (j, k, u, set_else views i j w o ∙ at, among))

raised_was : (views : List View) (i : ℕ) (v w : View) (more : List ℕ) → get_elem? views i ≡ some v → w.redo_raised ≡ v.redo_raised ++ more → (r : ℕ) → IsRaised (set views i w) r → IsRaised views r ⊎ IsAmong more r
raised_was views i v w more there is r (j, k, u, at, among) = ⊎_elim
    (λ (y : (j ≡ i) × (w ≡ u)). by_side (at_both v.redo_raised more k r (ap (λ (l : List ℕ). get_elem? l k) (sym is) ∙ subst (λ (z : View). get_elem? z.redo_raised k ≡ some r) (sym y.1) among)))
    (λ (y : (j ≢ i) × (get_elem? views j ≡ some u)). inl (j, k, u, y.1, among))
    (at_set views i j w u at)
  where
    by_side : (get_elem? v.redo_raised k ≡ some r) ⊎ ((n : ℕ) × (get_elem? more n ≡ some r)) → IsRaised views r ⊎ IsAmong more r
    by_side (inl x) = inl (i, k, v, there, x)
    by_side (inr x) = inr x

-- What a step leaves of the views that the law speaks of: where the redo position stood, and calls that it had or that no test chose
record SameRaised (views views' : List View) : Type 0 where
  kept : (r : ℕ) → IsRaised views r → IsRaised views' r
  was : (r : ℕ) → IsRaised views' r → IsRaised views r
  calls : (i k : ℕ) (v : View) (c : Call) → get_elem? views' i ≡ some v → get_elem? v.calls k ≡ some c → ((j n : ℕ) × (u : View) × (get_elem? views j ≡ some u) × (get_elem? u.calls n ≡ some c)) ⊎ ((z : State) → ChosenBy z c)

-- the largest position to which views raised it, where one view has raised it to these more
pub highest_more : (base redo top : ℕ) (views : List View) → IsHighestRaised base redo views → (i : ℕ) (v w : View) (more : List ℕ) → get_elem? views i ≡ some v → w.redo_raised ≡ v.redo_raised ++ more → redo ≤ top → ((k r : ℕ) → get_elem? more k ≡ some r → r ≤ top) → (top ≡ redo) ⊎ ((k : ℕ) × (get_elem? more k ≡ some top)) → IsHighestRaised base top (set views i w)
highest_more base redo top views m i v w more there is up each from = record {
  from = let a = m.from in omega arith;
  above = λ r x. ⊎_elim (λ (y : IsRaised views r). let a = m.above r y in omega arith) (λ (y : IsAmong more r). each y.0 r y.1) (raised_was views i v w more there is r x);
  reached = ⊎_elim
      (λ (e : top ≡ redo). ⊎_elim (λ (z : redo ≡ base). inl (e ∙ z)) (λ (z : IsRaised views redo). inr (raised_kept views i v w more there is top (subst (IsRaised views) (sym e) z))) m.reached)
      (λ (x : IsAmong more top). let y = at_right v.redo_raised more x.0 top x.1 in inr (i, y.0, w, set_here views i v w there, ap (λ (l : List ℕ). get_elem? l y.0) is ∙ y.1))
      from;
}

-- only one position is the largest
pub highest_is : (base a b : ℕ) (views : List View) → IsHighestRaised base a views → IsHighestRaised base b views → a ≡ b
highest_is base a b views h k = let x = low a b h k in let y = low b a k h in omega arith
  where
    low : (c d : ℕ) → IsHighestRaised base c views → IsHighestRaised base d views → c ≤ d
    low c d p q = ⊎_elim (λ (e : c ≡ base). let z = q.from in omega arith) (λ (x : IsRaised views c). q.above c x) p.reached

-- what it leaves of the holds of the log's latch
abbrev SameHolds : List View → List View → Type 0
SameHolds views views' = (i : ℕ) (v : View) (r : ℕ) → get_elem? views' i ≡ some v → v.log.redo ≡ Some r → (j : ℕ) × (u : View) × (get_elem? views j ≡ some u) × (u.log.redo ≡ Some r)

-- a call of a view is one that it had, or no test chose it
abbrev OldCalls : View → View → Type 0
OldCalls v w = (k : ℕ) (c : Call) → get_elem? w.calls k ≡ some c → (get_elem? v.calls k ≡ some c) ⊎ ((z : State) → ChosenBy z c)

same_calls : (v w : View) → w.calls ≡ v.calls → OldCalls v w
same_calls v w same k c at = inl (ap (λ (l : List Call). get_elem? l k) (sym same) ∙ at)

-- one view changes
one_raised : (views : List View) (i : ℕ) (v w : View) → get_elem? views i ≡ some v → w.redo_raised ≡ v.redo_raised → OldCalls v w → SameRaised views (set views i w)
one_raised views i v w there same old = record {
  kept = raised_kept views i v w [] there all;
  was = λ r x. ⊎_elim (λ (y : IsRaised views r). y) (λ (y : IsAmong [] r). absurd (none_among r y)) (raised_was views i v w [] there all r x);
  calls = λ j k u c at is. ⊎_elim
      (λ (y : (j ≡ i) × (w ≡ u)). by_side k c (old k c (subst (λ (z : View). get_elem? z.calls k ≡ some c) (sym y.1) is)))
      (λ (y : (j ≢ i) × (get_elem? views j ≡ some u)). inl (j, k, u, y.1, is))
      (at_set views i j w u at);
}
  where
    all : w.redo_raised ≡ v.redo_raised ++ []
    all = same ∙ sym (append-nil v.redo_raised)

    by_side : (k : ℕ) (c : Call) → (get_elem? v.calls k ≡ some c) ⊎ ((z : State) → ChosenBy z c) → ((j n : ℕ) × (u : View) × (get_elem? views j ≡ some u) × (get_elem? u.calls n ≡ some c)) ⊎ ((z : State) → ChosenBy z c)
    by_side k c (inl x) = inl (i, k, v, there, x)
    by_side k c (inr x) = inr x

one_holds : (views : List View) (i : ℕ) (v w : View) → get_elem? views i ≡ some v → ((r : ℕ) → w.log.redo ≡ Some r → v.log.redo ≡ Some r) → SameHolds views (set views i w)
one_holds views i v w there less j u r at is = ⊎_elim
    (λ (y : (j ≡ i) × (w ≡ u)). (i, v, there, less r (ap (λ (x : View). x.log.redo) y.1 ∙ is)))
    (λ (y : (j ≢ i) × (get_elem? views j ≡ some u)). (j, u, y.1, is))
    (at_set views i j w u at)

-- a view starts, with nothing
more_raised : (views : List View) (b : View) → b.redo_raised ≡ [] → b.calls ≡ [] → SameRaised views (views ++ b ∷ [])
more_raised views b none calls = record {
  kept = λ r x. (x.0, x.1, x.2, at_longer views (b ∷ []) x.0 x.2 x.3, x.4);
  was = λ r x. ⊎_elim (λ (y : get_elem? views x.0 ≡ some x.2). (x.0, x.1, x.2, y, x.4))
      (λ (y : (b ≡ x.2) × (x.0 ≡ length views)). absurd (none_among r (x.1, ap (λ (l : List ℕ). get_elem? l x.1) (sym none ∙ ap (λ (z : View). z.redo_raised) y.0) ∙ x.4)))
      (at_end views b x.2 x.0 x.3);
  calls = λ i k v c at is. ⊎_elim (λ (y : get_elem? views i ≡ some v). inl (i, k, v, y, is))
      (λ (y : (b ≡ v) × (i ≡ length views)). absurd (some-ne-none c (sym (ap (λ (l : List Call). get_elem? l k) (sym calls ∙ ap (λ (z : View). z.calls) y.0) ∙ is))))
      (at_end views b v i at);
}

more_holds : (views : List View) (b : View) → b.log.redo ≡ None → SameHolds views (views ++ b ∷ [])
more_holds views b none i v r at is = ⊎_elim (λ (y : get_elem? views i ≡ some v). (i, v, y, is))
    (λ (y : (b ≡ v) × (i ≡ length views)). absurd (let z = sym none ∙ ap (λ (x : View). x.log.redo) y.0 ∙ is in cc)) (at_end views b v i at)

both_raised : (a b c : List View) → SameRaised a b → SameRaised b c → SameRaised a c
both_raised a b c x y = record {
  kept = λ r z. y.kept r (x.kept r z);
  was = λ r z. x.was r (y.was r z);
  calls = λ i k v d at is. by_side d (y.calls i k v d at is);
}
  where
    by_side : (d : Call) → ((j n : ℕ) × (u : View) × (get_elem? b j ≡ some u) × (get_elem? u.calls n ≡ some d)) ⊎ ((z : State) → ChosenBy z d) → ((j n : ℕ) × (u : View) × (get_elem? a j ≡ some u) × (get_elem? u.calls n ≡ some d)) ⊎ ((z : State) → ChosenBy z d)
    by_side d (inl z) = x.calls z.0 z.1 z.2 d z.3 z.4
    by_side d (inr z) = inr z

both_holds : (a b c : List View) → SameHolds a b → SameHolds b c → SameHolds a c
both_holds a b c x y i v r at is = let z = y i v r at is in x z.0 z.1 r z.2 z.3

-- the first view takes in another one
module _ (views : List View) (j : ℕ) (v u : View) (there : get_elem? views 0 ≡ some v) (other : j ≢ 0) (here : get_elem? views j ≡ some u) where
  abbrev joined : List View
  joined = set (set views 0 (joined_view v u)) j emptied_view

  first_now : get_elem? joined 0 ≡ some (joined_view v u)
  first_now = set_else (set views 0 (joined_view v u)) j 0 emptied_view (λ e. other (sym e)) ∙ set_here views 0 v (joined_view v u) there

  -- a view that is there then
  was_there : (m : ℕ) (x : View) → get_elem? joined m ≡ some x → (emptied_view ≡ x) ⊎ (((m ≡ 0) × (joined_view v u ≡ x)) ⊎ (get_elem? views m ≡ some x))
  was_there m x at = ⊎_elim (λ (y : (m ≡ j) × (emptied_view ≡ x)). inl y.1)
      (λ (y : (m ≢ j) × (get_elem? (set views 0 (joined_view v u)) m ≡ some x)). inr (⊎_elim (λ (z : (m ≡ 0) × (joined_view v u ≡ x)). inl z) (λ (z : (m ≢ 0) × (get_elem? views m ≡ some x)). inr z.1) (at_set views 0 m (joined_view v u) x y.1)))
      (at_set (set views 0 (joined_view v u)) j m emptied_view x at)

  joins_kept : (r : ℕ) → IsRaised views r → IsRaised joined r
  joins_kept r (m, k, x, at, among) = dite (ℕ_discrete m j)
      (λ (e : m ≡ j). let same : u ≡ x = some-injective u x (sym here ∙ subst (λ (z : ℕ). get_elem? views z ≡ some x) e at) in let q = at_right v.redo_raised u.redo_raised k r (subst (λ (z : View). get_elem? z.redo_raised k ≡ some r) (sym same) among) in (0, q.0, joined_view v u, first_now, q.1))
      (λ (o : m ≢ j). dite (ℕ_discrete m 0)
      (λ (e : m ≡ 0). let same : v ≡ x = some-injective v x (sym there ∙ subst (λ (z : ℕ). get_elem? views z ≡ some x) e at) in (0, k, joined_view v u, first_now, at_longer v.redo_raised u.redo_raised k r (subst (λ (z : View). get_elem? z.redo_raised k ≡ some r) (sym same) among)))
      (λ (z : m ≢ 0). (m, k, x, set_else (set views 0 (joined_view v u)) j m emptied_view o ∙ (set_else views 0 m (joined_view v u) z ∙ at), among)))

  joins_was : (r : ℕ) → IsRaised joined r → IsRaised views r
  joins_was r (m, k, x, at, among) = by_view (was_there m x at)
    where
      by_view : (emptied_view ≡ x) ⊎ (((m ≡ 0) × (joined_view v u ≡ x)) ⊎ (get_elem? views m ≡ some x)) → IsRaised views r
      by_view (inl e) = absurd (none_among r (k, subst (λ (z : View). get_elem? z.redo_raised k ≡ some r) (sym e) among))
      by_view (inr (inl (z, e))) = ⊎_elim (λ (y : get_elem? v.redo_raised k ≡ some r). (0, k, v, there, y)) (λ (y : (n : ℕ) × (get_elem? u.redo_raised n ≡ some r)). (j, y.0, u, here, y.1))
          (at_both v.redo_raised u.redo_raised k r (subst (λ (z : View). get_elem? z.redo_raised k ≡ some r) (sym e) among))
      by_view (inr (inr y)) = (m, k, x, y, among)

  joins_raised : SameRaised views joined
  joins_raised = record { kept = joins_kept; was = joins_was; calls = λ m k x c at is. by_view m k x c (was_there m x at) is }
    where
      by_view : (m k : ℕ) (x : View) (c : Call) → (emptied_view ≡ x) ⊎ (((m ≡ 0) × (joined_view v u ≡ x)) ⊎ (get_elem? views m ≡ some x)) → get_elem? x.calls k ≡ some c → ((i n : ℕ) × (y : View) × (get_elem? views i ≡ some y) × (get_elem? y.calls n ≡ some c)) ⊎ ((z : State) → ChosenBy z c)
      by_view m k x c (inl e) is = absurd (some-ne-none c (sym (subst (λ (z : View). get_elem? z.calls k ≡ some c) (sym e) is)))
      by_view m k x c (inr (inl (z, e))) is = ⊎_elim (λ (y : get_elem? v.calls k ≡ some c). inl (0, k, v, there, y)) (λ (y : (n : ℕ) × (get_elem? u.calls n ≡ some c)). inl (j, y.0, u, here, y.1))
          (at_both v.calls u.calls k c (subst (λ (z : View). get_elem? z.calls k ≡ some c) (sym e) is))
      by_view m k x c (inr (inr y)) is = inl (m, k, x, y, is)

  joins_holds : SameHolds views joined
  joins_holds m x r at is = by_view (was_there m x at)
    where
      by_view : (emptied_view ≡ x) ⊎ (((m ≡ 0) × (joined_view v u ≡ x)) ⊎ (get_elem? views m ≡ some x)) → (i : ℕ) × (y : View) × (get_elem? views i ≡ some y) × (y.log.redo ≡ Some r)
      by_view (inl e) = absurd (let z = subst (λ (y : View). y.log.redo ≡ Some r) (sym e) is in cc)
      by_view (inr (inl (z, e))) = (0, v, there, subst (λ (y : View). y.log.redo ≡ Some r) (sym e) is)
      by_view (inr (inr y)) = (m, x, y, is)

pools_raised : (s : State) → {e : pin_steps.Event} {core' : pins.State} → pin_steps.Step e s.pool.core core' → SameRaised s.pool.core.views core'.views × SameHolds s.pool.core.views core'.views
pools_raised s (pin_steps.touches i f k v there live inside a around) = let w : View = pin_kinds.view_after k s.pool.core.partition_of f (s.pool.core.frame f) (link v f) v in (one_raised s.pool.core.views i v w there refl (same_calls v w refl), one_holds s.pool.core.views i v w there (λ r x. x))
pools_raised s (pin_steps.turns i p k v there live below a) = let w : View = view_turned k p (hold v p) v in (one_raised s.pool.core.views i v w there refl (same_calls v w refl), one_holds s.pool.core.views i v w there (λ r x. x))
pools_raised s (pin_steps.sized i fork k v there live a) = let w : View = view_sized k fork s.pool.core v in (one_raised s.pool.core.views i v w there refl (same_calls v w refl), one_holds s.pool.core.views i v w there (λ r x. x))
pools_raised s (pin_steps.splits v there room) = let w : View = record v { next = v.next + 1 } in let b : View = new_view v.next s.pool.core.base (length v.links) (length v.partitions) (length v.lanes) in let vs : List View = set s.pool.core.views 0 w in
    (both_raised s.pool.core.views vs (vs ++ b ∷ []) (one_raised s.pool.core.views 0 v w there refl (same_calls v w refl)) (more_raised vs b refl refl), both_holds s.pool.core.views vs (vs ++ b ∷ []) (one_holds s.pool.core.views 0 v w there (λ r x. x)) (more_holds vs b refl))
pools_raised s (pin_steps.joins j v u there other here live free) = (joins_raised s.pool.core.views j v u there other here, joins_holds s.pool.core.views j v u there other here)

-- The law over a step that leaves the log, its end and the redo position
record SameRedo (s t : State) : Type 0 where
  log : t.log ≡ s.log
  end : t.end ≡ s.end
  redo : t.redo ≡ s.redo
  based : StartsAtBase t → StartsAtBase s
  knows : (tag : ℕ) → t.known tag ≡ true → s.known tag ≡ true

been_before : (s t : State) → t.log.base ≡ s.log.base → ((r : ℕ) → IsRaised t.pool.core.views r → IsRaised s.pool.core.views r) → (r : ℕ) → HasBeenRedo t r → HasBeenRedo s r
been_before s t base was r (inl e) = inl (e ∙ base)
been_before s t base was r (inr x) = inr (was r x)

been_still : (s t : State) → t.log.base ≡ s.log.base → ((r : ℕ) → IsRaised s.pool.core.views r → IsRaised t.pool.core.views r) → (r : ℕ) → HasBeenRedo s r → HasBeenRedo t r
been_still s t base kept r (inl e) = inl (e ∙ sym base)
been_still s t base kept r (inr x) = inr (kept r x)

chosen_still : (s t : State) → ((r : ℕ) → HasBeenRedo s r → HasBeenRedo t r) → (c : Call) → ChosenBy s c → ChosenBy t c
chosen_still s t still (Read backend tag page place) x = tt
chosen_still s t still (Size backend fork blocks place) x = tt
chosen_still s t still (Sized backend fork blocks place) x = tt
chosen_still s t still (Write backend tag page place logged) x = λ test is. let y = x test is in (still test.redo y.0, y.1)

module _ (s t : State) (x : SameRedo s t) (y : SameRaised s.pool.core.views t.pool.core.views) (m : RedoLaw s) where
  law_same : ((i : ℕ) (v : View) (r : ℕ) → get_elem? t.pool.core.views i ≡ some v → v.log.redo ≡ Some r → r ≡ t.redo) → RedoLaw t
  law_same loaded = record {
    loaded = loaded;
    within = let a = m.within in let b = x.end in let c = x.redo in omega arith;
    highest = record {
      from = let a = m.highest.from in let b = x.redo in let c = ap (λ (l : Log). l.base) x.log in omega arith;
      above = λ r z. let a = m.highest.above r (y.was r z) in let b = x.redo in omega arith;
      reached = ⊎_elim (λ (e : s.redo ≡ s.log.base). inl (x.redo ∙ e ∙ ap (λ (l : Log). l.base) (sym x.log))) (λ (z : IsRaised s.pool.core.views s.redo). inr (subst (IsRaised t.pool.core.views) (sym x.redo) (y.kept s.redo z))) m.highest.reached;
    };
    between = λ r been k e at. m.between r (before r been) k e (here k e at);
    follows = λ based tag r k e spans been at is known low. subst (λ (es : List Entry). FollowsImage es tag r k) (ap (λ (l : Log). l.entries) (sym x.log)) (m.follows (x.based based) tag r k e spans (before r been) (here k e at) is (x.knows tag known) low);
    chosen = λ i k v c at is. ⊎_elim
        (λ (z : (j n : ℕ) × (u : View) × (get_elem? s.pool.core.views j ≡ some u) × (get_elem? u.calls n ≡ some c)). chosen_still s t (been_still s t (ap (λ (l : Log). l.base) x.log) y.kept) c (m.chosen z.0 z.1 z.2 c z.3 z.4))
        (λ (z : (st : State) → ChosenBy st c). z t)
        (y.calls i k v c at is);
  }
    where
      before : (r : ℕ) → HasBeenRedo t r → HasBeenRedo s r
      before = been_before s t (ap (λ (l : Log). l.base) x.log) y.was

      here : (k : ℕ) (e : Entry) → get_elem? t.log.entries k ≡ some e → get_elem? s.log.entries k ≡ some e
      here k e at = ap (λ (l : Log). get_elem? l.entries k) (sym x.log) ∙ at

  -- where no view has loaded the redo position
  redo_same : SameHolds s.pool.core.views t.pool.core.views → RedoLaw t
  redo_same holds = law_same (λ i v r at is. let z = holds i v r at is in m.loaded z.0 z.1 r z.2 z.3 ∙ sym x.redo)

all_same : (s : State) → SameRedo s s
all_same s = record { log = refl; end = refl; redo = refl; based = λ b. b; knows = λ tag k. k }

-- where the redo position stood is at most where it stands
been_low : (s : State) → RedoLaw s → (r : ℕ) → HasBeenRedo s r → r ≤ s.redo
been_low s m r (inl e) = let x = m.highest.from in omega arith
been_low s m r (inr x) = m.highest.above r x

-- Before ranges of a page that was past the redo position an entry has the whole page
record HasBehind (es : List Entry) (tag r : ℕ) : Type 0 where
  index : ℕ
  entry : Entry
  page : Page
  there : get_elem? es index ≡ some entry
  is : entry.change ≡ image tag page
  from : r ≤ entry.start

module _ (s : State) (h : HistoryInvariant s) (n : SoundLaw s) (m : RedoLaw s) (i f : ℕ) (v : View) (there : get_elem? s.pool.core.views i ≡ some v) (inside : f < s.pool.core.frames) (locked : (link v f).content ≡ Exclusive) (past : IsPastRedo v.log (link v f)) (based : StartsAtBase s) (known : s.known (s.pool.core.frame f).tag ≡ true) where
  abbrev tag_here : ℕ
  tag_here = (s.pool.core.frame f).tag

  named_here : tag_here ≢ no_tag
  named_here = (((h.pool.pages.cells i v f there inside).content (exclusive_not_unlocked locked)).2).named

  redo_is : past.redo ≡ s.redo
  redo_is = m.loaded i v past.redo there past.loaded

  is_cell : cell s.origin s.log.entries tag_here ≡ Some past.before
  is_cell = copied_cell s h i f v there inside named_here past.before past.copied known

  all_end : (k : ℕ) (e : Entry) → get_elem? s.log.entries k ≡ some e → end_of e ≤ log_end s.log
  all_end k e at = ends_below s.log (new_entry s 0 (image tag_here past.before)) h.log k e at

  -- the block's last entry makes the page
  image_behind : (r : ℕ) → HasBeenRedo s r → HasBehind s.log.entries tag_here r
  image_behind r been = ⊎_elim
      (λ (l : (k : ℕ) × (e : Entry) × IsLastUpto s.log.entries tag_here (log_end s.log) k e). let k = l.0 in let e = l.1 in let last = l.2 in let x = h.pages k tag_here e last.entered known in
      let same : x.shown ≡ past.before = same_Some x.shown past.before (sym x.is ∙ cell_upto s.origin s.log.entries tag_here (log_end s.log) k e (plain s h) last ∙ ap (λ (es : List Entry). cell s.origin es tag_here) (cut_all (log_end s.log) s.log.entries all_end) ∙ is_cell) in
      let ends : lsn_of past.before ≡ end_of e = ap lsn_of (sym same) ∙ x.valid.ends in
      ⊎_elim (λ (low : end_of e ≤ r). absurd (let a = past.past in let b = redo_is in let c = been_low s m r been in omega arith))
      (λ (high : r ≤ e.start). by_change r been k e e.change refl last.entered.there last.entered.of high)
      (m.between r been k e last.entered.there))
      (λ (none : (k : ℕ) (e : Entry) → IsEntryOf s.log.entries tag_here k e → log_end s.log < end_of e). absurd (first_page none))
      (last_upto s.log.entries tag_here (log_end s.log))
    where
      by_change : (r : ℕ) → HasBeenRedo s r → (k : ℕ) (e : Entry) (c : Change) → e.change ≡ c → get_elem? s.log.entries k ≡ some e → tag_in c ≡ Some tag_here → r ≤ e.start → HasBehind s.log.entries tag_here r
      by_change r been k e (image t p) is at of high = record { index = k; entry = e; page = p; there = at; is = is ∙ ap (λ (z : ℕ). image z p) (same_Some t tag_here of); from = high }
      by_change r been k e (ranges t spans) is at of high = let x = m.follows based tag_here r k e spans been at (is ∙ ap (λ (z : ℕ). ranges z spans) (same_Some t tag_here of)) known high in record { index = x.index; entry = x.entry; page = x.page; there = x.there; is = x.is; from = x.from }
      by_change r been k e (resize fork old new) is at of high = absurd (cc)

      -- a page without an entry is one of the start, whose position is at most the base
      first_page : ((k : ℕ) (e : Entry) → IsEntryOf s.log.entries tag_here k e → log_end s.log < end_of e) → ⊥
      first_page none = let absent = cell_absent s.origin s.log.entries tag_here (plain s h) (λ k e of. let a = none k e of in let b = all_end k e of.there in omega arith) in let origin_is = sym absent ∙ is_cell in
          let sound = locked_sound s h n.entries i f v there inside (exclusive_not_unlocked locked) past.before known origin_is in let low = based tag_here past.before known origin_is sound in
          let a = past.past in let b = redo_is in let c = m.highest.from in omega arith

-- redo can do the next entry
pub can_follow : (s : State) → HistoryInvariant s → SoundLaw s → RedoLaw s → (i f tag : ℕ) (p : Page) (c : Change) (end : ℕ) (v : View) → get_elem? s.pool.core.views i ≡ some v → f < s.pool.core.frames → (s.pool.core.frame f).tag ≡ tag → (link v f).content ≡ Exclusive → MakesPage c end tag p (link v f) → MaySkipImage c v.log (link v f) → CanFollow s c
can_follow s h n m i f tag p (image t q) end v there inside tagged locked makes past = tt
can_follow s h n m i f tag p (ranges t spans) end v there inside tagged locked makes past = λ based known. let same : t ≡ (s.pool.core.frame f).tag = makes.0 ∙ sym tagged in
    let x = image_behind s h n m i f v there inside locked past based (ap s.known (sym same) ∙ known) s.log.base (inl refl) in (x.index, x.entry, x.page, x.there, x.is ∙ ap (λ (z : ℕ). image z x.page) (sym same))
can_follow s h n m i f tag p (resize fork old new) end v there inside tagged locked makes past = absurd makes

-- An entry is made
module _ (s : State) (h : HistoryInvariant s) (n : SoundLaw s) (m : RedoLaw s) (i f : ℕ) (p : Page) (ch : Change) (v : View) (there : get_elem? s.pool.core.views i ≡ some v) (inside : f < s.pool.core.frames) (x : CanEnter s f p ch v) where
  abbrev entry : Entry
  entry = new_entry s v.number ch

  abbrev written : View
  written = has_written ch (link v f).copied (s.end + change_size ch) (s.pool.core.frame f).tag p (paged (make_entry p) s.pool f v)

  abbrev longer : List Entry
  longer = s.log.entries ++ entry ∷ []

  follow_longer : (tag r k : ℕ) → FollowsImage s.log.entries tag r k → FollowsImage longer tag r k
  follow_longer tag r k y = record { index = y.index; entry = y.entry; page = y.page; there = at_longer s.log.entries (entry ∷ []) y.index y.entry y.there; is = y.is; from = y.from; before = y.before }

  -- ranges follow an image, wherever the redo position stood
  new_follows : (c : Change) → MakesPage c (s.end + change_size c) (s.pool.core.frame f).tag p (link v f) → MaySkipImage c v.log (link v f) → StartsAtBase s → (tag r : ℕ) (spans : List Span) → HasBeenRedo s r → c ≡ ranges tag spans → s.known tag ≡ true → FollowsImage longer tag r (length s.log.entries)
  new_follows (image t q) makes past based tag r spans been is known = absurd (cc)
  new_follows (ranges t ss) makes past based tag r spans been is known = let same : t ≡ tag = same_Some t tag (ap tag_in is) in let here : (s.pool.core.frame f).tag ≡ tag = sym makes.0 ∙ same in
      let y = image_behind s h n m i f v there inside x.right.right past based (ap s.known here ∙ known) r been in
      record { index = y.index; entry = y.entry; page = y.page; there = at_longer s.log.entries (entry ∷ []) y.index y.entry y.there; is = y.is ∙ ap (λ (z : ℕ). image z y.page) here; from = y.from; before = index_below s.log.entries y.index y.entry y.there }
  new_follows (resize fork old new) makes past based tag r spans been is known = absurd (cc)

  -- a record was chosen by the redo position
  new_chosen : (t : State) → t.redo ≡ s.redo → ((r : ℕ) → HasBeenRedo s r → HasBeenRedo t r) → (test : ImageTest) → test_of v.log.redo (link v f).copied ≡ Some test → HasBeenRedo t test.redo × (test.redo + change_size ch ≤ s.end + change_size ch)
  new_chosen t same still test = by_test v.log.redo (link v f).copied refl
    where
      by_test : (o : Option ℕ) (q : Option Page) → v.log.redo ≡ o → test_of o q ≡ Some test → HasBeenRedo t test.redo × (test.redo + change_size ch ≤ s.end + change_size ch)
      by_test None q e is = absurd (cc)
      by_test (Some r) None e is = absurd (cc)
      by_test (Some r) (Some q) e is = let now : r ≡ s.redo = m.loaded i v r there e in let tested : r ≡ test.redo = ap (λ (y : ImageTest). y.redo) (same_Some (record { redo = r; before = lsn_of q }) test is) in
          (subst (HasBeenRedo t) (sym now ∙ tested) (still s.redo m.highest.reached), (let low = m.within in omega arith))

  enters_redo : (t : State) → t.log ≡ record s.log { entries = longer } → t.end ≡ s.end + change_size ch → t.redo ≡ s.redo → t.pool.core.views ≡ set s.pool.core.views i written → (StartsAtBase t → StartsAtBase s) → ((tag : ℕ) → t.known tag ≡ true → s.known tag ≡ true) → RedoLaw t
  enters_redo t log end redo views based knows = record {
    loaded = λ j u r at is. let z = one_holds s.pool.core.views i v written there (λ q y. y) j u r (at_views j u at) is in m.loaded z.0 z.1 r z.2 z.3 ∙ sym redo;
    within = let a = m.within in omega arith;
    highest = record {
      from = let a = m.highest.from in let b = ap (λ (l : Log). l.base) log in omega arith;
      above = λ r y. let a = m.highest.above r (was r y) in omega arith;
      reached = subst (HasBeenRedo t) (sym redo) (still s.redo m.highest.reached);
    };
    between = λ r been k e at. ⊎_elim
        (λ (y : get_elem? s.log.entries k ≡ some e). m.between r (before r been) k e y)
        (λ (y : (entry ≡ e) × (k ≡ length s.log.entries)). inr (let a = been_low s m r (before r been) in let b = m.within in let c : s.end ≡ e.start = ap (λ (z : Entry). z.start) y.0 in omega arith))
        (at_end s.log.entries entry e k (here k e at));
    follows = λ start tag r k e spans been at is known low. subst (λ (es : List Entry). FollowsImage es tag r k) (ap (λ (l : Log). l.entries) (sym log)) (⊎_elim
        (λ (y : get_elem? s.log.entries k ≡ some e). follow_longer tag r k (m.follows (based start) tag r k e spans (before r been) y is (knows tag known) low))
        (λ (y : (entry ≡ e) × (k ≡ length s.log.entries)). subst (FollowsImage longer tag r) (sym y.1) (new_follows ch x.makes x.past (based start) tag r spans (before r been) (ap (λ (z : Entry). z.change) y.0 ∙ is) (knows tag known)))
        (at_end s.log.entries entry e k (here k e at)));
    chosen = λ j k u c at is. ⊎_elim
        (λ (y : (j ≡ i) × (written ≡ u)). ⊎_elim
        (λ (z : get_elem? v.calls k ≡ some c). chosen_still s t still c (m.chosen i k v c there z))
        (λ (z : (call ≡ c) × (k ≡ length v.calls)). subst (ChosenBy t) z.0 (new_chosen t redo still))
        (at_end v.calls call c k (subst (λ (q : View). get_elem? q.calls k ≡ some c) (sym y.1) is)))
        (λ (y : (j ≢ i) × (get_elem? s.pool.core.views j ≡ some u)). chosen_still s t still c (m.chosen j k u c y.1 is))
        (at_set s.pool.core.views i j written u (at_views j u at));
  }
    where
      call : Call
      call = Write v.number (s.pool.core.frame f).tag p (s.end + change_size ch) (logged_as ch v.log.redo (link v f).copied)

      at_views : (j : ℕ) (u : View) → get_elem? t.pool.core.views j ≡ some u → get_elem? (set s.pool.core.views i written) j ≡ some u
      at_views j u at = ap (λ (l : List View). get_elem? l j) (sym views) ∙ at

      here : (k : ℕ) (e : Entry) → get_elem? t.log.entries k ≡ some e → get_elem? longer k ≡ some e
      here k e at = ap (λ (l : Log). get_elem? l.entries k) (sym log) ∙ at

      was : (r : ℕ) → IsRaised t.pool.core.views r → IsRaised s.pool.core.views r
      was r y = (one_raised s.pool.core.views i v (record written { calls = v.calls }) there refl (same_calls v (record written { calls = v.calls }) refl)).was r (raised_else (subst (λ (l : List View). IsRaised l r) views y))
        where
          raised_else : IsRaised (set s.pool.core.views i written) r → IsRaised (set s.pool.core.views i (record written { calls = v.calls })) r
          raised_else y = ⊎_elim (λ (z : IsRaised s.pool.core.views r). raised_kept s.pool.core.views i v (record written { calls = v.calls }) [] there (sym (append-nil v.redo_raised)) r z) (λ (z : IsAmong [] r). absurd (none_among r z)) (raised_was s.pool.core.views i v written [] there (sym (append-nil v.redo_raised)) r y)

      still : (r : ℕ) → HasBeenRedo s r → HasBeenRedo t r
      still = been_still s t (ap (λ (l : Log). l.base) log) (λ r y. subst (λ (l : List View). IsRaised l r) (sym views) (raised_kept s.pool.core.views i v written [] there (sym (append-nil v.redo_raised)) r y))

      before : (r : ℕ) → HasBeenRedo t r → HasBeenRedo s r
      before = been_before s t (ap (λ (l : Log). l.base) log) was

-- Only the holder of the log's latch has loaded the redo position
held_alone : (w : Written) (d : Device) (t : LogTally → ℕ) (a b : Bool) (x y : LogHold) → DeviceLaw w d t → LogLink w d a x → LogLink w d b y → ((k : LogTally) → log_weigh k x + log_weigh k y ≤ t k) → x.held ≡ true → y.redo ≡ None
held_alone w d t a b x y q c e le held = grind (arith, q, c, e, le holders, held)

module _ (s : State) (h : HistoryInvariant s) (m : RedoLaw s) (i : ℕ) (v : View) (there : get_elem? s.pool.core.views i ≡ some v) where
  others_none : v.log.held ≡ true → (j : ℕ) (u : View) → j ≢ i → get_elem? s.pool.core.views j ≡ some u → u.log.redo ≡ None
  others_none held j u other at = held_alone (written_of s) s.device (λ k. total (λ (x : View). log_weigh k x.log) s.pool.core.views) v.saw_down u.saw_down v.log u.log (h.device.columns 0 (lit< tt)) (h.device.cells i v 0 there (lit< tt)) (h.device.cells j u 0 at (lit< tt))
      (λ k. terms_le (λ (x : View). log_weigh k x.log) s.pool.core.views i j v u other there at) held

  -- it is loaded
  loads_redo : RedoLaw (state_after_word load_redo s i v)
  loads_redo = let w : View = after_word load_redo s v in law_same s (state_after_word load_redo s i v) (record { log = refl; end = refl; redo = refl; based = λ b. b; knows = λ tag k. k }) (one_raised s.pool.core.views i v w there refl (same_calls v w refl)) m (λ j u r at is. ⊎_elim
      (λ (y : (j ≡ i) × (w ≡ u)). same_Some r s.redo (sym is ∙ ap (λ (x : View). x.log.redo) (sym y.1)))
      (λ (y : (j ≢ i) × (get_elem? s.pool.core.views j ≡ some u)). m.loaded j u r y.1 is)
      (at_set s.pool.core.views i j w u at))

  -- and raised to the log's end
  raises_redo : v.log.end ≡ Some s.end → RedoLaw (state_after_word raise_redo s i v)
  raises_redo ended = record {
    loaded = λ j u r at is. ⊎_elim
        (λ (y : (j ≡ i) × (w ≡ u)). absurd (let z = ap (λ (x : View). x.log.redo) y.1 ∙ is in cc))
        (λ (y : (j ≢ i) × (get_elem? s.pool.core.views j ≡ some u)). absurd (let z = others_none held j u y.0 y.1 in cc))
        (at_set s.pool.core.views i j w u at);
    within = let a = m.within in omega arith;
    highest = record {
      from = let a = m.highest.from in omega arith;
      above = λ r y. ⊎_elim (λ (z : IsRaised s.pool.core.views r). let a = m.highest.above r z in omega arith) (λ (z : IsAmong (s.end ∷ []) r). let a = one_among s.end r z in omega arith) (was r y);
      reached = inr (i, length v.redo_raised, w, set_here s.pool.core.views i v w there, at_last v.redo_raised s.end ∙ ap (λ (y : ℕ). some y) now);
    };
    between = λ r been k e at. ⊎_elim (λ (y : HasBeenRedo s r). m.between r y k e at) (λ (y : r ≡ s.end). inl (let a = all_end k e at in omega arith)) (before r been);
    follows = λ based tag r k e spans been at is known low. ⊎_elim (λ (y : HasBeenRedo s r). m.follows based tag r k e spans y at is known low)
        (λ (y : r ≡ s.end). absurd (let a = all_end k e at in omega (arith, some_size e.change))) (before r been);
    chosen = λ j k u c at is. ⊎_elim
        (λ (y : (j ≡ i) × (w ≡ u)). chosen_still s (state_after_word raise_redo s i v) still c (m.chosen i k v c there (subst (λ (q : View). get_elem? q.calls k ≡ some c) (sym y.1) is)))
        (λ (y : (j ≢ i) × (get_elem? s.pool.core.views j ≡ some u)). chosen_still s (state_after_word raise_redo s i v) still c (m.chosen j k u c y.1 is))
        (at_set s.pool.core.views i j w u at);
  }
    where
      w : View
      w = after_word raise_redo s v

      held : v.log.held ≡ true
      held = ((h.device.cells i v 0 there (lit< tt)).end s.end ended).0

      now : s.end ≡ max s.redo s.end
      now = let a = m.within in omega arith

      all_end : (k : ℕ) (e : Entry) → get_elem? s.log.entries k ≡ some e → end_of e ≤ s.end
      all_end k e at = let a = ends_below s.log (new_entry s 0 e.change) h.log k e at in let b = h.ends in omega arith

      was : (r : ℕ) → IsRaised (set s.pool.core.views i w) r → IsRaised s.pool.core.views r ⊎ IsAmong (s.end ∷ []) r
      was r y = raised_was s.pool.core.views i v w (s.end ∷ []) there refl r y

      still : (r : ℕ) → HasBeenRedo s r → HasBeenRedo (state_after_word raise_redo s i v) r
      still r (inl e) = inl e
      still r (inr y) = inr (raised_kept s.pool.core.views i v w (s.end ∷ []) there refl r y)

      before : (r : ℕ) → HasBeenRedo (state_after_word raise_redo s i v) r → HasBeenRedo s r ⊎ (r ≡ s.end)
      before r (inl e) = inl (inl e)
      before r (inr y) = ⊎_elim (λ (z : IsRaised s.pool.core.views r). inl (inr z)) (λ (z : IsAmong (s.end ∷ []) r). inr (one_among s.end r z)) (was r y)

  words_redo : (k : WordKind) → WordAllowed k s v → RedoLaw (state_after_word k s i v)
  words_redo load_redo a = loads_redo
  words_redo raise_redo a = raises_redo a
  words_redo k a = let w : View = after_word k s v in redo_same s (state_after_word k s i v) (record { log = refl; end = refl; redo = refl; based = λ b. b; knows = λ tag y. y }) (one_raised s.pool.core.views i v w there refl (same_calls v w refl)) m (one_holds s.pool.core.views i v w there (λ r y. y))

words_been : (s : State) (i : ℕ) (v : View) → get_elem? s.pool.core.views i ≡ some v → (k : WordKind) → (r : ℕ) → HasBeenRedo s r → HasBeenRedo (state_after_word k s i v) r
words_been s i v there raise_redo = been_still s (state_after_word raise_redo s i v) refl (raised_kept s.pool.core.views i v (after_word raise_redo s v) (s.end ∷ []) there refl)
words_been s i v there k = let w : View = after_word k s v in been_still s (state_after_word k s i v) refl (raised_kept s.pool.core.views i v w [] there (sym (append-nil v.redo_raised)))

-- a step at the log notes no redo position
hold_less : (k : LogKind) (h : LogHold) (r : ℕ) → (log_hold_after k h).redo ≡ Some r → h.redo ≡ Some r
hold_less leave_log h r e = absurd (cc)
hold_less _ h r e = e

-- a read is no write
read_calls : (v w : View) (number tag : ℕ) (p : Page) (place : ℕ) → w.calls ≡ v.calls ++ Read number tag p place ∷ [] → OldCalls v w
read_calls v w number tag p place is k c at = ⊎_elim (λ (y : get_elem? v.calls k ≡ some c). inl y) (λ (y : (Read number tag p place ≡ c) × (k ≡ length v.calls)). inr (λ z. subst (ChosenBy z) y.0 tt)) (at_end v.calls (Read number tag p place) c k (ap (λ (l : List Call). get_elem? l k) (sym is) ∙ at))

size_calls : (v w : View) (number fork n place : ℕ) → w.calls ≡ v.calls ++ Sized number fork n place ∷ [] → OldCalls v w
size_calls v w number fork n place is k c at = ⊎_elim (λ (y : get_elem? v.calls k ≡ some c). inl y) (λ (y : (Sized number fork n place ≡ c) × (k ≡ length v.calls)). inr (λ z. subst (ChosenBy z) y.0 tt)) (at_end v.calls (Sized number fork n place) c k (ap (λ (l : List Call). get_elem? l k) (sym is) ∙ at))

pub redo_kept : {e : Event} {s t : State} → Step e s t → HistoryInvariant s → SoundLaw s → RedoLaw s → RedoLaw t
redo_kept {t = t} (pools {s = s} (page_steps.cores x) a) h n m = let y = pools_raised s x in redo_same s t (record { log = refl; end = refl; redo = refl; based = λ b. b; knows = λ tag k. k }) y.0 m y.1
redo_kept {t = t} (pools {s = s} (page_steps.touches i f k v there live inside a around) plain) h n m = let w : View = paged k s.pool f v in redo_same s t (record { log = refl; end = refl; redo = refl; based = λ b. b; knows = λ tag k. k }) (one_raised s.pool.core.views i v w there refl (same_calls v w refl)) m (one_holds s.pool.core.views i v w there (λ r y. y))
redo_kept {t = t} (lanes {s = s} i q k v there live low a alone) h n m = let w : View = stepped (laned k q v v) in redo_same s t (record { log = refl; end = refl; redo = refl; based = λ b. b; knows = λ tag k. k }) (one_raised s.pool.core.views i v w there refl (same_calls v w refl)) m (one_holds s.pool.core.views i v w there (λ r y. y))
redo_kept {t = t} (writes {s = s} i q f k v there live low inside a x) h n m = let w : View = laned k q v (paged begin_write s.pool f v) in redo_same s t (record { log = refl; end = refl; redo = refl; based = λ b. b; knows = λ tag k. k }) (one_raised s.pool.core.views i v w there refl (same_calls v w refl)) m (one_holds s.pool.core.views i v w there (λ r y. y))
redo_kept {t = t} (notes {s = s} i q f noted k v there live low inside a x) h n m = let w : View = laned (lane_back noted) q v (paged k (pool_noting k s f) f v) in redo_same s t (record { log = refl; end = refl; redo = refl; based = λ b. b; knows = λ tag k. k }) (one_raised s.pool.core.views i v w there refl (same_calls v w refl)) m (one_holds s.pool.core.views i v w there (λ r y. y))
redo_kept {t = t} (logs {s = s} i k v there live a record_is) h n m = let w : View = view_logged k v in redo_same s t (record { log = refl; end = refl; redo = refl; based = λ b. b; knows = λ tag k. k }) (one_raised s.pool.core.views i v w there refl (same_calls v w refl)) m (one_holds s.pool.core.views i v w there (hold_less k v.log))
redo_kept {t = t} (enters {s = s} i f p ch v there live inside x) h n m = enters_redo s h n m i f p ch v there inside x t refl refl refl refl (λ b. b) (λ tag k. k)
redo_kept {t = t} (reads {s = s} i f tag p v there live inside a) h n m = let w : View = looked (seen.LogEnd s.end) (has_read s.end tag p v) in redo_same s t (record { log = refl; end = refl; redo = refl; based = λ b. b; knows = λ tag k. k }) (one_raised s.pool.core.views i v w there refl (read_calls v w v.number tag p s.end refl)) m (one_holds s.pool.core.views i v w there (λ r y. y))
redo_kept {t = t} (reads_size {s = s} i fork v there live a) h n m = let w : View = looked (seen.LogEnd s.end) (has_seen_size s.end fork (size_hold v fork).blocks v) in redo_same s t (record { log = refl; end = refl; redo = refl; based = λ b. b; knows = λ tag k. k }) (one_raised s.pool.core.views i v w there refl (size_calls v w v.number fork (size_hold v fork).blocks s.end refl)) m (one_holds s.pool.core.views i v w there (λ r y. y))
redo_kept (words {s = s} i k v there live a) h n m = words_redo s h m i v there k a

-- where the redo position stood stays listed
pub been_kept : {e : Event} {s t : State} → Step e s t → (r : ℕ) → HasBeenRedo s r → HasBeenRedo t r
been_kept {t = t} (pools {s = s} (page_steps.cores x) a) = been_still s t refl (pools_raised s x).0.kept
been_kept {t = t} (pools {s = s} (page_steps.touches i f k v there live inside a around) plain) = let w : View = paged k s.pool f v in been_still s t refl (one_raised s.pool.core.views i v w there refl (same_calls v w refl)).kept
been_kept {t = t} (lanes {s = s} i q k v there live low a alone) = let w : View = stepped (laned k q v v) in been_still s t refl (one_raised s.pool.core.views i v w there refl (same_calls v w refl)).kept
been_kept {t = t} (writes {s = s} i q f k v there live low inside a x) = let w : View = laned k q v (paged begin_write s.pool f v) in been_still s t refl (one_raised s.pool.core.views i v w there refl (same_calls v w refl)).kept
been_kept {t = t} (notes {s = s} i q f noted k v there live low inside a x) = let w : View = laned (lane_back noted) q v (paged k (pool_noting k s f) f v) in been_still s t refl (one_raised s.pool.core.views i v w there refl (same_calls v w refl)).kept
been_kept {t = t} (logs {s = s} i k v there live a record_is) = let w : View = view_logged k v in been_still s t refl (one_raised s.pool.core.views i v w there refl (same_calls v w refl)).kept
been_kept {t = t} (enters {s = s} i f p ch v there live inside x) = let w : View = has_written ch (link v f).copied (s.end + change_size ch) (s.pool.core.frame f).tag p (paged (make_entry p) s.pool f v) in been_still s t refl (raised_kept s.pool.core.views i v w [] there (sym (append-nil v.redo_raised)))
been_kept {t = t} (reads {s = s} i f tag p v there live inside a) = let w : View = looked (seen.LogEnd s.end) (has_read s.end tag p v) in been_still s t refl (raised_kept s.pool.core.views i v w [] there (sym (append-nil v.redo_raised)))
been_kept {t = t} (reads_size {s = s} i fork v there live a) = let w : View = looked (seen.LogEnd s.end) (has_seen_size s.end fork (size_hold v fork).blocks v) in been_still s t refl (raised_kept s.pool.core.views i v w [] there (sym (append-nil v.redo_raised)))
been_kept (words {s = s} i k v there live a) = words_been s i v there k

pub redo_open : (c : Config) (store : Store) (page : Page) → RedoLaw (opening c store page)
redo_open c store page = let w : View = first_view c.base c.frames c.partitions c.lanes in record {
  loaded = λ i v r there is. absurd (let e = ap (λ (x : View). x.log.redo) (at_only w v i there).0 ∙ is in cc);
  within = omega arith;
  highest = record { from = omega arith; above = λ r x. absurd (none_among r (x.1, ap (λ (l : List ℕ). get_elem? l x.1) (ap (λ (z : View). z.redo_raised) (at_only w x.2 x.0 x.3).0) ∙ x.4)); reached = inl refl };
  between = λ r been k e at. absurd (some-ne-none e (sym at));
  follows = λ based tag r k e spans been at is known low. absurd (some-ne-none e (sym at));
  chosen = λ i k v d there is. absurd (some-ne-none d (sym (ap (λ (l : List Call). get_elem? l k) (ap (λ (z : View). z.calls) (at_only w v i there).0) ∙ is)));
}
