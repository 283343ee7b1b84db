-- What the law of sizes says in the field's words.
use Rattle.std.proofs.Common.{◌≡◌, ◌≢◌, ℕ, suc, ◌<◌, true, false, cond, None, sym, refl, ◌∙◌, ⊎_elim, arith}
use Rattle.std.proofs.lemmas.Bool.{false≢true, false_from_ne_true}
use mathlib.Core.Option.{some}
use lib.ListN.{get_elem?}
use Rattle.pin_core.specs.declared.view.SizeRight.{SizeRight}
use Rattle.pin_core.specs.declared.view.SizeRight.TheVariants as size_right
use Rattle.pin_core.specs.declared.view.SizeHold.{SizeHold}
use Rattle.pin_core.specs.declared.view.View.{View}
use Rattle.pin_core.specs.State.{State, SizeWord, size_hold, link, tag_fork, is_block}
use Rattle.pin_core.specs.Invariant.{PinInvariant}
use Rattle.pin_core.specs.Sizes.{SizeKind, load_size, share_size, exclude_size, unshare_size, unexclude_size, pass_frame, store_size, enter_extension, enter_cut, SizeAllowed, size_after, SizeTally, sharers, excluders, size_weight, shared_weight, exclusive_weight, size_shape, SizeLaw, SizeHoldLaw, IsNoted, SizesLaw}
use Rattle.pin_core.specs.Schedules.{IsReached, TagWordsAreBlocks, is_size_shared, is_size_exclusive, shares_size, excludes_size, SizeRights, SizesAreLogged, SeenBlocksStay}
use Rattle.grid.specs.Shape.{put, tallies}
use Rattle.grid.proofs.Sums.{total-count}
use Rattle.pin_core.proofs.Tallies.{flag_count}
use Rattle.pin_core.proofs.Opening.{opens}
use Rattle.pin_core.proofs.Stepping.{remembered}
use Rattle.pin_core.proofs.Sizing.{none_unstored, exclusive_stands, unmade_finds, shared_finds, logged_kept}
use Rattle.pin_core.proofs.SizeSteps.{run_keeps_law, sizes_open}

pub sizes_reached : (s : State) → IsReached s → SizesLaw s
sizes_reached s r = run_keeps_law r.run (opens r.config r.page r.opens) (sizes_open r.config r.page)

pub tag_words : (s : State) → SizesLaw s → TagWordsAreBlocks s
tag_words s h = record {
  noted = h.blocks;
  quiet = λ e f below named. ⊎_elim (λ (x : is_block s (s.frame f).tag ≡ true). x) (λ (n : IsNoted s f). let fork = tag_fork (s.frame f).tag in let at = h.noted n.0 f n.1 n.2 below n.3 in
      absurd (false≢true (sym (h.quiet e fork) ∙ exclusive_stands s h n.0 fork n.1 n.2 at.may.right))) (h.blocks f below named);
}

pub rights : (s : State) (fork : ℕ) → SizesLaw s → SizeRights s fork
rights s fork h = let c = (h.words (suc fork)).columns fork (omega arith) in record {
  sharers = c.shared ∙ total-count (λ (v : View). size_weight sharers (size_hold v fork)) (shares_size fork) (λ v. one (size_hold v fork).right) s.views;
  exclusive = sym (total-count (λ (v : View). size_weight excluders (size_hold v fork)) (excludes_size fork) (λ v. alone (size_hold v fork).right) s.views) ∙ sym c.exclusive ∙ flag_count (s.size fork).exclusive;
  apart = c.excludes;
}
  where
    one : (r : SizeRight) → shared_weight r ≡ cond (is_size_shared r) 1 0
    one size_right.Unheld = refl
    one size_right.Shared = refl
    one size_right.Exclusive = refl

    alone : (r : SizeRight) → exclusive_weight r ≡ cond (is_size_exclusive r) 1 0
    alone size_right.Unheld = refl
    alone size_right.Shared = refl
    alone size_right.Exclusive = refl

-- Without an exclusive right a size word is the fork's size by the log
pub free_is_logged : (s : State) (fork : ℕ) → SizesLaw s → (s.size fork).exclusive ≡ false → (s.size fork).blocks ≡ (s.size fork).logged
free_is_logged s fork h e = let c = (h.words (suc fork)).columns fork (omega arith) in c.stored (none_unstored s h fork (none_has (s.size fork) (tallies size_shape s.views fork) c e))
  where
    none_has : (w : SizeWord) (t : SizeTally → ℕ) → SizeLaw w t → w.exclusive ≡ false → t excluders ≡ 0
    none_has w t c e = grind (arith, c, e)

pub logged : (s : State) (fork : ℕ) → SizesLaw s → SizesAreLogged s fork
logged s fork h = record {
  free = free_is_logged s fork h;
  unmade = λ i v there right unmade. (unmade_finds s h i fork v there (record { right = right; unmade = unmade })).1;
  found = λ i v there right unmade. by_right i v there (size_hold v fork).right refl right unmade;
}
  where
    word_found : (w : SizeWord) (h : SizeHold) → SizeHoldLaw w h → h.right ≢ size_right.Unheld → h.made ≡ None → h.blocks ≡ w.blocks
    word_found w h c right unmade = grind (arith, c, right, unmade)

    by_right : (i : ℕ) (v : View) → get_elem? s.views i ≡ some v → (r : SizeRight) → (size_hold v fork).right ≡ r → (size_hold v fork).right ≢ size_right.Unheld → (size_hold v fork).made ≡ None → ((size_hold v fork).blocks ≡ (s.size fork).blocks) × ((size_hold v fork).blocks ≡ (s.size fork).logged)
    by_right i v there size_right.Unheld e right unmade = absurd (right e)
    by_right i v there size_right.Shared e right unmade = (word_found (s.size fork) (size_hold v fork) ((h.words (suc fork)).cells i v fork there (omega arith)) right unmade, shared_finds s h i fork v there e)
    by_right i v there size_right.Exclusive e right unmade = (word_found (s.size fork) (size_hold v fork) ((h.words (suc fork)).cells i v fork there (omega arith)) right unmade, (unmade_finds s h i fork v there (record { right = e; unmade = unmade })).0)

pub seen_blocks : (s : State) → PinInvariant s → SizesLaw s → SeenBlocksStay s
seen_blocks s p h i f v there below e = let c = p.grid.cells i v f there below in (remembered (s.frame f) (link v f).tag c.remembers (c.inside e), h.insides i f v there below e)

-- What holds if forks don't grow and shrink
module _ (s : State) (h : SizesLaw s) (quiet : s.resizes ≡ false) where
  -- no view has an exclusive right
  pub no_exclusive : (i fork : ℕ) (v : View) → get_elem? s.views i ≡ some v → (size_hold v fork).right ≡ size_right.Exclusive → ⊥
  no_exclusive i fork v there e = false≢true (sym (h.quiet quiet fork) ∙ exclusive_stands s h i fork v there e)

  -- no view notes a frame
  pub none_noted : (i f : ℕ) (v : View) → get_elem? s.views i ≡ some v → f < s.frames → (link v f).noted ≡ false
  none_noted i f v there below = false_from_ne_true (link v f).noted (λ e. no_exclusive i (tag_fork (s.frame f).tag) v there (h.noted i f v there below e).may.right)

  -- no size changes
  pub same_sizes : (i fork : ℕ) (v : View) (k : SizeKind) → get_elem? s.views i ≡ some v → SizeAllowed k s v fork → (g : ℕ) → (put s.size fork (size_after k (s.size fork)) g).logged ≡ (s.size g).logged
  same_sizes i fork v (enter_extension f end) there a g = absurd (no_exclusive i fork v there a.may.right)
  same_sizes i fork v (enter_cut n end) there a g = absurd (no_exclusive i fork v there a.may.right)
  same_sizes i fork v load_size there a g = logged_kept s fork load_size g refl
  same_sizes i fork v share_size there a g = logged_kept s fork share_size g refl
  same_sizes i fork v exclude_size there a g = logged_kept s fork exclude_size g refl
  same_sizes i fork v (unshare_size seen) there a g = logged_kept s fork (unshare_size seen) g refl
  same_sizes i fork v unexclude_size there a g = logged_kept s fork unexclude_size g refl
  same_sizes i fork v (pass_frame f n) there a g = logged_kept s fork (pass_frame f n) g refl
  same_sizes i fork v store_size there a g = logged_kept s fork store_size g refl
