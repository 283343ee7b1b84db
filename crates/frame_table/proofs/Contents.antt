-- Operations on content words, for each kind.
use Rattle.std.proofs.Common.{◌≡◌, ℕ, ◌+◌, ◌-◌, ◌*◌, ◌/◌, ◌<◌, ◌≤◌, ◌%◌, ◌^◌, ◌==◌, eqb, cond, Bool, true, false, List, get_or, set, length, get_or-set_same, get_or-set_other, sym, refl, ap, ◌∙◌, subst, arith, eq-eqb, ne_eqb}
use mathlib.Core.Logic.{dite}
use mathlib.Core.Option.{none, some}
use native.Mathlib.Decide.{ℕ_discrete}
use lib.ListN.{get_elem?}
use lib.Seq.{set-get_or}
use prog.Atomic.{either}
use Rattle.atomic_table.specs.Table.{Me, step, Allows}
use Rattle.atomic_table.specs.Table as table
use Rattle.state_word.specs.Fields.{fields, bit}
use Rattle.pin_core.specs.declared.view.View.{View}
use Rattle.pin_core.specs.declared.view.Content.{Content}
use Rattle.pin_core.specs.declared.view.Content.TheVariants.{Shared, Exclusive}
use Rattle.pin_core.specs.State.{Frame, link}
use Rattle.pin_core.specs.Tallies.{flag_weight, unless_flag}
use Rattle.page_core.specs.Kinds as paged
use Rattle.page_core.specs.Tallies.{sharers, applied_locks, unapplied_locks, copies, weigh, share_weight, exclusive_weight}
use Rattle.page_core.proofs.Histories.{one_share}
use Rattle.grid.proofs.Sums.{term_le, total-few}
use Rattle.history_core.specs.Laws.{Laws}
use Rattle.history_core.specs.State.{State}
use Rattle.history_core.proofs.Sound.{weighs_flag}
use Rattle.table_rule.specs.declared.value.Value.{Value}
use Rattle.table_rule.specs.declared.opening.Opening.{Opening}
use Rattle.table_rule.specs.Layout.{content_place}
use Rattle.frame_table.specs.Kinds.{FrameKind, pages, part_of, load_kind, frame_after, link_after, IsAllowed, IsAllowedAround}
use Rattle.table_rule.specs.Shows.{ShowsFrame, Devices, Shows, RuleHolds}
use Rattle.frame_table.specs.FrameSteps.{Did, SaysOf, part_place, always, if_found, chosen, tells}
use Rattle.frame_table.specs.Kinds.{content_word}
use Rattle.frame_table.specs.Content.{looking_content, has_exclusive, has_copying, CanLock, CanDropShare, CanDropExclusive, CanDropCopy}
use Rattle.frame_table.proofs.Frames.{Asks}
use Rattle.frame_table.proofs.Acting.{acts}
use Rattle.frame_table.proofs.Told.{link_is}

-- the parts of a frame that no content word has
pub record SameBeside (fr fr' : Frame) : Type 0 where
  pub word : fr'.word ≡ fr.word
  pub tag : fr'.tag ≡ fr.tag
  pub page : fr'.page ≡ fr.page

-- another content word shows a frame that has what it says
content_shows : (words : List ℕ) (f n : ℕ) (fr fr' : Frame) → 8 * f + 2 < length words → SaysOf content_word n fr' → SameBeside fr fr' → ShowsFrame words f fr → ShowsFrame (set words (8 * f + 2) n) f fr'
content_shows words f n fr fr' low says rest h = let e0 : get_or (set words (8 * f + 2) n) (8 * f) 0 ≡ get_or words (8 * f) 0 = get_or-set_other words (8 * f + 2) (8 * f) n 0 (omega arith) in
    let e1 : get_or (set words (8 * f + 2) n) (8 * f + 1) 0 ≡ get_or words (8 * f + 1) 0 = get_or-set_other words (8 * f + 2) (8 * f + 1) n 0 (omega arith) in
    let e2 : get_or (set words (8 * f + 2) n) (8 * f + 2) 0 ≡ n = get_or-set_same words (8 * f + 2) n 0 low in record {
      word = rest.word ∙ h.word ∙ ap fields (sym e0);
      tag = rest.tag ∙ h.tag ∙ sym e1;
      sharers = says.0 ∙ ap (λ (x : ℕ). x % 2 ^ 18) (sym e2);
      exclusive = says.1 ∙ ap (bit 18) (sym e2);
      copying = says.2 ∙ ap (bit 19) (sym e2);
      small = subst (λ (x : ℕ). x < 2 ^ 20) (sym e2) says.3;
    }

-- What a step of the kind k asks at the content word of f, which becomes n
pub record AsksContent (k : FrameKind) (s : State) (f n : ℕ) (v : View) : Type 0 where
  pub allowed : IsAllowed k s f v
  pub around : IsAllowedAround k s f v
  pub says : SaysOf content_word n (frame_after k s f)
  pub rest : SameBeside (s.pool.core.frame f) (frame_after k s f)
  pub out : (link_after k s f v).out ≡ (link v f).out

-- A content word after each change
-- one sharer more
more_sharers : (n : ℕ) → n % 2 ^ 18 ≤ 64 → n < 2 ^ 20 → ((n + 1) % 2 ^ 18 ≡ n % 2 ^ 18 + 1) × (bit 18 (n + 1) ≡ bit 18 n) × (bit 19 (n + 1) ≡ bit 19 n) × (n + 1 < 2 ^ 20)
more_sharers n few small = let a : (n + 1) / 2 ^ 18 ≡ n / 2 ^ 18 = omega arith in let b : (n + 1) / 2 ^ 19 ≡ n / 2 ^ 19 = omega arith in (omega arith, ap (λ (x : ℕ). x % 2 == 1) a, ap (λ (x : ℕ). x % 2 == 1) b, omega arith)

-- a bit that is set or clear, as a number
bit_set : (x : ℕ) → (x == 1) ≡ true → x ≡ 1
bit_set x e = grind arith

bit_clear : (x : ℕ) → (x == 1) ≡ false → x < 2 → x ≡ 0
bit_clear x e low = grind arith

-- the copy latch taken
copy_set : (n : ℕ) → bit 19 n ≡ false → n < 2 ^ 20 → ((n + 2 ^ 19) % 2 ^ 18 ≡ n % 2 ^ 18) × (bit 18 (n + 2 ^ 19) ≡ bit 18 n) × (bit 19 (n + 2 ^ 19) ≡ true) × (n + 2 ^ 19 < 2 ^ 20)
copy_set n free small = let z = bit_clear (n / 2 ^ 19 % 2) free (omega arith) in let a : (n + 2 ^ 19) / 2 ^ 18 % 2 ≡ n / 2 ^ 18 % 2 = omega arith in let b : (n + 2 ^ 19) / 2 ^ 19 % 2 ≡ 1 = omega arith in
    (omega arith, ap (λ (x : ℕ). x == 1) a, ap (λ (x : ℕ). x == 1) b, omega arith)

-- one sharer less
less_sharers : (n : ℕ) → 0 < n % 2 ^ 18 → n < 2 ^ 20 → let m : ℕ = (n + (2 ^ 64 - 1)) % 2 ^ 64 in (m % 2 ^ 18 ≡ n % 2 ^ 18 - 1) × (bit 18 m ≡ bit 18 n) × (bit 19 m ≡ bit 19 n) × (m < 2 ^ 20)
less_sharers n shared small = let m : ℕ = (n + (2 ^ 64 - 1)) % 2 ^ 64 in let is : m ≡ n - 1 = omega arith in let a : m / 2 ^ 18 ≡ n / 2 ^ 18 = omega (arith, is) in let b : m / 2 ^ 19 ≡ n / 2 ^ 19 = omega (arith, is) in
    (omega (arith, is), ap (λ (x : ℕ). x % 2 == 1) a, ap (λ (x : ℕ). x % 2 == 1) b, omega (arith, is))

-- the exclusive bit cleared
exclusive_cleared : (n : ℕ) → bit 18 n ≡ true → n < 2 ^ 20 → let m : ℕ = (n + (2 ^ 64 - 2 ^ 18)) % 2 ^ 64 in (m % 2 ^ 18 ≡ n % 2 ^ 18) × (bit 18 m ≡ false) × (bit 19 m ≡ bit 19 n) × (m < 2 ^ 20)
exclusive_cleared n on small = let z = bit_set (n / 2 ^ 18 % 2) on in let m : ℕ = (n + (2 ^ 64 - 2 ^ 18)) % 2 ^ 64 in let is : m + 2 ^ 18 ≡ n = omega arith in
    let a : m / 2 ^ 18 % 2 ≡ 0 = omega (arith, is) in let b : m / 2 ^ 19 ≡ n / 2 ^ 19 = omega (arith, is) in (omega (arith, is), ap (λ (x : ℕ). x == 1) a, ap (λ (x : ℕ). x % 2 == 1) b, omega (arith, is))

-- the copy latch free again
copy_cleared : (n : ℕ) → bit 19 n ≡ true → n < 2 ^ 20 → let m : ℕ = (n + (2 ^ 64 - 2 ^ 19)) % 2 ^ 64 in (m % 2 ^ 18 ≡ n % 2 ^ 18) × (bit 18 m ≡ bit 18 n) × (bit 19 m ≡ false) × (m < 2 ^ 20)
copy_cleared n on small = let z = bit_set (n / 2 ^ 19 % 2) on in let m : ℕ = (n + (2 ^ 64 - 2 ^ 19)) % 2 ^ 64 in let is : m + 2 ^ 19 ≡ n = omega arith in
    let a : m / 2 ^ 18 % 2 ≡ n / 2 ^ 18 % 2 = omega (arith, is) in let b : m / 2 ^ 19 % 2 ≡ 0 = omega (arith, is) in (omega (arith, is), ap (λ (x : ℕ). x == 1) a, ap (λ (x : ℕ). x == 1) b, omega (arith, is))

some_exclusive : (b : Bool) → 0 < unless_flag b (exclusive_weight Exclusive) + flag_weight b
some_exclusive true = omega arith
some_exclusive false = omega arith

-- What the law says of a content word and of what a view has there
module _ (s : State) (laws : Laws s) (f : ℕ) (below : f < s.pool.core.frames) where
  -- each backend shares once
  pub few_sharers : (s.pool.core.frame f).sharers ≤ s.pool.core.backends
  few_sharers = let c = laws.invariant.pool.pages.columns f below in omega (arith, c.shared, laws.invariant.pool.core.views.few, total-few (λ (v : View). weigh sharers (link v f)) s.pool.core.views (λ v. one_share (link v f).content))

  module _ (i : ℕ) (v : View) (there : get_elem? s.pool.core.views i ≡ some v) where
    pub own_share : (link v f).content ≡ Shared → 0 < (s.pool.core.frame f).sharers
    own_share right = let c = laws.invariant.pool.pages.columns f below in let e : share_weight (link v f).content ≡ 1 = ap share_weight right in omega (arith, c.shared, term_le (λ (u : View). weigh sharers (link u f)) s.pool.core.views i v there)

    pub own_exclusive : (link v f).content ≡ Exclusive → (s.pool.core.frame f).exclusive ≡ true
    own_exclusive right = let c = laws.invariant.pool.pages.columns f below in
        let e : unless_flag (link v f).unapplied (exclusive_weight (link v f).content) ≡ unless_flag (link v f).unapplied (exclusive_weight Exclusive) = ap (λ (x : Content). unless_flag (link v f).unapplied (exclusive_weight x)) right in
        weighs_flag (s.pool.core.frame f).exclusive (omega (arith, c.exclusive, e, some_exclusive (link v f).unapplied, term_le (λ (u : View). weigh applied_locks (link u f)) s.pool.core.views i v there, term_le (λ (u : View). weigh unapplied_locks (link u f)) s.pool.core.views i v there))

    pub own_copy : (link v f).copying ≡ true → (s.pool.core.frame f).copying ≡ true
    own_copy right = let c = laws.invariant.pool.pages.columns f below in let e : flag_weight (link v f).copying ≡ 1 = ap flag_weight right in weighs_flag (s.pool.core.frame f).copying (omega (arith, c.copying, e, term_le (λ (u : View). weigh copies (link u f)) s.pool.core.views i v there))

module _ {L G : Type 0} (d : Devices L G) (o : Opening L G) where
  at_content : (k : FrameKind) (t : table.State (Value L G) View) (s : State) (f n : ℕ) (v : View) → f < o.config.frames → Shows d o t s → AsksContent k s f n v → Asks k t s f (8 * f + 2) n v
  at_content k t s f n v below h a = record {
    allowed = a.allowed;
    around = a.around;
    shows = content_shows t.words f n (s.pool.core.frame f) (frame_after k s f) (let wide = h.words in omega arith) a.says a.rest (h.frame f below);
    page = a.rest.page;
    out = a.out;
  }

  looks_content_at : (t : table.State (Value L G) View) (s : State) (f : ℕ) (v : View) → f < o.config.frames → Shows d o t s → Asks looking_content t s f (8 * f + 2) (get_or t.words (8 * f + 2) 0) v
  looks_content_at t s f v below h = record { allowed = (tt, tt); around = tt; shows = subst (λ (ws : List ℕ). ShowsFrame ws f (s.pool.core.frame f)) (sym (set-get_or t.words (8 * f + 2) 0)) (h.frame f below); page = refl; out = refl }

  says_content : (t : table.State (Value L G) View) (s : State) (f : ℕ) → f < o.config.frames → Shows d o t s → SaysOf content_word (get_or t.words (8 * f + 2) 0) (s.pool.core.frame f)
  says_content t s f below h = let a = h.frame f below in (a.sharers, a.exclusive, a.copying, a.small)

  pub looks_content : (slots id f : ℕ) (me : Me (Value L G) View) → f < o.config.frames → me.0.emptied ≡ false → Allows (RuleHolds d o) slots id me (content_place f) (λ n. n) (tells (always looking_content) (step slots (content_place f) 0 0 none) me)
  looks_content slots id f me below live = acts d o (always looking_content) slots id f 0 0 (λ n. n) me below live (λ t s h laws there small. looks_content_at t s f me.0 below h)

  -- a step of the kind k at a content word, which becomes g of what it was
  pub changes : (k : FrameKind) → part_of k ≡ content_word → (slots id f a b : ℕ) (g : ℕ → ℕ) (me : Me (Value L G) View) → f < o.config.frames → me.0.emptied ≡ false
      → ((s : State) (n : ℕ) → Laws s → f < s.pool.core.frames → get_elem? s.pool.core.views id ≡ some me.0 → SaysOf content_word n (s.pool.core.frame f) → AsksContent k s f (g n) me.0)
      → Allows (RuleHolds d o) slots id me (content_place f) g (tells (always k) (step slots (content_place f) a b none) me)
  changes k part slots id f a b g me below live asked = subst (λ (i : ℕ). Allows (RuleHolds d o) slots id me i g (tells (always k) (step slots i a b none) me)) at (acts d o (always k) slots id f a b g me below live
      (λ t s h laws there small. subst (λ (i : ℕ). Asks k t s f i (g (get_or t.words i 0)) me.0) (sym at) (at_content k t s f (g (get_or t.words (8 * f + 2) 0)) me.0 below h (asked s (get_or t.words (8 * f + 2) 0) laws (let e = h.fixed.frames in omega arith) there (says_content t s f below h)))))
    where
      at : part_place (part_of k) f ≡ content_place f
      at = ap (λ p. part_place p f) part

  -- a compare-exchange of the content word from `was` to `new`
  pub exchanges : (k : FrameKind) → part_of k ≡ content_word → (slots id f was new : ℕ) (me : Me (Value L G) View) → f < o.config.frames → me.0.emptied ≡ false
      → ((s : State) → Laws s → f < s.pool.core.frames → s.pool.core.backends ≤ 64 → get_elem? s.pool.core.views id ≡ some me.0 → SaysOf content_word was (s.pool.core.frame f) → AsksContent k s f new me.0)
      → Allows (RuleHolds d o) slots id me (content_place f) (λ n. either (eqb n was) new n) (tells (if_found k) (step slots (content_place f) was new none) me)
  exchanges k part slots id f was new me below live asked = subst (λ (i : ℕ). Allows (RuleHolds d o) slots id me i (λ n. either (eqb n was) new n) (tells (if_found k) (step slots i was new none) me)) at
      (acts d o (if_found k) slots id f was new (λ n. either (eqb n was) new n) me below live
      (λ t s h laws there small. subst (λ (i : ℕ). Asks (chosen (if_found k) was (get_or t.words i 0)) t s f i (either (eqb (get_or t.words i 0) was) new (get_or t.words i 0)) me.0) (sym at) (of_test t s h laws there)))
    where
      at : part_place (part_of k) f ≡ content_place f
      at = ap (λ p. part_place p f) part

      of_test : (t : table.State (Value L G) View) (s : State) → Shows d o t s → Laws s → get_elem? s.pool.core.views id ≡ some me.0
          → Asks (chosen (if_found k) was (get_or t.words (8 * f + 2) 0)) t s f (8 * f + 2) (either (eqb (get_or t.words (8 * f + 2) 0) was) new (get_or t.words (8 * f + 2) 0)) me.0
      of_test t s h laws there = let n : ℕ = get_or t.words (8 * f + 2) 0 in dite (ℕ_discrete n was)
          (λ hit. subst (λ (b : Bool). Asks (cond b k (load_kind (part_of k))) t s f (8 * f + 2) (either b new n) me.0) (sym (eq-eqb n was hit))
          (at_content k t s f new me.0 below h (asked s laws (let e = h.fixed.frames in omega arith) (let e = h.fixed.backends in let q = h.fixed.few_backends in omega arith) there (subst (λ (x : ℕ). SaysOf content_word x (s.pool.core.frame f)) hit (says_content t s f below h)))))
          (λ miss. subst (λ (b : Bool). Asks (cond b k (load_kind (part_of k))) t s f (8 * f + 2) (either b new n) me.0) (sym (ne_eqb n was miss)) (subst (λ p. Asks (load_kind p) t s f (8 * f + 2) n me.0) (sym part) (looks_content_at t s f me.0 below h)))

  pub shares_there : (slots id f was : ℕ) (me : Me (Value L G) View) → f < o.config.frames → me.0.emptied ≡ false → CanLock (link me.0 f) → has_exclusive was ≡ false
      → Allows (RuleHolds d o) slots id me (content_place f) (λ n. either (eqb n was) (was + 1) n) (tells (if_found (pages paged.share)) (step slots (content_place f) was (was + 1) none) me)
  shares_there slots id f was me below live may free = exchanges (pages paged.share) refl slots id f was (was + 1) me below live (λ s laws inside few there is. let m = more_sharers was (let q = few_sharers s laws f inside in let e = is.0 in omega arith) is.3 in record {
    allowed = (tt, record { pinned = may.pinned; seen = may.seen; none = may.none; free = is.1 ∙ free });
    around = tt;
    says = (ap (λ (x : ℕ). x + 1) is.0 ∙ sym m.0, is.1 ∙ sym m.1, is.2 ∙ sym m.2, m.3);
    rest = record { word = refl; tag = refl; page = refl };
    out = refl;
  })

  pub excludes_there : (slots id f was : ℕ) (me : Me (Value L G) View) → f < o.config.frames → me.0.emptied ≡ false → CanLock (link me.0 f) → was ≡ 0
      → Allows (RuleHolds d o) slots id me (content_place f) (λ n. either (eqb n was) 262144 n) (tells (if_found (pages paged.exclude)) (step slots (content_place f) was 262144 none) me)
  excludes_there slots id f was me below live may zero = exchanges (pages paged.exclude) refl slots id f was 262144 me below live (λ s laws inside few there is. let none : SaysOf content_word 0 (s.pool.core.frame f) = subst (λ (x : ℕ). SaysOf content_word x (s.pool.core.frame f)) zero is in record {
    allowed = (tt, record { pinned = may.pinned; seen = may.seen; none = may.none; free = none.1; alone = none.0; no_copy = none.2 });
    around = tt;
    says = (none.0, refl, none.2, omega arith);
    rest = record { word = refl; tag = refl; page = refl };
    out = refl;
  })

  pub copies_there : (slots id f was : ℕ) (me : Me (Value L G) View) → f < o.config.frames → me.0.emptied ≡ false → (link me.0 f).content ≡ Shared → has_copying was ≡ false
      → Allows (RuleHolds d o) slots id me (content_place f) (λ n. either (eqb n was) (was + 524288) n) (tells (if_found (pages paged.take_copy)) (step slots (content_place f) was (was + 524288) none) me)
  copies_there slots id f was me below live right free = exchanges (pages paged.take_copy) refl slots id f was (was + 524288) me below live (λ s laws inside few there is. let m = copy_set was free is.3 in record {
    allowed = (tt, record { right = right; free = is.2 ∙ free });
    around = tt;
    says = (is.0 ∙ sym m.0, is.1 ∙ sym m.1, sym m.2, m.3);
    rest = record { word = refl; tag = refl; page = refl };
    out = refl;
  })

  pub unshares_there : (slots id f : ℕ) (me : Me (Value L G) View) → f < o.config.frames → me.0.emptied ≡ false → CanDropShare (link me.0 f)
      → Allows (RuleHolds d o) slots id me (content_place f) (λ n. (n + (2 ^ 64 - 1)) % 2 ^ 64) (tells (always (pages paged.unshare)) (step slots (content_place f) 1 0 none) me)
  unshares_there slots id f me below live may = changes (pages paged.unshare) refl slots id f 1 0 (λ n. (n + (2 ^ 64 - 1)) % 2 ^ 64) me below live (λ s n laws inside there is. let m = less_sharers n (subst (λ (x : ℕ). 0 < x) is.0 (own_share s laws f inside id me.0 there may.right)) is.3 in record {
    allowed = (tt, record { right = may.right; no_copy = may.no_copy; no_output = may.no_output; page_home = may.page_home });
    around = tt;
    says = (ap (λ (x : ℕ). x - 1) is.0 ∙ sym m.0, is.1 ∙ sym m.1, is.2 ∙ sym m.2, m.3);
    rest = record { word = refl; tag = refl; page = refl };
    out = refl;
  })

  pub unexcludes_there : (slots id f : ℕ) (me : Me (Value L G) View) → f < o.config.frames → me.0.emptied ≡ false → CanDropExclusive (link me.0 f)
      → Allows (RuleHolds d o) slots id me (content_place f) (λ n. (n + (2 ^ 64 - 262144)) % 2 ^ 64) (tells (always (pages paged.unexclude)) (step slots (content_place f) 262144 0 none) me)
  unexcludes_there slots id f me below live may = changes (pages paged.unexclude) refl slots id f 262144 0 (λ n. (n + (2 ^ 64 - 262144)) % 2 ^ 64) me below live (λ s n laws inside there is. let m = exclusive_cleared n (sym is.1 ∙ own_exclusive s laws f inside id me.0 there may.right) is.3 in record {
    allowed = (tt, record { right = may.right; applied = may.applied; page_home = may.page_home });
    around = tt;
    says = (is.0 ∙ sym m.0, sym m.1, is.2 ∙ sym m.2, m.3);
    rest = record { word = refl; tag = refl; page = refl };
    out = refl;
  })

  pub leaves_copy_there : (slots id f : ℕ) (me : Me (Value L G) View) → f < o.config.frames → me.0.emptied ≡ false → CanDropCopy (link me.0 f)
      → Allows (RuleHolds d o) slots id me (content_place f) (λ n. (n + (2 ^ 64 - 524288)) % 2 ^ 64) (tells (always (pages paged.leave_copy)) (step slots (content_place f) 524288 0 none) me)
  leaves_copy_there slots id f me below live may = changes (pages paged.leave_copy) refl slots id f 524288 0 (λ n. (n + (2 ^ 64 - 524288)) % 2 ^ 64) me below live (λ s n laws inside there is. let m = copy_cleared n (sym is.2 ∙ own_copy s laws f inside id me.0 there may.right) is.3 in record {
    allowed = (tt, record { right = may.right; page_home = may.page_home });
    around = tt;
    says = (is.0 ∙ sym m.0, is.1 ∙ sym m.1, sym m.2, m.3);
    rest = record { word = refl; tag = refl; page = refl };
    out = refl;
  })

-- a load of a content word leaves all that the view has there
pub same_link : (f found : ℕ) (v w : View) → Did looking_content f v w found → link w f ≡ link v f
same_link f found v w d = link_is looking_content f found v w d
