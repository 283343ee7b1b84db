-- Totals of claimed blocks, number by number.
use Rattle.std.proofs.Common.{◌≡◌, ◌≢◌, ℕ, zero, suc, ◌+◌, ◌<◌, ◌≤◌, Bool, nat_eq, if◌then◌else◌, List, [], ◌∷◌, length, refl, sym, ap, ◌∙◌, ⊎_elim, arith, eq-eqb, ne_eqb}
use Rattle.std.proofs.lemmas.Bool.{cases_lt}
use mathlib.Core.Logic.{dite}
use native.Mathlib.Decide.{ℕ_discrete}
use mathlib.Core.Option.{some}
use lib.ListN.{get_elem?}
use Rattle.grid.specs.Shape.{total}
use Rattle.grid.proofs.Sums.{term_le, total-both}
use Rattle.chunk_claims.specs.Claims.{past_weight, sum_below}
use Rattle.pin_core.specs.State.{Page}
use Rattle.page_layout.specs.declared.outcomes.RewriteTotals.{RewriteTotals}
use Rattle.page_layout.specs.declared.scan.ScanTotals.{ScanTotals}
use Rattle.page_layout.specs.Outcomes.{no_rewrite_totals, rewrite_totals_of, sum_of_rewrite_totals}
use Rattle.page_layout.specs.Scan.{no_totals, sum_of_totals, totals_of}
use Rattle.page_layout.proofs.Sums.{rewrite_totals_of-append, totals_of-append}
use Rattle.page_jobs.specs.Chunks.{AreAllClaimed, AreFirstClaimed, Claimed, CoversAll, blocks_in_all, items_in_all}
use Rattle.page_jobs.specs.Parts.{AllReads}
use Rattle.page_jobs.specs.Printed.{BlockRead, reads_totals}
use Rattle.page_jobs.specs.RewriteEnds.{times}
use Rattle.page_jobs.specs.Rewrites.{AreOf, Outcome, outcome_block, outcome_totals}
use Rattle.chunk_claims.proofs.Weights.{sum_first, sum_ones, weighs_one}
use Rattle.page_jobs.proofs.ClaimedChunks.{blocks_all, blocks_once, past_low, total_ones}
use Rattle.page_jobs.proofs.RewriteSums.{outcome_totals-append}
use Rattle.page_jobs.proofs.Sums.{reads_totals-append}

-- A number of totals that is 0 of none, and of two the sum of theirs
pub record AddsUp (f : ScanTotals → ℕ) : Type 0 where
  pub none : f no_totals ≡ 0
  pub both : (t u : ScanTotals) → f (sum_of_totals t u) ≡ f t + f u

-- totals are the same where all such numbers are
pub totals_by : (t u : ScanTotals) → ((f : ScanTotals → ℕ) → AddsUp f → f t ≡ f u) → t ≡ u
totals_by t u same =
    let blocks = same (λ (x : ScanTotals). x.blocks) record { none = refl; both = λ x y. refl } in
    let used = same (λ (x : ScanTotals). x.used) record { none = refl; both = λ x y. refl } in
    let new = same (λ (x : ScanTotals). x.new) record { none = refl; both = λ x y. refl } in
    let invalid = same (λ (x : ScanTotals). x.invalid) record { none = refl; both = λ x y. refl } in
    let normal = same (λ (x : ScanTotals). x.normal) record { none = refl; both = λ x y. refl } in
    let redirect = same (λ (x : ScanTotals). x.redirect) record { none = refl; both = λ x y. refl } in
    let dead = same (λ (x : ScanTotals). x.dead) record { none = refl; both = λ x y. refl } in
    let unused = same (λ (x : ScanTotals). x.unused) record { none = refl; both = λ x y. refl } in
    λ i. record { blocks = blocks i; used = used i; new = new i; invalid = invalid i; normal = normal i; redirect = redirect i; dead = dead i; unused = unused i }

-- the number of a block's page
abbrev pub page_weight : (ScanTotals → ℕ) → List Page → ℕ → ℕ
page_weight f [] b = 0
page_weight f (p ∷ ps) zero = f (totals_of (p ∷ []))
page_weight f (p ∷ ps) (suc b) = page_weight f ps b

pub pages_by : (f : ScanTotals → ℕ) → AddsUp f → (pages : List Page) → f (totals_of pages) ≡ sum_below (length pages) (page_weight f pages)
unfolding sum_below
pages_by f adds [] = adds.none
pages_by f adds (p ∷ ps) = ap f (totals_of-append (p ∷ []) ps) ∙ adds.both (totals_of (p ∷ [])) (totals_of ps) ∙ ap (λ (k : ℕ). f (totals_of (p ∷ [])) + k) (pages_by f adds ps) ∙ sym (sum_first (length ps) (page_weight f (p ∷ ps)))

-- the number of reads, by their blocks
pub reads_by : (f : ScanTotals → ℕ) → AddsUp f → (G : ℕ → ℕ) (bs : List ℕ) (rs : List BlockRead) → length rs ≡ length bs → AllReads (λ b r. f (reads_totals (r ∷ [])) ≡ G b) bs rs → f (reads_totals rs) ≡ total G bs
unfolding total
reads_by f adds G [] [] many each = adds.none
reads_by f adds G [] (r ∷ rs) many each = absurd each
reads_by f adds G (b ∷ bs) [] many each = absurd (omega arith)
reads_by f adds G (b ∷ bs) (r ∷ rs) many each = omega (arith, ap f (reads_totals-append (r ∷ []) rs), adds.both (reads_totals (r ∷ [])) (reads_totals rs), each.0, reads_by f adds G bs rs (omega arith) each.1)

-- so it is of each pass
abbrev ReadsBy : (ScanTotals → ℕ) → ℕ → (ℕ → ℕ) → List (Claimed BlockRead) → Type 0
ReadsBy f n G cs = (w : ℕ) (c : Claimed BlockRead) → get_elem? cs w ≡ some c → CoversAll n c × AllReads (λ b r. f (reads_totals (r ∷ [])) ≡ G b) (blocks_in_all n c.chunks) c.items

reads_claimed : (f : ScanTotals → ℕ) → AddsUp f → (n : ℕ) (G : ℕ → ℕ) (cs : List (Claimed BlockRead)) → ReadsBy f n G cs → f (reads_totals (items_in_all cs)) ≡ total (λ c. total G (blocks_in_all n c.chunks)) cs
unfolding total
reads_claimed f adds n G [] each = adds.none
reads_claimed f adds n G (c ∷ cs) each =
    let first = each zero c refl in
    omega (
      arith,
      ap f (reads_totals-append c.items (items_in_all cs)),
      adds.both (reads_totals c.items) (reads_totals (items_in_all cs)),
      reads_by f adds G (blocks_in_all n c.chunks) c.items first.0 first.1,
      reads_claimed f adds n G cs (λ w d at. each (suc w) d at),
    )

pub reads_all_by : (f : ScanTotals → ℕ) → AddsUp f → (n : ℕ) (G : ℕ → ℕ) (cs : List (Claimed BlockRead)) → AreAllClaimed n cs
    → ((w : ℕ) (c : Claimed BlockRead) → get_elem? cs w ≡ some c → CoversAll n c × AllReads (λ b r. f (reads_totals (r ∷ [])) ≡ G b) (blocks_in_all n c.chunks) c.items) → f (reads_totals (items_in_all cs)) ≡ sum_below n G
reads_all_by f adds n G cs all each = reads_claimed f adds n G cs each ∙ blocks_all n cs all G

-- The same of totals of a rewrite
pub record RewriteAddsUp (f : RewriteTotals → ℕ) : Type 0 where
  pub none : f no_rewrite_totals ≡ 0
  pub both : (t u : RewriteTotals) → f (sum_of_rewrite_totals t u) ≡ f t + f u

pub rewrite_totals_by : (t u : RewriteTotals) → ((f : RewriteTotals → ℕ) → RewriteAddsUp f → f t ≡ f u) → t ≡ u
rewrite_totals_by t u all_same =
    let blocks = all_same (λ (x : RewriteTotals). x.blocks) record { none = refl; both = λ x y. refl } in
    let changed = all_same (λ (x : RewriteTotals). x.changed) record { none = refl; both = λ x y. refl } in
    let same = all_same (λ (x : RewriteTotals). x.same) record { none = refl; both = λ x y. refl } in
    let skipped = all_same (λ (x : RewriteTotals). x.skipped) record { none = refl; both = λ x y. refl } in
    let new = all_same (λ (x : RewriteTotals). x.new) record { none = refl; both = λ x y. refl } in
    let invalid = all_same (λ (x : RewriteTotals). x.invalid) record { none = refl; both = λ x y. refl } in
    let dead = all_same (λ (x : RewriteTotals). x.dead) record { none = refl; both = λ x y. refl } in
    λ i. record { blocks = blocks i; changed = changed i; same = same i; skipped = skipped i; new = new i; invalid = invalid i; dead = dead i }

abbrev pub rewrite_page_weight : (RewriteTotals → ℕ) → List Page → ℕ → ℕ
rewrite_page_weight f [] b = 0
rewrite_page_weight f (p ∷ ps) zero = f (rewrite_totals_of (p ∷ []))
rewrite_page_weight f (p ∷ ps) (suc b) = rewrite_page_weight f ps b

pub rewrite_pages_by : (f : RewriteTotals → ℕ) → RewriteAddsUp f → (pages : List Page) → f (rewrite_totals_of pages) ≡ sum_below (length pages) (rewrite_page_weight f pages)
unfolding sum_below
rewrite_pages_by f adds [] = adds.none
rewrite_pages_by f adds (p ∷ ps) =
    ap f (rewrite_totals_of-append (p ∷ []) ps) ∙ adds.both (rewrite_totals_of (p ∷ [])) (rewrite_totals_of ps) ∙ ap (λ (k : ℕ). f (rewrite_totals_of (p ∷ [])) + k) (rewrite_pages_by f adds ps) ∙ sym (sum_first (length ps) (rewrite_page_weight f (p ∷ ps)))

-- outcomes weigh what their blocks do
pub outcomes_within : (G : ℕ → ℕ) (bs : List ℕ) (os : List Outcome) → AreOf bs os → total (λ o. G (outcome_block o)) os ≤ total G bs
unfolding total
outcomes_within G bs [] are = omega arith
outcomes_within G [] (o ∷ os) are = absurd are
outcomes_within G (b ∷ bs) (o ∷ os) are = omega (arith, ap G are.0, outcomes_within G bs os are.1)

pub outcomes_whole : (G : ℕ → ℕ) (bs : List ℕ) (os : List Outcome) → AreOf bs os → length os ≡ length bs → total (λ o. G (outcome_block o)) os ≡ total G bs
unfolding total
outcomes_whole G [] [] are many = refl
outcomes_whole G (b ∷ bs) [] are many = absurd (omega arith)
outcomes_whole G [] (o ∷ os) are many = absurd are
outcomes_whole G (b ∷ bs) (o ∷ os) are many = omega (arith, ap G are.0, outcomes_whole G bs os are.1 (omega arith))

claimed_within : (n : ℕ) (G : ℕ → ℕ) (cs : List (Claimed Outcome)) → ((w : ℕ) (c : Claimed Outcome) → get_elem? cs w ≡ some c → AreOf (blocks_in_all n c.chunks) c.items) → total (λ o. G (outcome_block o)) (items_in_all cs) ≤ total (λ c. total G (blocks_in_all n c.chunks)) cs
unfolding total
claimed_within n G [] each = omega arith
claimed_within n G (c ∷ cs) each = omega (arith, total-both (λ (o : Outcome). G (outcome_block o)) c.items (items_in_all cs), outcomes_within G (blocks_in_all n c.chunks) c.items (each zero c refl), claimed_within n G cs (λ w d at. each (suc w) d at))

pub outcomes_once : (n : ℕ) (cs : List (Claimed Outcome)) → AreFirstClaimed n cs → ((w : ℕ) (c : Claimed Outcome) → get_elem? cs w ≡ some c → AreOf (blocks_in_all n c.chunks) c.items)
    → (G : ℕ → ℕ) → total (λ o. G (outcome_block o)) (items_in_all cs) ≤ sum_below n G
outcomes_once n cs once each G = omega (arith, claimed_within n G cs each, blocks_once n cs once G)

claimed_whole : (n : ℕ) (G : ℕ → ℕ) (cs : List (Claimed Outcome)) → ((w : ℕ) (c : Claimed Outcome) → get_elem? cs w ≡ some c → AreOf (blocks_in_all n c.chunks) c.items × CoversAll n c) → total (λ o. G (outcome_block o)) (items_in_all cs) ≡ total (λ c. total G (blocks_in_all n c.chunks)) cs
unfolding total
claimed_whole n G [] each = refl
claimed_whole n G (c ∷ cs) each =
    let first = each zero c refl in
    omega (arith, total-both (λ (o : Outcome). G (outcome_block o)) c.items (items_in_all cs), outcomes_whole G (blocks_in_all n c.chunks) c.items first.0 first.1, claimed_whole n G cs (λ w d at. each (suc w) d at))

pub outcomes_all : (n : ℕ) (cs : List (Claimed Outcome)) → AreAllClaimed n cs → ((w : ℕ) (c : Claimed Outcome) → get_elem? cs w ≡ some c → AreOf (blocks_in_all n c.chunks) c.items × CoversAll n c)
    → (G : ℕ → ℕ) → total (λ o. G (outcome_block o)) (items_in_all cs) ≡ sum_below n G
outcomes_all n cs all each G = claimed_whole n G cs each ∙ blocks_all n cs all G

-- 1 for a block, and 0 for the others
abbrev one_block : ℕ → ℕ → ℕ
one_block b k = if nat_eq k b then 1 else 0

one_there : (b k : ℕ) → k ≡ b → one_block b k ≡ 1
one_there b k e = ap (λ (t : Bool). if t then 1 else 0) (eq-eqb k b e)

one_else : (b k : ℕ) → k ≢ b → one_block b k ≡ 0
one_else b k n = ap (λ (t : Bool). if t then 1 else 0) (ne_eqb k b n)

none_below : (n b : ℕ) → n ≤ b → sum_below n (one_block b) ≡ 0
unfolding sum_below
none_below zero b past = refl
none_below (suc n) b past = omega (arith, none_below n b (omega arith), one_else b n (λ e. omega arith))

one_below : (n b : ℕ) → b < n → sum_below n (one_block b) ≡ 1
unfolding sum_below
one_below zero b below = absurd (omega arith)
one_below (suc n) b below = dite (ℕ_discrete n b)
    (λ e. omega (arith, none_below n b (omega arith), one_there b n e))
    (λ o. omega (arith, one_below n b (omega arith), one_else b n o))

-- where outcomes weigh no more than the blocks below n, each block is among them once at most, and they are no more than n
module _ (n : ℕ) where
  pub times_below : (b : ℕ) (os : List Outcome) → ((G : ℕ → ℕ) → total (λ o. G (outcome_block o)) os ≤ sum_below n G) → times b os ≤ 1
  times_below b os few =
      let most : times b os ≤ sum_below n (one_block b) = few (one_block b) in
      ⊎_elim
      (λ (t : b < n). omega (arith, most, one_below n b t))
      (λ (t : n ≤ b). omega (arith, most, none_below n b t))
      (cases_lt b n)

  pub times_one : (b : ℕ) (os : List Outcome) → ((G : ℕ → ℕ) → total (λ o. G (outcome_block o)) os ≡ sum_below n G) → b < n → times b os ≡ 1
  times_one b os same below = same (one_block b) ∙ one_below n b below

  pub block_below : (os : List Outcome) → ((G : ℕ → ℕ) → total (λ o. G (outcome_block o)) os ≤ sum_below n G) → (k : ℕ) (o : Outcome) → get_elem? os k ≡ some o → outcome_block o < n
  block_below os few k o at = ⊎_elim
      (λ (t : outcome_block o < n). t)
      (λ (t : n ≤ outcome_block o). absurd (omega (arith, few (past_weight n), term_le (λ (x : Outcome). past_weight n (outcome_block x)) os k o at, past_low n n (omega arith), weighs_one n (outcome_block o) t)))
      (cases_lt (outcome_block o) n)

  pub outcomes_few : (os : List Outcome) → ((G : ℕ → ℕ) → total (λ o. G (outcome_block o)) os ≤ sum_below n G) → length os ≤ n
  outcomes_few os few = omega (arith, few (λ b. 1), total_ones os, sum_ones n)

-- the number of outcomes, by their blocks
pub outcomes_by : (f : RewriteTotals → ℕ) → RewriteAddsUp f → (G : ℕ → ℕ) (os : List Outcome) → ((k : ℕ) (o : Outcome) → get_elem? os k ≡ some o → f (outcome_totals (o ∷ [])) ≡ G (outcome_block o)) → f (outcome_totals os) ≡ total (λ o. G (outcome_block o)) os
unfolding total
outcomes_by f adds G [] each = adds.none
outcomes_by f adds G (o ∷ os) each = omega (arith, ap f (outcome_totals-append (o ∷ []) os), adds.both (outcome_totals (o ∷ [])) (outcome_totals os), each zero o refl, outcomes_by f adds G os (λ k q at. each (suc k) q at))
