-- What the passes of a job claimed, by what their seats drew, and the blocks of that.
use Rattle.std.proofs.Common.{◌≡◌, ℕ, zero, suc, ◌+◌, ◌*◌, ◌<◌, ◌≤◌, Bool, min, List, [], ◌∷◌, ◌++◌, length, Result, All, nat_lt, if◌then◌else◌, refl, sym, ap, ◌∙◌, ⊎_elim, arith, append_assoc}
use Rattle.std.proofs.lemmas.Bool.{cases_lt, le-ltb, lt-ltb}
use Rattle.std.proofs.lemmas.List.{append-nil, length-append}
use Rattle.std.proofs.lemmas.List.Elements.{All-cons, All-head, All-nil, All-tail}
use mathlib.Core.Option.{some, some-injective, some-ne-none}
use lib.ListN.{get_elem?}
use Rattle.grid.specs.Shape.{total}
use Rattle.grid.proofs.Sums.{total-both, total-snoc}
use Rattle.chunk_claims.specs.Claims.{past_weight, sum_below}
use Rattle.chunk_claims.proofs.Drawing.{sum_below_le}
use Rattle.chunk_claims.proofs.Weights.{weighs_none, weighs_one}
use Rattle.backend_pass.specs.Passes.{PassState}
use Rattle.page_jobs.specs.declared.ending.JobError.{JobError}
use Rattle.page_jobs.specs.Blocks.{blocks_from}
use Rattle.page_jobs.specs.Chunks.{AreAllClaimed, AreFirstClaimed, Claimed, blocks_in_all, blocks_of, chunk_count, chunk_size, chunk_start}
use Rattle.page_jobs.specs.Working.{DoesChunks}

-- the weight of a chunk of n blocks; a number past the last chunk weighs nothing
abbrev pub within : ℕ → (ℕ → ℕ) → ℕ → ℕ
within n g c = if nat_lt c (chunk_count n) then g c else 0

-- what a worker claimed is what it drew, but for a number past the last chunk
abbrev pub IsOfDrawn : ℕ → List ℕ → List ℕ → Type 0
IsOfDrawn n chunks drawn = (g : ℕ → ℕ) → total g chunks ≡ total (within n g) drawn

-- so it is of each
abbrev pub AreOfDrawn : {A : Type 0} → ℕ → List (Claimed A) → List (List ℕ) → Type 0
AreOfDrawn n [] [] = Unit {0}
AreOfDrawn n [] (d ∷ ds) = ⊥
AreOfDrawn n (c ∷ cs) [] = ⊥
AreOfDrawn n (c ∷ cs) (d ∷ ds) = IsOfDrawn n c.chunks d × AreOfDrawn n cs ds

-- each drew a number past the last chunk
abbrev pub AllDrewPast : ℕ → List (List ℕ) → Type 0
AllDrewPast n [] = Unit {0}
AllDrewPast n (d ∷ ds) = (1 ≤ total (past_weight (chunk_count n)) d) × AllDrewPast n ds

-- the blocks of chunks, and how many they are
pub blocks_append : (n : ℕ) (cs ds : List ℕ) → blocks_in_all n (cs ++ ds) ≡ blocks_in_all n cs ++ blocks_in_all n ds
blocks_append n [] ds = refl
blocks_append n (c ∷ cs) ds = ap (λ (l : List ℕ). blocks_of n c ++ l) (blocks_append n cs ds) ∙ sym (append_assoc (blocks_of n c) (blocks_in_all n cs) (blocks_in_all n ds))

pub one_chunk : (n c : ℕ) → blocks_in_all n (c ∷ []) ≡ blocks_of n c
one_chunk n c = append-nil (blocks_of n c)

pub blocks_more : (n : ℕ) (cs : List ℕ) (c : ℕ) → blocks_in_all n (cs ++ c ∷ []) ≡ blocks_in_all n cs ++ blocks_of n c
blocks_more n cs c = blocks_append n cs (c ∷ []) ∙ ap (λ (l : List ℕ). blocks_in_all n cs ++ l) (one_chunk n c)

-- the first of some blocks, and those after them
pub blocks_apart : (block first others : ℕ) → blocks_from block (first + others) ≡ blocks_from block first ++ blocks_from (block + first) others
blocks_apart block zero others =
    ap (blocks_from block) (let e : zero + others ≡ others = omega arith in e)
    ∙ ap (λ (b : ℕ). blocks_from b others) (let e : block ≡ block + zero = omega arith in e)
blocks_apart block (suc first) others =
    ap (blocks_from block) (let e : suc first + others ≡ suc (first + others) = omega arith in e)
    ∙ ap (λ (l : List ℕ). block ∷ l) (blocks_apart (block + 1) first others)
    ∙ ap (λ (b : ℕ). (block ∷ blocks_from (block + 1) first) ++ blocks_from b others) (let e : block + 1 + first ≡ block + suc first = omega arith in e)

length_from : (a m : ℕ) → length (blocks_from a m) ≡ m
length_from a zero = refl
length_from a (suc m) = ap suc (length_from (a + 1) m)

pub length_chunk : (n c : ℕ) → length (blocks_of n c) ≡ chunk_size n c
length_chunk n c = length_from (chunk_start c) (chunk_size n c)

pub length_chunks : (n : ℕ) (cs : List ℕ) → length (blocks_in_all n cs) ≡ total (chunk_size n) cs
unfolding total
length_chunks n [] = refl
length_chunks n (c ∷ cs) = omega (arith, length-append (blocks_of n c) (blocks_in_all n cs), length_chunk n c, length_chunks n cs)

module _ {K : Type 0} (does : ℕ → PassState → PassState → K → K → Result Unit JobError → Type 0) (closes : ℕ → PassState → K → K → Result Unit JobError → Type 0) (n : ℕ) where
  pub chunks_below : (cs : List ℕ) (p q : PassState) (k l : K) → DoesChunks does closes n cs p q k l → All (λ c. c < chunk_count n) cs
  chunks_below [] p q k l h = All-nil (λ (c : ℕ). c < chunk_count n)
  chunks_below (c ∷ cs) p q k l h = All-cons (λ (c : ℕ). c < chunk_count n) c cs h.2 (chunks_below cs h.0 q h.1 l h.4)

-- a chunk weighs what it does, and a number past the last one nothing
within_here : (n : ℕ) (g : ℕ → ℕ) (c : ℕ) → c < chunk_count n → within n g c ≡ g c
within_here n g c below = ap (λ (t : Bool). if t then g c else 0) (lt-ltb c (chunk_count n) below)

within_past : (n : ℕ) (g : ℕ → ℕ) (c : ℕ) → chunk_count n ≤ c → within n g c ≡ 0
within_past n g c past = ap (λ (t : Bool). if t then g c else 0) (le-ltb c (chunk_count n) past)

within_few : (n : ℕ) (g : ℕ → ℕ) (l : List ℕ) → total (within n g) l ≤ total g l
unfolding total
within_few n g [] = omega arith
within_few n g (c ∷ l) = ⊎_elim
    (λ (t : c < chunk_count n). omega (arith, within_here n g c t, within_few n g l))
    (λ (t : chunk_count n ≤ c). omega (arith, within_past n g c t, within_few n g l))
    (cases_lt c (chunk_count n))

within_all : (n : ℕ) (g : ℕ → ℕ) (cs : List ℕ) → All (λ c. c < chunk_count n) cs → total (within n g) cs ≡ total g cs
unfolding total
within_all n g [] below = refl
within_all n g (c ∷ cs) below = omega (arith, within_here n g c (All-head (λ (c : ℕ). c < chunk_count n) c cs below), within_all n g cs (All-tail (λ (c : ℕ). c < chunk_count n) c cs below))

-- what a worker drew, by how it ended
pub drawn_none : (n : ℕ) → IsOfDrawn n [] []
unfolding total
drawn_none n = λ g. refl

pub drawn_to_end : (n past : ℕ) (cs : List ℕ) → All (λ c. c < chunk_count n) cs → chunk_count n ≤ past → IsOfDrawn n cs (cs ++ past ∷ [])
drawn_to_end n past cs below behind = λ g. omega (arith, total-snoc (within n g) cs past, within_past n g past behind, within_all n g cs below)

pub drew_past : (n past : ℕ) (cs : List ℕ) → chunk_count n ≤ past → 1 ≤ total (past_weight (chunk_count n)) (cs ++ past ∷ [])
drew_past n past cs behind = omega (arith, total-snoc (past_weight (chunk_count n)) cs past, weighs_one (chunk_count n) past behind)

pub drawn_to_fault : (n chunk : ℕ) (cs : List ℕ) → All (λ c. c < chunk_count n) cs → chunk < chunk_count n → IsOfDrawn n (cs ++ chunk ∷ []) (cs ++ chunk ∷ [])
drawn_to_fault n chunk cs below last = λ g. omega (arith, total-snoc g cs chunk, total-snoc (within n g) cs chunk, within_here n g chunk last, within_all n g cs below)

pub drawn_few : (n : ℕ) (cs drawn : List ℕ) → IsOfDrawn n cs drawn → total (chunk_size n) drawn ≤ n → length (blocks_in_all n cs) ≤ n
drawn_few n cs drawn is few = omega (arith, length_chunks n cs, is (chunk_size n), within_few n (chunk_size n) drawn, few)

-- sums over the numbers below a word
pub past_low : (m word : ℕ) → word ≤ m → sum_below word (past_weight m) ≡ 0
unfolding sum_below
past_low m zero low = refl
past_low m (suc word) low = omega (arith, past_low m word (omega arith), weighs_none m word (omega arith))

within_low : (n : ℕ) (g : ℕ → ℕ) (word : ℕ) → word ≤ chunk_count n → sum_below word (within n g) ≡ sum_below word g
unfolding sum_below
within_low n g zero low = refl
within_low n g (suc word) low = omega (arith, within_low n g word (omega arith), within_here n g word (omega arith))

within_high : (n : ℕ) (g : ℕ → ℕ) (word : ℕ) → chunk_count n ≤ word → sum_below word (within n g) ≡ sum_below (chunk_count n) g
unfolding sum_below
within_high n g zero high = let e : 0 ≡ chunk_count n = omega arith in ap (λ (k : ℕ). sum_below k g) e
within_high n g (suc word) high = ⊎_elim
    (λ (t : word < chunk_count n). let e : suc word ≡ chunk_count n = omega arith in within_low n g (suc word) (omega arith) ∙ ap (λ (k : ℕ). sum_below k g) e)
    (λ (t : chunk_count n ≤ word). omega (arith, within_high n g word t, within_past n g word t))
    (cases_lt word (chunk_count n))

of_drawn : {A : Type 0} (n : ℕ) (g : ℕ → ℕ) (cs : List (Claimed A)) (ds : List (List ℕ)) → AreOfDrawn n cs ds → total (λ (c : Claimed A). total g c.chunks) cs ≡ total (λ (d : List ℕ). total (within n g) d) ds
unfolding total
of_drawn n g [] [] are = refl
of_drawn n g [] (d ∷ ds) are = absurd are
of_drawn n g (c ∷ cs) [] are = absurd are
of_drawn n g (c ∷ cs) (d ∷ ds) are = omega (arith, are.0 g, of_drawn n g cs ds are.1)

-- where the numbers below a word were drawn, once each, so were the first chunks claimed
pub claimed_once : {A : Type 0} (n word : ℕ) (cs : List (Claimed A)) (ds : List (List ℕ)) → AreOfDrawn n cs ds → ((g : ℕ → ℕ) → total (λ d. total g d) ds ≡ sum_below word g) → AreFirstClaimed n cs
claimed_once n word cs ds are drawn = ⊎_elim
    (λ (t : word < chunk_count n). (word, omega arith, λ g. omega (arith, of_drawn n g cs ds are, drawn (within n g), within_low n g word (omega arith))))
    (λ (t : chunk_count n ≤ word). (chunk_count n, omega arith, λ g. omega (arith, of_drawn n g cs ds are, drawn (within n g), within_high n g word t)))
    (cases_lt word (chunk_count n))

some_past : (n : ℕ) (ds : List (List ℕ)) → 0 < length ds → AllDrewPast n ds → 1 ≤ total (λ d. total (past_weight (chunk_count n)) d) ds
unfolding total
some_past n [] some_are past = absurd (omega arith)
some_past n (d ∷ ds) some_are past = omega (arith, past.0)

-- and where a number past them was drawn, all of them are
pub claimed_all : {A : Type 0} (n word : ℕ) (cs : List (Claimed A)) (ds : List (List ℕ)) → AreOfDrawn n cs ds → ((g : ℕ → ℕ) → total (λ d. total g d) ds ≡ sum_below word g) → 0 < length ds → AllDrewPast n ds → AreAllClaimed n cs
claimed_all n word cs ds are drawn some_are past = λ g. ⊎_elim
    (λ (t : word < chunk_count n). absurd (omega (arith, some_past n ds some_are past, drawn (past_weight (chunk_count n)), past_low (chunk_count n) word (omega arith))))
    (λ (t : chunk_count n ≤ word). omega (arith, of_drawn n g cs ds are, drawn (within n g), within_high n g word t))
    (cases_lt word (chunk_count n))

-- the sum over the blocks of chunks is that over the blocks below n
total_from : (G : ℕ → ℕ) (a m : ℕ) → sum_below a G + total G (blocks_from a m) ≡ sum_below (a + m) G
unfolding total sum_below
total_from G a zero = let e : a ≡ a + 0 = omega arith in omega (arith, ap (λ (k : ℕ). sum_below k G) e)
total_from G a (suc m) =
    let here : a + 1 ≡ suc a = omega arith in
    let there : a + 1 + m ≡ a + suc m = omega arith in
    omega (arith, total_from G (a + 1) m, ap (λ (k : ℕ). sum_below k G) here, ap (λ (k : ℕ). sum_below k G) there)

total_chunks : (n : ℕ) (G : ℕ → ℕ) (k : ℕ) → sum_below k (λ c. total G (blocks_of n c)) ≡ sum_below (min (8 * k) n) G
unfolding sum_below
total_chunks n G zero = let e : 0 ≡ min (8 * 0) n = omega arith in ap (λ (j : ℕ). sum_below j G) e
total_chunks n G (suc k) = ⊎_elim
    (λ (t : n < 8 * k).
    let same : 8 * k + chunk_size n k ≡ 8 * k = omega arith in
    let all : min (8 * k) n ≡ min (8 * suc k) n = omega arith in
    omega (arith, total_chunks n G k, total_from G (8 * k) (chunk_size n k), ap (λ (j : ℕ). sum_below j G) same, ap (λ (j : ℕ). sum_below j G) all))
    (λ (t : 8 * k ≤ n).
    let start : min (8 * k) n ≡ 8 * k = omega arith in
    let end : 8 * k + chunk_size n k ≡ min (8 * suc k) n = omega arith in
    omega (arith, total_chunks n G k, total_from G (8 * k) (chunk_size n k), ap (λ (j : ℕ). sum_below j G) start, ap (λ (j : ℕ). sum_below j G) end))
    (cases_lt n (8 * k))

total_count : (n : ℕ) (G : ℕ → ℕ) → sum_below (chunk_count n) (λ c. total G (blocks_of n c)) ≡ sum_below n G
total_count n G = let e : min (8 * chunk_count n) n ≡ n = omega arith in total_chunks n G (chunk_count n) ∙ ap (λ (j : ℕ). sum_below j G) e

total_in_all : (n : ℕ) (G : ℕ → ℕ) (cs : List ℕ) → total G (blocks_in_all n cs) ≡ total (λ c. total G (blocks_of n c)) cs
unfolding total
total_in_all n G [] = refl
total_in_all n G (c ∷ cs) = omega (arith, total-both G (blocks_of n c) (blocks_in_all n cs), total_in_all n G cs)

total_claimed : {A : Type 0} (n : ℕ) (G : ℕ → ℕ) (cs : List (Claimed A)) → total (λ (c : Claimed A). total G (blocks_in_all n c.chunks)) cs ≡ total (λ (c : Claimed A). total (λ (d : ℕ). total G (blocks_of n d)) c.chunks) cs
unfolding total
total_claimed n G [] = refl
total_claimed n G (c ∷ cs) = omega (arith, total_in_all n G c.chunks, total_claimed n G cs)

pub blocks_once : {A : Type 0} (n : ℕ) (cs : List (Claimed A)) → AreFirstClaimed n cs → (G : ℕ → ℕ) → total (λ c. total G (blocks_in_all n c.chunks)) cs ≤ sum_below n G
blocks_once n cs once G = omega (arith, total_claimed n G cs, once.2 (λ c. total G (blocks_of n c)), sum_below_le once.0 (chunk_count n) (λ c. total G (blocks_of n c)) once.1, total_count n G)

pub blocks_all : {A : Type 0} (n : ℕ) (cs : List (Claimed A)) → AreAllClaimed n cs → (G : ℕ → ℕ) → total (λ c. total G (blocks_in_all n c.chunks)) cs ≡ sum_below n G
blocks_all n cs all G = total_claimed n G cs ∙ all (λ c. total G (blocks_of n c)) ∙ total_count n G

-- passes that claimed nothing
abbrev pub none_of_each : {A : Type 0} → List PassState → List (Claimed A)
none_of_each [] = []
none_of_each (p ∷ ps) = record { chunks = []; items = [] } ∷ none_of_each ps

pub none_long : (A : Type 0) (ps : List PassState) → length (none_of_each {A = A} ps) ≡ length ps
none_long A [] = refl
none_long A (p ∷ ps) = ap suc (none_long A ps)

pub none_at : {A : Type 0} (ps : List PassState) (w : ℕ) (c : Claimed A) → get_elem? (none_of_each ps) w ≡ some c → c ≡ record { chunks = []; items = [] }
none_at [] w c at = absurd (some-ne-none c (sym at))
none_at {A = A} (p ∷ ps) zero c at = let nothing : Claimed A = record { chunks = []; items = [] } in sym (some-injective nothing c at)
none_at (p ∷ ps) (suc w) c at = none_at ps w c at

none_total : (A : Type 0) (g : ℕ → ℕ) (ps : List PassState) → total (λ (c : Claimed A). total g c.chunks) (none_of_each {A = A} ps) ≡ 0
unfolding total
none_total A g [] = refl
none_total A g (p ∷ ps) = omega (arith, none_total A g ps)

pub none_once : (A : Type 0) (n : ℕ) (ps : List PassState) → AreFirstClaimed n (none_of_each {A = A} ps)
unfolding sum_below
none_once A n ps = (0, omega arith, λ g. omega (arith, none_total A g ps))

-- counts of ones
pub total_ones : {A : Type 0} (l : List A) → total (λ (a : A). 1) l ≡ length l
unfolding total
total_ones [] = refl
total_ones (x ∷ l) = omega (arith, total_ones l)
