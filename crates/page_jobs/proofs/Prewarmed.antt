-- What one pass loaded is listed by it later, if the close counts no eviction and no reuse.
use Rattle.std.proofs.Common.{◌≡◌, ◌≢◌, ◌⊎◌, ℕ, zero, suc, ◌<◌, ◌^◌, Bool, true, false, nat_eq, if◌then◌else◌, List, [], ◌∷◌, length, map, get_or, refl, sym, ap, ◌∙◌, subst, eq-eqb, ne_eqb, inl, inr, ⊎_elim, arith}
use Rattle.std.specs.Prelude.{All, Contains, Some, sum}
use Rattle.std.proofs.lemmas.List.Elements.{All-contains, All-from_get_or, All-get_or, Contains-get_or}
use Rattle.std.proofs.lemmas.List.{get_or-map, length-map}
use Rattle.block_tag.specs.declared.catalogue.RelEntry.{RelEntry}
use Rattle.table_rule.proofs.Opens.{length_low, there_at}
use mathlib.Core.Logic.{dite}
use mathlib.Core.Option.{some}
use native.Mathlib.Decide.{ℕ_discrete}
use lib.ListN.{get_elem?}
use Rattle.block_tag.specs.declared.tag.Tag.{Tag}
use Rattle.block_tag.specs.declared.tag.Fork.{Fork}
use Rattle.block_tag.specs.declared.tag.Fork.TheVariants.{Main, Fsm, Vm, Init}
use Rattle.block_tag.specs.Names.{fork_number, fork_of_number, names_block, packed_tag, tag_of_parts}
use Rattle.grid.specs.Shape.{total}
use Rattle.grid.proofs.Sums.{some_term, total-alone}
use Rattle.table_rule.specs.Shows.{Devices}
use Rattle.std.proofs.lemmas.Grind.{common_steps}
use Rattle.chunk_claims.specs.Claims.{sum_below}
use Rattle.frame_table.specs.Seats.{HasResident, frames_of, relations_of}
use Rattle.io_counts.specs.declared.contexts.ByContext.{ByContext}
use Rattle.io_counts.specs.declared.contexts.ContextCounts.{ContextCounts}
use Rattle.io_counts.specs.declared.shown.IoCounts.{IoCounts}
use Rattle.io_counts.specs.Sums.{each_of, io_shown}
use Rattle.backend_pass.specs.declared.manager.Manager.{Manager}
use Rattle.backend_pass.specs.Counts.{io_in_all}
use Rattle.backend_pass.specs.Passes.{PassState, taken_in}
use Rattle.pool_residents.specs.Residents.{IsBlockIn}
use Rattle.page_jobs.proofs.ClosedResidents.{closed_stay}
use Rattle.pool_residents.proofs.Listed.{each_keeps, resident_listed}
use Rattle.page_jobs.specs.Chunks.{AreAllClaimed, Claimed, blocks_in_all}
use Rattle.buffer_frames.specs.Fetching.{WasUnsoundAtOpening}
use Rattle.page_jobs.specs.Prewarmed.{ClaimsAlone, ClosesLater, HasLoaded, ListsLater, NoneTaken, OneLoadsAlone, PrewarmedStay}
use Rattle.page_jobs.proofs.ClaimedChunks.{blocks_all}

-- which blocks a pass dealt with that did all the work
abbrev one_if : ℕ → ℕ → ℕ
one_if i b = if nat_eq b i then 1 else 0

one_here : (i b : ℕ) → b ≡ i → one_if i b ≡ 1
one_here i b e = ap (λ (x : Bool). if x then 1 else 0) (eq-eqb b i e)

one_is : (i b : ℕ) → 0 < one_if i b → b ≡ i
one_is i b more = dite (ℕ_discrete b i) (λ e. e) (λ (n : b ≢ i). absurd (let none : one_if i b ≡ 0 = ap (λ (x : Bool). if x then 1 else 0) (ne_eqb b i n) in omega arith))

one_below : (i n : ℕ) → i < n → 0 < sum_below n (one_if i)
unfolding sum_below
one_below i zero below = absurd (omega arith)
one_below i (suc n) below = dite (ℕ_discrete n i)
    (λ (e : n ≡ i). omega (arith, one_here i n e))
    (λ (o : n ≢ i). let before = one_below i n (omega arith) in omega arith)

no_blocks : (n : ℕ) (g : ℕ → ℕ) (chunks : List ℕ) → chunks ≡ [] → total g (blocks_in_all n chunks) ≡ 0
unfolding total
no_blocks n g chunks none = ap (λ (l : List ℕ). total g (blocks_in_all n l)) none

all_alone : {A : Type 0} (n place : ℕ) (claimed : List (Claimed A)) (c : Claimed A) → AreAllClaimed n claimed → ClaimsAlone place claimed → get_elem? claimed place ≡ some c → (i : ℕ) → i < n → (k : ℕ) × (get_elem? (blocks_in_all n c.chunks) k ≡ some i)
all_alone {A} n place claimed c all alone at i below =
    let own : total (λ (x : Claimed A). total (one_if i) (blocks_in_all n x.chunks)) claimed ≡ total (one_if i) (blocks_in_all n c.chunks)
    = total-alone (λ (x : Claimed A). total (one_if i) (blocks_in_all n x.chunks)) claimed place c at (λ j u other there. no_blocks n (one_if i) u.chunks (alone j u other there)) in
    let found = some_term (one_if i) (blocks_in_all n c.chunks) (let sums = blocks_all n claimed all (one_if i) in let one = one_below i n below in omega arith) in
    (found.0, found.2 ∙ ap (λ (b : ℕ). some b) (one_is i found.1 found.3))

-- an element of a list
read_at : {A : Type 0} (xs : List A) (i : ℕ) (d : A) → i < length xs → get_elem? xs i ≡ some (get_or xs i d)
read_at [] i d inside = absurd (omega arith)
read_at (x ∷ xs) zero d inside = refl
read_at (x ∷ xs) (suc i) d inside = read_at xs i d (omega arith)

-- what isn't gone later wasn't gone before
not_gone : (before after : Bool) → (before ≡ true → after ≡ true) → after ≡ false → before ≡ false
not_gone true after keeps here = absurd (let gone = keeps refl in cc)
not_gone false after keeps here = refl

-- no eviction and no reuse is counted
none_taken : (io : ByContext) (counts : IoCounts) → counts ≡ io_shown io → NoneTaken counts → taken_in io ≡ 0
none_taken io counts is none =
    let evictions : sum (each_of (λ (c : ContextCounts). c.evictions) io) ≡ 0 = ap (λ (c : IoCounts). sum c.evictions) (sym is) ∙ none.evictions in
    let reuses : sum (each_of (λ (c : ContextCounts). c.reuses) io) ≡ 0 = ap (λ (c : IoCounts). sum c.reuses) (sym is) ∙ none.reuses in
    omega arith

-- tags of one number are one, if the numbers of their blocks fit their type
fork_of : (f : Fork) → fork_of_number (fork_number f) ≡ Some f
fork_of Main = refl
fork_of Fsm = refl
fork_of Vm = refl
fork_of Init = refl

same_fork : (f g : Fork) → fork_number f ≡ fork_number g → f ≡ g
same_fork f g e = let one : Some f ≡ Some g = sym (fork_of f) ∙ ap fork_of_number e ∙ fork_of g in cc

fork_low : (f : Fork) → fork_number f < 4
fork_low Main = omega arith
fork_low Fsm = omega arith
fork_low Vm = omega arith
fork_low Init = omega arith

tag_by : (t u : Tag) → t.rel.0 ≡ u.rel.0 → t.fork ≡ u.fork → t.block ≡ u.block → t ≡ u
tag_by t u rel fork block i = record { rel = record { 0 = rel i }; fork = fork i; block = block i }

same_tag : (t u : Tag) → t.block < 2 ^ 32 → u.block < 2 ^ 32 → packed_tag t ≡ packed_tag u → t ≡ u
same_tag t u low short same =
    let f = fork_low t.fork in
    let g = fork_low u.fork in
    tag_by t u (omega arith) (same_fork t.fork u.fork (omega arith)) (omega arith)

block_low : (tag : Tag) → names_block tag ≡ true → tag.block < 2 ^ 32
block_low tag named = grind (arith, common_steps)

tag_among : (relations : List RelEntry) (listed : List Tag) (tag : Tag) → tag.block < 2 ^ 32 → All (IsBlockIn relations) listed → Contains (map packed_tag listed) (packed_tag tag) → Contains listed tag
tag_among relations listed tag low all (k, below, here) =
    let inside : k < length listed = simp length-map at below in
    let found = Contains-get_or listed k tag inside in
    let is : packed_tag (get_or listed k tag) ≡ packed_tag tag = sym (get_or-map packed_tag listed k tag (packed_tag tag) inside) ∙ here in
    subst (λ (t : Tag). Contains listed t) (same_tag (get_or listed k tag) tag (block_low (get_or listed k tag) (All-contains (IsBlockIn relations) listed (get_or listed k tag) all found).named) low is) found

module _ {L G : Type 0} (d : Devices L G) (m : Manager L G) where
  -- a block that the pass has seen in a frame is listed
  seen_is_listed : (pass after : PassState) (counts : IoCounts) (list : ListsLater d m pass after) → ClosesLater d m after counts → NoneTaken counts → (f : ℕ) (tag : Tag) → HasResident f (packed_tag tag) pass.view → Contains (map packed_tag list.lists.listed) (packed_tag tag)
  seen_is_listed pass after counts list close none f tag (k, r, at, frame, tag_is) =
      let sees = list.lists.sees in
      let first = list.since.advances.grows.residents k r at in
      let next = each_keeps list.before.view sees.all after.view sees.each k first.0 first.1 in
      let last = close.since.advances.grows.residents k next.0 next.1 in
      let there = closed_stay d m.table.table.shared.key close.passes close.closes.lanes close.closes.log close.closes.closes
      (close.closes.taken (none_taken (io_in_all close.passes) counts close.closes.sums none)) close.place close.last close.there k last.0 last.1 in
      subst (λ (n : ℕ). Contains (map packed_tag list.lists.listed) n) (first.2.tag ∙ tag_is)
      (resident_listed (frames_of m.table) (map packed_tag list.lists.listed) list.before.view after.view sees k first.0 next.0 first.1
      (let inside = there.inside in let frames = close.closes.closes.opened.frames in let one = next.2.frame in let two = last.2.frame in omega arith)
      (λ no. there.named (last.2.tag ∙ next.2.tag ∙ no))
      next.1
      (not_gone next.0.gone last.0.gone last.2.gone there.there))

  -- and so is each block that it loaded
  loaded_is_listed : (tags : List Tag) (pass after : PassState) (counts : IoCounts) (load : HasLoaded d m tags pass) (list : ListsLater d m pass after) → ClosesLater d m after counts → NoneTaken counts → (i : ℕ) → i < length tags → (tag : Tag) → get_elem? tags i ≡ some tag → tag.block < 2 ^ 32 → Contains list.lists.listed tag ⊎ WasUnsoundAtOpening d.contents m.table tag
  loaded_is_listed tags pass after counts load list close none i below tag at low =
      let c = there_at load.loads.claimed load.place (let low = length_low load.before load.place load.was load.there in let long = load.loads.listed in omega arith) in
      let block = all_alone (length tags) load.place load.loads.claimed c.0 load.loads.all load.alone c.1 i below in
      ⊎_elim
      (λ (y : (f : ℕ) × HasResident f (packed_tag tag) pass.view). inl (tag_among (relations_of m.table) list.lists.listed tag low list.lists.blocks (seen_is_listed pass after counts list close none y.0 tag y.1)))
      (λ y. inr y)
      (let whole = load.loads.each load.place load.was pass c.0 load.there load.is c.1 in
      whole.part.took block.0 i tag (ap (λ (l : List ℕ). get_elem? l block.0) whole.whole ∙ block.1) at)

  pub prewarmed_stay : PrewarmedStay d m
  prewarmed_stay tags pass after counts load list close none =
      let d' : Tag = tag_of_parts 0 Main 0 in
      All-from_get_or (λ (tag : Tag). Contains list.lists.listed tag ⊎ WasUnsoundAtOpening d.contents m.table tag) tags d'
      (λ i below. loaded_is_listed tags pass after counts load list close none i below (get_or tags i d') (read_at tags i d' below)
      (All-get_or (λ (tag : Tag). tag.block < 2 ^ 32) tags i d' below load.fit))

  pub one_alone : OneLoadsAlone d m
  one_alone tags p after x i c other at = absurd (let low = length_low x.claimed i c at in let long = x.listed in other (omega arith))
