-- Chunks that workers claim, each once.
use Rattle.std.specs.Prelude.{◌≡◌, ℕ, zero, suc, ◌+◌, ◌-◌, ◌<◌, ◌≤◌, ◌^◌, List, [], ◌∷◌, ◌++◌}
use Rattle.std.specs.Prelude.{nat_lt, if◌then◌else◌}
use mathlib.Core.Option.{some}
use lib.ListN.{get_elem?}
use Rattle.grid.specs.Shape.{total}
use Rattle.atomic_table.specs.Table.{Me, State, Step}
use Rattle.atomic_table.specs.Seated.{TableId}
use Rattle.atomic_table.specs.declared.shared.Seat.{Seat}
use Rattle.chunk_claims.specs.declared.claimant.Claimant.{Claimant}
use Rattle.chunk_claims.specs.declared.claims.Work.{Work}

-- the sum of g over the numbers below n
unfoldable pub sum_below : ℕ → (ℕ → ℕ) → ℕ
sum_below zero g = 0
sum_below (suc n) g = sum_below n g + g n

-- 1 for a number that is no chunk of n
abbrev pub past_weight : ℕ → ℕ → ℕ
past_weight n x = if nat_lt x n then 0 else 1

-- the claims of all workers, before the first
abbrev pub first_claimant : Work → Claimant
first_claimant w =
    record { chunks = w.chunks; workers = w.workers; parts = w.workers; past = 0; drawn = [] }

abbrev pub with_draw : ℕ → Claimant → Claimant
with_draw n c = record c { past = c.past + past_weight c.chunks n; drawn = c.drawn ++ n ∷ [] }

-- a part is cut off
abbrev pub less_a_part : Claimant → Claimant
less_a_part c = record c { parts = c.parts - 1 }

abbrev pub with_one_part : Claimant → Claimant
with_one_part c = record { chunks = c.chunks; workers = c.workers; parts = 1; past = 0; drawn = [] }

-- a seat without a part may not know the work, so the other one's is taken
abbrev pub joined_claimants : Claimant → Claimant → Claimant
joined_claimants c d = record {
  chunks = d.chunks;
  workers = d.workers;
  parts = c.parts + d.parts;
  past = c.past + d.past;
  drawn = c.drawn ++ d.drawn;
}

abbrev pub spent_claimant : Claimant
spent_claimant = record { chunks = 0; workers = 0; parts = 0; past = 0; drawn = [] }

-- Claims of this work: at most one number past the last chunk for each part, and none at all
-- without a part
pub record IsClaimant (w : Work) (c : Claimant) : Type 0 where
  pub past : c.past ≤ c.parts
  pub none : c.parts ≡ 0 → c.drawn ≡ []
  pub some : 0 < c.parts → (c.chunks ≡ w.chunks) × (c.workers ≡ w.workers)

-- The numbers that were drawn are those below the word, each once, however they are weighed
pub record AreClaimed (w : Work) (word : ℕ) (claimants : List Claimant) : Type 0 where
  pub parts : total (λ (c : Claimant). c.parts) claimants ≡ w.workers
  pub drawn : (g : ℕ → ℕ) → total (λ (c : Claimant). total g c.drawn) claimants ≡ sum_below word g
  pub bound : word ≤ w.chunks + total (λ (c : Claimant). c.past) claimants
  pub each : (i : ℕ) (c : Claimant) → get_elem? claimants i ≡ some c → IsClaimant w c

-- The law
pub record ClaimsHold (w : Work) (s : State (Unit {0}) Claimant) : Type 0 where
  pub word : ℕ
  pub words : s.words ≡ word ∷ []
  pub few : w.chunks + w.workers < 2 ^ 63
  pub are : AreClaimed w word s.views

-- A number was drawn, and what the seat has drawn is at most what there is up to it
abbrev pub Draws : Step (Unit {0}) → Me (Unit {0}) Claimant → ℕ → Me (Unit {0}) Claimant → Type 0
Draws s v found w =
    (w ≡ (with_draw found v.0, v.1)) × ((g : ℕ → ℕ) → total g w.0.drawn ≤ sum_below (found + 1) g)

-- Nothing changed. What the seat drew is at most what there is below the number found. With a part,
-- that number is at most the chunks and the workers together; with the parts of all workers, the
-- seat drew the numbers below it, each once
abbrev pub Counts : Step (Unit {0}) → Me (Unit {0}) Claimant → ℕ → Me (Unit {0}) Claimant → Type 0
Counts s v found w =
    (w ≡ v)
    × ((g : ℕ → ℕ) → total g v.0.drawn ≤ sum_below found g)
    × (0 < v.0.parts
    → (found ≤ v.0.chunks + v.0.workers)
    × (v.0.parts ≡ v.0.workers → (g : ℕ → ℕ) → total g v.0.drawn ≡ sum_below found g))

-- A seat of this table, which holds no slot
pub record SitsAt (id : TableId) (seat : Seat (Unit {0}) Claimant) : Type 0 where
  pub table : seat.table_id ≡ id
  pub free : seat.me.1 ≡ []
