-- What a rewrite of a relation makes of the log and of the lanes.
use Rattle.std.specs.Prelude.{◌≡◌, ◌⊎◌, ℕ, ◌+◌, ◌*◌, ◌<◌, ◌≤◌, Bool, true, false, List, [], ◌∷◌}
use Rattle.std.specs.Prelude.{◌++◌, nat_eq, Option, Some, unwrap_or, if◌then◌else◌}
use mathlib.Core.Option.{some}
use lib.ListN.{get_elem?}
use Rattle.grid.specs.Shape.{total}
use Rattle.chunk_claims.specs.Claims.{sum_below}
use Rattle.pin_core.specs.declared.view.Call.{Call}
use Rattle.pin_core.specs.State.{Page, is_block}
use Rattle.history_core.specs.Log.{Entry, IsEntryOf, Log, image, end_of, log_end, record_bytes}
use Rattle.history_core.specs.Log.{record_size, head_size, place_of, writes_in}
use Rattle.history_core.specs.History.{IsHistory}
use Rattle.history_core.specs.Laws.{Laws}
use Rattle.history_core.specs.Promises.{AreStored}
use Rattle.history_core.specs.State.{State, last_position, stored, failed}
use Rattle.page_jobs.specs.Rewrites.{Outcome, unsound, kept, refused, changed, Rule, outcome_block}
use Rattle.page_jobs.specs.Rewrites.{calls_for, is_ended}

-- the page that a block had at the start
abbrev pub page_at_start : (ℕ → Option Page) → ℕ → Page
page_at_start origin tag = unwrap_or (origin tag) []

-- the rule was followed; a block that isn't sound has no page that the rule changes, if its page is
-- known
abbrev pub IsFair : Rule → (ℕ → Bool) → (ℕ → Option Page) → Outcome → Type 0
IsFair r known origin (unsound b) =
    known (r.tag b) ≡ true → r.changes (page_at_start origin (r.tag b)) ≡ false
IsFair r known origin (kept b i p n) = r.changes p ≡ false
IsFair r known origin (refused b i p n) = r.changes p ≡ true
IsFair r known origin (changed b i p n m) = (r.changes p ≡ true) × (n < m)

-- A backend's calls before the rewrite, what it did in it, and its calls after that
pub record BackendCalls : Type 0 where
  pub before : List Call
  pub done : List Outcome
  pub after : List Call

abbrev pub calls_of_backends : Rule → List BackendCalls → List Call
calls_of_backends r [] = []
calls_of_backends r (p ∷ ps) =
    p.before ++ (calls_for r p.done ++ (p.after ++ calls_of_backends r ps))

abbrev pub all_done : List BackendCalls → List Outcome
all_done [] = []
all_done (p ∷ ps) = p.done ++ all_done ps

-- no backend had a write before, or made one after
abbrev pub WroteNothing : List BackendCalls → Type 0
WroteNothing ps =
    (k : ℕ) (p : BackendCalls) → get_elem? ps k ≡ some p
    → (writes_in p.before ≡ 0) × (writes_in p.after ≡ 0)

-- how often a block is among the outcomes
abbrev pub block_weight : ℕ → Outcome → ℕ
block_weight b o = if nat_eq (outcome_block o) b then 1 else 0

abbrev pub times : ℕ → List Outcome → ℕ
times b os = total (block_weight b) os

-- A rewrite of blocks below n, with any end
pub record Rewrites (r : Rule) (n : ℕ) (known : ℕ → Bool) (origin : ℕ → Option Page)
    (calls : List Call) (ps : List BackendCalls) : Type 0 where
  pub calls_are : calls ≡ calls_of_backends r ps
  pub reads : WroteNothing ps
  -- each outcome is fair, and of a block below n, which is done once at most
  pub fair : (k : ℕ) (o : Outcome) → get_elem? (all_done ps) k ≡ some o → IsFair r known origin o
  pub below : (k : ℕ) (o : Outcome) → get_elem? (all_done ps) k ≡ some o → outcome_block o < n
  pub once : (b : ℕ) → times b (all_done ps) ≤ 1
  -- the blocks below n have tags of their own
  pub apart : (a b : ℕ) → a < n → b < n → r.tag a ≡ r.tag b → a ≡ b

-- A rewrite that did all blocks below n
pub record RewritesAll (r : Rule) (n : ℕ) (known : ℕ → Bool) (origin : ℕ → Option Page)
    (calls : List Call) (ps : List BackendCalls) : Type 0 where
  pub rewrites : Rewrites r n known origin calls ps
  pub all : (b : ℕ) → b < n → times b (all_done ps) ≡ 1
  pub ended : (k : ℕ) (o : Outcome) → get_elem? (all_done ps) k ≡ some o → is_ended o ≡ true

-- an entry is this page of the block of the tag
abbrev pub IsPageEntry : Entry → ℕ → Page → Type 0
IsPageEntry e tag page = e.change ≡ image tag page

-- An entry is the page that the rule makes of a block's page at the start, if that is known
pub record IsRewrite (r : Rule) (n : ℕ) (known : ℕ → Bool) (origin : ℕ → Option Page)
    (e : Entry) : Type 0 where
  pub block : ℕ
  pub below : block < n
  pub page : Page
  pub entered : IsPageEntry e (r.tag block) page
  pub made : known (r.tag block) ≡ true
      → page ≡ r.rewritten (page_at_start origin (r.tag block)) (end_of e)
  pub changes : known (r.tag block) ≡ true → r.changes (page_at_start origin (r.tag block)) ≡ true

-- What the log is after a rewrite with any end
pub record HasRewrites (r : Rule) (n : ℕ) (known : ℕ → Bool) (origin : ℕ → Option Page)
    (log : Log) : Type 0 where
  pub each : (k : ℕ) (e : Entry) → get_elem? log.entries k ≡ some e → IsRewrite r n known origin e
  -- a block has one entry at most
  pub one : (j k tag : ℕ) (d e : Entry) → IsEntryOf log.entries tag j d
      → IsEntryOf log.entries tag k e → j ≡ k

-- the block has an entry
pub record HasEntry (log : Log) (tag : ℕ) : Type 0 where
  pub index : ℕ
  pub entry : Entry
  pub entered : IsEntryOf log.entries tag index entry

-- After the log's bytes are the first bytes of the record that would be next, which is what the
-- rule makes of a block's page at the start; the block has no entry
pub record BeginsRewrite (r : Rule) (n : ℕ) (s : State) (rest : List ℕ) : Type 0 where
  pub entry : Entry
  pub starts : entry.start ≡ s.end
  pub room : end_of entry ≤ last_position
  pub rewrite : IsRewrite r n s.known s.origin entry
  pub new : HasEntry s.log (r.tag rewrite.block) → ⊥
  pub more : List ℕ
  pub begins : rest ++ more ≡ record_bytes s.names entry

-- 1 for a block that the rule changes
abbrev pub change_weight : Rule → (ℕ → Option Page) → ℕ → ℕ
change_weight r origin b = if r.changes (page_at_start origin (r.tag b)) then 1 else 0

-- The log after a rewrite that did all blocks, if the lanes' contents are known
pub record IsRewritten (r : Rule) (n : ℕ) (known : ℕ → Bool) (origin : ℕ → Option Page)
    (log : Log) : Type 0 where
  pub rewrites : HasRewrites r n known origin log
  pub all : (b : ℕ) → b < n → r.changes (page_at_start origin (r.tag b)) ≡ true
      → HasEntry log (r.tag b)
  pub end : log_end log ≡ log.base + record_size * sum_below n (change_weight r origin)

-- What the lane has of a block: the page of an entry, which is durable in the log, or the page that
-- it had at the start
abbrev pub IsAfter : State → ℕ → Type 0
IsAfter s tag =
    ((k : ℕ) × (e : Entry) × (page : Page) × (get_elem? s.log.entries k ≡ some e)
    × IsPageEntry e tag page × (head_size + end_of e ≤ s.log.base + s.device.synced)
    × (stored s tag ≡ Some page)) ⊎ (stored s tag ≡ s.origin tag)

-- each lane's blocks that are there are the pages
-- before or after the rewrite, or their last write failed
abbrev pub LanesHoldEither : State → Type 0
LanesHoldEither s = (tag : ℕ)
    → is_block s.pool.core tag ≡ true → s.known tag ≡ true → failed s tag ≡ false → IsAfter s tag

-- each block whose last write didn't fail has the page of its entry, or, if it has no entry, its
-- page as before
pub record LanesHoldAll (s : State) : Type 0 where
  pub written : (k tag : ℕ) (e : Entry) (page : Page) → get_elem? s.log.entries k ≡ some e
      → IsPageEntry e tag page → s.known tag ≡ true → failed s tag ≡ false
      → stored s tag ≡ Some page
  pub other : (tag : ℕ)
      → is_block s.pool.core tag ≡ true → s.known tag ≡ true → failed s tag ≡ false
      → (HasEntry s.log tag → ⊥) → stored s tag ≡ s.origin tag

-- What the log and the lanes are after a rewrite that did all blocks, and a checkpoint
pub record IsResult (r : Rule) (n : ℕ) (s : State) : Type 0 where
  pub rewritten : IsRewritten r n s.known s.origin s.log
  -- the block of a page that the rule changes has one entry, whose page the lane holds
  pub changed : (b : ℕ) → b < n → r.changes (page_at_start s.origin (r.tag b)) ≡ true
      → (x : HasEntry s.log (r.tag b))
      × IsPageEntry x.entry (r.tag b)
      (r.rewritten (page_at_start s.origin (r.tag b)) (end_of x.entry))
      × (failed s (r.tag b) ≡ false
      → stored s (r.tag b) ≡ Some (r.rewritten (page_at_start s.origin (r.tag b)) (end_of x.entry)))
  -- another one has none, and its page is as before
  pub same : (b : ℕ) → b < n → r.changes (page_at_start s.origin (r.tag b)) ≡ false
      → (HasEntry s.log (r.tag b) → ⊥)
      × (failed s (r.tag b) ≡ false → stored s (r.tag b) ≡ s.origin (r.tag b))

-- A state with the law, whose history is that of a rewrite of all blocks; all entries up to `upto`
-- are stored, and no call is past it
pub record Finishes (r : Rule) (n : ℕ) (s : State) (calls : List Call) (ps : List BackendCalls)
    (upto : ℕ) : Type 0 where
  pub laws : Laws s
  pub history : IsHistory s.known s.origin s.opened_sizes s.log calls
  pub rewrites : RewritesAll r n s.known s.origin calls ps
  pub known : (b : ℕ) → b < n → s.known (r.tag b) ≡ true
  pub there : (b : ℕ) → b < n → is_block s.pool.core (r.tag b) ≡ true
  pub stored_all : AreStored s upto
  pub reached : (k : ℕ) (c : Call) → get_elem? calls k ≡ some c → place_of c ≤ upto
