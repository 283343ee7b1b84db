-- What a pass that loaded blocks lists of them later.
use Rattle.std.specs.Prelude.{◌≡◌, ◌≢◌, ◌⊎◌, ℕ, ◌<◌, ◌^◌, List, [], ◌∷◌, All, Contains, sum}
use mathlib.Core.Option.{some}
use lib.ListN.{get_elem?}
use Rattle.block_tag.specs.declared.tag.Tag.{Tag}
use Rattle.table_rule.specs.declared.opening.Opening.{Opening}
use Rattle.table_rule.specs.Shows.{Devices}
use Rattle.io_counts.specs.declared.shown.IoCounts.{IoCounts}
use Rattle.io_counts.specs.Sums.{io_shown}
use Rattle.buffer_frames.specs.Fetching.{WasUnsoundAtOpening}
use Rattle.backend_pass.specs.declared.manager.Manager.{Manager}
use Rattle.backend_pass.specs.Closing.{ClosesAll, EachPass}
use Rattle.backend_pass.specs.Counts.{io_in_all}
use Rattle.backend_pass.specs.Passes.{KeepsPass, PassState, taken_in}
use Rattle.pool_residents.specs.Residents.{ListsResidents}
use Rattle.page_jobs.specs.Chunks.{Claimed}
use Rattle.page_jobs.specs.Loads.{LoadsAll}

-- the pass at this place claimed all chunks: no other claimed one
abbrev pub ClaimsAlone : {A : Type 0} → ℕ → List (Claimed A) → Type 0
ClaimsAlone {A = A} place claimed = (i : ℕ) (c : Claimed A) → i ≢ place
    → get_elem? claimed i ≡ some c → c.chunks ≡ []

-- The counts have no eviction and no reuse, in any context
pub record NoneTaken (counts : IoCounts) : Type 0 where
  pub evictions : sum counts.evictions ≡ 0
  pub reuses : sum counts.reuses ≡ 0

module _ {L G : Type 0} (d : Devices L G) (o : Opening L G) where
  -- What `close_counted` says of the passes that it was given, and of the counts
  pub record ClosesCounted (ps : List PassState) (counts : IoCounts) : Type 0 where
    pub lanes : List L
    pub log : G
    pub closes : ClosesAll d o ps lanes log
    pub sums : counts ≡ io_shown (io_in_all ps)
    -- if no eviction and no reuse is counted, no pass took a tag from a frame
    pub taken : taken_in (io_in_all ps) ≡ 0 → EachPass (λ p. p.view.cleared ≡ 0) ps

module _ {L G : Type 0} (d : Devices L G) (m : Manager L G) where
  -- A load of these blocks was done to its end, and one pass did all the work, which left it so
  pub record HasLoaded (tags : List Tag) (pass : PassState) : Type 0 where
    -- the blocks' numbers fit their type, as any tag's do
    pub fit : All (λ tag. tag.block < 2 ^ 32) tags
    -- the passes that were to work, before and after
    pub before : List PassState
    pub after : List PassState
    pub loads : LoadsAll d.contents m tags before after
    pub place : ℕ
    pub was : PassState
    pub there : get_elem? before place ≡ some was
    pub is : get_elem? after place ≡ some pass
    pub alone : ClaimsAlone place loads.claimed

  -- Later the same pass listed the blocks that the pool held, which left it so
  pub record ListsLater (pass after : PassState) : Type 0 where
    pub before : PassState
    pub since : KeepsPass pass before
    pub old : List ℕ
    pub new : List ℕ
    pub count : ℕ
    pub lists : ListsResidents m.table before.view after.view old new count

  -- Still later the manager was closed with the same pass and all others, and gave these counts
  pub record ClosesLater (pass : PassState) (counts : IoCounts) : Type 0 where
    pub last : PassState
    pub since : KeepsPass pass last
    pub passes : List PassState
    pub place : ℕ
    pub there : get_elem? passes place ≡ some last
    pub closes : ClosesCounted d m.table.table.shared.key passes counts

  -- If one pass did all the work of a load, and the same pass lists later what the pool holds, and
  -- the close counts no eviction and no reuse, each block of the load is listed, unless its page
  -- wasn't sound as the table was opened. Anything else may be done meanwhile.
  abbrev pub PrewarmedStay : Type 0
  PrewarmedStay =
      (tags : List Tag) (pass after : PassState) (counts : IoCounts)
      → HasLoaded tags pass → (later : ListsLater pass after) → ClosesLater after counts
      → NoneTaken counts
      → All (λ tag. Contains later.lists.listed tag
      ⊎ WasUnsoundAtOpening d.contents m.table tag) tags

  -- a load that has one pass to work is done by it alone
  abbrev pub OneLoadsAlone : Type 0
  OneLoadsAlone =
      (tags : List Tag) (p : PassState) (after : List PassState)
      (x : LoadsAll d.contents m tags (p ∷ []) after) → ClaimsAlone 0 x.claimed
