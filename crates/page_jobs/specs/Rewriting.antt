-- How a worker rewrites a block, and what it does with blocks one after the other.
use Rattle.std.specs.Prelude.{◌≡◌, ◌≢◌, ℕ, ◌+◌, ◌<◌, ◌≤◌, ◌⊎◌, false, true, List, [], ◌∷◌, ◌++◌}
use Rattle.std.specs.Prelude.{length, Option, Some, Result, Err, OnOk, IfOk, IfErr}
use Rattle.block_tag.specs.declared.tag.Fork.{Fork}
use Rattle.block_tag.specs.declared.tag.Tag.{Tag}
use Rattle.block_tag.specs.Names.{packed_tag, tag_of_parts}
use Rattle.page_layout.specs.declared.outcomes.PageRewrite.{PageRewrite}
use Rattle.page_layout.specs.declared.outcomes.RewriteTotals.{RewriteTotals}
use Rattle.page_layout.specs.Outcomes.{IsRewriteWithin, sum_of_rewrite_totals}
use Rattle.page_layout.specs.Soundness.{is_sound_page}
use Rattle.segment_store.specs.Contents.{Pages}
use Rattle.pin_core.specs.declared.view.Content.TheVariants.{Exclusive, Unlocked}
use Rattle.pin_core.specs.declared.view.Call.{Call}
use Rattle.pin_core.specs.declared.view.Call.TheVariants.{Read}
use Rattle.pin_core.specs.declared.view.View.{View}
use Rattle.pin_core.specs.State.{Page, link}
use Rattle.frame_table.specs.Seats.{OnlyRises, relations_of}
use Rattle.buffer_frames.specs.Tokens.{IsPinnedFor, no_tokens, tokens_less}
use Rattle.wal_flush.specs.declared.inserts.InsertError.{InsertError}
use Rattle.wal_flush.specs.declared.inserts.InsertError.TheVariants as put
use Rattle.cleanup_lock.specs.Cleanup.{GrantsCleanup}
use Rattle.buffer_frames.specs.Fetching.{WasUnsoundAtOpening}
use Rattle.buffer_frames.specs.Puts.{PutRefused, RefusalShows, met_put}
use Rattle.backend_pass.specs.declared.manager.Manager.{Manager}
use Rattle.backend_pass.specs.declared.tokens.Exclusive.{Exclusive as Token}
use Rattle.backend_pass.specs.Locks.{HasLock, IsTagged}
use Rattle.backend_pass.specs.Managers.{Belongs}
use Rattle.backend_pass.specs.Passes.{KeepsCalls, KeepsLocks, KeepsMark, PassState, SameButTorn}
use Rattle.page_jobs.specs.declared.ending.JobError.{JobError}
use Rattle.page_jobs.specs.declared.ending.JobError.TheVariants.{LogDown, LogFault, LogFull, Memory}
use Rattle.page_jobs.specs.Parts.{MeetsFault, blocks_in}
use Rattle.page_jobs.specs.Rewrites.{AreOf, EachOutcome, IfRead, IsEnded, IsUnput, Outcome, Rule}
use Rattle.page_jobs.specs.Rewrites.{StopsAtFailure, TornBy, unsound, kept, refused, changed}
use Rattle.page_jobs.specs.Rewrites.{outcome_block, outcome_calls, calls_for, outcome_totals}
use Rattle.page_jobs.specs.Rewrites.{rule_of, result_of}

-- what ends a job, by the refusal of a put
abbrev pub fault_of_put : InsertError → JobError
fault_of_put (put.LogFull end) = LogFull end
fault_of_put (put.LogDown at) = LogDown at
fault_of_put put.LogFault = LogFault

-- the content locks that a pass has of other frames are as they were
abbrev pub KeepsOtherLocks : ℕ → PassState → PassState → Type 0
KeepsOtherLocks f p q = (g : ℕ) → g ≢ f → (link q.view g).content ≡ (link p.view g).content

-- The view still had the content lock of a frame exclusively when its calls were these
pub record HoldsUntil (frame : ℕ) (calls : List Call) (v w : View) : Type 0 where
  pub done : View
  pub since : OnlyRises v done
  pub calls_are : done.calls ≡ calls
  pub held : (link done frame).content ≡ Exclusive
  pub until : OnlyRises done w

-- The view was granted the cleanup lock of the frame that has this packed tag when its calls were
-- those before, and had the lock until they were those after
pub record UnderCleanup (number packed : ℕ) (before after : List Call) (v w : View) : Type 0 where
  pub frame : ℕ
  pub asked : View
  pub granted : View
  pub since : OnlyRises v asked
  pub grants : GrantsCleanup number frame asked granted
  pub tagged : (link granted frame).tag ≡ Some packed
  pub calls_are : granted.calls ≡ before
  pub until : HoldsUntil frame after granted w

-- Calls were made after those before, the last one the backend's read of this page of the block
pub record LastReads (number : ℕ) (tag : Tag) (page : Page)
    (before after : List Call) : Type 0 where
  pub others : List Call
  pub place : ℕ
  pub calls : after ≡ before ++ (others ++ Read number (packed_tag tag) page place ∷ [])

-- after these calls each block that was read was read, and put, under its cleanup lock
abbrev pub AllUnderCleanup : Rule → ℕ → View → View → List Call → List Outcome → Type 0
AllUnderCleanup r number v w calls [] = Unit {0}
AllUnderCleanup r number v w calls (o ∷ os) =
    IfRead o (UnderCleanup number (r.tag (outcome_block o)) calls (calls ++ outcome_calls r o) v w)
    × AllUnderCleanup r number v w (calls ++ outcome_calls r o) os

module _ {L G : Type 0} (contents : L → Option Pages) (m : Manager L G) where
  -- What every call of a rewrite leaves of a pass: it is the same one, and its front isn't before
  -- the old one
  pub record GoesOn (p q : PassState) : Type 0 where
    pub belongs : Belongs contents m q
    pub same : SameButTorn p q
    pub front : p.view.front ≤ q.view.front

  -- The block's cleanup lock is held, with the only token that the pass has
  pub record LocksOne (tag : Tag) (p q : PassState) (e : Token) : Type 0 where
    pub goes : GoesOn p q
    pub mark : KeepsMark p q
    pub torn : q.view.torn ≡ p.view.torn
    pub calls : KeepsCalls p q
    pub met : q.view.met ≡ p.view.met
    pub tag_is : e.pinned.tag ≡ tag
    pub token : IsPinnedFor tag e.pinned.frame q.tokens
    pub last : tokens_less e.pinned.frame q.tokens ≡ no_tokens
    pub locked : HasLock Exclusive e.pinned.frame q
    pub tagged : IsTagged tag e.pinned.frame q
    pub asked : View
    pub since : OnlyRises p.view asked
    pub granted : GrantsCleanup p.view.number e.pinned.frame asked q.view
    -- the pass had no lock of that frame before
    pub unlocked : HasLock Unlocked e.pinned.frame p
    pub others : KeepsOtherLocks e.pinned.frame p q

  -- The put of a page was refused, for this reason, which the pass has seen, and it met that fault,
  -- and no other. Its last call is the read of the block, whose page the rule changes
  pub record PutFails (tag : Tag) (p q : PassState) (why : InsertError) : Type 0 where
    pub frame : ℕ
    pub page : Page
    pub before : PassState
    pub after : PassState
    pub since : OnlyRises p.view before.view
    pub refuses : PutRefused (relations_of m.table) frame tag page why before.view after.view
    -- no device was called after that
    pub until : q.view.device_calls ≡ after.view.device_calls
    pub met : q.view.met ≡ met_put (Err why) p.view.met
    pub shows : RefusalShows why q.view
    pub was : Page
    pub changes : (rule_of tag.rel.0 tag.fork).changes was ≡ true
    pub reads : LastReads p.view.number tag was p.view.calls q.view.calls

  -- The backend of this number followed the rule: a page that isn't sound wasn't as the table was
  -- opened, if that is known; a sound page was put, or its put refused, exactly if the rule changes
  -- it, and the write is past the read
  abbrev pub FollowsRule : ℕ → Fork → ℕ → Outcome → Type 0
  FollowsRule rel fork number (unsound b) =
      WasUnsoundAtOpening contents m.table (tag_of_parts rel fork b)
  FollowsRule rel fork number (kept b i p n) =
      (i ≡ number) × (is_sound_page p ≡ true) × ((rule_of rel fork).changes p ≡ false)
  FollowsRule rel fork number (refused b i p n) =
      (i ≡ number) × (is_sound_page p ≡ true) × ((rule_of rel fork).changes p ≡ true)
  FollowsRule rel fork number (changed b i p n k) =
      (i ≡ number) × (is_sound_page p ≡ true) × ((rule_of rel fork).changes p ≡ true) × (n < k)

  -- The outcome of a sound page of a block, between these two states of the pass
  pub record RewritesPage (tag : Tag) (p q : PassState)
      (r : Result PageRewrite InsertError) : Type 0 where
    pub outcome : Outcome
    pub block : outcome_block outcome ≡ tag.block
    pub calls : q.view.calls ≡ p.view.calls ++ outcome_calls (rule_of tag.rel.0 tag.fork) outcome
    pub follows : FollowsRule tag.rel.0 tag.fork p.view.number outcome
    pub mark : IsUnput outcome → KeepsMark p q
    pub torn : TornBy (rule_of tag.rel.0 tag.fork) (outcome ∷ []) p.view.torn q.view.torn
    pub done : IfOk r
        (λ what. (what ≡ result_of outcome) × IsEnded outcome × (q.view.met ≡ p.view.met))
    pub cause : IfErr r (PutFails tag p q)

  -- A sound page was dealt with under its cleanup lock, which is kept
  pub record RewritesLocked (tag : Tag) (p q : PassState)
      (r : Result PageRewrite InsertError) : Type 0 where
    pub goes : GoesOn p q
    pub tokens : q.tokens ≡ p.tokens
    pub locks : KeepsLocks p q
    pub page : RewritesPage tag p q r

  -- A sound page was dealt with under its cleanup lock; then the lock and the pin were given up
  pub record RewritesHeld (tag : Tag) (frame : ℕ) (p q : PassState)
      (r : Result PageRewrite InsertError) : Type 0 where
    pub goes : GoesOn p q
    pub tokens : q.tokens ≡ no_tokens
    pub unlocked : HasLock Unlocked frame q
    pub others : KeepsOtherLocks frame p q
    pub page : RewritesPage tag p q r
    pub until : HoldsUntil frame
        (p.view.calls ++ outcome_calls (rule_of tag.rel.0 tag.fork) page.outcome) p.view q.view

module _ {L G : Type 0} (contents : L → Option Pages) (m : Manager L G) (rel : ℕ)
    (fork : Fork) where
  -- The put of one of the fork's blocks was refused, for a reason that the error names
  pub record PutIsRefused (p q : PassState) (e : JobError) : Type 0 where
    pub block : ℕ
    pub inside : block < blocks_in m rel fork
    pub why : InsertError
    pub fault : fault_of_put why ≡ e
    pub fails : PutFails contents m (tag_of_parts rel fork block) p q why

  -- why a worker of a rewrite ends before its end: there was no memory, and it met no fault; or it
  -- met this one; or its put was refused
  abbrev pub EndsRewriteFor : PassState → PassState → JobError → Type 0
  EndsRewriteFor p q e =
      ((e ≡ Memory) × (q.view.met ≡ p.view.met))
      ⊎ (MeetsFault contents m rel fork p q e ⊎ PutIsRefused p q e)

  -- These blocks were dealt with one after the other, or the first of them, with these outcomes,
  -- and none after one whose put was refused: the calls are those of the outcomes and no others,
  -- the records that it failed to append are of refused puts, and each page was read, and put,
  -- under its cleanup lock. The pass is the same one, without tokens, with its content locks as
  -- they were, and with its mark as it was if nothing was put
  pub record RewritesBlocks (blocks : List ℕ) (os : List Outcome) (p q : PassState) : Type 0 where
    pub goes : GoesOn contents m p q
    pub spent : q.tokens ≡ no_tokens
    pub locks : KeepsLocks p q
    pub mark : EachOutcome IsUnput os → KeepsMark p q
    pub torn : TornBy (rule_of rel fork) os p.view.torn q.view.torn
    pub calls : q.view.calls ≡ p.view.calls ++ calls_for (rule_of rel fork) os
    pub order : AreOf blocks os
    pub follow : EachOutcome (FollowsRule contents m rel fork p.view.number) os
    pub stopped : StopsAtFailure os
    pub locked : AllUnderCleanup (rule_of rel fork) p.view.number p.view q.view p.view.calls os

  -- All of these blocks were dealt with: no put was refused, and no fault was met
  pub record RewritesWhole (blocks : List ℕ) (os : List Outcome) (p q : PassState) : Type 0 where
    pub course : RewritesBlocks blocks os p q
    pub whole : length os ≡ length blocks
    pub ended : EachOutcome IsEnded os
    pub met : q.view.met ≡ p.view.met

  -- A worker has dealt with these blocks, and counted their outcomes
  pub record CountsRewrites (blocks : List ℕ) (p q : PassState) (t u : RewriteTotals)
      (end : Result Unit JobError) : Type 0 where
    pub outcomes : List Outcome
    pub course : RewritesBlocks blocks outcomes p q
    pub within : IsRewriteWithin u u.blocks
    pub few : u.blocks ≤ t.blocks + length outcomes
    pub whole : OnOk end (RewritesWhole blocks outcomes p q)
    pub totals : OnOk end (u ≡ sum_of_rewrite_totals t (outcome_totals outcomes))
    pub cause : IfErr end (EndsRewriteFor p q)

  -- A block was rewritten, or not, for this reason
  pub record RewritesBlock (block : ℕ) (p q : PassState)
      (r : Result PageRewrite JobError) : Type 0 where
    pub outcomes : List Outcome
    pub course : RewritesBlocks (block ∷ []) outcomes p q
    pub done : IfOk r
        (λ what. (length outcomes ≡ 1)
        × EachOutcome (λ o. (what ≡ result_of o) × IsEnded o) outcomes × (q.view.met ≡ p.view.met))
    pub cause : IfErr r (EndsRewriteFor p q)
