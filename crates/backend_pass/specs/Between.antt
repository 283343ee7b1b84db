-- A pass between calls: which tokens and content locks it has, and what calls leave of them.
use Rattle.std.specs.Prelude.{◌≡◌, ◌≢◌, ◌+◌, ◌<◌, ℕ, List, length, Option, slice_index_or}
use Rattle.segment_store.specs.Contents.{Pages}
use Rattle.pin_core.specs.declared.view.Content.{Content}
use Rattle.pin_core.specs.declared.view.Content.TheVariants.{Unlocked}
use Rattle.clock_sweep.specs.FreeFrames.{all_parts}
use Rattle.buffer_frames.specs.Tokens.{IsPinnedFor, no_tokens, tokens_less}
use Rattle.backend_pass.specs.declared.manager.Manager.{Manager}
use Rattle.backend_pass.specs.declared.pinned.Pinned.{Pinned}
use Rattle.backend_pass.specs.Locks.{HasLock}
use Rattle.backend_pass.specs.Managers.{Belongs}
use Rattle.backend_pass.specs.Passes.{KeepsLocks, KeepsPass, PassState, SamePass}

-- the pass has no content lock
abbrev pub HasNoLock : PassState → Type 0
HasNoLock p = (f : ℕ) → HasLock Unlocked f p

-- The pass has this token, and no content lock of its frame
pub record HasToken (pinned : Pinned) (p : PassState) : Type 0 where
  pub token : IsPinnedFor pinned.tag pinned.frame p.tokens
  pub unlocked : HasLock Unlocked pinned.frame p

-- The pass is number i of a manager's `passes`, and has taken in none of the others
pub record IsNumber (passes i : ℕ) (p : PassState) : Type 0 where
  pub number : p.view.number ≡ i
  pub joined : p.view.joined ≡ 0
  -- the first one has given the numbers of all others
  pub next : i ≡ 0 → p.view.next ≡ passes
  -- each other has one part of the free list, and the first one what is left
  pub rest : i ≡ 0 → p.queue.known.parts + passes ≡ all_parts + 1
  pub part : i ≢ 0 → p.queue.known.parts ≡ 1

module _ {L G : Type 0} (contents : L → Option Pages) (m : Manager L G) where
  -- The pass is the manager's, and has no token
  pub record HasNoTokens (p : PassState) : Type 0 where
    pub belongs : Belongs contents m p
    pub spent : p.tokens ≡ no_tokens

  -- The pass is the manager's, and has no content lock
  pub record IsUnlocked (p : PassState) : Type 0 where
    pub belongs : Belongs contents m p
    pub unlocked : HasNoLock p

  -- The pass is the manager's, and has neither a token nor a content lock
  pub record IsIdlePass (p : PassState) : Type 0 where
    pub belongs : Belongs contents m p
    pub spent : p.tokens ≡ no_tokens
    pub unlocked : HasNoLock p

  -- The pass is number i of the manager's `passes`, and has no token, so that it can be given back
  -- with the others
  pub record CanGoBack (passes i : ℕ) (p : PassState) : Type 0 where
    pub is : IsNumber passes i p
    pub free : HasNoTokens p

  -- The pass has this token alone, this content lock of its frame, and no other content lock
  pub record HasOnlyToken (lock : Content) (pinned : Pinned) (p : PassState) : Type 0 where
    pub belongs : Belongs contents m p
    pub token : IsPinnedFor pinned.tag pinned.frame p.tokens
    pub last : tokens_less pinned.frame p.tokens ≡ no_tokens
    pub locked : HasLock lock pinned.frame p
    pub others : (f : ℕ) → f ≢ pinned.frame → HasLock Unlocked f p

  -- Calls left the pass the same, and idle again
  pub record Returns (p q : PassState) : Type 0 where
    pub same : KeepsPass p q
    pub idle : IsIdlePass q

  -- Calls left each pass of a list the same, and idle again
  abbrev pub AllReturn : List PassState → List PassState → Type 0
  AllReturn ps qs = (i : ℕ) (d : PassState) → i < length ps
      → Returns (slice_index_or ps i d) (slice_index_or qs i d)

  -- Calls left the pass the same, with the tokens and the content locks that it had
  pub record KeepsHeld (p q : PassState) : Type 0 where
    pub belongs : Belongs contents m q
    pub same : SamePass p q
    pub tokens : q.tokens ≡ p.tokens
    pub locks : KeepsLocks p q

  -- Calls left the pass the same, with all its tokens but one of the frame f, and with its content
  -- locks
  pub record GivesOneBack (f : ℕ) (p q : PassState) : Type 0 where
    pub belongs : Belongs contents m q
    pub same : SamePass p q
    pub tokens : q.tokens ≡ tokens_less f p.tokens
    pub locks : KeepsLocks p q
