-- A cleanup lock is taken, or refused.
use Rattle.std.proofs.Common.{◌≡◌, ◌∙◌, ℕ, Option, Some, Result, Ok, Err, sym, ap, subst}
use Rattle.std.specs.Prelude.{IfErr, IfOk, option_map}
use Rattle.std.proofs.lemmas.Option.{none-some}
use Rattle.block_tag.specs.declared.tag.Tag.{Tag}
use Rattle.block_tag.specs.Names.{packed_tag}
use Rattle.pin_core.specs.declared.view.Content.{Content}
use Rattle.pin_core.specs.declared.view.Content.TheVariants.{Exclusive, Unlocked}
use Rattle.pin_core.specs.declared.view.Link.{Link}
use Rattle.pin_core.specs.declared.view.View.{View}
use Rattle.pin_core.specs.State.{link}
use Rattle.page_core.specs.Steps.{MayWait}
use Rattle.page_core.specs.Kinds.{exclude}
use Rattle.frame_table.specs.Content.{HoldsNoUnentered, exclusive_link}
use Rattle.frame_table.proofs.Unentered.{holds_unmarked}
use Rattle.frame_table.specs.Seats.{Looked, SameMarks, Touches}
use Rattle.content_locks.specs.Locks.{LocksContent}
use Rattle.content_locks.proofs.Locking.{locks_waiting}
use Rattle.cleanup_lock.specs.Cleanup.{CanLockForCleanup, GrantsCleanup, GrantsTry, Retried}
use Rattle.cleanup_lock.specs.Cleanup.{still, again}
use Rattle.cleanup_lock.proofs.Cleaning.{bare}
use Rattle.buffer_frames.specs.Rests.{LinkRests, OnlyTokens}
use Rattle.buffer_frames.specs.Tokens.{HeldFrame, IsPinnedFor, Tokens, held_at}
use Rattle.buffer_frames.proofs.Keeping.{devices_touched, latches_same, link_looked, rests_touched}
use Rattle.backend_pass.specs.Passes.{IsNumbered}
use Rattle.backend_pass.proofs.Relocking.{can_lock}

-- The view has of the frame f what it had but for its content lock and what loads note, and of the others what it had
pub record Cleans (f : ℕ) (v w : View) : Type 0 where
  pub touches : Touches f v w
  pub marks : SameMarks v w
  pub lock : Content
  pub here : Looked (record (link v f) { content = lock }) (link w f)

-- a frame that is pinned rests then
link_cleaned : (h : HeldFrame) (lock : Content) (l m : Link) → Looked (record l { content = lock }) m → LinkRests (Some h) l → LinkRests (Some h) m
link_cleaned h lock l m a r = link_looked (Some h) (record l { content = lock }) m a record {
  calm = record { no_header = r.calm.no_header; assigned = r.calm.assigned; no_copy = r.calm.no_copy; applied = r.calm.applied; no_io = r.calm.no_io; page_home = r.calm.page_home; no_wait = r.calm.no_wait };
  role = r.role;
  tag = r.tag;
  seen = r.seen;
  unlocked = λ none. absurd (none-some h (sym none));
}

pub rests_cleaned : (f : ℕ) (h : HeldFrame) (t : Tokens) (v w : View) → held_at t f ≡ Some h → Cleans f v w → OnlyTokens t v → OnlyTokens t w
rests_cleaned f h t v w there k r = record {
  quiet = devices_touched f v w k.touches r.quiet;
  links = rests_touched f t v w k.touches
      (subst (λ (o : Option HeldFrame). LinkRests o (link w f)) (sym there) (link_cleaned h k.lock (link v f) (link w f) k.here (subst (λ (o : Option HeldFrame). LinkRests o (link v f)) there (r.links f)))) r.links;
  latches = latches_same v w k.touches.partitions r.latches;
}

-- a frame that is pinned for a block has its tag
pub rests_tagged : (tag : Tag) (f : ℕ) (t : Tokens) (v : View) → IsPinnedFor tag f t → OnlyTokens t v → (link v f).tag ≡ Some (packed_tag tag)
rests_tagged tag f t v pinned r = (r.links f).tag ∙ ap (λ (o : Option HeldFrame). option_map HeldFrame.tag o) pinned.there ∙ ap (λ (n : ℕ). Some n) pinned.same

-- what a lock that was asked for leaves
pub cleans_tried : {A E : Type 0} (f : ℕ) (v w : View) (r : Result A E) → Touches f v w → SameMarks v w
    → IfOk r (λ _. Looked (exclusive_link (link v f)) (link w f)) → IfErr r (λ _. Looked (link v f) (link w f)) → Cleans f v w
cleans_tried f v w (Ok x) touches marks taken left = record { touches = touches; marks = marks; lock = Exclusive; here = taken }
cleans_tried f v w (Err why) touches marks taken left = record { touches = touches; marks = marks; lock = (link v f).content; here = left }

-- a pinned frame that rests allows it
pub can_clean : (o : Option HeldFrame) (h : HeldFrame) (l : Link) → o ≡ Some h → l.content ≡ Unlocked → LinkRests o l → CanLockForCleanup l
can_clean o h l e unlocked r = record { lock = can_lock o h l e unlocked r; settled = r.calm.assigned; applied = r.calm.applied; page_home = r.calm.page_home }

-- and a wait, under the pass's number
pub may_wait : (number id : ℕ) (t : Tokens) (v : View) → IsNumbered number id v → OnlyTokens t v → MayWait number v
may_wait number id t v n r = record { own = sym n.number_is; nowhere = λ f. (r.links f).calm.no_wait }

-- the content lock was taken first of all, after turns of the wait or at once
first_locks : (number f : ℕ) (v u : View) → Retried number f v u → (x : View)
    → LocksContent exclude f u x → (y : View) × LocksContent exclude f v y
first_locks number f v u still x locks = (x, locks)
first_locks number f v u (again {u = m} before round) x locks =
    first_locks number f v m before round.looks.under.locked round.looks.under.locks

-- a cleanup lock that was just taken: the frame isn't marked dirty under it
pub none_unentered_cleaned : (number f : ℕ) (v w : View) → GrantsCleanup number f v w
    → (link v f).content ≡ Unlocked → Looked (exclusive_link (link v f)) (link w f)
    → HoldsNoUnentered (link w f)
none_unentered_cleaned number f v w g none a =
    let under = g.grants.under in
    let first = first_locks number f v g.tried g.waits under.locked under.locks in
    holds_unmarked (link w f) (a.dirtied ∙ (bare f v first.0 first.1 none).1)

pub none_unentered_tried : (f : ℕ) (v w : View) → GrantsTry f v w → (link v f).content ≡ Unlocked
    → Looked (exclusive_link (link v f)) (link w f) → HoldsNoUnentered (link w f)
none_unentered_tried f v w g none a = holds_unmarked (link w f)
    (a.dirtied ∙ (bare f v g.locked (locks_waiting exclude f v g.locked g.locks) none).1)
