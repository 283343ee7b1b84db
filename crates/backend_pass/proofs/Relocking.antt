-- A content lock is taken or given up, or a page is copied under it.
use Rattle.std.proofs.Common.{◌≡◌, ℕ, Bool, false, Option, Some, None, Result, Ok, Err, refl, sym, ap, ◌∙◌, subst}
use Rattle.std.proofs.Common.{List, [], ◌∷◌, ◌++◌}
use Rattle.std.specs.Prelude.{IfErr, IfOk, not, ◌&&◌, if◌then◌else◌}
use Rattle.std.proofs.lemmas.Option.{none-some}
use Rattle.pin_core.specs.declared.view.Content.{Content}
use Rattle.pin_core.specs.declared.view.Content.TheVariants.{Unlocked}
use Rattle.pin_core.specs.declared.view.Role.TheVariants.{HandedOut, Absent}
use Rattle.pin_core.specs.declared.view.Link.{Link}
use Rattle.pin_core.specs.declared.view.View.{View}
use Rattle.pin_core.specs.State.{Frame, link}
use Rattle.page_core.specs.Kinds.{exclude, unentered_after, unexclude}
use Rattle.history_core.specs.Unentered.{HoldsUnentered}
use Rattle.frame_table.specs.FrameSteps.{Did}
use Rattle.frame_table.specs.Kinds.{pages}
use Rattle.frame_table.specs.Content.{CanLock, HoldsNoUnentered, exclusive_link}
use Rattle.frame_table.proofs.Unentered.{holds_unmarked}
use Rattle.content_locks.specs.Locks.{LocksContent}
use Rattle.cleanup_lock.proofs.Cleaning.{bare}
use Rattle.segment_store.specs.Contents.{Pages}
use Rattle.frame_table.specs.Seats.{OnlyRises, SameMarks, Touches}
use Rattle.frame_table.proofs.Rising.{rises_touched}
use Rattle.buffer_frames.specs.Tokens.{HeldFrame, Tokens, held_at}
use Rattle.buffer_frames.specs.Rests.{LinkRests, OnlyTokens, role_of}
use Rattle.buffer_frames.proofs.Keeping.{devices_touched, latches_same, rests_touched}
use Rattle.backend_pass.specs.Locks.{ChangesLock}
use Rattle.backend_pass.specs.declared.manager.Manager.{Manager}
use Rattle.backend_pass.specs.declared.met.Shown.{Shown}
use Rattle.backend_pass.specs.Managers.{Belongs}
use Rattle.backend_pass.specs.Passes.{IsNumbered, IsShown, PassState, SameButUnentered, own_of}
use Rattle.backend_pass.proofs.Owning.{beside_of, own_in}
use Rattle.backend_pass.proofs.Releasing.{AreHeld, belongs_held, numbered_self, shown_self}

-- what a link is but for the content lock, and what was copied, marked or entered under it
abbrev pub beside_lock : Link → Link
beside_lock l = record l { content = Unlocked; copied = None; dirtied = false; entered = false }

-- The view has of the frame f what it had but for these, and of the others what it had
pub record Relocks (f : ℕ) (v w : View) : Type 0 where
  pub touches : Touches f v w
  pub marks : SameMarks v w
  pub beside : beside_lock (link w f) ≡ beside_lock (link v f)

-- a frame that is pinned rests then
pub link_relocked : (h : HeldFrame) (l m : Link) → beside_lock m ≡ beside_lock l → LinkRests (Some h) l → LinkRests (Some h) m
link_relocked h l m e r = record {
  calm = record {
    no_header = ap (λ (x : Link). x.header) e ∙ r.calm.no_header;
    assigned = ap (λ (x : Link). x.pending) e ∙ r.calm.assigned;
    no_copy = ap (λ (x : Link). x.copying) e ∙ r.calm.no_copy;
    applied = ap (λ (x : Link). x.unapplied) e ∙ r.calm.applied;
    no_io = ap (λ (x : Link). x.io) e ∙ r.calm.no_io;
    page_home = ap (λ (x : Link). x.out) e ∙ r.calm.page_home;
    no_wait = ap (λ (x : Link). x.waits) e ∙ r.calm.no_wait;
  };
  role = ap (λ (x : Link). x.role) e ∙ r.role;
  tag = ap (λ (x : Link). x.tag) e ∙ r.tag;
  seen = λ some. ap (λ (x : Link). x.seen_valid) e ∙ r.seen some;
  unlocked = λ none. absurd (none-some h (sym none));
}

pub rests_relocked : (f : ℕ) (h : HeldFrame) (t : Tokens) (v w : View) → held_at t f ≡ Some h → Relocks f v w → OnlyTokens t v → OnlyTokens t w
rests_relocked f h t v w there k r = record {
  quiet = devices_touched f v w k.touches r.quiet;
  links = rests_touched f t v w k.touches
      (subst (λ (o : Option HeldFrame). LinkRests o (link w f)) (sym there) (link_relocked h (link v f) (link w f) k.beside (subst (λ (o : Option HeldFrame). LinkRests o (link v f)) there (r.links f)))) r.links;
  latches = latches_same v w k.touches.partitions r.latches;
}

-- and the content lock there is this one
pub changes_lock : (lock : Content) (f : ℕ) (a p q : PassState) → a ≡ p → Relocks f a.view q.view → (link q.view f).content ≡ lock → ChangesLock lock f p q
changes_lock lock f a p q e k here = subst (λ (x : PassState). ChangesLock lock f x q) e record { here = here; others = k.touches.others }

-- The view gave up its exclusive lock of the frame f, and may have noted the block as unentered
abbrev pub GivesUp : ℕ → View → View → Type 0
GivesUp f v w = Relocks f (record v { unentered = w.unentered }) w

-- a view with other blocks noted has the rest that it had
rests_noted : (t : Tokens) (tags : List ℕ) (v : View) → OnlyTokens t v
    → OnlyTokens t (record v { unentered = tags })
rests_noted t tags v r = record {
  quiet = record {
    live = r.quiet.live;
    free = r.quiet.free;
    home = r.quiet.home;
    sizes = r.quiet.sizes;
    log = r.quiet.log;
  };
  links = r.links;
  latches = r.latches;
}

pub rests_given_up : (f : ℕ) (h : HeldFrame) (t : Tokens) (v w : View) → held_at t f ≡ Some h
    → GivesUp f v w → OnlyTokens t v → OnlyTokens t w
rests_given_up f h t v w there k r = rests_relocked f h t (record v { unentered = w.unentered }) w
    there k (rests_noted t w.unentered v r)

pub numbered_given_up : (number id f : ℕ) (v w : View) → GivesUp f v w → IsNumbered number id v
    → IsNumbered number id w
numbered_given_up number id f v w k n =
    numbered_self number id (record v { unentered = w.unentered }) w k.touches.self
    record { number_is = n.number_is; first = n.first }

pub shown_given_up : (f : ℕ) (v w : View) (s : Shown) → GivesUp f v w → IsShown v s → IsShown w s
shown_given_up f v w s k n =
    shown_self (record v { unentered = w.unentered }) w s k.touches.self
    record { front = n.front; reads = n.reads; writes = n.writes; logs = n.logs }

pub rises_given_up : (f : ℕ) (v w : View) → GivesUp f v w → OnlyRises v w
rises_given_up f v w k =
    let r = rises_touched f (record v { unentered = w.unentered }) w k.touches in record {
      grows = record {
        loads = r.grows.loads;
        changes = r.grows.changes;
        steps = r.grows.steps;
        residents = r.grows.residents;
      };
      swept = r.swept;
      end_seen = r.end_seen;
      flushed = r.flushed;
      down = r.down;
    }

pub same_given_up : (f : ℕ) (p q : PassState) → q.table ≡ p.table → q.id ≡ p.id
    → beside_of q ≡ beside_of p → GivesUp f p.view q.view → SameButUnentered p q
same_given_up f p q table id census k = let e = k.touches.self in record {
  keeps = record {
    table = table;
    id = id;
    own = ap own_in census;
    number = ap (λ (x : View). x.number) e;
    next = ap (λ (x : View). x.next) e;
    joined = ap (λ (x : View). x.joined) e;
    kept = ap (λ (x : View). x.joined_checkpoints) e;
    advances = rises_given_up f p.view q.view k;
  };
  upto = ap (λ (x : View). x.upto) e;
  published = ap (λ (x : View). x.published) e;
  torn = ap (λ (x : View). x.torn) e;
}

pub lock_given_up : (f : ℕ) (a p q : PassState) → a ≡ p → GivesUp f a.view q.view
    → (link q.view f).content ≡ Unlocked → ChangesLock Unlocked f p q
lock_given_up f a p q e k here = subst (λ (x : PassState). ChangesLock Unlocked f x q) e
    record { here = here; others = k.touches.others }

pub given_up_from : (a p q : PassState) → a ≡ p → SameButUnentered a q → SameButUnentered p q
given_up_from a p q e same = subst (λ (x : PassState). SameButUnentered x q) e same

-- The block is noted if the frame was marked dirty under the lock and no entry made
pub noted_given_up : (f was tag : ℕ) (v w : View) → Did (pages unexclude) f v w was
    → (link v f).tag ≡ Some tag → HoldsUnentered (link v f)
    → w.unentered ≡ v.unentered ++ tag ∷ []
noted_given_up f was tag v w d pinned h =
    ap (λ (x : View). x.unentered) d.after ∙ is
    ∙ ap (λ (t : ℕ). v.unentered ++ t ∷ [])
    ((d.laws.invariant.pool.core.grid.cells d.seat v f d.there d.inside).remembers tag pinned).1
  where
    fr : Frame
    fr = d.state.pool.core.frame f

    noted_if : Bool → List ℕ
    noted_if b = if b then v.unentered ++ fr.tag ∷ [] else v.unentered

    is : unentered_after unexclude fr (link v f) v.unentered ≡ v.unentered ++ fr.tag ∷ []
    is = ap (λ (b : Bool). noted_if (b && not (link v f).entered)) h.dirtied
        ∙ ap (λ (b : Bool). noted_if (not b)) h.unentered

-- what a pinned frame that rests allows
pub can_lock : (o : Option HeldFrame) (h : HeldFrame) (l : Link) → o ≡ Some h → l.content ≡ Unlocked → LinkRests o l → CanLock l
can_lock o h l e unlocked r = record {
  pinned = λ absent. handed (sym absent ∙ r.role ∙ ap (λ (x : Option HeldFrame). role_of x) e);
  seen = r.seen (λ none. none-some h (sym none ∙ e));
  none = unlocked;
}
  where
    handed : Absent ≡ HandedOut → ⊥
    handed e = cc

-- the same tokens
pub held_same : (t : Tokens) → AreHeld t t
held_same t g h e = (h, e, refl)

-- an exclusive lock that was just taken: the frame isn't marked dirty under it
pub none_unentered_locked : (f : ℕ) (v w : View) → LocksContent exclude f v w
    → (link v f).content ≡ Unlocked → link w f ≡ exclusive_link (link v f)
    → HoldsNoUnentered (link w f)
none_unentered_locked f v w locks none e = holds_unmarked (link w f)
    (ap (λ (l : Link). l.dirtied) e ∙ (bare f v w locks none).1)

-- and a link that has no other mark and no other entry under the lock
pub none_unentered_still : (l m : Link) → m.content ≡ l.content → m.dirtied ≡ l.dirtied
    → m.entered ≡ l.entered → HoldsNoUnentered l → HoldsNoUnentered m
none_unentered_still l m content dirtied entered none h = none record {
  right = sym content ∙ h.right;
  dirtied = sym dirtied ∙ h.dirtied;
  unentered = sym entered ∙ h.unentered;
}

-- a lock that was tried
pub relocks_tried : {A E : Type 0} (change : Link → Link) (f : ℕ) (v w : View) (r : Result A E) → ((l : Link) → beside_lock (change l) ≡ beside_lock l) → Touches f v w → SameMarks v w
    → IfOk r (λ _. link w f ≡ change (link v f)) → IfErr r (λ _. link w f ≡ link v f) → Relocks f v w
relocks_tried change f v w (Ok x) same touches marks taken left = record { touches = touches; marks = marks; beside = ap beside_lock taken ∙ same (link v f) }
relocks_tried change f v w (Err why) same touches marks taken left = record { touches = touches; marks = marks; beside = ap beside_lock left }

-- what holds where it was refused
pub kept_taken : {A E : Type 0} (P : Type 0) (r : Result A E) (x : A) → r ≡ Ok x → IfErr r (λ _. P)
kept_taken P (Ok z) x e = tt
kept_taken P (Err why) x e = absurd (cc)

pub kept_refused : {A E : Type 0} (P : Type 0) (r : Result A E) (why : E) → r ≡ Err why → P → IfErr r (λ _. P)
kept_refused P (Ok z) why e p = tt
kept_refused P (Err z) why e p = p

-- what a lock that was taken tells, and one that was refused
pub lock_taken : {A E : Type 0} (P : Type 0) (r : Result A E) (x : A) → r ≡ Ok x → P → IfOk r (λ _. P)
lock_taken P (Ok z) x e p = p
lock_taken P (Err why) x e p = tt

pub lock_refused : {A E : Type 0} (P : Type 0) (r : Result A E) (why : E) → r ≡ Err why → IfOk r (λ _. P)
lock_refused P (Ok z) why e = absurd (cc)
lock_refused P (Err other) why e = tt

module _ {L G : Type 0} (contents : L → Option Pages) (m : Manager L G) where
  pub belongs_given_up : (f : ℕ) (p q : PassState) → q.table ≡ p.table → own_of q ≡ own_of p
      → GivesUp f p.view q.view → AreHeld p.tokens q.tokens → Belongs contents m p
      → Belongs contents m q
  belongs_given_up f p q table own k = belongs_held contents m p q table own
      (ap (λ (x : View). x.calls) k.touches.self)
      (ap (λ (x : View). x.front) k.touches.self)
      (rises_given_up f p.view q.view k).end_seen
