-- The cleanup lock.
use Rattle.std.proofs.Common.{◌≡◌, ◌≢◌, ℕ, ◌<◌, Bool, true, false, Option, Some, None, nat_eq, eq-eqb, ne_eqb, sym, refl, ap, ◌∙◌, subst, arith}
use Rattle.std.specs.Prelude.{◌&&◌, if◌then◌else◌}
use mathlib.Core.Logic.{dite, ◌⊎◌, inl, inr}
use mathlib.Core.Option.{some}
use lib.ListN.{get_elem?}
use native.Mathlib.Decide.{ℕ_discrete}
use Rattle.state_word.specs.declared.word.StateWord.{StateWord}
use Rattle.state_word.specs.Fields.{fields, locked_fields}
use Rattle.pin_core.specs.declared.view.Content.TheVariants.{Unlocked, Exclusive}
use Rattle.pin_core.specs.declared.view.Role.TheVariants.{Absent}
use Rattle.pin_core.specs.declared.view.Link.{Link}
use Rattle.pin_core.specs.declared.view.View.{View}
use Rattle.pin_core.specs.State.{Page, link}
use Rattle.pin_core.specs.Kinds.{lock_header, wait_after}
use Rattle.page_core.specs.Histories.{IsAwaitedBy}
use Rattle.page_core.specs.Kinds.{exclude}
use Rattle.page_core.specs.Steps.{MayWait}
use Rattle.page_core.proofs.Histories.{cleanup_alone, waiters}
use Rattle.history_core.specs.Laws.{Laws}
use Rattle.history_core.specs.State.{State}
use Rattle.frame_table.specs.Content.{CanAwait, CanDropExclusive, exclusive_link, unexclusive_link, waiting_link}
use Rattle.frame_table.specs.FrameSteps.{Did, Looks, looking}
use Rattle.frame_table.specs.FrameSteps as loads
use Rattle.frame_table.specs.Kinds.{FrameKind, pages, pins}
use Rattle.frame_table.specs.Seats.{IsWordOf, Looked, Touches, locked_link}
use Rattle.frame_table.proofs.Told.{loads_link, looked_on, looked_by, quiet, quiet_link}
use Rattle.content_locks.specs.Locks.{LocksContent}
use Rattle.content_locks.proofs.Locking as content
use Rattle.cleanup_lock.specs.Cleanup.{Alone, CanLockForCleanup, OthersAreKeptOut, UnderExclusive, is_waiter, one_token, unawaited_link}
use Rattle.cleanup_lock.proofs.Unpins.{locks_header}

-- a view without a content lock notes no copy, and has marked nothing dirty under one
bare_at : (k : FrameKind) (f found : ℕ) (v w : View) → Did k f v w found → (link v f).content ≡ Unlocked → ((link v f).copied ≡ None) × ((link v f).dirtied ≡ false)
bare_at k f found v w d none = (of_copied (link v f).copied refl, of_dirtied (link v f).dirtied refl)
  where
    of_copied : (o : Option Page) → (link v f).copied ≡ o → (link v f).copied ≡ None
    of_copied None e = e
    of_copied (Some p) e = absurd (((d.laws.invariant.pool.pages.cells d.seat v f d.there d.inside).copied p e).right none)

    of_dirtied : (b : Bool) → (link v f).dirtied ≡ b → (link v f).dirtied ≡ false
    of_dirtied false e = e
    of_dirtied true e = let right = ((d.laws.invariant.pool.pages.cells d.seat v f d.there d.inside).dirtied e).right in let no : Unlocked ≡ Exclusive = sym none ∙ right in absurd (cc)

pub bare : (f : ℕ) (v w : View) → LocksContent exclude f v w → (link v f).content ≡ Unlocked → ((link v f).copied ≡ None) × ((link v f).dirtied ≡ false)
bare f v w (u, was, looks, d) none =
    let e = content.looks_link f v u looks in
    let x = bare_at (pages exclude) f was u w d (ap (λ (l : Link). l.content) e ∙ none) in (sym (ap (λ (l : Link). l.copied) e) ∙ x.0, sym (ap (λ (l : Link). l.dirtied) e) ∙ x.1)

-- the exclusive lock is given up again
pub relocked : (l m n : Link) → l.content ≡ Unlocked → (l.copied ≡ None) × (l.dirtied ≡ false) → Looked (exclusive_link l) m → n ≡ unexclusive_link m → Looked l n
relocked l m n none b a e = subst (Looked l) (sym e) (looked_by l (unexclusive_link m) (ap unexclusive_link (quiet (exclusive_link l) m a) ∙ (λ i. record (quiet_link l) { content = sym none i; dirtied = sym b.1 i; copied = sym b.0 i })) a.seen_valid a.waits a.visited a.left_to_write)

-- and so after a wait was noted, and is over
pub rewaited : (number word : ℕ) (l m n o p : Link) → l.content ≡ Unlocked → l.header ≡ None → (l.copied ≡ None) × (l.dirtied ≡ false) → Looked (locked_link word (exclusive_link l)) m → n ≡ waiting_link number m → o ≡ unexclusive_link n → Looked (unawaited_link o) p → Looked l p
rewaited number word l m n o p none headless b a noted given over = looked_on l (unawaited_link o) p (subst (λ (x : Link). Looked l (unawaited_link x)) (sym (given ∙ ap unexclusive_link noted))
    (looked_by l (unawaited_link (unexclusive_link (waiting_link number m))) (ap (λ (x : Link). unexclusive_link (record x { header = None })) (quiet (locked_link word (exclusive_link l)) m a) ∙ (λ i. record (quiet_link l) { header = sym headless i; content = sym none i; dirtied = sym b.1 i; copied = sym b.0 i })) a.seen_valid (λ none. refl) a.visited a.left_to_write)) over

-- both locks, and a load under them, which shows the word that is held
pub looked_held : (held found : ℕ) (l m n : Link) → Looked (locked_link held l) m → Looked m n → IsWordOf m (fields found) → Looked (locked_link found l) n
looked_held held found l m n a b w = subst (λ (x : StateWord). Looked (record l { header = Some x }) n) (sym (w.held (fields held) a.header)) (looked_on (locked_link held l) m n a b)

-- a wait goes on under its number, or is over
pub wait_same : (number f : ℕ) (v w : View) → Looks f v w → (link v f).waits ≡ Some number → ((link w f).waits ≡ Some number) ⊎ ((link w f).waits ≡ None)
wait_same number f v w loads.still e = inl e
wait_same number f v w (loads.again {u = u} found before d) e = of_wait (wait_same number f v u before e)
  where
    now : (o : Option ℕ) → (link u f).waits ≡ o → (link w f).waits ≡ wait_after (fields found) o
    now o is = ap (λ (l : Link). l.waits) (loads_link f found u w d) ∙ ap (wait_after (fields found)) is

    of_test : (b : Bool) → (link w f).waits ≡ (if b then Some number else None) → ((link w f).waits ≡ Some number) ⊎ ((link w f).waits ≡ None)
    of_test true is = inl is
    of_test false is = inr is

    of_wait : ((link u f).waits ≡ Some number) ⊎ ((link u f).waits ≡ None) → ((link w f).waits ≡ Some number) ⊎ ((link w f).waits ≡ None)
    of_wait (inl on) = of_test (is_waiter number (fields found)) (now (Some number) on)
    of_wait (inr off) = inr (now None off)

-- it is over where a word shows no such waiter
pub wait_over : (number f found : ℕ) (v w : View) → Did looking f v w found → ((link v f).waits ≡ Some number) ⊎ ((link v f).waits ≡ None) → is_waiter number (fields found) ≡ false → (link w f).waits ≡ None
wait_over number f found v w d (inl on) none = ap (λ (l : Link). l.waits) (loads_link f found v w d) ∙ ap (wait_after (fields found)) on ∙ ap (λ (b : Bool). if b then Some number else None) none
wait_over number f found v w d (inr off) none = ap (λ (l : Link). l.waits) (loads_link f found v w d) ∙ ap (wait_after (fields found)) off

pub looked_over : (l m : Link) → Looked l m → m.waits ≡ None → Looked (unawaited_link l) m
looked_over l m a over = looked_by (unawaited_link l) m (quiet l m a) a.seen_valid (λ none. over) a.visited a.left_to_write

-- a word with the bit shows its own number as the waiter's
pub shows_own : (w : StateWord) → w.awaited ≡ true → is_waiter w.waiter w ≡ true
shows_own w on = ap (λ (b : Bool). b && nat_eq w.waiter w.waiter) on ∙ eq-eqb w.waiter w.waiter refl

-- it is another's where the view waits nowhere there
pub another : (f found : ℕ) (v w : View) → Did looking f v w found → (link v f).waits ≡ None → (fields found).awaited ≡ true → (fields found).waiter ≢ v.number
another f found v w d none on own = differ (by.waiting) (ap (λ (x : View). (link x f).waits) same ∙ none)
  where
    by : IsAwaitedBy d.state.pool f (d.state.pool.core.frame f).word.waiter
    by = (waiters d.state.pool d.laws.invariant.pool f d.inside).awaited (ap (λ (x : StateWord). x.awaited) d.says ∙ on)

    differ : (link by.view f).waits ≡ Some (d.state.pool.core.frame f).word.waiter → (link by.view f).waits ≡ None → ⊥
    differ a b = let no : Some (d.state.pool.core.frame f).word.waiter ≡ None = sym a ∙ b in absurd (cc)

    live : by.view.emptied ≡ false
    live = of_flag by.view.emptied refl
      where
        of_flag : (b : Bool) → by.view.emptied ≡ b → by.view.emptied ≡ false
        of_flag false e = e
        of_flag true e = absurd (differ by.waiting (ap (λ (x : View). (link x f).waits) (d.laws.spent by.backend by.view by.there e)))

    place : by.backend ≡ d.seat
    place = sym (d.laws.invariant.pool.core.views.numbered by.backend by.view by.there live) ∙ by.named ∙ ap (λ (x : StateWord). x.waiter) d.says ∙ own ∙ d.laws.invariant.pool.core.views.numbered d.seat v d.there d.live

    same : by.view ≡ v
    same = let a : some by.view ≡ some v = sym by.there ∙ ap (λ (i : ℕ). get_elem? d.state.pool.core.views i) place ∙ d.there in cc

-- the only pin, under the exclusive lock
pub alone_there : (f found : ℕ) (v w : View) (d : Did looking f v w found) → (link v f).content ≡ Exclusive → (link v f).role ≢ Absent → (fields found).pins ≡ 1
    → (j : ℕ) (u : View) → get_elem? d.state.pool.core.views j ≡ some u → j ≢ d.seat → ((link u f).role ≡ Absent) × ((link u f).content ≡ Unlocked)
alone_there f found v w d right pinned single j u at other = let c = cleanup_alone d.state.pool d.laws.invariant.pool f d.inside in (
  c.pins d.seat j v u d.there at (λ e. other (sym e)) (ap (λ (x : StateWord). x.pins) d.says ∙ single) pinned,
  c.locks d.seat j v u d.there at (λ e. other (sym e)) right,
)

pub several : (n : ℕ) → 0 < n → n ≢ 1 → 1 < n
several n any other = omega arith

-- a view may wait that does so nowhere, after steps at f
pub waits_on : (f : ℕ) (v w : View) → Touches f v w → ((link v f).waits ≡ None → (link w f).waits ≡ None) → (number : ℕ) → MayWait number v → MayWait number w
waits_on f v w t here number m = record {
  own = m.own ∙ sym (ap (λ (x : View). x.number) t.self);
  nowhere = λ g. dite (ℕ_discrete g f)
      (λ e. subst (λ (x : ℕ). (link w x).waits ≡ None) (sym e) (here (m.nowhere f)))
      (λ n. ap (λ (l : Link). l.waits) (t.others g n) ∙ m.nowhere g);
}

-- what the cleanup lock asks of a link, after loads
pub can_looked : (l m : Link) → Looked l m → CanLockForCleanup l → CanLockForCleanup m
can_looked l m a c = record {
  lock = record { pinned = λ r. c.lock.pinned (sym a.role ∙ r); seen = a.seen_valid c.lock.seen; none = a.content ∙ c.lock.none };
  settled = a.pending ∙ c.settled;
  applied = a.unapplied ∙ c.applied;
  page_home = a.out ∙ c.page_home;
}

-- one token, or another number
pub one : (tokens : ℕ) → tokens ≡ 1 → one_token tokens ≡ true
one tokens e = eq-eqb tokens 1 e

pub other_number : (tokens : ℕ) → tokens ≢ 1 → one_token tokens ≡ false
other_number tokens n = ne_eqb tokens 1 n

-- others are kept out
pub kept_out : (s : State) (f : ℕ) → Laws s → f < s.pool.core.frames → OthersAreKeptOut s f
kept_out s f laws inside i j v u there at other right = (cleanup_alone s.pool laws.invariant.pool f inside).locks i j v u there at other right

-- the exclusive lock may be given up, after loads, and after a wait was noted
pub drops : (l m : Link) → CanLockForCleanup l → Looked (exclusive_link l) m → CanDropExclusive m
drops l m c a = record { right = a.content; applied = a.unapplied ∙ c.applied; page_home = a.out ∙ c.page_home }

pub drops_awaited : (number word : ℕ) (l m n : Link) → CanLockForCleanup l → Looked (locked_link word (exclusive_link l)) m → n ≡ waiting_link number m → CanDropExclusive n
drops_awaited number word l m n c a e = subst CanDropExclusive (sym e) record { right = a.content; applied = a.unapplied ∙ c.applied; page_home = a.out ∙ c.page_home }

-- the view may become the waiter
pub may_await : (word : ℕ) (l m : Link) → CanLockForCleanup l → Looked (locked_link word (exclusive_link l)) m → (fields word).awaited ≡ false → CanAwait word m
may_await word l m c a free = record { held = a.header; settled = a.pending ∙ c.settled; pinned = λ r. c.lock.pinned (sym a.role ∙ r); right = a.content; free = free }

-- both locks were taken
pub under_both : (f word : ℕ) (v u w : View) → (link v f).role ≢ Absent → (link v f).waits ≡ None → LocksContent exclude f v u → link u f ≡ exclusive_link (link v f) → Looked (locked_link word (link u f)) (link w f)
    → (x : View) × (was : ℕ) × Looks f u x × Did (pins lock_header) f x w was × (fields word ≡ locked_fields (fields was)) → UnderExclusive f v w
under_both f word v u w pinned none locks e a d = record {
  locked = u;
  was = d.1;
  locks = locks;
  header = locks_header f word u w d;
  right = a.content ∙ ap (λ (l : Link). l.content) e;
  pinned = λ r. pinned (sym (a.role ∙ ap (λ (l : Link). l.role) e) ∙ r);
  no_wait = a.waits (ap (λ (l : Link). l.waits) e ∙ none);
}

-- a load shows the only pin
pub alone_at : (f word : ℕ) (v w : View) → Did looking f v w word → (link v f).content ≡ Exclusive → (link v f).role ≢ Absent → (fields word).pins ≡ 1 → Alone f v w
alone_at f word v w d right pinned single = record { word = word; right = right; pinned = pinned; loads = d; single = single; others = alone_there f word v w d right pinned single }

-- the exclusive lock is taken after loads
pub exclusive_looked : (l m : Link) → Looked l m → Looked (exclusive_link l) (exclusive_link m)
exclusive_looked l m a = looked_by (exclusive_link l) (exclusive_link m) (ap exclusive_link (quiet l m a)) a.seen_valid a.waits a.visited a.left_to_write
