-- What the law says in the field's words.
use Rattle.std.proofs.Common.{◌≡◌, ◌≢◌, ℕ, ◌+◌, ◌<◌, ◌≤◌, true, cond, List, Option, Some, None, sym, refl, ap, subst, ◌∙◌, arith}
use Rattle.std.specs.Prelude.{count_by}
use mathlib.Core.Logic.{dite}
use mathlib.Core.Option.{some, some-injective}
use native.Mathlib.Decide.{ℕ_discrete}
use lib.ListN.{get_elem?}
use Rattle.pin_core.specs.declared.view.Content.{Content}
use Rattle.pin_core.specs.declared.view.Content.TheVariants.{Unlocked, Shared, Exclusive}
use Rattle.pin_core.specs.declared.view.Io.{Io}
use Rattle.pin_core.specs.declared.view.Io.TheVariants.{Quiet, Input, Output}
use Rattle.pin_core.specs.declared.view.Link.{Link}
use Rattle.pin_core.specs.declared.view.View.{View}
use Rattle.pin_core.specs.State.{Frame, Page, link}
use Rattle.pin_core.specs.Tallies.{flag_weight, some_weight}
use Rattle.pin_core.specs.Tallies as pins
use Rattle.page_core.specs.State.{Block, State, block_of}
use Rattle.page_core.specs.Tallies.{Tally, pin, sharers, applied_locks, unapplied_locks, copies, works, outs, weigh, share_weight, exclusive_weight, work_weight, page_shape}
use Rattle.page_core.specs.Invariant.{PageLink, PageInvariant}
use Rattle.page_core.specs.Histories.{IsReached, HasNoUnpin, PinnedTagsStay, is_shared, is_exclusive, is_working, shares, excludes, works_on, ContentLocks, SharersAreFew, OneIo, copies_at, CopyLatches, DirtiedFramesAreDirty, RightsNeedPins, OnePageOut, PagesAreHome, ImagesAreLogged, FramesHoldPages, ValidPagesAreSound, CopiesArePages, IsAwaitedBy, WaitersAreNamed, BackendsWaitOnce, CleanupIsAlone, NewBlocksAreZero}
use Rattle.grid.specs.Shape.{tallies, total}
use Rattle.grid.proofs.Sums.{total-count, total-few, total-add, total-same, total-none, term_le, terms_le}
use Rattle.grid.proofs.Grids.{Relinks}
use Rattle.pin_core.specs.Kinds.{unpin}
use Rattle.pin_core.specs.Steps as pin_steps
use Rattle.pin_core.specs.Schedules.{IsHandedOut}
use Rattle.pin_core.proofs.Tallies.{flag_count}
use Rattle.pin_core.proofs.Stepping.{tags_stay}
use Rattle.pin_core.proofs.Schedules as pin_schedules
use Rattle.pin_core.proofs.Schedules.{PinStays, view_stays, tag_there}
use Rattle.page_core.specs.Kinds.{CanTakePage, Kind, frame_after, link_after, view_after}
use Rattle.page_core.specs.Steps.{Event, pins_and_maps, Step, cores, touches, Run, rests, goes}
use Rattle.page_core.proofs.Cases.{tag_kept, role_kept}
use Rattle.page_core.proofs.Others.{takes_alone, others_absent, others_unlocked}
use Rattle.page_core.proofs.Waits.{waiter}
use Rattle.page_core.proofs.Opening.{opens}
use Rattle.page_core.proofs.Stepping.{relinked, noted_outside, step_keeps, run_keeps}

pub reached : (s : State) → IsReached s → PageInvariant s
reached s r = run_keeps r.run (opens r.config r.origin r.page r.opens)

same_role : (s : State) (f g : ℕ) (k : Kind) (b : Block) (u : View) → Relinks page_shape u (view_after k g b (s.core.frame g) (link u g) u) g (link_after k b (s.core.frame g) (link u g)) → (link (view_after k g b (s.core.frame g) (link u g) u) f).role ≡ (link u f).role
same_role s f g k b u r = dite (ℕ_discrete f g)
    (λ e. subst (λ (z : ℕ). (link (view_after k g b (s.core.frame g) (link u g) u) z).role ≡ (link u z).role) (sym e) (ap (λ (x : Link). x.role) r.here ∙ role_kept k b (s.core.frame g) (link u g)))
    (λ o. ap (λ (x : Link). x.role) (r.else f o))

pub step_stays : {e : Event} {s t : State} (i f : ℕ) → Step e s t → PageInvariant s → IsHandedOut s.core i f → e ≢ pins_and_maps (pin_steps.at i f unpin) → PinStays s.core t.core i f
step_stays i f (cores {s = s} x) h out other = pin_schedules.step_stays i f x h.core out (λ q. other (ap pins_and_maps q))
step_stays i f (touches {s = s} j g k u here live inside a around) h out other = let b = block_of s.logged (s.core.frame g).tag in
    let x = view_stays s.core.views i j f out.0 u (view_after k g b (s.core.frame g) (link u g) u) out.1 out.3 here (same_role s f g k b u (relinked s h j g u here live inside k a)) in
    ((x.0, x.1, out.2, x.2), tags_stay s.core.frame g (frame_after k b (s.core.frame g)) (tag_kept k b (s.core.frame g)) f)

run_stays : {es : List Event} {s t : State} (i f : ℕ) → Run es s t → PageInvariant s → IsHandedOut s.core i f → HasNoUnpin i f es → PinStays s.core t.core i f
run_stays i f rests h out none = (out, refl)
run_stays i f (goes x r) h out none = let a = step_stays i f x h out none.0 in let b = run_stays i f r (step_keeps x h) a.0 none.1 in (b.0, b.1 ∙ a.1)

pub stay : (s : State) → PageInvariant s → PinnedTagsStay s
stay s h i f es t out none r = let x = run_stays i f r h out none in (record { had = tag_there s.core i f h.core out; has = tag_there t.core i f (run_keeps r h).core x.0; same = x.1 }, x.0)

one_sharer : (c : Content) → share_weight c ≡ cond (is_shared c) 1 0
one_sharer Unlocked = refl
one_sharer Shared = refl
one_sharer Exclusive = refl

one_excluder : (c : Content) → exclusive_weight c ≡ cond (is_exclusive c) 1 0
one_excluder Unlocked = refl
one_excluder Shared = refl
one_excluder Exclusive = refl

one_worker : (o : Io) → work_weight o ≡ cond (is_working o) 1 0
one_worker Quiet = refl
one_worker Input = refl
one_worker Output = refl

-- an exclusive lock has its entry applied, or not
applied_or_not : (b : Block) (fr : Frame) (l : Link) → PageLink b fr l → exclusive_weight l.content ≡ weigh applied_locks l + weigh unapplied_locks l
applied_or_not b fr l h = grind (arith, h)

-- two views that have the page out
both_out : (l m : Link) (n : ℕ) → n ≤ 1 → weigh outs l + weigh outs m ≤ n → l.out ≢ None → m.out ≢ None → ⊥
both_out l m n few le o a = grind (arith, few, le, o, a)

pub one_share : (c : Content) → share_weight c ≤ 1
one_share Unlocked = omega arith
one_share Shared = omega arith
one_share Exclusive = omega arith

not_out : (o : Option Page) → some_weight o ≡ 0 → o ≡ None
not_out None e = refl
not_out (Some p) e = absurd (omega arith)

-- a page that is noted, and known to be another
noted_image : (o known : Option Page) → o ≢ None → ((p : Page) → o ≡ Some p → known ≡ Some p) → (p : Page) × (o ≡ Some p) × (known ≡ Some p)
noted_image None known n h = absurd (n refl)
noted_image (Some p) known n h = (p, refl, h p refl)

-- the exclusive lock, the copy latch and the input right let a view take the page out
exclusive_takes : (b : Block) (fr : Frame) (l : Link) → PageLink b fr l → l.out ≡ None → l.content ≡ Exclusive → CanTakePage fr l
exclusive_takes b fr l h home e = record { page_home = home; shared = λ x. absurd (cc); unlocked = λ x. absurd (cc) }

copying_takes : (b : Block) (fr : Frame) (l : Link) → PageLink b fr l → l.out ≡ None → l.copying ≡ true → CanTakePage fr l
copying_takes b fr l h home e = let right = h.copying e in record { page_home = home; shared = λ x. e; unlocked = λ x. absurd (cc) }

input_takes : (b : Block) (fr : Frame) (l : Link) → PageLink b fr l → l.out ≡ None → l.io ≡ Input → CanTakePage fr l
input_takes b fr l h home e = let invalid = (h.input e).1 in record { page_home = home; shared = λ x. (let valid = (h.content (λ z. absurd (cc))).1 in absurd (cc)); unlocked = λ x. e }

pub new_blocks : (s : State) → PageInvariant s → NewBlocksAreZero s
new_blocks s h = record {
  outside = noted_outside s h;
  page = λ i f v there below noted. (h.noted i f v there below noted).page.valid;
  read = λ i f v p there below noted. (h.noted i f v there below noted).page.read p;
  alone = λ i j f v u there here below noted e. dite (ℕ_discrete j i) (λ same. same) (λ o. absurd ((h.noted i f v there below noted).alone j u o here e));
}

module _ (s : State) (h : PageInvariant s) where
  pub locks : (f : ℕ) → f < s.core.frames → ContentLocks s f
  locks f below = let c = h.pages.columns f below in let shared : total (λ (v : View). weigh sharers (link v f)) s.core.views ≡ count_by (shares f) s.core.views = total-count (λ (v : View). weigh sharers (link v f)) (shares f) (λ v. one_sharer (link v f).content) s.core.views in record {
    sharers = c.shared ∙ shared;
    exclusive = sym (total-count (λ (v : View). exclusive_weight (link v f).content) (excludes f) (λ v. one_excluder (link v f).content) s.core.views)
        ∙ total-same (λ (v : View). exclusive_weight (link v f).content) (λ (v : View). weigh applied_locks (link v f) + weigh unapplied_locks (link v f)) s.core.views (λ j v there. applied_or_not (block_of s.logged (s.core.frame f).tag) (s.core.frame f) (link v f) (h.pages.cells j v f there below))
        ∙ total-add (λ (v : View). weigh applied_locks (link v f) + weigh unapplied_locks (link v f)) (λ (v : View). weigh applied_locks (link v f)) (λ (v : View). weigh unapplied_locks (link v f)) (λ v. refl) s.core.views ∙ sym c.exclusive ∙ flag_count (s.core.frame f).exclusive;
    apart = λ e. sym shared ∙ sym c.shared ∙ c.excludes e;
  }

  pub sharers_few : SharersAreFew s
  sharers_few = record {
    counted = λ i f v there below e. let c = h.pages.columns f below in omega (arith, c.shared, term_le (λ (u : View). weigh sharers (link u f)) s.core.views i v there, ap share_weight e);
    few = λ f below. let c = h.pages.columns f below in omega (arith, c.shared, h.core.views.few, total-few (λ (v : View). weigh sharers (link v f)) s.core.views (λ v. one_share (link v f).content));
  }

  pub one_io : (f : ℕ) → f < s.core.frames → OneIo s f
  one_io f below = sym (total-count (λ (v : View). weigh works (link v f)) (works_on f) (λ v. one_worker (link v f).io) s.core.views) ∙ sym (h.pages.columns f below).working ∙ flag_count (s.core.frame f).word.in_progress

  pub copy_latches : (f : ℕ) → f < s.core.frames → CopyLatches s f
  copy_latches f below = record {
    one = sym (total-count (λ (v : View). weigh copies (link v f)) (copies_at f) (λ v. flag_count (link v f).copying) s.core.views) ∙ sym (h.pages.columns f below).copying ∙ flag_count (s.core.frame f).copying;
    sharer = λ i v there e. (h.pages.cells i v f there below).copying e;
  }

  pub dirtied : DirtiedFramesAreDirty s
  dirtied i f v there below e = let x = (h.pages.cells i v f there below).dirtied e in (x.dirty, x.just, x.right)

  pub rights : RightsNeedPins s
  rights = record {
    content = λ i f v there below e. let x = (h.pages.cells i v f there below).content e in (x.0, x.1);
    input = λ i f v there below e. let x = h.pages.cells i v f there below in (x.io (λ q. absurd (cc)), (x.input e).1);
    output = λ i f v there below e. let x = h.pages.cells i v f there below in (x.io (λ q. absurd (cc)), (x.output e).1, (x.output e).0);
  }

  pub one_out : OnePageOut s
  one_out i j f v u there here below a e = dite (ℕ_discrete i j) (λ same. same)
      (λ o. absurd (both_out (link u f) (link v f) (tallies page_shape s.core.views f outs) (h.pages.columns f below).one_out (terms_le (λ (x : View). weigh outs (link x f)) s.core.views j i u v o here there) e a))

  -- if view i may take the page out, and hasn't
  home_beside : (i j f : ℕ) (v u : View) → get_elem? s.core.views i ≡ some v → get_elem? s.core.views j ≡ some u → f < s.core.frames → CanTakePage (s.core.frame f) (link v f) → (link u f).out ≡ None
  home_beside i j f v u there here below a = dite (ℕ_discrete i j)
      (λ e. ap (λ (x : View). (link x f).out) (some-injective u v (sym here ∙ ap (λ (z : ℕ). get_elem? s.core.views z) (sym e) ∙ there)) ∙ a.page_home)
      (λ o. not_out (link u f).out (takes_alone (block_of s.logged (s.core.frame f).tag) (s.core.frame f) (link v f) (link u f) (tallies page_shape s.core.views f) (h.pages.columns f below) (h.pages.cells i v f there below) (h.pages.cells j u f here below)
      (λ k. terms_le (λ (x : View). weigh k (link x f)) s.core.views i j v u (λ e. o (sym e)) there here) a))

  pub pages_home : PagesAreHome s
  pages_home = record {
    exclusive = λ i j f v u there here below home e. home_beside i j f v u there here below (exclusive_takes (block_of s.logged (s.core.frame f).tag) (s.core.frame f) (link v f) (h.pages.cells i v f there below) home e);
    copying = λ i j f v u there here below home e. home_beside i j f v u there here below (copying_takes (block_of s.logged (s.core.frame f).tag) (s.core.frame f) (link v f) (h.pages.cells i v f there below) home e);
    input = λ i j f v u there here below home e. home_beside i j f v u there here below (input_takes (block_of s.logged (s.core.frame f).tag) (s.core.frame f) (link v f) (h.pages.cells i v f there below) home e);
  }

  pub applies : ImagesAreLogged s
  applies i f v there below e = let x = (h.pages.cells i v f there below).unapplied e in noted_image (link v f).image (s.logged (s.core.frame f).tag) x.noted x.image

  pub frames_hold : FramesHoldPages s
  frames_hold f p below tag valid none is = sym ((h.pages.columns f below).page p valid tag.named (total-none (λ (v : View). weigh unapplied_locks (link v f)) s.core.views (λ i v there. ap flag_weight (none i v there))) is)

  pub sound : ValidPagesAreSound s
  sound f below = (h.pages.columns f below).sound

  pub copies_are : CopiesArePages s
  copies_are = record {
    home = λ i f v p there below e. ((h.pages.cells i v f there below).copied p e).home;
    copied = λ i f v p q there below e is. ((h.pages.cells i v f there below).copied p e).is_logged q is;
    read = λ i f v p q there below e is. ((h.pages.cells i v f there below).read p e).is_logged q is;
  }

  awaited_by : (f number : ℕ) → f < s.core.frames → ((j : ℕ) × (u : View) × (get_elem? s.core.views j ≡ some u) × ((link u f).waits ≡ Some number)) → IsAwaitedBy s f number
  awaited_by f number below x = record {
    backend = x.0;
    view = x.1;
    there = x.2;
    named = sym ((h.waits x.0 x.1 x.2).own f number x.3);
    pinned = (h.pages.cells x.0 x.1 f x.2 below).waits (λ none. let waiting = x.3 in absurd (cc));
    waiting = x.3;
  }

  pub waiters : (f : ℕ) → f < s.core.frames → WaitersAreNamed s f
  waiters f below = let c = h.pages.columns f below in let number = (s.core.frame f).word.waiter in record { awaited = λ e. awaited_by f number below (waiter number f s.core.views (c.waited e)); unawaited = c.unwaited }

  pub wait_once : BackendsWaitOnce s
  wait_once = record { own = λ i f number v there. (h.waits i v there).own f number; one = λ i f g v there. (h.waits i v there).one f g }

  pub cleanup_alone : (f : ℕ) → f < s.core.frames → CleanupIsAlone s f
  cleanup_alone f below = record {
    pins = λ i j v u there here other. others_absent (s.core.frame f) (link v f) (link u f) (tallies page_shape s.core.views f) (h.core.grid.columns f below) (beside (pin pins.pins) i j v u there here other);
    locks = λ i j v u there here other. others_unlocked (block_of s.logged (s.core.frame f).tag) (s.core.frame f) (link v f) (link u f) (tallies page_shape s.core.views f) (h.pages.columns f below) (λ k. beside k i j v u there here other);
  }
    where
      beside : (k : Tally) (i j : ℕ) (v u : View) → get_elem? s.core.views i ≡ some v → get_elem? s.core.views j ≡ some u → i ≢ j → weigh k (link v f) + weigh k (link u f) ≤ tallies page_shape s.core.views f k
      beside k i j v u there here other = terms_le (λ (x : View). weigh k (link x f)) s.core.views i j v u (λ e. other (sym e)) there here
