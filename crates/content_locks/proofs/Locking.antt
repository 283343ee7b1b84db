-- Content locks and copies.
use Rattle.std.proofs.Common.{◌≡◌, ◌≢◌, ℕ, Bool, true, false, Option, Some, None, cond, sym, refl, ap, ◌∙◌, subst, arith}
use mathlib.Core.Logic.{inl, inr}
use Rattle.pin_core.specs.declared.view.Content.{Content}
use Rattle.pin_core.specs.declared.view.Content.TheVariants.{Unlocked, Shared, Exclusive}
use Rattle.pin_core.specs.declared.view.Io.{Io}
use Rattle.pin_core.specs.declared.view.Io.TheVariants.{Quiet, Input, Output}
use Rattle.pin_core.specs.declared.view.Link.{Link}
use Rattle.pin_core.specs.declared.view.View.{View}
use Rattle.page_layout.specs.Soundness.{is_sound_page}
use Rattle.pin_core.specs.State.{Page, link}
use Rattle.page_core.specs.Kinds as paged
use Rattle.frame_table.specs.Kinds.{FrameKind, pages}
use Rattle.frame_table.specs.Seats.{SameMarks, Touches}
use Rattle.frame_table.specs.FrameSteps.{Did}
use Rattle.frame_table.specs.Content.{copying_link, looking_content, has_exclusive}
use Rattle.frame_table.specs.PageWork.{MayReturnPage, applied_link, input_page, page_due, page_out_link, read_home, returned_link}
use Rattle.frame_table.proofs.Told.{link_is, touches, touches_on, touches_none}
use Rattle.frame_table.proofs.Marks.{did_marks, marks_none, marks_on}
use Rattle.frame_table.proofs.Contents.{own_share, own_exclusive}
use Rattle.frame_table.proofs.Seeing.{shows_holder}
use Rattle.content_locks.specs.Locks.{LooksAtContent, still, again, LocksAtOnce, LocksContent, RefusesLock, ShowsLock, MayCopy, copied_link, copying_link_if}
use Rattle.content_locks.specs.declared.locks.TryLock.{TryLock}
use Rattle.content_locks.specs.declared.locks.TryLock.TheVariants.{Busy, Changed}

-- loads of the content word leave what the view has there, and all else
pub looks_touch : (f : ℕ) (v w : View) → LooksAtContent f v w → Touches f v w
looks_touch f v w still = touches_none f v
looks_touch f v w (again {u = u} found before d) = touches_on f v u w (looks_touch f v u before) (touches looking_content (λ s g x. refl) f found u w d)

-- and mark nothing
pub looks_marks : (f : ℕ) (v w : View) → LooksAtContent f v w → SameMarks v w
looks_marks f v w still = marks_none v
looks_marks f v w (again {u = u} found before d) = marks_on v u w (looks_marks f v u before) (did_marks looking_content (record { clean = refl; quiet = refl; open_ended = λ fr e. refl }) f found u w d)

pub looks_link : (f : ℕ) (v w : View) → LooksAtContent f v w → link w f ≡ link v f
looks_link f v w still = refl
looks_link f v w (again {u = u} found before d) = link_is looking_content f found u w d ∙ looks_link f v u before

pub looks_on : (f : ℕ) (v u w : View) → LooksAtContent f v u → LooksAtContent f u w → LooksAtContent f v w
looks_on f v u w a still = a
looks_on f v u w a (again {u = x} found before d) = again found (looks_on f v u x a before) d

-- a refusal is loads alone
pub refused_looks : (Conflicts : ℕ → Type 0) (f : ℕ) (v w : View) (why : TryLock) → RefusesLock Conflicts f v w why → LooksAtContent f v w
refused_looks Conflicts f v w (Busy word) h = again word still h.0
refused_looks Conflicts f v w (Changed was now) h = again now (again was still h.1.1) h.1.2

pub locks_on : (k : paged.Kind) (f : ℕ) (v u w : View) → LooksAtContent f v u → LocksContent k f u w → LocksContent k f v w
locks_on k f v u w a (x, was, before, d) = (x, was, looks_on f v u x a before, d)

pub locks_waiting : (k : paged.Kind) (f : ℕ) (v w : View) → LocksAtOnce k f v w → LocksContent k f v w
locks_waiting k f v w (u, was, look, d) = (u, was, again was still look, d)

-- the copy latch is taken after loads
pub latched_on : (b : Bool) (l m n : Link) → n ≡ copying_link_if b m → b ≡ true → m ≡ l → n ≡ copying_link true l
latched_on b l m n e t i = e ∙ ap (λ (x : Bool). copying_link_if x m) t ∙ ap (copying_link true) i

-- a content word that isn't 0 shows a holder
pub held_word : (f found : ℕ) (v w : View) → Did looking_content f v w found → found ≢ 0 → ShowsLock found
held_word f found v w d nonzero = of_flag (has_exclusive found) refl
  where
    of_flag : (b : Bool) → has_exclusive found ≡ b → ShowsLock found
    of_flag true e = inl e
    of_flag false e = inr (shows_holder f found v w d nonzero e)

-- a view with a content lock reads no page in
pub no_input : (k : FrameKind) (f found : ℕ) (v w : View) → Did k f v w found → (link v f).content ≢ Unlocked → (link v f).io ≢ Input
no_input k f found v w d right io = let law = d.laws.invariant.pool.pages.cells d.seat v f d.there d.inside in let a = (law.input io).1 in let b = (law.content right).1 in let no : true ≡ false = sym b ∙ a in absurd (cc)

-- which content lock the view has shows in the word
pub is_shared : (f found : ℕ) (v w : View) → Did looking_content f v w found → has_exclusive found ≡ false → (link v f).content ≢ Unlocked → (link v f).content ≡ Shared
is_shared f found v w d free right = of_content (link v f).content refl
  where
    of_content : (c : Content) → (link v f).content ≡ c → (link v f).content ≡ Shared
    of_content Shared e = e
    of_content Unlocked e = absurd (right e)
    of_content Exclusive e = let on = own_exclusive d.state d.laws f d.inside d.seat v d.there e in let no : true ≡ false = sym on ∙ d.says.1 ∙ free in absurd (cc)

pub is_exclusive_lock : (f found : ℕ) (v w : View) → Did looking_content f v w found → has_exclusive found ≡ true → (link v f).content ≢ Shared
is_exclusive_lock f found v w d on shared = let some_share = own_share d.state d.laws f d.inside d.seat v d.there shared in let none = (d.laws.invariant.pool.pages.columns f d.inside).excludes (d.says.1 ∙ on) in absurd (omega (arith, some_share, none))

-- The page that went out to be copied comes back
module _ (f found : ℕ) (v w : View) (p : Page) (d : Did (pages paged.page_out) f v w found) (may : MayCopy (link v f)) where
  busy : (link v f).io ≢ Input
  busy = no_input (pages paged.page_out) f found v w d may.right

  due : (io : Io) (read : Option Page) → io ≢ Input → input_page io read (Some p) ≡ Some p
  due Input read n = absurd (n refl)
  due Output read n = refl
  due Quiet read n = refl

  home : (io : Io) (read : Option Page) (l : Link) → io ≢ Input → read_home io read l ≡ l
  home Input read l n = absurd (n refl)
  home Output read l n = refl
  home Quiet read l n = refl

  noted : (c : Content) (copied : Option Page) → c ≢ Unlocked → paged.copied_after c false p copied ≡ Some p
  noted Unlocked copied n = absurd (n refl)
  noted Shared copied n = refl
  noted Exclusive copied n = refl

  pub may_return : link w f ≡ page_out_link p (link v f) → (link w f).overwritten ≡ None → MayReturnPage p (link w f)
  may_return out fresh = record {
    out = λ none. let no : Some p ≡ None = sym (ap (λ (l : Link). l.out) out) ∙ none in absurd (cc);
    once = fresh;
    due = ap page_due out ∙ ap (λ (b : Bool). cond b (link v f).image (input_page (link v f).io (link v f).read (Some p))) may.applied ∙ due (link v f).io (link v f).read busy;
  }

  pub copied_back : (u : View) → link w f ≡ page_out_link p (link v f) → link u f ≡ returned_link p (link w f) → link u f ≡ copied_link p (link v f)
  copied_back u out back = back ∙ ap (returned_link p) out
      ∙ ap (λ (b : Bool). cond b (applied_link p (record (link v f) { out = None })) (read_home (link v f).io (link v f).read (record (link v f) { out = None; copied = paged.copied_after (link v f).content false p (link v f).copied }))) may.applied
      ∙ home (link v f).io (link v f).read (record (link v f) { out = None; copied = paged.copied_after (link v f).content false p (link v f).copied }) busy
      ∙ (λ i. record (link v f) { out = sym may.home i; copied = noted (link v f).content (link v f).copied may.right i })

-- the page of a frame whose content lock the view has is sound
pub copy_sound : (f went : ℕ) (page : Page) (v u : View) → Did (pages paged.page_out) f v u went → (link v f).content ≢ Unlocked → (link u f).out ≡ Some page → is_sound_page page ≡ true
copy_sound f went page v u d right out = subst (λ (p : Page). is_sound_page p ≡ true) (same_page (d.state.pool.core.frame f).page page (sym (ap (λ (l : Link). l.out) (link_is (pages paged.page_out) f went v u d)) ∙ out))
    ((d.laws.invariant.pool.pages.columns f d.inside).sound ((d.laws.invariant.pool.pages.cells d.seat v f d.there d.inside).content right).1)
  where
    same_page : (p q : Page) → Some p ≡ Some q → p ≡ q
    same_page p q e = cc
