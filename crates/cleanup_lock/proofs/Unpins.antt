-- Pins are given up, and waiters woken.
use Rattle.std.proofs.Common.{◌≡◌, ℕ, Bool, true, false, Some, None, nat_eq, sym, refl, ap, ◌∙◌, subst, ne_eqb}
use Rattle.std.specs.Prelude.{◌&&◌}
use mathlib.Core.Logic.{dite}
use native.Mathlib.Decide.{ℕ_discrete}
use Rattle.state_word.specs.declared.word.StateWord.{StateWord}
use Rattle.state_word.specs.Fields.{fields, locked_fields}
use Rattle.pin_core.specs.declared.view.Link.{Link}
use Rattle.pin_core.specs.declared.view.View.{View}
use Rattle.pin_core.specs.State.{link}
use Rattle.pin_core.specs.Steps.{HoldsNoHeader}
use Rattle.pin_core.specs.Kinds.{lock_header, unpin}
use Rattle.frame_table.specs.Content.{CanWake}
use Rattle.frame_table.specs.FrameSteps.{Did, Looks, Unpinned}
use Rattle.frame_table.specs.Kinds.{FrameKind, pins}
use Rattle.frame_table.specs.Seats.{Grows, HasResident, HoldsHeader, KeepsResidents, Looked, locked_link, unlocked_link}
use Rattle.frame_table.proofs.Told.{grows, grows_on, looked_by, looks_link, looks_touch, quiet, quiet_link}
use Rattle.history_core.proofs.Listed.{pins_listed}
use Rattle.content_locks.specs.Io.{LocksHeader}
use Rattle.cleanup_lock.specs.Waking.{Wakes, Woken, end_of_wake, is_lone_waiter}

-- a view that holds no header holds none after steps at f that leave none there
pub headless_on : (f : ℕ) (v w : View) → ((g : ℕ) → (g ≡ f → ⊥) → link w g ≡ link v g) → (link w f).header ≡ (link v f).header → HoldsNoHeader v → HoldsNoHeader w
headless_on f v w others same h g = dite (ℕ_discrete g f)
    (λ e. subst (λ (x : ℕ). (link w x).header ≡ None) (sym e) (same ∙ h f))
    (λ n. ap (λ (l : Link). l.header) (others g n) ∙ h g)

-- what the test of a word says
pub lone : (w : StateWord) → is_lone_waiter w ≡ true → (w.awaited ≡ true) × (w.pins ≡ 1)
lone w e = of_flag w.awaited refl
  where
    of_pins : w.awaited ≡ true → (nat_eq w.pins 1 ≡ true) → w.pins ≡ 1
    of_pins on e = dite (ℕ_discrete w.pins 1) (λ one. one) (λ n. let no : true ≡ false = sym e ∙ ne_eqb w.pins 1 n in absurd (cc))

    of_flag : (b : Bool) → w.awaited ≡ b → (w.awaited ≡ true) × (w.pins ≡ 1)
    of_flag true on = (on, of_pins on (sym (ap (λ (b : Bool). b && nat_eq w.pins 1) on) ∙ e))
    of_flag false off = let no : true ≡ false = sym e ∙ ap (λ (b : Bool). b && nat_eq w.pins 1) off in absurd (cc)

-- the waiter may be woken under the header
pub may_wake : (word : ℕ) (l m : Link) → l.pending ≡ false → Looked (locked_link word l) m → is_lone_waiter (fields word) ≡ true → CanWake word m
may_wake word l m settled a e = let x = lone (fields word) e in record { held = a.header; settled = a.pending ∙ settled; awaited = x.0; single = x.1 }

-- what the header's lock leaves once it is given up again
pub unlocked_looked : (word : ℕ) (l m n : Link) → l.header ≡ None → Looked (locked_link word l) m → n ≡ unlocked_link m → Looked l n
unlocked_looked word l m n none a e = subst (Looked l) (sym e) (looked_by l (unlocked_link m) (ap unlocked_link (quiet (locked_link word l) m a) ∙ (λ i. record (quiet_link l) { header = sym none i })) a.seen_valid a.waits a.visited a.left_to_write)

-- the word that is held shows the same as the one that was found
pub lone_found : (word was : ℕ) → fields word ≡ locked_fields (fields was) → is_lone_waiter (fields was) ≡ is_lone_waiter (fields word)
lone_found word was e = ap is_lone_waiter (sym e)

-- a header that was locked may be unlocked
pub holds : (word : ℕ) (l m : Link) → l.pending ≡ false → Looked (locked_link word l) m → HoldsHeader m
holds word l m settled a = record { held = λ none. let no : Some (fields word) ≡ None = sym a.header ∙ none in absurd (cc); settled = a.pending ∙ settled }

-- the header's lock, as it was told
pub locks_header : (f word : ℕ) (v w : View) → (d : (u : View) × (was : ℕ) × Looks f v u × Did (pins lock_header) f u w was × (fields word ≡ locked_fields (fields was))) → LocksHeader f v w d.1
locks_header f word v w d = record { before = d.0; looks = d.2; did = d.3 }

-- a header that was locked is given up, as the word shows
pub wakes_by : (b : Bool) (f word given : ℕ) (v u w : View) → (u' : View) × (was : ℕ) × Looks f v u' × Did (pins lock_header) f u' u was × (fields word ≡ locked_fields (fields was)) → is_lone_waiter (fields word) ≡ b → Did (end_of_wake b) f u w given → Wakes f v w
wakes_by b f word given v u w d e g = record {
  under = u;
  was = d.1;
  word = given;
  locks = locks_header f word v u d;
  did = subst (λ (x : Bool). Did (end_of_wake x) f u w given) (sym (lone_found word d.1 d.4 ∙ e)) g;
}

-- a block that is listed stays listed
pub resident_kept : (f tag : ℕ) (v w : View) → KeepsResidents v.residents w.residents → HasResident f tag v → HasResident f tag w
resident_kept f tag v w keeps (k, r, at, frame, tag_is) = let x = keeps k r at in (k, x.0, x.1, x.2.frame ∙ frame, x.2.tag ∙ tag_is)

-- at any step of the view it lists what its pin of the frame knows
pin_listed : (k : FrameKind) (f found tag : ℕ) (v w : View) → Did k f v w found → (link v f).seen_valid ≡ true → (link v f).tag ≡ Some tag → HasResident f tag v
pin_listed k f found tag v w d saw known = pins_listed d.state d.laws d.seat v d.there f tag d.inside saw known

-- a view that gives up its pin lists the block that the pin knew, if the pin had seen BM_VALID
unpinned_lists : (f left tag : ℕ) (v w : View) → Unpinned f left v w → (link v f).seen_valid ≡ true → (link v f).tag ≡ Some tag → HasResident f tag w
unpinned_lists f left tag v w (u, was, looks, d, is) saw known = let same = looks_link f v u looks in
    resident_kept f tag u w (grows (pins unpin) f was u w d).residents (pin_listed (pins unpin) f was tag u w d (same.seen_valid saw) (same.tag ∙ known))

wakes_grow : (f : ℕ) (v w : View) → Wakes f v w → Grows v w
wakes_grow f v w k = let before = k.locks.before in
    grows_on v k.under w
    (grows_on v before k.under (looks_touch f v before k.locks.looks).grows (grows (pins lock_header) f k.was before k.under k.locks.did))
    (grows (end_of_wake (is_lone_waiter (fields k.was))) f k.word k.under w k.did)

-- and still does once a waiter is woken
pub woken_lists : (f tag : ℕ) (v w : View) → Woken f v w → (link v f).seen_valid ≡ true → (link v f).tag ≡ Some tag → HasResident f tag w
woken_lists f tag v w x saw known = by_waiter (is_lone_waiter (fields x.left)) refl (unpinned_lists f x.left tag v x.between x.unpins saw known)
  where
    by_waiter : (b : Bool) → is_lone_waiter (fields x.left) ≡ b → HasResident f tag x.between → HasResident f tag w
    by_waiter true e has = resident_kept f tag x.between w (wakes_grow f x.between w (x.wakes e)).residents has
    by_waiter false e has = subst (HasResident f tag) (sym (x.rests e)) has
