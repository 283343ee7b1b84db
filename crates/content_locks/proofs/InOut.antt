-- Reads and writes begin, and end.
use Rattle.std.proofs.Common.{◌≡◌, ◌≢◌, ℕ, Bool, not, true, false, None, List, get_or, sym, refl, ap, ◌∙◌, subst}
use Rattle.state_word.specs.declared.word.StateWord.{StateWord}
use Rattle.state_word.specs.Fields.{fields, locked_fields}
use Rattle.pin_core.specs.declared.view.Role.TheVariants.{Absent, HandedOut}
use Rattle.pin_core.specs.declared.view.Link.{Link}
use Rattle.pin_core.specs.declared.view.View.{View}
use Rattle.pin_core.specs.declared.view.LaneHold.{LaneHold}
use Rattle.pin_core.specs.State.{link, no_lane}
use Rattle.pin_core.specs.Steps.{HoldsNoHeader}
use Rattle.page_core.specs.Kinds.{EndsAs}
use Rattle.page_core.specs.Steps.{HasNoIo, HasNoWriteOut, IsWriteOf}
use Rattle.state_word.specs.declared.word.IoEnd.{IoEnd}
use Rattle.state_word.specs.declared.word.IoEnd.TheVariants.{ReadOk, WriteOk, Bad}
use mathlib.Core.Logic.{dite}
use native.Mathlib.Decide.{ℕ_discrete}
use Rattle.pin_core.specs.Kinds.{lock_header, unlock_header}
use Rattle.frame_table.specs.Kinds.{pages, pins}
use Rattle.frame_table.specs.Seats.{Looked, Touches, locked_link, unlocked_link}
use Rattle.frame_table.specs.FrameSteps.{Did, Looks, looking}
use Rattle.page_core.specs.Kinds.{saw_valid}
use Rattle.frame_table.specs.Content.{CanBeginIo, CanFinishIo, begun_link, finished_link, start_of}
use Rattle.frame_table.proofs.Told.{looks_link, looked_on, looked_by, looked_same, quiet, quiet_link}
use Rattle.frame_table.proofs.Seeing.{sees_valid}
use Rattle.content_locks.specs.Io.{BeginsIo, MayEndIo, CanStartIo, FindsNothing, FindsWork, LocksHeader, Waits, still, again, is_nothing}

-- a locked word shows what the word did
nothing_locked : (input : Bool) (w : StateWord) → is_nothing input (locked_fields w) ≡ is_nothing input w
nothing_locked true w = refl
nothing_locked false w = refl

-- The link before the header was locked, under the lock, and after it
module _ (word : ℕ) (l m : Link) (a : Looked (locked_link word l) m) where
  -- unlocked again after a load, with nothing begun
  pub unlocked_back : (n o : Link) → Looked m n → o ≡ unlocked_link n → l.header ≡ None → Looked l o
  unlocked_back n o b e none = subst (Looked l) (sym e) (looked_by l (unlocked_link n) (ap unlocked_link (quiet m n b ∙ quiet (locked_link word l) m a) ∙ (λ i. record (quiet_link l) { header = sym none i })) (λ saw. b.seen_valid (a.seen_valid saw)) (λ w. b.waits (a.waits w)) (λ was. b.visited (a.visited was)) (λ z. b.left_to_write (a.left_to_write z)))

  -- begun
  pub begun_back : (input : Bool) (o : Link) → o ≡ begun_link input m → Looked (begun_link input l) o
  begun_back true o e = subst (Looked (begun_link true l)) (sym e) (looked_by (begun_link true l) (begun_link true m) (ap (begun_link true) (quiet (locked_link word l) m a)) a.seen_valid a.waits a.visited a.left_to_write)
  begun_back false o e = subst (Looked (begun_link false l)) (sym e) (looked_by (begun_link false l) (begun_link false m) (ap (begun_link false) (quiet (locked_link word l) m a)) a.seen_valid a.waits a.visited a.left_to_write)

  -- the frame of a pin that was handed out has a tag
  tagged : (f was : ℕ) (v u w : View) → Looks f v u → Did (pins lock_header) f u w was → fields word ≡ locked_fields (fields was) → (link v f).role ≡ HandedOut → (fields word).tag_valid ≡ true
  tagged f was v u w looks d locked handed = ap (λ (x : StateWord). x.tag_valid) locked ∙ ap (λ (x : StateWord). x.tag_valid) (sym d.says) ∙ ((d.laws.invariant.pool.core.grid.cells d.seat u f d.there d.inside).handed_out ((looks_link f v u looks).role ∙ handed)).flagged

  dirty_of : (b : Bool) → not b ≡ false → b ≡ true
  dirty_of true e = refl
  dirty_of false e = absurd (let no : true ≡ false = e in cc)

  pub can_begin : (input : Bool) → CanStartIo input l → (fields word).in_progress ≡ false → is_nothing input (fields word) ≡ false → (l.role ≡ HandedOut → (fields word).tag_valid ≡ true) → CanBeginIo input word m
  can_begin true can clear nothing tag = record {
    held = a.header;
    settled = a.pending ∙ can.settled;
    pinned = λ e. can.pinned (sym a.role ∙ e);
    clear = clear;
    to_read = λ e. (tag (can.to_read refl), nothing);
    to_write = λ e. absurd (let no : true ≡ false = e in cc);
  }
  can_begin false can clear nothing tag = record {
    held = a.header;
    settled = a.pending ∙ can.settled;
    pinned = λ e. can.pinned (sym a.role ∙ e);
    clear = clear;
    to_read = λ e. absurd (let no : false ≡ true = e in cc);
    to_write = λ e. (dirty_of (fields word).dirty nothing, a.content ∙ can.to_write refl);
  }

-- What was seen under the header
module _ (f word : ℕ) (v w : View) (locks : (u : View) × (was : ℕ) × Looks f v u × Did (pins lock_header) f u w was × (fields word ≡ locked_fields (fields was))) where
  pub tag_there : Looked (locked_link word (link v f)) (link w f) → (link v f).role ≡ HandedOut → (fields word).tag_valid ≡ true
  tag_there a handed = tagged word (link v f) (link w f) a f locks.1 v locks.0 w locks.2 locks.3 locks.4 handed

  pub locks_header : LocksHeader f v w locks.1
  locks_header = record { before = locks.0; looks = locks.2; did = locks.3 }

  pub finds_work : (x : View) (found : ℕ) → (fields word).in_progress ≡ true → Did (pins unlock_header) f w x found → FindsWork f v x
  finds_work x found busy d = record { under = w; was = locks.1; word = found; locks = locks_header; busy = sym (ap (λ (z : StateWord). z.in_progress) locks.4) ∙ busy; unlocks = d }

  pub finds : (input : Bool) (x y : View) (seen found : ℕ) → is_nothing input (fields word) ≡ true → Did looking f w x seen → Did (pins unlock_header) f x y found → FindsNothing input f v y
  finds input x y seen found nothing d e = record { tried = v; under = w; looked = x; was = locks.1; seen = seen; word = found; waits = still; locks = locks_header; nothing = sym (nothing_locked input (fields locks.1)) ∙ ap (is_nothing input) (sym locks.4) ∙ nothing; looks = d; unlocks = e }

  pub begins : (input : Bool) (x : View) → Did (pages (start_of input)) f w x word → BeginsIo input f v x
  begins input x d = record { tried = v; under = w; was = locks.1; word = word; waits = still; locks = locks_header; did = d }

  -- a load under it sees that the page is valid
  pub sees : (x : View) (found : ℕ) → Looked (locked_link word (link v f)) (link w f) → Did looking f w x found → (link v f).pending ≡ false → (link v f).role ≢ Absent → (fields word).valid ≡ true → (link x f).seen_valid ≡ true
  sees x found a d settled pinned valid = sees_valid f found w x d (a.pending ∙ settled) (λ e. pinned (sym a.role ∙ e))
      (ap (λ (z : StateWord). z.valid) (sym d.says ∙ (d.laws.invariant.pool.core.grid.cells d.seat w f d.there d.inside).header (fields word) a.header) ∙ valid)

-- Tries that found another backend's work, and then another one
pub waits_on : (f : ℕ) (v u w : View) → Waits f v u → Waits f u w → Waits f v w
waits_on f v u w a still = a
waits_on f v u w a (again {u = x} before found) = again (waits_on f v u x a before) found

pub begins_on : (input : Bool) (f : ℕ) (v u w : View) → Waits f v u → BeginsIo input f u w → BeginsIo input f v w
begins_on input f v u w a b = record { tried = b.tried; under = b.under; was = b.was; word = b.word; waits = waits_on f v u b.tried a b.waits; locks = b.locks; did = b.did }

pub nothing_on : (input : Bool) (f : ℕ) (v u w : View) → Waits f v u → FindsNothing input f u w → FindsNothing input f v w
nothing_on input f v u w a b = record { tried = b.tried; under = b.under; looked = b.looked; was = b.was; seen = b.seen; word = b.word; waits = waits_on f v u b.tried a b.waits; locks = b.locks; nothing = b.nothing; looks = b.looks; unlocks = b.unlocks }

-- no input or output begins as a header is locked
pub quiet_locked : (f word : ℕ) (v w : View) → Touches f v w → Looked (locked_link word (link v f)) (link w f) → HasNoIo v → HasNoIo w
quiet_locked f word v w touches a quiet g = dite (ℕ_discrete g f) (λ e. ap (λ (x : ℕ). (link w x).io) e ∙ a.io ∙ quiet f) (λ n. ap (λ (l : Link). l.io) (touches.others g n) ∙ quiet g)

-- What loads of the word leave, for another try
module _ (f : ℕ) (v w : View) (touches : Touches f v w) (a : Looked (link v f) (link w f)) where
  pub headless_still : HoldsNoHeader v → HoldsNoHeader w
  headless_still none g = dite (ℕ_discrete g f) (λ e. ap (λ (x : ℕ). (link w x).header) e ∙ a.header ∙ none f) (λ n. ap (λ (l : Link). l.header) (touches.others g n) ∙ none g)

  pub quiet_still : HasNoIo v → HasNoIo w
  quiet_still quiet g = dite (ℕ_discrete g f) (λ e. ap (λ (x : ℕ). (link w x).io) e ∙ a.io ∙ quiet f) (λ n. ap (λ (l : Link). l.io) (touches.others g n) ∙ quiet g)

  pub can_still : (input : Bool) → CanStartIo input (link v f) → CanStartIo input (link w f)
  can_still input can = record { pinned = λ e. can.pinned (sym a.role ∙ e); settled = a.pending ∙ can.settled; to_read = λ e. a.role ∙ can.to_read e; to_write = λ e. a.content ∙ can.to_write e }

-- loads, and then a read or a write that began
pub begun_on : (input : Bool) (l m n : Link) → Looked l m → Looked (begun_link input m) n → Looked (begun_link input l) n
begun_on true l m n a b = looked_on (begun_link true l) (begun_link true m) n (looked_by (begun_link true l) (begun_link true m) (ap (begun_link true) (quiet l m a)) a.seen_valid a.waits a.visited a.left_to_write) b
begun_on false l m n a b = looked_on (begun_link false l) (begun_link false m) n (looked_by (begun_link false l) (begun_link false m) (ap (begun_link false) (quiet l m a)) a.seen_valid a.waits a.visited a.left_to_write) b

-- a read or a write may end under the header as it could before it was locked
ends_on : (end : IoEnd) (l m : Link) → m.io ≡ l.io → m.read ≡ l.read → m.read_is_home ≡ l.read_is_home → m.last_write ≡ l.last_write → EndsAs end l → EndsAs end m
ends_on ReadOk l m io read home write h = record { right = io ∙ h.right; read = λ e. h.read (sym read ∙ e); sound = λ p e. h.sound p (sym read ∙ e); home = home ∙ h.home }
ends_on WriteOk l m io read home write h = record { right = io ∙ h.right; written = write ∙ h.written }
ends_on Bad l m io read home write h = λ e. h (sym io ∙ e)

pub can_finish : (end : IoEnd) (word : ℕ) (l m : Link) → Looked (locked_link word l) m → MayEndIo end l → CanFinishIo end word m
can_finish end word l m a can = record { held = a.header; page_home = λ e. a.out ∙ can.home (sym a.io ∙ e); ends = ends_on end l m a.io a.read a.read_is_home a.last_write can.ends }

-- no lane is out with a write of the frame still
pub no_write_still : (f : ℕ) (v w : View) → w.lanes ≡ v.lanes → HasNoWriteOut v f → HasNoWriteOut w f
no_write_still f v w e h n = subst (λ (l : List LaneHold). (get_or l n no_lane).out ≢ None → ¬ IsWriteOf f (get_or l n no_lane).change) (sym e) (h n)

saw_still : (end : IoEnd) (saw sees : Bool) → (saw ≡ true → sees ≡ true) → saw_valid end saw ≡ true → saw_valid end sees ≡ true
saw_still ReadOk saw sees h e = refl
saw_still WriteOk saw sees h e = h e
saw_still Bad saw sees h e = h e

pub finished_back : (end : IoEnd) (word : ℕ) (l m o : Link) → Looked (locked_link word l) m → o ≡ finished_link end m → Looked (finished_link end l) o
finished_back end word l m o a e = subst (Looked (finished_link end l)) (sym e) (looked_by (finished_link end l) (finished_link end m) (ap (λ (x : Link). quiet_link (finished_link end x)) (quiet (locked_link word l) m a)) (saw_still end l.seen_valid m.seen_valid a.seen_valid) a.waits a.visited a.left_to_write)

-- a backend that ended a good read has seen BM_VALID
pub finished_sees : (end : IoEnd) (l m : Link) → Looked (finished_link end l) m → end ≡ ReadOk → m.seen_valid ≡ true
finished_sees end l m a e = a.seen_valid (ap (λ (x : IoEnd). saw_valid x l.seen_valid) e)

pub looked_none : (l : Link) → Looked l l
looked_none l = looked_same l l refl
