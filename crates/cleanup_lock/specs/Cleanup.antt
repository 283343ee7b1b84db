-- When the cleanup lock of a frame is granted, and why not.
use Rattle.std.specs.Prelude.{◌≡◌, ◌≢◌, ℕ, ◌<◌, Bool, true, false, nat_eq, ◌&&◌, Option, Some, None, Result, Err, if◌then◌else◌}
use mathlib.Core.Option.{some}
use lib.ListN.{get_elem?}
use Rattle.state_word.specs.declared.word.StateWord.{StateWord}
use Rattle.state_word.specs.Fields.{fields}
use Rattle.pin_core.specs.declared.view.Content.TheVariants.{Exclusive, Unlocked}
use Rattle.pin_core.specs.declared.view.Role.TheVariants.{Absent}
use Rattle.pin_core.specs.declared.view.Link.{Link}
use Rattle.pin_core.specs.declared.view.View.{View}
use Rattle.pin_core.specs.State.{link}
use Rattle.pin_core.specs.Kinds.{unlock_header}
use Rattle.page_core.specs.Kinds.{exclude, set_waiter, unexclude}
use Rattle.history_core.specs.State.{State}
use Rattle.frame_table.specs.Content.{CanLock, exclusive_link}
use Rattle.frame_table.specs.Kinds.{pages, pins}
use Rattle.frame_table.specs.Seats.{Looked}
use Rattle.frame_table.specs.FrameSteps.{Did, Looks, looking}
use Rattle.content_locks.specs.declared.locks.TryLock.TheVariants as try
use Rattle.content_locks.specs.Io.{LocksHeader}
use Rattle.content_locks.specs.Locks.{LocksAtOnce, LocksContent, RefusesLock, ShowsLock}
use Rattle.cleanup_lock.specs.declared.locking.Attempt.{Attempt}
use Rattle.cleanup_lock.specs.declared.locking.Attempt.TheVariants as attempt
use Rattle.cleanup_lock.specs.declared.locking.CleanupError.{CleanupError}
use Rattle.cleanup_lock.specs.declared.locking.CleanupError.TheVariants as lock
use Rattle.cleanup_lock.specs.declared.trying.TryCleanup.{TryCleanup}
use Rattle.cleanup_lock.specs.declared.trying.TryCleanup.TheVariants.{LocalPins, Busy, Changed, OtherPins}

-- What a view has at a frame whose cleanup lock it takes: it may take the content lock, and does
-- nothing else there
pub record CanLockForCleanup (l : Link) : Type 0 where
  pub lock : CanLock l
  pub settled : l.pending ≡ false
  pub applied : l.unapplied ≡ false
  pub page_home : l.out ≡ None

-- While a view has the content lock of f exclusively no other view has one there
abbrev pub OthersAreKeptOut : State → ℕ → Type 0
OthersAreKeptOut s f = (i j : ℕ) (v u : View) → get_elem? s.pool.core.views i ≡ some v
    → get_elem? s.pool.core.views j ≡ some u → i ≢ j
    → (link v f).content ≡ Exclusive → (link u f).content ≡ Unlocked

-- whether callers have one token of the frame's pin
abbrev pub one_token : ℕ → Bool
one_token tokens = nat_eq tokens 1

-- how many are refused
abbrev pub refused_tokens : ℕ → Option ℕ
refused_tokens tokens = if one_token tokens then None else Some tokens

-- how many local pins an answer refuses
abbrev pub local_pins : {A : Type 0} → Result A CleanupError → Option ℕ
local_pins (Err (lock.LocalPins count)) = Some count
local_pins _ = None

abbrev pub tried_local_pins : {A : Type 0} → Result A TryCleanup → Option ℕ
tried_local_pins (Err (LocalPins count)) = Some count
tried_local_pins _ = None

-- the link without a wait
abbrev pub unawaited_link : Link → Link
unawaited_link l = record l { waits = None }

-- whether a word has BM_PIN_COUNT_WAITER and this number
abbrev pub is_waiter : ℕ → StateWord → Bool
is_waiter number w = w.awaited && nat_eq w.waiter number

abbrev pub HasWaiter : ℕ → ℕ → Type 0
HasWaiter number word = is_waiter number (fields word) ≡ true

-- a word that shows other pins beside the view's own
abbrev pub SeesOtherPins : ℕ → Type 0
SeesOtherPins word = 1 < (fields word).pins

-- The state word of f was loaded as the view had the content lock exclusively, and the count was 1,
-- the view's own pin: no other view had a pin or a content lock there
pub record Alone (f : ℕ) (v w : View) : Type 0 where
  pub word : ℕ
  pub right : (link v f).content ≡ Exclusive
  pub pinned : (link v f).role ≢ Absent
  pub loads : Did looking f v w word
  pub single : (fields word).pins ≡ 1
  pub others : (j : ℕ) (u : View) → get_elem? loads.state.pool.core.views j ≡ some u
      → j ≢ loads.seat → ((link u f).role ≡ Absent) × ((link u f).content ≡ Unlocked)

-- The content lock of f was taken exclusively, and then the header locked: the view has both, a
-- pin, and no wait there
pub record UnderExclusive (f : ℕ) (v w : View) : Type 0 where
  pub locked : View
  pub was : ℕ
  pub locks : LocksContent exclude f v locked
  pub header : LocksHeader f locked w was
  pub right : (link w f).content ≡ Exclusive
  pub pinned : (link w f).role ≢ Absent
  pub no_wait : (link w f).waits ≡ None

-- After both were taken the state word was loaded: this number
pub record LooksUnderBoth (f word : ℕ) (v w : View) : Type 0 where
  pub held : View
  pub under : UnderExclusive f v held
  pub loads : Did looking f held w word

-- The word was loaded until the bit was clear or another's
pub record WaitsUntilOver (number f : ℕ) (v w : View) : Type 0 where
  pub last : View
  pub seen : ℕ
  pub looks : Looks f v last
  pub sees : Did looking f last w seen
  pub over : is_waiter number (fields seen) ≡ false

-- One turn of the wait: under both locks a word showed other pins, and no waiter; the view set bit
-- and number, gave the content lock up, and waited
pub record WaitsARound (number f : ℕ) (v w : View) : Type 0 where
  pub looked : View
  pub noted : View
  pub unlocked : View
  pub word : ℕ
  pub found : ℕ
  pub looks : LooksUnderBoth f word v looked
  pub others : SeesOtherPins word
  pub free : (fields word).awaited ≡ false
  pub sets : Did (pages (set_waiter number)) f looked noted word
  pub gives_up : Did (pages unexclude) f noted unlocked found
  pub waits : WaitsUntilOver number f unlocked w

-- the view v became w by such turns
pub data Retried (number f : ℕ) : View → View → Type 0 where
  still : {v : View} → Retried number f v v
  again : {v u w : View} → Retried number f v u → WaitsARound number f u w → Retried number f v w

-- Granted: under both locks the view was alone, and the header was unlocked
pub record GrantsAtOnce (f : ℕ) (v w : View) : Type 0 where
  pub held : View
  pub looked : View
  pub left : ℕ
  pub under : UnderExclusive f v held
  pub alone : Alone f held looked
  pub unlocks : Did (pins unlock_header) f looked w left

-- Under both locks a word showed other pins, and another backend that waits; both locks were given
-- up
pub record FindsOtherWaiter (f backend : ℕ) (v w : View) : Type 0 where
  pub looked : View
  pub headless : View
  pub word : ℕ
  pub left : ℕ
  pub found : ℕ
  pub looks : LooksUnderBoth f word v looked
  pub others : SeesOtherPins word
  pub waiter : HasWaiter backend word
  pub other : backend ≢ v.number
  pub unlocks : Did (pins unlock_header) f looked headless left
  pub gives_up : Did (pages unexclude) f headless w found

-- what came of one attempt, and what it leaves of the link
abbrev pub Attempted : ℕ → ℕ → View → View → Attempt → Type 0
Attempted number f v w attempt.Granted = GrantsAtOnce f v w
Attempted number f v w (attempt.OtherWaiter backend) = FindsOtherWaiter f backend v w
Attempted number f v w attempt.Waited = WaitsARound number f v w

abbrev pub ChangesContent : Attempt → Link → Link → Type 0
ChangesContent attempt.Granted l m = Looked (exclusive_link l) m
ChangesContent (attempt.OtherWaiter backend) l m = Looked l m
ChangesContent attempt.Waited l m = Looked l m

-- after turns of the wait the lock was granted
pub record GrantsCleanup (number f : ℕ) (v w : View) : Type 0 where
  pub tried : View
  pub waits : Retried number f v tried
  pub grants : GrantsAtOnce f tried w

-- why it was not: callers have other tokens of the pin, and nothing was done; or after turns of the
-- wait another backend waits
abbrev pub RefusesCleanup : ℕ → ℕ → View → View → CleanupError → Type 0
RefusesCleanup number f v w (lock.LocalPins count) = w ≡ v
RefusesCleanup number f v w (lock.OtherWaiter backend) = (u : View) × Retried number f v u
    × FindsOtherWaiter f backend u w

-- The content lock was taken exclusively without a wait, and then the view was alone
pub record GrantsTry (f : ℕ) (v w : View) : Type 0 where
  pub locked : View
  pub locks : LocksAtOnce exclude f v locked
  pub alone : Alone f locked w

-- The content lock was taken so, then a word showed other pins, and the lock was given up
pub record FindsOtherPins (f word : ℕ) (v w : View) : Type 0 where
  pub locked : View
  pub looked : View
  pub found : ℕ
  pub locks : LocksAtOnce exclude f v locked
  pub right : (link locked f).content ≡ Exclusive
  pub loads : Did looking f locked looked word
  pub others : SeesOtherPins word
  pub gives_up : Did (pages unexclude) f looked w found

-- why a try refuses: callers have other tokens of the pin, and nothing was done; the content lock
-- was not taken; or there are other pins
abbrev pub RefusesTry : ℕ → View → View → TryCleanup → Type 0
RefusesTry f v w (LocalPins count) = w ≡ v
RefusesTry f v w (Busy word) = RefusesLock ShowsLock f v w (try.Busy word)
RefusesTry f v w (Changed was now) = RefusesLock ShowsLock f v w (try.Changed was now)
RefusesTry f v w (OtherPins word) = FindsOtherPins f word v w
