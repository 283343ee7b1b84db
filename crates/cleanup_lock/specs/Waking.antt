-- What is done as a pin is given up, if a backend may wait until its own is the only one.
use Rattle.std.specs.Prelude.{◌≡◌, ℕ, Bool, true, false, nat_eq, ◌&&◌}
use Rattle.state_word.specs.declared.word.StateWord.{StateWord}
use Rattle.state_word.specs.Fields.{fields}
use Rattle.pin_core.specs.declared.view.View.{View}
use Rattle.pin_core.specs.Kinds.{unlock_header}
use Rattle.page_core.specs.Kinds.{clear_waiter}
use Rattle.frame_table.specs.Kinds.{FrameKind, pages, pins}
use Rattle.frame_table.specs.FrameSteps.{Did, Unpinned}
use Rattle.content_locks.specs.Io.{LocksHeader}

-- whether a backend waits, and one pin is left: the waiter's
abbrev pub is_lone_waiter : StateWord → Bool
is_lone_waiter w = w.awaited && nat_eq w.pins 1

-- the step by which the header is given up: bit and number are cleared, or the word stays
abbrev pub end_of_wake : Bool → FrameKind
end_of_wake true = pages clear_waiter
end_of_wake false = pins unlock_header

-- The header was locked, and the waiter was woken if its pin was still the only one
pub record Wakes (f : ℕ) (v w : View) : Type 0 where
  pub under : View
  pub was : ℕ
  pub word : ℕ
  pub locks : LocksHeader f v under was
  pub did : Did (end_of_wake (is_lone_waiter (fields was))) f under w word

-- A pin was given up, and then the waiter was woken if the word that was left shows its pin alone
pub record Woken (f : ℕ) (v w : View) : Type 0 where
  pub between : View
  pub left : ℕ
  pub unpins : Unpinned f left v between
  pub wakes : is_lone_waiter (fields left) ≡ true → Wakes f between w
  pub rests : is_lone_waiter (fields left) ≡ false → w ≡ between
