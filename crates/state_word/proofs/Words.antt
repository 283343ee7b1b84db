-- Words by their fields: two records with the same fields are one, and so are two words.
use Rattle.std.proofs.Common.{◌≡◌, ℕ, ◌/◌, ◌%◌, ◌^◌, ◌==◌, ap, arith}
use Rattle.state_word.specs.declared.word.StateWord.{StateWord}
use Rattle.state_word.specs.Fields.{fields}

-- two records with the same fields are one
pub same_record : (a b : StateWord) → a.pins ≡ b.pins → a.usage ≡ b.usage → a.locked ≡ b.locked → a.dirty ≡ b.dirty → a.valid ≡ b.valid → a.tag_valid ≡ b.tag_valid → a.in_progress ≡ b.in_progress → a.failed ≡ b.failed
    → a.just_dirtied ≡ b.just_dirtied → a.awaited ≡ b.awaited → a.checkpoint_needed ≡ b.checkpoint_needed → a.permanent ≡ b.permanent → a.waiter ≡ b.waiter → a ≡ b
same_record a b pins usage locked dirty valid tag_valid in_progress failed just_dirtied awaited checkpoint_needed permanent waiter i = record {
  pins = pins i;
  usage = usage i;
  locked = locked i;
  dirty = dirty i;
  valid = valid i;
  tag_valid = tag_valid i;
  in_progress = in_progress i;
  failed = failed i;
  just_dirtied = just_dirtied i;
  awaited = awaited i;
  checkpoint_needed = checkpoint_needed i;
  permanent = permanent i;
  waiter = waiter i;
}

-- a bit as a number is known from its test
same_parity : (a b : ℕ) → (a % 2 == 1) ≡ (b % 2 == 1) → a % 2 ≡ b % 2
same_parity a b e = grind arith

-- one bit more of two numbers that are alike above it
same_above : (a b : ℕ) → a / 2 ≡ b / 2 → (a % 2 == 1) ≡ (b % 2 == 1) → a ≡ b
same_above a b high low = let e = same_parity a b low in omega arith

-- two words with the same fields are one
pub same_word : (v w : ℕ) → fields v ≡ fields w → v ≡ w
unfolding fields
same_word v w e =
    let e32 : v / 2 ^ 32 ≡ w / 2 ^ 32 = ap (λ s. s.waiter) e in
    let e31 : v / 2 ^ 31 ≡ w / 2 ^ 31 = same_above (v / 2 ^ 31) (w / 2 ^ 31) (omega arith) (ap (λ s. s.permanent) e) in
    let e30 : v / 2 ^ 30 ≡ w / 2 ^ 30 = same_above (v / 2 ^ 30) (w / 2 ^ 30) (omega arith) (ap (λ s. s.checkpoint_needed) e) in
    let e29 : v / 2 ^ 29 ≡ w / 2 ^ 29 = same_above (v / 2 ^ 29) (w / 2 ^ 29) (omega arith) (ap (λ s. s.awaited) e) in
    let e28 : v / 2 ^ 28 ≡ w / 2 ^ 28 = same_above (v / 2 ^ 28) (w / 2 ^ 28) (omega arith) (ap (λ s. s.just_dirtied) e) in
    let e27 : v / 2 ^ 27 ≡ w / 2 ^ 27 = same_above (v / 2 ^ 27) (w / 2 ^ 27) (omega arith) (ap (λ s. s.failed) e) in
    let e26 : v / 2 ^ 26 ≡ w / 2 ^ 26 = same_above (v / 2 ^ 26) (w / 2 ^ 26) (omega arith) (ap (λ s. s.in_progress) e) in
    let e25 : v / 2 ^ 25 ≡ w / 2 ^ 25 = same_above (v / 2 ^ 25) (w / 2 ^ 25) (omega arith) (ap (λ s. s.tag_valid) e) in
    let e24 : v / 2 ^ 24 ≡ w / 2 ^ 24 = same_above (v / 2 ^ 24) (w / 2 ^ 24) (omega arith) (ap (λ s. s.valid) e) in
    let e23 : v / 2 ^ 23 ≡ w / 2 ^ 23 = same_above (v / 2 ^ 23) (w / 2 ^ 23) (omega arith) (ap (λ s. s.dirty) e) in
    let e22 : v / 2 ^ 22 ≡ w / 2 ^ 22 = same_above (v / 2 ^ 22) (w / 2 ^ 22) (omega arith) (ap (λ s. s.locked) e) in
    let usage : v / 2 ^ 18 % 2 ^ 4 ≡ w / 2 ^ 18 % 2 ^ 4 = ap (λ s. s.usage) e in
    let pins : v % 2 ^ 18 ≡ w % 2 ^ 18 = ap (λ s. s.pins) e in
    omega arith
