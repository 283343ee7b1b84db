-- What arithmetic on the counts of a word and on its high half does to the fields.
use Rattle.std.proofs.Common.{if◌then◌else◌, ◌≡◌, ℕ, ◌+◌, ◌-◌, ◌*◌, ◌/◌, ◌%◌, ◌<◌, ◌≤◌, ◌^◌, Bool, ◌==◌, ap, arith, sym, ◌∙◌}
use Rattle.std.proofs.lemmas.Bool.{lt-ltb, le-ltb}
use Rattle.state_word.specs.Fields.{bit, fields, pinned_fields, unpinned_fields, usage_down_fields, usage_limit, raised_usage}
use Rattle.state_word.proofs.Words.{same_record}

-- numbers that are alike at a place have the same bit there
pub same_bit : (place v w : ℕ) → v / 2 ^ place % 2 ≡ w / 2 ^ place % 2 → bit place v ≡ bit place w
same_bit place v w e = ap (λ (n : ℕ). n == 1) e

-- words that are alike from the flags on differ in the counts alone
module _ (v w : ℕ) (above : v / 2 ^ 22 ≡ w / 2 ^ 22) where
  with_counts : (p u : ℕ) → v % 2 ^ 18 ≡ p → v / 2 ^ 18 % 2 ^ 4 ≡ u → fields v ≡ record (fields w) { pins = p; usage = u }
  unfolding fields
  with_counts p u pins usage =
      same_record (fields v) (record (fields w) { pins = p; usage = u }) pins usage (same_bit 22 v w (omega arith)) (same_bit 23 v w (omega arith)) (same_bit 24 v w (omega arith)) (same_bit 25 v w (omega arith)) (same_bit 26 v w (omega arith)) (same_bit 27 v w (omega arith)) (same_bit 28 v w (omega arith)) (same_bit 29 v w (omega arith)) (same_bit 30 v w (omega arith)) (same_bit 31 v w (omega arith)) (omega arith)

-- words that are alike below the high half differ in the waiter alone
module _ (v w : ℕ) (below : v % 2 ^ 32 ≡ w % 2 ^ 32) where
  with_waiter : (number : ℕ) → v / 2 ^ 32 ≡ number → fields v ≡ record (fields w) { waiter = number }
  unfolding fields
  with_waiter number waiter =
      same_record (fields v) (record (fields w) { waiter = number }) (omega arith) (omega arith) (same_bit 22 v w (omega arith)) (same_bit 23 v w (omega arith)) (same_bit 24 v w (omega arith)) (same_bit 25 v w (omega arith)) (same_bit 26 v w (omega arith)) (same_bit 27 v w (omega arith)) (same_bit 28 v w (omega arith)) (same_bit 29 v w (omega arith)) (same_bit 30 v w (omega arith)) (same_bit 31 v w (omega arith)) waiter

pub pin_added : (w : ℕ) → (fields w).pins < 262143 → fields (w + 1) ≡ record (fields w) { pins = (fields w).pins + 1 }
unfolding fields
pin_added w room = with_counts (w + 1) w (omega arith) (w % 2 ^ 18 + 1) (w / 2 ^ 18 % 2 ^ 4) (omega arith) (omega arith)

pub pin_gone : (w : ℕ) → 0 < (fields w).pins → fields (w - 1) ≡ unpinned_fields (fields w)
unfolding fields
pin_gone w some = with_counts (w - 1) w (omega arith) (w % 2 ^ 18 - 1) (w / 2 ^ 18 % 2 ^ 4) (omega arith) (omega arith)

pub usage_lowered : (w : ℕ) → 0 < (fields w).usage → fields (w - 2 ^ 18) ≡ usage_down_fields (fields w)
unfolding fields
usage_lowered w some = with_counts (w - 2 ^ 18) w (omega arith) (w % 2 ^ 18) (w / 2 ^ 18 % 2 ^ 4 - 1) (omega arith) (omega arith)

pub usage_replaced : (w old new : ℕ) → old ≡ (fields w).usage → new < 2 ^ 4 → fields (w - old * 2 ^ 18 + new * 2 ^ 18) ≡ record (fields w) { usage = new }
unfolding fields
usage_replaced w old new is_old small = let v : ℕ = w - old * 2 ^ 18 + new * 2 ^ 18 in with_counts v w (omega arith) (w % 2 ^ 18) new (omega arith) (omega arith)

pub waiter_replaced : (w number : ℕ) → fields (w % 2 ^ 32 + number * 2 ^ 32) ≡ record (fields w) { waiter = number }
waiter_replaced w number = with_waiter (w % 2 ^ 32 + number * 2 ^ 32) w (omega arith) number (omega arith)

-- a pin that raises the usage count, and one that leaves it
module _ (w limit : ℕ) (ring : Bool) (is_limit : limit ≡ usage_limit ring) (room : (fields w).pins < 2 ^ 18 - 1) where
  pub pin_raises : limit ≤ 5 → (fields w).usage < limit → fields (w + 1 + 2 ^ 18) ≡ pinned_fields ring (fields w)
  unfolding fields
  pin_raises at_most few =
      let u : ℕ = w / 2 ^ 18 % 2 ^ 4 in
      let raised : u + 1 ≡ raised_usage ring u = sym (ap (λ b. if b then u + 1 else u) (lt-ltb u (usage_limit ring) (omega arith))) in
      let counted : (w + 1 + 2 ^ 18) / 2 ^ 18 % 2 ^ 4 ≡ u + 1 = omega arith in
      with_counts (w + 1 + 2 ^ 18) w (omega arith) (w % 2 ^ 18 + 1) (raised_usage ring u) (omega arith) (counted ∙ raised)

  pub pin_stays : limit ≤ (fields w).usage → fields (w + 1) ≡ pinned_fields ring (fields w)
  unfolding fields
  pin_stays many =
      let u : ℕ = w / 2 ^ 18 % 2 ^ 4 in
      let stays : u ≡ raised_usage ring u = sym (ap (λ b. if b then u + 1 else u) (le-ltb u (usage_limit ring) (omega arith))) in
      let counted : (w + 1) / 2 ^ 18 % 2 ^ 4 ≡ u = omega arith in
      with_counts (w + 1) w (omega arith) (w % 2 ^ 18 + 1) (raised_usage ring u) (omega arith) (counted ∙ stays)
