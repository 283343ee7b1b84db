-- What `|` and `&` with a mask of flags do to the fields of a word.
use Rattle.std.proofs.Common.{◌≡◌, ℕ, zero, suc, ◌-◌, ◌*◌, ◌/◌, ◌%◌, ◌<◌, ◌^◌, true, false, ◌==◌, ◌&&◌, ◌||◌, ap, refl, arith, ◌∙◌, min, max, bit_and, bit_or}
use Rattle.std.proofs.lemmas.Nat.{and_mask, and_mod, and_shr, or_mod, or_shr, pow_pos}
use Rattle.std.proofs.lemmas.Nat.Bits.{and_pow, bit_at_and, bit_at_or, bit_at-lt}
use Rattle.std.specs.Int.{bit_at}
use Rattle.std.specs.Int.Bits.{or_zero_r}
use Rattle.state_word.specs.declared.word.StateWord.{StateWord}
use Rattle.state_word.specs.declared.word.Flag.{Flag}
use Rattle.state_word.specs.declared.word.Flag.TheVariants.{Locked, Dirty, Valid, TagValid, IoInProgress, IoError, JustDirtied, PinCountWaiter, CheckpointNeeded, Permanent}
use Rattle.state_word.specs.Fields.{bit, fields, flag_of}
use Rattle.state_word.specs.Flags.{bit_place, with_flag}
use Rattle.state_word.proofs.Words.{same_record}

-- the test of the larger or the smaller of two bits
one_max : (a b : ℕ) → a < 2 → b < 2 → (max a b == 1) ≡ ((b == 1) || (a == 1))
one_max a b ha hb = grind arith

one_min : (a b : ℕ) → a < 2 → b < 2 → (min a b == 1) ≡ ((b == 1) && (a == 1))
one_min a b ha hb = grind arith

bit-or : (place w m : ℕ) → bit place (bit_or w m) ≡ (bit place m || bit place w)
bit-or place w m = ap (λ (n : ℕ). n == 1) (bit_at_or w m place) ∙ one_max (bit_at w place) (bit_at m place) (bit_at-lt w place) (bit_at-lt m place)

bit-and : (place w m : ℕ) → bit place (bit_and w m) ≡ (bit place m && bit place w)
bit-and place w m = ap (λ (n : ℕ). n == 1) (bit_at_and w m place) ∙ one_min (bit_at w place) (bit_at m place) (bit_at-lt w place) (bit_at-lt m place)

-- a word with the flags of another set too
abbrev or_words : StateWord → StateWord → StateWord
or_words m s = record {
  pins = s.pins;
  usage = s.usage;
  locked = m.locked || s.locked;
  dirty = m.dirty || s.dirty;
  valid = m.valid || s.valid;
  tag_valid = m.tag_valid || s.tag_valid;
  in_progress = m.in_progress || s.in_progress;
  failed = m.failed || s.failed;
  just_dirtied = m.just_dirtied || s.just_dirtied;
  awaited = m.awaited || s.awaited;
  checkpoint_needed = m.checkpoint_needed || s.checkpoint_needed;
  permanent = m.permanent || s.permanent;
  waiter = s.waiter;
}

-- a word with those of its flags alone that another has
abbrev kept : StateWord → StateWord → StateWord
kept m s = record {
  pins = s.pins;
  usage = s.usage;
  locked = m.locked && s.locked;
  dirty = m.dirty && s.dirty;
  valid = m.valid && s.valid;
  tag_valid = m.tag_valid && s.tag_valid;
  in_progress = m.in_progress && s.in_progress;
  failed = m.failed && s.failed;
  just_dirtied = m.just_dirtied && s.just_dirtied;
  awaited = m.awaited && s.awaited;
  checkpoint_needed = m.checkpoint_needed && s.checkpoint_needed;
  permanent = m.permanent && s.permanent;
  waiter = s.waiter;
}

-- `|` with a mask of flags leaves what is below and above the flags
module _ (w m : ℕ) (low : m % 2 ^ 22 ≡ 0) (high : m / 2 ^ 32 ≡ 0) where
  or_below : bit_or w m % 2 ^ 22 ≡ w % 2 ^ 22
  or_below = or_mod w m 22 ∙ ap (λ (n : ℕ). bit_or (w % 2 ^ 22) n) low ∙ or_zero_r (w % 2 ^ 22)

  or_above : bit_or w m / 2 ^ 32 ≡ w / 2 ^ 32
  or_above = or_shr w m 32 ∙ ap (λ (n : ℕ). bit_or (w / 2 ^ 32) n) high ∙ or_zero_r (w / 2 ^ 32)

  fields-or : fields (bit_or w m) ≡ or_words (fields m) (fields w)
  unfolding fields
  fields-or = let below = or_below in
      same_record (fields (bit_or w m)) (or_words (fields m) (fields w)) (omega arith) (omega arith) (bit-or 22 w m) (bit-or 23 w m) (bit-or 24 w m) (bit-or 25 w m) (bit-or 26 w m) (bit-or 27 w m) (bit-or 28 w m) (bit-or 29 w m) (bit-or 30 w m) (bit-or 31 w m) or_above

-- `&` with a mask that has all bits but flags leaves them too
module _ (w m : ℕ) (low : m % 2 ^ 22 ≡ 2 ^ 22 - 1) (high : m / 2 ^ 32 ≡ 2 ^ 32 - 1) (fits : w < 2 ^ 64) where
  and_below : bit_and w m % 2 ^ 22 ≡ w % 2 ^ 22
  and_below = let e : bit_and w m % 2 ^ 22 ≡ w % 2 ^ 22 % 2 ^ 22 = and_mod w m 22 ∙ ap (λ (n : ℕ). bit_and (w % 2 ^ 22) n) low ∙ and_mask (w % 2 ^ 22) 22 in omega arith

  and_above : bit_and w m / 2 ^ 32 ≡ w / 2 ^ 32
  and_above = let e : bit_and w m / 2 ^ 32 ≡ w / 2 ^ 32 % 2 ^ 32 = and_shr w m 32 ∙ ap (λ (n : ℕ). bit_and (w / 2 ^ 32) n) high ∙ and_mask (w / 2 ^ 32) 32 in omega arith

  fields-and : fields (bit_and w m) ≡ kept (fields m) (fields w)
  unfolding fields
  fields-and = let below = and_below in
      same_record (fields (bit_and w m)) (kept (fields m) (fields w)) (omega arith) (omega arith) (bit-and 22 w m) (bit-and 23 w m) (bit-and 24 w m) (bit-and 25 w m) (bit-and 26 w m) (bit-and 27 w m) (bit-and 28 w m) (bit-and 29 w m) (bit-and 30 w m) (bit-and 31 w m) and_above

-- one flag set
pub sets_flag : (flag : Flag) (w : ℕ) → fields (bit_or w (2 ^ bit_place flag)) ≡ with_flag flag true (fields w)
unfolding fields
sets_flag Locked w = fields-or w (2 ^ 22) refl refl
sets_flag Dirty w = fields-or w (2 ^ 23) refl refl
sets_flag Valid w = fields-or w (2 ^ 24) refl refl
sets_flag TagValid w = fields-or w (2 ^ 25) refl refl
sets_flag IoInProgress w = fields-or w (2 ^ 26) refl refl
sets_flag IoError w = fields-or w (2 ^ 27) refl refl
sets_flag JustDirtied w = fields-or w (2 ^ 28) refl refl
sets_flag PinCountWaiter w = fields-or w (2 ^ 29) refl refl
sets_flag CheckpointNeeded w = fields-or w (2 ^ 30) refl refl
sets_flag Permanent w = fields-or w (2 ^ 31) refl refl

-- one flag cleared
pub clears_flag : (flag : Flag) (w : ℕ) → w < 2 ^ 64 → fields (bit_and w (2 ^ 64 - 1 - 2 ^ bit_place flag)) ≡ with_flag flag false (fields w)
unfolding fields
clears_flag Locked w h = fields-and w (2 ^ 64 - 1 - 2 ^ 22) refl refl h
clears_flag Dirty w h = fields-and w (2 ^ 64 - 1 - 2 ^ 23) refl refl h
clears_flag Valid w h = fields-and w (2 ^ 64 - 1 - 2 ^ 24) refl refl h
clears_flag TagValid w h = fields-and w (2 ^ 64 - 1 - 2 ^ 25) refl refl h
clears_flag IoInProgress w h = fields-and w (2 ^ 64 - 1 - 2 ^ 26) refl refl h
clears_flag IoError w h = fields-and w (2 ^ 64 - 1 - 2 ^ 27) refl refl h
clears_flag JustDirtied w h = fields-and w (2 ^ 64 - 1 - 2 ^ 28) refl refl h
clears_flag PinCountWaiter w h = fields-and w (2 ^ 64 - 1 - 2 ^ 29) refl refl h
clears_flag CheckpointNeeded w h = fields-and w (2 ^ 64 - 1 - 2 ^ 30) refl refl h
clears_flag Permanent w h = fields-and w (2 ^ 64 - 1 - 2 ^ 31) refl refl h

-- the test of one flag
has_bit : (b p : ℕ) → b < 2 → 0 < p → (b * p == p) ≡ (b == 1)
has_bit zero p h q = grind arith
has_bit (suc b) p h q = grind arith

has-place : (place w : ℕ) → (bit_and w (2 ^ place) == 2 ^ place) ≡ bit place w
has-place place w = ap (λ (n : ℕ). n == 2 ^ place) (and_pow w place) ∙ has_bit (bit_at w place) (2 ^ place) (bit_at-lt w place) (pow_pos place)

pub has_flag : (flag : Flag) (w : ℕ) → (bit_and w (2 ^ bit_place flag) == 2 ^ bit_place flag) ≡ flag_of flag (fields w)
unfolding fields
has_flag Locked w = has-place 22 w
has_flag Dirty w = has-place 23 w
has_flag Valid w = has-place 24 w
has_flag TagValid w = has-place 25 w
has_flag IoInProgress w = has-place 26 w
has_flag IoError w = has-place 27 w
has_flag JustDirtied w = has-place 28 w
has_flag PinCountWaiter w = has-place 29 w
has_flag CheckpointNeeded w = has-place 30 w
has_flag Permanent w = has-place 31 w
