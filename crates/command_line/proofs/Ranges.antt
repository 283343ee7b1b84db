-- Numbers as a text writes them, and their ranges.
use Rattle.std.proofs.Common.{◌≡◌, ◌<◌, ◌≤◌, ◌^◌, ℕ, Bool, Some, None, true, false, refl, cond, arith}
use Rattle.std.specs.Str.Parse.{IsNumeral, digits_value, without_leading_plus}
use Rattle.clap.specs.ValueTests.{is_unsigned_in}
use Rattle.clap.specs.Words.{Text}
use Rattle.clap.specs.declared.builder.value_parser.ValueParser.TheVariants as parser
use Rattle.clap.proofs.ValueTestLemmas.{Accepts-accepts, accepts-Accepts}
use Rattle.command_line.specs.Numbers.{NumberRange, number_of}

-- what clap takes for a number of the range has its number
pub number_of-taken : (range : NumberRange) (text : Text) (n : ℕ) → IsNumeral 10 (without_leading_plus text)
    → n ≡ digits_value 10 (without_leading_plus text) → n < 2 ^ 64 → range.least ≤ n → n ≤ range.greatest → Some n ≡ number_of range text
number_of-taken range text n numeral is small low high =
    let taken : is_unsigned_in range.least range.greatest text ≡ true =
    Accepts-accepts false (parser.Unsigned range.least range.greatest) text (numeral, omega arith, omega arith, omega arith) in
    rw (taken, is) refl

-- and what it doesn't take has none
pub number_of-refused : (range : NumberRange) (text : Text)
    → (IsNumeral 10 (without_leading_plus text) → digits_value 10 (without_leading_plus text) < 2 ^ 64
    → range.least ≤ digits_value 10 (without_leading_plus text) → digits_value 10 (without_leading_plus text) ≤ range.greatest → ⊥)
    → None ≡ number_of range text
number_of-refused range text refused = go (is_unsigned_in range.least range.greatest text) refl
  where
    go : (b : Bool) → is_unsigned_in range.least range.greatest text ≡ b
        → None ≡ cond b (Some (digits_value 10 (without_leading_plus text))) None
    go false e = refl
    go true e =
        let taken = accepts-Accepts false (parser.Unsigned range.least range.greatest) text e in
        absurd (refused taken.0 taken.1 taken.2 taken.3)
