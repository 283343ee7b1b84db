-- What is put where nothing is, and behind a text.
use Rattle.std.proofs.Common.{◌≡◌, ℕ, true, false, List, [], ◌++◌, Option, Some, None, Result, Ok, Err, refl, sym, ap, ◌∙◌, subst, append_assoc}
use Rattle.std.specs.Prelude.{IfSome, IsSomeAnd, is_ok, option_map}
use Rattle.std.proofs.lemmas.List.{append-nil}
use Rattle.byte_devices.specs.Bytes.{GainsPrefix, Puts}

gains_nothing : (text : List ℕ) (old : Option (List ℕ)) → IfSome old (λ bytes. IsSomeAnd old (GainsPrefix text bytes))
gains_nothing text None = tt
gains_nothing text (Some bytes) = record { prefix = []; rest = text; whole = refl; is = sym (append-nil bytes) }

-- a refusal before the text was put puts a prefix of it: nothing
pub puts_nothing : {E : Type 0} (text : List ℕ) (old : Option (List ℕ)) (e : E) → Puts text old old (Err e)
puts_nothing text old e = record { ok = tt; failed = gains_nothing text old }

-- the same was put, however the error is named
pub puts_named : {E F : Type 0} (text : List ℕ) (old new : Option (List ℕ)) (r : Result Unit E) (s : Result Unit F) → is_ok s ≡ is_ok r → Puts text old new r → Puts text old new s
puts_named text old new (Ok a) (Ok b) same puts = record { ok = puts.ok; failed = tt }
puts_named text old new (Ok a) (Err f) same puts = absurd (let no : false ≡ true = same in cc)
puts_named text old new (Err e) (Ok b) same puts = absurd (let no : true ≡ false = same in cc)
puts_named text old new (Err e) (Err f) same puts = record { ok = tt; failed = puts.failed }

-- a prefix of a text is one of the text with more behind it
longer : (text more old : List ℕ) (new : Option (List ℕ)) → IsSomeAnd new (GainsPrefix text old) → IsSomeAnd new (GainsPrefix (text ++ more) old)
longer text more old None gains = gains
longer text more old (Some new) gains = record {
  prefix = gains.prefix;
  rest = gains.rest ++ more;
  whole = ap (λ (l : List ℕ). l ++ more) gains.whole ∙ append_assoc gains.prefix gains.rest more;
  is = gains.is;
}

pub puts_part : {E F : Type 0} (text more : List ℕ) (old new : Option (List ℕ)) (e : E) (f : F) → Puts {E = E} text old new (Err e) → Puts {E = F} (text ++ more) old new (Err f)
puts_part text more None new e f puts = record { ok = tt; failed = tt }
puts_part text more (Some old) new e f puts = record { ok = tt; failed = longer text more old new puts.failed }

-- a text and then more, or a prefix of that
gains_behind : (text more old : List ℕ) (new : Option (List ℕ)) → IsSomeAnd new (GainsPrefix more (old ++ text)) → IsSomeAnd new (GainsPrefix (text ++ more) old)
gains_behind text more old None gains = gains
gains_behind text more old (Some new) gains = record {
  prefix = text ++ gains.prefix;
  rest = gains.rest;
  whole = ap (λ (l : List ℕ). text ++ l) gains.whole ∙ sym (append_assoc text gains.prefix gains.rest);
  is = gains.is ∙ append_assoc old text gains.prefix;
}

pub puts_behind : {E : Type 0} (text more : List ℕ) (old mid new : Option (List ℕ)) (r : Result Unit E) → mid ≡ option_map (λ bytes. bytes ++ text) old → Puts more mid new r → Puts (text ++ more) old new r
puts_behind text more None mid new (Ok done) is puts = record { ok = puts.ok ∙ ap (λ (m : Option (List ℕ)). option_map (λ (bytes : List ℕ). bytes ++ more) m) is; failed = tt }
puts_behind text more None mid new (Err e) is puts = record { ok = tt; failed = tt }
puts_behind text more (Some old) mid new (Ok done) is puts = record {
  ok = puts.ok ∙ ap (λ (m : Option (List ℕ)). option_map (λ (bytes : List ℕ). bytes ++ more) m) is ∙ ap (λ (l : List ℕ). Some l) (append_assoc old text more);
  failed = tt;
}
puts_behind text more (Some old) mid new (Err e) is puts = record {
  ok = tt;
  failed = gains_behind text more old new (subst (λ (m : Option (List ℕ)). IfSome m (λ bytes. IsSomeAnd new (GainsPrefix more bytes))) is puts.failed);
}
