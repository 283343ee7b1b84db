-- What logs and sinks hold, if it is known: None if it isn't.
use Rattle.std.specs.Prelude.{◌≡◌, ℕ, List, ◌++◌, length, Option, Result, OnOk, OnErr, IfSome}
use Rattle.std.specs.Prelude.{IsSomeAnd, MatchResult, option_map}

-- the bytes have become longer by a prefix of the piece
pub record GainsPrefix (piece old new : List ℕ) : Type 0 where
  pub prefix : List ℕ
  pub rest : List ℕ
  pub whole : piece ≡ prefix ++ rest
  pub is : new ≡ old ++ prefix

-- after a put: the whole piece was added, or after a failed one a prefix of it
pub record Puts {E : Type 0} (piece : List ℕ) (old new : Option (List ℕ))
    (result : Result Unit E) : Type 0 where
  pub ok : OnOk result (new ≡ option_map (λ bytes. bytes ++ piece) old)
  pub failed : OnErr result (IfSome old (λ bytes. IsSomeAnd new (GainsPrefix piece bytes)))

-- after a sync: all bytes of a log are durable, or after a failed one as many as before
abbrev pub Syncs : {E : Type 0} → List ℕ → ℕ → ℕ → Result Unit E → Type 0
Syncs bytes old new result = MatchResult result (λ _. new ≡ length bytes) (λ _. new ≡ old)
