-- Shares of two ledgers.
use Rattle.std.specs.Prelude.{◌≡◌, ℕ, ◌+◌}
use Rattle.text_window.specs.declared.shares.Shares.{Shares}

module _ {N A : Type 0} where
  -- The shares have n parts of each ledger, with nothing counted
  pub record HoldsParts (n : ℕ) (s : Shares N A) : Type 0 where
    pub parts : (s.delivered.parts ≡ n) × (s.above.parts ≡ n)
    pub amounts : (s.delivered.amount ≡ 0) × (s.above.amount ≡ 0)

  -- the parts are as they were
  abbrev pub KeepsParts : Shares N A → Shares N A → Type 0
  KeepsParts s t = (t.delivered.parts ≡ s.delivered.parts) × (t.above.parts ≡ s.above.parts)

  -- The parts of the other ones were added, and what they counted
  pub record IsMerged (s other t : Shares N A) : Type 0 where
    pub parts : (t.delivered.parts ≡ s.delivered.parts + other.delivered.parts)
        × (t.above.parts ≡ s.above.parts + other.above.parts)
    pub amounts : (t.delivered.amount ≡ s.delivered.amount + other.delivered.amount)
        × (t.above.amount ≡ s.above.amount + other.above.amount)
