use Rattle.std.proofs.Common.{◌<◌, ℕ}
use Rattle.log_recovery.specs.Records.{IsAtPlace}
use Rattle.log_recovery.proofs.records.place_of.Given as goal

abbrev pub invariant-loop-place : goal.invariant-loop-place
invariant-loop-place l = (n : ℕ) → n < l.place → IsAtPlace l.catalog l.fn.tablespace l.fn.database l.fn.relation n → ⊥
