use Rattle.chunk_claims.specs.Workers.{MayClaim}
use Rattle.table_tests.proofs.claim_tests.claim_often.Given as goal

abbrev pub invariant-loop-turn : goal.invariant-loop-turn
invariant-loop-turn l = record { seat : MayClaim l.claims l.seat }
