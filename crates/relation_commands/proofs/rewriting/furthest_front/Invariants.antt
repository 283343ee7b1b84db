use Rattle.std.proofs.Common.{◌≡◌, ◌≤◌, ◌<◌, ℕ}
use mathlib.Core.Option.{some}
use lib.ListN.{get_elem?}
use Rattle.backend_pass.specs.Passes.{PassState}
use Rattle.relation_commands.proofs.rewriting.furthest_front.Given as goal

abbrev pub invariant-loop-pass : goal.invariant-loop-pass
invariant-loop-pass l = (i : ℕ) (p : PassState) → i < l.pass-index → get_elem? l.passes i ≡ some p → p.view.front ≤ l.furthest
