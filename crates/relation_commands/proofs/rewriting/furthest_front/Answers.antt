use Rattle.std.proofs.Common.{◌≡◌, ◌≢◌, ◌∙◌, sym, ap, arith}
use mathlib.Core.Logic.{dite}
use mathlib.Core.Option.{some, some-injective}
use native.Mathlib.Decide.{ℕ_discrete}
use lib.ListN.{get_elem?}
use Rattle.backend_pass.specs.Passes.{PassState}
use Rattle.table_rule.proofs.Opens.{length_low, there_at}
use Rattle.backend_pass.proofs.Standing.{standing_or}
use Rattle.relation_commands.proofs.Fronts.{above_both}
use Rattle.relation_commands.proofs.rewriting.furthest_front.Goals as goal

pub loop-pass-preserved : goal.loop-pass-preserved
loop-pass-preserved c i p below at =
    let front = c.front.ensures in
    let x = there_at c.args.passes.now c.loop-pass.pass-index c.loop-pass-test.true in
    let item : get_elem? c.args.passes.now c.loop-pass.pass-index ≡ some c.pass-item.result = x.1 ∙ ap (λ (p : PassState). some p) (sym (c.pass-item.is ∙ standing_or c.args.passes.now c.loop-pass.pass-index x.0 c.pass-item.result x.1)) in
    let most = c.max-furthest.ensures in
    let above = above_both c.loop-pass.furthest c.front.result in
    dite (ℕ_discrete i c.loop-pass.pass-index)
    (λ (same : i ≡ c.loop-pass.pass-index). let is = ap (λ (x : PassState). x.view.front) (some-injective p c.pass-item.result (sym at ∙ ap (get_elem? c.args.passes.now) same ∙ item)) in omega arith)
    (λ (other : i ≢ c.loop-pass.pass-index). let before = c.loop-pass.invariant i p (omega (arith, other)) at in omega arith)

pub returns : goal.returns
returns c i p at = let low = length_low c.args.passes.now i p at in let all = c.loop-pass-test.false in c.loop-pass.invariant i p (omega arith) at
