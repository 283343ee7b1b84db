use Rattle.std.proofs.Common.{◌≡◌, List, ℕ, [], ◌∷◌, ◌++◌, append_assoc, subst, rules}
use Rattle.std.specs.Prelude.{IfOk, codes}
use Rattle.std.specs.String.{string_bytes}
use Rattle.page_layout.specs.Outcomes.{rewrite_totals_text}
use Rattle.page_layout.specs.Scan.{totals_text}
use Rattle.page_layout.specs.Text.{joined, position_text}
use Rattle.relation_commands.specs.declared.sampling.SampleTotals.{SampleTotals}
use Rattle.relation_commands.specs.SampleSteps.{sample_lines}
use Rattle.relation_commands.proofs.sampling.put_sample.Goals as goal

-- the lines, piece by piece
abbrev pieces : SampleTotals → List ℕ
pieces t =
    joined (totals_text t.before ∷ codes "\n" ∷ rewrite_totals_text t.rewrite ∷ codes "\nlog " ∷ position_text t.log.base ∷ codes " " ∷ position_text t.log.end ∷ codes "\n" ∷ totals_text t.after ∷ codes "\n" ∷ [])

regrouped : (a b c d e f g h i j : List ℕ) → a ++ (b ++ (c ++ (d ++ (e ++ (f ++ (g ++ (h ++ (i ++ j)))))))) ≡ (a ++ b) ++ ((c ++ (d ++ (e ++ (f ++ (g ++ h))))) ++ (i ++ j))
regrouped a b c d e f g h i j = simp append_assoc

pieces_are : (t : SampleTotals) → pieces t ≡ sample_lines t
pieces_are t =
    regrouped (totals_text t.before) (codes "\n") (rewrite_totals_text t.rewrite) (codes "\nlog ") (position_text t.log.base) (codes " ") (position_text t.log.end) (codes "\n") (totals_text t.after) (codes "\n")

pub returns-clause-text : goal.returns-clause-text
returns-clause-text g c =
    let totals = c.args.totals.now in
    let text : IfOk c.format-lines.result (λ lines. string_bytes lines ≡ pieces totals) =
    search (rules, c.format-lines.ensures.ok) in
    c.put_lines.ensures.text (sample_lines totals)
    (subst (λ (bytes : List ℕ). IfOk c.format-lines.result (λ lines. string_bytes lines ≡ bytes))
    (pieces_are totals) text)
