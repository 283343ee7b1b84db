-- What is appended one after the other.
use Rattle.std.proofs.Common.{◌∙◌, ◌++◌, ℕ, List, ap}
use Rattle.std.proofs.lemmas.List.{append_assoc}
use Rattle.sample_relation.specs.Samples.{Extends}

pub joined : {a b c x y : List ℕ} → Extends a b x → Extends b c y → Extends a c (x ++ y)
joined {a} {b} {c} {x} {y} e f = record { is = f.is ∙ (ap (λ (l : List ℕ). l ++ y) e.is ∙ append_assoc a x y) }
