use Rattle.std.proofs.Common.{◌≡◌, ◌∙◌, ◌++◌, ◌-◌, ◌+◌, ◌*◌, ◌%◌, ℕ, suc, List, ap, sym, arith, replicate, add-one, subst}
use Rattle.std.proofs.lemmas.List.{append-nil, append_assoc}
use Rattle.sample_relation.specs.Samples.{items, Extends}
use Rattle.sample_relation.proofs.put_items.Goals as goal

-- one item more
more : (m n block : ℕ) (old new all : List ℕ) → n ≡ suc m → Extends old new (replicate (8 * (m + 1)) ((block + (m + 1)) % 256)) → old ++ items block n ≡ all → new ++ items block m ≡ all
unfolding items
more m n block old new all e f g =
    rw (f.is, add-one, append_assoc) (subst (λ (k : ℕ). old ++ items block k ≡ all) e g)

pub loop-below-preserved : goal.loop-below-preserved
loop-below-preserved c =
    let m = c.loop-below.below - 1 in
    let a = subst (λ (block : ℕ). Extends c.loop-below.bytes.items c.put_copies.new.bytes.items (replicate (8 * (m + 1)) ((block + c.from-in-loop-below.result) % 256))) c.from.ensures c.in_ok-put_copies.ensures in
    let b = subst (λ (item : ℕ). Extends c.loop-below.bytes.items c.put_copies.new.bytes.items (replicate (8 * (m + 1)) ((c.args.block + item) % 256))) c.from-in-loop-below.ensures a in
    more m c.loop-below.below c.args.block c.loop-below.bytes.items c.put_copies.new.bytes.items _ (omega arith) b c.loop-below.invariant

pub returns : goal.returns
unfolding items
returns c =
    let e : c.loop-below.below ≡ 0 = omega arith in
    record { is = sym (append-nil c.loop-below.bytes.items) ∙ (ap (λ (n : ℕ). c.loop-below.bytes.items ++ items c.args.block n) (sym e) ∙ c.loop-below.invariant) }
