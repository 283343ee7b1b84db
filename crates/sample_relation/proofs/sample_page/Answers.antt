use Rattle.std.proofs.Common.{◌≡◌, ◌+◌, ◌%◌, ◌++◌, ℕ, ◌∙◌, List, [], ap, length, arith}
use Rattle.sample_relation.specs.Samples.{sample_page, page_of_kind, Extends}
use Rattle.sample_relation.proofs.Lengths.{length_page}
use Rattle.sample_relation.proofs.sample_page.Goals as goal

-- the bytes that were put after none are those of the page
put : (old new : List ℕ) (seed seed' block block' : ℕ) → seed' ≡ seed → block' ≡ block → old ≡ [] → Extends old new (page_of_kind ((seed' + block') % 8) block) → new ≡ page_of_kind ((seed + block) % 8) block
put old new seed seed' block block' a b none puts =
    puts.is ∙ (ap (λ (l : List ℕ). l ++ page_of_kind ((seed' + block') % 8) block) none ∙ (ap (λ (s : ℕ). page_of_kind ((s + block') % 8) block) a ∙ ap (λ (n : ℕ). page_of_kind ((seed + n) % 8) block) b))

long : (seed block : ℕ) → length (page_of_kind ((seed + block) % 8) block) ≡ 8192
long seed block = length_page _ block (omega arith)

pub fill-requires : goal.fill-requires
fill-requires c =
    let a = put c.in_ok-bytes.bytes.items c.put_page.new.bytes.items c.args.seed c.from.result c.args.block c.from-2.result c.from.ensures c.from-2.ensures c.in_ok-bytes.ensures.items c.in_ok-put_page.ensures in
    ap length (c.deref.ensures.value ∙ a) ∙ long c.args.seed c.args.block

pub returns-clause-made : goal.returns-clause-made
unfolding sample_page
returns-clause-made c =
    c.fill.ensures ∙ (c.deref.ensures.value ∙ put c.in_ok-bytes.bytes.items c.put_page.new.bytes.items c.args.seed c.from.result c.args.block c.from-2.result c.from.ensures c.from-2.ensures c.in_ok-bytes.ensures.items c.in_ok-put_page.ensures)
