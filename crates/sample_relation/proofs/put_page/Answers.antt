use Rattle.std.proofs.Common.{◌≡◌, ◌≢◌, ℕ, zero, suc, refl, subst, sym, arith}
use Rattle.std.specs.Result.{OnOk}
use Rattle.sample_relation.specs.Samples.{Extends, page_of_kind, used_page}
use Rattle.sample_relation.proofs.put_page.Goals as goal

-- what has items
used : (kind block : ℕ) → kind ≢ 0 → kind ≢ 1 → page_of_kind kind block ≡ used_page block kind
unfolding page_of_kind
used zero block a b = absurd (a refl)
used (suc zero) block a b = absurd (b refl)
used (suc (suc n)) block a b = refl

pub returns-in-0 : goal.returns-in-0
unfolding page_of_kind
returns-in-0 c =
    subst (λ (kind : ℕ). OnOk c.put_copies.result (Extends c.args.bytes.now.items c.put_copies.new.bytes.items (page_of_kind kind c.args.block))) (sym c.in-0.is) c.put_copies.ensures

pub returns-in-1 : goal.returns-in-1
unfolding page_of_kind
returns-in-1 c =
    subst (λ (kind : ℕ). OnOk c.put_unsound_page.result (Extends c.args.bytes.now.items c.put_unsound_page.new.bytes.items (page_of_kind kind c.args.block))) (sym c.in-1.is) c.put_unsound_page.ensures

pub returns-in_default : goal.returns-in_default
returns-in_default c = rw (used c.args.kind c.args.block (omega arith) (omega arith)) c.put_used_page.ensures
