use Rattle.std.proofs.Common.{ℕ, ◌+◌, ◌*◌, subst}
use Rattle.std.proofs.lemmas.Result.{on_ok_weaker}
use Rattle.sample_relation.specs.Samples.{Extends, header_bytes, items, used_page}
use Rattle.sample_relation.proofs.Joined.{joined}
use Rattle.sample_relation.proofs.put_used_page.Goals as goal

pub returns : goal.returns
unfolding used_page
returns c =
    let header = subst (λ (block : ℕ). Extends c.args.bytes.now.items c.put_header.new.bytes.items (header_bytes (8 * block) 0 (24 + 4 * c.args.count) c.offset_of-upper.result)) c.from.ensures c.in_ok-put_header.ensures in
    let e2 = joined header c.in_ok-put_pointers.ensures in
    let e3 = joined e2 c.in_ok-put_copies.ensures in
    on_ok_weaker c.put_items.result
    (λ (last : Extends c.put_copies.new.bytes.items c.put_items.new.bytes.items (items c.args.block c.args.count)). rw (← c.offset_of-upper.ensures) (joined e3 last))
    c.put_items.ensures
