use Rattle.std.proofs.Common.{ℕ, ◌*◌, subst}
use Rattle.std.proofs.lemmas.Result.{on_ok_weaker}
use Rattle.sample_relation.specs.Samples.{Extends, header_bytes, unsound_page}
use Rattle.sample_relation.proofs.Joined.{joined}
use Rattle.sample_relation.proofs.put_unsound_page.Goals as goal

pub returns : goal.returns
unfolding unsound_page
returns c = on_ok_weaker c.put_copies.result
    (joined (subst (λ (block : ℕ). Extends c.args.bytes.now.items c.put_header.new.bytes.items (header_bytes (8 * block) 8 24 8192)) c.from.ensures c.in_ok-put_header.ensures))
    c.put_copies.ensures
