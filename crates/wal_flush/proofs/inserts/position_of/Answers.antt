use Rattle.std.proofs.Common.{ℕ, ◌<◌, get_or, List, ap, ◌∙◌, subst, arith}
use Rattle.page_layout.specs.Fields.{with_lsn}
use Rattle.page_layout.proofs.Positions.{restores}
use Rattle.wal_flush.proofs.inserts.position_of.Goals as goal

pub returns-clause-restores : goal.returns-clause-restores
returns-clause-restores c = λ lsn. let p = c.args.page.now in let s = c.bytes.ensures.size in
    let low : (k : ℕ) → get_or p k 0 < 256 = subst (λ (l : List ℕ). (k : ℕ) → get_or l k 0 < 256) c.bytes.ensures.bytes c.show_bytes.ensures in
    ap (λ (n : ℕ). with_lsn n (with_lsn lsn p)) c.lsn.ensures ∙ restores lsn p (omega arith) low
