use Rattle.std.proofs.Common.{◌≡◌, Bool, ap, sym, subst}
use Rattle.io_counts.specs.declared.contexts.ByContext.{ByContext}
use Rattle.io_counts.specs.Counts.{io_with}
use Rattle.io_counts.specs.Tallies.{TallyState}
use Rattle.io_counts.proofs.Counts.{io_none}
use Rattle.buffer_frames.specs.Counting.{writes_of}
use Rattle.buffer_frames.proofs.victims.count_write.Goals as goal

pub returns-else-written : goal.returns-else-written
returns-else-written c =
    let io : TallyState = c.args.io.now in
    subst (λ (written : Bool). io ≡ record io { counted = io_with c.args.context (writes_of written) io.counted })
    (sym c.if-written.false) (ap (λ (x : ByContext). record io { counted = x }) (sym (io_none c.args.context io.counted)))
