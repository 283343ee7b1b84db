use Rattle.std.proofs.Common.{ℕ, ◌∙◌, Option, map, subst}
use Rattle.std.specs.Prelude.{IfSome}
use Rattle.std.proofs.lemmas.Result.{IfOk-weaker, on_err_weaker}
use Rattle.log_recovery.specs.Steps.{Begins, HasRedone, HaveRedone}
use Rattle.log_recovery.proofs.Running.{marks_behind, marks_none, part_behind, part_none, redone_behind, redone_without}
use Rattle.log_recovery.proofs.recovering.redo_log.Goals as goal

pub returns-in-Ok-Some-clause-done : goal.returns-in-Ok-Some-clause-done
returns-in-Ok-Some-clause-done g c =
    let begins = subst (λ (o : Option ℕ). IfSome (g.S.Source.left c.args.source.now) (λ bytes. Begins bytes o (g.S.Source.left c.read_head.new.source))) c.in-Ok-Some.field-0-is c.in-Ok-Some.ensures.begun in
    IfOk-weaker c.redo_from.result
    (HaveRedone {L = g.row.L.Denot} g.L.BlockLane.contents g.L.BlockLane.failed_writes c.args.catalog.now c.in-Ok-Some.base (g.S.Source.left c.read_head.new.source) c.args.lanes.now c.redo_from.new.lanes)
    (HasRedone {L = g.row.L.Denot} g.L.BlockLane.contents g.L.BlockLane.failed_writes c.args.catalog.now (g.S.Source.left c.args.source.now) c.args.lanes.now c.redo_from.new.lanes)
    (λ p h. redone_behind {L = g.row.L.Denot} g.L.BlockLane.contents g.L.BlockLane.failed_writes c.args.catalog.now (g.S.Source.left c.args.source.now) (g.S.Source.left c.read_head.new.source) c.in-Ok-Some.base c.args.lanes.now c.redo_from.new.lanes p begins h)
    c.redo_from.ensures.done

pub returns-in-Ok-Some-clause-part : goal.returns-in-Ok-Some-clause-part
returns-in-Ok-Some-clause-part g c =
    let begins = subst (λ (o : Option ℕ). IfSome (g.S.Source.left c.args.source.now) (λ bytes. Begins bytes o (g.S.Source.left c.read_head.new.source))) c.in-Ok-Some.field-0-is c.in-Ok-Some.ensures.begun in
    on_err_weaker c.redo_from.result
    (part_behind {L = g.row.L.Denot} g.L.BlockLane.contents g.L.BlockLane.failed_writes c.args.catalog.now (g.S.Source.left c.args.source.now) (g.S.Source.left c.read_head.new.source) c.in-Ok-Some.base c.args.lanes.now c.redo_from.new.lanes begins)
    c.redo_from.ensures.part

pub returns-in-Ok-Some-clause-short : goal.returns-in-Ok-Some-clause-short
returns-in-Ok-Some-clause-short g c = λ is. let short = c.redo_from.ensures.short is in (short.0 ∙ c.in-Ok-Some.ensures.quiet, short.1)

pub returns-in-Ok-None-clause-done : goal.returns-in-Ok-None-clause-done
returns-in-Ok-None-clause-done g c =
    let begins = subst (λ (o : Option ℕ). IfSome (g.S.Source.left c.args.source.now) (λ bytes. Begins bytes o (g.S.Source.left c.read_head.new.source))) c.in-Ok-None.field-0-is c.in-Ok-None.ensures.begun in
    redone_without {L = g.row.L.Denot} g.L.BlockLane.contents g.L.BlockLane.failed_writes c.args.catalog.now (g.S.Source.left c.args.source.now) (g.S.Source.left c.read_head.new.source) c.args.lanes.now c.new.result begins c.new.ensures

pub returns-in-Err-clause-part : goal.returns-in-Err-clause-part
returns-in-Err-clause-part g c = part_none {L = g.row.L.Denot} g.L.BlockLane.contents g.L.BlockLane.failed_writes c.args.catalog.now (g.S.Source.left c.args.source.now) c.args.lanes.now

pub returns-in-Ok-Some-clause-unsynced : goal.returns-in-Ok-Some-clause-unsynced
returns-in-Ok-Some-clause-unsynced g c =
    let begins = subst (λ (o : Option ℕ). IfSome (g.S.Source.left c.args.source.now) (λ bytes. Begins bytes o (g.S.Source.left c.read_head.new.source))) c.in-Ok-Some.field-0-is c.in-Ok-Some.ensures.begun in
    marks_behind {L = g.row.L.Denot} g.L.BlockLane.contents g.L.BlockLane.failed_writes c.args.catalog.now (g.S.Source.left c.args.source.now) (g.S.Source.left c.read_head.new.source) c.in-Ok-Some.base (map g.L.BlockLane.unsynced c.args.lanes.now) (map g.L.BlockLane.unsynced c.redo_from.new.lanes) begins c.redo_from.ensures.unsynced

pub returns-in-Ok-None-clause-unsynced : goal.returns-in-Ok-None-clause-unsynced
returns-in-Ok-None-clause-unsynced g c = marks_none {L = g.row.L.Denot} g.L.BlockLane.contents g.L.BlockLane.failed_writes c.args.catalog.now (g.S.Source.left c.args.source.now) (map g.L.BlockLane.unsynced c.args.lanes.now)

pub returns-in-Err-clause-unsynced : goal.returns-in-Err-clause-unsynced
returns-in-Err-clause-unsynced g c = marks_none {L = g.row.L.Denot} g.L.BlockLane.contents g.L.BlockLane.failed_writes c.args.catalog.now (g.S.Source.left c.args.source.now) (map g.L.BlockLane.unsynced c.args.lanes.now)

pub returns-in-Err-clause-marked : goal.returns-in-Err-clause-marked
returns-in-Err-clause-marked g c = λ other. λ tag known is. is
