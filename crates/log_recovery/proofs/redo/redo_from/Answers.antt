use Rattle.std.proofs.Common.{◌≡◌, ◌∙◌, Err, ap, sym, refl, subst, map, ⊎_elim, arith}
use Rattle.std.proofs.lemmas.Option.{MatchOption-at_some}
use Rattle.segment_store.specs.Lanes.{HoldTheirs}
use Rattle.log_recovery.specs.Steps.{IsNextImage}
use Rattle.log_recovery.specs.declared.error.RecoverError.TheVariants.{Memory, WriteFault}
use Rattle.log_recovery.proofs.Marking.{redone_unmarked}
use Rattle.log_recovery.proofs.Running.{all_done, all_full, marks_stopped, marks_torn, part_stopped, part_torn, theirs_torn, underway_more, underway_none}
use Rattle.log_recovery.proofs.redo.redo_from.Goals as goal

pub loop-progress-init : goal.loop-progress-init
loop-progress-init g c = underway_none {L = g.row.L.Denot} g.L.BlockLane.contents g.L.BlockLane.failed_writes g.L.BlockLane.unsynced g.L.BlockLane.room g.L.BlockLane.read_faults g.L.BlockLane.write_faults
    c.args.catalog.now c.args.base (g.S.Source.left c.args.source.now) (g.S.Source.faults c.args.source.now) c.args.lanes.now c.new-progress.result c.new-progress.ensures

pub returns-in_default-clause-part : goal.returns-in_default-clause-part
returns-in_default-clause-part g c = part_stopped {L = g.row.L.Denot} g.L.BlockLane.contents g.L.BlockLane.failed_writes g.L.BlockLane.unsynced g.L.BlockLane.room g.L.BlockLane.read_faults g.L.BlockLane.write_faults
    c.args.catalog.now c.args.base (g.S.Source.left c.args.source.now) (g.S.Source.left c.loop-progress.source) (g.S.Source.left c.loop-progress.source) (g.S.Source.faults c.args.source.now) (g.S.Source.faults c.loop-progress.source)
    c.args.lanes.now c.loop-progress.lanes c.loop-progress.progress c.loop-progress.invariant
    c.loop-progress.lanes refl

pub returns-in_default-found-clause-done : goal.returns-in_default-found-clause-done
returns-in_default-found-clause-done g c = all_done {L = g.row.L.Denot} g.L.BlockLane.contents g.L.BlockLane.failed_writes g.L.BlockLane.unsynced g.L.BlockLane.room g.L.BlockLane.read_faults g.L.BlockLane.write_faults
    c.args.catalog.now c.args.base (g.S.Source.left c.args.source.now) (g.S.Source.left c.loop-progress.source) (g.S.Source.left c.loop-progress.source) (g.S.Source.faults c.args.source.now) (g.S.Source.faults c.loop-progress.source)
    c.args.lanes.now c.loop-progress.lanes c.loop-progress.progress c.loop-progress.invariant
    (c.in-Ok.ensures.none c.in_default-found.is)

pub returns-in-Err-clause-part : goal.returns-in-Err-clause-part
returns-in-Err-clause-part g c =
    let next = MatchOption-at_some _ (λ tag. IsNextImage c.args.catalog.now c.loop-progress.progress.position tag c.next_image.new.page (g.S.Source.left c.loop-progress.source) (g.S.Source.left c.next_image.new.source)) c.in-Some.tag c.in-Some.is c.in-Ok.ensures.some in
    ⊎_elim
    (λ (e : c.in-Err.error ≡ Memory). part_stopped {L = g.row.L.Denot} g.L.BlockLane.contents g.L.BlockLane.failed_writes g.L.BlockLane.unsynced g.L.BlockLane.room g.L.BlockLane.read_faults g.L.BlockLane.write_faults
    c.args.catalog.now c.args.base (g.S.Source.left c.args.source.now) (g.S.Source.left c.loop-progress.source) (g.S.Source.left c.next_image.new.source) (g.S.Source.faults c.args.source.now) (g.S.Source.faults c.loop-progress.source)
    c.args.lanes.now c.loop-progress.lanes c.loop-progress.progress c.loop-progress.invariant
    c.redo_image.new.lanes (c.in-Err.ensures.refused (ap Err e)))
    (λ (e : c.in-Err.error ≡ WriteFault). part_torn {L = g.row.L.Denot} g.L.BlockLane.contents g.L.BlockLane.failed_writes g.L.BlockLane.unsynced g.L.BlockLane.room g.L.BlockLane.read_faults g.L.BlockLane.write_faults
    c.args.catalog.now c.args.base (g.S.Source.left c.args.source.now) (g.S.Source.left c.loop-progress.source) (g.S.Source.left c.next_image.new.source) (g.S.Source.faults c.args.source.now) (g.S.Source.faults c.loop-progress.source)
    c.args.lanes.now c.loop-progress.lanes c.loop-progress.progress c.loop-progress.invariant
    c.redo_image.new.lanes c.in-Some.tag c.next_image.new.page _ _ c.requires.some next c.in-Ok.ensures.told refl (c.in-Err.ensures.failed (ap Err e)))
    c.in-Err.ensures.others

pub returns-in-Err-clause-theirs : goal.returns-in-Err-clause-theirs
returns-in-Err-clause-theirs g c = λ held. ⊎_elim
    (λ (e : c.in-Err.error ≡ Memory). subst (λ l. HoldTheirs (map g.L.BlockLane.contents l)) (sym (c.in-Err.ensures.refused (ap Err e))) (c.loop-progress.invariant.theirs held))
    (λ (e : c.in-Err.error ≡ WriteFault). theirs_torn {L = g.row.L.Denot} g.L.BlockLane.contents g.L.BlockLane.failed_writes g.L.BlockLane.unsynced g.L.BlockLane.room g.L.BlockLane.read_faults g.L.BlockLane.write_faults
    c.args.catalog.now c.args.base (g.S.Source.left c.args.source.now) (g.S.Source.left c.loop-progress.source) (g.S.Source.left c.next_image.new.source) (g.S.Source.faults c.args.source.now) (g.S.Source.faults c.loop-progress.source)
    c.args.lanes.now c.loop-progress.lanes c.loop-progress.progress c.loop-progress.invariant
    c.redo_image.new.lanes c.in-Some.tag c.next_image.new.page _ c.requires.some (c.in-Err.ensures.failed (ap Err e)) held)
    c.in-Err.ensures.others

pub returns-in-Err-clause-short : goal.returns-in-Err-clause-short
returns-in-Err-clause-short g c = ⊎_elim
    (λ (e : c.in-Err.error ≡ Memory). λ is. (c.in-Ok.ensures.faults.ok ∙ c.loop-progress.invariant.source_same, ap (map g.L.BlockLane.write_faults) (c.in-Err.ensures.refused (ap Err e)) ∙ c.loop-progress.invariant.writes_same))
    (λ (e : c.in-Err.error ≡ WriteFault). λ is. absurd (cc))
    c.in-Err.ensures.others

pub loop-progress-preserved : goal.loop-progress-preserved
loop-progress-preserved g c =
    let next = MatchOption-at_some _ (λ tag. IsNextImage c.args.catalog.now c.loop-progress.progress.position tag c.next_image.new.page (g.S.Source.left c.loop-progress.source) (g.S.Source.left c.next_image.new.source)) c.in-Some.tag c.in-Some.is c.in-Ok.ensures.some in
    underway_more {L = g.row.L.Denot} g.L.BlockLane.contents g.L.BlockLane.failed_writes g.L.BlockLane.unsynced g.L.BlockLane.room g.L.BlockLane.read_faults g.L.BlockLane.write_faults
    c.args.catalog.now c.args.base (g.S.Source.left c.args.source.now) (g.S.Source.left c.loop-progress.source) (g.S.Source.left c.next_image.new.source) (g.S.Source.faults c.args.source.now) (g.S.Source.faults c.loop-progress.source)
    c.args.lanes.now c.loop-progress.lanes c.loop-progress.progress c.loop-progress.invariant
    (g.S.Source.faults c.next_image.new.source) c.redo_image.new.lanes c.redo_image.new.progress c.in-Some.tag c.next_image.new.page _ _ c.requires.some next c.in-Ok.ensures.told c.in-Ok.ensures.faults.ok
    (omega arith) c.in_default-redo_image.ensures.done refl c.in_default-redo_image.ensures.written c.redo_image.ensures.reads c.in_default-redo_image.ensures.quiet c.redo_image.ensures.room c.redo_image.ensures.unsynced

pub returns-clause-done : goal.returns-clause-done
returns-clause-done g c = all_full {L = g.row.L.Denot} g.L.BlockLane.contents g.L.BlockLane.failed_writes g.L.BlockLane.unsynced g.L.BlockLane.room g.L.BlockLane.read_faults g.L.BlockLane.write_faults
    c.args.catalog.now c.args.base (g.S.Source.left c.args.source.now) (g.S.Source.left c.loop-progress.source) (g.S.Source.left c.loop-progress.source) (g.S.Source.faults c.args.source.now) (g.S.Source.faults c.loop-progress.source)
    c.args.lanes.now c.loop-progress.lanes c.loop-progress.progress c.loop-progress.invariant
    (omega arith)

pub returns-in_default-clause-unsynced : goal.returns-in_default-clause-unsynced
returns-in_default-clause-unsynced g c = marks_stopped {L = g.row.L.Denot} g.L.BlockLane.contents g.L.BlockLane.failed_writes g.L.BlockLane.unsynced g.L.BlockLane.room g.L.BlockLane.read_faults g.L.BlockLane.write_faults
    c.args.catalog.now c.args.base (g.S.Source.left c.args.source.now) (g.S.Source.left c.loop-progress.source) (g.S.Source.left c.loop-progress.source) (g.S.Source.faults c.args.source.now) (g.S.Source.faults c.loop-progress.source)
    c.args.lanes.now c.loop-progress.lanes c.loop-progress.progress c.loop-progress.invariant

pub returns-in_default-found-clause-unsynced : goal.returns-in_default-found-clause-unsynced
returns-in_default-found-clause-unsynced g c = marks_stopped {L = g.row.L.Denot} g.L.BlockLane.contents g.L.BlockLane.failed_writes g.L.BlockLane.unsynced g.L.BlockLane.room g.L.BlockLane.read_faults g.L.BlockLane.write_faults
    c.args.catalog.now c.args.base (g.S.Source.left c.args.source.now) (g.S.Source.left c.loop-progress.source) (g.S.Source.left c.loop-progress.source) (g.S.Source.faults c.args.source.now) (g.S.Source.faults c.loop-progress.source)
    c.args.lanes.now c.loop-progress.lanes c.loop-progress.progress c.loop-progress.invariant

pub returns-clause-unsynced : goal.returns-clause-unsynced
returns-clause-unsynced g c = marks_stopped {L = g.row.L.Denot} g.L.BlockLane.contents g.L.BlockLane.failed_writes g.L.BlockLane.unsynced g.L.BlockLane.room g.L.BlockLane.read_faults g.L.BlockLane.write_faults
    c.args.catalog.now c.args.base (g.S.Source.left c.args.source.now) (g.S.Source.left c.loop-progress.source) (g.S.Source.left c.loop-progress.source) (g.S.Source.faults c.args.source.now) (g.S.Source.faults c.loop-progress.source)
    c.args.lanes.now c.loop-progress.lanes c.loop-progress.progress c.loop-progress.invariant

pub returns-in-Err-clause-unsynced : goal.returns-in-Err-clause-unsynced
returns-in-Err-clause-unsynced g c =
    let next = MatchOption-at_some _ (λ tag. IsNextImage c.args.catalog.now c.loop-progress.progress.position tag c.next_image.new.page (g.S.Source.left c.loop-progress.source) (g.S.Source.left c.next_image.new.source)) c.in-Some.tag c.in-Some.is c.in-Ok.ensures.some in
    marks_torn {L = g.row.L.Denot} g.L.BlockLane.contents g.L.BlockLane.failed_writes g.L.BlockLane.unsynced g.L.BlockLane.room g.L.BlockLane.read_faults g.L.BlockLane.write_faults
    c.args.catalog.now c.args.base (g.S.Source.left c.args.source.now) (g.S.Source.left c.loop-progress.source) (g.S.Source.left c.next_image.new.source) (g.S.Source.faults c.args.source.now) (g.S.Source.faults c.loop-progress.source)
    c.args.lanes.now c.loop-progress.lanes c.loop-progress.progress c.loop-progress.invariant
    c.redo_image.new.lanes c.in-Some.tag c.next_image.new.page next c.in-Ok.ensures.told c.redo_image.ensures.unsynced

pub returns-in_default-clause-marked : goal.returns-in_default-clause-marked
returns-in_default-clause-marked g c = λ other. redone_unmarked {L = g.row.L.Denot} g.L.BlockLane.contents g.L.BlockLane.failed_writes c.loop-progress.invariant.done c.args.lanes.now c.loop-progress.lanes c.loop-progress.lanes c.loop-progress.invariant.lanes refl

pub returns-in-Err-clause-marked : goal.returns-in-Err-clause-marked
returns-in-Err-clause-marked g c = λ other. ⊎_elim
    (λ (e : c.in-Err.error ≡ Memory). redone_unmarked {L = g.row.L.Denot} g.L.BlockLane.contents g.L.BlockLane.failed_writes c.loop-progress.invariant.done c.args.lanes.now c.loop-progress.lanes c.redo_image.new.lanes c.loop-progress.invariant.lanes (c.in-Err.ensures.refused (ap Err e)))
    (λ (e : c.in-Err.error ≡ WriteFault). absurd (other e))
    c.in-Err.ensures.others
