use Rattle.std.proofs.Common.{◌∙◌, subst, sym}
use Rattle.pin_core.specs.declared.view.Content.TheVariants as lock
use Rattle.pin_core.specs.State.{link}
use Rattle.frame_table.specs.Content.{HoldsNoUnentered}
use Rattle.backend_pass.specs.declared.pinned.Pinned.{Pinned}
use Rattle.backend_pass.proofs.Keeping.{pass_on}
use Rattle.backend_pass.proofs.Between.{only_relocked}
use Rattle.library_example.proofs.backends.lock_for.Goals as goal

pub returns-in-Ok-clause-locked : goal.returns-in-Ok-clause-locked
returns-in-Ok-clause-locked g c =
    let e = c.in-Ok.ensures in
    only_relocked g.L.BlockLane.contents c.args.manager.now lock.Exclusive c.args.pinned c.in-Ok.locked.pinned c.args.pass.now c.lock_cleanup.new.self c.requires e.token e.belongs e.tokens e.lock

pub returns-in-Err-clause-same : goal.returns-in-Err-clause-same
returns-in-Err-clause-same g c = pass_on c.args.pass.now c.lock_cleanup.new.self c.release.new.self c.in-Err.ensures.same.keeps c.release.ensures.same.keeps

pub returns-in-Ok-clause-none_unentered : goal.returns-in-Ok-clause-none_unentered
returns-in-Ok-clause-none_unentered g c =
    let e = c.in-Ok.ensures in
    subst (λ (x : Pinned). HoldsNoUnentered (link c.lock_cleanup.new.self.view x.frame)) (sym e.token)
    e.none_unentered

pub returns-in-Err-clause-unentered : goal.returns-in-Err-clause-unentered
returns-in-Err-clause-unentered g c =
    c.release.ensures.same.unentered ∙ c.in-Err.ensures.same.unentered
