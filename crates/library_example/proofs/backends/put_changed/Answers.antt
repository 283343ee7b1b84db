use Rattle.std.proofs.Common.{◌∙◌, subst, sym}
use Rattle.pin_core.specs.declared.view.Content.TheVariants as lock
use Rattle.pin_core.specs.State.{link}
use Rattle.frame_table.specs.Content.{HoldsNoUnentered}
use Rattle.backend_pass.specs.declared.tokens.Exclusive.{Exclusive}
use Rattle.backend_pass.proofs.Keeping.{pass_on}
use Rattle.backend_pass.specs.Between.{HasOnlyToken}
use Rattle.backend_pass.proofs.Between.{only_kept}
use Rattle.library_example.proofs.Returning.{not_refused}
use Rattle.library_example.proofs.backends.put_changed.Goals as goal

pub returns-in_err-put-clause-same : goal.returns-in_err-put-clause-same
returns-in_err-put-clause-same g c = pass_on c.args.pass.now c.read_exclusive.new.self c.put.new.self c.read_exclusive.ensures.same.keeps c.put.ensures.same.keeps

pub returns-in_err-put-clause-only : goal.returns-in_err-put-clause-only
returns-in_err-put-clause-only g c =
    let m = c.args.manager.now in
    let ct = g.L.BlockLane.contents in
    let r = c.read_exclusive.ensures in
    let p = c.put.ensures in
    let read = only_kept ct m lock.Exclusive c.args.locked.now.pinned c.args.pass.now c.read_exclusive.new.self c.requires.only r.belongs r.tokens r.locks in
    let put = only_kept ct m lock.Exclusive c.args.locked.now.pinned c.read_exclusive.new.self c.put.new.self read p.belongs p.tokens p.locks in
    subst (λ (x : Exclusive). HasOnlyToken ct m lock.Exclusive x.pinned c.put.new.self) (sym p.token) put

pub returns-clause-same : goal.returns-clause-same
returns-clause-same g c = pass_on c.args.pass.now c.read_exclusive.new.self c.put.new.self c.read_exclusive.ensures.same.keeps c.put.ensures.same.keeps

pub returns-clause-only : goal.returns-clause-only
returns-clause-only g c =
    let m = c.args.manager.now in
    let ct = g.L.BlockLane.contents in
    let r = c.read_exclusive.ensures in
    let p = c.put.ensures in
    let read = only_kept ct m lock.Exclusive c.args.locked.now.pinned c.args.pass.now c.read_exclusive.new.self c.requires.only r.belongs r.tokens r.locks in
    let put = only_kept ct m lock.Exclusive c.args.locked.now.pinned c.read_exclusive.new.self c.put.new.self read p.belongs p.tokens p.locks in
    subst (λ (x : Exclusive). HasOnlyToken ct m lock.Exclusive x.pinned c.put.new.self) (sym p.token) put

pub returns-in_err-put-clause-unentered : goal.returns-in_err-put-clause-unentered
returns-in_err-put-clause-unentered g c =
    c.put.ensures.unentered ∙ c.read_exclusive.ensures.same.unentered

pub returns-in_err-put-clause-takes_more : goal.returns-in_err-put-clause-takes_more
returns-in_err-put-clause-takes_more g c saw = absurd (not_refused c.put.new.self _ saw
    (c.in_err-put.ensures.complete saw.up))

pub returns-clause-unentered : goal.returns-clause-unentered
returns-clause-unentered g c = c.put.ensures.unentered ∙ c.read_exclusive.ensures.same.unentered

pub returns-clause-none_unentered : goal.returns-clause-none_unentered
returns-clause-none_unentered g c =
    subst (λ (x : Exclusive). HoldsNoUnentered (link c.put.new.self.view x.pinned.frame))
    (sym c.put.ensures.token) c.in_ok-put.ensures.none_unentered

pub returns-clause-takes_more : goal.returns-clause-takes_more
returns-clause-takes_more g c saw =
    subst (λ (x : Exclusive). HoldsNoUnentered (link c.put.new.self.view x.pinned.frame))
    (sym c.put.ensures.token) c.in_ok-put.ensures.none_unentered
