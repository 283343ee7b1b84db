use Rattle.std.proofs.Common.{◌∙◌}
use Rattle.std.proofs.lemmas.Result.{on_ok_weaker}
use Rattle.pin_core.specs.declared.view.Content.TheVariants as lock
use Rattle.backend_pass.proofs.Keeping.{pass_on}
use Rattle.backend_pass.proofs.Between.{idle_released, only_relocked}
use Rattle.library_example.proofs.Returning.{saw_before}
use Rattle.library_example.proofs.backends.change_block.Goals as goal

pub returns-clause-back : goal.returns-clause-back
returns-clause-back g c =
    let m = c.args.manager.now in
    let ct = g.L.BlockLane.contents in
    let p = c.args.pass.now in
    let q = c.read_buffer.new.self in
    let r = c.lock_for.new.pass in
    let s = c.put_changed-done.new.pass in
    let t = c.unexclusive-pinned.new.self in
    let z = c.release.new.self in
    let d = c.put_changed-done.ensures in
    let u = c.unexclusive-pinned.ensures in
    let v = c.release.ensures in
    let unlocked = only_relocked ct m lock.Unlocked c.put_changed-done.new.locked.pinned c.unexclusive-pinned.result s t d.only u.token u.belongs u.tokens u.lock in
    record {
      same = pass_on p q z c.in_ok-pinned.ensures.same.keeps (pass_on q r z c.in_ok-locked.ensures.same (pass_on r s z d.same (pass_on s t z u.same.keeps v.same.keeps)));
      idle = idle_released ct m c.unexclusive-pinned.result t z unlocked v.belongs v.tokens v.locks;
    }

pub returns-in_err-locked-clause-back : goal.returns-in_err-locked-clause-back
returns-in_err-locked-clause-back g c = record {
  same = pass_on c.args.pass.now c.read_buffer.new.self c.lock_for.new.pass c.in_ok-pinned.ensures.same.keeps c.in_err-locked.ensures.same;
  idle = c.in_err-locked.ensures.refused;
}

pub returns-in_err-locked-clause-takes_more : goal.returns-in_err-locked-clause-takes_more
returns-in_err-locked-clause-takes_more g c saw =
    c.lock_for.ensures.unentered ∙ c.in_ok-pinned.ensures.same.unentered

pub returns-clause-unentered : goal.returns-clause-unentered
returns-clause-unentered g c = on_ok_weaker c.put_changed-done.result
    (λ none. c.release.ensures.same.unentered ∙ c.unexclusive-pinned.ensures.unentered none
    ∙ c.put_changed-done.ensures.unentered ∙ c.in_ok-locked.ensures.unentered
    ∙ c.in_ok-pinned.ensures.same.unentered)
    c.put_changed-done.ensures.none_unentered

pub returns-clause-takes_more : goal.returns-clause-takes_more
returns-clause-takes_more g c saw =
    let s = c.put_changed-done.new.pass in
    let t = c.unexclusive-pinned.new.self in
    let z = c.release.new.self in
    let u = c.unexclusive-pinned.ensures in
    let v = c.release.ensures in
    let put = saw_before s t u.same.keeps (saw_before t z v.same.keeps saw) in
    v.same.unentered ∙ u.unentered (c.put_changed-done.ensures.takes_more put)
    ∙ c.put_changed-done.ensures.unentered ∙ c.in_ok-locked.ensures.unentered
    ∙ c.in_ok-pinned.ensures.same.unentered
