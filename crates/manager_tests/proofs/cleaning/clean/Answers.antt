use Rattle.std.proofs.Common.{subst, sym}
use Rattle.pin_core.specs.declared.view.Content.TheVariants.{Exclusive}
use Rattle.pin_core.specs.State.{link}
use Rattle.frame_table.specs.Content.{HoldsNoUnentered}
use Rattle.backend_pass.specs.declared.pinned.Pinned.{Pinned}
use Rattle.backend_pass.proofs.Seated.{same_unentered}
use Rattle.backend_pass.proofs.Between.{held_relocked}
use Rattle.manager_tests.proofs.cleaning.clean.Goals as goal

pub returns-in-Ok-clause-pass : goal.returns-in-Ok-clause-pass
returns-in-Ok-clause-pass g c =
    let e = c.in-Ok.ensures in
    let u = c.unexclusive.ensures in
    let none = subst (λ (x : Pinned). HoldsNoUnentered (link c.lock_cleanup.new.self.view x.frame))
    (sym e.token) e.none_unentered in
    let same = same_unentered c.lock_cleanup.new.self c.unexclusive.new.self u.same (u.unentered none) in
    held_relocked {L = g.row.L.Denot} {G = g.row.G.Denot} g.L.BlockLane.contents c.args.manager.now Exclusive c.args.pinned c.in-Ok.exclusive.pinned c.args.pass.now c.lock_cleanup.new.self c.unexclusive.new.self e.token c.requires.unlocked u.belongs e.same same e.tokens u.tokens e.lock u.lock
