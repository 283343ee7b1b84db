use Rattle.std.proofs.Common.{◌≡◌, ◌∙◌, sym, subst}
use Rattle.pin_core.specs.declared.view.Content.{Content}
use Rattle.pin_core.specs.declared.view.Content.TheVariants.{Unlocked, Shared}
use Rattle.buffer_frames.specs.PageReads.{ReadsUnder}
use Rattle.backend_pass.proofs.pass.Pass.read_shared.Goals as goal

pub read_locked-requires-clause-locked : goal.read_locked-requires-clause-locked
read_locked-requires-clause-locked g c unlocked = differ (sym c.requires.locked ∙ unlocked)
  where
    differ : Shared ≡ Unlocked → ⊥
    differ e = cc

pub returns-clause-did : goal.returns-clause-did
returns-clause-did g c = subst (λ (lock : Content). ReadsUnder lock c.args.shared.now.pinned.frame c.read_locked.new.page c.read_locked.result c.args.self.now.view c.read_locked.new.self.view) c.requires.locked c.read_locked.ensures.did
