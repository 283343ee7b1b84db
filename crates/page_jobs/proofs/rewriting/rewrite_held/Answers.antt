use Rattle.std.proofs.Common.{◌≡◌, ap, subst, ◌∙◌}
use Rattle.pin_core.specs.declared.view.Content.TheVariants as content
use Rattle.pin_core.specs.declared.view.Link.{Link}
use Rattle.buffer_frames.specs.Tokens.{no_tokens, tokens_less}
use Rattle.backend_pass.specs.declared.pinned.Pinned.{Pinned}
use Rattle.backend_pass.specs.declared.tokens.Exclusive.{Exclusive}
use Rattle.backend_pass.specs.Locks.{HasLock}
use Rattle.backend_pass.proofs.Keeping.{calls_on}
use Rattle.backend_pass.proofs.Seated.{but_unentered, unentered_on}
use Rattle.page_jobs.specs.Rewriting.{KeepsOtherLocks}
use Rattle.page_jobs.proofs.BlockRewrites.{held}
use Rattle.page_jobs.proofs.rewriting.rewrite_held.Goals as goal

pub returns : goal.returns
returns g c =
    let w = c.rewrite_locked-answer.ensures in
    let x = c.unexclusive-pinned.ensures in
    let y = c.release.ensures in
    let q = c.rewrite_locked-answer.new.pass in
    let same : c.unexclusive-pinned.result ≡ c.args.exclusive.pinned = x.token ∙ ap (λ (e : Exclusive). e.pinned) w.same in
    let spent : c.release.new.self.tokens ≡ no_tokens =
    y.tokens ∙ ap (tokens_less c.unexclusive-pinned.result.frame) (x.tokens ∙ w.rewrites.tokens) ∙ ap (λ (b : Pinned). tokens_less b.frame c.args.pass.now.tokens) same ∙ c.requires.last in
    let unlocked : HasLock content.Unlocked c.args.exclusive.pinned.frame c.release.new.self =
    y.locks c.args.exclusive.pinned.frame ∙ subst (λ (e : Exclusive). HasLock content.Unlocked e.pinned.frame c.unexclusive-pinned.new.self) w.same x.lock.here in
    let others : KeepsOtherLocks c.args.exclusive.pinned.frame q c.release.new.self =
    λ f other. y.locks f ∙ ap (λ (l : Link). l.content) (x.lock.others f (λ is. other (is ∙ ap (λ (e : Exclusive). e.pinned.frame) w.same))) in
    record {
      rewrites = held {L = g.row.L.Denot} {G = g.row.G.Denot} g.L.BlockLane.contents c.args.manager.now c.args.exclusive.pinned.tag c.args.exclusive.pinned.frame c.args.pass.now q c.release.new.self c.rewrite_locked-answer.result w.rewrites c.requires.locked
          (record {
            belongs = y.belongs;
            same = unentered_on q c.unexclusive-pinned.new.self c.release.new.self x.same
                (but_unentered c.unexclusive-pinned.new.self c.release.new.self y.same);
            calls = calls_on q c.unexclusive-pinned.new.self c.release.new.self x.calls y.calls;
            met = y.devices.met ∙ x.devices.met;
          }) (y.mark ∙ x.mark) unlocked others spent (y.down ∙ x.down) (y.devices.device_calls ∙ x.devices.device_calls);
    }
