use Rattle.std.proofs.Common.{rules, ◌≡◌, true, false, refl, sym, ap, ◌∙◌}
use Rattle.std.proofs.lemmas.Result.{err_from_is_err_and}
use Rattle.page_layout.specs.declared.outcomes.PageRewrite.TheVariants.{New, Used}
use Rattle.page_layout.specs.declared.rewrite.Rewrite.{Rewrite}
use Rattle.page_layout.specs.Outcomes.{is_changed_outcome, page_rewrite_of}
use Rattle.page_layout.specs.Rewritten.{is_skipped, rewritten_page}
use Rattle.page_layout.specs.Soundness.{is_new_page}
use Rattle.page_jobs.proofs.BlockRewrites.{changed_page, kept_page, not_skipped, refused_page, told_new, told_used, unchanged}
use Rattle.page_jobs.proofs.rewriting.rewrite_locked.Goals as goal

pub returns-then-is_new-clause-rewrites : goal.returns-then-is_new-clause-rewrites
returns-then-is_new-clause-rewrites g c =
    let r = c.read_exclusive-place.ensures in
    let new : is_new_page c.read_exclusive-place.new.page ≡ true = search rules in
    kept_page {L = g.row.L.Denot} {G = g.row.G.Denot} g.L.BlockLane.contents c.args.manager.now c.args.exclusive.now.pinned.tag c.read_exclusive-place.new.page c.read_exclusive-place.result New c.args.pass.now c.read_exclusive-place.new.self
    r.belongs r.same r.mark r.locks r.tokens r.devices.met r.reads (told_new c.read_exclusive-place.new.page r.reads.sound new) refl

pub returns-in_err-_lsn-clause-rewrites : goal.returns-in_err-_lsn-clause-rewrites
returns-in_err-_lsn-clause-rewrites g c =
    let p = err_from_is_err_and c.from_residual.result c.from_residual.ensures.1 in
    let r = c.read_exclusive-place.ensures in
    let x = c.in_err-_lsn.ensures in
    let new : is_new_page c.read_exclusive-place.new.page ≡ false = search rules in
    let told : page_rewrite_of c.read_exclusive-place.new.page ≡ Used c.rewritten-what.result = told_used c.read_exclusive-place.new.page r.reads.sound new ∙ ap Used (sym c.rewritten-what.ensures.outcome) in
    let is : is_changed_outcome (Used c.rewritten-what.result) ≡ true = ap (λ (w : Rewrite). is_changed_outcome (Used w)) c.in-Changed.is in
    let image : c.rewritten-what.new.out ≡ rewritten_page c.read_exclusive-place.new.page = c.rewritten-what.ensures.rewritten (not_skipped (is_skipped c.read_exclusive-place.new.page) c.rewritten-what.result c.in-Changed.dead c.rewritten-what.ensures.skipped.1 c.in-Changed.is) in
    rw (p.1, p.2)
    (refused_page {L = g.row.L.Denot} {G = g.row.G.Denot} g.L.BlockLane.contents c.args.manager.now c.args.exclusive.now.pinned.tag c.args.exclusive.now.pinned.frame c.read_exclusive-place.new.page c.rewritten-what.new.out c.read_exclusive-place.result (Used c.rewritten-what.result) c.in_err-_lsn.field-0.0 c.args.pass.now c.read_exclusive-place.new.self c.put.new.self
    x.belongs r.same x.same r.locks x.locks r.tokens x.tokens r.devices.met x.met r.reads x.refused x.answer x.torn image told is)

pub returns-in_ok-_lsn-clause-rewrites : goal.returns-in_ok-_lsn-clause-rewrites
returns-in_ok-_lsn-clause-rewrites g c =
    let r = c.read_exclusive-place.ensures in
    let x = c.in_ok-_lsn.ensures in
    let new : is_new_page c.read_exclusive-place.new.page ≡ false = search rules in
    let told : page_rewrite_of c.read_exclusive-place.new.page ≡ Used c.rewritten-what.result = told_used c.read_exclusive-place.new.page r.reads.sound new ∙ ap Used (sym c.rewritten-what.ensures.outcome) in
    let is : is_changed_outcome (Used c.rewritten-what.result) ≡ true = ap (λ (w : Rewrite). is_changed_outcome (Used w)) c.in-Changed.is in
    let image : c.rewritten-what.new.out ≡ rewritten_page c.read_exclusive-place.new.page = c.rewritten-what.ensures.rewritten (not_skipped (is_skipped c.read_exclusive-place.new.page) c.rewritten-what.result c.in-Changed.dead c.rewritten-what.ensures.skipped.1 c.in-Changed.is) in
    changed_page {L = g.row.L.Denot} {G = g.row.G.Denot} g.L.BlockLane.contents c.args.manager.now c.args.exclusive.now.pinned.tag c.args.exclusive.now.pinned.frame c.read_exclusive-place.new.page c.rewritten-what.new.out c.read_exclusive-place.result c.in_ok-_lsn._lsn (Used c.rewritten-what.result) c.args.pass.now c.read_exclusive-place.new.self c.put.new.self
    x.belongs r.same x.same r.locks x.locks r.tokens x.tokens r.devices.met x.met r.reads x.answer x.torn image told is

pub returns-in_default : goal.returns-in_default
returns-in_default g c =
    let r = c.read_exclusive-place.ensures in
    let new : is_new_page c.read_exclusive-place.new.page ≡ false = search rules in
    let told : page_rewrite_of c.read_exclusive-place.new.page ≡ Used c.rewritten-what.result = told_used c.read_exclusive-place.new.page r.reads.sound new ∙ ap Used (sym c.rewritten-what.ensures.outcome) in
    record {
      same = refl;
      rewrites = kept_page {L = g.row.L.Denot} {G = g.row.G.Denot} g.L.BlockLane.contents c.args.manager.now c.args.exclusive.now.pinned.tag c.read_exclusive-place.new.page c.read_exclusive-place.result (Used c.rewritten-what.result) c.args.pass.now c.read_exclusive-place.new.self
          r.belongs r.same r.mark r.locks r.tokens r.devices.met r.reads told (unchanged c.rewritten-what.result c.in_default.not-Changed);
    }
