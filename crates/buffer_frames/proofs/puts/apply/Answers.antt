use Rattle.std.proofs.Common.{◌≡◌, ◌∙◌, None, ap, subst}
use Rattle.atomic_table.specs.Table.{rest}
use Rattle.pin_core.specs.declared.view.Link.{Link}
use Rattle.pin_core.specs.State.{Page, link}
use Rattle.frame_table.specs.PageWork.{ReturnsBy, applied_link}
use Rattle.frame_table.proofs.Told.{touches_on}
use Rattle.buffer_frames.proofs.PagePuts.{overwrites_logged, returned_applied}
use Rattle.buffer_frames.proofs.puts.apply.Goals as goal

pub returns-clause-seat : goal.returns-clause-seat
returns-clause-seat g c = let o = c.page_out-out.ensures in let b = c.page_back.ensures in record {
  table = b.seat.0 ∙ o.seat.0;
  id = b.seat.1 ∙ o.seat.1;
  hand = b.hand ∙ ap rest o.hand;
}

pub returns-clause-touches : goal.returns-clause-touches
returns-clause-touches g c = touches_on _ _ _ _ c.page_out-out.ensures.touches c.page_back.ensures.touches

pub returns-clause-marks : goal.returns-clause-marks
returns-clause-marks g c = c.page_back.ensures.marks ∙ c.page_out-out.ensures.marks

pub returns-clause-applied : goal.returns-clause-applied
returns-clause-applied g c =
    let l = link c.args.seat.now.me.0 c.args.frame in
    let n = link c.page_back.new.seat.me.0 c.args.frame in
    subst (λ (p : Page). n ≡ applied_link p (record l { out = None })) c.replace-image.ensures.value
    (returned_applied c.replace-image.result c.page_out-out.result l (link c.page_out-out.new.seat.me.0 c.args.frame) n c.page_out-out.ensures.out c.page_back.ensures.back c.requires.entered)

pub returns-clause-did : goal.returns-clause-did
returns-clause-did g c = let o = c.page_out-out.ensures in let b = c.page_back.ensures in
    let unapplied = ap (λ (l : Link). l.unapplied) o.out ∙ c.requires.entered in record {
      out = c.page_out-out.new.seat.me.0;
      taken = o.did.0;
      found = b.did.0;
      unapplied = unapplied;
      image = ap (λ (l : Link). l.image) o.out ∙ c.requires.image;
      went = o.did.1;
      came = subst (λ k. ReturnsBy k c.args.frame c.page_out-out.new.seat.me.0 c.page_back.new.seat.me.0 b.did.0) (overwrites_logged (link c.page_out-out.new.seat.me.0 c.args.frame) unapplied) b.did.1;
    }
