use Rattle.std.proofs.Common.{ap, refl, ◌∙◌}
use Rattle.atomic_table.specs.Table.{rest}
use Rattle.pin_core.specs.declared.view.View.{View}
use Rattle.pin_core.specs.State.{link}
use Rattle.frame_table.specs.Seats.{SameSeat}
use Rattle.frame_table.proofs.Told.{touches_on}
use Rattle.buffer_frames.proofs.Links.{returned_read}
use Rattle.buffer_frames.proofs.WorkSteps.{made_none}
use Rattle.buffer_frames.proofs.Works.{and_changed, works_none}
use Rattle.buffer_frames.proofs.fetching.install_page.Goals as goal

pub returns-clause-works : goal.returns-clause-works
returns-clause-works g c = let f = c.args.frame in let r = c.requires.reads in
    let o = c.page_out-out.ensures in let b = c.page_back.ensures in
    let same : SameSeat c.args.seat.now c.page_back.new.seat = record {
      table = b.seat.0 ∙ o.seat.0;
      id = b.seat.1 ∙ o.seat.1;
      hand = b.hand ∙ ap rest o.hand;
    } in
    and_changed (works_none f c.requires.stands) same (touches_on _ _ _ _ o.touches b.touches)
    (b.marks ∙ o.marks) (returned_read c.replace-given.result c.args.page.now c.page_out-out.result
    (link c.args.seat.now.me.0 f) (link c.page_out-out.new.seat.me.0 f)
    (link c.page_back.new.seat.me.0 f) o.out b.back r.applied r.right c.requires.given)
    refl refl refl

pub returns-clause-calls : goal.returns-clause-calls
returns-clause-calls g c = made_none c.args.seat.now.me.0 c.page_back.new.seat.me.0
    (ap (λ (x : View). x.device_calls) c.page_back.ensures.touches.self
    ∙ ap (λ (x : View). x.device_calls) c.page_out-out.ensures.touches.self)
