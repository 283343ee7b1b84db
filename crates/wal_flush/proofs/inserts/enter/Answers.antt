use Rattle.std.proofs.Common.{ap, ◌∙◌}
use Rattle.pin_core.specs.declared.view.LogHold.{LogHold}
use Rattle.pin_core.specs.declared.view.View.{View}
use Rattle.wal_flush.proofs.inserts.enter.Goals as goal

pub returns-clause-can : goal.returns-clause-can
returns-clause-can g c = let a = c.in_ok-append_record.ensures in record {
  fits = c.store_log_end.ensures.seat.table ∙ a.can.fits;
  live = ap (λ (v : View). v.emptied) (c.store_log_end.ensures.view _ _ a.stores) ∙ a.can.live;
  inside = c.requires.seat.inside;
}

pub returns-clause-leaves : goal.returns-clause-leaves
returns-clause-leaves g c = let a = c.in_ok-append_record.ensures in let after = c.store_log_end.ensures.view _ _ a.stores in let did = a.appended.did in (
  ap (λ (v : View). v.log.held) after ∙ ap (λ (v : View). v.log.held) did.second.after ∙ ap (λ (v : View). v.log.held) did.first.after ∙ ap (λ (v : View). v.log.held) a.appended.went.did.after ∙ ap (λ (h : LogHold). h.held) c.requires.held,
  ap (λ (v : View). v.log.out) after ∙ ap (λ (v : View). v.log.out) did.second.after,
  ap (λ (v : View). v.log.appended) after,
)

pub returns-clause-entered : goal.returns-clause-entered
returns-clause-entered g c = let a = c.in_ok-append_record.ensures in record {
  home = c.append_record.new.seat.me.0;
  appends = a.appended;
  did = c.store_log_end.ensures.did _ _ a.stores;
  after = c.store_log_end.ensures.view _ _ a.stores;
}
