use Rattle.std.proofs.Common.{refl, ap, ◌∙◌}
use Rattle.pin_core.specs.declared.view.View.{View}
use Rattle.wal_flush.specs.Flushes.{still, again}
use Rattle.wal_flush.proofs.flushes.await_flushed.Goals as goal

pub loop-init : goal.loop-init
loop-init g c = record { seat = record { table = refl; id = refl; hand = refl }; live = refl; looked = still }

pub loop-preserved : goal.loop-preserved
loop-preserved g c = let i = c.loop.invariant in let b = c.load_flushed.ensures in record {
  seat = record { table = b.seat.table ∙ i.seat.table; id = b.seat.id ∙ i.seat.id; hand = b.seat.hand ∙ i.seat.hand };
  live = ap (λ (v : View). v.emptied) b.view ∙ i.live;
  looked = again i.looked (record { found = c.load_flushed.result; did = b.did; before = c.if-lsn-load_flushed.false });
}
