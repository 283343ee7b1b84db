use Rattle.std.proofs.Common.{◌++◌}
use Rattle.io_counts.specs.Totals.{loads_in}
use Rattle.io_counts.proofs.Totals.{loads_then}
use Rattle.io_counts.proofs.loads.load_totals.Goals as goal

pub returns-clause-view : goal.returns-clause-view
returns-clause-view g c =
    let v = c.args.seat.now.me.0 in
    let u = c.load_context-no_ring.new.seat.me.0 in
    let x = c.load_context-bulk_read.new.seat.me.0 in
    let y = c.load_context-bulk_write.new.seat.me.0 in
    let w = c.load_context-vacuum.new.seat.me.0 in
    loads_then v u w (loads_in 0 c.load_context-no_ring.result) (loads_in 5 c.load_context-bulk_read.result ++ (loads_in 10 c.load_context-bulk_write.result ++ loads_in 15 c.load_context-vacuum.result)) c.load_context-no_ring.ensures.view
    (loads_then u x w (loads_in 5 c.load_context-bulk_read.result) (loads_in 10 c.load_context-bulk_write.result ++ loads_in 15 c.load_context-vacuum.result) c.load_context-bulk_read.ensures.view
    (loads_then x y w (loads_in 10 c.load_context-bulk_write.result) (loads_in 15 c.load_context-vacuum.result) c.load_context-bulk_write.ensures.view c.load_context-vacuum.ensures.view))

pub returns-clause-most : goal.returns-clause-most
returns-clause-most g c = record {
  no_ring = c.load_context-no_ring.ensures.most;
  bulk_read = c.load_context-bulk_read.ensures.most;
  bulk_write = c.load_context-bulk_write.ensures.most;
  vacuum = c.load_context-vacuum.ensures.most;
}

pub returns-clause-did : goal.returns-clause-did
returns-clause-did g c = (
  c.load_context-no_ring.new.seat.me.0,
  c.load_context-bulk_read.new.seat.me.0,
  c.load_context-bulk_write.new.seat.me.0,
  c.load_context-no_ring.ensures.did,
  c.load_context-bulk_read.ensures.did,
  c.load_context-bulk_write.ensures.did,
  c.load_context-vacuum.ensures.did,
)
