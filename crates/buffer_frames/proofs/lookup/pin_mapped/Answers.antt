use Rattle.std.proofs.Common.{Some, sym, ◌∙◌}
use Rattle.block_tag.specs.Names.{partition_number}
use Rattle.map_partitions.specs.Partition.{entries_seen}
use Rattle.buffer_frames.proofs.Keeping.{links_same}
use Rattle.buffer_frames.proofs.Calm.{none_if}
use Rattle.buffer_frames.proofs.Outside.{links_worked}
use Rattle.buffer_frames.proofs.Keeps.{and_searched, keeps_none, keeps_on}
use Rattle.buffer_frames.proofs.lookup.pin_mapped.Goals as goal

pub returns-in_err-frame-clause-rests : goal.returns-in_err-frame-clause-rests
returns-in_err-frame-clause-rests g c = none_if c.from_residual.result (links_same c.args.held.now c.args.seat.now.me.0 c.find.new.seat.me.0 (links_worked c.args.seat.now.me.0 c.find.new.seat.me.0 c.find.ensures.work) c.requires.rests)

pub returns-in_err-frame-clause-did : goal.returns-in_err-frame-clause-did
returns-in_err-frame-clause-did g c = let e = c.from_residual.ensures in rw e record { entries = entries_seen c.find.new.seat.me.0 (partition_number c.args.tag.now); did = c.find.ensures.did; none = sym c.find.ensures.found ∙ c.in_err-frame.was }

pub returns-clause-keeps : goal.returns-clause-keeps
returns-clause-keeps g c = let f = c.find.ensures in keeps_on (and_searched (partition_number c.args.tag.now) (keeps_none {l = Some (partition_number c.args.tag.now)} c.requires.stands c.requires.latch) f.seat f.work f.grows f.step f.holds) c.pin_found.ensures.keeps

pub returns-in_err-frame-clause-keeps : goal.returns-in_err-frame-clause-keeps
returns-in_err-frame-clause-keeps g c = let f = c.find.ensures in and_searched (partition_number c.args.tag.now) (keeps_none {l = Some (partition_number c.args.tag.now)} c.requires.stands c.requires.latch) f.seat f.work f.grows f.step f.holds
