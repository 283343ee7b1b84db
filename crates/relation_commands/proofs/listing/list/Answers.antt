use Rattle.std.proofs.Common.{List, sym, subst}
use Rattle.relation_commands.specs.Listings.{LeavesLanes, counted_text}
use Rattle.relation_commands.specs.declared.listing.ListingError.TheVariants.{Memory}
use Rattle.relation_commands.proofs.IoLines.{counted_nothing}
use Rattle.relation_commands.proofs.Listed.{untouched}
use Rattle.relation_commands.proofs.listing.list.Goals as goal

pub returns-in-Err-clause-leaves : goal.returns-in-Err-clause-leaves
returns-in-Err-clause-leaves g c =
    let lanes = c.args.lanes.items in
    subst (λ (l : List g.row.L.Denot). LeavesLanes g.L.BlockLane.contents g.L.BlockLane.failed_writes g.L.BlockLane.write_faults c.args.listed.relation.fork c.args.listed.relation.blocks lanes l)
    (sym c.in-Err.ensures.back.0)
    (untouched g.L.BlockLane.contents g.L.BlockLane.failed_writes g.L.BlockLane.write_faults c.args.listed.relation.fork c.args.listed.relation.blocks lanes c.requires.unmarked c.requires.writes)

pub returns-in_default-clause-leaves : goal.returns-in_default-clause-leaves
returns-in_default-clause-leaves g c =
    untouched g.L.BlockLane.contents g.L.BlockLane.failed_writes g.L.BlockLane.write_faults c.args.listed.relation.fork c.args.listed.relation.blocks c.args.lanes.items c.requires.unmarked c.requires.writes

pub returns-in-Err-clause-counted : goal.returns-in-Err-clause-counted
returns-in-Err-clause-counted g c asked pages held all = counted_nothing (counted_text c.args.listed.listing pages) (g.O.Sink.bytes c.args.out.now) Memory

pub returns-in_default-clause-counted : goal.returns-in_default-clause-counted
returns-in_default-clause-counted g c asked pages held all = counted_nothing (counted_text c.args.listed.listing pages) (g.O.Sink.bytes c.args.out.now) Memory
