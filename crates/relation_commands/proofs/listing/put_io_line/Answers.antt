use Rattle.relation_commands.specs.declared.listing.ListingError.TheVariants.{Memory}
use Rattle.relation_commands.specs.Listings.{io_line}
use Rattle.relation_commands.proofs.Putting.{puts_nothing}
use Rattle.relation_commands.proofs.listing.put_io_line.Goals as goal

pub returns-in_default-clause-text : goal.returns-in_default-clause-text
returns-in_default-clause-text g c = puts_nothing (io_line c.args.io) (g.O.Sink.bytes c.args.out.now) Memory
