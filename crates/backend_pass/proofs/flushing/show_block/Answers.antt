use Rattle.std.proofs.Common.{arith}
use Rattle.backend_pass.proofs.Flushed.{tag_of_block}
use Rattle.backend_pass.proofs.flushing.show_block.Goals as goal

pub returns-clause-named : goal.returns-clause-named
returns-clause-named g c = (tag_of_block _ c.args._tag (omega arith) c.requires).0

pub returns-clause-listed : goal.returns-clause-listed
returns-clause-listed g c = (tag_of_block _ c.args._tag (omega arith) c.requires).1
