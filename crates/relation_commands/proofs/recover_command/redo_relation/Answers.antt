use Rattle.command_line.specs.Request.{recover_asked}
use Rattle.relation_commands.specs.Status.{status_of}
use Rattle.relation_commands.proofs.RecoverGiven.{recovered_opened}
use Rattle.relation_commands.proofs.recover_command.redo_relation.Goals as goal

pub returns-in-Ok-clause-files : goal.returns-in-Ok-clause-files
returns-in-Ok-clause-files g c =
    let opened = c.in-Ok.ensures in
    recovered_opened (recover_asked c.args.request.now) (status_of c.redo_opened.result) (g.H.Host.contents c.args.host.now) (g.H.Host.contents c.relation.new.self)
    (g.H.Host.failed_writes c.args.host.now) (g.H.Host.failed_writes c.relation.new.self) (g.H.Host.logs c.args.host.now) (g.H.Host.logs c.relation.new.self) _ _ _ _ _
    opened.contents opened.failed opened.logs opened.writes opened.log_faults c.redo_opened.ensures.files
