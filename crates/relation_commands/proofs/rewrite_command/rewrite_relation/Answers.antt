use Rattle.command_line.specs.Request.{rewrite_asked}
use Rattle.relation_commands.specs.Status.{rewrite_tool_error, status_of_error}
use Rattle.relation_commands.proofs.Stepping.{since_opened}
use Rattle.relation_commands.proofs.rewrite_command.rewrite_relation.Goals as goal

pub returns-in-Ok-rewrite_opened-clause-files : goal.returns-in-Ok-rewrite_opened-clause-files
returns-in-Ok-rewrite_opened-clause-files g c =
    let opened = c.in-Ok.ensures in
    since_opened (rewrite_asked c.args.request.now) 0 (g.H.Host.contents c.args.host.now) (g.H.Host.contents c.relation.new.self) (g.H.Host.failed_writes c.args.host.now) (g.H.Host.failed_writes c.relation.new.self)
    (g.H.Host.logs c.args.host.now) (g.H.Host.logs c.relation.new.self) _ _ _ _ _ opened.contents opened.failed opened.logs opened.writes opened.log_faults c.in-Ok-rewrite_opened.ensures.files

pub returns-in-Err-rewrite_opened-clause-files : goal.returns-in-Err-rewrite_opened-clause-files
returns-in-Err-rewrite_opened-clause-files g c =
    let opened = c.in-Ok.ensures in
    rw c.from_rewrite.ensures
    (since_opened (rewrite_asked c.args.request.now) (status_of_error (rewrite_tool_error c.in-Err-rewrite_opened.error)) (g.H.Host.contents c.args.host.now) (g.H.Host.contents c.relation.new.self)
    (g.H.Host.failed_writes c.args.host.now) (g.H.Host.failed_writes c.relation.new.self) (g.H.Host.logs c.args.host.now) (g.H.Host.logs c.relation.new.self) _ _ _ _ _
    opened.contents opened.failed opened.logs opened.writes opened.log_faults c.in-Err-rewrite_opened.ensures.files)
