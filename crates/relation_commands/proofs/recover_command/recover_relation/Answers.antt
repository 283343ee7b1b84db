use Rattle.command_line.specs.Request.{recover_asked, recovering}
use Rattle.relation_commands.proofs.RecoverCauses.{puts_no_log}
use Rattle.std.proofs.Common.{ℕ, subst, sym, rules}
use Rattle.relation_commands.specs.RecoverFiles.{RecoversFiles}
use Rattle.relation_commands.specs.RewriteFiles.{BecomesOf, files_in}
use Rattle.relation_commands.proofs.RecoverGiven.{put_files, put_status_is}
use Rattle.relation_commands.proofs.recover_command.recover_relation.Goals as goal

pub returns-in-Ok-clause-files : goal.returns-in-Ok-clause-files
returns-in-Ok-clause-files g c =
    let r = recover_asked c.args.request.now in
    let old = files_in g.H.Host.contents g.H.Host.failed_writes g.H.Host.logs g.H.Host.write_faults g.H.Host.log_faults c.args.host.now in
    let new = files_in g.H.Host.contents g.H.Host.failed_writes g.H.Host.logs g.H.Host.write_faults g.H.Host.log_faults c.redo_relation.new.host in
    let status = put_status_is _ c.put_redone.result c.map_err.result (λ e d post. search (rules, post)) c.map_err.ensures.cases in
    subst (λ (n : ℕ). BecomesOf old new (RecoversFiles r n)) (sym status) (put_files r old new _ _ c.put_redone.result c.put_redone.ensures.cause c.in-Ok.ensures.files)

pub returns-in-Err-clause-text : goal.returns-in-Err-clause-text
returns-in-Err-clause-text g c = puts_no_log (recovering (recover_asked c.args.request.now)) (g.H.Host.logs c.args.host.now) (g.O.Sink.bytes c.args.out.now) c.in-Err.error
