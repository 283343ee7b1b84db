use Rattle.std.proofs.Common.{Ok}
use Rattle.page_layout.specs.declared.outcomes.RewriteTotals.{RewriteTotals}
use Rattle.command_line.specs.Request.{rewrite_asked}
use Rattle.relation_commands.specs.RewriteCommand.{LeavesByEnd}
use Rattle.relation_commands.proofs.GivenFiles.{after_put}
use Rattle.relation_commands.proofs.Stepping.{becomes_also, below_put, below_rewrite, refused_text, text_so}
use Rattle.relation_commands.proofs.rewrite_command.rewrite_surveyed.Goals as goal

pub returns-in-Ok-clause-limit : goal.returns-in-Ok-clause-limit
returns-in-Ok-clause-limit g c = below_put g.H.Lane.BlockLane.contents g.H.Lane.BlockLane.failed_writes g.H.Lane.BlockLane.read_faults g.H.Lane.BlockLane.write_faults
    (g.H.Host.contents c.args.host.now) (rewrite_asked c.args.request.now) c.args.relation c.args.base c.args.lanes.items c.requires.surveyed _ _ _ c.put_totals.ensures.cause

pub returns-in-Ok-clause-files : goal.returns-in-Ok-clause-files
returns-in-Ok-clause-files g c = becomes_also _ _ (LeavesByEnd {T = RewriteTotals} (rewrite_asked c.args.request.now) (Ok c.in-Ok.totals)) (LeavesByEnd (rewrite_asked c.args.request.now) c.put_totals.result)
    (λ o n leaves. after_put (rewrite_asked c.args.request.now) o n c.in-Ok.totals _ _ c.put_totals.result c.put_totals.ensures.cause leaves) c.in-Ok.ensures.files

pub returns-in-Ok-clause-text : goal.returns-in-Ok-clause-text
returns-in-Ok-clause-text g c = text_so g.H.Lane.BlockLane.contents g.H.Lane.BlockLane.failed_writes g.H.Lane.BlockLane.read_faults g.H.Lane.BlockLane.write_faults
    (g.H.Host.contents c.args.host.now) (rewrite_asked c.args.request.now) c.args.relation c.args.base c.args.lanes.items c.requires.surveyed c.in-Ok.totals _ _ c.put_totals.result
    c.put_totals.ensures.text c.in-Ok.ensures.totals

pub returns-in-Err-clause-limit : goal.returns-in-Err-clause-limit
returns-in-Err-clause-limit g c = below_rewrite g.H.Lane.BlockLane.contents g.H.Lane.BlockLane.failed_writes g.H.Lane.BlockLane.read_faults g.H.Lane.BlockLane.write_faults
    (g.H.Host.contents c.args.host.now) (rewrite_asked c.args.request.now) c.args.relation c.args.base c.args.lanes.items c.requires.surveyed c.in-Err.error c.in-Err.ensures.limit

pub returns-in-Err-clause-text : goal.returns-in-Err-clause-text
returns-in-Err-clause-text g c = refused_text (rewrite_asked c.args.request.now) (g.H.Host.contents c.args.host.now) (g.O.Sink.bytes c.args.out.now) c.in-Err.error
