use Rattle.relation_commands.specs.Answers.{counted_asked, text_asked}
use Rattle.command_line.specs.Spelled.{request_in}
use Rattle.page_tool.proofs.Ended.{bad_log_ends, complete_ends, counted_done, counted_refused, crowded_ends, done_bad_log, done_missing, fault_ends, limit_ends, missing_ends, refused_by, refused_files, said_some, text_refused, usage_ends, wrote_done, wrote_refused}
use Rattle.page_tool.proofs.StatusLines.{said_as, said_nothing}
use Rattle.page_tool.proofs.run.run.Goals as goal

pub returns-in-Ok-clause-says : goal.returns-in-Ok-clause-says
returns-in-Ok-clause-says g c = said_nothing _ _ _ _ _

pub returns-in-Ok-clause-missing : goal.returns-in-Ok-clause-missing
returns-in-Ok-clause-missing g c = done_missing _ _ _ _ _ c.in-Ok.ensures.ends

pub returns-in-Ok-clause-bad_log : goal.returns-in-Ok-clause-bad_log
returns-in-Ok-clause-bad_log g c = done_bad_log _ _ _ _ _ c.in-Ok.ensures.ends

pub returns-in-Ok-clause-recovers : goal.returns-in-Ok-clause-recovers
returns-in-Ok-clause-recovers g c =
    wrote_done (request_in c.args.words.now) (g.H.Host.logs c.args.host.now)
    (g.O.Sink.bytes c.args.out.now) (g.O.Sink.bytes c.perform.new.out) c.in-Ok.ensures.recovers

pub returns-in-Ok-clause-counted : goal.returns-in-Ok-clause-counted
returns-in-Ok-clause-counted g c =
    counted_done (request_in c.args.words.now) (λ a. counted_asked a (g.H.Host.contents c.args.host.now))
    (g.O.Sink.bytes c.args.out.now) (g.O.Sink.bytes c.perform.new.out) c.in-Ok.ensures.counted

pub returns-in-Err-clause-says : goal.returns-in-Err-clause-says
returns-in-Err-clause-says g c =
    let refused = refused_by _ _ _ _ _ _ _ _ _ _ c.in-Err.error c.in-Err.ensures.ends c.say.ensures in
    said_as _ _ _ _ _ refused.error _ _ _ _ _ refused.ends refused.says

pub returns-in-Err-clause-usage : goal.returns-in-Err-clause-usage
returns-in-Err-clause-usage g c = usage_ends _ _ _ _ _ _ _ _ _ _ (refused_by _ _ _ _ _ _ _ _ _ _ c.in-Err.error c.in-Err.ensures.ends c.say.ensures)

pub returns-in-Err-clause-crowded : goal.returns-in-Err-clause-crowded
returns-in-Err-clause-crowded g c = crowded_ends _ _ _ _ _ _ _ _ _ _ (refused_by _ _ _ _ _ _ _ _ _ _ c.in-Err.error c.in-Err.ensures.ends c.say.ensures)

pub returns-in-Err-clause-faults : goal.returns-in-Err-clause-faults
returns-in-Err-clause-faults g c = fault_ends _ _ _ _ _ _ _ _ _ _ (refused_by _ _ _ _ _ _ _ _ _ _ c.in-Err.error c.in-Err.ensures.ends c.say.ensures)

pub returns-in-Err-clause-missing : goal.returns-in-Err-clause-missing
returns-in-Err-clause-missing g c = missing_ends _ _ _ _ _ _ _ _ _ _ (refused_by _ _ _ _ _ _ _ _ _ _ c.in-Err.error c.in-Err.ensures.ends c.say.ensures)

pub returns-in-Err-clause-bad_log : goal.returns-in-Err-clause-bad_log
returns-in-Err-clause-bad_log g c = bad_log_ends _ _ _ _ _ _ _ _ _ _ (refused_by _ _ _ _ _ _ _ _ _ _ c.in-Err.error c.in-Err.ensures.ends c.say.ensures)

pub returns-in-Err-clause-over_limit : goal.returns-in-Err-clause-over_limit
returns-in-Err-clause-over_limit g c = limit_ends _ _ _ _ _ _ _ _ _ _ (refused_by _ _ _ _ _ _ _ _ _ _ c.in-Err.error c.in-Err.ensures.ends c.say.ensures)

pub returns-in-Err-clause-text : goal.returns-in-Err-clause-text
returns-in-Err-clause-text g c =
    let some = said_some c.in-Err.error _ _ _ _ _ c.say.ensures in
    text_refused (request_in c.args.words.now) (λ a. text_asked a (g.H.Host.contents c.args.host.now))
    (g.O.Sink.bytes c.args.out.now) (g.O.Sink.bytes c.perform.new.out) c.in-Err.error _ some c.in-Err.ensures.text

pub returns-in-Err-clause-counted : goal.returns-in-Err-clause-counted
returns-in-Err-clause-counted g c =
    let some = said_some c.in-Err.error _ _ _ _ _ c.say.ensures in
    counted_refused (request_in c.args.words.now) (λ a. counted_asked a (g.H.Host.contents c.args.host.now))
    (g.O.Sink.bytes c.args.out.now) (g.O.Sink.bytes c.perform.new.out) c.in-Err.error _ some c.in-Err.ensures.counted

pub returns-in-Err-clause-recovers : goal.returns-in-Err-clause-recovers
returns-in-Err-clause-recovers g c =
    let some = said_some c.in-Err.error _ _ _ _ _ c.say.ensures in
    wrote_refused (request_in c.args.words.now) (g.H.Host.logs c.args.host.now)
    (g.O.Sink.bytes c.args.out.now) (g.O.Sink.bytes c.perform.new.out) c.in-Err.error _ some c.in-Err.ensures.recovers

pub returns-in-Err-clause-files : goal.returns-in-Err-clause-files
returns-in-Err-clause-files g c = refused_files _ _ _ c.in-Err.error _ _ _ _ _ c.say.ensures c.in-Err.ensures.files

pub returns-in-Err-clause-complete : goal.returns-in-Err-clause-complete
returns-in-Err-clause-complete g c = complete_ends _ _ _ _ _ _ _ _ _ _ (refused_by _ _ _ _ _ _ _ _ _ _ c.in-Err.error c.in-Err.ensures.ends c.say.ensures)
