use Rattle.std.proofs.Common.{◌∙◌}
use Rattle.log_recovery.proofs.Shown.{behind}
use Rattle.log_recovery.proofs.records.take_page.Goals as goal

pub returns-clause-page : goal.returns-clause-page
returns-clause-page c = c.fill.ensures ∙ behind c.args.bytes.now
