use Rattle.relation_commands.proofs.RecoverRewrite.{begun_empty, recovers_rewrite}
use Rattle.relation_commands.proofs.RecoveredPages.{files_kept, files_recovered}
use Rattle.relation_commands.proofs.laws.rewrites_are_recovered.Goals as goal

pub returns-clause-begun : goal.returns-clause-begun
returns-clause-begun c = begun_empty

pub returns-clause-pages : goal.returns-clause-pages
returns-clause-pages c = recovers_rewrite c.all_positions.ensures.rewritten

pub returns-clause-files : goal.returns-clause-files
returns-clause-files c = files_recovered c.all_positions.ensures.rewritten

pub returns-clause-kept : goal.returns-clause-kept
returns-clause-kept c = files_kept
