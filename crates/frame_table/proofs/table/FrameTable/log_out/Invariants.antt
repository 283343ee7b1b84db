use Rattle.std.proofs.Common.{None}
use Rattle.table_rule.specs.declared.noted_log.LogCall.TheVariants.{Untouched}
use Rattle.frame_table.proofs.table.FrameTable.log_out.Given as goal

-- the slot of the log
abbrev pub ghosts-log_out_at : goal.ghosts-log_out_at
ghosts-log_out_at g a = record { slot = a.slot; call = Untouched; bytes = None; faults = 0 }
