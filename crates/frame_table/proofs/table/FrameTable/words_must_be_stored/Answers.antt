use Rattle.frame_table.proofs.Stored.{must_store, pin_stores, lower_stores, end_stores, dirty_stores, flushed_rises, redo_rises, hand_moves, counter_rises, hint_stored}
use Rattle.frame_table.proofs.table.FrameTable.words_must_be_stored.Goals as goal

pub returns-clause-each : goal.returns-clause-each
returns-clause-each g c = must_store _ _

pub returns-clause-pin : goal.returns-clause-pin
returns-clause-pin g c = pin_stores _ _

pub returns-clause-lowered : goal.returns-clause-lowered
returns-clause-lowered g c = lower_stores _ _

pub returns-clause-ended : goal.returns-clause-ended
returns-clause-ended g c = end_stores _ _

pub returns-clause-dirtied : goal.returns-clause-dirtied
returns-clause-dirtied g c = dirty_stores _ _

pub returns-clause-hand : goal.returns-clause-hand
returns-clause-hand g c = hand_moves _ _

pub returns-clause-flushed : goal.returns-clause-flushed
returns-clause-flushed g c = flushed_rises _ _

pub returns-clause-redo : goal.returns-clause-redo
returns-clause-redo g c = redo_rises _ _

pub returns-clause-counters : goal.returns-clause-counters
returns-clause-counters g c = counter_rises _ _

pub returns-clause-hints : goal.returns-clause-hints
returns-clause-hints g c = hint_stored _ _
