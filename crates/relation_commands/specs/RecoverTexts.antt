-- What a recovery prints.
use Rattle.std.specs.Prelude.{ℕ, List, [], ◌∷◌, codes, length}
use Rattle.std.specs.Fmt.{decimal}
use Rattle.page_layout.specs.Text.{joined, position_text}
use Rattle.history_core.specs.Log.{Log, log_end}
use Rattle.log_recovery.specs.Redo.{block_count}
use Rattle.log_recovery.specs.declared.recovering.Redone.{Redone}

-- the line of the log, with the positions where it begins and ends and the number of its entries,
-- and that of the blocks
abbrev pub recover_lines : ℕ → ℕ → ℕ → ℕ → List ℕ
recover_lines base end entries blocks =
    joined (codes "log " ∷ position_text base ∷ codes " " ∷ position_text end
    ∷ codes " entries " ∷ decimal entries ∷ codes "\nblocks " ∷ decimal blocks
    ∷ codes " redone\n" ∷ [])

abbrev pub redone_lines : Redone → List ℕ
redone_lines r = recover_lines r.base r.end r.entries r.blocks

-- the text of a recovery by this log
abbrev pub recover_text : Log → List ℕ
recover_text log =
    recover_lines log.base (log_end log) (length log.entries) (block_count log.entries)
