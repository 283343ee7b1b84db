-- What a sample prints, and why it isn't done.
use Rattle.std.specs.Prelude.{◌≡◌, ℕ, List, ◌++◌, map}
use Rattle.byte_devices.specs.Faults.{Rose}
use Rattle.command_line.specs.declared.numbers.Options.{Options}
use Rattle.page_layout.specs.Scan.{totals_of}
use Rattle.page_jobs.specs.Printed.{totals_line}
use Rattle.sample_relation.specs.Relations.{sample_relation}
use Rattle.relation_commands.specs.declared.error.ToolError.{ToolError}
use Rattle.relation_commands.specs.declared.error.ToolError.TheVariants.{Crowded, OutFault, Memory}
use Rattle.relation_commands.specs.Crowded.{IsCrowded, crowding_of}
use Rattle.relation_commands.specs.RewriteResults.{after_rewrite}
use Rattle.relation_commands.specs.RewriteTexts.{rewrite_text}

-- the text of a sample: the totals of its relation, the text of the rewrite, and the totals of the
-- pages after it
abbrev pub sample_text : ℕ → ℕ → List ℕ
sample_text seed blocks =
    let pages = sample_relation seed blocks in
    totals_line (totals_of pages)
    ++ (rewrite_text pages ++ totals_line (totals_of (map after_rewrite pages)))

-- the cause of each refusal of a sample: it meets no fault but that of the output
abbrev pub IsSampleRefusal : Options → ℕ → ℕ → ToolError → Type 0
IsSampleRefusal options outs outs_now (Crowded crowding) =
    (crowding ≡ crowding_of options) × IsCrowded options
IsSampleRefusal options outs outs_now OutFault = Rose outs outs_now × ¬ IsCrowded options
IsSampleRefusal options outs outs_now Memory = Unit {0}
IsSampleRefusal options outs outs_now _ = ⊥
