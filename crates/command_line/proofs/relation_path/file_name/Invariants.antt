use Rattle.std.proofs.Common.{◌≡◌, ◌+◌, ◌≤◌, length, take, not, eqb}
use Rattle.std.specs.List.{suffix_len}
use Rattle.command_line.proofs.relation_path.file_name.Given as goal

abbrev pub invariant-loop-start : goal.invariant-loop-start
invariant-loop-start l = record {
  within : l.start ≤ length l.path;
  trimmed : l.start + suffix_len (λ b. not (eqb b 47)) l.path ≡ length l.path + suffix_len (λ b. not (eqb b 47)) (take l.start l.path);
}

abbrev pub decreases-loop-start : goal.decreases-loop-start
decreases-loop-start l = l.start
