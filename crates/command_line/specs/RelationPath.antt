-- The relation's number that a path ends with.
use Rattle.std.specs.Prelude.{ℕ, ◌+◌, ◌-◌, ◌*◌, ◌^◌, Bool, true, false, not, ◌&&◌, ◌==◌, nat_lt}
use Rattle.std.specs.Prelude.{List, length, take, fold, slice_index, Option, Some, None}
use Rattle.std.specs.Prelude.{if◌then◌else◌}
use Rattle.std.specs.List.{after_last, list_all}
use Rattle.block_tag.specs.declared.tag.Fork.{Fork}
use Rattle.block_tag.specs.declared.tag.Fork.TheVariants.{Main, Fsm, Vm, Init}
use Rattle.segment_store.specs.Paths.{fork_of, is_digit}

-- the number that digits are in decimal
abbrev pub number_value : List ℕ → ℕ
number_value digits = fold (λ value digit. 10 * value + (digit - 48)) 0 digits

-- a decimal number from 1 to 4294967295 without leading zeros
unfoldable pub is_relation_number : List ℕ → Bool
is_relation_number digits = list_all is_digit digits && (not (slice_index digits 0 == 48)
    && (nat_lt 0 (number_value digits) && nat_lt (number_value digits) (2 ^ 32)))

-- what follows the last slash of a path
abbrev pub file_name : List ℕ → List ℕ
file_name path = after_last (λ byte. byte == 47) path

-- how many bytes of a file's name stand for its fork: those of `_fsm`, `_vm` and `_init`
abbrev pub fork_length : Fork → ℕ
fork_length Main = 0
fork_length Fsm = 4
fork_length Vm = 3
fork_length Init = 5

-- the file's name without what stands for its fork
abbrev pub number_part : List ℕ → List ℕ
number_part path = take (length (file_name path) - fork_length (fork_of path)) (file_name path)

-- the last part of the path is a relation's number, with or without a fork
unfoldable pub is_relation_path : List ℕ → Bool
is_relation_path path = is_relation_number (number_part path)

-- the number of the relation that the path names
abbrev pub relation_number : List ℕ → Option ℕ
relation_number path =
    if is_relation_path path then Some (number_value (number_part path)) else None

-- the path names the main fork
abbrev pub is_main_fork : Fork → Bool
is_main_fork Main = true
is_main_fork _ = false
