-- The paths of a host, the fork that a path names by its end, and the files of a relation.
use Rattle.std.specs.Prelude.{ℕ, List, [], ◌∷◌, Bool, true, ◌&&◌, ◌==◌, codes, drop, length}
use Rattle.std.specs.Prelude.{nat_eq, nat_le, nat_lt, if◌then◌else◌}
use Rattle.std.specs.List.{ends_with, list_all, starts_with}
use Rattle.std.specs.Str.{bytes_eq}
use Rattle.block_tag.specs.declared.tag.Fork.{Fork}
use Rattle.block_tag.specs.declared.tag.Fork.TheVariants.{Main, Fsm, Vm, Init}

-- paths to the bytes of their segments, of which there is none if the relation isn't there
abbrev pub Paths : Type 0
Paths = List ℕ → List (List ℕ)

-- paths to their blocks' marks
abbrev pub PathMarks : Type 0
PathMarks = List ℕ → ℕ → Bool

-- what is read of the first file with a path
abbrev pub of_first : {F X : Type 0} → (F → List ℕ) → (F → X) → X → List F → List ℕ → X
of_first name read none [] path = none
of_first name read none (file ∷ files) path =
    if bytes_eq (name file) path then read file else of_first name read none files path

-- the relation that was opened last: its path, and how many blocks its segments have
pub record OpenAt : Type 0 where
  pub path : List ℕ
  pub seg_blocks : ℕ

-- `_fsm` is the free space map, `_vm` the visibility map, `_init` the initialization fork; anything
-- else is main
unfoldable pub fork_of : List ℕ → Fork
fork_of path =
    if ends_with nat_eq path (codes "_fsm") then Fsm
    else (if ends_with nat_eq path (codes "_vm") then Vm
    else (if ends_with nat_eq path (codes "_init") then Init else Main))

abbrev pub is_digit : ℕ → Bool
is_digit byte = nat_le 48 byte && nat_le byte 57

-- what follows the path of a relation in the names of its files: nothing, or `.` and digits, one at
-- least
abbrev pub is_file_end : List ℕ → Bool
is_file_end [] = true
is_file_end (byte ∷ digits) = byte == 46 && (nat_lt 0 (length digits) && list_all is_digit digits)

-- the file is one of the relation at the path: the path itself, or the path followed by `.` and
-- digits
unfoldable pub is_file_of : List ℕ → List ℕ → Bool
is_file_of path file = starts_with nat_eq file path && is_file_end (drop (length path) file)
