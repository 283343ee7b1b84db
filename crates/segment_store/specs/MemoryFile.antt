-- How many blocks a relation in memory may have.
use Rattle.std.specs.Prelude.{◌≡◌, ℕ, ◌*◌, ◌^◌, ◌-◌, List, min, nat_lt, if◌then◌else◌}
use Rattle.segment_store.specs.MemoryHost.{file_path}
use Rattle.segment_store.specs.Paths.{of_first}
use Rattle.segment_store.specs.declared.memory_file.MemFile.{MemFile}

-- how many blocks a file's relation may have, with up to `seg_blocks` in each segment: none if a
-- segment has no room for them
unfoldable pub file_room : MemFile → ℕ → ℕ
file_room file seg_blocks =
    if nat_lt file.blocks seg_blocks then 0 else min (seg_blocks * file.count) (2 ^ 32 - 1)

-- how many blocks the relation at a path may have
abbrev pub room_at : List MemFile → List ℕ → ℕ → ℕ
room_at files path seg_blocks = of_first file_path (λ file. file_room file seg_blocks) 0 files path

-- the same file, though its segments may be others
pub record IsSameFile (old now : MemFile) : Type 0 where
  pub path : now.path ≡ old.path
  pub returned : now.returned ≡ old.returned
  pub count : now.count ≡ old.count
  pub blocks : now.blocks ≡ old.blocks
