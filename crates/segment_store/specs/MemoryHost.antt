-- The files of a host in memory.
use Rattle.std.specs.Prelude.{ℕ, false, List, [], map, Vec, string_bytes}
use Rattle.std.specs.declared.alloc.Global.{Global}
use Rattle.segment_store.specs.Lanes.{mark_in, tag_at}
use Rattle.segment_store.specs.MemoryLane.{marks_of}
use Rattle.segment_store.specs.Paths.{OpenAt, PathMarks, Paths, fork_of, of_first}
use Rattle.byte_devices.specs.Plan.{Plan}
use Rattle.segment_store.specs.declared.memory_file.MemFile.{MemFile}
use Rattle.segment_store.specs.declared.memory_host.MemHost.{MemHost}
use Rattle.segment_store.specs.declared.memory_lane.LanePlan.{LanePlan}

abbrev pub bytes_of : List (Vec ℕ Global) → List (List ℕ)
bytes_of segments = map (λ v. v.items) segments

abbrev pub file_path : MemFile → List ℕ
file_path file = string_bytes file.path

-- the segments at a path
abbrev pub segments_at : List MemFile → Paths
segments_at files = of_first file_path (λ file. bytes_of file.segments.items) [] files

-- the blocks of a path that the lanes given back last have marked
abbrev pub marks_at : List MemFile → PathMarks
marks_at files =
    λ path. of_first file_path
    (λ file. λ block. mark_in (map marks_of file.returned.items) (tag_at (fork_of path) block))
    (λ block. false) files path

-- which openings are to fail, and which calls of each lane
abbrev pub openings_of : MemHost → Plan
openings_of host = host.openings

abbrev pub lanes_of : MemHost → LanePlan
lanes_of host = host.lanes

-- the relation that was opened last
abbrev pub open_now : MemHost → OpenAt
open_now host = record { path = string_bytes host.open_path; seg_blocks = host.open_seg_blocks }
