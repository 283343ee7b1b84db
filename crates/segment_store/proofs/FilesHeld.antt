-- What a change of one file leaves of all.
use Rattle.std.proofs.Common.{◌≡◌, ℕ, ◌-◌, Bool, true, false, not, List, [], Option, Some, None, Vec, Global, length, map, get_or, set, refl, ◌∙◌, ap, arith}
use Rattle.std.specs.Prelude.{is_some}
use Rattle.std.specs.Option.{option_map}
use Rattle.block_tag.specs.declared.tag.Fork.{Fork}
use Rattle.segment_store.specs.Contents.{Pages}
use Rattle.segment_store.specs.Growth.{extended, grown, last_held, paths_grown}
use Rattle.segment_store.specs.Lanes.{mark_in, tag_at}
use Rattle.segment_store.specs.MemoryFile.{file_room, room_at}
use Rattle.segment_store.specs.MemoryHost.{file_path, marks_at}
use Rattle.segment_store.specs.MemoryLane.{marks_of}
use Rattle.segment_store.specs.Paths.{OpenAt, Paths, fork_of}
use Rattle.segment_store.specs.Relation.{relation_of}
use Rattle.segment_store.specs.declared.memory_file.MemFile.{MemFile}
use Rattle.segment_store.specs.declared.memory_lane.MemLane.{MemLane}
use Rattle.segment_store.proofs.FileRoom.{room_stays}
use Rattle.segment_store.proofs.FilesByPath.{IsFirst, read_stays}
use Rattle.segment_store.proofs.Growing.{extended_none, held_none}

module _ (path : List ℕ) (files : List MemFile) (place : ℕ) (was other : MemFile) (first : IsFirst file_path path files place)
    (named : file_path other ≡ path) (was_is : was ≡ get_or files place was) where
  -- a file that may have as many blocks
  pub rooms_stay : other.count ≡ was.count → other.blocks ≡ was.blocks → room_at (set files place other) ≡ room_at files
  rooms_stay count blocks = λ i p seg_blocks.
      read_stays file_path path (λ file. file_room file seg_blocks) 0 files place other was p first named
      (room_stays was other seg_blocks count blocks ∙ ap (λ (file : MemFile). file_room file seg_blocks) was_is) i

  -- a file to which the same lanes were given back
  pub marks_stay : other.returned ≡ was.returned → marks_at (set files place other) ≡ marks_at files
  marks_stay returned = λ i p.
      read_stays file_path path (λ file. λ block. mark_in (map marks_of file.returned.items) (tag_at (fork_of p) block)) (λ block. false)
      files place other was p first named
      (ap (λ (lanes : Vec MemLane Global). λ (block : ℕ). mark_in (map marks_of lanes.items) (tag_at (fork_of p) block)) returned
      ∙ ap (λ (file : MemFile). λ (block : ℕ). mark_in (map marks_of file.returned.items) (tag_at (fork_of p) block)) was_is) i

-- a source was given
pub grown_given : {S : Type 0} (source : Option S) (none : Bool) (at : OpenAt) (room : ℕ) (lanes : List (Option Pages)) (paths : Paths)
    → is_some source ≡ not none → none ≡ false → paths_grown at (option_map (λ _. room) source) lanes paths ≡ paths_grown at (Some room) lanes paths
grown_given (Some source) none at room lanes paths is not = refl
grown_given None true at room lanes paths is not = absurd (cc not)
grown_given None false at room lanes paths is not = absurd (cc is)

-- a relation that isn't there doesn't grow
pub grown_none : (fork : Fork) (seg_blocks room : ℕ) (lanes : List (Option Pages)) (segments : List (List ℕ)) → room ≡ 0 → segments ≡ []
    → grown fork seg_blocks room lanes segments ≡ []
grown_none fork seg_blocks room lanes segments no_room none =
    let blocks : ℕ = length (relation_of seg_blocks segments) in
    let held : last_held fork lanes room ≡ 0 = ap (λ (n : ℕ). last_held fork lanes n) no_room ∙ held_none fork lanes in
    let no_more : last_held fork lanes room - blocks ≡ 0 = omega arith in
    ap (λ (n : ℕ). extended seg_blocks blocks n segments) no_more ∙ extended_none seg_blocks blocks segments ∙ none
