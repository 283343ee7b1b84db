-- What a host's paths, marks and logs are once the lanes and the log of a rewrite are given back.
use Rattle.std.proofs.Common.{◌≡◌, ℕ, zero, suc, Bool, true, false, List, [], ◌∷◌, get_or, length, map, Option, Some, refl, sym, ap, ◌∙◌, subst, inl, inr, arith}
use Rattle.std.specs.Prelude.{All}
use Rattle.std.specs.Cmp.Lexicographic.{same_text}
use Rattle.std.specs.Str.{bytes_eq}
use Rattle.std.proofs.lemmas.Bool.{cases_Bool}
use Rattle.std.proofs.lemmas.Slice.Eq.{bytes_eq-Decides}
use Rattle.block_tag.specs.declared.tag.Fork.{Fork}
use Rattle.block_tag.specs.Names.{lane_number}
use Rattle.byte_devices.specs.MemoryLog.{StoredLog}
use Rattle.segment_store.specs.Contents.{Marks, Pages, no_marks}
use Rattle.segment_store.specs.Lanes.{mark_in, tag_at}
use Rattle.segment_store.specs.Logs.{Logs, empty_log, given_log, logs_after, with_log}
use Rattle.segment_store.specs.Paths.{OpenAt, PathMarks, Paths, fork_of}
use Rattle.segment_store.specs.Relation.{relation_of}
use Rattle.segment_store.specs.Restored.{given_back, marks_after, pages_in, paths_after, restored}
use Rattle.relation_commands.specs.Listings.{NoneFails}
use Rattle.relation_commands.specs.RewriteFiles.{with_blocks}

pub same_bytes : (path : List ℕ) → bytes_eq path path ≡ true
same_bytes path = (bytes_eq-Decides path path).1 refl

-- the paths have the pages that the lanes have
block_path : (at : OpenAt) (lanes : List (Option Pages)) (paths : Paths) (path : List ℕ)
    → paths_after at lanes paths path ≡ with_blocks at (pages_in (fork_of at.path) lanes 0 (relation_of at.seg_blocks (paths at.path))) paths path
unfolding given_back
block_path at lanes paths path = elim (cases_Bool (bytes_eq path at.path)) [
  | inl same ↦ rw same (let is : path ≡ at.path = same_text path at.path (sym same) in
      ap (λ (p : List ℕ). restored at.seg_blocks (paths path) (pages_in (fork_of at.path) lanes 0 (relation_of at.seg_blocks (paths p)))) is)
  | inr other ↦ rw other
]

pub with_lanes : (at : OpenAt) (lanes : List (Option Pages)) (paths : Paths)
    → paths_after at lanes paths ≡ with_blocks at (pages_in (fork_of at.path) lanes 0 (relation_of at.seg_blocks (paths at.path))) paths
with_lanes at lanes paths = λ i path. block_path at lanes paths path i

-- the marks at the path are those of the lanes
pub marks_here : (at : OpenAt) (lanes : List Marks) (marks : PathMarks) → marks_after at lanes marks at.path ≡ (λ block. mark_in lanes (tag_at (fork_of at.path) block))
marks_here at lanes marks = rw (same_bytes at.path)

pub marks_elsewhere : (at : OpenAt) (lanes : List Marks) (marks : PathMarks) (other : List ℕ) → bytes_eq other at.path ≡ false → marks_after at lanes marks other ≡ marks other
marks_elsewhere at lanes marks other not = rw not

module _ {L : Type 0} (failed : L → Marks) where
  pub unmarked_at : (lanes : List L) (q : ℕ) → All (λ lane. failed lane ≡ no_marks) lanes → get_or (map failed lanes) q no_marks ≡ no_marks
  unmarked_at [] q all = refl
  unmarked_at (lane ∷ lanes) zero all = all 0 lane (omega arith)
  unmarked_at (lane ∷ lanes) (suc q) all = unmarked_at lanes q (λ k y below. all (suc k) y (omega arith))

  pub unmarked_in : (fork : Fork) (lanes : List L) (block : ℕ) → All (λ lane. failed lane ≡ no_marks) lanes → mark_in (map failed lanes) (tag_at fork block) ≡ false
  unmarked_in fork lanes block all = ap (λ (marks : Marks). marks (tag_at fork block)) (unmarked_at lanes (lane_number (tag_at fork block) (length (map failed lanes))) all)

  -- lanes that were not written mark no block
  pub none_fails : (at : OpenAt) (lanes : List L) (paths : Paths) (marks new : PathMarks) → All (λ lane. failed lane ≡ no_marks) lanes
      → new ≡ marks_after at (map failed lanes) marks → NoneFails at.seg_blocks paths at.path marks new
  none_fails at lanes paths marks new all is = subst (λ (n : PathMarks). NoneFails at.seg_blocks paths at.path marks n) (sym is) (record {
    others = λ other not. marks_elsewhere at (map failed lanes) marks other not;
    here = λ block below marked. absurd (
        let shown = ap (λ (m : ℕ → Bool). m block) (marks_here at (map failed lanes) marks) in
        let unmarked = unmarked_in (fork_of at.path) lanes block all in
        let no : true ≡ false = sym marked ∙ shown ∙ unmarked in cc);
  })

-- the log that was opened at a path and given back stands there
log_path : (path : List ℕ) (log : StoredLog) (logs : Logs) (at : List ℕ) → logs_after path (Some log) (with_log path empty_log logs) at ≡ with_log path log logs at
log_path path log logs at = elim (cases_Bool (bytes_eq at path)) [
  | inl same ↦ rw same
  | inr other ↦ rw other
]

pub log_stands : (path : List ℕ) (log : StoredLog) (logs : Logs) → logs_after path (Some log) (with_log path empty_log logs) ≡ with_log path log logs
log_stands path log logs = λ i at. log_path path log logs at i

module _ {G : Type 0} (bytes : G → Option (List ℕ)) (synced : G → ℕ) where
  -- a log whose bytes are known is given back as they are
  pub given_known : (log : G) (known : List ℕ) → bytes log ≡ Some known → given_log bytes synced (Some log) ≡ Some (record { bytes = known; synced = synced log })
  given_known log known is = rw is
