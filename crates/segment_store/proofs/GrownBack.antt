-- A host that grows, and then takes its lanes back.
use Rattle.std.proofs.Common.{◌≡◌, ◌≢◌, ℕ, ◌-◌, List, [], Option, Some, None, length, sym, ◌∙◌, ap, ap₂}
use Rattle.std.specs.Str.{bytes_eq}
use Rattle.std.proofs.lemmas.Bool.{cond_both}
use Rattle.segment_store.specs.Contents.{Marks, Pages}
use Rattle.segment_store.specs.Growth.{grown, last_held, paths_grown}
use Rattle.segment_store.specs.Paths.{OpenAt, PathMarks, Paths, fork_of}
use Rattle.segment_store.specs.Relation.{relation_of}
use Rattle.segment_store.specs.Restored.{marks_after, paths_after}
use Rattle.segment_store.proofs.Growing.{extended_there}

-- a relation that is there stays there
grown_there : (at : OpenAt) (most : Option ℕ) (lanes : List (Option Pages)) (paths : Paths) → paths at.path ≢ [] → paths_grown at most lanes paths at.path ≢ []
grown_there at None lanes paths there = there
grown_there at (Some room) lanes paths there =
    let segments = paths at.path in
    let blocks : ℕ = length (relation_of at.seg_blocks segments) in
    cond_both (bytes_eq at.path at.path) (grown (fork_of at.path) at.seg_blocks room lanes segments) segments (λ (l : List (List ℕ)). l ≡ [] → ⊥)
    (λ same. extended_there at.seg_blocks blocks (last_held (fork_of at.path) lanes room - blocks) segments there)
    (λ other. there)

module _ (at mid_at : OpenAt) (most : Option ℕ) (lanes seen : List (Option Pages)) (paths mid : Paths) (at_is : mid_at ≡ at) (seen_is : seen ≡ lanes)
    (mid_is : mid ≡ paths_grown at most seen paths) where
  pub paths_given : (now : Paths) → now ≡ paths_after mid_at lanes mid → Some now ≡ Some (paths_after at lanes (paths_grown at most lanes paths))
  paths_given now now_is = ap (λ (p : Paths). Some p)
      (now_is
      ∙ ap (λ (a : OpenAt). paths_after a lanes mid) at_is
      ∙ ap (λ (p : Paths). paths_after at lanes p) (mid_is ∙ ap (λ (l : List (Option Pages)). paths_grown at most l paths) seen_is))

  pub marks_given : (marks : List Marks) (was mid_marks now : PathMarks) → mid_marks ≡ was → (mid mid_at.path ≢ [] → now ≡ marks_after mid_at marks mid_marks)
      → paths at.path ≢ [] → now ≡ marks_after at marks was
  marks_given marks was mid_marks now marks_are now_is there =
      now_is (λ none. grown_there at most seen paths there (ap (λ (p : Paths). p at.path) (sym mid_is) ∙ ap (λ (a : OpenAt). mid a.path) (sym at_is) ∙ none))
      ∙ ap₂ (λ (a : OpenAt) (m : PathMarks). marks_after a marks m) at_is marks_are
