-- What is known of a relation that is open, and of all paths once its lanes are given back.
use Rattle.std.proofs.Common.{◌≡◌, ℕ, List, length, Option, Some, None, sym, ◌∙◌, ap, subst}
use Rattle.std.specs.Prelude.{option_map, IfSome}
use Rattle.block_tag.specs.declared.tag.Fork.{Fork}
use Rattle.segment_store.specs.Contents.{Pages}
use Rattle.segment_store.specs.Lanes.{HoldPages}
use Rattle.segment_store.specs.Paths.{OpenAt, Paths, fork_of}
use Rattle.segment_store.specs.Relation.{relation_of}
use Rattle.segment_store.specs.Restored.{paths_after}
use Rattle.segment_store.proofs.GivenBack.{paths_same}

-- what holds of all pages that the lanes can hold holds of the relation's, where that is known
pub of_relation : (P : List (List ℕ) → Type 0) (at : OpenAt) (fork : Fork) (blocks : ℕ) (lanes : List (Option Pages)) (known : Option Paths)
    → IfSome known (λ paths. blocks ≡ length (relation_of at.seg_blocks (paths at.path)))
    → IfSome known (λ paths. HoldPages fork (relation_of at.seg_blocks (paths at.path)) lanes)
    → ((pages : List (List ℕ)) → HoldPages fork pages lanes → blocks ≡ length pages → P pages)
    → IfSome known (λ paths. P (relation_of at.seg_blocks (paths at.path)))
of_relation P at fork blocks lanes None counted holds all = tt
of_relation P at fork blocks lanes (Some paths) counted holds all = all (relation_of at.seg_blocks (paths at.path)) holds counted

-- lanes that hold what their relation has leave all paths as they were
pub paths_stay : (known new : Option Paths) (opened at : OpenAt) (lanes : List (Option Pages)) → new ≡ option_map (paths_after opened lanes) known
    → IfSome known (λ _. opened ≡ at) → IfSome known (λ paths. HoldPages (fork_of at.path) (relation_of at.seg_blocks (paths at.path)) lanes) → new ≡ known
paths_stay None new opened at lanes given is holds = given
paths_stay (Some paths) new opened at lanes given is holds =
    let here = subst (λ (o : OpenAt). HoldPages (fork_of at.path) (relation_of at.seg_blocks (paths at.path)) lanes → paths_after o lanes paths ≡ paths) (sym is) (paths_same at lanes paths) in
    given ∙ ap (λ (p : Paths). Some p) (here holds)
