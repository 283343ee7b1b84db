-- Segments with room for blocks.
use Rattle.std.proofs.Common.{◌≡◌, ℕ, ◌+◌, ◌*◌, ◌<◌, ◌≤◌, List, [], ◌∷◌, ◌++◌, Vec, Global, length, map, get_or, set, sym, ◌∙◌, ap, subst, arith, vec_capacity}
use Rattle.std.specs.Prelude.{All}
use Rattle.std.proofs.lemmas.List.{get_or-map, get_or_past, get_or_push, length-map, map-set, map_push, set-get_or}
use Rattle.segment_store.specs.MemoryHost.{bytes_of}

-- each segment has room for so many blocks
abbrev pub HasRoomFor : ℕ → List (Vec ℕ Global) → Type 0
HasRoomFor blocks segments = All (λ segment. 8192 * blocks ≤ vec_capacity segment) segments

abbrev pub capacities : List (Vec ℕ Global) → List ℕ
capacities segments = map (λ segment. vec_capacity segment) segments

-- other segments with the same capacities have the same room
pub same_room : (blocks : ℕ) (old now : List (Vec ℕ Global)) → capacities now ≡ capacities old → HasRoomFor blocks old → HasRoomFor blocks now
same_room blocks old now same roomy k d below =
    let size : length now ≡ length old =
    sym (length-map now _) ∙ ap (λ (l : List ℕ). length l) same ∙ length-map old _ in
    let kept : vec_capacity (get_or now k d) ≡ vec_capacity (get_or old k d) =
    sym (get_or-map (λ segment. vec_capacity segment) now k d 0 below)
    ∙ ap (λ (l : List ℕ). get_or l k 0) same
    ∙ get_or-map (λ segment. vec_capacity segment) old k d 0 (omega arith) in
    subst (λ (n : ℕ). 8192 * blocks ≤ n) (sym kept) (roomy k d (omega arith))

-- a segment in the place of one with the same capacity
pub capacities_stay : (segments : List (Vec ℕ Global)) (index : ℕ) (d segment : Vec ℕ Global) → index < length segments
    → vec_capacity segment ≡ vec_capacity (get_or segments index d) → capacities (set segments index segment) ≡ capacities segments
capacities_stay segments index d segment within same =
    map-set (λ s. vec_capacity s) segments index segment
    ∙ ap (λ (n : ℕ). set (capacities segments) index n) (same ∙ sym (get_or-map (λ s. vec_capacity s) segments index d 0 within))
    ∙ set-get_or (capacities segments) index 0

-- and of one with the same bytes
pub bytes_stay : (segments : List (Vec ℕ Global)) (index : ℕ) (d segment : Vec ℕ Global) → index < length segments
    → segment.items ≡ (get_or segments index d).items → bytes_of (set segments index segment) ≡ bytes_of segments
bytes_stay segments index d segment within same =
    map-set (λ s. s.items) segments index segment
    ∙ ap (λ (l : List ℕ). set (bytes_of segments) index l) (same ∙ sym (get_or-map (λ s. s.items) segments index d [] within))
    ∙ set-get_or (bytes_of segments) index []

-- an empty segment behind the others
pub bytes_pushed : (old now : List (Vec ℕ Global)) (segment : Vec ℕ Global) → now ≡ old ++ segment ∷ [] → segment.items ≡ []
    → bytes_of now ≡ bytes_of old ++ [] ∷ []
bytes_pushed old now segment is empty =
    ap (λ (l : List (Vec ℕ Global)). bytes_of l) is
    ∙ map_push (λ s. s.items) old segment
    ∙ ap (λ (l : List ℕ). bytes_of old ++ l ∷ []) empty

module _ (old now : List (List ℕ)) (index : ℕ) (is : now ≡ old ++ [] ∷ []) (size : length old ≡ index) where
  pub pushed_here : get_or now index [] ≡ get_or old index []
  pushed_here = ap (λ (l : List (List ℕ)). get_or l index []) is ∙ get_or_push old [] [] index size ∙ sym (get_or_past old index [] (omega arith))
