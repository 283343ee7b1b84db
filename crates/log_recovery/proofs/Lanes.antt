-- One lane of several is called.
use Rattle.std.proofs.Common.{◌≡◌, ℕ, ◌<◌, List, length, map, get_or, set, Option, None, Result, sym, ap, ◌∙◌, subst}
use Rattle.std.proofs.lemmas.List.{get_or-map, length-map, map-set}
use Rattle.block_tag.specs.Names.{lane_number}
use Rattle.block_tag.specs.declared.tag.Tag.{Tag}
use Rattle.segment_store.specs.Contents.{Marks, Pages, no_marks, AfterWrite}
use Rattle.log_recovery.specs.Redo.{WritesTo}

module _ {L : Type 0} (contents : L → Option Pages) (failed : L → Marks) where
  pub writes_to : {E : Type 0} (tag : Tag) (page : List ℕ) (ls : List L) (q : ℕ) (y d : L) (r : Result Unit E) → q ≡ lane_number tag (length ls) → q < length ls
      → AfterWrite tag page (contents (get_or ls q d)) (failed (get_or ls q d)) (contents y) (failed y) r → WritesTo tag page (map contents ls) (map contents (set ls q y)) (map failed ls) (map failed (set ls q y)) r
  writes_to tag page ls q y d r at below w = record {
    after = contents y;
    after_marks = failed y;
    lane = subst (λ (l : Option Pages). AfterWrite tag page l (get_or (map failed ls) (lane_number tag (length (map failed ls))) no_marks) (contents y) (failed y) r)
        (sym (get_or-map contents ls q d None below) ∙ ap (λ (k : ℕ). get_or (map contents ls) k None) here)
        (subst (λ (m : Marks). AfterWrite tag page (contents (get_or ls q d)) m (contents y) (failed y) r)
        (sym (get_or-map failed ls q d no_marks below) ∙ ap (λ (k : ℕ). get_or (map failed ls) k no_marks) in_marks) w);
    contents = map-set contents ls q y ∙ ap (λ (k : ℕ). set (map contents ls) k (contents y)) here;
    failed = map-set failed ls q y ∙ ap (λ (k : ℕ). set (map failed ls) k (failed y)) in_marks;
  }
    where
      here : q ≡ lane_number tag (length (map contents ls))
      here = at ∙ ap (lane_number tag) (sym (length-map ls contents))

      in_marks : q ≡ lane_number tag (length (map failed ls))
      in_marks = at ∙ ap (lane_number tag) (sym (length-map ls failed))
