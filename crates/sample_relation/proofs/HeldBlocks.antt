-- What lanes hold of a relation once one block more was put into its lane.
use Rattle.std.proofs.Common.{◌≡◌, ◌≢◌, ℕ, ◌+◌, ◌<◌, Bool, true, false, cond, List, [], ◌∷◌, ◌++◌, length, get_or, set, Option, Some, None, sym, ◌∙◌, ap, subst, inl, inr, zero-add, arith, length-append, length-set}
use Rattle.std.proofs.Math.Seq.{get_or-append_seam}
use Rattle.std.proofs.lemmas.Bool.{cases_eq}
use Rattle.std.proofs.lemmas.Bool.Decides.{nat_tests}
use Rattle.std.proofs.lemmas.List.{get_or_append_left, get_or-set_same, get_or-set_other}
use Rattle.std.proofs.lemmas.List.FromFn.{length-map-range_with_len, map-range_with_len_more}
use Rattle.std.specs.Prelude.{IsSomeAnd}
use Rattle.block_tag.specs.Names.{lane_number, tag_eq}
use Rattle.block_tag.specs.declared.tag.Fork.{Fork}
use Rattle.block_tag.specs.declared.tag.Tag.{Tag}
use Rattle.segment_store.specs.Contents.{Pages, with_page}
use Rattle.segment_store.specs.Lanes.{HasPage, HoldPages, lane_at, tag_at}
use Rattle.segment_store.proofs.Dealing.{has_page}
use Rattle.sample_relation.specs.Relations.{sample_relation}
use Rattle.sample_relation.specs.Samples.{sample_page}

-- a lane that has the page of a tag still has it with the page of another
keeps_page : (lane : Option Pages) (held : Pages) (tag other : Tag) (page new : List ℕ) → lane ≡ Some held → tag_eq tag other ≡ false
    → IsSomeAnd lane (λ pages. pages tag ≡ Some page) → with_page other new held tag ≡ Some page
keeps_page lane held tag other page new is apart has =
    ap (λ (b : Bool). cond b (Some new) (held tag)) apart ∙ subst (λ (l : Option Pages). IsSomeAnd l (λ pages. pages tag ≡ Some page)) is has

module _ (fork : Fork) (pages : List (List ℕ)) (page : List ℕ) (lanes : List (Option Pages)) (held : Pages) (block number : ℕ)
    (next : block ≡ length pages) (own : number ≡ lane_number (tag_at fork block) (length lanes)) (within : number < length lanes)
    (known : get_or lanes number None ≡ Some held) where
  -- the lanes once the block was put into its own
  abbrev pub lanes_after : List (Option Pages)
  lanes_after = set lanes number (Some (with_page (tag_at fork block) page held))

  lane_after : (tag : Tag) → lane_at lanes_after tag ≡ get_or lanes_after (lane_number tag (length lanes)) None
  lane_after tag = ap (λ (n : ℕ). get_or lanes_after (lane_number tag n) None) (length-set lanes number (Some (with_page (tag_at fork block) page held)))

  its_lane : (place : ℕ) → place ≡ number → get_or lanes_after place None ≡ Some (with_page (tag_at fork block) page held)
  its_lane place is = ap (λ (n : ℕ). get_or lanes_after n None) is ∙ get_or-set_same lanes number (Some (with_page (tag_at fork block) page held)) None within

  -- the block itself
  here : HasPage (tag_at fork block) page lanes_after
  here =
      let named : tag_eq (tag_at fork block) (tag_at fork block) ≡ true = grind (arith, nat_tests) in
      has_page (lane_at lanes_after (tag_at fork block)) (with_page (tag_at fork block) page held) (tag_at fork block) page
      (lane_after (tag_at fork block) ∙ its_lane (lane_number (tag_at fork block) (length lanes)) (sym own))
      (ap (λ (b : Bool). cond b (Some page) (held (tag_at fork block))) named)

  -- a block that was there
  there : (other : ℕ) (old : List ℕ) → other ≢ block → HasPage (tag_at fork other) old lanes → HasPage (tag_at fork other) old lanes_after
  there other old apart has =
      let tag = tag_at fork other in
      let others : tag_eq (tag_at fork other) (tag_at fork block) ≡ false = grind (arith, nat_tests) in
      elim (cases_eq (lane_number (tag_at fork other) (length lanes)) number) [
        | inl same ↦
            let is : lane_at lanes (tag_at fork other) ≡ Some held = ap (λ (n : ℕ). get_or lanes n None) same ∙ known in
            has_page (lane_at lanes_after (tag_at fork other)) (with_page (tag_at fork block) page held) (tag_at fork other) old
            (lane_after (tag_at fork other) ∙ its_lane (lane_number (tag_at fork other) (length lanes)) same)
            (keeps_page (lane_at lanes (tag_at fork other)) held (tag_at fork other) (tag_at fork block) old page is others has)
        | inr apart' ↦
            subst (λ (lane : Option Pages). IsSomeAnd lane (λ pages. pages (tag_at fork other) ≡ Some old))
            (sym (lane_after (tag_at fork other) ∙ get_or-set_other lanes number (lane_number (tag_at fork other) (length lanes)) (Some (with_page (tag_at fork block) page held)) None apart'))
            has
      ]

  -- the lanes hold the pages and this one
  pub hold_one_more : HoldPages fork pages lanes → HoldPages fork (pages ++ page ∷ []) lanes_after
  hold_one_more hold k below =
      elim (cases_eq k block) [
        | inl same ↦
            let is : get_or (pages ++ page ∷ []) k [] ≡ page = ap (λ (n : ℕ). get_or (pages ++ page ∷ []) n []) (same ∙ next) ∙ get_or-append_seam pages page [] [] in
            subst (λ (n : ℕ). HasPage (tag_at fork n) (get_or (pages ++ page ∷ []) k []) lanes_after) (sym same)
            (subst (λ (p : List ℕ). HasPage (tag_at fork block) p lanes_after) (sym is) here)
        | inr apart ↦
            let before : k < length pages = omega (arith, length-append pages (page ∷ [])) in
            there k (get_or (pages ++ page ∷ []) k []) apart
            (subst (λ (p : List ℕ). HasPage (tag_at fork k) p lanes) (sym (get_or_append_left pages (page ∷ []) [] k before)) (hold k before))
      ]

-- as many blocks as were asked for
pub length_relation : (seed blocks : ℕ) → length (sample_relation seed blocks) ≡ blocks
length_relation seed blocks = length-map-range_with_len (sample_page seed) 0 blocks

-- one block more of the relation
pub relation_more : (seed block : ℕ) → sample_relation seed (block + 1) ≡ sample_relation seed block ++ sample_page seed block ∷ []
relation_more seed block = map-range_with_len_more (sample_page seed) 0 block block (zero-add block)
