-- The blocks of a relation, dealt to lanes.
use Rattle.std.proofs.Common.{◌≡◌, ◌≢◌, ℕ, zero, suc, ◌+◌, ◌%◌, ◌<◌, ◌≤◌, ◌==◌, ◌&&◌, Bool, true, false, cond, List, [], ◌∷◌, length, get_or, take, Option, Some, None, refl, sym, ◌∙◌, ap, ap₂, subst, zero-add, inl, inr, arith}
use Rattle.std.proofs.lemmas.List.{length-take}
use Rattle.std.proofs.lemmas.Option.{slice_get-get_or, slice_get_past}
use Rattle.std.proofs.lemmas.List.FromFn.{get_or-map-range_with_len, length-map-range_with_len}
use Rattle.std.specs.Prelude.{IfSome, IsSome, IsSomeAnd, is_some, slice_get}
use Rattle.std.specs.Option.{ForSome, option_and_then}
use Rattle.std.proofs.lemmas.Bool.{eq-eqb, eqb-true, cases_Bool, cases_eq, cases_lt}
use Rattle.std.proofs.lemmas.Bool.Decides.{nat_tests}
use Rattle.block_tag.specs.Names.{hash_of, lane_number, tag_eq}
use Rattle.block_tag.specs.declared.tag.Fork.{Fork}
use Rattle.block_tag.specs.declared.tag.Tag.{Tag}
use Rattle.segment_store.specs.Contents.{Pages, no_marks, no_pages, with_mark, with_page}
use Rattle.segment_store.specs.Lanes.{HasBlocks, HoldPages, HoldTheirs, dealt, lane_at, own_pages, page_in, tag_at}

same_either : {X : Type 0} (b : Bool) (x : X) → cond b x x ≡ x
same_either true x = refl
same_either false x = refl

pub unmarked_stays : (tag : Tag) → with_mark tag false no_marks ≡ no_marks
unmarked_stays tag = λ i t. same_either (tag_eq t tag) false i

pub own-nil : (fork : Fork) (lanes number : ℕ) → own_pages fork [] lanes number ≡ no_pages
own-nil fork lanes number = λ i t. same_either (tag_eq t (tag_at fork t.block) && lane_number t lanes == number) None i

get_below : (xs : List (List ℕ)) (n k : ℕ) → k < n → slice_get (take n xs) k ≡ slice_get xs k
get_below xs zero k below = absurd (omega arith)
get_below [] (suc n) k below = refl
get_below (x ∷ xs) (suc n) zero below = refl
get_below (x ∷ xs) (suc n) (suc k) below = get_below xs n k (omega arith)

get_above : (xs : List (List ℕ)) (n k : ℕ) → n ≤ k → slice_get (take n xs) k ≡ None
get_above xs n k above = slice_get_past (take n xs) k (let size = length-take n xs in omega arith)

-- of the first blocks, one more makes no difference to another block
get_other : (xs : List (List ℕ)) (n k : ℕ) → k ≢ n → slice_get (take (n + 1) xs) k ≡ slice_get (take n xs) k
get_other xs n k apart = elim (cases_lt k n) [
  | inl below ↦ get_below xs (n + 1) k (omega arith) ∙ sym (get_below xs n k below)
  | inr above ↦ get_above xs (n + 1) k (omega arith) ∙ sym (get_above xs n k above)
]

pick : (b : Bool) (f g : Pages) (t : Tag) (v : Option (List ℕ)) → v ≡ f t → v ≡ g t → v ≡ (cond b f g) t
pick true f g t v is is' = is
pick false f g t v is is' = is'

pick_here : (l b : Bool) (f g : Pages) (t : Tag) (page : List ℕ) → l ≡ b → f t ≡ Some page → g t ≡ None → cond l (Some page) None ≡ (cond b f g) t
pick_here true true f g t page same is is' = sym is
pick_here false false f g t page same is is' = sym is'
pick_here true false f g t page same is is' = absurd (cc same)
pick_here false true f g t page same is is' = absurd (cc same)

-- two tags that are one have one lane
pub same_lane : (a b : Tag) (lanes : ℕ) → tag_eq a b ≡ true → lane_number a lanes ≡ lane_number b lanes
same_lane a b lanes same = let hashes : hash_of a ≡ hash_of b = grind (arith, nat_tests) in ap (λ (n : ℕ). n % lanes) hashes

module _ (fork : Fork) (pages : List (List ℕ)) (lanes number block : ℕ) (page : List ℕ) (within : block < length pages) (page_is : page ≡ get_or pages block []) where
  -- the lane's blocks of the first ones, and of one more
  abbrev pub own_before : Pages
  own_before = own_pages fork (take block pages) lanes number

  abbrev pub is_own : Bool
  is_own = lane_number (tag_at fork block) lanes == number

  here : (t : Tag) → t.block ≡ block → own_pages fork (take (block + 1) pages) lanes number t ≡ (cond is_own (with_page (tag_at fork block) page own_before) own_before) t
  here t same =
      let named : tag_eq t (tag_at fork t.block) ≡ tag_eq t (tag_at fork block) = ap (λ (k : ℕ). tag_eq t (tag_at fork k)) same in
      let found : slice_get (take (block + 1) pages) t.block ≡ Some page =
      ap (λ (k : ℕ). slice_get (take (block + 1) pages) k) same ∙ get_below pages (block + 1) block (omega arith) ∙ slice_get-get_or pages block [] within ∙ ap Some (sym page_is) in
      let before : own_before t ≡ None =
      ap (λ (o : Option (List ℕ)). cond (tag_eq t (tag_at fork t.block) && lane_number t lanes == number) o None) (get_above pages block t.block (omega arith))
      ∙ same_either (tag_eq t (tag_at fork t.block) && lane_number t lanes == number) None in
      elim (cases_Bool (tag_eq t (tag_at fork block))) [
        | inl is ↦
            let own : (tag_eq t (tag_at fork t.block) && lane_number t lanes == number) ≡ (lane_number t lanes == number) =
            ap (λ (b : Bool). b && lane_number t lanes == number) (named ∙ is) in
            let lane : (lane_number t lanes == number) ≡ is_own = ap (λ (n : ℕ). n == number) (same_lane t (tag_at fork block) lanes is) in
            let put : with_page (tag_at fork block) page own_before t ≡ Some page = ap (λ (b : Bool). cond b (Some page) (own_before t)) is in
            ap₂ (λ (b : Bool) (o : Option (List ℕ)). cond b o None) own found
            ∙ pick_here (lane_number t lanes == number) is_own (with_page (tag_at fork block) page own_before) own_before t page lane put before
        | inr not ↦
            let none : own_pages fork (take (block + 1) pages) lanes number t ≡ None =
            ap (λ (b : Bool). cond (b && lane_number t lanes == number) (slice_get (take (block + 1) pages) t.block) None) (named ∙ not) in
            let kept : own_pages fork (take (block + 1) pages) lanes number t ≡ own_before t = none ∙ sym before in
            pick is_own (with_page (tag_at fork block) page own_before) own_before t _ (kept ∙ ap (λ (b : Bool). cond b (Some page) (own_before t)) (sym not)) kept
      ]

  more_at : (t : Tag) → own_pages fork (take (block + 1) pages) lanes number t ≡ (cond is_own (with_page (tag_at fork block) page own_before) own_before) t
  more_at t = elim (cases_eq t.block block) [
    | inl same ↦ here t same
    | inr apart ↦
        let other : tag_eq t (tag_at fork block) ≡ false = grind (arith, nat_tests) in
        let is : own_pages fork (take (block + 1) pages) lanes number t ≡ own_before t =
        ap (λ (o : Option (List ℕ)). cond (tag_eq t (tag_at fork t.block) && lane_number t lanes == number) o None) (get_other pages block t.block apart) in
        pick is_own (with_page (tag_at fork block) page own_before) own_before t _ (is ∙ ap (λ (b : Bool). cond b (Some page) (own_before t)) (sym other)) is
  ]

  -- one block more is dealt to the lane if it is that lane's own
  pub own_more : own_pages fork (take (block + 1) pages) lanes number ≡ cond is_own (with_page (tag_at fork block) page own_before) own_before
  own_more = λ i t. more_at t i

-- the lane of a block among those that were dealt
pub dealt_at : (fork : Fork) (pages : List (List ℕ)) (lanes : ℕ) (tag : Tag) → 1 ≤ lanes → lane_at (dealt fork pages lanes) tag ≡ Some (own_pages fork pages lanes (lane_number tag lanes))
dealt_at fork pages lanes tag some =
    let own = λ (number : ℕ). Some (own_pages fork pages lanes number) in
    ap (λ (n : ℕ). get_or (dealt fork pages lanes) (lane_number tag n) None) (length-map-range_with_len own 0 lanes)
    ∙ get_or-map-range_with_len own 0 lanes (lane_number tag lanes) (lane_number tag lanes) None (omega arith) (zero-add (lane_number tag lanes))

own_here : (fork : Fork) (pages : List (List ℕ)) (lanes block : ℕ) → block < length pages → own_pages fork pages lanes (lane_number (tag_at fork block) lanes) (tag_at fork block) ≡ Some (get_or pages block [])
own_here fork pages lanes block within =
    let named : tag_eq (tag_at fork block) (tag_at fork block) ≡ true = grind (arith, nat_tests) in
    let mine : (lane_number (tag_at fork block) lanes == lane_number (tag_at fork block) lanes) ≡ true = eq-eqb (lane_number (tag_at fork block) lanes) (lane_number (tag_at fork block) lanes) refl in
    ap₂ (λ (a b : Bool). cond (a && b) (slice_get pages block) None) named mine ∙ slice_get-get_or pages block [] within

pub has_page : (lane : Option Pages) (contents : Pages) (tag : Tag) (page : List ℕ) → lane ≡ Some contents → contents tag ≡ Some page → IsSomeAnd lane (λ pages. pages tag ≡ Some page)
has_page lane contents tag page is has = subst (λ (l : Option Pages). IsSomeAnd l (λ pages. pages tag ≡ Some page)) (sym is) has

-- lanes that were dealt a relation hold it
pub dealt_hold : (fork : Fork) (pages : List (List ℕ)) (lanes : ℕ) → 1 ≤ lanes → HoldPages fork pages (dealt fork pages lanes)
dealt_hold fork pages lanes some block within =
    has_page (lane_at (dealt fork pages lanes) (tag_at fork block)) (own_pages fork pages lanes (lane_number (tag_at fork block) lanes)) (tag_at fork block) (get_or pages block [])
    (dealt_at fork pages lanes (tag_at fork block) some) (own_here fork pages lanes block within)

is_there : (lane : Option Pages) (tag : Tag) (page : List ℕ) → IsSomeAnd lane (λ pages. pages tag ≡ Some page) → ForSome lane (λ pages. IsSome (pages tag))
is_there (Some contents) tag page has pages is = ap (λ (l : Option Pages). is_some (option_and_then (λ pages. pages tag) l)) (sym is) ∙ ap is_some has
is_there None tag page has pages is = absurd has

-- lanes that hold pages have their blocks
pub held_there : (fork : Fork) (pages : List (List ℕ)) (lanes : List (Option Pages)) → HoldPages fork pages lanes → HasBlocks fork (length pages) lanes
held_there fork pages lanes hold block within = is_there (lane_at lanes (tag_at fork block)) (tag_at fork block) (get_or pages block []) (hold block within)

pub length-dealt : (fork : Fork) (pages : List (List ℕ)) (lanes : ℕ) → length (dealt fork pages lanes) ≡ lanes
length-dealt fork pages lanes = length-map-range_with_len (λ (number : ℕ). Some (own_pages fork pages lanes number)) 0 lanes

picked : (a b : Bool) (page : Option (List ℕ)) → is_some (cond (a && b) page None) ≡ true → b ≡ true
picked true true page is = refl
picked true false page is = absurd (cc is)
picked false b page is = absurd (cc is)

own_only : (fork : Fork) (pages : List (List ℕ)) (lanes number : ℕ) (tag : Tag) → is_some (own_pages fork pages lanes number tag) ≡ true → lane_number tag lanes ≡ number
own_only fork pages lanes number tag is =
    let named : Bool = tag_eq tag (tag_at fork tag.block) in
    let mine : Bool = lane_number tag lanes == number in
    let own : mine ≡ true = picked named mine (slice_get pages tag.block) is in
    eqb-true (lane_number tag lanes) number own

-- what each lane was dealt is its own
pub dealt_theirs : (fork : Fork) (pages : List (List ℕ)) (lanes : ℕ) → HoldTheirs (dealt fork pages lanes)
dealt_theirs fork pages lanes q tag within =
    let own = λ (number : ℕ). Some (own_pages fork pages lanes number) in
    let size : length (dealt fork pages lanes) ≡ lanes = length-dealt fork pages lanes in
    let at : get_or (dealt fork pages lanes) q None ≡ Some (own_pages fork pages lanes q) =
    get_or-map-range_with_len own 0 lanes q q None (omega arith) (zero-add q) in
    subst (λ (lane : Option Pages). IfSome lane (λ (held : Pages). is_some (held tag) ≡ true → lane_number tag (length (dealt fork pages lanes)) ≡ q)) (sym at)
    (λ is. ap (λ (n : ℕ). lane_number tag n) size ∙ own_only fork pages lanes q tag is)

-- the page of a block in lanes that were dealt a relation
pub page_dealt : (fork : Fork) (pages : List (List ℕ)) (lanes block : ℕ) → 1 ≤ lanes → page_in (dealt fork pages lanes) (tag_at fork block) ≡ slice_get pages block
page_dealt fork pages lanes block some =
    let tag : Tag = tag_at fork block in
    let named : tag_eq tag tag ≡ true = grind (arith, nat_tests) in
    let mine : (lane_number tag lanes == lane_number tag lanes) ≡ true = eq-eqb (lane_number tag lanes) (lane_number tag lanes) refl in
    ap (λ (lane : Option Pages). option_and_then (λ pages. pages tag) lane) (dealt_at fork pages lanes tag some)
    ∙ ap₂ (λ (a b : Bool). cond (a && b) (slice_get pages block) None) named mine
