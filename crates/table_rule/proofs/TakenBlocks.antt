-- The blocks of a lane that is out are listed, each with its page and its mark.
use Rattle.std.proofs.Common.{◌≡◌, ℕ, zero, suc, ◌<◌, ◌^◌, Bool, true, false, ◌&&◌, Option, Some, None, List, [], ◌∷◌, length, length-append, sym, refl, ap, ◌∙◌, arith, eqb, eq-eqb, cond}
use Rattle.std.proofs.lemmas.Bool.{eqb-true}
use Rattle.std.specs.List.{filter}
use mathlib.Core.Logic.{dite}
use mathlib.Core.Option.{some, some-injective, some-ne-none}
use native.Mathlib.Decide.{ℕ_discrete}
use lib.ListN.{get_elem?}
use Rattle.block_tag.specs.declared.tag.Tag.{Tag}
use Rattle.block_tag.specs.declared.catalogue.RelEntry.{RelEntry}
use Rattle.block_tag.specs.Names.{unpacked_tag}
use Rattle.table_rule.specs.Blocks.{has_named, is_block}
use Rattle.table_rule.specs.Layout.{tag_lane, lane_of_tag}
use Rattle.table_rule.specs.Shows.{IsPlaced}
use Rattle.table_rule.specs.TakenLanes.{is_block_of, numbers_below, blocks_in_lane}
use Rattle.table_rule.proofs.Opens.{left_at, right_at}
use Rattle.table_rule.proofs.Tags.{unpacked_low}

-- each number below n stands at its own place
numbers_length : (n : ℕ) → length (numbers_below n) ≡ n
unfolding numbers_below
numbers_length zero = refl
numbers_length (suc n) = let a = length-append (numbers_below n) (n ∷ []) in let b = numbers_length n in omega arith

number_at : (n k : ℕ) → k < n → get_elem? (numbers_below n) k ≡ some k
unfolding numbers_below
number_at zero k h = absurd (omega arith)
number_at (suc n) k h = let long = numbers_length n in dite (ℕ_discrete k n)
    (λ e. right_at (numbers_below n) (n ∷ []) k 0 (omega arith) ∙ ap (λ (x : ℕ). some x) (sym e))
    (λ ne. left_at (numbers_below n) (n ∷ []) k (omega arith) ∙ number_at n k (omega arith))

-- what a list keeps of its elements, and only that
kept_at : {A : Type 0} (p : A → Bool) (l : List A) (k : ℕ) (x : A) → get_elem? (filter p l) k ≡ some x → p x ≡ true
kept_at p [] k x e = absurd (some-ne-none x (sym e))
kept_at p (y ∷ l) k x e = by_test (λ j. kept_at p l j x) (p y) refl k e
  where
    by_test : ((j : ℕ) → get_elem? (filter p l) j ≡ some x → p x ≡ true) → (b : Bool) → p y ≡ b → (j : ℕ) → get_elem? (cond b (y ∷ filter p l) (filter p l)) j ≡ some x → p x ≡ true
    by_test rest true is zero e = ap p (sym (some-injective y x e)) ∙ is
    by_test rest true is (suc j) e = rest j e
    by_test rest false is j e = rest j e

-- whatever passes the test is kept
keeps_at : {A : Type 0} (p : A → Bool) (l : List A) (j : ℕ) (x : A) → get_elem? l j ≡ some x → p x ≡ true → (k : ℕ) × (get_elem? (filter p l) k ≡ some x)
keeps_at p [] j x e is = absurd (some-ne-none x (sym e))
keeps_at p (y ∷ l) zero x e is = (0, ap (λ (b : Bool). get_elem? (cond b (y ∷ filter p l) (filter p l)) 0) (ap p (some-injective y x e) ∙ is) ∙ e)
keeps_at p (y ∷ l) (suc j) x e is = let rest = keeps_at p l j x e is in behind (p y) rest.0 rest.1
  where
    behind : (b : Bool) (k : ℕ) → get_elem? (filter p l) k ≡ some x → (k : ℕ) × (get_elem? (cond b (y ∷ filter p l) (filter p l)) k ≡ some x)
    behind true k at = (suc k, at)
    behind false k at = (k, at)

both_left : (a b : Bool) → (a && b) ≡ true → a ≡ true
both_left true b e = refl
both_left false b e = e

both_right : (a b : Bool) → (a && b) ≡ true → b ≡ true
both_right true b e = e
both_right false b e = absurd (let no : false ≡ true = e in cc)

named_block : (relations : List RelEntry) (word : ℕ) → is_block relations word ≡ true → has_named relations (unpacked_tag word) ≡ true
unfolding is_block
named_block relations word e = e

module _ (relations : List RelEntry) (lanes q : ℕ) where
  passes : (word : ℕ) (tag : Tag) → IsPlaced relations lanes q word tag → is_block_of relations lanes q word ≡ true
  unfolding is_block
  passes word tag h = let listed : is_block relations word ≡ true = ap (has_named relations) h.named ∙ h.listed in let placed : tag_lane lanes word ≡ q = ap (lane_of_tag lanes) h.named ∙ h.placed in
      ap (λ (b : Bool). b && eqb (tag_lane lanes word) q) listed ∙ eq-eqb (tag_lane lanes word) q placed

  -- each block that lies in the lane is among them
  pub block_listed : (word : ℕ) (tag : Tag) → IsPlaced relations lanes q word tag → (k : ℕ) × (get_elem? (blocks_in_lane relations lanes q) k ≡ some word)
  unfolding blocks_in_lane
  block_listed word tag h = listed_below _ (unpacked_low word tag h.named)
    where
      listed_below : (n : ℕ) → word < n → (k : ℕ) × (get_elem? (filter (is_block_of relations lanes q) (numbers_below n)) k ≡ some word)
      listed_below n low = keeps_at (is_block_of relations lanes q) (numbers_below n) word word (number_at n word low) (passes word tag h)

  -- and nothing else is
  pub block_placed : (k word : ℕ) → get_elem? (blocks_in_lane relations lanes q) k ≡ some word → (tag : Tag) × IsPlaced relations lanes q word tag
  unfolding blocks_in_lane
  block_placed k word e = placed_among (numbers_below (2 ^ 50)) e
    where
      of_tag : (t : Option Tag) → unpacked_tag word ≡ t → has_named relations t ≡ true → lane_of_tag lanes t ≡ q → (tag : Tag) × IsPlaced relations lanes q word tag
      of_tag None named listed placed = absurd (let no : false ≡ true = listed in cc)
      of_tag (Some tag) named listed placed = (tag, record { named = named; listed = listed; placed = placed })

      placed_among : (l : List ℕ) → get_elem? (filter (is_block_of relations lanes q) l) k ≡ some word → (tag : Tag) × IsPlaced relations lanes q word tag
      placed_among l e = let both = kept_at (is_block_of relations lanes q) l k word e in of_tag (unpacked_tag word) refl (named_block relations word (both_left (is_block relations word) (eqb (tag_lane lanes word) q) both)) (eqb-true (tag_lane lanes word) q (both_right (is_block relations word) (eqb (tag_lane lanes word) q) both))
