-- The room of lanes, dealt as the blocks of a relation are.
use Rattle.std.proofs.Common.{◌≡◌, ◌≢◌, ℕ, ◌+◌, ◌<◌, ◌==◌, ◌&&◌, Bool, true, false, cond, List, map, length, get_or, refl, sym, ◌∙◌, ap, zero-add, inl, inr, arith}
use Rattle.std.specs.Prelude.{All, nat_lt}
use Rattle.std.proofs.lemmas.Bool.{and_parts, and_right, cases_Bool, cases_eq, cases_lt, le-ltb, lt-ltb, ltb-true}
use Rattle.std.proofs.lemmas.Bool.Decides.{nat_tests}
use Rattle.std.proofs.lemmas.List.{get_or-map, length-map}
use Rattle.std.proofs.lemmas.List.FromFn.{get_or-map-range_with_len, length-map-range_with_len}
use Rattle.block_tag.specs.Names.{lane_number, tag_eq}
use Rattle.block_tag.specs.declared.tag.Fork.{Fork}
use Rattle.block_tag.specs.declared.tag.Tag.{Tag}
use Rattle.segment_store.specs.Contents.{Marks, no_marks, with_mark}
use Rattle.segment_store.specs.Lanes.{own_room, rooms_dealt, tag_at}
use Rattle.segment_store.specs.MemoryLane.{room_of}
use Rattle.segment_store.specs.declared.memory_lane.MemLane.{MemLane}
use Rattle.segment_store.proofs.Dealing.{same_lane}

pub room_none : (fork : Fork) (lanes number : ℕ) → own_room fork 0 lanes number ≡ no_marks
room_none fork lanes number = λ i t.
    and_right (tag_eq t (tag_at fork t.block) && lane_number t lanes == number) (nat_lt t.block 0) (le-ltb t.block 0 (omega arith)) i

either : (own : Bool) (f g : Marks) (t : Tag) (mark : Bool) → mark ≡ f t → mark ≡ g t → mark ≡ (cond own f g) t
either true f g t mark is is' = is
either false f g t mark is is' = is'

chosen : (own : Bool) (f g : Marks) (t : Tag) → f t ≡ true → g t ≡ false → own ≡ (cond own f g) t
chosen true f g t is is' = sym is
chosen false f g t is is' = sym is'

with_true : (b : Bool) → (b && true) ≡ b
with_true true = refl
with_true false = refl

-- of the first blocks, one more makes no difference to another block
below_other : (k n : ℕ) → k ≢ n → nat_lt k (n + 1) ≡ nat_lt k n
below_other k n apart = elim (cases_lt k n) [
  | inl below ↦ lt-ltb k (n + 1) (omega arith) ∙ sym (lt-ltb k n below)
  | inr above ↦ le-ltb k (n + 1) (omega arith) ∙ sym (le-ltb k n above)
]

module _ (fork : Fork) (lanes number block : ℕ) where
  abbrev pub room_before : Marks
  room_before = own_room fork block lanes number

  abbrev pub is_own : Bool
  is_own = lane_number (tag_at fork block) lanes == number

  here : (t : Tag) → t.block ≡ block → own_room fork (block + 1) lanes number t ≡ (cond is_own (with_mark (tag_at fork block) true room_before) room_before) t
  here t same =
      let mine : Bool = (lane_number t lanes == number) in
      let named : tag_eq t (tag_at fork t.block) ≡ tag_eq t (tag_at fork block) = ap (λ (k : ℕ). tag_eq t (tag_at fork k)) same in
      let below : nat_lt t.block (block + 1) ≡ true = lt-ltb t.block (block + 1) (omega arith) in
      let before : room_before t ≡ false = and_right (tag_eq t (tag_at fork t.block) && mine) (nat_lt t.block block) (le-ltb t.block block (omega arith)) in
      elim (cases_Bool (tag_eq t (tag_at fork block))) [
        | inl is ↦
            let put : with_mark (tag_at fork block) true room_before t ≡ true = ap (λ (b : Bool). cond b true (room_before t)) is in
            let lane : mine ≡ is_own = ap (λ (n : ℕ). n == number) (same_lane t (tag_at fork block) lanes is) in
            ap (λ (b : Bool). b && mine && nat_lt t.block (block + 1)) (named ∙ is)
            ∙ ap (λ (b : Bool). mine && b) below ∙ with_true mine ∙ lane
            ∙ chosen is_own (with_mark (tag_at fork block) true room_before) room_before t put before
        | inr not ↦
            let none : own_room fork (block + 1) lanes number t ≡ false = ap (λ (b : Bool). b && mine && nat_lt t.block (block + 1)) (named ∙ not) in
            let kept : with_mark (tag_at fork block) true room_before t ≡ room_before t = ap (λ (b : Bool). cond b true (room_before t)) not in
            either is_own (with_mark (tag_at fork block) true room_before) room_before t _ (none ∙ sym before ∙ sym kept) (none ∙ sym before)
      ]

  more_at : (t : Tag) → own_room fork (block + 1) lanes number t ≡ (cond is_own (with_mark (tag_at fork block) true room_before) room_before) t
  more_at t = elim (cases_eq t.block block) [
    | inl same ↦ here t same
    | inr apart ↦
        let other : tag_eq t (tag_at fork block) ≡ false = grind (arith, nat_tests) in
        let is : own_room fork (block + 1) lanes number t ≡ room_before t =
        ap (λ (b : Bool). tag_eq t (tag_at fork t.block) && lane_number t lanes == number && b) (below_other t.block block apart) in
        let kept : with_mark (tag_at fork block) true room_before t ≡ room_before t = ap (λ (b : Bool). cond b true (room_before t)) other in
        either is_own (with_mark (tag_at fork block) true room_before) room_before t _ (is ∙ sym kept) is
  ]

  -- room for one block more is dealt to the lane if the block is that lane's own
  pub room_more : own_room fork (block + 1) lanes number ≡ cond is_own (with_mark (tag_at fork block) true room_before) room_before
  room_more = λ i t. more_at t i

-- no lane has room for a block past these
pub rooms_below : (fork : Fork) (count lanes : ℕ) (items : List MemLane) → map (λ lane. room_of lane) items ≡ rooms_dealt fork count lanes
    → All (λ lane. (tag : Tag) → room_of lane tag ≡ true → tag.block < count) items
rooms_below fork count lanes items dealt k d below tag has =
    let size : length items ≡ lanes =
    sym (length-map items (λ lane. room_of lane)) ∙ ap (λ (l : List Marks). length l) dealt ∙ length-map-range_with_len (own_room fork count lanes) 0 lanes in
    let lane : room_of (get_or items k d) ≡ own_room fork count lanes k =
    sym (get_or-map (λ lane. room_of lane) items k d no_marks below)
    ∙ ap (λ (l : List Marks). get_or l k no_marks) dealt
    ∙ get_or-map-range_with_len (own_room fork count lanes) 0 lanes k k no_marks (omega arith) (zero-add k) in
    let own : own_room fork count lanes k tag ≡ true = sym (ap (λ (marks : Marks). marks tag) lane) ∙ has in
    ltb-true tag.block count (and_parts (tag_eq tag (tag_at fork tag.block) && lane_number tag lanes == k) (nat_lt tag.block count) own).1
