-- The blocks of the example's lanes.
use Rattle.std.proofs.Common.{◌≡◌, ◌∙◌, ◌+◌, ◌<◌, ℕ, zero, suc, Bool, true, false, List, [], ◌∷◌, map, Option, Some, unwrap_or, is_some, nat_lt, cond, refl, sym, ap, subst, arith}
use Rattle.std.proofs.lemmas.Bool.Decides.{nat_tests}
use mathlib.Core.Logic.{dite}
use mathlib.Core.Option.{some, some-injective, some-ne-none}
use native.Mathlib.Decide.{ℕ_discrete}
use lib.ListN.{get_elem?}
use Rattle.block_tag.specs.Catalogue.{blocks_at}
use Rattle.block_tag.specs.declared.tag.Fork.{Fork}
use Rattle.block_tag.specs.declared.tag.Fork.TheVariants.{Main, Fsm, Vm, Init}
use Rattle.block_tag.specs.declared.tag.Tag.{Tag}
use Rattle.block_tag.specs.Names.{lane_number, tag_eq, tag_of_parts}
use Rattle.byte_devices.specs.declared.memory_log.MemLog.{MemLog}
use Rattle.byte_devices.specs.declared.device.LogDevice as log_device
use Rattle.segment_store.specs.Contents.{Pages, no_marks, no_pages, with_mark, with_page}
use Rattle.segment_store.specs.Lanes.{HoldTheirs}
use Rattle.segment_store.specs.declared.memory_lane.MemLane.{MemLane}
use Rattle.segment_store.specs.contracts.memory_lane.MemLaneBlockLane.TheImpl as mem_lane
use Rattle.segment_store.specs.MemoryLane.{marks_of, pages_of}
use Rattle.segment_store.proofs.Dealing.{same_lane}
use Rattle.table_rule.specs.Shows.{AreLanes, devices}
use Rattle.library_example.specs.Files.{HasBlock, HasBlocks, HasOnlyOwn, IsOldLane, relations}

there : (b : Bool) (page : List ℕ) (o : Option (List ℕ)) → is_some o ≡ true → is_some (cond b (Some page) o) ≡ true
there true page o h = refl
there false page o h = h

here : (b : Bool) (page : List ℕ) (o : Option (List ℕ)) → b ≡ true → is_some (cond b (Some page) o) ≡ true
here b page o e = ap (λ v. is_some (cond v (Some page) o)) e

-- the lane after it takes in a block
module _ (number : ℕ) (old new : MemLane) (tag : Tag) (page : List ℕ) (pages : pages_of new ≡ with_page tag page (pages_of old)) (marks : marks_of new ≡ with_mark tag false (marks_of old)) where
  pub taken : HasBlock new tag
  taken = let same : tag_eq tag tag ≡ true = grind (arith, nat_tests) in
      ap (λ (f : Pages). is_some (f tag)) pages ∙ here (tag_eq tag tag) page (pages_of old tag) same

  pub still : (t : Tag) → HasBlock old t → HasBlock new t
  still t h = ap (λ (f : Pages). is_some (f t)) pages ∙ there (tag_eq t tag) page (pages_of old t) h

  pub only : lane_number tag 2 ≡ number → HasOnlyOwn number old → HasOnlyOwn number new
  only own before = record {
    own = λ t h. owned t (tag_eq t tag) refl (sym (ap (λ (f : Pages). is_some (f t)) pages) ∙ h);
    unfailed = λ t. ap (λ (f : Tag → Bool). f t) marks ∙ unmarked (tag_eq t tag) (marks_of old t) (before.unfailed t);
  }
    where
      owned : (t : Tag) (b : Bool) → tag_eq t tag ≡ b → is_some (cond b (Some page) (pages_of old t)) ≡ true → lane_number t 2 ≡ number
      owned t true same h = same_lane t tag 2 same ∙ own
      owned t false other h = before.own t h

      unmarked : (b m : Bool) → m ≡ false → cond b false m ≡ false
      unmarked true m e = refl
      unmarked false m e = e

pub one_more : (lane : MemLane) (number rel at : ℕ) → HasBlocks lane number rel at → (lane_number (tag_of_parts rel Main at) 2 ≡ number → HasBlock lane (tag_of_parts rel Main at)) → HasBlocks lane number rel (at + 1)
one_more lane number rel at h last block below own = dite (ℕ_discrete block at)
    (λ e. subst (λ (b : ℕ). HasBlock lane (tag_of_parts rel Main b)) (sym e) (last (subst (λ (b : ℕ). lane_number (tag_of_parts rel Main b) 2 ≡ number) e own)))
    (λ n. h block (omega arith) own)

below_of : (a b : ℕ) → nat_lt a b ≡ true → a < b
below_of a b e = grind (arith, nat_tests)

none_below : (a : ℕ) → nat_lt a 0 ≡ true → ⊥
none_below a e = let less = below_of a 0 e in omega arith

-- a lane has each block of the relations that is its own
all_own : (number : ℕ) (lane : MemLane) → IsOldLane number lane → (rel : ℕ) (fork : Fork) (block : ℕ) → nat_lt block (blocks_at relations rel fork) ≡ true → lane_number (tag_of_parts rel fork block) 2 ≡ number → HasBlock lane (tag_of_parts rel fork block)
all_own number lane old zero Main block listed own = old.first block (below_of block 12 listed) own
all_own number lane old (suc zero) Main block listed own = old.second block (below_of block 6 listed) own
all_own number lane old (suc (suc rel)) fork block listed own = absurd (none_below block listed)
all_own number lane old zero Fsm block listed own = absurd (none_below block listed)
all_own number lane old zero Vm block listed own = absurd (none_below block listed)
all_own number lane old zero Init block listed own = absurd (none_below block listed)
all_own number lane old (suc zero) Fsm block listed own = absurd (none_below block listed)
all_own number lane old (suc zero) Vm block listed own = absurd (none_below block listed)
all_own number lane old (suc zero) Init block listed own = absurd (none_below block listed)

-- what starts a manager, and a recovery
module _ (a b : MemLane) (first : IsOldLane 0 a) (second : IsOldLane 1 b) where
  -- a lane of the two, by its number
  at_place : (q : ℕ) (l : MemLane) → get_elem? (a ∷ b ∷ []) q ≡ some l → IsOldLane q l
  at_place zero l e = subst (IsOldLane 0) (some-injective a l e) first
  at_place (suc zero) l e = subst (IsOldLane 1) (some-injective b l e) second
  at_place (suc (suc q)) l e = absurd (some-ne-none l (sym e))

  pub complete : (g : log_device.Ghosts MemLog) → AreLanes (devices mem_lane.ghosts g) relations (a ∷ b ∷ [])
  complete g = record {
    held = λ q l known word tag at is placed. ap (λ (o : Option Pages). is_some (unwrap_or o no_pages tag)) (sym is)
        ∙ all_own q l (at_place q l at) tag.rel.0 tag.fork tag.block placed.listed placed.placed;
    unfailed = λ q l known word tag at is placed. (at_place q l at).only.unfailed tag;
  }

  pub theirs : HoldTheirs (map mem_lane.ghosts.contents (a ∷ b ∷ []))
  theirs zero tag below = λ h. first.only.own tag h
  theirs (suc zero) tag below = λ h. second.only.own tag h
  theirs (suc (suc q)) tag below = absurd (omega arith)

pub new_lane : (number : ℕ) (lane : MemLane) → pages_of lane ≡ no_pages → marks_of lane ≡ no_marks → HasOnlyOwn number lane
new_lane number lane pages marks = record {
  own = λ t h. absurd (cc (sym (ap (λ (f : Pages). is_some (f t)) pages) ∙ h));
  unfailed = λ t. ap (λ (f : Tag → Bool). f t) marks;
}
