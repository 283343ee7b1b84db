-- What a lane in memory holds once one block was changed.
use Rattle.std.proofs.Common.{rules, ◌≡◌, Bool, true, false, cond, Option, Some, None, ◌∙◌, refl, sym, ap, arith}
use Rattle.std.specs.Option.{is_some, option_and_then, option_map, option_map_or}
use Rattle.std.specs.BTreeMap as tree
use Rattle.block_tag.specs.contracts.tag.TagOrd.TheImpl as tags
use Rattle.block_tag.specs.Names.{tag_eq}
use Rattle.block_tag.specs.declared.tag.Tag.{Tag}
use Rattle.segment_store.specs.Contents.{Marks, Pages, with_mark, with_page}
use Rattle.segment_store.specs.MemoryLane.{page_there}
use Rattle.segment_store.specs.declared.memory_block.MemBlock.{MemBlock}

-- the order of tags finds equal exactly the tags that are one
pub same_tag : (t q : Tag) → tree.is_at (tags.ghosts.cmp t) q ≡ tag_eq q t
same_tag t q = search rules

-- two tags are one if the test says so
one_tag : (a b : Tag) → tag_eq a b ≡ true → a ≡ b
one_tag a b same = grind arith

-- the page of a block that is there, and of a vacant place
pub page_held : (block : MemBlock) → is_some (page_there block) ≡ true → block.there ≡ true
page_held block some = by_there block.there some where
  by_there : (there : Bool) → is_some (cond there (Some block.page) None) ≡ true → there ≡ true
  by_there true some = refl
  by_there false some = some

-- nothing was found, and none is what it is mapped to; something was found
pub none_found : {A B : Type 0} (f : A → B) (o : Option A) (found : Option B) → option_map f o ≡ found → is_some o ≡ false → found ≡ None
none_found f None found is none = sym is
none_found f (Some a) found is none = absurd (cc none)

pub some_found : {A B : Type 0} (f : A → B) (o : Option A) (found : Option B) → option_map f o ≡ found → is_some o ≡ true → is_some found ≡ true
some_found f None found is some = absurd (cc some)
some_found f (Some a) found is some = sym (ap is_some is)

-- the map has this block at the tag, and its others as before
abbrev pub PutsBlock : tree.BTreeMap Tag MemBlock → tree.BTreeMap Tag MemBlock → Tag → MemBlock → Type 0
PutsBlock old new tag block = (q : Tag) → tree.get tags.ghosts.cmp new q ≡ cond (tree.is_at (tags.ghosts.cmp tag) q) (Some block) (tree.get tags.ghosts.cmp old q)

-- the pages, the marks and the room of a lane with these blocks
abbrev pub pages_in_map : tree.BTreeMap Tag MemBlock → Pages
pages_in_map map = λ tag. option_and_then page_there (tree.get tags.ghosts.cmp map tag)

abbrev pub marks_in_map : tree.BTreeMap Tag MemBlock → Marks
marks_in_map map = λ tag. option_map_or (λ block. block.failed) (tree.get tags.ghosts.cmp map tag) false

abbrev pub room_in_map : tree.BTreeMap Tag MemBlock → Marks
room_in_map map = λ tag. is_some (tree.get tags.ghosts.cmp map tag)

seen_there : {T : Type 0} (see : Option MemBlock → T) (test same : Bool) (block : MemBlock) (old new : Option MemBlock) → test ≡ same → new ≡ cond test (Some block) old
    → see new ≡ cond same (see (Some block)) (see old)
seen_there see true true block old new is at = ap see at
seen_there see true false block old new is at = cc is
seen_there see false true block old new is at = cc is
seen_there see false false block old new is at = ap see at

module _ (old new : tree.BTreeMap Tag MemBlock) (tag : Tag) (block : MemBlock) (put : PutsBlock old new tag block) where
  -- what is seen of each block: that of this one at the tag
  seen : {T : Type 0} (see : Option MemBlock → T) (q : Tag) → see (tree.get tags.ghosts.cmp new q) ≡ cond (tag_eq q tag) (see (Some block)) (see (tree.get tags.ghosts.cmp old q))
  seen see q = seen_there see _ _ block _ _ (same_tag tag q) (put q)

  pub pages_put : block.there ≡ true → pages_in_map new ≡ with_page tag block.page (pages_in_map old)
  pages_put there = λ i q.
      (seen (λ o. option_and_then page_there o) q
      ∙ ap (λ (held : Bool). cond (tag_eq q tag) (cond held (Some block.page) None) (option_and_then page_there (tree.get tags.ghosts.cmp old q))) there) i

  pub marks_put : marks_in_map new ≡ with_mark tag block.failed (marks_in_map old)
  marks_put = λ i q. seen (λ o. option_map_or (λ b. b.failed) o false) q i

  pub room_put : room_in_map new ≡ with_mark tag true (room_in_map old)
  room_put = λ i q. seen (λ o. is_some o) q i

  -- if a block had a place there is room for what there was
  pub room_stays : room_in_map old tag ≡ true → room_in_map new ≡ room_in_map old
  room_stays has = λ i q. (seen (λ o. is_some o) q ∙ at_tag (tag_eq q tag) q refl) i where
    at_tag : (same : Bool) (q : Tag) → tag_eq q tag ≡ same → cond same true (is_some (tree.get tags.ghosts.cmp old q)) ≡ is_some (tree.get tags.ghosts.cmp old q)
    at_tag true q is = sym (ap (λ (t : Tag). is_some (tree.get tags.ghosts.cmp old t)) (one_tag q tag is) ∙ has)
    at_tag false q is = refl

  -- of what looks the same with the block as without it nothing changes if there was none
  unseen : {T : Type 0} (see : Option MemBlock → T) → see (Some block) ≡ see None → tree.get tags.ghosts.cmp old tag ≡ None → (q : Tag) → see (tree.get tags.ghosts.cmp new q) ≡ see (tree.get tags.ghosts.cmp old q)
  unseen {T} see same none q = seen see q ∙ at_tag (tag_eq q tag) refl where
    at_tag : (b : Bool) → tag_eq q tag ≡ b → cond b (see (Some block)) (see (tree.get tags.ghosts.cmp old q)) ≡ see (tree.get tags.ghosts.cmp old q)
    at_tag true is = same ∙ sym (ap see (ap (λ (t : Tag). tree.get tags.ghosts.cmp old t) (one_tag q tag is) ∙ none))
    at_tag false is = refl

  pub pages_unseen : block.there ≡ false → tree.get tags.ghosts.cmp old tag ≡ None → pages_in_map new ≡ pages_in_map old
  pages_unseen vacant none = λ i q. unseen (λ o. option_and_then page_there o) (ap (λ (held : Bool). cond held (Some block.page) None) vacant) none q i

  pub marks_unseen : block.failed ≡ false → tree.get tags.ghosts.cmp old tag ≡ None → marks_in_map new ≡ marks_in_map old
  marks_unseen unmarked none = λ i q. unseen (λ o. option_map_or (λ b. b.failed) o false) unmarked none q i
