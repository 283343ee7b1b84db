-- What lanes hold after the redo of entries, and what the relation is once they are given back.
use Rattle.std.proofs.Common.{◌≡◌, ◌⊎◌, inl, inr, ⊎_elim, ℕ, zero, suc, ◌+◌, ◌-◌, ◌<◌, ◌≤◌, ◌^◌, true, false, List, [], ◌∷◌, length, map, get_or, max, nat_eq, replicate, Option, Some, None, refl, sym, ap, ◌∙◌, subst, is_some, slice_get, unwrap_or, arith}
use Rattle.std.specs.Prelude.{All, IfSome}
use Rattle.std.specs.Option.{option_and_then}
use Rattle.std.proofs.lemmas.Bool.{both_ways, cases_eq, cases_lt, cond_both}
use Rattle.std.proofs.lemmas.Option.{slice_get_past}
use mathlib.Core.Option.{some, some-injective, some-ne-none}
use lib.ListN.{get_elem?}
use Rattle.block_tag.specs.declared.tag.Fork.{Fork}
use Rattle.block_tag.specs.declared.tag.Fork.TheVariants.{Main}
use Rattle.block_tag.specs.declared.tag.Tag.{Tag}
use Rattle.block_tag.specs.Names.{lane_number, names_block, packed_tag, tag_eq}
use Rattle.segment_store.specs.Contents.{AreFullPages, HasRoom, Marks, Pages, no_marks}
use Rattle.segment_store.specs.Growth.{extended, last_held}
use Rattle.segment_store.specs.Lanes.{dealt, lane_at, mark_in, page_in, tag_at}
use Rattle.segment_store.specs.Relation.{relation_of}
use Rattle.segment_store.specs.Restored.{pages_in}
use Rattle.segment_store.proofs.Dealing.{dealt_at, page_dealt}
use Rattle.segment_store.proofs.Extended.{has_new_pages}
use Rattle.segment_store.proofs.Growing.{length-relation}
use Rattle.pin_core.specs.State.{Page}
use Rattle.history_core.specs.Log.{Change, image, ranges, resize, is_image, AreImages, AreValid, Entry, IsEntryOf, changed_page, end_of, page_after}
use Rattle.history_core.specs.Unentered.{IsEntered}
use Rattle.history_core.proofs.Crashes.{entry_or_none}
use Rattle.history_core.proofs.Logs.{after_absent, images_of_pages}
use Rattle.log_recovery.specs.Redo.{AreRedone, AreRedoneBut, IsEnteredBlock, IsRedone}
use Rattle.log_recovery.proofs.Twice.{either_way, same_tag, settled}
use Rattle.table_rule.proofs.Opens.{left_at, length_low}
use Rattle.backend_pass.proofs.Standing.{taken}
use Rattle.relation_commands.specs.RecoverFiles.{word_at}
use Rattle.relation_commands.proofs.RewriteLeaves.{block_named, page_at}

-- ---- the blocks that lanes have

-- each of them lies before the end
held_reached : (fork : Fork) (lanes : List (Option Pages)) (n block : ℕ) → block < n → is_some (page_in lanes (tag_at fork block)) ≡ true → block < last_held fork lanes n
unfolding last_held
held_reached fork lanes zero block below held = absurd (omega arith)
held_reached fork lanes (suc n) block below held =
    cond_both (is_some (page_in lanes (tag_at fork n))) (suc n) (last_held fork lanes n) (λ (k : ℕ). block < k)
    (λ here. omega arith)
    (λ none. ⊎_elim
    (λ (same : block ≡ n). absurd (both_ways (is_some (page_in lanes (tag_at fork n))) none (ap (λ (k : ℕ). is_some (page_in lanes (tag_at fork k))) (sym same) ∙ held)))
    (λ (other : block ≡ n → ⊥). held_reached fork lanes n block (omega arith) held)
    (cases_eq block n))

-- and the last before the end is one
pub held_last : (fork : Fork) (lanes : List (Option Pages)) (n : ℕ) → 0 < last_held fork lanes n → is_some (page_in lanes (tag_at fork (last_held fork lanes n - 1))) ≡ true
unfolding last_held
held_last fork lanes zero reached = absurd (omega arith)
held_last fork lanes (suc n) reached =
    cond_both (is_some (page_in lanes (tag_at fork n))) (suc n) (last_held fork lanes n) (λ (k : ℕ). 0 < k → is_some (page_in lanes (tag_at fork (k - 1))) ≡ true)
    (λ here below. subst (λ (k : ℕ). is_some (page_in lanes (tag_at fork k)) ≡ true) (let back : n ≡ suc n - 1 = omega arith in back) here)
    (λ none below. held_last fork lanes n below)
    reached

-- ---- pages after entries

change_held : (c : Change) (end word : ℕ) (x : Option Page) → is_image c ≡ true → is_some x ≡ true → is_some (changed_page c end word x) ≡ true
unfolding changed_page
change_held (image t q) end word x whole is = cond_both (nat_eq word t) (Some q) x (λ (o : Option Page). is_some o ≡ true) (λ same. refl) (λ other. is)
change_held (ranges t spans) end word x whole is = absurd (cc)
change_held (resize fork old new) end word x whole is = absurd (cc)

-- a block that has a page has one after entries that are whole pages
after_held : (es : List Entry) (word : ℕ) (x : Option Page) → AreImages es → is_some x ≡ true → is_some (page_after word es x) ≡ true
unfolding page_after
after_held [] word x images is = is
after_held (e ∷ es) word x images is = after_held es word (changed_page e.change (end_of e) word x) (λ k d at. images (suc k) d at) (change_held e.change (end_of e) word x (images 0 e refl) is)

shown : (o : Option Page) (was page : Page) → page ≡ unwrap_or o was → is_some o ≡ true → Some page ≡ o
shown None was page is held = absurd (cc)
shown (Some p) was page is held = ap (λ (q : Page). Some q) is

module _ {A : Type 0} where
  slice_there : (xs : List A) (i : ℕ) (x : A) → get_elem? xs i ≡ some x → slice_get xs i ≡ Some x
  slice_there [] i x at = absurd (some-ne-none x (sym at))
  slice_there (y ∷ xs) zero x at = ap (λ (z : A). Some z) (some-injective y x at)
  slice_there (y ∷ xs) (suc i) x at = slice_there xs i x at

-- ---- lanes after the redo of entries

-- by how many blocks a relation grows whose lanes hold blocks past its end
abbrev pub grows_by : ℕ → ℕ → List (Option Pages) → List (List ℕ) → ℕ
grows_by seg_blocks room lanes segments = last_held Main lanes room - length (relation_of seg_blocks segments)

-- its pages, once it has so many new ones
abbrev pub longer_of : ℕ → ℕ → List (List ℕ) → List Page
longer_of seg_blocks n segments = relation_of seg_blocks (extended seg_blocks (length (relation_of seg_blocks segments)) n segments)

-- What lanes hold of a relation of these pages after the redo of entries: a block has its page after them, unless it is marked, which is so of one block at most; and none is held that the lanes have no room for
pub record HoldsRedone (es : List Entry) (pages : List Page) (room : ℕ) (lanes : List (Option Pages)) (marks : List Marks) : Type 0 where
  pub page : (block : ℕ) → block < 2 ^ 32 - 1 → mark_in marks (tag_at Main block) ≡ false → page_in lanes (tag_at Main block) ≡ page_after (word_at block) es (slice_get pages block)
  pub none : (block : ℕ) → 2 ^ 32 - 1 ≤ block → page_in lanes (tag_at Main block) ≡ None
  pub one : (a b : ℕ) → mark_in marks (tag_at Main a) ≡ true → mark_in marks (tag_at Main b) ≡ true → a ≡ b
  pub within : (block : ℕ) → is_some (page_in lanes (tag_at Main block)) ≡ true → block < max room (length pages)

module _ (seg_blocks : ℕ) (segments : List (List ℕ)) (some_blocks : 1 ≤ seg_blocks) (es : List Entry) (valid : AreValid es) (images : AreImages es)
    (room : ℕ) (lanes : List (Option Pages)) (marks : List Marks) (h : HoldsRedone es (relation_of seg_blocks segments) room lanes marks) where
  abbrev pages : List Page
  pages = relation_of seg_blocks segments

  abbrev blocks : ℕ
  blocks = length (relation_of seg_blocks segments)

  -- where the last held block ends, and by how many the relation grows
  abbrev last : ℕ
  last = last_held Main lanes room

  abbrev more : ℕ
  more = grows_by seg_blocks room lanes segments

  abbrev longer : List Page
  longer = longer_of seg_blocks more segments

  few : (ss : List (List ℕ)) → length (relation_of seg_blocks ss) ≤ 2 ^ 32 - 1
  few ss = let counted = length-relation seg_blocks ss in omega arith

  held_named : (block : ℕ) → is_some (page_in lanes (tag_at Main block)) ≡ true → block < 2 ^ 32 - 1
  held_named block held = ⊎_elim
      (λ (low : block < 2 ^ 32 - 1). low)
      (λ (high : 2 ^ 32 - 1 ≤ block). absurd (both_ways (is_some (page_in lanes (tag_at Main block))) (ap (λ (o : Option Page). is_some o) (h.none block high)) held))
      (cases_lt block (2 ^ 32 - 1))

  last_named : 0 < last_held Main lanes room → last_held Main lanes room ≤ 2 ^ 32 - 1
  last_named reached = let low = held_named (last - 1) (held_last Main lanes room reached) in omega arith

  pub fits : length (relation_of seg_blocks segments) + grows_by seg_blocks room lanes segments ≤ 2 ^ 32 - 1
  fits = ⊎_elim
      (λ (grows : blocks < last). let low = last_named (omega arith) in omega arith)
      (λ (short : last ≤ blocks). let low = few segments in omega arith)
      (cases_lt blocks last)

  -- the first blocks are those that the relation had
  longer_at : (block : ℕ) → block < length (relation_of seg_blocks segments) → get_elem? longer block ≡ get_elem? pages block
  longer_at block low =
      sym (taken (blocks + more) block longer (omega arith))
      ∙ ap (λ (l : List Page). get_elem? l block) (has_new_pages seg_blocks more segments some_blocks fits)
      ∙ left_at pages (replicate more (replicate 8192 0)) block low

  -- a page that its lane has
  each_held : (block : ℕ) (was page : Page) (x : Option Page) → page ≡ unwrap_or (page_in lanes (tag_at Main block)) was → page_in lanes (tag_at Main block) ≡ x
      → is_some x ≡ true → Some page ≡ x
  each_held block was page x now is held = shown (page_in lanes (tag_at Main block)) was page now (ap (λ (o : Option Page). is_some o) is ∙ held) ∙ is

  each_at : (block : ℕ) (was page : Page) → block < 2 ^ 32 - 1 → get_elem? longer block ≡ some was → page ≡ unwrap_or (page_in lanes (tag_at Main block)) was
      → mark_in marks (tag_at Main block) ≡ false → Some page ≡ page_after (word_at block) es (Some was)
  each_at block was page low at now unmarked =
      let x = page_after (word_at block) es (Some was) in
      let held = after_held es (word_at block) (Some was) images refl in
      let is = h.page block low unmarked in
      ⊎_elim
      (λ (below : block < blocks). each_held block was page x now
      (is ∙ ap (λ (o : Option Page). page_after (word_at block) es o) (slice_there pages block was (sym (longer_at block below) ∙ at))) held)
      (λ (past : blocks ≤ block).
      let new = is ∙ ap (λ (o : Option Page). page_after (word_at block) es o) (slice_get_past pages block past) in
      ⊎_elim
      (λ (entered : IsEntered es (word_at block)). each_held block was page x now (new ∙ settled es images (word_at block) entered None (Some was)) held)
      (λ (none : (k : ℕ) (e : Entry) → IsEntryOf es (word_at block) k e → ⊥).
      let gone = new ∙ after_absent (word_at block) es None (images_of_pages es images) none in
      ap (λ (p : Page). Some p) (now ∙ ap (λ (o : Option Page). unwrap_or o was) gone) ∙ sym (after_absent (word_at block) es (Some was) (images_of_pages es images) none))
      (entry_or_none es (word_at block)))
      (cases_lt block blocks)

  -- each block of the relation has its page after the entries, unless it is marked
  pub each : (block : ℕ) (was page : Page) → get_elem? (longer_of seg_blocks (grows_by seg_blocks room lanes segments) segments) block ≡ some was
      → get_elem? (pages_in Main lanes 0 (longer_of seg_blocks (grows_by seg_blocks room lanes segments) segments)) block ≡ some page
      → mark_in marks (tag_at Main block) ≡ false → Some page ≡ page_after (word_at block) es (Some was)
  each block was page at now unmarked =
      let x = page_at Main lanes 0 longer block page now in
      let here : 0 + block ≡ block = omega arith in
      let in_longer = length_low longer block was at in
      let most = few (extended seg_blocks (length (relation_of seg_blocks segments)) more segments) in
      each_at block was page (omega arith) at
      (x.2 ∙ ap (λ (n : ℕ). unwrap_or (page_in lanes (tag_at Main n)) x.0) here ∙ ap (λ (p : Page). unwrap_or (page_in lanes (tag_at Main block)) p) (some-injective x.0 was (sym x.1 ∙ at)))
      unmarked

  -- a block with an entry is held, unless it is marked
  entered_held : (block : ℕ) → block < 2 ^ 32 - 1 → IsEntered es (word_at block) → mark_in marks (tag_at Main block) ≡ false → is_some (page_in lanes (tag_at Main block)) ≡ true
  entered_held block low entered unmarked =
      ap (λ (o : Option Page). is_some o) (h.page block low unmarked ∙ settled es images (word_at block) entered (slice_get pages block) (Some []))
      ∙ after_held es (word_at block) (Some []) images refl

  pub reaches : (block : ℕ) → block < 2 ^ 32 - 1 → IsEntered es (word_at block) → mark_in marks (tag_at Main block) ≡ false
      → block < length (relation_of seg_blocks segments) + grows_by seg_blocks room lanes segments
  reaches block low entered unmarked =
      let held = entered_held block low entered unmarked in
      let most = h.within block held in
      ⊎_elim
      (λ (below : block < blocks). omega arith)
      (λ (past : blocks ≤ block). let reached = held_reached Main lanes room block (omega arith) held in omega arith)
      (cases_lt block blocks)

  -- what is held past the relation's end has an entry
  held_entered : (block : ℕ) → length (relation_of seg_blocks segments) ≤ block → is_some (page_in lanes (tag_at Main block)) ≡ true → mark_in marks (tag_at Main block) ≡ false → IsEntered es (word_at block)
  held_entered block past held unmarked = ⊎_elim
      (λ (entered : IsEntered es (word_at block)). entered)
      (λ (none : (k : ℕ) (e : Entry) → IsEntryOf es (word_at block) k e → ⊥).
      let gone = h.page block (held_named block held) unmarked ∙ ap (λ (o : Option Page). page_after (word_at block) es o) (slice_get_past pages block past) ∙ after_absent (word_at block) es None (images_of_pages es images) none in
      absurd (both_ways (is_some (page_in lanes (tag_at Main block))) (ap (λ (o : Option Page). is_some o) gone) held))
      (entry_or_none es (word_at block))

  pub needed : 0 < grows_by seg_blocks room lanes segments → IsEntered es (word_at (length (relation_of seg_blocks segments) + grows_by seg_blocks room lanes segments - 1))
      ⊎ (mark_in marks (tag_at Main (length (relation_of seg_blocks segments) + grows_by seg_blocks room lanes segments - 1)) ≡ true)
  needed grows =
      let is : last - 1 ≡ blocks + more - 1 = omega arith in
      let held = subst (λ (n : ℕ). is_some (page_in lanes (tag_at Main n)) ≡ true) is (held_last Main lanes room (omega arith)) in
      either_way (mark_in marks (tag_at Main (blocks + more - 1)))
      (λ marked. inr marked)
      (λ unmarked. inl (held_entered (blocks + more - 1) (omega arith) held unmarked))

-- ---- from the redo of entries over lanes that were dealt a relation

none_entered : (es : List Entry) (tag : Tag) → ((k : ℕ) (e : Entry) → IsEntryOf es (packed_tag tag) k e → ⊥) → IsEnteredBlock es tag → ⊥
none_entered es tag none (named, (k, e, of)) = none k e of

unnamed : (block : ℕ) → 2 ^ 32 - 1 ≤ block → names_block (tag_at Main block) ≡ false
unnamed block high = grind arith

-- all lanes that pages are dealt to are known
pub lanes_known : (pages : List Page) (n : ℕ) → 1 ≤ n → (tag : Tag) → is_some (lane_at (dealt Main pages n) tag) ≡ true
lanes_known pages n some_lanes tag = ap (λ (o : Option Pages). is_some o) (dealt_at Main pages n tag some_lanes)

module _ (es : List Entry) (pages : List Page) (few : length pages ≤ 2 ^ 32 - 1) (n : ℕ) (some_lanes : 1 ≤ n) (lanes : List (Option Pages)) (marks₀ marks : List Marks)
    (unmarked₀ : (tag : Tag) → mark_in marks₀ tag ≡ false) where
  known : (tag : Tag) → is_some (lane_at (dealt Main pages n) tag) ≡ true
  known tag = lanes_known pages n some_lanes tag

  redone_page : (block : ℕ) → block < 2 ^ 32 - 1 → IsRedone es (dealt Main pages n) lanes marks₀ marks (tag_at Main block) → page_in lanes (tag_at Main block) ≡ page_after (word_at block) es (slice_get pages block)
  redone_page block low r = r.page (known (tag_at Main block)) (block_named block low) ∙ ap (λ (o : Option Page). page_after (word_at block) es o) (page_dealt Main pages n block some_lanes)

  redone_none : (block : ℕ) → 2 ^ 32 - 1 ≤ block → IsRedone es (dealt Main pages n) lanes marks₀ marks (tag_at Main block) → page_in lanes (tag_at Main block) ≡ None
  redone_none block high r = r.other (known (tag_at Main block)) (unnamed block high) ∙ page_dealt Main pages n block some_lanes ∙ slice_get_past pages block (omega arith)

  redone_unmarked : (tag : Tag) → IsRedone es (dealt Main pages n) lanes marks₀ marks tag → mark_in marks tag ≡ false
  redone_unmarked tag r = either_way (names_block tag)
      (λ named. ⊎_elim
      (λ (entered : IsEntered es (packed_tag tag)). r.written (known tag) (named, entered))
      (λ (none : (k : ℕ) (e : Entry) → IsEntryOf es (packed_tag tag) k e → ⊥). r.kept (known tag) (none_entered es tag none) ∙ unmarked₀ tag)
      (entry_or_none es (packed_tag tag)))
      (λ other. r.kept (known tag) (λ entered. both_ways (names_block tag) other entered.0) ∙ unmarked₀ tag)

  -- no block is marked after the redo
  pub none_marked : AreRedone es (dealt Main pages n) lanes marks₀ marks → (tag : Tag) → mark_in marks tag ≡ false
  none_marked redone tag = redone_unmarked tag (redone.each tag)

  pub hold_redone : (room : ℕ) → AreRedone es (dealt Main pages n) lanes marks₀ marks → ((block : ℕ) → is_some (page_in lanes (tag_at Main block)) ≡ true → block < max room (length pages))
      → HoldsRedone es pages room lanes marks
  hold_redone room redone within = record {
    page = λ block low unmarked. redone_page block low (redone.each (tag_at Main block));
    none = λ block high. redone_none block high (redone.each (tag_at Main block));
    one = λ a b marked also. absurd (both_ways (mark_in marks (tag_at Main a)) (none_marked redone (tag_at Main a)) marked);
    within = within;
  }

  module _ (torn : Tag) (named : names_block torn ≡ true) (redone : AreRedoneBut es (dealt Main pages n) lanes marks₀ marks torn) where
    -- a block that is marked is the one whose write failed
    pub marked_torn : (block : ℕ) → mark_in marks (tag_at Main block) ≡ true → tag_at Main block ≡ torn
    marked_torn block marked = either_way (tag_eq (tag_at Main block) torn)
        (λ same. same_tag (tag_at Main block) torn same)
        (λ other. absurd (both_ways (mark_in marks (tag_at Main block)) (redone_unmarked (tag_at Main block) (redone.each (tag_at Main block) other)) marked))

    unmarked_other : (block : ℕ) → mark_in marks (tag_at Main block) ≡ false → tag_eq (tag_at Main block) torn ≡ false
    unmarked_other block unmarked = either_way (tag_eq (tag_at Main block) torn)
        (λ same. absurd (both_ways (mark_in marks (tag_at Main block)) unmarked
        (ap (λ (t : Tag). mark_in marks t) (same_tag (tag_at Main block) torn same) ∙ redone.failed (known torn))))
        (λ other. other)

    high_other : (block : ℕ) → 2 ^ 32 - 1 ≤ block → tag_eq (tag_at Main block) torn ≡ false
    high_other block high = either_way (tag_eq (tag_at Main block) torn)
        (λ same. absurd (both_ways (names_block (tag_at Main block)) (unnamed block high) (ap (λ (t : Tag). names_block t) (same_tag (tag_at Main block) torn same) ∙ named)))
        (λ other. other)

    pub hold_part : (room : ℕ) → ((block : ℕ) → is_some (page_in lanes (tag_at Main block)) ≡ true → block < max room (length pages)) → HoldsRedone es pages room lanes marks
    hold_part room within = record {
      page = λ block low unmarked. redone_page block low (redone.each (tag_at Main block) (unmarked_other block unmarked));
      none = λ block high. redone_none block high (redone.each (tag_at Main block) (high_other block high));
      one = λ a b marked also. ap (λ (t : Tag). t.block) (marked_torn a marked ∙ sym (marked_torn b also));
      within = within;
    }

-- ---- the room of lanes, and their pages

module _ {L : Type 0} (contents : L → Option Pages) (rooms : L → Marks) (has_room : (lane : L) → IfSome (contents lane) (HasRoom (rooms lane))) where
  room_of : (o : Option Pages) (m : Marks) (tag : Tag) → IfSome o (HasRoom m) → is_some (option_and_then (λ (p : Pages). p tag) o) ≡ true → m tag ≡ true
  room_of None m tag has held = absurd (cc)
  room_of (Some of) m tag has held = has tag held

  held_room : (lanes : List L) (q : ℕ) (tag : Tag) → is_some (option_and_then (λ (p : Pages). p tag) (get_or (map contents lanes) q None)) ≡ true → get_or (map rooms lanes) q no_marks tag ≡ true
  held_room [] q tag held = absurd (cc)
  held_room (lane ∷ lanes) zero tag held = room_of (contents lane) (rooms lane) tag (has_room lane) held
  held_room (lane ∷ lanes) (suc q) tag held = held_room lanes q tag held

  room_within : (lanes : List L) (q most : ℕ) (tag : Tag) → All (λ lane. (t : Tag) → rooms lane t ≡ true → t.block < most) lanes → get_or (map rooms lanes) q no_marks tag ≡ true → tag.block < most
  room_within [] q most tag all is = absurd (cc)
  room_within (lane ∷ lanes) zero most tag all is = all 0 lane (omega arith) tag is
  room_within (lane ∷ lanes) (suc q) most tag all is = room_within lanes q most tag (λ k d below. all (suc k) d (omega arith)) is

  -- what lanes hold, whose room is as it was, lies in it
  pub held_within : (old new : List L) (most : ℕ) (tag : Tag) → map rooms new ≡ map rooms old → All (λ lane. (t : Tag) → rooms lane t ≡ true → t.block < most) old
      → is_some (page_in (map contents new) tag) ≡ true → tag.block < most
  held_within old new most tag same all held =
      let q = lane_number tag (length (map contents new)) in
      room_within old q most tag all (ap (λ (ms : List Marks). get_or ms q no_marks tag) (sym same) ∙ held_room new q tag held)

module _ {L : Type 0} (contents : L → Option Pages) (whole : (lane : L) → IfSome (contents lane) AreFullPages) where
  pub all_whole : (lanes : List L) → All (λ lane. IfSome lane AreFullPages) (map contents lanes)
  all_whole [] k d below = absurd (omega arith)
  all_whole (lane ∷ lanes) zero d below = whole lane
  all_whole (lane ∷ lanes) (suc k) d below = all_whole lanes k d (omega arith)
