-- A lane that goes out is what the state says of it, and so is one that comes back after a call.
use Rattle.std.proofs.Common.{◌≡◌, ℕ, zero, suc, Bool, true, false, Option, Some, None, List, [], ◌∷◌, map, sym, refl, ap, ◌∙◌, subst, arith, cond}
use Rattle.std.specs.Prelude.{is_some, unwrap_or, IsSomeAnd}
use Rattle.std.proofs.lemmas.Option.{same_Some}
use mathlib.Core.Option.{some, some-injective, some-ne-none}
use lib.ListN.{get_elem?}
use Rattle.atomic_table.proofs.Lists.{at_map}
use Rattle.grid.specs.Shape.{put}
use Rattle.grid.proofs.Lists.{put_at, put_else}
use Rattle.block_tag.specs.declared.tag.Tag.{Tag}
use Rattle.block_tag.specs.declared.catalogue.RelEntry.{RelEntry}
use Rattle.block_tag.specs.Names.{unpacked_tag, packed_tag, tag_eq}
use Rattle.segment_store.specs.Contents.{Pages, Marks, no_marks, with_page, with_mark, IsTorn}
use Rattle.pin_core.specs.State.{Page}
use Rattle.pin_core.specs.declared.view.BlockPage.{BlockPage}
use Rattle.pin_core.specs.declared.view.BlockMark.{BlockMark}
use Rattle.pin_core.specs.declared.view.LaneHold.{LaneHold}
use Rattle.history_core.specs.State.{Lane}
use Rattle.history_core.specs.Lanes.{IsBlockPage, CanTakeOut}
use Rattle.table_rule.specs.Shows.{Devices, IsLane, IsPlaced, KeepsOthers}
use Rattle.table_rule.specs.LaneCalls.{HoldsTheSame, TookPage, TorePage}
use Rattle.table_rule.specs.TakenLanes.{IsBlockOf, blocks_in_lane, page_named, mark_named, block_mark, block_page, page_held, block_pages, taken_lane, HoldsBlocks, lane_devices_of}
use Rattle.table_rule.proofs.Tags.{packed_is, unpacked_is}
use Rattle.table_rule.proofs.TakenBlocks.{block_listed, block_placed}

-- two tags are one where the test says so
same_tag : (a b : Tag) → tag_eq a b ≡ true → a ≡ b
same_tag a b e = grind arith

tag_itself : (a : Tag) → tag_eq a a ≡ true
tag_itself a = grind arith

-- what stands in a list that was mapped
pub map_at : {A B : Type 0} (f : A → B) (l : List A) (k : ℕ) (b : B) → get_elem? (map f l) k ≡ some b → (a : A) × (get_elem? l k ≡ some a) × (f a ≡ b)
map_at f [] k b e = absurd (some-ne-none b (sym e))
map_at f (x ∷ l) zero b e = (x, refl, some-injective (f x) b e)
map_at f (x ∷ l) (suc k) b e = map_at f l k b e

some_given : (x : Option Page) → is_some x ≡ true → x ≡ Some (unwrap_or x [])
some_given None h = absurd (let no : false ≡ true = h in cc)
some_given (Some p) h = refl

module _ {L G : Type 0} (d : Devices L G) (relations : List RelEntry) (lanes q : ℕ) where
  -- a placed number is that of a block of the lane
  placed_block : (word : ℕ) (tag : Tag) → IsPlaced relations lanes q word tag → IsBlockOf relations lanes q tag
  placed_block word tag h = record { named = (unpacked_is word tag h.named).0; listed = h.listed; placed = h.placed }

  pub block_number : (tag : Tag) → IsBlockOf relations lanes q tag → IsPlaced relations lanes q (packed_tag tag) tag
  block_number tag h = record { named = packed_is tag h.named; listed = h.listed; placed = h.placed }

module _ {L G : Type 0} (d : Devices L G) (relations : List RelEntry) (lanes q : ℕ)
    (opened : Option Pages) where
  pub holds_blocks : (l : L) (ln : Lane) → IsLane d relations lanes q opened l ln → HoldsBlocks (lane_devices_of d) relations lanes q l
  holds_blocks l ln is tag block known told = is.held known (packed_tag tag) tag told (block_number d relations lanes q tag block)

  pub can_go_out : (l : L) (ln : Lane) (h : LaneHold) → IsLane d relations lanes q opened l ln → h.held ≡ true → h.out ≡ None → CanTakeOut (taken_lane (lane_devices_of d) relations lanes q l) ln h
  can_go_out l ln h is held home = record { held = held; home = home; reads = sym is.reads; writes = sym is.writes; pages = λ blocks k b told at. of_contents (d.contents l) refl blocks k b told at; marks = of_mark }
    where
      of_mark : (k : ℕ) (m : BlockMark) → get_elem? (map (block_mark (d.unsynced l)) (blocks_in_lane relations lanes q)) k ≡ some m → ln.unsynced m.tag ≡ m.unsynced
      of_mark k m at = let found = map_at (block_mark (d.unsynced l)) (blocks_in_lane relations lanes q) k m at in let placed = block_placed relations lanes q k found.0 found.1 in
          subst (λ (x : BlockMark). ln.unsynced x.tag ≡ x.unsynced) found.2 (is.unsynced found.0 placed.0 placed.1 ∙ sym (ap (mark_named (d.unsynced l)) placed.1.named))

      of_block : (known : Pages) (word : ℕ) (tag : Tag) → d.contents l ≡ Some known → IsPlaced relations lanes q word tag → IsBlockPage ln (block_page known (d.failed_writes l) word)
      of_block known word tag told placed = record {
        stored = sym (is.pages known word tag told placed) ∙ some_given (known tag) (is.held known word tag told placed) ∙ ap (λ (p : Page). Some p) (sym (ap (page_named known) placed.named));
        failed = is.failed known word tag told placed ∙ sym (ap (mark_named (d.failed_writes l)) placed.named);
      }

      of_contents : (c : Option Pages) → d.contents l ≡ c → (blocks : List BlockPage) (k : ℕ) (b : BlockPage) → block_pages (blocks_in_lane relations lanes q) c (d.failed_writes l) ≡ Some blocks → get_elem? blocks k ≡ some b → IsBlockPage ln b
      of_contents None e blocks k b told at = absurd (let no : None ≡ Some blocks = told in cc)
      of_contents (Some known) e blocks k b told at = let found = map_at (block_page known (d.failed_writes l)) (blocks_in_lane relations lanes q) k b (ap (λ (l : List BlockPage). get_elem? l k) (same_Some _ _ told) ∙ at) in
          let placed = block_placed relations lanes q k found.0 found.1 in subst (IsBlockPage ln) found.2 (of_block known found.0 placed.0 e placed.1)

  -- the state has the lane as it was, where its blocks and its counts are what was noted as it went out
  pub still_is : (l : L) (ln : Lane) → HoldsBlocks (lane_devices_of d) relations lanes q l → ln.known ≡ is_some (d.contents l) → ln.read_faults ≡ d.read_faults l → ln.write_faults ≡ d.write_faults l
      → ((blocks : List BlockPage) (k : ℕ) (b : BlockPage) → (taken_lane (lane_devices_of d) relations lanes q l).pages ≡ Some blocks → get_elem? blocks k ≡ some b → IsBlockPage ln b)
      → ((k : ℕ) (m : BlockMark) → get_elem? (taken_lane (lane_devices_of d) relations lanes q l).marks k ≡ some m → ln.unsynced m.tag ≡ m.unsynced) → KeepsOthers relations lanes q opened (d.contents l) → IsLane d relations lanes q opened l ln
  still_is l ln holds known reads writes blocks marks others = record {
    known = known;
    pages = λ pages word tag told placed. let b = of_block pages word tag told placed in
        some_given (pages tag) (holds tag (placed_block d relations lanes q word tag placed) pages told) ∙ ap (λ (p : Page). Some p) (sym (ap (page_named pages) placed.named)) ∙ sym b.stored;
    held = λ pages word tag told placed. holds tag (placed_block d relations lanes q word tag placed) pages told;
    failed = λ pages word tag told placed. let b = of_block pages word tag told placed in b.failed ∙ ap (mark_named (d.failed_writes l)) placed.named;
    others = others;
    unsynced = λ word tag placed. let listed = block_listed relations lanes q word tag placed in marks listed.0 (block_mark (d.unsynced l) word) (at_map (block_mark (d.unsynced l)) (blocks_in_lane relations lanes q) listed.0 word listed.1) ∙ ap (mark_named (d.unsynced l)) placed.named;
    reads = reads;
    writes = writes;
  }
    where
      of_block : (pages : Pages) (word : ℕ) (tag : Tag) → d.contents l ≡ Some pages → IsPlaced relations lanes q word tag → IsBlockPage ln (block_page pages (d.failed_writes l) word)
      of_block pages word tag told placed = let listed = block_listed relations lanes q word tag placed in
          blocks (map (block_page pages (d.failed_writes l)) (blocks_in_lane relations lanes q)) listed.0 (block_page pages (d.failed_writes l) word) (ap (λ (c : Option Pages). block_pages (blocks_in_lane relations lanes q) c (d.failed_writes l)) told) (at_map (block_page pages (d.failed_writes l)) (blocks_in_lane relations lanes q) listed.0 word listed.1)

  -- what is put at a tag stands at its number
  at_word : {A : Type 0} (tag : Tag) (block : IsBlockOf relations lanes q tag) (g : ℕ → A) (x : A) (r : Tag → A) (word : ℕ) (other : Tag) → IsPlaced relations lanes q word other → r other ≡ g word → cond (tag_eq other tag) x (r other) ≡ put g (packed_tag tag) x word
  at_word tag block g x r word other placed e = by_test (tag_eq other tag) refl
    where
      by_test : (b : Bool) → tag_eq other tag ≡ b → cond b x (r other) ≡ put g (packed_tag tag) x word
      by_test true t = sym (put_at g (packed_tag tag) x word (sym (unpacked_is word other placed.named).1 ∙ ap packed_tag (same_tag other tag t)))
      by_test false t = e ∙ sym (put_else g (packed_tag tag) x word (λ w. let both : Some other ≡ Some tag = sym placed.named ∙ ap unpacked_tag w ∙ packed_is tag block.named in let no : true ≡ false = sym (tag_itself other) ∙ ap (tag_eq other) (same_Some other tag both) ∙ t in absurd (cc)))

  -- the lane has the marks of the device
  abbrev HasMarks : L → Lane → Type 0
  HasMarks l ln = (word : ℕ) (tag : Tag) → IsPlaced relations lanes q word tag → ln.unsynced word ≡ d.unsynced l tag

  module _ (before after : L) (ln ln' : Lane) (is : IsLane d relations lanes q opened before ln) where
    pub marks_kept : d.unsynced after ≡ d.unsynced before → ln'.unsynced ≡ ln.unsynced → HasMarks after ln'
    marks_kept same marks = λ word tag placed. ap (λ (g : ℕ → Bool). g word) marks ∙ is.unsynced word tag placed ∙ ap (λ (m : Marks). m tag) (sym same)

    pub marks_added : (tag : Tag) → IsBlockOf relations lanes q tag → d.unsynced after ≡ with_mark tag true (d.unsynced before) → ln'.unsynced ≡ put ln.unsynced (packed_tag tag) true → HasMarks after ln'
    marks_added tag block added marks = λ word other placed. ap (λ (g : ℕ → Bool). g word) marks ∙ sym (at_word tag block ln.unsynced true (d.unsynced before) word other placed (sym (is.unsynced word other placed))) ∙ ap (λ (m : Marks). m other) (sym added)

    pub marks_gone : d.unsynced after ≡ no_marks → ln'.unsynced ≡ (λ (word : ℕ). false) → HasMarks after ln'
    marks_gone none marks = λ word tag placed. ap (λ (g : ℕ → Bool). g word) marks ∙ ap (λ (m : Marks). m tag) (sym none)

  module _ (before after : L) (ln ln' : Lane) (is : IsLane d relations lanes q opened before ln) (known : ln'.known ≡ ln.known) (reads : ln'.read_faults ≡ d.read_faults after) (writes : ln'.write_faults ≡ d.write_faults after) (unsynced : HasMarks after ln') where
    -- after a call that leaves the blocks
    pub kept_lane : HoldsTheSame (lane_devices_of d) before after → ln'.stored ≡ ln.stored → ln'.failed ≡ ln.failed → IsLane d relations lanes q opened after ln'
    kept_lane same stored failed = record {
      known = known ∙ is.known ∙ ap (λ (c : Option Pages). is_some c) (sym same.contents);
      pages = λ pages word tag told placed. is.pages pages word tag (sym same.contents ∙ told) placed ∙ ap (λ (g : ℕ → Option Page). g word) (sym stored);
      held = λ pages word tag told placed. is.held pages word tag (sym same.contents ∙ told) placed;
      failed = λ pages word tag told placed. ap (λ (g : ℕ → Bool). g word) failed ∙ is.failed pages word tag (sym same.contents ∙ told) placed ∙ ap (λ (m : Marks). m tag) (sym same.failed);
      unsynced = unsynced;
      others = λ pages tag told unplaced. is.others pages tag (sym same.contents ∙ told) unplaced;
      reads = reads;
      writes = writes;
    }

    -- after a call that put a page at the tag, and marked it or not
    written_lane : (tag : Tag) (page : Page) (mark : Bool) → IsBlockOf relations lanes q tag → (d.contents before ≡ None → d.contents after ≡ None) → ((pages : Pages) → d.contents before ≡ Some pages → (d.contents after ≡ Some (with_page tag page pages)) × (d.failed_writes after ≡ with_mark tag mark (d.failed_writes before)))
        → ln'.stored ≡ put ln.stored (packed_tag tag) (Some page) → ln'.failed ≡ put ln.failed (packed_tag tag) mark → IsLane d relations lanes q opened after ln'
    written_lane tag page mark block unknown told_after stored failed = of_contents (d.contents before) refl
      where
        of_contents : (c : Option Pages) → d.contents before ≡ c → IsLane d relations lanes q opened after ln'
        of_contents None e = record {
          known = known ∙ is.known ∙ ap (λ (c : Option Pages). is_some c) (e ∙ sym (unknown e));
          pages = λ pages word other told placed. absurd (let no : None ≡ Some pages = sym (unknown e) ∙ told in cc);
          held = λ pages word other told placed. absurd (let no : None ≡ Some pages = sym (unknown e) ∙ told in cc);
          failed = λ pages word other told placed. absurd (let no : None ≡ Some pages = sym (unknown e) ∙ told in cc);
          unsynced = unsynced;
          others = λ pages other told unplaced. absurd (let no : None ≡ Some pages = sym (unknown e) ∙ told in cc);
          reads = reads;
          writes = writes;
        }
        of_contents (Some pages) e = let now = told_after pages e in record {
          known = known ∙ is.known ∙ ap (λ (c : Option Pages). is_some c) e ∙ ap (λ (c : Option Pages). is_some c) (sym now.0);
          pages = λ given word other told placed. ap (λ (m : Pages). m other) (same_Some given (with_page tag page pages) (sym told ∙ now.0))
              ∙ at_word tag block ln.stored (Some page) pages word other placed (is.pages pages word other e placed) ∙ ap (λ (g : ℕ → Option Page). g word) (sym stored);
          held = λ given word other told placed. ap (λ (m : Pages). is_some (m other)) (same_Some given (with_page tag page pages) (sym told ∙ now.0)) ∙ by_flag (tag_eq other tag) (pages other) (is.held pages word other e placed);
          failed = λ given word other told placed. ap (λ (g : ℕ → Bool). g word) failed ∙ sym (at_word tag block ln.failed mark (d.failed_writes before) word other placed (sym (is.failed pages word other e placed))) ∙ ap (λ (m : Marks). m other) (sym now.1);
          unsynced = unsynced;
          others = λ given other told unplaced.
              subst (λ (p : Option Page). IsSomeAnd opened (λ (was : Pages). p ≡ was other))
              (sym (ap (λ (m : Pages). m other)
              (same_Some given (with_page tag page pages) (sym told ∙ now.0))
              ∙ by_tag other unplaced (tag_eq other tag) refl)) (is.others pages other e unplaced);
          reads = reads;
          writes = writes;
        }
          where
            -- the page was put at another tag
            by_tag : (other : Tag) → ((word : ℕ) → IsPlaced relations lanes q word other → ⊥)
                → (b : Bool) → tag_eq other tag ≡ b → cond b (Some page) (pages other) ≡ pages other
            by_tag other unplaced true t = absurd
                (unplaced (packed_tag tag) (subst (IsPlaced relations lanes q (packed_tag tag))
                (sym (same_tag other tag t)) (block_number d relations lanes q tag block)))
            by_tag other unplaced false t = refl

            by_flag : (b : Bool) (o : Option Page) → is_some o ≡ true → is_some (cond b (Some page) o) ≡ true
            by_flag true o h = refl
            by_flag false o h = h

    pub took_page : (tag : Tag) (page : Page) → IsBlockOf relations lanes q tag → TookPage (lane_devices_of d) tag page before after → ln'.stored ≡ put ln.stored (packed_tag tag) (Some page) → ln'.failed ≡ put ln.failed (packed_tag tag) false → IsLane d relations lanes q opened after ln'
    took_page tag page block took stored failed = written_lane tag page false block took.unknown (λ pages told. (took.pages pages told, took.failed pages told)) stored failed

    pub tore_page : (tag : Tag) (page : Page) → IsBlockOf relations lanes q tag → TorePage (lane_devices_of d) tag before after → ln'.stored ≡ put ln.stored (packed_tag tag) (Some (page_held (d.contents after) tag page)) → ln'.failed ≡ put ln.failed (packed_tag tag) true → IsLane d relations lanes q opened after ln'
    tore_page tag page block tore stored failed = written_lane tag (page_held (d.contents after) tag page) true block tore.unknown (λ pages told. (of_after pages (d.contents after) (tore.pages pages told), tore.failed pages told)) stored failed
      where
        of_after : (pages : Pages) (c : Option Pages) → IsSomeAnd c (IsTorn tag pages) → c ≡ Some (with_page tag (page_held c tag page) pages)
        of_after pages None torn = absurd torn
        of_after pages (Some now) torn = ap (λ (m : Pages). Some m) (torn.is ∙ ap (λ (p : Page). with_page tag p pages) (sym (ap (λ (m : Pages). unwrap_or (m tag) page) torn.is ∙ ap (λ (b : Bool). unwrap_or (cond b (Some torn.left) (pages tag)) page) (tag_itself tag))))
