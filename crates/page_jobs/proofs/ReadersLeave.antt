-- Readers leave the lanes as they were: where nothing was written and nothing put, a lane that is given back holds what it held as the manager was started.
use Rattle.std.proofs.Common.{◌≡◌, ℕ, ◌-◌, ◌<◌, ◌^◌, ◌&&◌, true, false, List, [], length, map, get_or, nat_lt, Option, Some, None, refl, sym, ap, ◌∙◌, subst, arith}
use Rattle.std.specs.Prelude.{IsSomeAnd, is_some}
use Rattle.std.proofs.lemmas.List.{length-map}
use mathlib.Core.Option.{some}
use lib.ListN.{get_elem?}
use Rattle.block_tag.specs.declared.tag.Fork.{Fork}
use Rattle.block_tag.specs.declared.tag.Tag.{Tag}
use Rattle.block_tag.specs.Names.{lane_number, packed_tag}
use Rattle.segment_store.specs.Contents.{Marks, Pages, no_marks}
use Rattle.segment_store.specs.Lanes.{HoldPages, mark_in, tag_at}
use Rattle.pin_core.specs.State.{Page}
use Rattle.pin_core.specs.State.{is_block as is_there}
use Rattle.history_core.specs.Log.{Entry, page_after, cell, cut}
use Rattle.history_core.specs.State.{State, stored, stored_upto}
use Rattle.history_core.specs.Laws.{Laws}
use Rattle.history_core.proofs.Stepping.{lane_cell}
use Rattle.frame_table.proofs.Listed.{listed_there}
use Rattle.table_rule.specs.Blocks.{has_named, is_block}
use Rattle.table_rule.specs.declared.opening.Opening.{Opening}
use Rattle.table_rule.specs.Layout.{lane_of_tag}
use Rattle.table_rule.specs.Shows.{Devices, IsPlaced, KeepsOpening}
use Rattle.table_rule.specs.TakenLanes.{IsBlockOf}
use Rattle.table_rule.proofs.Tags.{packed_is}
use Rattle.backend_pass.specs.Passes.{PassState}
use Rattle.backend_pass.specs.Closing.{ClosesAll, NothingPut, NothingWritten}
use Rattle.page_jobs.specs.Relations.{IsCatalogOf}
use Rattle.table_rule.proofs.Opens.{length_low, there_at}
use Rattle.backend_pass.proofs.Standing.{found, found_there, mapped_or}

pub some_of : (x : Option Pages) → is_some x ≡ true → (p : Pages) × (x ≡ Some p)
some_of None e = absurd (let no : false ≡ true = e in cc)
some_of (Some p) e = (p, refl)

-- a block of the catalogue is there
pub placed_there : {L G : Type 0} (d : Devices L G) (o : Opening L G) (s : State) → KeepsOpening d o s → Laws s → (n q word : ℕ) (tag : Tag) → IsPlaced o.catalog.value n q word tag → is_there s.pool.core word ≡ true
unfolding is_block
placed_there d o s kept laws n q word tag placed = listed_there d o s kept laws word ∙ ap (has_named o.catalog.value) placed.named ∙ placed.listed

-- What a lane has of a block: this page, and no write that failed
pub record LaneHasBlock {L G : Type 0} (d : Devices L G) (tag : Tag) (page : Page) (l : L) : Type 0 where
  pub pages : Pages
  pub known : d.contents l ≡ Some pages
  pub page_is : pages tag ≡ Some page
  pub unfailed : d.failed_writes l tag ≡ false

module _ {L G : Type 0} (d : Devices L G) (o : Opening L G) (ps : List PassState) (lanes : List L) (log : G) (c : ClosesAll d o ps lanes log) (w : NothingWritten c.state ps) (n : NothingPut c.state ps) where
  -- the page of a block is the one that its lane held at first
  stays : (word : ℕ) → is_there c.state.pool.core word ≡ true → c.state.known word ≡ true → stored c.state word ≡ c.state.origin word
  unfolding page_after cut
  stays word block known = lane_cell c.state c.laws.invariant word block known (w.unfailed word)
      ∙ ap (λ (es : List Entry). cell c.state.origin (cut (stored_upto c.state word) es) word) n.entries

  pub block_left : (q : ℕ) (l l' : L) (tag : Tag) (pages : Pages) (page : Page) → IsBlockOf o.catalog.value o.config.lanes q tag → get_elem? o.lanes.value.items q ≡ some l
      → d.contents l ≡ Some pages → pages tag ≡ Some page → get_elem? lanes q ≡ some l' → LaneHasBlock d tag page l'
  block_left q l l' tag pages page block at known is at' =
      let word = packed_tag tag in
      let placed : IsPlaced o.catalog.value o.config.lanes q word tag = record { named = packed_is tag block.named; listed = block.listed; placed = block.placed } in
      let lane_is : c.state.lane_of word ≡ q = ap (λ (f : ℕ → ℕ). f word) c.opened.lane_of ∙ ap (lane_of_tag o.config.lanes) placed.named ∙ placed.placed in
      let told : c.state.known word ≡ true = c.opened.known q l word at (ap (lane_of_tag o.config.lanes) placed.named ∙ placed.placed) ∙ ap (λ (x : Option Pages). is_some x) known in
      let given = c.lane q l' at' in
      let lies : IsPlaced o.catalog.value c.state.lanes q word tag = subst (λ (k : ℕ). IsPlaced o.catalog.value k q word tag) (sym c.opened.lanes) placed in
      let known' = some_of (d.contents l') (sym given.known ∙ ap (λ (p : ℕ). (c.state.lane p).known) (sym lane_is) ∙ c.laws.invariant.known word ∙ told) in
      record {
        pages = known'.0;
        known = known'.1;
        page_is = given.pages known'.0 word tag known'.1 lies
            ∙ ap (λ (p : ℕ). (c.state.lane p).stored word) (sym lane_is)
            ∙ stays word (placed_there d o c.state c.opened c.laws o.config.lanes q word tag placed) told
            ∙ sym (c.opened.origin q l pages word tag at known placed)
            ∙ is;
        unfailed = sym (given.failed known'.0 word tag known'.1 lies) ∙ ap (λ (p : ℕ). (c.state.lane p).failed word) (sym lane_is) ∙ w.unfailed word;
      }

  module _ (fork : Fork) (blocks : ℕ) (one : IsCatalogOf fork blocks o.catalog.value) (few : blocks < 2 ^ 32) (counted : length o.lanes.value.items ≡ o.config.lanes)
      (pages : List Page) (held : HoldPages fork pages (map d.contents o.lanes.value.items)) (all : blocks ≡ length pages) where
    -- the lane of a block of the relation has its page still
    lane_left : (block : ℕ) → block < length pages
        → (l : L) × (get_elem? lanes (lane_number (tag_at fork block) o.config.lanes) ≡ some l) × LaneHasBlock d (tag_at fork block) (get_or pages block []) l
    lane_left block below =
        let tag = tag_at fork block in
        let q = lane_number tag o.config.lanes in
        let page = get_or pages block [] in
        let wide : length (map d.contents o.lanes.value.items) ≡ o.config.lanes = length-map o.lanes.value.items d.contents ∙ counted in
        let has : IsSomeAnd (get_or (map d.contents o.lanes.value.items) q None) (λ known. known tag ≡ Some page) =
        subst (λ (k : ℕ). IsSomeAnd (get_or (map d.contents o.lanes.value.items) (lane_number tag k) None) (λ known. known tag ≡ Some page)) wide (held block below) in
        let f = found d.contents (λ known. known tag ≡ Some page) o.lanes.value.items q has in
        let i = length_low o.lanes.value.items q f.0 f.1 in
        let same = c.counted in
        let l = there_at lanes q (omega arith) in
        let of : IsBlockOf o.catalog.value o.config.lanes q tag = record {
          named = named block (omega arith);
          listed = ap (nat_lt block) one.counted ∙ listed block blocks (omega arith);
          placed = refl;
        } in
        (l.0, l.1, block_left q f.0 l.0 tag f.2.0 page of f.1 f.2.1 f.2.2 l.1)
      where
        named : (b : ℕ) → b < 2 ^ 32 - 1 → nat_lt 0 1024 && nat_lt b (2 ^ 32 - 1) ≡ true
        named b low = grind arith

        listed : (b n : ℕ) → b < n → nat_lt b n ≡ true
        listed b n low = grind arith

    wide_left : {B : Type 0} (f : L → B) → length (map f lanes) ≡ o.config.lanes
    wide_left f = length-map lanes f ∙ c.counted

    pub pages_left : HoldPages fork pages (map d.contents lanes)
    pages_left block below =
        let tag = tag_at fork block in
        let page = get_or pages block [] in
        let left = lane_left block below in
        subst (λ (k : ℕ). IsSomeAnd (get_or (map d.contents lanes) (lane_number tag k) None) (λ known. known tag ≡ Some page)) (sym (wide_left d.contents))
        (found_there d.contents (λ known. known tag ≡ Some page) lanes (lane_number tag o.config.lanes) left.0 left.2.pages left.1 left.2.known left.2.page_is)

    pub unfailed_left : (block : ℕ) → block < blocks → mark_in (map d.failed_writes lanes) (tag_at fork block) ≡ false
    unfailed_left block below =
        let tag = tag_at fork block in
        let left = lane_left block (omega arith) in
        ap (λ (k : ℕ). get_or (map d.failed_writes lanes) (lane_number tag k) no_marks tag) (wide_left d.failed_writes)
        ∙ ap (λ (m : Marks). m tag) (mapped_or d.failed_writes lanes (lane_number tag o.config.lanes) left.0 no_marks left.1)
        ∙ left.2.unfailed
