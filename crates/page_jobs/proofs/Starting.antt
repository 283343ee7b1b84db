-- A manager of one relation is started, and its relation's pages are those that the lanes had.
use Rattle.std.proofs.Common.{◌≡◌, ℕ, zero, suc, ◌<◌, true, List, [], ◌∷◌, length, get_or, map, nat_lt, Option, Some, None, refl, sym, ap, ◌∙◌, subst, arith}
use Rattle.std.specs.Prelude.{All, IsSome, IsSomeAnd, replicate, slice_index, slice_set}
use Rattle.std.specs.Option.{ForSome}
use Rattle.std.proofs.lemmas.List.{length-map}
use Rattle.block_tag.specs.declared.catalogue.RelEntry.{RelEntry}
use Rattle.block_tag.specs.declared.tag.Fork.{Fork}
use Rattle.block_tag.specs.declared.tag.Fork.TheVariants.{Main, Fsm, Vm, Init}
use Rattle.block_tag.specs.declared.tag.Tag.{Tag}
use Rattle.block_tag.specs.Catalogue.{blocks_at}
use Rattle.block_tag.specs.Names.{fork_number, lane_number, tag_of_parts}
use Rattle.segment_store.specs.Contents.{Marks, Pages, no_marks}
use Rattle.segment_store.specs.Lanes.{HasBlocks, HoldPages, tag_at}
use Rattle.pin_core.specs.State.{Page}
use Rattle.table_rule.specs.Shows.{AreLanes, Devices}
use Rattle.frame_table.specs.Seats.{lanes_in, opened_of, relations_of}
use Rattle.backend_pass.specs.declared.manager.Manager.{Manager}
use Rattle.page_jobs.specs.Jobs.{IsOrigin}
use Rattle.page_jobs.specs.Relations.{IsCatalogOf}
use Rattle.table_rule.proofs.Opens.{length_low}
use Rattle.backend_pass.proofs.Standing.{found, mapped_or, standing_or, all_at}

module _ {L G : Type 0} (d : Devices L G) (fork : Fork) (blocks : ℕ) (catalog : List RelEntry) (one : IsCatalogOf fork blocks catalog) (lanes : List L)
    (unmarked : All (λ lane. d.failed_writes lane ≡ no_marks) lanes) (has : HasBlocks fork blocks (map d.contents lanes)) where
  pub are_lanes : AreLanes d catalog lanes
  are_lanes = record {
    held = λ q l known word tag at is placed.
        let tag_is = one.alone tag placed.listed in
        (subst (λ (x : Option Pages). ForSome x (λ pages. IsSome (pages tag))) (mapped_or d.contents lanes q l None at)
        (subst (λ (k : ℕ). ForSome (get_or (map d.contents lanes) k None) (λ pages. IsSome (pages tag))) (ap (lane_number tag) (length-map lanes d.contents) ∙ placed.placed)
        (subst (λ (t : Tag). ForSome (get_or (map d.contents lanes) (lane_number t (length (map d.contents lanes))) None) (λ pages. IsSome (pages t))) (sym tag_is)
        (has tag.block (below tag.block (blocks_at catalog tag.rel.0 tag.fork) placed.listed (ap (λ (t : Tag). blocks_at catalog t.rel.0 t.fork) tag_is ∙ one.counted)))))) known is;
    unfailed = λ q l known word tag at is placed. ap (λ (marks : Marks). marks tag) (all_at (λ lane. d.failed_writes lane ≡ no_marks) lanes q l unmarked at);
  }
    where
      below : (block count : ℕ) → nat_lt block count ≡ true → count ≡ blocks → block < blocks
      below block count listed is = grind arith

module _ {L G : Type 0} (contents : L → Option Pages) (m : Manager L G) (fork : Fork) (blocks : ℕ) (one : IsCatalogOf fork blocks (relations_of m.table))
    (counted : length (opened_of m.table) ≡ lanes_in m.table) where
  pub is_origin : (pages : List Page) → HoldPages fork pages (map contents (opened_of m.table)) → blocks ≡ length pages → IsOrigin contents m 0 fork pages
  is_origin pages held all = record {
    counted = sym all ∙ sym one.counted;
    each = λ block page at.
        let tag = tag_at fork block in
        let q = lane_number tag (lanes_in m.table) in
        let wide : length (map contents (opened_of m.table)) ≡ lanes_in m.table = length-map (opened_of m.table) contents ∙ counted in
        let has : IsSomeAnd (get_or (map contents (opened_of m.table)) q None) (λ known. known tag ≡ Some page) =
        subst (λ (p : Page). IsSomeAnd (get_or (map contents (opened_of m.table)) q None) (λ known. known tag ≡ Some p)) (standing_or pages block page [] at)
        (subst (λ (k : ℕ). IsSomeAnd (get_or (map contents (opened_of m.table)) (lane_number tag k) None) (λ known. known tag ≡ Some (get_or pages block []))) wide (held block (length_low pages block page at))) in
        let f = found contents (λ known. known tag ≡ Some page) (opened_of m.table) q has in
        record { lane = f.0; opened = f.1; pages = f.2.0; known = f.2.1; is = f.2.2 };
  }

-- the other forks of the one relation have no blocks, and there is no other relation
other_fork : (f g : Fork) (blocks : ℕ) (block : ℕ) → nat_lt block (slice_index (slice_set (replicate 4 0) (fork_number f) blocks) (fork_number g)) ≡ true → g ≡ f
other_fork Main Main blocks block h = refl
other_fork Fsm Fsm blocks block h = refl
other_fork Vm Vm blocks block h = refl
other_fork Init Init blocks block h = refl
other_fork Main Fsm blocks block h = absurd (grind arith)
other_fork Main Vm blocks block h = absurd (grind arith)
other_fork Main Init blocks block h = absurd (grind arith)
other_fork Fsm Main blocks block h = absurd (grind arith)
other_fork Fsm Vm blocks block h = absurd (grind arith)
other_fork Fsm Init blocks block h = absurd (grind arith)
other_fork Vm Main blocks block h = absurd (grind arith)
other_fork Vm Fsm blocks block h = absurd (grind arith)
other_fork Vm Init blocks block h = absurd (grind arith)
other_fork Init Main blocks block h = absurd (grind arith)
other_fork Init Fsm blocks block h = absurd (grind arith)
other_fork Init Vm blocks block h = absurd (grind arith)

own_blocks : (f : Fork) (blocks : ℕ) → slice_index (slice_set (replicate 4 0) (fork_number f) blocks) (fork_number f) ≡ blocks
own_blocks Main blocks = refl
own_blocks Fsm blocks = refl
own_blocks Vm blocks = refl
own_blocks Init blocks = refl

one_relation : (e : RelEntry) (rel block : ℕ) (f : Fork) → nat_lt block (blocks_at (e ∷ []) rel f) ≡ true → (rel ≡ 0) × (nat_lt block (slice_index e.blocks (fork_number f)) ≡ true)
one_relation e zero block f h = (refl, h)
one_relation e (suc rel) block f h = absurd (grind arith)

-- a catalogue of one relation, one fork of which has blocks
pub one_catalog : (fork : Fork) (blocks : ℕ) (e : RelEntry) → e.blocks ≡ slice_set (replicate 4 0) (fork_number fork) blocks → IsCatalogOf fork blocks (e ∷ [])
one_catalog fork blocks e is = record {
  counted = ap (λ (l : List ℕ). slice_index l (fork_number fork)) is ∙ own_blocks fork blocks;
  alone = λ tag h.
      let t = one_relation e tag.rel.0 tag.block tag.fork h in
      let f = other_fork fork tag.fork blocks tag.block (subst (λ (l : List ℕ). nat_lt tag.block (slice_index l (fork_number tag.fork)) ≡ true) is t.1) in
      λ k. tag_of_parts (t.0 k) (f k) tag.block;
}
